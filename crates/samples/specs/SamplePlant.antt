-- A plant of two things, p and q. Link feature 1 leads from p to q; q has -90 at value feature 128; name 1 is {q}; all else is
-- empty. Every value feature has the one kind of Tenths.
use Rattle.std.specs.Prelude.{◌≡◌, ℕ, true, false, cond, ◌&&◌, List, [], ◌∷◌, replicate, negsuc, Some, None, filter, ◌==◌}
use Rattle.std.specs.List.{range_with_len}
use Rattle.domain.specs.declared.predicate.Predicate.{Predicate}
use Rattle.tenths.specs.Tenths.{tenths}
use Rattle.concept.specs.Concepts.{Concept, formed}
use Rattle.concept.specs.Concepts.Concept.{atom, neg, conj, disj, some, all, lacks, holds, meets, parts}
use Rattle.concept.specs.Plants.{Plant, Proper, inside}
use Rattle.concept.specs.Normal.{normal, nodes}

abbrev pub p : ℕ
p = 0

abbrev pub q : ℕ
q = 1

abbrev pub sample : Plant
sample = record {
  count = 2;
  named = λ n x. (n == 1) && (x == q);
  joined = λ r x y. false;
  linked = λ f x. cond (f == 1 && x == p) (Some q) None;
  valued = λ g x. cond (g == 128 && x == q) (Some (negsuc 89)) None;
  stands = λ o. p;
}

abbrev pub sample_kinds : List ℕ
sample_kinds = replicate 128 0

-- the things of the plant that lie in a concept
abbrev pub things_in : Concept → List ℕ
things_in c = filter (inside tenths sample c) (range_with_len 0 2)

-- at most -90; above -90
abbrev pub cold : Predicate
cold = record { kind = 0; form = 1; constant = negsuc 89 }

abbrev pub warm : Predicate
warm = record { kind = 0; form = 2; constant = negsuc 89 }

-- the link feature 1 and then the value feature 128; the value feature alone; the link feature alone
abbrev pub far : List ℕ
far = 1 ∷ (128 ∷ [])

abbrev pub near : List ℕ
near = 128 ∷ []

abbrev pub step : List ℕ
step = 1 ∷ []

pub record SampleTable : Type 0 where
  pub proper : Proper tenths sample_kinds sample
  pub far_cold : things_in (holds cold far []) ≡ p ∷ []
  -- a probe that isn't there is not cold
  pub not_cold : things_in (neg (holds cold near [])) ≡ p ∷ []
  -- and it is not warm either
  pub near_warm : things_in (holds warm near []) ≡ []
  pub nothing_joined : things_in (all 256 (conj (atom 1) (neg (atom 1)))) ≡ p ∷ (q ∷ [])
  pub leads_to_named : things_in (some 1 (atom 1)) ≡ p ∷ []
  pub parts_itself : things_in (parts step step) ≡ []
  pub meets_itself : things_in (meets step step) ≡ p ∷ []
  -- the normal form of not (holds): or, the complement, all, lacks
  pub size : nodes (normal tenths (neg (holds cold far []))) ≡ 4
  pub written : normal tenths (neg (holds cold far [])) ≡ disj (holds warm far []) (all 1 (lacks 128))
  pub well_formed : formed tenths sample_kinds (neg (holds cold far [])) ≡ true
