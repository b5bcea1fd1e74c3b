-- The worked example.
use Rattle.std.proofs.Common.{◌≡◌, ℕ, zero, suc, Bool, true, false, eqb, List, ap, inl, inr, arith}
use Rattle.domain.specs.Meaning.{Meaning}
use Rattle.concept.specs.Concepts.{Concept}
use Rattle.concept.specs.Concepts.Concept.{atom, neg, some, all}
use Rattle.concept.specs.Plants.{Plant, Proper, inside}
use Rattle.tableau.specs.Completion.{Done, Possible, Due}
use Rattle.tableau.proofs.Cells.{cells_complete, cells_settled}
use Rattle.tableau.specs.Example.{single, lone, claim, claims, Example}

-- the plant that pays: one thing, with the name 1 only
abbrev payer : Plant
payer = single (λ n. eqb n 1)

module _ (m : Meaning) (kinds : List ℕ) where
  single_proper : (test : ℕ → Bool) → Proper m kinds (single test)
  single_proper test = record {
    something = omega arith;
    objects = λ o. omega arith;
    links = λ f x y e. let z : ◌≡◌ {A = ℕ} 0 1 = cc in absurd (omega arith);
    values = λ g x v e. let z : ◌≡◌ {A = ℕ} 0 1 = cc in absurd (omega arith);
  }

  cell_done : (i : ℕ) → Done m lone claims (claim i) 0
  cell_done zero = λ h. absurd (omega arith)
  cell_done (suc i) = λ y h e. let z : ◌≡◌ {A = ℕ} 0 1 = cc in absurd (omega arith)

  claimed : (i r : ℕ) (d : Concept) → claim i ≡ all r d → inside m payer d 0 ≡ true
  claimed zero r d e = let z : ◌≡◌ {A = ℕ} 0 1 = cc in absurd (omega arith)
  claimed (suc i) r d e = let part : d ≡ neg (atom 2) = cc in ap (λ d. inside m payer d 0) part

  lies : (r : ℕ) (c : Concept) → claim 0 ≡ some r c → (d : Concept) → Due claims r c 0 d → inside m payer d 0 ≡ true
  lies r c e d (inl s) = let part : d ≡ atom 1 = cc in ap (λ d. inside m payer d 0) part
  lies r c e d (inr q) = claimed q.cell r d q.concept

  paid : (i r : ℕ) (c : Concept) → claim i ≡ some r c → Possible m kinds (Due claims r c 0)
  paid zero r c e = record {
    plant = payer;
    proper = single_proper (λ n. eqb n 1);
    thing = 0;
    present = omega arith;
    lies = lies r c e;
  }
  paid (suc i) r c e = let z : ◌≡◌ {A = ℕ} 0 1 = cc in absurd (omega arith)

pub example : Example
example m kinds = record {
  proper = single_proper m kinds (λ n. false);
  complete = cells_complete claims m lone (λ i h a. (omega arith, cell_done m kinds i));
  settled = cells_settled claims m kinds (λ i r c h a e b. paid m kinds i r c e);
}
