-- The normal form of a concept, and that of its negation, agree with the concept in every proper plant.
use Rattle.std.proofs.Common.{◌≡◌, ℕ, ◌-◌, ◌<◌, Bool, true, false, not, ◌&&◌, ◌||◌, eqb, ltb, leb, ◌⊎◌, List, [], ◌∷◌, length, ℤ, is_some, Some, None, Option, sym, refl, ap, ◌∙◌, ap₂, inl, inr, arith}
use Rattle.std.proofs.lemmas.Bool.{and_parts, or_cases, cond-true, cond-false, eqb-true, leb-true, lt-ltb, le-ltb}
use Rattle.domain.specs.declared.predicate.Predicate.{Predicate}
use Rattle.domain.specs.Meaning.{Meaning, Lawful, known, tested}
use Rattle.domain.proofs.Complements.{tested_turned}
use Rattle.concept.specs.Concepts.{Concept, kind_at, is_link, is_value, link_chain, value_chain, end_kind, leads_to_kind, is_empty, fitting, formed}
use Rattle.concept.specs.Concepts.Concept.{atom, neg, conj, disj, some, all, has, lacks, holds, meets, parts}
use Rattle.concept.specs.Plants.{Plant, Proper, onward, walk, reading, leads_to, related, defined, of_one, of_two, inside}
use Rattle.concept.specs.Normal.{undefined, not_holds, normal, negated}
use Rattle.concept.specs.Agreement.{Agreement}
use Rattle.std.proofs.Math.Bool.{not-not, or-false, true-or}
use Rattle.concept.proofs.Tests.{not_and, not_or, any_same, all_same, all_not, any_not, all_true, all_at}

some_onward : (o : Option ℕ) → is_some (onward o (λ x. Some x)) ≡ is_some o
some_onward None = refl
some_onward (Some x) = refl

link_below : (f : ℕ) → is_link f ≡ true → f < 128
link_below f e = let h = leb-true f 127 (and_parts (leb 1 f) (leb f 127) e).1 in omega arith

module _ (m : Meaning) (kinds : List ℕ) (plant : Plant) (proper : Proper m kinds plant) where
  link_related : (f x y : ℕ) → is_link f ≡ true → related plant f x y ≡ leads_to (plant.linked f x) y
  link_related f x y l = let h = link_below f l in let h' : f < 256 = omega arith in cond-true (ltb f 256) _ _ (lt-ltb f 256 h')

  -- a link feature is lacking exactly where it leads nowhere
  no_link : (f x : ℕ) → is_link f ≡ true → inside m plant (lacks f) x ≡ not (is_some (plant.linked f x))
  no_link f x l = ap not (cond-true (ltb f 128) _ _ (lt-ltb f 128 (link_below f l)))

  no_value : (g x : ℕ) → is_value g ≡ true → inside m plant (lacks g) x ≡ not (is_some (plant.valued g x))
  no_value g x l =
      let h = leb-true 128 g (and_parts (leb 128 g) (leb g 255) l).0 in ap not (cond-false (ltb g 128) _ _ (le-ltb g 128 h))

  -- an all over a link feature looks only where the feature leads
  module _ {A : Type 0} (f x : ℕ) (c : Concept) (l : is_link f ≡ true) (rest : ℕ → Option A) (h : (y : ℕ) → inside m plant c y ≡ not (is_some (rest y))) where
    along : (o : Option ℕ) → plant.linked f x ≡ o → inside m plant (all f c) x ≡ not (is_some (onward o rest))
    along None e =
        all_true _ plant.count (λ y. ap (λ b. not b || inside m plant c y) (link_related f x y l ∙ ap (λ o. leads_to o y) e) ∙ true-or (inside m plant c y))
    along (Some z) e =
        all_same _ _ plant.count (λ y. ap (λ b. not b || inside m plant c y) (link_related f x y l ∙ ap (λ o. leads_to o y) e))
        ∙ (all_at z (inside m plant c) plant.count (proper.links f x z e) ∙ h z)

  -- a chain is undefined exactly where it leads nowhere
  no_walk : (u : List ℕ) (x : ℕ) → link_chain u ≡ true → inside m plant (undefined u) x ≡ not (is_some (walk plant u x))
  no_walk [] x l = let z : ◌≡◌ {A = ℕ} 0 1 = cc in absurd (omega arith)
  no_walk (f ∷ []) x l = no_link f x l ∙ ap not (sym (some_onward (plant.linked f x)))
  no_walk (f ∷ (g ∷ r)) x l =
      let p = and_parts (is_link f) (link_chain (g ∷ r)) l in
      along f x (undefined (g ∷ r)) p.0 (walk plant (g ∷ r)) (λ y. no_walk (g ∷ r) y p.1) (plant.linked f x) refl

  no_reading : (u : List ℕ) (x : ℕ) → value_chain u ≡ true → inside m plant (undefined u) x ≡ not (is_some (reading plant u x))
  no_reading [] x l = let z : ◌≡◌ {A = ℕ} 0 1 = cc in absurd (omega arith)
  no_reading (g ∷ []) x l = no_value g x l
  no_reading (f ∷ (g ∷ r)) x l =
      let p = and_parts (is_link f) (value_chain (g ∷ r)) l in
      along f x (undefined (g ∷ r)) p.0 (reading plant (g ∷ r)) (λ y. no_reading (g ∷ r) y p.1) (plant.linked f x) refl

  -- what a chain reads is of the kind of its last step
  read_within : (u : List ℕ) (x : ℕ) (a : ℤ) → reading plant u x ≡ Some a → m.within (end_kind kinds u) a ≡ true
  read_within [] x a e = let z : ◌≡◌ {A = ℕ} 0 1 = cc in absurd (omega arith)
  read_within (g ∷ []) x a e =
      let t = (and_parts (is_value g) _ (proper.values g x a e)).1 in (and_parts (ltb (g - 128) (length kinds)) (m.within (kind_at kinds g) a) t).1
  read_within (f ∷ (g ∷ r)) x a e = go (plant.linked f x) e (λ y. read_within (g ∷ r) y a)
    where
      go : (o : Option ℕ) → onward o (reading plant (g ∷ r)) ≡ Some a → ((y : ℕ) → reading plant (g ∷ r) y ≡ Some a → m.within (end_kind kinds (g ∷ r)) a ≡ true)
          → m.within (end_kind kinds (g ∷ r)) a ≡ true
      go None q more = let z : ◌≡◌ {A = ℕ} 0 1 = cc in absurd (omega arith)
      go (Some y) q more = more y q

  read_of : (k : ℕ) (u : List ℕ) (x : ℕ) (a : ℤ) → leads_to_kind kinds k u ≡ true → reading plant u x ≡ Some a → m.within k a ≡ true
  read_of k u x a w e =
      ap (λ n. m.within n a) (sym (eqb-true (end_kind kinds u) k (and_parts (value_chain u) _ w).1)) ∙ read_within u x a e

  -- meets and parts, each with the undefined chains, are each other's negation
  not_same : (test : ℕ → ℕ → Bool) (o q : Option ℕ) → (of_two (λ a b. not (test a b)) o q || (not (is_some o) || not (is_some q))) ≡ not (of_two test o q)
  not_same test None None = refl
  not_same test None (Some b) = refl
  not_same test (Some a) None = refl
  not_same test (Some a) (Some b) = or-false (not (test a b))

  not_one :
      (p q : ℤ → Bool) (o : Option ℤ) → ((a : ℤ) → o ≡ Some a → q a ≡ not (p a)) → (of_one q o || not (is_some o)) ≡ not (of_one p o)
  not_one p q None h = refl
  not_one p q (Some a) h = or-false (q a) ∙ h a refl

  not_two :
      (p q : ℤ → ℤ → Bool) (o r : Option ℤ) → ((a b : ℤ) → o ≡ Some a → r ≡ Some b → q a b ≡ not (p a b))
      → (of_two q o r || (not (is_some o) || not (is_some r))) ≡ not (of_two p o r)
  not_two p q None None h = refl
  not_two p q None (Some b) h = refl
  not_two p q (Some a) None h = refl
  not_two p q (Some a) (Some b) h = or-false (q a b) ∙ h a b refl refl

  module _ (lawful : Lawful m) (p : Predicate) (u v : List ℕ) (x : ℕ) where
    known_from : (n : ℕ) → 0 < n → eqb (m.arity p) n ≡ true → known m p ≡ true
    known_from n h e = let q = eqb-true (m.arity p) n e in lt-ltb 0 (m.arity p) (omega arith)

    not_holds_one :
        leads_to_kind kinds p.kind u ≡ true → eqb (m.arity p) 1 ≡ true
        → inside m plant (not_holds m p u v) x ≡ not (inside m plant (holds p u v) x)
    not_holds_one w e =
        let k = known_from 1 (omega arith) e in
        let one : m.arity p ≡ 1 = eqb-true (m.arity p) 1 e in
        let same : m.arity (m.complement p) ≡ m.arity p = (lawful.complements p k).arity in
        ap₂ ◌||◌ (cond-true (eqb (m.arity (m.complement p)) 1) _ _ (ap (λ n. eqb n 1) same ∙ e))
        (ap (λ c. inside m plant c x) (cond-true (eqb (m.arity p) 1) _ _ e) ∙ no_reading u x (and_parts (value_chain u) _ w).0)
        ∙ (not_one (λ a. tested m p a a) (λ a. tested m (m.complement p) a a) (reading plant u x)
        (λ a r. tested_turned m lawful p k a a (read_of p.kind u x a w r) (inl one))
        ∙ ap not (sym (cond-true (eqb (m.arity p) 1) _ _ e)))

    not_holds_two :
        leads_to_kind kinds p.kind u ≡ true → eqb (m.arity p) 2 ≡ true → leads_to_kind kinds p.kind v ≡ true
        → inside m plant (not_holds m p u v) x ≡ not (inside m plant (holds p u v) x)
    not_holds_two w e w' =
        let k = known_from 2 (omega arith) e in
        let two : m.arity p ≡ 2 = eqb-true (m.arity p) 2 e in
        let same : m.arity (m.complement p) ≡ m.arity p = (lawful.complements p k).arity in
        let not_one_p : eqb (m.arity p) 1 ≡ false = ap (λ n. eqb n 1) two in
        ap₂ ◌||◌ (cond-false (eqb (m.arity (m.complement p)) 1) _ _ (ap (λ n. eqb n 1) same ∙ not_one_p))
        (ap (λ c. inside m plant c x) (cond-false (eqb (m.arity p) 1) _ _ not_one_p)
        ∙ ap₂ ◌||◌ (no_reading u x (and_parts (value_chain u) _ w).0) (no_reading v x (and_parts (value_chain v) _ w').0))
        ∙ (not_two (tested m p) (tested m (m.complement p)) (reading plant u x) (reading plant v x)
        (λ a b r s. tested_turned m lawful p k a b (read_of p.kind u x a w r) (inr (read_of p.kind v x b w' s)))
        ∙ ap not (sym (cond-false (eqb (m.arity p) 1) _ _ not_one_p)))

    not_holds_turns : fitting m kinds p u v ≡ true → inside m plant (not_holds m p u v) x ≡ not (inside m plant (holds p u v) x)
    not_holds_turns e = go (or_cases _ _ parts'.1)
      where
        parts' : (leads_to_kind kinds p.kind u ≡ true) × (((eqb (m.arity p) 1 && is_empty v) || (eqb (m.arity p) 2 && leads_to_kind kinds p.kind v)) ≡ true)
        parts' = and_parts _ _ e

        go : ((eqb (m.arity p) 1 && is_empty v) ≡ true) ⊎ ((eqb (m.arity p) 2 && leads_to_kind kinds p.kind v) ≡ true)
            → inside m plant (not_holds m p u v) x ≡ not (inside m plant (holds p u v) x)
        go (inl h) = not_holds_one parts'.0 (and_parts _ _ h).0
        go (inr h) = not_holds_two parts'.0 (and_parts _ _ h).0 (and_parts _ _ h).1

  module _ (lawful : Lawful m) where
    -- both ways at once, by induction on the concept
    agree :
        (c : Concept) → formed m kinds c ≡ true → (x : ℕ)
        → (inside m plant (normal m c) x ≡ inside m plant c x) × (inside m plant (negated m c) x ≡ not (inside m plant c x))
    agree (atom n) f x = (refl, refl)
    agree (neg c) f x = let h = agree c f x in (h.1, h.0 ∙ sym (not-not (inside m plant c x)))
    agree (conj c d) f x =
        let p = and_parts _ _ f in
        let h = agree c p.0 x in
        let k = agree d p.1 x in
        (ap₂ ◌&&◌ h.0 k.0, ap₂ ◌||◌ h.1 k.1 ∙ not_and (inside m plant c x) (inside m plant d x))
    agree (disj c d) f x =
        let p = and_parts _ _ f in
        let h = agree c p.0 x in
        let k = agree d p.1 x in
        (ap₂ ◌||◌ h.0 k.0, ap₂ ◌&&◌ h.1 k.1 ∙ not_or (inside m plant c x) (inside m plant d x))
    agree (some r c) f x =
        let h : (y : ℕ) → (inside m plant (normal m c) y ≡ inside m plant c y) × (inside m plant (negated m c) y ≡ not (inside m plant c y)) = λ y. agree c (and_parts _ _ f).1 y in (
          any_same _ _ plant.count (λ y. ap (λ b. related plant r x y && b) (h y).0),
          all_not _ _ plant.count (λ y. ap (λ b. not (related plant r x y) || b) (h y).1 ∙ not_and (related plant r x y) (inside m plant c y)),
        )
    agree (all r c) f x =
        let h : (y : ℕ) → (inside m plant (normal m c) y ≡ inside m plant c y) × (inside m plant (negated m c) y ≡ not (inside m plant c y)) = λ y. agree c (and_parts _ _ f).1 y in (
          all_same _ _ plant.count (λ y. ap (λ b. not (related plant r x y) || b) (h y).0),
          any_not _ _ plant.count
              (λ y. ap (λ b. related plant r x y && b) (h y).1 ∙ (ap (λ b. b && not (inside m plant c y)) (sym (not-not (related plant r x y))) ∙ not_or (not (related plant r x y)) (inside m plant c y))),
        )
    agree (has g) f x = (refl, refl)
    agree (lacks g) f x = (refl, sym (not-not (defined plant g x)))
    agree (holds p u v) f x = (refl, not_holds_turns lawful p u v x f)
    agree (meets u v) f x =
        let p = and_parts (link_chain u) (link_chain v) f in (
          refl,
          ap (λ b. inside m plant (parts u v) x || b) (ap₂ ◌||◌ (no_walk u x p.0) (no_walk v x p.1))
              ∙ not_same eqb (walk plant u x) (walk plant v x),
        )
    agree (parts u v) f x =
        let p = and_parts (link_chain u) (link_chain v) f in (
          refl,
          ap₂ ◌||◌ (twice (walk plant u x) (walk plant v x)) (ap₂ ◌||◌ (no_walk u x p.0) (no_walk v x p.1))
              ∙ not_same (λ a b. not (eqb a b)) (walk plant u x) (walk plant v x),
        )
      where
        twice : (o q : Option ℕ) → of_two eqb o q ≡ of_two (λ a b. not (not (eqb a b))) o q
        twice None None = refl
        twice None (Some b) = refl
        twice (Some a) None = refl
        twice (Some a) (Some b) = sym (not-not (eqb a b))

pub agreement : Agreement
agreement m lawful kinds c f =
    record { same = λ plant proper x. (agree m kinds plant proper lawful c f x).0; opposite = λ plant proper x. (agree m kinds plant proper lawful c f x).1 }
