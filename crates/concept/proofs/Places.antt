-- The places of a checked table: what they name, and what they stand for.
use Rattle.std.proofs.Common.{◌≡◌, ℕ, zero, suc, ◌+◌, ◌<◌, ◌≤◌, true, ltb, List, [], ◌∷◌, length, get_or, take, sym, refl, ap, ◌∙◌, ap₂, arith}
use Rattle.std.proofs.lemmas.List.{get_or-take, length-take-le}
use Rattle.std.proofs.lemmas.Bool.{and_parts, ltb-true}
use Rattle.concept.specs.declared.term.Term.{Term}
use Rattle.concept.specs.declared.term.Term.TheVariants.{Atom, Not, And, Or, Exists, Forall, Has, Lacks, Holds, Meets, Parts}
use Rattle.concept.specs.Concepts.Concept.{atom, conj, disj, some, all}
use Rattle.concept.specs.Terms.{Forms, forms_at, forms, term_forms, lower, all_lower}
use Rattle.concept.proofs.Growing.{grow_at, grow_below}

pub lower_from : (j : ℕ) (ts : List Term) (i : ℕ) (d : Term) → i < length ts → all_lower j ts ≡ true → lower (j + i) (get_or ts i d) ≡ true
lower_from j [] i d h e = absurd (omega arith)
lower_from j (t ∷ ts) zero d h e = ap (λ k. lower k t) (omega arith) ∙ (and_parts (lower j t) (all_lower (j + 1) ts) e).0
lower_from j (t ∷ ts) (suc i) d h e =
    ap (λ k. lower k (get_or ts i d)) (omega arith) ∙ lower_from (j + 1) ts i d (omega arith) (and_parts (lower j t) (all_lower (j + 1) ts) e).1

-- a term stands for the same where the lower places do
module _ (fs gs : List Forms) (i : ℕ) (same : (l : ℕ) → l < i → forms_at fs l ≡ forms_at gs l) where
  same_forms : (t : Term) → lower i t ≡ true → term_forms fs t ≡ term_forms gs t
  same_forms (Atom n) h = refl
  same_forms (Not l) h = ap (λ (f : Forms). record { plain = f.turned; turned = f.plain }) (same l (ltb-true l i h))
  same_forms (And l r) h =
      let p = and_parts (ltb l i) (ltb r i) h in
      ap₂ (λ (f g : Forms). record { plain = conj f.plain g.plain; turned = disj f.turned g.turned }) (same l (ltb-true l i p.0)) (same r (ltb-true r i p.1))
  same_forms (Or l r) h =
      let p = and_parts (ltb l i) (ltb r i) h in
      ap₂ (λ (f g : Forms). record { plain = disj f.plain g.plain; turned = conj f.turned g.turned }) (same l (ltb-true l i p.0)) (same r (ltb-true r i p.1))
  same_forms (Exists s l) h = ap (λ (f : Forms). record { plain = some s f.plain; turned = all s f.turned }) (same l (ltb-true l i h))
  same_forms (Forall s l) h = ap (λ (f : Forms). record { plain = all s f.plain; turned = some s f.turned }) (same l (ltb-true l i h))
  same_forms (Has f) h = refl
  same_forms (Lacks f) h = refl
  same_forms (Holds k) h = refl
  same_forms (Meets u v) h = refl
  same_forms (Parts u v) h = refl

module _ (terms : List Term) (len : ℕ) (long : len ≤ length terms) (ordered : all_lower 0 (take len terms) ≡ true) (i : ℕ) (d : Term) (h : i < len) where
  -- the term at i names lower places
  pub lower_at : lower i (get_or terms i d) ≡ true
  lower_at =
      ap (lower i) (sym (get_or-take len terms i d h)) ∙ (ap (λ k. lower k (get_or (take len terms) i d)) (omega arith)
      ∙ lower_from 0 (take len terms) i d (omega (arith, length-take-le len terms long)) ordered)

  -- the place i stands for what its term says of the places that it names
  pub forms_term : forms_at (forms (take len terms)) i ≡ term_forms (forms (take len terms)) (get_or terms i d)
  forms_term =
      let table = take len terms in
      let n : length table ≡ len = length-take-le len terms long in
      grow_at term_forms table i d (record { plain = atom 0; turned = atom 0 }) (omega arith)
      ∙ (ap (term_forms (forms (take i table))) (get_or-take len terms i d h)
      ∙ same_forms (forms (take i table)) (forms table) i (λ l k. grow_below term_forms table l i (record { plain = atom 0; turned = atom 0 }) k (omega arith)) (get_or terms i d) lower_at)
