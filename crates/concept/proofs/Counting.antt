-- The counts of a term from those of the places below it.
use Rattle.std.proofs.Common.{◌≡◌, ℕ, ◌+◌, ◌-◌, ◌<◌, ◌≤◌, true, ltb, ◌⊎◌, List, [], ◌∷◌, ◌++◌, map, length, get_or, take, sym, ap, ◌∙◌, ap₂, inl, inr, arith}
use Rattle.std.proofs.lemmas.List.{length-take-le, get_or-map, length-map, map-append, take_more, take_all}
use Rattle.std.proofs.lemmas.Bool.{and_parts, ltb-true}
use Rattle.concept.specs.declared.count.Counts.{Counts}
use Rattle.concept.specs.declared.count.SignedCounts.{SignedCounts}
use Rattle.concept.specs.declared.term.Term.{Term}
use Rattle.concept.specs.declared.term.Term.TheVariants.{And, Or, Meets, Parts}
use Rattle.concept.specs.declared.node.Chain.{Chain}
use Rattle.concept.specs.Chains.{steps}
use Rattle.concept.specs.Concepts.Concept.{atom, disj, meets, parts}
use Rattle.concept.specs.Counts.{counted, counted_forms}
use Rattle.concept.specs.Terms.{Forms, forms_at, forms, term_forms, lower, all_lower, nowhere}
use Rattle.concept.proofs.Growing.{grow_push, length_grow}
use Rattle.concept.proofs.Places.{lower_from}

pub both_counted : (f : Forms) (a b : Counts) → a ≡ counted f.plain → b ≡ counted f.turned → ◌≡◌ {A = SignedCounts} record { plain = a; turned = b } (counted_forms f)
both_counted f a b p q = ap₂ (λ (x y : Counts). record { plain = x; turned = y }) p q

module _ (n : ℕ) (term : Term) (h : lower n term ≡ true) where
  pub lower_two : (l r : ℕ) → (term ≡ And l r) ⊎ (term ≡ Or l r) → (l < n) × (r < n)
  lower_two l r (inl e) = let p = and_parts (ltb l n) (ltb r n) (ap (lower n) (sym e) ∙ h) in (ltb-true l n p.0, ltb-true r n p.1)
  lower_two l r (inr e) = let p = and_parts (ltb l n) (ltb r n) (ap (lower n) (sym e) ∙ h) in (ltb-true l n p.0, ltb-true r n p.1)

module _ (below : List SignedCounts) (fs : List Forms) (same : below ≡ map counted_forms fs) where
  pub read_counts : (l : ℕ) (d : SignedCounts) → l < length below → get_or below l d ≡ counted_forms (forms_at fs l)
  read_counts l d h =
      let n : length below ≡ length fs = ap length same ∙ length-map fs counted_forms in
      ap (λ xs. get_or xs l d) same ∙ get_or-map counted_forms fs l (record { plain = atom 0; turned = atom 0 }) d (omega arith)

module _ (fs : List Forms) (term : Term) (a b : Counts) where
  pub two_counted : (l r : ℕ) → (term ≡ And l r) ⊎ (term ≡ Or l r) → a ≡ counted (disj (forms_at fs l).plain (forms_at fs r).plain)
      → b ≡ counted (disj (forms_at fs l).turned (forms_at fs r).turned) → ◌≡◌ {A = SignedCounts} record { plain = a; turned = b } (counted_forms (term_forms fs term))
  two_counted l r (inl e) p q = both_counted (term_forms fs (And l r)) a b p q ∙ ap (λ t. counted_forms (term_forms fs t)) (sym e)
  two_counted l r (inr e) p q = both_counted (term_forms fs (Or l r)) a b p q ∙ ap (λ t. counted_forms (term_forms fs t)) (sym e)

-- the counts of a leaf, and of: another leaf, or one of the chains leads nowhere
pub met_counted :
    (fs : List Forms) (term : Term) (u v : Chain) (s : SignedCounts) → (term ≡ Meets u v) ⊎ (term ≡ Parts u v) → s.plain ≡ counted (meets (steps u) (steps v))
    → s.turned ≡ counted (disj (parts (steps u) (steps v)) (nowhere u v)) → s ≡ counted_forms (term_forms fs term)
met_counted fs term u v s (inl e) p q = both_counted (term_forms fs (Meets u v)) s.plain s.turned p q ∙ ap (λ t. counted_forms (term_forms fs t)) (sym e)
met_counted fs term u v s (inr e) p q = both_counted (term_forms fs (Parts u v)) s.plain s.turned p q ∙ ap (λ t. counted_forms (term_forms fs t)) (sym e)

-- the terms before i are counted
module _ (ts : List Term) (counts : List SignedCounts) (i : ℕ) (same : counts ≡ map counted_forms (forms (take i ts))) where
  pub counted_length : i ≤ length ts → length counts ≡ i
  counted_length h = ap length same ∙ (length-map (forms (take i ts)) counted_forms ∙ (length_grow term_forms [] (take i ts) ∙ omega (arith, length-take-le i ts h)))

  pub counted_lower : (d : Term) → i < length ts → all_lower 0 ts ≡ true → lower (length counts) (get_or ts i d) ≡ true
  counted_lower d h e = ap (λ k. lower k (get_or ts i d)) (omega (arith, counted_length (omega arith))) ∙ lower_from 0 ts i d h e

  -- one term more
  pub counted_more : (d : Term) (new : SignedCounts) → i < length ts → new ≡ counted_forms (term_forms (forms (take i ts)) (get_or ts i d))
      → counts ++ (new ∷ []) ≡ map counted_forms (forms (take (i + 1) ts))
  counted_more d new h e =
      let front = forms (take i ts) in
      let t = get_or ts i d in
      ap₂ (λ xs x. xs ++ (x ∷ [])) same e
      ∙ (sym (map-append counted_forms front (term_forms front t ∷ [])) ∙ (ap (map counted_forms) (sym (grow_push term_forms [] (take i ts) t))
      ∙ ap (λ l. map counted_forms (forms l)) (sym (take_more ts i d h))))

  -- the last place, when all are counted
  pub root_counted : (d : SignedCounts) → i ≡ length ts → 0 < length ts → get_or counts (length ts - 1) d ≡ counted_forms (forms_at (forms ts) (length ts - 1))
  root_counted d end some =
      let all : take i ts ≡ ts = take_all i ts (omega arith) in
      read_counts counts (forms ts) (same ∙ ap (λ l. map counted_forms (forms l)) all) (length ts - 1) d (omega (arith, counted_length (omega arith)))
