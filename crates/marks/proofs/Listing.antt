-- What a loop over the pairs gives.
use Rattle.std.proofs.Common.{◌≡◌, ℕ, ◌<◌, List, length, get_or, Some, inl, inr, sym, ap, ◌∙◌, subst}
use Rattle.std.proofs.lemmas.List.{get_or_default}
use Rattle.marks.specs.declared.pair.Pair.{Pair}
use Rattle.marks.specs.Choices.{Other, no_pair, nth_pair}
use Rattle.marks.specs.Cliques.{Differ}

module _ (pairs : List Pair) (i : ℕ) (p : Pair) (l : i < length pairs) (is : p ≡ get_or pairs i p) where
  pub pair_is : nth_pair pairs i ≡ p
  pair_is = get_or_default pairs i no_pair p l ∙ sym is

  pub other_differs : (v w : ℕ) → Other p v (Some w) → Differ pairs v w
  other_differs v w o f apart same =
      apart i l (subst (λ q. f q.left ≡ f q.right) (sym pair_is)
      (elim o [
        | inl e ↦ ap f e.0 ∙ same ∙ sym (ap f e.1)
        | inr e ↦ ap f e.1 ∙ sym same ∙ sym (ap f e.0)
      ]))
