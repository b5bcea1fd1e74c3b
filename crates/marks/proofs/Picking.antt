-- The variable that was picked.
use Rattle.std.proofs.Common.{ℕ, ◌<◌, List, Some, subst, inl, inr}
use Rattle.marks.specs.declared.pair.Pair.{Pair}
use Rattle.marks.specs.Choices.{Picked, nth_pair}

module _ (sets : List ℕ) (pairs : List Pair) where
  pub picked_listed : (u : ℕ) → Picked sets pairs (Some u) → u < 512
  picked_listed u p =
      elim p.2 [
        | inl t ↦ subst (λ x. x < 512) t (nth_pair pairs p.0).left_listed
        | inr t ↦ subst (λ x. x < 512) t (nth_pair pairs p.0).right_listed
      ]
