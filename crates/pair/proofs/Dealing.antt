-- The variables of a side, by the places that they have there.
use Rattle.std.proofs.Common.{◌≡◌, ℕ, ◌/◌, ◌<◌, true, eqb, ltb, List, length, get_or, ℤ, pos, sym, ap, ◌∙◌}
use Rattle.std.proofs.lemmas.Bool.{and_parts, and_from, ltb-true, lt-ltb, eqb-true, eq-eqb}
use Rattle.domain.specs.Solving.{names}
use Rattle.pair.specs.Split.{on, side_kinds, rank, Ranks}
use Rattle.pair.proofs.Sifting.{get_or_sifted, sifted_below, source, beside, length_beside, get_or_beside}

module _ (s : ℕ) (kinds places : List ℕ) (ranks : Ranks s kinds places) where
  module _ (i : ℕ) (h : i < length kinds) (t : on s (get_or kinds i 0) ≡ true) where
    pub at_rank : get_or (side_kinds s kinds) (get_or places i 0) 0 ≡ get_or kinds i 0 / 2
    unfolding side_kinds rank
    at_rank = rw (ranks i h) (get_or_sifted (λ (k : ℕ). k / 2) (on s) kinds i 0 0 h t)

    pub below_rank : get_or places i 0 < length (side_kinds s kinds)
    unfolding side_kinds rank
    below_rank = rw (ranks i h) (sifted_below (λ (k : ℕ). k / 2) (on s) kinds i 0 h t)

  pub source_of : (j : ℕ) → j < length (side_kinds s kinds) → (i : ℕ) × (i < length kinds) × (on s (get_or kinds i 0) ≡ true) × (get_or places i 0 ≡ j)
  unfolding side_kinds rank
  source_of j h =
      let from = source (λ (k : ℕ). k / 2) (on s) 0 kinds j h in
      (from.0, from.1, from.2, ranks from.0 from.1 ∙ from.3)

  -- the values of the side's variables
  unfoldable pub side_values : List ℤ → List ℤ
  side_values vs = beside (λ (k : ℕ). k / 2) (on s) (pos 0) kinds vs

  pub length_values : (vs : List ℤ) → length (side_values vs) ≡ length (side_kinds s kinds)
  unfolding side_kinds side_values
  length_values vs = length_beside (λ (k : ℕ). k / 2) (on s) (pos 0) kinds vs

  pub at_values : (vs : List ℤ) (i : ℕ) → i < length kinds → on s (get_or kinds i 0) ≡ true → get_or vs i (pos 0) ≡ get_or (side_values vs) (get_or places i 0) (pos 0)
  unfolding side_kinds side_values rank
  at_values vs i h t = sym (rw (ranks i h) (get_or_beside (λ (k : ℕ). k / 2) (on s) (pos 0) 0 kinds vs i h t))

  pub name_moved : (k i : ℕ) → on s k ≡ true → names kinds k i ≡ true → names (side_kinds s kinds) (k / 2) (get_or places i 0) ≡ true
  name_moved k i t n =
      let parts = and_parts (ltb i (length kinds)) (eqb (get_or kinds i 0) k) n in
      let h : i < length kinds = ltb-true i (length kinds) parts.0 in
      let e : get_or kinds i 0 ≡ k = eqb-true (get_or kinds i 0) k parts.1 in
      let u : on s (get_or kinds i 0) ≡ true = rw e t in
      and_from _ _ (lt-ltb _ _ (below_rank i h u)) (eq-eqb _ _ (at_rank i h u ∙ ap (λ (n : ℕ). n / 2) e))
