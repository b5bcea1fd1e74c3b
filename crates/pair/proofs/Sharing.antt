-- The shares of the two sides in a call of `solve` whose lists are in order.
use Rattle.std.proofs.Common.{◌≡◌, ℕ, ◌%◌, ◌<◌, ◌≤◌, true, false, List, length, get_or, take, ℤ, pos, Some, None, sym, ap, ◌∙◌, ⊎_elim, arith}
use Rattle.std.proofs.lemmas.List.{get_or-take, length-take, length-take-le}
use Rattle.std.proofs.lemmas.Bool.{eqb-true, ne_eqb}
use Rattle.domain.specs.declared.predicate.Row.{Row}
use Rattle.domain.specs.declared.predicate.Outcome.TheVariants.{Solved}
use Rattle.domain.specs.Meaning.{Meaning, Lawful}
use Rattle.domain.specs.Solving.{Chosen, Accepted}
use Rattle.pair.specs.declared.split.Share.{Share}
use Rattle.pair.specs.Paired.{half, paired}
use Rattle.pair.specs.Split.{number, on, side_kinds, PutBack, Shared, Settles, Answers, BothAnswer}
use Rattle.pair.proofs.Choosing.{Served, side_accepted, side_chosen, side_served, pair_chosen}
use Rattle.pair.proofs.Dealing.{below_rank, side_values}

module _ (s : ℕ) (kinds : List ℕ) (rows : List Row) (h : Share) (shared : Shared s kinds rows h) where
  -- a table that the side answers has a value for each of its variables
  pub share_ranked :
      (m : Meaning) (found : List ℤ) → Answers m h (Some found)
      → (i : ℕ) → i < length kinds → on (number h.side) (get_or kinds i 0) ≡ true → get_or h.places.items i 0 < length found
  share_ranked m found chosen i lt t =
      let below = below_rank s kinds h.places.items shared.ranks i lt (rw shared.side at t) in
      omega (arith, below, ap length shared.asked_kinds, chosen.one_each, length-take (length h.kinds.items) found)

  module _ (l r : Meaning) (left : Lawful l) (right : Lawful r) (room : ℕ) (ok : Accepted (paired l r) kinds rows room) where
    pub share_asks : Accepted (half l r s) h.kinds.items h.rows.items 512
    share_asks = rw (shared.asked_kinds, shared.asked_rows) (side_accepted l r left right kinds s h.places.items shared.ranks rows room ok)

    pub share_unsolvable : Answers (half l r s) h None → (vs : List ℤ) → Chosen (paired l r) kinds rows vs → ⊥
    share_unsolvable none vs chosen =
        none (side_values s kinds h.places.items shared.ranks vs)
        (rw (shared.asked_kinds, shared.asked_rows) (side_chosen l r left right kinds s h.places.items shared.ranks rows room ok vs chosen))

    pub share_served :
        (found vs : List ℤ) → Answers (half l r s) h (Some found)
        → ((i : ℕ) → i < length kinds → on s (get_or kinds i 0) ≡ true → get_or vs i (pos 0) ≡ get_or found (get_or h.places.items i 0) (pos 0))
        → Served l r left right kinds rows s vs
    share_served found vs chosen agree =
        side_served l r left right kinds s h.places.items shared.ranks rows room ok vs (take (length (side_kinds s kinds)) found)
        (rw (shared.asked_kinds, shared.asked_rows) at chosen)
        (λ i lt t. agree i lt t ∙ sym (get_or-take (length (side_kinds s kinds)) found (get_or h.places.items i 0) (pos 0) (below_rank s kinds h.places.items shared.ranks i lt t)))

not_other : (k : ℕ) → on 0 k ≡ true → on 1 k ≡ false
not_other k t = let e : k % 2 ≡ 0 = eqb-true _ _ t in ne_eqb _ _ (λ o. omega arith)

-- both sides are asked their shares
module _ (l r : Meaning) (left : Lawful l) (right : Lawful r) (kinds : List ℕ) (rows : List Row) (room : ℕ) (ok : Accepted (paired l r) kinds rows room)
    (a b : Share) (even : Shared 0 kinds rows a) (odd : Shared 1 kinds rows b) where
  -- a side that has no choice leaves the pair none
  pub both_unsolvable : BothAnswer l a r b None → (vs : List ℤ) → Chosen (paired l r) kinds rows vs → ⊥
  both_unsolvable = ⊎_elim (share_unsolvable 0 kinds rows a even l r left right room ok) (share_unsolvable 1 kinds rows b odd l r left right room ok)

  -- the choices of both sides, put back, are a choice for the pair
  pub both_solved :
      (on_left on_right values between all : List ℤ) → BothAnswer l a r b (Some (on_left, on_right))
      → PutBack (number a.side) kinds a.places.items on_left values (length kinds) between → PutBack (number b.side) kinds b.places.items on_right between (length kinds) all
      → length kinds ≤ length all → Settles (paired l r) kinds rows values all Solved
  both_solved on_left on_right values between all answers on_even on_odd le =
      let first = rw even.side at on_even in
      let second = rw odd.side at on_odd in (
        pair_chosen l r left right kinds rows (take (length kinds) all) (length-take-le (length kinds) all le)
            (share_served 0 kinds rows a even l r left right room ok on_left (take (length kinds) all) answers.0
            (λ i lt t. get_or-take (length kinds) all i (pos 0) lt ∙ second.kept i lt (not_other (get_or kinds i 0) t) ∙ first.put i lt t))
            (share_served 1 kinds rows b odd l r left right room ok on_right (take (length kinds) all) answers.1
            (λ i lt t. get_or-take (length kinds) all i (pos 0) lt ∙ second.put i lt t)),
        second.rest ∙ first.rest,
      )
