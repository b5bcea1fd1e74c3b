-- Variables that must all have different marks.
use Rattle.std.specs.Prelude.{◌≡◌, ℕ, ◌+◌, ◌<◌, ◌≤◌, true, ◌⊎◌, List, Some, Option, ◌≢◌, slice_index}
use Rattle.marks.specs.declared.pair.Pair.{Pair}
use Rattle.marks.specs.Marks.{has}
use Rattle.marks.specs.Choices.{Within, Apart}

-- no choice that keeps the pairs apart gives the two the same mark
abbrev pub Differ : List Pair → ℕ → ℕ → Type 0
Differ pairs v w = (f : ℕ → ℕ) → Apart pairs f → f v ≢ f w

-- the first few members all differ, and have no mark but those of the union
pub record Members (sets : List ℕ) (pairs : List Pair) (member : ℕ → ℕ) (size union : ℕ) : Type 0 where
  pub apart : (i j : ℕ) → i < j → j < size → Differ pairs (member i) (member j)
  pub inside : (f : ℕ → ℕ) → Within sets f → (i : ℕ) → i < size → (f (member i) < 16) × (has union (f (member i)) ≡ true)
  pub small : union < 65536

-- each variable differs from as many members, from the first on, as the table says
pub record Near (pairs : List Pair) (member : ℕ → ℕ) (size : ℕ) (near : List ℕ) : Type 0 where
  pub apart : (w i : ℕ) → w < 512 → i < slice_index near w → Differ pairs (member i) w
  pub within : (w : ℕ) → w < 512 → slice_index near w ≤ size

-- some of the variables at a number are one nearer, and each of them is so for a reason
abbrev pub Nearer : (ℕ → Type 0) → ℕ → List ℕ → List ℕ → Type 0
Nearer reason size before after =
    (w : ℕ) → w < 512 → (slice_index after w ≡ slice_index before w) ⊎ ((slice_index after w ≡ size + 1) × (slice_index before w ≡ size) × reason w)

-- what may become a member
abbrev pub Candidate : List ℕ → ℕ → Option ℕ → Type 0
Candidate near size next = (v : ℕ) → next ≡ Some v → (v < 512) × (slice_index near v ≡ size)
