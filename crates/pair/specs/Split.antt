-- How the variables and the rows of a call of `solve` are dealt to the two sides. A side goes by its number.
use Rattle.std.specs.Prelude.{◌≡◌, ℕ, ◌/◌, ◌%◌, ◌<◌, Bool, true, false, ◌⊎◌, List, map, length, take, drop, ℤ, pos, Some, None, Option, filter, ◌==◌, slice_index, slice_index_or}
use Rattle.domain.specs.declared.predicate.Row.{Row}
use Rattle.domain.specs.declared.predicate.Outcome.{Outcome}
use Rattle.domain.specs.declared.predicate.Outcome.TheVariants.{Unsolvable, Solved}
use Rattle.domain.specs.Meaning.{Meaning}
use Rattle.domain.specs.Solving.{Chosen}
use Rattle.pair.specs.declared.sides.Side.{Side}
use Rattle.pair.specs.declared.sides.Side.TheVariants.{Left, Right}
use Rattle.pair.specs.declared.split.Share.{Share}
use Rattle.pair.specs.Paired.{down}

-- a side's number: 0 is the left, and 1 the right
abbrev pub number : Side → ℕ
number Left = 0
number Right = 1

-- a kind is on a side
abbrev pub on : ℕ → ℕ → Bool
on s k = k % 2 == s

-- the kinds of a side's variables in their order, as that side knows them
unfoldable pub side_kinds : ℕ → List ℕ → List ℕ
side_kinds s kinds = map (λ k. k / 2) (filter (on s) kinds)

-- how many of the first i variables are on a side: if variable i is, its place there
unfoldable pub rank : ℕ → List ℕ → ℕ → ℕ
rank s kinds i = length (side_kinds s (take i kinds))

-- a row is on a side
abbrev pub row_on : ℕ → Row → Bool
row_on s row = on s row.predicate.kind

-- a row as its side knows it, by the places that its variables have there
abbrev pub moved : List ℕ → Row → Row
moved places row = record { predicate = down row.predicate; first = slice_index places row.first; second = slice_index places row.second }

-- a side's rows in their order, as that side knows them
unfoldable pub side_rows : ℕ → List ℕ → List Row → List Row
side_rows s places rows = map (moved places) (filter (row_on s) rows)

-- the places of the variables on a side
abbrev pub Ranks : ℕ → List ℕ → List ℕ → Type 0
Ranks s kinds places = (i : ℕ) → i < length kinds → slice_index places i ≡ rank s kinds i

-- a side's values are put back for the first n variables: each variable of the side has the value from its place there,
-- every other one and all past the first n keep what they had
pub record PutBack (s : ℕ) (kinds places : List ℕ) (found before : List ℤ) (n : ℕ) (after : List ℤ) : Type 0 where
  pub put : (i : ℕ) → i < n → on s (slice_index kinds i) ≡ true → slice_index_or after i (pos 0) ≡ slice_index_or found (slice_index places i) (pos 0)
  pub kept : (i : ℕ) → i < n → on s (slice_index kinds i) ≡ false → slice_index_or after i (pos 0) ≡ slice_index_or before i (pos 0)
  pub rest : drop n after ≡ drop n before

-- the share is that of a side in a call of `solve` with these lists
pub record Shared (s : ℕ) (kinds : List ℕ) (rows : List Row) (h : Share) : Type 0 where
  pub side : number h.side ≡ s
  pub asked_kinds : h.kinds.items ≡ side_kinds s kinds
  pub asked_rows : h.rows.items ≡ side_rows s h.places.items rows
  pub ranks : Ranks s kinds h.places.items
  pub listed : length h.places.items ≡ length kinds

-- what an outcome says once no refusal applies, with the table of values before and after
abbrev pub Settles : Meaning → List ℕ → List Row → List ℤ → List ℤ → Outcome → Type 0
Settles m kinds rows before after Unsolvable = ((vs : List ℤ) → Chosen m kinds rows vs → ⊥) × (after ≡ before)
Settles m kinds rows before after Solved = Chosen m kinds rows (take (length kinds) after) × (drop (length kinds) after ≡ drop (length kinds) before)

-- what a side answers to its share: that it has no choice, or a table with one at its front
abbrev pub Answers : Meaning → Share → Option (List ℤ) → Type 0
Answers m h None = (vs : List ℤ) → Chosen m h.kinds.items h.rows.items vs → ⊥
Answers m h (Some found) = Chosen m h.kinds.items h.rows.items (take (length h.kinds.items) found)

-- what both sides answer to theirs: that one has no choice, or a table of each
abbrev pub BothAnswer : Meaning → Share → Meaning → Share → Option (List ℤ × List ℤ) → Type 0
BothAnswer l a r b None = Answers l a None ⊎ Answers r b None
BothAnswer l a r b (Some found) = Answers l a (Some found.0) × Answers r b (Some found.1)
