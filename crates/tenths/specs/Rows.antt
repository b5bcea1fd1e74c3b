-- Rows as links, and the lowest choice of values.
use Rattle.std.specs.Prelude.{◌≡◌, ℕ, ◌+◌, ◌<◌, true, ◌⊎◌, List, length, take, drop, ℤ, pos, ◌-ℤ◌, ◌≤ℤ◌, Decides, slice_index_or}
use Rattle.domain.specs.declared.predicate.Outcome.{Outcome}
use Rattle.domain.specs.declared.predicate.Outcome.TheVariants.{Unsolvable, Solved}
use Rattle.domain.specs.declared.predicate.Row.{Row}
use Rattle.domain.specs.Meaning.{known}
use Rattle.domain.specs.Solving.{Chosen}
use Rattle.tenths.specs.declared.links.Link.{Link}
use Rattle.tenths.specs.Differences.{Keeps, Fair}
use Rattle.tenths.specs.Tenths.{tenths, says}

-- the value that a spot's number stands for
abbrev pub value : ℕ → ℤ
value b = pos b -ℤ pos 32768

-- the row's predicate is known, and its variables are among the first n
pub record Placed (n : ℕ) (row : Row) : Type 0 where
  pub known : known tenths row.predicate ≡ true
  pub first : row.first < n
  pub second : (tenths.arity row.predicate ≡ 1) ⊎ (row.second < n)

-- a link for a row over n variables: it is kept exactly where the row holds
pub record Stands (n : ℕ) (row : Row) (l : Link) : Type 0 where
  pub fair : Fair (n + 1) l
  pub means :
      (v : ℕ → ℕ) → v n ≡ 32768
      → Decides (says row.predicate.form row.predicate.constant (value (v row.first)) (value (v row.second))) (Keeps v l)

-- no choice has a lower value at any variable
abbrev pub LowestChoice : List ℕ → List Row → List ℤ → Type 0
LowestChoice kinds rows vs =
    (us : List ℤ) → Chosen tenths kinds rows us → (x : ℕ) → x < length kinds → slice_index_or vs x (pos 0) ≤ℤ slice_index_or us x (pos 0)

-- the lowest choice is written to the front of the buffer, or there is no choice and nothing is written
abbrev pub Chooses : List ℕ → List Row → List ℤ → List ℤ → Outcome → Type 0
Chooses kinds rows before after Unsolvable = ((vs : List ℤ) → Chosen tenths kinds rows vs → ⊥) × (after ≡ before)
Chooses kinds rows before after Solved =
    Chosen tenths kinds rows (take (length kinds) after) × LowestChoice kinds rows (take (length kinds) after)
    × (drop (length kinds) after ≡ drop (length kinds) before)
