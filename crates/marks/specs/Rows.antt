-- What the rows of Marks say: forms 1 and 2 of one mark, forms 3 and 4 of two.
use Rattle.std.specs.Prelude.{◌≡◌, ℕ, ◌<◌, Bool, true, cond, not, List, length, pos, ◌==◌, ◌≢◌, slice_index, slice_index_or}
use Rattle.domain.specs.declared.predicate.Row.{Row}
use Rattle.marks.specs.Marks.{has, nat}
use Rattle.marks.specs.Choices.{Within}

abbrev pub nth_row : List Row → ℕ → Row
nth_row rows i = slice_index_or rows i (record { predicate = record { kind = 0; form = 0; constant = pos 0 }; first = 0; second = 0 })

-- a row of form 1 or 2 holds of the mark x; any other row says nothing of one mark
abbrev pub one : Row → ℕ → Bool
one r x = cond (r.predicate.form == 1) (has (nat r.predicate.constant) x) (cond (r.predicate.form == 2) (not (has (nat r.predicate.constant) x)) true)

-- a row of form 3 or 4 holds of the marks x and y; any other row says nothing of two marks
abbrev pub two : Row → ℕ → ℕ → Bool
two r x y = cond (r.predicate.form == 3) (x == y) (cond (r.predicate.form == 4) (not (x == y)) true)

-- what is known of a row once the lists are accepted
pub record Proper (r : Row) : Type 0 where
  pub first : r.first < 512
  pub second : (r.predicate.form ≢ 1) → (r.predicate.form ≢ 2) → r.second < 512
  pub constant : (r.predicate.constant ≡ pos (nat r.predicate.constant)) × (nat r.predicate.constant < 65536)

abbrev pub Ready : List Row → Type 0
Ready rows = (i : ℕ) → i < length rows → Proper (nth_row rows i)

-- a choice from the sets of which the rows of forms 3 and 4 hold
pub record Allowed (sets : List ℕ) (rows : List Row) (f : ℕ → ℕ) : Type 0 where
  pub within : Within sets f
  pub kept : (i : ℕ) → i < length rows → two (nth_row rows i) (f (nth_row rows i).first) (f (nth_row rows i).second) ≡ true

-- the first n rows of form 1 and 2 that speak of v hold of the mark x
abbrev pub Suits : List Row → ℕ → ℕ → ℕ → Type 0
Suits rows n v x = (i : ℕ) → i < n → (nth_row rows i).first ≡ v → one (nth_row rows i) x ≡ true

-- each set has exactly the marks that suit its variable by the first n rows
pub record Masked (rows : List Row) (n : ℕ) (sets : List ℕ) : Type 0 where
  pub size : length sets ≡ 512
  pub suits : (v x : ℕ) → v < 512 → x < 16 → has (slice_index sets v) x ≡ true → Suits rows n v x
  pub whole : (v x : ℕ) → v < 512 → x < 16 → Suits rows n v x → has (slice_index sets v) x ≡ true
