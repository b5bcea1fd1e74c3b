-- Variables that rows of form 3 make equal are joined: each has a root, and equal ones have the same.
use Rattle.std.specs.Prelude.{◌≡◌, ℕ, ◌<◌, ◌≤◌, true, cond, List, length, ◌==◌, ◌≢◌, slice_index}
use Rattle.domain.specs.declared.predicate.Row.{Row}
use Rattle.marks.specs.declared.pair.Pair.{Pair}
use Rattle.marks.specs.Marks.{has}
use Rattle.marks.specs.Choices.{Within, Apart, Full, set_of}
use Rattle.marks.specs.Rows.{nth_row}

-- the root of a variable
abbrev pub root_of : List ℕ → ℕ → ℕ
root_of roots v = slice_index roots v

-- the first n rows of form 3 hold
abbrev pub Equal : List Row → ℕ → (ℕ → ℕ) → Type 0
Equal rows n f = (i : ℕ) → i < n → (nth_row rows i).predicate.form ≡ 3 → f (nth_row rows i).first ≡ f (nth_row rows i).second

-- each variable has the mark of its root
abbrev pub Rooted : List ℕ → (ℕ → ℕ) → Type 0
Rooted roots f = (v : ℕ) → v < 512 → f v ≡ f (root_of roots v)

-- the roots after the first n rows
pub record Joined (rows : List Row) (n : ℕ) (roots : List ℕ) : Type 0 where
  pub size : length roots ≡ 512
  pub listed : (v : ℕ) → v < 512 → root_of roots v < 512
  pub rooted : (f : ℕ → ℕ) → Equal rows n f → Rooted roots f
  pub merged : Equal rows n (root_of roots)

-- one root in place of another
abbrev pub renamed : ℕ → ℕ → ℕ → ℕ
renamed from to r = cond (r == from) to r

-- the set of each root has the marks that all variables of that root may have, by the first n variables
pub record Gathered (sets roots : List ℕ) (n : ℕ) (joined : List ℕ) : Type 0 where
  pub size : length joined ≡ 512
  pub full : Full joined
  pub within : (f : ℕ → ℕ) → Rooted roots f → Within sets f → Within joined f
  pub narrow : (v x : ℕ) → v < n → x < 16 → has (set_of joined (root_of roots v)) x ≡ true → has (set_of sets v) x ≡ true

-- the roots that the first n rows of form 4 set apart
abbrev pub Unequal : List Row → List ℕ → ℕ → (ℕ → ℕ) → Type 0
Unequal rows roots n f =
    (i : ℕ) → i < n → (nth_row rows i).predicate.form ≡ 4
    → f (root_of roots (nth_row rows i).first) ≢ f (root_of roots (nth_row rows i).second)

-- the pairs are those roots
pub record Paired (rows : List Row) (roots : List ℕ) (n : ℕ) (pairs : List Pair) : Type 0 where
  pub within : length pairs ≤ n
  pub sound : (f : ℕ → ℕ) → Unequal rows roots n f → Apart pairs f
  pub whole : (f : ℕ → ℕ) → Apart pairs f → Unequal rows roots n f
