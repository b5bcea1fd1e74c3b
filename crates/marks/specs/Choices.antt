-- Choices of marks: a set of marks for each variable, and pairs of variables that must differ.
use Rattle.std.specs.Prelude.{◌≡◌, ℕ, ◌<◌, Bool, true, false, not, ◌&&◌, ◌⊎◌, List, length, Some, None, Option, MatchOption, ◌==◌, ◌≢◌, bit_and, slice_index, slice_index_or}
use Rattle.std.proofs.Common.{arith}
use Rattle.marks.specs.declared.pair.Pair.{Pair}
use Rattle.marks.specs.Marks.{has}

-- the set of a variable
abbrev pub set_of : List ℕ → ℕ → ℕ
set_of sets v = slice_index sets v

-- the pair that is read past the end of a list
abbrev pub no_pair : Pair
no_pair = record { left = 0; right = 0; left_listed = omega arith; right_listed = omega arith }

abbrev pub nth_pair : List Pair → ℕ → Pair
nth_pair pairs i = slice_index_or pairs i no_pair

-- each variable has a mark of its set
abbrev pub Within : List ℕ → (ℕ → ℕ) → Type 0
Within sets f = (v : ℕ) → v < length sets → (f v < 16) × (has (set_of sets v) (f v) ≡ true)

-- the two of each pair have different marks
abbrev pub Apart : List Pair → (ℕ → ℕ) → Type 0
Apart pairs f = (i : ℕ) → i < length pairs → f (nth_pair pairs i).left ≢ f (nth_pair pairs i).right

-- a choice of marks from the sets that keeps the pairs apart
pub record Fits (sets : List ℕ) (pairs : List Pair) (f : ℕ → ℕ) : Type 0 where
  pub within : Within sets f
  pub apart : Apart pairs f

-- no choice fits
pub record Hopeless (sets : List ℕ) (pairs : List Pair) : Type 0 where
  pub none : (f : ℕ → ℕ) → Fits sets pairs f → ⊥

-- each set has a mark, and none past 15
abbrev pub Full : List ℕ → Type 0
Full sets = (v : ℕ) → v < length sets → (0 < set_of sets v) × (set_of sets v < 65536)

-- the sets of the two share a mark
abbrev pub shares : List ℕ → Pair → Bool
shares sets p = not (bit_and (set_of sets p.left) (set_of sets p.right) == 0)

-- no set has a mark that it had not before
abbrev pub Narrowed : List ℕ → List ℕ → Type 0
Narrowed before after = (v x : ℕ) → x < 16 → has (set_of after v) x ≡ true → has (set_of before v) x ≡ true

-- sets from which any choice fits: each has a mark, and no pair shares one
pub record Settled (before : List ℕ) (pairs : List Pair) (after : List ℕ) : Type 0 where
  pub narrowed : Narrowed before after
  pub full : Full after
  pub disjoint : (i : ℕ) → i < length pairs → shares after (nth_pair pairs i) ≡ false

-- no choice from the sets gives v the mark b
abbrev pub Never : List ℕ → List Pair → ℕ → ℕ → Type 0
Never sets pairs v b = (f : ℕ → ℕ) → Fits sets pairs f → f v ≢ b

-- where a choice gives v the mark b, one gives it a lower mark
abbrev pub Needless : List ℕ → List Pair → ℕ → ℕ → Type 0
Needless sets pairs v b = (f : ℕ → ℕ) → Fits sets pairs f → f v ≡ b → (g : ℕ → ℕ) × Fits sets pairs g × (g v < b)

-- v is one of the pair
abbrev pub Touches : Pair → ℕ → Type 0
Touches p v = (p.left ≡ v) ⊎ (p.right ≡ v)

-- w is the other of the pair that v is one of; nothing where v is none of it
abbrev pub Other : Pair → ℕ → Option ℕ → Type 0
Other p v None = (p.left ≢ v) × (p.right ≢ v)
Other p v (Some w) = ((p.left ≡ v) × (p.right ≡ w)) ⊎ ((p.right ≡ v) × (p.left ≡ w))

-- the set has no mark but b
abbrev pub NoneBut : ℕ → ℕ → Type 0
NoneBut set b = (x : ℕ) → x < 16 → has set x ≡ true → x ≡ b

-- the rest of the set without the mark b, which has a mark
pub record Rest (set b rest : ℕ) : Type 0 where
  pub lost : (x : ℕ) → x < 16 → has rest x ≡ (has set x && not (x == b))
  pub some : 0 < rest

-- v has the mark b alone, and nothing that must differ from v has it
pub record Given (before : List ℕ) (pairs : List Pair) (v b : ℕ) (after : List ℕ) : Type 0 where
  pub narrowed : Narrowed before after
  pub full : Full after
  pub kept : (f : ℕ → ℕ) → Fits before pairs f → f v ≡ b → Fits after pairs f
  pub disjoint : (i : ℕ) → i < length pairs → Touches (nth_pair pairs i) v → shares after (nth_pair pairs i) ≡ false

-- one of the pairs that share a mark, if any does, has the variable that was picked
abbrev pub Picked : List ℕ → List Pair → Option ℕ → Type 0
Picked sets pairs picked =
    MatchOption picked ((i : ℕ) → i < length pairs → shares sets (nth_pair pairs i) ≡ false)
    (λ v. (i : ℕ) × (i < length pairs) × Touches (nth_pair pairs i) v × (shares sets (nth_pair pairs i) ≡ true))

-- the marks a and b stand in the same sets
abbrev pub Alike : List ℕ → ℕ → ℕ → Type 0
Alike sets a b = (v : ℕ) → v < length sets → has (set_of sets v) a ≡ has (set_of sets v) b
