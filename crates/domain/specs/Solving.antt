-- Choices of values for a list of variables, and what `solve` promises.
use Rattle.std.specs.Prelude.{◌≡◌, ℕ, ◌<◌, ◌≤◌, Bool, true, false, not, ◌&&◌, ◌||◌, List, length, take, drop, ℤ, pos, Some, None, Ok, Err, Option, Result, ◌==◌, nat_lt, slice_index, slice_index_or}
use Rattle.std.specs.List.{All, AllPass, position}
use Rattle.domain.specs.declared.predicate.Row.{Row}
use Rattle.domain.specs.declared.predicate.Outcome.{Outcome}
use Rattle.domain.specs.declared.predicate.Outcome.TheVariants.{Unsolvable, Solved}
use Rattle.domain.specs.declared.refusal.Refusal.{Refusal}
use Rattle.domain.specs.declared.refusal.Refusal.TheVariants.{TooMany, UnknownKind, UnfitRow, ShortBuffer}
use Rattle.domain.specs.Meaning.{Meaning, known, tested}

-- a row holds of a list of values, one for each variable
abbrev pub Kept : Meaning → List ℤ → Row → Type 0
Kept m vs r = tested m r.predicate (slice_index_or vs r.first (pos 0)) (slice_index_or vs r.second (pos 0)) ≡ true

-- one value of its kind for each variable, so that every row holds
pub record Chosen (m : Meaning) (kinds : List ℕ) (rows : List Row) (vs : List ℤ) : Type 0 where
  pub one_each : length vs ≡ length kinds
  pub of_kind : (i : ℕ) → i < length kinds → m.within (slice_index kinds i) (slice_index_or vs i (pos 0)) ≡ true
  pub kept : All (Kept m vs) rows

-- the place names a variable of this kind
abbrev pub names : List ℕ → ℕ → ℕ → Bool
names kinds k i = nat_lt i (length kinds) && slice_index kinds i == k

-- the row's predicate is known, and its variables are listed and of the predicate's kind
abbrev pub fit : Meaning → List ℕ → Row → Bool
fit m kinds r =
    known m r.predicate && (names kinds r.predicate.kind r.first && (m.arity r.predicate == 1 || names kinds r.predicate.kind r.second))

-- the place of the first that fails a test
abbrev pub first_failing : {A : Type 0} → (A → Bool) → List A → Option ℕ
first_failing test xs = position (λ x. not (test x)) xs

abbrev pub else_at : Option ℕ → (ℕ → Refusal) → Option Refusal → Option Refusal
else_at None refuse next = next
else_at (Some i) refuse next = Some (refuse i)

abbrev pub else_if : Bool → Refusal → Option Refusal → Option Refusal
else_if true refusal next = Some refusal
else_if false refusal next = next

-- the refusal of a call of `solve` with these lists and this many entries in the buffer: the first that applies, if any
unfoldable pub refusal_of : Meaning → List ℕ → List Row → ℕ → Option Refusal
refusal_of m kinds rows room =
    else_if (nat_lt 256 (length rows) || nat_lt 512 (length kinds)) TooMany
    (else_at (first_failing m.knows kinds) UnknownKind
    (else_at (first_failing (fit m kinds) rows) UnfitRow
    (else_if (nat_lt room (length kinds)) ShortBuffer None)))

-- what stands once no refusal applies
pub record Accepted (m : Meaning) (kinds : List ℕ) (rows : List Row) (room : ℕ) : Type 0 where
  pub few_rows : length rows ≤ 256
  pub few_variables : length kinds ≤ 512
  pub known_kinds : AllPass m.knows kinds
  pub fit_rows : AllPass (fit m kinds) rows
  pub enough_room : length kinds ≤ room

-- what `solve` promises of its answer and of the buffer, before and after
abbrev pub Solves : Meaning → List ℕ → List Row → List ℤ → List ℤ → Result Outcome Refusal → Type 0
Solves m kinds rows before after (Err e) = (refusal_of m kinds rows (length before) ≡ Some e) × (after ≡ before)
Solves m kinds rows before after (Ok Unsolvable) =
    (refusal_of m kinds rows (length before) ≡ None) × ((vs : List ℤ) → Chosen m kinds rows vs → ⊥) × (after ≡ before)
Solves m kinds rows before after (Ok Solved) =
    (refusal_of m kinds rows (length before) ≡ None) × Chosen m kinds rows (take (length kinds) after)
    × (drop (length kinds) after ≡ drop (length kinds) before)
