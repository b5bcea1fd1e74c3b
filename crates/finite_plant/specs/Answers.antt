-- The answers for the places of a table: a row for each place, in it one answer for each thing.
use Rattle.std.specs.Prelude.{◌≡◌, ℕ, ◌<◌, Bool, false, cond, ◌⊎◌, List, [], length, nat_lt, slice_index_or}
use Rattle.domain.specs.Meaning.{Meaning}
use Rattle.concept.specs.Concepts.{Concept}
use Rattle.concept.specs.Plants.{Plant, inside}
use Rattle.concept.specs.Tables.{below_at}

-- one answer for each thing: whether it lies in the concept
abbrev pub Members : Meaning → Plant → Concept → List Bool → Type 0
Members m plant c row = (x : ℕ) → x < plant.count → slice_index_or row x false ≡ inside m plant c x

-- for each of these concepts a row, with the things that lie in it
pub record Told (m : Meaning) (plant : Plant) (cs : List Concept) (rows : List (List Bool)) : Type 0 where
  pub each : length rows ≡ length cs
  pub right : (i : ℕ) → i < length cs → Members m plant (below_at cs i) (slice_index_or rows i [])

-- the answer for a thing at a place; a place without a row stands for the name 0
abbrev pub told_at : Plant → List (List Bool) → ℕ → ℕ → Bool
told_at plant rows i x = cond (nat_lt i (length rows)) (slice_index_or (slice_index_or rows i []) x false) (plant.named 0 x)

-- a table without nodes or of more than 64, or a plant of more than 64 things
abbrev pub Unfit : ℕ → ℕ → Type 0
Unfit nodes things = (nodes ≡ 0) ⊎ ((64 < nodes) ⊎ (64 < things))
