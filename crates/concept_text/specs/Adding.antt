-- What a line adds to a sheet.
use Rattle.std.specs.Prelude.{◌≡◌, ℕ, ◌≤◌, List, [], ◌∷◌, ◌++◌, true, slice_index}
use Rattle.concept.specs.declared.node.Node.{Node}
use Rattle.text.specs.declared.bytes.Class.TheVariants.{Digit}
use Rattle.text.specs.Bytes.{in_class}
use Rattle.concept_text.specs.declared.sheet.Sheet.{Sheet}
use Rattle.concept_text.specs.Nodes.{Says}
use Rattle.concept_text.specs.Reading.{past, past_sign}

-- what was there stays in front
abbrev pub Extends : {T : Type 0} → List T → List T → Type 0
Extends {T} old new = (added : List T) × (new ≡ old ++ added)

-- one node more, which the line says after its place and a colon
abbrev pub AddsNode : List Node → List ℕ → List Node → Type 0
AddsNode old s new = (n : Node) × (new ≡ old ++ (n ∷ [])) × Says (past_sign (past Digit s)) n

-- a line that begins with a place adds its node
abbrev pub Adds : Sheet → List ℕ → Sheet → Type 0
Adds old s new = in_class Digit (slice_index s 0) ≡ true → AddsNode old.table.items s new.table.items

-- the plant has no more things than answers are given for
abbrev pub Few : Sheet → Type 0
Few sheet = sheet.plant.count ≤ 64
