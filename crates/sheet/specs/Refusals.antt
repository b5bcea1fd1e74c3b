-- The number and the place of each refusal of a sheet.
use Rattle.std.specs.Prelude.{ℕ}
use Rattle.concept.specs.Faults as table
use Rattle.sheet.specs.declared.refusal.Refusal.{Refusal}
use Rattle.sheet.specs.declared.refusal.Refusal.TheVariants.{SetUpBefore, Objects, Kinds, Object, Stating, Comparing, Nodes, Values, Relation, Others, Feature, Trials}

abbrev pub number_of : Refusal → ℕ
number_of SetUpBefore = 1
number_of Objects = 2
number_of (Kinds i) = 3
number_of Object = 4
number_of (Stating e) = table.number_of e
number_of (Comparing e) = 7
number_of Nodes = 8
number_of Values = 9
number_of Relation = 10
number_of Others = 11
number_of Feature = 12
number_of Trials = 13

-- 0 where none is named
abbrev pub place_of : Refusal → ℕ
place_of SetUpBefore = 0
place_of Objects = 0
place_of (Kinds i) = i
place_of Object = 0
place_of (Stating e) = table.place_of e
place_of (Comparing e) = 0
place_of Nodes = 0
place_of Values = 0
place_of Relation = 0
place_of Others = 0
place_of Feature = 0
place_of Trials = 0
