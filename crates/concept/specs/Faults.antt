-- The number and the place of each refusal of the table check.
use Rattle.std.specs.Prelude.{ℕ}
use Rattle.concept.specs.declared.fault.TableFault.{TableFault}
use Rattle.concept.specs.declared.fault.TableFault.TheVariants.{Length, Broken, Unfit}

abbrev pub number_of : TableFault → ℕ
number_of Length = 5
number_of (Broken i) = 6
number_of (Unfit i e) = 7

-- 0 where none is named
abbrev pub place_of : TableFault → ℕ
place_of Length = 0
place_of (Broken i) = i
place_of (Unfit i e) = i
