-- The number and the place of each refusal.
use Rattle.std.specs.Prelude.{ℕ}
use Rattle.domain.specs.declared.refusal.Refusal.{Refusal}
use Rattle.domain.specs.declared.refusal.Refusal.TheVariants.{Unknown, TooMany, UnknownKind, UnfitRow, ShortBuffer}

abbrev pub number_of : Refusal → ℕ
number_of (Unknown p) = 16
number_of TooMany = 17
number_of (UnknownKind i) = 18
number_of (UnfitRow i) = 19
number_of ShortBuffer = 20

-- 0 where none is named
abbrev pub place_of : Refusal → ℕ
place_of (Unknown p) = 0
place_of TooMany = 0
place_of (UnknownKind i) = i
place_of (UnfitRow i) = i
place_of ShortBuffer = 0
