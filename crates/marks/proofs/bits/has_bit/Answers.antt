use Rattle.std.proofs.Common.{refl}
use Rattle.marks.specs.Marks.{has}
use Rattle.marks.proofs.bits.has_bit.Goals as goal

pub returns : goal.returns
unfolding has
returns c = refl
