use Rattle.std.proofs.Common.{arith}
use Rattle.marks.proofs.Sets.{has_not}
use Rattle.marks.proofs.bits.complement.Goals as goal

pub returns : goal.returns
returns c y h = has_not 16 c.args.set y (omega arith) h
