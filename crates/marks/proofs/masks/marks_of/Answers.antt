use Rattle.std.proofs.Common.{rules}
use Rattle.marks.proofs.Masking.{one_of_other}
use Rattle.marks.proofs.masks.marks_of.Goals as goal

pub returns-in_default : goal.returns-in_default
returns-in_default c x l = search (rules, one_of_other)
