use Rattle.std.proofs.Common.{ap, ◌∙◌}
use Rattle.std.proofs.lemmas.Nat.{one_shl}
use Rattle.marks.specs.Marks.{has}
use Rattle.marks.proofs.Sets.{has_only}
use Rattle.marks.proofs.bits.only.Goals as goal

pub returns : goal.returns
returns c y = ap (λ m. has m y) (one_shl c.args.mark.number 16 c.args.mark.known) ∙ has_only c.args.mark.number y
