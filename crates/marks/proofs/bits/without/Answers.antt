use Rattle.std.proofs.Common.{not, ◌&&◌, ap, ◌∙◌}
use Rattle.marks.specs.Marks.{has}
use Rattle.marks.proofs.Sets.{has_and}
use Rattle.marks.proofs.bits.without.Goals as goal

pub returns : goal.returns
returns c y h =
    has_and c.args.set c.complement.result y
    ∙ ap (λ b. has c.args.set y && b) (c.complement.ensures y h ∙ ap not (c.only.ensures y))
