use Rattle.std.proofs.Common.{rules}
use Rattle.tenths.specs.Forms.{wide_at_most, wide_above}
use Rattle.tenths.proofs.holds.Goals as goal

pub returns-in-3 : goal.returns-in-3
returns-in-3 c =
    rw (c.from.ensures, c.from-2.ensures, c.from-in-3.ensures)
    (wide_at_most c.args.p.form c.args.p.constant c.args.x c.args.y (search rules) c.ranges.x c.ranges.y c.in-3.is)

pub returns-in-4 : goal.returns-in-4
returns-in-4 c =
    rw (c.from.ensures, c.from-2.ensures, c.from-in-4.ensures)
    (wide_above c.args.p.form c.args.p.constant c.args.x c.args.y (search rules) c.ranges.x c.ranges.y c.in-4.is)
