use Rattle.marks.proofs.Masking.{masked_none, masked_more}
use Rattle.marks.proofs.masks.allow.Goals as goal

pub loop-row-init : goal.loop-row-init
loop-row-init c = masked_none c.args.rows.now.list.now

pub loop-row-preserved : goal.loop-row-preserved
loop-row-preserved c =
    masked_more c.args.rows.now.list.now c.loop-row.row-index c.loop-row.sets c.loop-row.invariant c.marks_of.result
    (c.args.rows.now.ready c.loop-row.row-index c.loop-row-test.true).first c.marks_of.ensures
