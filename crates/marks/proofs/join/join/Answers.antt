use Rattle.std.proofs.Common.{sym, subst, arith, rules}
use Rattle.marks.specs.Joins.{Joined}
use Rattle.marks.proofs.Joining.{joined_none, joined_skip, joined_more}
use Rattle.marks.proofs.join.join.Goals as goal
use Rattle.marks.proofs.join.join.Goals.{then-row-eq3, else-row-eq3}

pub loop-row-init : goal.loop-row-init
loop-row-init c =
    joined_none c.args.rows.now.list.now c.from_fn-roots.result c.from_fn-roots.ensures.items.long (λ v l. let k = c.from_fn-roots.ensures.items.at v 0 l in search rules)

pub loop-row-preserved : goal.loop-row-preserved
loop-row-preserved c =
    elim c.if-row-eq3.branch [
      | then-row-eq3 w ↦
          subst (Joined c.args.rows.now.list.now _) (sym w.roots-is)
          (joined_more c.args.rows.now.list.now c.loop-row.row-index c.loop-row.roots c.loop-row.invariant w.rename.new.roots c.args.rows.now.ready
          c.loop-row-test.true w.if-row-eq3.true (omega arith) w.rename.ensures)
      | else-row-eq3 w ↦
          subst (Joined c.args.rows.now.list.now _) (sym w.roots-is)
          (joined_skip c.args.rows.now.list.now c.loop-row.row-index c.loop-row.roots c.loop-row.invariant w.if-row-eq3.false)
    ]
