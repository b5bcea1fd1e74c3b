use Rattle.std.proofs.Common.{◌+◌, sym, refl, subst, ap, ◌∙◌}
use Rattle.marks.specs.Joins.{Paired}
use Rattle.marks.proofs.Pairing.{paired_skip, paired_more}
use Rattle.marks.proofs.join.list_pairs.Goals as goal
use Rattle.marks.proofs.join.list_pairs.Goals.{then-row-eq4+else-left-right, else-row-eq4}

pub loop-row-preserved : goal.loop-row-preserved
loop-row-preserved c =
    elim c.if-row-eq4.branch [
      | then-row-eq4+else-left-right w ↦
          subst (Paired c.args.rows.now.list.now c.args.roots.now.of _) (sym (ap (λ ps. ps.items) w.pairs-is ∙ w.push.ensures.items))
          (paired_more c.args.rows.now.list.now c.args.roots.now.of c.loop-row.row-index c.loop-row.pairs.items c.loop-row.invariant
          w.if-row-eq4.true _ refl refl)
      | else-row-eq4 w ↦
          subst (λ ps. Paired c.args.rows.now.list.now c.args.roots.now.of (c.loop-row.row-index + 1) ps.items) (sym w.pairs-is)
          (paired_skip c.args.rows.now.list.now c.args.roots.now.of c.loop-row.row-index c.loop-row.pairs.items c.loop-row.invariant
          w.if-row-eq4.false)
    ]
