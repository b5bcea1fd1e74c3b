use Rattle.std.proofs.Common.{sym, subst, rules}
use Rattle.marks.specs.Cliques.{Differ, Nearer}
use Rattle.marks.proofs.Crowding.{nearer_more}
use Rattle.marks.proofs.Giving.{other_listed}
use Rattle.marks.proofs.Listing.{other_differs}
use Rattle.marks.proofs.clique.approach.Goals as goal
use Rattle.marks.proofs.clique.approach.Goals.{in-Some+then-near-w, in-Some+else-near-w, in_default}

pub loop-pair-preserved : goal.loop-pair-preserved
loop-pair-preserved c =
    let reason = Differ c.args.apart.now c.args.v in
    elim c.match-other.branch [
      | in-Some+then-near-w w ↦
          subst (Nearer reason c.args.size c.args.near.now) (sym w.near-is)
          (nearer_more reason w.in-Some.w c.args.size c.args.near.now c.loop-pair.near c.loop-pair.invariant (search rules)
          w.if-near-w.true (other_listed c.pair-item.result c.args.v w.in-Some.w w.in-Some.ensures)
          (other_differs c.args.apart.now c.loop-pair.pair-index _ c.loop-pair-test.true c.pair-item.is c.args.v _ w.in-Some.ensures))
      | in-Some+else-near-w w ↦ subst (Nearer reason c.args.size c.args.near.now) (sym w.near-is) c.loop-pair.invariant
      | in_default w ↦ subst (Nearer reason c.args.size c.args.near.now) (sym w.near-is) c.loop-pair.invariant
    ]
