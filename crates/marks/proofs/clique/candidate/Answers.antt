use Rattle.marks.proofs.Crowding.{candidate_new, candidate_kept}
use Rattle.marks.proofs.clique.candidate.Goals as goal
use Rattle.marks.proofs.clique.candidate.Goals.{then-near-v+then-marks-least, then-near-v+else-marks-least, else-near-v}

pub loop-v-preserved : goal.loop-v-preserved
loop-v-preserved c =
    elim c.if-near-v.branch [
      | then-near-v+then-marks-least w ↦
          candidate_new c.args.near.now c.args.size c.if-near-v.next c.loop-v.v w.next-is c.loop-v-test.true w.if-near-v.true
      | then-near-v+else-marks-least w ↦
          candidate_kept c.args.near.now c.args.size c.loop-v.next c.if-near-v.next w.next-is c.loop-v.invariant
      | else-near-v w ↦ candidate_kept c.args.near.now c.args.size c.loop-v.next c.if-near-v.next w.next-is c.loop-v.invariant
    ]
