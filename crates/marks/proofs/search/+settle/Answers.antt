use Rattle.std.proofs.Common.{arith, rules}
use Rattle.marks.proofs.Picking.{picked_listed}
use Rattle.marks.proofs.Searching.{next_mark, none_left, refuted_needless}
use Rattle.marks.proofs.Sharing.{fewer_shared}
use Rattle.marks.proofs.search.+settle.Goals as goal
use Rattle.marks.proofs.search.+settle.Goals.{in-Some-attempt+else-settle, in_default-attempt}

pub crowded-requires : goal.crowded-requires
crowded-requires t c = picked_listed c.args.sets.now c.args.apart.now c.in-Some.v c.in-Some.ensures

pub settle-requires : goal.settle-requires
settle-requires t c =
    let given = c.in-Some-attempt.ensures in
    let picked = c.in-Some.ensures in
    let less =
    fewer_shared c.args.sets.now c.in-Some-attempt.given c.args.apart.now c.in-Some.v c.loop-b.b picked.0 given
    (search rules) picked.1 picked.2 picked.3 in
    let m = c.decreases in
    (omega arith, given.full)

pub loop-b-preserved : goal.loop-b-preserved
loop-b-preserved t c =
    next_mark c.args.sets.now c.args.apart.now c.in-Some.v c.loop-b.b c.loop-b.invariant
    (elim c.match-attempt.branch [
      | in-Some-attempt+else-settle w ↦
          refuted_needless c.args.sets.now c.args.apart.now c.in-Some.v c.loop-b.b w.in-Some-attempt.given w.in-Some-attempt.ensures
          w.if-settle.ensures
      | in_default-attempt w ↦ w.in_default-attempt.ensures
    ])

pub returns : goal.returns
returns t c =
    let v = picked_listed c.args.sets.now c.args.apart.now c.in-Some.v c.in-Some.ensures in
    none_left c.args.sets.now c.args.apart.now c.in-Some.v c.loop-b.b (omega arith) c.loop-b-test.false c.loop-b.invariant
