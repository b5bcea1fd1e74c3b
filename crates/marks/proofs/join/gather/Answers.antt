use Rattle.std.proofs.Common.{sym, ◌∙◌, arith}
use Rattle.std.proofs.lemmas.List.{get_or-set_same}
use Rattle.marks.proofs.Gathering.{gathered_none, gathered_more, gathered_stuck}
use Rattle.marks.proofs.join.gather.Goals as goal

pub loop-v-init : goal.loop-v-init
loop-v-init c = gathered_none c.args.sets.now c.args.roots.now.of c.told-sets

pub returns-then-joined-root-eq0 : goal.returns-then-joined-root-eq0
returns-then-joined-root-eq0 c =
    let root = c.args.roots.now.listed c.loop-v.v c.loop-v-test.true in
    gathered_stuck c.args.sets.now c.args.roots.now.of c.told-sets c.loop-v.v c.loop-v.joined c.loop-v.invariant c.loop-v-test.true root
    (sym (get_or-set_same c.loop-v.joined _ _ 0 (omega arith)) ∙ c.if-joined-root-eq0.true)

pub loop-v-preserved : goal.loop-v-preserved
loop-v-preserved c =
    let root = c.args.roots.now.listed c.loop-v.v c.loop-v-test.true in
    gathered_more c.args.sets.now c.args.roots.now.of c.told-sets c.loop-v.v c.loop-v.joined c.loop-v.invariant c.loop-v-test.true root
    (λ e. c.if-joined-root-eq0.false (get_or-set_same c.loop-v.joined _ _ 0 (omega arith) ∙ e))
