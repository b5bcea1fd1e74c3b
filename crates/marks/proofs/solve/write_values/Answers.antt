use Rattle.std.proofs.Common.{get_or, pos, ◌∙◌, arith, w32, below_more}
use Rattle.std.proofs.lemmas.List.{get_or-set_same, get_or-set_other}
use Rattle.std.proofs.lemmas.Int.{to_z_pos}
use Rattle.marks.proofs.solve.write_values.Goals as goal

pub loop-v-preserved : goal.loop-v-preserved
loop-v-preserved c =
    let mark = c.requires.marks c.loop-v.v (omega arith) in
    below_more _ c.loop-v.v
    (λ w l. get_or-set_other c.loop-v.values c.loop-v.v w _ (pos 0) (omega arith) ∙ c.loop-v.invariant w l)
    (get_or-set_same c.loop-v.values c.loop-v.v _ (pos 0) (omega arith) ∙ to_z_pos w32 (get_or c.args.choice.now c.loop-v.v 0) (omega arith))
