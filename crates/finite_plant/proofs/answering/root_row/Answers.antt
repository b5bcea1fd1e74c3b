use Rattle.std.proofs.Common.{◌-◌, length, ap, ◌∙◌, arith}
use Rattle.std.specs.Prelude.{slice_get}
use Rattle.finite_plant.specs.Data.{plant_of}
use Rattle.finite_plant.proofs.Rows.{told_length, told_more, last_row}
use Rattle.finite_plant.proofs.answering.root_row.Goals as goal

pub push-requires : goal.push-requires
push-requires g c =
    let done = told_length (g.D.Domain.meaning c.args.domain.now) (plant_of c.args.plant.now) c.args.kinds.now c.args.table.now c.loop-node.node-index c.loop-node.answers.rows.items c.loop-node.invariant.1 (omega arith) in
    omega (arith, c.requires.short, done)

pub loop-node-preserved : goal.loop-node-preserved
loop-node-preserved g c =
    let was = c.loop-node.invariant.0 in
    let asked = c.push.ensures.asked in (
      (ap (λ r. r.now) asked.0 ∙ was.0, ap (λ r. r.now) asked.1 ∙ was.1, ap (λ r. r.now) asked.2 ∙ was.2),
      told_more g.D.Domain.meaning was.0 was.1 was.2 c.args.table.now c.loop-node.node-index _ c.loop-node.answers.rows.items c.push.new.self.rows.items
          c.loop-node-test.true c.loop-node.invariant.1 c.push.ensures.told,
    )

pub returns : goal.returns
returns g c =
    last_row (g.D.Domain.meaning c.args.domain.now) (plant_of c.args.plant.now) c.args.kinds.now c.args.table.now c.loop-node.node-index c.loop-node.answers.rows.items c.loop-node.invariant.1
    (omega arith) c.copied.result (c.copied.ensures ∙ (c.last.ensures.value ∙ ap (λ l. slice_get l (length l - 1)) c.as_slice.ensures.value))
