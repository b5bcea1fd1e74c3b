use Rattle.std.proofs.Common.{length, refl, ◌∙◌, arith}
use Rattle.tenths.specs.Relaxing.{Sweep}
use Rattle.tenths.proofs.Sweeping.{turns_none, turns_more, turns_calm, turns_out}
use Rattle.tenths.proofs.relax.Relaxation.settle.Goals as goal

pub loop-turn-init : goal.loop-turn-init
loop-turn-init c = let before = c.args.self.now in (refl, turns_none before.links.now before.bounds.items before.some before.under)

pub returns-then-not-round-clause-bounds : goal.returns-then-not-round-clause-bounds
returns-then-not-round-clause-bounds c =
    let before = c.args.self.now in
    let swept : Sweep before.links.now c.loop-turn.self.bounds.items c.round.new.self.bounds.items (length before.links.now) c.round.result = rw c.loop-turn.invariant.0 at c.round.ensures.bounds in
    turns_calm before.links.now before.bounds.items before.some c.loop-turn.self.bounds.items c.round.new.self.bounds.items c.loop-turn._turn c.loop-turn.invariant.1 c.round.result c.if-not-round.true swept

pub loop-turn-preserved : goal.loop-turn-preserved
loop-turn-preserved c =
    let before = c.args.self.now in
    let swept : Sweep before.links.now c.loop-turn.self.bounds.items c.round.new.self.bounds.items (length before.links.now) c.round.result = rw c.loop-turn.invariant.0 at c.round.ensures.bounds in (
      c.round.ensures.links ∙ c.loop-turn.invariant.0,
      turns_more before.links.now before.bounds.items before.some c.loop-turn.self.bounds.items c.round.new.self.bounds.items c.loop-turn._turn c.loop-turn.invariant.1 before.fair c.round.result c.if-not-round.false swept,
    )

pub returns-clause-bounds : goal.returns-clause-bounds
returns-clause-bounds c =
    let before = c.args.self.now in
    turns_out before.links.now before.bounds.items before.some c.loop-turn.self.bounds.items c.loop-turn.self.bounds.items c.loop-turn._turn c.loop-turn.invariant.1 (omega arith)
