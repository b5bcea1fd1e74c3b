use Rattle.std.proofs.Common.{◌∙◌}
use Rattle.tenths.proofs.Sweeping.{sweep_more}
use Rattle.tenths.proofs.relax.Relaxation.round.Goals as goal

pub loop-link-preserved : goal.loop-link-preserved
loop-link-preserved c =
    let before = c.args.self.now in (
      c.relax-raised.ensures.links ∙ c.loop-link.invariant.0,
      sweep_more before.links.now before.bounds.items c.loop-link.self.bounds.items c.relax-raised.new.self.bounds.items c.loop-link.link-index c.loop-link.raised c.loop-link.invariant.1 c.loop-link-test.true before.fair c.relax-raised.result c.relax-raised.ensures.bounds,
    )
