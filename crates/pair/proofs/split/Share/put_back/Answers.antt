use Rattle.std.proofs.Common.{sym, ◌∙◌, arith, rules}
use Rattle.pair.specs.Split.{number}
use Rattle.pair.proofs.Putting.{put_more, put_skip}
use Rattle.pair.proofs.split.Share.put_back.Goals as goal
use Rattle.pair.proofs.split.Share.put_back.Goals.{then-has, else-has}

pub loop-i-preserved : goal.loop-i-preserved
loop-i-preserved c =
    elim c.if-has.branch [
      | then-has w ↦ simp w.values-is
          (put_more (number c.args.self.now.side) c.args.kinds.now c.args.self.now.places.items c.args.found.now c.args.values.now c.loop-i.values c.loop-i.i c.loop-i.invariant
          _ (omega arith) (sym c.has.ensures ∙ w.if-has.true) (search rules))
      | else-has w ↦ simp w.values-is
          (put_skip (number c.args.self.now.side) c.args.kinds.now c.args.self.now.places.items c.args.found.now c.args.values.now c.loop-i.values c.loop-i.i c.loop-i.invariant
          (sym c.has.ensures ∙ w.if-has.false))
    ]
