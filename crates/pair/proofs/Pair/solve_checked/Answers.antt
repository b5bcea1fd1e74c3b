use Rattle.std.proofs.Common.{refl, arith}
use Rattle.pair.proofs.Sharing.{share_asks, share_ranked, both_unsolvable, both_solved}
use Rattle.pair.proofs.Pair.solve_checked.Goals as goal

pub ask_both-requires-clause-left : goal.ask_both-requires-clause-left
ask_both-requires-clause-left g c =
    share_asks 0 c.args.kinds.now c.args.rows.now c.of-left.result c.of-left.ensures
    (g.L.Domain.meaning c.args.self.now.left) (g.R.Domain.meaning c.args.self.now.right)
    (g.met.L.Domain.lawful c.args.self.now.left) (g.met.R.Domain.lawful c.args.self.now.right) _ c.requires

pub ask_both-requires-clause-right : goal.ask_both-requires-clause-right
ask_both-requires-clause-right g c =
    share_asks 1 c.args.kinds.now c.args.rows.now c.of-right.result c.of-right.ensures
    (g.L.Domain.meaning c.args.self.now.left) (g.R.Domain.meaning c.args.self.now.right)
    (g.met.L.Domain.lawful c.args.self.now.left) (g.met.R.Domain.lawful c.args.self.now.right) _ c.requires

pub put_back-requires-clause-ranked : goal.put_back-requires-clause-ranked
put_back-requires-clause-ranked g c =
    share_ranked 0 c.args.kinds.now c.args.rows.now c.of-left.result c.of-left.ensures (g.L.Domain.meaning c.args.self.now.left) c.in-Some.found.0 c.in-Some.ensures.answers.0

pub put_back-requires-in-Some-clause-ranked : goal.put_back-requires-in-Some-clause-ranked
put_back-requires-in-Some-clause-ranked g c =
    share_ranked 1 c.args.kinds.now c.args.rows.now c.of-right.result c.of-right.ensures (g.R.Domain.meaning c.args.self.now.right) c.in-Some.found.1 c.in-Some.ensures.answers.1

pub returns-in-None-clause-settles : goal.returns-in-None-clause-settles
returns-in-None-clause-settles g c = (
  both_unsolvable
      (g.L.Domain.meaning c.args.self.now.left) (g.R.Domain.meaning c.args.self.now.right)
      (g.met.L.Domain.lawful c.args.self.now.left) (g.met.R.Domain.lawful c.args.self.now.right)
      c.args.kinds.now c.args.rows.now _ c.requires c.of-left.result c.of-right.result c.of-left.ensures c.of-right.ensures c.in-None.ensures.answers,
  refl,
)

pub returns-in-Some-clause-settles : goal.returns-in-Some-clause-settles
returns-in-Some-clause-settles g c =
    both_solved
    (g.L.Domain.meaning c.args.self.now.left) (g.R.Domain.meaning c.args.self.now.right)
    (g.met.L.Domain.lawful c.args.self.now.left) (g.met.R.Domain.lawful c.args.self.now.right)
    c.args.kinds.now c.args.rows.now _ c.requires c.of-left.result c.of-right.result c.of-left.ensures c.of-right.ensures
    c.in-Some.found.0 c.in-Some.found.1 c.args.values.now c.put_back.new.values c.put_back-in-Some.new.values
    c.in-Some.ensures.answers c.put_back.ensures c.put_back-in-Some.ensures (omega (arith, c.requires.enough_room))
