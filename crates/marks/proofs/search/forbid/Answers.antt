use Rattle.marks.proofs.Giving.{none_but}
use Rattle.marks.proofs.search.forbid.Goals as goal

pub returns-then-rest-eq0 : goal.returns-then-rest-eq0
returns-then-rest-eq0 c = none_but c.args.set c.args.b.number c.without-rest.result c.without-rest.ensures c.if-rest-eq0.true
