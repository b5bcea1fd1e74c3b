use Rattle.std.proofs.Common.{ap, ◌∙◌, rules}
use Rattle.std.proofs.lemmas.List.{take_all}
use Rattle.sheet.specs.Totals.{tally}
use Rattle.sheet.proofs.Summing.{tally_none, adds, adds_small}
use Rattle.sheet.proofs.counting.sum_up.Goals as goal

pub add-totals-requires : goal.add-totals-requires
add-totals-requires c =
    let ss = c.args.statements.now in
    let i = c.loop-statement.statement-index in
    let lt = c.loop-statement-test.true in
    adds_small ss i _ lt c.loop-statement.invariant c.weight.ensures c.requires

pub loop-statement-init : goal.loop-statement-init
loop-statement-init c = let none = tally_none in search rules

pub loop-statement-preserved : goal.loop-statement-preserved
loop-statement-preserved c =
    c.add-totals.ensures
    ∙ adds c.args.statements.now c.loop-statement.statement-index _ c.loop-statement-test.true c.loop-statement.invariant c.weight.ensures

pub returns : goal.returns
returns c = c.loop-statement.invariant ∙ ap tally (take_all c.loop-statement.statement-index c.args.statements.now c.loop-statement-test.false)
