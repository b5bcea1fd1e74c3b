use Rattle.std.proofs.Common.{◌≡◌, take}
use Rattle.sheet.specs.Totals.{tally}
use Rattle.sheet.proofs.counting.sum_up.Given as goal

abbrev pub invariant-loop-statement : goal.invariant-loop-statement
invariant-loop-statement l = l.totals ≡ tally (take l.statement-index l.statements)
