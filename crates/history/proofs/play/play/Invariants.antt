use Rattle.std.proofs.Common.{length, take, vec_items}
use Rattle.history.specs.Tokens.{numbers}
use Rattle.history.proofs.Running.{Underway}
use Rattle.history.proofs.play.play.Given as goal

abbrev pub invariant-loop-call : goal.invariant-loop-call
invariant-loop-call g l =
    Underway (g.D.Domain.meaning l.initial.run.sheet.domain) l.initial.run.sheet.domain (numbers (vec_items l.initial.run.tokens)) (length l.calls) (take l.call-index l.calls) l.run
