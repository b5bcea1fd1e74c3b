use Rattle.std.proofs.Common.{◌≡◌, Some, None, get_or, vec_items, refl, ap, subst}
use Rattle.history.specs.declared.call.Answer.TheVariants.{Closed}
use Rattle.history.specs.Tokens.{numbers}
use Rattle.history.specs.Runs.{ClosedBy}
use Rattle.history.proofs.run.Run.spend.Goals as goal

pub returns-in-Some-clause-closed : goal.returns-in-Some-clause-closed
returns-in-Some-clause-closed g c =
    let s = c.args.self.now in
    let here : Some c.in-Some.token.number ≡ get_or (numbers (vec_items s.tokens)) c.args.place None =
    rw (← c.as_mut_slice.ensures.value) c.in-Some.ensures.taken in
    subst (λ o. ClosedBy g.F.FnOnce c.args.close s.sheet o c.close.new.arg2 (Closed c.number.result c.close.result)) here (
      c.in-Some.token,
      c.close.result,
      refl,
      ap (λ k. Closed k c.close.result) c.number.ensures,
      record { lent = _; shows = refl; left = _; met = c.close.ensures; leaves = refl },
    )
