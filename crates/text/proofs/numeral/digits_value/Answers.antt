use Rattle.std.proofs.Common.{arith, rules}
use Rattle.text.proofs.Numerals.{reached, folded_all}
use Rattle.text.proofs.numeral.digits_value.Goals as goal

pub returns-in_err-checked_mul : goal.returns-in_err-checked_mul
returns-in_err-checked_mul c =
    let some = reached c.loop-d.n _ c.args.digits.now c.loop-d.d-index c.loop-d-test.true c.loop-d.invariant.1 in
    search rules

pub returns-in_err-n : goal.returns-in_err-n
returns-in_err-n c =
    let some = reached c.loop-d.n _ c.args.digits.now c.loop-d.d-index c.loop-d-test.true c.loop-d.invariant.1 in
    search rules

pub returns : goal.returns
returns c =
    let all = folded_all c.loop-d.n _ c.args.digits.now c.loop-d.d-index (search rules) c.loop-d.invariant.1 in
    (omega (arith, c.loop-d.invariant.0), all)
