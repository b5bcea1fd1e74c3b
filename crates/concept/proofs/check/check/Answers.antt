use Rattle.std.proofs.Common.{length, refl, arith}
use Rattle.std.proofs.lemmas.Result.{err_from_is_err_and}
use Rattle.concept.proofs.Going.{going_on, stopped, unrefused, all_are_lower, arrived}
use Rattle.concept.proofs.Refusing.{some_nodes, few_nodes, of_the_length}
use Rattle.concept.proofs.check.check.Goals as goal

pub returns-then-not-length_fits : goal.returns-then-not-length_fits
returns-then-not-length_fits g c = record {
  fault = of_the_length (g.D.Domain.meaning c.args.domain.now) c.args.kinds.now c.args.table.now c.if-not-length_fits.ensures;
  passed = tt;
}

pub returns-in_err-terms : goal.returns-in_err-terms
returns-in_err-terms g c =
    let p = err_from_is_err_and c.from_residual.result c.from_residual.ensures.1 in
    rw (p.1, p.2) (record {
      fault = stopped (g.D.Domain.meaning c.args.domain.now) c.args.kinds.now c.args.table.now c.if-not-length_fits.ensures
          c.loop-place.terms c.loop-place.place c.loop-place.invariant
          c.loop-place-test.true c.in_err-terms.field-0.0 c.in_err-terms.ensures.fault;
      passed = tt;
    })

pub loop-place-preserved : goal.loop-place-preserved
loop-place-preserved g c =
    going_on (g.D.Domain.meaning c.args.domain.now) c.args.kinds.now c.args.table.now c.if-not-length_fits.ensures
    c.loop-place.terms c.loop-place.place c.loop-place.invariant
    c.loop-place-test.true c.in_ok-terms.field-0 c.in_ok-terms.ensures.fault c.in_ok-terms.ensures.told

pub invariant_of-result : goal.invariant_of-result
invariant_of-result g c = record {
  some = some_nodes (length c.args.table.now) c.if-not-length_fits.ensures;
  few = few_nodes (length c.args.table.now) c.if-not-length_fits.ensures;
  lower = all_are_lower (g.D.Domain.meaning c.args.domain.now) c.args.kinds.now c.args.table.now c.if-not-length_fits.ensures
      c.loop-place.terms c.loop-place.place c.loop-place.invariant (omega arith);
}

pub returns : goal.returns
returns g c = record {
  fault = unrefused (g.D.Domain.meaning c.args.domain.now) c.args.kinds.now c.args.table.now c.if-not-length_fits.ensures
      c.loop-place.terms c.loop-place.place c.loop-place.invariant (omega arith);
  passed = arrived (g.D.Domain.meaning c.args.domain.now) c.args.kinds.now c.args.table.now c.if-not-length_fits.ensures
      c.loop-place.terms c.loop-place.place c.loop-place.invariant
      (omega arith) (g.met.D.Domain.lawful c.args.domain.now) _ refl refl;
}
