use Rattle.std.proofs.Common.{◌+◌, length, sym, refl, ap, ◌∙◌, arith, rules}
use Rattle.std.proofs.lemmas.Result.{err_from_is_err_and}
use Rattle.concept.specs.Held.{root_forms}
use Rattle.sheet.specs.Layout.{in_force, rising, sound}
use Rattle.sheet.specs.Showing.{view}
use Rattle.sheet.proofs.Marking.{rising_more}
use Rattle.sheet.proofs.Passing.{same_view, some_object}
use Rattle.sheet.proofs.Replanting.{room_for_concept}
use Rattle.sheet.proofs.Answering.{faulty, full, small, crowded, passed, stored_sound, stored_shown}
use Rattle.sheet.proofs.sheet.Sheet.state.Goals as goal

pub returns-in_err-checked : goal.returns-in_err-checked
returns-in_err-checked g c =
    let s = c.args.self.now in
    let here = sym c.is_object.ensures ∙ c.if-not-is_object.false in
    let p = err_from_is_err_and c.from_residual.result c.from_residual.ensures.1 in
    rw (p.1, p.2)
    (faulty (g.D.Domain.meaning s.domain) s c.args.object c.args.table.now here c.in_err-checked.field-0.0 c.in_err-checked.ensures.fault, refl)

pub returns-in_default : goal.returns-in_default
returns-in_default g c =
    let s = c.args.self.now in
    let here = sym c.is_object.ensures ∙ c.if-not-is_object.false in
    (full (g.D.Domain.meaning s.domain) s c.args.object c.args.table.now here c.in_ok-checked.checked c.in_ok-checked.ensures.passed c.in_default.ensures.0, refl)

pub overflow_add-totals : goal.overflow_add-totals
overflow_add-totals g c =
    let s = c.args.self.now in
    let here = sym c.is_object.ensures ∙ c.if-not-is_object.false in
    let sums =
    small (g.D.Domain.meaning s.domain) s c.args.object c.args.table.now here c.in_ok-checked.checked c.in_ok-checked.ensures.passed c.in-Ok.ensures.0
    c.totals-totals.result c.count-counts.result c.totals-totals.ensures.counted c.count-counts.ensures in
    search rules

pub overflow_mul-self : goal.overflow_mul-self
overflow_mul-self g c =
    let s = c.args.self.now in
    let here = sym c.is_object.ensures ∙ c.if-not-is_object.false in
    let sums =
    small (g.D.Domain.meaning s.domain) s c.args.object c.args.table.now here c.in_ok-checked.checked c.in_ok-checked.ensures.passed c.in-Ok.ensures.0
    c.totals-totals.result c.count-counts.result c.totals-totals.ensures.counted c.count-counts.ensures in
    search rules

pub overflow_add-totals-2 : goal.overflow_add-totals-2
overflow_add-totals-2 g c =
    let s = c.args.self.now in
    let here = sym c.is_object.ensures ∙ c.if-not-is_object.false in
    let sums =
    small (g.D.Domain.meaning s.domain) s c.args.object c.args.table.now here c.in_ok-checked.checked c.in_ok-checked.ensures.passed c.in-Ok.ensures.0
    c.totals-totals.result c.count-counts.result c.totals-totals.ensures.counted c.count-counts.ensures in
    search rules

pub returns-then-totals-self-gt-MOST_VALUES : goal.returns-then-totals-self-gt-MOST_VALUES
returns-then-totals-self-gt-MOST_VALUES g c =
    let s = c.args.self.now in
    let here = sym c.is_object.ensures ∙ c.if-not-is_object.false in (
      crowded (g.D.Domain.meaning s.domain) s c.args.object c.args.table.now here c.in_ok-checked.checked c.in_ok-checked.ensures.passed c.in-Ok.ensures.0
          c.totals-totals.result c.count-counts.result c.totals-totals.ensures.counted c.count-counts.ensures c.if-totals-self-gt-MOST_VALUES.true,
      refl,
    )

pub push-requires : goal.push-requires
push-requires g c =
    let s = c.args.self.now in
    (omega arith, room_for_concept s.forest s.objects s.statements.items (root_forms c.in_ok-checked.checked).plain s.held c.in-Ok.ensures.0)

pub invariant_of-self : goal.invariant_of-self
invariant_of-self g c =
    let s = c.args.self.now in
    let here = sym c.is_object.ensures ∙ c.if-not-is_object.false in
    let xs = s.statements.items in
    let less = room_for_concept s.forest s.objects xs (root_forms c.in_ok-checked.checked).plain s.held c.in-Ok.ensures.0 in
    record {
      few_objects = s.few_objects;
      few_opened = s.few_opened;
      few_open = s.few_open;
      few = omega (arith, c.push.ensures.len, less);
      ready = omega (arith, c.push.ensures.len, some_object (view s) c.args.object here);
      held =
          ap (sound c.in-Ok.grown.0 s.objects) c.push.ensures.items
          ∙ stored_sound (g.D.Domain.meaning s.domain) s c.args.object c.args.table.now here c.in_ok-checked.checked c.in_ok-checked.ensures.passed c.in-Ok.ensures.0
          c.totals-totals.result c.count-counts.result c.totals-totals.ensures.counted c.count-counts.ensures c.if-totals-self-gt-MOST_VALUES.false c.in-Ok.grown.0 c.in-Ok.ensures.1;
      marked = ap (λ n. rising 0 n s.trials.items) c.push.ensures.len ∙ rising_more 0 (length xs) (length xs + 1) s.trials.items (omega arith) s.marked;
    }

pub returns : goal.returns
returns g c =
    let s = c.args.self.now in
    let m = g.D.Domain.meaning s.domain in
    let here = sym c.is_object.ensures ∙ c.if-not-is_object.false in (
      passed m s c.args.object c.args.table.now here c.in_ok-checked.checked c.in_ok-checked.ensures.passed c.in-Ok.ensures.0
          c.totals-totals.result c.count-counts.result c.totals-totals.ensures.counted c.count-counts.ensures c.if-totals-self-gt-MOST_VALUES.false,
      (
        same_view (view s) s.opened
            (ap (in_force c.in-Ok.grown.0) c.push.ensures.items
            ∙ stored_shown m s c.args.object c.args.table.now here c.in_ok-checked.checked c.in_ok-checked.ensures.passed c.in-Ok.ensures.0
            c.totals-totals.result c.count-counts.result c.totals-totals.ensures.counted c.count-counts.ensures c.if-totals-self-gt-MOST_VALUES.false c.in-Ok.grown.0 c.in-Ok.ensures.1)
            refl,
        refl,
      ),
    )
