use Rattle.std.proofs.Common.{length, ap, ◌∙◌, arith}
use Rattle.sheet.specs.Layout.{rising}
use Rattle.sheet.proofs.Marking.{rising_take}
use Rattle.sheet.proofs.sheet.Sheet.keep_trial.Goals as goal

pub invariant_of-self : goal.invariant_of-self
invariant_of-self g c =
    let s = c.args.self.now in
    let n = length s.statements.items in
    record {
      few_objects = s.few_objects;
      few_opened = s.few_opened;
      few_open = omega (arith, c.truncate.ensures.len, s.few_open);
      few = s.few;
      ready = s.ready;
      held = s.held;
      marked = ap (rising 0 n) c.truncate.ensures.items ∙ rising_take 0 n c.in-Some.place s.trials.items s.marked;
    }
