use Rattle.std.proofs.Common.{◌≡◌, length, arith}
use Rattle.sheet.proofs.Keeping.{unstated_sound}
use Rattle.sheet.proofs.sheet.Sheet.set_up.Goals as goal

pub invariant_of-self : goal.invariant_of-self
invariant_of-self g c =
    let s = c.args.self.now in
    let ready = s.ready in
    let none : length s.statements.items ≡ 0 = omega arith in
    record {
      few_objects = omega arith;
      few_opened = s.few_opened;
      few_open = s.few_open;
      few = s.few;
      ready = omega arith;
      held = unstated_sound s.forest s.objects c.args.objects s.statements.items none s.held;
      marked = s.marked;
    }
