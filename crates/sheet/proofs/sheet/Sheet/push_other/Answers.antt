use Rattle.std.proofs.Common.{◌+◌, ◌<◌, length, refl, ap, ◌∙◌, arith}
use Rattle.sheet.specs.Layout.{in_force, rising, sound}
use Rattle.sheet.specs.Showing.{view}
use Rattle.sheet.proofs.Keeping.{other_shown, other_sound, room_for_other}
use Rattle.sheet.proofs.Marking.{rising_more}
use Rattle.sheet.proofs.Passing.{same_view}
use Rattle.sheet.proofs.sheet.Sheet.push_other.Goals as goal

pub push-requires : goal.push-requires
push-requires g c =
    let s = c.args.self.now in
    (omega arith, room_for_other s.forest s.objects s.statements.items s.held c.requires.room)

pub invariant_of-self : goal.invariant_of-self
invariant_of-self g c =
    let s = c.args.self.now in
    let xs = s.statements.items in
    let less : length xs < 320 = room_for_other s.forest s.objects xs s.held c.requires.room in
    record {
      few_objects = s.few_objects;
      few_opened = s.few_opened;
      few_open = s.few_open;
      few = omega (arith, c.push.ensures.len, less);
      ready = omega (arith, c.push.ensures.len, c.requires.ready);
      held =
          ap (sound s.forest s.objects) c.push.ensures.items
          ∙ other_sound s.forest s.objects xs c.args.statement c.requires.other s.held c.requires.room c.requires.values;
      marked = ap (λ n. rising 0 n s.trials.items) c.push.ensures.len ∙ rising_more 0 (length xs) (length xs + 1) s.trials.items (omega arith) s.marked;
    }

pub returns-clause-added : goal.returns-clause-added
returns-clause-added g c =
    let s = c.args.self.now in
    same_view (view s) s.opened
    (ap (in_force s.forest) c.push.ensures.items ∙ other_shown s.forest s.objects s.statements.items c.args.statement c.requires.other)
    refl
