use Rattle.std.proofs.Common.{length, refl, ap, ◌∙◌, ap₂, arith}
use Rattle.sheet.specs.Layout.{in_force, rising, sound}
use Rattle.sheet.specs.Views.{new_view}
use Rattle.sheet.proofs.Keeping.{none_in_force, none_sound}
use Rattle.sheet.proofs.Passing.{put}
use Rattle.sheet.proofs.sheet.Sheet.new.Goals as goal

pub invariant_of-result : goal.invariant_of-result
invariant_of-result g c =
    record {
      few_objects = omega arith;
      few_opened = omega arith;
      few_open = omega (arith, ap length c.new-3.ensures);
      few = omega (arith, ap length c.new-2.ensures);
      ready = omega (arith, ap length c.new-2.ensures);
      held = ap (sound c.new.result 0) c.new-2.ensures ∙ none_sound c.new.result 0 (ap length c.new.ensures);
      marked = ap₂ (rising 0) (ap length c.new-2.ensures) c.new-3.ensures;
    }

pub returns : goal.returns
returns g c =
    (ap₂ (λ ss ts. put new_view ss ts 0) (ap (in_force c.new.result) c.new-2.ensures ∙ none_in_force c.new.result) c.new-3.ensures, refl)
