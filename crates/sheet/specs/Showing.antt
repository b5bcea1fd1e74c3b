-- What a sheet's fields hold.
use Rattle.std.specs.Prelude.{◌≡◌, cond, [], Some, None, Ok, Err, Option, Result, ◌==◌}
use Rattle.sheet.specs.declared.refusal.Refusal.{Refusal}
use Rattle.sheet.specs.declared.sheet.Sheet.{Sheet}
use Rattle.sheet.specs.Layout.{in_force}
use Rattle.sheet.specs.Views.{View}

abbrev pub view : {D : Type 0} → Sheet D → View
view s = record {
  objects = s.objects;
  kinds = cond (s.objects == 0) [] s.kinds;
  statements = in_force s.forest s.statements.items;
  trials = s.trials.items;
  opened = s.opened;
}

-- what a call that adds to a sheet promises: refused, with the first refusal that applies and the sheet as it was, or done
abbrev pub Acts : {D A : Type 0} → Sheet D → Sheet D → Option Refusal → View → Result A Refusal → Type 0
Acts before after refusal next (Ok a) = (refusal ≡ None) × ((view after ≡ next) × (after.domain ≡ before.domain))
Acts before after refusal next (Err e) = (refusal ≡ Some e) × (after ≡ before)
