use Rattle.std.proofs.Common.{◌≡◌, ◌≤◌, length, get_or, take, sym, ap, ◌∙◌, ap₂, subst, arith}
use Rattle.std.proofs.lemmas.List.{length-take-le}
use Rattle.sheet.specs.Layout.{rising}
use Rattle.sheet.specs.Showing.{view}
use Rattle.sheet.specs.Totals.{Small, tally}
use Rattle.sheet.specs.Views.{no_trial}
use Rattle.sheet.proofs.Keeping.{all_small}
use Rattle.sheet.proofs.Marking.{mark_within, rising_cut}
use Rattle.sheet.proofs.Passing.{drops, same_view}
use Rattle.sheet.proofs.Replanting.{dropped_shown, dropped_sound}
use Rattle.sheet.proofs.Summing.{front_small}
use Rattle.sheet.proofs.sheet.Sheet.drop_trial.Goals as goal

pub sum_up-filled-requires : goal.sum_up-filled-requires
sum_up-filled-requires g c =
    let s = c.args.self.now in
    let xs = s.statements.items in
    let mark = (get_or c.as_slice.result.now c.in-Some.place no_trial).mark in
    subst (λ ss. Small (tally ss)) (sym (c.as_slice-2.ensures.value ∙ c.truncate-2.ensures.items)) (front_small xs mark (all_small s.forest s.objects xs s.held))

pub invariant_of-self : goal.invariant_of-self
invariant_of-self g c =
    let s = c.args.self.now in
    let xs = s.statements.items in
    let ts = s.trials.items in
    let i = c.in-Some.place in
    let lt = c.in-Some.ensures.within in
    let mark = (get_or ts i no_trial).mark in
    let le : mark ≤ length xs = mark_within 0 (length xs) i ts no_trial lt s.marked in
    let left : c.truncate-2.new.self.items ≡ take mark xs = c.truncate-2.ensures.items ∙ ap (λ l. take (get_or l i no_trial).mark xs) c.as_slice.ensures.value in
    record {
      few_objects = s.few_objects;
      few_opened = s.few_opened;
      few_open = omega (arith, c.truncate.ensures.len, s.few_open);
      few = omega (arith, c.truncate-2.ensures.len, s.few);
      ready = omega (arith, c.truncate-2.ensures.len, s.ready);
      held =
          dropped_sound s.forest c.cut-self.result s.objects xs c.truncate-2.new.self.items mark c.sum_up-filled.result s.held left
          (c.sum_up-filled.ensures ∙ ap tally c.as_slice-2.ensures.value) c.cut-self.ensures;
      marked = ap₂ (rising 0) (ap length left ∙ length-take-le mark xs le) c.truncate.ensures.items ∙ rising_cut 0 (length xs) i ts no_trial lt s.marked;
    }

pub returns-clause-left : goal.returns-clause-left
returns-clause-left g c =
    let s = c.args.self.now in
    let xs = s.statements.items in
    let i = c.in-Some.place in
    let mark = (get_or s.trials.items i no_trial).mark in
    let left : c.truncate-2.new.self.items ≡ take mark xs = c.truncate-2.ensures.items ∙ ap (λ l. take (get_or l i no_trial).mark xs) c.as_slice.ensures.value in
    same_view (view s) s.opened
    (dropped_shown s.forest c.cut-self.result s.objects xs c.truncate-2.new.self.items mark c.sum_up-filled.result s.held left
    (c.sum_up-filled.ensures ∙ ap tally c.as_slice-2.ensures.value) c.cut-self.ensures)
    c.truncate.ensures.items
    ∙ sym (drops (view s) c.args.token.number i c.in-Some.ensures.first)
