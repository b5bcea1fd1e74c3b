use Rattle.std.proofs.Common.{sym, ap, ◌∙◌, subst}
use Rattle.sheet.specs.Totals.{Small, tally}
use Rattle.sheet.proofs.Keeping.{all_small, totals_right, values_small}
use Rattle.sheet.proofs.sheet.Sheet.totals.Goals as goal

pub sum_up-requires : goal.sum_up-requires
sum_up-requires g c =
    let s = c.args.self.now in
    subst (λ ss. Small (tally ss)) (sym c.as_slice.ensures.value) (all_small s.forest s.objects s.statements.items s.held)

pub returns : goal.returns
returns g c =
    let s = c.args.self.now in
    let counted = c.sum_up.ensures ∙ (ap tally c.as_slice.ensures.value ∙ sym (totals_right s.forest s.objects s.statements.items s.held)) in
    record { counted = counted; within = values_small s.forest s.objects s.statements.items c.sum_up.result s.held counted }
