use Rattle.std.proofs.Common.{sym, ◌∙◌}
use Rattle.sheet.proofs.Keeping.{length_in_force}
use Rattle.sheet.proofs.sheet.Sheet.len.Goals as goal

pub returns : goal.returns
returns g c =
    let s = c.args.self.now in
    c.len.ensures.value ∙ sym (length_in_force s.forest s.statements.items)
