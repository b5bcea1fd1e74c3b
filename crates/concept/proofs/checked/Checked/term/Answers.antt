use Rattle.std.proofs.Common.{◌≡◌, ◌≤◌, length, arith, rules}
use Rattle.concept.specs.declared.term.Term.TheVariants.{Atom}
use Rattle.concept.specs.Held.{table_forms}
use Rattle.concept.proofs.Places.{lower_at, forms_term}
use Rattle.concept.proofs.checked.Checked.term.Goals as goal

pub returns : goal.returns
unfolding table_forms
returns c =
    let table = c.args.self.now in
    let n : length table.terms ≡ 64 = search rules in
    let few : table.len ≤ 64 = table.few in
    record {
      lower_only = lower_at table.terms table.len (omega arith) table.lower c.args.place (Atom 0) c.requires;
      form = forms_term table.terms table.len (omega arith) table.lower c.args.place (Atom 0) c.requires;
    }
