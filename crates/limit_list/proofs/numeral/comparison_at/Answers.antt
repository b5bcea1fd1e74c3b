use Rattle.std.proofs.Common.{◌≡◌, rules}
use Rattle.limit_list.specs.Spelling.{number_of}
use Rattle.limit_list.proofs.numeral.comparison_at.Goals as goal

pub returns : goal.returns
returns c =
    let number : c.in_ok-comparison.comparison.number ≡ number_of c.args.s.now = search rules in
    (search rules, search rules, number, search rules)
