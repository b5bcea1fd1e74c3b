use Rattle.std.proofs.Common.{◌≡◌, Some, rules}
use Rattle.limit_list.specs.Limits.{predicate_of}
use Rattle.limit_list.proofs.Standing.{stands_for}
use Rattle.limit_list.proofs.meaning.predicate_of.Goals as goal

pub returns : goal.returns
returns c =
    let v : Some _ ≡ predicate_of c.args.paired c.args.operator c.args.number = search rules in
    record { value = v; means = stands_for c.args.paired c.args.operator c.args.number _ v }
