use Rattle.std.proofs.Common.{rules}
use Rattle.limit_list.proofs.Mentions.{already, added_name}
use Rattle.limit_list.proofs.listing.place_or_add.Goals as goal

pub returns-in-Some : goal.returns-in-Some
returns-in-Some c = already c.args.list.now c.args.name c.in-Some.place (search rules)

pub returns : goal.returns
returns c = added_name c.args.list.now c.args.name c.len-place.result _ (search rules) (search rules) (search rules) (search rules) (search rules)
