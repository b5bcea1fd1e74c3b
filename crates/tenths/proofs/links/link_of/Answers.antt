use Rattle.std.proofs.Common.{rules}
use Rattle.tenths.proofs.Linking.{stands_at_most, stands_above, stands_apart_at_most, stands_apart_above}
use Rattle.tenths.proofs.links.link_of.Goals as goal

pub returns-in-1 : goal.returns-in-1
returns-in-1 c =
    stands_at_most c.args.zero c.args.row c.requires (search rules) c.new.result c.new.ensures.weight (search rules) c.new.ensures.tail c.new.ensures.head

pub returns-in-2 : goal.returns-in-2
returns-in-2 c =
    stands_above c.args.zero c.args.row c.requires (search rules) c.new-in-2.result c.new-in-2.ensures.weight (search rules) c.new-in-2.ensures.tail c.new-in-2.ensures.head

pub returns-in-3 : goal.returns-in-3
returns-in-3 c =
    stands_apart_at_most c.args.zero c.args.row c.requires (search rules) c.new-in-3.result c.new-in-3.ensures.weight (search rules) c.new-in-3.ensures.tail c.new-in-3.ensures.head

pub returns-in_default : goal.returns-in_default
returns-in_default c =
    stands_apart_above c.args.zero c.args.row c.requires (search rules) c.new-in_default.result c.new-in_default.ensures.weight (search rules) (search rules) (search rules) c.new-in_default.ensures.tail c.new-in_default.ensures.head
