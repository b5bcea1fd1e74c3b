use Rattle.std.proofs.Common.{◌≡◌, ◌∷◌, rules}
use Rattle.std.specs.Iterator.Adapters.{enumerate_source}
use Rattle.text.specs.Lines.{left_in}
use Rattle.limit_list.proofs.Listings.{taken_line}
use Rattle.limit_list.proofs.listing.read_list.Goals as goal

pub loop-index-preserved : goal.loop-index-preserved
loop-index-preserved c =
    let cut : left_in (enumerate_source c.loop-index.index-iterator) ≡ c.in-Some.line.now ∷ left_in (enumerate_source c.next.new.self) = search rules in
    (search rules, search rules, taken_line c.loop-index.invariant.2 c.in-Some.line.now _ cut _ _ (search rules) (search rules))
