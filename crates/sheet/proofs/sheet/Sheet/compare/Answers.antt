use Rattle.std.proofs.Common.{◌≡◌, rules}
use Rattle.sheet.specs.Showing.{view}
use Rattle.sheet.proofs.Accepting.{kinds_set}
use Rattle.sheet.proofs.Passing.{some_objects}
use Rattle.sheet.proofs.sheet.Sheet.compare.Goals as goal

pub returns : goal.returns
returns g c =
    let s = c.args.self.now in
    let here = some_objects (view s) c.args.left.object c.args.right.object (search rules) in
    let ks : (view s).kinds ≡ s.kinds = kinds_set s.objects s.kinds here in
    search rules
