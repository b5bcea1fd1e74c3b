use Rattle.std.proofs.Common.{◌≡◌, ◌+◌, length, true, false, ap, refl, ◌∙◌}
use Rattle.tenths.specs.Relaxing.{Lowest}
use Rattle.tenths.proofs.Choosing.{all_fair, choice_potential, first_low, chooses}
use Rattle.tenths.proofs.Lowest.{started_size, lowest_over}
use Rattle.tenths.proofs.choose.choose.Goals as goal

pub start-relaxation-requires-clause-fair : goal.start-relaxation-requires-clause-fair
start-relaxation-requires-clause-fair c =
    rw c.deref.ensures.0 (all_fair c.args.kinds.now c.args.rows.now (length c.args.values.now) c.requires c.fill_links.new.links.items c.fill_links.ensures)

pub returns-then-not-lowest : goal.returns-then-not-lowest
returns-then-not-lowest c =
    let n = length c.args.kinds.now in
    let links = c.fill_links.new.links.items in
    let first = c.start-relaxation.result in
    let after = c.lowest.new.self.bounds.items in
    let none : Lowest n links after false = lowest_over n links first.links.now first.bounds.items after c.lowest.result false (c.start-relaxation.ensures.links ∙ c.deref.ensures.0) c.start-relaxation.ensures.bounds c.if-not-lowest.true c.lowest.ensures.lowest in
    (λ vs ch. none _ (choice_potential c.args.kinds.now c.args.rows.now (length c.args.values.now) c.requires links c.fill_links.ensures vs ch), refl)

pub write_values-requires-clause-low : goal.write_values-requires-clause-low
write_values-requires-clause-low c =
    let n = length c.args.kinds.now in
    let links = c.fill_links.new.links.items in
    let first = c.start-relaxation.result in
    let after = c.lowest.new.self.bounds.items in
    let spots : length after ≡ n + 1 = c.lowest.ensures.spots ∙ (ap length c.start-relaxation.ensures.bounds ∙ started_size n) in
    let some : Lowest n links after true = lowest_over n links first.links.now first.bounds.items after c.lowest.result true (c.start-relaxation.ensures.links ∙ c.deref.ensures.0) c.start-relaxation.ensures.bounds c.if-not-lowest.false c.lowest.ensures.lowest in
    rw c.deref-2.ensures.0 (first_low c.args.kinds.now c.args.rows.now (length c.args.values.now) c.requires links c.fill_links.ensures after spots some.0)

pub returns : goal.returns
returns c =
    let n = length c.args.kinds.now in
    let links = c.fill_links.new.links.items in
    let first = c.start-relaxation.result in
    let after = c.lowest.new.self.bounds.items in
    let spots : length after ≡ n + 1 = c.lowest.ensures.spots ∙ (ap length c.start-relaxation.ensures.bounds ∙ started_size n) in
    let some : Lowest n links after true = lowest_over n links first.links.now first.bounds.items after c.lowest.result true (c.start-relaxation.ensures.links ∙ c.deref.ensures.0) c.start-relaxation.ensures.bounds c.if-not-lowest.false c.lowest.ensures.lowest in
    chooses c.args.kinds.now c.args.rows.now (length c.args.values.now) c.requires links c.fill_links.ensures after spots some.0 some.1
    c.args.values.now c.write_values.new.values (rw c.deref-2.ensures.0 at c.write_values.ensures)
