use Rattle.std.proofs.Common.{ℕ, Bool, ◌&&◌, refl, ap, ◌∙◌, arith, rules}
use Rattle.std.proofs.lemmas.Iterator.{YieldsList-from_range}
use Rattle.std.proofs.lemmas.Iterator.Search.{any_from_yields_List}
use borrow.Author.Tests.{tests}
use Rattle.concept.specs.Plants.{Plant, related}
use Rattle.finite_plant.specs.Answers.{told_at}
use Rattle.finite_plant.specs.Data.{plant_of}
use Rattle.finite_plant.proofs.Below.{any_same, any_range}
use Rattle.finite_plant.proofs.Rows.{told_right}
use Rattle.finite_plant.proofs.answers.Answers.some_neighbour.Goals as goal

pub returns : goal.returns
returns g c = λ cs t.
    let given = c.args.self.now.plant.now in
    let plant : Plant = plant_of given in
    let rows = c.args.self.now.rows.items in
    let test : ℕ → Bool = λ y. (related plant c.args.relation c.args.thing y) && told_at plant rows c.args.place y in
    any_from_yields_List test _ _ c.any.result c.any.ensures.ran (YieldsList-from_range 0 given.count given.count refl (omega arith)) (λ x b q k. search (rules, tests))
    ∙ (any_range test given.count ∙ any_same test _ given.count (λ y h. ap (λ b. (related plant c.args.relation c.args.thing y) && b) (told_right (g.D.Domain.meaning c.args.self.now.domain.now) plant cs rows t c.args.place y h)))
