use Rattle.std.proofs.Common.{◌≡◌, ℕ, ◌<◌, false, List, length, get_or}
use Rattle.concept.specs.Concepts.{Concept}
use Rattle.concept.specs.Plants.{inside}
use Rattle.concept.specs.Tables.{reads}
use Rattle.finite_plant.specs.Answers.{Told}
use Rattle.finite_plant.specs.Data.{plant_of}
use Rattle.finite_plant.proofs.answers.Answers.row.Given as goal

abbrev pub invariant-loop-thing : goal.invariant-loop-thing
invariant-loop-thing g l =
    (length l.row ≡ 64)
    × ((cs : List Concept) → Told (g.D.Domain.meaning l.self.domain.now) (plant_of l.self.plant.now) cs l.self.rows.items → (y : ℕ) → y < l.thing
    → get_or l.row y false ≡ inside (g.D.Domain.meaning l.self.domain.now) (plant_of l.self.plant.now) (reads l.self.kinds.now cs l.node) y)
