use Rattle.std.proofs.Common.{◌≡◌, take}
use Rattle.concept.specs.Tables.{concepts}
use Rattle.finite_plant.specs.Answers.{Told}
use Rattle.finite_plant.specs.Data.{plant_of}
use Rattle.finite_plant.proofs.answering.root_row.Given as goal

abbrev pub invariant-loop-node : goal.invariant-loop-node
invariant-loop-node g l =
    ((l.answers.domain.now ≡ l.domain) × (l.answers.kinds.now ≡ l.kinds) × (l.answers.plant.now ≡ l.plant))
    × Told (g.D.Domain.meaning l.domain) (plant_of l.plant) (concepts l.kinds (take l.node-index l.table)) l.answers.rows.items
