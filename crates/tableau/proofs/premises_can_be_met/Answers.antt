use Rattle.tableau.proofs.Example.{example}
use Rattle.tableau.proofs.premises_can_be_met.Goals as goal

pub returns : goal.returns
returns c = example
