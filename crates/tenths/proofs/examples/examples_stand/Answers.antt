use Rattle.tenths.proofs.Worked.{examples}
use Rattle.tenths.proofs.examples.examples_stand.Goals as goal

pub returns : goal.returns
returns c = examples
