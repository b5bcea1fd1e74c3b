use Rattle.history.proofs.Advance.{stepwise}
use Rattle.history.proofs.histories_go_step_by_step.Goals as goal

pub returns : goal.returns
returns c = stepwise
