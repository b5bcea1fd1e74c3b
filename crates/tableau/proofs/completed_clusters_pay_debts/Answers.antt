use Rattle.tableau.proofs.Assembly.{payment}
use Rattle.tableau.proofs.completed_clusters_pay_debts.Goals as goal

pub returns : goal.returns
returns c = payment
