use Rattle.tableau.proofs.Assembly.{assembly}
use Rattle.tableau.proofs.completed_clusters_have_plants.Goals as goal

pub returns : goal.returns
returns c = assembly
