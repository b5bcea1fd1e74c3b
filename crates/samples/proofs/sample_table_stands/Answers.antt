use Rattle.samples.proofs.SampleTable.{sample_table}
use Rattle.samples.proofs.sample_table_stands.Goals as goal

pub returns : goal.returns
returns c = sample_table
