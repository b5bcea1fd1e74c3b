use Rattle.pair.proofs.Following.{rule, examples}
use Rattle.pair.proofs.follows_its_rule.Goals as goal

pub returns : goal.returns
returns c = record { rule = rule; examples = examples }
