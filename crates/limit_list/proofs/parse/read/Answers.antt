use Rattle.std.proofs.Common.{ap, ◌∙◌}
use Rattle.limit_list.specs.Spelling.{from_start}
use Rattle.limit_list.proofs.Stopping.{told_within}
use Rattle.limit_list.proofs.parse.read.Goals as goal

pub returns-clause-within : goal.returns-clause-within
returns-clause-within c =
    told_within c.args.line.now c.from_start.result (c.from_start.ensures ∙ ap from_start c.bare.ensures)
