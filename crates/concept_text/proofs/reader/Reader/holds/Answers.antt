use Rattle.std.proofs.Common.{rules}
use Rattle.concept_text.specs.Nodes.{no_chain}
use Rattle.concept_text.proofs.Nodes.{second}
use Rattle.concept_text.proofs.reader.Reader.holds.Goals as goal

pub returns : goal.returns
returns c =
    let two = second _ _ no_chain c.in_ok-v.v c.in_ok-v.ensures.value in
    search rules
