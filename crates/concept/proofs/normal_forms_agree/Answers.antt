use Rattle.concept.proofs.Agreement.{agreement}
use Rattle.concept.proofs.normal_forms_agree.Goals as goal

pub returns : goal.returns
returns c = agreement
