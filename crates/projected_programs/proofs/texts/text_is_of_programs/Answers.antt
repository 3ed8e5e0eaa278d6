use Rattle.projected_programs.proofs.Read.{text_is_of_programs}
use Rattle.projected_programs.proofs.texts.text_is_of_programs.Goals as goal

pub returns : goal.returns
returns c = text_is_of_programs c.accepted_or_refused.ensures
