use Rattle.accepted_files.proofs.Answered.{file_answered}
use Rattle.accepted_files.proofs.faultless.asked_functions_answer.Goals as goal

pub returns : goal.returns
returns c = file_answered
