use Rattle.block_codes.proofs.Parts.{end_answer}
use Rattle.block_codes.proofs.last.put_end.Goals as goal

pub returns-else-begins_with_end : goal.returns-else-begins_with_end
returns-else-begins_with_end c = end_answer _ _ c.push.result c.push.ensures.ok
