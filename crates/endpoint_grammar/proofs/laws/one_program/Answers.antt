use Rattle.grammar.proofs.Unique.{unique}
use Rattle.endpoint_grammar.proofs.Clear.{rules_clear, endpoints_clear}
use Rattle.endpoint_grammar.proofs.laws.one_program.Goals as goal

pub returns : goal.returns
returns c ts x y d e = (unique _ rules_clear d e endpoints_clear (λ l us p i. cc) (λ l us p i. cc)).0
