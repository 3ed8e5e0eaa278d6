use Rattle.grammar.proofs.Unique.{unique}
use Rattle.source_rows.proofs.Clear.{rules_clear, file_clear}
use Rattle.source_rows.proofs.laws.one_source.Goals as goal

pub returns : goal.returns
returns c i ts x y d e = (unique _ (rules_clear i) d e (file_clear i) (λ l us p i. cc) (λ l us p i. cc)).0
