use Rattle.grammar.proofs.Whole.{one_or_the_other}
use Rattle.source_rows.specs.Sources.{file}
use Rattle.source_rows.proofs.Clear.{rules_clear, rules_ending, file_ending, file_clear}
use Rattle.source_rows.proofs.laws.one_or_the_other.Goals as goal

pub returns : goal.returns
returns c i ts h = one_or_the_other _ (rules_clear i) (rules_ending i) file ts (file_ending i) (file_clear i) h
