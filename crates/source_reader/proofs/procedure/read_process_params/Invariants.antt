use Rattle.std.proofs.Common.{◌-◌, length}
use Rattle.source_grammar.specs.Parts.{ProcParamsPart, ProcParamPart, AParen}
use Rattle.source_reader.specs.Reading.{names_of, tokens_from}
use Rattle.source_grammar.proofs.ItemLists.{Comes, Roomy}
use Rattle.source_reader.proofs.procedure.read_process_params.Given as goal

abbrev pub invariant-loop-after : goal.invariant-loop-after
invariant-loop-after l = Comes ProcParamsPart (Roomy ProcParamPart) AParen (names_of l.input) (tokens_from l.input l.fn.at) (8 - length l.params) l.params (tokens_from l.input l.at)

abbrev pub decreases-loop-after : goal.decreases-loop-after
decreases-loop-after l = length (tokens_from l.input l.at)
