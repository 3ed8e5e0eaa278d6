use Rattle.std.proofs.Common.{◌-◌, length}
use Rattle.source_grammar.specs.Symbols.{Nothing}
use Rattle.source_grammar.specs.Grammar.{VariableIs}
use Rattle.source_grammar.specs.Parts.{ItemPart, Unlimited, VarsPart}
use Rattle.source_reader.specs.Reading.{names_of, tokens_from}
use Rattle.source_grammar.proofs.ItemLists.{Comes, Roomy}
use Rattle.source_reader.proofs.procedure.read_vars.Given as goal

abbrev pub invariant-loop-after : goal.invariant-loop-after
invariant-loop-after l = Comes VarsPart (Roomy (ItemPart VariableIs (Unlimited VariableIs))) Nothing (names_of l.input) (tokens_from l.input l.fn.at) (16 - length l.vars) l.vars (tokens_from l.input l.at)

abbrev pub decreases-loop-after : goal.decreases-loop-after
decreases-loop-after l = length (tokens_from l.input l.at)
