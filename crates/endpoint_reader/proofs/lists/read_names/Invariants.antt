use Rattle.std.proofs.Common.{◌-◌, length, Some}
use Rattle.chor_base.specs.declared.rule.Rule.TheVariants.{E4}
use Rattle.chor_lexer.specs.declared.mark.Mark.TheVariants.{Comma}
use Rattle.grammar.specs.Classes.{a_mark}
use Rattle.grammar.specs.Readers.{split_of}
use Rattle.endpoint_reader.specs.Known.{AreThere}
use Rattle.endpoint_reader.specs.Tokens.{from, named}
use Rattle.endpoint_grammar.specs.Grammar.{NAME}
use Rattle.endpoint_grammar.specs.Values.{rules}
use Rattle.grammar.proofs.Lists.{Listing}
use Rattle.endpoint_reader.proofs.lists.read_names.Given as goal

abbrev pub invariant-loop-after : goal.invariant-loop-after
invariant-loop-after l = record { listing : Listing rules NAME (named l.input) split_of E4 (Some l.fn.limit) (a_mark Comma) (from l.input l.fn.at) l.names (Some (l.fn.limit - length l.names)) (from l.input l.at); known : AreThere l.input l.names }

abbrev pub decreases-loop-after : goal.decreases-loop-after
decreases-loop-after l = length (from l.input l.at)
