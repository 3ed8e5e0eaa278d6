use Rattle.std.proofs.Common.{length}
use Rattle.endpoint_grammar.specs.Written.{no_units}
use Rattle.endpoint_grammar.specs.Grammar.{units_of}
use Rattle.endpoint_grammar.specs.Values.{units_from}
use Rattle.endpoint_reader.specs.Tokens.{from}
use Rattle.endpoint_units.specs.Parts.{left, ArePartsInside, ArePartsThere, units_in, Goes}
use Rattle.endpoint_units.proofs.file.read_units.Given as goal

abbrev pub invariant-units : goal.invariant-units
invariant-units l = record { goes : Goes units_of units_from 64 (from l.input l.fn.at) no_units (units_in l.input l.parts) (left l.parts) (from l.input l.at); inside : ArePartsInside l.parts; known : ArePartsThere l.input l.parts }

abbrev pub decreases-units : goal.decreases-units
decreases-units l = length (from l.input l.at)
