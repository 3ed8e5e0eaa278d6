use Rattle.std.proofs.Common.{arith}
use Rattle.std.proofs.lemmas.Bool.Decides.{nat_tests}
use Rattle.source_grammar.proofs.Headers.{capacity_number_reads, no_number_halts, no_capacity_halts}
use Rattle.source_reader.proofs.header.take_capacity.Goals as goal

pub returns-in_default-clause-halts : goal.returns-in_default-clause-halts
returns-in_default-clause-halts c = no_number_halts c.in_default.ensures.none c.refused.ensures

pub returns-then-number-lt1-clause-halts : goal.returns-then-number-lt1-clause-halts
returns-then-number-lt1-clause-halts c = no_capacity_halts c.in-Some.ensures.found (grind (arith, nat_tests)) c.refused-then-number-lt1.ensures

pub returns-clause-reads : goal.returns-clause-reads
returns-clause-reads c = capacity_number_reads c.in-Some.ensures.found (grind (arith, nat_tests))
