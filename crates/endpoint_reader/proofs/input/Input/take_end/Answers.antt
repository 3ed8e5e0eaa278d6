use Rattle.grammar.proofs.Reading.{token_reads, token_halts}
use Rattle.endpoint_reader.proofs.Ends.{end_stands, not_the_end}
use Rattle.endpoint_reader.proofs.input.Input.take_end.Goals as goal

pub returns-in-Some-clause-halts : goal.returns-in-Some-clause-halts
returns-in-Some-clause-halts c = token_halts _ (not_the_end c.args.self.now c.args.at _ c.in-Some.ensures.found c.in-Some.ensures.other) c.refused.ensures.refuses

pub returns-in-None-clause-reads : goal.returns-in-None-clause-reads
returns-in-None-clause-reads c = token_reads _ (end_stands c.in-None.ensures.none)
