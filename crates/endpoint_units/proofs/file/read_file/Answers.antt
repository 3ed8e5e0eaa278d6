use Rattle.grammar.proofs.Passing.{passes, ok_map, err_map}
use Rattle.grammar.proofs.Sequences.{then_halts, now_halts}
use Rattle.grammar.proofs.Ways.{not_entered}
use Rattle.endpoint_grammar.specs.Grammar.{units}
use Rattle.endpoint_units.proofs.Wholes.{file_told, file_halts}
use Rattle.endpoint_units.proofs.file.read_file.Goals as goal

pub returns-in_err-at-clause-halts : goal.returns-in_err-at-clause-halts
returns-in_err-at-clause-halts c = passes _ _ c.from_residual.ensures.1 (now_halts c.in_err-at.ensures.halts)

pub returns-in_err-at-2-clause-halts : goal.returns-in_err-at-2-clause-halts
returns-in_err-at-2-clause-halts c = passes _ _ c.from_residual-in_err-at-2.ensures.1 (then_halts c.in_ok-at.ensures.reads (now_halts c.in_err-at-2.ensures.halts))

pub returns-in_err-at-3-clause-halts : goal.returns-in_err-at-3-clause-halts
returns-in_err-at-3-clause-halts c = passes _ _ c.from_residual-in_err-at-3.ensures.1 (then_halts c.in_ok-at.ensures.reads (then_halts c.in_ok-at-2.ensures.reads (not_entered _ (units 64) c.in_err-at-3.ensures.missed)))

pub returns-clause-reads : goal.returns-clause-reads
returns-clause-reads c = ok_map _ (λ w t. file_told c.in_ok-at.ensures.reads c.in_ok-at-2.ensures.reads c.in_ok-at-3.ensures.reads t) c.read_units.ensures.reads

pub returns-clause-halts : goal.returns-clause-halts
returns-clause-halts c = err_map _ (λ d h. file_halts c.in_ok-at.ensures.reads c.in_ok-at-2.ensures.reads c.in_ok-at-3.ensures.reads h) c.read_units.ensures.halts
