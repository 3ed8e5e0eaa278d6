use Rattle.source_grammar.proofs.Sequels.{past, reads_past}
use Rattle.std.proofs.Common.{refl}
use Rattle.source_grammar.proofs.Values.{as_part, as_leads, after_part}
use Rattle.source_grammar.proofs.Starts.{memory_halts}
use Rattle.chor_lexer.specs.declared.mark.Mark.TheVariants.{OpenParen, CloseParen}
use Rattle.source_grammar.proofs.Terminals.{mark_part, mark_reads}
use Rattle.source_grammar.proofs.PassedNames.{passed_part, close_apart}
use Rattle.source_grammar.proofs.Statements.{passes, mark_then, past_name, past_mark, at_one}
use Rattle.source_grammar.proofs.StatementSteps.{no_memory}
use Rattle.source_grammar.proofs.Nested.{past_passed, passed_halts}
use Rattle.source_reader.proofs.Blocks.{call_block, said_block}
use Rattle.source_grammar.proofs.Tables.{last_there, grows_by}
use Rattle.source_grammar.proofs.Growth.{adds_none, adds_node}
use Rattle.source_reader.proofs.block.read_call.Goals as goal

pub returns-in_err-name-clause-halts : goal.returns-in_err-name-clause-halts
returns-in_err-name-clause-halts c = passes _ _ c.from_residual.ensures.1 (at_one (λ f. mark_then OpenParen (λ u. after_part passed_part (λ v. as_part (mark_part CloseParen)) (λ v. close_apart))) c.in_err-name.ensures.halts)

pub returns-in_err-at-clause-halts : goal.returns-in_err-at-clause-halts
returns-in_err-at-clause-halts c = passes _ _ c.from_residual-in_err-at.ensures.1 (past (past_name c.in_ok-name.ensures.read) (at_one (λ u. after_part passed_part (λ v. as_part (mark_part CloseParen)) (λ v. close_apart)) c.in_err-at.ensures.halts))

pub returns-in_err-passed-clause-halts : goal.returns-in_err-passed-clause-halts
returns-in_err-passed-clause-halts c = passes _ _ c.from_residual-in_err-passed.ensures.1 (past (past_name c.in_ok-name.ensures.read) (past (past_mark c.in_ok-at.ensures.read) (passed_halts c.in_err-passed.ensures.halts)))

pub returns-in_err-at-2-clause-halts : goal.returns-in_err-at-2-clause-halts
returns-in_err-at-2-clause-halts c = passes _ _ c.from_residual-in_err-at-2.ensures.1 (past (past_name c.in_ok-name.ensures.read) (past (past_mark c.in_ok-at.ensures.read) (past (past_passed c.in_ok-passed.ensures.reads) (past (as_leads _) (c.in_err-at-2.ensures.halts)))))

pub returns-in_err-call-clause-halts : goal.returns-in_err-call-clause-halts
returns-in_err-call-clause-halts c = no_memory _ _ c.from_residual-in_err-call.ensures.1 (λ d e. memory_halts e)

pub returns-clause-made : goal.returns-clause-made
returns-clause-made c = record {
  reads = said_block (call_block _ _ _ _ c.in_ok-call.ensures.ok.1 c.in_ok-call.ensures.ok.0 refl) (reads_past (past_name c.in_ok-name.ensures.read) (reads_past (past_mark c.in_ok-at.ensures.read) (reads_past (past_passed c.in_ok-passed.ensures.reads) (reads_past (as_leads _) (mark_reads c.in_ok-at-2.ensures.read)))));
  there = last_there _ _ _ _ c.in_ok-call.ensures.ok.1 c.in_ok-call.ensures.ok.0;
  grows = grows_by _ _ _ c.in_ok-call.ensures.ok.1;
  adds = adds_node _ (adds_none _) c.in_ok-call.ensures.ok.1 c.in_ok-call.ensures.ok.0;
}
