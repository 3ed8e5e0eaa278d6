use Rattle.source_grammar.proofs.Sequels.{past, reads_past}
use Rattle.std.proofs.Common.{refl, arith}
use Rattle.source_grammar.proofs.Values.{as_part, as_leads, after_part}
use Rattle.source_grammar.proofs.Starts.{memory_halts, nothing_apart}
use Rattle.source_grammar.proofs.Expressions.{expr_part}
use Rattle.chor_lexer.specs.declared.mark.Mark.TheVariants.{Dot}
use Rattle.source_grammar.proofs.Terminals.{mark_reads, else_keyword}
use Rattle.source_reader.proofs.Coming.{stands_by_word}
use Rattle.source_grammar.proofs.Tables.{grows_by, grows_on, last_there}
use Rattle.source_grammar.proofs.Shorter.{name_shorter, mark_shorter, word_shorter, or_shorter, block_shorter}
use Rattle.source_grammar.proofs.Statements.{passes, mark_then, word_then, past_name, past_mark, past_word, at_one}
use Rattle.source_grammar.proofs.StatementSteps.{no_memory, past_expr, expr_halts}
use Rattle.source_grammar.proofs.Nested.{block_part, brace_apart, into_block, lines_halt, past_lines, no_statement_comes, no_tail, end_first, call_first, if_first, too_long_path, reads_end, to_call, to_if, past_branch}
use Rattle.source_reader.proofs.Blocks.{end_block, conditional_block, said_block}
use Rattle.source_grammar.proofs.Growth.{adds_none, adds_on, adds_node}
use Rattle.source_reader.proofs.Readers.{makes_on, hands_back}
use Rattle.source_reader.proofs.block.+blocks.Goals as goal

pub read_block-returns-in_err-at-clause-halts : goal.read_block-returns-in_err-at-clause-halts
read_block-returns-in_err-at-clause-halts t c = passes _ _ c.from_residual.ensures.1 (c.in_err-at.ensures.halts)

pub read_block-returns-in_err-lines-clause-halts : goal.read_block-returns-in_err-lines-clause-halts
read_block-returns-in_err-lines-clause-halts t c = passes _ _ c.from_residual-in_err-lines.ensures.1 (past (into_block _ _ c.in_ok-at.ensures.room c.in_ok-at.ensures.after) (lines_halt _ _ c.in_err-lines.ensures.halts))

pub read_block-returns-in_err-tail-clause-halts : goal.read_block-returns-in_err-tail-clause-halts
read_block-returns-in_err-tail-clause-halts t c = passes _ _ c.from_residual-in_err-tail.ensures.1 (past (into_block _ _ c.in_ok-at.ensures.room c.in_ok-at.ensures.after) (lines_halt _ _ (past c.in_ok-lines.ensures.leads (past (no_statement_comes _ _ c.in_ok-lines.ensures.all) c.in_err-tail.ensures.halts))))

pub read_block-returns-in_err-at-2-clause-halts : goal.read_block-returns-in_err-at-2-clause-halts
read_block-returns-in_err-at-2-clause-halts t c = passes _ _ c.from_residual-in_err-at-2.ensures.1 (past (into_block _ _ c.in_ok-at.ensures.room c.in_ok-at.ensures.after) (past (past_lines _ _ (reads_past c.in_ok-lines.ensures.leads (reads_past (no_statement_comes _ _ c.in_ok-lines.ensures.all) c.in_ok-tail.ensures.made.reads))) (past (as_leads _) c.in_err-at-2.ensures.halts)))

pub read_block-returns-in_err-first-clause-halts : goal.read_block-returns-in_err-first-clause-halts
read_block-returns-in_err-first-clause-halts t c = no_memory _ _ c.from_residual-in_err-first.ensures.1 (λ d e. memory_halts e)

pub read_block-returns-clause-reads : goal.read_block-returns-clause-reads
read_block-returns-clause-reads t c = said_block c.in_ok-first.ensures.block (reads_past (into_block _ _ c.in_ok-at.ensures.room c.in_ok-at.ensures.after) (reads_past (past_lines _ _ (reads_past c.in_ok-lines.ensures.leads (reads_past (no_statement_comes _ _ c.in_ok-lines.ensures.all) c.in_ok-tail.ensures.made.reads))) (reads_past (as_leads _) (mark_reads c.in_ok-at-2.ensures.read))))

pub read_block-returns-clause-grows : goal.read_block-returns-clause-grows
read_block-returns-clause-grows t c = grows_on _ _ _ c.in_ok-tail.ensures.made.grows c.in_ok-first.ensures.grows

pub read_tail-returns-in_err-room_for_statement-clause-halts : goal.read_tail-returns-in_err-room_for_statement-clause-halts
read_tail-returns-in_err-room_for_statement-clause-halts t c = passes _ _ c.from_residual.ensures.1 (too_long_path _ _ c.in_err-room_for_statement.ensures.full.0 (end_first c.in-Some.ensures.found) c.in_err-room_for_statement.ensures.full.1)

pub read_tail-returns-in_err-end-clause-halts : goal.read_tail-returns-in_err-end-clause-halts
read_tail-returns-in_err-end-clause-halts t c = no_memory _ _ c.from_residual-in_err-end.ensures.1 (λ d e. memory_halts e)

pub read_tail-returns-in_err-room_for_statement-2-clause-halts : goal.read_tail-returns-in_err-room_for_statement-2-clause-halts
read_tail-returns-in_err-room_for_statement-2-clause-halts t c = passes _ _ c.from_residual-in_err-room_for_statement-2.ensures.1 (too_long_path _ _ c.in_err-room_for_statement-2.ensures.full.0 (call_first c.in-Some-after_word.ensures.found) c.in_err-room_for_statement-2.ensures.full.1)

pub read_tail-returns-in_default-after_word-2-clause-halts : goal.read_tail-returns-in_default-after_word-2-clause-halts
read_tail-returns-in_default-after_word-2-clause-halts t c = no_tail _ _ c.in_default.ensures.none c.in_default-after_word.ensures.none c.in_default-after_word-2.ensures.none c.refused.ensures

pub read_tail-returns-in_err-room_for_statement-3-clause-halts : goal.read_tail-returns-in_err-room_for_statement-3-clause-halts
read_tail-returns-in_err-room_for_statement-3-clause-halts t c = passes _ _ c.from_residual-in_err-room_for_statement-3.ensures.1 (too_long_path _ _ c.in_err-room_for_statement-3.ensures.full.0 (if_first c.in-Some-after_word-2.ensures.found) c.in_err-room_for_statement-3.ensures.full.1)

pub read_if-returns-in_err-process-clause-halts : goal.read_if-returns-in_err-process-clause-halts
read_if-returns-in_err-process-clause-halts t c = passes _ _ c.from_residual.ensures.1 (at_one (λ q. mark_then Dot (λ u. after_part expr_part (λ e. after_part (block_part _ _) (λ a. word_then else_keyword (λ v. as_part (block_part _ _))) (λ a. nothing_apart)) (λ e. brace_apart))) c.in_err-process.ensures.halts)

pub read_if-returns-in_err-at-clause-halts : goal.read_if-returns-in_err-at-clause-halts
read_if-returns-in_err-at-clause-halts t c = passes _ _ c.from_residual-in_err-at.ensures.1 (past (past_name c.in_ok-process.ensures.read) (at_one (λ u. after_part expr_part (λ e. after_part (block_part _ _) (λ a. word_then else_keyword (λ v. as_part (block_part _ _))) (λ a. nothing_apart)) (λ e. brace_apart)) c.in_err-at.ensures.halts))

pub read_if-returns-in_err-expr-clause-halts : goal.read_if-returns-in_err-expr-clause-halts
read_if-returns-in_err-expr-clause-halts t c = passes _ _ c.from_residual-in_err-expr.ensures.1 (past (past_name c.in_ok-process.ensures.read) (past (past_mark c.in_ok-at.ensures.read) (expr_halts (λ e. after_part (block_part _ _) (λ a. word_then else_keyword (λ v. as_part (block_part _ _))) (λ a. nothing_apart)) (λ e. brace_apart) c.in_err-expr.ensures.halts)))

pub read_if-returns-in_err-first-clause-halts : goal.read_if-returns-in_err-first-clause-halts
read_if-returns-in_err-first-clause-halts t c = passes _ _ c.from_residual-in_err-first.ensures.1 (past (past_name c.in_ok-process.ensures.read) (past (past_mark c.in_ok-at.ensures.read) (past (past_expr (λ e. brace_apart) c.in_ok-expr.ensures.reads) (at_one (λ a. word_then else_keyword (λ v. as_part (block_part _ _))) c.in_err-first.ensures.halts))))

pub read_if-returns-in_err-at-2-clause-halts : goal.read_if-returns-in_err-at-2-clause-halts
read_if-returns-in_err-at-2-clause-halts t c = passes _ _ c.from_residual-in_err-at-2.ensures.1 (past (past_name c.in_ok-process.ensures.read) (past (past_mark c.in_ok-at.ensures.read) (past (past_expr (λ e. brace_apart) c.in_ok-expr.ensures.reads) (past (past_branch c.in_ok-first.ensures.reads) (at_one (λ v. as_part (block_part _ _)) (c.in_err-at-2.ensures.halts else_keyword))))))

pub read_if-returns-in_err-second-clause-halts : goal.read_if-returns-in_err-second-clause-halts
read_if-returns-in_err-second-clause-halts t c = passes _ _ c.from_residual-in_err-second.ensures.1 (past (past_name c.in_ok-process.ensures.read) (past (past_mark c.in_ok-at.ensures.read) (past (past_expr (λ e. brace_apart) c.in_ok-expr.ensures.reads) (past (past_branch c.in_ok-first.ensures.reads) (past (past_word else_keyword c.in_ok-at-2.ensures.read) (past (as_leads _) (c.in_err-second.ensures.halts)))))))

pub read_if-returns-in_err-branch-clause-halts : goal.read_if-returns-in_err-branch-clause-halts
read_if-returns-in_err-branch-clause-halts t c = no_memory _ _ c.from_residual-in_err-branch.ensures.1 (λ d e. memory_halts e)

pub read_if-read_block-requires : goal.read_if-read_block-requires
read_if-read_block-requires t c = omega (arith, c.decreases, name_shorter c.in_ok-process.ensures.read, mark_shorter c.in_ok-at.ensures.read, or_shorter c.in_ok-expr.ensures.reads.is.is)

pub read_if-read_block-requires-2 : goal.read_if-read_block-requires-2
read_if-read_block-requires-2 t c = omega (arith, c.decreases, name_shorter c.in_ok-process.ensures.read, mark_shorter c.in_ok-at.ensures.read, or_shorter c.in_ok-expr.ensures.reads.is.is, block_shorter c.in_ok-first.ensures.reads.is.is, word_shorter c.in_ok-at-2.ensures.read)

pub read_block-returns-clause-adds : goal.read_block-returns-clause-adds
read_block-returns-clause-adds t c = c.in_ok-first.ensures.adds _ c.in_ok-tail.ensures.made.adds

pub read_tail-returns-in-Some-after_word-clause-halts : goal.read_tail-returns-in-Some-after_word-clause-halts
read_tail-returns-in-Some-after_word-clause-halts t c = hands_back c.read_call.result (to_call _ _ c.in_ok-room_for_statement-2.ensures.room (stands_by_word c.in-Some-after_word.ensures.found c.place_of-place.ensures) c.in_default.ensures.none c.in-Some-after_word.ensures.found) c.read_call.ensures.halts

pub read_tail-returns-clause-halts : goal.read_tail-returns-clause-halts
read_tail-returns-clause-halts t c = hands_back c.read_if.result (to_if _ _ c.in_ok-room_for_statement-3.ensures.room (stands_by_word c.in-Some-after_word-2.ensures.found c.place_of-place.ensures) c.in_default.ensures.none c.in_default-after_word.ensures.none c.in-Some-after_word-2.ensures.found) c.read_if.ensures.halts

pub read_block-read_tail-requires : goal.read_block-read_tail-requires
read_block-read_tail-requires t c = omega (arith, c.decreases, mark_shorter c.in_ok-at.ensures.after, c.in_ok-lines.ensures.shorter)

pub read_tail-read_if-requires : goal.read_tail-read_if-requires
read_tail-read_if-requires t c = omega (arith, c.decreases, word_shorter c.in-Some-after_word-2.ensures.found)

pub read_if-returns-clause-made : goal.read_if-returns-clause-made
read_if-returns-clause-made t c = record {
  reads = said_block (conditional_block _ _ _ _ _ _ _ c.in_ok-first.ensures.there c.in_ok-second.ensures.grows c.in_ok-branch.ensures.ok.1 c.in_ok-branch.ensures.ok.0 refl) (reads_past (past_name c.in_ok-process.ensures.read) (reads_past (past_mark c.in_ok-at.ensures.read) (reads_past (past_expr (λ e. brace_apart) c.in_ok-expr.ensures.reads) (reads_past (past_branch c.in_ok-first.ensures.reads) (reads_past (past_word else_keyword c.in_ok-at-2.ensures.read) (reads_past (as_leads _) (c.in_ok-second.ensures.reads)))))));
  there = last_there _ _ _ _ c.in_ok-branch.ensures.ok.1 c.in_ok-branch.ensures.ok.0;
  grows = grows_on _ _ _ c.in_ok-first.ensures.grows (grows_on _ _ _ c.in_ok-second.ensures.grows (grows_by _ _ _ c.in_ok-branch.ensures.ok.1));
  adds = adds_node _ (adds_on c.in_ok-first.ensures.adds c.in_ok-second.ensures.adds) c.in_ok-branch.ensures.ok.1 c.in_ok-branch.ensures.ok.0;
}

pub read_tail-returns-in-Some-clause-made : goal.read_tail-returns-in-Some-clause-made
read_tail-returns-in-Some-clause-made t c = record {
  reads = said_block (end_block _ _ _ _ c.in_ok-end.ensures.ok.1 c.in_ok-end.ensures.ok.0 refl) (reads_end _ _ c.in_ok-room_for_statement.ensures.room (stands_by_word c.in-Some.ensures.found c.place_of-place.ensures) c.in-Some.ensures.found);
  there = last_there _ _ _ _ c.in_ok-end.ensures.ok.1 c.in_ok-end.ensures.ok.0;
  grows = grows_by _ _ _ c.in_ok-end.ensures.ok.1;
  adds = adds_node _ (adds_none _) c.in_ok-end.ensures.ok.1 c.in_ok-end.ensures.ok.0;
}

pub read_tail-returns-in-Some-after_word-clause-made : goal.read_tail-returns-in-Some-after_word-clause-made
read_tail-returns-in-Some-after_word-clause-made t c = makes_on c.args.input.now _ _ _ _ c.read_call.result (to_call _ _ c.in_ok-room_for_statement-2.ensures.room (stands_by_word c.in-Some-after_word.ensures.found c.place_of-place.ensures) c.in_default.ensures.none c.in-Some-after_word.ensures.found) c.read_call.ensures.made

pub read_tail-returns-clause-made : goal.read_tail-returns-clause-made
read_tail-returns-clause-made t c = makes_on c.args.input.now _ _ _ _ c.read_if.result (to_if _ _ c.in_ok-room_for_statement-3.ensures.room (stands_by_word c.in-Some-after_word-2.ensures.found c.place_of-place.ensures) c.in_default.ensures.none c.in_default-after_word.ensures.none c.in-Some-after_word-2.ensures.found) c.read_if.ensures.made

pub read_block-push_lines-requires : goal.read_block-push_lines-requires
read_block-push_lines-requires t c = c.in_ok-tail.ensures.made.there
