use Rattle.std.proofs.Common.{ℕ, refl, ap, arith, length}
use Rattle.grammar.proofs.Passing.{passes}
use Rattle.grammar.proofs.Reading.{begins}
use Rattle.grammar.proofs.Windows.{first_halts_in, missed_in, full_in}
use Rattle.endpoint_reader.specs.Tokens.{from}
use Rattle.endpoint_reader.proofs.Rooms.{has_some, has_none}
use Rattle.endpoint_reader.proofs.Ranks.{ranks}
use Rattle.endpoint_reader.proofs.Operands.{leaf_told, opens_as, operand_comes, unary_told, unary_halts, parens_told, parens_halts, parens_open}
use Rattle.endpoint_reader.proofs.Levels.{told_shorter, op_shorter, operators_some, operands_some, group_begins, group_ends, group_goes, group_full, group_halts, compares_none, compares, compare_full, compare_halts, joined, read_as, told_less, told_left, halts_less}
use Rattle.endpoint_reader.proofs.Known.{joined_there, applied_there, leaf_there}
use Rattle.endpoint_reader.proofs.expression.+reading.Goals as goal

pub read_comparison-returns-in_err-left-clause-halts : goal.read_comparison-returns-in_err-left-clause-halts
read_comparison-returns-in_err-left-clause-halts t c = passes _ _ c.from_residual.ensures.1 (first_halts_in _ _ c.in_err-left.ensures.halts)

pub read_comparison-returns-in_default-clause-reads : goal.read_comparison-returns-in_default-clause-reads
read_comparison-returns-in_default-clause-reads t c = compares_none c.in_ok-left.ensures.reads c.in_default.ensures.none

pub read_comparison-returns-in_err-check_room-clause-halts : goal.read_comparison-returns-in_err-check_room-clause-halts
read_comparison-returns-in_err-check_room-clause-halts t c = passes _ _ c.from_residual-in_err-check_room.ensures.1 (compare_full c.in_ok-left.ensures.reads c.in-Some.ensures.found (has_none _ c.in_err-check_room.ensures.full.0) c.in_err-check_room.ensures.full.1)

pub read_comparison-read_level-requires-2 : goal.read_comparison-read_level-requires-2
read_comparison-read_level-requires-2 t c = omega (arith, c.decreases, told_shorter refl c.in_ok-left.ensures.reads, op_shorter refl c.in-Some.ensures.found)

pub read_comparison-returns-in_err-right-clause-halts : goal.read_comparison-returns-in_err-right-clause-halts
read_comparison-returns-in_err-right-clause-halts t c = passes _ _ c.from_residual-in_err-right.ensures.1 (compare_halts c.in_ok-left.ensures.reads c.in-Some.ensures.found (has_some _ c.in_ok-check_room.ensures.room) (halts_less _ c.saturating_sub.ensures c.in_err-right.ensures.halts))

pub read_comparison-returns-clause-reads : goal.read_comparison-returns-clause-reads
read_comparison-returns-clause-reads t c = read_as c.args.at c.args.input.now c.in_ok-right.right c.in_ok-whole.whole _ (compares c.in_ok-left.ensures.reads c.in-Some.ensures.found (has_some _ c.in_ok-check_room.ensures.room) (told_less _ c.saturating_sub.ensures c.in_ok-right.ensures.reads)) c.in_ok-whole.ensures.expr c.in_ok-whole.ensures.after

pub read_level-returns-in_err-left-clause-halts : goal.read_level-returns-in_err-left-clause-halts
read_level-returns-in_err-left-clause-halts t c = passes _ _ c.from_residual.ensures.1 (first_halts_in _ _ c.in_err-left.ensures.halts)

pub read_level-loop-operator-init : goal.read_level-loop-operator-init
read_level-loop-operator-init t c = record {
  grouping = group_begins (operands_some c.args.level) c.in_ok-left.ensures.reads;
  known = c.in_ok-left.ensures.known;
}

pub read_level-returns-in_err-check_room-clause-halts : goal.read_level-returns-in_err-check_room-clause-halts
read_level-returns-in_err-check_room-clause-halts t c = passes _ _ c.from_residual-in_err-check_room.ensures.1 (group_full c.loop-operator.invariant.grouping c.in-Some.ensures.found (has_none _ c.in_err-check_room.ensures.full.0) c.in_err-check_room.ensures.full.1)

pub read_level-read_operand-requires-in-Some : goal.read_level-read_operand-requires-in-Some
read_level-read_operand-requires-in-Some t c = omega (arith, c.decreases, c.loop-operator.invariant.grouping.shorter, op_shorter (operators_some c.args.level) c.in-Some.ensures.found, ranks c.args.level)

pub read_level-returns-in_err-right-clause-halts : goal.read_level-returns-in_err-right-clause-halts
read_level-returns-in_err-right-clause-halts t c = passes _ _ c.from_residual-in_err-right.ensures.1 (group_halts c.loop-operator.invariant.grouping c.in-Some.ensures.found (has_some _ c.in_ok-check_room.ensures.room) (halts_less _ c.saturating_sub.ensures c.in_err-right.ensures.halts))

pub read_level-loop-operator-smaller : goal.read_level-loop-operator-smaller
read_level-loop-operator-smaller t c = omega (arith, op_shorter (operators_some c.args.level) c.in-Some.ensures.found, told_shorter (operands_some c.args.level) c.in_ok-right.ensures.reads, ap (λ (i : ℕ). length (from c.args.input.now i)) c.in_ok-left-2.ensures.after.0)

pub read_level-loop-operator-preserved : goal.read_level-loop-operator-preserved
read_level-loop-operator-preserved t c = record {
  grouping = joined c.args.input.now c.loop-operator.left c.in_ok-right.right c.in_ok-left-2.left (group_goes (operators_some c.args.level) (operands_some c.args.level) c.loop-operator.invariant.grouping c.in-Some.ensures.found (has_some _ c.in_ok-check_room.ensures.room) (told_less _ c.saturating_sub.ensures c.in_ok-right.ensures.reads)) c.in_ok-left-2.ensures.expr c.in_ok-left-2.ensures.after;
  known = joined_there c.args.input.now c.loop-operator.left.expr c.in_ok-right.right.expr c.in_ok-left-2.left.expr c.in_ok-left-2.ensures.expr c.loop-operator.invariant.known c.in_ok-right.ensures.known;
}

pub read_level-returns-clause-reads : goal.read_level-returns-clause-reads
read_level-returns-clause-reads t c = group_ends c.loop-operator.invariant.grouping c.in_default.ensures.none

pub read_operand-returns-in-Or-clause-reads : goal.read_operand-returns-in-Or-clause-reads
read_operand-returns-in-Or-clause-reads t c = rw c.in-Or.is c.read_level.ensures.reads

pub read_operand-returns-in-And-clause-reads : goal.read_operand-returns-in-And-clause-reads
read_operand-returns-in-And-clause-reads t c = rw c.in-And.is c.read_comparison.ensures.reads

pub read_operand-returns-in-Sum-clause-reads : goal.read_operand-returns-in-Sum-clause-reads
read_operand-returns-in-Sum-clause-reads t c = rw c.in-Sum.is c.read_level-in-Sum.ensures.reads

pub read_operand-returns-in-Product-clause-reads : goal.read_operand-returns-in-Product-clause-reads
read_operand-returns-in-Product-clause-reads t c = rw c.in-Product.is c.read_unary.ensures.reads

pub read_unary-returns-in_default-clause-halts : goal.read_unary-returns-in_default-clause-halts
read_unary-returns-in_default-clause-halts t c = missed_in _ _ c.in_default.ensures.none c.refused.ensures.refuses

pub read_unary-returns-in_err-check_room-clause-halts : goal.read_unary-returns-in_err-check_room-clause-halts
read_unary-returns-in_err-check_room-clause-halts t c = passes _ _ c.from_residual.ensures.1 (full_in _ _ (has_none _ c.in_err-check_room.ensures.full.0) (begins _ (operand_comes _ c.in-Some.ensures.found)) c.in_err-check_room.ensures.full.1)

pub read_unary-returns-in_err-operand-in-Unary-clause-halts : goal.read_unary-returns-in_err-operand-in-Unary-clause-halts
read_unary-returns-in_err-operand-in-Unary-clause-halts t c = passes _ _ c.from_residual-in_err-operand-in-Unary.ensures.1 (unary_halts _ (has_some _ c.in_ok-check_room.ensures.room) (opens_as c.in-Unary.is c.in-Some.ensures.found) (halts_less _ c.saturating_sub-left.ensures c.in_err-operand-in-Unary.ensures.halts))

pub read_unary-returns-in_err-inside-in-Parens-clause-halts : goal.read_unary-returns-in_err-inside-in-Parens-clause-halts
read_unary-returns-in_err-inside-in-Parens-clause-halts t c = passes _ _ c.from_residual-in_err-inside-in-Parens.ensures.1 (parens_halts (has_some _ c.in_ok-check_room.ensures.room) (opens_as c.in-Parens.is c.in-Some.ensures.found) (halts_less _ c.saturating_sub-left.ensures c.in_err-inside-in-Parens.ensures.halts))

pub read_unary-returns-in_err-at-in-Parens-clause-halts : goal.read_unary-returns-in_err-at-in-Parens-clause-halts
read_unary-returns-in_err-at-in-Parens-clause-halts t c = passes _ _ c.from_residual-in_err-at-in-Parens.ensures.1 (parens_open (has_some _ c.in_ok-check_room.ensures.room) (opens_as c.in-Parens.is c.in-Some.ensures.found) (told_less _ c.saturating_sub-left.ensures c.in_ok-inside-in-Parens.ensures.reads) c.in_err-at-in-Parens.ensures.halts)

pub read_unary-returns-in-Leaf-clause-reads : goal.read_unary-returns-in-Leaf-clause-reads
read_unary-returns-in-Leaf-clause-reads t c = let o = opens_as c.in-Leaf.is c.in-Some.ensures.found in told_left _ c.saturating_sub-left.ensures (leaf_told (has_some _ c.in_ok-check_room.ensures.room) o.parts o.is)

pub read_unary-returns-in_ok-whole-in-Unary-clause-reads : goal.read_unary-returns-in_ok-whole-in-Unary-clause-reads
read_unary-returns-in_ok-whole-in-Unary-clause-reads t c = read_as c.args.at c.args.input.now c.in_ok-operand-in-Unary.operand c.in_ok-whole-in-Unary.whole _ (unary_told _ (has_some _ c.in_ok-check_room.ensures.room) (opens_as c.in-Unary.is c.in-Some.ensures.found) (told_less _ c.saturating_sub-left.ensures c.in_ok-operand-in-Unary.ensures.reads)) c.in_ok-whole-in-Unary.ensures.expr c.in_ok-whole-in-Unary.ensures.after

pub read_unary-returns-in_ok-at-in-Parens-clause-reads : goal.read_unary-returns-in_ok-at-in-Parens-clause-reads
read_unary-returns-in_ok-at-in-Parens-clause-reads t c = told_left _ c.saturating_sub.ensures (parens_told (has_some _ c.in_ok-check_room.ensures.room) (opens_as c.in-Parens.is c.in-Some.ensures.found) (told_less _ c.saturating_sub-left.ensures c.in_ok-inside-in-Parens.ensures.reads) c.in_ok-at-in-Parens.ensures.reads)

pub read_level-returns-clause-known : goal.read_level-returns-clause-known
read_level-returns-clause-known t c = c.loop-operator.invariant.known

pub read_comparison-returns-clause-known : goal.read_comparison-returns-clause-known
read_comparison-returns-clause-known t c = joined_there c.args.input.now c.in_ok-left.left.expr c.in_ok-right.right.expr c.in_ok-whole.whole.expr c.in_ok-whole.ensures.expr c.in_ok-left.ensures.known c.in_ok-right.ensures.known

pub read_unary-returns-in-Leaf-clause-known : goal.read_unary-returns-in-Leaf-clause-known
read_unary-returns-in-Leaf-clause-known t c = leaf_there c.args.input.now _ _ c.in-Leaf.is c.in-Some.ensures.known

pub read_unary-returns-in_ok-whole-in-Unary-clause-known : goal.read_unary-returns-in_ok-whole-in-Unary-clause-known
read_unary-returns-in_ok-whole-in-Unary-clause-known t c = applied_there c.args.input.now c.in_ok-operand-in-Unary.operand.expr c.in_ok-whole-in-Unary.whole.expr c.in_ok-whole-in-Unary.ensures.expr c.in_ok-operand-in-Unary.ensures.known
