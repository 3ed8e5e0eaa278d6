use Rattle.std.proofs.Common.{◌≡◌, ◌≤◌, ℕ, Bool, List, sym, subst, arith}
use Rattle.std.specs.Prelude.{◌↔◌, IsTrue}
use Rattle.transcript_lines.specs.Lines.{lines_of}
use Rattle.transcript_lines.specs.Whole.{whole_lines}
use Rattle.event_files.specs.FewLines.{HasFewLines}
use Rattle.event_files.proofs.Skipped.{Skipped, none_skipped, one_skipped, all_skipped, judged_few}
use Rattle.event_files.proofs.lines.has_few_lines.Goals as goal

pub loop-init : goal.loop-init
loop-init c = subst (λ (l : List ℕ). Skipped (lines_of l) 0 c.whole_lines-rest.result.now) c.whole_lines-rest.ensures (none_skipped c.whole_lines-rest.result.now)

pub returns-in_default : goal.returns-in_default
returns-in_default c = all_skipped (lines_of (whole_lines c.args.bytes.now)) c.loop.counter c.args.most c.loop.rest.now c.loop.invariant c.in_default.ensures.lines c.loop.auto.counter-end

pub loop-preserved : goal.loop-preserved
loop-preserved c = one_skipped (lines_of (whole_lines c.args.bytes.now)) c.loop.counter c.in-Some.field-0-0.now c.loop.rest.now c.in-Some.after.now c.loop.invariant c.in-Some.ensures.lines

pub returns : goal.returns
returns c =
    let past : c.args.most ≤ c.loop.counter = c.loop-test.false in
    let reached : c.loop.counter ≤ c.args.most = c.loop.auto.counter-end in
    let all : c.loop.counter ≡ c.args.most = omega arith in
    let lines = lines_of (whole_lines c.args.bytes.now) in
    let skipped = subst (λ (k : ℕ). Skipped lines k c.loop.rest.now) all c.loop.invariant in
    subst (λ (b : Bool). IsTrue b ↔ HasFewLines c.args.most c.args.bytes.now) (sym c.is_ok.ensures.value) (judged_few lines c.args.most c.loop.rest.now c.judge.result skipped c.judge.ensures)
