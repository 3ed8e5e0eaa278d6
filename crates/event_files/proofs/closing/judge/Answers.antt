use Rattle.std.proofs.Common.{◌∙◌, refl, sym}
use Rattle.event_files.proofs.ClosingLines.{never_closing, never_two}
use Rattle.event_files.proofs.closing.judge.Goals as goal
use Rattle.event_files.proofs.closing.judge.Goals.{else-is_empty-via-then-is_empty+else-closes, else-is_empty-via-else-is_empty}

pub returns : goal.returns
returns c = (
  refl,
  elim c.else-is_empty.branch [
    | else-is_empty-via-then-is_empty+else-closes w ↦ never_closing c.args.replayed c.in-Some.line.now w.closes.result _ _ c.in-Some.ensures.lines w.closes.ensures w.if-closes.false
    | else-is_empty-via-else-is_empty w ↦ never_two c.args.replayed c.in-Some.line.now c.in-Some.after.now _ c.in-Some.ensures.lines (sym c.is_empty.ensures ∙ w.if-is_empty.false)
  ],
)
