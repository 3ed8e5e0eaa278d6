use Rattle.std.proofs.Common.{sym, ◌∙◌}
use Rattle.branch_merge.proofs.Meetings.{go_on, fork_of}
use Rattle.branch_merge.proofs.meeting.meet.Goals as goal

pub returns-in-If-If : goal.returns-in-If-If
returns-in-If-If c = fork_of c.args.left.now c.args.right.now _ _ _ _ (c.have_same_head.ensures.0 c.if-not-have_same_head.false) c.in-If-If.is-0 c.in-If-If.is-1

pub returns-in-Some-Some : goal.returns-in-Some-Some
returns-in-Some-Some c =
    go_on c.args.left.now c.args.right.now _ _ (c.have_same_head.ensures.0 c.if-not-have_same_head.false)
    (sym c.next_of.ensures ∙ c.in-Some-Some.is-0) (sym c.next_of-in_default.ensures ∙ c.in-Some-Some.is-1)
