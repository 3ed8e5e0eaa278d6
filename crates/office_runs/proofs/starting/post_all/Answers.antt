use Rattle.std.proofs.Common.{◌≡◌, ◌+◌, ◌<◌, ℕ, drop, true, None, Some, IfSome, Option, length, get_or, sym, ap, ◌∙◌, subst, arith}
use Rattle.std.proofs.lemmas.List.{take_all}
use Rattle.chor_base.specs.declared.names.NameId.{NameId}
use Rattle.post_office.specs.declared.post.Post.TheVariants.{Joining}
use Rattle.post_office.specs.Answers.{posted}
use Rattle.post_office.specs.Starts.{is_joining}
use Rattle.post_office.specs.Views.{OfficeView, post_at}
use Rattle.office_runs.specs.Told.{HasPosted, AreOthers, joined_board}
use Rattle.office_runs.proofs.Posted.{posted_more, posted_own}
use Rattle.office_runs.proofs.Board.{turn_posted, turn_passed, others_more}
use Rattle.office_runs.proofs.starting.post_all.Goals as goal
use Rattle.office_runs.proofs.starting.post_all.Goals.{then-part-count+in_ok-board, else-part-count}

pub loop-part-preserved : goal.loop-part-preserved
loop-part-preserved c =
    let qs = c.args.parts.now in
    let i = c.loop-part.part-index in
    let d : NameId × ℕ = (record { 0 = 0 }, 0) in
    let q : NameId × ℕ = get_or qs i d in
    let old = c.loop-part.office in
    let so_far = c.loop-part.invariant in
    let lt = c.loop-part-test.true in
    elim c.if-part-count.branch [
      | then-part-count+in_ok-board w ↦ (
          let is : c.if-part-count.office ≡ posted old q.1 (Joining c.args.channel q.0) = w.office-is ∙ w.board.ensures.posted in
          let below : q.1 < c.args.count = w.if-part-count.true in
          let long = so_far.0.processes in
          let there : q.1 < length old.desks = omega (arith, long, c.requires.count, below) in
          let own : post_at (posted old q.1 (Joining c.args.channel q.0)).desks q.1 ≡ Joining c.args.channel q.0 = posted_own old.desks q.1 (record { post = Joining c.args.channel q.0; joined = None }) there in
          let joins : is_joining (post_at c.if-part-count.office.desks q.1) ≡ true = ap (λ (o : OfficeView). is_joining (post_at o.desks q.1)) is ∙ ap is_joining own in (
            subst (HasPosted c.args.office.now) (sym is) (posted_more c.args.office.now old q.1 (Joining c.args.channel q.0) so_far.0),
            subst (λ (o : Option ℕ). IfSome o (λ pid. is_joining (post_at c.if-part-count.office.desks pid) ≡ true)) (sym w.last-is) joins,
            ap (λ (o : OfficeView). joined_board o.desks c.args.channel c.args.count (drop (i + 1) qs)) is ∙ turn_posted c.args.channel c.args.count qs i d lt old.desks below ∙ so_far.2,
            λ h. let no : Some q.1 ≡ None = sym w.last-is ∙ h in absurd cc,
          )
          )
      | else-part-count w ↦ (
        subst (HasPosted c.args.office.now) (sym w.office-is) so_far.0,
        subst (λ (o : OfficeView). IfSome c.if-part-count.last (λ pid. is_joining (post_at o.desks pid) ≡ true)) (sym w.office-is) (subst (λ (o : Option ℕ). IfSome o (λ pid. is_joining (post_at old.desks pid) ≡ true)) (sym w.last-is) so_far.1),
        ap (λ (o : OfficeView). joined_board o.desks c.args.channel c.args.count (drop (i + 1) qs)) w.office-is ∙ turn_passed c.args.channel c.args.count qs i d lt old.desks w.if-part-count.false ∙ so_far.2,
        λ h. others_more c.args.channel c.args.count qs i d lt w.if-part-count.false (so_far.3 (sym w.last-is ∙ h)),
      )
    ]

pub returns-clause-none : goal.returns-clause-none
returns-clause-none c h =
    subst (AreOthers c.args.count) (take_all c.loop-part.part-index c.args.parts.now c.loop-part-test.false) (c.loop-part.invariant.3 h)
