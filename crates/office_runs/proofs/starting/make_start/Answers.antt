use Rattle.std.proofs.Common.{◌≡◌, ℕ, true, Some, IfSome, Option, subst}
use Rattle.chor_base.specs.declared.event.Event.TheVariants as made
use Rattle.post_office.specs.Starts.{is_joining}
use Rattle.post_office.specs.Views.{OfficeView, post_at}
use Rattle.office_runs.proofs.Alike.{count_posts}
use Rattle.office_runs.proofs.Parts.{may_post}
use Rattle.office_runs.proofs.Starts.{cast_of, some_there, not_absent, has_started}
use Rattle.office_runs.proofs.starting.make_start.Goals as goal

-- the last process that was posted joins
last_joins : (w : OfficeView) (o : Option ℕ) (p : ℕ) → o ≡ Some p → IfSome o (λ pid. is_joining (post_at w.desks pid) ≡ true) → is_joining (post_at w.desks p) ≡ true
last_joins w o p e h = subst (λ (x : Option ℕ). IfSome x (λ pid. is_joining (post_at w.desks pid) ≡ true)) e h

pub post_all-requires-clause-may : goal.post_all-requires-clause-may
post_all-requires-clause-may c = may_post c.args.office.now c.args.count c.args.channel c.args.sid c.args.parts.now c.requires.may

pub post_all-requires-clause-count : goal.post_all-requires-clause-count
post_all-requires-clause-count c = count_posts c.args.office.now c.args.count (made.Start c.args.channel c.args.sid c.args.parts.now) c.requires.may c.history.ensures.kept

pub unreachable-requires : goal.unreachable-requires
unreachable-requires c = some_there (cast_of c.args.office.now c.args.count c.args.channel c.args.sid c.args.parts.now c.requires.may c.history.ensures.kept) (c.in_ok-pid.ensures.none c.in_default.is)

pub unreachable-requires-in-Absent : goal.unreachable-requires-in-Absent
unreachable-requires-in-Absent c =
    let cast = cast_of c.args.office.now c.args.count c.args.channel c.args.sid c.args.parts.now c.requires.may c.history.ensures.kept in
    let joins = last_joins c.post_all.new.office c.in_ok-pid.field-0 c.in-Some.pid c.in-Some.is c.in_ok-pid.ensures.joins in
    not_absent cast c.requires.busy c.post_all.new.office c.in_ok-pid.ensures.posted c.in_ok-pid.ensures.board c.in-Some.pid joins c.start.new.self c.in-Absent.field-0 c.in-Absent.ensures

pub returns-in-Started-clause-noted : goal.returns-in-Started-clause-noted
returns-in-Started-clause-noted c =
    let cast = cast_of c.args.office.now c.args.count c.args.channel c.args.sid c.args.parts.now c.requires.may c.history.ensures.kept in
    let joins = last_joins c.post_all.new.office c.in_ok-pid.field-0 c.in-Some.pid c.in-Some.is c.in_ok-pid.ensures.joins in
    (has_started cast c.requires.busy c.post_all.new.office c.in_ok-pid.ensures.posted c.in_ok-pid.ensures.board c.in-Some.pid joins c.start.new.self c.in-Started.field-0 c.in-Started.ensures).0

pub returns-in-Started-clause-busy : goal.returns-in-Started-clause-busy
returns-in-Started-clause-busy c =
    let cast = cast_of c.args.office.now c.args.count c.args.channel c.args.sid c.args.parts.now c.requires.may c.history.ensures.kept in
    let joins = last_joins c.post_all.new.office c.in_ok-pid.field-0 c.in-Some.pid c.in-Some.is c.in_ok-pid.ensures.joins in
    (has_started cast c.requires.busy c.post_all.new.office c.in_ok-pid.ensures.posted c.in_ok-pid.ensures.board c.in-Some.pid joins c.start.new.self c.in-Started.field-0 c.in-Started.ensures).1
