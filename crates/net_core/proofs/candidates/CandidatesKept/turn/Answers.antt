use Rattle.std.proofs.Common.{inl, inr, ◌∙◌, sym, refl, subst, ◌≡◌, ◌<◌, ℕ, true}
use Rattle.std.proofs.lemmas.Option.{none-some}
use Rattle.chor_host.specs.Functions.{hosts_in}
use Rattle.chor_host.specs.Tables.{functions_of}
use Rattle.endpoint_code.specs.NetworkRuns.{none_can_step}
use Rattle.endpoint_code.specs.Scheduled.{listed, ended, limit}
use Rattle.net_core.specs.Candidates.{IsUpToDate}
use Rattle.net_core.proofs.Leaders.{none_listed}
use Rattle.net_core.proofs.Runs.{picked_steps, none_picked, stuck_closes, turned}
use Rattle.net_core.proofs.Becoming.{has_moved}
use Rattle.net_core.proofs.candidates.CandidatesKept.turn.Goals as goal

pub returns-then-have_ended : goal.returns-then-have_ended
returns-then-have_ended g c =
    let v = c.args.network.now in
    record {
      turns = record { same = record { endpoints = refl; capacity = refl; state = refl; history = refl; stopped = refl; room = λ p h. h }; closes = ended (sym (c.have_ended.ensures v.endpoints v.capacity v.state c.requires.kept) ∙ c.if-have_ended.true) };
      kept = λ i. absurd (none-some _ (sym i));
    }

pub returns-then-events-steps : goal.returns-then-events-steps
returns-then-events-steps g c =
    let v = c.args.network.now in
    record {
      turns = record {
        same = record { endpoints = refl; capacity = refl; state = refl; history = refl; stopped = refl; room = λ p h. h };
        closes = limit (sym (c.have_ended.ensures v.endpoints v.capacity v.state c.requires.kept) ∙ c.if-have_ended.false) (sym c.events.ensures.events ∙ c.if-events-steps.true);
      };
      kept = λ i. absurd (none-some _ (sym i));
    }

pub returns-in_default : goal.returns-in_default
returns-in_default g c =
    let v = c.args.network.now in
    let none : none_can_step v.endpoints v.capacity v.state v.state.machines ≡ true =
    none_listed v.endpoints v.capacity v.state c.count-count.ensures.stand (none_picked (listed v.endpoints v.capacity v.state) _ (sym (c.pick.ensures.picks v.endpoints v.capacity v.state c.requires.kept) ∙ c.in_default.is)) in
    record {
      turns = stuck_closes (hosts_in v.endpoints.names (functions_of c.args.hosts.now)) c.args.seed c.args.steps v c.stuck.result c.stuck.ensures (λ h. c.if-events-steps.false (c.events.ensures.events ∙ h)) none;
      kept = λ i. absurd (none-some _ (sym i));
    }

pub stuck-requires-clause-unended : goal.stuck-requires-clause-unended
stuck-requires-clause-unended g c = let v = c.args.network.now in sym (c.have_ended.ensures v.endpoints v.capacity v.state c.requires.kept) ∙ c.if-have_ended.false

pub stuck-requires-clause-none : goal.stuck-requires-clause-none
stuck-requires-clause-none g c =
    let v = c.args.network.now in
    none_listed v.endpoints v.capacity v.state c.count-count.ensures.stand (none_picked (listed v.endpoints v.capacity v.state) _ (sym (c.pick.ensures.picks v.endpoints v.capacity v.state c.requires.kept) ∙ c.in_default.is))

pub head-head-requires : goal.head-head-requires
head-head-requires g c = let v = c.args.network.now in (picked_steps v.endpoints v.capacity v.state c.args.seed c.events-2.result c.in-Some.pid (sym (c.in-Some.ensures.picks v.endpoints v.capacity v.state c.requires.kept))).0

pub go-requires-clause-there : goal.go-requires-clause-there
go-requires-clause-there g c = let v = c.args.network.now in (picked_steps v.endpoints v.capacity v.state c.args.seed c.events-2.result c.in-Some.pid (sym (c.in-Some.ensures.picks v.endpoints v.capacity v.state c.requires.kept))).0

pub go-requires-clause-steps : goal.go-requires-clause-steps
go-requires-clause-steps g c = let v = c.args.network.now in (picked_steps v.endpoints v.capacity v.state c.args.seed c.events-2.result c.in-Some.pid (sym (c.in-Some.ensures.picks v.endpoints v.capacity v.state c.requires.kept))).1

pub follow-requires : goal.follow-requires
follow-requires g c =
    let v = c.args.network.now in
    let up = subst (IsUpToDate v.endpoints v.capacity v.state) (sym c.in-Some.ensures.stays) c.requires.kept in
    let there = subst (λ (k : ℕ). c.in-Some.pid < k) (sym c.count-count.ensures.count) (picked_steps v.endpoints v.capacity v.state c.args.seed c.events-2.result c.in-Some.pid (sym (c.in-Some.ensures.picks v.endpoints v.capacity v.state c.requires.kept))).0 in
    has_moved (hosts_in v.endpoints.names (functions_of c.args.hosts.now)) v c.go.new.self (record { pid = c.in-Some.pid; head = c.head-head.result; count = c.count-count.result }) c.pick.new.self c.head-head.ensures c.count-count.ensures.count there c.in-Ok.ensures.ok c.in-Ok.ensures.grown up

pub returns-in-Ok-follow-clause-turns : goal.returns-in-Ok-follow-clause-turns
returns-in-Ok-follow-clause-turns g c =
    let v = c.args.network.now in
    turned (hosts_in v.endpoints.names (functions_of c.args.hosts.now)) c.args.seed c.args.steps v c.go.new.self c.in-Some.pid c.events-2.result (sym (c.have_ended.ensures v.endpoints v.capacity v.state c.requires.kept) ∙ c.if-have_ended.false)
    (λ h. c.if-events-steps.false (c.events.ensures.events ∙ h)) (c.in-Some.ensures.picks v.endpoints v.capacity v.state c.requires.kept) c.events-2.ensures.events c.in-Ok.ensures.ok c.in-Ok.ensures.grown

pub returns-in-Err-follow-clause-turns : goal.returns-in-Err-follow-clause-turns
returns-in-Err-follow-clause-turns g c =
    let v = c.args.network.now in
    inr (turned (hosts_in v.endpoints.names (functions_of c.args.hosts.now)) c.args.seed c.args.steps v c.go.new.self c.in-Some.pid c.events-2.result (sym (c.have_ended.ensures v.endpoints v.capacity v.state c.requires.kept) ∙ c.if-have_ended.false)
    (λ h. c.if-events-steps.false (c.events.ensures.events ∙ h)) (c.in-Some.ensures.picks v.endpoints v.capacity v.state c.requires.kept) c.events-2.ensures.events c.in-Ok.ensures.ok c.in-Ok.ensures.grown)

pub pick-requires-clause-small : goal.pick-requires-clause-small
pick-requires-clause-small g c = c.requires.seed

pub pick-requires-clause-few : goal.pick-requires-clause-few
pick-requires-clause-few g c = c.events-2.ensures.few

pub go-requires-clause-shows : goal.go-requires-clause-shows
go-requires-clause-shows g c = c.head-head.ensures

pub go-requires-clause-hosts : goal.go-requires-clause-hosts
go-requires-clause-hosts g c = c.requires.hosts

pub go-requires-clause-fits : goal.go-requires-clause-fits
go-requires-clause-fits g c = c.requires.fits (λ h. c.if-events-steps.false (c.events.ensures.events ∙ h))

pub returns-in-Ok-follow-clause-kept : goal.returns-in-Ok-follow-clause-kept
returns-in-Ok-follow-clause-kept g c = λ i. c.in-Ok-follow.ensures

pub returns-in-Err-follow-clause-kept : goal.returns-in-Err-follow-clause-kept
returns-in-Err-follow-clause-kept g c = λ i. absurd (none-some _ (sym i))

pub returns-in-Err-clause-turns : goal.returns-in-Err-clause-turns
returns-in-Err-clause-turns g c = inl c.in-Err.ensures.same

pub returns-in-Err-clause-kept : goal.returns-in-Err-clause-kept
returns-in-Err-clause-kept g c = λ i. absurd (none-some _ (sym i))
