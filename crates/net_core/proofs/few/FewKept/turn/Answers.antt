use Rattle.std.proofs.Common.{inr, ◌∙◌, ◌+◌, ◌<◌, ◌≤◌, sym, refl, ap, subst, ◌≡◌, Option, Some, List, ℕ, length, true, inl, arith}
use Rattle.std.specs.Prelude.{slice_get}
use Rattle.std.proofs.lemmas.Option.{none-some}
use Rattle.chor_host.specs.Functions.{hosts_in}
use Rattle.chor_host.specs.Tables.{functions_of}
use Rattle.endpoint_code.specs.declared.endpoints.Endpoints.{Endpoints}
use Rattle.endpoint_code.specs.Network.{NetworkState}
use Rattle.endpoint_code.specs.NetworkRuns.{none_can_step}
use Rattle.endpoint_code.specs.Scheduled.{listed, picked_of, ended, limit}
use Rattle.endpoint_machine.specs.declared.head.Head.{Head}
use Rattle.net_core.specs.Shown.{ShowsAll}
use Rattle.net_core.specs.Heads.{EachStands, Shows, steps_at}
use Rattle.net_core.proofs.Shown.{shown_in, stepped_others}
use Rattle.net_core.proofs.Leaders.{none_listed}
use Rattle.net_core.proofs.Runs.{picked_steps, none_picked, stuck_closes, turned}
use Rattle.net_core.proofs.few.FewKept.turn.Goals as goal

-- the process that is picked among those listed is there and can step
picked_among : (e : Endpoints) (cap : Option ℕ) (n : NetworkState) (seed events p : ℕ) (pids : List ℕ) → pids ≡ listed e cap n → Some p ≡ picked_of pids (seed + events) → (p < length n.machines) × (steps_at e cap n p ≡ true)
picked_among e cap n seed events p pids lists is = picked_steps e cap n seed events p (sym (is ∙ ap (λ (l : List ℕ). picked_of l (seed + events)) lists))

-- the head that is still kept of a process tells of it
shown_kept : (e : Endpoints) (n : NetworkState) (p : ℕ) (heads kept : List Head) (h : Head) → EachStands e n → ShowsAll e n heads → kept ≡ heads → slice_get kept p ≡ Some h → Shows e n p h
shown_kept e n p heads kept h stand all same is = shown_in e n p heads h stand all (ap (λ (l : List Head). slice_get l p) (sym same) ∙ is)

still_there : (p k m : ℕ) → p < k → k ≤ m → p < m
still_there p k m lt le = omega arith

pub returns-in_default : goal.returns-in_default
returns-in_default g c = record { turns = inl (record { endpoints = refl; capacity = refl; state = refl; history = refl; stopped = refl; room = λ p h. h }); kept = λ i. absurd (none-some _ (sym i)) }

pub returns-then-ended : goal.returns-then-ended
returns-then-ended g c = record {
  turns = record { same = record { endpoints = refl; capacity = refl; state = refl; history = refl; stopped = refl; room = λ p h. h }; closes = ended (sym c.in-Ok.ensures.ended ∙ c.if-ended.true) };
  kept = λ i. absurd (none-some _ (sym i));
}

pub returns-then-events-steps : goal.returns-then-events-steps
returns-then-events-steps g c = record {
  turns = record {
    same = record { endpoints = refl; capacity = refl; state = refl; history = refl; stopped = refl; room = λ p h. h };
    closes = limit (sym c.in-Ok.ensures.ended ∙ c.if-ended.false) (sym c.events.ensures.events ∙ c.if-events-steps.true);
  };
  kept = λ i. absurd (none-some _ (sym i));
}

pub stuck-requires-clause-none : goal.stuck-requires-clause-none
stuck-requires-clause-none g c =
    let v = c.args.network.now in
    let all = listed v.endpoints v.capacity v.state in
    none_listed v.endpoints v.capacity v.state c.in-Ok.ensures.stand (none_picked all _ (sym (ap (λ (l : List ℕ). picked_of l (c.args.seed + c.events-2.result)) c.in-Ok.ensures.listed) ∙ sym c.pick.ensures ∙ c.in_default-pick.is))

pub returns-in_default-pick : goal.returns-in_default-pick
returns-in_default-pick g c =
    let v = c.args.network.now in
    let all = listed v.endpoints v.capacity v.state in
    let none : none_can_step v.endpoints v.capacity v.state v.state.machines ≡ true =
    none_listed v.endpoints v.capacity v.state c.in-Ok.ensures.stand (none_picked all _ (sym (ap (λ (l : List ℕ). picked_of l (c.args.seed + c.events-2.result)) c.in-Ok.ensures.listed) ∙ sym c.pick.ensures ∙ c.in_default-pick.is)) in
    record {
      turns = stuck_closes (hosts_in v.endpoints.names (functions_of c.args.hosts.now)) c.args.seed c.args.steps v c.stuck.result c.stuck.ensures (λ h. c.if-events-steps.false (c.events.ensures.events ∙ h)) none;
      kept = λ i. absurd (none-some _ (sym i));
    }

pub head-head-requires : goal.head-head-requires
head-head-requires g c =
    let v = c.args.network.now in
    let there = (picked_among v.endpoints v.capacity v.state c.args.seed c.events-2.result c.in-Some.pid _ c.in-Ok.ensures.listed c.in-Some.ensures).0 in
    subst (λ (k : ℕ). c.in-Some.pid < k) (sym {A = ℕ} (ap length c.in-Ok.ensures.kept ∙ c.requires.kept.count)) there

pub go-requires-clause-there : goal.go-requires-clause-there
go-requires-clause-there g c = let v = c.args.network.now in (picked_among v.endpoints v.capacity v.state c.args.seed c.events-2.result c.in-Some.pid _ c.in-Ok.ensures.listed c.in-Some.ensures).0

pub go-requires-clause-steps : goal.go-requires-clause-steps
go-requires-clause-steps g c = let v = c.args.network.now in (picked_among v.endpoints v.capacity v.state c.args.seed c.events-2.result c.in-Some.pid _ c.in-Ok.ensures.listed c.in-Some.ensures).1

pub go-requires-clause-shows : goal.go-requires-clause-shows
go-requires-clause-shows g c =
    let v = c.args.network.now in
    shown_kept v.endpoints v.state c.in-Some.pid c.args.self.now.heads.items _ c.head-head.result c.in-Ok.ensures.stand c.requires.kept c.in-Ok.ensures.kept c.head-head.ensures

pub follow-requires-clause-there : goal.follow-requires-clause-there
follow-requires-clause-there g c =
    let v = c.args.network.now in
    let there = (picked_among v.endpoints v.capacity v.state c.args.seed c.events-2.result c.in-Some.pid _ c.in-Ok.ensures.listed c.in-Some.ensures).0 in
    still_there c.in-Some.pid _ _ there c.in-Ok-go.ensures.grown.kept

pub follow-requires-clause-others : goal.follow-requires-clause-others
follow-requires-clause-others g c =
    let v = c.args.network.now in
    let heads = c.args.self.now.heads.items in
    let shows = shown_kept v.endpoints v.state c.in-Some.pid heads _ c.head-head.result c.in-Ok.ensures.stand c.requires.kept c.in-Ok.ensures.kept c.head-head.ensures in
    let all = subst (ShowsAll v.endpoints v.state) (sym {A = List Head} c.in-Ok.ensures.kept) c.requires.kept in
    stepped_others (hosts_in v.endpoints.names (functions_of c.args.hosts.now)) v c.go.new.self c.in-Some.pid c.head-head.result _ shows all c.in-Ok-go.ensures.ok c.in-Ok-go.ensures.alone

pub survey-requires : goal.survey-requires
survey-requires g c = c.requires.kept

pub pick-requires-clause-small : goal.pick-requires-clause-small
pick-requires-clause-small g c = c.requires.seed

pub pick-requires-clause-few : goal.pick-requires-clause-few
pick-requires-clause-few g c = c.events-2.ensures.few

pub stuck-requires-clause-unended : goal.stuck-requires-clause-unended
stuck-requires-clause-unended g c = sym c.in-Ok.ensures.ended ∙ c.if-ended.false

pub go-requires-clause-hosts : goal.go-requires-clause-hosts
go-requires-clause-hosts g c = c.requires.hosts

pub go-requires-clause-fits : goal.go-requires-clause-fits
go-requires-clause-fits g c = c.requires.fits (λ h. c.if-events-steps.false (c.events.ensures.events ∙ h))

pub returns-in-Ok-follow-clause-turns : goal.returns-in-Ok-follow-clause-turns
returns-in-Ok-follow-clause-turns g c =
    let v = c.args.network.now in
    turned (hosts_in v.endpoints.names (functions_of c.args.hosts.now)) c.args.seed c.args.steps v c.go.new.self c.in-Some.pid c.events-2.result (sym c.in-Ok.ensures.ended ∙ c.if-ended.false)
    (λ h. c.if-events-steps.false (c.events.ensures.events ∙ h)) (c.in-Some.ensures ∙ ap (λ (l : List ℕ). picked_of l (c.args.seed + c.events-2.result)) c.in-Ok.ensures.listed) c.events-2.ensures.events c.in-Ok-go.ensures.ok c.in-Ok-go.ensures.grown

pub returns-in-Ok-follow-clause-kept : goal.returns-in-Ok-follow-clause-kept
returns-in-Ok-follow-clause-kept g c = λ i. c.in-Ok-follow.ensures

pub returns-in-Err-follow-clause-turns : goal.returns-in-Err-follow-clause-turns
returns-in-Err-follow-clause-turns g c =
    let v = c.args.network.now in
    inr (turned (hosts_in v.endpoints.names (functions_of c.args.hosts.now)) c.args.seed c.args.steps v c.go.new.self c.in-Some.pid c.events-2.result (sym c.in-Ok.ensures.ended ∙ c.if-ended.false)
    (λ h. c.if-events-steps.false (c.events.ensures.events ∙ h)) (c.in-Some.ensures ∙ ap (λ (l : List ℕ). picked_of l (c.args.seed + c.events-2.result)) c.in-Ok.ensures.listed) c.events-2.ensures.events c.in-Ok-go.ensures.ok c.in-Ok-go.ensures.grown)

pub returns-in-Err-follow-clause-kept : goal.returns-in-Err-follow-clause-kept
returns-in-Err-follow-clause-kept g c = λ i. absurd (none-some _ (sym i))

pub returns-in-Err-clause-turns : goal.returns-in-Err-clause-turns
returns-in-Err-clause-turns g c = inl c.in-Err.ensures.same

pub returns-in-Err-clause-kept : goal.returns-in-Err-clause-kept
returns-in-Err-clause-kept g c = λ i. absurd (none-some _ (sym i))
