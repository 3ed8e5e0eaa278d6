-- Runs that are made step by step.
use Rattle.std.proofs.Common.{◌≡◌, ℕ, ◌+◌, ◌<◌, Bool, true, false, cond, drop, length, refl, sym, ap, ◌∙◌, subst, Option, Some, None, ◌⊎◌, inl, inr}
use Rattle.std.specs.Prelude.{◌≢◌, slice_get}
use Rattle.std.proofs.lemmas.Bool.{true≢false}
use Rattle.std.proofs.lemmas.Option.{none-some}
use Rattle.chor_base.specs.declared.event.Why.{Why}
use Rattle.chor_base.specs.Meaning.{Hosts}
use Rattle.endpoint_code.specs.declared.endpoints.Endpoints.{Endpoints}
use Rattle.chor_base.specs.NameMap.{Variables}
use Rattle.endpoint_code.specs.Network.{Machine, NetworkState, Place, place_of}
use Rattle.endpoint_code.specs.NetworkRuns.{ends_there, node_waits, place_waits, has_ended, none_can_step}
use Rattle.endpoint_code.proofs.Standing.{at_end, none_at}
use Rattle.endpoint_code.specs.Scheduled.{first_waiting, first_waiting_from, stuck}
use Rattle.net_core.specs.declared.answer.Step.{Step}
use Rattle.net_core.specs.declared.answer.Step.TheVariants as step
use Rattle.net_core.specs.declared.answer.Picked.{Picked}
use Rattle.net_core.specs.declared.answer.Picked.TheVariants as picked
use Rattle.net_core.specs.Heads.{ended_at, ended_of, why_at, why_of, steps_at, steps_of}
use Rattle.net_core.specs.Picks.{Turns, IsStuck}
use Rattle.net_core.specs.Steps.{Answers}
use Rattle.net_core.specs.Views.{NetworkView, IsSame}
use Rattle.net_core.proofs.Turns.{waiting_turn}
use Rattle.endpoint_runs.specs.StepByStep.{TellsWhy}

-- ---- nobody waits who has ended

ended_waits : (e : Endpoints) (cap : Option ℕ) (n : NetworkState) (vars : Variables) (q : Option Place) → ends_there q ≡ true → place_waits e cap n vars q ≡ None
ended_waits e cap n vars None h = refl
ended_waits e cap n vars (Some q) h = ap (node_waits e cap n vars q.sessions) (at_end q h)

waits_unended : (e : Endpoints) (cap : Option ℕ) (n : NetworkState) (o : Option Machine) (w : Why) → why_of e cap n o ≡ Some w → ended_of e o ≡ false
waits_unended e cap n None w h = refl
waits_unended e cap n (Some m) w h = go (has_ended e m) refl
  where
    go : (b : Bool) → has_ended e m ≡ b → has_ended e m ≡ false
    go false is = is
    go true is = absurd (none-some _ (sym (ended_waits e cap n m.vars (place_of e m) is) ∙ h))

-- ---- where no process can step

-- before a look at a process: nothing has changed but room, and those before it have ended
pub record Looks (first now : NetworkView) (p : ℕ) : Type 0 where
  pub same : IsSame first now
  pub left : first_waiting first.endpoints first.capacity first.state ≡ first_waiting_from first.endpoints first.capacity first.state p (drop p first.state.machines)

also_same : (P : Endpoints → Option ℕ → NetworkState → Type 0) (first now : NetworkView) → IsSame first now → P now.endpoints now.capacity now.state → P first.endpoints first.capacity first.state
also_same P first now s x =
    subst (λ (n : NetworkState). P first.endpoints first.capacity n) s.state
    (subst (λ (k : Option ℕ). P first.endpoints k now.state) s.capacity
    (subst (λ (e : Endpoints). P e now.capacity now.state) s.endpoints x))

same_twice : (first now new : NetworkView) → IsSame first now → IsSame now new → IsSame first new
same_twice first now new a b = record { endpoints = b.endpoints ∙ a.endpoints; capacity = b.capacity ∙ a.capacity; state = b.state ∙ a.state; history = b.history ∙ a.history; stopped = b.stopped ∙ a.stopped; room = λ p h. b.room p (a.room p h) }

turned_at : (first now : NetworkView) (p : ℕ) (b : Bool) → Looks first now p → p < length first.state.machines → b ≡ ended_at first.endpoints first.state p
    → first_waiting first.endpoints first.capacity first.state ≡ cond b (first_waiting_from first.endpoints first.capacity first.state (p + 1) (drop (p + 1) first.state.machines)) (Some (p, why_at first.endpoints first.capacity first.state p))
turned_at first now p b l within is = l.left ∙ waiting_turn first.endpoints first.capacity first.state p b within is

-- it has ended, and so have those before it
pub looks_on : (hosts : Hosts) (first now new : NetworkView) (p : ℕ) (r : Step) → r ≡ step.Ended → Answers hosts now p r new → Looks first now p → p < length first.state.machines → Looks first new (p + 1)
looks_on hosts first now new p r is answers l within =
    let a = subst (λ (s : Step). Answers hosts now p s new) is answers in
    let ended = also_same (λ e cap n. ended_at e n p ≡ true) first now l.same a.0 in
    record { same = same_twice first now new l.same a.1; left = turned_at first now p true l within (sym ended) }

-- it waits, and those before it have ended
pub waits_first : (hosts : Hosts) (first now new : NetworkView) (p : ℕ) (why : Why) (r : Step) → r ≡ step.Waits why → Answers hosts now p r new → Looks first now p → p < length first.state.machines → TellsWhy first (picked.Stuck p why) new
waits_first hosts first now new p why r is answers l within =
    let a = subst (λ (s : Step). Answers hosts now p s new) is answers in
    let waits = also_same (λ e cap n. why_at e cap n p ≡ Some why) first now l.same a.0 in
    let unended = waits_unended first.endpoints first.capacity first.state _ why waits in
    record { same = same_twice first now new l.same a.1; stuck = inr (turned_at first now p false l within (sym unended) ∙ ap (λ w. Some (p, w)) waits) }

-- nobody steps where none can
never_steps : (e : Endpoints) (cap : Option ℕ) (n : NetworkState) (p : ℕ) → none_can_step e cap n n.machines ≡ true → steps_at e cap n p ≡ true → ⊥
never_steps e cap n p none s = go (slice_get n.machines p) refl s
  where
    go : (o : Option Machine) → slice_get n.machines p ≡ o → steps_of e cap n o ≡ true → ⊥
    go None there s = true≢false (sym s)
    go (Some m) there s = true≢false (sym s ∙ none_at e cap n n.machines p m none there)

-- there was no memory for it
pub looks_no_more : (hosts : Hosts) (first now new : NetworkView) (p : ℕ) (r : Step) → ((why : Why) → r ≡ step.Waits why → ⊥) → (r ≡ step.Ended → ⊥) → Answers hosts now p r new → Looks first now p → none_can_step first.endpoints first.capacity first.state first.state.machines ≡ true → TellsWhy first picked.Memory new
looks_no_more hosts first now new p step.Did waits ended a l none = absurd (never_steps first.endpoints first.capacity first.state p none (also_same (λ e cap n. steps_at e cap n p ≡ true) first now l.same a.0))
looks_no_more hosts first now new p (step.Waits why) waits ended a l none = absurd (waits why refl)
looks_no_more hosts first now new p step.Ended waits ended a l none = absurd (ended refl)
looks_no_more hosts first now new p step.Memory waits ended a l none = record { same = same_twice first now new l.same a.2; stuck = inl refl }

-- ---- one turn

-- what is no event changes nothing but room
pub no_event : (hosts : Hosts) (old new : NetworkView) (p : ℕ) (r : Step) → (r ≡ step.Did → ⊥) → Answers hosts old p r new → IsSame old new
no_event hosts old new p step.Did other a = absurd (other refl)
no_event hosts old new p (step.Waits why) other a = a.1
no_event hosts old new p step.Ended other a = a.1
no_event hosts old new p step.Memory other a = a.2

pub stuck_turns : (hosts : Hosts) (seed steps : ℕ) (old new : NetworkView) (r : Picked) → TellsWhy old r new → length old.history ≢ steps → none_can_step old.endpoints old.capacity old.state old.state.machines ≡ true → Turns hosts seed steps old (Some r) new
stuck_turns hosts seed steps old new r t before none = go r t.stuck
  where
    go : (r : Picked) → (r ≡ picked.Memory) ⊎ IsStuck old.endpoints old.capacity old.state r → Turns hosts seed steps old (Some r) new
    go r (inl lacks) = subst (λ (q : Picked). Turns hosts seed steps old (Some q) new) (sym lacks) (inl t.same)
    go (picked.Stuck p why) (inr s) = record { same = t.same; closes = stuck before none s }
    go picked.Ended (inr s) = absurd s
    go picked.Limit (inr s) = absurd s
    go picked.Memory (inr s) = absurd s
