-- A local event that is noted.
use Rattle.std.proofs.Common.{◌≡◌, ◌≢◌, ℕ, ◌+◌, ◌<◌, ◌==◌, inl, inr, Bool, true, false, List, [], ◌∷◌, length, refl, sym, ap, ◌∙◌, subst, Option, Some, None, if◌then◌else◌}
use Rattle.std.specs.Prelude.{slice_get, slice_set, map, All}
use Rattle.std.proofs.lemmas.Nat.{mod-mul-add}
use Rattle.std.proofs.lemmas.Bool.{eqb-true}
use Rattle.std.proofs.lemmas.List.Elements.{All-head, All-tail}
use Rattle.std.proofs.lemmas.Option.{slice_get_within}
use Rattle.chor_base.proofs.Lists.{get_set_other}
use Rattle.chor_base.specs.declared.event.Entry.{Entry}
use Rattle.chor_base.specs.declared.event.Event.{Event}
use Rattle.chor_base.specs.declared.event.Event.TheVariants as event
use Rattle.chor_base.specs.Events.{actors_of}
use Rattle.chor_base.specs.Meaning.{Hosts}
use Rattle.endpoint_code.specs.declared.endpoints.Endpoints.{Endpoints}
use Rattle.endpoint_code.specs.Network.{Machine, NetworkState, NetworkSteps, Makes, makes, machine_makes, moved, first_state, MachineAnswers}
use Rattle.endpoint_code.specs.Network as net
use Rattle.endpoint_code.specs.NetworkRuns.{IsNetworkRun}
use Rattle.endpoint_machine.specs.Steps.{HasActed}
use Rattle.session_starts.specs.Machines.{standing_of}
use Rattle.post_office.specs.Answers.{is_local, IsSame, HasNoted}
use Rattle.post_office.specs.Views.{OfficeView, IsAfter, CanMake, events_of}
use Rattle.post_office.proofs.Acting.{after_more}
use Rattle.post_office.proofs.Callers.{can_make}
use Rattle.crew.specs.declared.share.Share.{Share}
use Rattle.post_office.specs.Owners.{owner}
use Rattle.crew.specs.Crews.{CrewView, number_at}
use Rattle.crew.specs.Ahead.{is_by, events_by, ActsAll, ComesTo, IsOwn, IsAhead, IsUpToDate}
use Rattle.crew.proofs.Numbers.{number, number_one, set_own, is_or_not}

-- ---- offices that say the same

pub same_run : (a b : OfficeView) (n : NetworkState) → b.endpoints ≡ a.endpoints → b.hosts ≡ a.hosts → b.capacity ≡ a.capacity → b.history ≡ a.history → IsAfter a n → IsAfter b n
same_run a b n e h c t run =
    subst (λ (x : Endpoints). IsNetworkRun x b.hosts b.capacity (events_of b.history) n) (sym e)
    (subst (λ (x : Hosts). IsNetworkRun a.endpoints x b.capacity (events_of b.history) n) (sym h)
    (subst (λ (x : Option ℕ). IsNetworkRun a.endpoints a.hosts x (events_of b.history) n) (sym c)
    (subst (λ (x : List Entry). IsNetworkRun a.endpoints a.hosts a.capacity (events_of x) n) (sym t) run)))

pub same_ahead : (a b : OfficeView) (n : NetworkState) (c : CrewView) → b.endpoints ≡ a.endpoints → b.hosts ≡ a.hosts → IsAhead a.endpoints a.hosts n c → IsAhead b.endpoints b.hosts n c
same_ahead a b n c e h ahead = subst (λ (x : Endpoints). IsAhead x b.hosts n c) (sym e) (subst (λ (x : Hosts). IsAhead a.endpoints x n c) (sym h) ahead)

abbrev pub same_up : (a b : OfficeView) (c : CrewView) → IsSame a b → IsUpToDate a c → IsUpToDate b c
same_up a b c s u = record {
  seen = u.seen ∙ ap length (sym s.history);
  state = u.state;
  after = same_run a b u.state s.endpoints s.hosts s.capacity s.history u.after;
  ahead = same_ahead a b u.state c s.endpoints s.hosts u.ahead;
}

-- ---- who makes a local event

pub by_local : (p : ℕ) (x : Event) → is_by p x ≡ true → (is_local x ≡ true) × (actors_of x ≡ p ∷ [])
by_local p (event.Start c s ps) h = absurd cc
by_local p (event.Send q s a b l) h = absurd cc
by_local p (event.Recv q s a b l) h = absurd cc
by_local p (event.Test q b) h = (refl, ap (λ i. i ∷ []) (eqb-true q p h))
by_local p (event.Set q x v) h = (refl, ap (λ i. i ∷ []) (eqb-true q p h))
by_local p (event.Show q v) h = (refl, ap (λ i. i ∷ []) (eqb-true q p h))
by_local p (event.Host q x f a b v) h = (refl, ap (λ i. i ∷ []) (eqb-true q p h))

test_other : (r p q : ℕ) → (r == p) ≡ true → q ≢ p → (r == q) ≡ false
test_other r p q h apart = go (r == q) refl
  where
    go : (t : Bool) → (r == q) ≡ t → t ≡ false
    go true i = absurd (apart (sym (eqb-true r q i) ∙ eqb-true r p h))
    go false i = refl

pub by_other : (p q : ℕ) (x : Event) → is_by p x ≡ true → q ≢ p → is_by q x ≡ false
by_other p q (event.Start c s ps) h apart = absurd cc
by_other p q (event.Send r s a b l) h apart = absurd cc
by_other p q (event.Recv r s a b l) h apart = absurd cc
by_other p q (event.Test r b) h apart = test_other r p q h apart
by_other p q (event.Set r x v) h apart = test_other r p q h apart
by_other p q (event.Show r v) h apart = test_other r p q h apart
by_other p q (event.Host r x f a b v) h apart = test_other r p q h apart

pub by_first : (p : ℕ) (x : Event) (xs : List Event) → is_by p x ≡ true → events_by p (x ∷ xs) ≡ x ∷ events_by p xs
by_first p x xs h = ap (λ b. if b then x ∷ events_by p xs else events_by p xs) h

pub by_rest : (p : ℕ) (x : Event) (xs : List Event) → is_by p x ≡ false → events_by p (x ∷ xs) ≡ events_by p xs
by_rest p x xs h = ap (λ b. if b then x ∷ events_by p xs else events_by p xs) h

-- ---- the owner

pub owned_number : (h : Share) (i : ℕ) → owner h.workers (number h i) ≡ h.worker + 1
owned_number h i = ap (λ k. k + 1) (mod-mul-add i h.workers h.worker h.some)

-- ---- the first event

module _ (e : Endpoints) (hosts : Hosts) (n : NetworkState) (c : CrewView) (ahead : IsAhead e hosts n c) (x : Event) (rest : List Event) (notes : c.notes ≡ x ∷ rest) where
  maker : IsOwn c x
  maker = All-head (IsOwn c) x rest (subst (All (IsOwn c)) notes ahead.own)

  abbrev p : ℕ
  p = number_at c maker.0

  here : ComesTo e hosts (number_at c maker.0) (x ∷ events_by (number_at c maker.0) rest) (slice_get n.machines (number_at c maker.0)) (slice_get (map standing_of c.machines) maker.0)
  here =
      subst (λ (xs : List Event). ComesTo e hosts (number_at c maker.0) xs (slice_get n.machines (number_at c maker.0)) (slice_get (map standing_of c.machines) maker.0))
      (ap (events_by (number_at c maker.0)) notes ∙ by_first (number_at c maker.0) x rest maker.1) (ahead.standing maker.0)

  record Begins : Type 0 where
    old : Machine
    mid : Machine
    new : Machine
    there : slice_get n.machines (number_at c maker.0) ≡ Some old
    here_is : slice_get (map standing_of c.machines) maker.0 ≡ Some new
    acted : HasActed e hosts (number_at c maker.0) old x mid
    later : ActsAll e hosts (number_at c maker.0) mid (events_by (number_at c maker.0) rest) new

  begins : Begins
  begins = go (slice_get n.machines (number_at c maker.0)) refl (slice_get (map standing_of c.machines) maker.0) refl here
    where
      go : (o : Option Machine) → slice_get n.machines (number_at c maker.0) ≡ o → (r : Option Machine) → slice_get (map standing_of c.machines) maker.0 ≡ r → ComesTo e hosts (number_at c maker.0) (x ∷ events_by (number_at c maker.0) rest) o r → Begins
      go None i None j h = absurd cc
      go None i (Some b) j h = absurd h
      go (Some a) i None j h = absurd h
      go (Some a) i (Some b) j h = record { old = a; mid = h.0; new = b; there = i; here_is = j; acted = h.1; later = h.2 }

  next : NetworkState
  next = moved n (number_at c maker.0) begins.mid.at begins.mid.vars begins.mid.sessions

  pub note_step : (cap : Option ℕ) → (m : NetworkState) × NetworkSteps e hosts cap n x m
  note_step cap = (
    moved n (number_at c maker.0) begins.mid.at begins.mid.vars begins.mid.sessions,
    net.acts (number_at c maker.0) begins.acted.answer
        (subst (λ (o : Option Machine). MachineAnswers hosts e o begins.acted.answer) (sym begins.there) begins.acted.allowed)
        (ap (machine_makes e cap n (number_at c maker.0) begins.acted.answer) begins.there ∙ begins.acted.made cap n),
  )

  pub note_local : is_local x ≡ true
  note_local = (by_local (number_at c maker.0) x maker.1).0

  pub note_actor : (i : ℕ) × (actors_of x ≡ number_at c i ∷ [])
  note_actor = (maker.0, (by_local (number_at c maker.0) x maker.1).1)

  pub note_ahead : (cap : Option ℕ) (seen : ℕ) → IsAhead e hosts (note_step cap).0 (record c { notes = rest; seen = seen })
  unfolding note_step
  note_ahead cap seen = record {
    standing = at;
    numbers = ahead.numbers;
    bound = ahead.bound;
    own = λ k d lt. All-tail (IsOwn c) x rest (subst (All (IsOwn c)) notes ahead.own) k d lt;
  }
    where
      inside : number_at c maker.0 < length n.machines
      inside = slice_get_within n.machines (number_at c maker.0) begins.old begins.there

      at : (j : ℕ) → ComesTo e hosts (number_at c j) (events_by (number_at c j) rest) (slice_get (slice_set n.machines (number_at c maker.0) (record { at = begins.mid.at; vars = begins.mid.vars; sessions = begins.mid.sessions })) (number_at c j)) (slice_get (map standing_of c.machines) j)
      at j = elim (is_or_not j maker.0) [
        | inl same ↦ subst (λ k. ComesTo e hosts (number_at c k) (events_by (number_at c k) rest) (slice_get (slice_set n.machines (number_at c maker.0) begins.mid) (number_at c k)) (slice_get (map standing_of c.machines) k)) (sym same)
            (subst (λ (o : Option Machine). ComesTo e hosts (number_at c maker.0) (events_by (number_at c maker.0) rest) o (slice_get (map standing_of c.machines) maker.0)) (sym (set_own n.machines (number_at c maker.0) begins.mid inside))
            (subst (λ (o : Option Machine). ComesTo e hosts (number_at c maker.0) (events_by (number_at c maker.0) rest) (Some begins.mid) o) (sym begins.here_is) begins.later))
        | inr apart ↦ (
            let other : number_at c j ≢ number_at c maker.0 = λ same. apart (number_one c.share j maker.0 same) in
            subst (λ (o : Option Machine). ComesTo e hosts (number_at c j) (events_by (number_at c j) rest) o (slice_get (map standing_of c.machines) j)) (sym (get_set_other n.machines (number_at c maker.0) (number_at c j) begins.mid other))
            (subst (λ (xs : List Event). ComesTo e hosts (number_at c j) xs (slice_get n.machines (number_at c j)) (slice_get (map standing_of c.machines) j)) (ap (events_by (number_at c j)) notes ∙ by_rest (number_at c j) x rest (by_other (number_at c maker.0) (number_at c j) x maker.1 other)) (ahead.standing j))
            )
      ]

-- ---- noting it

module _ (a b : OfficeView) (s : IsSame a b) (c : CrewView) (u : IsUpToDate a c) (x : Event) (rest : List Event) (notes : c.notes ≡ x ∷ rest) where
  up : IsUpToDate b c
  up = same_up a b c s u

  pub note_can : CanMake b x
  note_can = (let step = note_step b.endpoints b.hosts up.state c up.ahead x rest notes None in can_make b x up.state step.0 up.after step.1)

  pub note_is_local : is_local x ≡ true
  note_is_local = note_local b.endpoints b.hosts up.state c up.ahead x rest notes

  pub note_by : (i : ℕ) × (actors_of x ≡ number_at c i ∷ [])
  note_by = note_actor b.endpoints b.hosts up.state c up.ahead x rest notes

  pub note_up : (new : OfficeView) (w seen : ℕ) → HasNoted b w x new → seen ≡ length new.history → IsUpToDate new (record c { notes = rest; seen = seen })
  note_up new w seen n is =
      let step = note_step b.endpoints b.hosts up.state c up.ahead x rest notes b.capacity in
      let later : OfficeView = record b { history = new.history } in
      record {
        seen = is;
        state = step.0;
        after = same_run later new step.0 n.endpoints n.hosts n.capacity refl (after_more b up.state step.0 x w new.history n.history up.after step.1);
        ahead = same_ahead b new step.0 (record c { notes = rest; seen = seen }) n.endpoints n.hosts (note_ahead b.endpoints b.hosts up.state c up.ahead x rest notes b.capacity seen);
      }
