-- A process that joins and can step starts a session.
use Rattle.std.proofs.Common.{◌≡◌, ℕ, ◌==◌, ◌&&◌, Bool, true, false, cond, List, [], ◌∷◌, refl, sym, ap, ◌∙◌, subst, Option, Some, None, is_some}
use Rattle.std.specs.Prelude.{slice_get, All}
use Rattle.std.specs.FinMap as fin
use Rattle.std.proofs.lemmas.Bool.{eq-eqb, true≢false}
use Rattle.std.proofs.lemmas.List.Elements.{All-head, All-tail}
use Rattle.chor_base.specs.declared.names.NameId.{NameId}
use Rattle.chor_base.specs.declared.event.Event.{Event}
use Rattle.chor_base.specs.Meaning.{Hosts}
use Rattle.endpoint_code.specs.declared.endpoints.Channel.{Channel}
use Rattle.endpoint_code.specs.declared.endpoints.Endpoints.{Endpoints}
use Rattle.endpoint_code.specs.Faults.{IsFaultless}
use Rattle.endpoint_code.specs.Network.{Machine, NetworkState, Place, place_of, place_at, place_joins, joins, one_joiner, joiners, with_machines}
use Rattle.endpoint_code.specs.NetworkRuns.{joins_there, absent_among, absent_on}
use Rattle.endpoint_code.specs.Scheduled.{Chooses}
use Rattle.endpoint_machine.specs.declared.head.Head.TheVariants as head
use Rattle.endpoint_machine.specs.Bound.{IsBound}
use Rattle.session_starts.specs.Starts.{AllJoin, Joined, HasStarted}
use Rattle.session_starts.proofs.Joins.{joining_place}
use Rattle.net_core.specs.Heads.{Shows, why_at}
use Rattle.net_core.specs.Starts.{partner_for, IsCast, no_role, one_role}
use Rattle.net_core.proofs.Begins.{begins, channel_named, join_channel, join_stands, joiners_alone, stands_joining}
use Rattle.net_core.proofs.Casts.{absent_head, cast_joins}
use Rattle.net_core.proofs.Scopes.{shows_standing}
use Rattle.unfinished_runs.proofs.Standing.{stands}

-- a process makes some event
pub record Choice (e : Endpoints) (hosts : Hosts) (cap : Option ℕ) (n : NetworkState) (p : ℕ) : Type 0 where
  pub event : Event
  pub after : NetworkState
  pub chooses : Chooses e hosts cap n p event after

-- where no role is absent, each has its process
cast : (e : Endpoints) (ms : List Machine) (c own : NameId) (p : ℕ) (rs : List NameId) → absent_among e ms c own rs ≡ None → (ps : List (NameId × ℕ)) × IsCast e ms c p own rs ps
cast e ms c own p [] h = ([], no_role)
cast e ms c own p (r ∷ rs) h =
    let both = absent_head e ms c own r rs p h in
    go (partner_for e ms c p own r) refl both.0 (cast e ms c own p rs both.1)
  where
    go : (o : Option ℕ) → partner_for e ms c p own r ≡ o → is_some o ≡ true → (ps : List (NameId × ℕ)) × IsCast e ms c p own rs ps → (ps : List (NameId × ℕ)) × IsCast e ms c p own (r ∷ rs) ps
    go None i some rest = absurd (true≢false (sym some))
    go (Some q) i some rest = ((r, q) ∷ rest.0, one_role i rest.1)

same_join : (c r : NameId) → ((c.0 == c.0) && (r.0 == r.0)) ≡ true
same_join c r = ap (λ (b : Bool). b && (r.0 == r.0)) (eq-eqb c.0 c.0 refl) ∙ eq-eqb r.0 r.0 refl

module _ (e : Endpoints) (faultless : IsFaultless e) (n : NetworkState) (all : All (IsBound e) n.machines) where
  -- a process that joins has joined in the state after a start
  joined : (c r : NameId) (q s : ℕ) → joins_there (place_at e (slice_get n.machines q)) c r ≡ true → (m : Machine) × (joins e (slice_get n.machines q) c r s ≡ Some m)
  joined c r q s h = go (slice_get n.machines q) refl h
    where
      go : (o : Option Machine) → slice_get n.machines q ≡ o → joins_there (place_at e o) c r ≡ true → (m : Machine) × (joins e (slice_get n.machines q) c r s ≡ Some m)
      go None i k = absurd (true≢false (sym k))
      go (Some w) i k =
          let at = stands e faultless n q w all i in
          let shows = shows_standing e n q at.0 at.1 w (head.Join c r) i (joining_place (place_of e w) c r k) in
          let j = join_stands e n q c r shows in
          let new : Machine = record { at = j.1; vars = j.2.machine.vars; sessions = fin.insert j.2.sessions j.0.0 (s, r) } in (
            new,
            ap (λ (o : Option Machine). joins e o c r s) j.2.there
                ∙ ap (λ (o : Option Place). place_joins o j.2.machine.vars c r s) j.2.at_node.place
                ∙ ap (λ (b : Bool). cond b (Some new) None) (same_join c r),
          )

  all_joined : (c : NameId) (s : ℕ) (qs : List (NameId × ℕ)) → AllJoin e n.machines c qs → (js : List (ℕ × Machine)) × (joiners e n c s qs ≡ Some js)
  all_joined c s [] each = ([], refl)
  all_joined c s (q ∷ qs) each =
      let one = joined c q.0 q.1 s (All-head (λ (x : NameId × ℕ). joins_there (place_at e (slice_get n.machines x.1)) c x.0 ≡ true) q qs each) in
      let rest = all_joined c s qs (All-tail (λ (x : NameId × ℕ). joins_there (place_at e (slice_get n.machines x.1)) c x.0 ≡ true) q qs each) in
      ((q.1, one.0) ∷ rest.0, ap (λ (o : Option Machine). one_joiner q.1 o (joiners e n c s qs)) one.1 ∙ ap (one_joiner q.1 (Some one.0)) rest.1)

  pub join_chooses : (hosts : Hosts) (cap : Option ℕ) (p : ℕ) (c r : NameId) → Shows e n p (head.Join c r) → why_at e cap n p ≡ None → Choice e hosts cap n p
  join_chooses hosts cap p c r shows free =
      let j = join_stands e n p c r shows in
      let active = join_channel e n p c r shows in
      let k : Channel = active.0 in
      let present : absent_among e n.machines c r k.active ≡ None = sym (ap (absent_on e n.machines c r) active.1) ∙ sym (shows.waits cap refl) ∙ free in
      let parts = cast e n.machines c r p k.active present in
      let joining = cast_joins parts.1 (stands_joining e n p c r j.0 j.1 j.2) in
      let js = all_joined c n.sid parts.0 joining in
      let has : Joined e c n.sid n.machines parts.0 (with_machines n.machines js.0) = record { joining = js.0; all = sym (joiners_alone e n c n.sid parts.0) ∙ js.1; placed = refl } in
      let started : HasStarted e k n.sid n.machines parts.0 _ = record {
        joined = with_machines n.machines js.0;
        joins = subst (λ (x : NameId). Joined e x n.sid n.machines parts.0 (with_machines n.machines js.0)) (sym (channel_named e.channels c k active.1)) has;
        serves = refl;
      } in
      record { event = _; after = _; chooses = begins e hosts cap n p c r j.0 j.1 k parts.0 _ j.2 active.1 parts.1 started }
