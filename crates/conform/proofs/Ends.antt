-- Sessions whose roles have done all, by where they stand.
use Rattle.std.proofs.Common.{◌≡◌, ℕ, ◌+◌, ◌<◌, ◌≤◌, Bool, true, false, List, length, Some, refl, sym, ap, ◌∙◌, subst, arith}
use Rattle.std.specs.Prelude.{◌↔◌, IsTrue, slice_get, slice_index_or}
use Rattle.std.proofs.lemmas.Option.{slice_get-get_or, slice_get_within}
use Rattle.chor_base.specs.declared.names.NameId.{NameId}
use Rattle.chor_base.specs.declared.event.Event.{Event}
use Rattle.chor_tree.specs.declared.file.File.{File}
use Rattle.chor_tree.specs.declared.file.Named.{Named}
use Rattle.chor_tree.specs.Protocols.{Protocol}
use Rattle.chor_tree.specs.Names.{protocol_of}
use Rattle.chor_tree.specs.declared.protocol.State.{State}
use Rattle.chor_semantics.specs.Choreography.{Live}
use Rattle.global_types.specs.Moves.{IsIn}
use Rattle.local_types.specs.declared.local_type.LocalType.{LocalType}
use Rattle.state_sets.proofs.Lists.{at_of_in, in_of_at}
use Rattle.typing_rules.specs.Environment.{states_of}
use Rattle.typed_sources.specs.Stands.{states_in}
use Rattle.conform.specs.declared.progress.Progress.{Progress}
use Rattle.conform.specs.Sessions.{SessionView}
use Rattle.conform.specs.ByRole.{account_of, HasDoneAll, HasEndedByRole}
use Rattle.conform.specs.Laws.{IsReadTo}
use Rattle.conform.specs.Progress.{IsRead, AreRead, name_of, protocol_at, StandsAt, IsAfter}
use Rattle.conform.specs.Steps.{IsOver}
use Rattle.conform.proofs.Read.{ends_read}
use Rattle.conform.proofs.OneState.{one_state}
use Rattle.conform.proofs.Lists.{other, stands_for, as_many, some_same, item_at}
use Rattle.conform.proofs.Acting.{session_of}
use Rattle.conform.proofs.After.{Same, alike, apart, same_or_not}

module _ (f : File) (h : List Event) (p : Progress) (a : IsAfter f h p) where
  -- a session of this protocol stands so, with the types of its roles
  record Kept (n : ℕ) (k : SessionView) : Type 0 where
    pub stands : StandsAt f p.types ((account_of f h).done (Live n)) k
    pub types : AreRead stands.protocol stands.row
    pub states : states_in f stands.protocol.name.name ≡ stands.protocol.states
    pub started : (account_of f h).protocol (Live n) ≡ Some stands.protocol.name.name

  kept : (n : ℕ) (k : SessionView) → slice_get p.sessions.items n ≡ Some k → Kept n k
  kept n k at =
      let s = a.sessions n k at in
      record {
        stands = s;
        types = stands_for AreRead f.protocols p.types k.protocol s.protocol s.row a.types s.here s.types_there;
        states = ap states_of s.named;
        started = a.protocols (Live n) ∙ ap (protocol_at f) at ∙ ap name_of s.here;
      }

  -- where all roles stand at ends they have done all
  done_all : (n : ℕ) (k : SessionView) (at : slice_get p.sessions.items n ≡ Some k) (w : Kept n k) → IsOver p.types k → (r : NameId) (role : Named) → IsIn role w.stands.protocol.roles → role.name ≡ r
      → HasDoneAll w.stands.protocol.states r ((account_of f h).done (Live n) r)
  done_all n k at w over r role among is =
      let j = at_of_in role w.stands.protocol.roles among in
      let t = other (IsRead w.stands.protocol) w.stands.protocol.roles w.stands.row j.0 role w.types j.1 in
      let e = over w.stands.row w.stands.types_there j.0 t.item t.at in
      let read : IsReadTo t.item.states ((account_of f h).done (Live n) role.name) e.0 = w.stands.each j.0 role t.item e.0 j.1 t.at e.1 in
      let all : HasDoneAll w.stands.protocol.states role.name ((account_of f h).done (Live n) role.name) = (ends_read w.stands.protocol.states role.name t.item.states t.stands.stands ((account_of f h).done (Live n) role.name)).1 (e.0, read, e.2) in
      subst (λ (x : NameId). HasDoneAll w.stands.protocol.states x ((account_of f h).done (Live n) x)) is all

  pub all_ended : ((n : ℕ) (k : SessionView) → slice_get p.sessions.items n ≡ Some k → IsOver p.types k) → HasEndedByRole f h
  all_ended over n name started r (q, found, (role, among, is)) =
      let s = session_of f h p a n name started in
      let w = kept n s.session s.started in
      let same : w.stands.protocol ≡ s.protocol = some_same w.stands.protocol s.protocol (sym w.stands.here ∙ s.here) in
      let here : w.stands.protocol.name.name ≡ name = ap (λ (x : Protocol). x.name.name) same ∙ s.is in
      let own : q ≡ w.stands.protocol = some_same q w.stands.protocol (sym found ∙ ap (protocol_of f) (sym here) ∙ w.stands.named) in
      let all = done_all n s.session s.started w (over n s.session s.started) r role (subst (λ (x : Protocol). IsIn role x.roles) own among) is in
      subst (λ (ss : List State). HasDoneAll ss r ((account_of f h).done (Live n) r)) (sym w.states ∙ ap (states_in f) here) all

  -- a session of events that have ended
  over_there : HasEndedByRole f h → (n : ℕ) (k : SessionView) → slice_get p.sessions.items n ≡ Some k → Kept n k → IsOver p.types k
  over_there ended n k at w row there j t typed =
      let same : w.stands.row ≡ row = some_same w.stands.row row (sym w.stands.types_there ∙ there) in
      let here : slice_get w.stands.row j ≡ Some t = ap (λ (l : List LocalType). slice_get l j) same ∙ typed in
      let many : length w.stands.protocol.roles ≡ length w.stands.row = as_many (IsRead w.stands.protocol) w.stands.protocol.roles w.stands.row w.types in
      let within : j < length w.stands.row = slice_get_within w.stands.row j t here in
      let role = item_at w.stands.protocol.roles j (omega (arith, many, within)) in
      let long : length k.states ≡ length w.stands.protocol.roles = w.stands.many in
      let state = item_at k.states j (omega (arith, many, within, long)) in
      let one : IsRead w.stands.protocol role.0 t = stands_for (IsRead w.stands.protocol) w.stands.protocol.roles w.stands.row j role.0 t w.types role.1 here in
      let all : HasDoneAll (states_in f w.stands.protocol.name.name) role.0.name ((account_of f h).done (Live n) role.0.name) =
      ended n w.stands.protocol.name.name w.started role.0.name (w.stands.protocol, w.stands.named, (role.0, in_of_at role.0 w.stands.protocol.roles j role.1, refl)) in
      let e = (ends_read w.stands.protocol.states role.0.name t.states one.stands ((account_of f h).done (Live n) role.0.name)).0 (subst (λ (ss : List State). HasDoneAll ss role.0.name ((account_of f h).done (Live n) role.0.name)) w.states all) in
      let read : IsReadTo t.states ((account_of f h).done (Live n) role.0.name) state.0 = w.stands.each j role.0 t state.0 role.1 here state.1 in
      let number : e.0 ≡ state.0 = one_state t.states one.distinct e.1.actions read.actions 0 e.0 state.0 e.1.leads read.leads (e.1.told ∙ sym read.told) in
      (state.0, state.1, sym (ap (slice_get t.states) number) ∙ e.2)

  item_there : (seen : List SessionView) (i : ℕ) (k : SessionView) → seen ≡ p.sessions.items → i < length seen → k ≡ slice_index_or seen i k → slice_get p.sessions.items i ≡ Some k
  item_there seen i k same within is = ap (λ (l : List SessionView). slice_get l i) (sym same) ∙ slice_get-get_or seen i k within ∙ ap (λ (z : SessionView). Some z) (sym is)

  pub open_still : (seen : List SessionView) (i : ℕ) (k : SessionView) → seen ≡ p.sessions.items → i < length seen → k ≡ slice_index_or seen i k → (b : Bool) → IsTrue b ↔ IsOver p.types k → b ≡ false → IsTrue false ↔ HasEndedByRole f h
  open_still seen i k same within is b over off =
      let at = item_there seen i k same within is in
      (λ e. absurd (let c : false ≡ true = e in cc), λ ended. sym off ∙ over.1 (over_there ended i k at (kept i k at)))

pub over_more : (types : List (List LocalType)) (ks seen : List SessionView) (i : ℕ) (k : SessionView) → seen ≡ ks → i < length seen → k ≡ slice_index_or seen i k → ((n : ℕ) (c : SessionView) → n < i → slice_get ks n ≡ Some c → IsOver types c)
    → IsOver types k → (n : ℕ) (c : SessionView) → n < i + 1 → slice_get ks n ≡ Some c → IsOver types c
over_more types ks seen i k same within is so_far over n c less at = go (same_or_not n i)
  where
    here : slice_get ks i ≡ Some k
    here = ap (λ (l : List SessionView). slice_get l i) (sym same) ∙ slice_get-get_or seen i k within ∙ ap (λ (z : SessionView). Some z) (sym is)

    go : Same n i → IsOver types c
    go (alike e) = subst (IsOver types) (some_same k c (sym here ∙ ap (slice_get ks) (sym e) ∙ at)) over
    go (apart off) = so_far n c (omega (arith, less, off)) at

pub all_over : (f : File) (h : List Event) (p : Progress) → IsAfter f h p → (seen : List SessionView) (i : ℕ) → seen ≡ p.sessions.items → length seen ≤ i → ((n : ℕ) (c : SessionView) → n < i → slice_get p.sessions.items n ≡ Some c → IsOver p.types c) → IsTrue true ↔ HasEndedByRole f h
all_over f h p a seen i same past over = (λ e. all_ended f h p a (λ n k at. over n k (within n k at) at), λ e. refl)
  where
    within : (n : ℕ) (k : SessionView) → slice_get p.sessions.items n ≡ Some k → n < i
    within n k at = let l : n < length p.sessions.items = slice_get_within p.sessions.items n k at in let m : length seen ≡ length p.sessions.items = ap length same in omega (arith, l, m, past)
