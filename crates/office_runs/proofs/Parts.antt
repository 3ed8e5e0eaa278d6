-- The parts of a start, and what an office notes of it.
use Rattle.std.proofs.Common.{◌≡◌, ℕ, suc, ◌==◌, ◌<◌, ◌≤◌, Bool, true, false, List, [], ◌∷◌, ◌++◌, length, refl, sym, ap, ◌∙◌, subst, Option, Some, None, arith, if◌then◌else◌}
use Rattle.std.specs.Prelude.{slice_get, All}
use Rattle.std.proofs.lemmas.List.Elements.{All-nil, All-cons, All-head, All-tail, All-append}
use Rattle.chor_base.specs.declared.names.NameId.{NameId}
use Rattle.chor_base.specs.declared.event.Entry.{Entry}
use Rattle.chor_base.specs.declared.event.Event.{Event}
use Rattle.chor_base.specs.declared.event.Event.TheVariants as event
use Rattle.endpoint_code.specs.declared.endpoints.Channel.{Channel}
use Rattle.endpoint_code.specs.declared.endpoints.Endpoints.{Endpoints}
use Rattle.endpoint_code.specs.Network.{Machine, NetworkState, place_at, channel_of, served_parts}
use Rattle.endpoint_code.specs.NetworkRuns.{joins_there}
use Rattle.session_starts.specs.Starts.{AllJoin}
use Rattle.net_core.proofs.Castings.{step_casting, all_join}
use Rattle.post_office.specs.declared.post.Post.{Post}
use Rattle.post_office.specs.declared.post.Post.TheVariants.{Joining}
use Rattle.post_office.specs.Views.{OfficeView}
use Rattle.post_office.specs.Posts.{IsPostOf}
use Rattle.post_office.specs.Kept.{CanPost}
use Rattle.post_office.specs.Answers.{HasNoted}
use Rattle.post_office.proofs.Callers.{can_post}
use Rattle.post_office.proofs.Casts.{name_same}
use Rattle.office_runs.specs.Told.{MayCome, MayPost, HasPosted}

-- ---- who may be posted

pub channel_name : (ks : List Channel) (c : NameId) (k : Channel) → channel_of ks c ≡ Some k → k.name ≡ c
channel_name [] c k h = absurd cc
channel_name (x ∷ ks) c k h = go (x.name.0 == c.0) refl h (channel_name ks c k)
  where
    go : (b : Bool) → (x.name.0 == c.0) ≡ b → (if b then Some x else channel_of ks c) ≡ Some k → (channel_of ks c ≡ Some k → k.name ≡ c) → k.name ≡ c
    go true e i again = (let same : x ≡ k = cc in ap (λ y. y.name) (sym same) ∙ name_same x.name c e)
    go false e i again = again i

posts_joining : (e : Endpoints) (n : NetworkState) (o : Option Machine) (c r : NameId) → joins_there (place_at e o) c r ≡ true → IsPostOf e n o (Joining c r)
posts_joining e n None c r h = absurd cc
posts_joining e n (Some m) c r h = h

module _ (w : OfficeView) (count : ℕ) (c : NameId) where
  abbrev May : NameId × ℕ → Type 0
  May q = q.1 < count → CanPost w q.1 (Joining c q.0)

  served_may : (rs : List NameId) (p : ℕ) → count ≤ p → All May (served_parts rs p)
  served_may [] p h = All-nil May
  served_may (r ∷ rs) p h = All-cons May (r, p) (served_parts rs (suc p)) (λ l. absurd (omega (arith, l, h))) (served_may rs (suc p) (omega (arith, h)))

  joining_may : (d : NameId) (n : NetworkState) → d ≡ c → ((p : ℕ) (post : Post) → IsPostOf w.endpoints n (slice_get n.machines p) post → CanPost w p post) → (qs : List (NameId × ℕ)) → AllJoin w.endpoints n.machines d qs → All May qs
  joining_may d n same can [] all = All-nil May
  joining_may d n same can (q ∷ qs) all =
      let Joins : NameId × ℕ → Type 0 = λ x. joins_there (place_at w.endpoints (slice_get n.machines x.1)) d x.0 ≡ true in
      let here : joins_there (place_at w.endpoints (slice_get n.machines q.1)) c q.0 ≡ true = subst (λ (x : NameId). joins_there (place_at w.endpoints (slice_get n.machines q.1)) x q.0 ≡ true) same (All-head Joins q qs all) in
      All-cons May q qs (λ _. can q.1 (Joining c q.0) (posts_joining w.endpoints n (slice_get n.machines q.1) c q.0 here)) (joining_may d n same can qs (All-tail Joins q qs all))

pub may_post : (w : OfficeView) (count : ℕ) (c : NameId) (s : ℕ) (parts : List (NameId × ℕ)) → MayCome w count (event.Start c s parts) → MayPost w count c parts
may_post w count c s parts m =
    let k = step_casting w.endpoints w.hosts w.capacity m.state c s parts (m.next, m.steps) in
    let casting = k.3 in
    let served = served_parts k.0.serve (length m.state.machines) in
    let join = all_join w.endpoints m.state.machines k.0.name k.0.active casting.joining casting.joins in
    let can : (p : ℕ) (post : Post) → IsPostOf w.endpoints m.state (slice_get m.state.machines p) post → CanPost w p post = λ p post t. can_post w p post m.state m.after t in
    let front = joining_may w count c k.0.name m.state (channel_name w.endpoints.channels c k.0 k.1) can casting.joining join in
    let back = served_may w count c k.0.serve (length m.state.machines) (omega (arith, m.processes)) in
    subst (λ (ps : List (NameId × ℕ)). MayPost w count c ps) (sym casting.whole) (All-append (May w count c) casting.joining served front back)

-- ---- what is noted

-- what is noted once a start is posted was noted before it was
pub noted_from : (v w u : OfficeView) (y x : Event) → HasPosted v w → HasNoted w 0 y u → y ≡ x → HasNoted v 0 x u
noted_from v w u y x posted noted same =
    let entry : Entry = record { worker = 0; event = y } in
    let room : w.room ≡ v.room = ap (λ (o : OfficeView). o.room) posted.same in
    let from_first : HasNoted v 0 y u = record {
      endpoints = noted.endpoints ∙ ap (λ (o : OfficeView). o.endpoints) posted.same;
      hosts = noted.hosts ∙ ap (λ (o : OfficeView). o.hosts) posted.same;
      capacity = noted.capacity ∙ ap (λ (o : OfficeView). o.capacity) posted.same;
      history = noted.history ∙ ap (λ (o : OfficeView). o.history ++ entry ∷ []) posted.same;
      stopped = noted.stopped ∙ ap (λ (o : OfficeView). o.stopped) posted.same;
      room = omega (arith, room, noted.room);
    } in
    subst (λ (z : Event). HasNoted v 0 z u) same from_first

pub start_same : (c d : NameId) (s t : ℕ) (ps qs : List (NameId × ℕ)) → c ≡ d → s ≡ t → ps ≡ qs → event.Start c s ps ≡ event.Start d t qs
start_same c d s t ps qs names sids parts =
    let by_name : NameId → Event = λ x. event.Start x s ps in
    let by_sid : ℕ → Event = λ x. event.Start d x ps in
    let by_parts : List (NameId × ℕ) → Event = λ x. event.Start d t x in
    ap by_name names ∙ ap by_sid sids ∙ ap by_parts parts
