-- A start that a worker's process makes.
use Rattle.std.proofs.Common.{◌≡◌, ℕ, zero, suc, ◌+◌, ◌-◌, ◌*◌, ◌<◌, ◌==◌, ◌||◌, ◌&&◌, Bool, true, false, List, [], ◌∷◌, ◌++◌, length, get_or, take, refl, sym, ap, ◌∙◌, subst, Option, Some, None, arith, length-append, if◌then◌else◌}
use Rattle.std.specs.Prelude.{slice_get, map, Any}
use Rattle.std.proofs.lemmas.Bool.Decides.{nat_tests}
use Rattle.std.proofs.lemmas.List.{length-map}
use Rattle.std.proofs.lemmas.List.Elements.{All-nil, All-cons}
use Rattle.std.proofs.lemmas.Option.{slice_get_within}
use Rattle.chor_base.specs.declared.names.NameId.{NameId}
use Rattle.chor_base.specs.declared.event.Entry.{Entry}
use Rattle.chor_base.specs.declared.event.Event.{Event}
use Rattle.chor_base.specs.declared.event.Event.TheVariants as event
use Rattle.endpoint_code.specs.declared.code.CodeNode.{CodeNode}
use Rattle.endpoint_code.specs.declared.code.CodeNode.TheVariants.{Join, Send, Recv, Pick, Branch, Throw, Catch, Set, Show, Host, If, Call, End}
use Rattle.endpoint_code.specs.declared.endpoints.Channel.{Channel}
use Rattle.endpoint_code.specs.declared.endpoints.Endpoints.{Endpoints}
use Rattle.endpoint_code.specs.Faults.{IsActive, is_among}
use Rattle.endpoint_code.specs.Network.{Machine, NetworkState, Sessions, Place, place_of, place_at, channel_of, served_parts}
use Rattle.endpoint_code.specs.NetworkRuns.{joins_there}
use Rattle.endpoint_machine.specs.declared.head.Head.TheVariants as head
use Rattle.endpoint_machine.specs.Heads.{head_of, place_head, node_head, sends_on, takes_on}
use Rattle.endpoint_machine.specs.Views.{MachineView}
use Rattle.std.specs.FinMap as fin
use Rattle.session_starts.specs.Machines.{standing_of, number_of}
use Rattle.net_core.proofs.Begins.{channel_named}
use Rattle.post_office.specs.declared.desk.Desk.{Desk}
use Rattle.post_office.specs.declared.post.Post.{Post}
use Rattle.post_office.specs.declared.post.Post.TheVariants.{Joining}
use Rattle.post_office.specs.declared.post.Started.TheVariants.{Started}
use Rattle.post_office.specs.Answers.{posted}
use Rattle.post_office.specs.Views.{OfficeView, events_of, post_of, post_at}
use Rattle.post_office.specs.Posts.{IsPostOf}
use Rattle.post_office.specs.Kept.{IsKept, CanPost}
use Rattle.post_office.specs.Starts.{is_joining, least_posted, IsCast, no_role, one_role, AnswersStartBy, HasStarted}
use Rattle.post_office.proofs.Callers.{one_state, can_post}
use Rattle.post_office.proofs.Casts.{cast_roles}
use Rattle.post_office.proofs.Reached.{reached_active}
use Rattle.crew.specs.declared.share.Share.{Share}
use Rattle.post_office.specs.Owners.{owner, active_parts, makers_of}
use Rattle.crew.specs.Crews.{CrewView, number_at}
use Rattle.crew.specs.Ahead.{events_by, ComesTo, TrailsAt, IsUpToDate}
use Rattle.crew.specs.Starts.{MayCome, GoesOn}
use Rattle.crew.specs.Turns.{IsOwnEntry, Adds, IsOfOthers}
use Rattle.crew.proofs.Passing.{may_come, passed, passed_all}
use Rattle.crew.proofs.Notes.{same_run, same_ahead, owned_number}
use Rattle.crew.proofs.Numbers.{set_own}

-- ---- the process

mapped : {Y : Type 0} (f : MachineView → Y) (ms : List MachineView) (i : ℕ) (d : MachineView) → i < length ms → slice_get (map f ms) i ≡ Some (f (get_or ms i d))
mapped f [] i d l = absurd (omega (arith, l))
mapped f (m ∷ ms) zero d l = refl
mapped f (m ∷ ms) (suc i) d l = mapped f ms i d (omega (arith, l))

pub state_named : (b : OfficeView) (c : CrewView) (u : IsUpToDate b c) (place : ℕ) (d : MachineView) → place < length c.machines → (get_or c.machines place d).number ≡ number_at c place
state_named b c u place d lt = u.ahead.numbers place (get_or c.machines place d).number (mapped number_of c.machines place d lt)

-- with nothing to note, the process is that of the state
pub state_there : (b : OfficeView) (c : CrewView) (u : IsUpToDate b c) → c.notes ≡ [] → (place : ℕ) (d : MachineView) → place < length c.machines → slice_get u.state.machines (get_or c.machines place d).number ≡ Some (get_or c.machines place d).machine
state_there b c u none place d lt =
    ap (slice_get u.state.machines) (state_named b c u place d lt)
    ∙ go (slice_get u.state.machines (number_at c place)) (slice_get (map standing_of c.machines) place) (subst (λ (xs : List Event). ComesTo b.endpoints b.hosts (number_at c place) (events_by (number_at c place) xs) (slice_get u.state.machines (number_at c place)) (slice_get (map standing_of c.machines) place)) none (u.ahead.standing place))
    ∙ mapped standing_of c.machines place d lt
  where
    go : (o r : Option Machine) → ComesTo b.endpoints b.hosts (number_at c place) [] o r → o ≡ r
    go None None h = refl
    go None (Some m) h = absurd h
    go (Some m) None h = absurd h
    go (Some m) (Some k) h = ap (λ (w : Machine). Some w) h

out_not : (o : Option (ℕ × NameId)) (b x y : NameId) → sends_on o b ≡ Some (head.Join x y) → ⊥
out_not None b x y h = cc
out_not (Some s) b x y h = cc

take_not : (o : Option (ℕ × NameId)) (b x y : NameId) → takes_on o b ≡ Some (head.Join x y) → ⊥
take_not None b x y h = cc
take_not (Some s) b x y h = cc

same_test : (a b : NameId) → a ≡ b → (a.0 == b.0) ≡ true
same_test a b h = (let i : a.0 ≡ b.0 = ap (λ (x : NameId). x.0) h in grind (arith, nat_tests))

node_joins : (ss : Sessions) (node : CodeNode) (x y : NameId) → node_head ss node ≡ Some (head.Join x y) → joins_there (Some (record { node = node; sessions = ss })) x y ≡ true
node_joins ss (Join c r k next) x y h =
    let one : c ≡ x = cc in
    let two : r ≡ y = cc in
    ap (λ b. b && (r.0 == y.0)) (same_test c x one) ∙ same_test r y two
node_joins ss (Send k b e next) x y h = absurd (out_not (fin.get ss k.0) b x y h)
node_joins ss (Pick k b l next) x y h = absurd (out_not (fin.get ss k.0) b x y h)
node_joins ss (Throw k b g next) x y h = absurd (out_not (fin.get ss k.0) b x y h)
node_joins ss (Recv k a z next) x y h = absurd (take_not (fin.get ss k.0) a x y h)
node_joins ss (Branch k a arms) x y h = absurd (take_not (fin.get ss k.0) a x y h)
node_joins ss (Catch k a g next) x y h = absurd (take_not (fin.get ss k.0) a x y h)
node_joins ss (Set z v next) x y h = absurd cc
node_joins ss (Show v next) x y h = absurd cc
node_joins ss (Host z f v w next) x y h = absurd cc
node_joins ss (If v t u) x y h = absurd cc
node_joins ss (Call f o us) x y h = absurd cc
node_joins ss End x y h = absurd cc

pub head_joins : (e : Endpoints) (m : Machine) (x y : NameId) → head_of e m ≡ Some (head.Join x y) → joins_there (place_of e m) x y ≡ true
head_joins e m x y h = go (place_of e m) h
  where
    go : (o : Option Place) → place_head o ≡ Some (head.Join x y) → joins_there o x y ≡ true
    go None i = absurd cc
    go (Some q) i = node_joins q.sessions q.node x y i

take_front : {X : Type 0} (xs ys : List X) (n : ℕ) → n ≡ length xs → take n (xs ++ ys) ≡ xs
take_front [] ys zero h = refl
take_front [] ys (suc n) h = absurd (omega (arith, h))
take_front (x ∷ xs) ys zero h = absurd (omega (arith, h))
take_front (x ∷ xs) ys (suc n) h = ap (λ l. x ∷ l) (take_front xs ys n (omega (arith, h)))

get_end : (h : List Entry) (x d : Entry) → get_or (h ++ x ∷ []) (length h) d ≡ x
get_end [] x d = refl
get_end (y ∷ h) x d = get_end h x d

-- a process that starts in its own role has a part
cast_has : {ds : List Desk} {c : NameId} {p : ℕ} {own : NameId} {rs : List NameId} {ps : List (NameId × ℕ)} (P : ℕ → Type 0) → P p → IsCast ds c p own rs ps → is_among own rs ≡ true → Any P (map (λ q. q.1) ps)
cast_has P one no_role h = absurd cc
cast_has {ds} {c} {p} {own} P one (one_role {r} {q} {rs} {ps} partner rest) h = go (own.0 == r.0) refl h (cast_has P one rest)
  where
    go : (b : Bool) → (own.0 == r.0) ≡ b → (b || is_among own rs) ≡ true → (is_among own rs ≡ true → Any P (map (λ q. q.1) ps)) → Any P (q ∷ map (λ q. q.1) ps)
    go true t i more =
        let flip : (r.0 == own.0) ≡ true = grind (arith, nat_tests) in
        let is : Some p ≡ Some q = sym (ap (λ b. if b then Some p else least_posted 0 ds c r) flip) ∙ partner in
        let same : p ≡ q = cc in
        (0, q, omega arith, refl, subst P same one)
    go false t i more = (let m = more i in (suc m.0, m.1, (let lt = m.2 in omega (arith, lt)), m.3, m.4))

module _ (a : OfficeView) (kept : IsKept a) (c : CrewView) (u : IsUpToDate a c) (none : c.notes ≡ []) (place : ℕ) (d : MachineView) (lt : place < length c.machines) (x own : NameId) (is : head_of a.endpoints (get_or c.machines place d).machine ≡ Some (head.Join x own)) where
  joins_in : joins_there (place_at a.endpoints (slice_get u.state.machines (get_or c.machines place d).number)) x own ≡ true
  joins_in = ap (λ (o : Option Machine). joins_there (place_at a.endpoints o) x own) (state_there a c u none place d lt) ∙ head_joins a.endpoints (get_or c.machines place d).machine x own is

  pub join_can : CanPost a (get_or c.machines place d).number (Joining x own)
  join_can = can_post a (get_or c.machines place d).number (Joining x own) u.state u.after (subst (λ (o : Option Machine). IsPostOf a.endpoints u.state o (Joining x own)) (sym (state_there a c u none place d lt)) (head_joins a.endpoints (get_or c.machines place d).machine x own is))

  within : (get_or c.machines place d).number < length a.desks
  within = (let l = slice_get_within u.state.machines (get_or c.machines place d).number (get_or c.machines place d).machine (state_there a c u none place d lt) in
      let same : length kept.state.machines ≡ length u.state.machines = ap (λ (n : NetworkState). length n.machines) (one_state a kept.state u.state kept.after u.after) in
      let long = kept.processes in
      omega (arith, l, same, long))

  abbrev p : ℕ
  p = (get_or c.machines place d).number

  abbrev b : OfficeView
  b = posted a (get_or c.machines place d).number (Joining x own)

  pub post_is : post_at b.desks p ≡ Joining x own
  post_is = ap post_of (set_own a.desks (get_or c.machines place d).number (record { post = Joining x own; joined = None }) within)

  pub posted_joins : is_joining (post_at b.desks p) ≡ true
  posted_joins = ap is_joining post_is

  active : IsActive a.endpoints x own
  active = reached_active a.endpoints kept.faultless a.hosts a.capacity (events_of a.history) u.state u.after (get_or c.machines place d).number x own joins_in

  -- ---- once it has started

  module _ (w : OfficeView) (kept_w : IsKept w) (worker s : ℕ) (answer : AnswersStartBy b worker p (post_at b.desks p) (Started s) w) where
    started : HasStarted b worker p x own s w
    started = subst (λ (q : Post). AnswersStartBy b worker p q (Started s) w) post_is answer

    entry : Entry
    entry = record { worker = worker; event = event.Start started.channel.name a.sid (started.parts ++ served_parts started.channel.serve (length b.desks)) }

    history : w.history ≡ a.history ++ entry ∷ []
    unfolding entry
    history = started.begun.noted.history

    pub start_long : length w.history ≡ length a.history + 1
    start_long = ap length history ∙ length-append a.history (entry ∷ [])

    trails : TrailsAt w (length a.history) c
    trails = record {
      within = (let h = start_long in omega (arith, h));
      state = u.state;
      after = same_run a (record w { history = take (length a.history) w.history }) u.state started.begun.noted.endpoints started.begun.noted.hosts started.begun.noted.capacity (ap (take (length a.history)) history ∙ take_front a.history (entry ∷ []) (length a.history) refl) u.after;
      ahead = same_ahead a w u.state c started.begun.noted.endpoints started.begun.noted.hosts u.ahead;
    }

    at_last : (i : ℕ) (d : Entry) → i ≡ length w.history - 1 → get_or w.history i d ≡ entry
    at_last i d last = (let h = start_long in let e : i ≡ length a.history = omega (arith, h, last) in ap (λ k. get_or w.history k d) e ∙ ap (λ l. get_or l (length a.history) d) history ∙ get_end a.history entry d)

    pub start_may : (e : Endpoints) (i : ℕ) (d : Entry) → w.endpoints ≡ e → i ≡ length w.history - 1 → MayCome e c (get_or w.history i d).event
    start_may e i d same last =
        let h = start_long in
        let is : i ≡ length a.history = omega (arith, h, last) in
        subst (λ (x : Endpoints). MayCome x c (get_or w.history i d).event) same
        (subst (λ k. MayCome w.endpoints c (get_or w.history k d).event) (sym is) (may_come w kept_w (length a.history) c trails d (omega (arith, h))))

    pub start_others : (i : ℕ) (d : Entry) → i ≡ length w.history - 1 → IsOfOthers c (get_or w.history i d).event
    unfolding entry
    start_others i d last = subst (λ (y : Entry). IsOfOthers c y.event) (sym (at_last i d last)) tt

    pub start_up : (e : Endpoints) (i : ℕ) (d : Entry) (new last_one : CrewView) → w.endpoints ≡ e → i ≡ length w.history - 1 → GoesOn e c (get_or w.history i d).event new → last_one ≡ record new { seen = length w.history } → IsUpToDate w last_one
    start_up e i d new last_one same last goes seen =
        let h = start_long in
        let is : i ≡ length a.history = omega (arith, h, last) in
        let on : GoesOn w.endpoints c (get_or w.history (length a.history) d).event new = subst (λ k. GoesOn w.endpoints c (get_or w.history k d).event new) is (subst (λ (x : Endpoints). GoesOn x c (get_or w.history i d).event new) (sym same) goes) in
        passed_all w (length a.history + 1) new last_one (omega (arith, h)) (passed w kept_w (length a.history) c trails d (omega (arith, h)) new on) seen

    -- its channel is that of the process, which takes part
    pub start_adds : (g : Share) → c.share ≡ g → worker ≡ g.worker + 1 → Adds g a w
    unfolding entry
    start_adds g share is_worker = record {
      endpoints = started.begun.noted.endpoints;
      hosts = started.begun.noted.hosts;
      capacity = started.begun.noted.capacity;
      entries = entry ∷ [];
      history = history;
      own = All-cons (IsOwnEntry g a.endpoints) entry [] (is_worker, subst (Any (λ q. owner g.workers q ≡ worker)) (sym makers) (cast_has (λ q. owner g.workers q ≡ worker) (ap (owner g.workers) (state_named a c u place d lt ∙ ap (λ (k : Share). place * k.workers + k.worker) share) ∙ owned_number g place ∙ sym is_worker) started.cast among)) (All-nil (IsOwnEntry g a.endpoints));
    }
      where
        k : Channel
        k = started.channel

        named : k.name ≡ x
        named = channel_named a.endpoints.channels x k started.found

        found : channel_of a.endpoints.channels k.name ≡ Some k
        found = ap (channel_of a.endpoints.channels) named ∙ started.found

        among : is_among own started.channel.active ≡ true
        among = (let same : Some active.0 ≡ Some started.channel = sym active.1 ∙ started.found in let is : active.0 ≡ started.channel = cc in subst (λ (y : Channel). is_among own y.active ≡ true) is active.2)

        count : length started.channel.active ≡ length started.parts
        count = ap length (sym (cast_roles started.cast)) ∙ length-map started.parts (λ q. q.0)

        makers : makers_of a.endpoints (event.Start started.channel.name a.sid (started.parts ++ served_parts started.channel.serve (length b.desks))) ≡ map (λ q. q.1) started.parts
        makers =
            ap (λ (o : Option Channel). map (λ q. q.1) (active_parts o (started.parts ++ served_parts started.channel.serve (length b.desks)))) found
            ∙ ap (map (λ q. q.1)) (take_front started.parts (served_parts started.channel.serve (length b.desks)) (length started.channel.active) count)
