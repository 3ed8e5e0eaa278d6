-- What a worker knows of its processes in its turn.
use Rattle.std.proofs.Common.{◌+◌, ◌*◌, ◌/◌, ◌%◌, ◌≡◌, ◌≢◌, ℕ, zero, suc, ◌<◌, ◌&&◌, inl, inr, Bool, true, false, List, [], ◌∷◌, length, get_or, drop, refl, sym, ap, ◌∙◌, subst, Option, Some, None, arith, if◌then◌else◌}
use Rattle.std.specs.Prelude.{slice_get, slice_set, map, All, Any}
use Rattle.std.proofs.lemmas.Nat.{div-add-mod', mod_below}
use Rattle.std.proofs.lemmas.List.{length-set}
use Rattle.std.proofs.lemmas.List.Elements.{All-append, All-drop, All-weaker}
use Rattle.std.proofs.lemmas.Option.{slice_get-get_or}
use Rattle.chor_base.specs.declared.event.Entry.{Entry}
use Rattle.chor_base.specs.declared.event.Event.{Event}
use Rattle.chor_base.specs.declared.event.Event.TheVariants as event
use Rattle.chor_base.specs.Events.{actors_of}
use Rattle.chor_base.specs.Meaning.{Hosts}
use Rattle.endpoint_code.specs.declared.endpoints.Endpoints.{Endpoints}
use Rattle.endpoint_code.specs.Network.{Machine, NetworkState, Sessions, Place, place_of, place_makes, Makes, moved}
use Rattle.endpoint_code.specs.NetworkRuns.{has_ended, ends_there, all_ended}
use Rattle.endpoint_machine.specs.declared.head.Head.{Head}
use Rattle.endpoint_machine.specs.Heads.{head_of, node_head, place_head, sends_on, takes_on}
use Rattle.endpoint_machine.specs.Steps.{HasActed}
use Rattle.endpoint_machine.specs.Views.{MachineView}
use Rattle.session_starts.specs.Machines.{standing_of}
use Rattle.net_core.proofs.Makers.{moves_at}
use Rattle.post_office.specs.declared.post.Post.{Post}
use Rattle.post_office.specs.Answers.{posted}
use Rattle.post_office.specs.Lanes.{loads_in}
use Rattle.post_office.specs.Posts.{IsPostOf, nothing}
use Rattle.post_office.specs.Views.{OfficeView, IsAfter}
use Rattle.post_office.specs.Kept.{IsKept, CanPost}
use Rattle.post_office.proofs.Callers.{one_state, can_post}
use Rattle.post_office.proofs.Steps.{is_start}
use Rattle.crew.specs.declared.share.Share.{Share}
use Rattle.post_office.specs.Owners.{owner, makers_of, IsMadeByOwner}
use Rattle.crew.specs.Crews.{CrewView, number_at, entry_worker}
use Rattle.crew.specs.Ahead.{events_by, ComesTo, IsOwn, IsUpToDate}
use Rattle.crew.specs.Turns.{HasHead, HasPosted, IsPostHere, IsOfOthers, Adds, IsOwnEntry, is_last, HaveEnded, FindsOut}
use Rattle.crew.specs.declared.turn.Turned.TheVariants as found
use Rattle.chor_base.specs.declared.names.NameId.{NameId}
use Rattle.std.specs.FinMap as fin
use Rattle.endpoint_code.specs.declared.code.CodeNode.{CodeNode}
use Rattle.endpoint_code.specs.declared.code.CodeNode.TheVariants.{Join, Send, Recv, Pick, Branch, Throw, Catch, Set, Show, Host, If, Call, End}
use Rattle.endpoint_machine.specs.declared.head.Head.TheVariants as head
use Rattle.crew.proofs.Notes.{owned_number}
use Rattle.crew.proofs.Joining.{state_there}

pub has_head : (e : Endpoints) (c : CrewView) (place : ℕ) (d : MachineView) (h : Head) → place < length c.machines → head_of e (get_or c.machines place d).machine ≡ Some h → HasHead e c place h
has_head e c place d h lt is = record { process = get_or c.machines place d; there = slice_get-get_or c.machines place d lt; head = is }

-- ---- posting

pub posted_more : (v w : OfficeView) (p : ℕ) (post : Post) → HasPosted v w → HasPosted v (posted w p post)
posted_more v w p post h =
    let placed : OfficeView → OfficeView = λ u. record u { desks = slice_set w.desks p (record { post = post; joined = None }) } in
    record { same = ap placed h.same; processes = length-set w.desks p (record { post = post; joined = None }) ∙ h.processes }

pub post_here : (a w : OfficeView) (kept : IsKept a) (c : CrewView) (u : IsUpToDate a c) → c.notes ≡ [] → HasPosted a w → (place : ℕ) (d : MachineView) → place < length c.machines → (post : Post) → IsPostHere a.endpoints w (get_or c.machines place d).machine post → CanPost w (get_or c.machines place d).number post
post_here a w kept c u none h place d lt post is = subst (λ (o : OfficeView). CanPost o (get_or c.machines place d).number post) (sym h.same)
    (can_post a (get_or c.machines place d).number post u.state u.after
    (subst (λ (o : Option Machine). IsPostOf a.endpoints u.state o post) (sym (state_there a c u none place d lt)) (is u.state queues)))
  where
    queues : u.state.queues ≡ loads_in w.queues.lanes
    queues = ap (λ (n : NetworkState). n.queues) (sym (one_state a kept.state u.state kept.after u.after)) ∙ sym kept.queues ∙ ap (λ (o : OfficeView). loads_in o.queues.lanes) (sym h.same)

pub posted_up : (a w : OfficeView) (c : CrewView) → HasPosted a w → IsUpToDate a c → IsUpToDate w c
posted_up a w c h u = subst (λ (o : OfficeView). IsUpToDate o c) (sym h.same) (record { seen = u.seen; state = u.state; after = u.after; ahead = u.ahead })

pub posted_adds : (g : Share) (o a w : OfficeView) → HasPosted a w → Adds g o a → Adds g o w
posted_adds g o a w h x = record {
  endpoints = ap (λ (v : OfficeView). v.endpoints) h.same ∙ x.endpoints;
  hosts = ap (λ (v : OfficeView). v.hosts) h.same ∙ x.hosts;
  capacity = ap (λ (v : OfficeView). v.capacity) h.same ∙ x.capacity;
  entries = x.entries;
  history = ap (λ (v : OfficeView). v.history) h.same ∙ x.history;
  own = x.own;
}

-- ---- who has ended

some_open : (e : Endpoints) (ms : List Machine) (p : ℕ) (m : Machine) → slice_get ms p ≡ Some m → has_ended e m ≡ false → all_ended e ms ≡ false
some_open e [] p m at h = absurd cc
some_open e (k ∷ ms) zero m at h = (let same : k ≡ m = cc in ap (λ (x : Machine). has_ended e x && all_ended e ms) same ∙ ap (λ b. b && all_ended e ms) h)
some_open e (k ∷ ms) (suc p) m at h = ap (λ b. has_ended e k && b) (some_open e ms p m at h) ∙ and_false (has_ended e k)
  where
    and_false : (b : Bool) → (b && false) ≡ false
    and_false true = refl
    and_false false = refl

acts_open : (e : Endpoints) (hosts : Hosts) (p : ℕ) (m new : Machine) (x : Event) → HasActed e hosts p m x new → has_ended e m ≡ false
acts_open e hosts p m new x acted = go (place_of e m) (moved nothing p new.at new.vars new.sessions) (acted.made None nothing)
  where
    go : (o : Option Place) (k : NetworkState) → place_makes None nothing p acted.answer m.vars o ≡ Some (Makes x k) → ends_there o ≡ false
    go None k h = absurd cc
    go (Some q) k h = (moves_at e None nothing p acted.answer m.vars q.sessions q.node x k h).goes_on

-- while there is something to note, its process goes on
pub notes_open : (v : OfficeView) (c : CrewView) (u : IsUpToDate v c) → c.notes ≢ [] → (n : NetworkState) → IsAfter v n → all_ended v.endpoints n.machines ≡ false
notes_open v c u some n after = subst (λ (k : NetworkState). all_ended v.endpoints k.machines ≡ false) (one_state v u.state n u.after after) (go c.notes refl)
  where
    go : (xs : List Event) → c.notes ≡ xs → all_ended v.endpoints u.state.machines ≡ false
    go [] is = absurd (some is)
    go (x ∷ xs) is =
        let own : IsOwn c x = (subst (λ l. All (IsOwn c) l) is u.ahead.own) 0 x (omega arith) in
        let events : events_by (number_at c own.0) c.notes ≡ x ∷ events_by (number_at c own.0) xs = ap (events_by (number_at c own.0)) is ∙ ap (λ b. if b then x ∷ events_by (number_at c own.0) xs else events_by (number_at c own.0) xs) own.1 in
        at (number_at c own.0) x (events_by (number_at c own.0) xs) (slice_get u.state.machines (number_at c own.0)) refl (slice_get (map standing_of c.machines) own.0) (subst (λ l. ComesTo v.endpoints v.hosts (number_at c own.0) l (slice_get u.state.machines (number_at c own.0)) (slice_get (map standing_of c.machines) own.0)) events (u.ahead.standing own.0))
      where
        at : (p : ℕ) (x : Event) (ys : List Event) (o : Option Machine) → slice_get u.state.machines p ≡ o → (r : Option Machine) → ComesTo v.endpoints v.hosts p (x ∷ ys) o r → all_ended v.endpoints u.state.machines ≡ false
        at p x ys None i None h = absurd cc
        at p x ys None i (Some m) h = absurd h
        at p x ys (Some m) i None h = absurd h
        at p x ys (Some m) i (Some k) h = some_open v.endpoints u.state.machines p m i (acts_open v.endpoints v.hosts p m h.0 x h.1)

pub place_open : (v : OfficeView) (c : CrewView) (u : IsUpToDate v c) → c.notes ≡ [] → (place : ℕ) (d : MachineView) → place < length c.machines → has_ended v.endpoints (get_or c.machines place d).machine ≡ false → (n : NetworkState) → IsAfter v n → all_ended v.endpoints n.machines ≡ false
place_open v c u none place d lt h n after = subst (λ (k : NetworkState). all_ended v.endpoints k.machines ≡ false) (one_state v u.state n u.after after)
    (some_open v.endpoints u.state.machines (get_or c.machines place d).number (get_or c.machines place d).machine (state_there v c u none place d lt) h)

pub all_over : (v : OfficeView) (c : CrewView) (u : IsUpToDate v c) → c.notes ≡ [] → All (λ m. has_ended v.endpoints m.machine ≡ true) c.machines → (n : NetworkState) → IsAfter v n → (i : ℕ) (m : Machine) → slice_get n.machines (number_at c i) ≡ Some m → has_ended v.endpoints m ≡ true
all_over v c u none all n after i m at =
    go (slice_get (map standing_of c.machines) i) refl (subst (λ xs. ComesTo v.endpoints v.hosts (number_at c i) (events_by (number_at c i) xs) (slice_get u.state.machines (number_at c i)) (slice_get (map standing_of c.machines) i)) none (u.ahead.standing i))
  where
    at_state : slice_get u.state.machines (number_at c i) ≡ Some m
    at_state = ap (λ (k : NetworkState). slice_get k.machines (number_at c i)) (one_state v u.state n u.after after) ∙ at

    over : (ms : List MachineView) (j : ℕ) (k : Machine) → All (λ x. has_ended v.endpoints x.machine ≡ true) ms → slice_get (map standing_of ms) j ≡ Some k → has_ended v.endpoints k ≡ true
    over [] j k h is = absurd cc
    over (x ∷ ms) zero k h is = (let same : x.machine ≡ k = cc in subst (λ (y : Machine). has_ended v.endpoints y ≡ true) same (h 0 x (omega arith)))
    over (x ∷ ms) (suc j) k h is = over ms j k (λ q d lt. h (suc q) d (omega (arith, lt))) is

    go : (r : Option Machine) → slice_get (map standing_of c.machines) i ≡ r → ComesTo v.endpoints v.hosts (number_at c i) [] (slice_get u.state.machines (number_at c i)) r → has_ended v.endpoints m ≡ true
    go r is h = by r is (subst (λ (o : Option Machine). ComesTo v.endpoints v.hosts (number_at c i) [] o r) at_state h)
      where
        by : (r : Option Machine) → slice_get (map standing_of c.machines) i ≡ r → ComesTo v.endpoints v.hosts (number_at c i) [] (Some m) r → has_ended v.endpoints m ≡ true
        by None is h = absurd h
        by (Some k) is h = subst (λ (y : Machine). has_ended v.endpoints y ≡ true) (sym h) (over c.machines i k all is)

-- ---- whose entries they are

lone_makers : (e : Endpoints) (x : Event) → is_start x ≡ false → makers_of e x ≡ actors_of x
lone_makers e (event.Start c s ps) h = absurd cc
lone_makers e (event.Send p s a b l) h = refl
lone_makers e (event.Recv p s a b l) h = refl
lone_makers e (event.Test p b) h = refl
lone_makers e (event.Set p x v) h = refl
lone_makers e (event.Show p v) h = refl
lone_makers e (event.Host p x f a b v) h = refl

-- an entry of another worker is no event of this one's processes alone
pub of_others : (e : Endpoints) (c : CrewView) (x : Entry) → IsMadeByOwner c.share.workers e x → x.worker ≢ entry_worker c → IsOfOthers c x.event
of_others e c x made other = go x.event refl
  where
    by : (y : Event) → x.event ≡ y → is_start y ≡ false → (i : ℕ) → actors_of y ≢ number_at c i ∷ []
    by y is alone i actor =
        let one : Any (λ p. owner c.share.workers p ≡ x.worker) (number_at c i ∷ []) = subst (Any (λ p. owner c.share.workers p ≡ x.worker)) (ap (makers_of e) is ∙ lone_makers e y alone ∙ actor) made in
        other (sym (at one.0 one.1 one.2 one.3 one.4) ∙ owned_number c.share i)
      where
        at : (k p : ℕ) → k < length (number_at c i ∷ []) → get_or (number_at c i ∷ []) k p ≡ p → owner c.share.workers p ≡ x.worker → owner c.share.workers (number_at c i) ≡ x.worker
        at zero p lt same h = subst (λ q. owner c.share.workers q ≡ x.worker) (sym same) h
        at (suc k) p lt same h = absurd (omega (arith, lt))

    go : (y : Event) → x.event ≡ y → IsOfOthers c y
    go (event.Start d s ps) is = tt
    go (event.Send p s a b l) is = by (event.Send p s a b l) is refl
    go (event.Recv p s a b l) is = by (event.Recv p s a b l) is refl
    go (event.Test p b) is = by (event.Test p b) is refl
    go (event.Set p y v) is = by (event.Set p y v) is refl
    go (event.Show p v) is = by (event.Show p v) is refl
    go (event.Host p y f a b v) is = by (event.Host p y f a b v) is refl

pub all_of_others : (e : Endpoints) (c : CrewView) (n : ℕ) (h : List Entry) → All (IsMadeByOwner c.share.workers e) h → All (λ x. x.worker ≢ entry_worker c) (drop n h) → All (λ x. IsOfOthers c x.event) (drop n h)
all_of_others e c n h made other k d lt = of_others e c (get_or (drop n h) k d) (All-drop (IsMadeByOwner c.share.workers e) n h made k d lt) (other k d lt)

pub adds_owned : (g : Share) (old new : OfficeView) → Adds g old new → All (IsMadeByOwner g.workers old.endpoints) old.history → All (IsMadeByOwner g.workers old.endpoints) new.history
adds_owned g old new a all = subst (All (IsMadeByOwner g.workers old.endpoints)) (sym a.history) (All-append (IsMadeByOwner g.workers old.endpoints) old.history a.entries all (All-weaker (IsOwnEntry g old.endpoints) (IsMadeByOwner g.workers old.endpoints) (λ x h. h.1) a.entries a.own))

-- ---- the head of a process that has ended

out_open : (o : Option (ℕ × NameId)) (b : NameId) (h : Head) → sends_on o b ≡ Some h → is_last h ≡ false
out_open None b h i = absurd cc
out_open (Some (s, a)) b h i = (let same : head.Out s a b ≡ h = cc in ap is_last (sym same))

take_open : (o : Option (ℕ × NameId)) (a : NameId) (h : Head) → takes_on o a ≡ Some h → is_last h ≡ false
take_open None a h i = absurd cc
take_open (Some (s, b)) a h i = (let same : head.Take s a b ≡ h = cc in ap is_last (sym same))

node_last : (ss : Sessions) (node : CodeNode) (h : Head) → node_head ss node ≡ Some h → ends_there (Some (record { node = node; sessions = ss })) ≡ is_last h
node_last ss (Join c r k next) h i = (let same : head.Join c r ≡ h = cc in ap is_last same)
node_last ss (Send k b e next) h i = sym (out_open (fin.get ss k.0) b h i)
node_last ss (Pick k b l next) h i = sym (out_open (fin.get ss k.0) b h i)
node_last ss (Throw k b g next) h i = sym (out_open (fin.get ss k.0) b h i)
node_last ss (Recv k a z next) h i = sym (take_open (fin.get ss k.0) a h i)
node_last ss (Branch k a arms) h i = sym (take_open (fin.get ss k.0) a h i)
node_last ss (Catch k a g next) h i = sym (take_open (fin.get ss k.0) a h i)
node_last ss (Set z v next) h i = (let same : head.Local ≡ h = cc in ap is_last same)
node_last ss (Show v next) h i = (let same : head.Local ≡ h = cc in ap is_last same)
node_last ss (Host z f v w next) h i = (let same : head.Local ≡ h = cc in ap is_last same)
node_last ss (If v t u) h i = (let same : head.Local ≡ h = cc in ap is_last same)
node_last ss (Call f o us) h i = absurd cc
node_last ss End h i = (let same : head.Ended ≡ h = cc in ap is_last same)

pub head_last : (e : Endpoints) (m : Machine) (h : Head) → head_of e m ≡ Some h → has_ended e m ≡ is_last h
head_last e m h is = go (place_of e m) is
  where
    go : (o : Option Place) → place_head o ≡ Some h → ends_there o ≡ is_last h
    go None i = absurd cc
    go (Some q) i = node_last q.sessions q.node h i

-- ---- what is found

pub finds_full : (steps : ℕ) (v : OfficeView) (e : Endpoints) (c : CrewView) (u : IsUpToDate v c) → v.endpoints ≡ e → length v.history ≡ steps → (b : Bool) → HaveEnded e c b → FindsOut steps v c (found.Full b)
finds_full steps v e c u same long true h = (long, all_over v c u h.0 (subst (λ (x : Endpoints). All (λ m. has_ended x m.machine ≡ true) c.machines) (sym same) h.1))
finds_full steps v e c u same long false (inl some) = (long, notes_open v c u some)
finds_full steps v e c u same long false (inr (none, (i, m, lt, at, open_one))) =
    (long, place_open v c u none i m lt (ap (λ (x : MachineView). has_ended v.endpoints x.machine) at ∙ ap (λ (x : Endpoints). has_ended x m.machine) same ∙ open_one))

-- ---- all workers

pub all_of_workers : (e : Endpoints) (ms : List Machine) (workers : ℕ) → 0 < workers → ((w : ℕ) → w < workers → (i : ℕ) (m : Machine) → slice_get ms (i * workers + w) ≡ Some m → has_ended e m ≡ true) → all_ended e ms ≡ true
all_of_workers e ms workers some each = go ms (λ p m at. each (p % workers) (mod_below p workers some) (p / workers) m (ap (slice_get ms) (div-add-mod' p workers) ∙ at))
  where
    go : (ms : List Machine) → ((p : ℕ) (m : Machine) → slice_get ms p ≡ Some m → has_ended e m ≡ true) → all_ended e ms ≡ true
    go [] all = refl
    go (m ∷ ms) all = ap (λ b. b && all_ended e ms) (all 0 m refl) ∙ go ms (λ p k at. all (suc p) k at)
