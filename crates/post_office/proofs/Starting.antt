-- An office after the start of a session.
use Rattle.std.proofs.Common.{◌≡◌, ◌≢◌, ℕ, zero, suc, ◌+◌, ◌-◌, ◌<◌, ◌≤◌, ◌==◌, ◌^◌, ◌⊎◌, inl, inr, Bool, true, false, cond, List, [], ◌∷◌, ◌++◌, length, take, refl, sym, ap, ◌∙◌, subst, Option, Some, None, arith, length-append, if◌then◌else◌}
use Rattle.std.specs.Prelude.{slice_get, slice_set, map}
use Rattle.std.proofs.Math.ListN.{replicate}
use Rattle.std.proofs.lemmas.List.{length-set, length-replicate, map-append, take_all}
use Rattle.std.proofs.lemmas.List.Elements.{All-head, All-tail}
use Rattle.std.specs.FinMap as fin
use Rattle.std.proofs.lemmas.Bool.{eqb-true, eqb-false, and_parts}
use Rattle.chor_base.proofs.Lists.{get_set_other}
use Rattle.chor_base.specs.declared.names.NameId.{NameId}
use Rattle.chor_base.specs.declared.event.Entry.{Entry}
use Rattle.chor_base.specs.declared.event.Event.{Event}
use Rattle.chor_base.specs.declared.event.Event.TheVariants as event
use Rattle.chor_base.specs.NameMap.{Variables}
use Rattle.endpoint_code.specs.declared.code.CodeNode.{CodeNode}
use Rattle.endpoint_code.specs.declared.code.CodeNode.TheVariants.{Join, Send, Recv, Pick, Branch, Throw, Catch, Set, Show, Host, If, Call, End}
use Rattle.endpoint_code.specs.declared.endpoints.Channel.{Channel}
use Rattle.endpoint_code.specs.declared.endpoints.Endpoints.{Endpoints}
use Rattle.endpoint_code.specs.Network.{Sessions, Machine, NetworkState, Place, Makes, place_of, place_at, node_joins, place_joins, joins, one_joiner, joiners, with_machines, served, served_parts, channel_of, begun, paired, starts_with, channel_starts, starts, NetworkSteps, begins}
use Rattle.endpoint_code.specs.NetworkRuns.{joins_there}
use Rattle.post_office.specs.declared.desk.Desk.{Desk}
use Rattle.post_office.specs.declared.post.Post.{Post}
use Rattle.post_office.specs.declared.post.Post.TheVariants.{Busy, Joining, Waiting, Ended}
use Rattle.post_office.specs.Views.{OfficeView, post_at, idle, all_joined}
use Rattle.post_office.specs.Posts.{IsPostOf, IsTrueIn}
use Rattle.post_office.specs.Kept.{IsKept}
use Rattle.post_office.specs.Starts.{joins_as, AllPosted, most_served}
use Rattle.post_office.proofs.Acting.{busy_true, post_stays, busy_own, post_other, after_more}
use Rattle.post_office.proofs.Casts.{name_same, parts_paired}

-- ---- who is posted as joining joins

pub post_joins : (e : Endpoints) (n : NetworkState) (o : Option Machine) (post : Post) (c r : NameId) → IsPostOf e n o post → joins_as post c r ≡ true → joins_there (place_at e o) c r ≡ true
post_joins e n None (Joining d q) c r t h = absurd t
post_joins e n (Some m) (Joining d q) c r t h =
    let parts = and_parts (d.0 == c.0) (q.0 == r.0) h in
    subst (λ (x : NameId). joins_there (place_of e m) x r ≡ true) (name_same d c parts.0) (subst (λ (x : NameId). joins_there (place_of e m) d x ≡ true) (name_same q r parts.1) t)
post_joins e n o Busy c r t h = absurd cc
post_joins e n o (Waiting why) c r t h = absurd cc
post_joins e n o Ended c r t h = absurd cc

node_joined : (node : CodeNode) (ss : Sessions) (vars : Variables) (c r : NameId) (s : ℕ) → joins_there (Some (record { node = node; sessions = ss })) c r ≡ true → (m : Machine) × (node_joins node vars ss c r s ≡ Some m)
node_joined (Join d q k next) ss vars c r s h =
    let m : Machine = record { at = next; vars = vars; sessions = fin.insert ss k.0 (s, r) } in
    let none : Option Machine = None in
    (m, ap (λ (b : Bool). if b then Some m else none) h)
node_joined (Send k b x next) ss vars c r s h = absurd cc
node_joined (Recv k a x next) ss vars c r s h = absurd cc
node_joined (Pick k b l next) ss vars c r s h = absurd cc
node_joined (Branch k a arms) ss vars c r s h = absurd cc
node_joined (Throw k b g next) ss vars c r s h = absurd cc
node_joined (Catch k a g next) ss vars c r s h = absurd cc
node_joined (Set x v next) ss vars c r s h = absurd cc
node_joined (Show v next) ss vars c r s h = absurd cc
node_joined (Host x f v w next) ss vars c r s h = absurd cc
node_joined (If v t u) ss vars c r s h = absurd cc
node_joined (Call f o ns) ss vars c r s h = absurd cc
node_joined End ss vars c r s h = absurd cc

has_joined : (e : Endpoints) (o : Option Machine) (c r : NameId) (s : ℕ) → joins_there (place_at e o) c r ≡ true → (m : Machine) × (joins e o c r s ≡ Some m)
has_joined e None c r s h = absurd cc
has_joined e (Some w) c r s h = at_place (place_of e w) h
  where
    at_place : (o : Option Place) → joins_there o c r ≡ true → (m : Machine) × (place_joins o w.vars c r s ≡ Some m)
    at_place None h = absurd cc
    at_place (Some q) h = node_joined q.node q.sessions w.vars c r s h

-- all processes of a start, after it
record AllJoined (e : Endpoints) (n : NetworkState) (c : NameId) (s : ℕ) (ps : List (NameId × ℕ)) : Type 0 where
  machines : List (ℕ × Machine)
  made : joiners e n c s ps ≡ Some machines
  same : map (λ j. j.0) machines ≡ map (λ q. q.1) ps

all_join : (e : Endpoints) (n : NetworkState) (ds : List Desk) (c : NameId) (s : ℕ) (ps : List (NameId × ℕ)) → ((p : ℕ) → IsTrueIn e n p (post_at ds p)) → AllPosted ds c ps → AllJoined e n c s ps
all_join e n ds c s [] posts all = record { machines = []; made = refl; same = refl }
all_join e n ds c s (q ∷ ps) posts all =
    let P : NameId × ℕ → Type 0 = λ x. joins_as (post_at ds x.1) c x.0 ≡ true in
    let one = has_joined e (slice_get n.machines q.1) c q.0 s (post_joins e n (slice_get n.machines q.1) (post_at ds q.1) c q.0 (posts q.1) (All-head P q ps all)) in
    let more = all_join e n ds c s ps posts (All-tail P q ps all) in
    record {
      machines = (q.1, one.0) ∷ more.machines;
      made = ap (λ (o : Option Machine). one_joiner q.1 o (joiners e n c s ps)) one.1 ∙ ap (one_joiner q.1 (Some one.0)) more.made;
      same = ap (λ (is : List ℕ). q.1 ∷ is) more.same;
    }

-- ---- numbers

pub served_most : (ks : List Channel) (c : NameId) (k : Channel) → channel_of ks c ≡ Some k → length k.serve ≤ most_served ks
served_most [] c k h = absurd cc
served_most (x ∷ ks) c k h = go (x.name.0 == c.0) refl (served_most ks c k)
  where
    go : (b : Bool) → (x.name.0 == c.0) ≡ b → (channel_of ks c ≡ Some k → length k.serve ≤ most_served ks) → length k.serve ≤ most_served (x ∷ ks)
    go true e more =
        let a : Some x ≡ Some k = sym (ap (λ (b : Bool). cond b (Some x) (channel_of ks c)) e) ∙ h in
        let same : x ≡ k = cc in
        let long : length x.serve ≡ length k.serve = ap (λ (y : Channel). length y.serve) same in
        omega arith
    go false e more = let le = more (sym (ap (λ (b : Bool). cond b (Some x) (channel_of ks c)) e) ∙ h) in omega arith

-- ---- lists

-- the number isn't among these
abbrev pub NotIn : ℕ → List ℕ → Type 0
NotIn q [] = Unit {0}
NotIn q (p ∷ ps) = (q ≢ p) × NotIn q ps

not_front : (q : ℕ) (ps qs : List ℕ) → NotIn q (ps ++ qs) → NotIn q ps
not_front q [] qs h = tt
not_front q (p ∷ ps) qs h = (h.0, not_front q ps qs h.1)

with_long : (ms : List Machine) (js : List (ℕ × Machine)) → length (with_machines ms js) ≡ length ms
with_long ms [] = refl
with_long ms (j ∷ js) = with_long (slice_set ms j.0 j.1) js ∙ length-set ms j.0 j.1

with_other : (ms : List Machine) (js : List (ℕ × Machine)) (q : ℕ) → NotIn q (map (λ j. j.0) js) → slice_get (with_machines ms js) q ≡ slice_get ms q
with_other ms [] q h = refl
with_other ms (j ∷ js) q h = with_other (slice_set ms j.0 j.1) js q h.1 ∙ get_set_other ms j.0 q j.1 h.0

served_long : (e : Endpoints) (c : NameId) (s : ℕ) (rs : List NameId) → length (served e c s rs) ≡ length rs
served_long e c s [] = refl
served_long e c s (r ∷ rs) = ap suc (served_long e c s rs)

get_front : {X : Type 0} (xs ys : List X) (q : ℕ) → q < length xs → slice_get (xs ++ ys) q ≡ slice_get xs q
get_front [] ys q h = absurd (omega arith)
get_front (x ∷ xs) ys zero h = refl
get_front (x ∷ xs) ys (suc q) h = get_front xs ys q (omega arith)

all_joined_long : (s : ℕ) (qs : List (NameId × ℕ)) (ds : List Desk) → length (all_joined s qs ds) ≡ length ds
all_joined_long s [] ds = refl
all_joined_long s (q ∷ qs) ds = all_joined_long s qs (slice_set ds q.1 (record { post = Busy; joined = Some s })) ∙ length-set ds q.1 (record { post = Busy; joined = Some s })

-- who has a part is busy, and the others are as they were
joined_post : (s : ℕ) (qs : List (NameId × ℕ)) (ds : List Desk) (i : ℕ) → (post_at (all_joined s qs ds) i ≡ Busy) ⊎ ((post_at (all_joined s qs ds) i ≡ post_at ds i) × NotIn i (map (λ q. q.1) qs))
joined_post s [] ds i = inr (refl, tt)
joined_post s (q ∷ qs) ds i = go (i == q.1) refl (joined_post s qs (slice_set ds q.1 (record { post = Busy; joined = Some s })) i)
  where
    desk : Desk
    desk = record { post = Busy; joined = Some s }

    go : (b : Bool) → (i == q.1) ≡ b → (post_at (all_joined s qs (slice_set ds q.1 desk)) i ≡ Busy) ⊎ ((post_at (all_joined s qs (slice_set ds q.1 desk)) i ≡ post_at (slice_set ds q.1 desk) i) × NotIn i (map (λ q. q.1) qs))
        → (post_at (all_joined s (q ∷ qs) ds) i ≡ Busy) ⊎ ((post_at (all_joined s (q ∷ qs) ds) i ≡ post_at ds i) × NotIn i (map (λ q. q.1) (q ∷ qs)))
    go b h (inl e) = inl e
    go true h (inr e) = inl (e.0 ∙ subst (λ j. post_at (slice_set ds q.1 desk) j ≡ Busy) (sym (eqb-true i q.1 h)) (busy_own ds q.1 (Some s)))
    go false h (inr e) = let apart = eqb-false i q.1 h in inr (e.0 ∙ post_other ds q.1 i desk apart, (apart, e.1))

-- so many more are put after all
pub resized : (ds : List Desk) (count n k : ℕ) (d x : Desk) → n ≡ length ds + count → k ≡ length ds → d ≡ x → take n ds ++ replicate (n - k) d ≡ ds ++ replicate count x
resized ds count n k d x is long same =
    let more : length ds ≤ n = omega arith in
    let rest : n - k ≡ count = omega arith in
    ap (λ (xs : List Desk). xs ++ replicate (n - k) d) (take_all n ds more) ∙ ap (λ i. ds ++ replicate i d) rest ∙ ap (λ (y : Desk). ds ++ replicate count y) same

-- of a new process nothing is posted
appended_post : (ds : List Desk) (n i : ℕ) → (post_at (ds ++ replicate n idle) i ≡ Busy) ⊎ ((post_at (ds ++ replicate n idle) i ≡ post_at ds i) × (i < length ds))
appended_post [] zero i = inl refl
appended_post [] (suc n) zero = inl refl
appended_post [] (suc n) (suc i) = elim (appended_post [] n i) [ inl e ↦ inl e | inr e ↦ absurd (let lt : i < 0 = e.1 in omega arith) ]
appended_post (d ∷ ds) n zero = inr (refl, omega arith)
appended_post (d ∷ ds) n (suc i) = elim (appended_post ds n i) [ inl e ↦ inl e | inr e ↦ inr (e.0, (let lt : i < length ds = e.1 in omega arith)) ]

-- ---- the start

module _ {v : OfficeView} (kept : IsKept v) (k : Channel) (parts : List (NameId × ℕ)) (found : channel_of v.endpoints.channels k.name ≡ Some k) (posted : AllPosted v.desks k.name parts) (roles : map (λ q. q.0) parts ≡ k.active) (some : parts ≢ []) where
  n : NetworkState
  n = kept.state

  e : Endpoints
  e = v.endpoints

  all : AllJoined v.endpoints kept.state k.name kept.state.sid parts
  all = all_join v.endpoints kept.state v.desks k.name kept.state.sid parts kept.posts posted

  -- the state after it
  abbrev after : NetworkState
  after = record kept.state { machines = with_machines kept.state.machines all.machines ++ served v.endpoints k.name kept.state.sid k.serve; sid = suc kept.state.sid }

  abbrev is_made : Event
  is_made = event.Start k.name kept.state.sid (parts ++ served_parts k.serve (length kept.state.machines))

  not_empty : (ps : List (NameId × ℕ)) → ps ≢ [] → starts_with v.endpoints kept.state k.name k (Some ps) ≡ begun v.endpoints kept.state k.name k ps (joiners v.endpoints kept.state k.name kept.state.sid ps)
  not_empty [] h = absurd (h refl)
  not_empty (q ∷ qs) h = refl

  made : starts v.endpoints kept.state k.name (map (λ q. q.1) parts) ≡ Some (Makes is_made after)
  made =
      ap (channel_starts v.endpoints kept.state k.name (map (λ q. q.1) parts)) found
      ∙ ap (starts_with v.endpoints kept.state k.name k) (ap (λ (rs : List NameId). paired rs (map (λ q. q.1) parts)) (sym roles) ∙ parts_paired parts)
      ∙ not_empty parts some
      ∙ ap (begun v.endpoints kept.state k.name k parts) all.made

  step : NetworkSteps v.endpoints v.hosts v.capacity kept.state is_made after
  step = begins k.name (map (λ q. q.1) parts) made

  kept_machine : (i : ℕ) → i < length v.desks → NotIn i (map (λ q. q.1) (parts ++ served_parts k.serve (length v.desks))) → slice_get after.machines i ≡ slice_get kept.state.machines i
  kept_machine i lt out =
      let long = with_long kept.state.machines all.machines in
      let here : i < length (with_machines kept.state.machines all.machines) = (let l = kept.processes in omega arith) in
      let others : NotIn i (map (λ q. q.1) parts) = not_front i (map (λ q. q.1) parts) (map (λ q. q.1) (served_parts k.serve (length v.desks))) (subst (NotIn i) (map-append (λ q. q.1) parts (served_parts k.serve (length v.desks))) out) in
      get_front (with_machines kept.state.machines all.machines) (served v.endpoints k.name kept.state.sid k.serve) i here
      ∙ with_other kept.state.machines all.machines i (subst (NotIn i) (sym all.same) others)

  abbrev desks_after : List Desk
  desks_after = all_joined v.sid (parts ++ served_parts k.serve (length v.desks)) (v.desks ++ replicate (length k.serve) idle)

  posts_after : (i : ℕ) → IsTrueIn v.endpoints after i (post_at desks_after i)
  posts_after i = go (joined_post v.sid (parts ++ served_parts k.serve (length v.desks)) (v.desks ++ replicate (length k.serve) idle) i)
    where
      busy : post_at desks_after i ≡ Busy → IsTrueIn v.endpoints after i (post_at desks_after i)
      busy h = subst (λ (w : Post). IsTrueIn v.endpoints after i w) (sym h) (busy_true v.endpoints after (slice_get after.machines i))

      go : (post_at desks_after i ≡ Busy) ⊎ ((post_at desks_after i ≡ post_at (v.desks ++ replicate (length k.serve) idle) i) × NotIn i (map (λ q. q.1) (parts ++ served_parts k.serve (length v.desks)))) → IsTrueIn v.endpoints after i (post_at desks_after i)
      go (inl h) = busy h
      go (inr h) = elim (appended_post v.desks (length k.serve) i) [
        | inl b ↦ busy (h.0 ∙ b)
        | inr b ↦ subst (λ (w : Post). IsTrueIn v.endpoints after i w) (sym (h.0 ∙ b.0))
            (subst (λ (o : Option Machine). IsPostOf v.endpoints after o (post_at v.desks i)) (sym (kept_machine i b.1 h.1)) (post_stays v.endpoints kept.state after (slice_get kept.state.machines i) (post_at v.desks i) (λ m f s a b l g first. first) (kept.posts i)))
      ]

  pub begun_kept : length v.desks + length k.serve < 2 ^ 32 → (x : Event) (worker sid : ℕ) (history : List Entry) (desks : List Desk) (room : ℕ) (stopped : Bool)
      → x ≡ event.Start k.name v.sid (parts ++ served_parts k.serve (length v.desks)) → history ≡ v.history ++ record { worker = worker; event = x } ∷ [] → sid ≡ v.sid + 1 → desks ≡ desks_after
      → IsKept (record { endpoints = v.endpoints; hosts = v.hosts; capacity = v.capacity; history = history; queues = v.queues; sid = sid; desks = desks; room = room; stopped = stopped })
  begun_kept few x worker sid history desks room stopped is_start more next is =
      let same_sid : kept.state.sid ≡ v.sid = kept.sid in
      let many : length kept.state.machines ≡ length v.desks = kept.processes in
      let same : is_made ≡ x = ap (λ i. event.Start k.name i (parts ++ served_parts k.serve (length kept.state.machines))) same_sid ∙ ap (λ i. event.Start k.name v.sid (parts ++ served_parts k.serve i)) many ∙ sym is_start in
      let there = subst (λ (y : Event). NetworkSteps v.endpoints v.hosts v.capacity kept.state y after) same step in
      let a = length-append v.desks (replicate (length k.serve) idle) in
      let b = length-replicate (length k.serve) idle in
      let c = all_joined_long v.sid (parts ++ served_parts k.serve (length v.desks)) (v.desks ++ replicate (length k.serve) idle) in
      let d : length desks ≡ length desks_after = ap length is in
      let f = length-append (with_machines kept.state.machines all.machines) (served v.endpoints k.name kept.state.sid k.serve) in
      let g = with_long kept.state.machines all.machines in
      let h = served_long v.endpoints k.name kept.state.sid k.serve in
      record {
        faultless = kept.faultless;
        state = after;
        after = after_more v kept.state after x worker history more kept.after there;
        queues = kept.queues;
        sid = (let s : suc kept.state.sid ≡ sid = (let t = next in omega arith) in s);
        processes = omega arith;
        few = omega arith;
        posts = λ i. subst (λ (ds : List Desk). IsTrueIn v.endpoints after i (post_at ds i)) (sym is) (posts_after i);
      }
