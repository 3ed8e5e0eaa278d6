-- Following a start of a session.
use Rattle.std.proofs.Common.{◌≡◌, ℕ, suc, ◌+◌, ◌<◌, ◌==◌, ◌&&◌, Bool, true, false, cond, List, [], ◌∷◌, ◌++◌, length, map, refl, sym, ap, ◌∙◌, subst, Option, Some, None, arith, take, drop, get_or, length-append, take-append-drop}
use Rattle.std.specs.Prelude.{◌≢◌, slice_get, All}
use Rattle.std.specs.FinMap as fin
use Rattle.std.proofs.lemmas.Bool.{and_parts}
use Rattle.std.proofs.lemmas.Bool.Decides.{nat_tests}
use Rattle.std.proofs.Math.Seq.{take-append_seam, drop-append_seam}
use Rattle.std.proofs.lemmas.List.{drop_more}
use Rattle.std.proofs.lemmas.List.Elements.{All-nil, All-cons}
use Rattle.chor_base.specs.declared.names.NameId.{NameId}
use Rattle.chor_base.specs.declared.event.Event.{Event}
use Rattle.chor_base.specs.declared.event.Event.TheVariants as event
use Rattle.chor_base.specs.Meaning.{Hosts}
use Rattle.chor_base.specs.NameMap.{Variables}
use Rattle.endpoint_code.specs.declared.code.CodeNode.{CodeNode}
use Rattle.endpoint_code.specs.declared.code.CodeNode.TheVariants.{Join, Send, Recv, Pick, Branch, Throw, Catch, Set, Show, Host, If, Call, End}
use Rattle.endpoint_code.specs.declared.endpoints.Channel.{Channel}
use Rattle.endpoint_code.specs.declared.endpoints.Endpoints.{Endpoints}
use Rattle.endpoint_code.specs.Faults.{AreDistinct, one_more, is_among}
use Rattle.endpoint_code.specs.Network.{Machine, NetworkState, Sessions, Place, Makes, place_at, place_of, place_joins, node_joins, joins, joiners, one_joiner, with_machines, served, served_parts, paired, one_pair, begun, starts, starts_with, channel_starts, channel_of, NetworkSteps, acts, begins}
use Rattle.endpoint_code.specs.NetworkRuns.{joins_there}
use Rattle.session_starts.specs.Starts.{AllJoin, AreApart, no_part, one_part}
use Rattle.session_starts.proofs.Places.{name_same}
use Rattle.net_core.specs.Follows.{IsStep, IsCasting, HasFollowed, joined_by, served_by}
use Rattle.net_core.specs.Steps.{HasBegun}
use Rattle.net_core.specs.Views.{NetworkView, Becomes}
use Rattle.net_core.proofs.Casts.{same_role, either_false}
use Rattle.net_core.proofs.Begins.{channel_named, joiners_alone}
use Rattle.net_core.proofs.Makers.{made_maker}
use Rattle.net_core.proofs.Lone.{one_event}

-- ---- part by part

pub served_turn : (rs : List NameId) (first : ℕ) (qs : List (NameId × ℕ)) (i : ℕ) (r : NameId) (q : NameId × ℕ) (b : Bool) → i < length rs → length qs ≡ length rs → b ≡ (((get_or qs i q).0.0 == (get_or rs i r).0) && ((get_or qs i q).1 == first + i))
    → served_by (drop i rs) (first + i) (drop i qs) ≡ (b && served_by (drop (i + 1) rs) (first + (i + 1)) (drop (i + 1) qs))
served_turn rs first qs i r q b lt long h =
    let within : i < length qs = omega arith in
    let next : suc (first + i) ≡ first + (i + 1) = omega arith in
    ap (λ (l : List NameId). served_by l (first + i) (drop i qs)) (drop_more rs i r lt) ∙ ap (served_by (get_or rs i r ∷ drop (i + 1) rs) (first + i)) (drop_more qs i q within)
    ∙ ap (λ (t : Bool). t && served_by (drop (i + 1) rs) (suc (first + i)) (drop (i + 1) qs)) (sym h)
    ∙ ap (λ (k : ℕ). b && served_by (drop (i + 1) rs) k (drop (i + 1) qs)) next

pub joined_turn : (e : Endpoints) (ms : List Machine) (c : NameId) (rs : List NameId) (qs : List (NameId × ℕ)) (i : ℕ) (r : NameId) (q : NameId × ℕ) (b : Bool) → i < length rs → length qs ≡ length rs → b ≡ (((get_or qs i q).0.0 == (get_or rs i r).0) && joins_there (place_at e (slice_get ms (get_or qs i q).1)) c (get_or rs i r))
    → joined_by e ms c (drop i rs) (drop i qs) ≡ (b && joined_by e ms c (drop (i + 1) rs) (drop (i + 1) qs))
joined_turn e ms c rs qs i r q b lt long h =
    let within : i < length qs = omega arith in
    ap (λ (l : List NameId). joined_by e ms c l (drop i qs)) (drop_more rs i r lt) ∙ ap (joined_by e ms c (get_or rs i r ∷ drop (i + 1) rs)) (drop_more qs i q within)
    ∙ ap (λ (t : Bool). t && joined_by e ms c (drop (i + 1) rs) (drop (i + 1) qs)) (sym h)

-- ---- the parts of the service roles

same_test : (a : ℕ) → (a == a) ≡ true
same_test a = grind (arith, nat_tests)

pub served_own : (rs : List NameId) (p : ℕ) → served_by rs p (served_parts rs p) ≡ true
served_own [] p = refl
served_own (r ∷ rs) p = ap (λ (b : Bool). (b && (p == p)) && served_by rs (suc p) (served_parts rs (suc p))) (same_test r.0) ∙ ap (λ (b : Bool). b && served_by rs (suc p) (served_parts rs (suc p))) (same_test p) ∙ served_own rs (suc p)

pub served_same : (rs : List NameId) (p : ℕ) (qs : List (NameId × ℕ)) → served_by rs p qs ≡ true → qs ≡ served_parts rs p
served_same [] p [] h = refl
served_same [] p (q ∷ qs) h = absurd cc
served_same (r ∷ rs) p [] h = absurd cc
served_same (r ∷ rs) p (q ∷ qs) h =
    let parts = and_parts ((q.0.0 == r.0) && (q.1 == p)) (served_by rs (suc p) qs) h in
    let own = and_parts (q.0.0 == r.0) (q.1 == p) parts.0 in
    let role : q.0 ≡ r = name_same q.0 r own.0 in
    let number : q.1 ≡ p = (let t : (q.1 == p) ≡ true = own.1 in grind (arith, nat_tests)) in
    ap (λ (x : NameId). (x, q.1) ∷ qs) role ∙ ap (λ (k : ℕ). (r, k) ∷ qs) number ∙ ap (λ (l : List (NameId × ℕ)). (r, p) ∷ l) (served_same rs (suc p) qs parts.1)

pub length-served_parts : (rs : List NameId) (p : ℕ) → length (served_parts rs p) ≡ length rs
length-served_parts [] p = refl
length-served_parts (r ∷ rs) p = ap suc (length-served_parts rs (suc p))

-- ---- the parts of the active roles

pub joined_length : (e : Endpoints) (ms : List Machine) (c : NameId) (rs : List NameId) (qs : List (NameId × ℕ)) → joined_by e ms c rs qs ≡ true → length qs ≡ length rs
joined_length e ms c [] [] h = refl
joined_length e ms c [] (q ∷ qs) h = absurd cc
joined_length e ms c (r ∷ rs) [] h = absurd cc
joined_length e ms c (r ∷ rs) (q ∷ qs) h = ap suc (joined_length e ms c rs qs (and_parts ((q.0.0 == r.0) && joins_there (place_at e (slice_get ms q.1)) c r) (joined_by e ms c rs qs) h).1)

-- what the first part tells
record First (e : Endpoints) (ms : List Machine) (c r : NameId) (q : NameId × ℕ) (rs : List NameId) (qs : List (NameId × ℕ)) : Type 0 where
  role : q.0 ≡ r
  joins_in : joins_there (place_at e (slice_get ms q.1)) c r ≡ true
  rest : joined_by e ms c rs qs ≡ true

first_part : (e : Endpoints) (ms : List Machine) (c r : NameId) (q : NameId × ℕ) (rs : List NameId) (qs : List (NameId × ℕ)) → joined_by e ms c (r ∷ rs) (q ∷ qs) ≡ true → First e ms c r q rs qs
first_part e ms c r q rs qs h =
    let parts = and_parts ((q.0.0 == r.0) && joins_there (place_at e (slice_get ms q.1)) c r) (joined_by e ms c rs qs) h in
    let own = and_parts (q.0.0 == r.0) (joins_there (place_at e (slice_get ms q.1)) c r) parts.0 in
    record { role = name_same q.0 r own.0; joins_in = own.1; rest = parts.1 }

pub all_join : (e : Endpoints) (ms : List Machine) (c : NameId) (rs : List NameId) (qs : List (NameId × ℕ)) → joined_by e ms c rs qs ≡ true → AllJoin e ms c qs
all_join e ms c [] [] h = All-nil (λ (q : NameId × ℕ). joins_there (place_at e (slice_get ms q.1)) c q.0 ≡ true)
all_join e ms c [] (q ∷ qs) h = absurd cc
all_join e ms c (r ∷ rs) [] h = absurd cc
all_join e ms c (r ∷ rs) (q ∷ qs) h =
    let f = first_part e ms c r q rs qs h in
    All-cons (λ (q : NameId × ℕ). joins_there (place_at e (slice_get ms q.1)) c q.0 ≡ true) q qs (subst (λ (x : NameId). joins_there (place_at e (slice_get ms q.1)) c x ≡ true) (sym f.role) f.joins_in) (all_join e ms c rs qs f.rest)

others_apart : (e : Endpoints) (ms : List Machine) (c : NameId) (rs : List NameId) (qs : List (NameId × ℕ)) → joined_by e ms c rs qs ≡ true → (r : NameId) (p : ℕ) → joins_there (place_at e (slice_get ms p)) c r ≡ true → is_among r rs ≡ false → All (λ x. x.1 ≢ p) qs
others_apart e ms c [] [] h r p j n = All-nil (λ (x : NameId × ℕ). x.1 ≢ p)
others_apart e ms c [] (q ∷ qs) h r p j n = absurd cc
others_apart e ms c (s ∷ rs) [] h r p j n = absurd cc
others_apart e ms c (s ∷ rs) (q ∷ qs) h r p j n =
    let f = first_part e ms c s q rs qs h in
    let parts = either_false (r.0 == s.0) (is_among r rs) n in
    All-cons (λ (x : NameId × ℕ). x.1 ≢ p) q qs
    (λ (same : q.1 ≡ p).
    let k : joins_there (place_at e (slice_get ms p)) c s ≡ true = subst (λ (x : ℕ). joins_there (place_at e (slice_get ms x)) c s ≡ true) same f.joins_in in
    let one : (r.0 == s.0) ≡ true = same_role (place_at e (slice_get ms p)) c r s j k in
    let two : (r.0 == s.0) ≡ false = parts.0 in
    cc)
    (others_apart e ms c rs qs f.rest r p j parts.1)

-- no process has two parts, since each joins in one role
pub joined_apart : (e : Endpoints) (ms : List Machine) (c : NameId) (rs : List NameId) (qs : List (NameId × ℕ)) → joined_by e ms c rs qs ≡ true → AreDistinct rs → AreApart qs
joined_apart e ms c [] [] h d = no_part
joined_apart e ms c [] (q ∷ qs) h d = absurd cc
joined_apart e ms c (r ∷ rs) [] h d = absurd cc
joined_apart e ms c (r ∷ rs) (q ∷ qs) h (one_more n d) = let f = first_part e ms c r q rs qs h in one_part (others_apart e ms c rs qs f.rest r q.1 f.joins_in n) (joined_apart e ms c rs qs f.rest d)

pub joined_paired : (e : Endpoints) (ms : List Machine) (c : NameId) (rs : List NameId) (qs : List (NameId × ℕ)) → joined_by e ms c rs qs ≡ true → paired rs (map (λ q. q.1) qs) ≡ Some qs
joined_paired e ms c [] [] h = refl
joined_paired e ms c [] (q ∷ qs) h = absurd cc
joined_paired e ms c (r ∷ rs) [] h = absurd cc
joined_paired e ms c (r ∷ rs) (q ∷ qs) h = let f = first_part e ms c r q rs qs h in ap (one_pair r q.1) (joined_paired e ms c rs qs f.rest) ∙ ap (λ (x : NameId). Some ((x, q.1) ∷ qs)) (sym f.role)

-- ---- joining

node_joined : (node : CodeNode) (vars : Variables) (ss : Sessions) (c r : NameId) (s : ℕ) → joins_there (Some (record { node = node; sessions = ss })) c r ≡ true → (k : Machine) × (node_joins node vars ss c r s ≡ Some k)
node_joined (Join d q k next) vars ss c r s h = (_, ap (λ (b : Bool). cond b (Some (let m : Machine = record { at = next; vars = vars; sessions = fin.insert ss k.0 (s, r) } in m)) None) h)
node_joined (Send k b x next) vars ss c r s h = absurd cc
node_joined (Recv k a x next) vars ss c r s h = absurd cc
node_joined (Pick k b l next) vars ss c r s h = absurd cc
node_joined (Branch k a arms) vars ss c r s h = absurd cc
node_joined (Throw k b g next) vars ss c r s h = absurd cc
node_joined (Catch k a g next) vars ss c r s h = absurd cc
node_joined (Set x v next) vars ss c r s h = absurd cc
node_joined (Show v next) vars ss c r s h = absurd cc
node_joined (Host x f v w next) vars ss c r s h = absurd cc
node_joined (If v t u) vars ss c r s h = absurd cc
node_joined (Call f o ns) vars ss c r s h = absurd cc
node_joined End vars ss c r s h = absurd cc

joins_made : (e : Endpoints) (o : Option Machine) (c r : NameId) (s : ℕ) → joins_there (place_at e o) c r ≡ true → (m : Machine) × (joins e o c r s ≡ Some m)
joins_made e None c r s h = absurd cc
joins_made e (Some m) c r s h = at_place (place_of e m) h
  where
    at_place : (o : Option Place) → joins_there o c r ≡ true → (k : Machine) × (place_joins o m.vars c r s ≡ Some k)
    at_place None h = absurd cc
    at_place (Some q) h = node_joined q.node m.vars q.sessions c r s h

node_joining : (node : CodeNode) (vars : Variables) (ss : Sessions) (c r : NameId) (s : ℕ) (k : Machine) → node_joins node vars ss c r s ≡ Some k → joins_there (Some (record { node = node; sessions = ss })) c r ≡ true
node_joining (Join d q j next) vars ss c r s k h = go ((d.0 == c.0) && (q.0 == r.0)) h
  where
    go : (b : Bool) → cond b (Some (let m : Machine = record { at = next; vars = vars; sessions = fin.insert ss j.0 (s, r) } in m)) None ≡ Some k → b ≡ true
    go true i = refl
    go false i = absurd cc
node_joining (Send j b x next) vars ss c r s k h = absurd cc
node_joining (Recv j a x next) vars ss c r s k h = absurd cc
node_joining (Pick j b l next) vars ss c r s k h = absurd cc
node_joining (Branch j a arms) vars ss c r s k h = absurd cc
node_joining (Throw j b g next) vars ss c r s k h = absurd cc
node_joining (Catch j a g next) vars ss c r s k h = absurd cc
node_joining (Set x v next) vars ss c r s k h = absurd cc
node_joining (Show v next) vars ss c r s k h = absurd cc
node_joining (Host x f v w next) vars ss c r s k h = absurd cc
node_joining (If v t u) vars ss c r s k h = absurd cc
node_joining (Call f o ns) vars ss c r s k h = absurd cc
node_joining End vars ss c r s k h = absurd cc

joins_back : (e : Endpoints) (o : Option Machine) (c r : NameId) (s : ℕ) (k : Machine) → joins e o c r s ≡ Some k → joins_there (place_at e o) c r ≡ true
joins_back e None c r s k h = absurd cc
joins_back e (Some m) c r s k h = at_place (place_of e m) h
  where
    at_place : (o : Option Place) → place_joins o m.vars c r s ≡ Some k → joins_there o c r ≡ true
    at_place None h = absurd cc
    at_place (Some q) h = node_joining q.node m.vars q.sessions c r s k h

joiners_made : (e : Endpoints) (n : NetworkState) (c : NameId) (s : ℕ) (rs : List NameId) (qs : List (NameId × ℕ)) → joined_by e n.machines c rs qs ≡ true → (js : List (ℕ × Machine)) × (joiners e n c s qs ≡ Some js)
joiners_made e n c s [] [] h = ([], refl)
joiners_made e n c s [] (q ∷ qs) h = absurd cc
joiners_made e n c s (r ∷ rs) [] h = absurd cc
joiners_made e n c s (r ∷ rs) (q ∷ qs) h =
    let f = first_part e n.machines c r q rs qs h in
    let one = joins_made e (slice_get n.machines q.1) c r s f.joins_in in
    let rest = joiners_made e n c s rs qs f.rest in
    ((q.1, one.0) ∷ rest.0, ap (λ (x : NameId). one_joiner q.1 (joins e (slice_get n.machines q.1) c x s) (joiners e n c s qs)) f.role ∙ ap (λ (o : Option Machine). one_joiner q.1 o (joiners e n c s qs)) one.1 ∙ ap (one_joiner q.1 (Some one.0)) rest.1)

joined_from : (e : Endpoints) (n : NetworkState) (c : NameId) (s : ℕ) (rs : List NameId) (ps : List ℕ) (qs : List (NameId × ℕ)) (js : List (ℕ × Machine)) → paired rs ps ≡ Some qs → joiners e n c s qs ≡ Some js → joined_by e n.machines c rs qs ≡ true
joined_from e n c s [] [] qs js h i = let same : [] ≡ qs = cc in subst (λ (l : List (NameId × ℕ)). joined_by e n.machines c [] l ≡ true) same refl
joined_from e n c s [] (p ∷ ps) qs js h i = absurd cc
joined_from e n c s (r ∷ rs) [] qs js h i = absurd cc
joined_from e n c s (r ∷ rs) (p ∷ ps) qs js h i = go (paired rs ps) refl h (λ xs ks a b. joined_from e n c s rs ps xs ks a b)
  where
    joining : (xs : List (NameId × ℕ)) → paired rs ps ≡ Some xs → (o : Option Machine) → joins e (slice_get n.machines p) c r s ≡ o → (u : Option (List (ℕ × Machine))) → joiners e n c s xs ≡ u → one_joiner p o u ≡ Some js
        → ((ys : List (NameId × ℕ)) (ks : List (ℕ × Machine)) → paired rs ps ≡ Some ys → joiners e n c s ys ≡ Some ks → joined_by e n.machines c rs ys ≡ true) → joined_by e n.machines c (r ∷ rs) ((r, p) ∷ xs) ≡ true
    joining xs a None j u k l again = absurd cc
    joining xs a (Some m) j None k l again = absurd cc
    joining xs a (Some m) j (Some ks) k l again =
        ap (λ (b : Bool). (b && joins_there (place_at e (slice_get n.machines p)) c r) && joined_by e n.machines c rs xs) (same_test r.0)
        ∙ ap (λ (b : Bool). b && joined_by e n.machines c rs xs) (joins_back e (slice_get n.machines p) c r s m j)
        ∙ again xs ks a k

    go : (o : Option (List (NameId × ℕ))) → paired rs ps ≡ o → one_pair r p o ≡ Some qs → ((ys : List (NameId × ℕ)) (ks : List (ℕ × Machine)) → paired rs ps ≡ Some ys → joiners e n c s ys ≡ Some ks → joined_by e n.machines c rs ys ≡ true) → joined_by e n.machines c (r ∷ rs) qs ≡ true
    go None a j again = absurd cc
    go (Some xs) a j again =
        let same : (r, p) ∷ xs ≡ qs = cc in
        let made : joiners e n c s ((r, p) ∷ xs) ≡ Some js = ap (joiners e n c s) same ∙ i in
        subst (λ (l : List (NameId × ℕ)). joined_by e n.machines c (r ∷ rs) l ≡ true) same
        (joining xs a (joins e (slice_get n.machines p) c r s) refl (joiners e n c s xs) refl made again)

-- ---- starts

-- what a start tells: its channel, the parts of the active roles, and the processes that join
record Begun (e : Endpoints) (n : NetworkState) (c : NameId) (ps : List ℕ) (x : Event) : Type 0 where
  channel : Channel
  found : channel_of e.channels c ≡ Some channel
  parts : List (NameId × ℕ)
  pairs : paired channel.active ps ≡ Some parts
  some : channel.active ≢ []
  joining : List (ℕ × Machine)
  joined : joiners e n c n.sid parts ≡ Some joining
  is : event.Start c n.sid (parts ++ served_parts channel.serve (length n.machines)) ≡ x

begun_as : (e : Endpoints) (n : NetworkState) (c : NameId) (ps : List ℕ) (x : Event) (m : NetworkState) → starts e n c ps ≡ Some (Makes x m) → Begun e n c ps x
begun_as e n c ps x m h = at_channel (channel_of e.channels c) refl h
  where
    some_role : (rs : List NameId) (q : NameId × ℕ) (qs : List (NameId × ℕ)) → paired rs ps ≡ Some (q ∷ qs) → rs ≡ [] → ⊥
    some_role rs q qs g i = no_pair ps (ap (λ (l : List NameId). paired l ps) (sym i) ∙ g)
      where
        no_pair : (ks : List ℕ) → paired [] ks ≡ Some (q ∷ qs) → ⊥
        no_pair [] j = cc
        no_pair (k ∷ ks) j = cc

    at_joiners : (k : Channel) → channel_of e.channels c ≡ Some k → (q : NameId × ℕ) (qs : List (NameId × ℕ)) → paired k.active ps ≡ Some (q ∷ qs) → (o : Option (List (ℕ × Machine))) → joiners e n c n.sid (q ∷ qs) ≡ o → begun e n c k (q ∷ qs) o ≡ Some (Makes x m) → Begun e n c ps x
    at_joiners k f q qs g None j i = absurd cc
    at_joiners k f q qs g (Some ms) j i = record { channel = k; found = f; parts = q ∷ qs; pairs = g; some = some_role k.active q qs g; joining = ms; joined = j; is = one_event refl i }

    at_pairs : (k : Channel) → channel_of e.channels c ≡ Some k → (o : Option (List (NameId × ℕ))) → paired k.active ps ≡ o → starts_with e n c k o ≡ Some (Makes x m) → Begun e n c ps x
    at_pairs k f None g i = absurd cc
    at_pairs k f (Some []) g i = absurd cc
    at_pairs k f (Some (q ∷ qs)) g i = at_joiners k f q qs g (joiners e n c n.sid (q ∷ qs)) refl i

    at_channel : (o : Option Channel) → channel_of e.channels c ≡ o → channel_starts e n c ps o ≡ Some (Makes x m) → Begun e n c ps x
    at_channel None f i = absurd cc
    at_channel (Some k) f i = at_pairs k f (paired k.active ps) refl i

-- ---- what a network can start

-- a session starts on a channel with these parts
pub starts_made : (e : Endpoints) (n : NetworkState) (k : Channel) (qs : List (NameId × ℕ)) (js : List (ℕ × Machine)) → channel_of e.channels k.name ≡ Some k → k.active ≢ [] → joined_by e n.machines k.name k.active qs ≡ true → joiners e n k.name n.sid qs ≡ Some js
    → starts e n k.name (map (λ q. q.1) qs) ≡ Some (Makes (event.Start k.name n.sid (qs ++ served_parts k.serve (length n.machines))) (record n { machines = with_machines n.machines js ++ served e k.name n.sid k.serve; sid = suc n.sid }))
starts_made e n k qs js found some h j =
    ap (channel_starts e n k.name (map (λ q. q.1) qs)) found
    ∙ ap (starts_with e n k.name k) (joined_paired e n.machines k.name k.active qs h)
    ∙ nonempty k.active qs some h
    ∙ ap (begun e n k.name k qs) j
  where
    nonempty : (rs : List NameId) (xs : List (NameId × ℕ)) → rs ≢ [] → joined_by e n.machines k.name rs xs ≡ true → starts_with e n k.name k (Some xs) ≡ begun e n k.name k xs (joiners e n k.name n.sid xs)
    nonempty [] xs some h = absurd (some refl)
    nonempty (r ∷ rs) [] some h = absurd cc
    nonempty (r ∷ rs) (x ∷ xs) some h = refl

abbrev pub start_on : NetworkState → Channel → List (NameId × ℕ) → Event
start_on n k ps = event.Start k.name n.sid ps

pub casting_step : (e : Endpoints) (hosts : Hosts) (cap : Option ℕ) (n : NetworkState) (k : Channel) (ps : List (NameId × ℕ)) → channel_of e.channels k.name ≡ Some k → IsCasting e n.machines k ps → IsStep e hosts cap n (start_on n k ps)
casting_step e hosts cap n k ps found cast =
    let js = joiners_made e n k.name n.sid k.active cast.joining cast.joins in
    let made = starts_made e n k cast.joining js.0 found cast.some cast.joins js.1 in
    let after : NetworkState = record n { machines = with_machines n.machines js.0 ++ served e k.name n.sid k.serve; sid = suc n.sid } in
    (after, begins k.name (map (λ q. q.1) cast.joining) (made ∙ ap (λ (l : List (NameId × ℕ)). Some (Makes (start_on n k l) after)) (sym cast.whole)))

-- the start of a session is a step only where its parts can start it
pub step_casting : (e : Endpoints) (hosts : Hosts) (cap : Option ℕ) (n : NetworkState) (c : NameId) (s : ℕ) (ps : List (NameId × ℕ)) → IsStep e hosts cap n (event.Start c s ps) → (k : Channel) × (channel_of e.channels c ≡ Some k) × (s ≡ n.sid) × IsCasting e n.machines k ps
step_casting e hosts cap n c s ps (m, acts p v allowed made) = let no : None ≡ Some p = made_maker e cap n p (event.Start c s ps) v m made in absurd cc
step_casting e hosts cap n c s ps (m, begins d qs made) =
    let b = begun_as e n d qs (event.Start c s ps) m made in
    let k : Channel = b.channel in
    let is : event.Start d n.sid (b.parts ++ served_parts k.serve (length n.machines)) ≡ event.Start c s ps = b.is in
    let name : d ≡ c = cc in
    let number : n.sid ≡ s = cc in
    let whole : b.parts ++ served_parts k.serve (length n.machines) ≡ ps = cc in
    let named : k.name ≡ d = channel_named e.channels d k b.found in (
      k,
      subst (λ (x : NameId). channel_of e.channels x ≡ Some k) name b.found,
      sym number,
      record {
        joining = b.parts;
        whole = sym whole;
        some = b.some;
        joins = subst (λ (x : NameId). joined_by e n.machines x k.active b.parts ≡ true) (sym named) (joined_from e n d n.sid k.active qs b.parts b.joining b.pairs b.joined);
      },
    )

-- the parts as they are told from the whole list
pub record Told (e : Endpoints) (ms : List Machine) (k : Channel) (ps : List (NameId × ℕ)) : Type 0 where
  pub long : length ps ≡ length k.active + length k.serve
  pub joins_all : joined_by e ms k.name k.active (take (length k.active) ps) ≡ true
  pub serves_all : served_by k.serve (length ms) (drop (length k.active) ps) ≡ true

pub casting_told : (e : Endpoints) (ms : List Machine) (k : Channel) (ps : List (NameId × ℕ)) → IsCasting e ms k ps → Told e ms k ps
casting_told e ms k ps cast =
    let count : length cast.joining ≡ length k.active = joined_length e ms k.name k.active cast.joining cast.joins in
    let others = length-served_parts k.serve (length ms) in
    let front : take (length k.active) ps ≡ cast.joining = ap (take (length k.active)) cast.whole ∙ ap (λ (i : ℕ). take i (cast.joining ++ served_parts k.serve (length ms))) (sym count) ∙ take-append_seam cast.joining (served_parts k.serve (length ms)) in
    let back : drop (length k.active) ps ≡ served_parts k.serve (length ms) = ap (drop (length k.active)) cast.whole ∙ ap (λ (i : ℕ). drop i (cast.joining ++ served_parts k.serve (length ms))) (sym count) ∙ drop-append_seam cast.joining (served_parts k.serve (length ms)) in
    record {
      long = (let l = ap length cast.whole in let m = length-append cast.joining (served_parts k.serve (length ms)) in omega arith);
      joins_all = ap (joined_by e ms k.name k.active) front ∙ cast.joins;
      serves_all = ap (served_by k.serve (length ms)) back ∙ served_own k.serve (length ms);
    }

pub told_casting : (e : Endpoints) (ms : List Machine) (k : Channel) (ps : List (NameId × ℕ)) → k.active ≢ [] → joined_by e ms k.name k.active (take (length k.active) ps) ≡ true → served_by k.serve (length ms) (drop (length k.active) ps) ≡ true → IsCasting e ms k ps
told_casting e ms k ps some joins serves = record {
  joining = take (length k.active) ps;
  whole = sym (take-append-drop (length k.active) ps) ∙ ap (λ (l : List (NameId × ℕ)). take (length k.active) ps ++ l) (served_same k.serve (length ms) (drop (length k.active) ps) serves);
  some = some;
  joins = joins;
}

-- the two tests, on the pieces of the lists
pub joined_piece : (e : Endpoints) (ms : List Machine) (k : Channel) (ps front : List (NameId × ℕ)) (active : List NameId) → active ≡ k.active → front ≡ take (length active) ps → joined_by e ms k.name k.active (take (length k.active) ps) ≡ joined_by e ms k.name active front
joined_piece e ms k ps front active a f = ap (λ (l : List NameId). joined_by e ms k.name l (take (length l) ps)) (sym a) ∙ ap (joined_by e ms k.name active) (sym f)

pub served_piece : (ms : List Machine) (k : Channel) (ps back : List (NameId × ℕ)) (active serve : List NameId) (count : ℕ) → active ≡ k.active → serve ≡ k.serve → back ≡ drop (length active) ps → count ≡ length ms → served_by k.serve (length ms) (drop (length k.active) ps) ≡ served_by serve count back
served_piece ms k ps back active serve count a b f n =
    ap (λ (l : List NameId). served_by k.serve (length ms) (drop (length l) ps)) (sym a)
    ∙ ap (λ (l : List NameId). served_by l (length ms) (drop (length active) ps)) (sym b)
    ∙ ap (λ (i : ℕ). served_by serve i (drop (length active) ps)) (sym n)
    ∙ ap (served_by serve count) (sym f)

-- ---- a start that was followed

pub same_start : (n : NetworkState) (k : Channel) (c : NameId) (s : ℕ) (ps qs : List (NameId × ℕ)) → k.name ≡ c → s ≡ n.sid → qs ≡ ps → start_on n k qs ≡ event.Start c s ps
same_start n k c s ps qs a b d = ap (λ (x : NameId). event.Start x n.sid qs) a ∙ ap (λ (i : ℕ). event.Start c i qs) (sym b) ∙ ap (event.Start c s) d

pub started_step : (hosts : Hosts) (old new : NetworkView) (k : Channel) (c : NameId) (s : ℕ) (ps : List (NameId × ℕ)) → channel_of old.endpoints.channels k.name ≡ Some k → IsCasting old.endpoints old.state.machines k ps → k.name ≡ c → s ≡ old.state.sid → HasBegun old k (take (length k.active) ps) new → HasFollowed hosts old (event.Start c s ps) new
started_step hosts old new k c s ps found cast named number h =
    let e : Endpoints = old.endpoints in
    let n : NetworkState = old.state in
    let told = casting_told e n.machines k ps cast in
    let qs : List (NameId × ℕ) = take (length k.active) ps in
    let count : length cast.joining ≡ length k.active = joined_length e n.machines k.name k.active cast.joining cast.joins in
    let front : qs ≡ cast.joining = ap (take (length k.active)) cast.whole ∙ ap (λ (i : ℕ). take i (cast.joining ++ served_parts k.serve (length n.machines))) (sym count) ∙ take-append_seam cast.joining (served_parts k.serve (length n.machines)) in
    let whole : qs ++ served_parts k.serve (length n.machines) ≡ ps = ap (λ (l : List (NameId × ℕ)). l ++ served_parts k.serve (length n.machines)) front ∙ sym cast.whole in
    let joined = joiners_alone e n k.name n.sid qs ∙ h.started.joins.all in
    let made = starts_made e n k qs h.started.joins.joining found cast.some told.joins_all joined in
    let after : NetworkState = record n { machines = h.machines; sid = suc n.sid } in
    let machines : with_machines n.machines h.started.joins.joining ++ served e k.name n.sid k.serve ≡ h.machines = ap (λ (ms : List Machine). ms ++ served e k.name n.sid k.serve) h.started.joins.placed ∙ sym h.started.serves in
    let x = same_start n k c s ps (qs ++ served_parts k.serve (length n.machines)) named number whole in
    record {
      state = after;
      becomes = subst (λ (y : Event). Becomes old new y after) x h.becomes;
      steps = subst (λ (y : Event). NetworkSteps e hosts old.capacity n y after) x
          (begins k.name (map (λ q. q.1) qs) (made ∙ ap (λ (ms : List Machine). Some (Makes (start_on n k (qs ++ served_parts k.serve (length n.machines))) (let m : NetworkState = record n { machines = ms; sid = suc n.sid } in m))) machines));
    }
