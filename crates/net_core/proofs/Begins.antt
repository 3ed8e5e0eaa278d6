-- The start that a process makes.
use Rattle.std.proofs.Common.{◌≡◌, ℕ, suc, ◌==◌, ◌&&◌, Bool, true, false, cond, List, [], ◌∷◌, ◌++◌, length, refl, sym, ap, ◌∙◌, subst, Option, Some, arith}
use Rattle.std.specs.Prelude.{slice_get, map, pos}
use Rattle.std.proofs.lemmas.Bool.Decides.{nat_tests}
use Rattle.chor_base.specs.declared.names.NameId.{NameId}
use Rattle.chor_base.specs.declared.event.Event.TheVariants as event
use Rattle.endpoint_code.specs.declared.code.CodeId.{CodeId}
use Rattle.std.specs.FinMap as fin
use Rattle.chor_base.specs.Meaning.{Hosts}
use Rattle.endpoint_code.specs.declared.code.CodeNode.{CodeNode}
use Rattle.endpoint_code.specs.declared.code.CodeNode.TheVariants.{Join, Send, Recv, Pick, Branch, Throw, Catch, Set, Show, Host, If, Call, End}
use Rattle.endpoint_machine.specs.declared.head.Head.TheVariants as head
use Rattle.endpoint_machine.specs.Heads.{node_head}
use Rattle.endpoint_code.specs.declared.endpoints.Endpoints.{Endpoints}
use Rattle.endpoint_code.specs.declared.endpoints.Channel.{Channel}
use Rattle.endpoint_code.specs.Network.{Machine, NetworkState, Sessions, Place, Made, Makes, node_at, place_of, place_at, channel_of, joiners, one_joiner, with_machines, served, served_parts, begun, starts, starts_with, channel_starts, PlaceAnswers, MachineAnswers}
use Rattle.endpoint_code.specs.Network as net
use Rattle.endpoint_code.specs.NetworkRuns.{joins_there}
use Rattle.endpoint_code.specs.Scheduled.{Chooses, chosen_at, started, started_on}
use Rattle.endpoint_code.specs.Faults.{IsFaultless, IsScoped, IsActive, AreDistinct, is_among, joins, sends, receives, picks, offers, gives, gains, sets, shows, asks, tests, calls, ends}
use Rattle.net_core.specs.Heads.{Stands, Shows, is_joining_head}
use Rattle.session_starts.specs.Starts.{Joined, machines_alone, HasStarted}
use Rattle.session_starts.proofs.Places.{name_same}
use Rattle.session_starts.proofs.Served.{channel_has}
use Rattle.net_core.specs.Starts.{IsCast, no_role, one_role}
use Rattle.net_core.proofs.Scopes.{out_same, take_same}
use Rattle.net_core.proofs.Casts.{cast_partners, cast_paired, distinct_front}

same_test : (a : ℕ) → (a == a) ≡ true
same_test a = grind (arith, nat_tests)

own_join : (c r : NameId) → ((c.0 == c.0) && (r.0 == r.0)) ≡ true
own_join c r = ap (λ (b : Bool). b && (r.0 == r.0)) (same_test c.0) ∙ same_test r.0

-- a process at a join joins its channel in its role
pub stands_joining : (e : Endpoints) (n : NetworkState) (p : ℕ) (c r k : NameId) (next : CodeId) → Stands e n p (Join c r k next) → joins_there (place_at e (slice_get n.machines p)) c r ≡ true
stands_joining e n p c r k next s = ap (λ (o : Option Machine). joins_there (place_at e o) c r) s.there ∙ ap (λ (o : Option Place). joins_there o c r) s.at_node.place ∙ own_join c r

pub scoped_join : {e : Endpoints} {id : CodeId} {bs : List NameId} → IsScoped e id bs → (c r k : NameId) (next : CodeId) → node_at e id ≡ Some (Join c r k next) → IsActive e c r
scoped_join {e} (joins {next} {c = d} {r = q} {k = l} h a u s) c r k m f =
    let one : d ≡ c = cc in
    let two : q ≡ r = cc in
    subst (λ (x : NameId). IsActive e x r) one (subst (IsActive e d) two a)
scoped_join (sends h a s) c r k m f = absurd cc
scoped_join (receives h a s) c r k m f = absurd cc
scoped_join (picks h a s) c r k m f = absurd cc
scoped_join (offers h a d s) c r k m f = absurd cc
scoped_join (gives h a b s) c r k m f = absurd cc
scoped_join (gains h a b s) c r k m f = absurd cc
scoped_join (sets h s) c r k m f = absurd cc
scoped_join (shows h s) c r k m f = absurd cc
scoped_join (asks h s) c r k m f = absurd cc
scoped_join (tests h s t) c r k m f = absurd cc
scoped_join (calls h a b d s) c r k m f = absurd cc
scoped_join (ends h) c r k m f = absurd cc

pub channel_distinct : (e : Endpoints) (c : NameId) (k : Channel) → IsFaultless e → channel_of e.channels c ≡ Some k → AreDistinct k.active
channel_distinct e c k f h = distinct_front k.active k.serve (channel_has (λ (x : Channel). AreDistinct (x.active ++ x.serve)) e.channels c k f.names.roles h)

pub joiners_alone : (e : Endpoints) (n : NetworkState) (c : NameId) (s : ℕ) (ps : List (NameId × ℕ)) → joiners e n c s ps ≡ joiners e (machines_alone n.machines) c s ps
joiners_alone e n c s [] = refl
joiners_alone e n c s (q ∷ ps) = ap (one_joiner q.1 (net.joins e (slice_get n.machines q.1) c q.0 s)) (joiners_alone e n c s ps)

some_part : {e : Endpoints} {ms : List Machine} {c : NameId} {p : ℕ} {own : NameId} {rs : List NameId} {ps : List (NameId × ℕ)} → IsCast e ms c p own rs ps → (r : NameId) → is_among r rs ≡ true → (n : NetworkState) (k : Channel) → starts_with e n c k (Some ps) ≡ begun e n c k ps (joiners e n c n.sid ps)
some_part no_role r h n k = absurd cc
some_part (one_role a b) r h n k = refl

-- a channel is found by its name
pub channel_named : (ks : List Channel) (c : NameId) (k : Channel) → channel_of ks c ≡ Some k → k.name ≡ c
channel_named [] c k h = absurd cc
channel_named (x ∷ ks) c k h = go (x.name.0 == c.0) refl (channel_named ks c k)
  where
    go : (b : Bool) → (x.name.0 == c.0) ≡ b → (channel_of ks c ≡ Some k → k.name ≡ c) → k.name ≡ c
    go true e more =
        let a : Some x ≡ Some k = sym (ap (λ (b : Bool). cond b (Some x) (channel_of ks c)) e) ∙ h in
        let same : x ≡ k = cc in
        ap (λ (y : Channel). y.name) (sym same) ∙ name_same x.name c e
    go false e more = more (sym (ap (λ (b : Bool). cond b (Some x) (channel_of ks c)) e) ∙ h)

-- the state after a start of channel c
abbrev started_with : NetworkState → NameId → List (NameId × ℕ) → List Machine → Made
started_with n c ps ms = Makes (event.Start c n.sid ps) (record n { machines = ms; sid = suc n.sid })

-- a start by the least partners is the choice of the process that makes it
pub begins : (e : Endpoints) (hosts : Hosts) (cap : Option ℕ) (n : NetworkState) (p : ℕ) (c own l : NameId) (next : CodeId) (k : Channel) (ps : List (NameId × ℕ)) (ms : List Machine) → Stands e n p (Join c own l next) → channel_of e.channels c ≡ Some k → IsCast e n.machines c p own k.active ps → HasStarted e k n.sid n.machines ps ms
    → Chooses e hosts cap n p (event.Start k.name n.sid (ps ++ served_parts k.serve (length n.machines))) (record n { machines = ms; sid = suc n.sid })
begins e hosts cap n p c own l next k ps ms s found cast h =
    let active = scoped_join s.at_node.bound.scoped c own l next s.at_node.found in
    let same : active.0 ≡ k = (let a : Some active.0 ≡ Some k = sym active.1 ∙ found in cc) in
    let among : is_among own k.active ≡ true = subst (λ (x : Channel). is_among own x.active ≡ true) same active.2 in
    let named : k.name ≡ c = channel_named e.channels c k found in
    let j : Joined e c n.sid n.machines ps h.joined = subst (λ (x : NameId). Joined e x n.sid n.machines ps h.joined) named h.joins in
    let all = ps ++ served_parts k.serve (length n.machines) in
    record {
      answer = pos 0;
      allowed =
          subst (λ (o : Option Machine). MachineAnswers hosts e o (pos 0)) (sym s.there)
          (subst (λ (o : Option Place). PlaceAnswers hosts s.machine.vars o (pos 0)) (sym s.at_node.place) tt);
      made =
          ap (λ (o : Option Machine). chosen_at e cap n p (pos 0) (place_at e o)) s.there
          ∙ ap (chosen_at e cap n p (pos 0)) s.at_node.place
          ∙ ap (started_on e n p c own) found
          ∙ ap (started e n c) (cast_partners cast)
          ∙ ap (channel_starts e n c (map (λ q. q.1) ps)) found
          ∙ ap (starts_with e n c k) (cast_paired cast)
          ∙ some_part cast own among n k
          ∙ ap (begun e n c k ps) (joiners_alone e n c n.sid ps ∙ j.all)
          ∙ ap (λ (ns : List Machine). Some (started_with n c all (ns ++ served e c n.sid k.serve))) j.placed
          ∙ ap (λ (x : NameId). Some (started_with n x all (h.joined ++ served e x n.sid k.serve))) (sym named)
          ∙ ap (λ (ns : List Machine). Some (started_with n k.name all ns)) (sym h.serves);
    }

join_shape : (m : Sessions) (node : CodeNode) (y z : NameId) → node_head m node ≡ Some (head.Join y z) → (k : NameId) × (next : CodeId) × (node ≡ Join y z k next)
join_shape m (Join c r k next) y z i = (k, next, cc)
join_shape m (Send k b x next) y z i = let no : false ≡ true = out_same is_joining_head false (λ s a z. refl) (fin.get m k.0) b (head.Join y z) i in absurd cc
join_shape m (Recv k a x next) y z i = let no : false ≡ true = take_same is_joining_head false (λ s z w. refl) (fin.get m k.0) a (head.Join y z) i in absurd cc
join_shape m (Pick k b l next) y z i = let no : false ≡ true = out_same is_joining_head false (λ s a z. refl) (fin.get m k.0) b (head.Join y z) i in absurd cc
join_shape m (Branch k a arms) y z i = let no : false ≡ true = take_same is_joining_head false (λ s z w. refl) (fin.get m k.0) a (head.Join y z) i in absurd cc
join_shape m (Throw k b g next) y z i = let no : false ≡ true = out_same is_joining_head false (λ s a z. refl) (fin.get m k.0) b (head.Join y z) i in absurd cc
join_shape m (Catch k a g next) y z i = let no : false ≡ true = take_same is_joining_head false (λ s z w. refl) (fin.get m k.0) a (head.Join y z) i in absurd cc
join_shape m (Set x w next) y z i = absurd cc
join_shape m (Show w next) y z i = absurd cc
join_shape m (Host x f u w next) y z i = absurd cc
join_shape m (If w c d) y z i = absurd cc
join_shape m (Call f o ns) y z i = absurd cc
join_shape m End y z i = absurd cc

-- a process whose next action is a join stands at one
pub join_stands : (e : Endpoints) (n : NetworkState) (p : ℕ) (c r : NameId) → Shows e n p (head.Join c r) → (k : NameId) × (next : CodeId) × Stands e n p (Join c r k next)
join_stands e n p c r t =
    let shape = join_shape t.stands.sessions t.node c r t.head in
    (shape.0, shape.1, subst (Stands e n p) shape.2 t.stands)

-- its channel is there
pub join_channel : (e : Endpoints) (n : NetworkState) (p : ℕ) (c r : NameId) → Shows e n p (head.Join c r) → IsActive e c r
join_channel e n p c r t =
    let s = join_stands e n p c r t in
    scoped_join s.2.at_node.bound.scoped c r s.0 s.1 s.2.at_node.found
