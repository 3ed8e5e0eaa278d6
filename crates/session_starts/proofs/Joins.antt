-- Starts of sessions.
use Rattle.std.proofs.Common.{◌≡◌, ℕ, zero, suc, ◌+◌, ◌<◌, ◌≤◌, ◌==◌, true, List, [], ◌∷◌, length, get_or, drop, take, refl, sym, ap, ◌∙◌, subst, Option, Some, None, arith}
use Rattle.std.specs.Prelude.{slice_get, slice_set, map, All, ◌≢◌}
use Rattle.std.proofs.lemmas.List.{drop_more, drop_all, map-set, length-map}
use Rattle.std.proofs.lemmas.Option.{slice_get_within}
use Rattle.std.proofs.lemmas.List.Elements.{All-set, All-head, All-tail, All-more, All-weaker}
use Rattle.std.proofs.lemmas.Bool.{and_parts}
use Rattle.chor_base.proofs.Lists.{get_set_other}
use Rattle.chor_base.specs.declared.names.NameId.{NameId}
use Rattle.endpoint_code.specs.declared.code.CodeNode.{CodeNode}
use Rattle.endpoint_code.specs.declared.code.CodeNode.TheVariants.{Join, Send, Recv, Pick, Branch, Throw, Catch, Set, Show, Host, If, Call, End}
use Rattle.endpoint_code.specs.declared.endpoints.Endpoints.{Endpoints}
use Rattle.endpoint_code.specs.Network.{Machine, NetworkState, Sessions, Place, node_at, place_of, place_in, place_at, node_joins, place_joins, joiners, one_joiner, with_machines}
use Rattle.endpoint_code.specs.Network as net
use Rattle.endpoint_code.specs.NetworkRuns.{joins_there}
use Rattle.session_starts.specs.Machines.{standing_of, is_reserved}
use Rattle.endpoint_machine.specs.declared.head.Head.TheVariants as head
use Rattle.endpoint_machine.specs.Bound.{IsBound}
use Rattle.endpoint_machine.specs.Heads.{place_head, head_of, is_join}
use Rattle.endpoint_machine.specs.Steps.{HasJoined}
use Rattle.endpoint_machine.specs.Views.{MachineView}
use Rattle.session_starts.specs.Starts.{AllJoin, AreApart, one_part, reserved_of, reserved_in, machines_alone, Joined, JoinsOne}
use Rattle.endpoint_machine.proofs.Actings.{all_at}
use Rattle.session_starts.proofs.Places.{name_same}

pub room_within : (e : Endpoints) (ms : List MachineView) (p : ℕ) → reserved_in e ms p ≡ true → p < length ms
room_within e [] p h = absurd cc
room_within e (m ∷ ms) zero h = omega arith
room_within e (m ∷ ms) (suc p) h = let k = room_within e ms p h in omega arith

joins_within : (e : Endpoints) (ms : List Machine) (c r : NameId) (q : ℕ) → joins_there (place_at e (slice_get ms q)) c r ≡ true → q < length ms
joins_within e ms c r q h = go (slice_get ms q) refl h
  where
    go : (o : Option Machine) → slice_get ms q ≡ o → joins_there (place_at e o) c r ≡ true → q < length ms
    go None a k = absurd cc
    go (Some m) a k = slice_get_within ms q m a

-- who joins is there
pub all_within : (e : Endpoints) (ms : List MachineView) (c : NameId) (ps qs : List (NameId × ℕ)) → qs ≡ ps → AllJoin e (map standing_of ms) c ps → All (λ q. q.1 < length ms) qs
all_within e ms c ps qs same all =
    subst (All (λ q. q.1 < length ms)) (sym same)
    (All-weaker (λ (q : NameId × ℕ). joins_there (place_at e (slice_get (map standing_of ms) q.1)) c q.0 ≡ true) (λ (q : NameId × ℕ). q.1 < length ms)
    (λ q h. let k = joins_within e (map standing_of ms) c q.0 q.1 h in let l = length-map ms standing_of in omega arith) ps all)

runner_in : (ms : List MachineView) (p : ℕ) (d : MachineView) → p < length ms → slice_get (map standing_of ms) p ≡ Some (standing_of (get_or ms p d))
runner_in [] p d lt = absurd (omega arith)
runner_in (m ∷ ms) zero d lt = refl
runner_in (m ∷ ms) (suc p) d lt = runner_in ms p d (omega arith)

pub reserved_here : (e : Endpoints) (ms : List MachineView) (p : ℕ) (d : MachineView) → reserved_in e ms p ≡ true → is_reserved e (get_or ms p d) ≡ true
reserved_here e [] p d h = absurd cc
reserved_here e (m ∷ ms) zero d h = h
reserved_here e (m ∷ ms) (suc p) d h = reserved_here e ms p d h

-- a process at a place where it joins a channel in a role has that head
pub joining_place : (o : Option Place) (c r : NameId) → joins_there o c r ≡ true → place_head o ≡ Some (head.Join c r)
joining_place None c r h = absurd cc
joining_place (Some q) c r h = go q.node h
  where
    go : (node : CodeNode) → joins_there (Some (record { node = node; sessions = q.sessions })) c r ≡ true → place_head (Some (record { node = node; sessions = q.sessions })) ≡ Some (head.Join c r)
    go (Join d o k next) h =
        let parts = and_parts (d.0 == c.0) (o.0 == r.0) h in
        ap (λ (x : NameId). Some (head.Join x o)) (name_same d c parts.0) ∙ ap (λ (x : NameId). Some (head.Join c x)) (name_same o r parts.1)
    go (Send k b x next) h = absurd cc
    go (Recv k a x next) h = absurd cc
    go (Pick k b l next) h = absurd cc
    go (Branch k a arms) h = absurd cc
    go (Throw k b g next) h = absurd cc
    go (Catch k a g next) h = absurd cc
    go (Set x v next) h = absurd cc
    go (Show v next) h = absurd cc
    go (Host x f v w next) h = absurd cc
    go (If v t u) h = absurd cc
    go (Call f o ss) h = absurd cc
    go End h = absurd cc

pub joins_here : (e : Endpoints) (ms : List MachineView) (p : ℕ) (d : MachineView) (c r : NameId) → p < length ms → joins_there (place_at e (slice_get (map standing_of ms) p)) c r ≡ true → is_join (head_of e (standing_of (get_or ms p d))) ≡ true
joins_here e ms p d c r lt h = ap is_join (joining_place (place_of e (standing_of (get_or ms p d))) c r (subst (λ (o : Option Machine). joins_there (place_at e o) c r ≡ true) (runner_in ms p d lt) h))

pub joining_head : (e : Endpoints) (ms : List MachineView) (p : ℕ) (d : MachineView) (c r : NameId) → p < length ms → joins_there (place_at e (slice_get (map standing_of ms) p)) c r ≡ true → head_of e (get_or ms p d).machine ≡ Some (head.Join c r)
joining_head e ms p d c r lt h = joining_place (place_at e (Some (get_or ms p d).machine)) c r (sym (ap (λ (o : Option Machine). joins_there (place_at e o) c r) (runner_in ms p d lt)) ∙ h)

pub bound_here : (e : Endpoints) (ms : List MachineView) (p : ℕ) (d : MachineView) → All (IsBound e) (map standing_of ms) → p < length ms → IsBound e (get_or ms p d).machine
bound_here e ms p d all lt = all_at (IsBound e) (map standing_of ms) p (standing_of (get_or ms p d)) all (runner_in ms p d lt)

pub one_joins : (e : Endpoints) (ms : List MachineView) (p : ℕ) (d n : MachineView) (c r : NameId) (s : ℕ) → p < length ms → joins_there (place_at e (slice_get (map standing_of ms) p)) c r ≡ true → HasJoined e s (get_or ms p d).machine n.machine → JoinsOne e c r s p ms (slice_set ms p n)
one_joins e ms p d n c r s lt h joined = record {
  machine = n;
  joined = ap (λ (o : Option Machine). net.joins e o c r s) (runner_in ms p d lt) ∙ joined c r (joining_head e ms p d c r lt h);
  put = refl;
}

pub one_bound : (e : Endpoints) (ms : List MachineView) (p : ℕ) (n : MachineView) → All (IsBound e) (map standing_of ms) → IsBound e n.machine → All (IsBound e) (map standing_of (slice_set ms p n))
one_bound e ms p n all bound = subst (All (IsBound e)) (sym (map-set standing_of ms p n)) (All-set (IsBound e) (map standing_of ms) p (standing_of n) bound all)

-- ---- all processes of a start

-- joiners are read alike where one process that isn't among them has changed
joiners_apart : (e : Endpoints) (ms : List Machine) (c : NameId) (s p : ℕ) (m : Machine) (qs : List (NameId × ℕ)) → All (λ q. q.1 ≢ p) qs → joiners e (machines_alone (slice_set ms p m)) c s qs ≡ joiners e (machines_alone ms) c s qs
joiners_apart e ms c s p m [] h = refl
joiners_apart e ms c s p m (q ∷ qs) h =
    ap (λ (o : Option Machine). one_joiner q.1 (net.joins e o c q.0 s) (joiners e (machines_alone (slice_set ms p m)) c s qs)) (get_set_other ms p q.1 m (All-head (λ (q : NameId × ℕ). q.1 ≢ p) q qs h))
    ∙ ap (one_joiner q.1 (net.joins e (slice_get ms q.1) c q.0 s)) (joiners_apart e ms c s p m qs (All-tail (λ (q : NameId × ℕ). q.1 ≢ p) q qs h))

pub apart_head : (x : NameId × ℕ) (xs : List (NameId × ℕ)) → AreApart (x ∷ xs) → All (λ q. q.1 ≢ x.1) xs
apart_head x xs (one_part a b) = a

pub apart_tail : (x : NameId × ℕ) (xs : List (NameId × ℕ)) → AreApart (x ∷ xs) → AreApart xs
apart_tail x xs (one_part a b) = b

-- one process joins, and then the others
joined_more : (e : Endpoints) (c : NameId) (s : ℕ) (old new : List MachineView) (q : NameId × ℕ) (qs : List (NameId × ℕ)) (last : List Machine) → JoinsOne e c q.0 s q.1 old new → All (λ x. x.1 ≢ q.1) qs → Joined e c s (map standing_of new) qs last → Joined e c s (map standing_of old) (q ∷ qs) last
joined_more e c s old new q qs last one others rest =
    let same : map standing_of new ≡ slice_set (map standing_of old) q.1 (standing_of one.machine) = ap (map standing_of) one.put ∙ map-set standing_of old q.1 one.machine in
    let r : Joined e c s (slice_set (map standing_of old) q.1 (standing_of one.machine)) qs last = subst (λ (ms : List Machine). Joined e c s ms qs last) same rest in
    record {
      joining = (q.1, standing_of one.machine) ∷ r.joining;
      all =
          ap (λ (o : Option Machine). one_joiner q.1 o (joiners e (machines_alone (map standing_of old)) c s qs)) one.joined
          ∙ ap (one_joiner q.1 (Some (standing_of one.machine))) (sym (joiners_apart e (map standing_of old) c s q.1 (standing_of one.machine) qs others) ∙ r.all);
      placed = r.placed;
    }

joins_still : (e : Endpoints) (c : NameId) (old : List Machine) (p : ℕ) (m : Machine) (qs : List (NameId × ℕ)) → All (λ q. q.1 ≢ p) qs → AllJoin e old c qs → AllJoin e (slice_set old p m) c qs
joins_still e c old p m qs others all k d lt =
    ap (λ (o : Option Machine). joins_there (place_at e o) c (get_or qs k d).0) (get_set_other old p (get_or qs k d).1 m (others k d lt)) ∙ all k d lt

room_still : (e : Endpoints) (old : List MachineView) (p : ℕ) (m : MachineView) (qs : List (NameId × ℕ)) → All (λ q. q.1 ≢ p) qs → All (λ q. reserved_in e old q.1 ≡ true) qs → All (λ q. reserved_in e (slice_set old p m) q.1 ≡ true) qs
room_still e old p m qs others all k d lt =
    subst (λ (o : Option MachineView). reserved_of e o ≡ true) (sym (get_set_other old p (get_or qs k d).1 m (others k d lt))) (all k d lt)

-- what holds before each turn of the loop over the parts
pub record ToJoin (e : Endpoints) (c : NameId) (s : ℕ) (first : List Machine) (parts : List (NameId × ℕ)) (ms : List MachineView) (left : List (NameId × ℕ)) : Type 0 where
  pub joins : AllJoin e (map standing_of ms) c left
  pub room : All (λ q. reserved_in e ms q.1 ≡ true) left
  pub apart : AreApart left
  pub goes : (last : List Machine) → Joined e c s (map standing_of ms) left last → Joined e c s first parts last

pub to_join_more : (e : Endpoints) (c : NameId) (s : ℕ) (first : List Machine) (parts : List (NameId × ℕ)) (old new : List MachineView) (i : ℕ) (d : NameId × ℕ) → i < length parts → ToJoin e c s first parts old (drop i parts) → JoinsOne e c (get_or parts i d).0 s (get_or parts i d).1 old new → ToJoin e c s first parts new (drop (i + 1) parts)
to_join_more e c s first parts old new i d lt t one =
    let q = get_or parts i d in
    let qs = drop (i + 1) parts in
    let here : ToJoin e c s first parts old (q ∷ qs) = subst (ToJoin e c s first parts old) (drop_more parts i d lt) t in
    let others = apart_head q qs here.apart in
    let same : map standing_of new ≡ slice_set (map standing_of old) q.1 (standing_of one.machine) = ap (map standing_of) one.put ∙ map-set standing_of old q.1 one.machine in
    record {
      joins =
          subst (λ (ms : List Machine). AllJoin e ms c qs) (sym same)
          (joins_still e c (map standing_of old) q.1 (standing_of one.machine) qs others (All-tail (λ (x : NameId × ℕ). joins_there (place_at e (slice_get (map standing_of old) x.1)) c x.0 ≡ true) q qs here.joins));
      room =
          subst (λ (ms : List MachineView). All (λ (x : NameId × ℕ). reserved_in e ms x.1 ≡ true) qs) (sym one.put)
          (room_still e old q.1 one.machine qs others (All-tail (λ (x : NameId × ℕ). reserved_in e old x.1 ≡ true) q qs here.room));
      apart = apart_tail q qs here.apart;
      goes = λ last j. here.goes last (joined_more e c s old new q qs last one others j);
    }

pub to_join_here : (e : Endpoints) (c : NameId) (s : ℕ) (first : List Machine) (parts : List (NameId × ℕ)) (ms : List MachineView) (i : ℕ) (d : NameId × ℕ) → i < length parts → ToJoin e c s first parts ms (drop i parts) → (joins_there (place_at e (slice_get (map standing_of ms) (get_or parts i d).1)) c (get_or parts i d).0 ≡ true) × (reserved_in e ms (get_or parts i d).1 ≡ true)
to_join_here e c s first parts ms i d lt t =
    let q = get_or parts i d in
    let qs = drop (i + 1) parts in
    let here : ToJoin e c s first parts ms (q ∷ qs) = subst (ToJoin e c s first parts ms) (drop_more parts i d lt) t in
    (All-head (λ (x : NameId × ℕ). joins_there (place_at e (slice_get (map standing_of ms) x.1)) c x.0 ≡ true) q qs here.joins, All-head (λ (x : NameId × ℕ). reserved_in e ms x.1 ≡ true) q qs here.room)

pub to_join_all : (e : Endpoints) (c : NameId) (s : ℕ) (first : List Machine) (parts : List (NameId × ℕ)) (ms : List MachineView) (i : ℕ) → length parts ≤ i → ToJoin e c s first parts ms (drop i parts) → Joined e c s first parts (map standing_of ms)
to_join_all e c s first parts ms i le t =
    let here : ToJoin e c s first parts ms [] = subst (ToJoin e c s first parts ms) (drop_all i parts le) t in
    here.goes (map standing_of ms) (record { joining = []; all = refl; placed = refl })

pub reserved_put : (e : Endpoints) (ms : List MachineView) (p : ℕ) (m : MachineView) → p < length ms → is_reserved e m ≡ true → reserved_in e (slice_set ms p m) p ≡ true
reserved_put e [] p m lt h = absurd (omega arith)
reserved_put e (x ∷ ms) zero m lt h = h
reserved_put e (x ∷ ms) (suc p) m lt h = reserved_put e ms p m (omega arith) h

-- a list stays where an item is put that a function takes alike
pub mapped_get : {Y : Type 0} (f : MachineView → Y) (ms : List MachineView) (p : ℕ) (d n : MachineView) → p < length ms → f n ≡ f (get_or ms p d) → map f (slice_set ms p n) ≡ map f ms
mapped_get f [] p d n lt same = absurd (omega arith)
mapped_get f (z ∷ ms) zero d n lt same = ap (λ s. s ∷ map f ms) same
mapped_get f (z ∷ ms) (suc p) d n lt same = ap (λ r. f z ∷ r) (mapped_get f ms p d n (omega arith) same)

pub reserved_stays : (e : Endpoints) (ms : List MachineView) (p : ℕ) (d n : MachineView) (q : ℕ) → p < length ms → (is_reserved e (get_or ms p d) ≡ true → is_reserved e n ≡ true) → reserved_in e ms q ≡ true → reserved_in e (slice_set ms p n) q ≡ true
reserved_stays e [] p d n q lt h r = absurd (omega arith)
reserved_stays e (x ∷ ms) zero d n zero lt h r = h r
reserved_stays e (x ∷ ms) zero d n (suc q) lt h r = r
reserved_stays e (x ∷ ms) (suc p) d n zero lt h r = r
reserved_stays e (x ∷ ms) (suc p) d n (suc q) lt h r = reserved_stays e ms p d n q (omega arith) h r

-- one part more has room
pub room_taken : (e : Endpoints) (ms ns : List MachineView) (parts : List (NameId × ℕ)) (i : ℕ) (d : NameId × ℕ) → i < length parts → ((q : ℕ) → reserved_in e ms q ≡ true → reserved_in e ns q ≡ true) → reserved_in e ns (get_or parts i d).1 ≡ true → All (λ q. reserved_in e ms q.1 ≡ true) (take i parts) → All (λ q. reserved_in e ns q.1 ≡ true) (take (i + 1) parts)
room_taken e ms ns parts i d lt more here all =
    All-more (λ (q : NameId × ℕ). reserved_in e ns q.1 ≡ true) parts i d lt
    (All-weaker (λ (q : NameId × ℕ). reserved_in e ms q.1 ≡ true) (λ (q : NameId × ℕ). reserved_in e ns q.1 ≡ true) (λ q h. more q.1 h) (take i parts) all)
    here
