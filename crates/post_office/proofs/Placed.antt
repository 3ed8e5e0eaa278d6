-- What the names of a process stand for where it is, and what its steps do to the holders of roles.
use Rattle.std.proofs.Common.{◌≡◌, ℕ, true, List, refl, sym, ap, subst, Option, Some, None, ℤ}
use Rattle.std.specs.Prelude.{slice_get, All}
use Rattle.std.specs.FinMap as fin
use Rattle.std.proofs.lemmas.Option.{get_or_from_slice_get, slice_get_within}
use Rattle.chor_base.specs.declared.names.NameId.{NameId}
use Rattle.chor_base.specs.declared.event.Event.{Event}
use Rattle.endpoint_code.specs.declared.code.CodeId.{CodeId}
use Rattle.endpoint_code.specs.declared.code.CodeNode.{CodeNode}
use Rattle.endpoint_code.specs.declared.code.CodeNode.TheVariants.{Join, Send, Recv, Pick, Branch, Throw, Catch, Set, Show, Host, If, Call, End}
use Rattle.endpoint_code.specs.declared.endpoints.Procedure.{Procedure}
use Rattle.endpoint_code.specs.declared.endpoints.Endpoints.{Endpoints}
use Rattle.endpoint_code.specs.Kept.{node_there, has_name, has_text}
use Rattle.endpoint_code.specs.Faults as scope
use Rattle.endpoint_code.specs.Faults.{IsScoped, AreDistinct, no_name, one_more, is_among, HasNoNameFault, IsFaultless}
use Rattle.endpoint_code.specs.Network.{Sessions, Machine, NetworkState, Place, Makes, node_at, at_node, procedure_of, body_place, place_in, place_of, passed, place_makes, machine_makes, makes}
use Rattle.post_office.proofs.Scoped.{IsSomewhere, is_placed}
use Rattle.post_office.proofs.Reached.{AreSomewhere}
use Rattle.post_office.proofs.Held.{AreOnce, AreFrom, passed_from, passed_once, once_in}
use Rattle.post_office.proofs.Sound.{IsSound, node_sound}

-- ---- places

-- the sessions passed at a call stand once
call_distinct : {e : Endpoints} {id : CodeId} {bs : List NameId} → IsScoped e id bs → (f p : NameId) (ss : List NameId) → node_at e id ≡ Some (Call f p ss) → AreDistinct ss
call_distinct (scope.joins h a u s) f p ss m = absurd cc
call_distinct (scope.sends h a s) f p ss m = absurd cc
call_distinct (scope.receives h a s) f p ss m = absurd cc
call_distinct (scope.picks h a s) f p ss m = absurd cc
call_distinct (scope.offers h a d s) f p ss m = absurd cc
call_distinct (scope.gives h a b s) f p ss m = absurd cc
call_distinct (scope.gains h a b s) f p ss m = absurd cc
call_distinct (scope.sets h s) f p ss m = absurd cc
call_distinct (scope.shows h s) f p ss m = absurd cc
call_distinct (scope.asks h s) f p ss m = absurd cc
call_distinct (scope.tests h s t) f p ss m = absurd cc
call_distinct (scope.calls {ss = ts} h a b c d) f p ss m = (let is : ts ≡ ss = cc in subst AreDistinct is d)
call_distinct (scope.ends h) f p ss m = absurd cc

same_from : (ss ts : Sessions) → ts ≡ ss → AreFrom ss ts
same_from ss ts is k v h = (k, subst (λ (m : Sessions). fin.get m k ≡ Some v) (sym is) h)

-- what a process's names stand for where it is
pub place_names : (e : Endpoints) (id : CodeId) (m : Sessions) (q : Place) → IsSomewhere e id → AreOnce m → place_in e (node_at e id) m ≡ Some q → AreFrom q.sessions m × AreOnce q.sessions
place_names e id m q somewhere once h = go (node_at e id) refl h
  where
    same : (node : CodeNode) (ts : Sessions) → at_node (Some node) ts ≡ Some q → ts ≡ q.sessions
    same node ts i = (let place : Place = record { node = node; sessions = ts } in let j : place ≡ q = cc in ap (λ (w : Place). w.sessions) j)

    stays : (node : CodeNode) → at_node (Some node) m ≡ Some q → AreFrom q.sessions m × AreOnce q.sessions
    stays node i = (same_from q.sessions m (same node m i), subst AreOnce (same node m i) once)

    in_body : (ss : List NameId) → AreDistinct ss → (o : Option Procedure) → body_place e o ss m ≡ Some q → AreFrom q.sessions m × AreOnce q.sessions
    in_body ss d None i = absurd cc
    in_body ss d (Some r) i = at_body (node_at e r.body) i
      where
        at_body : (o : Option CodeNode) → at_node o (passed r.sessions ss m) ≡ Some q → AreFrom q.sessions m × AreOnce q.sessions
        at_body None j = absurd cc
        at_body (Some node) j =
            let is = same node (passed r.sessions ss m) j in
            (subst (λ (w : Sessions). AreFrom w m) is (passed_from r.sessions ss m), subst AreOnce is (passed_once r.sessions ss m d once))

    go : (o : Option CodeNode) → node_at e id ≡ o → place_in e o m ≡ Some q → AreFrom q.sessions m × AreOnce q.sessions
    go None f i = absurd cc
    go (Some (Call g p ss)) f i = in_body ss (call_distinct somewhere.1 g p ss f) (procedure_of e.procedures g p) i
    go (Some (Join c r k a)) f i = stays (Join c r k a) i
    go (Some (Send k c x a)) f i = stays (Send k c x a) i
    go (Some (Recv k c x a)) f i = stays (Recv k c x a) i
    go (Some (Pick k c l a)) f i = stays (Pick k c l a) i
    go (Some (Branch k c arms)) f i = stays (Branch k c arms) i
    go (Some (Throw k c g a)) f i = stays (Throw k c g a) i
    go (Some (Catch k c g a)) f i = stays (Catch k c g a) i
    go (Some (Set x v a)) f i = stays (Set x v a) i
    go (Some (Show v a)) f i = stays (Show v a) i
    go (Some (Host x g v w a)) f i = stays (Host x g v w a) i
    go (Some (If v a c)) f i = stays (If v a c) i
    go (Some End) f i = stays End i

all_at : {X : Type 0} (P : X → Type 0) (xs : List X) (i : ℕ) (x : X) → All P xs → slice_get xs i ≡ Some x → P x
all_at P xs i x all h = subst P (get_or_from_slice_get xs i x x h) (all i x (slice_get_within xs i x h))

-- ---- a step of one process

pub acted_sound : (e : Endpoints) → IsFaultless e → (cap : Option ℕ) (n k : NetworkState) (p : ℕ) (v : ℤ) (x : Event) → AreSomewhere e n.machines → IsSound n → makes e cap n p v ≡ Some (Makes x k) → IsSound k
acted_sound e faultless cap n k p v x all sound h = at_machine (slice_get n.machines p) refl h
  where
    at_place : (w : Machine) → slice_get n.machines p ≡ Some w → (o : Option Place) → place_of e w ≡ o → place_makes cap n p v w.vars o ≡ Some (Makes x k) → IsSound k
    at_place w f None g i = absurd cc
    at_place w f (Some q) g i =
        let placed = is_placed e faultless.names w.at w.sessions q (all p w f) g in
        let names = place_names e w.at w.sessions q (all p w f) (once_in n p w sound.unique f) g in
        let kept : node_there (has_name e.names) (has_text e.texts) q.node ≡ true = all_at (λ (o : CodeNode). node_there (has_name e.names) (has_text e.texts) o ≡ true) e.code.nodes placed.id.0 q.node e.numbered.in_nodes placed.found in
        node_sound n p w f sound q.sessions names.0 names.1 cap v q.node (has_name e.names) (has_text e.texts) kept x k i

    at_machine : (o : Option Machine) → slice_get n.machines p ≡ o → machine_makes e cap n p v o ≡ Some (Makes x k) → IsSound k
    at_machine None f i = absurd cc
    at_machine (Some w) f i = at_place w f (place_of e w) refl i
