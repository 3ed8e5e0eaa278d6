-- What a process makes under a capacity.
use Rattle.std.proofs.Common.{sym, ◌≡◌, ℕ, ℤ, Bool, true, false, cond, refl, Option, Some, None}
use Rattle.std.specs.FinMap as fin
use Rattle.std.proofs.lemmas.Option.{none-some}
use Rattle.chor_base.specs.declared.names.NameId.{NameId}
use Rattle.chor_base.specs.declared.value.Load.{Load}
use Rattle.chor_base.specs.declared.event.Event.{Event}
use Rattle.chor_base.specs.declared.event.Why.TheVariants.{Full}
use Rattle.chor_base.specs.NameMap.{Variables}
use Rattle.endpoint_code.specs.declared.code.CodeId.{CodeId}
use Rattle.endpoint_code.specs.declared.code.CodeNode.{CodeNode}
use Rattle.endpoint_code.specs.declared.code.CodeNode.TheVariants.{Join, Send, Recv, Pick, Branch, Throw, Catch, Set, Show, Host, If, Call, End}
use Rattle.endpoint_code.specs.declared.endpoints.Endpoints.{Endpoints}
use Rattle.endpoint_code.specs.Network.{Sessions, Machine, NetworkState, Place, Makes, moved, queue_of, has_room, put_if, puts, part_load, node_makes, place_makes, machine_makes, place_of}
use Rattle.endpoint_code.specs.NetworkRuns.{waits_to_send, node_waits, place_waits, waits_for}

-- a process that doesn't wait to send sends as it does where there is no capacity
put_freely : (cap : Option ℕ) (n : NetworkState) (p : ℕ) (at : CodeId) (vars : Variables) (ss : Sessions) (b : NameId) (o : Option (ℕ × NameId)) (ol : Option Load) → waits_to_send cap n b o ≡ None
    → puts cap (moved n p at vars ss) p b o ol ≡ puts None (moved n p at vars ss) p b o ol
put_freely cap n p at vars ss b None ol h = refl
put_freely cap n p at vars ss b (Some (s, a)) None h = refl
put_freely cap n p at vars ss b (Some (s, a)) (Some l) h = go (has_room cap (queue_of n (s, a, b))) h
  where
    go : (r : Bool) → cond r None (Some (Full s a b)) ≡ None → put_if r (moved n p at vars ss) p (s, a, b) l ≡ put_if true (moved n p at vars ss) p (s, a, b) l
    go true i = refl
    go false i = absurd (none-some _ (sym i))

-- one that sends doesn't wait to
pub put_waits_not : (cap : Option ℕ) (n k : NetworkState) (x : Event) (p : ℕ) (at : CodeId) (vars : Variables) (ss : Sessions) (b : NameId) (o : Option (ℕ × NameId)) (ol : Option Load) → puts cap (moved n p at vars ss) p b o ol ≡ Some (Makes x k)
    → waits_to_send cap n b o ≡ None
put_waits_not cap n k x p at vars ss b None ol h = refl
put_waits_not cap n k x p at vars ss b (Some (s, a)) None h = absurd (none-some _ h)
put_waits_not cap n k x p at vars ss b (Some (s, a)) (Some l) h = go (has_room cap (queue_of n (s, a, b))) h
  where
    go : (r : Bool) → put_if r (moved n p at vars ss) p (s, a, b) l ≡ Some (Makes x k) → cond r None (Some (Full s a b)) ≡ None
    go true i = refl
    go false i = absurd (none-some _ i)

-- where a process waits for nothing, it makes at its node what it makes there without a capacity
pub node_freely : (e : Endpoints) (cap : Option ℕ) (n : NetworkState) (p : ℕ) (v : ℤ) (vars : Variables) (ss : Sessions) (node : CodeNode) → node_waits e cap n vars ss node ≡ None → node_makes cap n p v vars ss node ≡ node_makes None n p v vars ss node
node_freely e cap n p v vars ss (Send k b x next) h = put_freely cap n p next vars ss b (fin.get ss k.0) (Some _) h
node_freely e cap n p v vars ss (Pick k b l next) h = put_freely cap n p next vars ss b (fin.get ss k.0) (Some _) h
node_freely e cap n p v vars ss (Throw k b g next) h = put_freely cap n p next vars (fin.remove ss g.0) b (fin.get ss k.0) (part_load (fin.get ss g.0)) h
node_freely e cap n p v vars ss (Recv k a x next) h = refl
node_freely e cap n p v vars ss (Branch k a arms) h = refl
node_freely e cap n p v vars ss (Catch k a g next) h = refl
node_freely e cap n p v vars ss (Set x w next) h = refl
node_freely e cap n p v vars ss (Show w next) h = refl
node_freely e cap n p v vars ss (Host x f u w next) h = refl
node_freely e cap n p v vars ss (If w c d) h = refl
node_freely e cap n p v vars ss (Join c r k next) h = refl
node_freely e cap n p v vars ss (Call f q ks) h = refl
node_freely e cap n p v vars ss End h = refl

pub machine_freely : (e : Endpoints) (cap : Option ℕ) (n : NetworkState) (p : ℕ) (v : ℤ) (m : Machine) → waits_for e cap n m ≡ None → machine_makes e cap n p v (Some m) ≡ machine_makes e None n p v (Some m)
machine_freely e cap n p v m h = at_place (place_of e m) h
  where
    at_place : (o : Option Place) → place_waits e cap n m.vars o ≡ None → place_makes cap n p v m.vars o ≡ place_makes None n p v m.vars o
    at_place None i = refl
    at_place (Some q) i = node_freely e cap n p v m.vars q.sessions q.node i
