-- Where a process goes on, it knows its sessions.
use Rattle.std.proofs.Common.{◌≡◌, ℕ, ℤ, ◌&&◌, ◌==◌, Bool, true, false, cond, List, [], ◌∷◌, refl, sym, ap, ◌∙◌, subst, Option, Some, None}
use Rattle.std.specs.Prelude.{Contains, map}
use Rattle.std.specs.FinMap as fin
use Rattle.chor_base.proofs.Members.{at_head, at_tail}
use Rattle.chor_base.specs.declared.names.NameId.{NameId}
use Rattle.chor_base.specs.declared.value.Value.TheVariants.{Int, Bool as Truth, Text, Part as Endpoint}
use Rattle.chor_base.specs.declared.value.Load.{Load}
use Rattle.chor_base.specs.declared.value.Load.TheVariants.{Value as Carries, Label as Picks}
use Rattle.chor_base.specs.Expr.{term_of, value_of, truth_of}
use Rattle.chor_base.specs.NameMap.{Variables}
use Rattle.endpoint_code.specs.declared.code.CodeId.{CodeId}
use Rattle.endpoint_code.specs.declared.code.CodeNode.{CodeNode}
use Rattle.endpoint_code.specs.declared.code.CodeNode.TheVariants.{Join, Send, Recv, Pick, Branch, Throw, Catch, Set, Show, Host, If, Call, End}
use Rattle.endpoint_code.specs.declared.endpoints.Endpoints.{Endpoints}
use Rattle.endpoint_code.specs.Network.{Machine, Sessions, Taking, Goes, arm_at, in_arm, node_joins}
use Rattle.endpoint_code.specs.Code.{children_of}
use Rattle.endpoint_code.specs.Faults.{IsScoped, AllScoped, one_arm}
use Rattle.endpoint_code.specs.InBodies.{IsInBody, after_node}
use Rattle.endpoint_machine.specs.declared.head.Head.TheVariants as head
use Rattle.endpoint_machine.specs.Bound.{AreBound, IsBound}
use Rattle.endpoint_machine.specs.Heads.{node_head}
use Rattle.endpoint_machine.specs.Acts.{node_sent, node_takes, node_acted, joins}
use Rattle.endpoint_machine.specs.Places.{StandsAt}
use Rattle.endpoint_machine.proofs.Scopes.{NodeScoped, scoped_node, bound_put, bound_removed}

abbrev machine_there : Taking → Machine
machine_there (Goes next vars m) = record { at = next; vars = vars; sessions = m }

-- the nodes that follow one of a body
abbrev Follow : Endpoints → CodeNode → Type 0
Follow e o = (c : CodeId) → Contains (children_of o) c → IsInBody e c

follow : {e : Endpoints} {m : Machine} {node : CodeNode} {ss : Sessions} → StandsAt e m node ss → Follow e node
follow s c k = after_node s.bound.in_body s.found k

only : {e : Endpoints} (next : CodeId) → ((c : CodeId) → Contains (next ∷ []) c → IsInBody e c) → IsInBody e next
only next u = u next (at_head next [] next refl)

goes_on : {e : Endpoints} {names : List NameId} (next : CodeId) → IsInBody e next → (vars : Variables) (m : Sessions) → IsScoped e next names → AreBound m names → IsBound e (record { at = next; vars = vars; sessions = m })
goes_on {names} next i vars m s b = record { in_body = i; names = names; scoped = s; bound = b }

pub bound_sent : (e : Endpoints) (m : Machine) (node : CodeNode) (ss : Sessions) (new : Machine) → StandsAt e m node ss → node_sent m.vars ss node ≡ Some new → IsBound e new
bound_sent e m node ss new s sent = go node (follow s) (scoped_node s.bound.scoped node s.found) sent
  where
    becomes : (old : Machine) → IsBound e old → Some old ≡ Some new → IsBound e new
    becomes old b h = let same : old ≡ new = cc in subst (IsBound e) same b

    go : (o : CodeNode) → Follow e o → NodeScoped e o s.bound.names → node_sent m.vars ss o ≡ Some new → IsBound e new
    go (Send k b x next) u t h = becomes _ (goes_on next (only next u) m.vars ss t.1 s.bound.bound) h
    go (Pick k b l next) u t h = becomes _ (goes_on next (only next u) m.vars ss t.1 s.bound.bound) h
    go (Throw k b g next) u t h = becomes _ (goes_on next (only next u) m.vars (fin.remove ss g.0) t.2 (bound_removed ss s.bound.names g s.bound.bound)) h
    go (Recv k a x next) u t h = absurd cc
    go (Branch k a arms) u t h = absurd cc
    go (Catch k a g next) u t h = absurd cc
    go (Join c r k next) u t h = absurd cc
    go (Set x v next) u t h = absurd cc
    go (Show v next) u t h = absurd cc
    go (Host x f a b next) u t h = absurd cc
    go (If v a b) u t h = absurd cc
    go (Call f p ns) u t h = absurd cc
    go End u t h = absurd cc

scoped_arm : (e : Endpoints) (bs : List NameId) (arms : List (NameId × CodeId)) (l : NameId) (next : CodeId) → AllScoped e arms bs → arm_at arms l ≡ Some next → IsScoped e next bs
scoped_arm e bs [] l next all h = absurd cc
scoped_arm e bs ((k, c) ∷ arms) l next (one_arm s all) h = go (k.0 == l.0) h (λ i. scoped_arm e bs arms l next all i)
  where
    go : (t : Bool) → cond t (Some c) (arm_at arms l) ≡ Some next → (arm_at arms l ≡ Some next → IsScoped e next bs) → IsScoped e next bs
    go true i before = let same : c ≡ next = cc in subst (λ (d : CodeId). IsScoped e d bs) same s
    go false i before = before i

arm_there : (arms : List (NameId × CodeId)) (l : NameId) (next : CodeId) → arm_at arms l ≡ Some next → Contains (map (λ a. a.1) arms) next
arm_there [] l next h = absurd cc
arm_there ((k, c) ∷ arms) l next h = go (k.0 == l.0) h (λ i. arm_there arms l next i)
  where
    go : (t : Bool) → cond t (Some c) (arm_at arms l) ≡ Some next → (arm_at arms l ≡ Some next → Contains (map (λ a. a.1) arms) next) → Contains (c ∷ map (λ a. a.1) arms) next
    go true i before = let same : c ≡ next = cc in at_head c (map (λ a. a.1) arms) next same
    go false i before = at_tail c (map (λ a. a.1) arms) next (before i)

pub bound_taken : (e : Endpoints) (m : Machine) (node : CodeNode) (ss : Sessions) (l : Load) (at : CodeId) (vars : Variables) (sessions : Sessions) → StandsAt e m node ss → node_takes m.vars ss node l ≡ Some (Goes at vars sessions) → IsBound e (record { at = at; vars = vars; sessions = sessions })
bound_taken e m node ss l at vars sessions s taken = go node l (follow s) (scoped_node s.bound.scoped node s.found) taken
  where
    becomes : (t : Taking) → IsBound e (machine_there t) → Some t ≡ Some (Goes at vars sessions) → IsBound e (record { at = at; vars = vars; sessions = sessions })
    becomes t b h = let same : t ≡ Goes at vars sessions = cc in subst (IsBound e) (ap machine_there same) b

    arm : (arms : List (NameId × CodeId)) (k : NameId) (o : Option CodeId) → arm_at arms k ≡ o → ((c : CodeId) → Contains (map (λ a. a.1) arms) c → IsInBody e c) → AllScoped e arms s.bound.names → in_arm o m.vars ss ≡ Some (Goes at vars sessions) → IsBound e (record { at = at; vars = vars; sessions = sessions })
    arm arms k None i u all h = absurd cc
    arm arms k (Some next) i u all h = becomes _ (goes_on next (u next (arm_there arms k next i)) m.vars ss (scoped_arm e s.bound.names arms k next all i) s.bound.bound) h

    go : (o : CodeNode) (l : Load) → Follow e o → NodeScoped e o s.bound.names → node_takes m.vars ss o l ≡ Some (Goes at vars sessions) → IsBound e (record { at = at; vars = vars; sessions = sessions })
    go (Recv k a x next) (Carries (Int z)) u t h = becomes _ (goes_on next (only next u) (fin.insert m.vars x.0 (Int z)) ss t.1 s.bound.bound) h
    go (Recv k a x next) (Carries (Truth b)) u t h = becomes _ (goes_on next (only next u) (fin.insert m.vars x.0 (Truth b)) ss t.1 s.bound.bound) h
    go (Recv k a x next) (Carries (Text w)) u t h = becomes _ (goes_on next (only next u) (fin.insert m.vars x.0 (Text w)) ss t.1 s.bound.bound) h
    go (Recv k a x next) (Carries (Endpoint i r)) u t h = absurd cc
    go (Recv k a x next) (Picks j) u t h = absurd cc
    go (Branch k a arms) (Carries w) u t h = absurd cc
    go (Branch k a arms) (Picks j) u t h = arm arms j (arm_at arms j) refl u t.1 h
    go (Catch k a g next) (Carries (Int z)) u t h = absurd cc
    go (Catch k a g next) (Carries (Truth b)) u t h = absurd cc
    go (Catch k a g next) (Carries (Text w)) u t h = absurd cc
    go (Catch k a g next) (Carries (Endpoint i r)) u t h = becomes _ (goes_on next (only next u) m.vars (fin.insert ss g.0 (i, r)) t.1 (bound_put ss s.bound.names g (i, r) s.bound.bound)) h
    go (Catch k a g next) (Picks j) u t h = absurd cc
    go (Send k b x next) l u t h = absurd cc
    go (Pick k b j next) l u t h = absurd cc
    go (Throw k b g next) l u t h = absurd cc
    go (Join c r k next) l u t h = absurd cc
    go (Set x v next) l u t h = absurd cc
    go (Show v next) l u t h = absurd cc
    go (Host x f a b next) l u t h = absurd cc
    go (If v a b) l u t h = absurd cc
    go (Call f p ns) l u t h = absurd cc
    go End l u t h = absurd cc

pub bound_joined : (e : Endpoints) (m : Machine) (node : CodeNode) (ss : Sessions) (i : ℕ) (new : Machine) → StandsAt e m node ss → joins node ≡ true → ((c r : NameId) → node_head ss node ≡ Some (head.Join c r) → node_joins node m.vars ss c r i ≡ Some new) → IsBound e new
bound_joined e m node ss i new s is joined = go node (follow s) (scoped_node s.bound.scoped node s.found) is joined
  where
    becomes : (old : Machine) (t : Bool) → IsBound e old → cond t (Some old) None ≡ Some new → IsBound e new
    becomes old true b h = let same : old ≡ new = cc in subst (IsBound e) same b
    becomes old false b h = absurd cc

    go : (o : CodeNode) → Follow e o → NodeScoped e o s.bound.names → joins o ≡ true → ((c r : NameId) → node_head ss o ≡ Some (head.Join c r) → node_joins o m.vars ss c r i ≡ Some new) → IsBound e new
    go (Join d q k next) u t j h = becomes _ ((d.0 == d.0) && (q.0 == q.0)) (goes_on next (only next u) m.vars (fin.insert ss k.0 (i, q)) t.2 (bound_put ss s.bound.names k (i, q) s.bound.bound)) (h d q refl)
    go (Send k b x next) u t j h = absurd cc
    go (Pick k b l next) u t j h = absurd cc
    go (Throw k b g next) u t j h = absurd cc
    go (Recv k a x next) u t j h = absurd cc
    go (Branch k a arms) u t j h = absurd cc
    go (Catch k a g next) u t j h = absurd cc
    go (Set x v next) u t j h = absurd cc
    go (Show v next) u t j h = absurd cc
    go (Host x f a b next) u t j h = absurd cc
    go (If v a b) u t j h = absurd cc
    go (Call f p ns) u t j h = absurd cc
    go End u t j h = absurd cc

pub bound_acted : (e : Endpoints) (m : Machine) (node : CodeNode) (ss : Sessions) (v : ℤ) (new : Machine) → StandsAt e m node ss → node_acted v m.vars ss node ≡ Some new → IsBound e new
bound_acted e m node ss v new s acted = go node (follow s) (scoped_node s.bound.scoped node s.found) acted
  where
    becomes : (old : Machine) → IsBound e old → Some old ≡ Some new → IsBound e new
    becomes old b h = let same : old ≡ new = cc in subst (IsBound e) same b

    which : (t : Bool) (c d : CodeId) → ((n : CodeId) → Contains (c ∷ d ∷ []) n → IsInBody e n) → IsInBody e (cond t c d)
    which true c d u = u c (at_head c (d ∷ []) c refl)
    which false c d u = u d (at_tail c (d ∷ []) d (at_head d [] d refl))

    either : (t : Bool) (c d : CodeId) → IsScoped e c s.bound.names → IsScoped e d s.bound.names → IsScoped e (cond t c d) s.bound.names
    either true c d a b = a
    either false c d a b = b

    go : (o : CodeNode) → Follow e o → NodeScoped e o s.bound.names → node_acted v m.vars ss o ≡ Some new → IsBound e new
    go (Set y w next) u t h = becomes _ (goes_on next (only next u) (fin.insert m.vars y.0 (value_of (term_of w) m.vars)) ss t s.bound.bound) h
    go (Show w next) u t h = becomes _ (goes_on next (only next u) m.vars ss t s.bound.bound) h
    go (Host y f a b next) u t h = becomes _ (goes_on next (only next u) (fin.insert m.vars y.0 (Int v)) ss t s.bound.bound) h
    go (If w a b) u t h = becomes _ (goes_on (cond (truth_of (value_of (term_of w) m.vars)) a b) (which (truth_of (value_of (term_of w) m.vars)) a b u) m.vars ss (either (truth_of (value_of (term_of w) m.vars)) a b t.0 t.1) s.bound.bound) h
    go (Send k b y next) u t h = absurd cc
    go (Pick k b l next) u t h = absurd cc
    go (Throw k b g next) u t h = absurd cc
    go (Recv k a y next) u t h = absurd cc
    go (Branch k a arms) u t h = absurd cc
    go (Catch k a g next) u t h = absurd cc
    go (Join c r k next) u t h = absurd cc
    go (Call f q ns) u t h = absurd cc
    go End u t h = absurd cc

-- what holds of the variables and sessions after a call is gone through holds of those that it has there
pub entered : {X : Type 0} (f : Variables → Sessions → X) (v w : Variables) (m n : Sessions) → v ≡ w → m ≡ n → f w n ≡ f v m
entered f v w m n h i = ap (f w) (sym i) ∙ ap (λ (u : Variables). f u m) (sym h)
