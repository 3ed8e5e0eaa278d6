-- What the code at which a process stands tells.
use Rattle.std.proofs.Common.{◌≡◌, ℕ, ◌<◌, ◌&&◌, ◌||◌, ◌==◌, Bool, true, false, cond, List, [], ◌∷◌, length, refl, sym, ap, ◌∙◌, subst, Option, Some, None, arith, is_some}
use Rattle.std.specs.Prelude.{All, Contains}
use Rattle.std.specs.FinMap as fin
use Rattle.std.specs.Ordering.{nat_cmp, eq_by_cmp}
use Rattle.std.proofs.lemmas.Cmp.{nat_cmp_total}
use Rattle.std.proofs.lemmas.Bool.{and_parts, and_from, eqb-true, eqb-false, ne_eqb}
use Rattle.std.proofs.lemmas.Option.{slice_get_within}
use Rattle.std.proofs.lemmas.List.Elements.{All-head, All-tail}
use Rattle.chor_base.specs.declared.names.NameId.{NameId}
use Rattle.chor_base.specs.NameMap.{Variables}
use Rattle.chor_base.proofs.Members.{at_head, at_tail}
use Rattle.endpoint_code.specs.declared.code.CodeId.{CodeId}
use Rattle.endpoint_code.specs.declared.code.CodeNode.{CodeNode}
use Rattle.endpoint_code.specs.declared.code.CodeNode.TheVariants.{Join, Send, Recv, Pick, Branch, Throw, Catch, Set, Show, Host, If, Call, End}
use Rattle.endpoint_code.specs.declared.endpoints.Endpoints.{Endpoints}
use Rattle.endpoint_code.specs.declared.endpoints.Procedure.{Procedure}
use Rattle.endpoint_code.specs.Network.{Machine, Sessions, node_at, at_node, body_place, place_in, procedure_of, passed, passed_one}
use Rattle.endpoint_code.specs.Faults.{IsFaultless, begins_with_call, IsScoped, AllScoped, IsActive, is_among, all_among, without, joins, sends, receives, picks, offers, gives, gains, sets, shows, asks, tests, calls, ends}
use Rattle.endpoint_code.specs.InBodies.{of_procedure}
use Rattle.endpoint_machine.specs.Bound.{AreBound, IsBound}
use Rattle.endpoint_machine.specs.Acts.{is_call, knows_sessions}
use Rattle.endpoint_machine.specs.Places.{StandsAt}
use Rattle.endpoint_machine.proofs.Bound.{ties}

-- ---- scoped code

-- what a scoped node tells
abbrev pub NodeScoped : Endpoints → CodeNode → List NameId → Type 0
NodeScoped e (Join c r k next) bs = IsActive e c r × (is_among k bs ≡ false) × IsScoped e next (k ∷ bs)
NodeScoped e (Send k b x next) bs = (is_among k bs ≡ true) × IsScoped e next bs
NodeScoped e (Recv k a x next) bs = (is_among k bs ≡ true) × IsScoped e next bs
NodeScoped e (Pick k b l next) bs = (is_among k bs ≡ true) × IsScoped e next bs
NodeScoped e (Branch k a arms) bs = (is_among k bs ≡ true) × AllScoped e arms bs
NodeScoped e (Throw k b h next) bs = (is_among k bs ≡ true) × (is_among h bs ≡ true) × IsScoped e next (without h bs)
NodeScoped e (Catch k a h next) bs = (is_among k bs ≡ true) × IsScoped e next (h ∷ bs)
NodeScoped e (Set x v next) bs = IsScoped e next bs
NodeScoped e (Show v next) bs = IsScoped e next bs
NodeScoped e (Host x f v w next) bs = IsScoped e next bs
NodeScoped e (If v first second) bs = IsScoped e first bs × IsScoped e second bs
NodeScoped e (Call f p ss) bs = (q : Procedure) × (procedure_of e.procedures f p ≡ Some q) × (length ss ≡ length q.sessions) × (all_among ss bs ≡ true)
NodeScoped e End bs = Unit {0}

same_node : (e : Endpoints) (id : CodeId) (m : CodeNode) (node : CodeNode) (bs : List NameId) → node_at e id ≡ Some m → node_at e id ≡ Some node → NodeScoped e m bs → NodeScoped e node bs
same_node e id m node bs a b s = let same : m ≡ node = cc in subst (λ (n : CodeNode). NodeScoped e n bs) same s

pub scoped_node : {e : Endpoints} {id : CodeId} {bs : List NameId} → IsScoped e id bs → (node : CodeNode) → node_at e id ≡ Some node → NodeScoped e node bs
scoped_node {e} {id} {bs} (joins h a b s) node f = same_node e id _ node bs h f (a, b, s)
scoped_node {e} {id} {bs} (sends h a s) node f = same_node e id _ node bs h f (a, s)
scoped_node {e} {id} {bs} (receives h a s) node f = same_node e id _ node bs h f (a, s)
scoped_node {e} {id} {bs} (picks h a s) node f = same_node e id _ node bs h f (a, s)
scoped_node {e} {id} {bs} (offers h a d s) node f = same_node e id _ node bs h f (a, s)
scoped_node {e} {id} {bs} (gives h a b s) node f = same_node e id _ node bs h f (a, b, s)
scoped_node {e} {id} {bs} (gains h a b s) node f = same_node e id _ node bs h f (a, s)
scoped_node {e} {id} {bs} (sets h s) node f = same_node e id _ node bs h f s
scoped_node {e} {id} {bs} (shows h s) node f = same_node e id _ node bs h f s
scoped_node {e} {id} {bs} (asks h s) node f = same_node e id _ node bs h f s
scoped_node {e} {id} {bs} (tests h s t) node f = same_node e id _ node bs h f (s, t)
scoped_node {e} {id} {bs} (calls {q} h a b d g) node f = same_node e id _ node bs h f (q, a, b, d)
scoped_node {e} {id} {bs} (ends h) node f = same_node e id _ node bs h f tt

-- a node stands at scoped code
pub some_node : {e : Endpoints} {id : CodeId} {bs : List NameId} → IsScoped e id bs → (node : CodeNode) × (node_at e id ≡ Some node)
some_node (joins h a b s) = (_, h)
some_node (sends h a b) = (_, h)
some_node (receives h a b) = (_, h)
some_node (picks h a b) = (_, h)
some_node (offers h a b c) = (_, h)
some_node (gives h a b c) = (_, h)
some_node (gains h a b c) = (_, h)
some_node (sets h a) = (_, h)
some_node (shows h a) = (_, h)
some_node (asks h a) = (_, h)
some_node (tests h a b) = (_, h)
some_node (calls h a b c d) = (_, h)
some_node (ends h) = (_, h)

pub within_code : (e : Endpoints) (id : CodeId) (bs : List NameId) → IsScoped e id bs → id.0 < length e.code.nodes
within_code e id bs s = let node = some_node s in slice_get_within e.code.nodes id.0 node.0 node.1

-- ---- bound names

turned : {A : Type 0} (x y : ℕ) (a b : A) → cond (eq_by_cmp nat_cmp x y) a b ≡ cond (y == x) a b
turned x y a b = ap (λ t. cond t a b) (ties x y)

get_put : (m : Sessions) (k q : ℕ) (b : ℕ × NameId) → fin.get (fin.insert m k b) q ≡ cond (k == q) (Some b) (fin.get m q)
get_put m k q b = fin.get-insert nat_cmp_total m k b q ∙ turned q k (Some b) (fin.get m q)

pub bound_put : (m : Sessions) (names : List NameId) (k : NameId) (b : ℕ × NameId) → AreBound m names → AreBound (fin.insert m k.0 b) (k ∷ names)
bound_put m names k b bound q h = ap is_some (get_put m k.0 q.0 b) ∙ go (k.0 == q.0) refl (q.0 == k.0) refl h
  where
    go : (t : Bool) → (k.0 == q.0) ≡ t → (u : Bool) → (q.0 == k.0) ≡ u → (u || is_among q names) ≡ true → is_some (cond t (Some b) (fin.get m q.0)) ≡ true
    go true e u f h = refl
    go false e true f h = absurd (eqb-false k.0 q.0 e (sym (eqb-true q.0 k.0 f)))
    go false e false f h = bound q h

among_without : (h q : NameId) (names : List NameId) → is_among q (without h names) ≡ true → ((h.0 == q.0) ≡ false) × (is_among q names ≡ true)
among_without h q [] a = absurd cc
among_without h q (y ∷ ys) a = go (h.0 == y.0) refl a (among_without h q ys)
  where
    go : (t : Bool) → (h.0 == y.0) ≡ t → is_among q (cond t (without h ys) (y ∷ without h ys)) ≡ true → (is_among q (without h ys) ≡ true → ((h.0 == q.0) ≡ false) × (is_among q ys ≡ true)) → ((h.0 == q.0) ≡ false) × (is_among q (y ∷ ys) ≡ true)
    go true e a before = let b = before a in (b.0, step (q.0 == y.0) b.1)
      where
        step : (u : Bool) → is_among q ys ≡ true → (u || is_among q ys) ≡ true
        step true i = refl
        step false i = i
    go false e a before = other (q.0 == y.0) refl a
      where
        other : (u : Bool) → (q.0 == y.0) ≡ u → (u || is_among q (without h ys)) ≡ true → ((h.0 == q.0) ≡ false) × ((u || is_among q ys) ≡ true)
        other true f a = (ne_eqb h.0 q.0 (λ i. eqb-false h.0 y.0 e (i ∙ eqb-true q.0 y.0 f)), refl)
        other false f a = before a

pub bound_removed : (m : Sessions) (names : List NameId) (h : NameId) → AreBound m names → AreBound (fin.remove m h.0) (without h names)
bound_removed m names h bound q a =
    let parts = among_without h q names a in
    ap is_some (fin.get-remove nat_cmp_total m h.0 q.0 ∙ turned q.0 h.0 None (fin.get m q.0) ∙ ap (λ (t : Bool). cond t None (fin.get m q.0)) parts.0) ∙ bound q parts.1

one_passed : (o : Option (ℕ × NameId)) (k : NameId) (rest : Sessions) (ks : List NameId) → is_some o ≡ true → AreBound rest ks → AreBound (passed_one o k rest) (k ∷ ks)
one_passed None k rest ks some bound = absurd cc
one_passed (Some b) k rest ks some bound = bound_put rest ks k b bound

pub bound_passed : (m : Sessions) (bs ks ss : List NameId) → AreBound m bs → length ss ≡ length ks → all_among ss bs ≡ true → AreBound (passed ks ss m) ks
bound_passed m bs [] ss bound same all = λ q h. absurd cc
bound_passed m bs (k ∷ ks) [] bound same all = absurd (omega arith)
bound_passed m bs (k ∷ ks) (s ∷ ss) bound same all =
    let parts = and_parts (is_among s bs) (all_among ss bs) all in
    one_passed (fin.get m s.0) k (passed ks ss m) ks (bound s parts.0) (bound_passed m bs ks ss bound (omega arith) parts.1)

-- ---- where a process stands

pub plain_place : (e : Endpoints) (node : CodeNode) (m : Sessions) → is_call node ≡ false → place_in e (Some node) m ≡ Some (record { node = node; sessions = m })
plain_place e (Join c r k next) m h = refl
plain_place e (Send k b x next) m h = refl
plain_place e (Recv k a x next) m h = refl
plain_place e End m h = refl
plain_place e (Pick k b l next) m h = refl
plain_place e (Branch k a arms) m h = refl
plain_place e (Throw k b h next) m g = refl
plain_place e (Catch k a h next) m g = refl
plain_place e (Set x v next) m h = refl
plain_place e (Show v next) m h = refl
plain_place e (Host x f a b next) m h = refl
plain_place e (If v a b) m h = refl
plain_place e (Call f p ss) m h = absurd cc

-- at a node that is no call
pub stands_plainly : (e : Endpoints) (m : Machine) (node : CodeNode) → IsBound e m → node_at e m.at ≡ Some node → is_call node ≡ false → StandsAt e m node m.sessions
stands_plainly e m node bound found plain = record {
  id = m.at;
  place = ap (λ (n : Option CodeNode). place_in e n m.sessions) found ∙ plain_place e node m.sessions plain;
  found = found;
  bound = record { in_body = bound.in_body; names = bound.names; scoped = bound.scoped; bound = bound.bound };
  is_head = plain;
}

pub procedure_all : (P : Procedure → Type 0) (qs : List Procedure) (f p : NameId) (q : Procedure) → All P qs → procedure_of qs f p ≡ Some q → P q
procedure_all P [] f p q all h = absurd cc
procedure_all P (r ∷ qs) f p q all h = go ((r.name.0 == f.0) && (r.param.0 == p.0)) h (λ i. procedure_all P qs f p q (All-tail P r qs all) i)
  where
    go : (t : Bool) → cond t (Some r) (procedure_of qs f p) ≡ Some q → (procedure_of qs f p ≡ Some q → P q) → P q
    go true i before = let same : r ≡ q = cc in subst P same (All-head P r qs all)
    go false i before = before i

procedure_among : (qs : List Procedure) (f p : NameId) (q : Procedure) → procedure_of qs f p ≡ Some q → Contains qs q
procedure_among [] f p q h = absurd cc
procedure_among (r ∷ qs) f p q h = go ((r.name.0 == f.0) && (r.param.0 == p.0)) h (λ i. procedure_among qs f p q i)
  where
    go : (t : Bool) → cond t (Some r) (procedure_of qs f p) ≡ Some q → (procedure_of qs f p ≡ Some q → Contains qs q) → Contains (r ∷ qs) q
    go true i before = let same : r ≡ q = cc in at_head r qs q same
    go false i before = at_tail r qs q (before i)

not_called : (node : CodeNode) → begins_with_call (Some node) ≡ false → is_call node ≡ false
not_called (Join c r k next) h = refl
not_called (Send k b x next) h = refl
not_called (Recv k a x next) h = refl
not_called End h = refl
not_called (Pick k b l next) h = refl
not_called (Branch k a arms) h = refl
not_called (Throw k b g next) h = refl
not_called (Catch k a g next) h = refl
not_called (Set x v next) h = refl
not_called (Show v next) h = refl
not_called (Host x f a b next) h = refl
not_called (If v a b) h = refl
not_called (Call f p ss) h = absurd cc

-- at a procedure's body beyond a call
pub stands_beyond : (e : Endpoints) (m : Machine) (f p : NameId) (ss : List NameId) (q : Procedure) (node : CodeNode) → IsFaultless e → IsBound e m → node_at e m.at ≡ Some (Call f p ss) → procedure_of e.procedures f p ≡ Some q → node_at e q.body ≡ Some node → StandsAt e m node (passed q.sessions ss m.sessions)
stands_beyond e m f p ss q node faultless bound found named there =
    let scoped = scoped_node bound.scoped (Call f p ss) found in
    let same : scoped.0 ≡ q = cc (scoped.1, named) in
    let even : length ss ≡ length q.sessions = scoped.2 ∙ ap (λ (r : Procedure). length r.sessions) same in
    record {
      id = q.body;
      place =
          ap (λ (n : Option CodeNode). place_in e n m.sessions) found
          ∙ ap (λ (o : Option Procedure). body_place e o ss m.sessions) named
          ∙ ap (λ (n : Option CodeNode). at_node n (passed q.sessions ss m.sessions)) there;
      found = there;
      bound = record {
        in_body = of_procedure (procedure_among e.procedures f p q named) refl;
        names = q.sessions;
        scoped = procedure_all (λ q. IsScoped e q.body q.sessions) e.procedures f p q faultless.names.procedure_bodies named;
        bound = bound_passed m.sessions bound.names q.sessions ss bound.bound even scoped.3;
      };
      is_head = not_called node (sym (ap begins_with_call there) ∙ procedure_all (λ q. begins_with_call (node_at e q.body) ≡ false) e.procedures f p q faultless.calls named);
    }

-- the call at which a process stands has a procedure, with as many sessions
pub called : (e : Endpoints) (m : Machine) (f p : NameId) (ss : List NameId) → IsBound e m → node_at e m.at ≡ Some (Call f p ss) → (q : Procedure) × (procedure_of e.procedures f p ≡ Some q) × (length ss ≡ length q.sessions)
called e m f p ss bound found = let s = scoped_node bound.scoped (Call f p ss) found in (s.0, s.1, s.2)

pub body_within : (e : Endpoints) (f p : NameId) (q : Procedure) → IsFaultless e → procedure_of e.procedures f p ≡ Some q → q.body.0 < length e.code.nodes
body_within e f p q faultless named = within_code e q.body q.sessions (procedure_all (λ q. IsScoped e q.body q.sessions) e.procedures f p q faultless.names.procedure_bodies named)

-- a process knows the sessions that its node names
pub knows : (e : Endpoints) (id : CodeId) (vars : Variables) (m : Sessions) (node : CodeNode) → IsBound e (record { at = id; vars = vars; sessions = m }) → node_at e id ≡ Some node → knows_sessions m node ≡ true
knows e id vars m node bound found = go node (scoped_node bound.scoped node found)
  where
    go : (n : CodeNode) → NodeScoped e n bound.names → knows_sessions m n ≡ true
    go (Send k b x next) s = bound.bound k s.0
    go (Recv k a x next) s = bound.bound k s.0
    go (Pick k b l next) s = bound.bound k s.0
    go (Branch k a arms) s = bound.bound k s.0
    go (Throw k b h next) s = and_from _ _ (bound.bound k s.0) (bound.bound h s.1)
    go (Catch k a h next) s = bound.bound k s.0
    go (Join c r k next) s = refl
    go (Set x v next) s = refl
    go (Show v next) s = refl
    go (Host x f a b next) s = refl
    go (If v a b) s = refl
    go (Call f p ss) s = refl
    go End s = refl
