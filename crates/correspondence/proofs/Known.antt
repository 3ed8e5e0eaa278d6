-- Session maps of what is in scope, along the code.
use Rattle.std.proofs.Common.{◌≡◌, ℕ, Bool, true, false, List, [], ◌∷◌, Option, Some, None, refl, sym, ap, ◌∙◌, subst, if◌then◌else◌, ◌==◌}
use Rattle.chor_base.specs.declared.names.NameId.{NameId}
use Rattle.chor_semantics.specs.Choreography.{Ref, Live, Named, ref_eq, among, Content, OfValue, OfLabel, OfPart, Message, ValueSent, LabelSent, PartSent, Node, Starts, Communicates, InTransit, Alone, number_for}
use Rattle.endpoint_code.specs.declared.code.CodeId.{CodeId}
use Rattle.endpoint_code.specs.declared.code.CodeNode.{CodeNode}
use Rattle.endpoint_code.specs.declared.code.CodeNode.TheVariants as code
use Rattle.endpoint_code.specs.declared.endpoints.Channel.{Channel}
use Rattle.endpoint_code.specs.declared.endpoints.Procedure.{Procedure as ProcedureCode}
use Rattle.endpoint_code.specs.declared.endpoints.Endpoints.{Endpoints}
use Rattle.endpoint_code.specs.Network.{procedure_of, arm_at}
use Rattle.well_formed.specs.Follows.{SessionMap, no_sessions, with_session, without_session, passed_one, passed, Act, Joins, Puts, Gets, Does, Into, Label, Part, received_of, message_received, act_of, joins, role_in, Place, Nowhere, Here, arm_place, place_after, Standing, Nothing, Body, Stands, body_standing, standing}
use Rattle.well_formed.specs.WellFormed.{Scope, IsSession, scope_after, NodeFits, MessageFits, CommunicationFits}
use Rattle.well_formed.proofs.References.{or_left, or_rights, self_ref, differ_ref, clash}
use Rattle.correspondence.proofs.Renamed.{put_one, put_map}

-- a number, or a name in scope
abbrev pub KnownRef : Scope → Ref → Type 0
KnownRef sc (Live n) = Unit {0}
KnownRef sc (Named x d) = among (Named x d) sc.sessions ≡ true

known_ref : (sc : Scope) (s : Ref) → IsSession sc s → KnownRef sc s
known_ref sc (Live n) h = tt
known_ref sc (Named x d) h = h

-- the map's sessions are in scope
abbrev pub KnownMap : Scope → SessionMap → Type 0
KnownMap sc m = (y : ℕ) (s : Ref) (r : NameId) → m y ≡ Some (s, r) → KnownRef sc s

pub still_session : (sc : Scope) (n : Node) (s : Ref) → KnownRef sc s → KnownRef (scope_after sc n) s
still_session sc (Starts c d k active serve) (Live m) h = h
still_session sc (Starts c d k active serve) (Named x j) h = or_rights _ _ h
still_session sc (Communicates u p a q b w) s h = h
still_session sc (InTransit u a b m q) s h = h
still_session sc (Alone p o) s h = h

pub known_more : (sc : Scope) (n : Node) (m : SessionMap) → KnownMap sc m → KnownMap (scope_after sc n) m
known_more sc n m h y s r i = still_session sc n s (h y s r i)

abbrev pub KnownAct : Scope → Act → Type 0
KnownAct sc (Joins c r s) = KnownRef sc s
KnownAct sc (Puts s a b w) = Unit {0}
KnownAct sc (Gets s a b (Into x)) = Unit {0}
KnownAct sc (Gets s a b (Label l)) = Unit {0}
KnownAct sc (Gets s a b (Part t r)) = KnownRef sc t
KnownAct sc (Does o) = Unit {0}

known_gets : (sc : Scope) (s : Ref) (a b : NameId) (w : Content) (q p : Ref) → CommunicationFits sc s p q w → KnownAct sc (Gets s a b (received_of w))
known_gets sc s a b (OfValue e x) q p h = tt
known_gets sc s a b (OfLabel l) q p h = tt
known_gets sc s a b (OfPart t r) q p h = known_ref sc t h.content

known_message : (sc : Scope) (s : Ref) (a b : NameId) (m : Message) → MessageFits sc m → KnownAct sc (Gets s a b (message_received m))
known_message sc s a b (ValueSent v x) h = tt
known_message sc s a b (LabelSent l) h = tt
known_message sc s a b (PartSent t r) h = tt

pub known_act : (ks : List Channel) (sc : Scope) (n : Node) (p : Ref) (g : Act) → NodeFits ks sc n → act_of n p ≡ Some g → KnownAct (scope_after sc n) g
known_act ks sc (Starts c d k active serve) p g w h = go (role_in p active) h
  where
    go : (o : Option NameId) → joins c (Named k d) o ≡ Some g → KnownAct (scope_after sc (Starts c d k active serve)) g
    go None i = absurd cc
    go (Some r) i = let e : Joins c r (Named k d) ≡ g = cc in subst (KnownAct (scope_after sc (Starts c d k active serve))) e (or_left _ _ (self_ref (Named k d)))
known_act ks sc (Communicates s q a r b v) p g w h = go (ref_eq p q) (ref_eq p r) h
  where
    go : (x y : Bool) → (if x then Some (Puts s a b v) else (if y then Some (Gets s a b (received_of v)) else None)) ≡ Some g → KnownAct sc g
    go true y i = let e : Puts s a b v ≡ g = cc in subst (KnownAct sc) e tt
    go false true i = let e : Gets s a b (received_of v) ≡ g = cc in subst (KnownAct sc) e (known_gets sc s a b v r q w)
    go false false i = absurd cc
known_act ks sc (InTransit s a b m q) p g w h = go (ref_eq p q) h
  where
    go : (x : Bool) → (if x then Some (Gets (Live s) a b (message_received m)) else None) ≡ Some g → KnownAct sc g
    go true i = let e : Gets (Live s) a b (message_received m) ≡ g = cc in subst (KnownAct sc) e (known_message sc (Live s) a b m w.message)
    go false i = absurd cc
known_act ks sc (Alone q o) p g w h = go (ref_eq p q) h
  where
    go : (x : Bool) → (if x then Some (Does o) else None) ≡ Some g → KnownAct sc g
    go true i = let e : Does o ≡ g = cc in subst (KnownAct sc) e tt
    go false i = absurd cc

pub known_with : (sc : Scope) (m : SessionMap) (k : NameId) (s : Ref) (r : NameId) → KnownMap sc m → KnownRef sc s → KnownMap sc (with_session m k (s, r))
known_with sc m k s r h g y t c i = go (k.0 == y) i
  where
    go : (b : Bool) → (if b then Some (s, r) else m y) ≡ Some (t, c) → KnownRef sc t
    go true j = let e : ◌≡◌ {A = Ref × NameId} (s, r) (t, c) = cc in subst (KnownRef sc) (ap (λ z. z.0) e) g
    go false j = h y t c j

known_without : (sc : Scope) (m : SessionMap) (k : NameId) → KnownMap sc m → KnownMap sc (without_session m k)
known_without sc m k h y t c i = go (k.0 == y) i
  where
    go : (b : Bool) → (if b then None else m y) ≡ Some (t, c) → KnownRef sc t
    go true j = absurd cc
    go false j = h y t c j

pub known_none : (sc : Scope) → KnownMap sc no_sessions
known_none sc y s r i = absurd cc

known_passed : (sc : Scope) (ks ss : List NameId) (m : SessionMap) → KnownMap sc m → KnownMap sc (passed ks ss m)
known_passed sc [] ss m h = known_none sc
known_passed sc (k ∷ ks) [] m h = known_none sc
known_passed sc (k ∷ ks) (s ∷ ss) m h = go (m s.0) refl (known_passed sc ks ss m h)
  where
    go : (o : Option (Ref × NameId)) → m s.0 ≡ o → KnownMap sc (passed ks ss m) → KnownMap sc (passed_one o k (passed ks ss m))
    go None e i = i
    go (Some (t, c)) e i = known_with sc (passed ks ss m) k t c i (h s.0 t c e)

abbrev pub KnownPlace : Scope → Place → Type 0
KnownPlace sc Nowhere = Unit {0}
KnownPlace sc (Here q m) = KnownMap sc m

pub known_place : (sc : Scope) (m : SessionMap) (c : CodeNode) (g : Act) → KnownMap sc m → KnownAct sc g → KnownPlace sc (place_after m c g)
known_place sc m (code.Join c r k next) (Joins d t s) h a = known_with sc m k s r h a
known_place sc m (code.Throw k b x next) g h a = known_without sc m x h
known_place sc m (code.Catch k a x next) (Gets s c b (Part t r)) h i = known_with sc m x t r h i
known_place sc m (code.Branch k a arms) (Gets s c b (Label l)) h i = at_arm (arm_at arms l)
  where
    at_arm : (o : Option CodeId) → KnownPlace sc (arm_place m o)
    at_arm None = tt
    at_arm (Some next) = h
known_place sc m (code.Send k b e next) g h a = h
known_place sc m (code.Pick k b l next) g h a = h
known_place sc m (code.Recv k a x next) g h i = h
known_place sc m (code.Set x e next) g h a = h
known_place sc m (code.Show e next) g h a = h
known_place sc m (code.Host x f a b next) g h i = h
known_place sc m _ _ h a = tt

abbrev pub KnownStanding : Scope → Standing → Type 0
KnownStanding sc Nothing = Unit {0}
KnownStanding sc (Body q m) = KnownMap sc m
KnownStanding sc (Stands c) = Unit {0}

pub known_standing : (e : Endpoints) (sc : Scope) (o : Option CodeNode) (m : SessionMap) → KnownMap sc m → KnownStanding sc (standing e o m)
known_standing e sc None m h = tt
known_standing e sc (Some (code.Call f p ss)) m h = go (procedure_of e.procedures f p)
  where
    go : (o : Option ProcedureCode) → KnownStanding sc (body_standing o ss m)
    go None = tt
    go (Some q) = known_passed sc q.sessions ss m h
known_standing e sc (Some c) m h = tt

-- a session that is new is renamed in no such map
pub unchanged : (sc : Scope) (k d sid : ℕ) (m : SessionMap) → among (Named k d) sc.sessions ≡ false → KnownMap sc m → ◌≡◌ {A = SessionMap} (put_map (number_for k d sid) m) m
unchanged sc k d sid m new h = λ i y. at y i
  where
    ref : (s : Ref) → KnownRef sc s → number_for k d sid s ≡ s
    ref (Live n) j = refl
    ref (Named x c) j = ap (λ b. if b then Live sid else Named x c) (differ_ref (Named k d) (Named x c) (λ e. clash j (ap (λ z. among z sc.sessions) (sym e) ∙ new)))

    go : (y : ℕ) (o : Option (Ref × NameId)) → m y ≡ o → put_one (number_for k d sid) o ≡ o
    go y None e = refl
    go y (Some (s, r)) e = ap (λ z. Some (z, r)) (ref s (h y s r e))

    at : (y : ℕ) → put_one (number_for k d sid) (m y) ≡ m y
    at y = go y (m y) refl
