-- Code that follows a choreography at a process follows it with numbers in place of names.
use Rattle.std.proofs.Common.{◌≡◌, ℕ, zero, suc, Bool, true, false, List, [], ◌∷◌, Option, Some, None, refl, sym, ap, ◌∙◌, subst, if◌then◌else◌, ◌==◌}
use Rattle.std.specs.Prelude.{map}
use Rattle.chor_base.specs.declared.names.NameId.{NameId}
use Rattle.chor_base.specs.Expr.{Term}
use Rattle.chor_semantics.specs.Choreography.{Ref, Live, Named, ref_eq, among, Content, OfValue, OfLabel, OfPart, Message, ValueSent, LabelSent, PartSent, Sets, Shows, Asks, Node, Starts, Communicates, InTransit, Alone, Choreography, Then, Either, Calls, Ends, put_content, put_node, put_part, put}
use Rattle.chor_semantics.specs.Sources.{Procedure}
use Rattle.chor_semantics.specs.Steps.{procedure_named, body_of}
use Rattle.endpoint_code.specs.declared.code.CodeId.{CodeId}
use Rattle.endpoint_code.specs.declared.code.CodeNode.{CodeNode}
use Rattle.endpoint_code.specs.declared.code.CodeNode.TheVariants as code
use Rattle.endpoint_code.specs.declared.endpoints.Channel.{Channel}
use Rattle.endpoint_code.specs.declared.endpoints.Procedure.{Procedure as ProcedureCode}
use Rattle.endpoint_code.specs.declared.endpoints.Endpoints.{Endpoints}
use Rattle.endpoint_code.specs.Network.{node_at, procedure_of, arm_at}
use Rattle.well_formed.specs.Follows.{SessionMap, with_session, without_session, passed_one, passed, Act, Joins, Puts, Gets, Does, Received, Into, Label, Part, received_of, message_received, act_of, joins, role_in, At, Agrees, HoldsAt, arm_place, place_after, Fork, NoFork, Forks, fork_of, BothHold, Standing, Nothing, Body, Stands, body_standing, standing, HoldsOf, follows_act, follows_test, follows_end, follows_call, follows_over, Follows}
use Rattle.well_formed.specs.WellFormed.{Scope, IsIn, AllIn, IsProcess, firsts, scope_after, NodeFits, CallFits, IsWellFormed}
use Rattle.well_formed.proofs.References.{self_ref, same_ref}
use Rattle.well_formed.proofs.Renames.{Renames, processes_after, sessions_after}
use Rattle.correspondence.proofs.Others.{still_process}

-- ---- session maps

abbrev pub put_one : (Ref → Ref) → Option (Ref × NameId) → Option (Ref × NameId)
put_one g None = None
put_one g (Some (s, r)) = Some (g s, r)

abbrev pub put_map : (Ref → Ref) → SessionMap → SessionMap
put_map g m = λ y. put_one g (m y)

abbrev pub put_received : (Ref → Ref) → Received → Received
put_received g (Into x) = Into x
put_received g (Label l) = Label l
put_received g (Part s r) = Part (g s) r

abbrev pub put_act : (Ref → Ref) → Act → Act
put_act g (Joins c r s) = Joins c r (g s)
put_act g (Puts s a b w) = Puts (g s) a b (put_content g w)
put_act g (Gets s a b r) = Gets (g s) a b (put_received g r)
put_act g (Does o) = Does o

abbrev pub put_option : (Ref → Ref) → Option Act → Option Act
put_option g None = None
put_option g (Some a) = Some (put_act g a)

abbrev pub put_standing : (Ref → Ref) → Standing → Standing
put_standing g Nothing = Nothing
put_standing g (Body q m) = Body q (put_map g m)
put_standing g (Stands c) = Stands c

abbrev pub put_body : (Ref → Ref) → (Ref → Ref) → Option Choreography → Option Choreography
put_body f g None = None
put_body f g (Some c) = Some (put f g c)

-- the body of a renamed call is the renamed body
abbrev pub BodiesRenamed : List Channel → List Procedure → Type 0
BodiesRenamed ks procs = (f g : Ref → Ref) (sc sc' : Scope) → Renames f sc.pid sc'.pid sc.processes sc'.processes → Renames g sc.sid sc'.sid sc.sessions sc'.sessions → (h : NameId) (d : ℕ) (ps ss : List Ref) → CallFits procs sc h d ps ss → body_of (procedure_named procs h) d (map f ps) (map g ss) ≡ put_body f g (body_of (procedure_named procs h) d ps ss)

module _ (g : Ref → Ref) where
  pub put_with : (m : SessionMap) (k : NameId) (s : Ref) (r : NameId) (x : Ref) → g s ≡ x → ◌≡◌ {A = SessionMap} (put_map g (with_session m k (s, r))) (with_session (put_map g m) k (x, r))
  put_with m k s r x e = λ i y. at y i
    where
      go : (y : ℕ) (b : Bool) → put_one g (if b then Some (s, r) else m y) ≡ (if b then Some (x, r) else put_one g (m y))
      go y true = ap (λ z. Some (z, r)) e
      go y false = refl

      at : (y : ℕ) → put_one g (if k.0 == y then Some (s, r) else m y) ≡ (if k.0 == y then Some (x, r) else put_one g (m y))
      at y = go y (k.0 == y)

  put_without : (m : SessionMap) (k : NameId) → ◌≡◌ {A = SessionMap} (put_map g (without_session m k)) (without_session (put_map g m) k)
  put_without m k = λ i y. at y i
    where
      go : (y : ℕ) (b : Bool) → put_one g (if b then None else m y) ≡ (if b then None else put_one g (m y))
      go y true = refl
      go y false = refl

      at : (y : ℕ) → put_one g (if k.0 == y then None else m y) ≡ (if k.0 == y then None else put_one g (m y))
      at y = go y (k.0 == y)

  put_passed_one : (o : Option (Ref × NameId)) (k : NameId) (m : SessionMap) → ◌≡◌ {A = SessionMap} (put_map g (passed_one o k m)) (passed_one (put_one g o) k (put_map g m))
  put_passed_one None k m = refl
  put_passed_one (Some (s, r)) k m = put_with m k s r (g s) refl

  put_passed : (ks ss : List NameId) (m : SessionMap) → ◌≡◌ {A = SessionMap} (put_map g (passed ks ss m)) (passed ks ss (put_map g m))
  put_passed [] ss m = refl
  put_passed (k ∷ ks) [] m = refl
  put_passed (k ∷ ks) (s ∷ ss) m = put_passed_one (m s.0) k (passed ks ss m) ∙ ap (λ w. passed_one (put_one g (m s.0)) k w) (put_passed ks ss m)

  stands_put : (e : Endpoints) (o : Option CodeNode) (m : SessionMap) → standing e o (put_map g m) ≡ put_standing g (standing e o m)
  stands_put e None m = refl
  stands_put e (Some (code.Call f p ss)) m = go (procedure_of e.procedures f p)
    where
      go : (o : Option ProcedureCode) → body_standing o ss (put_map g m) ≡ put_standing g (body_standing o ss m)
      go None = refl
      go (Some q) = ap (λ w. Body q.body w) (sym (put_passed q.sessions ss m))
  stands_put e (Some c) m = refl

  stands_named : (m : SessionMap) (k : NameId) (s : Ref) (r : NameId) → m k.0 ≡ Some (s, r) → put_map g m k.0 ≡ Some (g s, r)
  stands_named m k s r h = ap (put_one g) h

  agrees_put : (m : SessionMap) (c : CodeNode) (a : Act) → Agrees m c a → Agrees (put_map g m) c (put_act g a)
  agrees_put m (code.Join c r k next) (Joins d t s) h = h
  agrees_put m (code.Send k b e next) (Puts s a c (OfValue x y)) h = (stands_named m k s a h.0, h.1, h.2)
  agrees_put m (code.Pick k b l next) (Puts s a c (OfLabel x)) h = (stands_named m k s a h.0, h.1, h.2)
  agrees_put m (code.Throw k b x next) (Puts s a c (OfPart t r)) h = (stands_named m k s a h.0, h.1, stands_named m x t r h.2)
  agrees_put m (code.Recv k a x next) (Gets s c b (Into y)) h = (stands_named m k s b h.0, h.1, h.2)
  agrees_put m (code.Branch k a arms) (Gets s c b (Label l)) h = (stands_named m k s b h.0, h.1)
  agrees_put m (code.Catch k a x next) (Gets s c b (Part t r)) h = (stands_named m k s b h.0, h.1)
  agrees_put m (code.Set x e next) (Does (Sets y z)) h = h
  agrees_put m (code.Show e next) (Does (Shows z)) h = h
  agrees_put m (code.Host x f a b next) (Does (Asks y z c d)) h = h
  agrees_put m _ _ h = absurd h

  place_put : (K L : At) → ((q : CodeId) (m : SessionMap) → K q m → L q (put_map g m)) → (m : SessionMap) (c : CodeNode) (a : Act) → Agrees m c a → HoldsAt K (place_after m c a) → HoldsAt L (place_after (put_map g m) c (put_act g a))
  place_put K L j m (code.Join c r k next) (Joins d t s) w h = subst (λ y. L next y) (put_with m k s r (g s) refl) (j next _ h)
  place_put K L j m (code.Send k b e next) (Puts s a c (OfValue x y)) w h = j next m h
  place_put K L j m (code.Pick k b l next) (Puts s a c (OfLabel x)) w h = j next m h
  place_put K L j m (code.Throw k b x next) (Puts s a c (OfPart t r)) w h = subst (λ y. L next y) (put_without m x) (j next _ h)
  place_put K L j m (code.Recv k a x next) (Gets s c b (Into y)) w h = j next m h
  place_put K L j m (code.Branch k a arms) (Gets s c b (Label l)) w h = at_arm (arm_at arms l) h
    where
      at_arm : (o : Option CodeId) → HoldsAt K (arm_place m o) → HoldsAt L (arm_place (put_map g m) o)
      at_arm None y = y
      at_arm (Some next) y = j next m y
  place_put K L j m (code.Catch k a x next) (Gets s c b (Part t r)) w h = subst (λ y. L next y) (put_with m x t r (g t) refl) (j next _ h)
  place_put K L j m (code.Set x e next) (Does (Sets y z)) w h = j next m h
  place_put K L j m (code.Show e next) (Does (Shows z)) w h = j next m h
  place_put K L j m (code.Host x f a b next) (Does (Asks y z c d)) w h = j next m h
  place_put K L j m _ _ w h = absurd w

  received_put : (w : Content) → received_of (put_content g w) ≡ put_received g (received_of w)
  received_put (OfValue e x) = refl
  received_put (OfLabel l) = refl
  received_put (OfPart s r) = refl

  message_put : ((n : ℕ) → g (Live n) ≡ Live n) → (m : Message) → message_received m ≡ put_received g (message_received m)
  message_put live (ValueSent v x) = refl
  message_put live (LabelSent l) = refl
  message_put live (PartSent s r) = ap (λ y. Part y r) (sym (live s))

-- renaming tells apart what is in scope as before
pub tells : (f : Ref → Ref) (n n' : ℕ) (bs bs' : List Ref) → Renames f n n' bs bs' → (p r : Ref) → IsIn n bs p → IsIn n bs r → ref_eq (f p) (f r) ≡ ref_eq p r
tells f n n' bs bs' re p r h k = go (ref_eq p r) refl
  where
    go : (b : Bool) → ref_eq p r ≡ b → ref_eq (f p) (f r) ≡ ref_eq p r
    go true e = ap (λ y. ref_eq (f p) (f y)) (sym (same_ref p r e)) ∙ self_ref (f p) ∙ sym e
    go false e = re.apart p r h k e ∙ sym e

module _ (ks : List Channel) (procs : List Procedure) (f g : Ref → Ref) where
  role_put : (sc sc' : Scope) → Renames f sc.pid sc'.pid sc.processes sc'.processes → (p : Ref) → IsProcess sc p → (active : List (Ref × NameId)) → AllIn sc.pid sc.processes (firsts active) → role_in (f p) (put_part f active) ≡ role_in p active
  role_put sc sc' r p h [] k = refl
  role_put sc sc' r p h (q ∷ qs) k = rw (tells f sc.pid sc'.pid sc.processes sc'.processes r p q.0 h k.0) (rw (role_put sc sc' r p h qs k.1) refl)

  among_put : (sc sc' : Scope) → Renames f sc.pid sc'.pid sc.processes sc'.processes → (p : Ref) → IsProcess sc p → (rs : List Ref) → AllIn sc.pid sc.processes rs → among (f p) (map f rs) ≡ among p rs
  among_put sc sc' r p h [] k = refl
  among_put sc sc' r p h (q ∷ qs) k = rw (tells f sc.pid sc'.pid sc.processes sc'.processes r p q h k.0) (rw (among_put sc sc' r p h qs k.1) refl)

  pub act_put : (sc sc' : Scope) → Renames f sc.pid sc'.pid sc.processes sc'.processes → Renames g sc.sid sc'.sid sc.sessions sc'.sessions → (p : Ref) → IsProcess sc p → (n : Node) → NodeFits ks sc n → act_of (put_node f g n) (f p) ≡ put_option g (act_of n p)
  act_put sc sc' r s p h (Starts c d k active serve) w = ap (joins c (Named k d)) (role_put sc sc' r p h active w.known) ∙ go (role_in p active)
    where
      go : (o : Option NameId) → joins c (Named k d) o ≡ put_option g (joins c (Named k d) o)
      go None = refl
      go (Some t) = ap (λ y. Some (Joins c t y)) (sym (s.fixed k d w.new_session))
  act_put sc sc' r s p h (Communicates u q a t b w) z = rw (tells f sc.pid sc'.pid sc.processes sc'.processes r p q h z.sender) (rw (tells f sc.pid sc'.pid sc.processes sc'.processes r p t h z.receiver) (rw (received_put g w) (go (ref_eq p q) (ref_eq p t))))
    where
      go : (x y : Bool) → (if x then Some (Puts (g u) a b (put_content g w)) else (if y then Some (Gets (g u) a b (put_received g (received_of w))) else None)) ≡ put_option g (if x then Some (Puts u a b w) else (if y then Some (Gets u a b (received_of w)) else None))
      go true y = refl
      go false true = refl
      go false false = refl
  act_put sc sc' r s p h (InTransit u a b m q) z = rw (tells f sc.pid sc'.pid sc.processes sc'.processes r p q h z.receiver) (go (ref_eq p q))
    where
      go : (y : Bool) → (if y then Some (Gets (Live u) a b (message_received m)) else None) ≡ put_option g (if y then Some (Gets (Live u) a b (message_received m)) else None)
      go true = ap (λ w. Some (Gets w a b (message_received m))) (sym (s.live u)) ∙ ap (λ w. Some (Gets (g (Live u)) a b w)) (message_put g s.live m)
      go false = refl
  act_put sc sc' r s p h (Alone q o) z = rw (tells f sc.pid sc'.pid sc.processes sc'.processes r p q h z.0) (go (ref_eq p q))
    where
      go : (y : Bool) → (if y then Some (Does o) else None) ≡ put_option g (if y then Some (Does o) else None)
      go true = refl
      go false = refl

  -- a fact of places goes over to renamed places
  abbrev Goes' : At → At → Type 0
  Goes' K L = (q : CodeId) (m : SessionMap) → K q m → L q (put_map g m)

  module _ (e : Endpoints) where
    standing_put : (R S : At) (P Q : CodeNode → Type 0) → Goes' R S → (m : SessionMap) → ((c : CodeNode) → P c → Q c) → (o : Standing) → HoldsOf R P o → HoldsOf S Q (put_standing g o)
    standing_put R S P Q i m j Nothing h = h
    standing_put R S P Q i m j (Body q w) h = i q w h
    standing_put R S P Q i m j (Stands c) h = j c h

    act_goes : (R S K L : At) → Goes' R S → Goes' K L → (o : Option Act) → Goes' (follows_act e o R K) (follows_act e (put_option g o) S L)
    act_goes R S K L i j None q m h = j q m h
    act_goes R S K L i j (Some a) q m h =
        subst (λ o. HoldsOf S (λ c. Agrees (put_map g m) c (put_act g a) × HoldsAt L (place_after (put_map g m) c (put_act g a))) o) (sym (stands_put g e (node_at e q) m)) (standing_put R S (λ c. Agrees m c a × HoldsAt K (place_after m c a)) _ i m (λ c w. (agrees_put g m c a w.0, place_put g K L j m c a w.0 w.1)) (standing e (node_at e q) m) h)

    both_goes : (K K' L L' : At) → Goes' K L → Goes' K' L' → (m : SessionMap) (x : Term) (o : Fork) → BothHold K K' m x o → BothHold L L' (put_map g m) x o
    both_goes K K' L L' i j m x NoFork h = h
    both_goes K K' L L' i j m x (Forks y u v) h = (h.0, i u m h.1, j v m h.2)

    test_goes : (x : Term) (R S K K' L L' : At) → Goes' R S → Goes' K L → Goes' K' L' → (b : Bool) → Goes' (follows_test e b x R K K') (follows_test e b x S L L')
    test_goes x R S K K' L L' i j k false q m h = (j q m h.0, k q m h.1)
    test_goes x R S K K' L L' i j k true q m h =
        subst (λ o. HoldsOf S (λ c. BothHold L L' (put_map g m) x (fork_of c)) o) (sym (stands_put g e (node_at e q) m)) (standing_put R S (λ c. BothHold K K' m x (fork_of c)) _ i m (λ c w. both_goes K K' L L' j k m x (fork_of c) w) (standing e (node_at e q) m) h)

    end_goes : (R S : At) → Goes' R S → Goes' (follows_end e R) (follows_end e S)
    end_goes R S i q m h = subst (λ o. HoldsOf S (λ c. c ≡ code.End) o) (sym (stands_put g e (node_at e q) m)) (standing_put R S (λ c. c ≡ code.End) _ i m (λ c w. w) (standing e (node_at e q) m) h)

    module _ (bodies : (sc : Scope) (f : NameId) (d : ℕ) (ps ss : List Ref) (c : Choreography) → body_of (procedure_named procs f) d ps ss ≡ Some c → CallFits procs sc f d ps ss → IsWellFormed ks procs sc c) (renamed : BodiesRenamed ks procs) (p : Ref) where
      abbrev Over : (Choreography → At) → (Choreography → At) → Type 0
      Over R S = (sc sc' : Scope) → Renames f sc.pid sc'.pid sc.processes sc'.processes → Renames g sc.sid sc'.sid sc.sessions sc'.sessions → IsProcess sc p → (c : Choreography) → IsWellFormed ks procs sc c → Goes' (R c) (S (put f g c))

      call_goes : (R S : Choreography → At) → Over R S → (sc sc' : Scope) → Renames f sc.pid sc'.pid sc.processes sc'.processes → Renames g sc.sid sc'.sid sc.sessions sc'.sessions → IsProcess sc p → (h : NameId) (d : ℕ) (ps ss : List Ref) → CallFits procs sc h d ps ss → (b : Bool) → Goes' (follows_call e b (body_of (procedure_named procs h) d ps ss) R) (follows_call e b (put_body f g (body_of (procedure_named procs h) d ps ss)) S)
      call_goes R S i sc sc' r s pr h d ps ss w false q m k = end_goes (R Ends) (S Ends) (i sc sc' r s pr Ends tt) q m k
      call_goes R S i sc sc' r s pr h d ps ss w true q m k = go (body_of (procedure_named procs h) d ps ss) refl k
        where
          go : (o : Option Choreography) → body_of (procedure_named procs h) d ps ss ≡ o → follows_call e true o R q m → follows_call e true (put_body f g o) S q (put_map g m)
          go None b z = z
          go (Some c) b z = i sc sc' r s pr c (bodies sc h d ps ss c b w) q m z

      put_over : (R S : Choreography → At) → Over R S → Over (follows_over e procs p R) (follows_over e procs (f p) S)
      put_over R S i sc sc' r s pr (Then n rest) w q m h =
          subst (λ o. follows_act e o (S (put f g (Then n rest))) (follows_over e procs (f p) S (put f g rest)) q (put_map g m)) (sym (act_put sc sc' r s p pr n w.0)) (act_goes (R (Then n rest)) (S (put f g (Then n rest))) _ _ (i sc sc' r s pr (Then n rest) w) (put_over R S i (scope_after sc n) (scope_after sc' (put_node f g n)) (processes_after ks procs f g sc sc' r n w.0) (sessions_after ks procs f g sc sc' s n w.0) (still_process sc n p pr) rest w.1) (act_of n p) q m h)
      put_over R S i sc sc' r s pr (Either t x c d) w q m h =
          subst (λ b. follows_test e b x (S (put f g (Either t x c d))) (follows_over e procs (f p) S (put f g c)) (follows_over e procs (f p) S (put f g d)) q (put_map g m)) (sym (tells f sc.pid sc'.pid sc.processes sc'.processes r p t pr w.0.0)) (test_goes x (R (Either t x c d)) (S (put f g (Either t x c d))) _ _ _ _ (i sc sc' r s pr (Either t x c d) w) (put_over R S i sc sc' r s pr c w.1) (put_over R S i sc sc' r s pr d w.2) (ref_eq p t) q m h)
      put_over R S i sc sc' r s pr (Calls h d ps ss) w q m k =
          subst (λ b. follows_call e b (body_of (procedure_named procs h) d (map f ps) (map g ss)) S q (put_map g m)) (sym (among_put sc sc' r p pr ps w.processes)) (subst (λ o. follows_call e (among p ps) o S q (put_map g m)) (sym (renamed f g sc sc' r s h d ps ss w)) (call_goes R S i sc sc' r s pr h d ps ss w (among p ps) q m k))
      put_over R S i sc sc' r s pr Ends w q m h = end_goes (R Ends) (S Ends) (i sc sc' r s pr Ends tt) q m h

      pub put_follows : (n : ℕ) → Over (Follows e procs n p) (Follows e procs n (f p))
      put_follows zero sc sc' r s pr c w q m h = tt
      put_follows (suc n) sc sc' r s pr c w q m h = put_over (Follows e procs n p) (Follows e procs n (f p)) (put_follows n) sc sc' r s pr c w q m h
