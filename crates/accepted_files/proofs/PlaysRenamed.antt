-- With the channel's name for its session, a process plays the same roles.
use Rattle.std.proofs.Common.{◌≡◌, ℕ, ◌==◌, Bool, true, false, if◌then◌else◌, List, [], ◌∷◌, Option, Some, None, map, refl, sym, ap, ◌∙◌, subst, arith}
use Rattle.std.proofs.lemmas.Bool.Decides.{nat_tests}
use Rattle.std.proofs.lemmas.Bool.{eqb-true}
use Rattle.chor_base.specs.declared.names.NameId.{NameId}
use Rattle.chor_tree.specs.declared.file.Proc.{Proc}
use Rattle.chor_tree.specs.declared.file.SessionParam.{SessionParam}
use Rattle.chor_semantics.specs.Choreography.{Ref, Live, Named, Content, OfValue, OfLabel, OfPart, Starts, Communicates, InTransit, Alone, Choreography, Then, Either, Calls, Ends, put, put_part, put_content}
use Rattle.projection.specs.Codes.{is_named, role_in, proc_named, param_for}
use Rattle.projection.specs.Projects.{session_as}
use Rattle.accepted_files.proofs.AlongTrees.{self_test}
use Rattle.projection.specs.Renamed.{IsOther, AreOther, IsOtherContent}
use Rattle.accepted_files.specs.FreeSessions.{IsFree}
use Rattle.accepted_files.specs.PlayedRoles.{Roles, with_role, HoldsRole, number, GivesAway, roles_sent, roles_gained, TakesPart}
use Rattle.accepted_files.proofs.Plays.{IsName, AreNames, IsNamedContent, OthersNew, PassesRoles, PlaysPassed, PlaysCall, Plays}

same_refs : (rs : List Ref) → map (λ p. p) rs ≡ rs
same_refs [] = refl
same_refs (r ∷ rs) = ap (λ z. r ∷ z) (same_refs rs)

same_parts : (qs : List (Ref × NameId)) → put_part (λ p. p) qs ≡ qs
same_parts [] = refl
same_parts (q ∷ qs) = ap (λ z. (q.0, q.1) ∷ z) (same_parts qs)

no_test : (x y : ℕ) → (x == y) ≡ false → (y == x) ≡ false
no_test x y h = grind (arith, nat_tests)

module _ (fs : List Proc) (r : NameId) (k a : ℕ) where
  abbrev name : NameId
  name = record { 0 = a }

  abbrev ren : Ref → Ref
  ren = session_as k name

  abbrev Agree : Roles → Roles → Type 0
  Agree g h = ((y : ℕ) → (y == k) ≡ false → (y == a) ≡ false → h y ≡ g y) × (h a ≡ g k)

  at_ref : (g h : Roles) → Agree g h → (u : Ref) → IsName u → IsOther name u → h (number (ren u)) ≡ g (number u)
  at_ref g h w (Live n) i o = absurd i
  at_ref g h w (Named y e) i o = go (y == k) refl
    where
      go : (b : Bool) → (y == k) ≡ b → h (number (if y == k then Named a e else Named y e)) ≡ g y
      go true j = ap (λ c. h (number (if c then Named a e else Named y e))) j ∙ w.1 ∙ ap g (sym (eqb-true y k j))
      go false j = ap (λ c. h (number (if c then Named a e else Named y e))) j ∙ w.0 y j o

  is_name : (u : Ref) → IsName u → IsName (ren u)
  is_name (Live n) i = i
  is_name (Named y e) i = go (y == k)
    where
      go : (b : Bool) → IsName (if b then Named a e else Named y e)
      go true = tt
      go false = tt

  holds_ren : (g h : Roles) → Agree g h → (u : Ref) (t : NameId) → IsName u → IsOther name u → HoldsRole g u t → HoldsRole h (ren u) t
  holds_ren g h w (Live n) t i o v = absurd i
  holds_ren g h w (Named y e) t i o v = go (y == k) refl (at_ref g h w (Named y e) i o)
    where
      go : (b : Bool) → (y == k) ≡ b → h (number (ren (Named y e))) ≡ g y → HoldsRole h (if y == k then Named a e else Named y e) t
      go true j z = subst (λ c. HoldsRole h (if c then Named a e else Named y e) t) (sym j) (sym (ap (λ c. h (number (if c then Named a e else Named y e))) j) ∙ z ∙ v)
      go false j z = subst (λ c. HoldsRole h (if c then Named a e else Named y e) t) (sym j) (sym (ap (λ c. h (number (if c then Named a e else Named y e))) j) ∙ z ∙ v)

  -- a name that is neither
  agree_other : (g h : Roles) (y : ℕ) (o : Option NameId) → (y == k) ≡ false → (y == a) ≡ false → Agree g h → Agree (with_role g y o) (with_role h y o)
  agree_other g h y o i j w = ((λ z u v. go z (y == z) u v), ap (λ c. if c then o else h a) j ∙ w.1 ∙ sym (ap (λ c. if c then o else g k) i))
    where
      go : (z : ℕ) (b : Bool) → (z == k) ≡ false → (z == a) ≡ false → (if b then o else h z) ≡ (if b then o else g z)
      go z true u v = refl
      go z false u v = w.0 z u v

  -- the session's own
  agree_own : (g h : Roles) (o : Option NameId) → Agree g h → Agree (with_role g k o) (with_role h a o)
  agree_own g h o w = (
    (λ z u v. ap (λ c. if c then o else h z) (no_test z a v) ∙ w.0 z u v ∙ sym (ap (λ c. if c then o else g z) (no_test z k u))),
    ap (λ c. if c then o else h a) (self_test a) ∙ sym (ap (λ c. if c then o else g k) (self_test k)),
  )

  agree_ref : (g h : Roles) (u : Ref) (o : Option NameId) → IsName u → IsOther name u → Agree g h → Agree (with_role g (number u) o) (with_role h (number (ren u)) o)
  agree_ref g h (Live n) o i j w = absurd i
  agree_ref g h (Named y e) o i j w = go (y == k) refl
    where
      go : (b : Bool) → (y == k) ≡ b → Agree (with_role g y o) (with_role h (number (if y == k then Named a e else Named y e)) o)
      go true u = subst (λ c. Agree (with_role g y o) (with_role h (number (if c then Named a e else Named y e)) o)) (sym u)
          (subst (λ z. Agree (with_role g z o) (with_role h a o)) (sym (eqb-true y k u)) (agree_own g h o w))
      go false u = subst (λ c. Agree (with_role g y o) (with_role h (number (if c then Named a e else Named y e)) o)) (sym u) (agree_other g h y o u j w)

  named_content : (w : Content) → IsNamedContent w → IsNamedContent (put_content ren w)
  named_content (OfValue e x) i = i
  named_content (OfLabel l) i = i
  named_content (OfPart u t) i = is_name u i

  gives : (g h : Roles) → Agree g h → (w : Content) → IsNamedContent w → IsOtherContent name w → GivesAway g w → GivesAway h (put_content ren w)
  gives g h ag (OfValue e x) i o v = v
  gives g h ag (OfLabel l) i o v = v
  gives g h ag (OfPart u t) i o v = holds_ren g h ag u t i o v

  after_sent : (g h : Roles) → Agree g h → (w : Content) → IsNamedContent w → IsOtherContent name w → Agree (roles_sent g w) (roles_sent h (put_content ren w))
  after_sent g h ag (OfValue e x) i o = ag
  after_sent g h ag (OfLabel l) i o = ag
  after_sent g h ag (OfPart u t) i o = agree_ref g h u None i o ag

  after_gained : (g h : Roles) → Agree g h → (w : Content) → IsNamedContent w → IsOtherContent name w → Agree (roles_gained g w) (roles_gained h (put_content ren w))
  after_gained g h ag (OfValue e x) i o = ag
  after_gained g h ag (OfLabel l) i o = ag
  after_gained g h ag (OfPart u t) i o = agree_ref g h u (Some t) i o ag

  both : (g h : Roles) → Agree g h → (u : Ref) (c b : NameId) (w : Content) → IsName u → IsOther name u → IsNamedContent w → IsOtherContent name w → (K L : Roles → Type 0) → ((g h : Roles) → Agree g h → K g → L h) → (i j : Bool)
      → TakesPart i j g u c b w K → TakesPart i j h (ren u) c b (put_content ren w) L
  both g h ag u c b w n o m p K L more true j v = (holds_ren g h ag u c n o v.0, gives g h ag w m p v.1, more (roles_sent g w) (roles_sent h (put_content ren w)) (after_sent g h ag w m p) v.2)
  both g h ag u c b w n o m p K L more false true v = (holds_ren g h ag u b n o v.0, more (roles_gained g w) (roles_gained h (put_content ren w)) (after_gained g h ag w m p) v.1)
  both g h ag u c b w n o m p K L more false false v = more g h ag v

  passes : (g h : Roles) → Agree g h → (p : NameId) (ks : List SessionParam) (ss : List Ref) → AreOther name ss → PassesRoles g p ks ss → PassesRoles h p ks (map ren ss)
  passes g h ag p [] [] o v = v
  passes g h ag p [] (s ∷ ss) o v = v
  passes g h ag p (q ∷ qs) [] o v = v
  passes g h ag p (q ∷ qs) (s ∷ ss) o v = (is_name s v.0, (λ i. at_ref g h ag s v.0 o.0 ∙ v.1 i), passes g h ag p qs ss o.1 v.2)

  call_plays : (g h : Roles) → Agree g h → (ps ss : List Ref) → AreOther name ss → (x : Option Proc) → PlaysCall r ps ss g x → PlaysCall r ps (map ren ss) h x
  call_plays g h ag ps ss o None v = v
  call_plays g h ag ps ss o (Some x) v = go (param_for r x.params ps) v
    where
      go : (q : Option NameId) → PlaysPassed r ps ss g x q → PlaysPassed r ps (map ren ss) h x q
      go None v = v
      go (Some p) v = (v.0, passes g h ag p x.sessions ss o v.1)

  pub plays_renamed : (c : Choreography) → IsFree k name c → (g h : Roles) → Agree g h → Plays fs r c g → Plays fs r (put (λ p. p) ren c) h
  plays_renamed (Then (Starts c0 e0 s act srv) rest) o g h ag v =
      let w = plays_renamed rest o.2 (with_role g s (role_in r act)) (with_role h s (role_in r act)) (agree_other g h s (role_in r act) o.0 o.1 ag) v.2 in
      subst (λ z. AreNames z × OthersNew r srv × Plays fs r (put (λ p. p) ren rest) (with_role h s (role_in r z))) (sym (same_parts act)) (v.0, v.1, w)
  plays_renamed (Then (Communicates u p c q b w) rest) o g h ag v =
      (is_name u v.0, v.1, v.2, named_content w v.3, both g h ag u c b w v.0 o.0 v.3 o.1 (Plays fs r rest) (Plays fs r (put (λ p. p) ren rest)) (λ g h ag x. plays_renamed rest o.2 g h ag x) (is_named r p) (is_named r q) v.4)
  plays_renamed (Then (InTransit s b d m q) rest) o g h ag v = absurd v
  plays_renamed (Then (Alone p own) rest) o g h ag v = (v.0, plays_renamed rest o g h ag v.1)
  plays_renamed (Either p x c d) o g h ag v = (v.0, plays_renamed c o.0 g h ag v.1, plays_renamed d o.1 g h ag v.2)
  plays_renamed (Calls f e ps ss) o g h ag v = subst (λ z. PlaysCall r z (map ren ss) h (proc_named fs f)) (sym (same_refs ps)) (call_plays g h ag ps ss o (proc_named fs f) v)
  plays_renamed Ends o g h ag v = tt
