-- What stands where the head of a choreography makes an event.
use Rattle.std.proofs.Common.{◌≡◌, ℕ, List, [], ◌∷◌, ◌++◌, length, Option, Some, None, refl, subst, ap, sym, ℤ, if◌then◌else◌}
use Rattle.chor_base.specs.declared.names.NameId.{NameId}
use Rattle.chor_base.specs.declared.event.Event.{Event}
use Rattle.chor_base.specs.declared.event.Event.TheVariants.{Start, Send, Recv, Test, Set, Show, Host}
use Rattle.chor_base.specs.Expr.{Term, value_of, number_of, truth_of}
use Rattle.chor_base.specs.NameMap.{Variables}
use Rattle.chor_semantics.specs.Choreography.{Ref, Live, Named, Content, Message, Own, Sets, Shows, Asks, Node, Starts, Communicates, InTransit, Alone, Choreography, Then, put, numbers_for, number_for}
use Rattle.chor_semantics.specs.Steps.{Effect, Keeps, Makes, head_makes, branch_makes, sent, alone, begun, live_parts, new_parts, message_of, load_of, receipt, vars_of}
use Rattle.well_formed.proofs.References.{NotStart, actor_of}

-- a communication is sent, a message received, a statement done, or a session started
pub data Headed (vars : List Variables) (sid : ℕ) (v : ℤ) (n : Node) (c : Choreography) (x : Event) (f : Effect) (d : Choreography) : Type 0 where
  sends : (s p : ℕ) (a b : NameId) (q : Ref) (w : Content) (m : Message) → n ≡ Communicates (Live s) (Live p) a q b w → message_of (vars_of vars p) w ≡ Some m
      → x ≡ Send p s a b (load_of m) → f ≡ Keeps → d ≡ Then (InTransit s a b m q) c → Headed vars sid v n c x f d
  gets : (s q : ℕ) (a b : NameId) (m : Message) → n ≡ InTransit s a b m (Live q) → x ≡ Recv q s a b (load_of m) → f ≡ receipt q m → d ≡ c → Headed vars sid v n c x f d
  owns : (p : ℕ) (o : Own) → n ≡ Alone (Live p) o → Makes x f d ≡ alone (vars_of vars p) p v o c → Headed vars sid v n c x f d
  starts : (ch : NameId) (k s : ℕ) (active : List (Ref × NameId)) (serve : List (ℕ × NameId)) (q : NameId × ℕ) (ps : List (NameId × ℕ)) → n ≡ Starts ch k s active serve → live_parts active ≡ Some (q ∷ ps)
      → x ≡ Start ch sid (q ∷ (ps ++ new_parts serve (length vars))) → f ≡ Keeps → d ≡ put (numbers_for k serve (length vars)) (number_for s k sid) c → Headed vars sid v n c x f d

module _ (vars : List Variables) (sid : ℕ) (v : ℤ) where
  pub headed : (n : Node) (c : Choreography) (x : Event) (f : Effect) (d : Choreography) → head_makes vars sid v n c ≡ Some (Makes x f d) → Headed vars sid v n c x f d
  headed (Communicates (Live s) (Live p) a q b w) c x f d h = go (message_of (vars_of vars p) w) refl h
    where
      go : (o : Option Message) → message_of (vars_of vars p) w ≡ o → sent s p a q b c o ≡ Some (Makes x f d) → Headed vars sid v (Communicates (Live s) (Live p) a q b w) c x f d
      go None e i = absurd cc
      go (Some m) e i = sends s p a b q w m refl e (cc) (cc) (cc)
  headed (Communicates (Live s) (Named p k) a q b w) c x f d h = absurd cc
  headed (Communicates (Named s k) p a q b w) c x f d h = absurd cc
  headed (InTransit s a b m (Live q)) c x f d h = gets s q a b m refl (cc) (cc) (cc)
  headed (InTransit s a b m (Named q k)) c x f d h = absurd cc
  headed (Alone (Live p) o) c x f d h = owns p o refl (cc)
  headed (Alone (Named p k) o) c x f d h = absurd cc
  headed (Starts ch k s active serve) c x f d h = go (live_parts active) refl h
    where
      go : (o : Option (List (NameId × ℕ))) → live_parts active ≡ o → begun ch k s serve c sid (length vars) o ≡ Some (Makes x f d) → Headed vars sid v (Starts ch k s active serve) c x f d
      go None e i = absurd cc
      go (Some []) e i = absurd cc
      go (Some (q ∷ ps)) e i = starts ch k s active serve q ps refl e (cc) (cc) (cc)

  -- a statement's event is its process's, no start, and leaves the rest
  pub owned_event : (m : Variables) (p : ℕ) (o : Own) (c d : Choreography) (x : Event) (f : Effect) → Makes x f d ≡ alone m p v o c → NotStart x × (actor_of x ≡ p) × (d ≡ c)
  owned_event m p (Sets y e) c d x f h = let i : x ≡ Set p y (value_of e m) = cc in (subst NotStart (sym i) tt, ap actor_of i, cc)
  owned_event m p (Shows e) c d x f h = let i : x ≡ Show p (value_of e m) = cc in (subst NotStart (sym i) tt, ap actor_of i, cc)
  owned_event m p (Asks y g a b) c d x f h = let i : x ≡ Host p y g (number_of (value_of a m)) (number_of (value_of b m)) v = cc in (subst NotStart (sym i) tt, ap actor_of i, cc)

-- a conditional that makes an event is a live process's test
pub record Decided (vars : List Variables) (r : Ref) (e : Term) (c c' : Choreography) (x : Event) (f : Effect) (d : Choreography) : Type 0 where
  pub p : ℕ
  pub is : r ≡ Live p
  pub event : x ≡ Test p (truth_of (value_of e (vars_of vars p)))
  pub keeps : f ≡ Keeps
  pub left : d ≡ (if truth_of (value_of e (vars_of vars p)) then c else c')

pub decided : (vars : List Variables) (r : Ref) (e : Term) (c c' : Choreography) (x : Event) (f : Effect) (d : Choreography) → branch_makes vars r e c c' ≡ Some (Makes x f d) → Decided vars r e c c' x f d
decided vars (Live p) e c c' x f d h = record { p = p; is = refl; event = cc; keeps = cc; left = cc }
decided vars (Named y k) e c c' x f d h = absurd cc
