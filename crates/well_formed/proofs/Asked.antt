-- The host functions that a choreography asks stay those that it asked before.
use Rattle.std.proofs.Common.{◌≡◌, ℕ, suc, List, [], ◌∷◌, ◌++◌, length, subst, Some, None, Option, Bool, true, false, ℤ, if◌then◌else◌, refl}
use Rattle.chor_base.specs.declared.names.NameId.{NameId}
use Rattle.chor_base.specs.declared.event.Event.{Event}
use Rattle.chor_base.specs.declared.event.Event.TheVariants.{Start, Send, Recv, Test}
use Rattle.chor_base.specs.Expr.{Term, value_of, truth_of}
use Rattle.chor_base.specs.NameMap.{Variables}
use Rattle.chor_base.specs.Meaning.{Hosts}
use Rattle.chor_semantics.specs.Choreography.{Ref, Live, Named, Message, Sets, Shows, Asks, Node, Starts, Communicates, InTransit, Alone, Choreography, Then, Either, Calls, Ends, put, numbers_for, number_for, instance_of, bound, bound_served}
use Rattle.chor_semantics.specs.Sources.{Procedure, Configuration}
use Rattle.chor_semantics.specs.Steps.{Effect, Keeps, Made, Makes, Moves, head, test, delay, both, unfolded, head_makes, branch_makes, vars_of, message_of, load_of, receipt, sent, live_parts, begun, alone, new_parts, procedure_named, bound_all, body_of}
use Rattle.chor_semantics.specs.Runs.{Leads}
use Rattle.well_formed.specs.Asked.{AllAsked}

module _ (A : NameId → Type 0) where
  pub asked_put : (f g : Ref → Ref) (c : Choreography) → AllAsked A c → AllAsked A (put f g c)
  asked_put f g (Then (Starts c d k active serve) rest) a = asked_put f g rest a
  asked_put f g (Then (Communicates s p x q y w) rest) a = asked_put f g rest a
  asked_put f g (Then (InTransit s x y m q) rest) a = asked_put f g rest a
  asked_put f g (Then (Alone p (Sets x e)) rest) a = asked_put f g rest a
  asked_put f g (Then (Alone p (Shows e)) rest) a = asked_put f g rest a
  asked_put f g (Then (Alone p (Asks x h y z)) rest) a = (a.0, asked_put f g rest a.1)
  asked_put f g (Either p e c d) a = (asked_put f g c a.0, asked_put f g d a.1)
  asked_put f g (Calls h k ps ss) a = tt
  asked_put f g Ends a = tt

  pub asked_instance : (d : ℕ) (f g : ℕ → Ref) (c : Choreography) → AllAsked A c → AllAsked A (instance_of d f g c)
  asked_instance d f g (Then (Starts c e k active serve) rest) a = asked_instance d (bound_served d serve f) (bound k (Named k d) g) rest a
  asked_instance d f g (Then (Communicates s p x q y w) rest) a = asked_instance d f g rest a
  asked_instance d f g (Then (InTransit s x y m q) rest) a = asked_instance d f g rest a
  asked_instance d f g (Then (Alone p (Sets x e)) rest) a = asked_instance d f g rest a
  asked_instance d f g (Then (Alone p (Shows e)) rest) a = asked_instance d f g rest a
  asked_instance d f g (Then (Alone p (Asks x h y z)) rest) a = (a.0, asked_instance d f g rest a.1)
  asked_instance d f g (Either p e c c') a = (asked_instance d f g c a.0, asked_instance d f g c' a.1)
  asked_instance d f g (Calls h k ps ss) a = tt
  asked_instance d f g Ends a = tt

  -- what holds of each host function that procedures ask holds of each that the bodies of their calls ask
  pub asked_bodies : (procs : List Procedure) → ((h : NameId) (p : Procedure) → procedure_named procs h ≡ Some p → AllAsked A p.body) → (h : NameId) (k : ℕ) (ps ss : List Ref) (c : Choreography) → body_of (procedure_named procs h) k ps ss ≡ Some c → AllAsked A c
  asked_bodies procs asked h k ps ss c i = go (procedure_named procs h) refl i
    where
      go : (o : Option Procedure) → procedure_named procs h ≡ o → body_of o k ps ss ≡ Some c → AllAsked A c
      go None j i = absurd cc
      go (Some p) j i =
          let same : instance_of (suc k) (bound_all (suc k) p.params ps) (bound_all (suc k) p.sessions ss) p.body ≡ c = cc in
          subst (AllAsked A) same (asked_instance (suc k) (bound_all (suc k) p.params ps) (bound_all (suc k) p.sessions ss) p.body (asked h p j))

  below : (n : Node) (c : Choreography) → AllAsked A (Then n c) → AllAsked A c
  below (Starts ch d k active serve) c a = a
  below (Communicates s p x q y w) c a = a
  below (InTransit s x y m q) c a = a
  below (Alone p (Sets x e)) c a = a
  below (Alone p (Shows e)) c a = a
  below (Alone p (Asks x h y z)) c a = a.1

  above : (n : Node) (c d : Choreography) → AllAsked A (Then n c) → AllAsked A d → AllAsked A (Then n d)
  above (Starts ch e k active serve) c d a b = b
  above (Communicates s p x q y w) c d a b = b
  above (InTransit s x y m q) c d a b = b
  above (Alone p (Sets x e)) c d a b = b
  above (Alone p (Shows e)) c d a b = b
  above (Alone p (Asks x h y z)) c d a b = (a.0, b)

  module _ (procs : List Procedure) (hosts : Hosts) (bodies : (h : NameId) (k : ℕ) (ps ss : List Ref) (c : Choreography) → body_of (procedure_named procs h) k ps ss ≡ Some c → AllAsked A c) where
    abbrev Left : Made → Type 0
    Left (Makes x f d) = AllAsked A d

    made_is : (a b : Made) → Some a ≡ Some b → a ≡ b
    made_is a b h = cc

    module _ (vars : List Variables) (sid : ℕ) where
      at_head : (v : ℤ) (n : Node) (c : Choreography) (m : Made) → AllAsked A c → head_makes vars sid v n c ≡ Some m → Left m
      at_head v (Communicates (Live s) (Live p) a q b w) c m i h = go (message_of (vars_of vars p) w) h
        where
          go : (o : Option Message) → sent s p a q b c o ≡ Some m → Left m
          go None j = absurd cc
          go (Some y) j = subst Left (made_is (Makes (Send p s a b (load_of y)) Keeps (Then (InTransit s a b y q) c)) m j) i
      at_head v (Communicates (Live s) (Named x d) a q b w) c m i h = absurd cc
      at_head v (Communicates (Named y d) p a q b w) c m i h = absurd cc
      at_head v (InTransit s a b y (Live p)) c m i h = subst Left (made_is (Makes (Recv p s a b (load_of y)) (receipt p y) c) m h) i
      at_head v (InTransit s a b y (Named x d)) c m i h = absurd cc
      at_head v (Alone (Live p) (Sets x g)) c m i h = subst Left (made_is (alone (vars_of vars p) p v (Sets x g) c) m h) i
      at_head v (Alone (Live p) (Shows g)) c m i h = subst Left (made_is (alone (vars_of vars p) p v (Shows g) c) m h) i
      at_head v (Alone (Live p) (Asks x g a b)) c m i h = subst Left (made_is (alone (vars_of vars p) p v (Asks x g a b) c) m h) i
      at_head v (Alone (Named x d) o) c m i h = absurd cc
      at_head v (Starts ch d k active serve) c m i h = go (live_parts active) h
        where
          go : (o : Option (List (NameId × ℕ))) → begun ch d k serve c sid (length vars) o ≡ Some m → Left m
          go None j = absurd cc
          go (Some []) j = absurd cc
          go (Some (q ∷ ps)) j = subst Left (made_is (Makes (Start ch sid (q ∷ (ps ++ new_parts serve (length vars)))) Keeps (put (numbers_for d serve (length vars)) (number_for k d sid) c)) m j)
              (asked_put (numbers_for d serve (length vars)) (number_for k d sid) c i)

      at_test : (p : Ref) (g : Term) (c d : Choreography) (m : Made) → AllAsked A c → AllAsked A d → branch_makes vars p g c d ≡ Some m → Left m
      at_test (Named x k) g c d m i j h = absurd cc
      at_test (Live p) g c d m i j h = let b = truth_of (value_of g (vars_of vars p)) in subst Left (made_is (Makes (Test p b) Keeps (if b then c else d)) m h) (go b)
        where
          go : (b : Bool) → AllAsked A (if b then c else d)
          go true = i
          go false = j

      pub asked_kept : {c d : Choreography} {x : Event} {f : Effect} → Moves procs hosts vars sid c x f d → AllAsked A c → AllAsked A d
      asked_kept (head {n = n} {c = c} {d = d} {e = x} {f = f} v a h) i = at_head v n c (Makes x f d) (below n c i) h
      asked_kept (test {p = p} {x = g} {c = c} {c' = c'} {d = d} {e = x} {f = f} h) i = at_test p g c c' (Makes x f d) i.0 i.1 h
      asked_kept (delay {n = n} {c = c} {d = d} g m) i = above n c d i (asked_kept m (below n c i))
      asked_kept (both h m n) i = (asked_kept m i.0, asked_kept n i.1)
      asked_kept (unfolded {h = h} {k = k} {ps = ps} {ss = ss} {c = c} b m) i = asked_kept m (bodies h k ps ss c b)

    pub asked_along : (h : List Event) (old last : Configuration) → Leads procs hosts old h last → AllAsked A old.tree → AllAsked A last.tree
    asked_along [] old last l a = subst (λ c. AllAsked A c.tree) l a
    asked_along (x ∷ xs) old last l a = asked_along xs l.0 last l.2 (asked_kept old.vars old.sid l.1.moves a)
