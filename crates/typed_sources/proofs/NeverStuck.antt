-- A typed choreography in which nothing but numbers is in scope has ended, or its head can make a step.
use Rattle.std.proofs.Common.{◌≡◌, ℕ, List, [], ◌∷◌, ◌++◌, map, length, refl, ap, Some, None, Option, true, false, ◌⊎◌, inl, inr, pos, if◌then◌else◌}
use Rattle.chor_base.specs.declared.names.NameId.{NameId}
use Rattle.chor_base.specs.declared.value.Value.TheVariants.{Int}
use Rattle.chor_base.specs.declared.event.Event.TheVariants.{Start, Send, Recv, Test, Set, Show, Host}
use Rattle.chor_base.specs.Expr.{Term, value_of, number_of, truth_of}
use Rattle.chor_base.specs.NameMap.{Variables}
use Rattle.chor_base.specs.Meaning.{Hosts}
use Rattle.chor_tree.specs.declared.protocol.State.{State}
use Rattle.chor_semantics.specs.Choreography.{Ref, Live, Named, OfValue, OfLabel, OfPart, ValueSent, LabelSent, PartSent, Sets, Shows, Asks, Node, Starts, Communicates, InTransit, Alone, Choreography, Then, Either, Calls, Ends, put, number_for, numbers_for}
use Rattle.chor_semantics.specs.Sources.{Procedure}
use Rattle.chor_semantics.specs.Steps.{Keeps, Assigns, Made, begun, head, test, unfolded, load_of, receipt, live_parts, with_live, new_parts, vars_of, procedure_named, body_of}
use Rattle.chor_semantics.specs.Runs.{IsTerminated, ended, nobody, quiet, called}
use Rattle.typed_sources.specs.Context.{Context}
use Rattle.typed_sources.specs.Typing.{AtCalls, IsTypedIn, AllKnown}
use Rattle.well_formed.specs.Asked.{AllAsked, CanAnswer}
use Rattle.typed_sources.specs.Going.{CanStep, IsNoCall}

-- nothing but numbers is in scope
pub record IsBare (e : Context) : Type 0 where
  pub no_process : (x d : ℕ) → e.known (Named x d) ≡ false
  pub no_session : (x d : ℕ) (a : NameId) → e.holder (Named x d) a ≡ None

module _ (kind : NameId → Option NameId) (states : NameId → List State) (at_call : AtCalls) (procs : List Procedure) (hosts : Hosts) (vars : List Variables) (sid : ℕ)
  where
    abbrev Goes : Choreography → Type 0
    Goes c = CanStep procs hosts vars sid c

    all_live : (e : Context) → IsBare e → (active : List (Ref × NameId)) → AllKnown e.known (map (λ q. q.0) active) → (qs : List (NameId × ℕ)) × (live_parts active ≡ Some qs)
    all_live e r [] k = ([], refl)
    all_live e r ((Live n, a) ∷ qs) k = let i = all_live e r qs k.1 in ((a, n) ∷ i.0, ap (with_live (Live n) a) i.1)
    all_live e r ((Named x d, a) ∷ qs) k = let i : e.known (Named x d) ≡ false = r.no_process x d in let j : e.known (Named x d) ≡ true = k.0 in absurd cc

    at_head : (e : Context) → IsBare e → (n : Node) (c : Choreography) → AllAsked (CanAnswer hosts) (Then n c) → IsTypedIn kind states at_call e (Then n c) → Goes (Then n c)
    at_head e r (Communicates (Live s) (Live p) a q b (OfValue g x)) c asks t = record { event = Send p s a b (load_of (ValueSent (value_of g (vars_of vars p)) x)); effect = Keeps; left = Then (InTransit s a b (ValueSent (value_of g (vars_of vars p)) x) q) c; moves = head (pos 0) tt refl }
    at_head e r (Communicates (Live s) (Live p) a q b (OfLabel l)) c asks t = record { event = Send p s a b (load_of (LabelSent l)); effect = Keeps; left = Then (InTransit s a b (LabelSent l) q) c; moves = head (pos 0) tt refl }
    at_head e r (Communicates (Live s) (Live p) a q b (OfPart (Live j) z)) c asks t = record { event = Send p s a b (load_of (PartSent j z)); effect = Keeps; left = Then (InTransit s a b (PartSent j z) q) c; moves = head (pos 0) tt refl }
    at_head e r (Communicates (Live s) (Live p) a q b (OfPart (Named x d) z)) c asks (k, f, t) =
        let u : e.holder (Named x d) z ≡ None = r.no_session x d z in let v : e.holder (Named x d) z ≡ Some (Live p) = f.3.0 in absurd cc
    at_head e r (Communicates (Named y c') p a q b w) c asks (k, f, t) =
        let u : e.holder (Named y c') a ≡ None = r.no_session y c' a in let v : e.holder (Named y c') a ≡ Some p = f.0 in absurd cc
    at_head e r (Communicates (Live s) (Named x d) a q b w) c asks (k, f, t) =
        let u : e.known (Named x d) ≡ false = r.no_process x d in let v : e.known (Named x d) ≡ true = k.0 in absurd cc
    at_head e r (InTransit s a b m (Live q)) c asks t = record { event = Recv q s a b (load_of m); effect = receipt q m; left = c; moves = head (pos 0) tt refl }
    at_head e r (InTransit s a b m (Named x d)) c asks (k, f, t) =
        let u : e.known (Named x d) ≡ false = r.no_process x d in let v : e.known (Named x d) ≡ true = k.0 in absurd cc
    at_head e r (Alone (Live p) (Sets x g)) c asks t = record { event = Set p x (value_of g (vars_of vars p)); effect = Assigns p x (value_of g (vars_of vars p)); left = c; moves = head (pos 0) tt refl }
    at_head e r (Alone (Live p) (Shows g)) c asks t = record { event = Show p (value_of g (vars_of vars p)); effect = Keeps; left = c; moves = head (pos 0) tt refl }
    at_head e r (Alone (Live p) (Asks x f a b)) c asks t =
        let v = asks.0 (number_of (value_of a (vars_of vars p))) (number_of (value_of b (vars_of vars p))) in
        record { event = Host p x f (number_of (value_of a (vars_of vars p))) (number_of (value_of b (vars_of vars p))) v.0; effect = Assigns p x (Int v.0); left = c; moves = head v.0 v.1 refl }
    at_head e r (Alone (Named x d) o) c asks (k, f, t) =
        let u : e.known (Named x d) ≡ false = r.no_process x d in let v : e.known (Named x d) ≡ true = k.0 in absurd cc
    at_head e r (Starts ch d k [] serve) c asks (n, f, t) = elim f.3 [ ]
    at_head e r (Starts ch d k ((Named x c', a) ∷ qs) serve) c asks (n, f, t) =
        let u : e.known (Named x c') ≡ false = r.no_process x c' in let v : e.known (Named x c') ≡ true = n.0 in absurd cc
    at_head e r (Starts ch d k ((Live p, a) ∷ qs) serve) c asks (n, f, t) =
        let l = all_live e r qs n.1 in
        record {
          event = Start ch sid ((a, p) ∷ (l.0 ++ new_parts serve (length vars)));
          effect = Keeps;
          left = put (numbers_for d serve (length vars)) (number_for k d sid) c;
          moves = head (pos 0) tt (ap (λ o. begun_with ch d k serve c o) (ap (with_live (Live p) a) l.1));
        }
      where
        begun_with : NameId → ℕ → ℕ → List (ℕ × NameId) → Choreography → Option (List (NameId × ℕ)) → Option Made
        begun_with ch d k serve c o = begun ch d k serve c sid (length vars) o

    at_test : (e : Context) → IsBare e → (p : Ref) (g : Term) (c d : Choreography) → e.known p ≡ true → Goes (Either p g c d)
    at_test e r (Live p) g c d k =
        let b = truth_of (value_of g (vars_of vars p)) in record { event = Test p b; effect = Keeps; left = if b then c else d; moves = test refl }
    at_test e r (Named x y) g c d k = let u : e.known (Named x y) ≡ false = r.no_process x y in absurd cc

    -- the body of a call, with numbers for its parameters
    body_steps : (e : Context) → IsBare e → (h : NameId) (k : ℕ) (ps ss : List Ref) (c : Choreography) → body_of (procedure_named procs h) k ps ss ≡ Some c → IsNoCall c → AllAsked (CanAnswer hosts) c → IsTypedIn kind states at_call e c
        → IsTerminated procs (Calls h k ps ss) ⊎ Goes (Calls h k ps ss)
    body_steps e r h k ps ss (Then n c) is nc as' t = let g = at_head e r n c as' t in inr (record { event = g.event; effect = g.effect; left = g.left; moves = unfolded is g.moves })
    body_steps e r h k ps ss (Either p x c d) is nc as' t = let g = at_test e r p x c d t.0 in inr (record { event = g.event; effect = g.effect; left = g.left; moves = unfolded is g.moves })
    body_steps e r h k ps ss (Calls g l [] us) is nc as' t = inl (called is nobody)
    body_steps e r h k ps ss (Calls g l (p ∷ qs) us) is nc as' t = elim nc [ ]
    body_steps e r h k ps ss Ends is nc as' t = inl (called is ended)

    -- Nothing is left to happen, or something can happen at the head
    pub never_stuck : (e : Context) → IsBare e → (c : Choreography) → AllAsked (CanAnswer hosts) c → IsTypedIn kind states at_call e c
        → ((h : NameId) (k : ℕ) (ps ss : List Ref) → at_call e h k ps ss → (b : Choreography) × (body_of (procedure_named procs h) k ps ss ≡ Some b) × IsNoCall b × AllAsked (CanAnswer hosts) b × IsTypedIn kind states at_call e b)
        → IsTerminated procs c ⊎ Goes c
    never_stuck e r (Then n c) as' t bodies = inr (at_head e r n c as' t)
    never_stuck e r (Either p g c d) as' t bodies = inr (at_test e r p g c d t.0)
    never_stuck e r (Calls h k ps ss) as' t bodies = let b = bodies h k ps ss t in body_steps e r h k ps ss b.0 b.1 b.2 b.3 b.4
    never_stuck e r Ends as' t bodies = inl (quiet ended)
