-- A choreography and an event have one next choreography at most.
use Rattle.std.proofs.Common.{◌≡◌, ℕ, true, false, List, [], ◌∷◌, ◌++◌, refl, sym, ap, ◌∙◌, Option, Some, None, subst, ℤ, arith}
use Rattle.std.specs.Prelude.{◌||◌, ◌==◌, map, length}
use Rattle.std.proofs.lemmas.Bool.Decides.{nat_tests}
use Rattle.chor_base.specs.declared.event.Event.{Event}
use Rattle.chor_base.specs.declared.event.Event.TheVariants.{Start, Send, Recv, Test, Set, Show, Host}
use Rattle.chor_base.specs.declared.names.NameId.{NameId}
use Rattle.chor_base.specs.Expr.{Term, value_of, number_of, truth_of}
use Rattle.chor_base.specs.NameMap.{Variables}
use Rattle.chor_base.specs.Meaning.{Hosts}
use Rattle.chor_base.specs.Events.{actors_of}
use Rattle.chor_semantics.specs.Choreography.{Ref, Live, Named, Choreography, Then, Node, Starts, Communicates, InTransit, Alone, Own, Sets, Shows, Asks, Message, meets, among, named_in}
use Rattle.chor_semantics.specs.Sources.{Procedure, Configuration}
use Rattle.chor_semantics.specs.Steps.{Effect, Makes, Moves, head, test, delay, both, unfolded, head_makes, branch_makes, vars_of, load_of, live_parts, with_live, sent, begun, alone, new_parts, Steps, vars_after}

among_self : (n : ℕ) (rs : List Ref) → among (Live n) (Live n ∷ rs) ≡ true
among_self n rs = grind (arith, nat_tests)

sent_by : (s p : ℕ) (a b : NameId) (q : Ref) (rest : Choreography) (o : Option Message) (e : Event) (f : Effect) (d : Choreography) → sent s p a q b rest o ≡ Some (Makes e f d) → actors_of e ≡ p ∷ []
sent_by s p a b q rest None e f d h = absurd cc
sent_by s p a b q rest (Some m) e f d h = let i : Send p s a b (load_of m) ≡ e = cc in ap actors_of (sym i)

alone_by : (m : Variables) (p : ℕ) (v : ℤ) (o : Own) (rest : Choreography) (e : Event) (f : Effect) (d : Choreography) → alone m p v o rest ≡ Makes e f d → actors_of e ≡ p ∷ []
alone_by m p v (Sets x g) rest e f d h = let i : Set p x (value_of g m) ≡ e = cc in ap actors_of (sym i)
alone_by m p v (Shows g) rest e f d h = let i : Show p (value_of g m) ≡ e = cc in ap actors_of (sym i)
alone_by m p v (Asks x g a b) rest e f d h = let i : Host p x g (number_of (value_of a m)) (number_of (value_of b m)) v ≡ e = cc in ap actors_of (sym i)

true_eq : (n : ℕ) → (n == n) ≡ true
true_eq n = grind (arith, nat_tests)

-- the first of a start's processes is named there
first_live : (active : List (Ref × NameId)) (r : NameId) (n : ℕ) (ps : List (NameId × ℕ)) → live_parts active ≡ Some ((r, n) ∷ ps) → among (Live n) (map (λ p. p.0) active) ≡ true
first_live [] r n ps h = absurd cc
first_live ((Named x d, a) ∷ rest) r n ps h = absurd cc
first_live ((Live m, a) ∷ rest) r n ps h = go (live_parts rest) h
  where
    go : (o : Option (List (NameId × ℕ))) → with_live (Live m) a o ≡ Some ((r, n) ∷ ps) → (n == m || among (Live n) (map (λ p. p.0) rest)) ≡ true
    go None k = absurd cc
    go (Some qs) k = let i : ◌≡◌ {A = NameId × ℕ} (a, m) (r, n) = cc in rw (ap (λ x. x.1) (sym i)) (rw (true_eq m) refl)

meets_one : (es : List ℕ) (p : ℕ) (rs : List Ref) → es ≡ p ∷ [] → meets es (Live p ∷ rs) ≡ false → ⊥
meets_one es p rs h g = let i : meets es (Live p ∷ rs) ≡ true = rw h (rw among_self refl) in cc

module _ (vars : List Variables) (sid : ℕ) where
  -- the answer of a host function is in the event
  heads_agree : (n : Node) (c d d' : Choreography) (e : Event) (f f' : Effect) (v w : ℤ) → head_makes vars sid v n c ≡ Some (Makes e f d) → head_makes vars sid w n c ≡ Some (Makes e f' d') → (f ≡ f') × (d ≡ d')
  heads_agree (Alone (Live p) (Asks x g a b)) c d d' e f f' v w h k = (cc, cc)
  heads_agree n c d d' e f f' v w h k = (cc, cc)

  -- who makes an event is named at the head
  pub head_names : (n : Node) (c d : Choreography) (e : Event) (f : Effect) (v : ℤ) → head_makes vars sid v n c ≡ Some (Makes e f d) → meets (actors_of e) (named_in n) ≡ false → ⊥
  head_names (Communicates (Live s) (Live p) a q b w) c d e f v h g = meets_one _ p _ (sent_by s p a b q c _ e f d h) g
  head_names (Communicates (Live s) (Named p k) a q b w) c d e f v h g = cc
  head_names (Communicates (Named s k) p a q b w) c d e f v h g = cc
  head_names (InTransit s a b m (Live q)) c d e f v h g = let i : Recv q s a b (load_of m) ≡ e = cc in meets_one _ q [] (ap actors_of (sym i)) g
  head_names (InTransit s a b m (Named q k)) c d e f v h g = cc
  head_names (Alone (Live p) o) c d e f v h g = meets_one _ p [] (alone_by (vars_of vars p) p v o c e f d cc) g
  head_names (Alone (Named p k) o) c d e f v h g = cc
  head_names (Starts k j s active serve) c d e f v h g = go (live_parts active) refl h
    where
      go : (o : Option (List (NameId × ℕ))) → live_parts active ≡ o → begun k j s serve c sid (length vars) o ≡ Some (Makes e f d) → ⊥
      go None i j = absurd cc
      go (Some []) i j = absurd cc
      go (Some ((r, n) ∷ ps)) i j =
          let is : Start k sid ((r, n) ∷ (ps ++ new_parts serve (length vars))) ≡ e = cc in
          let t : meets (actors_of e) (map (λ p. p.0) active) ≡ true = rw (← is, first_live active r n ps i) refl in
          cc

  pub branch_names : (p : Ref) (x : Term) (c c' d : Choreography) (e : Event) (f : Effect) → branch_makes vars p x c c' ≡ Some (Makes e f d) → meets (actors_of e) (p ∷ []) ≡ false → ⊥
  branch_names (Live p) x c c' d e f h g = let i : Test p (truth_of (value_of x (vars_of vars p))) ≡ e = cc in meets_one _ p [] (ap actors_of (sym i)) g
  branch_names (Named p k) x c c' d e f h g = cc

module _ (procs : List Procedure) (hosts : Hosts) (vars : List Variables) (sid : ℕ) where
  pub moves_agree : {c d d' : Choreography} {e : Event} {f f' : Effect} → Moves procs hosts vars sid c e f d → Moves procs hosts vars sid c e f' d' → (f ≡ f') × (d ≡ d')
  moves_agree (head {n = n} {c = c} v a h) (head w b g) = heads_agree vars sid n c _ _ _ _ _ v w h g
  moves_agree (head {n = n} {c = c} v a h) (delay g m) = absurd (head_names vars sid n c _ _ _ v h g)
  moves_agree (delay {n = n} {c = c} g m) (head v a h) = absurd (head_names vars sid n c _ _ _ v h g)
  moves_agree (delay {n = n} h m) (delay g k) = let r = moves_agree m k in (r.0, ap (λ x. Then n x) r.1)
  moves_agree (test h) (test g) = (cc, cc)
  moves_agree (test {p = p} {x = x} {c = c} {c' = c'} h) (both g m n) = absurd (branch_names vars sid p x c c' _ _ _ h g)
  moves_agree (both {p = p} {x = x} {c = c} {d = c'} g m n) (test h) = absurd (branch_names vars sid p x c c' _ _ _ h g)
  moves_agree (both {p = p} {x = x} h m n) (both h' m' n') = let r = moves_agree m m' in let q = moves_agree n n' in (r.0, cc (r.1, q.1))
  moves_agree (unfolded {c = c} {d = d} {e = e} {f = f} h m) (unfolded {c = c'} g n) =
      let same : c ≡ c' = cc in
      moves_agree (subst (λ x. Moves procs hosts vars sid x e f d) same m) n

same_configuration : (c d : Configuration) → c.tree ≡ d.tree → c.vars ≡ d.vars → c.sid ≡ d.sid → c ≡ d
same_configuration c d p q r = λ i. record { tree = p i; vars = q i; sid = r i }

pub steps_agree : (procs : List Procedure) (hosts : Hosts) (old new other : Configuration) (e : Event) → Steps procs hosts old e new → Steps procs hosts old e other → new ≡ other
steps_agree procs hosts old new other e s t =
    let same = moves_agree procs hosts old.vars old.sid s.moves t.moves in
    same_configuration new other same.1 (s.vars ∙ ap (vars_after old.vars e) same.0 ∙ sym t.vars) (s.sid ∙ sym t.sid)
