-- What is in scope at a block and at its choreography; new processes are new in both.
use Rattle.std.proofs.Common.{◌≡◌, ℕ, List, [], ◌∷◌, map, refl, sym, ap, ◌∙◌, subst, Bool, true, false, ◌==◌, ◌||◌, arith}
use Rattle.std.proofs.lemmas.Bool.{and_parts}
use Rattle.chor_base.specs.declared.names.NameId.{NameId}
use Rattle.chor_tree.specs.declared.tree.Part.{Part}
use Rattle.chor_tree.specs.Names.{Scope, is_among, are_same}
use Rattle.chor_tree.specs.Source.{Statement, Starts, Sends, Selects, Gives, Sets, Asks, Shows}
use Rattle.chor_semantics.specs.Choreography.{Ref, Named, among}
use Rattle.chor_semantics.specs.Sources.{served_of}
use Rattle.well_formed.specs.WellFormed.{Scope as RunScope, AreNoDeeper, AllNew, scope_after as run_scope_after, declared_scope}
use Rattle.well_formed.proofs.References.{same_name, clash, true_eq, or_rights}
use Rattle.typed_sources.proofs.Opened.{AreNew, among_more}
use Rattle.typed_sources.proofs.Arguments.{named}
use Rattle.chor_semantics.specs.Blocks.{node_of}
use Rattle.typed_sources.proofs.Sources.{scope_with}
use Rattle.typed_sources.proofs.References.{named_eq, among_named, no_deeper, among_entered, no_deeper_entered}

pub record Alike (sc : RunScope) (scope : Scope) : Type 0 where
  pub processes : (x : ℕ) → among (Named x 0) sc.processes ≡ is_among scope.processes (named x)
  pub sessions : (x : ℕ) → among (Named x 0) sc.sessions ≡ is_among scope.sessions (named x)
  pub no_deeper_processes : AreNoDeeper 0 sc.processes
  pub no_deeper_sessions : AreNoDeeper 0 sc.sessions

or_none : (a b : Bool) → (a || b) ≡ ((a || false) || b)
or_none true b = refl
or_none false b = refl

-- so it is after a statement
pub alike_after : (sc : RunScope) (scope : Scope) → Alike sc scope → (s : Statement) → Alike (run_scope_after sc (node_of s)) (scope_with scope s)
alike_after sc scope a (Starts c k active serve) = record {
  processes = λ x. among_entered serve sc.processes x ∙ ap (λ b. is_among (map (λ q. q.process.name) serve) (named x) || b) (a.processes x) ∙ sym (among_more scope.processes (map (λ q. q.process.name) serve) (named x));
  sessions = λ x. ap (λ b. b || among (Named x 0) sc.sessions) (named_eq x k.name.0) ∙ ap (λ b. (k.name.0 == x) || b) (a.sessions x)
      ∙ or_none (k.name.0 == x) (is_among scope.sessions (named x)) ∙ sym (among_more scope.sessions (k.name ∷ []) (named x));
  no_deeper_processes = no_deeper_entered serve sc.processes a.no_deeper_processes;
  no_deeper_sessions = (omega arith, a.no_deeper_sessions);
}
alike_after sc scope a (Sends p x q y k) = a
alike_after sc scope a (Selects p q k l) = a
alike_after sc scope a (Gives p q k given) = a
alike_after sc scope a (Sets p y x) = a
alike_after sc scope a (Asks p y g x z) = a
alike_after sc scope a (Shows p x) = a

-- and where bodies begin
pub alike_first : (ps ss : List NameId) → Alike (declared_scope ps ss) (record { processes = ps; sessions = ss })
alike_first ps ss = record { processes = among_named ps; sessions = among_named ss; no_deeper_processes = no_deeper ps; no_deeper_sessions = no_deeper ss }

-- ---- new processes

self_among : (x : NameId) (xs : List NameId) → is_among (x ∷ xs) x ≡ true
self_among x xs = ap (λ b. b || is_among xs x) (true_eq x.0)

pub none_of : (known : List NameId) (ps : List Part) → AreNew known ps → (x : NameId) → is_among (map (λ q. q.process.name) ps) x ≡ true → is_among known x ≡ false
none_of known [] a x h = absurd cc
none_of known (p ∷ ps) a x h = go (p.process.name.0 == x.0) refl h (none_of known ps a.2 x)
  where
    go : (b : Bool) → (p.process.name.0 == x.0) ≡ b → (b || is_among (map (λ q. q.process.name) ps) x) ≡ true → (is_among (map (λ q. q.process.name) ps) x ≡ true → is_among known x ≡ false) → is_among known x ≡ false
    go true e i ih = subst (λ z. is_among known z ≡ false) (same_name p.process.name x e) a.0
    go false e i ih = ih i

pub all_new : (known : List NameId) (ps : List Part) (bs : List Ref) → AreNew known ps → ((x : NameId) → is_among (map (λ q. q.process.name) ps) x ≡ true → among (Named x.0 0) bs ≡ false) → AllNew 0 (served_of ps) bs
all_new known [] bs a h = tt
all_new known (p ∷ ps) bs a h = (
  h p.process.name (self_among p.process.name (map (λ q. q.process.name) ps)),
  all_new known ps (Named p.process.name.0 0 ∷ bs) a.2 (λ x i. ap (λ b. b || among (Named x.0 0) bs) (named_eq x.0 p.process.name.0) ∙ go x i (p.process.name.0 == x.0) refl),
)
  where
    go : (x : NameId) → is_among (map (λ q. q.process.name) ps) x ≡ true → (b : Bool) → (p.process.name.0 == x.0) ≡ b → ((p.process.name.0 == x.0) || among (Named x.0 0) bs) ≡ false
    go x i true e = absurd (clash i (ap (is_among (map (λ q. q.process.name) ps)) (sym (same_name p.process.name x e)) ∙ a.1))
    go x i false e = ap (λ b. b || among (Named x.0 0) bs) e ∙ h x (or_rights (p.process.name.0 == x.0) _ i)

pub same_names : (xs ys : List NameId) → are_same xs ys ≡ true → xs ≡ ys
same_names [] [] h = refl
same_names [] (y ∷ ys) h = absurd cc
same_names (x ∷ xs) [] h = absurd cc
same_names (x ∷ xs) (y ∷ ys) h = let w = and_parts _ _ h in ap (λ z. z ∷ xs) (same_name x y w.0) ∙ ap (λ l. y ∷ l) (same_names xs ys w.1)
