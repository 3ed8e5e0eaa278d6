-- The choreographies of a guarded file are guarded: a parameter is named before a call passes it.
use Rattle.std.proofs.Common.{◌≡◌, ℕ, zero, suc, List, [], ◌∷◌, ◌++◌, map, refl, sym, ap, ◌∙◌, subst, Bool, true, false, ◌==◌, ◌||◌, arith}
use Rattle.std.specs.Prelude.{Contains}
use Rattle.chor_base.specs.declared.names.NameId.{NameId}
use Rattle.chor_base.specs.declared.fault.Fault.{Fault}
use Rattle.chor_base.specs.declared.rule.Rule.TheVariants.{U1}
use Rattle.chor_base.specs.Faults.{fault}
use Rattle.chor_tree.specs.declared.file.File.{File}
use Rattle.chor_tree.specs.declared.file.Proc.{Proc}
use Rattle.chor_tree.specs.declared.file.ProcParam.{ProcParam}
use Rattle.chor_tree.specs.declared.tree.Part.{Part}
use Rattle.chor_tree.specs.Names.{Scope, is_among, names_in, scope_of_procedure}
use Rattle.chor_tree.specs.Source.{Statement, Starts, Sends, Selects, Gives, Sets, Asks, Shows, Block, Then, Either, Calls, Ends, body_of}
use Rattle.chor_semantics.specs.Choreography as chor
use Rattle.chor_semantics.specs.Choreography.{Named, among, ref_eq}
use Rattle.chor_semantics.specs.Sources.{parts_of, tree_in, trees_of}
use Rattle.well_formed.specs.Guarded.{IsGuardedFor}
use Rattle.well_formed.proofs.References.{true_eq, clash, left_or, right_or, or_false, or_rights}
use Rattle.typing_rules.specs.Environment.{Environment, at_procedure}
use Rattle.typing_rules.specs.Guarded.{named_in, IsUnguardedCall, here, further, IsGuarded}
use Rattle.typing_rules.specs.After.{after_statement}
use Rattle.typed_sources.proofs.Opened.{AreNew}
use Rattle.typed_sources.specs.Laws.{IsAccepted}
use Rattle.chor_semantics.specs.Blocks.{node_of, choreography_of}
use Rattle.chor_semantics.proofs.Blocks.{choreography_at}
use Rattle.typed_sources.proofs.Sources.{NamesKept, IsFaultless, scope_with}
use Rattle.typed_sources.proofs.Accepted.{procedures_keep}
use Rattle.typed_sources.proofs.Scopes.{among_front}
use Rattle.typed_sources.proofs.Followers.{only, other}
use Rattle.typed_sources.proofs.References.{named_eq, among_named, refs_same}
use Rattle.typed_sources.proofs.BlockScopes.{none_of}
use Rattle.typed_sources.proofs.WellFormedFiles.{each_first}

module _ (p : NameId) where
  -- a name in scope that no active process of a start has isn't among its processes
  no_part : (scope : Scope) (active serve : List Part) → is_among scope.processes p ≡ true → AreNew scope.processes serve → among (Named p.0 0) (map (λ q. q.0) (parts_of active)) ≡ false
      → is_among (map (λ q. q.process.name) (active ++ serve)) p ≡ false
  no_part scope [] serve i new h = go (is_among (map (λ q. q.process.name) serve) p) refl
    where
      go : (b : Bool) → is_among (map (λ q. q.process.name) serve) p ≡ b → is_among (map (λ q. q.process.name) serve) p ≡ false
      go false e = e
      go true e = absurd (clash i (none_of scope.processes serve new p e))
  no_part scope (q ∷ qs) serve i new h = or_false _ _ (sym (named_eq p.0 q.process.name.0) ∙ left_or _ _ h) (no_part scope qs serve i new (right_or _ _ h))

  -- a statement that doesn't name it, as its choreography says, doesn't name it
  not_named : (f : File) (scope : Scope) (e : Environment) (s : Statement) → NamesKept f scope e s → is_among scope.processes p ≡ true → among (Named p.0 0) (chor.named_in (node_of s)) ≡ false → is_among (named_in s) p ≡ false
  not_named f scope e (Starts c k active serve) w i h = no_part scope active serve i w.new h
  not_named f scope e (Sends a x b y k) w i h = or_false _ _ (sym (named_eq p.0 a.process.name.0) ∙ left_or _ _ h) (or_false _ _ (sym (named_eq p.0 b.process.name.0) ∙ left_or _ _ (right_or _ _ h)) refl)
  not_named f scope e (Selects a b k l) w i h = or_false _ _ (sym (named_eq p.0 a.process.name.0) ∙ left_or _ _ h) (or_false _ _ (sym (named_eq p.0 b.process.name.0) ∙ left_or _ _ (right_or _ _ h)) refl)
  not_named f scope e (Gives a b k given) w i h = or_false _ _ (sym (named_eq p.0 a.process.name.0) ∙ left_or _ _ h) (or_false _ _ (sym (named_eq p.0 b.process.name.0) ∙ left_or _ _ (right_or _ _ h)) refl)
  not_named f scope e (Sets q y x) w i h = or_false _ _ (sym (named_eq p.0 q.name.0) ∙ left_or _ _ h) refl
  not_named f scope e (Asks q y g x z) w i h = or_false _ _ (sym (named_eq p.0 q.name.0) ∙ left_or _ _ h) refl
  not_named f scope e (Shows q x) w i h = or_false _ _ (sym (named_eq p.0 q.name.0) ∙ left_or _ _ h) refl

  in_scope_after : (scope : Scope) (s : Statement) → is_among scope.processes p ≡ true → is_among (scope_with scope s).processes p ≡ true
  in_scope_after scope (Starts c k active serve) i = among_front scope.processes (map (λ q. q.process.name) serve) p i
  in_scope_after scope (Sends a x b y k) i = i
  in_scope_after scope (Selects a b k l) i = i
  in_scope_after scope (Gives a b k given) i = i
  in_scope_after scope (Sets q y x) i = i
  in_scope_after scope (Asks q y g x z) i = i
  in_scope_after scope (Shows q x) i = i

  -- Where no call is a fault, the choreography is guarded
  block_guarded : (f : File) (b : Block) (scope : Scope) (e : Environment) → IsFaultless f scope e b → is_among scope.processes p ≡ true → ((x : Fault) → IsUnguardedCall p x b → ⊥) → IsGuardedFor (Named p.0 0) (choreography_of b)
  block_guarded f (Then place s next) scope e (names, rule, rest) i none = λ h.
      block_guarded f next (scope_with scope s) (after_statement f e s) rest (in_scope_after scope s i) (λ x u. none x (further (not_named f scope e s names i h) (only next []) u))
  block_guarded f (Either place q y first second) scope e (names, rule, one, rest) i none = λ h.
      let off : is_among (q.name ∷ []) p ≡ false = or_false _ _ (sym (named_eq p.0 q.name.0) ∙ h) refl in (
        block_guarded f first scope e one i (λ x u. none x (further off (only first (second ∷ [])) u)),
        block_guarded f second scope e rest i (λ x u. none x (further off (other first second []) u)),
      )
  block_guarded f (Calls place g ps ks) scope e ok i none = ap (among (Named p.0 0)) (refs_same ps) ∙ among_named (names_in ps) p.0 ∙ go (is_among (names_in ps) p) refl
    where
      go : (b : Bool) → is_among (names_in ps) p ≡ b → is_among (names_in ps) p ≡ false
      go false e = e
      go true e = absurd (none (fault U1 place) (here e refl))
  block_guarded f (Ends place) scope e ok i none = tt

param_among : (qs : List ProcParam) (q : ProcParam) → Contains qs q → is_among (map (λ z. z.name.name) qs) q.name.name ≡ true
param_among [] q (j, l, e) = absurd (omega (arith, l))
param_among (z ∷ zs) q (zero, l, e) = ap (λ b. b || is_among (map (λ y. y.name.name) zs) q.name.name) (ap (λ (y : ProcParam). y.name.name.0 == q.name.name.0) e ∙ true_eq q.name.name.0)
param_among (z ∷ zs) q (suc j, l, e) = or_rights (z.name.name.0 == q.name.name.0) _ (param_among zs q (j, omega (arith, l), e))

-- Each parameter of each procedure of the file is guarded in its body
pub all_guarded : (f : File) (words : List (List ℕ)) → IsAccepted f words → IsGuarded f → (p : Proc) → Contains f.procs p → (q : ProcParam) → Contains p.params q → IsGuardedFor (Named q.name.name.0 0) (tree_in (trees_of f.tree.nodes) p.body)
all_guarded f words ok guarded p there q m =
    let keep = procedures_keep f words ok.names ok.protocols ok.types in
    subst (IsGuardedFor (Named q.name.name.0 0)) (sym (choreography_at f.tree.nodes p.body))
    (block_guarded q.name.name f (body_of f p.body) (scope_of_procedure p) (at_procedure p) (keep.bodies p.name.name p (each_first f words ok p there)) (param_among p.params q m)
    (λ x u. guarded x (record { procedure = p; param = q; is_declared = there; is_param = m; is_call = u })))
