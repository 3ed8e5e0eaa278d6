-- The body of a procedure of a guarded file doesn't begin with a call that passes a process.
use Rattle.std.proofs.Common.{◌≡◌, suc, ◌<◌, List, [], ◌∷◌, map, length, refl, sym, ap, ◌∙◌, subst, Some, Bool, true, false, ◌==◌, ◌||◌, arith}
use Rattle.std.specs.Prelude.{Contains}
use Rattle.std.proofs.lemmas.Bool.{and_parts}
use Rattle.chor_base.specs.declared.names.NameId.{NameId}
use Rattle.chor_base.specs.declared.rule.Rule.TheVariants.{U1}
use Rattle.chor_base.specs.Faults.{fault}
use Rattle.chor_tree.specs.declared.file.File.{File}
use Rattle.chor_tree.specs.declared.file.Proc.{Proc}
use Rattle.chor_tree.specs.declared.file.ProcParam.{ProcParam}
use Rattle.chor_tree.specs.Names.{is_among, names_in, procedure_of, scope_of_procedure}
use Rattle.chor_tree.specs.Source.{Block, Then, Either, Calls, Ends, body_of}
use Rattle.chor_semantics.specs.Sources.{tree_in, trees_of}
use Rattle.typing_rules.specs.Environment.{at_procedure}
use Rattle.typing_rules.specs.Guarded.{IsUnguardedCall, here, IsGuarded}
use Rattle.well_formed.proofs.References.{true_eq, same_name}
use Rattle.typed_sources.specs.Going.{IsNoCall}
use Rattle.chor_semantics.specs.Blocks.{choreography_of}
use Rattle.chor_semantics.proofs.Blocks.{choreography_at}
use Rattle.typed_sources.proofs.Sources.{IsFaultless}
use Rattle.typed_sources.proofs.Resolved.{found_in}

-- the parameter of that name
param_there : (qs : List ProcParam) (x : NameId) → is_among (map (λ q. q.name.name) qs) x ≡ true → (q : ProcParam) × Contains qs q × (q.name.name ≡ x)
param_there [] x h = absurd cc
param_there (q ∷ qs) x h = go (q.name.name.0 == x.0) refl h (param_there qs x)
  where
    go : (b : Bool) → (q.name.name.0 == x.0) ≡ b → (b || is_among (map (λ q. q.name.name) qs) x) ≡ true → (is_among (map (λ q. q.name.name) qs) x ≡ true → (r : ProcParam) × Contains qs r × (r.name.name ≡ x))
        → (r : ProcParam) × Contains (q ∷ qs) r × (r.name.name ≡ x)
    go true i j ih = (q, (0, omega arith, refl), same_name q.name.name x i)
    go false i j ih = let w = ih j in (w.0, (suc w.1.0, (let l : w.1.0 < length qs = w.1.1 in omega (arith, l)), w.1.2), w.2)

module _ (f : File) (guarded : IsGuarded f) where
  no_call : (p : Proc) → Contains f.procs p → (b : Block) → body_of f p.body ≡ b → IsFaultless f (scope_of_procedure p) (at_procedure p) b → IsNoCall (choreography_of b)
  no_call p m (Then place s next) is ok = tt
  no_call p m (Either place q x first second) is ok = tt
  no_call p m (Calls place g [] ks) is ok = tt
  no_call p m (Calls place g (x ∷ xs) ks) is ok =
      let w = param_there p.params x.name (and_parts _ _ ok.0.known).0 in
      let passes : is_among (names_in (x ∷ xs)) w.0.name.name ≡ true = ap (λ b. b || is_among (names_in xs) w.0.name.name) (ap (λ z. z.0 == w.0.name.name.0) (sym w.2) ∙ true_eq w.0.name.name.0) in
      guarded (fault U1 place) (record { procedure = p; param = w.0; is_declared = m; is_param = w.1; is_call = subst (IsUnguardedCall w.0.name.name (fault U1 place)) (sym is) (here passes refl) })
  no_call p m (Ends place) is ok = tt

  pub bodies_guarded : ((h : NameId) (p : Proc) → procedure_of f h ≡ Some p → IsFaultless f (scope_of_procedure p) (at_procedure p) (body_of f p.body)) → (h : NameId) (p : Proc) → procedure_of f h ≡ Some p → IsNoCall (tree_in (trees_of f.tree.nodes) p.body)
  bodies_guarded ok h p is = subst IsNoCall (sym (choreography_at f.tree.nodes p.body)) (no_call p (found_in (λ q. q.name) f.procs h p is) (body_of f p.body) refl (ok h p is))
