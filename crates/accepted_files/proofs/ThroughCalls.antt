-- The code of a process follows its choreography, through calls, with any fuel.
use Rattle.std.proofs.Common.{◌≡◌, ℕ, zero, suc, Bool, true, false, List, Option, Some, None, refl, sym, ap, ◌∙◌, subst, arith}
use Rattle.std.specs.Prelude.{map}
use Rattle.chor_base.specs.declared.names.NameId.{NameId}
use Rattle.chor_tree.specs.declared.file.Proc.{Proc}
use Rattle.chor_tree.specs.declared.tree.Node.{Node as TreeNode}
use Rattle.chor_semantics.specs.Choreography.{Ref, Live, Named, among, Choreography, Calls, Ends, named_by, instance_of}
use Rattle.chor_semantics.specs.Sources.{Procedure, procedure_from, tree_in, trees_of}
use Rattle.chor_semantics.specs.Steps.{procedure_named, bound_all, body_of}
use Rattle.endpoint_code.specs.declared.code.CodeId.{CodeId}
use Rattle.endpoint_code.specs.declared.endpoints.Endpoints.{Endpoints}
use Rattle.endpoint_code.specs.Trees as action
use Rattle.endpoint_code.specs.Trees.{CodeTree, code_at}
use Rattle.endpoint_code.proofs.AboveOrder.{above_self}
use Rattle.projection.specs.Codes.{proc_named, param_for, passed_for, call_code, call_as, IsCodeOf, calls}
use Rattle.well_formed.specs.Follows.{SessionMap, passed, At, follows_end, follows_call, follows_over, Follows}
use Rattle.correspondence.proofs.Nodes.{inv_call, inv_end}
use Rattle.accepted_files.proofs.AlongTrees.{At', stands_at, head_at, there_holds, claim}
use Rattle.accepted_files.proofs.FreeNames.{shallow_apart, own_apart}
use Rattle.accepted_files.proofs.AtCalls.{through}
use Rattle.accepted_files.proofs.Passing.{found_proc, param_in, passed_as, among_passed, not_among, knows_passed, code_distinct}
use Rattle.accepted_files.specs.PlayedRoles.{Roles, roles_of, params_of, sessions_of, has_name}
use Rattle.accepted_files.proofs.Plays.{Plays, PlaysCall, PlaysPassed, PassesRoles, IsPassedFor, TellsApart, Knows, IsOver, IsAlike, ProceduresPlay}
use Rattle.well_formed.proofs.Absent.{IsNoDeeper}
use Rattle.accepted_files.proofs.Units.{UnitOf, HasUnits}

at_call : {fs : List Proc} {r h : NameId} {k : ℕ} {qs ss : List Ref} {t : CodeTree} → IsCodeOf fs r (Calls h k qs ss) t → t ≡ call_code r h qs ss (proc_named fs h)
at_call (calls i) = i

deeper : (d : ℕ) (P : Ref) → IsNoDeeper d P → IsNoDeeper (suc d) P
deeper d (Live n) sh = tt
deeper d (Named x c) sh = omega (arith, sh)

module _ (e : Endpoints) (fs : List Proc) (nodes : List TreeNode) (units : HasUnits e fs nodes) (plays : ProceduresPlay nodes fs) where
  abbrev procs : List Procedure
  procs = map (procedure_from nodes) fs

  abbrev Following : ℕ → Type 0
  Following n = (d : ℕ) (r : NameId) (P : Ref) → IsAlike r P d → IsNoDeeper d P → (c : Choreography) (f s : ℕ → Ref) (g : Roles) (m : SessionMap) (t : CodeTree) (q : CodeId) → IsCodeOf fs r c t → IsOver e q t → Plays fs r c g → TellsApart r P f → Knows g m s → Follows e procs n P (instance_of d f s c) q m

  module _ (n : ℕ) (again : Following n) (d : ℕ) (r : NameId) (P : Ref) (shallow : IsNoDeeper d P) where
    abbrev R : Choreography → At
    R = Follows e procs n P

    ended : (q : CodeId) (m : SessionMap) (t : CodeTree) → t ≡ action.Ends → IsOver e q t → follows_end e (R Ends) q m
    ended q m t i o =
        let p : At' e q action.Ends = stands_at e q _ (subst (IsOver e q) i o) in
        let j = inv_end p.node (head_at e p) in
        there_holds e _ _ q m p.node _ p.there j.is refl

    goes : (h p : NameId) (ps ss : List Ref) (f s : ℕ → Ref) (g : Roles) (m : SessionMap) (q : CodeId) (x : Proc) → proc_named fs h ≡ Some x → param_for r x.params ps ≡ Some p → IsOver e q (action.Calls h p (passed_for p x.sessions ss))
        → IsPassedFor r p x.params ps → PassesRoles g p x.sessions ss → TellsApart r P f → Knows g m s
        → R (instance_of (suc d) (bound_all (suc d) (params_of x) (map (named_by f) ps)) (bound_all (suc d) (sessions_of x) (map (named_by s) ss)) (tree_in (trees_of nodes) x.body)) q m
    goes h p ps ss f s g m q x found at o for_p roles apart knows =
        let is_param : has_name p (params_of x) ≡ true = param_in r p x.params ps at in
        let u : UnitOf e fs nodes h p x = units h p x found is_param in
        let y : At' e q (action.Calls h p (passed_for p x.sessions ss)) = stands_at e q _ o in
        let j = inv_call y.node (head_at e y) in
        let sessions : Knows (roles_of p x.sessions) (passed u.unit.sessions (passed_for p x.sessions ss) m) (bound_all (suc d) (sessions_of x) (map (named_by s) ss)) =
        subst (λ (z : List NameId). Knows (roles_of p x.sessions) (passed z (passed_for p x.sessions ss) m) (bound_all (suc d) (sessions_of x) (map (named_by s) ss))) (sym u.sessions) (knows_passed g m s p (suc d) knows x.sessions ss roles) in
        let inner = again (suc d) p P (λ z i. shallow_apart P d z shallow) (deeper d P shallow) (tree_in (trees_of nodes) x.body) (bound_all (suc d) (params_of x) (map (named_by f) ps)) (bound_all (suc d) (sessions_of x) (map (named_by s) ss)) (roles_of p x.sessions) (passed u.unit.sessions (passed_for p x.sessions ss) m) (code_at e.code.nodes u.unit.body) u.unit.body u.body
        (record { inside = u.inside; above = above_self (code_at e.code.nodes u.unit.body); distinct = code_distinct fs p _ _ u.body })
        (plays h p x found is_param)
        (own_apart P p d (params_of x) (map (named_by f) ps) shallow is_param (passed_as r p P f x.params ps apart for_p))
        sessions in
        through e procs P h p (passed_for p x.sessions ss) u.unit u.found q (y.there ∙ ap Some j.is) m n _ inner

    calling : (h : NameId) (k : ℕ) (ps ss : List Ref) (f s : ℕ → Ref) (g : Roles) (m : SessionMap) (t : CodeTree) (q : CodeId) → IsCodeOf fs r (Calls h k ps ss) t → IsOver e q t → Plays fs r (Calls h k ps ss) g → TellsApart r P f → Knows g m s → follows_over e procs P R (instance_of d f s (Calls h k ps ss)) q m
    calling h k ps ss f s g m t q code o w apart knows = go (proc_named fs h) refl
      where
        Wanted : Bool → Option Procedure → Type 0
        Wanted b x = follows_call e b (body_of x d (map (named_by f) ps) (map (named_by s) ss)) R q m

        go : (a : Option Proc) → proc_named fs h ≡ a → Wanted (among P (map (named_by f) ps)) (procedure_named procs h)
        go None i = absurd (subst (PlaysCall r ps ss g) i w)
        go (Some x) i = at (param_for r x.params ps) refl (subst (PlaysCall r ps ss g) i w)
          where
            is : t ≡ call_as h x ss (param_for r x.params ps)
            is = at_call code ∙ ap (call_code r h ps ss) i

            put_back : (b : Bool) → among P (map (named_by f) ps) ≡ b → Wanted b (Some (procedure_from nodes x)) → Wanted (among P (map (named_by f) ps)) (procedure_named procs h)
            put_back b u z = subst (λ b. Wanted b (procedure_named procs h)) (sym u) (subst (Wanted b) (sym (found_proc nodes fs h x i)) z)

            at : (o : Option NameId) → param_for r x.params ps ≡ o → PlaysPassed r ps ss g x (param_for r x.params ps) → Wanted (among P (map (named_by f) ps)) (procedure_named procs h)
            at None j z = put_back false (not_among r P f ps apart (subst (PlaysPassed r ps ss g x) j z)) (ended q m t (is ∙ ap (call_as h x ss) j) o)
            at (Some p) j z =
                let v : IsPassedFor r p x.params ps × PassesRoles g p x.sessions ss = subst (PlaysPassed r ps ss g x) j z in
                put_back true (among_passed r p p P f x.params ps apart v.0 j) (goes h p ps ss f s g m q x i j (subst (IsOver e q) (is ∙ ap (call_as h x ss) j) o) v.0 v.1 apart knows)

  pub follows : (n : ℕ) → Following n
  follows zero d r P alike shallow c f s g m t q code o w apart knows = tt
  follows (suc n) d r P alike shallow c f s g m t q code o w apart knows =
      claim e fs procs r P d (Follows e procs n P) alike (calling n (follows n) d r P shallow) c f s g m t q code o w apart knows
