-- The units of a projection, by name.
use Rattle.std.proofs.Common.{◌≡◌, ℕ, zero, suc, ◌==◌, ◌&&◌, ◌<◌, ◌++◌, Bool, true, false, if◌then◌else◌, List, [], ◌∷◌, length, Option, Some, None, refl, sym, ap, ◌∙◌, subst, arith}
use Rattle.std.specs.Prelude.{All, map, slice_get}
use Rattle.std.specs.List.{AllZip}
use Rattle.std.proofs.lemmas.Bool.Decides.{nat_tests}
use Rattle.std.proofs.lemmas.List.Elements.{All-head, All-tail}
use Rattle.chor_base.specs.declared.names.NameId.{NameId}
use Rattle.chor_tree.specs.declared.file.File.{File}
use Rattle.chor_tree.specs.declared.file.Named.{Named as Written}
use Rattle.chor_tree.specs.declared.file.Proc.{Proc}
use Rattle.chor_tree.specs.declared.file.ProcParam.{ProcParam}
use Rattle.endpoint_code.specs.declared.endpoints.Procedure.{Procedure as ProcedureCode}
use Rattle.endpoint_code.specs.declared.endpoints.Process.{Process}
use Rattle.endpoint_code.specs.declared.endpoints.Endpoints.{Endpoints}
use Rattle.endpoint_code.specs.Network.{procedure_of}
use Rattle.endpoint_code.specs.Trees.{code_at}
use Rattle.endpoint_code.proofs.Decides.{name_same}
use Rattle.projection.specs.Codes.{IsCodeOf, proc_named, sessions_for}
use Rattle.projection.specs.Projects.{Projects, IsProcedureOf, IsProcessOf, parameters_of, body_at}
use Rattle.accepted_files.specs.PlayedRoles.{has_name, params_of}
use Rattle.accepted_files.proofs.Units.{HasUnits}

abbrev first_pair : List (Proc × ProcParam) → NameId → NameId → Option (Proc × ProcParam)
first_pair [] h p = None
first_pair (z ∷ zs) h p = if (z.0.name.name.0 == h.0) && (z.1.name.name.0 == p.0) then Some z else first_pair zs h p

record First (o : Option (Proc × ProcParam)) (x : Proc) (p : NameId) : Type 0 where
  param : ProcParam
  is : o ≡ Some (x, param)
  name : param.name.name ≡ p

-- in this procedure
here_first : (x : Proc) (h p : NameId) → (x.name.name.0 == h.0) ≡ true → (ps : List ProcParam) (rest : List (Proc × ProcParam)) → has_name p (map (λ q. q.name.name) ps) ≡ true → First (first_pair (map (λ p. (x, p)) ps ++ rest) h p) x p
here_first x h p i [] rest w = absurd cc
here_first x h p i (y ∷ ys) rest w = go (y.name.name.0 == p.0) refl (here_first x h p i ys rest)
  where
    both : (b : Bool) → (y.name.name.0 == p.0) ≡ b → ((x.name.name.0 == h.0) && (y.name.name.0 == p.0)) ≡ b
    both b e = ap (λ c. c && (y.name.name.0 == p.0)) i ∙ e

    flip : (m n : ℕ) → (m == n) ≡ false → (n == m) ≡ false
    flip m n e = grind (arith, nat_tests)

    go : (b : Bool) → (y.name.name.0 == p.0) ≡ b → (has_name p (map (λ q. q.name.name) ys) ≡ true → First (first_pair (map (λ p. (x, p)) ys ++ rest) h p) x p) → First (first_pair (map (λ p. (x, p)) (y ∷ ys) ++ rest) h p) x p
    go true e more = record { param = y; is = ap (λ b. if b then Some (x, y) else first_pair (map (λ p. (x, p)) ys ++ rest) h p) (both true e); name = name_same y.name.name p refl e }
    go false e more =
        let f = more (sym (ap (λ b. if b then true else has_name p (map (λ q. q.name.name) ys)) (flip y.name.name.0 p.0 e)) ∙ w) in
        record { param = f.param; is = ap (λ b. if b then Some (x, y) else first_pair (map (λ p. (x, p)) ys ++ rest) h p) (both false e) ∙ f.is; name = f.name }

-- past another procedure
later_first : (x : Proc) (h p : NameId) → (x.name.name.0 == h.0) ≡ false → (ps : List ProcParam) (rest : List (Proc × ProcParam)) → first_pair (map (λ p. (x, p)) ps ++ rest) h p ≡ first_pair rest h p
later_first x h p i [] rest = refl
later_first x h p i (y ∷ ys) rest = ap (λ b. if b && (y.name.name.0 == p.0) then Some (x, y) else first_pair (map (λ p. (x, p)) ys ++ rest) h p) i ∙ later_first x h p i ys rest

first_param : (fs : List Proc) (h p : NameId) (x : Proc) → proc_named fs h ≡ Some x → has_name p (params_of x) ≡ true → First (first_pair (parameters_of fs) h p) x p
first_param [] h p x i w = absurd cc
first_param (y ∷ ys) h p x i w = go (y.name.name.0 == h.0) refl (first_param ys h p x)
  where
    go : (b : Bool) → (y.name.name.0 == h.0) ≡ b → (proc_named ys h ≡ Some x → has_name p (params_of x) ≡ true → First (first_pair (parameters_of ys) h p) x p) → First (first_pair (parameters_of (y ∷ ys)) h p) x p
    go true e more =
        let j : Some y ≡ Some x = sym (ap (λ b. if b then Some y else proc_named ys h) e) ∙ i in
        let z : y ≡ x = cc in
        subst (λ (v : Proc). First (first_pair (parameters_of (y ∷ ys)) h p) v p) z (here_first y h p e y.params (parameters_of ys) (subst (λ (v : Proc). has_name p (params_of v) ≡ true) (sym z) w))
    go false e more =
        let f = more (sym (ap (λ b. if b then Some y else proc_named ys h) e) ∙ i) w in
        record { param = f.param; is = later_first y h p e y.params (parameters_of ys) ∙ f.is; name = f.name }

module _ (f : File) (e : Endpoints) where
  record Found (h p : NameId) (z : Proc × ProcParam) (qs : List ProcedureCode) : Type 0 where
    unit : ProcedureCode
    found : procedure_of qs h p ≡ Some unit
    is : IsProcedureOf f e z unit
    inside : unit.body.0 < length e.code.nodes

  find : (h p : NameId) (z : Proc × ProcParam) (zs : List (Proc × ProcParam)) (qs : List ProcedureCode) → AllZip (IsProcedureOf f e) zs qs → All (λ q. q.body.0 < length e.code.nodes) qs → first_pair zs h p ≡ Some z → Found h p z qs
  find h p z [] qs a n i = absurd cc
  find h p z (y ∷ ys) [] a n i = absurd a
  find h p z (y ∷ ys) (q ∷ qs) a n i = go ((y.0.name.name.0 == h.0) && (y.1.name.name.0 == p.0)) refl (find h p z ys qs a.1 (All-tail (λ q. q.body.0 < length e.code.nodes) q qs n))
    where
      same : ((q.name.0 == h.0) && (q.param.0 == p.0)) ≡ ((y.0.name.name.0 == h.0) && (y.1.name.name.0 == p.0))
      same = ap (λ (v : NameId). (v.0 == h.0) && (q.param.0 == p.0)) a.0.name ∙ ap (λ (v : NameId). (y.0.name.name.0 == h.0) && (v.0 == p.0)) a.0.param

      go : (b : Bool) → ((y.0.name.name.0 == h.0) && (y.1.name.name.0 == p.0)) ≡ b → (first_pair ys h p ≡ Some z → Found h p z qs) → Found h p z (q ∷ qs)
      go true u more =
          let j : Some y ≡ Some z = sym (ap (λ b. if b then Some y else first_pair ys h p) u) ∙ i in
          let v : y ≡ z = cc in
          record {
            unit = q;
            found = ap (λ b. if b then Some q else procedure_of qs h p) (same ∙ u);
            is = subst (λ (w : Proc × ProcParam). IsProcedureOf f e w q) v a.0;
            inside = All-head (λ q. q.body.0 < length e.code.nodes) q qs n;
          }
      go false u more =
          let w = more (sym (ap (λ b. if b then Some y else first_pair ys h p) u) ∙ i) in
          record { unit = w.unit; found = ap (λ b. if b then Some q else procedure_of qs h p) (same ∙ u) ∙ w.found; is = w.is; inside = w.inside }

  pub has_units : Projects f e → HasUnits e f.procs f.tree.nodes
  has_units pr h p x i w =
      let a = first_param f.procs h p x i w in
      let u = find h p (x, a.param) (parameters_of f.procs) e.procedures pr.procedures e.inside.in_procedures a.is in
      record {
        unit = u.unit;
        found = u.found;
        sessions = u.is.sessions ∙ ap (λ v. sessions_for v x.sessions) a.name;
        body = subst (λ (v : NameId). IsCodeOf f.procs v (body_at f x.body) (code_at e.code.nodes u.unit.body)) a.name u.is.body;
        inside = u.inside;
      }

  pub record ProcessAt (p : ℕ) (q : Process) : Type 0 where
    pub written : Written
    pub there : slice_get f.processes p ≡ Some written
    pub body : IsCodeOf f.procs written.name (body_at f f.body) (code_at e.code.nodes q.body)
    pub inside : q.body.0 < length e.code.nodes

  pub process_at : Projects f e → (p : ℕ) (q : Process) → slice_get e.processes p ≡ Some q → ProcessAt p q
  process_at pr p q i = go f.processes e.processes pr.processes e.inside.in_processes p i (λ w j. j)
    where
      go : (ws : List Written) (qs : List Process) → AllZip (IsProcessOf f e) ws qs → All (λ q. q.body.0 < length e.code.nodes) qs → (n : ℕ) → slice_get qs n ≡ Some q → ((w : Written) → slice_get ws n ≡ Some w → slice_get f.processes p ≡ Some w) → ProcessAt p q
      go [] [] a n k j back = absurd cc
      go [] (y ∷ ys) a n k j back = absurd a
      go (w ∷ ws) [] a n k j back = absurd a
      go (w ∷ ws) (y ∷ ys) a n zero j back =
          let v : y ≡ q = cc in
          record { written = w; there = back w refl; body = subst (λ (x : Process). IsCodeOf f.procs w.name (body_at f f.body) (code_at e.code.nodes x.body)) v a.0.body; inside = subst (λ (x : Process). x.body.0 < length e.code.nodes) v (All-head (λ q. q.body.0 < length e.code.nodes) y ys n) }
      go (w ∷ ws) (y ∷ ys) a n (suc k) j back = go ws ys a.1 (All-tail (λ q. q.body.0 < length e.code.nodes) y ys n) k j back
