-- The units of a file, from the codes of their bodies.
use Rattle.std.proofs.Common.{◌≡◌, ℕ, ◌+◌, ◌<◌, ◌≤◌, List, [], ◌∷◌, ◌++◌, length, take, drop, get_or, map, refl, sym, ap, ◌∙◌, subst, arith, append_assoc}
use Rattle.std.specs.Prelude.{All}
use Rattle.std.specs.List.{AllZip, flat_map}
use Rattle.std.proofs.lemmas.List.{take_more, take-append-drop, take_all}
use Rattle.std.proofs.lemmas.List.Elements.{All-nil, All-append, All-same}
use Rattle.chor_base.specs.declared.names.NameId.{NameId}
use Rattle.chor_tree.specs.declared.file.File.{File}
use Rattle.chor_tree.specs.declared.file.Named.{Named as Written}
use Rattle.chor_tree.specs.declared.file.Proc.{Proc}
use Rattle.chor_tree.specs.declared.file.ProcParam.{ProcParam}
use Rattle.chor_tree.specs.declared.tree.NodeId.{NodeId}
use Rattle.chor_tree.specs.Source.{Procedure as WithBody, procedure_of, body_of}
use Rattle.endpoint_code.specs.declared.code.Code.{Code}
use Rattle.endpoint_code.specs.declared.code.CodeNode.{CodeNode}
use Rattle.endpoint_code.specs.declared.endpoints.Procedure.{Procedure}
use Rattle.endpoint_code.specs.declared.endpoints.Process.{Process}
use Rattle.endpoint_code.specs.Trees.{code_at}
use Rattle.branch_merge.specs.Merged.{Keeps}
use Rattle.branch_merge.proofs.ArmTables.{keeps_all, keeps_both, code_kept, kept_length}
use Rattle.chor_semantics.proofs.Blocks.{block_choreography}
use Rattle.chor_semantics.specs.Choreography.{Choreography}
use Rattle.projection.specs.Codes.{sessions_for, IsCodeOf}
use Rattle.projection.specs.Projects.{body_at, parameters_of, names_of}
use Rattle.projection.specs.Making.{HasCode, IsProcessIn}
use Rattle.projection.specs.MergeFaults.{Site, sites_in, sites_of, HasClash}
use Rattle.block_codes.specs.declared.coded.Coded.{Coded}
use Rattle.block_codes.specs.declared.stop.Stop.{Stop}
use Rattle.block_codes.specs.Walks.{IsCoded, AreCodes, StopsAt}
use Rattle.block_codes.proofs.Zips.{zip_weaker}
use Rattle.block_codes.proofs.Walks.{stops_left, stops_right}
use Rattle.service_codes.proofs.Names.{procs_inside}
use Rattle.file_codes.specs.declared.units.Units.{Units}
use Rattle.file_codes.specs.Units.{params_of, procedure_from, process_from, sites_in_procs, IsProcedureIn, AreProcedures, AreUnits}

-- ---- bodies stand in the table

-- the body of a procedure at a place
pub proc_inside : (f : File) (hs : List Proc) (i : ℕ) (h : Proc) → hs ≡ f.procs → i < length hs → h ≡ get_or hs i h → h.body.0 < length f.tree.nodes
proc_inside f hs i h e lt is =
    let P : Proc → Type 0 = λ x. x.body.0 < length f.tree.nodes in
    subst P (sym is) (All-same P hs f.procs e (procs_inside f) i h lt)

-- ---- codes

code_here : (f : File) (id : NodeId) (nodes : List CodeNode) (r : NameId) (x : Coded) → IsCoded f.procs nodes (body_of f id) r x → HasCode f r (body_at f id) nodes x.code
code_here f id nodes r x h = record {
  inside = h.inside;
  code = subst (λ (c : Choreography). IsCodeOf f.procs r c (code_at nodes x.code)) (block_choreography f.tree.nodes id) h.code;
}

pub has_kept : {f : File} {r : NameId} {c : Choreography} {old new : List CodeNode} (id : _) → Keeps old new → HasCode f r c old id → HasCode f r c new id
has_kept {f = f} {r = r} {c = c} id k h = record {
  inside = let n = kept_length k in let m = h.inside in omega arith;
  code = subst (IsCodeOf f.procs r c) (sym (code_kept id k h.inside)) h.code;
}

procedure_kept : {f : File} {old new : List CodeNode} (h : Proc × ProcParam) (q : Procedure) → Keeps old new → IsProcedureIn f old h q → IsProcedureIn f new h q
procedure_kept h q k p = record { name = p.name; param = p.param; sessions = p.sessions; body = has_kept q.body k p.body }

module _ (f : File) (nodes : List CodeNode) where
  procedures_coded : (h : Proc) (ps : List ProcParam) (xs : List Coded) → AllZip (IsCoded f.procs nodes (body_of f h.body)) (params_of ps) xs → AllZip (IsProcedureIn f nodes) (map (λ p. (h, p)) ps) (map (procedure_from h) xs)
  procedures_coded h [] [] z = tt
  procedures_coded h [] (x ∷ xs) z = absurd z
  procedures_coded h (p ∷ ps) [] z = absurd z
  procedures_coded h (p ∷ ps) (x ∷ xs) z =
      let c = code_here f h.body nodes p.name.name x z.0 in
      (record { name = refl; param = z.0.process; sessions = ap (λ r. sessions_for r h.sessions) z.0.process; body = c }, procedures_coded h ps xs z.1)

  pub processes_coded : (ws : List Written) (xs : List Coded) → AllZip (IsCoded f.procs nodes (body_of f f.body)) (names_of ws) xs → AllZip (IsProcessIn f nodes) ws (map process_from xs)
  processes_coded [] [] z = tt
  processes_coded [] (x ∷ xs) z = absurd z
  processes_coded (w ∷ ws) [] z = absurd z
  processes_coded (w ∷ ws) (x ∷ xs) z = let c = code_here f f.body nodes w.name x z.0 in (record { name = z.0.process; body = c }, processes_coded ws xs z.1)

zip_append : {A B : Type 0} (R : A → B → Type 0) (xs us : List A) (ys vs : List B) → AllZip R xs ys → AllZip R us vs → AllZip R (xs ++ us) (ys ++ vs)
zip_append R [] us [] vs z w = w
zip_append R [] us (y ∷ ys) vs z w = absurd z
zip_append R (x ∷ xs) us [] vs z w = absurd z
zip_append R (x ∷ xs) us (y ∷ ys) vs z w = (z.0, zip_append R xs us ys vs z.1 w)

-- ---- one procedure more

parameters_append : (xs ys : List Proc) → parameters_of (xs ++ ys) ≡ parameters_of xs ++ parameters_of ys
parameters_append [] ys = refl
parameters_append (x ∷ xs) ys = ap (λ l. map (λ p. (x, p)) x.params ++ l) (parameters_append xs ys) ∙ sym (append_assoc (map (λ p. (x, p)) x.params) (parameters_of xs) (parameters_of ys))

flat_append : {X Y : Type 0} (g : X → List Y) (xs ys : List X) → flat_map g (xs ++ ys) ≡ flat_map g xs ++ flat_map g ys
flat_append g [] ys = refl
flat_append g (x ∷ xs) ys = ap (λ zs. g x ++ zs) (flat_append g xs ys) ∙ sym (append_assoc (g x) (flat_map g xs) (flat_map g ys))

end_nil : {X : Type 0} (xs : List X) → xs ++ [] ≡ xs
end_nil [] = refl
end_nil (x ∷ xs) = ap (λ ys. x ∷ ys) (end_nil xs)

module _ (f : File) (hs : List Proc) (i : ℕ) (it : Proc) (lt : i < length hs) (is : it ≡ get_or hs i it) where
  abbrev its_sites : List Site
  its_sites = sites_in (params_of it.params) (body_of f it.body)

  taken : take (i + 1) hs ≡ take i hs ++ it ∷ []
  taken = take_more hs i it lt ∙ ap (λ x. take i hs ++ x ∷ []) (sym is)

  parameters_more : parameters_of (take (i + 1) hs) ≡ parameters_of (take i hs) ++ map (λ p. (it, p)) it.params
  parameters_more =
      ap parameters_of taken ∙ parameters_append (take i hs) (it ∷ [])
      ∙ ap (λ l. parameters_of (take i hs) ++ l) (end_nil (map (λ p. (it, p)) it.params))

  sites_more : sites_in_procs f (take (i + 1) hs) ≡ sites_in_procs f (take i hs) ++ its_sites
  sites_more =
      ap (sites_in_procs f) taken ∙ flat_append (λ h. sites_in (params_of h.params) (body_of f h.body)) (take i hs) (it ∷ [])
      ∙ ap (λ l. sites_in_procs f (take i hs) ++ l) (end_nil its_sites)

  sites_split : sites_in_procs f hs ≡ sites_in_procs f (take i hs) ++ its_sites ++ sites_in_procs f (drop (i + 1) hs)
  sites_split =
      ap (sites_in_procs f) (sym (take-append-drop (i + 1) hs)) ∙ flat_append (λ h. sites_in (params_of h.params) (body_of f h.body)) (take (i + 1) hs) (drop (i + 1) hs)
      ∙ ap (λ l. l ++ sites_in_procs f (drop (i + 1) hs)) sites_more

  module _ {old mid : List CodeNode} (qs : List Procedure) (before : AreProcedures f (take i hs) old mid qs) where
    pub procedures_stop : (all : List Proc) → hs ≡ all → (scope : List NameId) (e : Stop) → scope ≡ params_of it.params → StopsAt f (sites_in scope (body_of f it.body)) e → StopsAt f (sites_in_procs f all) e
    procedures_stop all same scope e s h =
        subst (λ (l : List Site). StopsAt f l e) (sym sites_split ∙ ap (sites_in_procs f) same)
        (stops_left f (sites_in_procs f (take i hs) ++ its_sites) (sites_in_procs f (drop (i + 1) hs)) e
        (stops_right f (sites_in_procs f (take i hs)) its_sites e before.clean (subst (λ (l : List NameId). StopsAt f (sites_in l (body_of f it.body)) e) s h)))

    pub procedures_more : (new : List CodeNode) (scope : List NameId) (xs : List Coded) (rs : List Procedure) → scope ≡ params_of it.params → AreCodes f (body_of f it.body) scope mid new xs → rs ≡ qs ++ map (procedure_from it) xs → AreProcedures f (take (i + 1) hs) old new rs
    procedures_more new scope xs rs s c e = record {
      kept = keeps_both before.kept c.kept;
      each =
          subst (λ (l : List (Proc × ProcParam)). AllZip (IsProcedureIn f new) l rs) (sym parameters_more)
          (subst (λ (l : List Procedure). AllZip (IsProcedureIn f new) (parameters_of (take i hs) ++ map (λ p. (it, p)) it.params) l) (sym e)
          (zip_append (IsProcedureIn f new) (parameters_of (take i hs)) (map (λ p. (it, p)) it.params) qs (map (procedure_from it) xs)
          (zip_weaker (IsProcedureIn f mid) (IsProcedureIn f new) (λ h q. procedure_kept h q c.kept) (parameters_of (take i hs)) qs before.each)
          (procedures_coded f new it it.params xs (subst (λ (l : List NameId). AllZip (IsCoded f.procs new (body_of f it.body)) l xs) s c.each))));
      clean =
          subst (All (λ t. HasClash f t → ⊥)) (sym sites_more)
          (All-append (λ t. HasClash f t → ⊥) (sites_in_procs f (take i hs)) its_sites before.clean
          (subst (λ (l : List NameId). All (λ t. HasClash f t → ⊥) (sites_in l (body_of f it.body))) s c.clean));
    }

-- ---- the whole file

pub sites_whole : (f : File) → sites_of f ≡ sites_in_procs f f.procs ++ sites_in (names_of f.processes) (body_of f f.body)
sites_whole f = ap (λ l. l ++ sites_in (names_of f.processes) (body_of f f.body)) (all f.procs)
  where
    all : (hs : List Proc) → flat_map (λ (h : WithBody). sites_in (map (λ p. p.name.name) h.params) h.body) (map (procedure_of f.tree.nodes) hs) ≡ sites_in_procs f hs
    all [] = refl
    all (h ∷ hs) = ap (λ l. sites_in (params_of h.params) (body_of f h.body) ++ l) (all hs)

pub no_procedures : (f : File) (nodes : List CodeNode) (qs : List Procedure) → qs ≡ [] → AreProcedures f [] nodes nodes qs
no_procedures f nodes qs e = record {
  kept = keeps_all nodes;
  each = subst (λ (l : List Procedure). AllZip (IsProcedureIn f nodes) [] l) (sym e) tt;
  clean = All-nil (λ t. HasClash f t → ⊥);
}

pub all_procedures : (f : File) (old new : List CodeNode) (hs all : List Proc) (i : ℕ) (qs : List Procedure) → hs ≡ all → length hs ≤ i → AreProcedures f (take i hs) old new qs → AreProcedures f all old new qs
all_procedures f old new hs all i qs e le h = subst (λ (l : List Proc). AreProcedures f l old new qs) (take_all i hs le ∙ e) h

module _ (f : File) where
  abbrev in_main : List Site
  in_main = sites_in (names_of f.processes) (body_of f f.body)

  pub stops_in_procs : (e : Stop) → StopsAt f (sites_in_procs f f.procs) e → StopsAt f (sites_of f) e
  stops_in_procs e h = subst (λ (l : List Site). StopsAt f l e) (sym (sites_whole f)) (stops_left f (sites_in_procs f f.procs) in_main e h)

  module _ {old mid : List CodeNode} (qs : List Procedure) (p : AreProcedures f f.procs old mid qs) (scope : List NameId) (is : scope ≡ names_of f.processes) where
    pub stops_in_main : (e : Stop) → StopsAt f (sites_in scope (body_of f f.body)) e → StopsAt f (sites_of f) e
    stops_in_main e h =
        subst (λ (l : List Site). StopsAt f l e) (sym (sites_whole f))
        (stops_right f (sites_in_procs f f.procs) in_main e p.clean (subst (λ (l : List NameId). StopsAt f (sites_in l (body_of f f.body)) e) is h))

    pub units_made : (code : Code) (xs : List Coded) (rs : List Procedure) (ps : List Process) → AreCodes f (body_of f f.body) scope mid code.nodes xs → rs ≡ qs → ps ≡ map process_from xs → AreUnits f (record { procedures = rs; processes = ps; code = code })
    units_made code xs rs ps c r s = record {
      procedures =
          subst (λ (l : List Procedure). AllZip (IsProcedureIn f code.nodes) (parameters_of f.procs) l) (sym r)
          (zip_weaker (IsProcedureIn f mid) (IsProcedureIn f code.nodes) (λ h q. procedure_kept h q c.kept) (parameters_of f.procs) qs p.each);
      processes =
          subst (λ (l : List Process). AllZip (IsProcessIn f code.nodes) f.processes l) (sym s)
          (processes_coded f code.nodes f.processes xs (subst (λ (l : List NameId). AllZip (IsCoded f.procs code.nodes (body_of f f.body)) l xs) is c.each));
      clean =
          subst (All (λ t. HasClash f t → ⊥)) (sym (sites_whole f))
          (All-append (λ t. HasClash f t → ⊥) (sites_in_procs f f.procs) in_main p.clean
          (subst (λ (l : List NameId). All (λ t. HasClash f t → ⊥) (sites_in l (body_of f f.body))) is c.clean));
    }

-- units whose table has grown
pub units_kept : (f : File) (u : Units) (code : Code) → Keeps u.code.nodes code.nodes → AreUnits f u → AreUnits f (record { procedures = u.procedures; processes = u.processes; code = code })
units_kept f u code k h = record {
  procedures = zip_weaker (IsProcedureIn f u.code.nodes) (IsProcedureIn f code.nodes) (λ p q. procedure_kept p q k) (parameters_of f.procs) u.procedures h.procedures;
  processes = zip_weaker (IsProcessIn f u.code.nodes) (IsProcessIn f code.nodes) (λ w q p. record { name = p.name; body = has_kept q.body k p.body }) f.processes u.processes h.processes;
  clean = h.clean;
}
