-- The names of a file's units are in its tables.
use Rattle.std.proofs.Common.{◌≡◌, Bool, true, false, if◌then◌else◌, List, [], ◌∷◌, map, ◌&&◌, refl, ap, ◌∙◌}
use Rattle.std.specs.Prelude.{All}
use Rattle.std.specs.List.{AllZip, list_all, filter, flat_map}
use Rattle.std.proofs.lemmas.Bool.{and_parts, and_from}
use Rattle.std.proofs.lemmas.List.Elements.{All-nil, All-cons, All-head, All-tail, All-append}
use Rattle.chor_base.specs.declared.names.NameId.{NameId}
use Rattle.chor_tree.specs.declared.file.File.{File}
use Rattle.chor_tree.specs.declared.file.Named.{Named as Written}
use Rattle.chor_tree.specs.declared.file.Service.{Service}
use Rattle.chor_tree.specs.declared.file.Proc.{Proc}
use Rattle.chor_tree.specs.declared.file.ProcParam.{ProcParam}
use Rattle.chor_tree.specs.declared.file.SessionParam.{SessionParam}
use Rattle.chor_tree.specs.Kept.{names_there, proc_there, process_param_there, session_param_there, service_there as declared_there}
use Rattle.endpoint_code.specs.declared.code.CodeNode.{CodeNode}
use Rattle.endpoint_code.specs.declared.endpoints.Procedure.{Procedure}
use Rattle.endpoint_code.specs.declared.endpoints.ServiceCode.{ServiceCode}
use Rattle.endpoint_code.specs.declared.endpoints.Process.{Process}
use Rattle.endpoint_code.specs.Kept.{channel_there, procedure_there, service_there}
use Rattle.projection.specs.Codes.{holds, sessions_for}
use Rattle.projection.specs.Projects.{channel_from, names_of, parameters_of}
use Rattle.projection.specs.Making.{IsProcessIn}
use Rattle.service_codes.specs.Services.{IsServiceIn}
use Rattle.file_codes.specs.Units.{IsProcedureIn}

module _ (n : NameId → Bool) where
  names_are : (xs : List Written) → names_there n xs ≡ true → list_all n (names_of xs) ≡ true
  names_are [] h = refl
  names_are (x ∷ xs) h = let both = and_parts _ _ h in and_from _ _ both.0 (names_are xs both.1)

  pub channels_are : (test : Service → Bool) (ss : List Service) → list_all (declared_there n) ss ≡ true → All (λ c. channel_there n c ≡ true) (map channel_from (filter test ss))
  channels_are test [] h = All-nil (λ c. channel_there n c ≡ true)
  channels_are test (s ∷ ss) h = go (test s) (channels_are test ss (and_parts _ _ h).1)
    where
      the_channel : channel_there n (channel_from s) ≡ true
      the_channel =
          let all = and_parts _ _ (and_parts _ _ h).0 in
          let front = and_parts _ _ all.0 in
          and_from _ _ (and_from _ _ (and_parts _ _ front.0).0 (names_are s.active front.1)) (names_are s.serve all.1)

      go : (b : Bool) → All (λ c. channel_there n c ≡ true) (map channel_from (filter test ss)) → All (λ c. channel_there n c ≡ true) (map channel_from (if b then s ∷ filter test ss else filter test ss))
      go true i = All-cons (λ c. channel_there n c ≡ true) (channel_from s) _ the_channel i
      go false i = i

  pub processes_are : (f : File) (nodes : List CodeNode) (xs : List Written) (qs : List Process) → names_there n xs ≡ true → AllZip (IsProcessIn f nodes) xs qs → All (λ (q : Process). n q.name ≡ true) qs
  processes_are f nodes [] [] h z = All-nil (λ (q : Process). n q.name ≡ true)
  processes_are f nodes [] (q ∷ qs) h z = absurd z
  processes_are f nodes (x ∷ xs) [] h z = absurd z
  processes_are f nodes (x ∷ xs) (q ∷ qs) h z =
      let both = and_parts _ _ h in All-cons (λ (q : Process). n q.name ≡ true) q qs (ap n z.0.name ∙ both.0) (processes_are f nodes xs qs both.1 z.1)

  sessions_are : (p : NameId) (ks : List SessionParam) → list_all (session_param_there n) ks ≡ true → list_all n (sessions_for p ks) ≡ true
  sessions_are p [] h = refl
  sessions_are p (k ∷ ks) h = go (holds p k.holders) (sessions_are p ks (and_parts _ _ h).1)
    where
      name : n k.name.name ≡ true
      name = (and_parts _ _ (and_parts _ _ (and_parts _ _ (and_parts _ _ h).0).0).0).0

      go : (b : Bool) → list_all n (sessions_for p ks) ≡ true → list_all n (if b then k.name.name ∷ sessions_for p ks else sessions_for p ks) ≡ true
      go true i = and_from _ _ name i
      go false i = i

  -- a parameter of a procedure whose names are there
  pub record ParamThere (h : Proc × ProcParam) : Type 0 where
    pub name : n h.0.name.name ≡ true
    pub param : n h.1.name.name ≡ true
    pub sessions : list_all (session_param_there n) h.0.sessions ≡ true

  params_there : (h : Proc) (ps : List ProcParam) → n h.name.name ≡ true → list_all (session_param_there n) h.sessions ≡ true → list_all (process_param_there n) ps ≡ true → All ParamThere (map (λ p. (h, p)) ps)
  params_there h [] a b e = All-nil ParamThere
  params_there h (p ∷ ps) a b e =
      let both = and_parts _ _ e in
      All-cons ParamThere (h, p) (map (λ p. (h, p)) ps) (record { name = a; param = (and_parts _ _ both.0).0; sessions = b }) (params_there h ps a b both.1)

  pub all_params_there : (hs : List Proc) → list_all (proc_there n) hs ≡ true → All ParamThere (parameters_of hs)
  all_params_there [] e = All-nil ParamThere
  all_params_there (h ∷ hs) e =
      let both = and_parts _ _ e in
      let parts = and_parts _ _ both.0 in
      let front = and_parts _ _ parts.0 in
      All-append ParamThere (map (λ p. (h, p)) h.params) (parameters_of hs) (params_there h h.params front.0 parts.1 front.1) (all_params_there hs both.1)

  pub procedures_are : (f : File) (nodes : List CodeNode) (xs : List (Proc × ProcParam)) (qs : List Procedure) → All ParamThere xs → AllZip (IsProcedureIn f nodes) xs qs → All (λ (q : Procedure). procedure_there n q ≡ true) qs
  procedures_are f nodes [] [] h z = All-nil (λ (q : Procedure). procedure_there n q ≡ true)
  procedures_are f nodes [] (q ∷ qs) h z = absurd z
  procedures_are f nodes (x ∷ xs) [] h z = absurd z
  procedures_are f nodes (x ∷ xs) (q ∷ qs) h z =
      let t = All-head ParamThere x xs h in
      let s : list_all n q.sessions ≡ true = ap (list_all n) z.0.sessions ∙ sessions_are x.1.name.name x.0.sessions t.sessions in
      All-cons (λ (q : Procedure). procedure_there n q ≡ true) q qs (and_from _ _ (and_from _ _ (ap n z.0.name ∙ t.name) (ap n z.0.param ∙ t.param)) s)
      (procedures_are f nodes xs qs (All-tail ParamThere x xs h) z.1)

  -- ---- services

  abbrev PairThere : Written × Written → Type 0
  PairThere x = (n x.0.name && n x.1.name) ≡ true

  pairs_there : (s : Service) (rs : List Written) → n s.name.name ≡ true → names_there n rs ≡ true → All PairThere (map (λ r. (s.name, r)) rs)
  pairs_there s [] a h = All-nil PairThere
  pairs_there s (r ∷ rs) a h = let both = and_parts _ _ h in All-cons PairThere (s.name, r) (map (λ r. (s.name, r)) rs) (and_from _ _ a both.0) (pairs_there s rs a both.1)

  pub roles_there : (test : Service → Bool) (ss : List Service) → list_all (declared_there n) ss ≡ true → All PairThere (flat_map (λ s. map (λ r. (s.name, r)) s.serve) (filter test ss))
  roles_there test [] h = All-nil PairThere
  roles_there test (s ∷ ss) h = go (test s) (roles_there test ss (and_parts _ _ h).1)
    where
      here : All PairThere (map (λ r. (s.name, r)) s.serve)
      here =
          let all = and_parts _ _ (and_parts _ _ h).0 in
          let front = and_parts _ _ all.0 in
          pairs_there s s.serve (and_parts _ _ front.0).0 all.1

      go : (b : Bool) → All PairThere (flat_map (λ s. map (λ r. (s.name, r)) s.serve) (filter test ss)) → All PairThere (flat_map (λ s. map (λ r. (s.name, r)) s.serve) (if b then s ∷ filter test ss else filter test ss))
      go true i = All-append PairThere (map (λ r. (s.name, r)) s.serve) (flat_map (λ s. map (λ r. (s.name, r)) s.serve) (filter test ss)) here i
      go false i = i

  pub services_are : (f : File) (nodes : List CodeNode) (xs : List (Written × Written)) (qs : List ServiceCode) → All PairThere xs → AllZip (IsServiceIn f nodes) xs qs → All (λ (q : ServiceCode). service_there n q ≡ true) qs
  services_are f nodes [] [] h z = All-nil (λ (q : ServiceCode). service_there n q ≡ true)
  services_are f nodes [] (q ∷ qs) h z = absurd z
  services_are f nodes (x ∷ xs) [] h z = absurd z
  services_are f nodes (x ∷ xs) (q ∷ qs) h z =
      let both = and_parts _ _ (All-head PairThere x xs h) in
      All-cons (λ (q : ServiceCode). service_there n q ≡ true) q qs (and_from _ _ (ap n z.0.channel ∙ both.0) (ap n z.0.role ∙ both.1)) (services_are f nodes xs qs (All-tail PairThere x xs h) z.1)
