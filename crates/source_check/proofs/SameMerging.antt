-- Files with the same source have the same faults of merging.
use Rattle.std.proofs.Common.{◌≡◌, ◌==◌, ◌∙◌, ◌++◌, Bool, true, false, List, [], ◌∷◌, map, refl, sym, ap, subst, Some, if◌then◌else◌}
use Rattle.std.specs.Prelude.{All}
use Rattle.std.specs.List.{AllZip, filter, flat_map}
use Rattle.std.proofs.lemmas.List.Elements.{All-weaker}
use Rattle.chor_base.specs.declared.names.NameId.{NameId}
use Rattle.chor_base.specs.declared.rule.Rule.{Rule}
use Rattle.chor_base.specs.declared.rule.Place.{Place}
use Rattle.chor_base.specs.declared.rule.Refusal.{Refusal}
use Rattle.chor_base.specs.declared.rule.Denied.TheVariants.{Refused}
use Rattle.chor_base.specs.Writing.{name_in}
use Rattle.chor_tree.specs.declared.file.File.{File}
use Rattle.chor_tree.specs.declared.file.Named.{Named}
use Rattle.chor_tree.specs.declared.file.Proc.{Proc}
use Rattle.chor_tree.specs.declared.file.Service.{Service}
use Rattle.chor_tree.specs.Source.{Procedure, Source, procedure_of, source_of}
use Rattle.chor_semantics.specs.Choreography.{Ref, Choreography}
use Rattle.endpoint_code.specs.Trees.{CodeTree}
use Rattle.chor_semantics.specs.Blocks.{choreography_of}
use Rattle.chor_semantics.proofs.Blocks.{block_choreography}
use Rattle.projection.specs.Codes.{proc_named, call_code, IsCodeOf, acts, learns, absent, decides, merges, calls, ends}
use Rattle.projection.specs.Projects.{Started, starts_in, starts_in_procs, starts_of, is_some_start, IsStartCode}
use Rattle.projection.specs.MergeFaults.{IsFirstOf, here, later, Site, sites_in, sites_of, HasClash, services_of, HasServiceClash, IsBranchFault, IsServiceFault, IsFirstMergeFault, branches, starts, IsMergeDenial}
use Rattle.source_check.specs.Classes.{HasNoMergeFault}
use Rattle.source_check.proofs.SameBodies.{bare, by_heads}

-- ---- calls don't look at bodies

call_bare : (r h : NameId) (qs ss : List Ref) (ps : List Proc) → call_code r h qs ss (proc_named (map bare ps) h) ≡ call_code r h qs ss (proc_named ps h)
call_bare r h qs ss [] = refl
call_bare r h qs ss (p ∷ ps) = go (p.name.name.0 == h.0) (call_bare r h qs ss ps)
  where
    go : (b : Bool) → call_code r h qs ss (proc_named (map bare ps) h) ≡ call_code r h qs ss (proc_named ps h)
        → call_code r h qs ss (if b then Some (bare p) else proc_named (map bare ps) h) ≡ call_code r h qs ss (if b then Some p else proc_named ps h)
    go true rest = refl
    go false rest = rest

-- ---- starts are told by blocks

abbrev starts_in_blocks : NameId → List Procedure → List Started
starts_in_blocks a [] = []
starts_in_blocks a (h ∷ hs) = starts_in a (choreography_of h.body) ++ starts_in_blocks a hs

procedures_start : (f : File) (a : NameId) (hs : List Proc) → starts_in_procs f a hs ≡ starts_in_blocks a (map (procedure_of f.tree.nodes) hs)
procedures_start f a [] = refl
procedures_start f a (h ∷ hs) = λ i. starts_in a (sym (block_choreography f.tree.nodes h.body) i) ++ procedures_start f a hs i

abbrev starts_in_source : NameId → Source → List Started
starts_in_source a s = starts_in_blocks a s.items.procedures ++ starts_in a (choreography_of s.body)

source_starts : (f : File) (a : NameId) → starts_of f a ≡ starts_in_source a (source_of f)
source_starts f a = λ i. procedures_start f a f.procs i ++ starts_in a (sym (block_choreography f.tree.nodes f.body) i)

-- ---- the first of a list

first_alike : {X : Type 0} (P Q : X → Type 0) → ((x : X) → P x → Q x) → ((x : X) → Q x → P x) → (x : X) {xs : List X} → IsFirstOf P x xs → IsFirstOf Q x xs
first_alike P Q there back x (here h) = here (there x h)
first_alike P Q there back x (later {y = y} n h) = later (λ q. n (back y q)) (first_alike P Q there back x h)

-- ---- two files with the same source

module _ (f g : File) (same : source_of f ≡ source_of g) where
  call_same : (r h : NameId) (qs ss : List Ref) → call_code r h qs ss (proc_named f.procs h) ≡ call_code r h qs ss (proc_named g.procs h)
  call_same r h qs ss = by_heads f g same (λ ps. call_code r h qs ss (proc_named ps h)) (call_bare r h qs ss)

  code_same : {r : NameId} {c : Choreography} {q : CodeTree} → IsCodeOf f.procs r c q → IsCodeOf g.procs r c q
  code_same (acts e h) = acts e (code_same h)
  code_same (learns e h) = learns e (code_same h)
  code_same (absent e h) = absent e (code_same h)
  code_same (decides e h i) = decides e (code_same h) (code_same i)
  code_same (merges e h i l) = merges e (code_same h) (code_same i) l
  code_same {r = r} (calls {f = x} {qs = qs} {ss = ss} e) = calls (e ∙ call_same r x qs ss)
  code_same ends = ends

  clash_there : (s : Site) → HasClash f s → HasClash g s
  clash_there s h = record { first = h.first; second = h.second; first_code = code_same h.first_code; second_code = code_same h.second_code; none = h.none }

  pub starts_same : (a : NameId) → starts_of f a ≡ starts_of g a
  starts_same a = source_starts f a ∙ ap (starts_in_source a) same ∙ sym (source_starts g a)

  started_code : (a r : NameId) (ss : List Started) (cs : List CodeTree) → AllZip (IsStartCode f.procs a r) ss cs → AllZip (IsStartCode g.procs a r) ss cs
  started_code a r [] [] z = tt
  started_code a r [] (c ∷ cs) z = absurd z
  started_code a r (s ∷ ss) [] z = absurd z
  started_code a r (s ∷ ss) (c ∷ cs) z = (record { process = z.0.process; serves = z.0.serves; code = code_same z.0.code }, started_code a r ss cs z.1)

  service_there : (x : Named × Named) → HasServiceClash f x → HasServiceClash g x
  service_there x h = record {
    codes = h.codes;
    each = started_code x.0.name x.1.name (starts_of g x.0.name) h.codes (subst (λ ss. AllZip (IsStartCode f.procs x.0.name x.1.name) ss h.codes) (starts_same x.0.name) h.each);
    none = h.none;
  }

  sites_same : sites_of f ≡ sites_of g
  sites_same =
      ap (λ (s : Source). flat_map (λ (h : Procedure). sites_in (map (λ p. p.name.name) h.params) h.body) s.items.procedures ++ sites_in (map (λ p. p.name) s.processes) s.body) same

  services_same : services_of f ≡ services_of g
  services_same = λ i. flat_map (λ (s : Service). map (λ r. (s.name, r)) s.serve) (filter (λ s. is_some_start (starts_same s.name.name i)) (same i).items.services)

module _ (f g : File) (same : source_of f ≡ source_of g) where
  clash_back : (s : Site) → HasClash g s → HasClash f s
  clash_back = clash_there g f (sym same)

  service_back : (x : Named × Named) → HasServiceClash g x → HasServiceClash f x
  service_back = service_there g f (sym same)

  none_of_branches : All (λ s. HasClash f s → ⊥) (sites_of f) → All (λ s. HasClash g s → ⊥) (sites_of g)
  none_of_branches h = subst (λ ss. All (λ s. HasClash g s → ⊥) ss) (sites_same f g same) (All-weaker (λ s. HasClash f s → ⊥) (λ s. HasClash g s → ⊥) (λ s n c. n (clash_back s c)) (sites_of f) h)

  none_of_starts : All (λ x. HasServiceClash f x → ⊥) (services_of f) → All (λ x. HasServiceClash g x → ⊥) (services_of g)
  none_of_starts h = subst (λ xs. All (λ x. HasServiceClash g x → ⊥) xs) (services_same f g same) (All-weaker (λ x. HasServiceClash f x → ⊥) (λ x. HasServiceClash g x → ⊥) (λ x n c. n (service_back x c)) (services_of f) h)

  pub no_merge_fault : HasNoMergeFault f → HasNoMergeFault g
  no_merge_fault h = record { branches = none_of_branches h.branches; starts = none_of_starts h.starts }

  branch_fault : {p : Place} {x : NameId} → IsBranchFault f p x → IsBranchFault g p x
  branch_fault h = record {
    site = h.site;
    first = subst (λ ss. IsFirstOf (HasClash g) h.site ss) (sites_same f g same) (first_alike (HasClash f) (HasClash g) (clash_there f g same) clash_back h.site h.first);
    place_is = h.place_is;
    who_is = h.who_is;
  }

  service_fault : {p : Place} {x : NameId} → IsServiceFault f p x → IsServiceFault g p x
  service_fault h = record {
    branches = none_of_branches h.branches;
    service = h.service;
    first = subst (λ xs. IsFirstOf (HasServiceClash g) h.service xs) (services_same f g same) (first_alike (HasServiceClash f) (HasServiceClash g) (service_there f g same) service_back h.service h.first);
    place_is = h.place_is;
    who_is = h.who_is;
  }

  first_fault : {r : Rule} {p : Place} {x : NameId} → IsFirstMergeFault f r p x → IsFirstMergeFault g r p x
  first_fault (branches rule h) = branches rule (branch_fault h)
  first_fault (starts rule h) = starts rule (service_fault h)

  pub merge_denial : f.names ≡ g.names → (r : Refusal) → IsMergeDenial f (Refused r) → IsMergeDenial g (Refused r)
  merge_denial names r (x, h, told) = (x, first_fault h, told ∙ ap (λ ns. Some (name_in ns x)) names)
