-- What a process knows of the sessions in which it holds a role, and what a file says of roles and parameters.
use Rattle.std.proofs.Common.{◌≡◌, List, [], ◌∷◌, ◌++◌, map, sym, ap, ◌∙◌, subst, refl, Some, true, ◌&&◌}
use Rattle.std.specs.Prelude.{not}
use Rattle.std.proofs.lemmas.Bool.{and_parts}
use Rattle.chor_base.specs.declared.names.NameId.{NameId}
use Rattle.chor_base.specs.declared.rule.Rule.TheVariants.{N3}
use Rattle.chor_tree.specs.declared.file.File.{File}
use Rattle.chor_tree.specs.declared.file.Named.{Named as Written}
use Rattle.chor_tree.specs.declared.file.Proc.{Proc}
use Rattle.chor_tree.specs.declared.file.Service.{Service}
use Rattle.chor_tree.specs.declared.tree.Part.{Part}
use Rattle.chor_tree.specs.Names.{names_in, are_same, wrong_parts, channel_of, procedure_of}
use Rattle.chor_semantics.specs.Choreography.{Choreography}
use Rattle.endpoint_code.specs.declared.endpoints.Endpoints.{Endpoints}
use Rattle.endpoint_code.specs.Network.{channel_of as channel_in}
use Rattle.well_formed.specs.WellFormed.{AreDistinctRoles}
use Rattle.delegation.specs.declared.held.Held.{Held as Entry}
use Rattle.delegation.specs.Owners.{holder_of}
use Rattle.delegation.specs.Checks.{all_differ}
use Rattle.typing_rules.specs.Environment.{Environment}
use Rattle.typed_sources.proofs.ProcedureHeads.{no_fault_at, not_true}
use Rattle.accepted_files.specs.Held.{Held}
use Rattle.typed_sources.proofs.Channels.{channel_from, StartsIn}
use Rattle.typed_sources.proofs.BlockScopes.{same_names}

-- a role of a session that a process holds
pub record HasRole (hs : List Entry) (k r : NameId) : Type 0 where
  pub role : NameId
  pub is : holder_of hs k role ≡ Some r

-- the sessions are those in which it holds a role
pub record Knows (r : NameId) (g : Held) (e : Environment) : Type 0 where
  pub there : (k a : NameId) → holder_of e.owners k a ≡ Some r → g k.0 ≡ true
  pub back : (k : NameId) → g k.0 ≡ true → HasRole e.owners k r

-- the endpoints have each channel that the choreography starts
abbrev pub AreThere : File → Endpoints → Choreography → Type 0
AreThere f ep x = (c : NameId) (s : Service) → StartsIn c x → channel_of f c ≡ Some s → channel_in ep.channels c ≡ Some (channel_from s)

-- no role of a channel stands twice, and no parameter of a procedure
pub record DiffersThere (f : File) : Type 0 where
  pub roles : (c : NameId) (s : Service) → channel_of f c ≡ Some s → AreDistinctRoles (names_in s.active ++ names_in s.serve)
  pub params : (h : NameId) (p : Proc) → procedure_of f h ≡ Some p → all_differ (map (λ q. q.name.name) p.params) ≡ true

roles_append : (xs ys : List Part) → map (λ q. q.role.name) (xs ++ ys) ≡ map (λ q. q.role.name) xs ++ map (λ q. q.role.name) ys
roles_append [] ys = refl
roles_append (x ∷ xs) ys = ap (λ l. x.role.name ∷ l) (roles_append xs ys)

-- a start's parts have its channel's roles
pub record HasRoles (s : Service) (active serve : List Part) : Type 0 where
  pub active_roles : map (λ q. q.role.name) active ≡ names_in s.active
  pub serve_roles : map (λ q. q.role.name) serve ≡ names_in s.serve

pub start_roles : (f : File) (c : Written) (s : Service) (active serve : List Part) → channel_of f c.name ≡ Some s → wrong_parts (channel_of f c.name) c active serve ≡ [] → HasRoles s active serve
start_roles f c s active serve is h = record { active_roles = same_names (map (λ q. q.role.name) active) (names_in s.active) w.0; serve_roles = same_names (map (λ q. q.role.name) serve) (names_in s.serve) w.1 }
  where
    w : (are_same (map (λ q. q.role.name) active) (names_in s.active) ≡ true) × (are_same (map (λ q. q.role.name) serve) (names_in s.serve) ≡ true)
    w = and_parts _ _ (not_true _ (no_fault_at (not (are_same (map (λ q. q.role.name) active) (names_in s.active) && are_same (map (λ q. q.role.name) serve) (names_in s.serve))) N3 c (subst (λ o. wrong_parts o c active serve ≡ []) is h)))

pub parts_apart : (f : File) → DiffersThere f → (c : NameId) (s : Service) (active serve : List Part) → channel_of f c ≡ Some s → HasRoles s active serve → AreDistinctRoles (map (λ q. q.role.name) (active ++ serve))
parts_apart f d c s active serve is h = subst AreDistinctRoles (sym (roles_append active serve ∙ ap (λ l. l ++ map (λ q. q.role.name) serve) h.active_roles ∙ ap (λ l. names_in s.active ++ l) h.serve_roles)) (d.roles c s is)
