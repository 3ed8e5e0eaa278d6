-- No session of a file without fault of names has a channel's name.
use Rattle.std.proofs.Common.{◌≡◌, ℕ, suc, ◌<◌, List, [], ◌∷◌, map, length, refl, sym, ap, ◌∙◌, subst, Some, Bool, true, false, if◌then◌else◌, ◌==◌, ◌||◌, arith}
use Rattle.std.specs.Prelude.{Contains}
use Rattle.std.specs.List.{filter}
use Rattle.chor_base.specs.declared.names.NameId.{NameId}
use Rattle.chor_tree.specs.declared.file.File.{File}
use Rattle.chor_tree.specs.declared.file.Proc.{Proc}
use Rattle.chor_tree.specs.declared.file.Service.{Service}
use Rattle.chor_tree.specs.declared.file.SessionParam.{SessionParam}
use Rattle.chor_tree.specs.Names.{Scope, is_among, channels_of}
use Rattle.chor_tree.specs.Source.{Starts, Sends, Selects, Gives, Sets, Asks, Shows, Block, Then, Either, Calls, Ends, body_of}
use Rattle.chor_semantics.specs.Choreography.{Named, among}
use Rattle.endpoint_code.specs.declared.endpoints.Channel.{Channel}
use Rattle.endpoint_code.specs.Network.{channel_of as channel_in}
use Rattle.well_formed.specs.WellFormed.{names_in_scope}
use Rattle.well_formed.proofs.References.{same_name, clash, or_rights}
use Rattle.typed_sources.specs.Laws.{IsAccepted}
use Rattle.chor_semantics.specs.Blocks.{choreography_of}
use Rattle.chor_semantics.proofs.Blocks.{choreography_at}
use Rattle.typed_sources.proofs.Sources.{scope_with}
use Rattle.projection.specs.Projects.{body_at}
use Rattle.accepted_files.specs.PlayedRoles.{sessions_of}
use Rattle.accepted_files.specs.Premises.{BindsNo}
use Rattle.typed_sources.proofs.Channels.{channel_from, channels_from}
use Rattle.typed_sources.proofs.References.{among_named}
use Rattle.typed_sources.proofs.Named.{AreNamed}
use Rattle.typed_sources.proofs.WellFormedFiles.{main_named, procedure_named, sessions_named}

-- a channel of the endpoints has a service's name
channel_known : (wanted : Service → Bool) (ss : List Service) (a : NameId) (k : Channel) → channel_in (map channel_from (filter wanted ss)) a ≡ Some k → is_among (map (λ s. s.name.name) ss) a ≡ true
channel_known wanted [] a k h = absurd cc
channel_known wanted (z ∷ zs) a k h = go (wanted z) h (channel_known wanted zs a k)
  where
    named : (b : Bool) → (if b then Some (channel_from z) else channel_in (map channel_from (filter wanted zs)) a) ≡ Some k → (channel_in (map channel_from (filter wanted zs)) a ≡ Some k → is_among (map (λ s. s.name.name) zs) a ≡ true)
        → (b || is_among (map (λ s. s.name.name) zs) a) ≡ true
    named true i ih = refl
    named false i ih = ih i

    go : (b : Bool) → channel_in (map channel_from (if b then z ∷ filter wanted zs else filter wanted zs)) a ≡ Some k → (channel_in (map channel_from (filter wanted zs)) a ≡ Some k → is_among (map (λ s. s.name.name) zs) a ≡ true)
        → ((z.name.name.0 == a.0) || is_among (map (λ s. s.name.name) zs) a) ≡ true
    go true i ih = named (z.name.name.0 == a.0) i ih
    go false i ih = or_rights (z.name.name.0 == a.0) _ (ih i)

module _ (f : File) (a : NameId) (known : is_among (channels_of f) a ≡ true) where
  another : (x : NameId) → is_among (channels_of f) x ≡ false → (x.0 == a.0) ≡ false
  another x off = go (x.0 == a.0) refl
    where
      go : (b : Bool) → (x.0 == a.0) ≡ b → (x.0 == a.0) ≡ false
      go false i = i
      go true i = absurd (clash known (ap (is_among (channels_of f)) (sym (same_name x a i)) ∙ off))

  -- no start of a block binds the name
  binds_no : (b : Block) (scope : Scope) → AreNamed f scope b → BindsNo a.0 (choreography_of b)
  binds_no (Then place (Starts c k active serve) next) scope m = (another k.name m.0.no_channel, binds_no next (scope_with scope (Starts c k active serve)) m.1)
  binds_no (Then place (Sends p x q y k) next) scope m = binds_no next scope m.1
  binds_no (Then place (Selects p q k l) next) scope m = binds_no next scope m.1
  binds_no (Then place (Gives p q k given) next) scope m = binds_no next scope m.1
  binds_no (Then place (Sets p y x) next) scope m = binds_no next scope m.1
  binds_no (Then place (Asks p y g x z) next) scope m = binds_no next scope m.1
  binds_no (Then place (Shows p x) next) scope m = binds_no next scope m.1
  binds_no (Either place p x first second) scope m = (binds_no first scope m.0, binds_no second scope m.1)
  binds_no (Calls place g ps ks) scope m = tt
  binds_no (Ends place) scope m = tt

  no_session : (ks : List SessionParam) → ((k : SessionParam) → Contains ks k → is_among (channels_of f) k.name.name ≡ false) → is_among (map (λ k. k.name.name) ks) a ≡ false
  no_session [] h = refl
  no_session (k ∷ ks) h =
      ap (λ b. b || is_among (map (λ k. k.name.name) ks) a) (another k.name.name (h k (0, omega arith, refl)))
      ∙ no_session ks (λ x m. h x (suc m.0, (let l : m.0 < length ks = m.1 in omega (arith, l)), m.2))

module _ (f : File) (words : List (List ℕ)) (ok : IsAccepted f words) (wanted : Service → Bool) (a : NameId) (k : Channel) (there : channel_in (channels_from wanted f) a ≡ Some k) where
  known : is_among (channels_of f) a ≡ true
  known = channel_known wanted f.services a k there

  -- No session of main has a channel's name
  pub main_apart : BindsNo a.0 (body_at f f.body)
  main_apart = subst (BindsNo a.0) (sym (choreography_at f.tree.nodes f.body)) (binds_no f a known (body_of f f.body) _ (main_named f words ok))

  -- nor one of a procedure
  pub procedure_apart : (x : Proc) → Contains f.procs x → (among (Named a.0 0) (names_in_scope (sessions_of x)) ≡ false) × BindsNo a.0 (body_at f x.body)
  procedure_apart x m = (
    among_named (sessions_of x) a.0 ∙ no_session f a known x.sessions (sessions_named f words ok x m),
    subst (BindsNo a.0) (sym (choreography_at f.tree.nodes x.body)) (binds_no f a known (body_of f x.body) _ (procedure_named f words ok x m)),
  )
