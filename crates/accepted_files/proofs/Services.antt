-- The code of a service role uses its session names well, where its processes use the sessions of their starts.
use Rattle.std.proofs.Common.{◌≡◌, ℕ, List, [], ◌∷◌, refl, Bool, true, false, if◌then◌else◌, ◌==◌, ◌||◌}
use Rattle.std.specs.List.{AllByRecursion, AllZip}
use Rattle.chor_base.specs.declared.names.NameId.{NameId}
use Rattle.chor_tree.specs.declared.file.File.{File}
use Rattle.chor_semantics.specs.Choreography.{put}
use Rattle.endpoint_code.specs.declared.endpoints.Endpoints.{Endpoints}
use Rattle.endpoint_code.specs.LeastAbove.{IsLeastAbove}
use Rattle.endpoint_code.specs.Trees.{CodeTree}
use Rattle.well_formed.proofs.References.{true_eq}
use Rattle.projection.specs.Projects.{Started, is_some_start, session_as, IsStartCode, IsServiceCode}
use Rattle.accepted_files.proofs.Units.{HasUnits}
use Rattle.merged_codes.specs.Scoped.{IsScopedCode}
use Rattle.merged_codes.proofs.ScopedMerged.{least_scoped}
use Rattle.accepted_files.specs.Held.{Agrees, only_in, StartUses}
use Rattle.accepted_files.proofs.Codes.{code_scoped}
use Rattle.accepted_files.proofs.HeldRenamed.{uses_renamed}

module _ (f : File) (e : Endpoints) (units : HasUnits e f.procs f.tree.nodes) (a r : NameId) where
  start_scoped : (s : Started) (c : CodeTree) → IsStartCode f.procs a r s c → StartUses e f.procs a s → IsScopedCode e (a ∷ []) c
  start_scoped s c w fine =
      code_scoped e f.procs f.tree.nodes units w.process (put (λ p. p) (session_as s.session a) s.rest) c w.code (only_in a.0) (a ∷ []) one
      (uses_renamed e f.procs w.process s.session a s.rest fine.free (only_in s.session) (only_in a.0) agree (fine.uses r w.process w.serves))
    where
      one : Agrees (only_in a.0) (a ∷ [])
      one y = go (y.0 == a.0)
        where
          go : (b : Bool) → (b || false) ≡ b
          go true = refl
          go false = refl

      agree : (y : ℕ) → (y == a.0) ≡ false → ((if y == s.session then a.0 else y) == a.0) ≡ (y == s.session)
      agree y i = go (y == s.session)
        where
          go : (b : Bool) → ((if b then a.0 else y) == a.0) ≡ b
          go true = true_eq a.0
          go false = i

  starts_scoped : (ss : List Started) (cs : List CodeTree) → AllZip (IsStartCode f.procs a r) ss cs → AllByRecursion (StartUses e f.procs a) ss → AllByRecursion (IsScopedCode e (a ∷ [])) cs
  starts_scoped [] [] z fine = tt
  starts_scoped [] (c ∷ cs) z fine = absurd z
  starts_scoped (s ∷ ss) [] z fine = absurd z
  starts_scoped (s ∷ ss) (c ∷ cs) z fine = (start_scoped s c z.0 fine.0, starts_scoped ss cs z.1 fine.1)

  least_of : (ss : List Started) (cs : List CodeTree) (c : CodeTree) → is_some_start ss ≡ true → AllZip (IsStartCode f.procs a r) ss cs → AllByRecursion (IsScopedCode e (a ∷ [])) cs → IsLeastAbove cs c → IsScopedCode e (a ∷ []) c
  least_of [] cs c some z h least = absurd cc
  least_of (s ∷ ss) [] c some z h least = absurd z
  least_of (s ∷ ss) (d ∷ ds) c some z h least = least_scoped e (a ∷ []) d ds c h least

  -- The code of a service role uses its session names well
  pub service_scoped : (ss : List Started) (c : CodeTree) → is_some_start ss ≡ true → AllByRecursion (StartUses e f.procs a) ss → IsServiceCode f.procs a r ss c → IsScopedCode e (a ∷ []) c
  service_scoped ss c some fine w = least_of ss w.codes c some w.each (starts_scoped ss w.codes w.each fine) w.merged
