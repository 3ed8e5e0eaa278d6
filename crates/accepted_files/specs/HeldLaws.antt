-- What is proved of processes that use the sessions in which they hold a role.
use Rattle.std.specs.Prelude.{◌≡◌, true, List, [], ◌∷◌}
use Rattle.std.specs.List.{AllByRecursion}
use Rattle.chor_base.specs.declared.names.NameId.{NameId}
use Rattle.chor_tree.specs.declared.file.File.{File}
use Rattle.chor_semantics.specs.Choreography.{Choreography}
use Rattle.endpoint_code.specs.declared.endpoints.Endpoints.{Endpoints}
use Rattle.endpoint_code.specs.Trees.{CodeTree}
use Rattle.projection.specs.Codes.{IsCodeOf}
use Rattle.projection.specs.Projects.{Projects, Started, is_some_start, IsServiceCode}
use Rattle.merged_codes.specs.Scoped.{IsScopedCode}
use Rattle.accepted_files.specs.Held.{Held, UsesHeld, Agrees, StartUses}

-- their code uses its session names well, where the sessions in which they hold a role are bound
abbrev pub CodesAreScoped : Type 0
CodesAreScoped =
    (f : File) (e : Endpoints) → Projects f e → (r : NameId) (c : Choreography) (x : CodeTree) → IsCodeOf f.procs r c x
    → (g : Held) (bs : List NameId) → Agrees g bs → UsesHeld e f.procs r c g → IsScopedCode e bs x

-- so does the code of a service role, where the channel's name is bound
abbrev pub ServicesAreScoped : Type 0
ServicesAreScoped =
    (f : File) (e : Endpoints) → Projects f e → (a r : NameId) (starts : List Started) (x : CodeTree) → is_some_start starts ≡ true
    → AllByRecursion (StartUses e f.procs a) starts → IsServiceCode f.procs a r starts x → IsScopedCode e (a ∷ []) x
