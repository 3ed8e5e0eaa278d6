-- What is proved of the least code above others, and of codes that use their session names well.
use Rattle.std.specs.Prelude.{◌<◌, Bool, List, ◌∷◌, length}
use Rattle.std.specs.List.{AllByRecursion}
use Rattle.chor_base.specs.declared.names.NameId.{NameId}
use Rattle.endpoint_code.specs.Labels.{HasDistinctLabels}
use Rattle.endpoint_code.specs.LeastAbove.{IsLeastAbove}
use Rattle.endpoint_code.specs.Trees.{CodeTree, code_at}
use Rattle.endpoint_code.specs.declared.code.CodeId.{CodeId}
use Rattle.endpoint_code.specs.declared.endpoints.Endpoints.{Endpoints}
use Rattle.endpoint_code.specs.Faults.{IsScoped}
use Rattle.merged_codes.specs.Merges.{IsMadeOf}
use Rattle.endpoint_code.specs.Asked.{AsksTree}
use Rattle.merged_codes.specs.Scoped.{IsScopedCode}

-- the least code above others is made of them by merging
abbrev pub LeastIsMade : Type 0
LeastIsMade =
    (c : CodeTree) (cs : List CodeTree) (q : CodeTree) → AllByRecursion HasDistinctLabels (c ∷ cs)
    → IsLeastAbove (c ∷ cs) q → IsMadeOf c cs q

-- the least code above some that ask only known host functions asks only known ones
abbrev pub LeastAsksKnown : Type 0
LeastAsksKnown =
    (known : NameId → Bool) (c : CodeTree) (cs : List CodeTree) (q : CodeTree) → AllByRecursion HasDistinctLabels (c ∷ cs)
    → AllByRecursion (AsksTree known) (c ∷ cs) → IsLeastAbove (c ∷ cs) q → AsksTree known q

-- where the tree at a number of a table uses its session names well, the code there does
abbrev pub TreesTellScopes : Type 0
TreesTellScopes = (e : Endpoints) (id : CodeId) (bs : List NameId) → id.0 < length e.code.nodes → IsScopedCode e bs (code_at e.code.nodes id) → IsScoped e id bs

-- the least code above some that use their session names well does so too
abbrev pub LeastIsScoped : Type 0
LeastIsScoped = (e : Endpoints) (bs : List NameId) (c : CodeTree) (cs : List CodeTree) (q : CodeTree) → AllByRecursion (IsScopedCode e bs) (c ∷ cs) → IsLeastAbove (c ∷ cs) q → IsScopedCode e bs q
