-- The code of one process at a block.
use Rattle.std.specs.Prelude.{◌<◌, List, [], ◌∷◌, ◌++◌, length}
use Rattle.std.specs.List.{All}
use Rattle.chor_base.specs.declared.names.NameId.{NameId}
use Rattle.chor_tree.specs.declared.file.File.{File}
use Rattle.chor_tree.specs.Source.{Block, Then, Either, Calls, Ends}
use Rattle.endpoint_code.specs.declared.code.CodeId.{CodeId}
use Rattle.endpoint_code.specs.declared.code.CodeNode.{CodeNode}
use Rattle.endpoint_code.specs.Trees.{code_at}
use Rattle.branch_merge.specs.Merged.{Keeps}
use Rattle.chor_semantics.specs.Blocks.{choreography_of}
use Rattle.projection.specs.Codes.{IsCodeOf}
use Rattle.projection.specs.MergeFaults.{Site, sites_at, HasClash}

-- the conditionals of a block that another process decides, by the braces that close them
abbrev pub sites_of : NameId → Block → List Site
sites_of r (Then place s next) = sites_of r next
sites_of r (Either place decider e first second) = sites_of r first ++ sites_of r second ++ sites_at (r ∷ []) place decider first second
sites_of r (Calls place f ps ss) = []
sites_of r (Ends place) = []

-- a code of the process for the block stands at id; no conditional of the block clashes for it; old nodes stay
pub record HasCode (f : File) (b : Block) (r : NameId) (old new : List CodeNode) (id : CodeId) : Type 0 where
  pub kept : Keeps old new
  pub inside : id.0 < length new
  pub code : IsCodeOf f.procs r (choreography_of b) (code_at new id)
  pub clean : All (λ s. HasClash f s → ⊥) (sites_of r b)
