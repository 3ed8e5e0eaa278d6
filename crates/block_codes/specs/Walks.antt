-- The codes of the processes in scope at a block.
use Rattle.std.specs.Prelude.{◌≡◌, ◌<◌, List, length}
use Rattle.std.specs.List.{AllZip, All}
use Rattle.chor_base.specs.declared.names.NameId.{NameId}
use Rattle.chor_base.specs.declared.rule.Place.{Place}
use Rattle.chor_tree.specs.declared.file.File.{File}
use Rattle.chor_tree.specs.declared.file.Proc.{Proc}
use Rattle.chor_tree.specs.Source.{Block}
use Rattle.endpoint_code.specs.declared.code.CodeNode.{CodeNode}
use Rattle.endpoint_code.specs.Trees.{code_at}
use Rattle.branch_merge.specs.Merged.{Keeps}
use Rattle.chor_semantics.specs.Blocks.{choreography_of}
use Rattle.projection.specs.Codes.{IsCodeOf}
use Rattle.projection.specs.MergeFaults.{Site, sites_in, HasClash, IsFirstOf}
use Rattle.block_codes.specs.declared.coded.Coded.{Coded}
use Rattle.block_codes.specs.declared.stop.Stop.{Stop}
use Rattle.block_codes.specs.declared.stop.Stop.TheVariants.{Clash, Memory}

-- the process with a code of it for the block, which stands in the table
pub record IsCoded (procs : List Proc) (nodes : List CodeNode) (b : Block) (r : NameId) (x : Coded) : Type 0 where
  pub process : x.process ≡ r
  pub inside : x.code.0 < length nodes
  pub code : IsCodeOf procs r (choreography_of b) (code_at nodes x.code)

-- the processes in scope have codes for the block, one for one; no conditional of the block clashes; old nodes stay
pub record AreCodes (f : File) (b : Block) (scope : List NameId) (old new : List CodeNode) (xs : List Coded) : Type 0 where
  pub kept : Keeps old new
  pub each : AllZip (IsCoded f.procs new b) scope xs
  pub clean : All (λ s. HasClash f s → ⊥) (sites_in scope b)

-- the first site with a clash has this place and this process
pub record IsFirstClash (f : File) (sites : List Site) (place : Place) (who : NameId) : Type 0 where
  pub site : Site
  pub first : IsFirstOf (HasClash f) site sites
  pub place_is : site.place ≡ place
  pub who_is : site.process ≡ who

abbrev pub StopsAt : File → List Site → Stop → Type 0
StopsAt f sites (Clash place who) = IsFirstClash f sites place who
StopsAt f sites Memory = Unit {0}
