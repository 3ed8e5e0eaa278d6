-- What the codes of two branches become.
use Rattle.std.specs.Prelude.{◌≡◌, ◌==◌, ◌<◌, Bool, true, false, List, [], ◌∷◌, length}
use Rattle.std.specs.List.{AllZip, zip}
use Rattle.chor_base.specs.declared.names.NameId.{NameId}
use Rattle.chor_base.specs.declared.rule.Place.{Place}
use Rattle.chor_base.specs.Expr.{term_of}
use Rattle.chor_tree.specs.declared.tree.Form.{Form}
use Rattle.chor_tree.specs.declared.tree.Form.TheVariants.{If}
use Rattle.chor_tree.specs.declared.tree.Node.{Node as TreeNode}
use Rattle.endpoint_code.specs.declared.code.CodeId.{CodeId}
use Rattle.endpoint_code.specs.declared.code.CodeNode.{CodeNode}
use Rattle.endpoint_code.specs.Labels.{HasDistinctLabels}
use Rattle.endpoint_code.specs.LeastAbove.{IsLeastAbove, HasNoneAbove}
use Rattle.endpoint_code.specs.Trees.{CodeTree, Tests, code_at}
use Rattle.branch_merge.specs.Merged.{Keeps}
use Rattle.projection.specs.MergeFaults.{IsFirstOf}
use Rattle.block_codes.specs.declared.coded.Coded.{Coded}
use Rattle.block_codes.specs.declared.stop.Stop.{Stop}
use Rattle.block_codes.specs.declared.stop.Stop.TheVariants.{Clash, Memory}

-- a process with its codes in two branches
abbrev pub Branched : Type 0
Branched = Coded × Coded

abbrev pub is_conditional : Form → Bool
is_conditional (If p e first second) = true
is_conditional _ = false

-- the process decides
abbrev pub decides : NameId → Form → Bool
decides r (If p e first second) = r.0 == p.name.0
decides r _ = false

-- the code stands in the table, and no branch in it has a label twice
pub record IsSound (nodes : List CodeNode) (x : Coded) : Type 0 where
  pub inside : x.code.0 < length nodes
  pub distinct : HasDistinctLabels (code_at nodes x.code)

-- q tests the form's condition before two codes
abbrev pub IsTest : Form → CodeTree → CodeTree → CodeTree → Type 0
IsTest (If p e first second) c d q = q ≡ Tests (term_of e) c d
IsTest _ c d q = ⊥

-- the code for both branches: the decider tests, and another has the least code above both
abbrev pub IsJoin : Bool → Form → CodeTree → CodeTree → CodeTree → Type 0
IsJoin true g c d q = IsTest g c d q
IsJoin false g c d q = IsLeastAbove (c ∷ d ∷ []) q

-- the process's code for both branches stands at id, and old nodes stay
pub record IsJoinedAt (old new : List CodeNode) (g : Form) (x : Branched) (id : CodeId) : Type 0 where
  pub kept : Keeps old new
  pub inside : id.0 < length new
  pub code : IsJoin (decides x.0.process g) g (code_at old x.0.code) (code_at old x.1.code) (code_at new id)

-- the same process with its code for both branches
pub record IsJoined (old new : List CodeNode) (g : Form) (x : Branched) (y : Coded) : Type 0 where
  pub process : y.process ≡ x.0.process
  pub inside : y.code.0 < length new
  pub code : IsJoin (decides x.0.process g) g (code_at old x.0.code) (code_at old x.1.code) (code_at new y.code)

-- all of these, one for one, and old nodes stay
pub record AreJoined (old new : List CodeNode) (g : Form) (firsts seconds ys : List Coded) : Type 0 where
  pub kept : Keeps old new
  pub each : AllZip (IsJoined old new g) (zip firsts seconds) ys

-- the process doesn't decide, and no code is above both
pub record IsStuck (old : List CodeNode) (g : Form) (x : Branched) : Type 0 where
  pub other : decides x.0.process g ≡ false
  pub none : HasNoneAbove (code_at old x.0.code ∷ code_at old x.1.code ∷ [])

-- a clash tells the conditional's place and the stuck process
pub record IsStuckAt (old : List CodeNode) (n : TreeNode) (x : Branched) (place : Place) (who : NameId) : Type 0 where
  pub place_is : place ≡ n.place
  pub who_is : who ≡ x.0.process
  pub stuck : IsStuck old n.form x

abbrev pub StopsOne : List CodeNode → TreeNode → Branched → Stop → Type 0
StopsOne old n x (Clash place who) = IsStuckAt old n x place who
StopsOne old n x Memory = Unit {0}

-- the first that is stuck
pub record IsFirstStuck (old : List CodeNode) (n : TreeNode) (xs : List Branched) (place : Place) (who : NameId) : Type 0 where
  pub branched : Branched
  pub first : IsFirstOf (IsStuck old n.form) branched xs
  pub place_is : place ≡ n.place
  pub who_is : who ≡ branched.0.process

abbrev pub StopsFirst : List CodeNode → TreeNode → List Branched → Stop → Type 0
StopsFirst old n xs (Clash place who) = IsFirstStuck old n xs place who
StopsFirst old n xs Memory = Unit {0}
