-- Code with the numbers that its names, texts and nodes get in the tables of other programs (this project's own).
use Rattle.std.specs.Prelude.{ℕ, ◌≡◌, ◌<◌, ◌+◌, Bool, true, List, [], ◌∷◌, ◌++◌, map, length, All, slice_index_or}
use Rattle.chor_base.specs.declared.names.NameId.{NameId}
use Rattle.chor_base.specs.declared.value.Value.{Value}
use Rattle.chor_base.specs.declared.value.Value.TheVariants.{Int, Bool as Truth, Text, Part}
use Rattle.chor_base.specs.Expr.{Term, Constant, Variable, Unary, Binary, term_of}
use Rattle.endpoint_code.specs.declared.code.CodeId.{CodeId}
use Rattle.endpoint_code.specs.declared.code.CodeNode.{CodeNode}
use Rattle.endpoint_code.specs.declared.code.CodeNode.TheVariants as node
use Rattle.endpoint_code.specs.Faults.{asks_known}
use Rattle.endpoint_code.specs.Kept.{node_there}
use Rattle.endpoint_code.specs.Trees.{Action, Joins, Sends, Receives, Selects, Gives, Gains, Sets, Shows, Asks, CodeTree, Does, Offers, Tests, Calls, Ends, Arms, NoArms, Arm, tree_in, code_at}
use Rattle.endpoint_link.specs.declared.renumbering.Renumbering.{Renumbering}

-- the new number of a name
abbrev pub renumbered_name : Renumbering → NameId → NameId
renumbered_name s x = slice_index_or s.names x.0 x

-- of a text
abbrev pub renumbered_text : Renumbering → ℕ → ℕ
renumbered_text s t = slice_index_or s.texts t t

-- of a code node
abbrev pub renumbered_code : Renumbering → CodeId → CodeId
renumbered_code s id = record { 0 = s.first + id.0 }

-- ---- expressions

-- a value, renumbered
abbrev pub renumbered_value : Renumbering → Value → Value
renumbered_value s (Int z) = Int z
renumbered_value s (Truth b) = Truth b
renumbered_value s (Text t) = Text (renumbered_text s t)
renumbered_value s (Part n r) = Part n (renumbered_name s r)

-- an expression
abbrev pub renumbered_term : Renumbering → Term → Term
renumbered_term s (Constant v) = Constant (renumbered_value s v)
renumbered_term s (Variable x) = Variable (renumbered_name s x)
renumbered_term s (Unary op e) = Unary op (renumbered_term s e)
renumbered_term s (Binary op e f) = Binary op (renumbered_term s e) (renumbered_term s f)

-- ---- codes

-- an action, renumbered
abbrev pub renumbered_action : Renumbering → Action → Action
renumbered_action s (Joins c r k) = Joins (renumbered_name s c) (renumbered_name s r) (renumbered_name s k)
renumbered_action s (Sends k b e) = Sends (renumbered_name s k) (renumbered_name s b) (renumbered_term s e)
renumbered_action s (Receives k a x) = Receives (renumbered_name s k) (renumbered_name s a) (renumbered_name s x)
renumbered_action s (Selects k b l) = Selects (renumbered_name s k) (renumbered_name s b) (renumbered_name s l)
renumbered_action s (Gives k b h) = Gives (renumbered_name s k) (renumbered_name s b) (renumbered_name s h)
renumbered_action s (Gains k a h) = Gains (renumbered_name s k) (renumbered_name s a) (renumbered_name s h)
renumbered_action s (Sets x e) = Sets (renumbered_name s x) (renumbered_term s e)
renumbered_action s (Shows e) = Shows (renumbered_term s e)
renumbered_action s (Asks x f e g) = Asks (renumbered_name s x) (renumbered_name s f) (renumbered_term s e) (renumbered_term s g)

-- code and arms, renumbered
abbrev mutual
  pub renumbered_tree : Renumbering → CodeTree → CodeTree
  renumbered_tree s (Does a rest) = Does (renumbered_action s a) (renumbered_tree s rest)
  renumbered_tree s (Offers k a arms) = Offers (renumbered_name s k) (renumbered_name s a) (renumbered_arms s arms)
  renumbered_tree s (Tests e first second) = Tests (renumbered_term s e) (renumbered_tree s first) (renumbered_tree s second)
  renumbered_tree s (Calls f p ss) = Calls (renumbered_name s f) (renumbered_name s p) (map (renumbered_name s) ss)
  renumbered_tree s Ends = Ends

  pub renumbered_arms : Renumbering → Arms → Arms
  renumbered_arms s NoArms = NoArms
  renumbered_arms s (Arm l c rest) = Arm (renumbered_name s l) (renumbered_tree s c) (renumbered_arms s rest)

-- ---- nodes

-- an arm of a branch, renumbered
abbrev pub renumbered_arm : Renumbering → (NameId × CodeId) → (NameId × CodeId)
renumbered_arm s arm = (renumbered_name s arm.0, renumbered_code s arm.1)

-- the arms of a renumbered branch, where the trees ts of the nodes before it are known
abbrev pub joined_arms : Renumbering → List CodeTree → List (NameId × CodeId) → Arms
joined_arms s ts [] = NoArms
joined_arms s ts (arm ∷ arms) = Arm (renumbered_name s arm.0) (tree_in ts (renumbered_code s arm.1)) (joined_arms s ts arms)

-- the tree of a renumbered node, where the trees ts of the nodes before it are known
abbrev pub joined_tree : Renumbering → List CodeTree → CodeNode → CodeTree
joined_tree s ts (node.Join c r k next) = Does (renumbered_action s (Joins c r k)) (tree_in ts (renumbered_code s next))
joined_tree s ts (node.Send k b e next) = Does (renumbered_action s (Sends k b (term_of e))) (tree_in ts (renumbered_code s next))
joined_tree s ts (node.Recv k a x next) = Does (renumbered_action s (Receives k a x)) (tree_in ts (renumbered_code s next))
joined_tree s ts (node.Pick k b l next) = Does (renumbered_action s (Selects k b l)) (tree_in ts (renumbered_code s next))
joined_tree s ts (node.Branch k a arms) = Offers (renumbered_name s k) (renumbered_name s a) (joined_arms s ts arms)
joined_tree s ts (node.Throw k b h next) = Does (renumbered_action s (Gives k b h)) (tree_in ts (renumbered_code s next))
joined_tree s ts (node.Catch k a h next) = Does (renumbered_action s (Gains k a h)) (tree_in ts (renumbered_code s next))
joined_tree s ts (node.Set x e next) = Does (renumbered_action s (Sets x (term_of e))) (tree_in ts (renumbered_code s next))
joined_tree s ts (node.Show e next) = Does (renumbered_action s (Shows (term_of e))) (tree_in ts (renumbered_code s next))
joined_tree s ts (node.Host x f a b next) = Does (renumbered_action s (Asks x f (term_of a) (term_of b))) (tree_in ts (renumbered_code s next))
joined_tree s ts (node.If e first second) = Tests (renumbered_term s (term_of e)) (tree_in ts (renumbered_code s first)) (tree_in ts (renumbered_code s second))
joined_tree s ts (node.Call f p ss) = Calls (renumbered_name s f) (renumbered_name s p) (map (renumbered_name s) ss)
joined_tree s ts node.End = Ends

-- ---- tables

-- the renumbered node has names and texts of a table exactly where the node, with its numbers replaced, has
abbrev pub HasSameWords : Renumbering → CodeNode → CodeNode → Type 0
HasSameWords s o made = (n : NameId → Bool) (t : ℕ → Bool) → node_there n t made ≡ node_there (λ x. n (renumbered_name s x)) (λ x. t (renumbered_text s x)) o

-- and it asks a host function exactly where the node does
abbrev pub AsksSame : Renumbering → CodeNode → CodeNode → Type 0
AsksSame s o made = (known : NameId → Bool) → asks_known known made ≡ asks_known (λ x. known (renumbered_name s x)) o

-- The new table is the old one with the given nodes added, renumbered: old nodes stay, and each given node has its code at its
-- new number. Its nodes have names and texts of a table, and ask known host functions, where the old and the given ones do
pub record AreNodesJoined (s : Renumbering) (given old new : List CodeNode) : Type 0 where
  pub kept : (more : List CodeNode) × (new ≡ old ++ more)
  pub count : length new ≡ length old + length given
  pub codes : (id : CodeId) → id.0 < length given → code_at new (renumbered_code s id) ≡ renumbered_tree s (code_at given id)
  pub there : (n : NameId → Bool) (t : ℕ → Bool) → All (λ o. node_there n t o ≡ true) old → All (λ o. node_there (λ x. n (renumbered_name s x)) (λ x. t (renumbered_text s x)) o ≡ true) given → All (λ o. node_there n t o ≡ true) new
  pub asks : (known : NameId → Bool) → All (λ o. asks_known known o ≡ true) old → All (λ o. asks_known (λ x. known (renumbered_name s x)) o ≡ true) given → All (λ o. asks_known known o ≡ true) new
