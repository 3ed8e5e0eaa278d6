-- Tables of nodes that grow, and which nodes are added to them (this project's own).
use Rattle.std.specs.Prelude.{◌≡◌, ◌<◌, ◌≤◌, ◌&&◌, ℕ, Bool, true, List, ◌++◌, length, map}
use Rattle.std.specs.List.{AllByRecursion, list_all}
use Rattle.chor_base.specs.declared.names.NameId.{NameId}
use Rattle.chor_tree.specs.declared.file.Proc.{Proc}
use Rattle.chor_tree.specs.declared.tree.Form.{Form}
use Rattle.chor_tree.specs.declared.tree.Node.{Node}
use Rattle.chor_tree.specs.declared.tree.NodeId.{NodeId}
use Rattle.chor_tree.specs.Source.{Statement, Starts, Sends, Selects, Gives, Sets, Asks, Shows, Block, Then, Either, Calls, Ends, block_in, blocks_of}
use Rattle.chor_tree.specs.Protocols.{has_items}
use Rattle.chor_tree.specs.Kept.{named_there, names_there, part_there, term_there, form_there, comes_after_items, form_filled, followers_in, times}

-- ---- numbers are in their tables, and lists have the items that they need

abbrev pub form_kept : (NameId → Bool) → (ℕ → Bool) → Form → Bool
form_kept n t f = form_there n t f && form_filled f

abbrev pub statement_there : (NameId → Bool) → (ℕ → Bool) → Statement → Bool
statement_there n t (Starts c k active serve) = named_there n c && named_there n k && list_all (part_there n) active && list_all (part_there n) serve
statement_there n t (Sends a e b x k) = part_there n a && term_there n t e && part_there n b && n x && named_there n k
statement_there n t (Selects a b k l) = part_there n a && part_there n b && named_there n k && n l
statement_there n t (Gives a b k given) = part_there n a && part_there n b && named_there n k && part_there n given
statement_there n t (Sets p x e) = named_there n p && n x && term_there n t e
statement_there n t (Asks p x f a b) = named_there n p && n x && named_there n f && term_there n t a && term_there n t b
statement_there n t (Shows p e) = named_there n p && term_there n t e

abbrev pub statement_filled : Statement → Bool
statement_filled (Starts c k active serve) = has_items active
statement_filled _ = true

abbrev pub statement_kept : (NameId → Bool) → (ℕ → Bool) → Statement → Bool
statement_kept n t s = statement_there n t s && statement_filled s

abbrev pub block_kept : (NameId → Bool) → (ℕ → Bool) → Block → Bool
block_kept n t (Then p s b) = statement_kept n t s && block_kept n t b
block_kept n t (Either p q e a b) = (named_there n q && term_there n t e) && (block_kept n t a && block_kept n t b)
block_kept n t (Calls p f ps ss) = (named_there n f && names_there n ps && names_there n ss) && comes_after_items ps ss
block_kept n t (Ends p) = true

-- ---- a table grows

-- a table has grown
abbrev pub Grows : List Node → List Node → Type 0
Grows old new = (more : List Node) × (new ≡ old ++ more)

-- the bodies begin at nodes of the table
abbrev pub AreThere : List Node → List Proc → Type 0
AreThere nodes ps = AllByRecursion (λ p. p.body.0 < length nodes) ps

-- The new nodes lead on from these roots: where the blocks of the roots are kept, so is each new node. Each new node is at most
-- once a root or the follower of a new one, and no other node is.
pub record Adds (old new : List Node) (roots : List NodeId) : Type 0 where
  pub added : List Node
  pub parts : new ≡ old ++ added
  pub there : AllByRecursion (λ r. r.0 < length new) roots
  pub kept : (n : NameId → Bool) (t : ℕ → Bool) → AllByRecursion (λ r. block_kept n t (block_in (blocks_of new) r) ≡ true) roots → list_all (λ o. form_kept n t o.form) added ≡ true
  pub once : (id : NodeId) → times id (roots ++ followers_in added) ≤ 1
  pub before : (id : NodeId) → id.0 < length old → times id (roots ++ followers_in added) ≡ 0
  pub after : (id : NodeId) → length new ≤ id.0 → times id (roots ++ followers_in added) ≡ 0

-- where procedures begin
abbrev pub begins_of : List Proc → List NodeId
begins_of ps = map (λ p. p.body) ps
