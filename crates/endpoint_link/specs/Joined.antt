-- The base and the given programs in one set of tables (this project's own).
use Rattle.std.specs.Prelude.{ℕ, ◌≡◌, ◌<◌, ◌+◌, ◌++◌, Bool, true, List, length, All}
use Rattle.chor_base.specs.declared.names.NameId.{NameId}
use Rattle.chor_base.specs.Words.{AllDistinct}
use Rattle.endpoint_code.specs.declared.code.CodeId.{CodeId}
use Rattle.endpoint_code.specs.declared.endpoints.Endpoints.{Endpoints}
use Rattle.endpoint_code.specs.Faults.{asks_known}
use Rattle.endpoint_code.specs.Kept.{has_name, has_text, node_there}
use Rattle.endpoint_code.specs.Trees.{code_at}
use Rattle.endpoint_link.specs.Renumbered.{renumbered_name, renumbered_text, renumbered_code, renumbered_tree}
use Rattle.same_programs.specs.Words.{IsSameWord}
use Rattle.endpoint_link.specs.declared.joined.Joined.{Joined}

-- The tables of j begin with those of e and have each name and each text once. What g has is in them too, renumbered. The
-- names and texts of its nodes are in its tables, and it asks no host function that neither e nor g asks
pub record AreProgramsJoined (e g : Endpoints) (j : Joined) : Type 0 where
  pub names : (more : List (List ℕ)) × (j.names ≡ e.names ++ more)
  pub texts : (more : List (List ℕ)) × (j.texts ≡ e.texts ++ more)
  pub distinct_names : AllDistinct j.names
  pub distinct_texts : AllDistinct j.texts
  pub same_name : (x : NameId) → x.0 < length g.names → IsSameWord g.names j.names x.0 (renumbered_name j.numbers x).0
  pub same_text : (t : ℕ) → t < length g.texts → IsSameWord g.texts j.texts t (renumbered_text j.numbers t)
  pub first : j.numbers.first ≡ length e.code.nodes
  pub count : length j.code.nodes ≡ length e.code.nodes + length g.code.nodes
  pub own : (id : CodeId) → id.0 < length e.code.nodes → code_at j.code.nodes id ≡ code_at e.code.nodes id
  pub given : (id : CodeId) → id.0 < length g.code.nodes → code_at j.code.nodes (renumbered_code j.numbers id) ≡ renumbered_tree j.numbers (code_at g.code.nodes id)
  pub there : All (λ o. node_there (has_name j.names) (has_text j.texts) o ≡ true) j.code.nodes
  pub asks : (known : NameId → Bool) → All (λ o. asks_known known o ≡ true) e.code.nodes → All (λ o. asks_known (λ x. known (renumbered_name j.numbers x)) o ≡ true) g.code.nodes
      → All (λ o. asks_known known o ≡ true) j.code.nodes
