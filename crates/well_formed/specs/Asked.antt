-- The host functions that a choreography asks, and when they have an answer.
use Rattle.std.specs.Prelude.{ℤ, ◌≡◌, Some}
use Rattle.chor_base.specs.declared.names.NameId.{NameId}
use Rattle.chor_base.specs.Meaning.{Hosts, meaning_named, MayAnswer}
use Rattle.chor_tree.specs.declared.file.File.{File}
use Rattle.chor_semantics.specs.Choreography.{Sets, Shows, Asks, Starts, Communicates, InTransit, Alone, Choreography, Then, Either, Calls, Ends}
use Rattle.chor_semantics.specs.Sources.{Procedure, procedures_of, tree_in, trees_of}
use Rattle.chor_semantics.specs.Steps.{procedure_named}

-- the host function has an answer to each pair of numbers
abbrev pub CanAnswer : Hosts → NameId → Type 0
CanAnswer hosts f = (y z : ℤ) → (v : ℤ) × MayAnswer (meaning_named hosts f) y z v

-- A holds of each host function that is asked
abbrev pub AllAsked : (NameId → Type 0) → Choreography → Type 0
AllAsked A (Then (Starts c d k active serve) rest) = AllAsked A rest
AllAsked A (Then (Communicates s p a q b w) rest) = AllAsked A rest
AllAsked A (Then (InTransit s a b m q) rest) = AllAsked A rest
AllAsked A (Then (Alone p (Sets x e)) rest) = AllAsked A rest
AllAsked A (Then (Alone p (Shows e)) rest) = AllAsked A rest
AllAsked A (Then (Alone p (Asks x f a b)) rest) = A f × AllAsked A rest
AllAsked A (Either p e c d) = AllAsked A c × AllAsked A d
AllAsked A (Calls h k ps ss) = Unit {0}
AllAsked A Ends = Unit {0}

-- each host function that main or a procedure asks has an answer
pub record IsAnswered (f : File) (hosts : Hosts) : Type 0 where
  pub main : AllAsked (CanAnswer hosts) (tree_in (trees_of f.tree.nodes) f.body)
  pub procedures : (h : NameId) (p : Procedure) → procedure_named (procedures_of f) h ≡ Some p → AllAsked (CanAnswer hosts) p.body
