-- What is said of all bytes (this project's own).
use Rattle.std.specs.Prelude.{ℕ, List, ◌⊎◌}
use Rattle.chor_base.specs.declared.rule.Place.{Place}
use Rattle.chor_base.specs.declared.rule.Rule.{Rule}
use Rattle.chor_base.specs.declared.rule.Refusal.{Refusal}
use Rattle.chor_tree.specs.declared.file.File.{File}
use Rattle.source_check.specs.declared.rules.Rules.{Rules}
use Rattle.source_check.specs.Source.{IsFileOf, IsNoSource, IsAccepted, Violates}

-- The bytes are the text of a file, or no source by some rule at some place
abbrev pub IsReadOrRefused : List ℕ → Type 0
IsReadOrRefused bytes = ((f : File) × IsFileOf bytes f) ⊎ ((rule : Rule) × (place : Place) × IsNoSource bytes rule place)

-- It can't be that the bytes are the text of no file that is accepted, and that they violate no rule
abbrev pub IsAcceptedOrRefused : Rules → List (List ℕ) → List ℕ → Type 0
IsAcceptedOrRefused rules hosts bytes = ((f : File) → IsAccepted rules hosts bytes f → ⊥) → ((r : Refusal) → Violates rules hosts bytes r → ⊥) → ⊥
