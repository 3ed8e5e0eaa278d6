-- The text of all local types of a file (this project's own).
use Rattle.std.specs.Prelude.{ℕ, ◌≡◌, List, [], ◌∷◌, ◌++◌}
use Rattle.chor_tree.specs.declared.file.File.{File}
use Rattle.chor_tree.specs.declared.file.Named.{Named}
use Rattle.chor_tree.specs.Protocols.{Protocol}
use Rattle.local_types.specs.declared.local_type.LocalState.{LocalState}
use Rattle.local_types.specs.Reading.{IsRoleType}
use Rattle.local_types.specs.Text.{local_text}

-- the text is made of one text for each of these, in their order
abbrev pub AreTexts : {A : Type 0} → (A → List ℕ → Type 0) → List A → List ℕ → Type 0
AreTexts Each [] text = text ≡ []
AreTexts Each (x ∷ xs) text = (one : List ℕ) × (rest : List ℕ) × Each x one × AreTexts Each xs rest × (text ≡ one ++ rest)

-- the text of the role's type, its states numbered breadth first, the labels of each in ascending order and each once
pub record IsTypeText (names : List (List ℕ)) (p : Protocol) (role : Named) (text : List ℕ) : Type 0 where
  pub states : List LocalState
  pub is_type : IsRoleType names p.states role.name states
  pub text_is : text ≡ local_text names p.name.name role.name states

-- the texts of a protocol's roles, one after another
abbrev pub AreRoleTexts : List (List ℕ) → Protocol → List ℕ → Type 0
AreRoleTexts names p text = AreTexts (IsTypeText names p) p.roles text

-- The text of a file's local types: those of its first protocol's roles, then those of the next, in the order of the source
abbrev pub IsTypesText : File → List ℕ → Type 0
IsTypesText f text = AreTexts (AreRoleTexts f.names) f.protocols text
