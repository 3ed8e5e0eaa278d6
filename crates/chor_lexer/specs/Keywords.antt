-- Keywords and names, and what a token says where the words have these numbers.
use Rattle.std.specs.Prelude.{◌≡◌, ℕ, false, List, [], ◌∷◌, Some, slice_get, bytes_eq, codes}
use Rattle.std.specs.List.{list_any}
use Rattle.chor_base.specs.declared.names.NameId.{NameId}
use Rattle.chor_lexer.specs.declared.mark.Mark.{Mark}
use Rattle.chor_lexer.specs.declared.token.Kind.TheVariants as kind
use Rattle.chor_lexer.specs.declared.token.Token.{Token}

-- the words that are no names
abbrev pub keywords : List (List ℕ)
keywords =
    codes "protocol" ∷ codes "service" ∷ codes "proc" ∷ codes "main" ∷ codes "start" ∷ codes "new" ∷ codes "if" ∷ codes "else" ∷ codes "call" ∷ codes "end"
    ∷ codes "show" ∷ codes "host" ∷ codes "then" ∷ codes "int" ∷ codes "bool" ∷ codes "text" ∷ codes "true" ∷ codes "false" ∷ codes "chor" ∷ codes "capacity" ∷ []

-- a word is a name if it is no keyword
abbrev pub IsName : List ℕ → Type 0
IsName w = list_any (bytes_eq w) keywords ≡ false

-- the token is this mark
abbrev pub HasMark : Mark → Token → Type 0
HasMark m t = t.kind ≡ kind.Mark m

-- the token is this word
pub record HasWord (names : List (List ℕ)) (w : List ℕ) (t : Token) : Type 0 where
  pub number : NameId
  pub kind : t.kind ≡ kind.Word number
  pub word : slice_get names number.0 ≡ Some w

-- the token is the name of this number
pub record HasName (names : List (List ℕ)) (x : NameId) (t : Token) : Type 0 where
  pub word : List ℕ
  pub kind : t.kind ≡ kind.Word x
  pub is : slice_get names x.0 ≡ Some word
  pub name : IsName word
