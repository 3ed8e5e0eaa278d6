-- How bytes are cut into tokens.
use Rattle.std.specs.Prelude.{◌≡◌, ◌+◌, ℕ, Bool, true, ◌||◌, not, ◌==◌, List, [], ◌∷◌, ◌++◌, if◌then◌else◌}
use Rattle.std.specs.List.{AllByRecursion}
use Rattle.chor_base.specs.declared.rule.Place.{Place}
use Rattle.chor_lexer.specs.Lexeme.{Symbol, Lexeme, IsLongest, IsWithin}

-- ---- white space and comments

-- space, tab, carriage return, line feed
abbrev pub is_space : ℕ → Bool
is_space b = b == 32 || b == 9 || b == 13 || b == 10

-- all but line feed
abbrev pub is_line_byte : ℕ → Bool
is_line_byte b = not (b == 10)

-- a line ends before these bytes
abbrev pub EndsLine : List ℕ → Type 0
EndsLine [] = Unit {0}
EndsLine (b ∷ bs) = b ≡ 10

-- what stands before the rest is a byte of white space, or a comment: two slashes (47) and all that follows on the line
pub data IsBlank : List ℕ → List ℕ → Type 0 where
  space : {b : ℕ} {rest : List ℕ} → is_space b ≡ true → IsBlank (b ∷ []) rest
  comment : {line rest : List ℕ}
      → AllByRecursion (λ b. is_line_byte b ≡ true) line → EndsLine rest
      → IsBlank (47 ∷ 47 ∷ line) rest

-- neither white space nor a comment stands at the front
abbrev pub NoBlank : List ℕ → Type 0
NoBlank bs = (w u : List ℕ) → bs ≡ w ++ u → IsBlank w u → ⊥

-- ---- places

-- where the first byte of a file stands
abbrev pub start : Place
start = record { line = 1; col = 1 }

-- where the byte after this one stands
abbrev pub after_byte : Place → ℕ → Place
after_byte p b = if b == 10 then record { line = p.line + 1; col = 1 } else record { line = p.line; col = p.col + 1 }

-- where the byte after these stands
abbrev pub place_after : Place → List ℕ → Place
place_after p [] = p
place_after p (b ∷ bs) = place_after (after_byte p b) bs

-- ---- cuts

-- at the front of bs stands this symbol as its longest token, within the limits
pub record IsNext (s : Symbol) (w rest bs : List ℕ) : Type 0 where
  pub no_blank : NoBlank bs
  pub longest : IsLongest s w rest bs
  pub within : IsWithin s w

-- the bytes bs, whose first stands at p, begin with these tokens; the rest begins at q
pub data IsCut : List ℕ → Place → List Lexeme → List ℕ → Place → Type 0 where
  here : {bs : List ℕ} {p : Place} → IsCut bs p [] bs p
  blank : {bs w mid rest : List ℕ} {p q : Place} {ls : List Lexeme}
      → bs ≡ w ++ mid → IsBlank w mid
      → IsCut mid (place_after p w) ls rest q
      → IsCut bs p ls rest q
  token : {bs w mid rest : List ℕ} {p q : Place} {s : Symbol} {ls : List Lexeme}
      → IsNext s w mid bs
      → IsCut mid (place_after p w) ls rest q
      → IsCut bs p (record { symbol = s; place = p } ∷ ls) rest q
