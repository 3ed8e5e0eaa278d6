-- The number of a word in a table of names.
use Rattle.std.proofs.Common.{◌^◌, ◌≡◌, ◌<◌, ◌≤◌, ◌⊎◌, ℕ, suc, zero, Bool, true, false, List, [], ◌∷◌, length, Some, None, refl, sym, ap, ◌∙◌, if◌then◌else◌, inl, inr}
use Rattle.std.specs.Prelude.{slice_get, slice_index_or, bytes_eq}
use Rattle.std.specs.List.{AllByRecursion}
use Rattle.std.proofs.lemmas.Slice.Eq.{bytes_eq-Decides}
use Rattle.std.proofs.lemmas.Option.{slice_get_cases, get_or_from_slice_get}
use Rattle.std.proofs.lemmas.List.{get_or_past}
use Rattle.chor_base.specs.Words.{AllDistinct}
use Rattle.chor_base.specs.Writing.{name_in}
use Rattle.chor_base.specs.declared.names.NameId.{NameId}
use Rattle.chor_lexer.specs.declared.token.Kind.{Kind}
use Rattle.chor_lexer.specs.declared.token.Kind.TheVariants as kind
use Rattle.chor_lexer.specs.declared.token.Token.{Token}
use Rattle.chor_lexer.specs.Lexeme.{Symbol, word, number, text, mark, last, Lexeme, IsLexeme}
use Rattle.chor_lexer.specs.Tokens.{Spells, AreSpelled, AreTokensOf}
use Rattle.chor_lexer.proofs.Sources.{IsKnown, known_tokens}

-- ---- the number of a word

pub number_of : List (List ℕ) → List ℕ → ℕ
number_of [] w = 0
number_of (v ∷ ws) w = if bytes_eq w v then 0 else suc (number_of ws w)

-- the word isn't empty, and stands in the table
pub record HasNumber (names : List (List ℕ)) (w : List ℕ) : Type 0 where
  pub first : ℕ
  pub rest : List ℕ
  pub is : w ≡ first ∷ rest
  pub number : ℕ
  pub at : slice_get names number ≡ Some w

-- the first place of a word that stands somewhere
pub first_at : (ws : List (List ℕ)) (w : List ℕ) (n : ℕ) → slice_get ws n ≡ Some w → slice_get ws (number_of ws w) ≡ Some w
unfolding number_of
first_at [] w n h = absurd cc
first_at (v ∷ ws) w n h = go n (bytes_eq w v) refl h (λ m. first_at ws w m)
  where
    go : (n : ℕ) (b : Bool) → bytes_eq w v ≡ b → slice_get (v ∷ ws) n ≡ Some w → ((m : ℕ) → slice_get ws m ≡ Some w → slice_get ws (number_of ws w) ≡ Some w)
        → slice_get (v ∷ ws) (if b then 0 else suc (number_of ws w)) ≡ Some w
    go n true e h others = ap Some (sym ((bytes_eq-Decides w v).0 e))
    go zero false e h others =
        let same : w ≡ v = cc in
        let so : bytes_eq w v ≡ true = (bytes_eq-Decides w v).1 same in absurd cc
    go (suc n) false e h others = others n h

pub is_at : {names : List (List ℕ)} {w : List ℕ} → HasNumber names w → slice_get names (number_of names w) ≡ Some w
is_at {names} {w} h = first_at names w h.number h.at

-- a name whose word has a number has that number
pub same_number : (names : List (List ℕ)) → AllDistinct names → (n : NameId) → HasNumber names (name_in names n) → number_of names (name_in names n) ≡ n.0
same_number names d n h = go (slice_get_cases names n.0).1
  where
    go : ((x : List ℕ) × (n.0 < length names) × (slice_get names n.0 ≡ Some x) × (slice_index_or names n.0 x ≡ x)) ⊎ ((length names ≤ n.0) × (slice_get names n.0 ≡ None)) → number_of names (name_in names n) ≡ n.0
    go (inl (x, lt, at, same)) = d (number_of names (name_in names n)) n.0 (name_in names n) (is_at h) (at ∙ ap Some (sym (get_or_from_slice_get names n.0 x [] at)))
    go (inr (past, none)) = let e : name_in names n ≡ [] = get_or_past names n.0 [] past in absurd (nothing (sym e ∙ h.is))
      where
        nothing : [] ≡ h.first ∷ h.rest → ⊥
        nothing e = cc

-- ---- the words of a file

-- the text stands in the table
pub record HasText (texts : List (List ℕ)) (t : List ℕ) : Type 0 where
  pub number : ℕ
  pub at : slice_get texts number ≡ Some t

-- a word or a text that is a token has a number; a number is below 2^63
abbrev pub IsFineSymbol : List (List ℕ) → List (List ℕ) → Symbol → Type 0
IsFineSymbol names texts (word w) = HasNumber names w
IsFineSymbol names texts (text t) = HasText texts t
IsFineSymbol names texts (number n) = n < 2 ^ 63
IsFineSymbol names texts _ = Unit {0}

abbrev pub IsFine : List (List ℕ) → List (List ℕ) → Lexeme → Type 0
IsFine names texts l = IsFineSymbol names texts l.symbol

some_bytes : (w : List ℕ) → IsLexeme (word w) w → (first : ℕ) × (rest : List ℕ) × (w ≡ first ∷ rest)
some_bytes [] h = absurd (none h)
  where
    none : IsLexeme (word []) [] → ⊥
    none h = elim h [ ]
some_bytes (c ∷ cs) h = (c, cs, refl)

fine : (names texts : List (List ℕ)) (k : Kind) (s : Symbol) → Spells names texts k s → IsKnown s → IsFineSymbol names texts s
fine names texts (kind.Word n) (word w) h known = let some = some_bytes w known.0 in record { first = some.0; rest = some.1; is = some.2; number = n.0; at = h }
fine names texts (kind.Number z) (word w) h known = absurd h
fine names texts (kind.Text n) (word w) h known = absurd h
fine names texts (kind.Mark m) (word w) h known = absurd h
fine names texts kind.Last (word w) h known = absurd h
fine names texts (kind.Text n) (text t) h known = record { number = n; at = h }
fine names texts (kind.Word n) (text t) h known = absurd h
fine names texts (kind.Number z) (text t) h known = absurd h
fine names texts (kind.Mark m) (text t) h known = absurd h
fine names texts kind.Last (text t) h known = absurd h
fine names texts k (number n) h known = known
fine names texts k (mark m) h known = tt
fine names texts k last h known = tt

all_fine : (names texts : List (List ℕ)) (ts : List Token) (ls : List Lexeme) → AreSpelled names texts ts ls → AllByRecursion (λ (l : Lexeme). IsKnown l.symbol) ls → AllByRecursion (IsFine names texts) ls
all_fine names texts [] [] h k = tt
all_fine names texts [] (l ∷ ls) h k = absurd h
all_fine names texts (t ∷ ts) [] h k = absurd h
all_fine names texts (t ∷ ts) (l ∷ ls) h k = (fine names texts t.kind l.symbol h.0.0 k.0, all_fine names texts ts ls h.1 k.1)

-- each word and each text of a file has a number
pub fine_tokens : {bytes : List ℕ} {names texts : List (List ℕ)} {ts : List Token} → (a : AreTokensOf bytes [] [] names texts ts) → AllByRecursion (IsFine names texts) a.lexemes
fine_tokens {bytes} {names} {texts} {ts} a = all_fine names texts ts a.lexemes a.spelled (known_tokens bytes a.lexemes a.tokens)
