-- The tables that the tokens of a file fill.
use Rattle.std.proofs.Common.{◌≡◌, ◌≤◌, ℕ, zero, suc, Bool, true, false, List, [], ◌∷◌, ◌++◌, length, cond, Some, refl, sym, subst}
use Rattle.std.specs.Prelude.{slice_get, bytes_eq}
use Rattle.std.specs.List.{AllByRecursion, list_any, fold}
use Rattle.chor_base.specs.Words.{with_word}
use Rattle.chor_lexer.specs.declared.token.Token.{Token}
use Rattle.chor_lexer.specs.Lexeme.{Symbol, word, number, text, mark, last, Lexeme, IsLexeme}
use Rattle.chor_lexer.specs.Tokens.{AreTokensOf, with_name}
use Rattle.chor_lexer.proofs.Sources.{IsKnown, known_tokens, of_file}
use Rattle.canonical_laws.proofs.Cutting.{AreWords}
use Rattle.canonical_laws.proofs.Known.{Known}

-- ---- each name is a word

abbrev IsWord : List ℕ → Type 0
IsWord w = IsLexeme (word w) w × (length w ≤ 64)

each_more : (ws : List (List ℕ)) (w : List ℕ) → AllByRecursion IsWord ws → IsWord w → AllByRecursion IsWord (ws ++ w ∷ [])
each_more [] w h k = (k, tt)
each_more (x ∷ ws) w h k = (h.0, each_more ws w h.1 k)

with_word_words : (ws : List (List ℕ)) (w : List ℕ) → AllByRecursion IsWord ws → IsWord w → AllByRecursion IsWord (with_word ws w)
with_word_words ws w h k = go (list_any (bytes_eq w) ws)
  where
    go : (b : Bool) → AllByRecursion IsWord (cond b ws (ws ++ w ∷ []))
    go true = h
    go false = each_more ws w h k

with_name_words : (ws : List (List ℕ)) (s : Symbol) → AllByRecursion IsWord ws → IsKnown s → AllByRecursion IsWord (with_name ws s)
with_name_words ws (word w) h k = with_word_words ws w h k
with_name_words ws (number n) h k = h
with_name_words ws (text t) h k = h
with_name_words ws (mark m) h k = h
with_name_words ws last h k = h

names_words : (ls : List Lexeme) (ws : List (List ℕ)) → AllByRecursion IsWord ws → AllByRecursion (λ (l : Lexeme). IsKnown l.symbol) ls → AllByRecursion IsWord (fold (λ table l. with_name table l.symbol) ws ls)
names_words [] ws h k = h
names_words (l ∷ ls) ws h k = names_words ls (with_name ws l.symbol) (with_name_words ws l.symbol h k.0) k.1

word_there : (ws : List (List ℕ)) → AllByRecursion IsWord ws → (i : ℕ) (w : List ℕ) → slice_get ws i ≡ Some w → IsWord w
word_there [] h i w e = absurd cc
word_there (x ∷ ws) h zero w e = let same : x ≡ w = cc in subst IsWord same h.0
word_there (x ∷ ws) h (suc i) w e = word_there ws h.1 i w e

-- ---- the tables of a file

module _ {bytes : List ℕ} {names texts : List (List ℕ)} {ts : List Token} (h : AreTokensOf bytes [] [] names texts ts) where
  pub are_words : AreWords names
  are_words i w e = word_there names (subst (AllByRecursion IsWord) (sym h.names_are) (names_words h.lexemes [] tt (known_tokens bytes h.lexemes h.tokens))) i w e

  pub known : Known names texts ts
  known = record { all = of_file names texts ts h.lexemes h.spelled (known_tokens bytes h.lexemes h.tokens) }
