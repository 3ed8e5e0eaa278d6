-- Each text of a table that tokens fill is one of a file.
use Rattle.std.proofs.Common.{◌≡◌, ℕ, zero, suc, Bool, true, false, List, [], ◌∷◌, ◌++◌, cond, Some, sym, subst}
use Rattle.std.specs.Prelude.{slice_get, bytes_eq}
use Rattle.std.specs.List.{AllByRecursion, list_any, fold}
use Rattle.chor_base.specs.Words.{with_word}
use Rattle.chor_lexer.specs.declared.token.Token.{Token}
use Rattle.chor_lexer.specs.Lexeme.{Symbol, word, number, text, mark, last, Lexeme}
use Rattle.chor_lexer.specs.Tokens.{AreTokensOf, with_text}
use Rattle.chor_lexer.proofs.Sources.{IsKnown, known_tokens}

abbrev pub IsText : List ℕ → Type 0
IsText t = IsKnown (text t)

each_more : (ws : List (List ℕ)) (w : List ℕ) → AllByRecursion IsText ws → IsText w → AllByRecursion IsText (ws ++ w ∷ [])
each_more [] w h k = (k, tt)
each_more (x ∷ ws) w h k = (h.0, each_more ws w h.1 k)

one_more : (ws : List (List ℕ)) (w : List ℕ) → AllByRecursion IsText ws → IsText w → AllByRecursion IsText (with_word ws w)
one_more ws w h k = go (list_any (bytes_eq w) ws)
  where
    go : (b : Bool) → AllByRecursion IsText (cond b ws (ws ++ w ∷ []))
    go true = h
    go false = each_more ws w h k

symbol_texts : (ws : List (List ℕ)) (s : Symbol) → AllByRecursion IsText ws → IsKnown s → AllByRecursion IsText (with_text ws s)
symbol_texts ws (word w) h k = h
symbol_texts ws (number n) h k = h
symbol_texts ws (text t) h k = one_more ws t h k
symbol_texts ws (mark m) h k = h
symbol_texts ws last h k = h

all_texts : (ls : List Lexeme) (ws : List (List ℕ)) → AllByRecursion IsText ws → AllByRecursion (λ (l : Lexeme). IsKnown l.symbol) ls → AllByRecursion IsText (fold (λ table l. with_text table l.symbol) ws ls)
all_texts [] ws h k = h
all_texts (l ∷ ls) ws h k = all_texts ls (with_text ws l.symbol) (symbol_texts ws l.symbol h k.0) k.1

text_at : (ws : List (List ℕ)) → AllByRecursion IsText ws → (i : ℕ) (w : List ℕ) → slice_get ws i ≡ Some w → IsText w
text_at [] h i w e = absurd cc
text_at (x ∷ ws) h zero w e = let same : x ≡ w = cc in subst IsText same h.0
text_at (x ∷ ws) h (suc i) w e = text_at ws h.1 i w e

pub are_texts : {bytes : List ℕ} {names texts : List (List ℕ)} {ts : List Token} → AreTokensOf bytes [] [] names texts ts → (i : ℕ) (w : List ℕ) → slice_get texts i ≡ Some w → IsText w
are_texts {bytes} {names} {texts} h i w e = text_at texts (subst (AllByRecursion IsText) (sym h.texts_are) (all_texts h.lexemes [] tt (known_tokens bytes h.lexemes h.tokens))) i w e
