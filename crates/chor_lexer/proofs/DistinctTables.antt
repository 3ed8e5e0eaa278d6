-- No word stands twice in the tables that the tokens of a file fill.
use Rattle.std.proofs.Common.{◌≡◌, ℕ, Bool, true, false, List, [], ◌∷◌, ◌++◌, cond, refl, sym, subst}
use Rattle.std.specs.Prelude.{bytes_eq}
use Rattle.std.specs.List.{list_any, fold}
use Rattle.chor_base.specs.Words.{with_word, AllDistinct}
use Rattle.chor_base.proofs.WordTables.{distinct_none, distinct_more}
use Rattle.chor_lexer.specs.declared.token.Token.{Token}
use Rattle.chor_lexer.specs.Lexeme.{Symbol, word, number, text, mark, last, Lexeme}
use Rattle.chor_lexer.specs.Tokens.{AreTokensOf, with_name, with_text}

with_word_distinct : (ws : List (List ℕ)) (w : List ℕ) → AllDistinct ws → AllDistinct (with_word ws w)
with_word_distinct ws w d = go (list_any (bytes_eq w) ws) refl
  where
    go : (b : Bool) → list_any (bytes_eq w) ws ≡ b → AllDistinct (cond b ws (ws ++ w ∷ []))
    go true e = d
    go false e = distinct_more ws w d e

with_name_distinct : (ws : List (List ℕ)) (s : Symbol) → AllDistinct ws → AllDistinct (with_name ws s)
with_name_distinct ws (word w) d = with_word_distinct ws w d
with_name_distinct ws (number n) d = d
with_name_distinct ws (text t) d = d
with_name_distinct ws (mark m) d = d
with_name_distinct ws last d = d

with_text_distinct : (ws : List (List ℕ)) (s : Symbol) → AllDistinct ws → AllDistinct (with_text ws s)
with_text_distinct ws (text t) d = with_word_distinct ws t d
with_text_distinct ws (number n) d = d
with_text_distinct ws (word w) d = d
with_text_distinct ws (mark m) d = d
with_text_distinct ws last d = d

names_distinct : (ls : List Lexeme) (ws : List (List ℕ)) → AllDistinct ws → AllDistinct (fold (λ table l. with_name table l.symbol) ws ls)
names_distinct [] ws d = d
names_distinct (l ∷ ls) ws d = names_distinct ls (with_name ws l.symbol) (with_name_distinct ws l.symbol d)

texts_distinct : (ls : List Lexeme) (ws : List (List ℕ)) → AllDistinct ws → AllDistinct (fold (λ table l. with_text table l.symbol) ws ls)
texts_distinct [] ws d = d
texts_distinct (l ∷ ls) ws d = texts_distinct ls (with_text ws l.symbol) (with_text_distinct ws l.symbol d)

module _ {bytes : List ℕ} {names texts : List (List ℕ)} {ts : List Token} (h : AreTokensOf bytes [] [] names texts ts) where
  pub distinct_names : AllDistinct names
  distinct_names = subst AllDistinct (sym h.names_are) (names_distinct h.lexemes [] distinct_none)

  pub distinct_texts : AllDistinct texts
  distinct_texts = subst AllDistinct (sym h.texts_are) (texts_distinct h.lexemes [] distinct_none)
