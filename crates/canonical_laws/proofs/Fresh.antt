-- Bytes that were read with any tables could have been read with empty ones.
use Rattle.std.proofs.Common.{◌≡◌, ◌||◌, ℕ, pos, suc, Bool, true, false, List, [], ◌∷◌, ◌++◌, length, cond, map, Some, refl, sym, ap}
use Rattle.std.specs.Prelude.{slice_get, bytes_eq}
use Rattle.std.specs.List.{list_any, fold}
use Rattle.chor_base.specs.Words.{with_word}
use Rattle.chor_base.proofs.WordTables.{get_last}
use Rattle.chor_lexer.specs.declared.token.Kind.TheVariants as kind
use Rattle.chor_lexer.specs.declared.token.Token.{Token}
use Rattle.chor_lexer.specs.Lexeme.{Symbol, word, number, text, mark, last, Lexeme}
use Rattle.chor_lexer.specs.Tokens.{IsTokens, AreTokensOf, with_name, with_text}
use Rattle.chor_lexer.proofs.ReadBack.{HasKind, HaveKinds, numbered}
use Rattle.source_grammar.proofs.Derived.{get_left}
use Rattle.chor_tree.proofs.SameLaws.{same_bytes}

-- ---- tables have what was put into them

-- a word stands in a table
record Has (ws : List (List ℕ)) (w : List ℕ) : Type 0 where
  number : ℕ
  is : slice_get ws number ≡ Some w

found : (w : List ℕ) (ws : List (List ℕ)) → list_any (bytes_eq w) ws ≡ true → Has ws w
found w [] e = absurd cc
found w (v ∷ ws) e = go (bytes_eq w v) refl e (found w ws)
  where
    go : (b : Bool) → bytes_eq w v ≡ b → (b || list_any (bytes_eq w) ws) ≡ true → (list_any (bytes_eq w) ws ≡ true → Has ws w) → Has (v ∷ ws) w
    go true q f others = record { number = 0; is = ap Some (sym (same_bytes w v q)) }
    go false q f others = let h = others f in record { number = suc h.number; is = h.is }

put_has : (ws : List (List ℕ)) (w : List ℕ) → Has (with_word ws w) w
put_has ws w = go (list_any (bytes_eq w) ws) refl
  where
    go : (b : Bool) → list_any (bytes_eq w) ws ≡ b → Has (cond b ws (ws ++ w ∷ [])) w
    go true e = found w ws e
    go false e = record { number = length ws; is = get_last ws w }

put_keeps : (ws : List (List ℕ)) (v w : List ℕ) → Has ws w → Has (with_word ws v) w
put_keeps ws v w h = go (list_any (bytes_eq v) ws)
  where
    go : (b : Bool) → Has (cond b ws (ws ++ v ∷ [])) w
    go true = h
    go false = record { number = h.number; is = get_left ws (v ∷ []) h.number w h.is }

name_keeps : (ws : List (List ℕ)) (s : Symbol) (w : List ℕ) → Has ws w → Has (with_name ws s) w
name_keeps ws (word v) w h = put_keeps ws v w h
name_keeps ws (number n) w h = h
name_keeps ws (text t) w h = h
name_keeps ws (mark m) w h = h
name_keeps ws last w h = h

text_keeps : (ws : List (List ℕ)) (s : Symbol) (w : List ℕ) → Has ws w → Has (with_text ws s) w
text_keeps ws (text v) w h = put_keeps ws v w h
text_keeps ws (number n) w h = h
text_keeps ws (word t) w h = h
text_keeps ws (mark m) w h = h
text_keeps ws last w h = h

-- the tables that these tokens fill
abbrev names_after : List (List ℕ) → List Lexeme → List (List ℕ)
names_after names ls = fold (λ table l. with_name table l.symbol) names ls

abbrev texts_after : List (List ℕ) → List Lexeme → List (List ℕ)
texts_after texts ls = fold (λ table l. with_text table l.symbol) texts ls

names_keep : (ws : List (List ℕ)) (ls : List Lexeme) (w : List ℕ) → Has ws w → Has (names_after ws ls) w
names_keep ws [] w h = h
names_keep ws (l ∷ ls) w h = names_keep (with_name ws l.symbol) ls w (name_keeps ws l.symbol w h)

texts_keep : (ws : List (List ℕ)) (ls : List Lexeme) (w : List ℕ) → Has ws w → Has (texts_after ws ls) w
texts_keep ws [] w h = h
texts_keep ws (l ∷ ls) w h = texts_keep (with_text ws l.symbol) ls w (text_keeps ws l.symbol w h)

has_kind : (names texts : List (List ℕ)) (s : Symbol) → ((w : List ℕ) → s ≡ word w → Has names w) → ((t : List ℕ) → s ≡ text t → Has texts t) → HasKind names texts s
has_kind names texts (word w) n t = let h = n w refl in (kind.Word (record { 0 = h.number }), h.is)
has_kind names texts (number k) n t = (kind.Number (pos k), refl)
has_kind names texts (text v) n t = let h = t v refl in (kind.Text h.number, h.is)
has_kind names texts (mark m) n t = (kind.Mark m, refl)
has_kind names texts last n t = (kind.Last, tt)

name_put : (ws : List (List ℕ)) (s : Symbol) (w : List ℕ) → s ≡ word w → Has (with_name ws s) w
name_put ws (word v) w e = let same : v ≡ w = cc in rw (sym same) (put_has ws v)
name_put ws (number n) w e = absurd cc
name_put ws (text t) w e = absurd cc
name_put ws (mark m) w e = absurd cc
name_put ws last w e = absurd cc

text_put : (ws : List (List ℕ)) (s : Symbol) (w : List ℕ) → s ≡ text w → Has (with_text ws s) w
text_put ws (text v) w e = let same : v ≡ w = cc in rw (sym same) (put_has ws v)
text_put ws (number n) w e = absurd cc
text_put ws (word t) w e = absurd cc
text_put ws (mark m) w e = absurd cc
text_put ws last w e = absurd cc

have_kinds : (names texts : List (List ℕ)) (ls : List Lexeme) → HaveKinds (names_after names ls) (texts_after texts ls) (map (λ (l : Lexeme). l.symbol) ls)
have_kinds names texts [] = tt
have_kinds names texts (l ∷ ls) = (
  has_kind (names_after (with_name names l.symbol) ls) (texts_after (with_text texts l.symbol) ls) l.symbol
      (λ w e. names_keep (with_name names l.symbol) ls w (name_put names l.symbol w e))
      (λ t e. texts_keep (with_text texts l.symbol) ls t (text_put texts l.symbol t e)),
  have_kinds (with_name names l.symbol) (with_text texts l.symbol) ls,
)

-- ---- the tokens of bytes, with empty tables

pub record Fresh (bytes : List ℕ) (ls : List Lexeme) : Type 0 where
  pub names : List (List ℕ)
  pub texts : List (List ℕ)
  pub tokens : List Token
  pub are : AreTokensOf bytes [] [] names texts tokens
  pub same : are.lexemes ≡ ls

pub fresh : (bytes : List ℕ) (ls : List Lexeme) → IsTokens bytes ls → Fresh bytes ls
fresh bytes ls h =
    let n = numbered (names_after [] ls) (texts_after [] ls) ls (have_kinds [] [] ls) in
    record {
      names = names_after [] ls;
      texts = texts_after [] ls;
      tokens = n.0;
      are = record { lexemes = ls; tokens = h; spelled = n.1; names_are = refl; texts_are = refl };
      same = refl;
    }
