-- Bytes have their tokens, and the tables that these fill, once.
use Rattle.std.proofs.Common.{◌≡◌, ℕ, pos, Bool, true, false, List, [], ◌∷◌, ◌++◌, refl, sym, ap, ◌∙◌, subst, Some, if◌then◌else◌}
use Rattle.std.specs.Prelude.{slice_get, bytes_eq}
use Rattle.std.specs.List.{fold, list_any}
use Rattle.chor_base.specs.Words.{AllDistinct}
use Rattle.chor_base.specs.declared.names.NameId.{NameId}
use Rattle.chor_lexer.specs.declared.mark.Mark.{Mark as Sign}
use Rattle.chor_lexer.specs.declared.token.Kind.{Kind}
use Rattle.chor_lexer.specs.declared.token.Kind.TheVariants.{Word, Number, Text, Mark, Last}
use Rattle.chor_lexer.specs.declared.token.Token.{Token}
use Rattle.chor_lexer.specs.Lexeme.{Symbol, word, number, text, mark, last, Lexeme}
use Rattle.chor_lexer.specs.Tokens.{Spells, AreSpelled, with_name, with_text, AreTokensOf}
use Rattle.chor_lexer.proofs.Cuts.{one_reading}
use Rattle.chor_lexer.proofs.DistinctTables.{distinct_names, distinct_texts}

-- ---- so a symbol is spelled by one kind

module _ (names texts : List (List ℕ)) (each_name : AllDistinct names) (each_text : AllDistinct texts) where
  word_kind : (k : Kind) (w : List ℕ) → Spells names texts k (word w) → (n : NameId) × (k ≡ Word n) × (slice_get names n.0 ≡ Some w)
  word_kind (Word n) w h = (n, refl, h)
  word_kind (Number z) w h = absurd h
  word_kind (Text n) w h = absurd h
  word_kind (Mark m) w h = absurd h
  word_kind Last w h = absurd h

  number_kind : (k : Kind) (n : ℕ) → Spells names texts k (number n) → k ≡ Number (pos n)
  number_kind (Word m) n h = absurd h
  number_kind (Number z) n h = ap Number h
  number_kind (Text m) n h = absurd h
  number_kind (Mark m) n h = absurd h
  number_kind Last n h = absurd h

  text_kind : (k : Kind) (t : List ℕ) → Spells names texts k (text t) → (n : ℕ) × (k ≡ Text n) × (slice_get texts n ≡ Some t)
  text_kind (Word n) t h = absurd h
  text_kind (Number z) t h = absurd h
  text_kind (Text n) t h = (n, refl, h)
  text_kind (Mark m) t h = absurd h
  text_kind Last t h = absurd h

  mark_kind : (k : Kind) (m : Sign) → Spells names texts k (mark m) → k ≡ Mark m
  mark_kind (Word n) m h = absurd h
  mark_kind (Number z) m h = absurd h
  mark_kind (Text n) m h = absurd h
  mark_kind (Mark l) m h = ap Mark h
  mark_kind Last m h = absurd h

  last_kind : (k : Kind) → Spells names texts k last → k ≡ Last
  last_kind (Word n) h = absurd h
  last_kind (Number z) h = absurd h
  last_kind (Text n) h = absurd h
  last_kind (Mark l) h = absurd h
  last_kind Last h = refl

  one_kind : (s : Symbol) (k l : Kind) → Spells names texts k s → Spells names texts l s → k ≡ l
  one_kind (word w) k l h i =
      let x = word_kind k w h in
      let y = word_kind l w i in
      let same : x.0.0 ≡ y.0.0 = each_name x.0.0 y.0.0 w x.2 y.2 in
      x.1 ∙ (λ j. Word (record { 0 = same j })) ∙ sym y.1
  one_kind (number n) k l h i = number_kind k n h ∙ sym (number_kind l n i)
  one_kind (text t) k l h i =
      let x = text_kind k t h in
      let y = text_kind l t i in
      x.1 ∙ ap Text (each_text x.0 y.0 t x.2 y.2) ∙ sym y.1
  one_kind (mark m) k l h i = mark_kind k m h ∙ sym (mark_kind l m i)
  one_kind last k l h i = last_kind k h ∙ sym (last_kind l i)

  one_spelling : (ts us : List Token) (ls : List Lexeme) → AreSpelled names texts ts ls → AreSpelled names texts us ls → ts ≡ us
  one_spelling [] [] [] h i = refl
  one_spelling [] (u ∷ us) [] h i = absurd i
  one_spelling (t ∷ ts) us [] h i = absurd h
  one_spelling [] us (l ∷ ls) h i = absurd h
  one_spelling (t ∷ ts) [] (l ∷ ls) h i = absurd i
  one_spelling (t ∷ ts) (u ∷ us) (l ∷ ls) h i =
      let kind = one_kind l.symbol t.kind u.kind h.0.0 i.0.0 in
      let place = h.0.1 ∙ sym i.0.1 in
      let rest = one_spelling ts us ls h.1 i.1 in (λ j. record { kind = kind j; place = place j } ∷ rest j)

-- the tables and the tokens are the same
pub record SameTokens (names texts names' texts' : List (List ℕ)) (ts ts' : List Token) : Type 0 where
  pub names_are : names ≡ names'
  pub texts_are : texts ≡ texts'
  pub tokens_are : ts ≡ ts'

pub one_list : (bytes : List ℕ) (names texts names' texts' : List (List ℕ)) (ts ts' : List Token) → AreTokensOf bytes [] [] names texts ts → AreTokensOf bytes [] [] names' texts' ts' → SameTokens names texts names' texts' ts ts'
one_list bytes names texts names' texts' ts ts' a b =
    let same : a.lexemes ≡ b.lexemes = one_reading bytes a.lexemes b.lexemes a.tokens b.tokens in
    let ns : names ≡ names' = a.names_are ∙ ap (λ ls. fold (λ table l. with_name table l.symbol) [] ls) same ∙ sym b.names_are in
    let xs : texts ≡ texts' = a.texts_are ∙ ap (λ ls. fold (λ table l. with_text table l.symbol) [] ls) same ∙ sym b.texts_are in
    let spelled : AreSpelled names texts ts' a.lexemes =
    subst (λ (ls : List Lexeme). AreSpelled names texts ts' ls) (sym same)
    (subst (λ (n : List (List ℕ)). AreSpelled n texts ts' b.lexemes) (sym ns) (subst (λ (x : List (List ℕ)). AreSpelled names' x ts' b.lexemes) (sym xs) b.spelled)) in
    record { names_are = ns; texts_are = xs; tokens_are = one_spelling names texts (distinct_names a) (distinct_texts a) ts ts' a.lexemes a.spelled spelled }
