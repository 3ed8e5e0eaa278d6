-- Single tokens.
use Rattle.std.proofs.Common.{◌≡◌, ◌<◌, not, ℕ, Bool, true, false, List, [], ◌∷◌, length, Some, refl, sym, ap, ◌∙◌, subst, arith}
use Rattle.std.specs.Prelude.{slice_get, get_or, bytes_eq, nat_lt, ◌==◌}
use Rattle.std.specs.List.{position_or_len}
use Rattle.std.proofs.lemmas.Bool.Decides.{nat_tests}
use Rattle.std.proofs.lemmas.Option.{slice_get-get_or}
use Rattle.std.proofs.lemmas.List.Sums.{position_or_len_is}
use Rattle.std.proofs.lemmas.Slice.Eq.{bytes_eq-Decides}
use Rattle.chor_base.specs.Words.{AllDistinct}
use Rattle.chor_base.specs.declared.names.NameId.{NameId}
use Rattle.chor_base.specs.declared.rule.Rule.{Rule}
use Rattle.chor_lexer.specs.declared.mark.Mark.{Mark}
use Rattle.chor_lexer.specs.Mark.{spelling}
use Rattle.chor_lexer.proofs.Fronts.{mark_same}
use Rattle.chor_lexer.specs.declared.token.Kind.{Kind}
use Rattle.chor_lexer.specs.declared.token.Kind.TheVariants as kind
use Rattle.chor_lexer.specs.declared.token.Token.{Token}
use Rattle.chor_lexer.specs.Keywords.{HasName}
use Rattle.chor_lexer.specs.Lexeme.{Lexeme}
use Rattle.grammar.specs.Classes.{Class, a_mark, a_word, a_name, is_of, is_keyword}
use Rattle.grammar.specs.Grammars.{Allowed, Derives, is_one, HasRoom}
use Rattle.source_grammar.specs.Symbols.{Room}
use Rattle.source_grammar.specs.Grammar.{MarkIs, WordIs, NameIs}
use Rattle.source_rows.specs.Sources.{NAME, mark, word}
use Rattle.source_rows.specs.Values.{Tables, rules, name, id_of, number_of}
use Rattle.source_bridge.specs.Bridge.{symbol_of, lexeme_of, lexed, kind_there, There, AreTables, ByRelation}

own : (w : List ℕ) → bytes_eq w w ≡ true
own w = (bytes_eq-Decides w w).1 refl

same_bytes : (v w : List ℕ) → bytes_eq v w ≡ true → v ≡ w
same_bytes v w h = (bytes_eq-Decides v w).0 h

-- a word stands in its table where its number says
pub place_in : (ws : List (List ℕ)) (n : ℕ) → AllDistinct ws → n < length ws → position_or_len (bytes_eq (get_or ws n [])) ws ≡ n
place_in ws n d h = position_or_len_is (bytes_eq (get_or ws n [])) ws n [] (omega (arith, h)) (λ k b. other k b (bytes_eq (get_or ws n []) (get_or ws k [])) refl) (λ b. own (get_or ws n []))
  where
    other : (k : ℕ) → k < n → (b : Bool) → bytes_eq (get_or ws n []) (get_or ws k []) ≡ b → bytes_eq (get_or ws n []) (get_or ws k []) ≡ false
    other k l false e = e
    other k l true e =
        let s : get_or ws n [] ≡ get_or ws k [] = same_bytes (get_or ws n []) (get_or ws k []) e in
        let i : k ≡ n = d k n (get_or ws k []) (slice_get-get_or ws k [] (omega (arith, h, l))) (slice_get-get_or ws n [] h ∙ ap (λ (x : List ℕ). Some x) s) in
        absurd (omega (arith, l, i))

pub within_of : (n m : ℕ) → nat_lt n m ≡ true → n < m
within_of n m h = grind (arith, nat_tests)

-- ---- the first token

pub record First (i : Tables) (ts : List Token) (l : Lexeme) (us : List Lexeme) : Type 0 where
  pub token : Token
  pub rest : List Token
  pub parts : ts ≡ token ∷ rest
  pub is : l ≡ lexeme_of i token
  pub left : us ≡ lexed i rest
  pub known : kind_there i token.kind ≡ true
  pub there : There i rest

pub first_of : (i : Tables) (ts : List Token) (ls : List Lexeme) (l : Lexeme) (us : List Lexeme) → ls ≡ lexed i ts → ls ≡ l ∷ us → There i ts → First i ts l us
first_of i [] ls l us e f h = let g : lexed i [] ≡ l ∷ us = sym e ∙ f in absurd cc
first_of i (t ∷ ts) ls l us e f h =
    let g : lexeme_of i t ∷ lexed i ts ≡ l ∷ us = sym e ∙ f in
    let a : lexeme_of i t ≡ l = cc in
    let b : lexed i ts ≡ us = cc in
    record { token = t; rest = ts; parts = refl; is = sym a; left = sym b; known = h.0; there = h.1 }

mark_is : (i : Tables) (m : Mark) (k : Kind) → is_of (a_mark m) (symbol_of i k) ≡ true → k ≡ kind.Mark m
mark_is i m (kind.Mark n) h = ap kind.Mark (sym (mark_same m n (same_bytes (spelling m) (spelling n) h)))
mark_is i m (kind.Word n) h = absurd cc
mark_is i m (kind.Number z) h = absurd cc
mark_is i m (kind.Text n) h = absurd cc
mark_is i m kind.Last h = absurd cc

pub of_token : (i : Tables) (c : Class) (l : Lexeme) (t : Token) → l ≡ lexeme_of i t → is_of c l.symbol ≡ true → is_of c (symbol_of i t.kind) ≡ true
of_token i c l t e h = subst (λ (x : Lexeme). is_of c x.symbol ≡ true) e h

record IsWord (i : Tables) (w : List ℕ) (k : Kind) : Type 0 where
  number : NameId
  is : k ≡ kind.Word number
  word : slice_get i.words number.0 ≡ Some w

word_is : (i : Tables) (w : List ℕ) (k : Kind) → kind_there i k ≡ true → is_of (a_word w) (symbol_of i k) ≡ true → IsWord i w k
word_is i w (kind.Word n) t h =
    let s : w ≡ get_or i.words n.0 [] = same_bytes w (get_or i.words n.0 []) h in
    record { number = n; is = refl; word = slice_get-get_or i.words n.0 [] (within_of n.0 (length i.words) t) ∙ ap (λ (x : List ℕ). Some x) (sym s) }
word_is i w (kind.Number z) t h = absurd cc
word_is i w (kind.Text n) t h = absurd cc
word_is i w (kind.Mark m) t h = absurd cc
word_is i w kind.Last t h = absurd cc

not_so : (b : Bool) → not b ≡ true → b ≡ false
not_so true h = absurd cc
not_so false h = refl

name_is : (i : Tables) → AreTables i → (t : Token) → kind_there i t.kind ≡ true → is_of a_name (symbol_of i t.kind) ≡ true → HasName i.words (id_of i (lexeme_of i t)) t
name_is i z t k h = go t.kind refl k h
  where
    go : (q : Kind) → t.kind ≡ q → kind_there i q ≡ true → is_of a_name (symbol_of i q) ≡ true → HasName i.words (id_of i (lexeme_of i t)) t
    go (kind.Word n) e k h =
        let w = within_of n.0 (length i.words) k in
        let p : id_of i (lexeme_of i t) ≡ n = ap (λ (x : Kind). record { 0 = number_of i (symbol_of i x) }) e ∙ ap (λ (x : ℕ). record { 0 = x }) (place_in i.words n.0 z.words w) in
        subst (λ (x : NameId). HasName i.words x t) (sym p) (record { word = get_or i.words n.0 []; kind = e; is = slice_get-get_or i.words n.0 [] w; name = not_so (is_keyword (get_or i.words n.0 [])) h })
    go (kind.Number y) e k h = absurd cc
    go (kind.Text y) e k h = absurd cc
    go (kind.Mark y) e k h = absurd cc
    go kind.Last e k h = absurd cc

module _ (i : Tables) (z : AreTables i) (Q : Allowed) where
  pub from_mark : {m : Mark} {ls us : List Lexeme} {x : Unit {0}} {ts : List Token} → Derives (rules i) Q (mark m) ls x us → ls ≡ lexed i ts → There i ts → ByRelation i (λ a y b. MarkIs m a b) ts x us
  from_mark {m} {ts = ts} (is_one {ts = ls} {rest = us} l p j) e h =
      let f = first_of i ts ls l us e p h in
      record { rest = f.rest; is = record { token = f.token; parts = f.parts; is = mark_is i m f.token.kind (of_token i (a_mark m) l f.token f.is j) }; left = f.left; there = f.there }

  pub from_word : {w : List ℕ} {ls us : List Lexeme} {x : Unit {0}} {ts : List Token} → Derives (rules i) Q (word w) ls x us → ls ≡ lexed i ts → There i ts → ByRelation i (λ a y b. WordIs i.words w a b) ts x us
  from_word {w} {ts = ts} (is_one {ts = ls} {rest = us} l p j) e h =
      let f = first_of i ts ls l us e p h in
      let q = word_is i w f.token.kind f.known (of_token i (a_word w) l f.token f.is j) in
      record { rest = f.rest; is = record { token = f.token; parts = f.parts; is = record { number = q.number; kind = q.is; word = q.word } }; left = f.left; there = f.there }

  pub from_name : {ls us : List Lexeme} {x : Lexeme} {ts : List Token} → Derives (rules i) Q NAME ls x us → ls ≡ lexed i ts → There i ts → ByRelation i (λ a y b. NameIs i.words a (name i y) b) ts x us
  from_name {ts = ts} (is_one {ts = ls} {rest = us} l p j) e h =
      let f = first_of i ts ls l us e p h in
      let q = name_is i z f.token f.known (of_token i a_name l f.token f.is j) in
      record {
        rest = f.rest;
        is = record { token = f.token; parts = f.parts; is = subst (λ (x : Lexeme). HasName i.words (id_of i x) f.token) (sym f.is) q; place = ap (λ (x : Lexeme). x.place) f.is };
        left = f.left;
        there = f.there;
      }

  pub room_from : (e : Rule) (n : ℕ) (ts : List Token) (ls : List Lexeme) → ls ≡ lexed i ts → HasRoom Q e (Some n) ls → Room Q e n ts
  room_from e n [] ls p r z = tt
  room_from e n (t ∷ ts) ls p r z = let h = subst (λ (x : List Lexeme). HasRoom Q e (Some n) x) p r in h (ap (λ x. x == 0) z)
