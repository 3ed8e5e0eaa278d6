-- Single tokens: what the relations say, the data derives.
use Rattle.std.proofs.Common.{◌≡◌, not, ℕ, true, List, [], ◌∷◌, Some, None, refl, sym, ap, ◌∙◌, subst, arith}
use Rattle.std.specs.Prelude.{bytes_eq, ◌==◌}
use Rattle.std.proofs.lemmas.Bool.Decides.{nat_tests}
use Rattle.std.proofs.lemmas.Option.{get_or_from_slice_get, slice_get_within}
use Rattle.std.proofs.lemmas.Slice.Eq.{bytes_eq-Decides}
use Rattle.chor_base.specs.declared.rule.Rule.{Rule}
use Rattle.chor_lexer.specs.declared.mark.Mark.{Mark}
use Rattle.chor_lexer.specs.Mark.{spelling}
use Rattle.chor_lexer.specs.declared.token.Kind.{Kind}
use Rattle.chor_lexer.specs.declared.token.Kind.TheVariants as kind
use Rattle.chor_lexer.specs.declared.token.Token.{Token}
use Rattle.chor_lexer.specs.Keywords.{HasWord}
use Rattle.chor_lexer.specs.Lexeme.{Lexeme}
use Rattle.chor_tree.specs.declared.file.Named.{Named}
use Rattle.grammar.specs.Classes.{Class, a_mark, a_word, a_name, is_of, is_keyword}
use Rattle.grammar.specs.Grammars.{Allowed, Derives, is_one, HasRoom}
use Rattle.source_grammar.specs.Symbols.{Room}
use Rattle.source_grammar.specs.Grammar.{MarkIs, WordIs, NameIs}
use Rattle.source_rows.specs.Sources.{Source, NAME, mark, word, kept}
use Rattle.source_rows.specs.Values.{Tables, Derived, rules, name, number_of}
use Rattle.source_bridge.specs.Bridge.{symbol_of, lexeme_of, lexed, There, AreTables, ByData}
use Rattle.source_bridge.proofs.Terminals.{place_in}

-- with what the data derives
abbrev pub to_here : {A B : Type 0} {i : Tables} {Q : Allowed} {g : Source} {f : Derived g → A} {ts rest : List Token} {x : A} → ByData i Q g f ts x rest → ((v : Derived g) → Derives (rules i) Q g (lexed i ts) v (lexed i rest) → f v ≡ x → There i rest → B) → B
to_here b k = k b.value b.is b.same b.there

-- the token of a separator
pub separated : (i : Tables) (Q : Allowed) {B : Type 0} {m : Mark} {ls us : List Lexeme} {x : Unit {0}} → Derives (rules i) Q (mark m) ls x us → ((l : Lexeme) → ls ≡ l ∷ us → is_of (a_mark m) l.symbol ≡ true → B) → B
separated i Q (is_one l p j) k = k l p j

pub any_room : (Q : Allowed) (e : Rule) (ls : List Lexeme) → HasRoom Q e None ls
any_room Q e [] = tt
any_room Q e (l ∷ ls) = λ h. absurd cc

zero_of : (n : ℕ) → (n == 0) ≡ true → n ≡ 0
zero_of n h = grind (arith, nat_tests)

pub room_to : (i : Tables) (Q : Allowed) (e : Rule) (n : ℕ) (ts : List Token) → Room Q e n ts → HasRoom Q e (Some n) (lexed i ts)
room_to i Q e n [] r = tt
room_to i Q e n (t ∷ ts) r = λ h. r (zero_of n h)

pub own : (w : List ℕ) → bytes_eq w w ≡ true
own w = (bytes_eq-Decides w w).1 refl

pub there_after : (i : Tables) {ts rest : List Token} {t : Token} → ts ≡ t ∷ rest → There i ts → There i (t ∷ rest)
there_after i p h = subst (λ (x : List Token). There i x) p h

pub kind_is : (i : Tables) (c : Class) (t : Token) (k : Kind) → t.kind ≡ k → is_of c (symbol_of i k) ≡ true → is_of c (symbol_of i t.kind) ≡ true
kind_is i c t k e h = subst (λ (q : Kind). is_of c (symbol_of i q) ≡ true) (sym e) h

module _ (i : Tables) (z : AreTables i) (Q : Allowed) where
  pub to_mark : {m : Mark} {ts rest : List Token} → MarkIs m ts rest → There i ts → ByData i Q (mark m) (λ v. v) ts tt rest
  to_mark {m} d h = record {
    value = tt;
    is = is_one (lexeme_of i d.token) (ap (lexed i) d.parts) (kind_is i (a_mark m) d.token (kind.Mark m) d.is (own (spelling m)));
    same = refl;
    there = (there_after i d.parts h).1;
  }

  word_of : (w : List ℕ) (t : Token) → HasWord i.words w t → is_of (a_word w) (symbol_of i t.kind) ≡ true
  word_of w t d = kind_is i (a_word w) t (kind.Word d.number) d.kind (subst (λ (x : List ℕ). bytes_eq w x ≡ true) (sym (get_or_from_slice_get i.words d.number.0 w [] d.word)) (own w))

  pub to_word : {w : List ℕ} {ts rest : List Token} → WordIs i.words w ts rest → There i ts → ByData i Q (word w) (λ v. v) ts tt rest
  to_word {w} d h = record { value = tt; is = is_one (lexeme_of i d.token) (ap (lexed i) d.parts) (word_of w d.token d.is); same = refl; there = (there_after i d.parts h).1 }

  pub to_kept : {w : List ℕ} {ts rest : List Token} → (d : WordIs i.words w ts rest) → There i ts → ByData i Q (kept w) (λ v. v.place) ts d.token.place rest
  to_kept {w} d h = record { value = lexeme_of i d.token; is = is_one (lexeme_of i d.token) (ap (lexed i) d.parts) (word_of w d.token d.is); same = refl; there = (there_after i d.parts h).1 }

  pub to_name : {ts rest : List Token} {n : Named} → NameIs i.words ts n rest → There i ts → ByData i Q NAME (name i) ts n rest
  to_name {n = n} d h =
      let w = get_or_from_slice_get i.words n.name.0 d.is.word [] d.is.is in
      let is = kind_is i a_name d.token (kind.Word n.name) d.is.kind (subst (λ (x : List ℕ). not (is_keyword x) ≡ true) (sym w) (ap not d.is.name)) in
      let k : number_of i (symbol_of i d.token.kind) ≡ n.name.0 = ap (λ (q : Kind). number_of i (symbol_of i q)) d.is.kind ∙ place_in i.words n.name.0 z.words (slice_get_within i.words n.name.0 d.is.word d.is.is) in
      record {
        value = lexeme_of i d.token;
        is = is_one (lexeme_of i d.token) (ap (lexed i) d.parts) is;
        same = λ j. record { name = record { 0 = k j }; place = (sym d.place) j };
        there = (there_after i d.parts h).1;
      }
