-- Tokens one by one, up to the end of the file.
use Rattle.std.specs.Prelude.{IsTrue, slice_get}
use Rattle.std.proofs.lemmas.Option.{slice_get_past}
use Rattle.std.proofs.Common.{◌≡◌, ◌≤◌, ◌<◌, ◌+◌, ℕ, zero, suc, add-one, Bool, true, false, ◌&&◌, not, List, [], ◌∷◌, Some, None, map, length, refl, sym, ap, ◌∙◌, arith}
use Rattle.chor_lexer.specs.declared.token.Kind.{Kind}
use Rattle.chor_lexer.specs.declared.token.Kind.TheVariants as kind
use Rattle.chor_lexer.specs.declared.token.Token.{Token}
use Rattle.chor_lexer.specs.Lexeme.{Lexeme}
use Rattle.chor_lexer.specs.Tokens.{is_last, is_ended}
use Rattle.grammar.specs.Classes.{the_end, is_of}
use Rattle.grammar.specs.Readers.{Lacks, Stands, Found, Refuses}
use Rattle.grammar.proofs.Reading.{this_token}
use Rattle.chor_base.specs.declared.rule.Rule.{Rule}
use Rattle.chor_base.specs.declared.rule.Refusal.{Refusal}
use Rattle.chor_base.specs.declared.rule.Denied.TheVariants.{Refused}
use Rattle.endpoint_grammar.specs.Values.{rules}
use Rattle.endpoint_reader.specs.declared.input.Input.{Input}
use Rattle.endpoint_reader.specs.There.{kind_there, all_there}
use Rattle.endpoint_reader.specs.Tokens.{onwards, from, symbol_of, lexeme_of, ending, IsFirst, IsAt, EndsThere}

right : (a b : Bool) → (a && b) ≡ true → b ≡ true
right true b e = e
right false b e = absurd cc

left : (a b : Bool) → (a && b) ≡ true → a ≡ true
left true b e = refl
left false b e = absurd cc

pub from_first : (ts : List Token) → onwards 0 ts ≡ ts
from_first [] = refl
from_first (t ∷ []) = refl
from_first (t ∷ u ∷ ts) = refl

same_some : {A : Type 0} {x y : A} → Some x ≡ Some y → x ≡ y
same_some e = cc

-- ---- the token at a number

there : (ts : List Token) (n : ℕ) (t : Token) → slice_get ts n ≡ Some t → (rest : List Token) × (onwards n ts ≡ t ∷ rest)
there [] n t g = absurd cc
there (u ∷ []) zero t g = ([], ap (λ (x : Token). x ∷ []) (same_some g))
there (u ∷ []) (suc n) t g = absurd cc
there (u ∷ v ∷ ts) zero t g = (v ∷ ts, ap (λ (x : Token). x ∷ v ∷ ts) (same_some g))
there (u ∷ v ∷ ts) (suc n) t g = there (v ∷ ts) n t g

beyond : (ts : List Token) (n k : ℕ) (t : Token) → slice_get ts n ≡ None → suc k ≡ length ts → slice_get ts k ≡ Some t → onwards n ts ≡ t ∷ []
beyond [] n k t g l h = absurd cc
beyond (u ∷ []) n zero t g l h = ap (λ (x : Token). x ∷ []) (same_some h)
beyond (u ∷ []) n (suc k) t g l h = absurd cc
beyond (u ∷ v ∷ ts) zero k t g l h = absurd cc
beyond (u ∷ v ∷ ts) (suc n) zero t g l h = absurd (omega (arith, l))
beyond (u ∷ v ∷ ts) (suc n) (suc k) t g l h = beyond (v ∷ ts) n k t g (omega (arith, l)) h

pub first_there : (i : Input) (at : ℕ) (t : Token) → slice_get i.tokens.now.items at ≡ Some t → IsFirst i at t
first_there i at t g = let h = there i.tokens.now.items at t g in record { rest = h.0; is = h.1 }

pub first_beyond : (i : Input) (at k : ℕ) (t : Token) → length i.tokens.now.items ≤ at → k + 1 ≡ length i.tokens.now.items → slice_get i.tokens.now.items k ≡ Some t → IsFirst i at t
first_beyond i at k t g l h = record { rest = []; is = beyond i.tokens.now.items at k t (slice_get_past i.tokens.now.items at g) (sym (add-one k) ∙ l) h }

pub some_token : (ts : List Token) → IsTrue (is_ended ts) → 0 < length ts
some_token [] e = absurd cc
some_token (t ∷ ts) e = omega arith

-- ---- a token that isn't the last one

next_token : (ts : List Token) (n : ℕ) (t : Token) (rest : List Token) → is_ended ts ≡ true → onwards n ts ≡ t ∷ rest → is_last t.kind ≡ false → onwards n ts ≡ t ∷ onwards (suc n) ts
next_token [] n t rest e o l = absurd cc
next_token (u ∷ []) n t rest e o l = let s : u ≡ t = cc in let bad : true ≡ false = sym e ∙ ap (λ (x : Token). is_last x.kind) s ∙ l in absurd cc
next_token (u ∷ v ∷ ts) zero t rest e o l = let s : u ≡ t = cc in ap (λ (x : Token). x ∷ v ∷ ts) s ∙ ap (λ us. t ∷ us) (sym (from_first (v ∷ ts)))
next_token (u ∷ v ∷ ts) (suc n) t rest e o l = next_token (v ∷ ts) n t rest (right (not (is_last u.kind)) (is_ended (v ∷ ts)) e) o l

next_inside : (ts : List Token) (n : ℕ) (t : Token) (rest : List Token) → is_ended ts ≡ true → onwards n ts ≡ t ∷ rest → is_last t.kind ≡ false → suc n < length ts
next_inside [] n t rest e o l = absurd cc
next_inside (u ∷ []) n t rest e o l = let s : u ≡ t = cc in let bad : true ≡ false = sym e ∙ ap (λ (x : Token). is_last x.kind) s ∙ l in absurd cc
next_inside (u ∷ v ∷ ts) zero t rest e o l = omega arith
next_inside (u ∷ v ∷ ts) (suc n) t rest e o l = let h = next_inside (v ∷ ts) n t rest (right (not (is_last u.kind)) (is_ended (v ∷ ts)) e) o l in omega (arith, h)

pub token_is : (i : Input) (at : ℕ) (t : Token) → IsTrue (is_ended i.tokens.now.items) → IsFirst i at t → is_last t.kind ≡ false → IsAt i at t
token_is i at t e g l = ap (map (lexeme_of i)) (next_token i.tokens.now.items at t g.rest e g.is l) ∙ ap (λ n. lexeme_of i t ∷ from i n) (sym (add-one at))

pub token_inside : (i : Input) (at : ℕ) (t : Token) → IsTrue (is_ended i.tokens.now.items) → IsFirst i at t → is_last t.kind ≡ false → at + 1 < length i.tokens.now.items
token_inside i at t e g l = let h = next_inside i.tokens.now.items at t g.rest e g.is l in omega (arith, h)

first_known : (names texts : List (List ℕ)) (ts : List Token) (n : ℕ) (t : Token) (rest : List Token) → all_there names texts ts ≡ true → onwards n ts ≡ t ∷ rest → kind_there names texts t.kind ≡ true
first_known names texts [] n t rest a o = absurd cc
first_known names texts (u ∷ []) n t rest a o = let s : u ≡ t = cc in ap (λ (x : Token). kind_there names texts x.kind) (sym s) ∙ left (kind_there names texts u.kind) true a
first_known names texts (u ∷ v ∷ ts) zero t rest a o = let s : u ≡ t = cc in ap (λ (x : Token). kind_there names texts x.kind) (sym s) ∙ left (kind_there names texts u.kind) (all_there names texts (v ∷ ts)) a
first_known names texts (u ∷ v ∷ ts) (suc n) t rest a o = first_known names texts (v ∷ ts) n t rest (right (kind_there names texts u.kind) (all_there names texts (v ∷ ts)) a) o

pub token_known : (i : Input) (at : ℕ) (t : Token) → IsFirst i at t → kind_there i.names.now i.texts.now t.kind ≡ true
token_known i at t f = first_known i.names.now i.texts.now i.tokens.now.items at t f.rest i.known f.is

-- ---- the last one

last_of_kind : (k : Kind) → is_last k ≡ true → k ≡ kind.Last
last_of_kind (kind.Word n) e = absurd cc
last_of_kind (kind.Number z) e = absurd cc
last_of_kind (kind.Text n) e = absurd cc
last_of_kind (kind.Mark m) e = absurd cc
last_of_kind kind.Last e = refl

alone : (ts : List Token) (n : ℕ) (t : Token) (rest : List Token) → is_ended ts ≡ true → onwards n ts ≡ t ∷ rest → is_last t.kind ≡ true → onwards n ts ≡ t ∷ []
alone [] n t rest e o l = absurd cc
alone (u ∷ []) n t rest e o l = let s : u ≡ t = cc in ap (λ (x : Token). x ∷ []) s
alone (u ∷ v ∷ ts) zero t rest e o l =
    let s : t ≡ u = cc in
    let no : not (is_last t.kind) ≡ true = ap (λ (x : Token). not (is_last x.kind)) s ∙ left (not (is_last u.kind)) (is_ended (v ∷ ts)) e in
    let bad : not true ≡ true = ap not (sym l) ∙ no in
    absurd cc
alone (u ∷ v ∷ ts) (suc n) t rest e o l = alone (v ∷ ts) n t rest (right (not (is_last u.kind)) (is_ended (v ∷ ts)) e) o l

pub ends_there : (i : Input) (at : ℕ) (t : Token) → IsTrue (is_ended i.tokens.now.items) → IsFirst i at t → is_last t.kind ≡ true → EndsThere i at
ends_there i at t e g l = record {
  place = t.place;
  is = ap (map (lexeme_of i)) (alone i.tokens.now.items at t g.rest e g.is l) ∙ ap (λ (k : Kind). let m : Lexeme = record { symbol = symbol_of i k; place = t.place } in m ∷ []) (last_of_kind t.kind l);
}

-- ---- the end, or not

pub end_stands : {i : Input} {at : ℕ} (h : EndsThere i at) → Stands the_end (ending h.place) (from i at) []
end_stands h = record { parts = h.is; is = refl }

no_end : (i : Input) (k : Kind) → is_last k ≡ false → is_of the_end (symbol_of i k) ≡ false
no_end i (kind.Word n) e = refl
no_end i (kind.Number z) e = refl
no_end i (kind.Text n) e = refl
no_end i (kind.Mark m) e = refl
no_end i kind.Last e = absurd cc

pub not_the_end : (i : Input) (at : ℕ) (t : Token) → IsAt i at t → is_last t.kind ≡ false → Lacks the_end (from i at)
not_the_end i at t a e = record { by = λ l us p. let s : lexeme_of i t ≡ l = this_token rules a p in ap (λ (m : Lexeme). is_of the_end m.symbol) (sym s) ∙ no_end i t.kind e }

found_first : {i : Input} {at : ℕ} {t : Token} {e : Rule} {f : Refusal} → IsFirst i at t → f.rule ≡ e → f.place ≡ t.place → Found e (from i at) f
found_first {i} {t = t} g r p = record { token = lexeme_of i t; rest = map (lexeme_of i) g.rest; parts = ap (map (lexeme_of i)) g.is; rule = r; place = p }

abbrev pub refusal_at : Rule → Token → Refusal
refusal_at e t = record { rule = e; place = t.place; who = None }

same_refusal : {r f : Refusal} → Refused r ≡ Refused f → r ≡ f
same_refusal e = cc

pub refused_first : {i : Input} {at : ℕ} {t : Token} {e : Rule} → IsFirst i at t → Refuses e (from i at) (Refused (refusal_at e t))
refused_first {t = t} {e = e} g = record { by = λ f r. let s : f ≡ refusal_at e t = sym (same_refusal r) in found_first g (ap (λ (x : Refusal). x.rule) s) (ap (λ (x : Refusal). x.place) s) }
