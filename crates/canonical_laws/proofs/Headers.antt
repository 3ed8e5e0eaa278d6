-- Headers: what their tokens spell derives them again, in other tables too, and their text is cut into these tokens.
use Rattle.std.proofs.Common.{◌≡◌, ◌<◌, ◌^◌, ◌&&◌, nat_lt, ℕ, Bool, true, false, Option, Some, None, List, [], ◌∷◌, ◌++◌, refl, sym, ap, ◌∙◌, subst, arith, codes}
use Rattle.std.specs.Prelude.{pos}
use Rattle.std.specs.Fmt.{decimal}
use Rattle.std.proofs.lemmas.Fmt.{decimal_digit}
use Rattle.std.proofs.lemmas.Bool.{and_parts, ltb-true}
use Rattle.std.proofs.lemmas.Bool.Decides.{Decides-eqb}
use Rattle.chor_base.specs.declared.rule.Place.{Place}
use Rattle.chor_base.specs.declared.rule.Rule.TheVariants.{P3}
use Rattle.chor_base.specs.declared.value.Value.TheVariants as value
use Rattle.chor_base.specs.Expr.{Constant}
use Rattle.chor_lexer.specs.declared.mark.Mark.TheVariants.{Semicolon}
use Rattle.chor_lexer.specs.declared.token.Kind.{Kind}
use Rattle.chor_lexer.specs.declared.token.Kind.TheVariants as kind
use Rattle.chor_lexer.specs.declared.token.Token.{Token}
use Rattle.chor_lexer.specs.Lexeme.{Symbol, word, number, mark}
use Rattle.chor_lexer.specs.Tokens.{Spells}
use Rattle.chor_tree.specs.declared.header.Header.{Header}
use Rattle.chor_tree.specs.Headers.{no_header, is_capacity}
use Rattle.chor_tree.specs.Source.{nowhere}
use Rattle.chor_tree.specs.Same.{same_capacity, same_header}
use Rattle.source_grammar.specs.Symbols as grammar
use Rattle.source_grammar.specs.Symbols.{AllowsFirst}
use Rattle.source_grammar.specs.Grammar.{NumberIs, CapacityIs, no_capacity, a_capacity, HeaderIs, without_header, a_header}
use Rattle.source_grammar.specs.Limits.{KeepsCapacity, KeepsHeader}
use Rattle.source_grammar.specs.Files.{CapacityPart, HeaderPart}
use Rattle.chor_print.specs.Parts.{capacity_text, header_text}
use Rattle.canonical_laws.specs.Places.{bare_header}
use Rattle.canonical_laws.specs.Symbols.{capacity_symbols, header_symbols}
use Rattle.canonical_laws.proofs.Tokens.{Spelled, Reads, Passes, first, stands, mark_reads, word_reads}
use Rattle.canonical_laws.proofs.Alike.{Tables, Alike, Renewed, Passed, number_there, met_at, mark_passes, word_passes, stands_there}
use Rattle.canonical_laws.proofs.Cutting.{Free, Bound, free_free, bound_free, free_bound, bound_of, free_none, space, keyword, semicolon, term_cut, line_cut}

-- ---- read again

number_kind : (names texts : List (List ℕ)) (k : Kind) (n : ℕ) → Spells names texts k (number n) → k ≡ kind.Number (pos n)
number_kind names texts (kind.Number z) n h = ap kind.Number h
number_kind names texts _ n h = absurd h

number_reads : {names texts : List (List ℕ)} {ts : List Token} {n : ℕ} {more : List Symbol} → Spelled names texts ts (number n ∷ more) → Passes names texts (NumberIs n) ts more
number_reads {names} {texts} {n = n} h =
    let f = first h in
    record { rest = f.rest; is = record { token = f.token; parts = f.parts; is = number_kind names texts f.token.kind n f.is }; others = f.others }

-- a number that isn't one too many here is none there
still_kept : {n : ℕ} {us vs : List Token} (ts : List Token) → NumberIs n us vs → (is_capacity n ≡ false → AllowsFirst grammar.nowhere P3 us) → is_capacity n ≡ false → AllowsFirst grammar.nowhere P3 ts
still_kept ts d keeps e = absurd (subst (AllowsFirst grammar.nowhere P3) d.parts (keeps e))

abbrev bare_capacity : Option ℕ × Place → Option ℕ × Place
bare_capacity v = (v.0, nowhere)

module _ {names texts : List (List ℕ)} where
  capacity_reads : (c : Option ℕ) (p : Place) {us vs : List Token} (d : CapacityIs names us c p vs) → KeepsCapacity grammar.nowhere d → {ts : List Token} {more : List Symbol}
      → Spelled names texts ts (capacity_symbols c more) → Reads names texts (CapacityPart grammar.nowhere names) bare_capacity (c, p) ts more
  capacity_reads c p no_capacity keeps {ts} h = record { read = (c, p); rest = ts; is = (no_capacity, tt); same = refl; others = h }
  capacity_reads c p (a_capacity {n = n} d1 d2 d3 d4) keeps h =
      let at = stands h in
      let a = word_reads h in
      let b = number_reads a.others in
      let e = mark_reads b.others in
      record { read = (Some n, at.at); rest = e.rest; is = (a_capacity at.is a.is b.is e.is, still_kept a.rest d3 keeps); same = refl; others = e.others }

  pub header_reads : (x : Header) {us vs : List Token} (d : HeaderIs names us x vs) → KeepsHeader grammar.nowhere d → {ts : List Token} {more : List Symbol}
      → Spelled names texts ts (header_symbols x more) → Reads names texts (HeaderPart grammar.nowhere names) bare_header x ts more
  header_reads x without_header keeps {ts} h = record { read = no_header; rest = ts; is = (without_header, tt); same = refl; others = h }
  header_reads x (a_header {c = c} {p = p} d1 d2 d3 d4) keeps h =
      let a = word_reads h in
      let b = number_reads a.others in
      let e = mark_reads b.others in
      let f = capacity_reads c p d4 keeps e.others in
      record {
        read = record { version = 2; capacity = f.read.0; place = f.read.1 };
        rest = f.rest;
        is = (a_header a.is b.is e.is f.is.0, f.is.1);
        same = λ i. record { version = 2; capacity = (f.same i).0; place = nowhere };
        others = f.others;
      }

-- ---- in other tables

own_capacity : (c : Option ℕ) → same_capacity c c ≡ true
own_capacity (Some c) = (Decides-eqb c c).1 refl
own_capacity None = refl

module _ {T : Tables} where
  number_passes : {n : ℕ} {ts rest us : List Token} → NumberIs n ts rest → Alike T ts us → Passed T (NumberIs n) rest us
  number_passes {n} d h =
      let f = met_at d.parts h in
      record {
        left = f.left;
        is = record { token = f.token; parts = f.parts; is = number_there T (pos n) f.token.kind f.symbol (subst (λ (k : Kind). Spells T.names T.texts k f.symbol) d.is f.one) f.other };
        others = f.others;
      }

  capacity_renewed : {c : Option ℕ} {p : Place} {ts rest us : List Token} (d : CapacityIs T.names ts c p rest) → Alike T ts us
      → Renewed T {A = Option ℕ × Place} (λ vs v left. CapacityIs T.other_names vs v.0 v.1 left) (λ vs v left e. KeepsCapacity grammar.nowhere d → KeepsCapacity grammar.nowhere e) (λ v. same_capacity c v.0) rest us
  capacity_renewed {p = p} {us = us} no_capacity h = record { read = (None, p); left = us; is = no_capacity; keeps = λ k. tt; same = refl; others = h }
  capacity_renewed (a_capacity {n = n} d1 d2 d3 d4) h =
      let at = stands_there d1 h in
      let a = word_passes d2 h in
      let b = number_passes d3 a.others in
      let e = mark_passes d4 b.others in
      record { read = (Some n, at.at); left = e.left; is = a_capacity at.is a.is b.is e.is; keeps = λ k. still_kept a.left d3 k; same = own_capacity (Some n); others = e.others }

  pub header_renewed : {x : Header} {ts rest us : List Token} (d : HeaderIs T.names ts x rest) → Alike T ts us
      → Renewed T (HeaderIs T.other_names) (λ vs y left e. KeepsHeader grammar.nowhere d → KeepsHeader grammar.nowhere e) (same_header x) rest us
  header_renewed {us = us} without_header h = record { read = no_header; left = us; is = without_header; keeps = λ k. tt; same = refl; others = h }
  header_renewed (a_header d1 d2 d3 d4) h =
      let a = word_passes d1 h in
      let b = number_passes d2 a.others in
      let e = mark_passes d3 b.others in
      let f = capacity_renewed d4 e.others in
      record {
        read = record { version = 2; capacity = f.read.0; place = f.read.1 };
        left = f.left;
        is = a_header a.is b.is e.is f.is;
        keeps = λ k. f.keeps k;
        same = f.same;
        others = f.others;
      }

-- ---- the text

number_cut : (n : ℕ) → n < 2 ^ 63 → Bound (decimal n) (λ ss. number n ∷ ss)
number_cut n h = term_cut [] [] (Constant (value.Int (pos n))) (n, refl, h)

small : (n : ℕ) → is_capacity n ≡ true → n < 2 ^ 63
small n h = let most : n < 1000001 = ltb-true n 1000001 (and_parts (nat_lt 0 n) (nat_lt n 1000001) h).1 in omega arith

kept_number : {n : ℕ} {us vs : List Token} → NumberIs n us vs → (is_capacity n ≡ false → AllowsFirst grammar.nowhere P3 us) → (b : Bool) → is_capacity n ≡ b → is_capacity n ≡ true
kept_number d keeps true e = e
kept_number d keeps false e = absurd (subst (AllowsFirst grammar.nowhere P3) d.parts (keeps e))

capacity_cut : {names : List (List ℕ)} (c : Option ℕ) (p : Place) {us vs : List Token} (d : CapacityIs names us c p vs) → KeepsCapacity grammar.nowhere d → Free (capacity_text c) (capacity_symbols c)
capacity_cut c p no_capacity keeps = free_none
capacity_cut c p (a_capacity {n = n} d1 d2 d3 d4) keeps =
    let begin = bound_free (keyword (codes "capacity") refl) space refl in
    let line = bound_free (free_bound begin (number_cut n (small n (kept_number d3 keeps (is_capacity n) refl)))) semicolon refl in
    free_free (line_cut 0 (bound_of line)) free_none

second_cut : Bound (codes "2") (λ ss. number 2 ∷ ss)
second_cut = subst (λ (t : List ℕ). Bound t (λ ss. number 2 ∷ ss)) (decimal_digit 2 (omega arith)) (number_cut 2 (omega arith))

pub header_cut : {names : List (List ℕ)} (x : Header) {us vs : List Token} (d : HeaderIs names us x vs) → KeepsHeader grammar.nowhere d → Free (header_text x) (header_symbols x)
header_cut x without_header keeps = free_none
header_cut x (a_header {c = c} {p = p} d1 d2 d3 d4) keeps =
    let begin = bound_free (keyword (codes "chor") refl) space refl in
    let line = bound_free (free_bound begin second_cut) semicolon refl in
    free_free (line_cut 0 (bound_of line)) (capacity_cut c p d4 keeps)
