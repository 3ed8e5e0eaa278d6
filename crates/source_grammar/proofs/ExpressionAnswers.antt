-- What a reader of expressions answers, and what expressions begin with.
use Rattle.std.proofs.Common.{◌≡◌, ◌+◌, suc, zero, ℕ, Bool, true, false, List, [], ◌∷◌, ◌++◌, length, Some, refl, sym, ap, ◌∙◌, subst, arith, length-append, drop, codes}
use Rattle.std.specs.Prelude.{slice_get}
use Rattle.chor_base.specs.declared.names.NameId.{NameId}
use Rattle.chor_base.specs.declared.rule.Place.{Place}
use Rattle.chor_base.specs.declared.rule.Rule.{Rule}
use Rattle.chor_base.specs.declared.rule.Denied.{Denied}
use Rattle.chor_base.specs.Writing.{truth_text}
use Rattle.std.specs.List.{list_any}
use Rattle.std.specs.Prelude.{bytes_eq}
use Rattle.chor_lexer.specs.Reading.{IsRead, IsWrong, too_long, no_expr, IsRefusal}
use Rattle.chor_base.specs.Expr.{Term}
use Rattle.chor_lexer.specs.declared.mark.Mark.{Mark}
use Rattle.chor_lexer.specs.declared.token.Kind.{Kind}
use Rattle.chor_lexer.specs.declared.token.Kind.TheVariants as kind
use Rattle.chor_lexer.specs.declared.token.Token.{Token}
use Rattle.chor_lexer.specs.Keywords.{keywords, IsName, HasMark}
use Rattle.chor_lexer.specs.Grammar.{OrIs, UnIs, IsLongestFront, a_disjunction, a_conjunction, a_comparison, a_sum, a_product, a_unary, a_number, a_text, a_truth, a_name, in_parens}
use Rattle.chor_lexer.proofs.Derivations.{one_expression}
use Rattle.source_grammar.specs.Symbols.{Only, Reads, nowhere, anywhere, AreWhole, Stops, Halts, Head, Begins}
use Rattle.source_grammar.specs.Expressions.{Operator, ExprPart, IsNoWord}
use Rattle.source_grammar.proofs.Derived.{expr_more_words}
use Rattle.source_grammar.proofs.Expressions.{before, stuck, no_longer, known_before, stops_unfinished, stops_too_long}

-- ---- what a reader of expressions answers

stops_wrong : (names : List (List ℕ)) (ts : List Token) (rule : Rule) (place : Place) → IsWrong names ts rule place → AreWhole names ts → Stops ExprPart Operator names ts rule place
stops_wrong names ts rule place (too_long {written = w} {rest = rest} {t = t} h long at) whole = stops_too_long names ts w rest t h at whole
stops_wrong names ts rule place (no_expr {written = w} {rest = rest} {t = t} h few none) whole = stops_unfinished names ts w rest t h few none whole

pub refusal_halts : (names : List (List ℕ)) (ts : List Token) (d : Denied) → IsRefusal names ts d → Halts ExprPart Operator names ts d
refusal_halts names ts d h = record {
  by = λ r e whole. let k = subst (IsRefusal names ts) e h in (stops_wrong names ts r.rule r.place k.0 whole, k.1);
}

drop_front : (w r : List Token) → drop (length w) (w ++ r) ≡ r
drop_front [] r = refl
drop_front (t ∷ w) r = drop_front w r

drop_none : (k : ℕ) (ts : List Token) → ts ≡ [] → drop k ts ≡ []
drop_none zero ts e = e
drop_none (suc k) [] e = refl
drop_none (suc k) (t ∷ ts) e = absurd cc

drop_on : (n m : ℕ) (ts : List Token) → drop (n + m) ts ≡ drop m (drop n ts)
drop_on zero m ts = let e : 0 + m ≡ m = omega arith in ap (λ (k : ℕ). drop k ts) e
drop_on (suc n) m [] = drop_none (suc n + m) [] refl ∙ sym (drop_none m [] refl)
drop_on (suc n) m (t ∷ ts) =
    let e : suc n + m ≡ suc (n + m) = omega arith in
    ap (λ (k : ℕ). drop k (t ∷ ts)) e ∙ drop_on n m ts

read_rest : {names : List (List ℕ)} (ts : List Token) {x : Term} (at next : ℕ) → (h : IsRead names (drop at ts) x at next) → drop next ts ≡ h.rest
read_rest ts at next h = ap (λ (k : ℕ). drop k ts) h.counted ∙ drop_on at (length h.written) ts ∙ ap (drop (length h.written)) h.front.parts ∙ drop_front h.written h.rest

-- the expression that is read
read_is : (names : List (List ℕ)) (ts : List Token) (x : Term) (at next : ℕ) → (h : IsRead names ts x at next) → ExprPart nowhere names ts x h.rest
read_is names ts x at next h =
    let here : ExprPart nowhere names (h.written ++ h.rest) x h.rest = record {
      is = before names h.written h.rest x h.is;
      keeps = λ t long e. absurd (omega (arith, long, length-append h.written h.rest, h.few));
    } in
    subst (λ (w : List Token). ExprPart nowhere names w x h.rest) (sym h.front.parts) here

-- it is the only one
read_only : (names : List (List ℕ)) (ts : List Token) (x : Term) (at next : ℕ) → (h : IsRead names ts x at next) → AreWhole names ts → Only ExprPart Operator names ts x h.rest
read_only names ts x at next h whole = record {
  front = h.written;
  parts = h.front.parts;
  by = λ words more y left first d e.
      let next_is : h.rest ≡ first.token ∷ first.one = first.first in
      let front = subst (λ (r : List Token). IsLongestFront names h.written r ts) next_is h.front in
      let d' = subst (λ (l : List Token). ExprPart anywhere (names ++ words) (h.written ++ l) y left) first.second d in
      let s = stuck anywhere names words h.written first.token first.other y left h.front.begins (no_longer front) (known_before h.written first.one first.token front.parts whole) d' e in
      (one_expression (names ++ words) h.written y x s.0 (expr_more_words words h.is), sym (first.second ∙ s.1));
}

pub expr_reads : (names : List (List ℕ)) (ts : List Token) (x : Term) (at next : ℕ) → IsRead names (drop at ts) x at next → Reads ExprPart Operator names (drop at ts) x (drop next ts)
expr_reads names ts x at next h =
    subst (λ (r : List Token). Reads ExprPart Operator names (drop at ts) x r) (sym (read_rest ts at next h)) (record {
      is = read_is names (drop at ts) x at next h;
      only = read_only names (drop at ts) x at next h;
    })

-- ---- what expressions begin with

no_mark : {names : List (List ℕ)} {w : List ℕ} {m : Mark} {t : Token} → HasMark m t → IsNoWord w names t
no_mark h k = let both : kind.Mark _ ≡ kind.Word _ = sym h ∙ k.kind in absurd cc

-- a token is one word
same_word : (names : List (List ℕ)) {k : Kind} {n m : NameId} {w v : List ℕ} → k ≡ kind.Word n → k ≡ kind.Word m → slice_get names n.0 ≡ Some w → slice_get names m.0 ≡ Some v → w ≡ v
same_word names {k} {n} {m} {w} {v} e f g h =
    let words : kind.Word n ≡ kind.Word m = sym e ∙ f in
    let numbers : n ≡ m = cc in
    let both : Some w ≡ Some v = sym g ∙ ap (λ (i : NameId). slice_get names i.0) numbers ∙ h in
    cc

no_truth : (b : Bool) → truth_text b ≡ codes "host" → ⊥
no_truth true e = let h : false ≡ true = ap (λ (w : List ℕ). bytes_eq w (codes "host")) e in absurd cc
no_truth false e = let h : false ≡ true = ap (λ (w : List ℕ). bytes_eq w (codes "host")) e in absurd cc

no_name : {w : List ℕ} → IsName w → w ≡ codes "host" → ⊥
no_name {w} n e = let h : list_any (bytes_eq (codes "host")) keywords ≡ false = subst IsName e n in absurd cc

or_begins : {names : List (List ℕ)} {ts rest : List Token} {x : Term} → OrIs names ts x rest → Head (IsNoWord (codes "host")) names ts
or_begins (a_disjunction (a_conjunction (a_comparison (a_sum (a_product p g) g2) g3) g4) g5) = un_begins p
  where
    un_begins : {names : List (List ℕ)} {ts rest : List Token} {x : Term} → UnIs names ts x rest → Head (IsNoWord (codes "host")) names ts
    un_begins (a_unary {t = t} {ts = us} h p) = record { token = t; rest = us; parts = refl; is = λ k. absurd (no_mark h k) }
    un_begins (a_number {t = t} {rest = us} h) = record { token = t; rest = us; parts = refl; is = λ k. let both : kind.Number _ ≡ kind.Word _ = sym h ∙ k.kind in absurd cc }
    un_begins (a_text {t = t} {rest = us} h) = record { token = t; rest = us; parts = refl; is = λ k. let both : kind.Text _ ≡ kind.Word _ = sym h ∙ k.kind in absurd cc }
    un_begins (a_truth {t = t} {rest = us} {b = b} h) = record { token = t; rest = us; parts = refl; is = λ k. no_truth b (same_word _ h.kind k.kind h.word k.word) }
    un_begins (a_name {t = t} {rest = us} {x = n} h) = record { token = t; rest = us; parts = refl; is = λ k. no_name h.name (same_word _ h.kind k.kind h.is k.word) }
    un_begins (in_parens {t = t} {ts = us} h p c) = record { token = t; rest = us; parts = refl; is = λ k. absurd (no_mark h k) }

pub expr_begins : Begins ExprPart (IsNoWord (codes "host"))
expr_begins = record { by = λ d. or_begins d.is }
