-- Expressions that are written alike are the same.
use Rattle.std.proofs.Common.{◌≡◌, ◌<◌, ℕ, ℤ, pos, negsuc, unsigned_abs, Bool, true, false, List, [], length, Some, sym, ap, ◌∙◌, subst}
use Rattle.std.specs.Prelude.{slice_index_or}
use Rattle.std.proofs.lemmas.Option.{slice_get-get_or, get_or_from_slice_get}
use Rattle.chor_base.specs.declared.names.NameId.{NameId}
use Rattle.chor_base.specs.declared.value.Value.TheVariants as value
use Rattle.chor_base.specs.Expr.{Term, Constant, Variable, Unary, Binary}
use Rattle.chor_base.specs.Writing.{name_in, truth_text}
use Rattle.chor_lexer.specs.Keywords.{IsName}
use Rattle.chor_lexer.proofs.Spelling.{name_of}
use Rattle.endpoint_code.specs.declared.endpoints.Endpoints.{Endpoints}
use Rattle.endpoint_reader.specs.declared.input.Input.{Input}
use Rattle.endpoint_reader.specs.There.{is_natural}
use Rattle.endpoint_reader.specs.Known.{IsTermThere}
use Rattle.endpoint_reader.specs.Tokens.{text_in, written}
use Rattle.same_programs.specs.Words.{SameName, SameText}
use Rattle.same_programs.specs.Codes.{number, truth, text, SameTerm, constant, variable, unary, binary}
use Rattle.endpoint_laws.specs.Spelled.{IsWritable}
use Rattle.endpoint_laws.specs.Says.{phrase_of}

no_truth : (b : Bool) → IsName (truth_text b) → ⊥
no_truth true h = absurd cc
no_truth false h = absurd cc

module _ (e e' : Endpoints) (i : Input) (names_are : e'.names ≡ i.names.now) (texts_are : e'.texts ≡ i.texts.now) where
  abbrev IsSame : Term → Term → Type 0
  IsSame t u = SameTerm (SameName e e') (SameText e e') t u

  -- a name is written so
  spelled_so : (y : NameId) → name_in e'.names y ≡ name_in i.names.now y
  spelled_so y = ap (λ (ns : List (List ℕ)). name_in ns y) names_are

  numbers_same : (y z : ℤ) (n : ℕ) → y ≡ pos n → is_natural z ≡ true → unsigned_abs z ≡ unsigned_abs y → IsSame (Constant (value.Int y)) (Constant (value.Int z))
  numbers_same y (pos m) n p q h =
      let c : pos m ≡ y = ap pos (h ∙ ap unsigned_abs p) ∙ sym p in
      subst (λ (x : ℤ). IsSame (Constant (value.Int y)) (Constant (value.Int x))) (sym c) (constant number)
  numbers_same y (negsuc m) n p q h = absurd cc

  truths_same : (b c : Bool) → truth_text b ≡ truth_text c → IsSame (Constant (value.Bool b)) (Constant (value.Bool c))
  truths_same true true h = constant truth
  truths_same false false h = constant truth
  truths_same true false h = absurd cc
  truths_same false true h = absurd cc

  pub term_same : (t u : Term) → IsWritable e t → IsTermThere i u → written i u ≡ phrase_of e t → IsSame t u
  term_same (Constant (value.Int y)) (Constant (value.Int z)) h k s = numbers_same y z h.0 h.1 k cc
  term_same (Constant (value.Bool b)) (Constant (value.Bool c)) h k s = truths_same b c cc
  term_same (Constant (value.Text t)) (Constant (value.Text u)) h k s =
      let here : slice_index_or e.texts t [] ≡ h.0 = get_or_from_slice_get e.texts t h.0 [] h.1 in
      let there : text_in e'.texts u ≡ text_in i.texts.now u = ap (λ (ts : List (List ℕ)). text_in ts u) texts_are in
      let said : text_in i.texts.now u ≡ slice_index_or e.texts t [] = cc in
      constant (text (record { word = h.0; here = h.1; there = slice_get-get_or e'.texts u [] (subst (λ ts. u < length ts) (sym texts_are) k) ∙ ap Some (there ∙ said ∙ here) }))
  term_same (Variable x) (Variable y) h k s =
      let said : name_in i.names.now y ≡ name_in e.names x = cc in
      variable (record { word = h.0; here = h.1; there = slice_get-get_or e'.names y.0 [] (subst (λ ns. y.0 < length ns) (sym names_are) k.0) ∙ ap Some (spelled_so y ∙ said ∙ name_of e.names x h.0 h.1) })
  term_same (Constant (value.Bool b)) (Variable y) h k s =
      let said : name_in i.names.now y ≡ truth_text b = cc in
      absurd (no_truth b (subst IsName said k.1))
  term_same (Variable x) (Constant (value.Bool b)) h k s =
      let said : truth_text b ≡ name_in e.names x = cc in
      absurd (no_truth b (subst IsName (sym (name_of e.names x h.0 h.1) ∙ sym said) h.2))
  term_same (Unary op t) (Unary o u) h k s =
      let same : o ≡ op = cc in
      subst (λ x. IsSame (Unary op t) (Unary x u)) (sym same) (unary (term_same t u h k cc))
  term_same (Binary op t v) (Binary o u w) h k s =
      let same : o ≡ op = cc in
      subst (λ x. IsSame (Binary op t v) (Binary x u w)) (sym same) (binary (term_same t u h.0 k.0 cc) (term_same v w h.1 k.1 cc))
  term_same (Constant (value.Part r q)) u h k s = absurd h
  term_same t (Constant (value.Part r q)) h k s = absurd k
  term_same t u h k s = absurd cc
