-- Names and expressions that are written alike are the same.
use Rattle.std.proofs.Common.{◌≡◌, ◌<◌, ℕ, ℤ, pos, negsuc, unsigned_abs, Bool, true, false, List, [], ◌∷◌, length, Some, sym, ap, ◌∙◌, subst}
use Rattle.std.specs.Prelude.{slice_get}
use Rattle.std.specs.List.{AllZip}
use Rattle.std.proofs.lemmas.Option.{slice_get-get_or}
use Rattle.std.proofs.lemmas.List.Elements.{All-head, All-tail}
use Rattle.chor_base.specs.declared.names.NameId.{NameId}
use Rattle.chor_base.specs.declared.value.Value.TheVariants as value
use Rattle.chor_base.specs.Expr.{Term, Constant, Variable, Unary, Binary}
use Rattle.chor_base.specs.Writing.{name_in, truth_text}
use Rattle.chor_lexer.specs.Keywords.{IsName}
use Rattle.chor_lexer.specs.Lexeme.{Symbol, word, number as numeral, text as quoted, mark, last, Lexeme}
use Rattle.endpoint_code.specs.declared.endpoints.Endpoints.{Endpoints}
use Rattle.endpoint_reader.specs.declared.input.Input.{Input}
use Rattle.endpoint_reader.specs.declared.input.Named.{Named}
use Rattle.endpoint_reader.specs.There.{is_natural}
use Rattle.endpoint_reader.specs.Known.{IsThere, AreThere, IsTermThere}
use Rattle.endpoint_reader.specs.Tokens.{text_in, named, all_named, written}
use Rattle.endpoint_names.specs.Faults.{names_in}
use Rattle.same_programs.specs.Words.{SameName, SameText}
use Rattle.same_programs.specs.Codes.{number, truth, text, SameTerm, constant, variable, unary, binary}

no_truth : (b : Bool) → IsName (truth_text b) → ⊥
no_truth true h = absurd cc
no_truth false h = absurd cc

-- the bytes of a word
abbrev bytes_of : Symbol → List ℕ
bytes_of (word w) = w
bytes_of (numeral n) = []
bytes_of (quoted t) = []
bytes_of (mark m) = []
bytes_of last = []

-- programs e were read with the tables of i, and programs f with those of j
pub record HaveTables (e f : Endpoints) (i j : Input) : Type 0 where
  pub names : e.names ≡ i.names.now
  pub texts : e.texts ≡ i.texts.now
  pub other_names : f.names ≡ j.names.now
  pub other_texts : f.texts ≡ j.texts.now

module _ {e f : Endpoints} {i j : Input} (tables : HaveTables e f i j) where
  abbrev pub N : NameId → NameId → Type 0
  N x y = SameName e f x y

  abbrev pub T : ℕ → ℕ → Type 0
  T t u = SameText e f t u

  abbrev IsSame : Term → Term → Type 0
  IsSame t u = SameTerm N T t u

  -- ---- names

  word_same : (x y : NameId) → x.0 < length i.names.now → y.0 < length j.names.now → name_in i.names.now x ≡ name_in j.names.now y → N x y
  word_same x y a b s = record {
    word = name_in i.names.now x;
    here = ap (λ (ns : List (List ℕ)). slice_get ns x.0) tables.names ∙ slice_get-get_or i.names.now x.0 [] a;
    there = ap (λ (ns : List (List ℕ)). slice_get ns y.0) tables.other_names ∙ slice_get-get_or j.names.now y.0 [] b ∙ ap Some (sym s);
  }

  pub name_same : (n m : Named) → IsThere i n → IsThere j m → named i n ≡ named j m → N n.name m.name
  name_same n m a b s = word_same n.name m.name a b (ap (λ (l : Lexeme). bytes_of l.symbol) s)

  pub names_same : (ns ms : List Named) → AreThere i ns → AreThere j ms → all_named i ns ≡ all_named j ms → AllZip N (names_in ns) (names_in ms)
  names_same [] [] a b s = tt
  names_same [] (m ∷ ms) a b s = absurd cc
  names_same (n ∷ ns) [] a b s = absurd cc
  names_same (n ∷ ns) (m ∷ ms) a b s =
      let first : named i n ≡ named j m = cc in
      let rest : all_named i ns ≡ all_named j ms = cc in
      (name_same n m (All-head (IsThere i) n ns a) (All-head (IsThere j) m ms b) first, names_same ns ms (All-tail (IsThere i) n ns a) (All-tail (IsThere j) m ms b) rest)

  -- ---- expressions

  numbers_same : (y z : ℤ) → is_natural y ≡ true → is_natural z ≡ true → unsigned_abs y ≡ unsigned_abs z → IsSame (Constant (value.Int y)) (Constant (value.Int z))
  numbers_same (pos m) (pos n) p q h = subst (λ (x : ℤ). IsSame (Constant (value.Int (pos m))) (Constant (value.Int x))) (ap pos h) (constant number)
  numbers_same (pos m) (negsuc n) p q h = absurd cc
  numbers_same (negsuc m) z p q h = absurd cc

  truths_same : (b c : Bool) → truth_text b ≡ truth_text c → IsSame (Constant (value.Bool b)) (Constant (value.Bool c))
  truths_same true true h = constant truth
  truths_same false false h = constant truth
  truths_same true false h = absurd cc
  truths_same false true h = absurd cc

  pub term_same : (t u : Term) → IsTermThere i t → IsTermThere j u → written i t ≡ written j u → IsSame t u
  term_same (Constant (value.Int y)) (Constant (value.Int z)) h k s = numbers_same y z h k cc
  term_same (Constant (value.Bool b)) (Constant (value.Bool c)) h k s = truths_same b c cc
  term_same (Constant (value.Text t)) (Constant (value.Text u)) h k s =
      let said : text_in i.texts.now t ≡ text_in j.texts.now u = cc in
      constant (text (record {
        word = text_in i.texts.now t;
        here = ap (λ (ts : List (List ℕ)). slice_get ts t) tables.texts ∙ slice_get-get_or i.texts.now t [] h;
        there = ap (λ (ts : List (List ℕ)). slice_get ts u) tables.other_texts ∙ slice_get-get_or j.texts.now u [] k ∙ ap Some (sym said);
      }))
  term_same (Variable x) (Variable y) h k s =
      let said : name_in i.names.now x ≡ name_in j.names.now y = cc in
      variable (word_same x y h.0 k.0 said)
  term_same (Constant (value.Bool b)) (Variable y) h k s =
      let said : truth_text b ≡ name_in j.names.now y = cc in
      absurd (no_truth b (subst IsName (sym said) k.1))
  term_same (Variable x) (Constant (value.Bool b)) h k s =
      let said : name_in i.names.now x ≡ truth_text b = cc in
      absurd (no_truth b (subst IsName said h.1))
  term_same (Unary op t) (Unary o u) h k s =
      let same : op ≡ o = cc in
      subst (λ x. IsSame (Unary op t) (Unary x u)) same (unary (term_same t u h k cc))
  term_same (Binary op t v) (Binary o u w) h k s =
      let same : op ≡ o = cc in
      subst (λ x. IsSame (Binary op t v) (Binary x u w)) same (binary (term_same t u h.0 k.0 cc) (term_same v w h.1 k.1 cc))
  term_same (Constant (value.Part r q)) u h k s = absurd h
  term_same t (Constant (value.Part r q)) h k s = absurd k
  term_same t u h k s = absurd cc
