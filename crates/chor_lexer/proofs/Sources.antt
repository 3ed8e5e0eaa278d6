-- What tokens of a file derive is an expression of a source.
use Rattle.std.proofs.Common.{◌≡◌, ◌<◌, ◌≤◌, ◌^◌, ℕ, ℤ, List, [], ◌∷◌, ◌++◌, length, Some, sym, ap, ◌∙◌, subst, arith, append_assoc, length-append}
use Rattle.std.specs.Prelude.{slice_get}
use Rattle.std.specs.Char.{is_ascii_digit}
use Rattle.std.specs.List.{AllByRecursion}
use Rattle.std.specs.Str.{IsUtf8, IsAscii}
use Rattle.std.proofs.lemmas.Str.{IsUtf8-nil}
use Rattle.std.proofs.lemmas.Str.Ascii.{IsAscii-nil, IsAscii-cons}
use Rattle.chor_base.specs.declared.names.NameId.{NameId}
use Rattle.chor_base.specs.declared.value.Value.TheVariants as value
use Rattle.chor_base.specs.declared.expr.BinOp.{BinOp}
use Rattle.chor_base.specs.declared.rule.Place.{Place}
use Rattle.chor_base.specs.Expr.{Term, Variable, Binary}
use Rattle.chor_base.specs.Writing as writing
use Rattle.chor_lexer.specs.declared.token.Kind.{Kind}
use Rattle.chor_lexer.specs.declared.token.Kind.TheVariants as kind
use Rattle.chor_lexer.specs.declared.token.Token.{Token}
use Rattle.chor_lexer.specs.Lexeme.{Symbol, word, number, text, mark, last, Lexeme, is_word_byte, IsLexeme, is_word, is_number, is_text, is_mark, IsWithin}
use Rattle.chor_lexer.specs.Cut.{start, EndsLine, IsBlank, space, comment, IsCut, here, blank, token}
use Rattle.chor_lexer.specs.Tokens.{IsTokens, Spells, AreSpelled}
use Rattle.chor_lexer.specs.Keywords.{IsName}
use Rattle.chor_lexer.specs.Grammar.{OrIs, OrGoes, AndIs, AndGoes, CmpIs, CmpGoes, SumIs, SumGoes, ProdIs, ProdGoes, UnIs, IsExpr, a_disjunction, or_done, or_more, a_conjunction, and_done, and_more, a_comparison, cmp_done, cmp_once, a_sum, sum_done, sum_more, a_product, prod_done, prod_more, a_unary, a_number, a_text, a_truth, a_name, in_parens}
use Rattle.chor_lexer.specs.Spelling.{IsLiteral, IsSource}
use Rattle.chor_lexer.proofs.Each.{each_append, each_front, each_back}
use Rattle.chor_lexer.proofs.Fronts.{letter_is_word_byte}
use Rattle.chor_lexer.proofs.Utf8.{ascii_passes, word_byte_low, digit_low, space_low, mark_ascii, Sides, sides, joined, past_ascii, text_utf8, printed_shortest}

-- ---- symbols of a file

-- what is known of a symbol
abbrev pub IsKnown : Symbol → Type 0
IsKnown (word w) = IsLexeme (word w) w × (length w ≤ 64)
IsKnown (number n) = n < 2 ^ 63
IsKnown (text t) = (length (writing.escaped t) ≤ 256) × IsUtf8 t
IsKnown (mark m) = Unit {0}
IsKnown last = Unit {0}

text_sides : (w body rest : List ℕ) → w ≡ 34 ∷ body ++ 34 ∷ [] → IsUtf8 (w ++ rest) → Sides body rest
text_sides w body rest e u =
    let whole : w ++ rest ≡ (34 ∷ body) ++ 34 ∷ rest = ap (λ (l : List ℕ). l ++ rest) e ∙ ap (λ (l : List ℕ). 34 ∷ l) (append_assoc body (34 ∷ []) rest) in
    let s = sides (34 ∷ body) 34 rest (omega arith) (subst IsUtf8 whole u) in
    record { before = (sides [] 34 body (omega arith) s.before).after; after = s.after }

known : (s : Symbol) (w rest : List ℕ) → IsLexeme s w → IsWithin s w → IsUtf8 (w ++ rest) → IsKnown s
known s w rest (is_word a h) few u = (is_word a h, few)
known s w rest (is_number a h) few u = few
known s w rest (is_text {body = body} {t = t} e h) few u = (omega (arith, few, printed_shortest body t h, ap length e, length-append body (34 ∷ [])), text_utf8 body t [] h (text_sides w body rest e u).before)
known s w rest (is_mark e) few u = tt

after_lexeme : (s : Symbol) (w rest : List ℕ) → IsLexeme s w → IsUtf8 (w ++ rest) → IsUtf8 rest
after_lexeme s w rest (is_word {c = c} {cs = cs} a h) u = past_ascii (c ∷ cs) rest (ascii_passes is_word_byte (c ∷ cs) word_byte_low (letter_is_word_byte c a, h)) u
after_lexeme s w rest (is_number {d = d} {ds = ds} a h) u = past_ascii (d ∷ ds) rest (ascii_passes is_ascii_digit (d ∷ ds) digit_low (a, h)) u
after_lexeme s w rest (is_text {body = body} e h) u = (text_sides w body rest e u).after
after_lexeme s w rest (is_mark {m = m} e) u = past_ascii w rest (subst IsAscii (sym e) (mark_ascii m)) u

after_comment : (line rest : List ℕ) → EndsLine rest → IsUtf8 (line ++ rest) → IsUtf8 rest
after_comment line [] e u = IsUtf8-nil
after_comment line (b ∷ rest) e u = let low : b < 128 = omega arith in joined [] b rest low IsUtf8-nil (sides line b rest low u).after

after_blank : (w rest : List ℕ) → IsBlank w rest → IsUtf8 (w ++ rest) → IsUtf8 rest
after_blank w rest (space {b = b} s) u = past_ascii (b ∷ []) rest (IsAscii-cons b [] (space_low b s) IsAscii-nil) u
after_blank w rest (comment {line = line} h e) u = after_comment (47 ∷ 47 ∷ line) rest e u

cut_known : (bs : List ℕ) (p : Place) (ls : List Lexeme) (rest : List ℕ) (q : Place) → IsCut bs p ls rest q → IsUtf8 bs → AllByRecursion (λ (l : Lexeme). IsKnown l.symbol) ls
cut_known bs p ls rest q here u = tt
cut_known bs p ls rest q (blank {w = w} {mid = mid} e b c) u = cut_known mid _ ls rest q c (after_blank w mid b (subst IsUtf8 e u))
cut_known bs p ls rest q (token {w = w} {mid = mid} {s = s} n c) u =
    let v = subst IsUtf8 n.longest.parts u in
    (known s w mid n.longest.is n.within v, cut_known mid _ _ rest q c (after_lexeme s w mid n.longest.is v))

-- ---- tokens of a file

pub record IsOfFile (names texts : List (List ℕ)) (t : Token) : Type 0 where
  symbol : Symbol
  spells : Spells names texts t.kind symbol
  known : IsKnown symbol

abbrev pub AreOfFile : List (List ℕ) → List (List ℕ) → List Token → Type 0
AreOfFile names texts ts = AllByRecursion (IsOfFile names texts) ts

pub of_file : (names texts : List (List ℕ)) (ts : List Token) (ls : List Lexeme) → AreSpelled names texts ts ls → AllByRecursion (λ (l : Lexeme). IsKnown l.symbol) ls → AreOfFile names texts ts
of_file names texts [] [] s h = tt
of_file names texts [] (l ∷ ls) s h = absurd s
of_file names texts (t ∷ ts) [] s h = absurd s
of_file names texts (t ∷ ts) (l ∷ ls) s h = (record { symbol = l.symbol; spells = s.0.0; known = h.0 }, of_file names texts ts ls s.1 h.1)

number_is : (names texts : List (List ℕ)) (z : ℤ) (s : Symbol) → Spells names texts (kind.Number z) s → IsKnown s → IsLiteral names texts (value.Int z)
number_is names texts z (number n) e h = (n, e, h)
number_is names texts z (word w) e h = absurd e
number_is names texts z (text t) e h = absurd e
number_is names texts z (mark m) e h = absurd e
number_is names texts z last e h = absurd e

text_is : (names texts : List (List ℕ)) (n : ℕ) (s : Symbol) → Spells names texts (kind.Text n) s → IsKnown s → IsLiteral names texts (value.Text n)
text_is names texts n (text t) e h = (t, e, h.0, h.1)
text_is names texts n (word w) e h = absurd e
text_is names texts n (number m) e h = absurd e
text_is names texts n (mark m) e h = absurd e
text_is names texts n last e h = absurd e

name_is : (names texts : List (List ℕ)) (x : NameId) (w : List ℕ) (s : Symbol) → slice_get names x.0 ≡ Some w → IsName w → Spells names texts (kind.Word x) s → IsKnown s → IsSource names texts (Variable x)
name_is names texts x w (word v) is name e h = let same : w ≡ v = cc in (v, e, subst IsName same name, h.0, h.1)
name_is names texts x w (number n) is name e h = absurd e
name_is names texts x w (text t) is name e h = absurd e
name_is names texts x w (mark m) is name e h = absurd e
name_is names texts x w last is name e h = absurd e

spells_as : (names texts : List (List ℕ)) (t : Token) (k : Kind) (f : IsOfFile names texts t) → t.kind ≡ k → Spells names texts k f.symbol
spells_as names texts t k f e = subst (λ (i : Kind). Spells names texts i f.symbol) e f.spells

-- ---- derivations

-- an expression of a source, and what follows it
pub record Sourced (names texts : List (List ℕ)) (x : Term) (rest : List Token) : Type 0 where
  pub source : IsSource names texts x
  pub others : AreOfFile names texts rest

both : (names texts : List (List ℕ)) (op : BinOp) (a b : Term) (ts mid : List Token) → Sourced names texts a ts → Sourced names texts b mid → Sourced names texts (Binary op a b) mid
both names texts op a b ts mid s r = record { source = (s.source, r.source); others = r.others }

mutual
  pub or_sourced : (names texts : List (List ℕ)) (ts : List Token) (x : Term) (rest : List Token) → OrIs names ts x rest → AreOfFile names texts ts → Sourced names texts x rest
  or_sourced names texts ts x rest (a_disjunction {mid = mid} {a = a} p g) h = or_goes_sourced names texts a mid x rest g (and_sourced names texts ts a mid p h)

  or_goes_sourced : (names texts : List (List ℕ)) (a : Term) (ts : List Token) (x : Term) (rest : List Token) → OrGoes names a ts x rest → Sourced names texts a ts → Sourced names texts x rest
  or_goes_sourced names texts a ts x rest or_done s = s
  or_goes_sourced names texts a ts x rest (or_more {t = t} {ts = l} {mid = mid} {b = b} {op = op} e m p g) s =
      or_goes_sourced names texts (Binary op a b) mid x rest g (both names texts op a b (t ∷ l) mid s (and_sourced names texts l b mid p s.others.1))

  and_sourced : (names texts : List (List ℕ)) (ts : List Token) (x : Term) (rest : List Token) → AndIs names ts x rest → AreOfFile names texts ts → Sourced names texts x rest
  and_sourced names texts ts x rest (a_conjunction {mid = mid} {a = a} p g) h = and_goes_sourced names texts a mid x rest g (cmp_sourced names texts ts a mid p h)

  and_goes_sourced : (names texts : List (List ℕ)) (a : Term) (ts : List Token) (x : Term) (rest : List Token) → AndGoes names a ts x rest → Sourced names texts a ts → Sourced names texts x rest
  and_goes_sourced names texts a ts x rest and_done s = s
  and_goes_sourced names texts a ts x rest (and_more {t = t} {ts = l} {mid = mid} {b = b} {op = op} e m p g) s =
      and_goes_sourced names texts (Binary op a b) mid x rest g (both names texts op a b (t ∷ l) mid s (cmp_sourced names texts l b mid p s.others.1))

  cmp_sourced : (names texts : List (List ℕ)) (ts : List Token) (x : Term) (rest : List Token) → CmpIs names ts x rest → AreOfFile names texts ts → Sourced names texts x rest
  cmp_sourced names texts ts x rest (a_comparison {mid = mid} {a = a} p g) h = cmp_goes_sourced names texts a mid x rest g (sum_sourced names texts ts a mid p h)

  cmp_goes_sourced : (names texts : List (List ℕ)) (a : Term) (ts : List Token) (x : Term) (rest : List Token) → CmpGoes names a ts x rest → Sourced names texts a ts → Sourced names texts x rest
  cmp_goes_sourced names texts a ts x rest cmp_done s = s
  cmp_goes_sourced names texts a ts x rest (cmp_once {t = t} {ts = l} {b = b} {op = op} e m p) s =
      both names texts op a b (t ∷ l) rest s (sum_sourced names texts l b rest p s.others.1)

  sum_sourced : (names texts : List (List ℕ)) (ts : List Token) (x : Term) (rest : List Token) → SumIs names ts x rest → AreOfFile names texts ts → Sourced names texts x rest
  sum_sourced names texts ts x rest (a_sum {mid = mid} {a = a} p g) h = sum_goes_sourced names texts a mid x rest g (prod_sourced names texts ts a mid p h)

  sum_goes_sourced : (names texts : List (List ℕ)) (a : Term) (ts : List Token) (x : Term) (rest : List Token) → SumGoes names a ts x rest → Sourced names texts a ts → Sourced names texts x rest
  sum_goes_sourced names texts a ts x rest sum_done s = s
  sum_goes_sourced names texts a ts x rest (sum_more {t = t} {ts = l} {mid = mid} {b = b} {op = op} e m p g) s =
      sum_goes_sourced names texts (Binary op a b) mid x rest g (both names texts op a b (t ∷ l) mid s (prod_sourced names texts l b mid p s.others.1))

  prod_sourced : (names texts : List (List ℕ)) (ts : List Token) (x : Term) (rest : List Token) → ProdIs names ts x rest → AreOfFile names texts ts → Sourced names texts x rest
  prod_sourced names texts ts x rest (a_product {mid = mid} {a = a} p g) h = prod_goes_sourced names texts a mid x rest g (un_sourced names texts ts a mid p h)

  prod_goes_sourced : (names texts : List (List ℕ)) (a : Term) (ts : List Token) (x : Term) (rest : List Token) → ProdGoes names a ts x rest → Sourced names texts a ts → Sourced names texts x rest
  prod_goes_sourced names texts a ts x rest prod_done s = s
  prod_goes_sourced names texts a ts x rest (prod_more {t = t} {ts = l} {mid = mid} {b = b} {op = op} e m p g) s =
      prod_goes_sourced names texts (Binary op a b) mid x rest g (both names texts op a b (t ∷ l) mid s (un_sourced names texts l b mid p s.others.1))

  un_sourced : (names texts : List (List ℕ)) (ts : List Token) (x : Term) (rest : List Token) → UnIs names ts x rest → AreOfFile names texts ts → Sourced names texts x rest
  un_sourced names texts ts x rest (a_unary {t = t} {ts = l} {x = y} m p) h = let s = un_sourced names texts l y rest p h.1 in record { source = s.source; others = s.others }
  un_sourced names texts ts x rest (a_number {t = t} {z = z} e) h = record { source = number_is names texts z h.0.symbol (spells_as names texts t (kind.Number z) h.0 e) h.0.known; others = h.1 }
  un_sourced names texts ts x rest (a_text {t = t} {n = n} e) h = record { source = text_is names texts n h.0.symbol (spells_as names texts t (kind.Text n) h.0 e) h.0.known; others = h.1 }
  un_sourced names texts ts x rest (a_truth w) h = record { source = (w.number, w.word); others = h.1 }
  un_sourced names texts ts x rest (a_name {t = t} {x = y} w) h = record { source = name_is names texts y w.word h.0.symbol w.is w.name (spells_as names texts t (kind.Word y) h.0 w.kind) h.0.known; others = h.1 }
  un_sourced names texts ts x rest (in_parens {t = t} {u = u} {ts = l} m p n) h = let s = or_sourced names texts l x (u ∷ rest) p h.1 in record { source = s.source; others = s.others.1 }

-- all symbols of a file are known
pub known_tokens : (bytes : List ℕ) (ls : List Lexeme) → IsTokens bytes ls → AllByRecursion (λ (l : Lexeme). IsKnown l.symbol) ls
known_tokens bytes ls tokens =
    let Known : Lexeme → Type 0 = λ l. IsKnown l.symbol in
    let end : Lexeme = record { symbol = last; place = tokens.next } in
    let cut = cut_known bytes start tokens.front [] tokens.next tokens.cut tokens.utf8 in
    subst (AllByRecursion Known) (sym tokens.whole) (each_append Known tokens.front (end ∷ []) cut (tt, tt))

-- an expression that some tokens of a file derive
pub derived_is_source : (bytes : List ℕ) (names texts : List (List ℕ)) (ls : List Lexeme) (before written after : List Token) (x : Term) → IsTokens bytes ls → AreSpelled names texts (before ++ written ++ after) ls → IsExpr names written x → IsSource names texts x
derived_is_source bytes names texts ls before written after x tokens spelled is =
    let ts = of_file names texts (before ++ written ++ after) ls spelled (known_tokens bytes ls tokens) in
    let own = each_back (IsOfFile names texts) before written (each_front (IsOfFile names texts) (before ++ written) after ts) in
    (or_sourced names texts written x [] is own).source
