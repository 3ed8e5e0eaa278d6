-- The texts of a file's tokens, and of the expressions that they derive, are in the table.
use Rattle.std.proofs.Common.{◌≡◌, ◌<◌, ℕ, true, List, [], ◌∷◌, length, refl, subst}
use Rattle.std.specs.List.{AllByRecursion}
use Rattle.std.proofs.lemmas.Bool.{lt-ltb, and_from}
use Rattle.std.proofs.lemmas.Option.{slice_get_within}
use Rattle.chor_base.specs.declared.expr.BinOp.{BinOp}
use Rattle.chor_base.specs.Expr.{Term, Binary}
use Rattle.chor_lexer.specs.declared.token.Kind.{Kind}
use Rattle.chor_lexer.specs.declared.token.Kind.TheVariants.{Text}
use Rattle.chor_lexer.specs.declared.token.Token.{Token}
use Rattle.chor_lexer.specs.Lexeme.{Symbol, word, number, text, mark, last, Lexeme}
use Rattle.chor_lexer.specs.Tokens.{Spells, AreSpelled, AreTokensOf}
use Rattle.chor_lexer.specs.Keywords.{HasName}
use Rattle.chor_lexer.specs.Grammar.{OrIs, OrGoes, AndIs, AndGoes, CmpIs, CmpGoes, SumIs, SumGoes, ProdIs, ProdGoes, UnIs, a_disjunction, or_done, or_more, a_conjunction, and_done, and_more, a_comparison, cmp_done, cmp_once, a_sum, sum_done, sum_more, a_product, prod_done, prod_more, a_unary, a_number, a_text, a_truth, a_name, in_parens}
use Rattle.chor_tree.specs.Kept.{term_there, has_name, has_text}
use Rattle.chor_base.specs.declared.names.NameId.{NameId}
use Rattle.source_grammar.specs.Known.{IsTextKnown}

-- ---- tokens

spelled_text : (names texts : List (List ℕ)) (n : ℕ) (s : Symbol) → Spells names texts (Text n) s → n < length texts
spelled_text names texts n (text t) h = slice_get_within texts n t h
spelled_text names texts n (word w) h = absurd h
spelled_text names texts n (number k) h = absurd h
spelled_text names texts n (mark m) h = absurd h
spelled_text names texts n last h = absurd h

spelled_known : (names texts : List (List ℕ)) (ts : List Token) (ls : List Lexeme) → AreSpelled names texts ts ls → AllByRecursion (IsTextKnown texts) ts
spelled_known names texts [] ls h = tt
spelled_known names texts (t ∷ ts) [] h = absurd h
spelled_known names texts (t ∷ ts) (l ∷ ls) h = (
  (λ n e. spelled_text names texts n l.symbol (subst (λ (k : Kind). Spells names texts k l.symbol) e h.0.0)),
  spelled_known names texts ts ls h.1,
)

-- the texts of the tokens that were read into these tables
pub texts_known : {bytes : List ℕ} {old_names old_texts names texts : List (List ℕ)} {ts : List Token} → AreTokensOf bytes old_names old_texts names texts ts → AllByRecursion (IsTextKnown texts) ts
texts_known {names = names} {texts = texts} {ts = ts} h = spelled_known names texts ts h.lexemes h.spelled

-- ---- expressions

-- numbers of the term are in the tables, and texts of the tokens left
pub record TermKept (names texts : List (List ℕ)) (x : Term) (rest : List Token) : Type 0 where
  pub there : term_there (has_name names) (has_text texts) x ≡ true
  pub others : AllByRecursion (IsTextKnown texts) rest

pub name_there : (names : List (List ℕ)) (x : NameId) (t : Token) → HasName names x t → has_name names x ≡ true
name_there names x t h = lt-ltb x.0 (length names) (slice_get_within names x.0 h.word h.is)

both : (names texts : List (List ℕ)) (op : BinOp) (a b : Term) (ts mid : List Token) → TermKept names texts a ts → TermKept names texts b mid → TermKept names texts (Binary op a b) mid
both names texts op a b ts mid s r = record { there = and_from _ _ s.there r.there; others = r.others }

mutual
  pub or_kept : (names texts : List (List ℕ)) (ts : List Token) (x : Term) (rest : List Token) → OrIs names ts x rest → AllByRecursion (IsTextKnown texts) ts → TermKept names texts x rest
  or_kept names texts ts x rest (a_disjunction {mid = mid} {a = a} p g) h = or_goes_kept names texts a mid x rest g (and_kept names texts ts a mid p h)

  or_goes_kept : (names texts : List (List ℕ)) (a : Term) (ts : List Token) (x : Term) (rest : List Token) → OrGoes names a ts x rest → TermKept names texts a ts → TermKept names texts x rest
  or_goes_kept names texts a ts x rest or_done s = s
  or_goes_kept names texts a ts x rest (or_more {t = t} {ts = l} {mid = mid} {b = b} {op = op} e m p g) s =
      or_goes_kept names texts (Binary op a b) mid x rest g (both names texts op a b (t ∷ l) mid s (and_kept names texts l b mid p s.others.1))

  and_kept : (names texts : List (List ℕ)) (ts : List Token) (x : Term) (rest : List Token) → AndIs names ts x rest → AllByRecursion (IsTextKnown texts) ts → TermKept names texts x rest
  and_kept names texts ts x rest (a_conjunction {mid = mid} {a = a} p g) h = and_goes_kept names texts a mid x rest g (cmp_kept names texts ts a mid p h)

  and_goes_kept : (names texts : List (List ℕ)) (a : Term) (ts : List Token) (x : Term) (rest : List Token) → AndGoes names a ts x rest → TermKept names texts a ts → TermKept names texts x rest
  and_goes_kept names texts a ts x rest and_done s = s
  and_goes_kept names texts a ts x rest (and_more {t = t} {ts = l} {mid = mid} {b = b} {op = op} e m p g) s =
      and_goes_kept names texts (Binary op a b) mid x rest g (both names texts op a b (t ∷ l) mid s (cmp_kept names texts l b mid p s.others.1))

  cmp_kept : (names texts : List (List ℕ)) (ts : List Token) (x : Term) (rest : List Token) → CmpIs names ts x rest → AllByRecursion (IsTextKnown texts) ts → TermKept names texts x rest
  cmp_kept names texts ts x rest (a_comparison {mid = mid} {a = a} p g) h = cmp_goes_kept names texts a mid x rest g (sum_kept names texts ts a mid p h)

  cmp_goes_kept : (names texts : List (List ℕ)) (a : Term) (ts : List Token) (x : Term) (rest : List Token) → CmpGoes names a ts x rest → TermKept names texts a ts → TermKept names texts x rest
  cmp_goes_kept names texts a ts x rest cmp_done s = s
  cmp_goes_kept names texts a ts x rest (cmp_once {t = t} {ts = l} {b = b} {op = op} e m p) s =
      both names texts op a b (t ∷ l) rest s (sum_kept names texts l b rest p s.others.1)

  sum_kept : (names texts : List (List ℕ)) (ts : List Token) (x : Term) (rest : List Token) → SumIs names ts x rest → AllByRecursion (IsTextKnown texts) ts → TermKept names texts x rest
  sum_kept names texts ts x rest (a_sum {mid = mid} {a = a} p g) h = sum_goes_kept names texts a mid x rest g (prod_kept names texts ts a mid p h)

  sum_goes_kept : (names texts : List (List ℕ)) (a : Term) (ts : List Token) (x : Term) (rest : List Token) → SumGoes names a ts x rest → TermKept names texts a ts → TermKept names texts x rest
  sum_goes_kept names texts a ts x rest sum_done s = s
  sum_goes_kept names texts a ts x rest (sum_more {t = t} {ts = l} {mid = mid} {b = b} {op = op} e m p g) s =
      sum_goes_kept names texts (Binary op a b) mid x rest g (both names texts op a b (t ∷ l) mid s (prod_kept names texts l b mid p s.others.1))

  prod_kept : (names texts : List (List ℕ)) (ts : List Token) (x : Term) (rest : List Token) → ProdIs names ts x rest → AllByRecursion (IsTextKnown texts) ts → TermKept names texts x rest
  prod_kept names texts ts x rest (a_product {mid = mid} {a = a} p g) h = prod_goes_kept names texts a mid x rest g (un_kept names texts ts a mid p h)

  prod_goes_kept : (names texts : List (List ℕ)) (a : Term) (ts : List Token) (x : Term) (rest : List Token) → ProdGoes names a ts x rest → TermKept names texts a ts → TermKept names texts x rest
  prod_goes_kept names texts a ts x rest prod_done s = s
  prod_goes_kept names texts a ts x rest (prod_more {t = t} {ts = l} {mid = mid} {b = b} {op = op} e m p g) s =
      prod_goes_kept names texts (Binary op a b) mid x rest g (both names texts op a b (t ∷ l) mid s (un_kept names texts l b mid p s.others.1))

  un_kept : (names texts : List (List ℕ)) (ts : List Token) (x : Term) (rest : List Token) → UnIs names ts x rest → AllByRecursion (IsTextKnown texts) ts → TermKept names texts x rest
  un_kept names texts ts x rest (a_unary {ts = l} {x = y} m p) h = let s = un_kept names texts l y rest p h.1 in record { there = s.there; others = s.others }
  un_kept names texts ts x rest (a_number e) h = record { there = refl; others = h.1 }
  un_kept names texts ts x rest (a_text {n = n} e) h = record { there = lt-ltb n (length texts) (h.0 n e); others = h.1 }
  un_kept names texts ts x rest (a_truth w) h = record { there = refl; others = h.1 }
  un_kept names texts ts x rest (a_name {t = t} {x = y} w) h = record { there = name_there names y t w; others = h.1 }
  un_kept names texts ts x rest (in_parens {u = u} {ts = l} m p n) h = let s = or_kept names texts l x (u ∷ rest) p h.1 in record { there = s.there; others = s.others.1 }
