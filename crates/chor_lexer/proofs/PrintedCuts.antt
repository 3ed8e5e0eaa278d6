-- The text of an expression is cut into its tokens.
use Rattle.std.proofs.Common.{◌≡◌, ◌≢◌, ℕ, ℤ, Bool, true, false, List, [], ◌∷◌, ◌++◌, map, Option, refl, sym, ap, ◌∙◌, subst, arith, append_assoc, nat_lt, codes}
use Rattle.std.specs.Fmt.{signed_decimal}
use Rattle.std.proofs.lemmas.Bool.Decides.{nat_tests}
use Rattle.std.proofs.lemmas.List.{append-nil}
use Rattle.chor_base.specs.declared.rule.Place.{Place}
use Rattle.chor_base.specs.declared.value.Value.{Value}
use Rattle.chor_base.specs.declared.value.Value.TheVariants as value
use Rattle.chor_base.specs.declared.expr.UnOp.{UnOp}
use Rattle.chor_base.specs.declared.expr.UnOp.TheVariants as unop
use Rattle.chor_base.specs.declared.expr.BinOp.{BinOp}
use Rattle.chor_base.specs.Expr.{Term, Constant, Variable, Unary, Binary}
use Rattle.chor_base.specs.Words.{AllDistinct}
use Rattle.chor_base.specs.Writing.{literal}
use Rattle.chor_lexer.specs.declared.mark.Mark.TheVariants.{OpenParen, CloseParen, Minus, Not}
use Rattle.chor_lexer.specs.declared.token.Token.{Token}
use Rattle.chor_lexer.specs.Mark.{spelling}
use Rattle.chor_lexer.specs.Lexeme.{Symbol, word, mark, last, Lexeme, is_word}
use Rattle.chor_lexer.specs.Cut.{start, place_after, space, IsNext, IsCut, here, blank, token}
use Rattle.chor_lexer.specs.Tokens.{IsTokens, AreSpelled}
use Rattle.chor_lexer.specs.Canonical.{unary_mark, binary_mark, strength_of, left_needs, right_needs, enclosed, constant_text, expr_text}
use Rattle.chor_lexer.specs.Spelling.{IsLiteral, IsSource, enclosed_symbols, text_symbols, constant_symbols, expr_symbols, SpellAll, IsAllButLast}
use Rattle.chor_lexer.proofs.Cuts.{cut_on, one_reading}
use Rattle.chor_lexer.proofs.Spelling.{name_of, symbols_read_back}
use Rattle.chor_lexer.proofs.Printed.{Closed, closed_none, closed_space, closed_paren, word_next, number_next, text_next, is_pair, single_next, unslashed, open_next, close_next, operator_next, Starts, starts_on, operand_starts, expr_starts}

-- ---- cuts

-- bytes are cut into tokens of these symbols
pub record Cuts (bs : List ℕ) (p : Place) (ss : List Symbol) (rest : List ℕ) : Type 0 where
  pub lexemes : List Lexeme
  pub next : Place
  pub cut : IsCut bs p lexemes rest next
  pub are : map (λ l. l.symbol) lexemes ≡ ss

map_both : (ls ms : List Lexeme) → map (λ (l : Lexeme). l.symbol) (ls ++ ms) ≡ map (λ (l : Lexeme). l.symbol) ls ++ map (λ (l : Lexeme). l.symbol) ms
map_both [] ms = refl
map_both (l ∷ ls) ms = ap (λ (k : List Symbol). l.symbol ∷ k) (map_both ls ms)

cuts_one : (s : Symbol) (w mid bs : List ℕ) (p : Place) → IsNext s w mid bs → Cuts bs p (s ∷ []) mid
cuts_one s w mid bs p n = record { lexemes = record { symbol = s; place = p } ∷ []; next = place_after p w; cut = token n here; are = refl }

cuts_on : (bs mid rest : List ℕ) (p : Place) (ss qs : List Symbol) → Cuts bs p ss mid → ((q : Place) → Cuts mid q qs rest) → Cuts bs p (ss ++ qs) rest
cuts_on bs mid rest p ss qs c more =
    let d = more c.next in
    record {
      lexemes = c.lexemes ++ d.lexemes;
      next = d.next;
      cut = cut_on bs mid rest p c.next d.next c.lexemes d.lexemes c.cut d.cut;
      are = map_both c.lexemes d.lexemes ∙ (λ i. c.are i ++ d.are i);
    }

cuts_space : (bs rest : List ℕ) (p : Place) (ss : List Symbol) → ((q : Place) → Cuts bs q ss rest) → Cuts (32 ∷ bs) p ss rest
cuts_space bs rest p ss more =
    let c = more (place_after p (32 ∷ [])) in
    record { lexemes = c.lexemes; next = c.next; cut = blank {w = 32 ∷ []} refl (space refl) c.cut; are = c.are }

-- a text that is cut so wherever a token ends after it
abbrev pub AlwaysCuts : List ℕ → List Symbol → Type 0
AlwaysCuts bs ss = (rest : List ℕ) → Closed rest → (p : Place) → Cuts (bs ++ rest) p ss rest

operand_cuts : (b : Bool) (bs : List ℕ) (ss : List Symbol) → AlwaysCuts bs ss → AlwaysCuts (enclosed b bs) (enclosed_symbols b ss)
operand_cuts true bs ss c rest h p =
    let after = append_assoc bs (41 ∷ []) rest in
    cuts_on (40 ∷ ((bs ++ 41 ∷ []) ++ rest)) ((bs ++ 41 ∷ []) ++ rest) rest p (mark OpenParen ∷ []) (ss ++ mark CloseParen ∷ []) (cuts_one _ _ _ _ p (open_next ((bs ++ 41 ∷ []) ++ rest)))
    (λ q. subst (λ l. Cuts l q (ss ++ mark CloseParen ∷ []) rest) (sym after) (cuts_on (bs ++ 41 ∷ rest) (41 ∷ rest) rest q ss (mark CloseParen ∷ []) (c (41 ∷ rest) (closed_paren rest) q) (λ r. cuts_one _ _ _ _ r (close_next rest))))
operand_cuts false bs ss c rest h p = c rest h p

constant_cuts : (names texts : List (List ℕ)) (v : Value) → IsLiteral names texts v → AlwaysCuts (constant_text texts v) (constant_symbols texts v)
constant_cuts names texts (value.Int z) ok rest h p =
    let P : ℤ → Type 0 = λ y. Cuts (signed_decimal y ++ rest) p (constant_symbols texts (value.Int y)) rest in
    subst P (sym ok.1) (cuts_one _ _ _ _ p (number_next ok.0 rest ok.2 h))
constant_cuts names texts (value.Bool true) ok rest h p = cuts_one _ _ _ _ p (word_next (codes "true") rest (is_word refl (refl, (refl, (refl, tt)))) (omega arith) h)
constant_cuts names texts (value.Bool false) ok rest h p = cuts_one _ _ _ _ p (word_next (codes "false") rest (is_word refl (refl, (refl, (refl, (refl, tt))))) (omega arith) h)
constant_cuts names texts (value.Text t) ok rest h p =
    let P : Option (List ℕ) → Type 0 = λ o. Cuts (literal o ++ rest) p (text_symbols o) rest in
    subst P (sym ok.1) (cuts_one _ _ _ _ p (text_next ok.0 rest ok.2))
constant_cuts names texts (value.Part s r) ok rest h p = absurd ok

unary_cuts : (op : UnOp) (bs : List ℕ) (ss : List Symbol) → Starts bs → AlwaysCuts bs ss → AlwaysCuts (spelling (unary_mark op) ++ bs) (mark (unary_mark op) ∷ ss)
unary_cuts unop.Neg bs ss s c rest h p =
    let alone : (b : ℕ) (r : List ℕ) → bs ++ rest ≡ b ∷ r → is_pair 45 b ≡ false = λ b r e. let t = starts_on bs rest s in let same : t.byte ≡ b = same_head t.byte b t.rest r (sym t.parts ∙ e) in subst (λ k. is_pair 45 k ≡ false) same (minus_alone t.byte t.no_greater) in
    cuts_on (45 ∷ (bs ++ rest)) (bs ++ rest) rest p (mark Minus ∷ []) ss (cuts_one _ _ _ _ p (single_next Minus 45 (bs ++ rest) refl (refl, refl, refl, λ e. omega arith) (λ r e. unslashed 45 (bs ++ rest) (47 ∷ r) (λ q. omega arith) e) alone)) (λ q. c rest h q)
  where
    same_head : (a b : ℕ) (r q : List ℕ) → a ∷ r ≡ b ∷ q → a ≡ b
    same_head a b r q e = cc

    minus_alone : (b : ℕ) → b ≢ 62 → is_pair 45 b ≡ false
    minus_alone b n = grind (arith, nat_tests)
unary_cuts unop.Not bs ss s c rest h p =
    let alone : (b : ℕ) (r : List ℕ) → bs ++ rest ≡ b ∷ r → is_pair 33 b ≡ false = λ b r e. let t = starts_on bs rest s in let same : t.byte ≡ b = same_head t.byte b t.rest r (sym t.parts ∙ e) in subst (λ k. is_pair 33 k ≡ false) same (not_alone t.byte t.no_equal) in
    cuts_on (33 ∷ (bs ++ rest)) (bs ++ rest) rest p (mark Not ∷ []) ss (cuts_one _ _ _ _ p (single_next Not 33 (bs ++ rest) refl (refl, refl, refl, λ e. omega arith) (λ r e. unslashed 33 (bs ++ rest) (47 ∷ r) (λ q. omega arith) e) alone)) (λ q. c rest h q)
  where
    same_head : (a b : ℕ) (r q : List ℕ) → a ∷ r ≡ b ∷ q → a ≡ b
    same_head a b r q e = cc

    not_alone : (b : ℕ) → b ≢ 61 → is_pair 33 b ≡ false
    not_alone b n = grind (arith, nat_tests)

binary_cuts : (op : BinOp) (xs ys : List ℕ) (ss qs : List Symbol) → AlwaysCuts xs ss → AlwaysCuts ys qs → AlwaysCuts ((xs ++ (codes " " ++ spelling (binary_mark op) ++ codes " ")) ++ ys) (ss ++ mark (binary_mark op) ∷ qs)
binary_cuts op xs ys ss qs c d rest h p =
    let sp = spelling (binary_mark op) in
    let parts : ((xs ++ (codes " " ++ sp ++ codes " ")) ++ ys) ++ rest ≡ xs ++ 32 ∷ (sp ++ 32 ∷ (ys ++ rest)) =
    append_assoc (xs ++ (codes " " ++ sp ++ codes " ")) ys rest
    ∙ append_assoc xs (codes " " ++ sp ++ codes " ") (ys ++ rest)
    ∙ ap (λ (l : List ℕ). xs ++ l) (append_assoc (32 ∷ sp) (32 ∷ []) (ys ++ rest)) in
    subst (λ l. Cuts l p (ss ++ mark (binary_mark op) ∷ qs) rest) (sym parts)
    (cuts_on (xs ++ 32 ∷ (sp ++ 32 ∷ (ys ++ rest))) (32 ∷ (sp ++ 32 ∷ (ys ++ rest))) rest p ss (mark (binary_mark op) ∷ qs) (c (32 ∷ (sp ++ 32 ∷ (ys ++ rest))) (closed_space (sp ++ 32 ∷ (ys ++ rest))) p)
    (λ q. cuts_space (sp ++ 32 ∷ (ys ++ rest)) rest q (mark (binary_mark op) ∷ qs)
    (λ r. cuts_on (sp ++ 32 ∷ (ys ++ rest)) (32 ∷ (ys ++ rest)) rest r (mark (binary_mark op) ∷ []) qs (cuts_one _ _ _ _ r (operator_next op (ys ++ rest)))
    (λ i. cuts_space (ys ++ rest) rest i qs (λ j. d rest h j)))))

pub expr_cuts : (names texts : List (List ℕ)) (x : Term) → IsSource names texts x → AlwaysCuts (expr_text names texts x) (expr_symbols names texts x)
expr_cuts names texts (Constant v) ok rest h p = constant_cuts names texts v ok rest h p
expr_cuts names texts (Variable x) ok rest h p =
    subst (λ (w : List ℕ). Cuts (w ++ rest) p (word w ∷ []) rest) (sym (name_of names x ok.0 ok.1)) (cuts_one _ _ _ _ p (word_next ok.0 rest ok.3 ok.4 h))
expr_cuts names texts (Unary op x) ok rest h p =
    let weak = nat_lt (strength_of x) 6 in
    unary_cuts op (enclosed weak (expr_text names texts x)) (enclosed_symbols weak (expr_symbols names texts x)) (operand_starts weak (expr_text names texts x) (expr_starts names texts x ok)) (operand_cuts weak (expr_text names texts x) (expr_symbols names texts x) (expr_cuts names texts x ok)) rest h p
expr_cuts names texts (Binary op x y) ok rest h p =
    let weak = nat_lt (strength_of x) (left_needs op) in
    let low = nat_lt (strength_of y) (right_needs op) in
    binary_cuts op (enclosed weak (expr_text names texts x)) (enclosed low (expr_text names texts y)) (enclosed_symbols weak (expr_symbols names texts x)) (enclosed_symbols low (expr_symbols names texts y)) (operand_cuts weak (expr_text names texts x) (expr_symbols names texts x) (expr_cuts names texts x ok.0)) (operand_cuts low (expr_text names texts y) (expr_symbols names texts y) (expr_cuts names texts y ok.1)) rest h p

-- ---- the tokens of the text

-- all tokens but the last one
record Fronts (names texts : List (List ℕ)) (ts : List Token) (ls : List Lexeme) : Type 0 where
  front : List Token
  end : Token
  parts : ts ≡ front ++ end ∷ []
  spelled : SpellAll names texts front (map (λ l. l.symbol) ls)

fronts : (names texts : List (List ℕ)) (ts : List Token) (ls : List Lexeme) (l : Lexeme) → AreSpelled names texts ts (ls ++ l ∷ []) → Fronts names texts ts ls
fronts names texts [] [] l h = absurd h
fronts names texts [] (m ∷ ls) l h = absurd h
fronts names texts (t ∷ []) [] l h = record { front = []; end = t; parts = refl; spelled = tt }
fronts names texts (t ∷ u ∷ ts) [] l h = absurd h.1
fronts names texts (t ∷ ts) (m ∷ ls) l h =
    let f = fronts names texts ts ls l h.1 in
    record { front = t ∷ f.front; end = f.end; parts = ap (λ (k : List Token). t ∷ k) f.parts; spelled = (h.0.0, f.spelled) }

-- the tokens of the canonical text but the last one are the expression
pub text_reads_back : (names texts : List (List ℕ)) (x : Term) (ls : List Lexeme) (ts : List Token) → AllDistinct names → AllDistinct texts → IsSource names texts x → IsTokens (expr_text names texts x) ls → AreSpelled names texts ts ls → IsAllButLast names ts x
text_reads_back names texts x ls ts d e ok tokens spelled =
    let c = expr_cuts names texts x ok [] closed_none start in
    let end : Lexeme = record { symbol = last; place = c.next } in
    let cut : IsCut (expr_text names texts x) start c.lexemes [] c.next = subst (λ bs. IsCut bs start c.lexemes [] c.next) (append-nil (expr_text names texts x)) c.cut in
    let own : IsTokens (expr_text names texts x) (c.lexemes ++ end ∷ []) = record { utf8 = tokens.utf8; front = c.lexemes; next = c.next; cut = cut; whole = refl } in
    let same : ls ≡ c.lexemes ++ end ∷ [] = one_reading (expr_text names texts x) ls (c.lexemes ++ end ∷ []) tokens own in
    let f = fronts names texts ts c.lexemes end (subst (AreSpelled names texts ts) same spelled) in
    record { written = f.front; end = f.end; parts = f.parts; is = symbols_read_back names texts x f.front d e ok (subst (SpellAll names texts f.front) c.are f.spelled) }
