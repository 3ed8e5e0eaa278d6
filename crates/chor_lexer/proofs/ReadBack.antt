-- The canonical text of an expression of a source has tokens.
use Rattle.std.proofs.Common.{ℕ, ℤ, pos, unsigned_abs, Bool, true, false, List, [], ◌∷◌, ◌++◌, map, Option, refl, sym, subst, arith, nat_lt, codes}
use Rattle.std.specs.List.{AllByRecursion}
use Rattle.std.specs.Str.{IsUtf8}
use Rattle.std.specs.Fmt.{decimal, signed_decimal}
use Rattle.std.proofs.lemmas.List.{append-nil}
use Rattle.std.proofs.lemmas.Fmt.{IsAscii-decimal}
use Rattle.std.proofs.lemmas.Str.{IsUtf8-nil, IsUtf8-append, IsUtf8-from_ascii}
use Rattle.chor_base.specs.declared.value.Value.{Value}
use Rattle.chor_base.specs.declared.value.Value.TheVariants as value
use Rattle.chor_base.specs.Expr.{Term, Constant, Variable, Unary, Binary}
use Rattle.chor_base.specs.Words.{AllDistinct}
use Rattle.chor_base.specs.Writing.{name_in, literal}
use Rattle.chor_base.specs.Writing as writing
use Rattle.chor_lexer.specs.declared.mark.Mark.{Mark as MarkName}
use Rattle.chor_lexer.specs.declared.mark.Mark.TheVariants.{OpenParen, CloseParen}
use Rattle.chor_lexer.specs.declared.token.Kind.{Kind}
use Rattle.chor_lexer.specs.declared.token.Kind.TheVariants as kind
use Rattle.chor_lexer.specs.declared.token.Token.{Token}
use Rattle.chor_lexer.specs.Mark.{spelling}
use Rattle.chor_lexer.specs.Lexeme.{Symbol, word, number, mark, last, Lexeme, is_word_byte, IsLexeme, is_word}
use Rattle.chor_lexer.specs.Cut.{start, IsCut}
use Rattle.chor_lexer.specs.Tokens.{IsTokens, Spells, AreSpelled}
use Rattle.chor_lexer.specs.Canonical.{unary_mark, binary_mark, strength_of, left_needs, right_needs, enclosed, operand_text, constant_text, expr_text}
use Rattle.chor_lexer.specs.Spelling.{IsLiteral, IsSource, enclosed_symbols, operand_symbols, text_symbols, constant_symbols, expr_symbols, ReadsBack}
use Rattle.chor_lexer.proofs.Each.{each_append}
use Rattle.chor_lexer.proofs.Pieces.{word_passes}
use Rattle.chor_lexer.proofs.Spelled.{spelled_push}
use Rattle.chor_lexer.proofs.Spelling.{name_of}
use Rattle.chor_lexer.proofs.Printed.{closed_none, escaped_is}
use Rattle.chor_lexer.proofs.PrintedCuts.{expr_cuts, text_reads_back}
use Rattle.chor_lexer.proofs.Utf8.{ascii_passes, word_byte_low, mark_ascii, joined, written_utf8}

-- ---- the text is UTF-8

pub word_utf8 : (w : List ℕ) → IsLexeme (word w) w → IsUtf8 w
word_utf8 w l = IsUtf8-from_ascii w (ascii_passes is_word_byte w word_byte_low (word_passes (word w) w l refl))

pub mark_utf8 : (m : MarkName) → IsUtf8 (spelling m)
mark_utf8 m = IsUtf8-from_ascii (spelling m) (mark_ascii m)

space_utf8 : IsUtf8 (codes " ")
space_utf8 = joined [] 32 [] (omega arith) IsUtf8-nil IsUtf8-nil

constant_utf8 : (names texts : List (List ℕ)) (v : Value) → IsLiteral names texts v → IsUtf8 (constant_text texts v)
constant_utf8 names texts (value.Int z) ok =
    let few = ok.2 in
    subst (λ (y : ℤ). IsUtf8 (signed_decimal y)) (sym ok.1) (IsUtf8-from_ascii (decimal ok.0) (IsAscii-decimal ok.0 (omega arith)))
constant_utf8 names texts (value.Bool true) ok = word_utf8 (codes "true") (is_word refl (refl, (refl, (refl, tt))))
constant_utf8 names texts (value.Bool false) ok = word_utf8 (codes "false") (is_word refl (refl, (refl, (refl, (refl, tt)))))
constant_utf8 names texts (value.Text t) ok =
    let body : IsUtf8 (writing.escaped ok.0) = written_utf8 (writing.escaped ok.0) ok.0 [] (escaped_is ok.0) ok.3 in
    subst (λ (o : Option (List ℕ)). IsUtf8 (literal o)) (sym ok.1) (joined [] 34 (writing.escaped ok.0 ++ 34 ∷ []) (omega arith) IsUtf8-nil (joined (writing.escaped ok.0) 34 [] (omega arith) body IsUtf8-nil))
constant_utf8 names texts (value.Part s r) ok = absurd ok

operand_utf8 : (b : Bool) (bs : List ℕ) → IsUtf8 bs → IsUtf8 (enclosed b bs)
operand_utf8 true bs u = joined [] 40 (bs ++ 41 ∷ []) (omega arith) IsUtf8-nil (joined bs 41 [] (omega arith) u IsUtf8-nil)
operand_utf8 false bs u = u

pub expr_utf8 : (names texts : List (List ℕ)) (x : Term) → IsSource names texts x → IsUtf8 (expr_text names texts x)
expr_utf8 names texts (Constant v) ok = constant_utf8 names texts v ok
expr_utf8 names texts (Variable x) ok = subst IsUtf8 (sym (name_of names x ok.0 ok.1)) (word_utf8 ok.0 ok.3)
expr_utf8 names texts (Unary op x) ok =
    let weak = nat_lt (strength_of x) 6 in
    IsUtf8-append (spelling (unary_mark op)) (enclosed weak (expr_text names texts x)) (mark_utf8 (unary_mark op)) (operand_utf8 weak (expr_text names texts x) (expr_utf8 names texts x ok))
expr_utf8 names texts (Binary op x y) ok =
    let a = operand_utf8 (nat_lt (strength_of x) (left_needs op)) (expr_text names texts x) (expr_utf8 names texts x ok.0) in
    let b = operand_utf8 (nat_lt (strength_of y) (right_needs op)) (expr_text names texts y) (expr_utf8 names texts y ok.1) in
    let sign = IsUtf8-append (codes " " ++ spelling (binary_mark op)) (codes " ") (IsUtf8-append (codes " ") (spelling (binary_mark op)) space_utf8 (mark_utf8 (binary_mark op))) space_utf8 in
    IsUtf8-append (operand_text (left_needs op) (strength_of x) (expr_text names texts x) ++ (codes " " ++ spelling (binary_mark op) ++ codes " ")) (operand_text (right_needs op) (strength_of y) (expr_text names texts y)) (IsUtf8-append (operand_text (left_needs op) (strength_of x) (expr_text names texts x)) (codes " " ++ spelling (binary_mark op) ++ codes " ") a sign) b

-- ---- its symbols have numbers

abbrev pub HasKind : List (List ℕ) → List (List ℕ) → Symbol → Type 0
HasKind names texts s = (k : Kind) × Spells names texts k s

abbrev pub HaveKinds : List (List ℕ) → List (List ℕ) → List Symbol → Type 0
HaveKinds names texts ss = AllByRecursion (HasKind names texts) ss

constant_kinds : (names texts : List (List ℕ)) (v : Value) → IsLiteral names texts v → HaveKinds names texts (constant_symbols texts v)
constant_kinds names texts (value.Int z) ok = subst (λ (y : ℤ). HaveKinds names texts (number (unsigned_abs y) ∷ [])) (sym ok.1) ((kind.Number (pos ok.0), refl), tt)
constant_kinds names texts (value.Bool b) ok = ((kind.Word ok.0, ok.1), tt)
constant_kinds names texts (value.Text t) ok = subst (λ (o : Option (List ℕ)). HaveKinds names texts (text_symbols o)) (sym ok.1) ((kind.Text t, ok.1), tt)
constant_kinds names texts (value.Part s r) ok = absurd ok

operand_kinds : (names texts : List (List ℕ)) (b : Bool) (ss : List Symbol) → HaveKinds names texts ss → HaveKinds names texts (enclosed_symbols b ss)
operand_kinds names texts true ss h = ((kind.Mark OpenParen, refl), each_append (HasKind names texts) ss (mark CloseParen ∷ []) h ((kind.Mark CloseParen, refl), tt))
operand_kinds names texts false ss h = h

pub expr_kinds : (names texts : List (List ℕ)) (x : Term) → IsSource names texts x → HaveKinds names texts (expr_symbols names texts x)
expr_kinds names texts (Constant v) ok = constant_kinds names texts v ok
expr_kinds names texts (Variable x) ok = subst (λ (w : List ℕ). HaveKinds names texts (word w ∷ [])) (sym (name_of names x ok.0 ok.1)) ((kind.Word x, ok.1), tt)
expr_kinds names texts (Unary op x) ok = ((kind.Mark (unary_mark op), refl), operand_kinds names texts (nat_lt (strength_of x) 6) (expr_symbols names texts x) (expr_kinds names texts x ok))
expr_kinds names texts (Binary op x y) ok =
    each_append (HasKind names texts) (operand_symbols (left_needs op) (strength_of x) (expr_symbols names texts x)) (mark (binary_mark op) ∷ operand_symbols (right_needs op) (strength_of y) (expr_symbols names texts y))
    (operand_kinds names texts (nat_lt (strength_of x) (left_needs op)) (expr_symbols names texts x) (expr_kinds names texts x ok.0))
    ((kind.Mark (binary_mark op), refl), operand_kinds names texts (nat_lt (strength_of y) (right_needs op)) (expr_symbols names texts y) (expr_kinds names texts y ok.1))

pub numbered : (names texts : List (List ℕ)) (ls : List Lexeme) → HaveKinds names texts (map (λ l. l.symbol) ls) → (ts : List Token) × AreSpelled names texts ts ls
numbered names texts [] h = ([], tt)
numbered names texts (l ∷ ls) h = let others = numbered names texts ls h.1 in (record { kind = h.0.0; place = l.place } ∷ others.0, ((h.0.1, refl), others.1))

-- ---- the tokens of the text

pub reads_back : (names texts : List (List ℕ)) (x : Term) → AllDistinct names → AllDistinct texts → IsSource names texts x → ReadsBack names texts x
reads_back names texts x d e ok =
    let c = expr_cuts names texts x ok [] closed_none start in
    let end : Lexeme = record { symbol = last; place = c.next } in
    let cut : IsCut (expr_text names texts x) start c.lexemes [] c.next = subst (λ bs. IsCut bs start c.lexemes [] c.next) (append-nil (expr_text names texts x)) c.cut in
    let has : IsTokens (expr_text names texts x) (c.lexemes ++ end ∷ []) = record { utf8 = expr_utf8 names texts x ok; front = c.lexemes; next = c.next; cut = cut; whole = refl } in
    let found = numbered names texts c.lexemes (subst (HaveKinds names texts) (sym c.are) (expr_kinds names texts x ok)) in
    let end_token : Token = record { kind = kind.Last; place = c.next } in
    let spelled : AreSpelled names texts (found.0 ++ end_token ∷ []) (c.lexemes ++ end ∷ []) = spelled_push names texts found.0 c.lexemes end_token end found.1 tt refl in
    record {
      lexemes = c.lexemes ++ end ∷ [];
      tokens = found.0 ++ end_token ∷ [];
      has = has;
      spelled = spelled;
      is = text_reads_back names texts x (c.lexemes ++ end ∷ []) (found.0 ++ end_token ∷ []) d e ok has spelled;
    }
