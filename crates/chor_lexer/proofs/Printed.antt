-- The canonical text of an expression is cut into the tokens that it spells.
use Rattle.std.proofs.Common.{◌≡◌, ◌≢◌, ◌<◌, ◌≤◌, ◌^◌, ◌==◌, ◌||◌, ◌&&◌, not, ℕ, ℤ, Bool, true, false, List, [], ◌∷◌, ◌++◌, length, Option, refl, sym, ap, ◌∙◌, subst, arith, append_assoc, length-append, nat_lt, codes, rules}
use Rattle.std.specs.Prelude.{if◌then◌else◌}
use Rattle.std.specs.Char.{is_ascii_digit}
use Rattle.std.specs.Fmt.{decimal, signed_decimal}
use Rattle.std.specs.Str.Parse.{digits_value}
use Rattle.std.proofs.lemmas.Bool.Decides.{nat_tests, Decides-eqb}
use Rattle.std.proofs.lemmas.Fmt.{decimal_nonempty, digits_decimal, digits_value-decimal}
use Rattle.std.proofs.lemmas.Str.Parse.{IsNumeralModel, numerals_by_value}
use Rattle.chor_base.specs.declared.value.Value.{Value}
use Rattle.chor_base.specs.declared.value.Value.TheVariants as value
use Rattle.chor_base.specs.declared.expr.UnOp.TheVariants as unop
use Rattle.chor_base.specs.declared.expr.BinOp.{BinOp}
use Rattle.chor_base.specs.declared.expr.BinOp.TheVariants as binop
use Rattle.chor_base.specs.Expr.{Term, Constant, Variable, Unary, Binary}
use Rattle.chor_base.specs.Writing.{name_in, truth_text, escaped_byte, literal, literal_in}
use Rattle.chor_base.specs.Writing as writing
use Rattle.chor_lexer.specs.declared.mark.Mark.{Mark}
use Rattle.chor_lexer.specs.declared.mark.Mark.TheVariants.{OpenParen, CloseParen, Becomes, Arrow, Plus, Minus, Star, Slash, Equal, NotEqual, Less, LessEqual, And, Or}
use Rattle.chor_lexer.specs.Mark.{spelling}
use Rattle.chor_lexer.specs.Text.{is_plain, IsTextOf, nothing, plain, escape}
use Rattle.chor_lexer.specs.Lexeme.{Symbol, word, number, text, mark, is_letter, is_word_byte, IsLexeme, is_word, is_number, is_text, is_mark, IsLongest}
use Rattle.chor_lexer.specs.Cut.{IsNext}
use Rattle.chor_lexer.specs.Scan.{Begins}
use Rattle.chor_lexer.specs.Canonical.{binary_mark, strength_of, left_needs, right_needs, enclosed, operand_text, constant_text, expr_text}
use Rattle.chor_lexer.specs.Spelling.{IsLiteral, IsSource}
use Rattle.chor_lexer.proofs.Texts.{heads, tails}
use Rattle.chor_lexer.proofs.Runs.{Passes}
use Rattle.chor_lexer.proofs.Fronts.{IsMark, single, double, mark_is, lexeme_long, lexeme_class, symbol_class}
use Rattle.chor_lexer.proofs.Pieces.{word_passes, digit_passes, text_longest, IsOther, mark_longest, other_no_blank, mark_few}
use Rattle.chor_lexer.proofs.Cuts.{lexeme_no_blank}
use Rattle.chor_lexer.proofs.Spelling.{name_of}

-- ---- where a token ends

-- what follows begins with no byte of a word
abbrev pub Closed : List ℕ → Type 0
Closed bs = (b : ℕ) (r : List ℕ) → bs ≡ b ∷ r → is_word_byte b ≡ false

pub closed_none : Closed []
closed_none b r e = absurd cc

pub closed_by : (c : ℕ) (bs : List ℕ) → is_word_byte c ≡ false → Closed (c ∷ bs)
closed_by c bs h b r e = subst (λ k. is_word_byte k ≡ false) (heads c b bs r e) h

pub closed_space : (bs : List ℕ) → Closed (32 ∷ bs)
closed_space bs = closed_by 32 bs refl

pub closed_paren : (bs : List ℕ) → Closed (41 ∷ bs)
closed_paren bs = closed_by 41 bs refl

digit_is_word_byte : (b : ℕ) → is_ascii_digit b ≡ true → is_word_byte b ≡ true
digit_is_word_byte b e = grind (arith, nat_tests)

no_digit : (b : ℕ) → is_word_byte b ≡ false → is_ascii_digit b ≡ false
no_digit b h = go (is_ascii_digit b) refl
  where
    go : (d : Bool) → is_ascii_digit b ≡ d → is_ascii_digit b ≡ false
    go true e = let yes = digit_is_word_byte b e in absurd cc
    go false e = e

-- bytes that pass a test end where the test fails
bounded : (p : ℕ → Bool) (w mid v u : List ℕ) → w ++ mid ≡ v ++ u → Passes p v → ((b : ℕ) (r : List ℕ) → mid ≡ b ∷ r → p b ≡ false) → length v ≤ length w
bounded p w mid [] u q h ends = omega arith
bounded p [] mid (y ∷ v) u q h ends = let no = ends y (v ++ u) q in let yes = h.0 in absurd cc
bounded p (x ∷ w) mid (y ∷ v) u q h ends = let t : w ++ mid ≡ v ++ u = cc in let n = bounded p w mid v u t h.1 ends in omega arith

same_class : (s t : Symbol) (w v mid u : List ℕ) → IsLexeme s w → IsLexeme t v → w ++ mid ≡ v ++ u → symbol_class s ≡ symbol_class t
same_class s t [] v mid u l k q = let one = lexeme_long s [] l in absurd (omega arith)
same_class s t (b ∷ w) v mid u l k q = sym (lexeme_class s (b ∷ w) b (w ++ mid) mid l refl) ∙ lexeme_class t v b (w ++ mid) u k (sym q)

-- ---- words, numbers and texts

pub word_next : (w mid : List ℕ) → IsLexeme (word w) w → length w ≤ 64 → Closed mid → IsNext (word w) w mid (w ++ mid)
word_next w mid l few c = record {
  no_blank = lexeme_no_blank (word w) w mid (w ++ mid) l refl (omega arith);
  longest = record {
    parts = refl;
    is = l;
    longest = λ t v u q k. bounded is_word_byte w mid v u q (word_passes t v k (same_class (word w) t w v mid u l k q)) c;
  };
  within = few;
}

numeral : IsNumeralModel (λ ds. Passes is_ascii_digit ds) (digits_value 10)
numeral = numerals_by_value _ (search rules)

digits_lexeme : (ds : List ℕ) → 0 < length ds → Passes is_ascii_digit ds → IsLexeme (number (digits_value 10 ds)) ds
digits_lexeme [] n h = absurd (omega arith)
digits_lexeme (d ∷ ds) n h = is_number h.0 h.1

decimal_lexeme : (n : ℕ) → n < 2 ^ 63 → IsLexeme (number n) (decimal n)
decimal_lexeme n h =
    let small : n < 2 ^ 64 = omega arith in
    subst (λ (m : ℕ). IsLexeme (number m) (decimal n)) (digits_value-decimal numeral n small) (digits_lexeme (decimal n) (decimal_nonempty n small) (digits_decimal numeral n small))

pub number_next : (n : ℕ) (mid : List ℕ) → n < 2 ^ 63 → Closed mid → IsNext (number n) (decimal n) mid (decimal n ++ mid)
number_next n mid h c =
    let l = decimal_lexeme n h in
    record {
      no_blank = lexeme_no_blank (number n) (decimal n) mid (decimal n ++ mid) l refl (omega arith);
      longest = record {
        parts = refl;
        is = l;
        longest = λ t v u q k. bounded is_ascii_digit (decimal n) mid v u q (digit_passes t v k (same_class (number n) t (decimal n) v mid u l k q)) (λ b r e. no_digit b (c b r e));
      };
      within = h;
    }

-- the escapes of a byte mean the byte
byte_is : (b : ℕ) (written t : List ℕ) → IsTextOf written t → IsTextOf (escaped_byte b ++ written) (b ∷ t)
byte_is b written t h = first (b == 34) refl
  where
    at : (k : ℕ) → (b == k) ≡ true → IsTextOf (escaped_byte k ++ written) (k ∷ t) → IsTextOf (escaped_byte b ++ written) (b ∷ t)
    at k e m = subst (λ c. IsTextOf (escaped_byte c ++ written) (c ∷ t)) (sym ((Decides-eqb b k).0 e)) m

    third : (c : Bool) → (b == 10) ≡ c → (b == 34) ≡ false → (b == 92) ≡ false → IsTextOf (escaped_byte b ++ written) (b ∷ t)
    third true e f g = at 10 e (escape refl h)
    third false e f g =
        let same : escaped_byte b ≡ b ∷ [] = λ i. if f i then 92 ∷ 34 ∷ [] else (if g i then 92 ∷ 92 ∷ [] else (if e i then 92 ∷ 110 ∷ [] else b ∷ [])) in
        let is : is_plain b ≡ true = λ i. not (f i || g i || e i) in
        subst (λ k. IsTextOf (k ++ written) (b ∷ t)) (sym same) (plain is h)

    second : (c : Bool) → (b == 92) ≡ c → (b == 34) ≡ false → IsTextOf (escaped_byte b ++ written) (b ∷ t)
    second true e f = at 92 e (escape refl h)
    second false e f = third (b == 10) refl f e

    first : (c : Bool) → (b == 34) ≡ c → IsTextOf (escaped_byte b ++ written) (b ∷ t)
    first true e = at 34 e (escape refl h)
    first false e = second (b == 92) refl e

pub escaped_is : (t : List ℕ) → IsTextOf (writing.escaped t) t
escaped_is [] = nothing
escaped_is (b ∷ t) = byte_is b (writing.escaped t) t (escaped_is t)

pub text_next : (t mid : List ℕ) → length (writing.escaped t) ≤ 256 → IsNext (text t) (34 ∷ writing.escaped t ++ 34 ∷ []) mid ((34 ∷ writing.escaped t ++ 34 ∷ []) ++ mid)
text_next t mid few =
    let long = text_longest ((34 ∷ writing.escaped t ++ 34 ∷ []) ++ mid) (writing.escaped t) mid t (ap (λ (l : List ℕ). 34 ∷ l) (append_assoc (writing.escaped t) (34 ∷ []) mid)) (escaped_is t) in
    record {
      no_blank = lexeme_no_blank (text t) (34 ∷ writing.escaped t ++ 34 ∷ []) mid _ long.is refl (omega arith);
      longest = long;
      within = omega (arith, length-append (writing.escaped t) (34 ∷ []));
    }

-- ---- marks

-- two bytes that are a mark
abbrev pub is_pair : ℕ → ℕ → Bool
is_pair b c = (b == 58 && c == 61) || (b == 45 && c == 62) || (b == 61 && c == 61) || (b == 33 && c == 61) || (b == 60 && c == 61) || (b == 38 && c == 38) || (b == 124 && c == 124)

there : (b c d e : ℕ) → d ∷ e ∷ [] ≡ b ∷ c ∷ [] → is_pair d e ≡ true → is_pair b c ≡ true
there b c d e q h = let x : d ≡ b = cc in let y : e ≡ c = cc in (λ i. is_pair (sym x i) (sym y i)) ∙ h

pair_is : (j : Mark) (b c : ℕ) → spelling j ≡ b ∷ c ∷ [] → is_pair b c ≡ true
pair_is Becomes b c q = there b c _ _ q refl
pair_is Arrow b c q = there b c _ _ q refl
pair_is Equal b c q = there b c _ _ q refl
pair_is NotEqual b c q = there b c _ _ q refl
pair_is LessEqual b c q = there b c _ _ q refl
pair_is And b c q = there b c _ _ q refl
pair_is Or b c q = there b c _ _ q refl
pair_is _ b c q = absurd cc

-- a byte that is no mark with the next one
few : (b : ℕ) (mid : List ℕ) → ((c : ℕ) (r : List ℕ) → mid ≡ c ∷ r → is_pair b c ≡ false) → (j : Mark) (u : List ℕ) → b ∷ mid ≡ spelling j ++ u → length (spelling j) ≤ 1
few b mid none j u q = go (spelling j) refl (mark_is j) q
  where
    go : (w : List ℕ) → spelling j ≡ w → IsMark w → b ∷ mid ≡ w ++ u → length w ≤ 1
    go w e (single x h) p = omega arith
    go w e (double x y h) p =
        let same : b ≡ x = cc in
        let next : mid ≡ y ∷ u = cc in
        let no : is_pair b y ≡ false = none y u next in
        let yes : is_pair b y ≡ true = subst (λ k. is_pair k y ≡ true) (sym same) (pair_is j x y e) in
        absurd cc

pub single_next : (m : Mark) (b : ℕ) (mid : List ℕ) → spelling m ≡ b ∷ [] → IsOther b → ((rest : List ℕ) → b ∷ mid ≢ 47 ∷ 47 ∷ rest) → ((c : ℕ) (r : List ℕ) → mid ≡ c ∷ r → is_pair b c ≡ false) → IsNext (mark m) (b ∷ []) mid (b ∷ mid)
single_next m b mid e other slashes none =
    let begins : Begins (b ∷ mid) IsOther = record { first = b; rest = mid; parts = refl; holds = other } in
    let long = mark_longest (b ∷ mid) mid m begins (ap (λ (l : List ℕ). l ++ mid) (sym e)) (λ j u q. let n = few b mid none j u q in omega (arith, ap length e)) in
    record {
      no_blank = other_no_blank (b ∷ mid) begins slashes;
      longest = subst (λ w. IsLongest (mark m) w mid (b ∷ mid)) e long;
      within = tt;
    }

pub double_next : (m : Mark) (b c : ℕ) (mid : List ℕ) → spelling m ≡ b ∷ c ∷ [] → IsOther b → ((rest : List ℕ) → b ∷ c ∷ mid ≢ 47 ∷ 47 ∷ rest) → IsNext (mark m) (b ∷ c ∷ []) mid (b ∷ c ∷ mid)
double_next m b c mid e other slashes =
    let begins : Begins (b ∷ c ∷ mid) IsOther = record { first = b; rest = c ∷ mid; parts = refl; holds = other } in
    let long = mark_longest (b ∷ c ∷ mid) mid m begins (ap (λ (l : List ℕ). l ++ mid) (sym e)) (λ j u q. let n = mark_few (spelling j) (mark_is j) in omega (arith, ap length e)) in
    record {
      no_blank = other_no_blank (b ∷ c ∷ mid) begins slashes;
      longest = subst (λ w. IsLongest (mark m) w mid (b ∷ c ∷ mid)) e long;
      within = tt;
    }

-- no two slashes
pub unslashed : (b : ℕ) (mid rest : List ℕ) → (b ≡ 47 → ⊥) → b ∷ mid ≡ 47 ∷ rest → ⊥
unslashed b mid rest n e = n (heads b 47 mid rest e)

twice : (b : ℕ) (mid rest : List ℕ) → 47 ∷ b ∷ mid ≡ 47 ∷ 47 ∷ rest → b ∷ mid ≡ 47 ∷ rest
twice b mid rest e = tails 47 47 (b ∷ mid) (47 ∷ rest) e

pub open_next : (mid : List ℕ) → IsNext (mark OpenParen) (40 ∷ []) mid (40 ∷ mid)
open_next mid = single_next OpenParen 40 mid refl (refl, refl, refl, λ e. omega arith) (λ rest e. unslashed 40 mid (47 ∷ rest) (λ q. omega arith) e) (λ c r e. refl)

pub close_next : (mid : List ℕ) → IsNext (mark CloseParen) (41 ∷ []) mid (41 ∷ mid)
close_next mid = single_next CloseParen 41 mid refl (refl, refl, refl, λ e. omega arith) (λ rest e. unslashed 41 mid (47 ∷ rest) (λ q. omega arith) e) (λ c r e. refl)

spaced : (b : ℕ) (mid : List ℕ) → is_pair b 32 ≡ false → (c : ℕ) (r : List ℕ) → 32 ∷ mid ≡ c ∷ r → is_pair b c ≡ false
spaced b mid h c r e = let same : 32 ≡ c = cc in subst (λ k. is_pair b k ≡ false) same h

-- before a space
pub operator_next : (op : BinOp) (mid : List ℕ) → IsNext (mark (binary_mark op)) (spelling (binary_mark op)) (32 ∷ mid) (spelling (binary_mark op) ++ 32 ∷ mid)
operator_next binop.Add mid = single_next Plus 43 (32 ∷ mid) refl (refl, refl, refl, λ e. omega arith) (λ rest e. unslashed 43 _ (47 ∷ rest) (λ q. omega arith) e) (spaced 43 mid refl)
operator_next binop.Sub mid = single_next Minus 45 (32 ∷ mid) refl (refl, refl, refl, λ e. omega arith) (λ rest e. unslashed 45 _ (47 ∷ rest) (λ q. omega arith) e) (spaced 45 mid refl)
operator_next binop.Mul mid = single_next Star 42 (32 ∷ mid) refl (refl, refl, refl, λ e. omega arith) (λ rest e. unslashed 42 _ (47 ∷ rest) (λ q. omega arith) e) (spaced 42 mid refl)
operator_next binop.Div mid = single_next Slash 47 (32 ∷ mid) refl (refl, refl, refl, λ e. omega arith) (λ rest e. unslashed 32 mid rest (λ q. omega arith) (twice 32 mid rest e)) (spaced 47 mid refl)
operator_next binop.Lt mid = single_next Less 60 (32 ∷ mid) refl (refl, refl, refl, λ e. omega arith) (λ rest e. unslashed 60 _ (47 ∷ rest) (λ q. omega arith) e) (spaced 60 mid refl)
operator_next binop.Le mid = double_next LessEqual 60 61 (32 ∷ mid) refl (refl, refl, refl, λ e. omega arith) (λ rest e. unslashed 60 _ (47 ∷ rest) (λ q. omega arith) e)
operator_next binop.Eq mid = double_next Equal 61 61 (32 ∷ mid) refl (refl, refl, refl, λ e. omega arith) (λ rest e. unslashed 61 _ (47 ∷ rest) (λ q. omega arith) e)
operator_next binop.Ne mid = double_next NotEqual 33 61 (32 ∷ mid) refl (refl, refl, refl, λ e. omega arith) (λ rest e. unslashed 33 _ (47 ∷ rest) (λ q. omega arith) e)
operator_next binop.And mid = double_next And 38 38 (32 ∷ mid) refl (refl, refl, refl, λ e. omega arith) (λ rest e. unslashed 38 _ (47 ∷ rest) (λ q. omega arith) e)
operator_next binop.Or mid = double_next Or 124 124 (32 ∷ mid) refl (refl, refl, refl, λ e. omega arith) (λ rest e. unslashed 124 _ (47 ∷ rest) (λ q. omega arith) e)

-- ---- how the text of an expression begins

pub record Starts (bs : List ℕ) : Type 0 where
  pub byte : ℕ
  pub rest : List ℕ
  pub parts : bs ≡ byte ∷ rest
  pub no_equal : byte ≢ 61
  pub no_greater : byte ≢ 62

pub starts_on : (bs more : List ℕ) → Starts bs → Starts (bs ++ more)
starts_on bs more s = record { byte = s.byte; rest = s.rest ++ more; parts = ap (λ (l : List ℕ). l ++ more) s.parts; no_equal = s.no_equal; no_greater = s.no_greater }

starts_by : (p : ℕ → Bool) (c : ℕ) (cs : List ℕ) → p c ≡ true → p 61 ≡ false → p 62 ≡ false → Starts (c ∷ cs)
starts_by p c cs h e g = record {
  byte = c;
  rest = cs;
  parts = refl;
  no_equal = λ q. let no : p c ≡ false = subst (λ k. p k ≡ false) (sym q) e in absurd cc;
  no_greater = λ q. let no : p c ≡ false = subst (λ k. p k ≡ false) (sym q) g in absurd cc;
}

word_starts : (s : Symbol) (w : List ℕ) → IsLexeme s w → 0 ≡ symbol_class s → Starts w
word_starts s w (is_word {c = c} {cs = cs} h k) e = starts_by is_letter c cs h refl refl
word_starts s w (is_number h k) e = absurd (omega arith)
word_starts s w (is_text h k) e = absurd (omega arith)
word_starts s w (is_mark h) e = absurd (omega arith)

digits_start : (ds : List ℕ) → 0 < length ds → Passes is_ascii_digit ds → Starts ds
digits_start [] n h = absurd (omega arith)
digits_start (d ∷ ds) n h = starts_by is_ascii_digit d ds h.0 refl refl

literal_byte : (b : ℕ) (bs : List ℕ) → b < 61 → Starts (b ∷ bs)
literal_byte b bs h = record { byte = b; rest = bs; parts = refl; no_equal = λ q. omega arith; no_greater = λ q. omega arith }

constant_starts : (names texts : List (List ℕ)) (v : Value) → IsLiteral names texts v → Starts (constant_text texts v)
constant_starts names texts (value.Int z) ok =
    let small : ok.0 < 2 ^ 64 = let h = ok.2 in omega arith in
    subst (λ (y : ℤ). Starts (signed_decimal y)) (sym ok.1) (digits_start (decimal ok.0) (decimal_nonempty ok.0 small) (digits_decimal numeral ok.0 small))
constant_starts names texts (value.Bool true) ok = starts_by is_letter 116 (114 ∷ 117 ∷ 101 ∷ []) refl refl refl
constant_starts names texts (value.Bool false) ok = starts_by is_letter 102 (97 ∷ 108 ∷ 115 ∷ 101 ∷ []) refl refl refl
constant_starts names texts (value.Text t) ok = subst (λ (o : Option (List ℕ)). Starts (literal o)) (sym ok.1) (literal_byte 34 (writing.escaped ok.0 ++ 34 ∷ []) (omega arith))
constant_starts names texts (value.Part s r) ok = absurd ok

pub operand_starts : (b : Bool) (bs : List ℕ) → Starts bs → Starts (enclosed b bs)
operand_starts true bs s = literal_byte 40 (bs ++ 41 ∷ []) (omega arith)
operand_starts false bs s = s

pub expr_starts : (names texts : List (List ℕ)) (x : Term) → IsSource names texts x → Starts (expr_text names texts x)
expr_starts names texts (Constant v) ok = constant_starts names texts v ok
expr_starts names texts (Variable x) ok = subst Starts (sym (name_of names x ok.0 ok.1)) (word_starts (word ok.0) ok.0 ok.3 refl)
expr_starts names texts (Unary unop.Neg x) ok = literal_byte 45 _ (omega arith)
expr_starts names texts (Unary unop.Not x) ok = literal_byte 33 _ (omega arith)
expr_starts names texts (Binary op x y) ok =
    let o = operand_starts (nat_lt (strength_of x) (left_needs op)) (expr_text names texts x) (expr_starts names texts x ok.0) in
    starts_on _ (operand_text (right_needs op) (strength_of y) (expr_text names texts y)) (starts_on _ (codes " " ++ spelling (binary_mark op) ++ codes " ") o)
