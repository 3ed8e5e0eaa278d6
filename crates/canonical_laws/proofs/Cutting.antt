-- Texts that are cut into the tokens of symbols, put together from smaller ones.
use Rattle.std.proofs.Common.{◌≡◌, ◌≢◌, ◌<◌, ◌≤◌, ◌&&◌, ℕ, zero, suc, Bool, true, false, List, [], ◌∷◌, ◌++◌, length, map, refl, sym, ap, ◌∙◌, subst, arith, append_assoc, codes}
use Rattle.std.specs.Prelude.{nat_lt, slice_get, Some}
use Rattle.std.specs.List.{flat_map, list_all, AllByRecursion}
use Rattle.std.specs.Str.{IsUtf8}
use Rattle.std.proofs.lemmas.Str.{IsUtf8-nil, IsUtf8-append, IsUtf8-from_ascii}
use Rattle.std.proofs.lemmas.Str.Ascii.{IsAscii-nil, IsAscii-cons}
use Rattle.std.proofs.lemmas.List.{map-append}
use Rattle.std.proofs.lemmas.Bool.{and_parts, ltb-true}
use Rattle.chor_base.specs.declared.rule.Place.{Place}
use Rattle.chor_lexer.specs.declared.mark.Mark.{Mark}
use Rattle.chor_lexer.specs.declared.mark.Mark.TheVariants.{OpenBrace, CloseBrace, OpenParen, CloseParen, OpenBracket, CloseBracket, Comma, Semicolon, Colon, Dot, Assign, Becomes, Arrow, Bar, At}
use Rattle.chor_lexer.specs.Mark.{spelling}
use Rattle.chor_lexer.specs.Lexeme.{Symbol, Lexeme, word, mark, last, is_letter, is_word_byte, IsLexeme, is_word}
use Rattle.chor_lexer.specs.Canonical.{expr_text}
use Rattle.chor_lexer.specs.Cut.{place_after, is_space, IsNext, IsCut, here, blank, token}
use Rattle.chor_lexer.specs.Cut as lex
use Rattle.chor_lexer.specs.Spelling.{IsSource, expr_symbols}
use Rattle.chor_lexer.proofs.Cuts.{cut_on}
use Rattle.chor_lexer.proofs.Pieces.{IsOther}
use Rattle.chor_lexer.proofs.Texts.{heads}
use Rattle.chor_lexer.proofs.Printed.{Closed, closed_by, word_next, single_next, double_next, is_pair}
use Rattle.chor_lexer.proofs.PrintedCuts.{Cuts, expr_cuts}
use Rattle.chor_lexer.proofs.ReadBack.{word_utf8, mark_utf8, expr_utf8}
use Rattle.chor_print.specs.Parts.{indentation, line_at, after_commas}
use Rattle.chor_print.specs.Pieces as text
use Rattle.chor_base.specs.Expr.{Term}
use Rattle.canonical_laws.specs.Symbols.{each, listed, listed_after, term_symbols}
use Rattle.canonical_laws.specs.Symbols as symbols

-- each name of the table is a word that isn't too long
abbrev pub AreWords : List (List ℕ) → Type 0
AreWords names = (i : ℕ) (w : List ℕ) → slice_get names i ≡ Some w → IsLexeme (word w) w × (length w ≤ 64)

-- all bytes, the first of which stands at p, are cut into tokens of these symbols, and then the end
pub record Ends (bs : List ℕ) (p : Place) (ss : List Symbol) : Type 0 where
  pub lexemes : List Lexeme
  pub next : Place
  pub cut : IsCut bs p lexemes [] next
  pub are : map (λ l. l.symbol) lexemes ++ last ∷ [] ≡ ss

-- wherever they stand, and they are UTF-8
pub record Whole (bs : List ℕ) (ss : List Symbol) : Type 0 where
  pub utf8 : IsUtf8 bs
  pub cut : (p : Place) → Ends bs p ss

pub whole_none : Whole [] (last ∷ [])
whole_none = record { utf8 = IsUtf8-nil; cut = λ p. record { lexemes = []; next = p; cut = here; are = refl } }

low_utf8 : (b : ℕ) → b < 128 → IsUtf8 (b ∷ [])
low_utf8 b h = IsUtf8-from_ascii (b ∷ []) (IsAscii-cons b [] h IsAscii-nil)

-- a text that is cut so whatever follows; and one that is cut so where no byte of a word follows
pub record Free (t : List ℕ) (f : List Symbol → List Symbol) : Type 0 where
  pub cuts : (bs : List ℕ) (ss : List Symbol) → Whole bs ss → Whole (t ++ bs) (f ss)

pub record Bound (t : List ℕ) (f : List Symbol → List Symbol) : Type 0 where
  pub cuts : (bs : List ℕ) (ss : List Symbol) → Closed bs → Whole bs ss → Whole (t ++ bs) (f ss)

-- a text that begins with no byte of a word, or is empty
pub record Opens (t : List ℕ) : Type 0 where
  pub on : (bs : List ℕ) → Closed bs → Closed (t ++ bs)

pub opens_by : {c : ℕ} {cs : List ℕ} → is_word_byte c ≡ false → Opens (c ∷ cs)
opens_by {c} {cs} h = record { on = λ bs k. closed_by c (cs ++ bs) h }

pub opens_none : Opens []
opens_none = record { on = λ bs k. k }

pub opens_both : {t u : List ℕ} → Opens t → Opens u → Opens (t ++ u)
opens_both {t} {u} h k = record { on = λ bs l. subst Closed (sym (append_assoc t u bs)) (h.on (u ++ bs) (k.on bs l)) }

-- ---- one after the other

whole_both : (t u bs : List ℕ) {ss : List Symbol} → Whole (t ++ (u ++ bs)) ss → Whole ((t ++ u) ++ bs) ss
whole_both t u bs {ss} h = subst (λ l. Whole l ss) (sym (append_assoc t u bs)) h

pub free_free : {t u : List ℕ} {f g : List Symbol → List Symbol} → Free t f → Free u g → Free (t ++ u) (λ ss. f (g ss))
free_free {t} {u} {f} {g} h k = record { cuts = λ bs ss w. whole_both t u bs (h.cuts (u ++ bs) (g ss) (k.cuts bs ss w)) }

pub free_bound : {t u : List ℕ} {f g : List Symbol → List Symbol} → Free t f → Bound u g → Bound (t ++ u) (λ ss. f (g ss))
free_bound {t} {u} {f} {g} h k = record { cuts = λ bs ss c w. whole_both t u bs (h.cuts (u ++ bs) (g ss) (k.cuts bs ss c w)) }

pub bound_bound : {t u : List ℕ} {f g : List Symbol → List Symbol} → Bound t f → Bound u g → Opens u → Bound (t ++ u) (λ ss. f (g ss))
bound_bound {t} {u} {f} {g} h k o = record { cuts = λ bs ss c w. whole_both t u bs (h.cuts (u ++ bs) (g ss) (o.on bs c) (k.cuts bs ss c w)) }

-- where the second begins with no byte of a word
pub bound_free : {t : List ℕ} {b : ℕ} {u : List ℕ} {f g : List Symbol → List Symbol} → Bound t f → Free (b ∷ u) g → is_word_byte b ≡ false → Free (t ++ b ∷ u) (λ ss. f (g ss))
bound_free {t} {b} {u} {f} {g} h k o = record { cuts = λ bs ss w. whole_both t (b ∷ u) bs (h.cuts (b ∷ u ++ bs) (g ss) (closed_by b (u ++ bs) o) (k.cuts bs ss w)) }

pub bound_of : {t : List ℕ} {f : List Symbol → List Symbol} → Free t f → Bound t f
bound_of h = record { cuts = λ bs ss c w. h.cuts bs ss w }

pub free_none : Free [] (λ ss. ss)
free_none = record { cuts = λ bs ss w. w }

-- ---- single tokens, spaces and line feeds

one_token : {s : Symbol} {w mid : List ℕ} {ss : List Symbol} → IsUtf8 w → IsNext s w mid (w ++ mid) → Whole mid ss → Whole (w ++ mid) (s ∷ ss)
one_token {s} {w} {mid} {ss} u n h = record { utf8 = IsUtf8-append w mid u h.utf8; cut = at }
  where
    at : (p : Place) → Ends (w ++ mid) p (s ∷ ss)
    at p = let c = h.cut (place_after p w) in record { lexemes = record { symbol = s; place = p } ∷ c.lexemes; next = c.next; cut = token n c.cut; are = ap (λ (l : List Symbol). s ∷ l) c.are }

blank_at : {b : ℕ} {bs : List ℕ} {ss : List Symbol} → b < 128 → is_space b ≡ true → Whole bs ss → Whole (b ∷ bs) ss
blank_at {b} {bs} {ss} low is h = record { utf8 = IsUtf8-append (b ∷ []) bs (low_utf8 b low) h.utf8; cut = at }
  where
    at : (p : Place) → Ends (b ∷ bs) p ss
    at p = let c = h.cut (place_after p (b ∷ [])) in record { lexemes = c.lexemes; next = c.next; cut = blank {w = b ∷ []} refl (lex.space is) c.cut; are = c.are }

pub space : Free (32 ∷ []) (λ ss. ss)
space = record { cuts = λ bs ss w. blank_at (omega arith) refl w }

pub line_end : Free (10 ∷ []) (λ ss. ss)
line_end = record { cuts = λ bs ss w. blank_at (omega arith) refl w }

pub term_cut : (names texts : List (List ℕ)) (e : Term) → IsSource names texts e → Bound (expr_text names texts e) (term_symbols names texts e)
term_cut names texts e ok = record { cuts = after }
  where
    ending : (bs : List ℕ) (ss : List Symbol) (p : Place) (c : Cuts (expr_text names texts e ++ bs) p (expr_symbols names texts e) bs) → Ends bs c.next ss → Ends (expr_text names texts e ++ bs) p (expr_symbols names texts e ++ ss)
    ending bs ss p c d = record {
      lexemes = c.lexemes ++ d.lexemes;
      next = d.next;
      cut = cut_on (expr_text names texts e ++ bs) bs [] p c.next d.next c.lexemes d.lexemes c.cut d.cut;
      are = ap (λ (l : List Symbol). l ++ last ∷ []) (map-append (λ (l : Lexeme). l.symbol) c.lexemes d.lexemes)
          ∙ append_assoc (map (λ (l : Lexeme). l.symbol) c.lexemes) (map (λ (l : Lexeme). l.symbol) d.lexemes) (last ∷ [])
          ∙ (λ i. c.are i ++ d.are i);
    }

    after : (bs : List ℕ) (ss : List Symbol) → Closed bs → Whole bs ss → Whole (expr_text names texts e ++ bs) (expr_symbols names texts e ++ ss)
    after bs ss k h = record { utf8 = IsUtf8-append (expr_text names texts e) bs (expr_utf8 names texts e ok) h.utf8; cut = λ p. let c = expr_cuts names texts e ok bs k p in ending bs ss p c (h.cut c.next) }

pub a_word : {w : List ℕ} → IsLexeme (word w) w → length w ≤ 64 → Bound w (λ ss. word w ∷ ss)
a_word {w} l few = record { cuts = λ bs ss c h. one_token (word_utf8 w l) (word_next w bs l few c) h }

-- a letter, and then at most 63 bytes of a word
abbrev is_keyword : List ℕ → Bool
is_keyword [] = false
is_keyword (c ∷ cs) = is_letter c && (list_all is_word_byte cs && nat_lt (length cs) 64)

passes : (cs : List ℕ) → list_all is_word_byte cs ≡ true → AllByRecursion (λ b. is_word_byte b ≡ true) cs
passes [] h = tt
passes (c ∷ cs) h = let both = and_parts _ _ h in (both.0, passes cs both.1)

pub keyword : (w : List ℕ) → is_keyword w ≡ true → Bound w (λ ss. word w ∷ ss)
keyword [] h = absurd cc
keyword (c ∷ cs) h =
    let both = and_parts _ _ h in
    let rest = and_parts _ _ both.1 in
    let few = ltb-true _ _ rest.1 in
    a_word (is_word both.0 (passes cs rest.0)) (omega arith)

no_slashes : (b : ℕ) (mid rest : List ℕ) → (b ≡ 47 → ⊥) → b ∷ mid ≢ 47 ∷ 47 ∷ rest
no_slashes b mid rest n e = n (heads b 47 mid (47 ∷ rest) e)

-- a mark of one byte that no mark of two bytes begins with
lone : (m : Mark) (b : ℕ) → spelling m ≡ b ∷ [] → IsOther b → (b ≡ 47 → ⊥) → ((c : ℕ) → is_pair b c ≡ false) → Free (b ∷ []) (λ ss. mark m ∷ ss)
lone m b e other slash alone = record { cuts = λ bs ss h. one_token {w = b ∷ []} (subst IsUtf8 e (mark_utf8 m)) (single_next m b bs e other (λ rest. no_slashes b bs rest slash) (λ c r q. alone c)) h }

-- a mark of one byte, and a space
lone_spaced : (m : Mark) (b : ℕ) → spelling m ≡ b ∷ [] → IsOther b → (b ≡ 47 → ⊥) → is_pair b 32 ≡ false → Free (b ∷ 32 ∷ []) (λ ss. mark m ∷ ss)
lone_spaced m b e other slash alone =
    record { cuts = λ bs ss h. one_token {w = b ∷ []} (subst IsUtf8 e (mark_utf8 m)) (single_next m b (32 ∷ bs) e other (λ rest. no_slashes b (32 ∷ bs) rest slash) (λ c r q. subst (λ k. is_pair b k ≡ false) (heads 32 c bs r q) alone)) (blank_at (omega arith) refl h) }

-- a mark of two bytes
pair : (m : Mark) (b c : ℕ) → spelling m ≡ b ∷ c ∷ [] → IsOther b → (b ≡ 47 → ⊥) → Free (b ∷ c ∷ []) (λ ss. mark m ∷ ss)
pair m b c e other slash = record { cuts = λ bs ss h. one_token {w = b ∷ c ∷ []} (subst IsUtf8 e (mark_utf8 m)) (double_next m b c bs e other (λ rest. no_slashes b (c ∷ bs) rest slash)) h }

pub open_brace : Free (codes "{") (λ ss. mark OpenBrace ∷ ss)
open_brace = lone OpenBrace 123 refl (refl, refl, refl, λ e. omega arith) (λ e. omega arith) (λ c. refl)

pub close_brace : Free (codes "}") (λ ss. mark CloseBrace ∷ ss)
close_brace = lone CloseBrace 125 refl (refl, refl, refl, λ e. omega arith) (λ e. omega arith) (λ c. refl)

pub open_paren : Free (codes "(") (λ ss. mark OpenParen ∷ ss)
open_paren = lone OpenParen 40 refl (refl, refl, refl, λ e. omega arith) (λ e. omega arith) (λ c. refl)

pub close_paren : Free (codes ")") (λ ss. mark CloseParen ∷ ss)
close_paren = lone CloseParen 41 refl (refl, refl, refl, λ e. omega arith) (λ e. omega arith) (λ c. refl)

pub open_bracket : Free (codes "[") (λ ss. mark OpenBracket ∷ ss)
open_bracket = lone OpenBracket 91 refl (refl, refl, refl, λ e. omega arith) (λ e. omega arith) (λ c. refl)

pub close_bracket : Free (codes "]") (λ ss. mark CloseBracket ∷ ss)
close_bracket = lone CloseBracket 93 refl (refl, refl, refl, λ e. omega arith) (λ e. omega arith) (λ c. refl)

pub comma : Free (codes ",") (λ ss. mark Comma ∷ ss)
comma = lone Comma 44 refl (refl, refl, refl, λ e. omega arith) (λ e. omega arith) (λ c. refl)

pub semicolon : Free (codes ";") (λ ss. mark Semicolon ∷ ss)
semicolon = lone Semicolon 59 refl (refl, refl, refl, λ e. omega arith) (λ e. omega arith) (λ c. refl)

pub dot : Free (codes ".") (λ ss. mark Dot ∷ ss)
dot = lone Dot 46 refl (refl, refl, refl, λ e. omega arith) (λ e. omega arith) (λ c. refl)

pub at_mark : Free (codes "@") (λ ss. mark At ∷ ss)
at_mark = lone At 64 refl (refl, refl, refl, λ e. omega arith) (λ e. omega arith) (λ c. refl)

pub colon : Free (codes ": ") (λ ss. mark Colon ∷ ss)
colon = lone_spaced Colon 58 refl (refl, refl, refl, λ e. omega arith) (λ e. omega arith) refl

pub assign : Free (codes "= ") (λ ss. mark Assign ∷ ss)
assign = lone_spaced Assign 61 refl (refl, refl, refl, λ e. omega arith) (λ e. omega arith) refl

pub bar : Free (codes "| ") (λ ss. mark Bar ∷ ss)
bar = lone_spaced Bar 124 refl (refl, refl, refl, λ e. omega arith) (λ e. omega arith) refl

pub becomes : Free (codes ":=") (λ ss. mark Becomes ∷ ss)
becomes = pair Becomes 58 61 refl (refl, refl, refl, λ e. omega arith) (λ e. omega arith)

pub arrow : Free (codes "->") (λ ss. mark Arrow ∷ ss)
arrow = pair Arrow 45 62 refl (refl, refl, refl, λ e. omega arith) (λ e. omega arith)

-- ---- lists

pub comma_space : Free (codes ", ") (λ ss. mark Comma ∷ ss)
comma_space = free_free comma space

-- each item is cut so
abbrev pub ItemCuts : {A : Type 0} → (A → Type 0) → (A → List ℕ) → (A → List Symbol → List Symbol) → Type 0
ItemCuts {A} P write spell = (x : A) → P x → Bound (write x) (spell x)

more_cut : {A : Type 0} {P : A → Type 0} {write : A → List ℕ} {spell : A → List Symbol → List Symbol} → ItemCuts P write spell
    → (xs : List A) → AllByRecursion P xs → Bound (after_commas write xs) (symbols.after_commas spell xs)
more_cut item [] h = bound_of free_none
more_cut {write = write} {spell = spell} item (x ∷ xs) h = bound_bound (free_bound comma_space (item x h.0)) (more_cut item xs h.1) (opens xs)
  where
    opens : (ys : List _) → Opens (after_commas write ys)
    opens [] = opens_none
    opens (y ∷ ys) = opens_by refl

pub list_cut : {A : Type 0} {P : A → Type 0} {write : A → List ℕ} {spell : A → List Symbol → List Symbol} → ItemCuts P write spell
    → (xs : List A) → AllByRecursion P xs → Bound (text.listed write xs) (listed spell xs)
list_cut item [] h = bound_of free_none
list_cut {write = write} item (x ∷ xs) h = bound_bound (item x h.0) (more_cut item xs h.1) (opens xs)
  where
    opens : (ys : List _) → Opens (after_commas write ys)
    opens [] = opens_none
    opens (y ∷ ys) = opens_by refl

-- items after a word, where there are any
pub list_after_cut : {A : Type 0} {P : A → Type 0} {write : A → List ℕ} {spell : A → List Symbol → List Symbol} → ItemCuts P write spell
    → {w : List ℕ} {s : Symbol} → Free w (λ ss. s ∷ ss) → (xs : List A) → AllByRecursion P xs → Bound (text.listed_after w write xs) (listed_after s spell xs)
list_after_cut item first [] h = bound_of free_none
list_after_cut item first (x ∷ xs) h = free_bound first (list_cut item (x ∷ xs) h)

pub list_after_opens : {A : Type 0} (write : A → List ℕ) (c : ℕ) (cs : List ℕ) → is_word_byte c ≡ false → (xs : List A) → Opens (text.listed_after (c ∷ cs) write xs)
list_after_opens write c cs h [] = opens_none
list_after_opens write c cs h (x ∷ xs) = opens_by h

-- texts that need nothing after them
pub each_cut : {A : Type 0} {P : A → Type 0} {write : A → List ℕ} {spell : A → List Symbol → List Symbol} → ((x : A) → P x → Free (write x) (spell x))
    → (xs : List A) → AllByRecursion P xs → Free (flat_map write xs) (each spell xs)
each_cut item [] h = free_none
each_cut item (x ∷ xs) h = free_free (item x h.0) (each_cut item xs h.1)

-- ---- lines

indent : (depth : ℕ) → Free (indentation depth) (λ ss. ss)
indent zero = free_none
indent (suc depth) = free_free (indent depth) (free_free space space)

pub line_cut : (depth : ℕ) {l : List ℕ} {f : List Symbol → List Symbol} → Bound l f → Free (line_at depth l) f
line_cut depth h = bound_free (free_bound (indent depth) h) line_end refl
