-- Tables that grow, and the tokens that they spell.
use Rattle.std.proofs.Common.{◌≡◌, ◌≤◌, ◌+◌, ◌-◌, ℕ, suc, zero, Bool, true, false, cond, List, [], ◌∷◌, ◌++◌, length, take, drop, Some, refl, sym, ap, ◌∙◌, subst, arith, append_assoc, length-append}
use Rattle.std.proofs.lemmas.List.{append-nil, take_at}
use Rattle.std.specs.Prelude.{slice_get, bytes_eq}
use Rattle.std.specs.List.{AllByRecursion, list_any}
use Rattle.chor_base.specs.Words.{with_word}
use Rattle.chor_base.specs.declared.names.NameId.{NameId}
use Rattle.chor_lexer.specs.declared.scan.Form.{Form}
use Rattle.chor_lexer.specs.declared.scan.Form.TheVariants as form
use Rattle.chor_lexer.specs.declared.token.Kind.{Kind}
use Rattle.chor_lexer.specs.declared.token.Kind.TheVariants as kind
use Rattle.chor_lexer.specs.declared.token.Token.{Token}
use Rattle.chor_lexer.specs.Text.{IsTextOf}
use Rattle.chor_lexer.specs.Lexeme.{Symbol, word, number, text, mark, last, Lexeme, IsLexeme, is_word, is_text}
use Rattle.chor_lexer.specs.Tokens.{Spells, AreSpelled, Grows, with_name, with_text}
use Rattle.chor_lexer.specs.Scan.{HasForm, IsWritten, IsMeant}
use Rattle.chor_lexer.proofs.Each.{each_append}
use Rattle.chor_lexer.proofs.Texts.{tails, text_body, body_same, text_same, fronts_same}

-- ---- growing

pub grows_none : (P : List ℕ → Type 0) (old new : List (List ℕ)) → new ≡ old → Grows P old new
grows_none P old new e = record { more = []; grown = e ∙ sym (append-nil old); each = tt }

pub grows_one : (P : List ℕ → Type 0) (old new : List (List ℕ)) (w : List ℕ) → new ≡ with_word old w → P w → Grows P old new
grows_one P old new w e p = go (list_any (bytes_eq w) old) e
  where
    go : (b : Bool) → new ≡ cond b old (old ++ w ∷ []) → Grows P old new
    go true f = grows_none P old new f
    go false f = record { more = w ∷ []; grown = f; each = (p, tt) }

pub with_word_few : (old new : List (List ℕ)) (w : List ℕ) → new ≡ with_word old w → length new ≤ length old + 1
with_word_few old new w e = go (list_any (bytes_eq w) old) e
  where
    go : (b : Bool) → new ≡ cond b old (old ++ w ∷ []) → length new ≤ length old + 1
    go true f = omega (arith, ap length f)
    go false f = omega (arith, ap length f, length-append old (w ∷ []))

each_map : (P Q : List ℕ → Type 0) (xs : List (List ℕ)) → ((w : List ℕ) → P w → Q w) → AllByRecursion P xs → AllByRecursion Q xs
each_map P Q [] f h = tt
each_map P Q (x ∷ xs) f h = (f x h.0, each_map P Q xs f h.1)

pub grows_on : (P Q : List ℕ → Type 0) (old mid new : List (List ℕ)) → Grows Q old mid → Grows P mid new → ((w : List ℕ) → P w → Q w) → Grows Q old new
grows_on P Q old mid new g h f = record {
  more = g.more ++ h.more;
  grown = h.grown ∙ ap (λ (l : List (List ℕ)). l ++ h.more) g.grown ∙ append_assoc old g.more h.more;
  each = each_append Q g.more h.more g.each (each_map P Q h.more f h.each);
}

kept_at : (xs ys : List (List ℕ)) (n : ℕ) (w : List ℕ) → slice_get xs n ≡ Some w → slice_get (xs ++ ys) n ≡ Some w
kept_at [] ys n w e = absurd cc
kept_at (x ∷ xs) ys zero w e = e
kept_at (x ∷ xs) ys (suc n) w e = kept_at xs ys n w e

grown_at : (P : List ℕ → Type 0) (old new : List (List ℕ)) (n : ℕ) (w : List ℕ) → Grows P old new → slice_get old n ≡ Some w → slice_get new n ≡ Some w
grown_at P old new n w g e = subst (λ (l : List (List ℕ)). slice_get l n ≡ Some w) (sym g.grown) (kept_at old g.more n w e)

-- ---- spelling

spells_on : (P Q : List ℕ → Type 0) (names texts names' texts' : List (List ℕ)) (k : Kind) (s : Symbol) → Grows P names names' → Grows Q texts texts' → Spells names texts k s → Spells names' texts' k s
spells_on P Q names texts names' texts' (kind.Word n) (word w) g h e = grown_at P names names' n.0 w g e
spells_on P Q names texts names' texts' (kind.Text n) (text t) g h e = grown_at Q texts texts' n t h e
spells_on P Q names texts names' texts' (kind.Number z) (number n) g h e = e
spells_on P Q names texts names' texts' (kind.Mark m) (mark n) g h e = e
spells_on P Q names texts names' texts' kind.Last last g h e = e
spells_on P Q names texts names' texts' _ _ g h e = absurd e

pub spelled_on : (P Q : List ℕ → Type 0) (names texts names' texts' : List (List ℕ)) (ts : List Token) (ls : List Lexeme) → Grows P names names' → Grows Q texts texts' → AreSpelled names texts ts ls → AreSpelled names' texts' ts ls
spelled_on P Q names texts names' texts' [] [] g h e = tt
spelled_on P Q names texts names' texts' [] (l ∷ ls) g h e = absurd e
spelled_on P Q names texts names' texts' (t ∷ ts) [] g h e = absurd e
spelled_on P Q names texts names' texts' (t ∷ ts) (l ∷ ls) g h e = ((spells_on P Q names texts names' texts' t.kind l.symbol g h e.0.0, e.0.1), spelled_on P Q names texts names' texts' ts ls g h e.1)

pub spelled_push : (names texts : List (List ℕ)) (ts : List Token) (ls : List Lexeme) (t : Token) (l : Lexeme) → AreSpelled names texts ts ls → Spells names texts t.kind l.symbol → t.place ≡ l.place → AreSpelled names texts (ts ++ t ∷ []) (ls ++ l ∷ [])
spelled_push names texts [] [] t l e s p = ((s, p), tt)
spelled_push names texts [] (x ∷ ls) t l e s p = absurd e
spelled_push names texts (x ∷ ts) [] t l e s p = absurd e
spelled_push names texts (x ∷ ts) (y ∷ ls) t l e s p = (e.0, spelled_push names texts ts ls t l e.1 s p)

-- ---- one kind

word_written : (v w : List ℕ) → IsLexeme (word v) w → v ≡ w
word_written v w (is_word s h) = refl

word_spells : (names texts : List (List ℕ)) (w : List ℕ) (n : NameId) (s : Symbol) → slice_get names n.0 ≡ Some w → HasForm form.Word s → IsLexeme s w → Spells names texts (kind.Word n) s
word_spells names texts w n (word v) e h l = e ∙ ap Some (sym (word_written v w l))
word_spells names texts w n _ e h l = absurd h

pub spells_word : (names texts : List (List ℕ)) (w : List ℕ) (n : NameId) (f : Form) (s : Symbol) → slice_get names n.0 ≡ Some w → f ≡ form.Word → HasForm f s → IsLexeme s w → Spells names texts (kind.Word n) s
spells_word names texts w n f s e q h l = word_spells names texts w n s e (subst (λ (g : Form). HasForm g s) q h) l

pub word_grows : (f : Form) (w : List ℕ) (old new : List (List ℕ)) → IsWritten f w → f ≡ form.Word → new ≡ with_word old w → Grows (λ v. IsLexeme (word v) w) old new
word_grows f w old new i q e = grows_one _ old new w e (written_word i.symbol (subst (λ (g : Form). HasForm g i.symbol) q i.has) i.is)
  where
    written_word : (s : Symbol) → HasForm form.Word s → IsLexeme s w → IsLexeme (word w) w
    written_word (word v) h l = subst (λ (x : List ℕ). IsLexeme (word x) w) (word_written v w l) l
    written_word _ h l = absurd h

-- ---- what goes into the tables

abbrev is_word_form : Form → Bool
is_word_form form.Word = true
is_word_form (form.Number z) = false
is_word_form form.Text = false
is_word_form (form.Mark m) = false

abbrev is_text_form : Form → Bool
is_text_form form.Word = false
is_text_form (form.Number z) = false
is_text_form form.Text = true
is_text_form (form.Mark m) = false

no_name : (old : List (List ℕ)) (f : Form) (s : Symbol) → is_word_form f ≡ false → HasForm f s → old ≡ with_name old s
no_name old form.Word s e h = absurd cc
no_name old f (word w) e h = absurd h
no_name old f (number n) e h = refl
no_name old f (text t) e h = refl
no_name old f (mark m) e h = refl
no_name old f last e h = refl

no_text : (old : List (List ℕ)) (f : Form) (s : Symbol) → is_text_form f ≡ false → HasForm f s → old ≡ with_text old s
no_text old form.Text s e h = absurd cc
no_text old f (text t) e h = absurd h
no_text old f (word w) e h = refl
no_text old f (number n) e h = refl
no_text old f (mark m) e h = refl
no_text old f last e h = refl

pub unnamed : (old : List (List ℕ)) (f g : Form) (s : Symbol) → f ≡ g → is_word_form g ≡ false → HasForm f s → old ≡ with_name old s
unnamed old f g s e n h = no_name old g s n (subst (λ (x : Form). HasForm x s) e h)

pub untexted : (old : List (List ℕ)) (f g : Form) (s : Symbol) → f ≡ g → is_text_form g ≡ false → HasForm f s → old ≡ with_text old s
untexted old f g s e n h = no_text old g s n (subst (λ (x : Form). HasForm x s) e h)

name_added : (old new : List (List ℕ)) (w : List ℕ) (s : Symbol) → new ≡ with_word old w → HasForm form.Word s → IsLexeme s w → new ≡ with_name old s
name_added old new w (word v) e h l = e ∙ ap (with_word old) (sym (word_written v w l))
name_added old new w _ e h l = absurd h

pub named : (old new : List (List ℕ)) (w : List ℕ) (f : Form) (s : Symbol) → new ≡ with_word old w → f ≡ form.Word → HasForm f s → IsLexeme s w → new ≡ with_name old s
named old new w f s e q h l = name_added old new w s e (subst (λ (g : Form). HasForm g s) q h) l

-- the text that is written between the quotes
record HasText (written t : List ℕ) : Type 0 where
  body : List ℕ
  parts : written ≡ 34 ∷ body ++ 34 ∷ []
  is : IsTextOf body t

has_text : (written t : List ℕ) → IsLexeme (text t) written → HasText written t
has_text written t (is_text {body = body} e h) = record { body = body; parts = e; is = h }

same_text : (written body t u : List ℕ) → written ≡ 34 ∷ body ++ 34 ∷ [] → IsTextOf body t → IsLexeme (text u) written → t ≡ u
same_text written body t u e h l =
    let k = has_text written u l in
    text_same body k.body t u h k.is (body_same body k.body [] [] (text_body body t h) (text_body k.body u k.is) (tails _ _ _ _ (sym e ∙ k.parts)))

text_spells : (names texts : List (List ℕ)) (written body t : List ℕ) (n : ℕ) (s : Symbol) → slice_get texts n ≡ Some t → written ≡ 34 ∷ body ++ 34 ∷ [] → IsTextOf body t → HasForm form.Text s → IsLexeme s written → Spells names texts (kind.Text n) s
text_spells names texts written body t n (text u) e q i h l = e ∙ ap Some (same_text written body t u q i l)
text_spells names texts written body t n _ e q i h l = absurd h

pub spells_text : (names texts : List (List ℕ)) (written body t : List ℕ) (n : ℕ) (f : Form) (s : Symbol) → slice_get texts n ≡ Some t → written ≡ 34 ∷ body ++ 34 ∷ [] → IsTextOf body t → f ≡ form.Text → HasForm f s → IsLexeme s written → Spells names texts (kind.Text n) s
spells_text names texts written body t n f s e q i g h l = text_spells names texts written body t n s e q i (subst (λ (k : Form). HasForm k s) g h) l

pub text_grows : (written body t : List ℕ) (old new : List (List ℕ)) → written ≡ 34 ∷ body ++ 34 ∷ [] → IsTextOf body t → new ≡ with_word old t → Grows (λ u. IsLexeme (text u) written) old new
text_grows written body t old new q i e = grows_one _ old new t e (is_text q i)

text_added : (old new : List (List ℕ)) (written body t : List ℕ) (s : Symbol) → new ≡ with_word old t → written ≡ 34 ∷ body ++ 34 ∷ [] → IsTextOf body t → HasForm form.Text s → IsLexeme s written → new ≡ with_text old s
text_added old new written body t (text u) e q i h l = e ∙ ap (with_word old) (same_text written body t u q i l)
text_added old new written body t _ e q i h l = absurd h

pub texted : (old new : List (List ℕ)) (written body t : List ℕ) (f : Form) (s : Symbol) → new ≡ with_word old t → written ≡ 34 ∷ body ++ 34 ∷ [] → IsTextOf body t → f ≡ form.Text → HasForm f s → IsLexeme s written → new ≡ with_text old s
texted old new written body t f s e q i g h l = text_added old new written body t s e q i (subst (λ (k : Form). HasForm k s) g h) l

-- the text of a token that is one
record MeansText (written : List ℕ) : Type 0 where
  text_is : List ℕ
  has : HasText written text_is

means_text : (written : List ℕ) (s : Symbol) → HasForm form.Text s → IsLexeme s written → MeansText written
means_text written (text t) h l = record { text_is = t; has = has_text written t l }
means_text written _ h l = absurd h

pub quotes_within : (written : List ℕ) → IsWritten form.Text written → 2 ≤ length written
quotes_within written w = let m = means_text written w.symbol w.has w.is in omega (arith, ap length m.has.parts, length-append m.has.body (34 ∷ []))

pub inner_is : (written after body : List ℕ) → IsWritten form.Text written → after ≡ drop 1 written → body ≡ take (length after - 1) after → written ≡ 34 ∷ body ++ 34 ∷ []
inner_is written after body w a b =
    let m = means_text written w.symbol w.has w.is in
    let rest : after ≡ m.has.body ++ 34 ∷ [] = a ∙ ap (drop 1) m.has.parts in
    let count : length m.has.body ≡ length after - 1 = omega (arith, ap length rest, length-append m.has.body (34 ∷ [])) in
    let same : body ≡ m.has.body = b ∙ ap (take (length after - 1)) rest ∙ take_at m.has.body (34 ∷ []) (length after - 1) count in
    m.has.parts ∙ ap (λ (l : List ℕ). 34 ∷ l ++ 34 ∷ []) (sym same)

pub inner_meant : (written body : List ℕ) → IsWritten form.Text written → written ≡ 34 ∷ body ++ 34 ∷ [] → IsMeant body
inner_meant written body w e =
    let m = means_text written w.symbol w.has w.is in
    let both : body ++ 34 ∷ [] ≡ m.has.body ++ 34 ∷ [] = tails _ _ _ _ (sym e ∙ m.has.parts) in
    let same = fronts_same body (34 ∷ []) m.has.body (34 ∷ []) both (omega (arith, ap length both, length-append body (34 ∷ []), length-append m.has.body (34 ∷ []))) in
    record { text = m.text_is; is = subst (λ (l : List ℕ). IsTextOf l m.text_is) (sym same) m.has.is }
