-- What is known while tokens are read.
use Rattle.std.proofs.Common.{◌≡◌, ◌≤◌, ◌+◌, ℕ, true, false, List, [], ◌∷◌, ◌++◌, length, take, drop, None, refl, sym, ap, ◌∙◌, subst, arith, length-take-le, length-drop}
use Rattle.std.specs.List.{AllByRecursion, fold}
use Rattle.std.specs.Str.{IsUtf8}
use Rattle.std.specs.Str.Lossy.{utf8_valid_len}
use Rattle.chor_base.specs.declared.rule.Place.{Place}
use Rattle.chor_base.specs.declared.rule.Rule.{Rule}
use Rattle.chor_base.specs.declared.rule.Rule.TheVariants.{L4}
use Rattle.chor_base.specs.declared.rule.Denied.{Denied}
use Rattle.chor_base.specs.declared.rule.Denied.TheVariants.{Refused}
use Rattle.chor_lexer.specs.declared.scan.Form.{Form}
use Rattle.chor_lexer.specs.declared.token.Kind.{Kind}
use Rattle.chor_lexer.specs.declared.token.Kind.TheVariants as kind
use Rattle.chor_lexer.specs.declared.token.Token.{Token}
use Rattle.chor_lexer.specs.Lexeme.{Symbol, word, text, last, Lexeme, IsLexeme, is_word, is_number, is_text, is_mark}
use Rattle.chor_lexer.specs.Cut.{IsBlank, start, place_after, IsCut, here}
use Rattle.chor_lexer.specs.Tokens.{AreTokensOf, Spells, AreSpelled, Grows, HasSymbol, is_last, is_ended, with_name, with_text}
use Rattle.chor_lexer.specs.Refusal.{IsFault, Refuses, malformed, faulty, IsDenial}
use Rattle.chor_lexer.specs.Scan.{HasForm, IsWritten, IsNextOf}
use Rattle.chor_lexer.proofs.Each.{each_append}
use Rattle.chor_lexer.proofs.Cuts.{cut_blank, cut_token}
use Rattle.chor_lexer.proofs.Fronts.{lexeme_same, lexeme_long}
use Rattle.chor_lexer.proofs.Spelled.{grows_none, grows_on, spelled_on, spelled_push}

-- ---- the state of the loop

pub record Progress (bytes : List ℕ) (names texts : List (List ℕ)) (rest : List ℕ) (p : Place) (items : List Token) (names' texts' : List (List ℕ)) : Type 0 where
  pub front : List Lexeme
  pub cut : IsCut bytes start front rest p
  pub spelled : AreSpelled names' texts' items front
  pub names_are : names' ≡ fold (λ table l. with_name table l.symbol) names front
  pub texts_are : texts' ≡ fold (λ table l. with_text table l.symbol) texts front
  pub names_grow : Grows (λ w. HasSymbol bytes (word w)) names names'
  pub texts_grow : Grows (λ t. HasSymbol bytes (text t)) texts texts'
  pub unended : AllByRecursion (λ t. is_last t.kind ≡ false) items
  pub line : p.line + length rest ≤ length bytes + 1
  pub col : p.col + length rest ≤ length bytes + 1

pub progress_none : (bytes : List ℕ) (names texts : List (List ℕ)) (items : List Token) (p : Place) → items ≡ [] → p ≡ start → Progress bytes names texts bytes p items names texts
progress_none bytes names texts items p e f = record {
  front = [];
  cut = subst (λ (x : Place). IsCut bytes start [] bytes x) (sym f) here;
  spelled = subst (λ (l : List Token). AreSpelled names texts l []) (sym e) tt;
  names_are = refl;
  texts_are = refl;
  names_grow = grows_none _ names names refl;
  texts_grow = grows_none _ texts texts refl;
  unended = subst (AllByRecursion (λ t. is_last t.kind ≡ false)) (sym e) tt;
  line = (let l = ap (λ (x : Place). x.line) f in omega arith);
  col = (let l = ap (λ (x : Place). x.col) f in omega arith);
}

-- where the next place is
pub record IsPast (p : Place) (rest : List ℕ) (n : ℕ) (q : Place) (written after : List ℕ) : Type 0 where
  pub written_is : written ≡ take n rest
  pub after_is : after ≡ drop n rest
  pub place : q ≡ place_after p written
  pub line : q.line ≤ p.line + length written
  pub col : q.col ≤ p.col + length written
  pub within : n ≤ length rest

past_length : (p : Place) (rest : List ℕ) (n : ℕ) (q : Place) (written after : List ℕ) → IsPast p rest n q written after → length written + length after ≡ length rest
past_length p rest n q written after h = omega (arith, ap length h.written_is, ap length h.after_is, length-take-le n rest h.within, length-drop n rest, h.within)

past_cut : (bytes rest written after : List ℕ) (p q : Place) (n : ℕ) (ls : List Lexeme) → IsPast p rest n q written after → IsCut bytes start ls (drop n rest) (place_after p (take n rest)) → IsCut bytes start ls after q
past_cut bytes rest written after p q n ls h c =
    let e : q ≡ place_after p (take n rest) = h.place ∙ ap (place_after p) h.written_is in
    subst (λ (x : Place). IsCut bytes start ls after x) (sym e) (subst (λ (l : List ℕ). IsCut bytes start ls l (place_after p (take n rest))) (sym h.after_is) c)

pub progress_blank : (bytes : List ℕ) (names texts : List (List ℕ)) (rest written after : List ℕ) (p q : Place) (items : List Token) (names' texts' : List (List ℕ)) (n : ℕ) → Progress bytes names texts rest p items names' texts' → IsPast p rest n q written after → IsBlank (take n rest) (drop n rest) → Progress bytes names texts after q items names' texts'
progress_blank bytes names texts rest written after p q items names' texts' n g h b =
    let len = past_length p rest n q written after h in
    record {
      front = g.front;
      cut = past_cut bytes rest written after p q n g.front h (cut_blank bytes rest p g.front n g.cut b);
      spelled = g.spelled;
      names_are = g.names_are;
      texts_are = g.texts_are;
      names_grow = g.names_grow;
      texts_grow = g.texts_grow;
      unended = g.unended;
      line = omega (arith, g.line, h.line);
      col = omega (arith, g.col, h.col);
    }

pub has_written : (bytes rest written : List ℕ) (p : Place) (ls : List Lexeme) (f : Form) (n : ℕ) (s : Symbol) → IsCut bytes start ls rest p → IsNextOf f rest n → written ≡ take n rest → IsLexeme s written → HasSymbol bytes s
has_written bytes rest written p ls f n s c x e l =
    let same = lexeme_same x.symbol s (take n rest) written x.next.longest.is l (sym e) in
    record {
      front = ls;
      place = p;
      rest = drop n rest;
      next = place_after p (take n rest);
      cut = subst (λ (t : Symbol). IsCut bytes start (ls ++ record { symbol = t; place = p } ∷ []) (drop n rest) (place_after p (take n rest))) same (cut_token bytes rest p ls n x.symbol c x.next);
    }

pub names_on : (bytes : List ℕ) (names texts : List (List ℕ)) (rest written : List ℕ) (p : Place) (items : List Token) (names' texts' names'' : List (List ℕ)) (f : Form) (n : ℕ) → Progress bytes names texts rest p items names' texts' → IsNextOf f rest n → written ≡ take n rest → Grows (λ w. IsLexeme (word w) written) names' names'' → Grows (λ w. HasSymbol bytes (word w)) names names''
names_on bytes names texts rest written p items names' texts' names'' f n g x e h = grows_on _ _ names names' names'' g.names_grow h (λ w l. has_written bytes rest written p g.front f n (word w) g.cut x e l)

pub texts_on : (bytes : List ℕ) (names texts : List (List ℕ)) (rest written : List ℕ) (p : Place) (items : List Token) (names' texts' texts'' : List (List ℕ)) (f : Form) (n : ℕ) → Progress bytes names texts rest p items names' texts' → IsNextOf f rest n → written ≡ take n rest → Grows (λ t. IsLexeme (text t) written) texts' texts'' → Grows (λ t. HasSymbol bytes (text t)) texts texts''
texts_on bytes names texts rest written p items names' texts' texts'' f n g x e h = grows_on _ _ texts texts' texts'' g.texts_grow h (λ t l. has_written bytes rest written p g.front f n (text t) g.cut x e l)

pub is_written : (f : Form) (rest written : List ℕ) (n : ℕ) → IsNextOf f rest n → written ≡ take n rest → IsWritten f written
is_written f rest written n x e = record { symbol = x.symbol; has = x.has; is = subst (IsLexeme x.symbol) (sym e) x.next.longest.is }

spells_unended : (names texts : List (List ℕ)) (k : Kind) (s : Symbol) (w : List ℕ) → Spells names texts k s → IsLexeme s w → is_last k ≡ false
spells_unended names texts (kind.Word n) s w e l = refl
spells_unended names texts (kind.Number z) s w e l = refl
spells_unended names texts (kind.Text n) s w e l = refl
spells_unended names texts (kind.Mark m) s w e l = refl
spells_unended names texts kind.Last s w e (is_word a h) = absurd e
spells_unended names texts kind.Last s w e (is_number a h) = absurd e
spells_unended names texts kind.Last s w e (is_text a h) = absurd e
spells_unended names texts kind.Last s w e (is_mark a) = absurd e

-- one symbol more goes into a table
folded : (f : List (List ℕ) → Symbol → List (List ℕ)) (old mid new : List (List ℕ)) (ls : List Lexeme) (s : Symbol) (p : Place) → mid ≡ fold (λ table l. f table l.symbol) old ls → new ≡ f mid s → new ≡ fold (λ table l. f table l.symbol) old (ls ++ record { symbol = s; place = p } ∷ [])
folded f old mid new [] s p e h = h ∙ ap (λ (t : List (List ℕ)). f t s) e
folded f old mid new (l ∷ ls) s p e h = folded f (f old l.symbol) mid new ls s p e h

pub progress_token : (bytes : List ℕ) (names texts : List (List ℕ)) (rest written after : List ℕ) (p q : Place) (items items' : List Token) (names' texts' names'' texts'' : List (List ℕ)) (f : Form) (n : ℕ) (k : Kind) → Progress bytes names texts rest p items names' texts' → IsPast p rest n q written after → IsNextOf f rest n → ((s : Symbol) → HasForm f s → IsLexeme s written → Spells names'' texts'' k s) → ((s : Symbol) → HasForm f s → IsLexeme s written → names'' ≡ with_name names' s) → ((s : Symbol) → HasForm f s → IsLexeme s written → texts'' ≡ with_text texts' s) → Grows (λ w. IsLexeme (word w) written) names' names'' → Grows (λ t. IsLexeme (text t) written) texts' texts'' → items' ≡ items ++ record { kind = k; place = p } ∷ [] → Progress bytes names texts after q items' names'' texts''
progress_token bytes names texts rest written after p q items items' names' texts' names'' texts'' f n k g h x spells en et gn gt e =
    let len = past_length p rest n q written after h in
    let w : IsLexeme x.symbol written = subst (IsLexeme x.symbol) (sym h.written_is) x.next.longest.is in
    let some = lexeme_long x.symbol written w in
    let spell = spells x.symbol x.has w in
    let token_is : Token = record { kind = k; place = p } in
    record {
      front = g.front ++ record { symbol = x.symbol; place = p } ∷ [];
      cut = past_cut bytes rest written after p q n _ h (cut_token bytes rest p g.front n x.symbol g.cut x.next);
      spelled = subst (λ (l : List Token). AreSpelled names'' texts'' l (g.front ++ record { symbol = x.symbol; place = p } ∷ [])) (sym e) (spelled_push names'' texts'' items g.front token_is _ (spelled_on _ _ names' texts' names'' texts'' items g.front gn gt g.spelled) spell refl);
      names_are = folded with_name names names' names'' g.front x.symbol p g.names_are (en x.symbol x.has w);
      texts_are = folded with_text texts texts' texts'' g.front x.symbol p g.texts_are (et x.symbol x.has w);
      names_grow = names_on bytes names texts rest written p items names' texts' names'' f n g x h.written_is gn;
      texts_grow = texts_on bytes names texts rest written p items names' texts' texts'' f n g x h.written_is gt;
      unended = subst (AllByRecursion (λ t. is_last t.kind ≡ false)) (sym e) (each_append (λ t. is_last t.kind ≡ false) items (token_is ∷ []) g.unended (spells_unended names'' texts'' k x.symbol written spell w, tt));
      line = omega (arith, g.line, h.line);
      col = omega (arith, g.col, h.col);
    }

pub denied_malformed : (bytes : List ℕ) (n : ℕ) (p q : Place) (d : Denied) → (IsUtf8 bytes → ⊥) → n ≡ utf8_valid_len bytes → p ≡ start → q ≡ place_after p (take n bytes) → d ≡ Refused (record { rule = L4; place = q; who = None }) → IsDenial bytes d
denied_malformed bytes n p q d h e f g k =
    let at : q ≡ place_after start (take (utf8_valid_len bytes) bytes) = g ∙ (λ i. place_after (f i) (take (e i) bytes)) in
    subst (IsDenial bytes) (sym k) (subst (Refuses bytes L4) (sym at) (malformed h), refl)

pub progress_fault : (bytes : List ℕ) (names texts : List (List ℕ)) (rest front : List ℕ) (p q : Place) (items : List Token) (names' texts' : List (List ℕ)) (rule : Rule) (n : ℕ) (d : Denied) → Progress bytes names texts rest p items names' texts' → IsUtf8 bytes → IsFault rest rule n → front ≡ take n rest → q ≡ place_after p front → d ≡ Refused (record { rule = rule; place = q; who = None }) → IsDenial bytes d
progress_fault bytes names texts rest front p q items names' texts' rule n d g u f e h k =
    subst (IsDenial bytes) (sym k) (subst (Refuses bytes rule) (sym (h ∙ ap (place_after p) e)) (faulty u g.cut f), refl)

-- ---- the end

pub progress_end : (bytes : List ℕ) (names texts : List (List ℕ)) (rest : List ℕ) (p : Place) (items items' : List Token) (names' texts' : List (List ℕ)) → Progress bytes names texts rest p items names' texts' → IsUtf8 bytes → length rest ≡ 0 → items' ≡ items ++ record { kind = kind.Last; place = p } ∷ [] → AreTokensOf bytes names texts names' texts' items'
progress_end bytes names texts [] p items items' names' texts' g u z e =
    let l : Lexeme = record { symbol = last; place = p } in
    record {
      lexemes = g.front ++ l ∷ [];
      tokens = record { utf8 = u; front = g.front; next = p; cut = g.cut; whole = refl };
      spelled = subst (λ (ts : List Token). AreSpelled names' texts' ts (g.front ++ l ∷ [])) (sym e) (spelled_push names' texts' items g.front (record { kind = kind.Last; place = p }) l g.spelled tt refl);
      names_are = folded with_name names names' names' g.front last p g.names_are refl;
      texts_are = folded with_text texts texts' texts' g.front last p g.texts_are refl;
    }
progress_end bytes names texts (b ∷ rest) p items items' names' texts' g u z e = absurd (omega arith)

ended_push : (ts : List Token) (t : Token) → AllByRecursion (λ t. is_last t.kind ≡ false) ts → is_last t.kind ≡ true → is_ended (ts ++ t ∷ []) ≡ true
ended_push [] t h e = e
ended_push (x ∷ []) t h e = grind (arith, h, e)
ended_push (x ∷ y ∷ ts) t h e = let more = ended_push (y ∷ ts) t h.1 e in let one = h.0 in grind (arith, more, one)

pub progress_ended : (bytes : List ℕ) (names texts : List (List ℕ)) (rest : List ℕ) (p : Place) (items items' : List Token) (names' texts' : List (List ℕ)) → Progress bytes names texts rest p items names' texts' → items' ≡ items ++ record { kind = kind.Last; place = p } ∷ [] → is_ended items' ≡ true
progress_ended bytes names texts rest p items items' names' texts' g e = ap is_ended e ∙ ended_push items (record { kind = kind.Last; place = p }) g.unended refl
