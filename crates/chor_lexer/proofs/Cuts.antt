-- Cuts in a row, and that bytes are cut in one way.
use Rattle.std.proofs.Common.{◌≡◌, ◌<◌, ◌≤◌, ◌+◌, ℕ, true, List, [], ◌∷◌, ◌++◌, length, take, drop, take-append-drop, refl, sym, ap, ◌∙◌, subst, arith, append_assoc, length-append}
use Rattle.std.proofs.lemmas.List.{append-nil}
use Rattle.chor_base.specs.declared.rule.Place.{Place}
use Rattle.chor_base.specs.declared.rule.Rule.{Rule}
use Rattle.chor_lexer.specs.Text.{IsTextOf}
use Rattle.chor_lexer.specs.Lexeme.{Symbol, word, number, text, last, Lexeme, IsLexeme, is_word, is_number, is_text, is_mark, IsLongest, IsWithin}
use Rattle.chor_lexer.specs.Cut.{is_space, is_line_byte, EndsLine, IsBlank, space, comment, NoBlank, start, place_after, IsNext, IsCut, here, blank, token}
use Rattle.chor_lexer.specs.Refusal.{IsFault, no_token, wrong_escape, open_text, great_number, long_word, long_text, Refuses, malformed, faulty}
use Rattle.chor_lexer.specs.Tokens.{IsTokens}
use Rattle.chor_lexer.proofs.Runs.{Passes}
use Rattle.chor_lexer.proofs.Texts.{heads, tails, text_body, body_same, escape_clash, fronts_same}
use Rattle.chor_lexer.proofs.Fronts.{byte_class, symbol_class, lexeme_class, lexeme_long, lexeme_same, class_no_blank}

-- ---- cuts in a row

-- one cut after another
pub cut_on : (bs mid rest : List ℕ) (p m q : Place) (ls ms : List Lexeme) → IsCut bs p ls mid m → IsCut mid m ms rest q → IsCut bs p (ls ++ ms) rest q
cut_on bs mid rest p m q ls ms here d = d
cut_on bs mid rest p m q ls ms (blank a b c) d = blank a b (cut_on _ mid rest _ m q ls ms c d)
cut_on bs mid rest p m q ls ms (token n c) d = token n (cut_on _ mid rest _ m q _ ms c d)

pub cut_blank : (bytes rest : List ℕ) (p : Place) (ls : List Lexeme) (n : ℕ) → IsCut bytes start ls rest p → IsBlank (take n rest) (drop n rest) → IsCut bytes start ls (drop n rest) (place_after p (take n rest))
cut_blank bytes rest p ls n c b = subst (λ (l : List Lexeme). IsCut bytes start l (drop n rest) (place_after p (take n rest))) (append-nil ls) (cut_on bytes rest (drop n rest) start p (place_after p (take n rest)) ls [] c (blank (sym (take-append-drop n rest)) b here))

pub cut_token : (bytes rest : List ℕ) (p : Place) (ls : List Lexeme) (n : ℕ) (s : Symbol) → IsCut bytes start ls rest p → IsNext s (take n rest) (drop n rest) rest → IsCut bytes start (ls ++ record { symbol = s; place = p } ∷ []) (drop n rest) (place_after p (take n rest))
cut_token bytes rest p ls n s c next = cut_on bytes rest (drop n rest) start p (place_after p (take n rest)) ls _ c (token next here)

-- ---- the same front

rests_same : (w r v q : List ℕ) → w ++ r ≡ v ++ q → w ≡ v → r ≡ q
rests_same [] r [] q e h = e
rests_same [] r (b ∷ v) q e h = absurd cc
rests_same (b ∷ w) r [] q e h = absurd cc
rests_same (b ∷ w) r (c ∷ v) q e h = rests_same w r v q (tails _ _ _ _ e) (tails _ _ _ _ h)

ends_here : (b : ℕ) (l r : List ℕ) → EndsLine r → r ≡ b ∷ l → is_line_byte b ≡ true → ⊥
ends_here b l [] h e t = absurd cc
ends_here b l (c ∷ r) h e t = let same : b ≡ 10 = sym (heads _ _ _ _ e) ∙ h in let no : is_line_byte 10 ≡ true = subst (λ (k : ℕ). is_line_byte k ≡ true) same t in absurd cc

line_same : (l r k q : List ℕ) → Passes is_line_byte l → EndsLine r → Passes is_line_byte k → EndsLine q → l ++ r ≡ k ++ q → l ≡ k
line_same [] r [] q pl er pk eq e = refl
line_same [] r (b ∷ k) q pl er pk eq e = absurd (ends_here b (k ++ q) r er e pk.0)
line_same (b ∷ l) r [] q pl er pk eq e = absurd (ends_here b (l ++ r) q eq (sym e) pl.0)
line_same (b ∷ l) r (c ∷ k) q pl er pk eq e = let rest = line_same l r k q pl.1 er pk.1 eq (tails _ _ _ _ e) in let h = heads _ _ _ _ e in cc

space_no_slash : (b : ℕ) → is_space b ≡ true → b ≡ 47 → ⊥
space_no_slash b s e = let no : is_space 47 ≡ true = subst (λ (x : ℕ). is_space x ≡ true) e s in absurd cc

blank_same : (w r v q : List ℕ) → IsBlank w r → IsBlank v q → w ++ r ≡ v ++ q → w ≡ v
blank_same w r v q (space s) (space t) e = ap (λ (x : ℕ). x ∷ []) (heads _ _ _ _ e)
blank_same w r v q (space s) (comment h k) e = absurd (space_no_slash _ s (heads _ _ _ _ e))
blank_same w r v q (comment h k) (space s) e = absurd (space_no_slash _ s (sym (heads _ _ _ _ e)))
blank_same w r v q (comment {line = l} h k) (comment {line = m} h' k') e = ap (λ (x : List ℕ). 47 ∷ 47 ∷ x) (line_same l r m q h k h' k' (tails _ _ _ _ (tails _ _ _ _ e)))

blank_some : (w r : List ℕ) → IsBlank w r → [] ≡ w ++ r → ⊥
blank_some w r (space s) e = absurd cc
blank_some w r (comment h k) e = absurd cc

pub next_some : (s : Symbol) (w r bs : List ℕ) → IsNext s w r bs → 1 ≤ length bs
next_some s w r bs n = omega (arith, lexeme_long s w n.longest.is, ap length n.longest.parts, length-append w r)

-- the longest token at the front is written in one way
pub longest_same : (s t : Symbol) (w r v q bs cs : List ℕ) → IsLongest s w r bs → IsLongest t v q cs → bs ≡ cs → w ≡ v
longest_same s t w r v q bs cs a b e =
    let one = a.longest t v q (e ∙ b.parts) b.is in
    let two = b.longest s w r (sym e ∙ a.parts) a.is in
    fronts_same w r v q (sym a.parts ∙ e ∙ b.parts) (omega arith)

-- ---- two cuts of the same bytes

-- one of them goes on from where the other stands
pub data Joins (ls ms : List Lexeme) (r : List ℕ) (q : Place) (r' : List ℕ) (q' : Place) : Type 0 where
  first : {more : List Lexeme} → ms ≡ ls ++ more → IsCut r q more r' q' → Joins ls ms r q r' q'
  second : {more : List Lexeme} → ls ≡ ms ++ more → IsCut r' q' more r q → Joins ls ms r q r' q'

moved : (bs cs : List ℕ) (p p' : Place) (ls : List Lexeme) (r : List ℕ) (q : Place) → bs ≡ cs → p ≡ p' → IsCut cs p' ls r q → IsCut bs p ls r q
moved bs cs p p' ls r q e f c = subst (λ (b : List ℕ). IsCut b p ls r q) (sym e) (subst (λ (x : Place). IsCut cs x ls r q) (sym f) c)

joins_more : (l m : Lexeme) (ls ms : List Lexeme) (r : List ℕ) (q : Place) (r' : List ℕ) (q' : Place) → l ≡ m → Joins ls ms r q r' q' → Joins (l ∷ ls) (m ∷ ms) r q r' q'
joins_more l m ls ms r q r' q' e (first h c) = first (cc) c
joins_more l m ls ms r q r' q' e (second h c) = second (cc) c

pub joins : (bs cs : List ℕ) (p p' : Place) (ls ms : List Lexeme) (r : List ℕ) (q : Place) (r' : List ℕ) (q' : Place) → IsCut bs p ls r q → IsCut cs p' ms r' q' → bs ≡ cs → p ≡ p' → Joins ls ms r q r' q'
joins bs cs p p' ls ms r q r' q' here c e f = first refl (moved bs cs p p' ms r' q' e f c)
joins bs cs p p' ls ms r q r' q' (blank a b c) here e f = second refl (moved cs bs p' p ls r q (sym e) (sym f) (blank a b c))
joins bs cs p p' ls ms r q r' q' (token n c) here e f = second refl (moved cs bs p' p ls r q (sym e) (sym f) (token n c))
joins bs cs p p' ls ms r q r' q' (blank a b c) (token n d) e f = absurd (n.no_blank _ _ (sym e ∙ a) b)
joins bs cs p p' ls ms r q r' q' (token n c) (blank a b d) e f = absurd (n.no_blank _ _ (e ∙ a) b)
joins bs cs p p' ls ms r q r' q' (blank {w = w} {mid = m} a b c) (blank {w = v} {mid = k} a' b' d) e f =
    let both : w ++ m ≡ v ++ k = sym a ∙ e ∙ a' in
    let same = blank_same w m v k b b' both in
    joins m k _ _ ls ms r q r' q' c d (rests_same w m v k both same) (λ i. place_after (f i) (same i))
joins bs cs p p' ls ms r q r' q' (token {w = w} {mid = m} {s = s} n c) (token {w = v} {mid = k} {s = t} n' d) e f =
    let same = longest_same s t w m v k bs cs n.longest n'.longest e in
    let both : w ++ m ≡ v ++ k = sym n.longest.parts ∙ e ∙ n'.longest.parts in
    let symbols = lexeme_same s t w v n.longest.is n'.longest.is same in
    joins_more _ _ _ _ r q r' q' (λ i. record { symbol = symbols i; place = f i }) (joins m k _ _ _ _ r q r' q' c d (rests_same w m v k both same) (λ i. place_after (f i) (same i)))

-- nothing is cut off no bytes
pub record IsStill (ls : List Lexeme) (bs r : List ℕ) (p q : Place) : Type 0 where
  pub none : ls ≡ []
  pub rest : r ≡ bs
  pub place : q ≡ p

pub cut_nothing : (bs : List ℕ) (p : Place) (ls : List Lexeme) (r : List ℕ) (q : Place) → IsCut bs p ls r q → bs ≡ [] → IsStill ls bs r p q
cut_nothing bs p ls r q here e = record { none = refl; rest = refl; place = refl }
cut_nothing bs p ls r q (blank a b c) e = absurd (blank_some _ _ b (sym e ∙ a))
cut_nothing bs p ls r q (token {w = w} {mid = m} {s = s} n c) e = let l = next_some s w m bs n in absurd (omega (arith, ap length e))

-- ---- one list of tokens

ended_same : (front other ls ms : List Lexeme) (q q' : Place) → ls ≡ front ++ record { symbol = last; place = q } ∷ [] → ms ≡ other ++ record { symbol = last; place = q' } ∷ [] → front ≡ other → q ≡ q' → ls ≡ ms
ended_same front other ls ms q q' a b e f = a ∙ (λ i. e i ++ record { symbol = last; place = f i } ∷ []) ∙ sym b

pub one_reading : (bytes : List ℕ) (ls ms : List Lexeme) → IsTokens bytes ls → IsTokens bytes ms → ls ≡ ms
one_reading bytes ls ms a b = go (joins bytes bytes start start a.front b.front [] a.next [] b.next a.cut b.cut refl refl)
  where
    go : Joins a.front b.front [] a.next [] b.next → ls ≡ ms
    go (first {more = more} h c) = let n = cut_nothing [] a.next more [] b.next c refl in ended_same a.front b.front ls ms a.next b.next a.whole b.whole (sym (append-nil a.front) ∙ ap (λ (l : List Lexeme). a.front ++ l) (sym n.none) ∙ sym h) (sym n.place)
    go (second {more = more} h c) = let n = cut_nothing [] b.next more [] a.next c refl in ended_same a.front b.front ls ms a.next b.next a.whole b.whole (h ∙ ap (λ (l : List Lexeme). b.front ++ l) n.none ∙ append-nil b.front) n.place

-- ---- a fault stops

same_next : (s t : Symbol) (w r v q bs : List ℕ) → IsLongest s w r bs → IsNext t v q bs → IsWithin s w
same_next s t w r v q bs a n =
    let same = longest_same s t w r v q bs bs a n.longest refl in
    let symbols = lexeme_same s t w v a.is n.longest.is same in
    subst (λ (x : Symbol). IsWithin x w) (sym symbols) (subst (IsWithin t) (sym same) n.within)

-- the text at a quote
record QuotedText (t : Symbol) (v q after : List ℕ) : Type 0 where
  body : List ℕ
  meant : List ℕ
  is_symbol : t ≡ text meant
  parts : after ≡ body ++ 34 ∷ q
  len : length v ≡ length body + 2
  is : IsTextOf body meant

quoted_by : (t : Symbol) (v q after : List ℕ) → IsLexeme t v → 34 ∷ after ≡ v ++ q → 2 ≡ symbol_class t → QuotedText t v q after
quoted_by t v q after (is_word s h) e c = absurd (omega arith)
quoted_by t v q after (is_number s h) e c = absurd (omega arith)
quoted_by t v q after (is_mark s) e c = absurd (omega arith)
quoted_by t v q after (is_text {body = body} {t = m} s h) e c = record {
  body = body;
  meant = m;
  is_symbol = refl;
  parts = (let both : 34 ∷ after ≡ 34 ∷ ((body ++ 34 ∷ []) ++ q) = e ∙ ap (λ (l : List ℕ). l ++ q) s in tails _ _ _ _ both ∙ append_assoc body (34 ∷ []) q);
  len = omega (arith, ap length s, length-append body (34 ∷ []));
  is = h;
}

quoted_text : (t : Symbol) (v q bs after : List ℕ) → IsNext t v q bs → bs ≡ 34 ∷ after → QuotedText t v q after
quoted_text t v q bs after n e =
    let c : byte_class 34 ≡ symbol_class t = lexeme_class t v 34 after q n.longest.is (sym n.longest.parts ∙ e) in
    quoted_by t v q after n.longest.is (sym e ∙ n.longest.parts) c

text_within : (t : Symbol) (v : List ℕ) (m : List ℕ) → IsWithin t v → t ≡ text m → length v ≤ 258
text_within t v m h e = subst (λ (x : Symbol). IsWithin x v) e h

pub fault_no_next : (bs : List ℕ) (rule : Rule) (k : ℕ) (t : Symbol) (v q : List ℕ) → IsFault bs rule k → IsNext t v q bs → ⊥
fault_no_next bs rule k t v q (no_token a b c) n = c t v q n.longest.parts n.longest.is
fault_no_next bs rule k t v q (wrong_escape {front = f} {back = g} {b = b} rest e i x y z l) n =
    let x' = quoted_text t v q bs _ n e in
    escape_clash f _ x'.body x'.meant (g ++ 34 ∷ rest) q b i x'.is (sym (append_assoc f (92 ∷ b ∷ g) (34 ∷ rest)) ∙ x'.parts) x
fault_no_next bs rule k t v q (open_text {bs = after} h) n = let x = quoted_text t v q bs after n refl in h x.body q x.parts (text_body x.body x.meant x.is)
fault_no_next bs rule k t v q (great_number {w = w} {rest = r} {n = z} a b) n = let l = same_next (number z) t w r v q bs a n in absurd (omega arith)
fault_no_next bs rule k t v q (long_word {w = w} {rest = r} a b) n = let l = same_next (word w) t w r v q bs a n in absurd (omega arith)
fault_no_next bs rule k t v q (long_text {body = body} rest e i l) n =
    let x = quoted_text t v q bs _ n e in
    let same = body_same body x.body rest q i (text_body x.body x.meant x.is) x.parts in
    let few = text_within t v x.meant n.within x.is_symbol in
    absurd (omega (arith, ap length same, x.len))

pub lexeme_no_blank : (s : Symbol) (w r bs : List ℕ) → IsLexeme s w → bs ≡ w ++ r → symbol_class s < 3 → NoBlank bs
lexeme_no_blank s w r [] l e c = let n = lexeme_long s w l in absurd (omega (arith, ap length e, length-append w r))
lexeme_no_blank s w r (b ∷ bs) l e c = let k = lexeme_class s w b bs r l (sym e) in class_no_blank b bs (omega arith)

pub fault_no_blank : (bs : List ℕ) (rule : Rule) (k : ℕ) → IsFault bs rule k → NoBlank bs
fault_no_blank bs rule k (no_token a b c) = b
fault_no_blank bs rule k (wrong_escape rest e i x y z l) = subst NoBlank (sym e) (class_no_blank 34 _ (omega arith))
fault_no_blank bs rule k (open_text h) = class_no_blank 34 _ (omega arith)
fault_no_blank bs rule k (great_number {w = w} {rest = r} {n = z} a b) = lexeme_no_blank (number z) w r bs a.is a.parts (omega arith)
fault_no_blank bs rule k (long_word {w = w} {rest = r} a b) = lexeme_no_blank (word w) w r bs a.is a.parts (omega arith)
fault_no_blank bs rule k (long_text rest e i l) = subst NoBlank (sym e) (class_no_blank 34 _ (omega arith))

fault_some : (bs : List ℕ) (rule : Rule) (k : ℕ) → IsFault bs rule k → bs ≡ [] → ⊥
fault_some bs rule k (no_token a b c) e = absurd cc
fault_some bs rule k (wrong_escape rest q i x y z l) e = absurd (omega (arith, ap length (sym e ∙ q)))
fault_some bs rule k (open_text h) e = absurd cc
fault_some bs rule k (great_number {w = w} {rest = r} {n = z} a b) e = absurd (omega (arith, lexeme_long (number z) w a.is, ap length (sym e ∙ a.parts), length-append w r))
fault_some bs rule k (long_word {w = w} {rest = r} a b) e = absurd (omega (arith, lexeme_long (word w) w a.is, ap length (sym e ∙ a.parts), length-append w r))
fault_some bs rule k (long_text rest q i l) e = absurd (omega (arith, ap length (sym e ∙ q)))

pub fault_stops : (bs : List ℕ) (rule : Rule) (k : ℕ) (p : Place) (ls : List Lexeme) (r : List ℕ) (q : Place) → IsFault bs rule k → IsCut bs p ls r q → IsStill ls bs r p q
fault_stops bs rule k p ls r q f here = record { none = refl; rest = refl; place = refl }
fault_stops bs rule k p ls r q f (blank a b c) = absurd (fault_no_blank bs rule k f _ _ a b)
fault_stops bs rule k p ls r q f (token n c) = absurd (fault_no_next bs rule k _ _ _ f n)

faulty_cut : (bytes : List ℕ) (front ls : List Lexeme) (p q : Place) (rest : List ℕ) (rule : Rule) (k : ℕ) → IsCut bytes start ls [] q → IsCut bytes start front rest p → IsFault rest rule k → ⊥
faulty_cut bytes front ls p q rest rule k a b f = go (joins bytes bytes start start ls front [] q rest p a b refl refl)
  where
    go : Joins ls front [] q rest p → ⊥
    go (first {more = more} h c) = let n = cut_nothing [] q more rest p c refl in fault_some rest rule k f n.rest
    go (second {more = more} h c) = let n = fault_stops rest rule k p more [] q f c in fault_some rest rule k f (sym n.rest)

-- a file that has tokens isn't refused
pub not_both : (bytes : List ℕ) (ls : List Lexeme) (rule : Rule) (place : Place) → IsTokens bytes ls → Refuses bytes rule place → ⊥
not_both bytes ls rule place t (malformed h) = h t.utf8
not_both bytes ls rule place t (faulty u c f) = faulty_cut bytes _ t.front _ t.next _ rule _ t.cut c f
