-- Bytes are refused for one reason, at one place.
use Rattle.std.proofs.Common.{◌≡◌, ◌≢◌, ℕ, List, ◌∷◌, ◌++◌, length, take, None, refl, sym, ap, ◌∙◌, arith, append_assoc}
use Rattle.chor_base.specs.declared.rule.Place.{Place}
use Rattle.chor_base.specs.declared.rule.Rule.{Rule}
use Rattle.chor_lexer.specs.Text.{escaped, IsTextOf, nothing, plain, escape, IsBody, IsUnclosed, two}
use Rattle.chor_lexer.specs.Lexeme.{Symbol, word, number, Lexeme, IsLongest}
use Rattle.chor_lexer.specs.Cut.{start, place_after, IsCut}
use Rattle.chor_lexer.specs.Refusal.{IsFault, no_token, wrong_escape, open_text, great_number, long_word, long_text, Refuses, malformed, faulty}
use Rattle.chor_lexer.proofs.Texts.{heads, tails, text_body, body_same, plain_no_backslash, escaped_clash}
use Rattle.chor_lexer.proofs.Bodies.{body-append}
use Rattle.chor_lexer.proofs.Fronts.{symbol_class, lexeme_class, lexeme_same}
use Rattle.chor_lexer.proofs.Cuts.{Joins, first, second, joins, longest_same, fault_stops}

-- the first escape that doesn't exist is the same
escape_same : (a b t u x y : List ℕ) (c d : ℕ) → IsTextOf a t → IsTextOf b u → escaped c ≡ None → escaped d ≡ None → a ++ 92 ∷ c ∷ x ≡ b ++ 92 ∷ d ∷ y → length a ≡ length b
escape_same a b t u x y c d nothing nothing n m e = refl
escape_same a b t u x y c d nothing (plain p h) n m e = absurd (plain_no_backslash _ p (sym (heads _ _ _ _ e)))
escape_same a b t u x y c d nothing (escape p h) n m e = absurd (escaped_clash _ _ _ n p (heads _ _ _ _ (tails _ _ _ _ e)))
escape_same a b t u x y c d (plain p h) nothing n m e = absurd (plain_no_backslash _ p (heads _ _ _ _ e))
escape_same a b t u x y c d (escape p h) nothing n m e = absurd (escaped_clash _ _ _ m p (sym (heads _ _ _ _ (tails _ _ _ _ e))))
escape_same a b t u x y c d (plain p h) (plain o k) n m e = let l = escape_same _ _ _ _ x y c d h k n m (tails _ _ _ _ e) in omega arith
escape_same a b t u x y c d (plain p h) (escape o k) n m e = absurd (plain_no_backslash _ p (heads _ _ _ _ e))
escape_same a b t u x y c d (escape p h) (plain o k) n m e = absurd (plain_no_backslash _ o (sym (heads _ _ _ _ e)))
escape_same a b t u x y c d (escape p h) (escape o k) n m e = let l = escape_same _ _ _ _ x y c d h k n m (tails _ _ _ _ (tails _ _ _ _ e)) in omega arith

-- ---- one fault at a place

pub record IsSameFault (r r' : Rule) (k k' : ℕ) : Type 0 where
  pub rule : r ≡ r'
  pub offset : k ≡ k'

same_fault : (rule : Rule) (k : ℕ) → IsSameFault rule rule k k
same_fault rule k = record { rule = refl; offset = refl }

quoted_class : (s : Symbol) (w r bs after : List ℕ) → IsLongest s w r bs → bs ≡ 34 ∷ after → 2 ≡ symbol_class s
quoted_class s w r bs after a e = lexeme_class s w 34 after r a.is (sym a.parts ∙ e)

number_unquoted : (n : ℕ) (w r bs cs after : List ℕ) → IsLongest (number n) w r bs → bs ≡ cs → cs ≡ 34 ∷ after → ⊥
number_unquoted n w r bs cs after a e f = let c = quoted_class (number n) w r bs after a (e ∙ f) in absurd (omega arith)

word_unquoted : (v w r bs cs after : List ℕ) → IsLongest (word v) w r bs → bs ≡ cs → cs ≡ 34 ∷ after → ⊥
word_unquoted v w r bs cs after a e f = let c = quoted_class (word v) w r bs after a (e ∙ f) in absurd (omega arith)

number_no_word : (n : ℕ) (v w r u q bs cs : List ℕ) → IsLongest (number n) w r bs → IsLongest (word v) u q cs → bs ≡ cs → ⊥
number_no_word n v w r u q bs cs a b e = let same = lexeme_same (number n) (word v) w u a.is b.is (longest_same (number n) (word v) w r u q bs cs a b e) in absurd cc

unmarked : (b : ℕ) (bs cs after : List ℕ) → b ≢ 34 → b ∷ bs ≡ cs → cs ≡ 34 ∷ after → ⊥
unmarked b bs cs after n e f = n (heads _ _ _ _ (e ∙ f))

wrong_body : (front t back : List ℕ) (b : ℕ) → IsTextOf front t → b ≢ 10 → IsBody back → IsBody (front ++ 92 ∷ b ∷ back)
wrong_body front t back b h n k = body-append front (92 ∷ b ∷ back) (text_body front t h) (two n k)

closed_twice : (bs cs body rest after : List ℕ) → bs ≡ 34 ∷ body ++ 34 ∷ rest → IsBody body → IsUnclosed after → bs ≡ cs → cs ≡ 34 ∷ after → ⊥
closed_twice bs cs body rest after e i h q f = h body rest (tails _ _ _ _ (sym f ∙ sym q ∙ e)) i

bodies_same : (bs cs a b x y : List ℕ) → bs ≡ 34 ∷ a ++ 34 ∷ x → cs ≡ 34 ∷ b ++ 34 ∷ y → IsBody a → IsBody b → bs ≡ cs → length a ≡ length b
bodies_same bs cs a b x y e f i j q = ap length (body_same a b x y i j (tails _ _ _ _ (sym e ∙ q ∙ f)))

wrong_same : (bs cs f f' t t' g g' x y : List ℕ) (b b' : ℕ) → bs ≡ 34 ∷ f ++ 92 ∷ b ∷ g ++ 34 ∷ x → cs ≡ 34 ∷ f' ++ 92 ∷ b' ∷ g' ++ 34 ∷ y → IsTextOf f t → IsTextOf f' t' → escaped b ≡ None → escaped b' ≡ None → bs ≡ cs → length f ≡ length f'
wrong_same bs cs f f' t t' g g' x y b b' e e' i i' n n' q =
    escape_same f f' t t' (g ++ 34 ∷ x) (g' ++ 34 ∷ y) b b' i i' n n'
    (sym (append_assoc f (92 ∷ b ∷ g) (34 ∷ x)) ∙ tails _ _ _ _ (sym e ∙ q ∙ e') ∙ append_assoc f' (92 ∷ b' ∷ g') (34 ∷ y))

pub fault_same : (bs cs : List ℕ) (r r' : Rule) (k k' : ℕ) → IsFault bs r k → IsFault cs r' k' → bs ≡ cs → IsSameFault r r' k k'
fault_same bs cs r r' k k' (no_token n a c) (no_token n' a' c') q = same_fault _ _
fault_same bs cs r r' k k' (no_token n a c) (wrong_escape x e i w l j m) q = absurd (unmarked _ _ _ _ n q e)
fault_same bs cs r r' k k' (no_token n a c) (open_text h) q = absurd (unmarked _ _ _ _ n q refl)
fault_same bs cs r r' k k' (no_token n a c) (great_number b m) q = absurd (c _ _ _ (q ∙ b.parts) b.is)
fault_same bs cs r r' k k' (no_token n a c) (long_word b m) q = absurd (c _ _ _ (q ∙ b.parts) b.is)
fault_same bs cs r r' k k' (no_token n a c) (long_text x e i l) q = absurd (unmarked _ _ _ _ n q e)
fault_same bs cs r r' k k' (wrong_escape x e i w l j m) (no_token n a c) q = absurd (unmarked _ _ _ _ n (sym q) e)
fault_same bs cs r r' k k' (open_text h) (no_token n a c) q = absurd (unmarked _ _ _ _ n (sym q) refl)
fault_same bs cs r r' k k' (great_number b m) (no_token n a c) q = absurd (c _ _ _ (sym q ∙ b.parts) b.is)
fault_same bs cs r r' k k' (long_word b m) (no_token n a c) q = absurd (c _ _ _ (sym q ∙ b.parts) b.is)
fault_same bs cs r r' k k' (long_text x e i l) (no_token n a c) q = absurd (unmarked _ _ _ _ n (sym q) e)
fault_same bs cs r r' k k' (wrong_escape {front = f} {t = t} {back = g} {b = b} x e i w l j m) (wrong_escape {front = f'} {t = t'} {back = g'} {b = b'} y e' i' w' l' j' m') q = record { rule = refl; offset = (let h = wrong_same bs cs f f' t t' g g' x y b b' e e' i i' w w' q in omega arith) }
fault_same bs cs r r' k k' (wrong_escape x e i w l j m) (open_text h) q = absurd (closed_twice _ _ _ x _ e (wrong_body _ _ _ _ i l j) h q refl)
fault_same bs cs r r' k k' (open_text h) (wrong_escape x e i w l j m) q = absurd (closed_twice _ _ _ x _ e (wrong_body _ _ _ _ i l j) h (sym q) refl)
fault_same bs cs r r' k k' (wrong_escape {front = f} {t = t} {back = g} {b = b} x e i w l j m) (long_text {body = d} y e' i' n) q = absurd (let h = bodies_same bs cs (f ++ 92 ∷ b ∷ g) d x y e e' (wrong_body f t g b i l j) i' q in omega arith)
fault_same bs cs r r' k k' (long_text {body = d} y e' i' n) (wrong_escape {front = f} {t = t} {back = g} {b = b} x e i w l j m) q = absurd (let h = bodies_same bs cs d (f ++ 92 ∷ b ∷ g) y x e' e i' (wrong_body f t g b i l j) q in omega arith)
fault_same bs cs r r' k k' (wrong_escape x e i w l j m) (great_number b n) q = absurd (number_unquoted _ _ _ _ _ _ b (sym q) e)
fault_same bs cs r r' k k' (wrong_escape x e i w l j m) (long_word b n) q = absurd (word_unquoted _ _ _ _ _ _ b (sym q) e)
fault_same bs cs r r' k k' (great_number b n) (wrong_escape x e i w l j m) q = absurd (number_unquoted _ _ _ _ _ _ b q e)
fault_same bs cs r r' k k' (long_word b n) (wrong_escape x e i w l j m) q = absurd (word_unquoted _ _ _ _ _ _ b q e)
fault_same bs cs r r' k k' (open_text h) (open_text h') q = same_fault _ _
fault_same bs cs r r' k k' (open_text h) (great_number b n) q = absurd (number_unquoted _ _ _ _ _ _ b (sym q) refl)
fault_same bs cs r r' k k' (open_text h) (long_word b n) q = absurd (word_unquoted _ _ _ _ _ _ b (sym q) refl)
fault_same bs cs r r' k k' (open_text h) (long_text x e i l) q = absurd (closed_twice _ _ _ x _ e i h (sym q) refl)
fault_same bs cs r r' k k' (great_number b n) (open_text h) q = absurd (number_unquoted _ _ _ _ _ _ b q refl)
fault_same bs cs r r' k k' (long_word b n) (open_text h) q = absurd (word_unquoted _ _ _ _ _ _ b q refl)
fault_same bs cs r r' k k' (long_text x e i l) (open_text h) q = absurd (closed_twice _ _ _ x _ e i h q refl)
fault_same bs cs r r' k k' (great_number b n) (great_number c m) q = same_fault _ _
fault_same bs cs r r' k k' (great_number b n) (long_word c m) q = absurd (number_no_word _ _ _ _ _ _ _ _ b c q)
fault_same bs cs r r' k k' (long_word c m) (great_number b n) q = absurd (number_no_word _ _ _ _ _ _ _ _ b c (sym q))
fault_same bs cs r r' k k' (great_number b n) (long_text x e i l) q = absurd (number_unquoted _ _ _ _ _ _ b q e)
fault_same bs cs r r' k k' (long_text x e i l) (great_number b n) q = absurd (number_unquoted _ _ _ _ _ _ b (sym q) e)
fault_same bs cs r r' k k' (long_word b n) (long_word c m) q = same_fault _ _
fault_same bs cs r r' k k' (long_word b n) (long_text x e i l) q = absurd (word_unquoted _ _ _ _ _ _ b q e)
fault_same bs cs r r' k k' (long_text x e i l) (long_word b n) q = absurd (word_unquoted _ _ _ _ _ _ b (sym q) e)
fault_same bs cs r r' k k' (long_text x e i l) (long_text y e' i' l') q = same_fault _ _

-- ---- one refusal of a file

pub record IsSameRefusal (r r' : Rule) (p p' : Place) : Type 0 where
  pub rule : r ≡ r'
  pub place : p ≡ p'

faults_meet : (bytes : List ℕ) (ls ms : List Lexeme) (p q : Place) (r r' : List ℕ) (rule rule' : Rule) (k k' : ℕ) → IsCut bytes start ls r p → IsCut bytes start ms r' q → IsFault r rule k → IsFault r' rule' k' → IsSameRefusal rule rule' (place_after p (take k r)) (place_after q (take k' r'))
faults_meet bytes ls ms p q r r' rule rule' k k' a b f g = go (joins bytes bytes start start ls ms r p r' q a b refl refl)
  where
    meet : r ≡ r' → p ≡ q → IsSameRefusal rule rule' (place_after p (take k r)) (place_after q (take k' r'))
    meet e h = let same = fault_same r r' rule rule' k k' f g e in record { rule = same.rule; place = (λ i. place_after (h i) (take (same.offset i) (e i))) }

    go : Joins ls ms r p r' q → IsSameRefusal rule rule' (place_after p (take k r)) (place_after q (take k' r'))
    go (first {more = more} h c) = let n = fault_stops r rule k p more r' q f c in meet (sym n.rest) (sym n.place)
    go (second {more = more} h c) = let n = fault_stops r' rule' k' q more r p g c in meet n.rest n.place

one_refusal_of : (bytes : List ℕ) (rule rule' : Rule) (p p' : Place) → Refuses bytes rule p → Refuses bytes rule' p' → IsSameRefusal rule rule' p p'
one_refusal_of bytes rule rule' p p' (malformed n) (malformed m) = record { rule = refl; place = refl }
one_refusal_of bytes rule rule' p p' (malformed n) (faulty u c f) = absurd (n u)
one_refusal_of bytes rule rule' p p' (faulty u c f) (malformed n) = absurd (n u)
one_refusal_of bytes rule rule' p p' (faulty {front = ls} {rest = r} {p = q} {rule = x} {n = k} u c f) (faulty {front = ms} {rest = r'} {p = q'} {rule = y} {n = k'} v d g) = faults_meet bytes ls ms q q' r r' x y k k' c d f g

pub one_refusal : (bytes : List ℕ) (rule rule' : Rule) (p p' : Place) → Refuses bytes rule p → Refuses bytes rule' p' → (rule ≡ rule') × (p ≡ p')
one_refusal bytes rule rule' p p' a b = let same = one_refusal_of bytes rule rule' p p' a b in (same.rule, same.place)
