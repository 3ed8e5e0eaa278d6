-- Words of a source by their bytes.
use Rattle.std.proofs.Common.{◌≡◌, ℕ, Bool, true, false, ◌&&◌, List, [], ◌∷◌, refl, sym, ◌∙◌, subst}
use Rattle.std.specs.Prelude.{◌↔◌, IsTrue}
use Rattle.std.specs.List.{AllByRecursion, list_all}
use Rattle.std.proofs.lemmas.Bool.{and_parts}
use Rattle.chor_lexer.specs.Lexeme.{Symbol, word, is_letter, is_word_byte, IsLexeme, is_word, is_number, is_text, is_mark}

abbrev HasWordBytes : List ℕ → Type 0
HasWordBytes [] = ⊥
HasWordBytes (c ∷ cs) = (is_letter c ≡ true) × AllByRecursion (λ b. is_word_byte b ≡ true) cs

word_bytes : (s : Symbol) (w v : List ℕ) → s ≡ word v → IsLexeme s w → HasWordBytes w
word_bytes s w v e (is_word h k) = (h, k)
word_bytes s w v e (is_number h k) = absurd cc
word_bytes s w v e (is_text p h) = absurd cc
word_bytes s w v e (is_mark h) = absurd cc

pub no_bytes : (w : List ℕ) → w ≡ [] → IsLexeme (word w) w → ⊥
no_bytes w e l = subst HasWordBytes e (word_bytes (word w) w w refl l)

each : (bs : List ℕ) → list_all is_word_byte bs ≡ true → AllByRecursion (λ b. is_word_byte b ≡ true) bs
each [] h = tt
each (b ∷ bs) h = let p = and_parts (is_word_byte b) (list_all is_word_byte bs) h in (p.0, each bs p.1)

every : (bs : List ℕ) → AllByRecursion (λ b. is_word_byte b ≡ true) bs → list_all is_word_byte bs ≡ true
every [] h = refl
every (b ∷ bs) h = (λ i. h.0 i && list_all is_word_byte bs) ∙ every bs h.1

pub a_word : (w : List ℕ) (c : ℕ) (cs : List ℕ) (r : Bool) → w ≡ c ∷ cs → is_letter c ≡ true → r ≡ list_all is_word_byte cs → IsTrue r ↔ IsLexeme (word w) w
a_word w c cs r e first q =
    (λ t. subst (λ (v : List ℕ). IsLexeme (word v) v) (sym e) (is_word first (each cs (sym q ∙ t))), λ l. let h = subst HasWordBytes e (word_bytes (word w) w w refl l) in q ∙ every cs h.1)
