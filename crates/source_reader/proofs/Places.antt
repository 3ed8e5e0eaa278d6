-- The token that stands at a place.
use Rattle.std.proofs.Common.{◌≡◌, ◌<◌, ◌≤◌, ◌+◌, ℕ, List, [], ◌∷◌, length, drop, Some, slice_get, slice_index_or, sym, ap, ◌∙◌, subst, drop_of_length-le}
use Rattle.std.proofs.lemmas.List.{drop_more}
use Rattle.chor_base.specs.declared.names.NameId.{NameId}
use Rattle.chor_lexer.specs.declared.mark.Mark.{Mark}
use Rattle.chor_lexer.specs.declared.token.Kind.TheVariants.{Word, Mark as OfMark}
use Rattle.chor_lexer.specs.declared.token.Token.{Token}
use Rattle.chor_lexer.specs.Keywords.{IsName}
use Rattle.chor_tree.specs.declared.file.Named.{Named}
use Rattle.source_grammar.specs.Grammar.{NameIs, WordIs}

pub stands : (ts us : List Token) (i : ℕ) (t : Token) → us ≡ ts → i < length us → t ≡ slice_index_or us i t → drop i ts ≡ t ∷ drop (i + 1) ts
stands ts us i t e lt is = ap (drop i) (sym e) ∙ drop_more us i t lt ∙ (λ k. sym is k ∷ drop (i + 1) (e k))

pub none_stands : (ts us : List Token) (i : ℕ) (t : Token) (rest : List Token) → us ≡ ts → length us ≤ i → drop i ts ≡ t ∷ rest → ⊥
none_stands ts us i t rest e le p = no_front t rest (sym (drop_of_length-le us le) ∙ ap (drop i) e ∙ p)
  where
    no_front : (t : Token) (rest : List Token) → [] ≡ t ∷ rest → ⊥
    no_front t rest q = absurd cc

pub same_front : {ts r s : List Token} {t u : Token} → ts ≡ t ∷ r → ts ≡ u ∷ s → t ≡ u
same_front e f = cc

same_word : (a b : NameId) → Word a ≡ Word b → a ≡ b
same_word a b e = cc

-- the number of the word that stands here
numbered : {ts r s : List Token} {t u : Token} (a b : NameId) → ts ≡ t ∷ r → t.kind ≡ Word a → ts ≡ u ∷ s → u.kind ≡ Word b → b ≡ a
numbered a b e j f k = same_word b a (sym k ∙ ap (λ (t : Token). t.kind) (same_front f e) ∙ j)

-- a word that is no name
pub no_name : {names : List (List ℕ)} {ts r rest : List Token} {t : Token} {x : NameId} {n : Named} → ts ≡ t ∷ r → t.kind ≡ Word x → (((word : List ℕ) × (slice_get names x.0 ≡ Some word) × IsName word) → ⊥) → NameIs names ts n rest → ⊥
no_name {names} {x = x} {n = n} e k none w =
    none (subst (λ (y : NameId). (word : List ℕ) × (slice_get names y.0 ≡ Some word) × IsName word) (numbered x n.name e k w.parts w.is.kind) (w.is.word, w.is.is, w.is.name))

-- another word
pub no_word : {names : List (List ℕ)} {v : List ℕ} {ts r rest : List Token} {t : Token} {x : NameId} → ts ≡ t ∷ r → t.kind ≡ Word x → ((slice_get names x.0 ≡ Some v) → ⊥) → WordIs names v ts rest → ⊥
no_word {names} {v = v} {x = x} e k none w =
    none (subst (λ (y : NameId). slice_get names y.0 ≡ Some v) (numbered x w.is.number e k w.parts w.is.kind) w.is.word)

-- no word at all
pub no_word_name : {names : List (List ℕ)} {ts r rest : List Token} {t : Token} {n : Named} → ts ≡ t ∷ r → ((x : NameId) → t.kind ≡ Word x → ⊥) → NameIs names ts n rest → ⊥
no_word_name {n = n} e none w = none n.name (ap (λ (t : Token). t.kind) (same_front e w.parts) ∙ w.is.kind)

same_mark : (a b : Mark) → OfMark a ≡ OfMark b → a ≡ b
same_mark a b e = cc

-- the mark that stands here
pub marked : {ts r s : List Token} {t u : Token} (a b : Mark) → ts ≡ t ∷ r → t.kind ≡ OfMark a → ts ≡ u ∷ s → u.kind ≡ OfMark b → a ≡ b
marked a b e j f k = same_mark a b (sym j ∙ ap (λ (t : Token). t.kind) (same_front e f) ∙ k)
