-- Words are told apart in both tables alike.
use Rattle.std.proofs.Common.{◌≡◌, ℕ, ◌==◌, ◌&&◌, ◌||◌, Bool, List, Some, sym, ap, ◌∙◌, arith}
use Rattle.std.specs.Prelude.{slice_get}
use Rattle.std.proofs.lemmas.Bool.Decides.{nat_tests}
use Rattle.chor_base.specs.declared.names.NameId.{NameId}
use Rattle.chor_base.specs.Words.{AllDistinct}
use Rattle.endpoint_code.specs.declared.endpoints.Endpoints.{Endpoints}
use Rattle.same_programs.specs.Words.{IsSameWord, SameName, SameText, HasDistinctWords}

-- numbers that are related are told apart alike
abbrev pub TellsNames : (NameId → NameId → Type 0) → Type 0
TellsNames N = (x y z w : NameId) → N x y → N z w → (x.0 == z.0) ≡ (y.0 == w.0)

abbrev pub TellsTexts : (ℕ → ℕ → Type 0) → Type 0
TellsTexts T = (t u v w : ℕ) → T t u → T v w → (t == v) ≡ (u == w)

same_place : (ws vs : List (List ℕ)) (i j k l : ℕ) → AllDistinct vs → IsSameWord ws vs i j → IsSameWord ws vs k l → i ≡ k → j ≡ l
same_place ws vs i j k l d a b e =
    let one : Some a.word ≡ Some b.word = sym a.here ∙ ap (slice_get ws) e ∙ b.here in
    let word : a.word ≡ b.word = cc in
    d j l a.word a.there (b.there ∙ ap Some (sym word))

pub word_turned : {ws vs : List (List ℕ)} {i j : ℕ} → IsSameWord ws vs i j → IsSameWord vs ws j i
word_turned h = record { word = h.word; here = h.there; there = h.here }

tests_alike : (i j k l : ℕ) → (i ≡ k → j ≡ l) → (j ≡ l → i ≡ k) → (i == k) ≡ (j == l)
tests_alike i j k l f g = grind (arith, nat_tests)

words_tell : (ws vs : List (List ℕ)) → AllDistinct ws → AllDistinct vs → (i j k l : ℕ) → IsSameWord ws vs i j → IsSameWord ws vs k l → (i == k) ≡ (j == l)
words_tell ws vs d d' i j k l a b = tests_alike i j k l (same_place ws vs i j k l d' a b) (same_place vs ws j i l k d (word_turned a) (word_turned b))

pub names_tell : (e e' : Endpoints) → HasDistinctWords e → HasDistinctWords e' → TellsNames (SameName e e')
names_tell e e' d d' x y z w a b = words_tell e.names e'.names d.names d'.names x.0 y.0 z.0 w.0 a b

pub texts_tell : (e e' : Endpoints) → HasDistinctWords e → HasDistinctWords e' → TellsTexts (SameText e e')
texts_tell e e' d d' t u v w a b = words_tell e.texts e'.texts d.texts d'.texts t u v w a b

-- ---- tests on numbers

pub number_turned : (a b : ℕ) → (a == b) ≡ (b == a)
number_turned a b = grind (arith, nat_tests)

pub both_tests : (a b d f : Bool) → a ≡ b → d ≡ f → (a && d) ≡ (b && f)
both_tests a b d f h k = λ i. h i && k i

pub one_test : (a b d f : Bool) → a ≡ b → d ≡ f → (a || d) ≡ (b || f)
one_test a b d f h k = λ i. h i || k i
