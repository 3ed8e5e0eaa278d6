-- A table of words grows by those of another.
use Rattle.std.proofs.Common.{◌≡◌, ℕ, ◌+◌, Bool, true, false, List, [], ◌∷◌, ◌++◌, length, Some, refl, sym, ap, ◌∙◌, subst, arith, length-append, append_assoc, if◌then◌else◌}
use Rattle.std.specs.Prelude.{slice_get, bytes_eq}
use Rattle.std.specs.List.{list_any}
use Rattle.std.proofs.lemmas.List.{append-nil}
use Rattle.chor_base.specs.Words.{with_word, AllDistinct}
use Rattle.chor_base.proofs.Lists.{AtEnd, before, last, at_end}
use Rattle.same_programs.specs.Words.{IsSameWord}
use Rattle.endpoint_link.specs.JoinedWords.{AreWordsJoined}
use Rattle.endpoint_link.proofs.Basics.{still_there}

-- after so many words of the given table
pub record WordsUnderway {A : Type 0} (f : A → ℕ) (base given now : List (List ℕ)) (numbers : List A) (i : ℕ) : Type 0 where
  pub begins : (more : List (List ℕ)) × (now ≡ base ++ more)
  pub count : length numbers ≡ i
  pub same : (j : ℕ) (n : A) → slice_get numbers j ≡ Some n → IsSameWord given now j (f n)

-- a table with a word more begins with the table
grown : (ws : List (List ℕ)) (w : List ℕ) → (more : List (List ℕ)) × (with_word ws w ≡ ws ++ more)
grown ws w = go (list_any (bytes_eq w) ws) refl
  where
    go : (b : Bool) → list_any (bytes_eq w) ws ≡ b → (more : List (List ℕ)) × ((if list_any (bytes_eq w) ws then ws else ws ++ w ∷ []) ≡ ws ++ more)
    go true i = ([], ap (λ (b : Bool). if b then ws else ws ++ w ∷ []) i ∙ sym (append-nil ws))
    go false i = (w ∷ [], ap (λ (b : Bool). if b then ws else ws ++ w ∷ []) i)

module _ {A : Type 0} (f : A → ℕ) (base given : List (List ℕ)) where
  pub words_begin : (now : List (List ℕ)) → now ≡ base → WordsUnderway f base given now [] 0
  words_begin now same = record { begins = ([], same ∙ sym (append-nil base)); count = refl; same = λ j n h. absurd cc }

  pub words_turn : (old new : List (List ℕ)) (numbers numbers' : List A) (i : ℕ) (w : List ℕ) (n : A) → slice_get given i ≡ Some w → new ≡ with_word old w → slice_get new (f n) ≡ Some w → numbers' ≡ numbers ++ n ∷ []
      → WordsUnderway f base given old numbers i → WordsUnderway f base given new numbers' (i + 1)
  words_turn old new numbers numbers' i w n at more there longer u = record {
    begins = (u.begins.0 ++ g.0, growth ∙ ap (λ l. l ++ g.0) u.begins.1 ∙ append_assoc base u.begins.0 g.0);
    count = (let e : length numbers' ≡ length numbers + 1 = ap (λ l. length l) longer ∙ length-append numbers (n ∷ []) in let c : length numbers ≡ i = u.count in omega (arith, e, c));
    same = λ j m h. go j m (at_end numbers n m j (ap (λ l. slice_get l j) (sym longer) ∙ h));
  }
    where
      g : (more : List (List ℕ)) × (with_word old w ≡ old ++ more)
      g = grown old w

      growth : new ≡ old ++ g.0
      growth = more ∙ g.1

      go : (j : ℕ) (m : A) → AtEnd numbers n m j → IsSameWord given new j (f m)
      go j m (before k) =
          let s = u.same j m k in
          record { word = s.word; here = s.here; there = ap (λ (l : List (List ℕ)). slice_get l (f m)) growth ∙ still_there old g.0 (f m) s.word s.there }
      go j m (last k is) =
          let place : j ≡ i = k ∙ u.count in
          record { word = w; here = ap (slice_get given) place ∙ at; there = subst (λ (x : A). slice_get new (f x) ≡ Some w) (sym is) there }

  pub words_end : (now : List (List ℕ)) (numbers : List A) (i : ℕ) → i ≡ length given → AllDistinct now → WordsUnderway f base given now numbers i → AreWordsJoined f base given now numbers
  words_end now numbers i all distinct u = record { begins = u.begins; distinct = distinct; count = u.count ∙ all; same = u.same }
