-- Words are of a form.
use Rattle.std.proofs.Common.{◌≡◌, ◌<◌, ℕ, Bool, true, false, List, [], ◌∷◌, ◌++◌, length, take, drop, refl, sym, ap, ◌∙◌, subst, arith}
use Rattle.std.specs.Prelude.{All, IsTrue, ◌↔◌}
use Rattle.std.specs.Bool.{MatchBool}
use Rattle.std.specs.List.{AllWithin, HoldsAt}
use Rattle.std.proofs.lemmas.List.{take-append-drop}
use Rattle.std.proofs.Math.Seq.{take-append_seam, drop-append_seam}
use Rattle.command_words.specs.declared.command_name.CommandName.{CommandName}
use Rattle.command_words.specs.declared.words.Command.{Command}
use Rattle.command_words.specs.Tables.{command_word, file_count}
use Rattle.command_words.specs.Words.{IsFileWord, name_of, AreAfter, AreForm, IsCommand}
use Rattle.command_words.proofs.Names.{same_command_name}

-- a list that is two, the first of which has so many items
pub cut_front : {X : Type 0} (xs ys zs : List X) (k : ℕ) → zs ≡ xs ++ ys → length xs ≡ k → take k zs ≡ xs
cut_front xs ys zs k e long = (λ i. take (sym long i) (e i)) ∙ take-append_seam xs ys

pub cut_back : {X : Type 0} (xs ys zs : List X) (k : ℕ) → zs ≡ xs ++ ys → length xs ≡ k → drop k zs ≡ ys
cut_back xs ys zs k e long = (λ i. drop (sym long i) (e i)) ∙ drop-append_seam xs ys

-- ---- forms

module _ (words : List (List ℕ)) (word : List ℕ) (rest : List (List ℕ)) (are : words ≡ word ∷ rest) where
  module _ (name : CommandName) (named : word ≡ command_word name) where
    -- a form that begins so
    pub record Begins (command : Command) (files : List (List ℕ)) : Type 0 where
      pub name_is : name_of command ≡ name
      pub files_are : take (file_count name) rest ≡ files
      pub after_is : IsCommand name (drop (file_count name) rest) command
      pub file_words : All IsFileWord files

    pub begins : (command : Command) (files : List (List ℕ)) → AreForm words command files → Begins command files
    begins command files form =
        let same : word ∷ rest ≡ command_word (name_of command) ∷ files ++ form.rest = sym are ∙ form.words_are in
        let is_word : command_word name ≡ command_word (name_of command) = (let back : word ≡ command_word (name_of command) = cc in sym named ∙ back) in
        let is : name ≡ name_of command = same_command_name name (name_of command) is_word in
        let rests : rest ≡ files ++ form.rest = cc in
        let count : length files ≡ file_count name = form.count ∙ ap file_count (sym is) in
        record {
          name_is = sym is;
          files_are = cut_front files form.rest rest (file_count name) rests count;
          after_is = record { named = sym is; after = subst (AreAfter command) (sym (cut_back files form.rest rest (file_count name) rests count)) form.after };
          file_words = form.files;
        }

    module _ (front back : List (List ℕ)) (front_is : front ≡ take (file_count name) rest) (back_is : back ≡ drop (file_count name) rest) where
      pub no_files : (All IsFileWord front → ⊥) → (command : Command) (files : List (List ℕ)) → AreForm words command files → ⊥
      no_files none command files form =
          let b = begins command files form in
          none (subst (All IsFileWord) (sym b.files_are ∙ sym front_is) b.file_words)

      pub is_form : length front ≡ file_count name → All IsFileWord front → (command : Command) → IsCommand name back command → AreForm words command front
      is_form count files command is = record {
        rest = back;
        words_are = are ∙ (λ i. (named ∙ ap command_word (sym is.named)) i ∷ (sym (take-append-drop (file_count name) rest) ∙ (λ j. sym front_is j ++ sym back_is j)) i);
        count = count ∙ ap file_count (sym is.named);
        files = files;
        after = is.after;
      }

-- ---- a look at each word

pub all_told : (r : Bool) (ws : List (List ℕ)) → MatchBool r (AllWithin IsFileWord ws 0 (length ws)) ((k : ℕ) × (k < length ws) × HoldsAt (λ w. IsFileWord w → ⊥) ws k) → IsTrue r ↔ All IsFileWord ws
all_told true ws h = ((λ t k d less. h k d (omega arith) less), (λ all. refl))
all_told false ws h = ((λ t. absurd cc), (λ all. absurd (h.2 [] (all h.0 [] h.1))))
