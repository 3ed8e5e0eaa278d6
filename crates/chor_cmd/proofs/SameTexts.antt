-- Files of the same bytes say the same and have the same canonical text, and a canonical text that is read has itself.
use Rattle.std.proofs.Common.{◌≡◌, ℕ, true, List, ◌∙◌, sym}
use Rattle.chor_base.specs.declared.rule.Place.{Place}
use Rattle.chor_base.specs.declared.rule.Rule.{Rule}
use Rattle.chor_tree.specs.declared.file.File.{File}
use Rattle.chor_tree.specs.Source.{source_of}
use Rattle.chor_tree.specs.Same.{same_words, same_texts, same_source, same_files}
use Rattle.chor_tree.proofs.SameJoined.{same_files_reflexive}
use Rattle.chor_print.specs.Text.{canonical_text}
use Rattle.canonical_laws.specs.ReadsBack.{IsReadFrom}
use Rattle.canonical_laws.proofs.Anew.{is_cut, is_taken, is_settled}
use Rattle.canonical_laws.proofs.SameText.{same_text}
use Rattle.source_check.specs.Source.{IsFileOf, IsNoSource, tokens, grammar}
use Rattle.source_check.proofs.Files.{one_file}
use Rattle.source_check.proofs.OneReading.{one_list}

files_alike : (bytes : List ℕ) (f g : File) → IsFileOf bytes f → IsFileOf bytes g → same_files f g ≡ true
files_alike bytes f g i j =
    let read = one_list bytes f.names f.texts g.names g.texts i.tokens j.tokens i.are j.are in
    let same = one_file bytes f g i j in
    (λ k. same_source (same_words f.names (sym read.names_are k)) (same_texts f.texts (sym read.texts_are k)) (source_of f) (sym same k)) ∙ same_files_reflexive f

pub text_alike : (bytes : List ℕ) (f g : File) → IsFileOf bytes f → IsFileOf bytes g → canonical_text f ≡ canonical_text g
text_alike bytes f g i j = same_text f g (files_alike bytes f g i j)

read_from : (bytes : List ℕ) (f : File) → (i : IsFileOf bytes f) → IsReadFrom bytes i.tokens f
read_from bytes f i = record { tokens = i.are; derived = i.within }

module _ (bytes : List ℕ) (f : File) (i : IsFileOf bytes f) where
  -- the canonical text of a file that was read is a source
  pub text_is_source : (rule : Rule) (place : Place) → IsNoSource (canonical_text f) rule place → ⊥
  text_is_source rule place (tokens refused) = is_cut bytes i.tokens f (read_from bytes f i) rule place refused
  text_is_source rule place (grammar {names = names} {texts = texts} {ts = ts} are fault) = is_taken bytes i.tokens f (read_from bytes f i) names texts ts rule place are fault

  -- and the file that it is the text of has that very text
  pub text_of_text : (g : File) → IsFileOf (canonical_text f) g → canonical_text g ≡ canonical_text f
  text_of_text g j = is_settled bytes i.tokens f (read_from bytes f i) j.tokens g (read_from (canonical_text f) g j)
