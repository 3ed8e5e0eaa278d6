-- The book of a file tells things apart.
use Rattle.std.proofs.Common.{◌≡◌, ◌==◌, ℕ, zero, suc, Bool, true, false, not, List, [], ◌∷◌, Some, refl, ap, ◌∙◌, subst}
use Rattle.std.specs.Prelude.{slice_get}
use Rattle.chor_base.specs.declared.names.NameId.{NameId}
use Rattle.chor_base.specs.Words.{AllDistinct}
use Rattle.chor_tree.specs.Names.{is_among, names_in}
use Rattle.chor_tree.specs.declared.file.File.{File}
use Rattle.delegation.specs.Checks.{all_differ}
use Rattle.well_formed.proofs.References.{true_eq, or_left, or_rights, and_first, and_second}
use Rattle.type_check.specs.Typed.{IsFine}
use Rattle.accepted_files.proofs.Files.{processes_differ}
use Rattle.source_check.specs.Source.{IsFileOf, IsAccepted}
use Rattle.source_check.specs.declared.rules.Rules.TheVariants.{All}
use Rattle.chor_lexer.proofs.DistinctTables.{distinct_names, distinct_texts}
use Rattle.canonical_laws.proofs.Tables.{are_words}
use Rattle.event_reader.specs.Known.{AreWords, ProcessesDiffer, IsBook}
use Rattle.program_runs.specs.Books.{book_of}

-- what stands in a list is among it
there : (xs : List NameId) (i : ℕ) (x : NameId) → slice_get xs i ≡ Some x → is_among xs x ≡ true
there [] i x e = absurd cc
there (y ∷ xs) zero x e = let same : y ≡ x = cc in or_left (y.0 == x.0) (is_among xs x) (ap (λ (z : NameId). z.0 == x.0) same ∙ true_eq x.0)
there (y ∷ xs) (suc i) x e = or_rights (y.0 == x.0) (is_among xs x) (there xs i x e)

not_there : (b : Bool) → not b ≡ true → b ≡ true → ⊥
not_there true e q = cc
not_there false e q = cc

differ : (xs : List NameId) → all_differ xs ≡ true → ProcessesDiffer xs
differ [] d p q x e f = absurd cc
differ (y ∷ xs) d zero zero x e f = refl
differ (y ∷ xs) d zero (suc q) x e f = let same : x ≡ y = cc in absurd (not_there (is_among xs y) (and_first _ _ d) (subst (λ (z : NameId). is_among xs z ≡ true) same (there xs q x f)))
differ (y ∷ xs) d (suc p) zero x e f = let same : x ≡ y = cc in absurd (not_there (is_among xs y) (and_first _ _ d) (subst (λ (z : NameId). is_among xs z ≡ true) same (there xs p x e)))
differ (y ∷ xs) d (suc p) (suc q) x e f = ap suc (differ xs (and_second _ _ d) p q x e f)

pub book_kept : (words : List (List ℕ)) (f : File) → IsFine words f → AreWords f.names → AllDistinct f.names → AllDistinct f.texts → IsBook (book_of f)
book_kept words f fine spelled names texts = record {
  words = spelled;
  names = names;
  texts = texts;
  processes = differ (names_in f.processes) (processes_differ f words (record { names = fine.names; protocols = fine.protocols; types = fine.types }));
}

pub read_words : (bytes : List ℕ) (f : File) → IsFileOf bytes f → AreWords f.names
read_words bytes f r n w e = (are_words r.are n w e).0

-- the book of an accepted source tells things apart
pub book_accepted : (words : List (List ℕ)) (bytes : List ℕ) (f : File) → IsAccepted All words bytes f → IsBook (book_of f)
book_accepted words bytes f a = record {
  words = read_words bytes f a.file;
  names = distinct_names a.file.are;
  texts = distinct_texts a.file.are;
  processes = differ (names_in f.processes) (processes_differ f words (record { names = a.faultless.0; protocols = a.faultless.1.0; types = a.faultless.1.1.1.0 }));
}
