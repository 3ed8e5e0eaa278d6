-- A source that is judged by the rules of names, protocols and views.
use Rattle.std.proofs.Common.{◌≡◌, ℕ, zero, suc, List, [], ◌∷◌, Some, refl, sym, ◌∙◌}
use Rattle.std.specs.Prelude.{slice_get}
use Rattle.chor_base.specs.declared.names.NameId.{NameId}
use Rattle.chor_base.specs.Words.{AllDistinct}
use Rattle.chor_tree.specs.declared.file.File.{File}
use Rattle.chor_tree.specs.declared.file.Named.{Named}
use Rattle.chor_tree.specs.Names.{names_in, in_a_declaration}
use Rattle.conform.specs.Judged.{IsFit}
use Rattle.conform.proofs.Declared.{processes_differ, one_place}
use Rattle.event_reader.specs.Known.{AreWords, ProcessesDiffer, IsBook}
use Rattle.program_runs.specs.Books.{book_of}
use Rattle.conforming_logs.specs.Logs.{IsJudgeable}

pub fit : (f : File) → IsJudgeable f → IsFit f
fit f (hosts, judged) = record { names = λ x m. judged.0 x (in_a_declaration m); views = judged.1.1.0 }

-- who stands at a place among the names
named_at : (xs : List Named) (i : ℕ) (x : NameId) → slice_get (names_in xs) i ≡ Some x → (n : Named) × (slice_get xs i ≡ Some n) × (n.name ≡ x)
named_at [] i x h = absurd cc
named_at (y ∷ ys) zero x h = let same : y.name ≡ x = cc in (y, refl, same)
named_at (y ∷ ys) (suc i) x h = named_at ys i x h

differ : (f : File) → IsFit f → ProcessesDiffer (names_in f.processes)
differ f ok i j x e g =
    let a = named_at f.processes i x e in
    let b = named_at f.processes j x g in
    one_place f.processes (processes_differ f ok) i j a.0 b.0 a.1 b.1 (a.2 ∙ sym b.2)

pub book_kept : (f : File) → IsFit f → AreWords f.names → AllDistinct f.names → AllDistinct f.texts → IsBook (book_of f)
book_kept f ok spelled names texts = record { words = spelled; names = names; texts = texts; processes = differ f ok }
