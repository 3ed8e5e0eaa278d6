-- The endpoint programs of a source are told with its book.
use Rattle.std.proofs.Common.{◌≡◌, List, [], ◌∷◌, map, refl}
use Rattle.std.specs.List.{AllZip}
use Rattle.chor_base.specs.declared.names.NameId.{NameId}
use Rattle.chor_tree.specs.declared.file.Named.{Named}
use Rattle.chor_tree.specs.Names.{names_in}
use Rattle.chor_tree.specs.declared.file.File.{File}
use Rattle.endpoint_code.specs.declared.endpoints.Process.{Process}
use Rattle.endpoint_code.specs.declared.endpoints.Endpoints.{Endpoints}
use Rattle.projection.specs.Projects.{IsProcessOf, Projects}
use Rattle.program_runs.specs.Transcripts as programs
use Rattle.program_runs.specs.Books.{book_of}

processes_named : (f : File) (e : Endpoints) (ps : List Named) (qs : List Process) → AllZip (IsProcessOf f e) ps qs → map (λ q. q.name) qs ≡ names_in ps
processes_named f e [] [] h = refl
processes_named f e [] (q ∷ qs) h = absurd h
processes_named f e (p ∷ ps) [] h = absurd h
processes_named f e (p ∷ ps) (q ∷ qs) h = λ i. h.0.name i ∷ processes_named f e ps qs h.1 i

pub same_book : (f : File) (e : Endpoints) → Projects f e → programs.book_of e ≡ book_of f
same_book f e p = let named = processes_named f e f.processes e.processes p.processes in λ i. record { names = p.names i; texts = p.texts i; processes = named i }
