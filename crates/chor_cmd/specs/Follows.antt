-- What follows for a call from how it has ended, and which status comes.
use Rattle.std.specs.Prelude.{ℕ, ◌≡◌, ◌≤◌, Bool, List, [], ◌∷◌, length}
use Rattle.chor_host.specs.Functions.{names_of}
use Rattle.chor_tree.specs.declared.file.File.{File}
use Rattle.chor_print.specs.Text.{canonical_text}
use Rattle.command_words.specs.declared.words.Command.TheVariants.{Fmt, Exec}
use Rattle.command_words.specs.declared.options.Options.{Options}
use Rattle.command_words.specs.Words.{IsForm}
use Rattle.source_check.specs.Source.{IsFileOf}
use Rattle.endpoint_code.specs.declared.endpoints.Endpoints.{Endpoints}
use Rattle.endpoint_check.specs.Programs.{AreProgramsOf}
use Rattle.chor_cmd.specs.Runs.{IsAskedTranscript, AsksNoWorkers}
use Rattle.chor_cmd.specs.declared.status.Status.TheVariants.{Done, Memory}
use Rattle.chor_cmd.specs.Status.{status_of}
use Rattle.chor_cmd.specs.Endings.{Tells}
use Rattle.chor_cmd.specs.Rows.{source_limit, programs_limit}
use Rattle.chor_cmd.specs.Calls.{Call, HasEnded, IsSettled, Comes}

-- `fmt`, for a source that is told: its canonical text, whichever file of these bytes is read
abbrev pub WritesCanonical : Type 0
WritesCanonical =
    (call : Call) → IsSettled call → (name bytes : List ℕ) (f : File) → IsForm call.words Fmt (name ∷ []) → Tells call.shelf.files name bytes → length bytes ≤ source_limit → IsFileOf bytes f
    → Comes call (λ status text. (status ≡ Done) × (text ≡ canonical_text f))

-- `fmt`, for the canonical text of a file that was read: the same text again
abbrev pub KeepsCanonical : Type 0
KeepsCanonical =
    (call : Call) → HasEnded call → (name bytes : List ℕ) (f : File) → IsFileOf bytes f → IsForm call.words Fmt (name ∷ []) → Tells call.shelf.files name (canonical_text f) → length (canonical_text f) ≤ source_limit
    → Comes call (λ status text. (status ≡ Done) × (text ≡ canonical_text f))

-- `exec`, for bytes that are told and are the text of these endpoint programs: the transcript of a run of them, as the options ask for it, which is stuck or not
abbrev pub ExecutesThese : Type 0
ExecutesThese =
    (call : Call) → IsSettled call → (options : Options) (name bytes : List ℕ) (e : Endpoints) → IsForm call.words (Exec options) (name ∷ []) → Tells call.shelf.files name bytes → length bytes ≤ programs_limit
    → AreProgramsOf (names_of call.functions) bytes e
    → Comes call (λ status text. (stuck : Bool) × (status ≡ status_of stuck) × IsAskedTranscript call.functions e options text stuck)

-- a call whose words ask for no workers, and which ran out of memory, has written nothing
abbrev pub WritesNothing : Type 0
WritesNothing = (call : Call) → HasEnded call → AsksNoWorkers call.words → call.status ≡ Memory → call.sink'.written ≡ call.sink.written
