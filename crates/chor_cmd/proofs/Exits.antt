-- The exits of a command, as ways through its row.
use Rattle.std.proofs.Common.{◌≡◌, ◌≢◌, ◌≤◌, inl, inr, ℕ, suc, Bool, true, false, List, [], ◌∷◌, length, refl, sym, ap, ◌∙◌, subst, arith}
use Rattle.std.specs.Prelude.{Result, Ok, Err, IfErr, IsErrAnd, Contains, get_or, ⊤}
use Rattle.chor_base.specs.declared.rule.Denied.{Denied}
use Rattle.chor_base.specs.declared.rule.Denied.TheVariants as denied
use Rattle.chor_base.specs.declared.rule.Refusal.{Refusal}
use Rattle.chor_tree.specs.declared.file.File.{File}
use Rattle.chor_host.specs.Functions.{Function, names_of}
use Rattle.chor_io.specs.Outside.{Risen, ShelfState, SinkState}
use Rattle.command_words.specs.declared.words.Words.{Words}
use Rattle.command_words.specs.declared.words.Command.{Command}
use Rattle.command_words.specs.Words.{AreForm, IsForm, HasForm, HasNoForm, name_of}
use Rattle.command_words.specs.Tables.{file_count}
use Rattle.source_check.specs.declared.rules.Rules.{Rules}
use Rattle.source_check.specs.Classes.{classes_of}
use Rattle.source_check.specs.Source.{IsBroken, Violates, unread, broken}
use Rattle.endpoint_code.specs.declared.endpoints.Endpoints.{Endpoints}
use Rattle.endpoint_check.specs.Programs.{ViolatesPrograms}
use Rattle.command_words.specs.declared.options.Options.{Options}
use Rattle.command_words.specs.declared.words.Command.TheVariants.{Exec}
use Rattle.chor_cmd.specs.Runs.{IsAskedTranscript, AsksWorkers, workers_of}
use Rattle.chor_cmd.specs.Status.{status_of, executed_status}
use Rattle.chor_stream.specs.declared.finish.Finished.TheVariants as finished
use Rattle.program_runs.specs.declared.streaming.ExecutedTo.{ExecutedTo}
use Rattle.program_runs.specs.declared.streaming.ExecutedTo.TheVariants as executed
use Rattle.program_runs.specs.ByWorkers.{IsTranscriptBy}
use Rattle.program_runs.specs.Streams.{WritesTranscript, IsExecutedTo}
use Rattle.chor_cmd.specs.declared.status.Status.{Status}
use Rattle.chor_cmd.specs.declared.status.Status.TheVariants as status
use Rattle.chor_cmd.specs.declared.status.Status.TheVariants.{Done, Usage}
use Rattle.chor_cmd.specs.declared.ending.Ending.{Ending}
use Rattle.chor_cmd.specs.declared.ending.Stop.{Stop}
use Rattle.chor_cmd.specs.declared.ending.Stop.TheVariants.{Refused, ReadFault, TooLarge, Memory}
use Rattle.chor_cmd.specs.Outputs.{usage_line, refused_line, read_fault_line, too_large_line}
use Rattle.chor_cmd.specs.Endings.{Told, MayTell, Goes, Ends, usage, read_fault, goes, HasWritten}
use Rattle.chor_cmd.specs.Calls.{Call, HasEnded}
use Rattle.chor_cmd.proofs.AskedRuns.{closed_transcript}
use Rattle.chor_cmd.proofs.Written.{written_so}
use Rattle.chor_cmd.specs.Rows.{Row, Reads, Judges, Writes, AtMost, Exactly, IsDoneWith, IsFineSource, ArePrograms, OfSource, executes, source_limit, programs_limit, after_source, after_programs, on_source, row_of}
use Rattle.chor_cmd.specs.Stops.{HasFetched, HasFetchedFile, HasFetchedSource, HasFetchedPrograms, IsNoText, IsUnread, IsStop, AnswersByRow, Answers, StopSays, AnswerSays, SaysByRow, HasSaid, stop_of}

-- exactly this is said
pub exactly : (P : Status → List ℕ → Type 0) (s : Status) (t : List ℕ) (s' : Status) (t' : List ℕ) → Exactly s t s' t' → P s t → P s' t'
exactly P s t s' t' is p = subst (λ (x : Status). P x t') (sym is.0) (subst (λ (x : List ℕ). P s x) (sym is.1) p)

-- ---- errors

-- a result that is this error
pub err_is : {X E : Type 0} (P : E → Type 0) (r : Result X E) (e : E) → IsErrAnd r (λ d. d ≡ e) → P e → IfErr r P
err_is P (Ok x) e h p = absurd h
err_is P (Err d) e h p = subst P (sym h) p

module _ (row : Row) (names : List (List ℕ)) (before after : ShelfState) where
  pub stopped : (r : Result Ending Stop) (stop : Stop) → IsErrAnd r (λ s. s ≡ stop) → IsStop row names before after stop → AnswersByRow row names before after r
  stopped (Ok e) stop is h = absurd is
  stopped (Err s) stop is h = subst (IsStop row names before after) (sym is) h

  pub out_of_memory : (r : Result Ending Stop) → IsErrAnd r (λ s. s ≡ Memory) → AnswersByRow row names before after r
  out_of_memory r is = stopped r Memory is tt

-- a name among some is among more
later : (name : List ℕ) (names : List (List ℕ)) (other : List ℕ) → Contains names other → Contains (name ∷ names) other
later name names other (i, less, is) = (suc i, omega (arith, less), is)

-- where no count has fallen before a fetch
risen_since : (a b c : ℕ) → a ≤ b → Risen b c → Risen a c
risen_since a b c le (inl lt) = inl (omega arith)
risen_since a b c le (inr top) = inr top

-- ---- the first file

module _ (limit : ℕ) (before after : ShelfState) (name : List ℕ) where
  -- what is broken so is broken otherwise
  pub unread_so : (P Q : List ℕ → Refusal → Type 0) → ((bytes : List ℕ) (r : Refusal) → P bytes r → Q bytes r) → (stop : Stop) → IsUnread limit P before after name stop → IsUnread limit Q before after name stop
  unread_so P Q so (Refused r) h = (h.0, h.1, so h.0 r h.2)
  unread_so P Q so (ReadFault w) h = h
  unread_so P Q so (TooLarge w) h = h
  unread_so P Q so Memory h = h

  -- bytes that were read and are denied
  pub denied_so : (Broken : List ℕ → Refusal → Type 0) (bytes : List ℕ) → HasFetched limit before name bytes → (d : Denied) → ((r : Refusal) → d ≡ denied.Refused r → Broken bytes r) → IsUnread limit Broken before after name (stop_of d)
  denied_so Broken bytes read (denied.Refused r) so = (bytes, read, so r refl)
  denied_so Broken bytes read denied.Memory so = tt

  module _ (names : List (List ℕ)) where
    -- a file that is read next
    pub stops_reading : (next : List ℕ → Row) (stop : Stop) → IsUnread limit (λ bytes r. ⊥) before after name stop → IsStop (Reads (AtMost limit) next) (name ∷ names) before after stop
    stops_reading next (Refused r) h = absurd h.2
    stops_reading next (ReadFault w) (is, risen) = ((0, omega arith, sym is), subst (λ (n : List ℕ). Risen (before.faults n) (after.faults n)) (sym is) risen)
    stops_reading next (TooLarge w) (is, (bytes, told, long)) = (bytes, told, inl (λ few. absurd (omega (arith, few, long)), (refl, ap too_large_line is)))
    stops_reading next Memory h = tt

    -- and judged
    module _ (Fine : List ℕ → Type 0) (Broken : List ℕ → Refusal → Type 0) (next : List ℕ → Row) where
      abbrev judging : Row
      judging = Reads (AtMost limit) (λ bytes. Judges (Fine bytes) (Broken bytes) (next bytes))

      pub stops_judging : (stop : Stop) → IsUnread limit Broken before after name stop → IsStop judging (name ∷ names) before after stop
      stops_judging (Refused r) h = (h.0, h.1.0, inr (h.1.1, inl (r, h.2, (refl, refl))))
      stops_judging (ReadFault w) (is, risen) = ((0, omega arith, sym is), subst (λ (n : List ℕ). Risen (before.faults n) (after.faults n)) (sym is) risen)
      stops_judging (TooLarge w) (is, (bytes, told, long)) = (bytes, told, inl (λ few. absurd (omega (arith, few, long)), (refl, ap too_large_line is)))
      stops_judging Memory h = tt

      -- what is made of the files after it
      module _ (bytes : List ℕ) (now : ShelfState) (read : HasFetched limit before name bytes) (fine : Fine bytes) (same : now.files ≡ before.files) (rises : (other : List ℕ) → before.faults other ≤ now.faults other) where
        on : (s : Status) (t : List ℕ) → Goes (MayTell now.files) names (next bytes) s t → Goes (MayTell before.files) (name ∷ names) judging s t
        on s t way = (bytes, read.0, inr (read.1, inr (fine, subst (λ (files : Told). Goes (MayTell files) names (next bytes) s t) same way)))

        pub goes_on : (r : Result Ending Stop) → AnswersByRow (next bytes) names now after r → AnswersByRow judging (name ∷ names) before after r
        goes_on (Ok e) way = on e.status e.text.items way
        goes_on (Err (Refused r)) way = on status.Refused (refused_line r) way
        goes_on (Err (ReadFault w)) (among, risen) = (later name names w.now among, risen_since (before.faults w.now) (now.faults w.now) (after.faults w.now) (rises w.now) risen)
        goes_on (Err (TooLarge w)) way = on status.TooLarge (too_large_line w.now) way
        goes_on (Err Memory) way = tt

-- a file that was read and breaks some rules
pub broken_so : (rules : Rules) (words : List (List ℕ)) (before after : ShelfState) (name : List ℕ) (f : File) → HasFetchedFile before name f → (d : Denied) → IsBroken (classes_of rules) words f d
    → IsUnread source_limit (Violates rules words) before after name (stop_of d)
broken_so rules words before after name f (bytes, read, is) d denied =
    denied_so source_limit before after name (Violates rules words) bytes read d (λ r e. broken is (subst (IsBroken (classes_of rules) words f) e denied))

-- ---- commands on a source, or on endpoint programs

module _ (functions : List Function) (before after : ShelfState) (name : List ℕ) where
  abbrev words : List (List ℕ)
  words = names_of functions

  pub source_stops : (rules : Rules) (next : List ℕ → Row) (names : List (List ℕ)) (r : Result Ending Stop) (stop : Stop) → IsErrAnd r (λ s. s ≡ stop) → IsUnread source_limit (Violates rules words) before after name stop
      → AnswersByRow (after_source functions rules next) (name ∷ names) before after r
  source_stops rules next names r stop is why =
      stopped (after_source functions rules next) (name ∷ names) before after r stop is (stops_judging source_limit before after name names (IsFineSource functions rules) (Violates rules words) next stop why)

  pub programs_stop : (next : List ℕ → Row) (names : List (List ℕ)) (r : Result Ending Stop) (stop : Stop) → IsErrAnd r (λ s. s ≡ stop) → IsUnread programs_limit (ViolatesPrograms words) before after name stop
      → AnswersByRow (after_programs functions next) (name ∷ names) before after r
  programs_stop next names r stop is why =
      stopped (after_programs functions next) (name ∷ names) before after r stop is (stops_judging programs_limit before after name names (ArePrograms functions) (ViolatesPrograms words) next stop why)

  module _ (rules : Rules) (Says : File → List ℕ → Type 0) where
    -- what follows the source
    abbrev rest : List ℕ → Row
    rest bytes = Writes (OfSource functions rules Says bytes)

    -- a source that isn't read or is refused
    pub one_stops : (r : Result Ending Stop) (stop : Stop) → IsErrAnd r (λ s. s ≡ stop) → IsUnread source_limit (Violates rules words) before after name stop → AnswersByRow (on_source functions rules Says) (name ∷ []) before after r
    one_stops r stop is why = source_stops rules rest [] r stop is why

    -- one that isn't read, or is refused by the rules of tokens and of the grammar
    pub one_stops_reading : (r : Result Ending Stop) (stop : Stop) → IsErrAnd r (λ s. s ≡ stop) → IsUnread source_limit IsNoText before after name stop → AnswersByRow (on_source functions rules Says) (name ∷ []) before after r
    one_stops_reading r stop is h = one_stops r stop is (unread_so source_limit before after name IsNoText (Violates rules words) (λ bytes r h. unread h.0 h.1) stop h)

    -- one that was read, and is refused by other rules
    pub one_is_broken : (f : File) → HasFetchedFile before name f → (d : Denied) → IsBroken (classes_of rules) words f d → (r : Result Ending Stop) → IsErrAnd r (λ s. s ≡ stop_of d) → AnswersByRow (on_source functions rules Says) (name ∷ []) before after r
    one_is_broken f read d denied r is = one_stops r (stop_of d) is (broken_so rules words before after name f read d denied)

    -- and one for which the command is done
    pub one_is_done : (f : File) (text : List ℕ) → HasFetchedSource rules words before name f → Says f text → Goes (MayTell before.files) (name ∷ []) (on_source functions rules Says) status.Done text
    one_is_done f text (bytes, read, accepted) says = (bytes, read.0, inr (read.1, inr ((f, accepted), (refl, (f, accepted, says)))))

  -- a run of endpoint programs is done, or is stuck
  pub execution : (options : Options) (e : Endpoints) (text : List ℕ) (stuck : Bool) → HasFetchedPrograms words before name e → IsAskedTranscript functions e options text stuck
      → Goes (MayTell before.files) (name ∷ []) (row_of functions (Exec options)) (status_of stuck) text
  execution options e text stuck (bytes, read, are) run = (bytes, read.0, inr (read.1, inr ((e, are), executes {text = text} stuck (record { programs = e; are = are; run = run }))))

-- ---- what a call says

module _ (functions : List Function) (words : Words) (command : Command) (names : List (List ℕ)) (form : IsForm words command names) (before after : ShelfState) where
  abbrev Way : Status → List ℕ → Type 0
  Way s t = Goes (MayTell before.files) names (row_of functions command) s t

  by_row : (s : Status) (t : List ℕ) → Way s t → Ends functions words before after s t
  by_row s t way = goes command names form way

  stop_ends : (stop : Stop) → IsStop (row_of functions command) names before after stop → (s : Status) (t : List ℕ) → StopSays stop s t → Ends functions words before after s t
  stop_ends (Refused r) way s t is = by_row s t (exactly Way status.Refused (refused_line r) s t is way)
  stop_ends (ReadFault w) (among, risen) s t is = exactly (Ends functions words before after) status.ReadFault (read_fault_line w.now) s t is (read_fault w.now (record { command = command; names = names; form = form; among = among }) risen)
  stop_ends (TooLarge w) way s t is = by_row s t (exactly Way status.TooLarge (too_large_line w.now) s t is way)
  stop_ends Memory way s t is = absurd is

  said_ends : (s : Status) (t : List ℕ) → SaysByRow (row_of functions command) names before after s t → Ends functions words before after s t
  said_ends s t (inl way) = by_row s t way
  said_ends s t (inr (stop, why, is)) = stop_ends stop why s t is

  answer_ends : (r : Result Ending Stop) → Answers functions command names before after r → (s : Status) (t : List ℕ) → AnswerSays r s t → Ends functions words before after s t
  answer_ends (Ok e) way s t is = by_row s t (exactly Way e.status e.text.items s t is way)
  answer_ends (Err stop) way s t is = stop_ends stop way s t is

-- a call with words of a form, of which a command's answer was written
pub answer_ended : (call : Call) (command : Command) (names : List (List ℕ)) → IsForm call.words command names → (r : Result Ending Stop) → Answers call.functions command names call.shelf call.shelf' r
    → HasWritten (AnswerSays r) ⊤ ⊥ call.sink call.sink' call.status → HasEnded call
answer_ended call command names form r way written =
    written_so call.sink call.sink' (AnswerSays r) (Ends call.functions call.words call.shelf call.shelf') ⊤ (HasForm call.words) ⊥ (AsksWorkers call.words)
    (answer_ends call.functions call.words command names form call.shelf call.shelf' r way) (λ u. record { command = command; names = names; form = form }) (λ u. absurd u) call.status written

-- one whose command wrote by itself
pub said_ended : (call : Call) (command : Command) (names : List (List ℕ)) → IsForm call.words command names
    → HasSaid call.functions command names call.shelf call.shelf' call.sink call.sink' call.status → HasEnded call
said_ended call command names form said =
    written_so call.sink call.sink' (SaysByRow (row_of call.functions command) names call.shelf call.shelf') (Ends call.functions call.words call.shelf call.shelf') ⊤ (HasForm call.words)
    (workers_of command ≢ 0) (AsksWorkers call.words)
    (said_ends call.functions call.words command names form call.shelf call.shelf') (λ u. record { command = command; names = names; form = form })
    (λ some. record { command = command; names = names; form = form; some = some }) call.status said

-- and one with words of none
pub usage_ended : (call : Call) → HasNoForm call.words → (text : List ℕ) → text ≡ usage_line → HasWritten (Exactly Usage text) ⊥ ⊥ call.sink call.sink' call.status → HasEnded call
usage_ended call none text is written =
    written_so call.sink call.sink' (Exactly Usage text) (Ends call.functions call.words call.shelf call.shelf') ⊥ (HasForm call.words) ⊥ (AsksWorkers call.words)
    (λ s t said. exactly (Ends call.functions call.words call.shelf call.shelf') Usage usage_line s t (said.0, said.1 ∙ is) (usage none)) (λ u. absurd u) (λ u. absurd u) call.status written

-- the line of a stop was written
pub stop_written : (stop : Stop) (ending : Ending) (text : List ℕ) → text ≡ ending.text.items → StopSays stop ending.status ending.text.items
    → (sink sink' : SinkState) (status : Status) → HasWritten (Exactly ending.status text) ⊥ ⊥ sink sink' status → HasWritten (StopSays stop) ⊤ ⊥ sink sink' status
stop_written stop ending text text_is says sink sink' status written =
    written_so sink sink' (Exactly ending.status text) (StopSays stop) ⊥ ⊤ ⊥ ⊥ (λ s t said. exactly (StopSays stop) ending.status ending.text.items s t (said.0, said.1 ∙ text_is) says) (λ u. absurd u) (λ u. u) status written

-- what is said of a command and the only file that its words name
pub for_one : (words : List (List ℕ)) (command : Command) (files : List (List ℕ)) → AreForm words command files → (d : Command) → command ≡ d → file_count (name_of d) ≡ 1
    → (name : List ℕ) → name ≡ get_or files 0 name → (P : Command → List (List ℕ) → Type 0) → P d (name ∷ []) → P command files
for_one words command files form d is one name first P p = go files (form.count ∙ ap (λ c. file_count (name_of c)) is ∙ one) first
  where
    go : (files : List (List ℕ)) → length files ≡ 1 → name ≡ get_or files 0 name → P command files
    go [] count first = absurd (omega (arith, count))
    go (file ∷ []) count first = subst (λ (c : Command). P c (file ∷ [])) (sym is) (subst (λ (n : List ℕ). P d (n ∷ [])) first p)
    go (file ∷ more ∷ rest) count first = absurd (omega (arith, count))

-- and of one with two files
pub for_two : (words : List (List ℕ)) (command : Command) (files : List (List ℕ)) → AreForm words command files → (d : Command) → command ≡ d → file_count (name_of d) ≡ 2
    → (a b : List ℕ) → a ≡ get_or files 0 a → b ≡ get_or files 1 b → (P : Command → List (List ℕ) → Type 0) → P d (a ∷ b ∷ []) → P command files
for_two words command files form d is two a b first second P p = go files (form.count ∙ ap (λ c. file_count (name_of c)) is ∙ two) first second
  where
    go : (files : List (List ℕ)) → length files ≡ 2 → a ≡ get_or files 0 a → b ≡ get_or files 1 b → P command files
    go [] count first second = absurd (omega (arith, count))
    go (x ∷ []) count first second = absurd (omega (arith, count))
    go (x ∷ y ∷ []) count first second =
        subst (λ (c : Command). P c (x ∷ y ∷ [])) (sym is) (subst (λ (n : List ℕ). P d (n ∷ y ∷ [])) first (subst (λ (m : List ℕ). P d (a ∷ m ∷ [])) second p))
    go (x ∷ y ∷ z ∷ rest) count first second = absurd (omega (arith, count))

-- what it makes of it
pub at_one : (functions : List Function) (words : List (List ℕ)) (command : Command) (files : List (List ℕ)) → AreForm words command files → (d : Command) → command ≡ d → file_count (name_of d) ≡ 1
    → (name : List ℕ) → name ≡ get_or files 0 name → (before after : ShelfState) (r : Result Ending Stop) → Answers functions d (name ∷ []) before after r → Answers functions command files before after r
at_one functions words command files form d is one name first before after r way =
    for_one words command files form d is one name first (λ c names. Answers functions c names before after r) way

-- ---- a command that writes by itself

module _ (functions : List Function) (command : Command) (names : List (List ℕ)) (before after : ShelfState) (sink sink' : SinkState) (how : Status) where
  abbrev Said : Status → List ℕ → Type 0
  Said = SaysByRow (row_of functions command) names before after

  -- it stopped, and its line was written
  pub stop_said : (stop : Stop) → IsStop (row_of functions command) names before after stop → HasWritten (StopSays stop) ⊤ ⊥ sink sink' how → HasSaid functions command names before after sink sink' how
  stop_said stop why written = written_so sink sink' (StopSays stop) Said ⊤ ⊤ ⊥ (workers_of command ≢ 0) (λ s t is. inr (stop, why, is)) (λ u. u) (λ u. absurd u) how written

  -- exactly this was written
  pub line_said : (s : Status) (text : List ℕ) → Goes (MayTell before.files) names (row_of functions command) s text → HasWritten (Exactly s text) ⊥ ⊥ sink sink' how → HasSaid functions command names before after sink sink' how
  line_said s text way written =
      written_so sink sink' (Exactly s text) Said ⊥ ⊤ ⊥ (workers_of command ≢ 0) (λ x t is. inl (exactly (λ y u. Goes (MayTell before.files) names (row_of functions command) y u) s text x t is way)) (λ u. absurd u) (λ u. absurd u) how written

  -- a text with which it is done was written, or a part of it
  pub done_said : workers_of command ≢ 0 → (Says : List ℕ → Type 0) → ((t : List ℕ) → Says t → Goes (MayTell before.files) names (row_of functions command) Done t) → HasWritten (IsDoneWith Says) ⊤ ⊤ sink sink' how
      → HasSaid functions command names before after sink sink' how
  done_said some Says so written =
      written_so sink sink' (IsDoneWith Says) Said ⊤ ⊤ ⊤ (workers_of command ≢ 0) (λ s t is. inl (subst (λ (x : Status). Goes (MayTell before.files) names (row_of functions command) x t) (sym is.0) (so t is.1))) (λ u. u) (λ u. some) how written

  -- an answer was written
  pub answer_said : (r : Result Ending Stop) → Answers functions command names before after r → HasWritten (AnswerSays r) ⊤ ⊥ sink sink' how → HasSaid functions command names before after sink sink' how
  answer_said (Ok e) way written = written_so sink sink' (AnswerSays (Ok e)) Said ⊤ ⊤ ⊥ (workers_of command ≢ 0)
      (λ s t is. inl (exactly (λ y u. Goes (MayTell before.files) names (row_of functions command) y u) e.status e.text.items s t is way)) (λ u. u) (λ u. absurd u) how written
  answer_said (Err stop) way written = stop_said stop way written

-- the transcript of a run of endpoint programs was written, or a part of it
module _ (functions : List Function) (before after : ShelfState) (name : List ℕ) (options : Options) (e : Endpoints) (read : HasFetchedPrograms (names_of functions) before name e) (some : options.workers ≢ 0) (sink sink' : SinkState) where
  abbrev SaidBy : Status → Type 0
  SaidBy status = HasSaid functions (Exec options) (name ∷ []) before after sink sink' status

  of_run : (stuck : Bool) (text : List ℕ) → IsTranscriptBy functions e options.capacity options.steps text stuck → SaysByRow (row_of functions (Exec options)) (name ∷ []) before after (status_of stuck) text
  of_run stuck text t = inl (execution functions before after name options e text stuck read (closed_transcript functions e options text stuck some t))

  whole : (stuck : Bool) → WritesTranscript functions e options.capacity options.steps stuck finished.Written sink sink' → SaidBy (status_of stuck)
  whole true x = (x.text, of_run true x.text x.transcript, x.finishes)
  whole false x = (x.text, of_run false x.text x.transcript, x.finishes)

  pub executed_said : (answer : ExecutedTo) → IsExecutedTo functions e options.capacity options.steps sink sink' answer → SaidBy (executed_status answer)
  executed_said (executed.Written stuck) x = whole stuck x
  executed_said executed.Failed (stuck, x) = (x.finishes.0, (status_of stuck, x.text, of_run stuck x.text x.transcript, x.finishes.1))
  executed_said executed.Memory (stuck, x) = (tt, inr (some, (status_of stuck, x.text, of_run stuck x.text x.transcript, x.finishes)))
