-- What each status says settles which status comes.
use Rattle.std.proofs.Common.{◌≡◌, ℕ, List, Some, None, refl, sym, ◌∙◌, subst}
use Rattle.chor_io.specs.Outside.{Wrote}
use Rattle.command_words.specs.declared.words.Command.{Command}
use Rattle.command_words.specs.Words.{IsForm, HasNoForm}
use Rattle.command_words.proofs.SameWords.{same_names, same_command}
use Rattle.chor_cmd.specs.declared.status.Status.{Status}
use Rattle.chor_cmd.specs.declared.status.Status.TheVariants.{Done, Refused, Usage, ReadFault, WriteFault, Memory, Unmatched, Stuck, TooLarge}
use Rattle.chor_cmd.specs.Outputs.{usage_line}
use Rattle.chor_cmd.specs.Endings.{Told, Tells, MayTell, Goes, usage, read_fault, goes}
use Rattle.chor_cmd.specs.Rows.{Exactly, row_of}
use Rattle.chor_cmd.specs.Calls.{Call, HasFailed, MayEnd, EndsBy, HasEnded, Comes, so, no_memory, unread, unwritten, IsUsage, IsSettled}
use Rattle.chor_cmd.proofs.Musts.{Grows, must}
use Rattle.chor_cmd.proofs.Clear.{is_clear}

pub same_bytes : (files : Told) (name b bytes : List ℕ) → MayTell files name b → Tells files name bytes → b ≡ bytes
same_bytes None name b bytes h t = absurd t
same_bytes (Some files) name b bytes h t = let same : Some b ≡ Some bytes = sym h ∙ t in cc

module _ (call : Call) where
  pub grows : Grows (Comes call)
  grows P Q f (so text says wrote) = so text (f call.status text says) wrote
  grows P Q f (no_memory form is) = no_memory form is
  grows P Q f (unread name failed is) = unread name failed is
  grows P Q f (unwritten risen is) = unwritten risen is

  -- a text that was written, or reading failed
  data Says (P : Status → List ℕ → Type 0) : Status → List ℕ → Type 0 where
    said : {s : Status} {t : List ℕ} → P s t → Says P s t
    failed : {t : List ℕ} (name : List ℕ) → HasFailed call name → Says P ReadFault t

  comes : (P : Status → List ℕ → Type 0) → ((s : Status) (t : List ℕ) → MayEnd call s t → Says P s t) → HasEnded call → Comes call P
  comes P f ended = go call.status refl ended
    where
      by : (s : Status) → call.status ≡ s → (t : List ℕ) → Says P s t → Wrote call.sink.written call.sink'.written t → Comes call P
      by s is t (said p) wrote = so t (subst (λ (x : Status). P x t) (sym is) p) wrote
      by s is t (failed name h) wrote = unread name h is

      go : (s : Status) → call.status ≡ s → EndsBy call s → Comes call P
      go Done is h = by Done is h.0 (f Done h.0 h.1) h.2
      go Refused is h = by Refused is h.0 (f Refused h.0 h.1) h.2
      go Usage is h = by Usage is h.0 (f Usage h.0 h.1) h.2
      go ReadFault is h = by ReadFault is h.0 (f ReadFault h.0 h.1) h.2
      go Unmatched is h = by Unmatched is h.0 (f Unmatched h.0 h.1) h.2
      go Stuck is h = by Stuck is h.0 (f Stuck h.0 h.1) h.2
      go TooLarge is h = by TooLarge is h.0 (f TooLarge h.0 h.1) h.2
      go WriteFault is h = unwritten h.0 is
      go Memory is h = no_memory h.0 is

  usual : HasNoForm call.words → (s : Status) (t : List ℕ) → MayEnd call s t → Says (Exactly Usage usage_line) s t
  usual none s t (usage i) = said (refl, refl)
  usual none s t (read_fault name n r) = failed name (n, r)
  usual none s t (goes c names form g) = absurd (none (record { command = c; names = names; form = form }))

  by_row : (command : Command) (names : List (List ℕ)) → IsForm call.words command names → (s : Status) (t : List ℕ) → MayEnd call s t
      → Says (Goes (MayTell call.shelf.files) names (row_of call.functions command)) s t
  by_row command names form s t (usage none) = absurd (none (record { command = command; names = names; form = form }))
  by_row command names form s t (read_fault name n r) = failed name (n, r)
  by_row command names form s t (goes c others other g) =
      said (subst (λ (x : Command). Goes (MayTell call.shelf.files) names (row_of call.functions x) s t) (same_command call.words c command others names other form)
      (subst (λ (ns : List (List ℕ)). Goes (MayTell call.shelf.files) ns (row_of call.functions c) s t) (same_names call.words c command others names other form) g))

  pub is_usage : HasEnded call → IsUsage call
  is_usage ended = λ none. comes (Exactly Usage usage_line) (usual none) ended

  pub by_table : HasEnded call → (command : Command) (names : List (List ℕ)) → IsForm call.words command names → Comes call (Goes (MayTell call.shelf.files) names (row_of call.functions command))
  by_table ended command names form = comes (Goes (MayTell call.shelf.files) names (row_of call.functions command)) (by_row command names form) ended

  pub is_settled : HasEnded call → IsSettled call
  is_settled ended = λ command names form.
      must (MayTell call.shelf.files) (Tells call.shelf.files) (same_bytes call.shelf.files) (Comes call) grows (row_of call.functions command) names (is_clear call.functions command) (by_table ended command names form)
