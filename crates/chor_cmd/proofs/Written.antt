-- What a call has written when it ends.
use Rattle.std.proofs.Common.{◌≡◌, inl, inr, ℕ, List, Option, Some, None, refl, sym, ap, ◌∙◌, subst}
use Rattle.std.specs.Prelude.{◌⊎◌, IsTrue, ⊤}
use Rattle.chor_io.specs.Outside.{PutTells, Risen, SinkState, Wrote, WroteFront}
use Rattle.chor_io.specs.declared.outside.Put.TheVariants as put
use Rattle.chor_stream.specs.declared.finish.Finished.{Finished}
use Rattle.chor_stream.specs.declared.finish.Finished.TheVariants as finished
use Rattle.chor_stream.specs.Lines.{Finishes}
use Rattle.chor_cmd.specs.declared.status.Status.{Status}
use Rattle.chor_cmd.specs.declared.status.Status.TheVariants.{Done, Refused, Usage, ReadFault, WriteFault, Memory, Unmatched, Stuck, TooLarge}
use Rattle.chor_cmd.specs.Endings.{HasWritten, BreaksOff}
use Rattle.chor_cmd.specs.Rows.{Exactly, IsDoneWith}
use Rattle.chor_cmd.specs.Status.{comes_with_text, finished_status}

wrote : (old new : Option (List ℕ)) (text : List ℕ) → PutTells old new text put.All → Wrote old new text
wrote None new text h = tt
wrote (Some old) new text h = h.1 ∙ ap Some h.2

wrote_front : (old new : Option (List ℕ)) (text : List ℕ) → PutTells old new text put.Failed → WroteFront old new text
wrote_front None new text h = tt
wrote_front (Some old) new text h = subst (λ (n : Option (List ℕ)). WroteFront (Some old) n text) (sym h.1) h.2

module _ (sink sink' : SinkState) where
  -- the whole text was written
  pub wrote_all : (status : Status) (text : List ℕ) → IsTrue (comes_with_text status) → PutTells sink.written sink'.written text put.All → HasWritten (Exactly status text) ⊥ ⊥ sink sink' status
  wrote_all Done text has h = (text, (refl, refl), wrote sink.written sink'.written text h)
  wrote_all Refused text has h = (text, (refl, refl), wrote sink.written sink'.written text h)
  wrote_all Usage text has h = (text, (refl, refl), wrote sink.written sink'.written text h)
  wrote_all ReadFault text has h = (text, (refl, refl), wrote sink.written sink'.written text h)
  wrote_all Unmatched text has h = (text, (refl, refl), wrote sink.written sink'.written text h)
  wrote_all Stuck text has h = (text, (refl, refl), wrote sink.written sink'.written text h)
  wrote_all TooLarge text has h = (text, (refl, refl), wrote sink.written sink'.written text h)
  wrote_all WriteFault text has h = absurd cc
  wrote_all Memory text has h = absurd cc

  -- the write failed after a front of it
  pub wrote_some : (status : Status) (text : List ℕ) → PutTells sink.written sink'.written text put.Failed → Risen sink.faults sink'.faults → HasWritten (Exactly status text) ⊥ ⊥ sink sink' WriteFault
  wrote_some status text h r = (r, (status, text, (refl, refl), wrote_front sink.written sink'.written text h))

  -- what may be said more weakly
  module _ (P Q : Status → List ℕ → Type 0) (M N I J : Type 0) (so : (s : Status) (t : List ℕ) → P s t → Q s t) (out : M → N) (parts : I → J) where
    breaks_so : BreaksOff P sink sink' → BreaksOff Q sink sink'
    breaks_so (s, t, p, front) = (s, t, so s t p, front)

    less_so : (sink'.written ≡ sink.written) ⊎ (I × BreaksOff P sink sink') → (sink'.written ≡ sink.written) ⊎ (J × BreaksOff Q sink sink')
    less_so (inl same) = inl same
    less_so (inr (i, b)) = inr (parts i, breaks_so b)

    pub written_so : (status : Status) → HasWritten P M I sink sink' status → HasWritten Q N J sink sink' status
    written_so Done h = (h.0, so Done h.0 h.1, h.2)
    written_so Refused h = (h.0, so Refused h.0 h.1, h.2)
    written_so Usage h = (h.0, so Usage h.0 h.1, h.2)
    written_so ReadFault h = (h.0, so ReadFault h.0 h.1, h.2)
    written_so Unmatched h = (h.0, so Unmatched h.0 h.1, h.2)
    written_so Stuck h = (h.0, so Stuck h.0 h.1, h.2)
    written_so TooLarge h = (h.0, so TooLarge h.0 h.1, h.2)
    written_so WriteFault h = (h.0, breaks_so h.1)
    written_so Memory h = (out h.0, less_so h.1)

  -- a text with which a call is done, by the answer of what wrote it
  pub finished_written : (Says : List ℕ → Type 0) (text : List ℕ) → Says text → (answer : Finished) → Finishes answer sink sink' text → HasWritten (IsDoneWith Says) ⊤ ⊤ sink sink' (finished_status answer)
  finished_written Says text says finished.Written f = (text, (refl, says), f)
  finished_written Says text says finished.Failed f = (f.0, (Done, text, (refl, says), f.1))
  finished_written Says text says finished.Memory f = (tt, inr (tt, (Done, text, (refl, says), f)))
