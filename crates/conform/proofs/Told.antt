-- What events tell with one event more.
use Rattle.std.proofs.Common.{◌≡◌, ℕ, ◌==◌, Bool, true, List, [], ◌∷◌, ◌++◌, Option, Some, refl, sym, ap, ◌∙◌, arith, append_assoc, if◌then◌else◌}
use Rattle.std.proofs.lemmas.List.{append-nil}
use Rattle.std.proofs.lemmas.Bool.Decides.{nat_tests}
use Rattle.chor_base.specs.declared.names.NameId.{NameId}
use Rattle.chor_base.specs.declared.value.Load.{Load}
use Rattle.chor_base.specs.declared.event.Event.{Event}
use Rattle.chor_base.specs.declared.event.Event.TheVariants.{Send, Recv}
use Rattle.chor_base.specs.Events.{Triple, sent_by, received_by, sent_on, received_on}
use Rattle.chor_semantics.specs.Choreography.{Ref, Live}
use Rattle.typed_sources.specs.Told.{Told, puts, gets, put_to, got_from, sending, receiving}
use Rattle.typed_sources.specs.Context.{told_load}
use Rattle.typed_sources.specs.Changes.{event_acts}
use Rattle.typed_sources.specs.History.{Account, told_by, told_after}

pub told_more : (kind : NameId → Option NameId) (s : Account) (before : List Event) (x : Event) → told_after kind s (before ++ x ∷ []) ≡ told_by kind (told_after kind s before) x
told_more kind s [] x = refl
told_more kind s (y ∷ ys) x = told_more kind (told_by kind s y) ys x

pub sent_more : (t : Triple) (h : List Event) (x : Event) → sent_on t (h ++ x ∷ []) ≡ sent_on t h ++ sent_by t x
sent_more t [] x = append-nil (sent_by t x)
sent_more t (y ∷ ys) x = ap (λ l. sent_by t y ++ l) (sent_more t ys x) ∙ sym (append_assoc (sent_by t y) (sent_on t ys) (sent_by t x))

pub received_more : (t : Triple) (h : List Event) (x : Event) → received_on t (h ++ x ∷ []) ≡ received_on t h ++ received_by t x
received_more t [] x = append-nil (received_by t x)
received_more t (y ∷ ys) x = ap (λ l. received_by t y ++ l) (received_more t ys x) ∙ sym (append_assoc (received_by t y) (received_on t ys) (received_by t x))

same_number : (n : ℕ) → (n == n) ≡ true
same_number n = grind (arith, nat_tests)

-- what a send adds to the sender's acts, and a receipt to the receiver's
pub sender_acts : (pr : Ref → Option NameId) (p s : ℕ) (a b : NameId) (l : Load) (w : Told) → told_load pr l ≡ Some w → event_acts pr (Send p s a b l) (Live s) a ≡ puts b w ∷ []
sender_acts pr p s a b l w says =
    ap (λ (t : Bool). if t then sending a b (told_load pr l) a else []) (same_number s) ∙ ap (λ (t : Bool). if t then put_to b (told_load pr l) else []) (same_number a.0) ∙ ap (put_to b) says

pub receiver_acts : (pr : Ref → Option NameId) (p s : ℕ) (a b : NameId) (l : Load) (w : Told) → told_load pr l ≡ Some w → event_acts pr (Recv p s a b l) (Live s) b ≡ gets a w ∷ []
receiver_acts pr p s a b l w says =
    ap (λ (t : Bool). if t then receiving a b (told_load pr l) b else []) (same_number s) ∙ ap (λ (t : Bool). if t then got_from a (told_load pr l) else []) (same_number b.0) ∙ ap (got_from a) says
