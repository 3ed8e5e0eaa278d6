-- Histories that grow by entries of one worker.
use Rattle.std.proofs.Common.{◌≡◌, ℕ, ◌+◌, false, List, [], ◌∷◌, ◌++◌, length, refl, sym, ap, ◌∙◌, subst, arith, append-nil, append_assoc, length-append}
use Rattle.std.specs.Prelude.{All, Any}
use Rattle.std.proofs.lemmas.List.Elements.{All-nil, All-cons, All-append}
use Rattle.std.proofs.lemmas.List.{length-set}
use Rattle.chor_base.specs.declared.event.Entry.{Entry}
use Rattle.chor_base.specs.declared.event.Event.{Event}
use Rattle.chor_base.specs.declared.event.Event.TheVariants as event
use Rattle.chor_base.specs.Events.{actors_of}
use Rattle.endpoint_code.specs.declared.endpoints.Endpoints.{Endpoints}
use Rattle.post_office.specs.declared.desk.Desk.{Desk}
use Rattle.post_office.specs.Answers.{IsSame, HasNoted, HasActed}
use Rattle.post_office.specs.Views.{OfficeView, made_busy}
use Rattle.post_office.proofs.Steps.{is_start}
use Rattle.crew.specs.declared.share.Share.{Share}
use Rattle.post_office.specs.Owners.{owner, makers_of, IsMadeByOwner}
use Rattle.crew.specs.Turns.{IsOwnEntry, Adds, StartsNone}
use Rattle.crew.proofs.Numbers.{number}
use Rattle.crew.proofs.Notes.{owned_number}

pub adds_none : (h : Share) (old new : OfficeView) → IsSame old new → Adds h old new
adds_none h old new s = record { endpoints = s.endpoints; hosts = s.hosts; capacity = s.capacity; entries = []; history = s.history ∙ sym (append-nil old.history); own = All-nil (IsOwnEntry h old.endpoints) }

pub adds_one : (h : Share) (old mid new : OfficeView) (w : ℕ) (x : Event) → IsSame old mid → HasNoted mid w x new → w ≡ h.worker + 1 → IsMadeByOwner h.workers old.endpoints (record { worker = w; event = x }) → Adds h old new
adds_one h old mid new w x s n worker owner = record {
  endpoints = n.endpoints ∙ s.endpoints;
  hosts = n.hosts ∙ s.hosts;
  capacity = n.capacity ∙ s.capacity;
  entries = record { worker = w; event = x } ∷ [];
  history = n.history ∙ ap (λ (l : List Entry). l ++ record { worker = w; event = x } ∷ []) s.history;
  own = All-cons (IsOwnEntry h old.endpoints) (record { worker = w; event = x }) [] (worker, owner) (All-nil (IsOwnEntry h old.endpoints));
}

pub adds_more : (h g : Share) (a b c : OfficeView) → g ≡ h → Adds h a b → Adds g b c → Adds h a c
adds_more h g a b c same x y = record {
  endpoints = y.endpoints ∙ x.endpoints;
  hosts = y.hosts ∙ x.hosts;
  capacity = y.capacity ∙ x.capacity;
  entries = x.entries ++ y.entries;
  history = y.history ∙ ap (λ (l : List Entry). l ++ y.entries) x.history ∙ append_assoc a.history x.entries y.entries;
  own = All-append (IsOwnEntry h a.endpoints) x.entries y.entries x.own (subst (λ (e : Endpoints). All (IsOwnEntry h e) y.entries) x.endpoints (subst (λ (k : Share). All (IsOwnEntry k b.endpoints) y.entries) same y.own));
}

pub starts_more : (a b c : OfficeView) → StartsNone a b → StartsNone b c → StartsNone a c
starts_more a b c x y = record { sid = y.sid ∙ x.sid; processes = y.processes ∙ x.processes }

pub same_starts : (old new : OfficeView) → IsSame old new → StartsNone old new
same_starts old new s = record { sid = s.sid; processes = ap length s.desks }

length-busy : (ps : List ℕ) (ds : List Desk) → length (made_busy ps ds) ≡ length ds
length-busy [] ds = refl
length-busy (p ∷ ps) ds = length-busy ps _ ∙ length-set ds p _

pub acted_starts : (old mid new : OfficeView) (w : ℕ) (x : Event) → IsSame old mid → HasActed mid w x new → StartsNone old new
acted_starts old mid new w x s a = record { sid = a.sid ∙ s.sid; processes = ap length a.desks ∙ length-busy (actors_of x) mid.desks ∙ ap length s.desks }

pub noted_length : (old mid new : OfficeView) (w : ℕ) (x : Event) → IsSame old mid → HasNoted mid w x new → length new.history ≡ length old.history + 1
noted_length old mid new w x s n = ap length n.history ∙ length-append mid.history (record { worker = w; event = x } ∷ []) ∙ ap (λ (l : List Entry). length l + 1) s.history

-- the makers of an event that starts no session are its actors
lone_makers : (e : Endpoints) (x : Event) → is_start x ≡ false → makers_of e x ≡ actors_of x
lone_makers e (event.Start c s ps) h = absurd cc
lone_makers e (event.Send p s a b l) h = refl
lone_makers e (event.Recv p s a b l) h = refl
lone_makers e (event.Test p b) h = refl
lone_makers e (event.Set p x v) h = refl
lone_makers e (event.Show p v) h = refl
lone_makers e (event.Host p x f a b v) h = refl

pub one_owner : (h : Share) (i : ℕ) (e : Endpoints) (w : ℕ) (x : Event) → is_start x ≡ false → actors_of x ≡ number h i ∷ [] → w ≡ h.worker + 1 → IsMadeByOwner h.workers e (record { worker = w; event = x })
one_owner h i e w x alone actor worker =
    subst (Any (λ p. owner h.workers p ≡ w)) (sym (lone_makers e x alone ∙ actor)) (0, number h i, omega arith, refl, owned_number h i ∙ sym worker)
