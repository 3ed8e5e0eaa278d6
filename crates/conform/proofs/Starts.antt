-- Starts of sessions, and what is kept after them.
use Rattle.std.proofs.Common.{◌≡◌, ◌≢◌, ℕ, zero, suc, ◌+◌, ◌<◌, ◌==◌, Bool, true, false, List, [], ◌∷◌, ◌++◌, length, Some, None, refl, sym, ap, ◌∙◌, subst, arith, if◌then◌else◌}
use Rattle.std.specs.Prelude.{slice_get, Result, Ok, Err}
use Rattle.std.proofs.Math.ListN.{replicate}
use Rattle.std.proofs.lemmas.List.{append-nil, length-append}
use Rattle.std.proofs.lemmas.Option.{slice_get_within}
use Rattle.std.proofs.lemmas.Bool.Decides.{nat_tests}
use Rattle.chor_base.specs.declared.memory.Memory.{Memory}
use Rattle.chor_base.specs.declared.names.NameId.{NameId}
use Rattle.chor_base.specs.declared.event.Event.{Event}
use Rattle.chor_base.specs.declared.event.Event.TheVariants.{Start}
use Rattle.chor_base.specs.Events.{Triple, sent_on, received_on}
use Rattle.chor_base.proofs.Lists.{AtEnd, before, last, at_end, slice_get_last}
use Rattle.chor_tree.specs.declared.file.File.{File}
use Rattle.chor_tree.specs.Protocols.{Protocol}
use Rattle.chor_tree.specs.Names.{protocol_of}
use Rattle.chor_semantics.specs.Choreography.{Ref, Live, Named as BoundName}
use Rattle.local_types.specs.declared.local_type.LocalType.{LocalType}
use Rattle.post_office.specs.Lanes.{QueuesView}
use Rattle.post_office.specs.Views.{loads_at}
use Rattle.typed_sources.specs.Told.{Act}
use Rattle.typed_sources.specs.History.{Account, nothing_told, told_by}
use Rattle.typed_sources.specs.Stands.{kind_in, protocol_name}
use Rattle.well_formed.proofs.References.{true_eq}
use Rattle.conform.specs.declared.progress.Progress.{Progress}
use Rattle.conform.specs.Sessions.{SessionView}
use Rattle.conform.specs.ByRole.{account_of, MayStart}
use Rattle.conform.specs.Judged.{IsFit}
use Rattle.conform.specs.Progress.{AreRead, AreTypesOf, name_of, protocol_at, protocols_in, StandsAt, IsAfter}
use Rattle.conform.specs.Steps.{MayOpen, HasOpened, Opens, Follows}
use Rattle.conform.proofs.After.{conform_more, count_start, Same, alike, apart, same_or_not}
use Rattle.conform.proofs.Declared.{protocol_there, channel_protocol}
use Rattle.conform.proofs.Lists.{other, some_same}
use Rattle.conform.proofs.Told.{told_more, sent_more, received_more}

-- another item is the same with one more behind
get_other : {A : Type 0} (xs : List A) (x : A) (j : ℕ) → j ≢ length xs → slice_get (xs ++ x ∷ []) j ≡ slice_get xs j
get_other [] x zero off = absurd (off refl)
get_other [] x (suc j) off = refl
get_other (y ∷ ys) x zero off = refl
get_other (y ∷ ys) x (suc j) off = get_other ys x j (λ e. off (ap suc e))

all_zero : (n j m : ℕ) → slice_get (replicate n 0) j ≡ Some m → 0 ≡ m
all_zero zero j m h = absurd cc
all_zero (suc n) zero m h = some_same 0 m h
all_zero (suc n) (suc j) m h = all_zero n j m h

as_long : (n : ℕ) → length {A = ℕ} (replicate n 0) ≡ n
as_long zero = refl
as_long (suc n) = ap suc (as_long n)

pub open_within : (f : File) (p : Progress) (c : NameId) (n : ℕ) (parts : List (NameId × ℕ)) (place : ℕ) → MayOpen f p c n parts place → place < length f.protocols
open_within f p c n parts place m = let w = protocol_there f.protocols m.service.protocol.name place m.protocol in slice_get_within f.protocols place w.protocol w.at

-- nothing is kept before any event
pub none_yet : (f : File) (p : Progress) → AreTypesOf f p.types → p.sessions.items ≡ [] → p.queues.lanes ≡ [] → IsAfter f [] p
none_yet f p types sessions lanes = record {
  conforms = λ before x rest parts. absurd (no_event before x rest parts);
  types = types;
  count = ap length sessions;
  protocols = protocols;
  unstarted = λ n past r. refl;
  sessions = λ n k at. absurd (no_session n k (sym (ap (λ l. slice_get l n) sessions) ∙ at));
  loads = λ t. sym (ap (λ ls. loads_at (record { lanes = ls; fresh = p.queues.fresh }) t) lanes);
}
  where
    no_event : (before : List Event) (x : Event) (rest : List Event) → [] ≡ before ++ x ∷ rest → ⊥
    no_event [] x rest h = absurd cc
    no_event (y ∷ ys) x rest h = absurd cc

    no_session : (n : ℕ) (k : SessionView) → slice_get [] n ≡ Some k → ⊥
    no_session n k h = absurd cc

    protocols : (s : Ref) → None ≡ protocols_in f p.sessions.items s
    protocols (Live n) = sym (ap (λ (l : List SessionView). protocol_at f (slice_get l n)) sessions)
    protocols (BoundName x d) = refl

module _ (f : File) (fit : IsFit f) (h : List Event) (old new : Progress) (a : IsAfter f h old) (c : NameId) (n : ℕ) (parts : List (NameId × ℕ)) where
  may_start : (place : ℕ) → MayOpen f old c n parts place → MayStart f h c n parts
  may_start place m = record { next = m.next ∙ a.count; service = m.service; declared = m.declared; roles = m.roles }

  may_open : MayStart f h c n parts → (place : ℕ) × MayOpen f old c n parts place
  may_open s =
      let w = channel_protocol f fit c s.service s.declared in
      (w.0, record { next = s.next ∙ sym a.count; service = s.service; declared = s.declared; roles = s.roles; protocol = w.1 })

  module _ (place : ℕ) (m : MayOpen f old c n parts place) (o : HasOpened f old new place) where
    after : account_of f (h ++ Start c n parts ∷ []) ≡ told_by (kind_in f) (account_of f h) (Start c n parts)
    after = told_more (kind_in f) nothing_told h (Start c n parts)

    same_done : (t : Ref) (r : NameId) → (account_of f (h ++ Start c n parts ∷ [])).done t r ≡ (account_of f h).done t r
    same_done t r = ap (λ (z : Account). z.done t r) after

    abbrev fresh : SessionView
    fresh = record { protocol = place; states = replicate (length o.protocol.roles) 0 }

    count_new : length new.sessions.items ≡ length old.sessions.items + 1
    count_new = ap length o.sessions ∙ length-append old.sessions.items (fresh ∷ [])

    own_there : slice_get new.sessions.items (length old.sessions.items) ≡ Some fresh
    own_there = ap (λ l. slice_get l (length old.sessions.items)) o.sessions ∙ slice_get_last old.sessions.items fresh

    found : protocol_of f m.service.protocol.name ≡ Some o.protocol
    found =
        let w = protocol_there f.protocols m.service.protocol.name place m.protocol in
        w.first ∙ ap (λ p. Some p) (some_same w.protocol o.protocol (sym w.at ∙ o.here))

    named : o.protocol.name.name ≡ m.service.protocol.name
    named =
        let w = protocol_there f.protocols m.service.protocol.name place m.protocol in
        sym (ap (λ (p : Protocol). p.name.name) (some_same w.protocol o.protocol (sym w.at ∙ o.here))) ∙ w.is

    protocols : (s : Ref) → (account_of f (h ++ Start c n parts ∷ [])).protocol s ≡ protocols_in f new.sessions.items s
    protocols (BoundName x d) = ap (λ (z : Account). z.protocol (BoundName x d)) after ∙ a.protocols (BoundName x d)
    protocols (Live k) = ap (λ (z : Account). z.protocol (Live k)) after ∙ go (same_or_not k n) refl
      where
        off_number : (k s : ℕ) → k ≢ s → (b : Bool) → (k == s) ≡ b → b ≡ false
        off_number k s off false e = refl
        off_number k s off true e = absurd (off (let i : k ≡ s = grind (arith, nat_tests) in i))

        go : (w : Same k n) → w ≡ w → (if k == n then kind_in f c else (account_of f h).protocol (Live k)) ≡ protocol_at f (slice_get new.sessions.items k)
        go (alike e) w =
            ap (λ (b : Bool). if b then kind_in f c else (account_of f h).protocol (Live k)) (ap (λ (j : ℕ). k == j) (sym e) ∙ true_eq k)
            ∙ ap protocol_name m.declared ∙ ap (λ x. Some x) (sym named) ∙ ap name_of (sym o.here) ∙ ap (protocol_at f) (sym own_there)
            ∙ ap (λ (j : ℕ). protocol_at f (slice_get new.sessions.items j)) (sym (e ∙ m.next))
        go (apart off) w =
            ap (λ (b : Bool). if b then kind_in f c else (account_of f h).protocol (Live k)) (off_number k n off (k == n) refl)
            ∙ a.protocols (Live k)
            ∙ ap (protocol_at f) (sym (ap (λ l. slice_get l k) o.sessions ∙ get_other old.sessions.items fresh k (λ e. off (e ∙ sym m.next))))

    -- the new session, in which nothing is done
    fresh_stands : StandsAt f old.types ((account_of f h).done (Live (length old.sessions.items))) fresh
    fresh_stands =
        let row = other AreRead f.protocols old.types place o.protocol a.types o.here in
        record {
          protocol = o.protocol;
          here = o.here;
          named = ap (protocol_of f) named ∙ found;
          row = row.item;
          types_there = row.at;
          many = as_long (length o.protocol.roles);
          each = λ j role t k at there stands. record {
            actions = [];
            leads = all_zero (length o.protocol.roles) j k stands;
            told = sym (a.unstarted (length old.sessions.items) (omega arith) role.name);
          };
        }

    stand : (k : ℕ) (s : SessionView) → slice_get new.sessions.items k ≡ Some s → StandsAt f new.types ((account_of f (h ++ Start c n parts ∷ [])).done (Live k)) s
    stand k s at =
        subst (λ (types : List (List LocalType)). StandsAt f types ((account_of f (h ++ Start c n parts ∷ [])).done (Live k)) s) (sym o.types)
        (subst (λ (done : NameId → List Act). StandsAt f old.types done s) (λ i r. sym (same_done (Live k) r) i) (go (at_end old.sessions.items fresh s k (sym (ap (λ l. slice_get l k) o.sessions) ∙ at))))
      where
        go : AtEnd old.sessions.items fresh s k → StandsAt f old.types ((account_of f h).done (Live k)) s
        go (before b) = a.sessions k s b
        go (last e is) = subst (λ (j : ℕ). StandsAt f old.types ((account_of f h).done (Live j)) s) (sym e) (subst (StandsAt f old.types ((account_of f h).done (Live (length old.sessions.items)))) (sym is) fresh_stands)

    loads : (t : Triple) → sent_on t (h ++ Start c n parts ∷ []) ≡ received_on t (h ++ Start c n parts ∷ []) ++ loads_at new.queues t
    loads t =
        sent_more t h (Start c n parts) ∙ append-nil (sent_on t h) ∙ a.loads t ∙ ap (λ (q : QueuesView). received_on t h ++ loads_at q t) (sym o.queues)
        ∙ ap (λ z. z ++ loads_at new.queues t) (sym (received_more t h (Start c n parts) ∙ append-nil (received_on t h)))

    opened : IsAfter f (h ++ Start c n parts ∷ []) new
    opened = record {
      conforms = conform_more f h (Start c n parts) a.conforms (may_start place m);
      types = subst (AreTypesOf f) (sym o.types) a.types;
      count = (let q = count_start h c n parts in omega (arith, q, count_new, a.count));
      protocols = protocols;
      unstarted = λ k past r. same_done (Live k) r ∙ a.unstarted k (omega (arith, past, count_new)) r;
      sessions = stand;
      loads = loads;
    }

  pub start_follows : (r : Result Bool Memory) → Opens f old c n parts r new → Follows f h (Start c n parts) r new
  start_follows (Ok true) (place, m, o) = (may_start place m, opened place m o)
  start_follows (Ok false) cannot = λ may. let w = may_open may in cannot w.0 w.1
  start_follows (Err e) o = tt
