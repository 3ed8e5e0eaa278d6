-- What is kept of events with one event more.
use Rattle.std.proofs.Common.{◌≡◌, ◌≢◌, ℕ, zero, suc, ◌≤◌, ◌<◌, ◌==◌, Bool, true, false, List, [], ◌∷◌, ◌++◌, length, Option, Some, refl, sym, ap, ◌∙◌, subst, arith}
use Rattle.std.specs.Prelude.{slice_get, slice_set}
use Rattle.std.proofs.lemmas.List.{append-nil, length-set}
use Rattle.std.proofs.lemmas.Option.{slice_get_within}
use Rattle.std.proofs.lemmas.Bool.Decides.{nat_tests}
use Rattle.chor_base.specs.declared.names.NameId.{NameId}
use Rattle.chor_base.specs.declared.event.Event.{Event}
use Rattle.chor_base.specs.declared.event.Event.TheVariants.{Start, Send, Recv, Test, Set, Show, Host}
use Rattle.chor_base.specs.Events.{Triple, sent_on, received_on}
use Rattle.chor_base.proofs.Lists.{get_set_other}
use Rattle.chor_tree.specs.declared.file.File.{File}
use Rattle.chor_tree.specs.declared.file.Named.{Named}
use Rattle.chor_tree.specs.Protocols.{Protocol}
use Rattle.chor_tree.specs.Names.{names_in}
use Rattle.chor_semantics.specs.Choreography.{Ref, Live, Named as BoundName}
use Rattle.delegation.specs.Checks.{all_differ}
use Rattle.local_types.specs.declared.local_type.LocalType.{LocalType}
use Rattle.post_office.specs.Views.{loads_at}
use Rattle.typed_sources.specs.Told.{Act}
use Rattle.typed_sources.specs.Changes.{event_acts}
use Rattle.typed_sources.specs.History.{Account, nothing_told}
use Rattle.typed_sources.specs.Stands.{kind_in}
use Rattle.well_formed.proofs.References.{same_name, true_eq}
use Rattle.conform.specs.declared.progress.Progress.{Progress}
use Rattle.conform.specs.Sessions.{SessionView}
use Rattle.conform.specs.ByRole.{start_count, account_of, MayFollow, ConformsByRole}
use Rattle.conform.specs.Judged.{IsFit}
use Rattle.conform.specs.Laws.{IsReadTo}
use Rattle.conform.specs.Progress.{AreTypesOf, protocol_at, protocols_in, StandsAt, IsMove, IsAfter}
use Rattle.conform.specs.Steps.{went}
use Rattle.conform.proofs.Declared.{contains_at, roles_differ, one_place}
use Rattle.conform.proofs.Acting.{Found, found}
use Rattle.conform.proofs.Lists.{some_same, in_or_last, InOrLast, within, last}
use Rattle.conform.proofs.Told.{told_more}

-- ---- events with one more

pub conform_more : (f : File) (h : List Event) (x : Event) → ConformsByRole f h → MayFollow f h x → ConformsByRole f (h ++ x ∷ [])
conform_more f h x conforms may before y rest parts = go (in_or_last h x before y rest parts)
  where
    go : InOrLast h x before y rest → MayFollow f before y
    go (within more e) = conforms before y more e
    go (last e same) = subst (λ (z : Event). MayFollow f before z) same (subst (λ (l : List Event). MayFollow f l x) e may)

-- the event is no start
abbrev pub IsInside : Event → Type 0
IsInside (Start c n parts) = ⊥
IsInside x = Unit {0}

pub count_more : (h : List Event) (x : Event) → IsInside x → start_count (h ++ x ∷ []) ≡ start_count h
count_more [] (Start c n parts) in_ = absurd in_
count_more [] (Send p s a b l) in_ = refl
count_more [] (Recv p s a b l) in_ = refl
count_more [] (Test p b) in_ = refl
count_more [] (Set p y v) in_ = refl
count_more [] (Show p v) in_ = refl
count_more [] (Host p y g a b v) in_ = refl
count_more (Start c n parts ∷ h) x in_ = ap suc (count_more h x in_)
count_more (Send p s a b l ∷ h) x in_ = count_more h x in_
count_more (Recv p s a b l ∷ h) x in_ = count_more h x in_
count_more (Test p b ∷ h) x in_ = count_more h x in_
count_more (Set p y v ∷ h) x in_ = count_more h x in_
count_more (Show p v ∷ h) x in_ = count_more h x in_
count_more (Host p y g a b v ∷ h) x in_ = count_more h x in_

pub count_start : (h : List Event) (c : NameId) (n : ℕ) (parts : List (NameId × ℕ)) → start_count (h ++ Start c n parts ∷ []) ≡ suc (start_count h)
count_start [] c n parts = refl
count_start (Start d m qs ∷ h) c n parts = ap suc (count_start h c n parts)
count_start (Send p s a b l ∷ h) c n parts = count_start h c n parts
count_start (Recv p s a b l ∷ h) c n parts = count_start h c n parts
count_start (Test p b ∷ h) c n parts = count_start h c n parts
count_start (Set p y v ∷ h) c n parts = count_start h c n parts
count_start (Show p v ∷ h) c n parts = count_start h c n parts
count_start (Host p y g a b v ∷ h) c n parts = count_start h c n parts

-- an event inside of sessions adds what its roles do
abbrev pub AddsActs : File → List Event → Event → Type 0
AddsActs f h x = account_of f (h ++ x ∷ []) ≡ record { protocol = (account_of f h).protocol; done = λ t r. (account_of f h).done t r ++ event_acts (account_of f h).protocol x t r }

pub adds_acts : (f : File) (h : List Event) (x : Event) → IsInside x → AddsActs f h x
adds_acts f h (Start c n parts) in_ = absurd in_
adds_acts f h (Send p s a b l) in_ = told_more (kind_in f) nothing_told h (Send p s a b l)
adds_acts f h (Recv p s a b l) in_ = told_more (kind_in f) nothing_told h (Recv p s a b l)
adds_acts f h (Test p b) in_ = told_more (kind_in f) nothing_told h (Test p b)
adds_acts f h (Set p y v) in_ = told_more (kind_in f) nothing_told h (Set p y v)
adds_acts f h (Show p v) in_ = told_more (kind_in f) nothing_told h (Show p v)
adds_acts f h (Host p y g a b v) in_ = told_more (kind_in f) nothing_told h (Host p y g a b v)

-- ---- a session, by what is done in it

-- what is done is the same, role by role
pub stands_too : (f : File) (types : List (List LocalType)) (done more : NameId → List Act) (k : SessionView) → ((r : NameId) → more r ≡ done r) → StandsAt f types done k → StandsAt f types more k
stands_too f types done more k same w = subst (λ (d : NameId → List Act). StandsAt f types d k) (λ i r. sym (same r) i) w

get_set : {A : Type 0} (xs : List A) (i : ℕ) (x : A) → i < length xs → slice_get (slice_set xs i x) i ≡ Some x
get_set [] i x h = absurd (omega (arith, h))
get_set (y ∷ ys) zero x h = refl
get_set (y ∷ ys) (suc i) x h = get_set ys i x (omega (arith, h))

-- two numbers are the same or not
pub data Same (i j : ℕ) : Type 0 where
  alike : i ≡ j → Same i j
  apart : i ≢ j → Same i j

pub same_or_not : (i j : ℕ) → Same i j
same_or_not i j = go (i == j) refl
  where
    go : (b : Bool) → (i == j) ≡ b → Same i j
    go true e = alike (let h : i ≡ j = grind (arith, nat_tests) in h)
    go false e = apart (λ h. let g : (i == j) ≡ true = ap (λ (k : ℕ). i == k) (sym h) ∙ true_eq i in let c : true ≡ false = sym g ∙ e in cc)

-- ---- an act of one role

-- the event adds this act of role r in session s, and no other
pub record Adds (pr : Ref → Option NameId) (x : Event) (s : ℕ) (r : NameId) (act : Act) : Type 0 where
  pub inside : IsInside x
  pub own : event_acts pr x (Live s) r ≡ act ∷ []
  pub other_role : (q : NameId) → (r.0 == q.0) ≡ false → event_acts pr x (Live s) q ≡ []
  pub other_session : (n : ℕ) → n ≢ s → (q : NameId) → event_acts pr x (Live n) q ≡ []

module _ (f : File) (fit : IsFit f) (h : List Event) (old new : Progress) (a : IsAfter f h old) where
  module _ (x : Event) (s : ℕ) (r : NameId) (act : Act) (place next : ℕ) (adds : Adds (account_of f h).protocol x s r act) (move : IsMove f old s r act place next)
      (sessions_are : new.sessions.items ≡ slice_set old.sessions.items s (went move.session place next)) (types_are : new.types ≡ old.types) where
    after : AddsActs f h x
    after = adds_acts f h x adds.inside

    same_done : (n : ℕ) → n ≢ s → (q : NameId) → (account_of f (h ++ x ∷ [])).done (Live n) q ≡ (account_of f h).done (Live n) q
    same_done n off q = ap (λ (z : Account). z.done (Live n) q) after ∙ ap (λ l. (account_of f h).done (Live n) q ++ l) (adds.other_session n off q) ∙ append-nil _

    own_done : (account_of f (h ++ x ∷ [])).done (Live s) r ≡ (account_of f h).done (Live s) r ++ act ∷ []
    own_done = ap (λ (z : Account). z.done (Live s) r) after ∙ ap (λ l. (account_of f h).done (Live s) r ++ l) adds.own

    others_done : (q : NameId) → (r.0 == q.0) ≡ false → (account_of f (h ++ x ∷ [])).done (Live s) q ≡ (account_of f h).done (Live s) q
    others_done q off = ap (λ (z : Account). z.done (Live s) q) after ∙ ap (λ l. (account_of f h).done (Live s) q ++ l) (adds.other_role q off) ∙ append-nil _

    session_within : s < length old.sessions.items
    session_within = slice_get_within old.sessions.items s move.session move.started

    same_count : length new.sessions.items ≡ length old.sessions.items
    same_count = ap length sessions_are ∙ length-set old.sessions.items s (went move.session place next)

    other_there : (n : ℕ) → n ≢ s → slice_get new.sessions.items n ≡ slice_get old.sessions.items n
    other_there n off = ap (λ l. slice_get l n) sessions_are ∙ get_set_other old.sessions.items s n (went move.session place next) off

    own_there : slice_get new.sessions.items s ≡ Some (went move.session place next)
    own_there = ap (λ l. slice_get l s) sessions_are ∙ get_set old.sessions.items s (went move.session place next) session_within

    same_protocols : (n : ℕ) → protocol_at f (slice_get new.sessions.items n) ≡ protocol_at f (slice_get old.sessions.items n)
    same_protocols n = go (same_or_not n s)
      where
        go : Same n s → protocol_at f (slice_get new.sessions.items n) ≡ protocol_at f (slice_get old.sessions.items n)
        go (alike e) =
            ap (λ k. protocol_at f (slice_get new.sessions.items k)) e ∙ ap (protocol_at f) own_there ∙ sym (ap (protocol_at f) move.started) ∙ sym (ap (λ k. protocol_at f (slice_get old.sessions.items k)) e)
        go (apart off) = ap (protocol_at f) (other_there n off)

    protocols_too : (t : Ref) → (account_of f (h ++ x ∷ [])).protocol t ≡ protocols_in f new.sessions.items t
    protocols_too (Live n) = ap (λ (z : Account). z.protocol (Live n)) after ∙ a.protocols (Live n) ∙ sym (same_protocols n)
    protocols_too (BoundName y d) = ap (λ (z : Account). z.protocol (BoundName y d)) after ∙ a.protocols (BoundName y d)

    -- the session of the act
    k : StandsAt f old.types ((account_of f h).done (Live s)) move.session
    k = a.sessions s move.session move.started

    w : Found f h old a s r act place next move
    w = found f h old a s r act place next move

    one_protocol : k.protocol ≡ move.protocol
    one_protocol = some_same k.protocol move.protocol (sym k.here ∙ move.here)

    -- another role isn't r
    other_name : (j : ℕ) (role : Named) → slice_get k.protocol.roles j ≡ Some role → j ≢ place → (r.0 == role.name.0) ≡ false
    other_name j role at off = go (r.0 == role.name.0) refl
      where
        here : slice_get move.protocol.roles j ≡ Some role
        here = ap (λ (q : Protocol). slice_get q.roles j) (sym one_protocol) ∙ at

        differ : all_differ (names_in move.protocol.roles) ≡ true
        differ = roles_differ f fit move.protocol (contains_at f.protocols move.session.protocol move.protocol move.here)

        go : (b : Bool) → (r.0 == role.name.0) ≡ b → b ≡ false
        go false e = refl
        go true e = absurd (off (one_place move.protocol.roles differ j place role w.role here w.role_at (sym (w.role_is ∙ same_name r role.name e))))

    each :
        (j : ℕ) (role : Named) (t : LocalType) (n : ℕ) → slice_get k.protocol.roles j ≡ Some role → slice_get k.row j ≡ Some t → slice_get (slice_set move.session.states place next) j ≡ Some n
        → IsReadTo t.states ((account_of f (h ++ x ∷ [])).done (Live s) role.name) n
    each j role t n at there stands = go (same_or_not j place)
      where
        go : Same j place → IsReadTo t.states ((account_of f (h ++ x ∷ [])).done (Live s) role.name) n
        go (alike e) =
            let own : slice_get (slice_set move.session.states place next) place ≡ Some next = get_set move.session.states place next (slice_get_within move.session.states place move.state move.stands) in
            let number : next ≡ n = some_same next n (sym own ∙ sym (ap (slice_get (slice_set move.session.states place next)) e) ∙ stands) in
            let row : k.row ≡ move.row = some_same k.row move.row (sym k.types_there ∙ move.types_there) in
            let type : move.type ≡ t = some_same move.type t (sym move.type_there ∙ sym (ap (λ (l : List LocalType). slice_get l place) row) ∙ sym (ap (slice_get k.row) e) ∙ there) in
            let same_role : w.role ≡ role = some_same w.role role (sym w.role_at ∙ sym (ap (λ (q : Protocol). slice_get q.roles place) one_protocol) ∙ sym (ap (slice_get k.protocol.roles) e) ∙ at) in
            let name : r ≡ role.name = sym w.role_is ∙ ap (λ (z : Named). z.name) same_role in
            let read : IsReadTo move.type.states ((account_of f (h ++ x ∷ [])).done (Live s) r) next = subst (λ (d : List Act). IsReadTo move.type.states d next) (sym own_done) w.read in
            let here : IsReadTo move.type.states ((account_of f (h ++ x ∷ [])).done (Live s) role.name) next = subst (λ (z : NameId). IsReadTo move.type.states ((account_of f (h ++ x ∷ [])).done (Live s) z) next) name read in
            subst (λ (m : ℕ). IsReadTo t.states ((account_of f (h ++ x ∷ [])).done (Live s) role.name) m) number (subst (λ (z : LocalType). IsReadTo z.states ((account_of f (h ++ x ∷ [])).done (Live s) role.name) next) type here)
        go (apart off) =
            let still : slice_get move.session.states j ≡ Some n = sym (get_set_other move.session.states place j next off) ∙ stands in
            subst (λ (d : List Act). IsReadTo t.states d n) (sym (others_done role.name (other_name j role at off))) (k.each j role t n at there still)

    own_stands : StandsAt f old.types ((account_of f (h ++ x ∷ [])).done (Live s)) (went move.session place next)
    own_stands = record {
      protocol = k.protocol;
      here = k.here;
      named = k.named;
      row = k.row;
      types_there = k.types_there;
      many = length-set move.session.states place next ∙ k.many;
      each = each;
    }

    stand : (n : ℕ) (c : SessionView) → slice_get new.sessions.items n ≡ Some c → StandsAt f new.types ((account_of f (h ++ x ∷ [])).done (Live n)) c
    stand n c at = subst (λ (types : List (List LocalType)). StandsAt f types ((account_of f (h ++ x ∷ [])).done (Live n)) c) (sym types_are) (go (same_or_not n s))
      where
        go : Same n s → StandsAt f old.types ((account_of f (h ++ x ∷ [])).done (Live n)) c
        go (alike e) =
            let is : went move.session place next ≡ c = some_same (went move.session place next) c (sym own_there ∙ sym (ap (slice_get new.sessions.items) e) ∙ at) in
            subst (λ (m : ℕ). StandsAt f old.types ((account_of f (h ++ x ∷ [])).done (Live m)) c) (sym e) (subst (StandsAt f old.types ((account_of f (h ++ x ∷ [])).done (Live s))) is own_stands)
        go (apart off) = stands_too f old.types ((account_of f h).done (Live n)) ((account_of f (h ++ x ∷ [])).done (Live n)) c (same_done n off) (a.sessions n c (sym (other_there n off) ∙ at))

    quiet : (n : ℕ) → length new.sessions.items ≤ n → (q : NameId) → (account_of f (h ++ x ∷ [])).done (Live n) q ≡ []
    quiet n past q =
        let off : n ≢ s = λ e. absurd (let i : n ≡ s = e in omega (arith, past, same_count, session_within, i)) in
        same_done n off q ∙ a.unstarted n (subst (λ (m : ℕ). m ≤ n) same_count past) q

    pub has_moved : MayFollow f h x → ((t : Triple) → sent_on t (h ++ x ∷ []) ≡ received_on t (h ++ x ∷ []) ++ loads_at new.queues t) → IsAfter f (h ++ x ∷ []) new
    has_moved may loads = record {
      conforms = conform_more f h x a.conforms may;
      types = subst (AreTypesOf f) (sym types_are) a.types;
      count = same_count ∙ a.count ∙ sym (count_more h x adds.inside);
      protocols = protocols_too;
      unstarted = quiet;
      sessions = stand;
      loads = loads;
    }
