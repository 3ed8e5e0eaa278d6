-- What an event of one process changes in an office.
use Rattle.std.proofs.Common.{◌≡◌, ◌≢◌, ℕ, zero, suc, ◌==◌, Bool, true, false, List, [], ◌∷◌, ◌++◌, refl, sym, ap, ◌∙◌, subst, Option, Some, None}
use Rattle.std.specs.Prelude.{slice_get, slice_set, not, IfSome}
use Rattle.std.proofs.lemmas.List.{map-append}
use Rattle.std.proofs.lemmas.Bool.{eqb-true, eqb-false}
use Rattle.chor_base.proofs.Lists.{get_set_other}
use Rattle.chor_base.specs.declared.value.Load.{Load}
use Rattle.chor_base.specs.declared.names.NameId.{NameId}
use Rattle.chor_base.specs.declared.event.Why.TheVariants.{Empty, Wrong, Full, Absent}
use Rattle.chor_base.specs.declared.event.Entry.{Entry}
use Rattle.chor_base.specs.declared.event.Event.{Event}
use Rattle.chor_base.specs.declared.event.Event.TheVariants as event
use Rattle.chor_base.specs.Meaning.{Hosts}
use Rattle.chor_base.specs.Events.{Triple}
use Rattle.endpoint_code.specs.declared.endpoints.Endpoints.{Endpoints}
use Rattle.endpoint_code.specs.Network.{Machine, NetworkState, queue_of, has_room, NetworkSteps, first_state}
use Rattle.endpoint_code.specs.NetworkRuns.{NetworkLeads, waits_for}
use Rattle.post_office.specs.declared.desk.Desk.{Desk}
use Rattle.post_office.specs.declared.post.Post.{Post}
use Rattle.post_office.specs.declared.post.Post.TheVariants.{Busy, Joining, Waiting, Ended}
use Rattle.post_office.specs.Views.{OfficeView, events_of, IsAfter, post_at, joined_at, made_busy}
use Rattle.post_office.specs.Posts.{holding, IsPostOf, IsTrueIn}
use Rattle.post_office.specs.Answers.{is_local}
use Rattle.post_office.proofs.Steps.{ActsAlone, queues_after, is_start, sends_on, FindsRoom}

-- ---- the run

-- one step more, at the end
pub leads_on : (e : Endpoints) (hosts : Hosts) (capacity : Option ℕ) (h : List Event) (x : Event) (n k m : NetworkState) → NetworkLeads e hosts capacity n h k → NetworkSteps e hosts capacity k x m → NetworkLeads e hosts capacity n (h ++ x ∷ []) m
leads_on e hosts capacity [] x n k m l s = (m, subst (λ (w : NetworkState). NetworkSteps e hosts capacity w x m) (sym l) s, refl)
leads_on e hosts capacity (y ∷ ys) x n k m l s = (l.0, l.1, leads_on e hosts capacity ys x l.0 k m l.2 s)

pub after_more : (v : OfficeView) (n m : NetworkState) (x : Event) (worker : ℕ) (history : List Entry) → history ≡ v.history ++ record { worker = worker; event = x } ∷ []
    → IsAfter v n → NetworkSteps v.endpoints v.hosts v.capacity n x m → NetworkLeads v.endpoints v.hosts v.capacity (first_state v.endpoints) (events_of history) m
after_more v n m x worker history more run step =
    let one : List Entry = record { worker = worker; event = x } ∷ [] in
    let same : events_of history ≡ events_of v.history ++ x ∷ [] = ap events_of more ∙ map-append (λ e. e.event) v.history one in
    subst (λ (h : List Event). NetworkLeads v.endpoints v.hosts v.capacity (first_state v.endpoints) h m) (sym same) (leads_on v.endpoints v.hosts v.capacity (events_of v.history) x (first_state v.endpoints) n m run step)

-- ---- what was posted

pub busy_true : (e : Endpoints) (n : NetworkState) (o : Option Machine) → IsPostOf e n o Busy
busy_true e n None = tt
busy_true e n (Some m) = tt

-- the first load for which a process is posted as waiting is still the first
abbrev pub StaysFirst : Endpoints → NetworkState → NetworkState → Option Machine → Type 0
StaysFirst e n k o = (m : Machine) → o ≡ Some m → (s : ℕ) (a b : NameId) (l : Load) → waits_for e None (holding (s, a, b) l) m ≡ Some (Wrong s a b) → slice_get (queue_of n (s, a, b)) 0 ≡ Some l → slice_get (queue_of k (s, a, b)) 0 ≡ Some l

pub post_stays : (e : Endpoints) (n k : NetworkState) (o : Option Machine) (post : Post) → StaysFirst e n k o → IsPostOf e n o post → IsPostOf e k o post
post_stays e n k None Busy first h = tt
post_stays e n k None (Joining c r) first h = absurd h
post_stays e n k None (Waiting why) first h = absurd h
post_stays e n k None Ended first h = absurd h
post_stays e n k (Some m) Busy first h = tt
post_stays e n k (Some m) (Joining c r) first h = h
post_stays e n k (Some m) Ended first h = h
post_stays e n k (Some m) (Waiting (Empty s a b)) first h = h
post_stays e n k (Some m) (Waiting (Full s a b)) first h = h
post_stays e n k (Some m) (Waiting (Wrong s a b)) first h = (h.0, first m refl s a b h.0 h.2 h.1, h.2)
post_stays e n k (Some m) (Waiting (Absent c r)) first h = absurd h

pub busy_own : (ds : List Desk) (p : ℕ) (j : Option ℕ) → post_at (slice_set ds p (record { post = Busy; joined = j })) p ≡ Busy
busy_own [] p j = refl
busy_own (d ∷ ds) zero j = refl
busy_own (d ∷ ds) (suc p) j = busy_own ds p j

pub post_other : (ds : List Desk) (p q : ℕ) (d : Desk) → q ≢ p → post_at (slice_set ds p d) q ≡ post_at ds q
post_other ds p q d h = ap (λ o. post_of_desk o) (get_set_other ds p q d h)
  where
    post_of_desk : Option Desk → Post
    post_of_desk None = Busy
    post_of_desk (Some d) = d.post

pub posts_after : (e : Endpoints) (n m : NetworkState) (x : Event) (p : ℕ) (ds : List Desk) → ActsAlone p x n m → ((q : ℕ) → q ≢ p → StaysFirst e n m (slice_get n.machines q)) → ((q : ℕ) → IsTrueIn e n q (post_at ds q)) → (q : ℕ) → IsTrueIn e m q (post_at (made_busy (p ∷ []) ds) q)
posts_after e n m x p ds alone first posts q = go (q == p) refl
  where
    go : (b : Bool) → (q == p) ≡ b → IsTrueIn e m q (post_at (made_busy (p ∷ []) ds) q)
    go true h =
        let own : post_at (made_busy (p ∷ []) ds) q ≡ Busy = subst (λ i. post_at (made_busy (p ∷ []) ds) i ≡ Busy) (sym (eqb-true q p h)) (busy_own ds p (joined_at ds p)) in
        subst (λ (w : Post). IsTrueIn e m q w) (sym own) (busy_true e m (slice_get m.machines q))
    go false h =
        let apart = eqb-false q p h in
        subst (λ (w : Post). IsTrueIn e m q w) (sym (post_other ds p q _ apart))
        (subst (λ (o : Option Machine). IsPostOf e m o (post_at ds q)) (sym (alone.others q apart)) (post_stays e n m (slice_get n.machines q) (post_at ds q) (first q apart) (posts q)))

-- ---- the three kinds of events

pub not_full : (cap : Option ℕ) (ls : List Load) → not (has_room cap ls) ≡ false → has_room cap ls ≡ true
not_full cap ls h = go (has_room cap ls) h
  where
    go : (b : Bool) → not b ≡ false → b ≡ true
    go true i = refl
    go false i = absurd cc

-- what is said of an answer, where there is one
pub of_some : {X P : Type 0} (o : Option X) (x : X) → o ≡ Some x → IfSome o (λ _. P) → P
of_some None x e h = absurd cc
of_some (Some y) x e h = h

pub none_first : (ls : List Load) → slice_get ls 0 ≡ None → ls ≡ []
none_first [] h = refl
none_first (l ∷ ls) h = absurd cc

pub local_alone : (x : Event) → is_local x ≡ true → is_start x ≡ false
local_alone (event.Start c s ps) h = absurd cc
local_alone (event.Send p s a b l) h = refl
local_alone (event.Recv p s a b l) h = refl
local_alone (event.Test p b) h = refl
local_alone (event.Set p y v) h = refl
local_alone (event.Show p v) h = refl
local_alone (event.Host p y f a b v) h = refl

pub local_place : (x : Event) (cap : Option ℕ) (qs : List (Triple × List Load)) → is_local x ≡ true → FindsRoom cap qs (sends_on x)
local_place (event.Start c s ps) cap qs h = absurd cc
local_place (event.Send p s a b l) cap qs h = absurd cc
local_place (event.Recv p s a b l) cap qs h = tt
local_place (event.Test p b) cap qs h = tt
local_place (event.Set p y v) cap qs h = tt
local_place (event.Show p v) cap qs h = tt
local_place (event.Host p y f a b v) cap qs h = tt

pub local_queues : (x : Event) (qs : List (Triple × List Load)) → is_local x ≡ true → qs ≡ queues_after x qs
local_queues (event.Start c s ps) qs h = absurd cc
local_queues (event.Send p s a b l) qs h = absurd cc
local_queues (event.Recv p s a b l) qs h = absurd cc
local_queues (event.Test p b) qs h = refl
local_queues (event.Set p y v) qs h = refl
local_queues (event.Show p v) qs h = refl
local_queues (event.Host p y f a b v) qs h = refl
