-- What is posted tells how a run stands.
use Rattle.std.proofs.Common.{◌≡◌, ℕ, zero, suc, ◌==◌, ◌&&◌, ◌||◌, Bool, true, false, cond, List, [], ◌∷◌, length, refl, sym, ap, ◌∙◌, subst, Option, Some, None, is_some, if◌then◌else◌, arith}
use Rattle.std.specs.Prelude.{slice_get, not}
use Rattle.std.specs.FinMap as fin
use Rattle.std.proofs.lemmas.Bool.{and_parts, eqb-true}
use Rattle.chor_base.specs.declared.names.NameId.{NameId}
use Rattle.chor_base.specs.declared.value.Load.{Load}
use Rattle.chor_base.specs.declared.event.Why.{Why}
use Rattle.chor_base.specs.declared.event.Why.TheVariants.{Empty, Wrong, Full, Absent}
use Rattle.chor_base.specs.NameMap.{Variables}
use Rattle.chor_base.specs.Events.{Triple}
use Rattle.endpoint_code.specs.declared.code.CodeNode.{CodeNode}
use Rattle.endpoint_code.specs.declared.code.CodeNode.TheVariants.{Join, Send, Recv, Pick, Branch, Throw, Catch, Set, Show, Host, If, Call, End}
use Rattle.endpoint_code.specs.declared.endpoints.Channel.{Channel}
use Rattle.endpoint_code.specs.declared.endpoints.Endpoints.{Endpoints}
use Rattle.endpoint_code.specs.Network.{Sessions, Machine, NetworkState, Place, Taking, queue_of, has_room, takes_value, takes_label, takes_part, place_of, channel_of, loads_for}
use Rattle.endpoint_code.specs.NetworkRuns.{ends_there, has_ended, all_ended, joins_there, is_joined, absent_among, absent_on, waits_to_send, waits_for_first, waits_to_receive, node_waits, place_waits, waits_for, can_step, none_can_step}
use Rattle.endpoint_code.specs.Scheduled.{first_waiting_from}
use Rattle.endpoint_code.proofs.Queues.{triple_same}
use Rattle.post_office.specs.declared.desk.Desk.{Desk}
use Rattle.post_office.specs.declared.post.Post.{Post}
use Rattle.post_office.specs.declared.post.Post.TheVariants.{Busy, Joining, Waiting, Ended}
use Rattle.post_office.specs.declared.post.Standing.{Standing}
use Rattle.post_office.specs.declared.post.Standing.TheVariants as stands
use Rattle.post_office.specs.Lanes.{loads_in}
use Rattle.post_office.specs.Views.{OfficeView, IsAfter, post_of, loads_at, is_full}
use Rattle.post_office.specs.Posts.{nothing, holding, IsWaiting, IsPost, IsPostOf, IsTrueIn}
use Rattle.post_office.specs.Kept.{IsKept}
use Rattle.post_office.specs.Starts.{joins_as, least_posted, partner_for, first_absent}
use Rattle.post_office.specs.Standings.{is_ended, is_empty, still_holds, absent_cause, absent_posted, cause_of, all_rest, first_resting, standing_by, standing_of, IsTrueAfter}
use Rattle.post_office.proofs.Callers.{one_state}

-- ---- what a node waits for

abbrev at_node : CodeNode → Sessions → Option Place
at_node node ss = Some (record { node = node; sessions = ss })

-- the node neither ends nor joins
record IsMail (node : CodeNode) (ss : Sessions) : Type 0 where
  ends_not : ends_there (at_node node ss) ≡ false
  joins_not : (c r : NameId) → joins_there (at_node node ss) c r ≡ false

module _ (e : Endpoints) (vars : Variables) (ss : Sessions) where
  data Shape (node : CodeNode) : Type 0 where
    takes : (s : ℕ) (a b : NameId) (f : Load → Option Taking) → IsMail node ss → ((c : Option ℕ) (m : NetworkState) → node_waits e c m vars ss node ≡ waits_for_first s a b f (queue_of m (s, a, b))) → Shape node
    sends : (s : ℕ) (a b : NameId) → IsMail node ss → ((c : Option ℕ) (m : NetworkState) → node_waits e c m vars ss node ≡ waits_to_send c m b (Some (s, a))) → Shape node
    joins : (d r : NameId) → ((c : Option ℕ) (m : NetworkState) → node_waits e c m vars ss node ≡ absent_on e m.machines d r (channel_of e.channels d)) → ends_there (at_node node ss) ≡ false → ((c q : NameId) → joins_there (at_node node ss) c q ≡ ((d.0 == c.0) && (r.0 == q.0))) → Shape node
    free : ((c : Option ℕ) (m : NetworkState) → node_waits e c m vars ss node ≡ None) → ((c r : NameId) → joins_there (at_node node ss) c r ≡ false) → Shape node

  sending : (node : CodeNode) (k to : NameId) → IsMail node ss → ((c : Option ℕ) (m : NetworkState) → node_waits e c m vars ss node ≡ waits_to_send c m to (fin.get ss k.0)) → Shape node
  sending node k to mail is = go (fin.get ss k.0) refl
    where
      go : (o : Option (ℕ × NameId)) → fin.get ss k.0 ≡ o → Shape node
      go None i = free (λ c m. is c m ∙ ap (waits_to_send c m to) i) mail.joins_not
      go (Some (s, a)) i = sends s a to mail (λ c m. is c m ∙ ap (waits_to_send c m to) i)

  taking : (node : CodeNode) (k from : NameId) (f : Load → Option Taking) → IsMail node ss → ((c : Option ℕ) (m : NetworkState) → node_waits e c m vars ss node ≡ waits_to_receive m from (fin.get ss k.0) f) → Shape node
  taking node k from f mail is = go (fin.get ss k.0) refl
    where
      go : (o : Option (ℕ × NameId)) → fin.get ss k.0 ≡ o → Shape node
      go None i = free (λ c m. is c m ∙ ap (λ o. waits_to_receive m from o f) i) mail.joins_not
      go (Some (s, b)) i = takes s from b f mail (λ c m. is c m ∙ ap (λ o. waits_to_receive m from o f) i)

  shape : (node : CodeNode) → Shape node
  shape (Join c r k next) = joins c r (λ d m. refl) refl (λ d q. refl)
  shape (Send k to x next) = sending (Send k to x next) k to (record { ends_not = refl; joins_not = λ c r. refl }) (λ c m. refl)
  shape (Pick k to l next) = sending (Pick k to l next) k to (record { ends_not = refl; joins_not = λ c r. refl }) (λ c m. refl)
  shape (Throw k to g next) = sending (Throw k to g next) k to (record { ends_not = refl; joins_not = λ c r. refl }) (λ c m. refl)
  shape (Recv k from x next) = taking (Recv k from x next) k from (takes_value next vars ss x) (record { ends_not = refl; joins_not = λ c r. refl }) (λ c m. refl)
  shape (Branch k from arms) = taking (Branch k from arms) k from (takes_label arms vars ss) (record { ends_not = refl; joins_not = λ c r. refl }) (λ c m. refl)
  shape (Catch k from g next) = taking (Catch k from g next) k from (takes_part next vars ss g) (record { ends_not = refl; joins_not = λ c r. refl }) (λ c m. refl)
  shape (Set x v next) = free (λ c m. refl) (λ c r. refl)
  shape (Show v next) = free (λ c m. refl) (λ c r. refl)
  shape (Host x f v w next) = free (λ c m. refl) (λ c r. refl)
  shape (If v t u) = free (λ c m. refl) (λ c r. refl)
  shape (Call f o us) = free (λ c m. refl) (λ c r. refl)
  shape End = free (λ c m. refl) (λ c r. refl)

-- ---- the cause of a post

absent_some : (e : Endpoints) (ms : List Machine) (c own : NameId) (o : Option Channel) (why : Why) → absent_on e ms c own o ≡ Some why → ((d r : NameId) → Absent d r ≡ why → ⊥) → ⊥
absent_some e ms c own None why h never = absurd cc
absent_some e ms c own (Some k) why h never = go k.active h
  where
    go : (rs : List NameId) → absent_among e ms c own rs ≡ Some why → ⊥
    go [] i = absurd cc
    go (q ∷ qs) i = at_role ((q.0 == own.0) || is_joined e ms c q) i (go qs)
      where
        at_role : (b : Bool) → (if b then absent_among e ms c own qs else Some (Absent c q)) ≡ Some why → (absent_among e ms c own qs ≡ Some why → ⊥) → ⊥
        at_role true j more = more j
        at_role false j more = (let is : Absent c q ≡ why = cc in never c q is)

-- a process waits by a cause, and so it neither ends nor joins
record Waits (e : Endpoints) (cap : Option ℕ) (n : NetworkState) (m : Machine) (why : Why) : Type 0 where
  waits : waits_for e cap n m ≡ Some why
  ends_not : has_ended e m ≡ false
  joins_not : (c r : NameId) → joins_there (place_of e m) c r ≡ false

module _ (v : OfficeView) (n : NetworkState) (queues : loads_in v.queues.lanes ≡ n.queues) (m : Machine) where
  at_queue : (t : Triple) → loads_at v.queues t ≡ queue_of n t
  at_queue t = ap (λ (qs : List (Triple × List Load)). loads_for qs t) queues

  waits_at : (q : Place) → place_of v.endpoints m ≡ Some q → (why : Why) → node_waits v.endpoints v.capacity n m.vars q.sessions q.node ≡ Some why → IsMail q.node q.sessions → Waits v.endpoints v.capacity n m why
  waits_at q at why h mail = record {
    waits = ap (place_waits v.endpoints v.capacity n m.vars) at ∙ h;
    ends_not = ap ends_there at ∙ mail.ends_not;
    joins_not = λ c r. ap (λ o. joins_there o c r) at ∙ mail.joins_not c r;
  }

  none_empty : (ls : List Load) → is_empty ls ≡ true → ls ≡ []
  none_empty [] h = refl
  none_empty (l ∷ ls) h = absurd cc

  first_empty : (ls : List Load) → slice_get ls 0 ≡ None → ls ≡ []
  first_empty [] h = refl
  first_empty (l ∷ ls) h = absurd cc

  record First (ls : List Load) (l : Load) : Type 0 where
    rest : List Load
    is : ls ≡ l ∷ rest

  first_of : (ls : List Load) (l : Load) → slice_get ls 0 ≡ Some l → First ls l
  first_of [] l h = absurd cc
  first_of (k ∷ ls) l h = (let same : k ≡ l = cc in record { rest = ls; is = ap (λ (x : Load). x ∷ ls) same })

  record Same (t u : Triple) : Type 0 where
    same : t ≡ u

  same_empty : {t s : ℕ} {c a d b : NameId} → Some (Empty t c d) ≡ Some (Empty s a b) → Same (t, c, d) (s, a, b)
  same_empty {t} {s} {c} {a} {d} {b} h = (let one : t ≡ s = cc in let two : c ≡ a = cc in let three : d ≡ b = cc in record { same = λ k. (one k, two k, three k) })

  same_wrong : {t s : ℕ} {c a d b : NameId} → Some (Wrong t c d) ≡ Some (Wrong s a b) → Same (t, c, d) (s, a, b)
  same_wrong {t} {s} {c} {a} {d} {b} h = (let one : t ≡ s = cc in let two : c ≡ a = cc in let three : d ≡ b = cc in record { same = λ k. (one k, two k, three k) })

  same_full : {t s : ℕ} {c a d b : NameId} → Some (Full t c d) ≡ Some (Full s a b) → Same (t, c, d) (s, a, b)
  same_full {t} {s} {c} {a} {d} {b} h = (let one : t ≡ s = cc in let two : c ≡ a = cc in let three : d ≡ b = cc in record { same = λ k. (one k, two k, three k) })

  waits_by : (why : Why) (cap : Option ℕ) (k : NetworkState) → ((q : Place) → place_of v.endpoints m ≡ Some q → node_waits v.endpoints cap k m.vars q.sessions q.node ≡ Some why → Waits v.endpoints v.capacity n m why) → waits_for v.endpoints cap k m ≡ Some why → Waits v.endpoints v.capacity n m why
  waits_by why cap k by h = go (place_of v.endpoints m) refl h
    where
      go : (o : Option Place) → place_of v.endpoints m ≡ o → place_waits v.endpoints cap k m.vars o ≡ Some why → Waits v.endpoints v.capacity n m why
      go None at i = absurd cc
      go (Some q) at i = by q at i

  empty_waits : (s : ℕ) (a b : NameId) → waits_for v.endpoints None nothing m ≡ Some (Empty s a b) → is_empty (loads_at v.queues (s, a, b)) ≡ true → Waits v.endpoints v.capacity n m (Empty s a b)
  empty_waits s a b h holds = waits_by (Empty s a b) None nothing by h
    where
      by : (q : Place) → place_of v.endpoints m ≡ Some q → node_waits v.endpoints None nothing m.vars q.sessions q.node ≡ Some (Empty s a b) → Waits v.endpoints v.capacity n m (Empty s a b)
      by q at i = go (shape v.endpoints m.vars q.sessions q.node)
        where
          go : Shape v.endpoints m.vars q.sessions q.node → Waits v.endpoints v.capacity n m (Empty s a b)
          go (takes t c d f mail is) =
              let j : Some (Empty t c d) ≡ Some (Empty s a b) = sym (is None nothing) ∙ i in
              let gone : queue_of n (t, c, d) ≡ [] = ap (queue_of n) (same_empty j).same ∙ sym (at_queue (s, a, b)) ∙ none_empty (loads_at v.queues (s, a, b)) holds in
              waits_at q at (Empty s a b) (is v.capacity n ∙ ap (waits_for_first t c d f) gone ∙ j) mail
          go (sends t c d mail is) = (let j : None ≡ Some (Empty s a b) = sym (is None nothing) ∙ i in absurd cc)
          go (joins d r is ends there) = absurd (absent_some v.endpoints [] d r (channel_of v.endpoints.channels d) (Empty s a b) (sym (is None nothing) ∙ i) (λ x y z. cc))
          go (free is there) = (let j : None ≡ Some (Empty s a b) = sym (is None nothing) ∙ i in absurd cc)

  wrong_waits : (s : ℕ) (a b : NameId) (l : Load) → slice_get (queue_of n (s, a, b)) 0 ≡ Some l → waits_for v.endpoints None (holding (s, a, b) l) m ≡ Some (Wrong s a b) → Waits v.endpoints v.capacity n m (Wrong s a b)
  wrong_waits s a b l first h = waits_by (Wrong s a b) None (holding (s, a, b) l) by h
    where
      by : (q : Place) → place_of v.endpoints m ≡ Some q → node_waits v.endpoints None (holding (s, a, b) l) m.vars q.sessions q.node ≡ Some (Wrong s a b) → Waits v.endpoints v.capacity n m (Wrong s a b)
      by q at i = go (shape v.endpoints m.vars q.sessions q.node)
        where
          go : Shape v.endpoints m.vars q.sessions q.node → Waits v.endpoints v.capacity n m (Wrong s a b)
          go (takes t c d f mail is) = at_load (queue_of (holding (s, a, b) l) (t, c, d)) refl (sym (is None (holding (s, a, b) l)) ∙ i)
            where
              at_load : (ls : List Load) → queue_of (holding (s, a, b) l) (t, c, d) ≡ ls → waits_for_first t c d f ls ≡ Some (Wrong s a b) → Waits v.endpoints v.capacity n m (Wrong s a b)
              at_load [] j k = absurd cc
              at_load (x ∷ rest) j k = at_test (is_some (f x)) refl k
                where
                  at_test : (r : Bool) → is_some (f x) ≡ r → (if r then None else Some (Wrong t c d)) ≡ Some (Wrong s a b) → Waits v.endpoints v.capacity n m (Wrong s a b)
                  at_test true g w = absurd cc
                  at_test false g w =
                      let same : (t, c, d) ≡ (s, a, b) = (same_wrong w).same in
                      let alone : queue_of (holding (s, a, b) l) (t, c, d) ≡ l ∷ [] = ap (queue_of (holding (s, a, b) l)) same ∙ ap (λ t. if t then l ∷ [] else []) (triple_same (s, a, b)) in
                      let one : l ∷ [] ≡ x ∷ rest = sym alone ∙ j in
                      let is_l : l ≡ x = cc in
                      let front = first_of (queue_of n (s, a, b)) l first in
                      waits_at q at (Wrong s a b) (is v.capacity n ∙ ap (λ u. waits_for_first t c d f (queue_of n u)) same ∙ ap (waits_for_first t c d f) front.is ∙ ap (λ y. if is_some (f y) then None else Some (Wrong t c d)) is_l ∙ ap (λ r. if r then None else Some (Wrong t c d)) g ∙ w) mail
          go (sends t c d mail is) = (let j : None ≡ Some (Wrong s a b) = sym (is None (holding (s, a, b) l)) ∙ i in absurd cc)
          go (joins d r is ends there) = absurd (absent_some v.endpoints [] d r (channel_of v.endpoints.channels d) (Wrong s a b) (sym (is None (holding (s, a, b) l)) ∙ i) (λ x y z. cc))
          go (free is there) = (let j : None ≡ Some (Wrong s a b) = sym (is None (holding (s, a, b) l)) ∙ i in absurd cc)

  full_waits : (s : ℕ) (a b : NameId) → waits_for v.endpoints (Some 0) nothing m ≡ Some (Full s a b) → is_full v (s, a, b) ≡ true → Waits v.endpoints v.capacity n m (Full s a b)
  full_waits s a b h holds = waits_by (Full s a b) (Some 0) nothing by h
    where
      no_room : (r : Bool) → not r ≡ true → r ≡ false
      no_room true j = absurd cc
      no_room false j = refl

      by : (q : Place) → place_of v.endpoints m ≡ Some q → node_waits v.endpoints (Some 0) nothing m.vars q.sessions q.node ≡ Some (Full s a b) → Waits v.endpoints v.capacity n m (Full s a b)
      by q at i = go (shape v.endpoints m.vars q.sessions q.node)
        where
          go : Shape v.endpoints m.vars q.sessions q.node → Waits v.endpoints v.capacity n m (Full s a b)
          go (takes t c d f mail is) = (let j : Some (Empty t c d) ≡ Some (Full s a b) = sym (is (Some 0) nothing) ∙ i in absurd cc)
          go (sends t c d mail is) =
              let j : Some (Full t c d) ≡ Some (Full s a b) = sym (is (Some 0) nothing) ∙ i in
              let same : (t, c, d) ≡ (s, a, b) = (same_full j).same in
              let room : has_room v.capacity (queue_of n (t, c, d)) ≡ false = ap (λ u. has_room v.capacity (queue_of n u)) same ∙ ap (has_room v.capacity) (sym (at_queue (s, a, b))) ∙ no_room _ holds in
              waits_at q at (Full s a b) (is v.capacity n ∙ ap (λ r. if r then None else Some (Full t c d)) room ∙ j) mail
          go (joins d r is ends there) = absurd (absent_some v.endpoints [] d r (channel_of v.endpoints.channels d) (Full s a b) (sym (is (Some 0) nothing) ∙ i) (λ x y z. cc))
          go (free is there) = (let j : None ≡ Some (Full s a b) = sym (is (Some 0) nothing) ∙ i in absurd cc)

  some_if : (b : Bool) (why w : Why) → (if b then Some why else None) ≡ Some w → (b ≡ true) × (why ≡ w)
  some_if true why w h = (refl, cc)
  some_if false why w h = absurd cc

  cause_waits : (why : Why) → IsWaiting v.endpoints n m why → still_holds v why ≡ true → Waits v.endpoints v.capacity n m why
  cause_waits (Empty s a b) h holds = empty_waits s a b h holds
  cause_waits (Wrong s a b) h holds = wrong_waits s a b h.0 h.1 h.2
  cause_waits (Full s a b) h holds = full_waits s a b h holds
  cause_waits (Absent c r) h holds = absurd h

-- ---- processes at rest

-- what is posted of each process is true of it
abbrev AllTrue : Endpoints → NetworkState → List Machine → List Desk → Type 0
AllTrue e n [] [] = Unit {0}
AllTrue e n [] (d ∷ ds) = ⊥
AllTrue e n (m ∷ ms) [] = ⊥
AllTrue e n (m ∷ ms) (d ∷ ds) = IsPost e n m d.post × AllTrue e n ms ds

all_true : (e : Endpoints) (n : NetworkState) (ms : List Machine) (ds : List Desk) → length ms ≡ length ds → ((p : ℕ) → IsPostOf e n (slice_get ms p) (post_of (slice_get ds p))) → AllTrue e n ms ds
all_true e n [] [] h t = tt
all_true e n [] (d ∷ ds) h t = absurd (omega (arith, h))
all_true e n (m ∷ ms) [] h t = absurd (omega (arith, h))
all_true e n (m ∷ ms) (d ∷ ds) h t = (t 0, all_true e n ms ds (omega (arith, h)) (λ p. t (suc p)))

name_is : (a b : NameId) → (a.0 == b.0) ≡ true → a ≡ b
name_is a b h = (let i = eqb-true a.0 b.0 h in λ k. record { 0 = i k })

same_test : (a b c : NameId) → a ≡ b → (a.0 == c.0) ≡ (b.0 == c.0)
same_test a b c h = ap (λ (x : NameId). x.0 == c.0) h

-- a process that ends at its place doesn't join there
ends_joins_not : (e : Endpoints) (m : Machine) → has_ended e m ≡ true → (c r : NameId) → joins_there (place_of e m) c r ≡ false
ends_joins_not e m h c r = go (place_of e m) h
  where
    go : (o : Option Place) → ends_there o ≡ true → joins_there o c r ≡ false
    go None i = refl
    go (Some q) i = at_shape (shape e m.vars q.sessions q.node)
      where
        at_shape : Shape e m.vars q.sessions q.node → joins_there (Some q) c r ≡ false
        at_shape (takes s a b f mail is) = mail.joins_not c r
        at_shape (sends s a b mail is) = mail.joins_not c r
        at_shape (joins d o is ends there) = (let j : true ≡ false = sym i ∙ ends in absurd cc)
        at_shape (free is there) = there c r

-- a process that joins channel c in role own
record Joins (e : Endpoints) (m : Machine) (c own : NameId) : Type 0 where
  waits : (cap : Option ℕ) (n : NetworkState) → waits_for e cap n m ≡ absent_on e n.machines c own (channel_of e.channels c)
  ends_not : has_ended e m ≡ false
  joins_as : (d r : NameId) → joins_there (place_of e m) d r ≡ ((c.0 == d.0) && (own.0 == r.0))

joining : (e : Endpoints) (m : Machine) (c own : NameId) → joins_there (place_of e m) c own ≡ true → Joins e m c own
joining e m c own h = go (place_of e m) refl h
  where
    go : (o : Option Place) → place_of e m ≡ o → joins_there o c own ≡ true → Joins e m c own
    go None at i = absurd cc
    go (Some q) at i = at_shape (shape e m.vars q.sessions q.node)
      where
        at_shape : Shape e m.vars q.sessions q.node → Joins e m c own
        at_shape (takes s a b f mail is) = (let j : false ≡ true = sym (mail.joins_not c own) ∙ i in absurd cc)
        at_shape (sends s a b mail is) = (let j : false ≡ true = sym (mail.joins_not c own) ∙ i in absurd cc)
        at_shape (free is there) = (let j : false ≡ true = sym (there c own) ∙ i in absurd cc)
        at_shape (joins d r is ends there) =
            let parts = and_parts (d.0 == c.0) (r.0 == own.0) (sym (there c own) ∙ i) in
            let one : d ≡ c = name_is d c parts.0 in
            let two : r ≡ own = name_is r own parts.1 in
            record {
              waits = λ cap n. ap (place_waits e cap n m.vars) at ∙ is cap n ∙ ap (λ (x : NameId). absent_on e n.machines x r (channel_of e.channels x)) one ∙ ap (λ (x : NameId). absent_on e n.machines c x (channel_of e.channels c)) two;
              ends_not = ap ends_there at ∙ ends;
              joins_as = λ x y. ap (λ o. joins_there o x y) at ∙ there x y ∙ ap (λ (z : NameId). (z.0 == x.0) && (r.0 == y.0)) one ∙ ap (λ (z : NameId). (c.0 == x.0) && (z.0 == y.0)) two;
            }

module _ (v : OfficeView) (n : NetworkState) (queues : loads_in v.queues.lanes ≡ n.queues) where
  rests_waiting : (m : Machine) (p : ℕ) (why : Why) → IsWaiting v.endpoints n m why → is_some (cause_of v p (Waiting why)) ≡ true → Waits v.endpoints v.capacity n m why × (cause_of v p (Waiting why) ≡ Some why)
  rests_waiting m p why h holds = go (still_holds v why) refl holds
    where
      go : (b : Bool) → still_holds v why ≡ b → is_some (if b then Some why else None) ≡ true → Waits v.endpoints v.capacity n m why × (cause_of v p (Waiting why) ≡ Some why)
      go true i j = (cause_waits v n queues m why h i, ap (λ b. if b then Some why else None) i)
      go false i j = absurd cc

  joins_alike : (m : Machine) (p : ℕ) (post : Post) → IsPost v.endpoints n m post → (is_ended post || is_some (cause_of v p post)) ≡ true → (c r : NameId) → joins_there (place_of v.endpoints m) c r ≡ joins_as post c r
  joins_alike m p Busy h rest c r = absurd cc
  joins_alike m p (Joining d own) h rest c r = (joining v.endpoints m d own h).joins_as c r
  joins_alike m p (Waiting why) h rest c r = (rests_waiting m p why h rest).0.joins_not c r
  joins_alike m p Ended h rest c r = ends_joins_not v.endpoints m h c r

  joined_alike : (ms : List Machine) (ds : List Desk) (p q : ℕ) (c r : NameId) → AllTrue v.endpoints n ms ds → all_rest v p ds ≡ true → is_joined v.endpoints ms c r ≡ is_some (least_posted q ds c r)
  joined_alike [] [] p q c r t rest = refl
  joined_alike [] (d ∷ ds) p q c r t rest = absurd t
  joined_alike (m ∷ ms) [] p q c r t rest = absurd t
  joined_alike (m ∷ ms) (d ∷ ds) p q c r t rest =
      let parts = and_parts (is_ended d.post || is_some (cause_of v p d.post)) (all_rest v (suc p) ds) rest in
      let head = joins_alike m p d.post t.0 parts.0 c r in
      ap (λ b. b || is_joined v.endpoints ms c r) head ∙ go (joins_as d.post c r) (joined_alike ms ds (suc p) (suc q) c r t.1 parts.1)
    where
      go : (b : Bool) → is_joined v.endpoints ms c r ≡ is_some (least_posted (suc q) ds c r) → (b || is_joined v.endpoints ms c r) ≡ is_some (if b then Some q else least_posted (suc q) ds c r)
      go true more = refl
      go false more = more

  module _ (c : NameId) (alike : (r : NameId) → is_joined v.endpoints n.machines c r ≡ is_some (least_posted 0 v.desks c r)) (p : ℕ) (own : NameId) where
    absent_alike : (rs : List NameId) → absent_among v.endpoints n.machines c own rs ≡ absent_cause c (first_absent v.desks c p own rs)
    absent_alike [] = refl
    absent_alike (r ∷ rs) = ap (λ b. if b then absent_among v.endpoints n.machines c own rs else Some (Absent c r)) (there (r.0 == own.0)) ∙ go (is_some (partner_for v.desks c p own r)) (absent_alike rs)
      where
        there : (b : Bool) → (b || is_joined v.endpoints n.machines c r) ≡ is_some (if b then Some p else least_posted 0 v.desks c r)
        there true = refl
        there false = alike r

        go : (b : Bool) → absent_among v.endpoints n.machines c own rs ≡ absent_cause c (first_absent v.desks c p own rs) → (if b then absent_among v.endpoints n.machines c own rs else Some (Absent c r)) ≡ absent_cause c (if b then first_absent v.desks c p own rs else Some r)
        go true more = more
        go false more = refl

    absent_same : (o : Option Channel) → absent_on v.endpoints n.machines c own o ≡ absent_posted v p c own o
    absent_same None = refl
    absent_same (Some k) = absent_alike k.active

  -- a process that has ended, or that waits by the cause of its post
  data AtRest (m : Machine) (p : ℕ) (post : Post) : Type 0 where
    over : is_ended post ≡ true → has_ended v.endpoints m ≡ true → AtRest m p post
    held : (why : Why) → is_ended post ≡ false → cause_of v p post ≡ Some why → has_ended v.endpoints m ≡ false → waits_for v.endpoints v.capacity n m ≡ Some why → AtRest m p post

  module _ (alike : (c r : NameId) → is_joined v.endpoints n.machines c r ≡ is_some (least_posted 0 v.desks c r)) where
    at_rest : (m : Machine) (p : ℕ) (post : Post) → IsPost v.endpoints n m post → (is_ended post || is_some (cause_of v p post)) ≡ true → AtRest m p post
    at_rest m p Busy h rest = absurd cc
    at_rest m p (Joining c own) h rest = go (cause_of v p (Joining c own)) refl rest
      where
        go : (o : Option Why) → cause_of v p (Joining c own) ≡ o → is_some o ≡ true → AtRest m p (Joining c own)
        go None i j = absurd cc
        go (Some why) i j = (let join = joining v.endpoints m c own h in held why refl i join.ends_not (join.waits v.capacity n ∙ absent_same c (alike c) p own (channel_of v.endpoints.channels c) ∙ i))
    at_rest m p (Waiting why) h rest = (let w = rests_waiting m p why h rest in held why refl w.1 w.0.ends_not w.0.waits)
    at_rest m p Ended h rest = over refl h

    -- none of them can step, and the first that hasn't ended is the first that isn't posted as ended
    all_at_rest : (ms : List Machine) (ds : List Desk) (p : ℕ) → AllTrue v.endpoints n ms ds → all_rest v p ds ≡ true
        → (none_can_step v.endpoints v.capacity n ms ≡ true) × (first_waiting_from v.endpoints v.capacity n p ms ≡ first_resting v p ds)
    all_at_rest [] [] p t rest = (refl, refl)
    all_at_rest [] (d ∷ ds) p t rest = absurd t
    all_at_rest (m ∷ ms) [] p t rest = absurd t
    all_at_rest (m ∷ ms) (d ∷ ds) p t rest =
        let parts = and_parts (is_ended d.post || is_some (cause_of v p d.post)) (all_rest v (suc p) ds) rest in
        go (at_rest m p d.post t.0 parts.0) (all_at_rest ms ds (suc p) t.1 parts.1)
      where
        go : AtRest m p d.post → (none_can_step v.endpoints v.capacity n ms ≡ true) × (first_waiting_from v.endpoints v.capacity n (suc p) ms ≡ first_resting v (suc p) ds)
            → (none_can_step v.endpoints v.capacity n (m ∷ ms) ≡ true) × (first_waiting_from v.endpoints v.capacity n p (m ∷ ms) ≡ first_resting v p (d ∷ ds))
        go (over ended is) more = (
          ap (λ b. if (if b then false else (if is_some (waits_for v.endpoints v.capacity n m) then false else true)) then false else none_can_step v.endpoints v.capacity n ms) is ∙ more.0,
          ap (λ b. if b then first_waiting_from v.endpoints v.capacity n (suc p) ms else Some (p, waits_for v.endpoints v.capacity n m)) is ∙ more.1 ∙ ap (λ b. if b then first_resting v (suc p) ds else Some (p, cause_of v p d.post)) (sym ended),
        )
        go (held why left cause goes waits) more = (
          ap (λ b. if (if b then false else (if is_some (waits_for v.endpoints v.capacity n m) then false else true)) then false else none_can_step v.endpoints v.capacity n ms) goes
              ∙ ap (λ (o : Option Why). if (if is_some o then false else true) then false else none_can_step v.endpoints v.capacity n ms) waits ∙ more.0,
          ap (λ b. if b then first_waiting_from v.endpoints v.capacity n (suc p) ms else Some (p, waits_for v.endpoints v.capacity n m)) goes ∙ ap (λ (o : Option Why). Some (p, o)) (waits ∙ sym cause)
              ∙ ap (λ b. if b then first_resting v (suc p) ds else Some (p, cause_of v p d.post)) (sym left),
        )

  all_over : (ms : List Machine) (ds : List Desk) (p : ℕ) → AllTrue v.endpoints n ms ds → first_resting v p ds ≡ None → all_ended v.endpoints ms ≡ true
  all_over [] [] p t none = refl
  all_over [] (d ∷ ds) p t none = absurd t
  all_over (m ∷ ms) [] p t none = absurd t
  all_over (m ∷ ms) (d ∷ ds) p t none = at_post d.post t.0 none (λ later. all_over ms ds (suc p) t.1 later)
    where
      at_post : (post : Post) → IsPost v.endpoints n m post → (if is_ended post then first_resting v (suc p) ds else Some (p, cause_of v p post)) ≡ None → (first_resting v (suc p) ds ≡ None → all_ended v.endpoints ms ≡ true) → (has_ended v.endpoints m && all_ended v.endpoints ms) ≡ true
      at_post Busy h i more = absurd cc
      at_post (Joining c own) h i more = absurd cc
      at_post (Waiting why) h i more = absurd cc
      at_post Ended h i more = ap (λ b. b && all_ended v.endpoints ms) h ∙ more i

-- ---- the whole

module _ (v : OfficeView) (kept : IsKept v) where
  true_of_all : AllTrue v.endpoints kept.state kept.state.machines v.desks
  true_of_all = all_true v.endpoints kept.state kept.state.machines v.desks kept.processes kept.posts

  after_same : (P : NetworkState → Type 0) → P kept.state → (n : NetworkState) → IsAfter v n → P n
  after_same P h n a = subst P (one_state v kept.state n kept.after a) h

  pub ended_after : first_resting v 0 v.desks ≡ None → IsTrueAfter v stands.Ended
  ended_after none = after_same (λ (n : NetworkState). all_ended v.endpoints n.machines ≡ true) (all_over v kept.state kept.queues kept.state.machines v.desks 0 true_of_all none)

  pub stuck_after : (p : ℕ) (why : Why) → all_rest v 0 v.desks ≡ true → first_resting v 0 v.desks ≡ Some (p, Some why) → IsTrueAfter v (stands.Stuck p why)
  stuck_after p why rest first =
      let alike = λ (c r : NameId). joined_alike v kept.state kept.queues kept.state.machines v.desks 0 0 c r true_of_all rest in
      let all = all_at_rest v kept.state kept.queues alike kept.state.machines v.desks 0 true_of_all rest in
      after_same (λ (n : NetworkState). (none_can_step v.endpoints v.capacity n n.machines ≡ true) × (first_waiting_from v.endpoints v.capacity n 0 n.machines ≡ Some (p, Some why))) (all.0, all.1 ∙ first)
