-- What callers show to post something, or to make an event.
use Rattle.std.proofs.Common.{◌≡◌, ℕ, ◌==◌, ◌||◌, Bool, true, false, List, [], ◌∷◌, refl, sym, ap, ◌∙◌, subst, Option, Some, None, is_some, if◌then◌else◌}
use Rattle.std.specs.Prelude.{slice_get}
use Rattle.std.specs.FinMap as fin
use Rattle.chor_base.specs.declared.names.NameId.{NameId}
use Rattle.chor_base.specs.declared.value.Load.{Load}
use Rattle.chor_base.specs.declared.event.Event.{Event}
use Rattle.chor_base.specs.declared.event.Why.{Why}
use Rattle.chor_base.specs.declared.event.Why.TheVariants.{Empty, Wrong, Full, Absent}
use Rattle.chor_base.specs.NameMap.{Variables}
use Rattle.chor_base.specs.Meaning.{Hosts}
use Rattle.endpoint_code.specs.declared.code.CodeNode.{CodeNode}
use Rattle.endpoint_code.specs.declared.code.CodeNode.TheVariants.{Join, Send, Recv, Pick, Branch, Throw, Catch, Set, Show, Host, If, Call, End}
use Rattle.endpoint_code.specs.declared.endpoints.Channel.{Channel}
use Rattle.endpoint_code.specs.declared.endpoints.Endpoints.{Endpoints}
use Rattle.endpoint_code.specs.Network.{Sessions, Machine, NetworkState, Place, Taking, queue_of, has_room, takes_value, takes_label, takes_part, place_of, channel_of, NetworkSteps}
use Rattle.endpoint_code.specs.NetworkRuns.{NetworkLeads, is_joined, absent_among, absent_on, waits_to_send, waits_for_first, waits_to_receive, node_waits, place_waits, waits_for}
use Rattle.endpoint_code.proofs.OneNext.{next_one}
use Rattle.endpoint_code.proofs.Queues.{triple_same}
use Rattle.post_office.specs.declared.post.Post.{Post}
use Rattle.post_office.specs.Views.{OfficeView, IsAfter, CanMake}
use Rattle.post_office.specs.Posts.{nothing, holding, IsWaiting, IsTrueIn}
use Rattle.post_office.specs.Kept.{CanPost}

-- ---- the state after the history

leads_one : (e : Endpoints) (hosts : Hosts) (capacity : Option ℕ) (h : List Event) (n k m : NetworkState) → NetworkLeads e hosts capacity n h k → NetworkLeads e hosts capacity n h m → k ≡ m
leads_one e hosts capacity [] n k m a b = sym a ∙ b
leads_one e hosts capacity (x ∷ xs) n k m a b =
    let same : a.0 ≡ b.0 = next_one e hosts capacity n a.0 b.0 x a.1 b.1 in
    leads_one e hosts capacity xs b.0 k m (subst (λ (w : NetworkState). NetworkLeads e hosts capacity w xs k) same a.2) b.2

-- the events so far lead to one state
pub one_state : (v : OfficeView) (n m : NetworkState) → IsAfter v n → IsAfter v m → n ≡ m
one_state v n m a b = leads_one v.endpoints v.hosts v.capacity _ _ n m a b

pub can_make : (v : OfficeView) (x : Event) (n m : NetworkState) → IsAfter v n → NetworkSteps v.endpoints v.hosts None n x m → CanMake v x
can_make v x n m a s k b = (m, subst (λ (w : NetworkState). NetworkSteps v.endpoints v.hosts None w x m) (one_state v n k a b) s)

pub can_post : (v : OfficeView) (p : ℕ) (post : Post) (n : NetworkState) → IsAfter v n → IsTrueIn v.endpoints n p post → CanPost v p post
can_post v p post n a t k b = subst (λ (w : NetworkState). IsTrueIn v.endpoints w p post) (one_state v n k a b) t

-- ---- the cause by which a process waits

abbrev pub is_absent : Why → Bool
is_absent (Empty s a b) = false
is_absent (Wrong s a b) = false
is_absent (Full s a b) = false
is_absent (Absent c r) = true

absent_is : (e : Endpoints) (ms : List Machine) (c own : NameId) (rs : List NameId) (why : Why) → absent_among e ms c own rs ≡ Some why → is_absent why ≡ true
absent_is e ms c own [] why h = absurd cc
absent_is e ms c own (r ∷ rs) why h = go ((r.0 == own.0) || is_joined e ms c r) h (absent_is e ms c own rs why)
  where
    go : (b : Bool) → (if b then absent_among e ms c own rs else Some (Absent c r)) ≡ Some why → (absent_among e ms c own rs ≡ Some why → is_absent why ≡ true) → is_absent why ≡ true
    go true i again = again i
    go false i again = (let is : Absent c r ≡ why = cc in ap is_absent (sym is))

module _ (e : Endpoints) (cap : Option ℕ) (n : NetworkState) (vars : Variables) (ss : Sessions) (why : Why) (present : is_absent why ≡ false) where
  -- the same for the node at which a process stands
  abbrev NodeWaits : CodeNode → Why → Type 0
  NodeWaits node (Empty s a b) = node_waits e None nothing vars ss node ≡ Some (Empty s a b)
  NodeWaits node (Wrong s a b) = (l : Load) × (slice_get (queue_of n (s, a, b)) 0 ≡ Some l) × (node_waits e None (holding (s, a, b) l) vars ss node ≡ Some (Wrong s a b))
  NodeWaits node (Full s a b) = node_waits e (Some 0) nothing vars ss node ≡ Some (Full s a b)
  NodeWaits node (Absent c r) = ⊥

  joins_not : (c own : NameId) (o : Option Channel) → absent_on e n.machines c own o ≡ Some why → ⊥
  joins_not c own None h = absurd cc
  joins_not c own (Some k) h = (let yes = absent_is e n.machines c own k.active why h in cc)

  sends : (node : CodeNode) (k to : NameId) → ((c : Option ℕ) (m : NetworkState) → node_waits e c m vars ss node ≡ waits_to_send c m to (fin.get ss k.0)) → waits_to_send cap n to (fin.get ss k.0) ≡ Some why → NodeWaits node why
  sends node k to is h = go (fin.get ss k.0) refl h
    where
      go : (o : Option (ℕ × NameId)) → fin.get ss k.0 ≡ o → waits_to_send cap n to o ≡ Some why → NodeWaits node why
      go None f i = absurd cc
      go (Some (s, a)) f i = full (has_room cap (queue_of n (s, a, to))) i
        where
          full : (b : Bool) → (if b then None else Some (Full s a to)) ≡ Some why → NodeWaits node why
          full true j = absurd cc
          full false j = (let same : Full s a to ≡ why = cc in subst (NodeWaits node) same (is (Some 0) nothing ∙ ap (waits_to_send (Some 0) nothing to) f))

  takes : (node : CodeNode) (k from : NameId) (f : Load → Option Taking) → ((c : Option ℕ) (m : NetworkState) → node_waits e c m vars ss node ≡ waits_to_receive m from (fin.get ss k.0) f) → waits_to_receive n from (fin.get ss k.0) f ≡ Some why → NodeWaits node why
  takes node k from f is h = go (fin.get ss k.0) refl h
    where
      go : (o : Option (ℕ × NameId)) → fin.get ss k.0 ≡ o → waits_to_receive n from o f ≡ Some why → NodeWaits node why
      go None g i = absurd cc
      go (Some (s, b)) g i = at_queue (queue_of n (s, from, b)) refl i
        where
          at_queue : (q : List Load) → queue_of n (s, from, b) ≡ q → waits_for_first s from b f q ≡ Some why → NodeWaits node why
          at_queue [] y j = (let same : Empty s from b ≡ why = cc in subst (NodeWaits node) same (is None nothing ∙ ap (λ o. waits_to_receive nothing from o f) g))
          at_queue (l ∷ rest) y j = at_load (is_some (f l)) refl j
            where
              alone : queue_of (holding (s, from, b) l) (s, from, b) ≡ l ∷ []
              alone = ap (λ t. if t then l ∷ [] else []) (triple_same (s, from, b))

              at_load : (t : Bool) → is_some (f l) ≡ t → (if t then None else Some (Wrong s from b)) ≡ Some why → NodeWaits node why
              at_load true z j = absurd cc
              at_load false z j =
                  let same : Wrong s from b ≡ why = cc in
                  subst (NodeWaits node) same (
                    l,
                    ap (λ ls. slice_get ls 0) y,
                    is None (holding (s, from, b) l) ∙ ap (λ o. waits_to_receive (holding (s, from, b) l) from o f) g ∙ ap (waits_for_first s from b f) alone ∙ ap (λ t. if t then None else Some (Wrong s from b)) z,
                  )

  node_posts : (node : CodeNode) → node_waits e cap n vars ss node ≡ Some why → NodeWaits node why
  node_posts (Join c r k next) h = absurd (joins_not c r (channel_of e.channels c) h)
  node_posts (Send k to x next) h = sends (Send k to x next) k to (λ c m. refl) h
  node_posts (Pick k to l next) h = sends (Pick k to l next) k to (λ c m. refl) h
  node_posts (Throw k to g next) h = sends (Throw k to g next) k to (λ c m. refl) h
  node_posts (Recv k from x next) h = takes (Recv k from x next) k from (takes_value next vars ss x) (λ c m. refl) h
  node_posts (Branch k from arms) h = takes (Branch k from arms) k from (takes_label arms vars ss) (λ c m. refl) h
  node_posts (Catch k from g next) h = takes (Catch k from g next) k from (takes_part next vars ss g) (λ c m. refl) h
  node_posts (Set x v next) h = absurd cc
  node_posts (Show v next) h = absurd cc
  node_posts (Host x f v w next) h = absurd cc
  node_posts (If v t u) h = absurd cc
  node_posts (Call f o us) h = absurd cc
  node_posts End h = absurd cc

-- a process that waits at a queue may be posted with its cause
pub waits_posts : (e : Endpoints) (cap : Option ℕ) (n : NetworkState) (m : Machine) (why : Why) → is_absent why ≡ false → waits_for e cap n m ≡ Some why → IsWaiting e n m why
waits_posts e cap n m why present h = go (place_of e m) refl h
  where
    go : (o : Option Place) → place_of e m ≡ o → place_waits e cap n m.vars o ≡ Some why → IsWaiting e n m why
    go None f i = absurd cc
    go (Some q) f i = by why (node_posts e cap n m.vars q.sessions why present q.node i)
      where
        by : (y : Why) → NodeWaits e cap n m.vars q.sessions why present q.node y → IsWaiting e n m y
        by (Empty s a b) j = ap (place_waits e None nothing m.vars) f ∙ j
        by (Wrong s a b) j = (j.0, j.1, ap (place_waits e None (holding (s, a, b) j.0) m.vars) f ∙ j.2)
        by (Full s a b) j = ap (place_waits e (Some 0) nothing m.vars) f ∙ j
        by (Absent c r) j = j
