-- What a step of one process does to the holders of roles.
use Rattle.std.proofs.Common.{◌≡◌, ℕ, ◌<◌, ◌==◌, ◌&&◌, ◌⊎◌, inl, inr, Bool, true, false, cond, List, [], ◌∷◌, ◌++◌, length, refl, sym, ap, ◌∙◌, subst, Option, Some, None, ℤ, if◌then◌else◌}
use Rattle.std.specs.Prelude.{slice_get, slice_set, unwrap_or, pos}
use Rattle.std.specs.FinMap as fin
use Rattle.std.proofs.lemmas.Cmp.{nat_cmp_total}
use Rattle.std.proofs.lemmas.Bool.{eqb-true, eqb-false, and_parts}
use Rattle.chor_base.proofs.Lists.{get_set_other}
use Rattle.chor_base.specs.declared.names.NameId.{NameId}
use Rattle.chor_base.specs.declared.value.Value.{Value}
use Rattle.chor_base.specs.declared.value.Value.TheVariants.{Int, Bool as Truth, Text, Part as Endpoint}
use Rattle.chor_base.specs.declared.value.Load.{Load}
use Rattle.chor_base.specs.declared.value.Load.TheVariants.{Value as Carries, Label as Picks}
use Rattle.chor_base.specs.declared.event.Event.{Event}
use Rattle.chor_base.specs.declared.expr.UnOp.{UnOp}
use Rattle.chor_base.specs.declared.expr.UnOp.TheVariants.{Neg, Not}
use Rattle.chor_base.specs.declared.expr.BinOp.{BinOp}
use Rattle.chor_base.specs.declared.expr.BinOp.TheVariants.{Add, Sub, Mul, Div, Eq, Ne, Lt, Le, And, Or}
use Rattle.chor_base.specs.Expr.{Term, Constant, Variable, Unary, Binary, term_of, value_of, truth_of, unary, binary}
use Rattle.chor_base.specs.NameMap.{Variables}
use Rattle.chor_base.specs.Events.{Triple}
use Rattle.endpoint_code.specs.declared.code.CodeId.{CodeId}
use Rattle.endpoint_code.specs.declared.code.CodeNode.{CodeNode}
use Rattle.endpoint_code.specs.declared.code.CodeNode.TheVariants.{Join, Send, Recv, Pick, Branch, Throw, Catch, Set, Show, Host, If, Call, End}
use Rattle.endpoint_code.specs.Kept.{value_there, term_there, node_there}
use Rattle.endpoint_code.specs.Network.{Sessions, Machine, NetworkState, Makes, Taking, Goes, arm_at, in_arm, moved, with_queue, put_if, puts, part_load, has_room, queue_of, takes, takes_from, went, takes_value, takes_label, takes_part, node_makes}
use Rattle.post_office.proofs.Reached.{get-set_own}
use Rattle.post_office.proofs.Held.{keyed, get_bound, get_unbound, AreOnce, AreFrom, Holder, Process, Transit, held_by, HoldsAt, IsUnique, IsNowhere, fewer_unique, added_unique, own_held, held_own, other_held, was_held, replaced_unique, put, put_split, before, taken_before, taken_unique, taken_nowhere}

-- ---- values that are no endpoints

abbrev pub is_plain : Value → Bool
is_plain (Int z) = true
is_plain (Truth b) = true
is_plain (Text t) = true
is_plain (Endpoint s r) = false

abbrev pub ArePlain : Variables → Type 0
ArePlain vars = (x : ℕ) (v : Value) → fin.get vars x ≡ Some v → is_plain v ≡ true

set_plain : (vars : Variables) (x : ℕ) (v : Value) → ArePlain vars → is_plain v ≡ true → ArePlain (fin.insert vars x v)
set_plain vars x v all one q w h = go (q == x) refl (sym (fin.get-insert nat_cmp_total vars x v q ∙ ap (λ b. cond b (Some v) (fin.get vars q)) (keyed q x)) ∙ h)
  where
    go : (b : Bool) → (q == x) ≡ b → cond (q == x) (Some v) (fin.get vars q) ≡ Some w → is_plain w ≡ true
    go true e i = (let j : Some v ≡ Some w = sym (ap (λ b. cond b (Some v) (fin.get vars q)) e) ∙ i in let is : v ≡ w = cc in subst (λ (u : Value). is_plain u ≡ true) is one)
    go false e i = all q w (sym (ap (λ b. cond b (Some v) (fin.get vars q)) e) ∙ i)

unary_plain : (op : UnOp) (v : Value) → is_plain (unary op v) ≡ true
unary_plain Neg v = refl
unary_plain Not v = refl

binary_plain : (op : BinOp) (v w : Value) → is_plain (binary op v w) ≡ true
binary_plain Add v w = refl
binary_plain Sub v w = refl
binary_plain Mul v w = refl
binary_plain Div v w = refl
binary_plain Eq v w = refl
binary_plain Ne v w = refl
binary_plain Lt v w = refl
binary_plain Le v w = refl
binary_plain And v w = refl
binary_plain Or v w = refl

literal_plain : (n : NameId → Bool) (t : ℕ → Bool) (v : Value) → value_there n t v ≡ true → is_plain v ≡ true
literal_plain n t (Int z) h = refl
literal_plain n t (Truth b) h = refl
literal_plain n t (Text x) h = refl
literal_plain n t (Endpoint s r) h = absurd cc

value_plain : (n : NameId → Bool) (t : ℕ → Bool) (e : Term) (vars : Variables) → term_there n t e ≡ true → ArePlain vars → is_plain (value_of e vars) ≡ true
value_plain n t (Constant v) vars h all = literal_plain n t v h
value_plain n t (Variable x) vars h all = go (fin.get vars x.0) refl
  where
    go : (o : Option Value) → fin.get vars x.0 ≡ o → is_plain (unwrap_or o (Int (pos 0))) ≡ true
    go None f = refl
    go (Some v) f = all x.0 v f
value_plain n t (Unary op e) vars h all = unary_plain op (value_of e vars)
value_plain n t (Binary op e f) vars h all = binary_plain op (value_of e vars) (value_of f vars)

plain_apart : (v : Value) (w : ℕ × NameId) → is_plain v ≡ true → Carries v ≡ Carries (Endpoint w.0 w.1) → ⊥
plain_apart v w h e = (let is : v ≡ Endpoint w.0 w.1 = cc in let no : is_plain (Endpoint w.0 w.1) ≡ true = subst (λ (u : Value). is_plain u ≡ true) is h in cc)

-- ---- states

-- each role is held once, of a session that has started, and no variable has an endpoint
pub record IsSound (n : NetworkState) : Type 0 where
  pub unique : IsUnique n
  pub started : (v : ℕ × NameId) (l : Holder) → HoldsAt n v l → v.0 < n.sid
  pub plain : (p : ℕ) (m : Machine) → slice_get n.machines p ≡ Some m → ArePlain m.vars

pub plain_set : (ms : List Machine) (p : ℕ) (m : Machine) → ((q : ℕ) (w : Machine) → slice_get ms q ≡ Some w → ArePlain w.vars) → ArePlain m.vars → (q : ℕ) (w : Machine) → slice_get (slice_set ms p m) q ≡ Some w → ArePlain w.vars
plain_set ms p m all one q w h = go (q == p) refl
  where
    go : (b : Bool) → (q == p) ≡ b → ArePlain w.vars
    go true e = subst (λ (x : Machine). ArePlain x.vars) (get-set_own ms p m w (subst (λ j. slice_get (slice_set ms p m) j ≡ Some w) (eqb-true q p e) h)) one
    go false e = all q w (sym (get_set_other ms p q m (eqb-false q p e)) ∙ h)

module _ (n : NetworkState) (p : ℕ) (w : Machine) (there : slice_get n.machines p ≡ Some w) (sound : IsSound n) where
  -- a process goes on, with names for sessions that it had
  pub moved_sound : (at : CodeId) (vars : Variables) (ss : Sessions) → AreFrom ss w.sessions → AreOnce ss → ArePlain vars → IsSound (moved n p at vars ss)
  moved_sound at vars ss from once plain =
      let m : Machine = record { at = at; vars = vars; sessions = ss } in
      record {
        unique = replaced_unique n p w m there from once sound.unique;
        started = λ v l h. (let o = was_held n p w m there from v l h in sound.started v o.0 o.1);
        plain = plain_set n.machines p m sound.plain plain;
      }

  -- one name less is bound: what it stood for is nowhere
  module _ (at : CodeId) (vars : Variables) (ss : Sessions) (from : AreFrom ss w.sessions) (once : AreOnce ss) (plain : ArePlain vars) (k : ℕ) (v : ℕ × NameId) (found : fin.get ss k ≡ Some v) where
    abbrev with_it : Machine
    with_it = record { at = at; vars = vars; sessions = ss }

    abbrev without_it : Machine
    without_it = record { at = at; vars = vars; sessions = fin.remove ss k }

    fewer_from : AreFrom (fin.remove ss k) w.sessions
    fewer_from j u h = from j u (get_unbound ss k j u h).1

    fewer_once : AreOnce (fin.remove ss k)
    fewer_once i j u a b = once i j u (get_unbound ss k i u a).1 (get_unbound ss k j u b).1

    pub unbound_sound : IsSound (moved n p at vars (fin.remove ss k))
    unbound_sound = moved_sound at vars (fin.remove ss k) fewer_from fewer_once plain

    held_too : (l : Holder) → HoldsAt (moved n p at vars (fin.remove ss k)) v l → HoldsAt (moved n p at vars ss) v l
    held_too (Transit t i) h = h
    held_too (Process q j) h = go (q == p) refl
      where
        go : (b : Bool) → (q == p) ≡ b → HoldsAt (moved n p at vars ss) v (Process q j)
        go true e =
            let own = own_held n p w without_it there j v (subst (λ x. held_by (slice_get (moved n p at vars (fin.remove ss k)).machines x) j ≡ Some v) (eqb-true q p e) h) in
            subst (λ x. held_by (slice_get (moved n p at vars ss).machines x) j ≡ Some v) (sym (eqb-true q p e)) (held_own n p w with_it there j v (get_unbound ss k j v own).1)
        go false e =
            ap (λ (o : Option Machine). held_by o j) (get_set_other n.machines p q with_it (eqb-false q p e)) ∙ other_held n p w without_it there q j v (eqb-false q p e) h

    pub unbound_nowhere : IsNowhere (moved n p at vars (fin.remove ss k)) v
    unbound_nowhere l h =
        let all = moved_sound at vars ss from once plain in
        let same : l ≡ Process p k = all.unique v l (Process p k) (held_too l h) (held_own n p w with_it there k v found) in
        let own = own_held n p w without_it there k v (subst (λ (o : Holder). HoldsAt (moved n p at vars (fin.remove ss k)) v o) same h) in
        (get_unbound ss k k v own).0 refl

-- a load that is no endpoint is put into a queue
put_plain : (n : NetworkState) (t : Triple) (l : Load) → ((v : ℕ × NameId) → l ≡ Carries (Endpoint v.0 v.1) → ⊥) → IsSound n → IsSound (with_queue n t (queue_of n t ++ l ∷ []))
put_plain n t l apart sound = record {
  unique = fewer_unique n (put n t l) old sound.unique;
  started = λ v o h. sound.started v o (old v o h);
  plain = sound.plain;
}
  where
    old : (v : ℕ × NameId) (o : Holder) → HoldsAt (put n t l) v o → HoldsAt n v o
    old v o h = elim (put_split n t l v o h) [ inl e ↦ absurd (apart v e.1) | inr e ↦ e ]

-- an endpoint that is nowhere is put into a queue
put_part : (n : NetworkState) (t : Triple) (v : ℕ × NameId) → IsNowhere n v → v.0 < n.sid → IsSound n → IsSound (with_queue n t (queue_of n t ++ Carries (Endpoint v.0 v.1) ∷ []))
put_part n t v none lt sound = record {
  unique = added_unique n (put n t (Carries (Endpoint v.0 v.1))) v (Transit t (length (queue_of n t))) split none sound.unique;
  started = λ u o h. elim (split u o h) [ inl e ↦ subst (λ (x : ℕ × NameId). x.0 < n.sid) e.1 lt | inr e ↦ sound.started u o e ];
  plain = sound.plain;
}
  where
    split : (u : ℕ × NameId) (o : Holder) → HoldsAt (put n t (Carries (Endpoint v.0 v.1))) u o → ((o ≡ Transit t (length (queue_of n t))) × (v ≡ u)) ⊎ HoldsAt n u o
    split u o h = elim (put_split n t (Carries (Endpoint v.0 v.1)) u o h) [
      | inl e ↦ inl (e.0, (let c : Carries (Endpoint v.0 v.1) ≡ Carries (Endpoint u.0 u.1) = e.1 in let a : v.0 ≡ u.0 = cc in let b : v.1 ≡ u.1 = cc in λ i. (a i, b i)))
      | inr e ↦ inr e
    ]

taken_sound : (n : NetworkState) (t : Triple) (l : Load) (rest : List Load) → queue_of n t ≡ l ∷ rest → IsSound n → IsSound (with_queue n t rest)
taken_sound n t l rest is sound = record {
  unique = taken_unique n t l rest is sound.unique;
  started = λ v o h. sound.started v (before n t l rest is o) (taken_before n t l rest is v o h);
  plain = sound.plain;
}

-- one name more is bound
pub bound_split : (n : NetworkState) (p : ℕ) (w : Machine) → slice_get n.machines p ≡ Some w → (at : CodeId) (vars : Variables) (ss : Sessions) (k : ℕ) (v u : ℕ × NameId) (q j : ℕ) → held_by (slice_get (moved n p at vars (fin.insert ss k v)).machines q) j ≡ Some u
    → ((Process q j ≡ Process p k) × (v ≡ u)) ⊎ (held_by (slice_get (moved n p at vars ss).machines q) j ≡ Some u)
bound_split n p w there at vars ss k v u q j h = go (q == p) refl
  where
    with_it : Machine
    with_it = record { at = at; vars = vars; sessions = fin.insert ss k v }

    without_it : Machine
    without_it = record { at = at; vars = vars; sessions = ss }

    go : (b : Bool) → (q == p) ≡ b → ((Process q j ≡ Process p k) × (v ≡ u)) ⊎ (held_by (slice_get (moved n p at vars ss).machines q) j ≡ Some u)
    go true e =
        let same : q ≡ p = eqb-true q p e in
        let own = own_held n p w with_it there j u (subst (λ x. held_by (slice_get (moved n p at vars (fin.insert ss k v)).machines x) j ≡ Some u) same h) in
        elim (get_bound ss k v j u own) [
          | inl x ↦ inl ((let key : j ≡ k = x.0 in cc), x.1)
          | inr x ↦ inr (subst (λ y. held_by (slice_get (moved n p at vars ss).machines y) j ≡ Some u) (sym same) (held_own n p w without_it there j u x.1))
        ]
    go false e = inr (ap (λ (o : Option Machine). held_by o j) (get_set_other n.machines p q without_it (eqb-false q p e)) ∙ other_held n p w with_it there q j u (eqb-false q p e) h)

-- ---- what a process does by itself

put_sound : (cap : Option ℕ) (n : NetworkState) (p : ℕ) (b : NameId) (o : Option (ℕ × NameId)) (l : Load) (x : Event) (k : NetworkState) → ((t : Triple) → IsSound (with_queue n t (queue_of n t ++ l ∷ []))) → puts cap n p b o (Some l) ≡ Some (Makes x k) → IsSound k
put_sound cap n p b None l x k all h = absurd cc
put_sound cap n p b (Some (s, a)) l x k all h = go (has_room cap (queue_of n (s, a, b))) h
  where
    go : (r : Bool) → put_if r n p (s, a, b) l ≡ Some (Makes x k) → IsSound k
    go false i = absurd cc
    go true i = (let is : with_queue n (s, a, b) (queue_of n (s, a, b) ++ l ∷ []) ≡ k = cc in subst IsSound is (all (s, a, b)))

nothing_put : (cap : Option ℕ) (n : NetworkState) (p : ℕ) (b : NameId) (o : Option (ℕ × NameId)) (x : Event) (k : NetworkState) → puts cap n p b o None ≡ Some (Makes x k) → ⊥
nothing_put cap n p b None x k h = absurd cc
nothing_put cap n p b (Some s) x k h = absurd cc

-- the state after a load was taken
abbrev After : NetworkState → ℕ → Triple → List Load → Taking → Type 0
After n p t rest (Goes next vars ss) = IsSound (with_queue (moved n p next vars ss) t rest)

take_sound : (n : NetworkState) (p : ℕ) (a : NameId) (o : Option (ℕ × NameId)) (f : Load → Option Taking) (x : Event) (k : NetworkState) → ((t : Triple) (l : Load) (rest : List Load) (g : Taking) → queue_of n t ≡ l ∷ rest → f l ≡ Some g → After n p t rest g) → takes n p a o f ≡ Some (Makes x k) → IsSound k
take_sound n p a None f x k all h = absurd cc
take_sound n p a (Some (s, b)) f x k all h = at_queue (queue_of n (s, a, b)) refl h
  where
    at_load : (l : Load) (rest : List Load) → queue_of n (s, a, b) ≡ l ∷ rest → (o : Option Taking) → f l ≡ o → went n p (s, a, b) l rest o ≡ Some (Makes x k) → IsSound k
    at_load l rest e None i j = absurd cc
    at_load l rest e (Some (Goes next vars ss)) i j = (let is : with_queue (moved n p next vars ss) (s, a, b) rest ≡ k = cc in subst IsSound is (all (s, a, b) l rest (Goes next vars ss) e i))

    at_queue : (q : List Load) → queue_of n (s, a, b) ≡ q → takes_from n p (s, a, b) f q ≡ Some (Makes x k) → IsSound k
    at_queue [] e j = absurd cc
    at_queue (l ∷ rest) e j = at_load l rest e (f l) refl j

module _ (n : NetworkState) (p : ℕ) (w : Machine) (there : slice_get n.machines p ≡ Some w) (sound : IsSound n) (ss : Sessions) (from : AreFrom ss w.sessions) (once : AreOnce ss) where
  plain : ArePlain w.vars
  plain = sound.plain p w there

  after_value : (next : CodeId) (x : NameId) (t : Triple) (l : Load) (rest : List Load) (g : Taking) → queue_of n t ≡ l ∷ rest → takes_value next w.vars ss x l ≡ Some g → After n p t rest g
  after_value next x t l rest g e h = go l h e
    where
      stays : (v : Value) → is_plain v ≡ true → (m : Load) → queue_of n t ≡ m ∷ rest → Goes next (fin.insert w.vars x.0 v) ss ≡ g → After n p t rest g
      stays v one m f is = subst (After n p t rest) is (taken_sound (moved n p next (fin.insert w.vars x.0 v) ss) t m rest f (moved_sound n p w there sound next (fin.insert w.vars x.0 v) ss from once (set_plain w.vars x.0 v plain one)))

      go : (m : Load) → takes_value next w.vars ss x m ≡ Some g → queue_of n t ≡ m ∷ rest → After n p t rest g
      go (Carries (Int z)) i f = stays (Int z) refl (Carries (Int z)) f cc
      go (Carries (Truth b)) i f = stays (Truth b) refl (Carries (Truth b)) f cc
      go (Carries (Text y)) i f = stays (Text y) refl (Carries (Text y)) f cc
      go (Carries (Endpoint s r)) i f = absurd cc
      go (Picks y) i f = absurd cc

  after_label : (arms : List (NameId × CodeId)) (t : Triple) (l : Load) (rest : List Load) (g : Taking) → queue_of n t ≡ l ∷ rest → takes_label arms w.vars ss l ≡ Some g → After n p t rest g
  after_label arms t (Carries v) rest g e h = absurd cc
  after_label arms t (Picks y) rest g e h = go (arm_at arms y) h
    where
      go : (o : Option CodeId) → in_arm o w.vars ss ≡ Some g → After n p t rest g
      go None i = absurd cc
      go (Some next) i = (let is : Goes next w.vars ss ≡ g = cc in subst (After n p t rest) is (taken_sound (moved n p next w.vars ss) t (Picks y) rest e (moved_sound n p w there sound next w.vars ss from once plain)))

  after_part : (next : CodeId) (h : NameId) (t : Triple) (l : Load) (rest : List Load) (g : Taking) → queue_of n t ≡ l ∷ rest → takes_part next w.vars ss h l ≡ Some g → After n p t rest g
  after_part next h t (Carries (Int z)) rest g e i = absurd cc
  after_part next h t (Carries (Truth b)) rest g e i = absurd cc
  after_part next h t (Carries (Text y)) rest g e i = absurd cc
  after_part next h t (Picks y) rest g e i = absurd cc
  after_part next h t (Carries (Endpoint s r)) rest g e i = (let is : Goes next w.vars (fin.insert ss h.0 (s, r)) ≡ g = cc in subst (After n p t rest) is bound)
    where
      v : ℕ × NameId
      v = (s, r)

      one : IsSound (moved n p next w.vars ss)
      one = moved_sound n p w there sound next w.vars ss from once plain

      two : IsSound (with_queue (moved n p next w.vars ss) t rest)
      two = taken_sound (moved n p next w.vars ss) t (Carries (Endpoint s r)) rest e one

      none : IsNowhere (with_queue (moved n p next w.vars ss) t rest) (s, r)
      none = taken_nowhere (moved n p next w.vars ss) t (Carries (Endpoint s r)) rest e one.unique (s, r) refl

      first : s < n.sid
      first = sound.started (s, r) (Transit t 0) (ap (λ ls. slice_get ls 0) e)

      split : (u : ℕ × NameId) (o : Holder) → HoldsAt (with_queue (moved n p next w.vars (fin.insert ss h.0 (s, r))) t rest) u o → ((o ≡ Process p h.0) × ((s, r) ≡ u)) ⊎ HoldsAt (with_queue (moved n p next w.vars ss) t rest) u o
      split u (Transit y j) a = inr a
      split u (Process q j) a = bound_split n p w there next w.vars ss h.0 (s, r) u q j a

      bound : IsSound (with_queue (moved n p next w.vars (fin.insert ss h.0 (s, r))) t rest)
      bound = record {
        unique = added_unique (with_queue (moved n p next w.vars ss) t rest) (with_queue (moved n p next w.vars (fin.insert ss h.0 (s, r))) t rest) (s, r) (Process p h.0) split none two.unique;
        started = λ u o a. elim (split u o a) [ inl x ↦ subst (λ (y : ℕ × NameId). y.0 < n.sid) x.1 first | inr x ↦ two.started u o x ];
        plain = plain_set n.machines p (record { at = next; vars = w.vars; sessions = fin.insert ss h.0 (s, r) }) sound.plain plain;
      }

  given_sound : (cap : Option ℕ) (b : NameId) (to : Option (ℕ × NameId)) (h : NameId) (next : CodeId) (x : Event) (k : NetworkState) → puts cap (moved n p next w.vars (fin.remove ss h.0)) p b to (part_load (fin.get ss h.0)) ≡ Some (Makes x k) → IsSound k
  given_sound cap b to h next x k i = go (fin.get ss h.0) refl i
    where
      go : (o : Option (ℕ × NameId)) → fin.get ss h.0 ≡ o → puts cap (moved n p next w.vars (fin.remove ss h.0)) p b to (part_load o) ≡ Some (Makes x k) → IsSound k
      go None f j = absurd (nothing_put cap (moved n p next w.vars (fin.remove ss h.0)) p b to x k j)
      go (Some (s, r)) f j =
          let found = from h.0 (s, r) f in
          let lt : s < n.sid = sound.started (s, r) (Process p found.0) (ap (λ (o : Option Machine). held_by o found.0) there ∙ found.1) in
          put_sound cap (moved n p next w.vars (fin.remove ss h.0)) p b to (Carries (Endpoint s r)) x k
          (λ t. put_part (moved n p next w.vars (fin.remove ss h.0)) t (s, r) (unbound_nowhere n p w there sound next w.vars ss from once plain h.0 (s, r) f) lt (unbound_sound n p w there sound next w.vars ss from once plain h.0 (s, r) f)) j

  pub node_sound : (cap : Option ℕ) (v : ℤ) (node : CodeNode) (named : NameId → Bool) (texts : ℕ → Bool) → node_there named texts node ≡ true → (x : Event) (k : NetworkState) → node_makes cap n p v w.vars ss node ≡ Some (Makes x k) → IsSound k
  node_sound cap v (Send y b e next) named texts ok x k h =
      let term = (and_parts (named y && named b) (term_there named texts (term_of e)) ok).1 in
      put_sound cap (moved n p next w.vars ss) p b (fin.get ss y.0) (Carries (value_of (term_of e) w.vars)) x k
      (λ t. put_plain (moved n p next w.vars ss) t (Carries (value_of (term_of e) w.vars)) (λ u i. plain_apart (value_of (term_of e) w.vars) u (value_plain named texts (term_of e) w.vars term plain) i) (moved_sound n p w there sound next w.vars ss from once plain)) h
  node_sound cap v (Pick y b l next) named texts ok x k h =
      put_sound cap (moved n p next w.vars ss) p b (fin.get ss y.0) (Picks l) x k (λ t. put_plain (moved n p next w.vars ss) t (Picks l) (λ u i. (let c : Picks l ≡ Carries (Endpoint u.0 u.1) = i in absurd cc)) (moved_sound n p w there sound next w.vars ss from once plain)) h
  node_sound cap v (Throw y b g next) named texts ok x k h = given_sound cap b (fin.get ss y.0) g next x k h
  node_sound cap v (Recv y a z next) named texts ok x k h = take_sound n p a (fin.get ss y.0) (takes_value next w.vars ss z) x k (after_value next z) h
  node_sound cap v (Branch y a arms) named texts ok x k h = take_sound n p a (fin.get ss y.0) (takes_label arms w.vars ss) x k (after_label arms) h
  node_sound cap v (Catch y a g next) named texts ok x k h = take_sound n p a (fin.get ss y.0) (takes_part next w.vars ss g) x k (after_part next g) h
  node_sound cap v (Set y e next) named texts ok x k h =
      let term = (and_parts (named y) (term_there named texts (term_of e)) ok).1 in
      let u = value_of (term_of e) w.vars in
      let is : moved n p next (fin.insert w.vars y.0 u) ss ≡ k = cc in
      subst IsSound is (moved_sound n p w there sound next (fin.insert w.vars y.0 u) ss from once (set_plain w.vars y.0 u plain (value_plain named texts (term_of e) w.vars term plain)))
  node_sound cap v (Show e next) named texts ok x k h =
      let is : moved n p next w.vars ss ≡ k = cc in
      subst IsSound is (moved_sound n p w there sound next w.vars ss from once plain)
  node_sound cap v (Host y f a b next) named texts ok x k h =
      let is : moved n p next (fin.insert w.vars y.0 (Int v)) ss ≡ k = cc in
      subst IsSound is (moved_sound n p w there sound next (fin.insert w.vars y.0 (Int v)) ss from once (set_plain w.vars y.0 (Int v) plain refl))
  node_sound cap v (If e c d) named texts ok x k h =
      let is : moved n p (if truth_of (value_of (term_of e) w.vars) then c else d) w.vars ss ≡ k = cc in
      subst IsSound is (moved_sound n p w there sound (if truth_of (value_of (term_of e) w.vars) then c else d) w.vars ss from once plain)
  node_sound cap v (Join c r y next) named texts ok x k h = absurd cc
  node_sound cap v (Call f q us) named texts ok x k h = absurd cc
  node_sound cap v End named texts ok x k h = absurd cc
