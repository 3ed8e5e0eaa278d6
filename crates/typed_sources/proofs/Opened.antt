-- A start of a source: what is known after it corresponds.
use Rattle.std.proofs.Common.{◌≡◌, ℕ, ◌<◌, List, [], ◌∷◌, ◌++◌, map, refl, sym, ap, ◌∙◌, subst, Some, None, Option, Bool, true, false, ◌==◌, ◌&&◌, ◌||◌, if◌then◌else◌}
use Rattle.std.specs.Prelude.{not}
use Rattle.std.specs.List.{list_all}
use Rattle.std.proofs.lemmas.Bool.{eqb-true, and_parts}
use Rattle.chor_base.specs.declared.names.NameId.{NameId}
use Rattle.chor_base.specs.declared.rule.Rule.TheVariants.{T9}
use Rattle.chor_tree.specs.declared.file.File.{File}
use Rattle.chor_tree.specs.declared.file.Named.{Named as Written}
use Rattle.chor_tree.specs.declared.file.Service.{Service}
use Rattle.chor_tree.specs.Protocols.{Protocol}
use Rattle.chor_tree.specs.declared.protocol.State.{State}
use Rattle.chor_tree.specs.declared.tree.Part.{Part}
use Rattle.chor_tree.specs.Names.{Scope, is_among, channel_of, protocol_of}
use Rattle.chor_tree.specs.Source as source
use Rattle.chor_semantics.specs.Choreography.{Ref, Named, ref_eq, among, Starts}
use Rattle.chor_semantics.specs.Sources.{parts_of, served_of}
use Rattle.chor_base.specs.FirstPlaces.{one_later}
use Rattle.global_types.specs.Moves.{state_named}
use Rattle.well_formed.specs.Holders.{first_with, as_parts}
use Rattle.well_formed.specs.WellFormed.{service_refs}
use Rattle.well_formed.proofs.References.{same_ref, true_eq, same_name, or_rights}
use Rattle.delegation.specs.declared.held.Held.{Held}
use Rattle.delegation.specs.Owners.{held as entry, is_role, holder_of, started}
use Rattle.delegation.specs.Checks.{ask, all_differ, first_failed}
use Rattle.typing_rules.specs.declared.standings.Standing.{Standing}
use Rattle.typing_rules.specs.Environment.{Environment, standing_of, states_of, stands, first_state, opened_on, opened_by, opened as opening}
use Rattle.typing_rules.specs.Checks.{statement_checks}
use Rattle.typing_rules.specs.After.{after_statement}
use Rattle.typed_sources.specs.Context.{Context, opened, bound_to, after}
use Rattle.typed_sources.specs.Typing.{AllKnown, AllNew, IsNotEmpty, IsTypedNode}
use Rattle.typed_sources.specs.Stands.{kind_in, protocol_name, states_in, Reached, at, holder_at, protocol_at, Stands}
use Rattle.typed_sources.proofs.Checked.{first_passes, asked, some_is}
use Rattle.typed_sources.proofs.Moved.{at_same}
use Rattle.typed_sources.proofs.Depths.{among_deep, less_not}

-- what is in scope after a start
abbrev pub opened_scope : Scope → Written → List Part → Scope
opened_scope s k serve = record { processes = s.processes ++ map (λ q. q.process.name) serve; sessions = s.sessions ++ k.name ∷ [] }

-- new names aren't in scope, and differ
abbrev pub AreNew : List NameId → List Part → Type 0
AreNew known [] = Unit {0}
AreNew known (q ∷ qs) = (is_among known q.process.name ≡ false) × (is_among (map (λ x. x.process.name) qs) q.process.name ≡ false) × AreNew known qs

-- what the names of a start keep
pub record IsNamedStart (f : File) (scope : Scope) (e : Environment) (c k : NameId) (active serve : List Part) : Type 0 where
  pub service : Service
  pub is_channel : channel_of f c ≡ Some service
  pub protocol : Protocol
  pub is_protocol : protocol_of f service.protocol.name ≡ Some protocol
  pub first : State
  pub rest : List State
  pub states : protocol.states ≡ first ∷ rest
  pub free : standing_of e.standings k ≡ None
  pub known : list_all (λ q. is_among scope.processes q.process.name) active ≡ true
  pub new : AreNew scope.processes serve
  pub some : IsNotEmpty active

pub eq_flip : (a b : ℕ) → (a == b) ≡ (b == a)
eq_flip a b = go (a == b) (b == a) refl refl
  where
    go : (x y : Bool) → (a == b) ≡ x → (b == a) ≡ y → x ≡ y
    go true true i j = refl
    go false false i j = refl
    go true false i j = let e = eqb-true a b i in let t : (b == a) ≡ true = ap (λ z. b == z) e ∙ true_eq b in cc
    go false true i j = let e = eqb-true b a j in let t : (a == b) ≡ true = ap (λ z. a == z) e ∙ true_eq a in cc

among_services : (serve : List Part) (x : NameId) → among (at x) (service_refs 0 (served_of serve)) ≡ is_among (map (λ q. q.process.name) serve) x
among_services [] x = refl
among_services (q ∷ qs) x = ap (λ b. b || among (at x) (service_refs 0 (served_of qs))) (at_same x q.process.name ∙ eq_flip x.0 q.process.name.0) ∙ ap (λ b. (q.process.name.0 == x.0) || b) (among_services qs x)

pub among_more : (xs ys : List NameId) (x : NameId) → is_among (xs ++ ys) x ≡ (is_among ys x || is_among xs x)
among_more [] ys x = go (is_among ys x)
  where
    go : (b : Bool) → b ≡ (b || false)
    go true = refl
    go false = refl
among_more (z ∷ zs) ys x = ap (λ b. (z.0 == x.0) || b) (among_more zs ys x) ∙ go (z.0 == x.0) (is_among ys x) (is_among zs x)
  where
    go : (a b c : Bool) → (a || (b || c)) ≡ (b || (a || c))
    go true true c = refl
    go true false c = refl
    go false b c = refl

-- ---- a new session

pub standing_more : (ss : List Standing) (x : Standing) (s : NameId) → (x.session.0 == s.0) ≡ false → standing_of (ss ++ x ∷ []) s ≡ standing_of ss s
standing_more [] x s h = ap (λ (b : Bool). if b then Some x else None) h
standing_more (y ∷ ys) x s h = ap (λ z. if y.session.0 == s.0 then Some y else z) (standing_more ys x s h)

pub standing_new : (ss : List Standing) (x : Standing) (s : NameId) → standing_of ss s ≡ None → (x.session.0 == s.0) ≡ true → standing_of (ss ++ x ∷ []) s ≡ Some x
standing_new [] x s n h = ap (λ (b : Bool). if b then Some x else None) h
standing_new (y ∷ ys) x s n h = go (y.session.0 == s.0) n (standing_new ys x s)
  where
    go : (b : Bool) → (if b then Some y else standing_of ys s) ≡ None → (standing_of ys s ≡ None → (x.session.0 == s.0) ≡ true → standing_of (ys ++ x ∷ []) s ≡ Some x) → (if b then Some y else standing_of (ys ++ x ∷ []) s) ≡ Some x
    go true i ih = absurd cc
    go false i ih = ih i h

-- ---- holders

pub holder_other : (hs : List Held) (k : NameId) (parts : List Part) (s r : NameId) → (k.0 == s.0) ≡ false → holder_of (hs ++ started k parts) s r ≡ holder_of hs s r
holder_other [] k [] s r h = refl
holder_other [] k (q ∷ qs) s r h = ap (λ b. if b && (q.role.name.0 == r.0) then Some q.process.name else holder_of (started k qs) s r) h ∙ holder_other [] k qs s r h
holder_other (x ∷ xs) k parts s r h = ap (λ z. if is_role s r x then Some x.process else z) (holder_other xs k parts s r h)

pub holder_new : (hs : List Held) (k : NameId) (parts : List Part) (r : NameId) → holder_of hs k r ≡ None → holder_of (hs ++ started k parts) k r ≡ holder_of (started k parts) k r
holder_new [] k parts r n = refl
holder_new (x ∷ xs) k parts r n = go (is_role k r x) n (holder_new xs k parts r)
  where
    go : (b : Bool) → (if b then Some x.process else holder_of xs k r) ≡ None → (holder_of xs k r ≡ None → holder_of (xs ++ started k parts) k r ≡ holder_of (started k parts) k r) → (if b then Some x.process else holder_of (xs ++ started k parts) k r) ≡ holder_of (started k parts) k r
    go true i ih = absurd cc
    go false i ih = ih i

-- the parts of the choreography's start are those of the source's
pub parts_same : (active serve : List Part) → parts_of active ++ as_parts 0 (served_of serve) ≡ parts_of (active ++ serve)
parts_same [] [] = refl
parts_same [] (q ∷ qs) = ap (λ l. (at q.process.name, q.role.name) ∷ l) (parts_same [] qs)
parts_same (p ∷ ps) serve = ap (λ l. (at p.process.name, p.role.name) ∷ l) (parts_same ps serve)

pub first_of_parts : (k : NameId) (parts : List Part) (r : NameId) → first_with r (parts_of parts) ≡ holder_at (holder_of (started k parts) k r)
first_of_parts k [] r = refl
first_of_parts k (q ∷ qs) r =
    go (q.role.name.0 == r.0) (first_of_parts k qs r) ∙ ap (λ b. holder_at (if b && (q.role.name.0 == r.0) then Some q.process.name else holder_of (started k qs) k r)) (sym (true_eq k.0))
  where
    go : (b : Bool) → first_with r (parts_of qs) ≡ holder_at (holder_of (started k qs) k r) → (if b then Some (at q.process.name) else first_with r (parts_of qs)) ≡ holder_at (if b then Some q.process.name else holder_of (started k qs) k r)
    go true i = refl
    go false i = i

-- who holds a role in a new session has a part in its start
pub holder_among : (k : NameId) (parts : List Part) (r p : NameId) → holder_of (started k parts) k r ≡ Some p → is_among (map (λ q. q.process.name) parts) p ≡ true
holder_among k [] r p h = absurd cc
holder_among k (q ∷ qs) r p h = go (is_role k r (entry k q.role.name q.process.name)) h (holder_among k qs r p)
  where
    go : (b : Bool) → (if b then Some q.process.name else holder_of (started k qs) k r) ≡ Some p → (holder_of (started k qs) k r ≡ Some p → is_among (map (λ z. z.process.name) qs) p ≡ true) → ((q.process.name.0 == p.0) || is_among (map (λ z. z.process.name) qs) p) ≡ true
    go true i ih = ap (λ b. b || is_among (map (λ z. z.process.name) qs) p) (ap (λ z. z.0 == p.0) (some_is _ _ i) ∙ true_eq p.0)
    go false i ih = or_rights _ _ (ih i)

pub not_is : (b : Bool) → not b ≡ true → b ≡ false
not_is true h = absurd cc
not_is false h = refl

pub one_part : (k : NameId) (parts : List Part) → all_differ (map (λ q. q.process.name) parts) ≡ true → (a b p : NameId) → holder_of (started k parts) k a ≡ Some p → holder_of (started k parts) k b ≡ Some p → a ≡ b
one_part k [] od a b p h i = absurd cc
one_part k (q ∷ qs) od a b p h i =
    go (q.role.name.0 == a.0) (q.role.name.0 == b.0) refl refl
    (subst (λ z. (if z && (q.role.name.0 == a.0) then Some q.process.name else holder_of (started k qs) k a) ≡ Some p) (true_eq k.0) h)
    (subst (λ z. (if z && (q.role.name.0 == b.0) then Some q.process.name else holder_of (started k qs) k b) ≡ Some p) (true_eq k.0) i)
    (one_part k qs (and_parts _ _ od).1 a b p)
  where
    twice : (r : NameId) → q.process.name ≡ p → holder_of (started k qs) k r ≡ Some p → ⊥
    twice r same j =
        let t : is_among (map (λ z. z.process.name) qs) q.process.name ≡ true = ap (is_among (map (λ z. z.process.name) qs)) same ∙ holder_among k qs r p j in
        let u : is_among (map (λ z. z.process.name) qs) q.process.name ≡ false = not_is _ (and_parts _ _ od).0 in cc

    go : (x y : Bool) → (q.role.name.0 == a.0) ≡ x → (q.role.name.0 == b.0) ≡ y → (if x then Some q.process.name else holder_of (started k qs) k a) ≡ Some p → (if y then Some q.process.name else holder_of (started k qs) k b) ≡ Some p
        → (holder_of (started k qs) k a ≡ Some p → holder_of (started k qs) k b ≡ Some p → a ≡ b) → a ≡ b
    go true true j l m n ih = sym (same_name q.role.name a j) ∙ same_name q.role.name b l
    go true false j l m n ih = absurd (twice b (some_is _ _ m) n)
    go false true j l m n ih = absurd (twice a (some_is _ _ n) m)
    go false false j l m n ih = ih m n

module _ (f : File) (scope : Scope) (e : Environment) (d : Context) (t : Stands f scope e d) (c k : Written) (active serve : List Part) (w : IsNamedStart f scope e c.name k.name active serve) where
  opens : opening f c.name k.name ≡ stands k.name w.service.protocol.name w.first.name.name ∷ []
  opens = ap (opened_by f k.name) w.is_channel ∙ ap (λ o. opened_on k.name (states_of o) w.service.protocol.name) w.is_protocol ∙ ap (λ l. map (stands k.name w.service.protocol.name) (first_state l)) w.states

  kind : kind_in f c.name ≡ Some w.service.protocol.name
  kind = ap protocol_name w.is_channel

  all_known : (ps : List Part) → list_all (λ q. is_among scope.processes q.process.name) ps ≡ true → AllKnown d.known (map (λ p. p.0) (parts_of ps))
  all_known [] h = tt
  all_known (p ∷ ps) h = let u = and_parts _ _ h in (t.known p.process.name ∙ u.0, all_known ps u.1)

  all_new : (ps : List Part) → AreNew scope.processes ps → AllNew d.known (service_refs 0 (served_of ps))
  all_new [] a = tt
  all_new (p ∷ ps) a = (t.known p.process.name ∙ a.0, among_services ps p.process.name ∙ a.1, all_new ps a.2)

  still_some : (ps : List Part) → IsNotEmpty ps → IsNotEmpty (parts_of ps)
  still_some [] h = h
  still_some (p ∷ ps) h = tt

  free : d.protocol (at k.name) ≡ None
  free = t.protocol k.name ∙ ap protocol_at w.free

  pub start_goes : first_failed (statement_checks f e (source.Starts c k active serve)) ≡ None
      → AllKnown d.known (map (λ p. p.0) (parts_of active)) × IsTypedNode (kind_in f) d (Starts c.name 0 k.name.0 (parts_of active) (served_of serve))
      × Stands f (opened_scope scope k serve) (after_statement f e (source.Starts c k active serve)) (after (kind_in f) d (Starts c.name 0 k.name.0 (parts_of active) (served_of serve)))
  start_goes h = (
    all_known active w.known,
    ((w.service.protocol.name, kind), free, all_new serve w.new, still_some active w.some),
    record {
      known = λ x. ap (λ b. b || d.known (at x)) (among_services serve x) ∙ ap (λ b. is_among (map (λ q. q.process.name) serve) x || b) (t.known x) ∙ sym (among_more scope.processes (map (λ q. q.process.name) serve) x);
      sorts = λ x. ap (λ (b : Bool). if b then (λ (y : NameId). None) else d.sorts (at x)) (among_services serve x) ∙ ap (λ z. if is_among (map (λ q. q.process.name) serve) x then (λ (y : NameId). None) else z) (t.sorts x);
      protocol = λ s. protocol s (k.name.0 == s.0) refl;
      reached = λ s st i. reached s st (k.name.0 == s.0) refl i;
      holder = λ s r. holder s r (k.name.0 == s.0) refl;
      one_role = λ s a b p i j. one_role s a b p (k.name.0 == s.0) refl i j;
      held = λ s r i. held s r (k.name.0 == s.0) refl i;
      of_source = λ r q i. of_source r q (ref_eq r (at k.name)) refl i;
      deeper = λ x l m. deeper x l m;
    },
  )
    where
      differ : all_differ (map (λ q. q.process.name) (active ++ serve)) ≡ true
      differ = asked (all_differ (map (λ q. q.process.name) (active ++ serve))) T9 (first_passes (ask (all_differ (map (λ q. q.process.name) (active ++ serve))) T9) [] h).0

      ref_is : (s : NameId) (b : Bool) → (k.name.0 == s.0) ≡ b → ref_eq (at s) (at k.name) ≡ b
      ref_is s b i = at_same s k.name ∙ eq_flip s.0 k.name.0 ∙ i

      is_k : (s : NameId) → (k.name.0 == s.0) ≡ true → k.name ≡ s
      is_k s i = same_name k.name s i

      standing_k : (s : NameId) → (k.name.0 == s.0) ≡ true → standing_of (e.standings ++ opening f c.name k.name) s ≡ Some (stands k.name w.service.protocol.name w.first.name.name)
      standing_k s i = ap (λ l. standing_of (e.standings ++ l) s) opens ∙ standing_new e.standings (stands k.name w.service.protocol.name w.first.name.name) s (ap (standing_of e.standings) (sym (is_k s i)) ∙ w.free) i

      standing_s : (s : NameId) → (k.name.0 == s.0) ≡ false → standing_of (e.standings ++ opening f c.name k.name) s ≡ standing_of e.standings s
      standing_s s i = ap (λ l. standing_of (e.standings ++ l) s) opens ∙ standing_more e.standings (stands k.name w.service.protocol.name w.first.name.name) s i

      protocol : (s : NameId) (b : Bool) → (k.name.0 == s.0) ≡ b → bound_to (at k.name) (kind_in f c.name) d.protocol (at s) ≡ protocol_at (standing_of (e.standings ++ opening f c.name k.name) s)
      protocol s true i = ap (λ (b : Bool). if b then kind_in f c.name else d.protocol (at s)) (ref_is s true i) ∙ kind ∙ sym (ap protocol_at (standing_k s i))
      protocol s false i = ap (λ (b : Bool). if b then kind_in f c.name else d.protocol (at s)) (ref_is s false i) ∙ t.protocol s ∙ sym (ap protocol_at (standing_s s i))

      begins : Reached (states_in f w.service.protocol.name) (λ r. []) w.first.name.name
      begins = record {
        place = 0;
        named = ap (λ l. state_named l w.first.name.name) (ap states_of w.is_protocol ∙ w.states) ∙ ap (λ (b : Bool). if b then Some 0 else one_later (state_named w.rest w.first.name.name)) (true_eq w.first.name.name.0);
        reaches = record { path = []; is_path = refl; acts = λ r. refl };
      }

      reached : (s : NameId) (st : Standing) (b : Bool) → (k.name.0 == s.0) ≡ b → standing_of (e.standings ++ opening f c.name k.name) s ≡ Some st
          → Reached (states_in f st.protocol) (λ r. if ref_eq (at s) (at k.name) then [] else d.done (at s) r) st.state
      reached s st true i j =
          let same : stands k.name w.service.protocol.name w.first.name.name ≡ st = some_is _ _ (sym (standing_k s i) ∙ j) in
          subst (λ l. Reached (states_in f st.protocol) l st.state) (λ z r. if (sym (ref_is s true i) z) then [] else d.done (at s) r)
          (subst (λ z. Reached (states_in f z.protocol) (λ r. []) z.state) same begins)
      reached s st false i j =
          subst (λ l. Reached (states_in f st.protocol) l st.state) (λ z r. if (sym (ref_is s false i) z) then [] else d.done (at s) r)
          (t.reached s st (sym (standing_s s i) ∙ j))

      holder : (s r : NameId) (b : Bool) → (k.name.0 == s.0) ≡ b → opened (at k.name) (parts_of active ++ as_parts 0 (served_of serve)) d.holder (at s) r ≡ holder_at (holder_of (e.owners ++ started k.name (active ++ serve)) s r)
      holder s r true i =
          let same = is_k s i in
          ap (λ (b : Bool). if b then first_with r (parts_of active ++ as_parts 0 (served_of serve)) else d.holder (at s) r) (ref_is s true i)
          ∙ ap (first_with r) (parts_same active serve) ∙ first_of_parts k.name (active ++ serve) r
          ∙ sym (ap (λ x. holder_at (holder_of (e.owners ++ started k.name (active ++ serve)) x r)) (sym same) ∙ ap holder_at (holder_new e.owners k.name (active ++ serve) r (t.held k.name r w.free)))
      holder s r false i =
          ap (λ (b : Bool). if b then first_with r (parts_of active ++ as_parts 0 (served_of serve)) else d.holder (at s) r) (ref_is s false i)
          ∙ t.holder s r ∙ sym (ap holder_at (holder_other e.owners k.name (active ++ serve) s r i))

      one_role : (s a b p : NameId) (x : Bool) → (k.name.0 == s.0) ≡ x → holder_of (e.owners ++ started k.name (active ++ serve)) s a ≡ Some p → holder_of (e.owners ++ started k.name (active ++ serve)) s b ≡ Some p → a ≡ b
      one_role s a b p false i m n = t.one_role s a b p (sym (holder_other e.owners k.name (active ++ serve) s a i) ∙ m) (sym (holder_other e.owners k.name (active ++ serve) s b i) ∙ n)
      one_role s a b p true i m n = one_part k.name (active ++ serve) differ a b p (here a m) (here b n)
        where
          here : (r : NameId) → holder_of (e.owners ++ started k.name (active ++ serve)) s r ≡ Some p → holder_of (started k.name (active ++ serve)) k.name r ≡ Some p
          here r j = sym (holder_new e.owners k.name (active ++ serve) r (t.held k.name r w.free)) ∙ ap (λ x. holder_of (e.owners ++ started k.name (active ++ serve)) x r) (is_k s i) ∙ j

      held : (s r : NameId) (b : Bool) → (k.name.0 == s.0) ≡ b → standing_of (e.standings ++ opening f c.name k.name) s ≡ None → holder_of (e.owners ++ started k.name (active ++ serve)) s r ≡ None
      held s r true i j = let st = standing_k s i in absurd (clash (standing_of (e.standings ++ opening f c.name k.name) s) j st)
        where
          clash : (o : Option Standing) → o ≡ None → {x : Standing} → o ≡ Some x → ⊥
          clash o a b = cc
      held s r false i j = holder_other e.owners k.name (active ++ serve) s r i ∙ t.held s r (sym (standing_s s i) ∙ j)

      of_source : (r : Ref) (q : NameId) (b : Bool) → ref_eq r (at k.name) ≡ b → (if b then kind_in f c.name else d.protocol r) ≡ Some q → (s : NameId) × (r ≡ at s)
      of_source r q true i j = (k.name, same_ref r (at k.name) i)
      of_source r q false i j = t.of_source r q j

      off_depth : (x l : ℕ) → 0 < l → ref_eq (Named x l) (at k.name) ≡ false
      off_depth x l m = ap (λ b. (x == k.name.0) && b) (less_not 0 l m) ∙ go (x == k.name.0)
        where
          go : (b : Bool) → (b && false) ≡ false
          go true = refl
          go false = refl

      deeper : (x l : ℕ) → 0 < l → ((among (Named x l) (service_refs 0 (served_of serve)) || d.known (Named x l)) ≡ false) × (bound_to (at k.name) (kind_in f c.name) d.protocol (Named x l) ≡ None)
      deeper x l m = (ap (λ b. b || d.known (Named x l)) (among_deep 0 l (served_of serve) x (less_not 0 l m)) ∙ (t.deeper x l m).0, ap (λ (b : Bool). if b then kind_in f c.name else d.protocol (Named x l)) (off_depth x l m) ∙ (t.deeper x l m).1)
