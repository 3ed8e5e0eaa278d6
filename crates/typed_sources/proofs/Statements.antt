-- A node of a source that isn't at fault fits at its choreography, and what is known after both corresponds.
use Rattle.std.proofs.Common.{◌≡◌, ℕ, List, [], ◌∷◌, ◌++◌, refl, sym, ap, ◌∙◌, subst, Some, None, Option, Bool, true, false, ◌==◌, ◌&&◌, ◌||◌, if◌then◌else◌}
use Rattle.std.specs.Prelude.{Result, Ok, Err, not, is_some}
use Rattle.std.specs.List.{list_all}
use Rattle.std.proofs.lemmas.Bool.{and_parts}
use Rattle.chor_base.specs.declared.names.NameId.{NameId}
use Rattle.chor_base.specs.declared.rule.Rule.{Rule}
use Rattle.chor_base.specs.declared.rule.Rule.TheVariants.{T1, T3, T4, T5, T6, T9}
use Rattle.chor_base.specs.declared.value.Sort.{Sort}
use Rattle.chor_base.specs.Expr.{Term}
use Rattle.chor_base.specs.Sorts.{sort_of}
use Rattle.chor_base.specs.declared.rule.Place.{Place}
use Rattle.chor_base.specs.declared.value.Sort.TheVariants as sort
use Rattle.chor_tree.specs.declared.file.File.{File}
use Rattle.chor_tree.specs.declared.file.Named.{Named as Written}
use Rattle.chor_tree.specs.declared.protocol.State.{State}
use Rattle.chor_tree.specs.declared.protocol.ProtoArm.{ProtoArm}
use Rattle.chor_tree.specs.declared.protocol.ProtoStep.{ProtoStep}
use Rattle.chor_tree.specs.declared.protocol.ProtoStep.TheVariants.{End as Last, Value as Exchange, Choice}
use Rattle.chor_tree.specs.declared.tree.Part.{Part}
use Rattle.chor_tree.specs.Names.{Scope, first_named, is_among}
use Rattle.chor_tree.specs.Source.{Statement, Block, Either, Ends}
use Rattle.chor_tree.specs.Source as source
use Rattle.chor_semantics.specs.Choreography.{ref_eq, OfValue, OfLabel, OfPart, Sets, Shows, Asks, Node, Communicates, Alone}
use Rattle.chor_semantics.specs.Sources.{name_ref}
use Rattle.global_types.specs.Moves.{IsIn, Exchange as Move, passes, chooses, plain, endpoint, exchanges_of, state_named}
use Rattle.well_formed.proofs.References.{same_name, true_eq, differ_ref}
use Rattle.delegation.specs.Owners.{holds, holds_some, pass_check}
use Rattle.delegation.specs.Checks.{Check, ask, first_failed}
use Rattle.typing_rules.specs.declared.standings.Standing.{Standing}
use Rattle.typing_rules.specs.Environment.{Environment, standing_of, step_in, step_at, step_of}
use Rattle.typing_rules.specs.Checks.{has_sort, is_sort, is_endpoint, parties, value_checks, label_checks, endpoint_checks, rest_ended, rule_at, statement_checks}
use Rattle.typing_rules.specs.declared.allowed.EndpointType.{EndpointType}
use Rattle.typing_rules.specs.Allowed.{value_sent, labels_sent, endpoint_sent, arm_of, arm_in, is_last}
use Rattle.typing_rules.specs.After.{with_value, with_state as in_state, with_endpoint, with_sort, after_statement}
use Rattle.typed_sources.specs.Told.{of_sort, of_endpoint, of_label}
use Rattle.typed_sources.specs.Context.{Context, after, exchanged, told_content, told_sort, sort_in}
use Rattle.typed_sources.specs.Typing.{HasSort, IsTypedNode, AllEnded, HasEnded}
use Rattle.typed_sources.specs.Stands.{kind_in, states_in, at, holder_at, protocol_at, Stands}
use Rattle.typed_sources.proofs.Advances.{passing, choosing, ended_at}
use Rattle.typed_sources.proofs.Checked.{first_passes, asked, has_it, is_it, holder_is, has_step, value_allowed, endpoint_allowed, label_allowed, some_is}
use Rattle.typed_sources.proofs.Moved.{at_is, moves, sets, hands}

-- whether an exchange is from a role to itself
abbrev pub is_own : Move → Bool
is_own (passes a b c) = a.0 == b.0
is_own (chooses a b l) = a.0 == b.0

-- what the protocols of a file keep: states that are named are there, and nobody sends to itself
pub record ProtocolsFit (f : File) : Type 0 where
  pub there : (p n m : NameId) (st : State) (x : Move) → first_named (λ s. s.name) (states_in f p) n ≡ Some st → IsIn (x, m) (exchanges_of st.step) → (j : ℕ) × (state_named (states_in f p) m ≡ Some j)
  pub away : (p n m : NameId) (st : State) (x : Move) → first_named (λ s. s.name) (states_in f p) n ≡ Some st → IsIn (x, m) (exchanges_of st.step) → is_own x ≡ false

module _ (f : File) (good : ProtocolsFit f) (scope : Scope) (e : Environment) (d : Context) (t : Stands f scope e d) where
  -- what corresponds after a node, and that the node fits
  abbrev Goes : Statement → Node → Type 0
  Goes s m = IsTypedNode (kind_in f) d m × Stands f scope (after_statement f e s) (after (kind_in f) d m)

  pub holder_here : (k r p : NameId) → holds e.owners k r p ≡ true → d.holder (at k) r ≡ Some (at p)
  holder_here k r p h = t.holder k r ∙ ap holder_at (holder_is e.owners k r p h)

  apart : (k a b p q : NameId) → holds e.owners k a p ≡ true → holds e.owners k b q ≡ true → (a.0 == b.0) ≡ false → ref_eq (at p) (at q) ≡ false
  apart k a b p q h i off = differ_ref (at p) (at q) (λ s.
      let same : p ≡ q = at_is p q s in
      let role : a ≡ b = t.one_role k a b q (holder_is e.owners k a p h ∙ ap Some same) (holder_is e.owners k b q i) in
      let on : (a.0 == b.0) ≡ true = ap (λ x. x.0 == b.0) role ∙ true_eq b.0 in absurd (clash on off))
    where
      clash : {b : Bool} → b ≡ true → b ≡ false → ⊥
      clash i j = cc

  sorted : (p : NameId) (x : Term) (s : Sort) → sort_of x (e.sorts p) ≡ Ok s → HasSort (d.sorts (at p)) x s
  sorted p x s h = ap (sort_of x) (t.sorts p) ∙ h

  -- ---- communications

  two_parties : (k : Written) (a b : Part) (cs : List Check) → first_failed (parties e k a b ++ cs) ≡ None
      → (holds e.owners k.name a.role.name a.process.name ≡ true) × (holds e.owners k.name b.role.name b.process.name ≡ true) × (first_failed cs ≡ None)
  two_parties k a b cs h =
      let w0 = first_passes (ask (holds e.owners k.name a.role.name a.process.name) T1) (ask (holds e.owners k.name b.role.name b.process.name) T1 ∷ cs) h in
      let w1 = first_passes (ask (holds e.owners k.name b.role.name b.process.name) T1) cs w0.1 in
      (asked (holds e.owners k.name a.role.name a.process.name) T1 w0.0, asked (holds e.owners k.name b.role.name b.process.name) T1 w1.0, w1.1)

  pub value_goes : (a b : Part) (x : Term) (y : NameId) (k : Written) → first_failed (statement_checks f e (source.Sends a x b y k)) ≡ None
      → Goes (source.Sends a x b y k) (Communicates (name_ref k) (name_ref a.process) a.role.name (name_ref b.process) b.role.name (OfValue x y))
  value_goes a b x y k h = go (value_sent a.role.name b.role.name (step_at f e k.name)) refl (two_parties k a b (value_checks (value_sent a.role.name b.role.name (step_at f e k.name)) (sort_of x (e.sorts a.process.name))) h).2
    where
      hs : holds e.owners k.name a.role.name a.process.name ≡ true
      hs = (two_parties k a b (value_checks (value_sent a.role.name b.role.name (step_at f e k.name)) (sort_of x (e.sorts a.process.name))) h).0

      hr : holds e.owners k.name b.role.name b.process.name ≡ true
      hr = (two_parties k a b (value_checks (value_sent a.role.name b.role.name (step_at f e k.name)) (sort_of x (e.sorts a.process.name))) h).1

      go : (o : Option (Sort × NameId)) → value_sent a.role.name b.role.name (step_at f e k.name) ≡ o → first_failed (value_checks o (sort_of x (e.sorts a.process.name))) ≡ None
          → IsTypedNode (kind_in f) d (Communicates (at k.name) (at a.process.name) a.role.name (at b.process.name) b.role.name (OfValue x y))
          × Stands f scope (with_value e k.name b.process.name y o) (after (kind_in f) d (Communicates (at k.name) (at a.process.name) a.role.name (at b.process.name) b.role.name (OfValue x y)))
      go None i j = absurd cc
      go (Some (s, m)) i j =
          let v0 = first_passes (has_sort (sort_of x (e.sorts a.process.name))) (ask (is_sort s (sort_of x (e.sorts a.process.name))) T3 ∷ []) j in
          let v1 = first_passes (ask (is_sort s (sort_of x (e.sorts a.process.name))) T3) [] v0.1 in
          let its = sorted a.process.name x s (is_it s (sort_of x (e.sorts a.process.name)) (asked (is_sort s (sort_of x (e.sorts a.process.name))) T3 v1.0)) in
          let may = value_allowed a.role.name b.role.name (step_at f e k.name) s m i in
          let st = has_step f e k.name may.0 may.1 in
          let allowed : IsIn (passes a.role.name b.role.name (plain s), m) (exchanges_of st.state.step) = subst (λ z. IsIn (passes a.role.name b.role.name (plain s), m) (exchanges_of z)) (sym st.step_is) may.2 in
          let to = good.there st.standing.protocol st.standing.state m st.state (passes a.role.name b.role.name (plain s)) st.here allowed in
          let off = good.away st.standing.protocol st.standing.state m st.state (passes a.role.name b.role.name (plain s)) st.here allowed in
          let told : told_content d.protocol (d.sorts (at a.process.name)) (OfValue x y) ≡ Some (of_sort s) = ap (λ z. told_sort (sort_in z)) its in
          let one = moves f scope e d t k.name m st.standing st.state (passes a.role.name b.role.name (plain s)) to.0
          (exchanged a.role.name b.role.name (told_content d.protocol (d.sorts (at a.process.name)) (OfValue x y))) st.is st.here allowed to.1
          (λ r. ap (λ o. exchanged a.role.name b.role.name o r) told ∙ passing a.role.name b.role.name (plain s) r off) in (
            (holder_here k.name a.role.name a.process.name hs, holder_here k.name b.role.name b.process.name hr, apart k.name a.role.name b.role.name a.process.name b.process.name hs hr off, (s, its)),
            sets f scope _ _ one b.process.name y s (sort_in (sort_of x (d.sorts (at a.process.name)))) (ap sort_in its),
          )

  pub label_goes : (a b : Part) (k : Written) (l : NameId) → first_failed (statement_checks f e (source.Selects a b k l)) ≡ None
      → Goes (source.Selects a b k l) (Communicates (name_ref k) (name_ref a.process) a.role.name (name_ref b.process) b.role.name (OfLabel l))
  label_goes a b k l h = go (labels_sent a.role.name b.role.name (step_at f e k.name)) refl (two_parties k a b (label_checks (labels_sent a.role.name b.role.name (step_at f e k.name)) l) h).2
    where
      hs : holds e.owners k.name a.role.name a.process.name ≡ true
      hs = (two_parties k a b (label_checks (labels_sent a.role.name b.role.name (step_at f e k.name)) l) h).0

      hr : holds e.owners k.name b.role.name b.process.name ≡ true
      hr = (two_parties k a b (label_checks (labels_sent a.role.name b.role.name (step_at f e k.name)) l) h).1

      at_arm : (arms : List ProtoArm) → labels_sent a.role.name b.role.name (step_at f e k.name) ≡ Some arms → (o : Option NameId) → arm_of arms l ≡ o → is_some o ≡ true
          → IsTypedNode (kind_in f) d (Communicates (at k.name) (at a.process.name) a.role.name (at b.process.name) b.role.name (OfLabel l))
          × Stands f scope (in_state e k.name o) (after (kind_in f) d (Communicates (at k.name) (at a.process.name) a.role.name (at b.process.name) b.role.name (OfLabel l)))
      at_arm arms i None j s = absurd cc
      at_arm arms i (Some m) j s =
          let may = label_allowed a.role.name b.role.name (step_at f e k.name) arms l m i j in
          let st = has_step f e k.name may.0 may.1 in
          let allowed : IsIn (chooses a.role.name b.role.name l, m) (exchanges_of st.state.step) = subst (λ z. IsIn (chooses a.role.name b.role.name l, m) (exchanges_of z)) (sym st.step_is) may.2 in
          let to = good.there st.standing.protocol st.standing.state m st.state (chooses a.role.name b.role.name l) st.here allowed in
          let off = good.away st.standing.protocol st.standing.state m st.state (chooses a.role.name b.role.name l) st.here allowed in (
            (holder_here k.name a.role.name a.process.name hs, holder_here k.name b.role.name b.process.name hr, apart k.name a.role.name b.role.name a.process.name b.process.name hs hr off, tt),
            moves f scope e d t k.name m st.standing st.state (chooses a.role.name b.role.name l) to.0 (exchanged a.role.name b.role.name (Some (of_label l))) st.is st.here allowed to.1
                (λ r. choosing a.role.name b.role.name l r off),
          )

      go : (o : Option (List ProtoArm)) → labels_sent a.role.name b.role.name (step_at f e k.name) ≡ o → first_failed (label_checks o l) ≡ None
          → IsTypedNode (kind_in f) d (Communicates (at k.name) (at a.process.name) a.role.name (at b.process.name) b.role.name (OfLabel l))
          × Stands f scope (in_state e k.name (arm_in o l)) (after (kind_in f) d (Communicates (at k.name) (at a.process.name) a.role.name (at b.process.name) b.role.name (OfLabel l)))
      go None i j = absurd cc
      go (Some arms) i j = at_arm arms i (arm_of arms l) refl (asked (is_some (arm_of arms l)) T4 (first_passes (ask (is_some (arm_of arms l)) T4) [] j).0)

  pub give_goes : (a b : Part) (k : Written) (given : Part) → first_failed (statement_checks f e (source.Gives a b k given)) ≡ None
      → Goes (source.Gives a b k given) (Communicates (name_ref k) (name_ref a.process) a.role.name (name_ref b.process) b.role.name (OfPart (name_ref given.process) given.role.name))
  give_goes a b k given h = go (endpoint_sent a.role.name b.role.name (step_at f e k.name)) refl (two_parties k a b (endpoint_checks e a b given (endpoint_sent a.role.name b.role.name (step_at f e k.name))) h).2
    where
      hs : holds e.owners k.name a.role.name a.process.name ≡ true
      hs = (two_parties k a b (endpoint_checks e a b given (endpoint_sent a.role.name b.role.name (step_at f e k.name))) h).0

      hr : holds e.owners k.name b.role.name b.process.name ≡ true
      hr = (two_parties k a b (endpoint_checks e a b given (endpoint_sent a.role.name b.role.name (step_at f e k.name))) h).1

      no_more : (b : Bool) → not b ≡ true → b ≡ false
      no_more true i = absurd cc
      no_more false i = refl

      -- the protocol and the role of what is handed over
      as_said : (o : Option Standing) (r : NameId) (u : EndpointType) → is_endpoint o r u ≡ true → (protocol_at o ≡ Some u.protocol) × (r ≡ u.role)
      as_said None r u i = absurd cc
      as_said (Some s) r u i = let w = and_parts _ _ i in (ap Some (same_name s.protocol u.protocol w.0), same_name r u.role (and_parts _ _ w.1).1)

      go : (o : Option (EndpointType × NameId)) → endpoint_sent a.role.name b.role.name (step_at f e k.name) ≡ o → first_failed (endpoint_checks e a b given o) ≡ None
          → IsTypedNode (kind_in f) d (Communicates (at k.name) (at a.process.name) a.role.name (at b.process.name) b.role.name (OfPart (at given.process.name) given.role.name))
          × Stands f scope (with_endpoint e k.name b.process.name given o) (after (kind_in f) d (Communicates (at k.name) (at a.process.name) a.role.name (at b.process.name) b.role.name (OfPart (at given.process.name) given.role.name)))
      go None i j = absurd cc
      go (Some (u, m)) i j =
          let c0 = ask (holds e.owners given.process.name given.role.name a.process.name) T1 in
          let c1 = ask (not (holds_some e.owners given.process.name b.process.name)) T9 in
          let c = pass_check e.owners given.process.name given.role.name a.process.name b.process.name in
          let c2 = ask (is_endpoint (standing_of e.standings given.process.name) given.role.name u) T5 in
          let v = first_passes c (c2 ∷ []) j in
          let v0 = first_passes c0 (c1 ∷ []) v.0 in
          let v1 = first_passes c1 [] v0.1 in
          let v2 = first_passes c2 [] v.1 in
          let hg = asked (holds e.owners given.process.name given.role.name a.process.name) T1 v0.0 in
          let free = no_more (holds_some e.owners given.process.name b.process.name) (asked (not (holds_some e.owners given.process.name b.process.name)) T9 v1.0) in
          let said = as_said (standing_of e.standings given.process.name) given.role.name u (asked (is_endpoint (standing_of e.standings given.process.name) given.role.name u) T5 v2.0) in
          let known : d.protocol (at given.process.name) ≡ Some u.protocol = t.protocol given.process.name ∙ said.0 in
          let may = endpoint_allowed a.role.name b.role.name (step_at f e k.name) u m i in
          let x = passes a.role.name b.role.name (endpoint u.protocol u.state u.role) in
          let st = has_step f e k.name may.0 may.1 in
          let allowed : IsIn (x, m) (exchanges_of st.state.step) = subst (λ z. IsIn (passes a.role.name b.role.name (endpoint u.protocol u.state u.role), m) (exchanges_of z)) (sym st.step_is) may.2 in
          let to = good.there st.standing.protocol st.standing.state m st.state x st.here allowed in
          let off = good.away st.standing.protocol st.standing.state m st.state x st.here allowed in
          let told : told_content d.protocol (d.sorts (at a.process.name)) (OfPart (at given.process.name) given.role.name) ≡ Some (of_endpoint u.protocol u.role) =
          ap (λ z. told_content (λ y. z) (d.sorts (at a.process.name)) (OfPart (at given.process.name) given.role.name)) known ∙ ap (λ z. Some (of_endpoint u.protocol z)) said.1 in
          let one = moves f scope e d t k.name m st.standing st.state x to.0
          (exchanged a.role.name b.role.name (told_content d.protocol (d.sorts (at a.process.name)) (OfPart (at given.process.name) given.role.name))) st.is st.here allowed to.1
          (λ r. ap (λ o. exchanged a.role.name b.role.name o r) told ∙ passing a.role.name b.role.name (endpoint u.protocol u.state u.role) r off) in (
            (
              holder_here k.name a.role.name a.process.name hs,
              holder_here k.name b.role.name b.process.name hr,
              apart k.name a.role.name b.role.name a.process.name b.process.name hs hr off,
              (holder_here given.process.name given.role.name a.process.name hg, (u.protocol, known)),
            ),
            hands f scope _ _ one given.process.name given.role.name a.process.name b.process.name (holder_is e.owners given.process.name given.role.name a.process.name hg) free,
          )

  -- ---- statements of one process

  pub set_goes : (p : Written) (y : NameId) (x : Term) → first_failed (statement_checks f e (source.Sets p y x)) ≡ None → Goes (source.Sets p y x) (Alone (name_ref p) (Sets y x))
  set_goes p y x h = go (sort_of x (e.sorts p.name)) refl (first_passes (has_sort (sort_of x (e.sorts p.name))) [] h).0
    where
      go : (r : Result Sort Rule) → sort_of x (e.sorts p.name) ≡ r → has_sort r ≡ None
          → IsTypedNode (kind_in f) d (Alone (at p.name) (Sets y x)) × Stands f scope (with_sort e p.name y r) (after (kind_in f) d (Alone (at p.name) (Sets y x)))
      go (Err r) i j = absurd cc
      go (Ok s) i j = let its = sorted p.name x s i in ((s, its), sets f scope e d t p.name y s (sort_in (sort_of x (d.sorts (at p.name)))) (ap sort_in its))

  pub show_goes : (p : Written) (x : Term) → first_failed (statement_checks f e (source.Shows p x)) ≡ None → Goes (source.Shows p x) (Alone (name_ref p) (Shows x))
  show_goes p x h = let w = has_it (sort_of x (e.sorts p.name)) (first_passes (has_sort (sort_of x (e.sorts p.name))) [] h).0 in ((w.0, sorted p.name x w.0 w.1), t)

  pub host_goes : (p : Written) (y : NameId) (g : Written) (x z : Term) → first_failed (statement_checks f e (source.Asks p y g x z)) ≡ None → Goes (source.Asks p y g x z) (Alone (name_ref p) (Asks y g.name x z))
  host_goes p y g x z h =
      let s = sort_of x (e.sorts p.name) in
      let u = sort_of z (e.sorts p.name) in
      let v0 = first_passes (has_sort s) (has_sort u ∷ ask (is_sort sort.Int s && is_sort sort.Int u) T3 ∷ []) h in
      let v1 = first_passes (has_sort u) (ask (is_sort sort.Int s && is_sort sort.Int u) T3 ∷ []) v0.1 in
      let v2 = first_passes (ask (is_sort sort.Int s && is_sort sort.Int u) T3) [] v1.1 in
      let w = and_parts _ _ (asked (is_sort sort.Int s && is_sort sort.Int u) T3 v2.0) in
      ((sorted p.name x sort.Int (is_it sort.Int s w.0), sorted p.name z sort.Int (is_it sort.Int u w.1)), sets f scope e d t p.name y sort.Int (Some sort.Int) refl)

  -- ---- tails

  pub if_goes : (place : Place) (p : Written) (x : Term) (first second : Block) → rule_at f e (Either place p x first second) ≡ None → HasSort (d.sorts (at p.name)) x sort.Bool
  if_goes place p x first second h =
      let s = sort_of x (e.sorts p.name) in
      let v0 = first_passes (has_sort s) (ask (is_sort sort.Bool s) T3 ∷ []) h in
      sorted p.name x sort.Bool (is_it sort.Bool s (asked (is_sort sort.Bool s) T3 (first_passes (ask (is_sort sort.Bool s) T3) [] v0.1).0))

  last_step : (o : Option ProtoStep) → is_last o ≡ true → o ≡ Some Last
  last_step (Some Last) h = refl
  last_step (Some (Exchange a b c n)) h = absurd cc
  last_step (Some (Choice a b arms)) h = absurd cc
  last_step None h = absurd cc

  -- a session that isn't passed has ended
  pub left_ended : (ps : List NameId) (ss : List Standing) → list_all (λ s. is_among ps s.session || is_last (step_in f (Some s))) ss ≡ true → (k : NameId) (st : Standing) → standing_of ss k ≡ Some st → (is_among ps k || is_last (step_in f (Some st))) ≡ true
  left_ended ps [] h k st i = absurd cc
  left_ended ps (s ∷ ss) h k st i = go (s.session.0 == k.0) refl i (left_ended ps ss (and_parts _ _ h).1 k st)
    where
      go : (b : Bool) → (s.session.0 == k.0) ≡ b → (if b then Some s else standing_of ss k) ≡ Some st → (standing_of ss k ≡ Some st → (is_among ps k || is_last (step_in f (Some st))) ≡ true) → (is_among ps k || is_last (step_in f (Some st))) ≡ true
      go false j l ih = ih l
      go true j l ih =
          let same : s ≡ st = some_is _ _ l in
          subst (λ z. (is_among ps k || is_last (step_in f (Some z))) ≡ true) same (subst (λ z. (is_among ps z || is_last (step_in f (Some s))) ≡ true) (same_name s.session k j) (and_parts _ _ h).0)

  pub has_ended : (k : NameId) (st : Standing) → standing_of e.standings k ≡ Some st → is_last (step_in f (Some st)) ≡ true → HasEnded (states_in f st.protocol) (d.done (at k))
  has_ended k st is h = go (first_named (λ s. s.name) (states_in f st.protocol) st.state) refl h
    where
      go : (o : Option State) → first_named (λ s. s.name) (states_in f st.protocol) st.state ≡ o → is_last (step_of o) ≡ true → HasEnded (states_in f st.protocol) (d.done (at k))
      go None i j = absurd cc
      go (Some s) i j = ended_at (states_in f st.protocol) (d.done (at k)) st.state s (t.reached k st is) i (some_is _ _ (last_step (Some s.step) j))

  pub end_goes : (place : Place) → rule_at f e (Ends place) ≡ None → AllEnded (states_in f) d
  end_goes place h r p i =
      let all = asked (rest_ended f e []) T6 (first_passes (ask (rest_ended f e []) T6) [] h).0 in
      let w = t.of_source r p i in
      let here : protocol_at (standing_of e.standings w.0) ≡ Some p = sym (t.protocol w.0) ∙ ap d.protocol (sym w.1) ∙ i in
      subst (λ z. HasEnded (states_in f p) (d.done z)) (sym w.1) (go w.0 all (standing_of e.standings w.0) refl here)
    where
      go : (k : NameId) → list_all (λ s. is_among [] s.session || is_last (step_in f (Some s))) e.standings ≡ true → (o : Option Standing) → standing_of e.standings k ≡ o → protocol_at o ≡ Some p → HasEnded (states_in f p) (d.done (at k))
      go k all None j l = absurd cc
      go k all (Some st) j l =
          let same : st.protocol ≡ p = some_is _ _ l in
          subst (λ z. HasEnded (states_in f z) (d.done (at k))) same (has_ended k st j (left_ended [] e.standings all k st j))
