-- In a block without fault whoever uses a role of a session holds it, as what is known at the block says.
use Rattle.std.proofs.Common.{◌≡◌, ◌+◌, ℕ, zero, suc, List, [], ◌∷◌, ◌++◌, map, length, refl, sym, ap, ◌∙◌, subst, Some, None, Option, Bool, true, false, if◌then◌else◌, ◌==◌, ◌&&◌, arith}
use Rattle.std.specs.Prelude.{slice_get, not, Result, Ok, Err}
use Rattle.std.proofs.lemmas.Bool.{and_parts}
use Rattle.chor_base.specs.declared.names.NameId.{NameId}
use Rattle.chor_base.specs.declared.rule.Place.{Place}
use Rattle.chor_base.specs.declared.rule.Rule.{Rule}
use Rattle.chor_base.specs.declared.rule.Rule.TheVariants.{T1, T5, T6, T7, T9}
use Rattle.chor_base.specs.declared.value.Sort.{Sort}
use Rattle.chor_base.specs.Expr.{Term}
use Rattle.chor_tree.specs.declared.file.File.{File}
use Rattle.chor_tree.specs.declared.file.Named.{Named as Written}
use Rattle.chor_tree.specs.declared.file.ProcParam.{ProcParam}
use Rattle.chor_tree.specs.declared.file.SessionParam.{SessionParam}
use Rattle.chor_tree.specs.declared.tree.Part.{Part}
use Rattle.chor_tree.specs.Names.{Scope, procedure_of, names_in}
use Rattle.chor_tree.specs.Source.{Statement, Starts, Sends, Selects, Gives, Sets, Asks, Shows, Block, Then, Either, Calls, Ends}
use Rattle.chor_semantics.specs.Choreography.{Ref, Named, ref_eq}
use Rattle.chor_semantics.specs.Sources.{name_ref, parts_of, served_of}
use Rattle.well_formed.specs.Holders.{is_role, first_with, as_parts, HolderFits, holder_after, HeldBy, PassedHeld, HoldersFit}
use Rattle.well_formed.proofs.References.{same_name, same_ref}
use Rattle.delegation.specs.declared.held.Held.{Held}
use Rattle.delegation.specs.Owners.{holder_of, holds, holds_some, started, passed}
use Rattle.delegation.specs.Checks.{Check, ask, first_failed, all_differ}
use Rattle.typing_rules.specs.declared.allowed.EndpointType.{EndpointType}
use Rattle.typing_rules.specs.Environment.{Environment, standing_of, step_at, moved, opened, opened_by, opened_on, first_state, states_of, stands}
use Rattle.typing_rules.specs.Allowed.{value_sent, labels_sent, arm_in, endpoint_sent}
use Rattle.typing_rules.specs.Checks.{parties, sort_at, value_checks, label_checks, is_endpoint, endpoint_checks, rest_ended, params_are_set, holds_as, session_fits, sessions_fit, arguments_fit, statement_checks, rule_at}
use Rattle.typing_rules.specs.After.{with_value, with_state as in_state, with_endpoint, with_sort, after_statement}
use Rattle.typed_sources.specs.Stands.{at, holder_at}
use Rattle.typed_sources.proofs.Checked.{first_passes, asked, holder_is}
use Rattle.typed_sources.proofs.Moved.{at_same, at_is, passed_other, passed_this}
use Rattle.typed_sources.proofs.Opened.{IsNamedStart, eq_flip, holder_other, holder_new, parts_same, first_of_parts}
use Rattle.typed_sources.proofs.Arguments.{named}
use Rattle.typed_sources.proofs.Calls.{all_of}
use Rattle.chor_semantics.specs.Blocks.{node_of, choreography_of}
use Rattle.typed_sources.proofs.Sources.{NamesKept, IsNamedCall, IsFaultless, IsIn, scope_with}
use Rattle.typed_sources.specs.Lists.{one_more, place_of, listed_for, listed_in, listed_by, lists_of}
use Rattle.typed_sources.proofs.Opened.{not_is}
use Rattle.typed_sources.proofs.Places.{listed_there, placed, more_is}
use Rattle.typed_sources.proofs.Owners.{AreKept, kept_moved, kept_passed, kept_started}

-- who holds the roles of a source's sessions, as is known at a block
abbrev pub holder_in : List Held → ℕ → NameId → Option Ref
holder_in hs = λ y a. holder_at (holder_of hs (named y) a)

-- what is kept along a source, as is known there
abbrev pub KeepsOwners : Scope → Environment → Type 0
KeepsOwners scope e = AreKept e.owners e.standings scope.processes

-- ---- what a statement says of holders

pub two_parties : (e : Environment) (k : Written) (a b : Part) (cs : List Check) → first_failed (parties e k a b ++ cs) ≡ None
    → (holds e.owners k.name a.role.name a.process.name ≡ true) × (holds e.owners k.name b.role.name b.process.name ≡ true) × (first_failed cs ≡ None)
two_parties e k a b cs h =
    let w0 = first_passes (ask (holds e.owners k.name a.role.name a.process.name) T1) (ask (holds e.owners k.name b.role.name b.process.name) T1 ∷ cs) h in
    let w1 = first_passes (ask (holds e.owners k.name b.role.name b.process.name) T1) cs w0.1 in
    (asked (holds e.owners k.name a.role.name a.process.name) T1 w0.0, asked (holds e.owners k.name b.role.name b.process.name) T1 w1.0, w1.1)

-- a party holds its role
party : (hs : List Held) (k a p : Written) → holds hs k.name a.name p.name ≡ true → (y : ℕ) (r : NameId) → is_role (Named y 0) r (name_ref k) a.name ≡ true → holder_in hs y r ≡ Some (name_ref p)
party hs k a p h y r i =
    let w = and_parts _ _ i in
    let s : named y ≡ k.name = at_is (named y) k.name (same_ref (at (named y)) (at k.name) w.0) in
    ap (λ z. holder_at (holder_of hs z r)) s ∙ ap (λ z. holder_at (holder_of hs k.name z)) (same_name r a.name w.1) ∙ ap holder_at (holder_is hs k.name a.name p.name h)

-- what is known of a statement: its holders fit, and are those of the choreography after it
pub record Goes (f : File) (scope : Scope) (e : Environment) (s : Statement) : Type 0 where
  pub fits : (y : ℕ) (r : NameId) → HolderFits (Named y 0) r (node_of s) (holder_in e.owners y r)
  pub same : (y : ℕ) (r : NameId) → holder_after (Named y 0) r (node_of s) (holder_in e.owners y r) ≡ holder_in (after_statement f e s).owners y r
  pub keeps : KeepsOwners (scope_with scope s) (after_statement f e s)

-- what a given endpoint keeps
pub record GivenFits (e : Environment) (a b given : Part) : Type 0 where
  pub held : holds e.owners given.process.name given.role.name a.process.name ≡ true
  pub free : holds_some e.owners given.process.name b.process.name ≡ false

pub given_fits : (f : File) (e : Environment) (a b : Part) (k : Written) (given : Part) (o : Option (EndpointType × NameId)) → first_failed (endpoint_checks e a b given o) ≡ None → GivenFits e a b given
given_fits f e a b k given None h = absurd cc
given_fits f e a b k given (Some t) h =
    let c0 = ask (holds e.owners given.process.name given.role.name a.process.name) T1 in
    let c1 = ask (not (holds_some e.owners given.process.name b.process.name)) T9 in
    let c2 = ask (is_endpoint (standing_of e.standings given.process.name) given.role.name t.0) T5 in
    let v = first_passes (first_failed (c0 ∷ c1 ∷ [])) (c2 ∷ []) h in
    let v0 = first_passes c0 (c1 ∷ []) v.0 in
    let v1 = first_passes c1 [] v0.1 in
    record { held = asked (holds e.owners given.process.name given.role.name a.process.name) T1 v0.0; free = not_is (holds_some e.owners given.process.name b.process.name) (asked (not (holds_some e.owners given.process.name b.process.name)) T9 v1.0) }

module _ (f : File) (scope : Scope) (e : Environment) (t : KeepsOwners scope e) where
  value_owned : (a b : Part) (x : Term) (y : NameId) (k : Written) → first_failed (statement_checks f e (Sends a x b y k)) ≡ None → Goes f scope e (Sends a x b y k)
  value_owned a b x y k h =
      let w = two_parties e k a b (value_checks (value_sent a.role.name b.role.name (step_at f e k.name)) (sort_at e a.process x)) h in
      let g = go (value_sent a.role.name b.role.name (step_at f e k.name)) in
      record { fits = λ z r. (party e.owners k a.role a.process w.0 z r, party e.owners k b.role b.process w.1 z r, λ i. absurd cc); same = λ z r. ap (λ l. holder_in l z r) (sym g.0); keeps = g.1 }
    where
      go : (o : Option (Sort × NameId)) → ((with_value e k.name b.process.name y o).owners ≡ e.owners) × KeepsOwners scope (with_value e k.name b.process.name y o)
      go None = (refl, t)
      go (Some u) = (refl, kept_moved e.owners e.standings scope.processes k.name u.1 t)

  label_owned : (a b : Part) (k : Written) (l : NameId) → first_failed (statement_checks f e (Selects a b k l)) ≡ None → Goes f scope e (Selects a b k l)
  label_owned a b k l h =
      let w = two_parties e k a b (label_checks (labels_sent a.role.name b.role.name (step_at f e k.name)) l) h in
      let g = go (arm_in (labels_sent a.role.name b.role.name (step_at f e k.name)) l) in
      record { fits = λ z r. (party e.owners k a.role a.process w.0 z r, party e.owners k b.role b.process w.1 z r, λ i. absurd cc); same = λ z r. ap (λ m. holder_in m z r) (sym g.0); keeps = g.1 }
    where
      go : (o : Option NameId) → ((in_state e k.name o).owners ≡ e.owners) × KeepsOwners scope (in_state e k.name o)
      go None = (refl, t)
      go (Some u) = (refl, kept_moved e.owners e.standings scope.processes k.name u t)

  give_owned : (a b : Part) (k : Written) (given : Part) → IsIn scope b.process → first_failed (statement_checks f e (Gives a b k given)) ≡ None → Goes f scope e (Gives a b k given)
  give_owned a b k given there h = go (endpoint_sent a.role.name b.role.name (step_at f e k.name)) refl w.2
    where
      w : (holds e.owners k.name a.role.name a.process.name ≡ true) × (holds e.owners k.name b.role.name b.process.name ≡ true) × (first_failed (endpoint_checks e a b given (endpoint_sent a.role.name b.role.name (step_at f e k.name))) ≡ None)
      w = two_parties e k a b (endpoint_checks e a b given (endpoint_sent a.role.name b.role.name (step_at f e k.name))) h

      role_is : (y : ℕ) (r : NameId) (b : Bool) → is_role (Named y 0) r (name_ref given.process) given.role.name ≡ b → (((named y).0 == given.process.name.0) && (r.0 == given.role.name.0)) ≡ b
      role_is y r b i = ap (λ z. z && (r.0 == given.role.name.0)) (sym (at_same (named y) given.process.name)) ∙ i

      changed : (y : ℕ) (r : NameId) (x : Bool) → is_role (Named y 0) r (name_ref given.process) given.role.name ≡ x → holder_of e.owners given.process.name given.role.name ≡ Some a.process.name
          → (if is_role (Named y 0) r (name_ref given.process) given.role.name then Some (name_ref b.process) else holder_in e.owners y r) ≡ holder_in (passed e.owners given.process.name given.role.name b.process.name) y r
      changed y r false i is =
          ap (λ (z : Bool). if z then Some (name_ref b.process) else holder_in e.owners y r) i
          ∙ ap holder_at (sym (passed_other f scope e.owners given.process.name given.role.name b.process.name (named y) r (role_is y r false i)))
      changed y r true i is =
          let w = and_parts _ _ (role_is y r true i) in
          let s : named y ≡ given.process.name = same_name (named y) given.process.name w.0 in
          let q : r ≡ given.role.name = same_name r given.role.name w.1 in
          let P = passed e.owners given.process.name given.role.name b.process.name in
          ap (λ (z : Bool). if z then Some (name_ref b.process) else holder_in e.owners y r) i
          ∙ ap holder_at (sym (ap (λ x. holder_of P x r) s ∙ ap (holder_of P given.process.name) q ∙ passed_this f scope e.owners given.process.name given.role.name b.process.name a.process.name is))

      go : (o : Option (EndpointType × NameId)) → endpoint_sent a.role.name b.role.name (step_at f e k.name) ≡ o → first_failed (endpoint_checks e a b given o) ≡ None → Goes f scope e (Gives a b k given)
      go None i j = absurd cc
      go (Some (u, m)) i j =
          let g = given_fits f e a b k given (Some (u, m)) j in
          let is = holder_is e.owners given.process.name given.role.name a.process.name g.held in
          let now : with_endpoint e k.name b.process.name given (Some (u, m)) ≡ after_statement f e (Gives a b k given) = ap (with_endpoint e k.name b.process.name given) (sym i) in
          record {
            fits = λ y r. (party e.owners k a.role a.process w.0 y r, party e.owners k b.role b.process w.1 y r, party e.owners given.process given.role a.process g.held y r);
            same = λ y r. changed y r (is_role (Named y 0) r (name_ref given.process) given.role.name) refl is ∙ ap (λ (z : Environment). holder_in z.owners y r) now;
            keeps = subst (KeepsOwners scope) now (kept_passed f scope e.owners (moved e.standings k.name m) scope.processes given.process.name given.role.name a.process.name b.process.name is g.free there (kept_moved e.owners e.standings scope.processes k.name m t));
          }

  start_owned : (c k : Written) (active serve : List Part) → IsNamedStart f scope e c.name k.name active serve → first_failed (statement_checks f e (Starts c k active serve)) ≡ None → Goes f scope e (Starts c k active serve)
  start_owned c k active serve w h = record {
    fits = λ y r. tt;
    same = λ y r. same y r (k.name.0 == y) refl;
    keeps = subst (λ l. AreKept (e.owners ++ started k.name (active ++ serve)) (e.standings ++ l) (scope.processes ++ map (λ q. q.process.name) serve)) (sym opens)
        (kept_started e.owners e.standings scope.processes k.name (stands k.name w.service.protocol.name w.first.name.name) active serve refl w.free differ w.known t);
  }
    where
      differ : all_differ (map (λ q. q.process.name) (active ++ serve)) ≡ true
      differ = asked (all_differ (map (λ q. q.process.name) (active ++ serve))) T9 (first_passes (ask (all_differ (map (λ q. q.process.name) (active ++ serve))) T9) [] h).0

      opens : opened f c.name k.name ≡ stands k.name w.service.protocol.name w.first.name.name ∷ []
      opens = ap (opened_by f k.name) w.is_channel ∙ ap (λ o. opened_on k.name (states_of o) w.service.protocol.name) w.is_protocol ∙ ap (λ l. map (stands k.name w.service.protocol.name) (first_state l)) w.states

      flip : (y : ℕ) (b : Bool) → (k.name.0 == y) ≡ b → ref_eq (at (named y)) (at k.name) ≡ b
      flip y b i = at_same (named y) k.name ∙ eq_flip y k.name.0 ∙ i

      same : (y : ℕ) (r : NameId) (b : Bool) → (k.name.0 == y) ≡ b
          → (if ref_eq (Named y 0) (Named k.name.0 0) then first_with r (parts_of active ++ as_parts 0 (served_of serve)) else holder_in e.owners y r) ≡ holder_in (e.owners ++ started k.name (active ++ serve)) y r
      same y r true i =
          let s : k.name ≡ named y = same_name k.name (named y) i in
          ap (λ (b : Bool). if b then first_with r (parts_of active ++ as_parts 0 (served_of serve)) else holder_in e.owners y r) (flip y true i)
          ∙ ap (first_with r) (parts_same active serve) ∙ first_of_parts k.name (active ++ serve) r
          ∙ sym (ap (λ x. holder_at (holder_of (e.owners ++ started k.name (active ++ serve)) x r)) (sym s) ∙ ap holder_at (holder_new e.owners k.name (active ++ serve) r (t.held k.name r w.free)))
      same y r false i =
          ap (λ (b : Bool). if b then first_with r (parts_of active ++ as_parts 0 (served_of serve)) else holder_in e.owners y r) (flip y false i)
          ∙ sym (ap holder_at (holder_other e.owners k.name (active ++ serve) (named y) r i))

  sorted_owned : (p y : NameId) (o : Result Sort Rule) → ((with_sort e p y o).owners ≡ e.owners) × KeepsOwners scope (with_sort e p y o)
  sorted_owned p y (Ok s) = (refl, t)
  sorted_owned p y (Err r) = (refl, t)

  -- A statement without fault has its holders use its roles
  pub statement_owned : (s : Statement) → NamesKept f scope e s → first_failed (statement_checks f e s) ≡ None → Goes f scope e s
  statement_owned (Starts c k active serve) w h = start_owned c k active serve w h
  statement_owned (Sends a x b y k) w h = value_owned a b x y k h
  statement_owned (Selects a b k l) w h = label_owned a b k l h
  statement_owned (Gives a b k given) w h = give_owned a b k given w.1 h
  statement_owned (Sets p y x) w h = let g = sorted_owned p.name y (sort_at e p x) in record { fits = λ z r. tt; same = λ z r. ap (λ l. holder_in l z r) (sym g.0); keeps = g.1 }
  statement_owned (Asks p y g x z) w h = record { fits = λ y r. tt; same = λ y r. refl; keeps = t }
  statement_owned (Shows p x) w h = record { fits = λ y r. tt; same = λ y r. refl; keeps = t }

-- ---- calls

-- at a call the listed roles have the passed holders
pub call_sessions : (f : File) (e : Environment) (place : Place) (scope : Scope) (g : Written) (ps ks : List Written) (w : IsNamedCall f scope g ps ks) → rule_at f e (Calls place g ps ks) ≡ None
    → sessions_fit e w.procedure.params ps w.procedure.sessions ks ≡ true
call_sessions f e place scope g ps ks w h =
    let c0 = ask (all_differ (names_in ps) && all_differ (names_in ks)) T7 in
    let c3 = ask (rest_ended f e (names_in ks)) T6 in
    let v0 = first_passes c0 (arguments_fit e (procedure_of f g.name) ps ks ++ c3 ∷ []) h in
    let v1 : first_failed (arguments_fit e (Some w.procedure) ps ks ++ c3 ∷ []) ≡ None = subst (λ o. first_failed (arguments_fit e o ps ks ++ c3 ∷ []) ≡ None) w.is v0.1 in
    let c1 = ask (params_are_set e w.procedure.params ps) T7 in
    let c2 = ask (sessions_fit e w.procedure.params ps w.procedure.sessions ks) T7 in
    let v2 = first_passes c1 (c2 ∷ c3 ∷ []) v1 in
    let v3 = first_passes c2 (c3 ∷ []) v2.1 in
    asked (sessions_fit e w.procedure.params ps w.procedure.sessions ks) T7 v3.0

module _ (f : File) (e : Environment) where
  held_as : (k r x : NameId) (qs : List ProcParam) (ps : List Written) (j : ℕ) → place_of qs x ≡ Some j → holds_as e k r x qs ps ≡ true → holder_at (holder_of e.owners k r) ≡ slice_get (map name_ref ps) j
  held_as k r x [] ps j i h = absurd cc
  held_as k r x (q ∷ qs) [] j i h = absurd cc
  held_as k r x (q ∷ qs) (p ∷ ps) j i h = go (q.name.name.0 == x.0) i h (λ z. held_as k r x qs ps z)
    where
      go : (b : Bool) → (if b then Some 0 else one_more (place_of qs x)) ≡ Some j → (if b then holds e.owners k r p.name else holds_as e k r x qs ps) ≡ true
          → ((z : ℕ) → place_of qs x ≡ Some z → holds_as e k r x qs ps ≡ true → holder_at (holder_of e.owners k r) ≡ slice_get (map name_ref ps) z)
          → holder_at (holder_of e.owners k r) ≡ slice_get (name_ref p ∷ map name_ref ps) j
      go true i h ih = let z : 0 ≡ j = cc in ap holder_at (holder_is e.owners k r p.name h) ∙ ap (slice_get (name_ref p ∷ map name_ref ps)) z
      go false i h ih = let w = more_is (place_of qs x) j i in ih w.0 w.1 h ∙ ap (slice_get (name_ref p ∷ map name_ref ps)) (sym w.2)

  module _ (y : ℕ) (r : NameId) where
    one_held : (qs : List ProcParam) (ps : List Written) (q : SessionParam) (k : Written) → session_fits e qs ps q k.name ≡ true → ref_eq (Named y 0) (name_ref k) ≡ true
        → (o : Option ℕ) → listed_in qs (Some q) r ≡ o → HeldBy o (map name_ref ps) (holder_in e.owners y r)
    one_held qs ps q k w same None i = tt
    one_held qs ps q k w same (Some j) i =
        let x = placed qs (listed_for q.holders r) j i in
        let h = listed_there q.holders r x.0 x.1 in
        let all = all_of (λ (h : Written × Written). holds_as e k.name h.0.name h.1.name qs ps) q.holders (and_parts _ _ w).1 h.0 h.1 in
        let s : named y ≡ k.name = at_is (named y) k.name (same_ref (at (named y)) (at k.name) same) in
        let place : place_of qs h.0.1.name ≡ Some j = ap (place_of qs) h.3 ∙ x.2 in
        ap (λ z. holder_at (holder_of e.owners z r)) s ∙ ap (λ z. holder_at (holder_of e.owners k.name z)) (sym h.2) ∙ held_as k.name h.0.0.name h.0.1.name qs ps j place all

    all_held : (L : ℕ → NameId → Option ℕ) (qs : List ProcParam) (ps : List Written) (rs : List SessionParam) (ks : List Written) (i : ℕ) → length ks ≡ length rs → sessions_fit e qs ps rs ks ≡ true
        → ((j : ℕ) → L (i + j) r ≡ listed_in qs (slice_get rs j) r) → PassedHeld L (Named y 0) r (holder_in e.owners y r) (map name_ref ps) i (map name_ref ks)
    all_held L qs ps rs [] i l a m = tt
    all_held L qs ps [] (k ∷ ks) i l a m = absurd (omega (arith, l))
    all_held L qs ps (q ∷ rs) (k ∷ ks) i l a m =
        let w = and_parts _ _ a in (
          λ same. one_held qs ps q k w.0 same (L i r) (sym (m 0) ∙ ap (λ z. L z r) (plus i)),
          all_held L qs ps rs ks (suc i) (omega (arith, l)) w.1 (λ j. ap (λ z. L z r) (shift i j) ∙ m (suc j)),
        )
      where
        plus : (i : ℕ) → i + 0 ≡ i
        plus i = omega arith

        shift : (i j : ℕ) → suc i + j ≡ i + suc j
        shift i j = omega arith

    call_owned : (place : Place) (scope : Scope) (g : Written) (ps ks : List Written) → IsNamedCall f scope g ps ks → rule_at f e (Calls place g ps ks) ≡ None
        → PassedHeld (lists_of f g.name) (Named y 0) r (holder_in e.owners y r) (map name_ref ps) 0 (map name_ref ks)
    call_owned place scope g ps ks w h =
        all_held (lists_of f g.name) w.procedure.params ps w.procedure.sessions ks 0 w.many_sessions (call_sessions f e place scope g ps ks w h)
        (λ j. ap (λ o. listed_by o (zero + j) r) w.is ∙ ap (λ z. listed_in w.procedure.params (slice_get w.procedure.sessions z) r) (first j))
      where
        first : (j : ℕ) → zero + j ≡ j
        first j = omega arith

-- ---- blocks

module _ (f : File) (y : ℕ) (r : NameId) where
  -- In a block without fault whoever uses a role is its holder
  pub block_owned : (b : Block) (scope : Scope) (e : Environment) → IsFaultless f scope e b → KeepsOwners scope e → HoldersFit (lists_of f) (Named y 0) r (choreography_of b) (holder_in e.owners y r)
  block_owned (Then place s next) scope e (names, rule, rest) t =
      let g = statement_owned f scope e t s names rule in
      (g.fits y r, subst (HoldersFit (lists_of f) (Named y 0) r (choreography_of next)) (sym (g.same y r)) (block_owned next (scope_with scope s) (after_statement f e s) rest g.keeps))
  block_owned (Either place p x first second) scope e (names, rule, one, other) t = (block_owned first scope e one t, block_owned second scope e other t)
  block_owned (Calls place g ps ks) scope e (w, rule) t = call_owned f e y r place scope g ps ks w rule
  block_owned (Ends place) scope e rule t = tt
