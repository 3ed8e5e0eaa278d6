-- What is asked at a call: where a source isn't at fault, and under other references.
use Rattle.std.proofs.Common.{◌≡◌, ℕ, zero, suc, ◌<◌, List, [], ◌∷◌, ◌++◌, map, length, refl, sym, ap, ◌∙◌, subst, Some, None, Option, Bool, true, false, ◌==◌, ◌&&◌, ◌||◌, inl, inr, ◌⊎◌, arith, if◌then◌else◌}
use Rattle.std.specs.Prelude.{Result, Ok, not, Contains}
use Rattle.std.specs.List.{list_all}
use Rattle.std.proofs.lemmas.Bool.{and_parts}
use Rattle.chor_base.specs.declared.names.NameId.{NameId}
use Rattle.chor_base.specs.declared.rule.Rule.{Rule}
use Rattle.chor_base.specs.declared.rule.Rule.TheVariants.{T6, T7, T8}
use Rattle.chor_base.specs.declared.value.Sort.{Sort}
use Rattle.chor_base.specs.Sorts.{or_rule}
use Rattle.chor_base.specs.declared.rule.Place.{Place}
use Rattle.chor_tree.specs.declared.file.File.{File}
use Rattle.chor_tree.specs.declared.file.Named.{Named as Written}
use Rattle.chor_tree.specs.declared.file.Proc.{Proc}
use Rattle.chor_tree.specs.declared.file.ProcParam.{ProcParam}
use Rattle.chor_tree.specs.declared.file.SessionParam.{SessionParam}
use Rattle.chor_tree.specs.Names.{Scope, is_among, names_in, procedure_of}
use Rattle.chor_tree.specs.Source.{Calls}
use Rattle.chor_semantics.specs.Choreography.{Ref, Named, ref_eq, among}
use Rattle.chor_semantics.specs.Sources.{name_ref}
use Rattle.well_formed.proofs.References.{same_ref, self_ref, same_name, true_eq}
use Rattle.delegation.specs.Owners.{holds}
use Rattle.delegation.specs.Checks.{ask, first_failed, all_differ}
use Rattle.typing_rules.specs.declared.standings.Standing.{Standing}
use Rattle.typing_rules.specs.Environment.{Environment, standing_of, step_in}
use Rattle.typing_rules.specs.Checks.{is_sort, params_are_set, holds_as, is_standing, session_fits, sessions_fit, arguments_fit, rest_ended, rule_at}
use Rattle.typing_rules.specs.Allowed.{is_last}
use Rattle.typed_sources.specs.Context.{Context}
use Rattle.typed_sources.specs.Typing.{AllKnown, HasEnded}
use Rattle.typed_sources.specs.Renames.{Renames}
use Rattle.typed_sources.specs.Stands.{states_in, Reached, at, holder_at, protocol_at, Stands}
use Rattle.typed_sources.proofs.Checked.{first_passes, asked, is_it, holder_is, some_is}
use Rattle.typed_sources.proofs.Moved.{at_is}
use Rattle.typed_sources.proofs.Statements.{ProtocolsFit, left_ended, has_ended}
use Rattle.typed_sources.specs.Calls.{argument, AreSet, IsAsDeclared, AreAsDeclared, AllDiffer, IsTypedCall}

-- ---- lists

pub all_of : {A : Type 0} (p : A → Bool) (xs : List A) → list_all p xs ≡ true → (x : A) → Contains xs x → p x ≡ true
all_of p [] h x (i, l, e) = absurd (omega (arith, l))
all_of p (y ∷ ys) h x (zero, l, e) = subst (λ z. p z ≡ true) e (and_parts _ _ h).0
all_of p (y ∷ ys) h x (suc i, l, e) = all_of p ys (and_parts _ _ h).1 x (i, omega (arith, l), e)

names : List Written → List Ref
names ps = map name_ref ps

-- the same name stands there
among_names : (ps : List Written) (x : NameId) → among (at x) (map name_ref ps) ≡ true → is_among (names_in ps) x ≡ true
among_names [] x h = absurd cc
among_names (p ∷ ps) x h = go (ref_eq (at x) (at p.name)) refl h (among_names ps x)
  where
    or_right : (b c : Bool) → c ≡ true → (b || c) ≡ true
    or_right true c i = refl
    or_right false c i = i

    go : (b : Bool) → ref_eq (at x) (at p.name) ≡ b → (b || among (at x) (map name_ref ps)) ≡ true → (among (at x) (map name_ref ps) ≡ true → is_among (names_in ps) x ≡ true) → ((p.name.0 == x.0) || is_among (names_in ps) x) ≡ true
    go false i k ih = or_right _ _ (ih k)
    go true i k ih =
        let same : x ≡ p.name = at_is x p.name (same_ref (at x) (at p.name) i) in
        ap (λ b. b || is_among (names_in ps) x) (ap (λ z. z.0 == x.0) (sym same) ∙ true_eq x.0)

names_among : (ps : List Written) (x : NameId) → is_among (names_in ps) x ≡ true → among (at x) (map name_ref ps) ≡ true
names_among [] x h = absurd cc
names_among (p ∷ ps) x h = go (p.name.0 == x.0) refl h (names_among ps x)
  where
    or_right : (b c : Bool) → c ≡ true → (b || c) ≡ true
    or_right true c i = refl
    or_right false c i = i

    go : (b : Bool) → (p.name.0 == x.0) ≡ b → (b || is_among (names_in ps) x) ≡ true → (is_among (names_in ps) x ≡ true → among (at x) (map name_ref ps) ≡ true) → (ref_eq (at x) (at p.name) || among (at x) (map name_ref ps)) ≡ true
    go false i k ih = or_right _ _ (ih k)
    go true i k ih =
        let same : p.name ≡ x = same_name p.name x i in
        ap (λ b. b || among (at x) (map name_ref ps)) (ap (λ z. ref_eq (at x) (at z)) same ∙ self_ref (at x))

differ : (ps : List Written) → all_differ (names_in ps) ≡ true → AllDiffer (map name_ref ps)
differ [] h = tt
differ (p ∷ ps) h = let w = and_parts _ _ h in (go (among (at p.name) (map name_ref ps)) refl w.0, differ ps w.1)
  where
    go : (b : Bool) → among (at p.name) (map name_ref ps) ≡ b → not (is_among (names_in ps) p.name) ≡ true → among (at p.name) (map name_ref ps) ≡ false
    go false i n = i
    go true i n = let t = among_names ps p.name i in let u : not true ≡ true = subst (λ b. not b ≡ true) t n in absurd cc

variable_set : (o : Option Sort) (s : Sort) → is_sort s (or_rule o T8) ≡ true → o ≡ Some s
variable_set None s h = absurd cc
variable_set (Some u) s h = go (is_it s (or_rule (Some u) T8) h)
  where
    go : ◌≡◌ {A = Result Sort Rule} (Ok u) (Ok s) → Some u ≡ Some s
    go i = cc

module _ (f : File) (good : ProtocolsFit f) (scope : Scope) (e : Environment) (d : Context) (t : Stands f scope e d) where
  sets_there : (qs : List ProcParam) (ps : List Written) → params_are_set e qs ps ≡ true → AreSet d qs (map name_ref ps)
  sets_there [] ps h = tt
  sets_there (q ∷ qs) [] h = tt
  sets_there (q ∷ qs) (p ∷ ps) h =
      let w = and_parts _ _ h in
      ((λ v m. ap (λ k. k v.0.name) (t.sorts p.name) ∙ variable_set (e.sorts p.name v.0.name) v.1 (all_of (λ u. is_sort u.1 (or_rule (e.sorts p.name u.0.name) T8)) q.vars w.0 v m)), sets_there qs ps w.1)

  holds_there : (k r x : NameId) (qs : List ProcParam) (ps : List Written) → holds_as e k r x qs ps ≡ true → (z : Ref) × (argument qs (map name_ref ps) x ≡ Some z) × (d.holder (at k) r ≡ Some z)
  holds_there k r x [] ps h = absurd cc
  holds_there k r x (q ∷ qs) [] h = absurd cc
  holds_there k r x (q ∷ qs) (p ∷ ps) h = go (q.name.name.0 == x.0) h (holds_there k r x qs ps)
    where
      go : (b : Bool) → (if b then holds e.owners k r p.name else holds_as e k r x qs ps) ≡ true → (holds_as e k r x qs ps ≡ true → (z : Ref) × (argument qs (map name_ref ps) x ≡ Some z) × (d.holder (at k) r ≡ Some z))
          → (z : Ref) × ((if b then Some (at p.name) else argument qs (map name_ref ps) x) ≡ Some z) × (d.holder (at k) r ≡ Some z)
      go true i ih = (at p.name, refl, t.holder k r ∙ ap holder_at (holder_is e.owners k r p.name i))
      go false i ih = ih i

  session_there : (qs : List ProcParam) (ps : List Written) (q : SessionParam) (k : NameId) → session_fits e qs ps q k ≡ true → IsAsDeclared f d qs (map name_ref ps) q (at k)
  session_there qs ps q k h = go (standing_of e.standings k) refl (and_parts _ _ h).0
    where
      go : (o : Option Standing) → standing_of e.standings k ≡ o → is_standing o q ≡ true → IsAsDeclared f d qs (map name_ref ps) q (at k)
      go None i j = absurd cc
      go (Some s) i j =
          let w = and_parts _ _ j in
          let kind = same_name s.protocol q.protocol.name w.0 in
          let state = same_name s.state q.state.name w.1 in
          record {
            protocol = t.protocol k ∙ ap protocol_at i ∙ ap Some kind;
            reached = subst (λ z. Reached (states_in f z) (d.done (at k)) q.state.name) kind (subst (λ z. Reached (states_in f s.protocol) (d.done (at k)) z) state (t.reached k s i));
            holders = λ l m. holds_there k l.0.name l.1.name qs ps (all_of (λ u. holds_as e k u.0.name u.1.name qs ps) q.holders (and_parts _ _ h).1 l m);
          }

  fit_there : (qs : List ProcParam) (ps : List Written) (rs : List SessionParam) (ks : List Written) → sessions_fit e qs ps rs ks ≡ true → AreAsDeclared f d qs (map name_ref ps) rs (map name_ref ks)
  fit_there qs ps [] ks h = tt
  fit_there qs ps (r ∷ rs) [] h = tt
  fit_there qs ps (r ∷ rs) (k ∷ ks) h = let w = and_parts _ _ h in (session_there qs ps r k.name w.0, fit_there qs ps rs ks w.1)

  known_there : (ps : List Written) → list_all (λ p. is_among scope.processes p.name) ps ≡ true → AllKnown d.known (map name_ref ps)
  known_there [] h = tt
  known_there (p ∷ ps) h = let w = and_parts _ _ h in (t.known p.name ∙ w.0, known_there ps w.1)

  length_map : {A B : Type 0} (g : A → B) (xs : List A) → length (map g xs) ≡ length xs
  length_map g [] = refl
  length_map g (x ∷ xs) = ap suc (length_map g xs)

  -- a call that isn't at fault, of a procedure that is there, with processes in scope
  pub call_goes : (place : Place) (g : Written) (ps ks : List Written) (p : Proc) → procedure_of f g.name ≡ Some p → length ps ≡ length p.params → length ks ≡ length p.sessions → list_all (λ x. is_among scope.processes x.name) ps ≡ true
      → rule_at f e (Calls place g ps ks) ≡ None → IsTypedCall f d g.name 0 (map name_ref ps) (map name_ref ks)
  call_goes place g ps ks p is lp lk kp h =
      let same = subst (λ o. first_failed (ask (all_differ (names_in ps) && all_differ (names_in ks)) T7 ∷ (arguments_fit e o ps ks ++ ask (rest_ended f e (names_in ks)) T6 ∷ [])) ≡ None) is h in
      let c1 = ask (params_are_set e p.params ps) T7 in
      let c2 = ask (sessions_fit e p.params ps p.sessions ks) T7 in
      let c3 = ask (rest_ended f e (names_in ks)) T6 in
      let v0 = first_passes (ask (all_differ (names_in ps) && all_differ (names_in ks)) T7) (c1 ∷ c2 ∷ c3 ∷ []) same in
      let v1 = first_passes c1 (c2 ∷ c3 ∷ []) v0.1 in
      let v2 = first_passes c2 (c3 ∷ []) v1.1 in
      let v3 = first_passes c3 [] v2.1 in
      let apart = and_parts _ _ (asked (all_differ (names_in ps) && all_differ (names_in ks)) T7 v0.0) in
      record {
        procedure = p;
        is = is;
        many = length_map name_ref ps ∙ lp;
        many_sessions = length_map name_ref ks ∙ lk;
        known = known_there ps kp;
        differ = differ ps apart.0;
        sessions_differ = differ ks apart.1;
        are_set = sets_there p.params ps (asked (params_are_set e p.params ps) T7 v1.0);
        fit = fit_there p.params ps p.sessions ks (asked (sessions_fit e p.params ps p.sessions ks) T7 v2.0);
        others = λ r q i. others (asked (rest_ended f e (names_in ks)) T6 v3.0) r q i;
        deeper = t.deeper;
      }
    where
      split : (a b : Bool) → (a || b) ≡ true → (a ≡ true) ⊎ (b ≡ true)
      split true b i = inl refl
      split false b i = inr i

      others : rest_ended f e (names_in ks) ≡ true → (r : Ref) (q : NameId) → d.protocol r ≡ Some q → (among r (map name_ref ks) ≡ true) ⊎ HasEnded (states_in f q) (d.done r)
      others all r q i =
          let w = t.of_source r q i in
          let here : protocol_at (standing_of e.standings w.0) ≡ Some q = sym (t.protocol w.0) ∙ ap d.protocol (sym w.1) ∙ i in
          subst (λ z. (among z (map name_ref ks) ≡ true) ⊎ HasEnded (states_in f q) (d.done z)) (sym w.1) (go w.0 (standing_of e.standings w.0) refl here)
        where
          go : (k : NameId) (o : Option Standing) → standing_of e.standings k ≡ o → protocol_at o ≡ Some q → (among (at k) (map name_ref ks) ≡ true) ⊎ HasEnded (states_in f q) (d.done (at k))
          go k None j l = absurd cc
          go k (Some st) j l = elim (split (is_among (names_in ks) k) (is_last (step_in f (Some st))) (left_ended f good scope e d t (names_in ks) e.standings all k st j)) [
            | inl m ↦ inl (names_among ks k m)
            | inr m ↦ inr (subst (λ z. HasEnded (states_in f z) (d.done (at k))) (some_is _ _ l) (has_ended f good scope e d t k st j m))
          ]

-- ---- under other references

module _ (f : File) (g h : Ref → Ref) where
  argument_put : (qs : List ProcParam) (ps : List Ref) (x : NameId) (r : Ref) → argument qs ps x ≡ Some r → argument qs (map g ps) x ≡ Some (g r)
  argument_put [] ps x r i = absurd cc
  argument_put (q ∷ qs) [] x r i = absurd cc
  argument_put (q ∷ qs) (p ∷ ps) x r i = go (q.name.name.0 == x.0) i (argument_put qs ps x r)
    where
      go : (b : Bool) → (if b then Some p else argument qs ps x) ≡ Some r → (argument qs ps x ≡ Some r → argument qs (map g ps) x ≡ Some (g r)) → (if b then Some (g p) else argument qs (map g ps) x) ≡ Some (g r)
      go true j ih = ap (λ z. Some (g z)) (some_is _ _ j)
      go false j ih = ih j

  module _ (d e : Context) (n : Renames (states_in f) g h d e) where
    sets_put : (qs : List ProcParam) (ps : List Ref) → AllKnown d.known ps → AreSet d qs ps → AreSet e qs (map g ps)
    sets_put [] ps k a = tt
    sets_put (q ∷ qs) [] k a = tt
    sets_put (q ∷ qs) (p ∷ ps) k a = ((λ v m. n.sorts p k.0 v.0.name v.1 (a.0 v m)), sets_put qs ps k.1 a.1)

    known_put : (ps : List Ref) → AllKnown d.known ps → AllKnown e.known (map g ps)
    known_put [] k = tt
    known_put (p ∷ ps) k = (n.known p k.0, known_put ps k.1)

    among_put : (p : Ref) (ps : List Ref) → d.known p ≡ true → AllKnown d.known ps → among (g p) (map g ps) ≡ among p ps
    among_put p [] i k = refl
    among_put p (q ∷ qs) i k = ap (λ b. b || among (g p) (map g qs)) (n.apart p q i k.0) ∙ ap (λ b. ref_eq p q || b) (among_put p qs i k.1)

    differ_put : (ps : List Ref) → AllKnown d.known ps → AllDiffer ps → AllDiffer (map g ps)
    differ_put [] k a = tt
    differ_put (p ∷ ps) k a = (among_put p ps k.0 k.1 ∙ a.0, differ_put ps k.1 a.1)

    session_put : (qs : List ProcParam) (ps : List Ref) (q : SessionParam) (s : Ref) → IsAsDeclared f d qs ps q s → IsAsDeclared f e qs (map g ps) q (h s)
    session_put qs ps q s w = record {
      protocol = n.protocol s q.protocol.name w.protocol;
      reached = subst (λ l. Reached (states_in f q.protocol.name) l q.state.name) (λ i r. sym (n.done s (q.protocol.name, w.protocol) r) i) w.reached;
      holders = λ l m. let z = w.holders l m in (g z.0, argument_put qs ps l.1.name z.0 z.1, n.holder s l.0.name z.0 z.2);
    }

    fit_put : (qs : List ProcParam) (ps : List Ref) (rs : List SessionParam) (ss : List Ref) → AreAsDeclared f d qs ps rs ss → AreAsDeclared f e qs (map g ps) rs (map h ss)
    fit_put qs ps [] ss a = tt
    fit_put qs ps (r ∷ rs) [] a = tt
    fit_put qs ps (r ∷ rs) (s ∷ ss) a = (session_put qs ps r s a.0, fit_put qs ps rs ss a.1)

    -- each session that is passed has a protocol
    all_bound : (qs : List ProcParam) (ps : List Ref) (rs : List SessionParam) (ss : List Ref) → length ss ≡ length rs → AreAsDeclared f d qs ps rs ss → (s : Ref) → among s ss ≡ true → (p : NameId) × (d.protocol s ≡ Some p)
    all_bound qs ps rs [] l a s i = absurd cc
    all_bound qs ps [] (x ∷ ss) l a s i = absurd (omega (arith, l))
    all_bound qs ps (r ∷ rs) (x ∷ ss) l a s i = go (ref_eq s x) refl i (all_bound qs ps rs ss (omega (arith, l)) a.1 s)
      where
        go : (b : Bool) → ref_eq s x ≡ b → (b || among s ss) ≡ true → (among s ss ≡ true → (p : NameId) × (d.protocol s ≡ Some p)) → (p : NameId) × (d.protocol s ≡ Some p)
        go true j k ih = (r.protocol.name, ap d.protocol (same_ref s x j) ∙ a.0.protocol)
        go false j k ih = ih k

    among_sessions : (s : Ref) (p : NameId) (ss : List Ref) → d.protocol s ≡ Some p → ((u : Ref) → among u ss ≡ true → (q : NameId) × (d.protocol u ≡ Some q)) → among (h s) (map h ss) ≡ among s ss
    among_sessions s p [] i k = refl
    among_sessions s p (x ∷ ss) i k =
        ap (λ b. b || among (h s) (map h ss)) (n.apart_sessions s x (p, i) (k x (ap (λ b. b || among x ss) (self_ref x))))
        ∙ ap (λ b. ref_eq s x || b) (among_sessions s p ss i (λ u m. k u (or_right (ref_eq u x) _ m)))
      where
        or_right : (b c : Bool) → c ≡ true → (b || c) ≡ true
        or_right true c i = refl
        or_right false c i = i

    sessions_differ_put : (ss : List Ref) → ((u : Ref) → among u ss ≡ true → (q : NameId) × (d.protocol u ≡ Some q)) → AllDiffer ss → AllDiffer (map h ss)
    sessions_differ_put [] k a = tt
    sessions_differ_put (x ∷ ss) k a =
        let w = k x (ap (λ b. b || among x ss) (self_ref x)) in
        (among_sessions x w.0 ss w.1 (λ u m. k u (or_right (ref_eq u x) _ m)) ∙ a.0, sessions_differ_put ss (λ u m. k u (or_right (ref_eq u x) _ m)) a.1)
      where
        or_right : (b c : Bool) → c ≡ true → (b || c) ≡ true
        or_right true c i = refl
        or_right false c i = i

    -- What is asked at a call still holds
    pub call_put : (x : NameId) (k l : ℕ) (ps ss : List Ref) → ((y c : ℕ) → l < c → (e.known (Named y c) ≡ false) × (e.protocol (Named y c) ≡ None)) → IsTypedCall f d x k ps ss → IsTypedCall f e x l (map g ps) (map h ss)
    call_put x k l ps ss deeper w = record {
      procedure = w.procedure;
      is = w.is;
      many = long g ps ∙ w.many;
      many_sessions = long h ss ∙ w.many_sessions;
      known = known_put ps w.known;
      differ = differ_put ps w.known w.differ;
      sessions_differ = sessions_differ_put ss bound w.sessions_differ;
      are_set = sets_put w.procedure.params ps w.known w.are_set;
      fit = fit_put w.procedure.params ps w.procedure.sessions ss w.fit;
      others = others;
      deeper = deeper;
    }
      where
        long : (u : Ref → Ref) (rs : List Ref) → length (map u rs) ≡ length rs
        long u [] = refl
        long u (r ∷ rs) = ap suc (long u rs)

        bound : (u : Ref) → among u ss ≡ true → (q : NameId) × (d.protocol u ≡ Some q)
        bound = all_bound w.procedure.params ps w.procedure.sessions ss w.many_sessions w.fit

        others : (t : Ref) (p : NameId) → e.protocol t ≡ Some p → (among t (map h ss) ≡ true) ⊎ HasEnded (states_in f p) (e.done t)
        others t p i = elim (n.others t p i) [
          | inl s ↦ elim (w.others s.0 p s.2) [
            | inl m ↦ inl (subst (λ z. among z (map h ss) ≡ true) s.1 (among_sessions s.0 p ss s.2 bound ∙ m))
            | inr v ↦ inr (subst (λ z. HasEnded (states_in f p) (e.done z)) s.1 (subst (HasEnded (states_in f p)) (λ j r. sym (n.done s.0 (p, s.2) r) j) v))
          ]
          | inr v ↦ inr v
        ]
