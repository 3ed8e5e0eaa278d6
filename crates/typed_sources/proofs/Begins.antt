-- Where a body begins: what the source knows of its parameters is what holds of the arguments.
use Rattle.std.proofs.Common.{◌≡◌, ℕ, zero, suc, ◌<◌, List, [], ◌∷◌, map, length, refl, sym, ap, ◌∙◌, Some, None, Option, Bool, true, false, ◌==◌, ◌&&◌, inl, inr, ◌⊎◌, arith}
use Rattle.std.proofs.lemmas.Bool.{eqb-true}
use Rattle.chor_base.specs.declared.names.NameId.{NameId}
use Rattle.chor_base.specs.declared.value.Sort.{Sort}
use Rattle.chor_tree.specs.declared.file.File.{File}
use Rattle.chor_tree.specs.declared.file.Proc.{Proc}
use Rattle.chor_tree.specs.declared.file.ProcParam.{ProcParam}
use Rattle.chor_tree.specs.declared.file.SessionParam.{SessionParam}
use Rattle.chor_tree.specs.Names.{is_among, scope_of_procedure}
use Rattle.chor_semantics.specs.Choreography.{Ref, Live, Named, ref_eq, named_by}
use Rattle.well_formed.proofs.References.{self_ref}
use Rattle.delegation.specs.Owners.{holder_of}
use Rattle.delegation.specs.Checks.{all_differ}
use Rattle.typing_rules.specs.declared.standings.Standing.{Standing}
use Rattle.typing_rules.specs.Environment.{standing_of, at_procedure}
use Rattle.typed_sources.specs.Context.{Context}
use Rattle.typed_sources.specs.Typing.{HasProtocol, HasEnded}
use Rattle.typed_sources.specs.Changes.{HoldersInScope}
use Rattle.typed_sources.proofs.Small.{on_or_off}
use Rattle.typed_sources.specs.Renames.{Renames}
use Rattle.typed_sources.specs.Stands.{states_in, at, holder_at, protocol_at, Stands}
use Rattle.typed_sources.proofs.Checked.{some_is}
use Rattle.typed_sources.specs.Calls.{IsTypedCall}
use Rattle.typed_sources.proofs.Instances.{Deep}
use Rattle.typed_sources.proofs.Bodies.{F, G, there}
use Rattle.typed_sources.proofs.Arguments.{named, known_bound, bound_apart, sorts_bound, session_bound, standing_among, holder_bound, session_of, standings_of, owners_of}

-- what a procedure's head keeps: it has no session without a process, its names differ, and no process is listed twice for one session
pub record IsProper (p : Proc) : Type 0 where
  pub filled : length p.params ≡ 0 → length p.sessions ≡ 0
  pub sessions : all_differ (map (λ k. k.name.name) p.sessions) ≡ true
  pub one_role : (s a b q : NameId) → holder_of (at_procedure p).owners s a ≡ Some q → holder_of (at_procedure p).owners s b ≡ Some q → a ≡ b

not_both : (b : Bool) → b ≡ true → b ≡ false → ⊥
not_both b i j = cc

module _ (f : File) (e : Context) (h : NameId) (k : ℕ) (ps ss : List Ref) (w : IsTypedCall f e h k ps ss) (proper : IsProper w.procedure) where
  abbrev p : Proc
  p = w.procedure

  abbrev pub base : Context
  base = there f (suc k) p ps ss e

  long : length ps ≡ length (map (λ q. q.name.name) p.params)
  long = w.many ∙ go p.params
    where
      go : (qs : List ProcParam) → length qs ≡ length (map (λ q. q.name.name) qs)
      go [] = refl
      go (q ∷ qs) = ap suc (go qs)

  long_sessions : length ss ≡ length (map (λ q. q.name.name) p.sessions)
  long_sessions = w.many_sessions ∙ go p.sessions
    where
      go : (qs : List SessionParam) → length qs ≡ length (map (λ q. q.name.name) qs)
      go [] = refl
      go (q ∷ qs) = ap suc (go qs)

  -- a session in scope is a parameter
  standing : (y : ℕ) (q : NameId) → protocol_at (standing_of (standings_of p.sessions) (named y)) ≡ Some q → (st : Standing) × (standing_of (standings_of p.sessions) (named y) ≡ Some st) × (st.protocol ≡ q)
  standing y q i = go (standing_of (standings_of p.sessions) (named y)) refl i
    where
      go : (o : Option Standing) → standing_of (standings_of p.sessions) (named y) ≡ o → protocol_at o ≡ Some q → (st : Standing) × (standing_of (standings_of p.sessions) (named y) ≡ Some st) × (st.protocol ≡ q)
      go None j l = absurd cc
      go (Some st) j l = (st, j, some_is _ _ l)

  holder_of_base : (y : ℕ) (r : NameId) (q : Ref) → holder_at (holder_of (owners_of p.sessions) (named y) r) ≡ Some q → (x : NameId) × (holder_of (owners_of p.sessions) (named y) r ≡ Some x) × (at x ≡ q)
  holder_of_base y r q i = go (holder_of (owners_of p.sessions) (named y) r) refl i
    where
      go : (o : Option NameId) → holder_of (owners_of p.sessions) (named y) r ≡ o → holder_at o ≡ Some q → (x : NameId) × (holder_of (owners_of p.sessions) (named y) r ≡ Some x) × (at x ≡ q)
      go None j l = absurd cc
      go (Some x) j l = (x, j, some_is _ _ l)

  known : (r : Ref) → base.known r ≡ true → e.known (named_by (F f (suc k) p ps ss e) r) ≡ true
  known (Live n) i = absurd cc
  known (Named y zero) i = known_bound (suc k) e.known (map (λ q. q.name.name) p.params) ps long w.known y i
  known (Named y (suc c)) i = absurd cc

  and_true : (b : Bool) → (b && true) ≡ b
  and_true true = refl
  and_true false = refl

  apart : (r s : Ref) → base.known r ≡ true → base.known s ≡ true → ref_eq (named_by (F f (suc k) p ps ss e) r) (named_by (F f (suc k) p ps ss e) s) ≡ ref_eq r s
  apart (Live n) s i j = absurd cc
  apart (Named y (suc c)) s i j = absurd cc
  apart (Named y zero) (Live n) i j = absurd cc
  apart (Named y zero) (Named z (suc c)) i j = absurd cc
  apart (Named y zero) (Named z zero) i j = go (y == z) refl
    where
      go : (b : Bool) → (y == z) ≡ b → ref_eq (F f (suc k) p ps ss e y) (F f (suc k) p ps ss e z) ≡ ((y == z) && true)
      go true l = ap (λ u. ref_eq (F f (suc k) p ps ss e u) (F f (suc k) p ps ss e z)) (eqb-true y z l) ∙ self_ref (F f (suc k) p ps ss e z) ∙ sym (ap (λ b. b && true) l)
      go false l = bound_apart (suc k) (map (λ q. q.name.name) p.params) ps long w.differ y z i j l ∙ sym (ap (λ b. b && true) l)

  sorts : (r : Ref) → base.known r ≡ true → (x : NameId) (s : Sort) → base.sorts r x ≡ Some s → e.sorts (named_by (F f (suc k) p ps ss e) r) x ≡ Some s
  sorts (Live n) i x s j = absurd cc
  sorts (Named y zero) i x s j = sorts_bound (suc k) e p.params ps w.many w.are_set y x s j
  sorts (Named y (suc c)) i x s j = absurd cc

  protocol : (r : Ref) (q : NameId) → base.protocol r ≡ Some q → e.protocol (named_by (G f (suc k) p ps ss e) r) ≡ Some q
  protocol (Live n) q i = absurd cc
  protocol (Named y zero) q i = let s = standing y q i in (session_bound (suc k) f e p.params ps p.sessions ss w.many_sessions w.fit y s.0 s.1).0 ∙ ap Some s.2
  protocol (Named y (suc c)) q i = absurd cc

  session_among : (y : ℕ) → HasProtocol (base.protocol (Named y 0)) → is_among (map (λ q. q.name.name) p.sessions) (named y) ≡ true
  session_among y ky = let s = standing y ky.0 ky.1 in standing_among p.sessions y s.0 s.1

  apart_sessions : (r s : Ref) → HasProtocol (base.protocol r) → HasProtocol (base.protocol s) → ref_eq (named_by (G f (suc k) p ps ss e) r) (named_by (G f (suc k) p ps ss e) s) ≡ ref_eq r s
  apart_sessions (Live n) s i j = absurd (on_or_off None refl i)
  apart_sessions (Named y (suc c)) s i j = absurd (on_or_off None refl i)
  apart_sessions (Named y zero) (Live n) i j = absurd (on_or_off None refl j)
  apart_sessions (Named y zero) (Named z (suc c)) i j = absurd (on_or_off None refl j)
  apart_sessions (Named y zero) (Named z zero) i j = go (y == z) refl
    where
      go : (b : Bool) → (y == z) ≡ b → ref_eq (G f (suc k) p ps ss e y) (G f (suc k) p ps ss e z) ≡ ((y == z) && true)
      go true l = ap (λ u. ref_eq (G f (suc k) p ps ss e u) (G f (suc k) p ps ss e z)) (eqb-true y z l) ∙ self_ref (G f (suc k) p ps ss e z) ∙ sym (ap (λ b. b && true) l)
      go false l = bound_apart (suc k) (map (λ q. q.name.name) p.sessions) ss long_sessions w.sessions_differ y z (session_among y i) (session_among z j) l ∙ sym (ap (λ b. b && true) l)

  done : (r : Ref) → HasProtocol (base.protocol r) → (a : NameId) → e.done (named_by (G f (suc k) p ps ss e) r) a ≡ base.done r a
  done (Live n) i a = absurd (on_or_off None refl i)
  done (Named y c) i a = refl

  holder : (r : Ref) (a : NameId) (q : Ref) → base.holder r a ≡ Some q → e.holder (named_by (G f (suc k) p ps ss e) r) a ≡ Some (named_by (F f (suc k) p ps ss e) q)
  holder (Live n) a q i = absurd cc
  holder (Named y (suc c)) a q i = absurd cc
  holder (Named y zero) a q i =
      let x = holder_of_base y a q i in
      (holder_bound (suc k) f e p.params ps p.sessions ss w.many_sessions proper.sessions w.fit y a x.0 x.1).0 ∙ ap (λ z. Some (named_by (F f (suc k) p ps ss e) z)) x.2

  is_held : (r : Ref) (a : NameId) (q : Ref) → base.holder r a ≡ Some q → HasProtocol (base.protocol r) × (base.known q ≡ true)
  is_held (Live n) a q i = absurd cc
  is_held (Named y (suc c)) a q i = absurd cc
  is_held (Named y zero) a q i =
      let x = holder_of_base y a q i in
      let z = holder_bound (suc k) f e p.params ps p.sessions ss w.many_sessions proper.sessions w.fit y a x.0 x.1 in
      ((z.2.0.protocol, ap protocol_at z.2.1), ap base.known (sym x.2) ∙ z.1)

  pub base_held : HoldersInScope base
  base_held = record { session = λ r a q i. (is_held r a q i).0; process = λ r a q i. (is_held r a q i).1 }

  others : (t : Ref) (q : NameId) → e.protocol t ≡ Some q → ((s : Ref) × (named_by (G f (suc k) p ps ss e) s ≡ t) × (base.protocol s ≡ Some q)) ⊎ HasEnded (states_in f q) (e.done t)
  others t q i = elim (w.others t q i) [
    | inl m ↦ (let z = session_of (suc k) f e p.params ps p.sessions ss w.many_sessions proper.sessions w.fit t q i m in inl (Named z.0 0, z.1, z.2))
    | inr v ↦ inr v
  ]

  pub base_names : Renames (states_in f) (named_by (F f (suc k) p ps ss e)) (named_by (G f (suc k) p ps ss e)) base e
  base_names = record {
    live = λ n. refl;
    known = known;
    apart = apart;
    sorts = sorts;
    protocol = protocol;
    apart_sessions = apart_sessions;
    done = done;
    holder = holder;
    none = λ n r i j. absurd (on_or_off None refl i);
    held = λ r a q i. (is_held r a q i).0;
    others = others;
  }

  pub base_deep : Deep (suc k) base e
  base_deep = record {
    process = λ x i. (w.deeper x (suc k) (omega arith)).0;
    session = λ x i. (w.deeper x (suc k) (omega arith)).1;
    flat = λ x c l. flat x c l;
    deeper = λ x c l. w.deeper x c (omega (arith, l));
  }
    where
      flat : (x c : ℕ) → 0 < c → (base.known (Named x c) ≡ false) × (base.protocol (Named x c) ≡ None)
      flat x zero l = absurd (omega (arith, l))
      flat x (suc c) l = (refl, refl)

  pub base_stands : Stands f (scope_of_procedure p) (at_procedure p) base
  base_stands = record {
    known = λ x. refl;
    sorts = λ x. refl;
    protocol = λ s. refl;
    reached = λ s st i. (session_bound (suc k) f e p.params ps p.sessions ss w.many_sessions w.fit s.0 st i).1;
    holder = λ s r. refl;
    one_role = proper.one_role;
    held = λ s r i. gone s r i (holder_of (owners_of p.sessions) s r) refl;
    of_source = of_source;
    deeper = λ x d l. base_deep.flat x d l;
  }
    where
      gone : (s r : NameId) → standing_of (standings_of p.sessions) s ≡ None → (o : Option NameId) → holder_of (owners_of p.sessions) s r ≡ o → o ≡ None
      gone s r i None j = refl
      gone s r i (Some x) j =
          let z = holder_bound (suc k) f e p.params ps p.sessions ss w.many_sessions proper.sessions w.fit s.0 r x j in
          let st : standing_of (standings_of p.sessions) s ≡ Some z.2.0 = z.2.1 in absurd cc

      of_source : (t : Ref) (q : NameId) → base.protocol t ≡ Some q → (s : NameId) × (t ≡ at s)
      of_source (Live n) q i = absurd cc
      of_source (Named y zero) q i = (named y, refl)
      of_source (Named y (suc c)) q i = absurd cc
