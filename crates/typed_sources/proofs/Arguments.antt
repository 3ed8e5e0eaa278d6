-- The parameters of a procedure, and what a call passes for them.
use Rattle.std.proofs.Common.{◌≡◌, ℕ, suc, ◌<◌, List, [], ◌∷◌, ◌++◌, map, length, refl, sym, ap, ◌∙◌, subst, Some, Bool, true, false, ◌==◌, ◌&&◌, ◌||◌, inl, inr, ◌⊎◌, arith, if◌then◌else◌}
use Rattle.std.specs.Prelude.{Contains}
use Rattle.std.specs.List.{flat_map}
use Rattle.std.proofs.lemmas.Bool.{eqb-true, and_parts}
use Rattle.chor_base.specs.declared.names.NameId.{NameId}
use Rattle.chor_base.specs.declared.value.Sort.{Sort}
use Rattle.chor_tree.specs.declared.file.File.{File}
use Rattle.chor_tree.specs.declared.file.Named.{Named as Written}
use Rattle.chor_tree.specs.declared.file.ProcParam.{ProcParam}
use Rattle.chor_tree.specs.declared.file.SessionParam.{SessionParam}
use Rattle.chor_tree.specs.Names.{is_among}
use Rattle.chor_semantics.specs.Choreography.{Ref, ref_eq, among}
use Rattle.chor_semantics.specs.Steps.{bound_all}
use Rattle.well_formed.proofs.References.{self_ref, same_ref, true_eq, same_name, differ_ref, turned_ref, or_rights}
use Rattle.delegation.specs.declared.held.Held.{Held}
use Rattle.delegation.specs.Owners.{held as entry, holder_of}
use Rattle.delegation.specs.Checks.{all_differ}
use Rattle.typing_rules.specs.declared.standings.Standing.{Standing}
use Rattle.typing_rules.specs.Environment.{standing_of, declared_sort, declared_sorts, stands}
use Rattle.typed_sources.specs.Context.{Context}
use Rattle.typed_sources.specs.Typing.{AllKnown}
use Rattle.typed_sources.specs.Stands.{states_in, Reached, protocol_at}
use Rattle.typed_sources.proofs.Checked.{some_is}
use Rattle.typed_sources.proofs.Opened.{not_is}
use Rattle.typed_sources.specs.Calls.{argument, AreSet, AreAsDeclared, AllDiffer}

abbrev pub named : ℕ → NameId
named x = record { 0 = x }

not_both : (b : Bool) → b ≡ true → b ≡ false → ⊥
not_both b i j = cc

cases : (a b : Bool) → (a || b) ≡ true → (a ≡ true) ⊎ ((a ≡ false) × (b ≡ true))
cases true b h = inl refl
cases false b h = inr (refl, h)

-- ---- names and what stands for them, in order

-- what stands for a name is among what stands for all
pub among_bound : (dep : ℕ) (xs : List NameId) (rs : List Ref) → length rs ≡ length xs → (y : ℕ) → is_among xs (named y) ≡ true → among (bound_all dep xs rs y) rs ≡ true
among_bound dep [] rs l y h = absurd cc
among_bound dep (x ∷ xs) [] l y h = absurd (omega (arith, l))
among_bound dep (x ∷ xs) (r ∷ rs) l y h = go (x.0 == y) h (among_bound dep xs rs (omega (arith, l)) y)
  where
    go : (b : Bool) → (b || is_among xs (named y)) ≡ true → (is_among xs (named y) ≡ true → among (bound_all dep xs rs y) rs ≡ true) → (ref_eq (if b then r else bound_all dep xs rs y) r || among (if b then r else bound_all dep xs rs y) rs) ≡ true
    go true i ih = ap (λ b. b || among r rs) (self_ref r)
    go false i ih = or_rights _ _ (ih i)

pub known_bound : (dep : ℕ) (m : Ref → Bool) (xs : List NameId) (rs : List Ref) → length rs ≡ length xs → AllKnown m rs → (y : ℕ) → is_among xs (named y) ≡ true → m (bound_all dep xs rs y) ≡ true
known_bound dep m [] rs l a y h = absurd cc
known_bound dep m (x ∷ xs) [] l a y h = absurd (omega (arith, l))
known_bound dep m (x ∷ xs) (r ∷ rs) l a y h = go (x.0 == y) h (known_bound dep m xs rs (omega (arith, l)) a.1 y)
  where
    go : (b : Bool) → (b || is_among xs (named y)) ≡ true → (is_among xs (named y) ≡ true → m (bound_all dep xs rs y) ≡ true) → m (if b then r else bound_all dep xs rs y) ≡ true
    go true i ih = a.0
    go false i ih = ih i

-- different names stand for different things
pub bound_apart : (dep : ℕ) (xs : List NameId) (rs : List Ref) → length rs ≡ length xs → AllDiffer rs → (y z : ℕ) → is_among xs (named y) ≡ true → is_among xs (named z) ≡ true → (y == z) ≡ false → ref_eq (bound_all dep xs rs y) (bound_all dep xs rs z) ≡ false
bound_apart dep [] rs l a y z h i o = absurd cc
bound_apart dep (x ∷ xs) [] l a y z h i o = absurd (omega (arith, l))
bound_apart dep (x ∷ xs) (r ∷ rs) l a y z h i o = go (x.0 == y) (x.0 == z) refl refl h i (bound_apart dep xs rs (omega (arith, l)) a.1 y z)
  where
    head_off : (u : ℕ) → is_among xs (named u) ≡ true → ref_eq r (bound_all dep xs rs u) ≡ false
    head_off u m = differ_ref r (bound_all dep xs rs u) (λ e. not_both (among r rs) (subst (λ w. among w rs ≡ true) (sym e) (among_bound dep xs rs (omega (arith, l)) u m)) a.0)

    go : (b c : Bool) → (x.0 == y) ≡ b → (x.0 == z) ≡ c → (b || is_among xs (named y)) ≡ true → (c || is_among xs (named z)) ≡ true
        → (is_among xs (named y) ≡ true → is_among xs (named z) ≡ true → (y == z) ≡ false → ref_eq (bound_all dep xs rs y) (bound_all dep xs rs z) ≡ false)
        → ref_eq (if b then r else bound_all dep xs rs y) (if c then r else bound_all dep xs rs z) ≡ false
    go true true j k m n ih = absurd (not_both (y == z) (ap (λ w. w == z) (sym (eqb-true x.0 y j) ∙ eqb-true x.0 z k) ∙ true_eq z) o)
    go true false j k m n ih = head_off z n
    go false true j k m n ih = turned_ref r (bound_all dep xs rs y) (head_off y m)
    go false false j k m n ih = ih m n o

-- ---- variables

declared_there : (vs : List (Written × Sort)) (x : NameId) (s : Sort) → declared_sort vs x ≡ Some s → (v : Written × Sort) × Contains vs v × (v.0.name ≡ x) × (v.1 ≡ s)
declared_there [] x s h = absurd cc
declared_there (v ∷ vs) x s h = go (v.0.name.0 == x.0) refl h (declared_there vs x s)
  where
    go : (b : Bool) → (v.0.name.0 == x.0) ≡ b → (if b then Some v.1 else declared_sort vs x) ≡ Some s → (declared_sort vs x ≡ Some s → (w : Written × Sort) × Contains vs w × (w.0.name ≡ x) × (w.1 ≡ s)) → (w : Written × Sort) × Contains (v ∷ vs) w × (w.0.name ≡ x) × (w.1 ≡ s)
    go true i j ih = (v, (0, omega arith, refl), same_name v.0.name x i, some_is _ _ j)
    go false i j ih = let w = ih j in (w.0, (suc w.1.0, (let l : w.1.0 < length vs = w.1.1 in omega (arith, l)), w.1.2), w.2, w.3)

pub sorts_bound : (dep : ℕ) (e : Context) (qs : List ProcParam) (ps : List Ref) → length ps ≡ length qs → AreSet e qs ps → (y : ℕ) (x : NameId) (s : Sort) → declared_sorts qs (named y) x ≡ Some s → e.sorts (bound_all dep (map (λ q. q.name.name) qs) ps y) x ≡ Some s
sorts_bound dep e [] ps l a y x s h = absurd cc
sorts_bound dep e (q ∷ qs) [] l a y x s h = absurd (omega (arith, l))
sorts_bound dep e (q ∷ qs) (p ∷ ps) l a y x s h = go (q.name.name.0 == y) h (sorts_bound dep e qs ps (omega (arith, l)) a.1 y x s)
  where
    go : (b : Bool) → (if b then declared_sort q.vars x else declared_sorts qs (named y) x) ≡ Some s → (declared_sorts qs (named y) x ≡ Some s → e.sorts (bound_all dep (map (λ z. z.name.name) qs) ps y) x ≡ Some s)
        → e.sorts (if b then p else bound_all dep (map (λ z. z.name.name) qs) ps y) x ≡ Some s
    go true i ih = let v = declared_there q.vars x s i in ap (e.sorts p) (sym v.2) ∙ a.0 v.0 v.1 ∙ ap Some v.3
    go false i ih = ih i

-- what stands for a parameter
pub argument_bound : (dep : ℕ) (qs : List ProcParam) (ps : List Ref) (x : NameId) (r : Ref) → argument qs ps x ≡ Some r → (r ≡ bound_all dep (map (λ q. q.name.name) qs) ps x.0) × (is_among (map (λ q. q.name.name) qs) x ≡ true)
argument_bound dep [] ps x r h = absurd cc
argument_bound dep (q ∷ qs) [] x r h = absurd cc
argument_bound dep (q ∷ qs) (p ∷ ps) x r h = go (q.name.name.0 == x.0) h (argument_bound dep qs ps x r)
  where
    go : (b : Bool) → (if b then Some p else argument qs ps x) ≡ Some r → (argument qs ps x ≡ Some r → (r ≡ bound_all dep (map (λ z. z.name.name) qs) ps x.0) × (is_among (map (λ z. z.name.name) qs) x ≡ true))
        → (r ≡ (if b then p else bound_all dep (map (λ z. z.name.name) qs) ps x.0)) × ((b || is_among (map (λ z. z.name.name) qs) x) ≡ true)
    go true i ih = (sym (some_is _ _ i), refl)
    go false i ih = ih i

-- ---- sessions

abbrev pub standings_of : List SessionParam → List Standing
standings_of qs = map (λ k. stands k.name.name k.protocol.name k.state.name) qs

abbrev pub entries_of : SessionParam → List Held
entries_of k = map (λ h. entry k.name.name h.0.name h.1.name) k.holders

abbrev pub owners_of : List SessionParam → List Held
owners_of qs = flat_map entries_of qs

pub session_bound : (dep : ℕ) (f : File) (e : Context) (qs : List ProcParam) (ps : List Ref) (rs : List SessionParam) (ss : List Ref) → length ss ≡ length rs → AreAsDeclared f e qs ps rs ss → (y : ℕ) (st : Standing) → standing_of (standings_of rs) (named y) ≡ Some st
    → (e.protocol (bound_all dep (map (λ q. q.name.name) rs) ss y) ≡ Some st.protocol) × Reached (states_in f st.protocol) (e.done (bound_all dep (map (λ q. q.name.name) rs) ss y)) st.state
session_bound dep f e qs ps [] ss l a y st h = absurd cc
session_bound dep f e qs ps (r ∷ rs) [] l a y st h = absurd (omega (arith, l))
session_bound dep f e qs ps (r ∷ rs) (s ∷ ss) l a y st h = go (r.name.name.0 == y) h (session_bound dep f e qs ps rs ss (omega (arith, l)) a.1 y st)
  where
    go : (b : Bool) → (if b then Some (stands r.name.name r.protocol.name r.state.name) else standing_of (standings_of rs) (named y)) ≡ Some st
        → (standing_of (standings_of rs) (named y) ≡ Some st → (e.protocol (bound_all dep (map (λ q. q.name.name) rs) ss y) ≡ Some st.protocol) × Reached (states_in f st.protocol) (e.done (bound_all dep (map (λ q. q.name.name) rs) ss y)) st.state)
        → (e.protocol (if b then s else bound_all dep (map (λ q. q.name.name) rs) ss y) ≡ Some st.protocol) × Reached (states_in f st.protocol) (e.done (if b then s else bound_all dep (map (λ q. q.name.name) rs) ss y)) st.state
    go true i ih =
        let same : stands r.name.name r.protocol.name r.state.name ≡ st = some_is _ _ i in
        subst (λ z. (e.protocol s ≡ Some z.protocol) × Reached (states_in f z.protocol) (e.done s) z.state) same (a.0.protocol, a.0.reached)
    go false i ih = ih i

pub standing_among : (rs : List SessionParam) (y : ℕ) (st : Standing) → standing_of (standings_of rs) (named y) ≡ Some st → is_among (map (λ q. q.name.name) rs) (named y) ≡ true
standing_among [] y st h = absurd cc
standing_among (r ∷ rs) y st h = go (r.name.name.0 == y) h (standing_among rs y st)
  where
    go : (b : Bool) → (if b then Some (stands r.name.name r.protocol.name r.state.name) else standing_of (standings_of rs) (named y)) ≡ Some st → (standing_of (standings_of rs) (named y) ≡ Some st → is_among (map (λ q. q.name.name) rs) (named y) ≡ true) → (b || is_among (map (λ q. q.name.name) rs) (named y)) ≡ true
    go true i ih = refl
    go false i ih = ih i

-- an entry of a session's parameter
holder_in_one : (n : NameId) (hs : List (Written × Written)) (rest : List Held) (y : NameId) (r q : NameId) → (n.0 == y.0) ≡ true → holder_of (map (λ h. entry n h.0.name h.1.name) hs ++ rest) y r ≡ Some q
    → ((h : Written × Written) × Contains hs h × (h.0.name ≡ r) × (h.1.name ≡ q)) ⊎ (holder_of rest y r ≡ Some q)
holder_in_one n [] rest y r q on h = inr h
holder_in_one n (x ∷ xs) rest y r q on h = go (x.0.name.0 == r.0) refl (subst (λ b. (if b && (x.0.name.0 == r.0) then Some x.1.name else holder_of (map (λ z. entry n z.0.name z.1.name) xs ++ rest) y r) ≡ Some q) on h) (holder_in_one n xs rest y r q on)
  where
    go : (b : Bool) → (x.0.name.0 == r.0) ≡ b → (if b then Some x.1.name else holder_of (map (λ z. entry n z.0.name z.1.name) xs ++ rest) y r) ≡ Some q
        → (holder_of (map (λ z. entry n z.0.name z.1.name) xs ++ rest) y r ≡ Some q → ((h : Written × Written) × Contains xs h × (h.0.name ≡ r) × (h.1.name ≡ q)) ⊎ (holder_of rest y r ≡ Some q))
        → ((h : Written × Written) × Contains (x ∷ xs) h × (h.0.name ≡ r) × (h.1.name ≡ q)) ⊎ (holder_of rest y r ≡ Some q)
    go true i j ih = inl (x, (0, omega arith, refl), same_name x.0.name r i, some_is _ _ j)
    go false i j ih = elim (ih j) [
      | inl w ↦ inl (w.0, (suc w.1.0, (let l : w.1.0 < length xs = w.1.1 in omega (arith, l)), w.1.2), w.2, w.3)
      | inr w ↦ inr w
    ]

pub holder_elsewhere : (n : NameId) (hs : List (Written × Written)) (rest : List Held) (y : NameId) (r : NameId) → (n.0 == y.0) ≡ false → holder_of (map (λ h. entry n h.0.name h.1.name) hs ++ rest) y r ≡ holder_of rest y r
holder_elsewhere n [] rest y r off = refl
holder_elsewhere n (x ∷ xs) rest y r off =
    ap (λ b. if b && (x.0.name.0 == r.0) then Some x.1.name else holder_of (map (λ z. entry n z.0.name z.1.name) xs ++ rest) y r) off ∙ holder_elsewhere n xs rest y r off

-- no entry is for a session that isn't a parameter
pub no_owner : (rs : List SessionParam) (y r q : NameId) → is_among (map (λ k. k.name.name) rs) y ≡ false → holder_of (owners_of rs) y r ≡ Some q → ⊥
no_owner [] y r q off h = cc
no_owner (x ∷ xs) y r q off h = go (x.name.name.0 == y.0) refl off (no_owner xs y r q)
  where
    go : (b : Bool) → (x.name.name.0 == y.0) ≡ b → (b || is_among (map (λ k. k.name.name) xs) y) ≡ false → (is_among (map (λ k. k.name.name) xs) y ≡ false → holder_of (owners_of xs) y r ≡ Some q → ⊥) → ⊥
    go true i j ih = cc
    go false i j ih = ih j (sym (holder_elsewhere x.name.name x.holders (owners_of xs) y r i) ∙ h)

-- who holds a role is the argument of the listed parameter
pub holder_bound : (dep : ℕ) (f : File) (e : Context) (qs : List ProcParam) (ps : List Ref) (rs : List SessionParam) (ss : List Ref) → length ss ≡ length rs → all_differ (map (λ k. k.name.name) rs) ≡ true → AreAsDeclared f e qs ps rs ss
    → (y : ℕ) (r q : NameId) → holder_of (owners_of rs) (named y) r ≡ Some q
    → (e.holder (bound_all dep (map (λ k. k.name.name) rs) ss y) r ≡ Some (bound_all dep (map (λ k. k.name.name) qs) ps q.0)) × (is_among (map (λ k. k.name.name) qs) q ≡ true) × ((st : Standing) × (standing_of (standings_of rs) (named y) ≡ Some st))
holder_bound dep f e qs ps [] ss l od a y r q h = absurd cc
holder_bound dep f e qs ps (x ∷ xs) [] l od a y r q h = absurd (omega (arith, l))
holder_bound dep f e qs ps (x ∷ xs) (s ∷ ss) l od a y r q h = go (x.name.name.0 == y) refl (holder_bound dep f e qs ps xs ss (omega (arith, l)) (and_parts _ _ od).1 a.1 y r q)
  where
    go : (b : Bool) → (x.name.name.0 == y) ≡ b
        → (holder_of (owners_of xs) (named y) r ≡ Some q → (e.holder (bound_all dep (map (λ k. k.name.name) xs) ss y) r ≡ Some (bound_all dep (map (λ k. k.name.name) qs) ps q.0)) × (is_among (map (λ k. k.name.name) qs) q ≡ true) × ((st : Standing) × (standing_of (standings_of xs) (named y) ≡ Some st)))
        → (e.holder (if b then s else bound_all dep (map (λ k. k.name.name) xs) ss y) r ≡ Some (bound_all dep (map (λ k. k.name.name) qs) ps q.0)) × (is_among (map (λ k. k.name.name) qs) q ≡ true)
        × ((st : Standing) × ((if b then Some (stands x.name.name x.protocol.name x.state.name) else standing_of (standings_of xs) (named y)) ≡ Some st))
    go false i ih = ih (sym (holder_elsewhere x.name.name x.holders (owners_of xs) (named y) r i) ∙ h)
    go true i ih = elim (holder_in_one x.name.name x.holders (owners_of xs) (named y) r q i h) [
      | inl w ↦ (let z = a.0.holders w.0 w.1 in let k = argument_bound dep qs ps w.0.1.name z.0 z.1 in
          (ap (e.holder s) (sym w.2) ∙ z.2 ∙ ap Some (k.0 ∙ ap (λ u. bound_all dep (map (λ v. v.name.name) qs) ps u.0) w.3), ap (is_among (map (λ v. v.name.name) qs)) (sym w.3) ∙ k.1, (stands x.name.name x.protocol.name x.state.name, refl)))
      | inr w ↦ absurd (no_owner xs (named y) r q (subst (λ u. is_among (map (λ k. k.name.name) xs) u ≡ false) (same_name x.name.name (named y) i) (not_is _ (and_parts _ _ od).0)) w)
    ]

-- a session that is passed is that of a parameter
pub session_of : (dep : ℕ) (f : File) (e : Context) (qs : List ProcParam) (ps : List Ref) (rs : List SessionParam) (ss : List Ref) → length ss ≡ length rs → all_differ (map (λ k. k.name.name) rs) ≡ true → AreAsDeclared f e qs ps rs ss
    → (t : Ref) (p : NameId) → e.protocol t ≡ Some p → among t ss ≡ true
    → (y : ℕ) × (bound_all dep (map (λ k. k.name.name) rs) ss y ≡ t) × (protocol_at (standing_of (standings_of rs) (named y)) ≡ Some p) × (is_among (map (λ k. k.name.name) rs) (named y) ≡ true)
session_of dep f e qs ps rs [] l od a t p i h = absurd cc
session_of dep f e qs ps [] (s ∷ ss) l od a t p i h = absurd (omega (arith, l))
session_of dep f e qs ps (x ∷ xs) (s ∷ ss) l od a t p i h = go (ref_eq t s) refl h (session_of dep f e qs ps xs ss (omega (arith, l)) (and_parts _ _ od).1 a.1 t p i)
  where
    go : (b : Bool) → ref_eq t s ≡ b → (b || among t ss) ≡ true
        → (among t ss ≡ true → (y : ℕ) × (bound_all dep (map (λ k. k.name.name) xs) ss y ≡ t) × (protocol_at (standing_of (standings_of xs) (named y)) ≡ Some p) × (is_among (map (λ k. k.name.name) xs) (named y) ≡ true))
        → (y : ℕ) × ((if x.name.name.0 == y then s else bound_all dep (map (λ k. k.name.name) xs) ss y) ≡ t)
        × (protocol_at (if x.name.name.0 == y then Some (stands x.name.name x.protocol.name x.state.name) else standing_of (standings_of xs) (named y)) ≡ Some p) × (((x.name.name.0 == y) || is_among (map (λ k. k.name.name) xs) (named y)) ≡ true)
    go true j k ih =
        let same = same_ref t s j in
        let on = true_eq x.name.name.0 in (
          x.name.name.0,
          ap (λ b. if b then s else bound_all dep (map (λ z. z.name.name) xs) ss x.name.name.0) on ∙ sym same,
          ap (λ (b : Bool). protocol_at (if b then Some (stands x.name.name x.protocol.name x.state.name) else standing_of (standings_of xs) (named x.name.name.0))) on ∙ sym a.0.protocol ∙ ap e.protocol (sym same) ∙ i,
          ap (λ b. b || is_among (map (λ z. z.name.name) xs) (named x.name.name.0)) on,
        )
    go false j k ih =
        let w = ih k in
        let off : (x.name.name.0 == w.0) ≡ false = apart w.0 w.3 in (
          w.0,
          ap (λ b. if b then s else bound_all dep (map (λ z. z.name.name) xs) ss w.0) off ∙ w.1,
          ap (λ (b : Bool). protocol_at (if b then Some (stands x.name.name x.protocol.name x.state.name) else standing_of (standings_of xs) (named w.0))) off ∙ w.2,
          or_rights _ _ w.3,
        )
      where
        apart : (y : ℕ) → is_among (map (λ z. z.name.name) xs) (named y) ≡ true → (x.name.name.0 == y) ≡ false
        apart y m = step (x.name.name.0 == y) refl
          where
            step : (b : Bool) → (x.name.name.0 == y) ≡ b → (x.name.name.0 == y) ≡ false
            step false n = n
            step true n = absurd (not_both (is_among (map (λ z. z.name.name) xs) (named y)) m (subst (λ u. is_among (map (λ z. z.name.name) xs) u ≡ false) (same_name x.name.name (named y) n) (not_is _ (and_parts _ _ od).0)))
