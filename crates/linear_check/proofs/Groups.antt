-- The channels of a file, group by group.
use Rattle.std.proofs.Common.{◌≡◌, ℕ, zero, suc, ◌<◌, Bool, true, false, nat_lt, length, List, [], ◌∷◌, ◌++◌, refl, ap, sym, subst, inl, inr, ◌⊎◌, arith}
use Rattle.std.specs.Prelude.{Option, None, Result, Ok, Err, IfOk, OnOk, Contains, slice_index_or, if◌then◌else◌}
use Rattle.std.proofs.lemmas.Bool.Decides.{nat_tests}
use Rattle.chor_base.specs.declared.names.NameId.{NameId}
use Rattle.chor_base.specs.declared.fault.Fault.{Fault}
use Rattle.chor_base.specs.Faults.{earlier, IsFirst}
use Rattle.chor_base.proofs.Members.{nowhere, at_head, at_tail, head_or_tail}
use Rattle.chor_base.proofs.Faults.{first_of_either, first_along}
use Rattle.chor_tree.specs.declared.file.File.{File}
use Rattle.chor_tree.specs.declared.file.Service.{Service}
use Rattle.chor_semantics.specs.Choreography.{Choreography}
use Rattle.chor_semantics.specs.Sources.{Procedure, procedures_of}
use Rattle.well_formed.specs.Linear.{ParameterSets}
use Rattle.linearity.specs.Linear.{IsGreatest}
use Rattle.linearity.specs.OrderFaults.{main_of, IsUnorderedIn, IsOrderFault, IsLinearFile}
use Rattle.linearity.proofs.Greatest.{orders_linear}
use Rattle.linearity.proofs.Judged.{no_fault_ordered}
use Rattle.linear_check.specs.declared.sets.Sets.{Sets}
use Rattle.linear_check.specs.Sets.{holds}
use Rattle.linear_check.specs.Tracks.{channel_at}
use Rattle.linear_check.specs.Greatest.{AreAllGreatest, IsUnorderedUnder, IsOrderFaultOf, HaveGreatest}
use Rattle.linear_check.specs.Several.{several}

-- ---- there is one greatest assignment

same_tests : (a b : Bool) → (a ≡ true → b ≡ true) → (b ≡ true → a ≡ true) → a ≡ b
same_tests true b h k = sym (h refl)
same_tests false true h k = k refl
same_tests false false h k = refl

one_greatest : (procs : List Procedure) (main : Choreography) (a : NameId) (s t : ParameterSets) → IsGreatest procs main a s → IsGreatest procs main a t → s ≡ t
one_greatest procs main a s t g h = λ k f i. same_tests (s f i) (t f i) (h.greatest s g.passed f i) (g.greatest t h.passed f i) k

channel_among : (cs : List NameId) (k : ℕ) → k < length cs → Contains cs (channel_at cs k)
channel_among [] k lt = absurd (omega arith)
channel_among (c ∷ cs) zero lt = at_head c cs c refl
channel_among (c ∷ cs) (suc k) lt = at_tail c cs (channel_at cs k) (channel_among cs k (omega arith))

channel_is : (cs : List NameId) (k : ℕ) (a d : NameId) → k < length cs → slice_index_or cs k a ≡ a → channel_at cs k ≡ a
channel_is [] k a d lt e = absurd (omega arith)
channel_is (c ∷ cs) zero a d lt e = e
channel_is (c ∷ cs) (suc k) a d lt e = channel_is cs k a d (omega arith) e

-- ---- one group

pub group_first : (f : File) (cs : List NameId) (sets : Sets) (o : Option Fault) → AreAllGreatest f cs sets → IsFirst (IsUnorderedUnder f cs sets) o → IsFirst (IsOrderFaultOf f cs) o
group_first f cs sets o greatest h = first_along (IsUnorderedUnder f cs sets) (IsOrderFaultOf f cs) o h
    (λ x u. (channel_at cs u.0, channel_among cs u.0 u.1, holds sets u.0, greatest u.0 u.1, u.2))
    (λ x u. back x u) where
      back : (x : Fault) → IsOrderFaultOf f cs x → IsUnorderedUnder f cs sets x
      back x (a, (k, lt, e), others, g, u) =
          let is : channel_at cs k ≡ a = channel_is cs k a a lt e in
          let mine : IsGreatest (procedures_of f) (main_of f) a (holds sets k) = subst (λ b. IsGreatest (procedures_of f) (main_of f) b (holds sets k)) is (greatest k lt) in
          let same : others ≡ holds sets k = one_greatest (procedures_of f) (main_of f) a others (holds sets k) g mine in
          (k, lt, subst (λ b. IsUnorderedIn f b (holds sets k) x) (sym is) (subst (λ s. IsUnorderedIn f a s x) same u))

-- ---- two groups

in_front : (xs ys : List NameId) (a : NameId) → Contains xs a → Contains (xs ++ ys) a
in_front [] ys a m = absurd (nowhere a m)
in_front (x ∷ xs) ys a m = elim (head_or_tail x xs a m) [ inl e ↦ at_head x (xs ++ ys) a e | inr k ↦ at_tail x (xs ++ ys) a (in_front xs ys a k) ]

behind : (xs ys : List NameId) (a : NameId) → Contains ys a → Contains (xs ++ ys) a
behind [] ys a m = m
behind (x ∷ xs) ys a m = at_tail x (xs ++ ys) a (behind xs ys a m)

either_part : (xs ys : List NameId) (a : NameId) → Contains (xs ++ ys) a → Contains xs a ⊎ Contains ys a
either_part [] ys a m = inr m
either_part (x ∷ xs) ys a m = elim (head_or_tail x (xs ++ ys) a m) [
  | inl e ↦ inl (at_head x xs a e)
  | inr k ↦ elim (either_part xs ys a k) [ inl j ↦ inl (at_tail x xs a j) | inr j ↦ inr j ]
]

pub groups_first : (f : File) (cs xs ys : List NameId) (o p : Option Fault) → xs ++ ys ≡ cs → IsFirst (IsOrderFaultOf f xs) o → IsFirst (IsOrderFaultOf f ys) p → IsFirst (IsOrderFaultOf f cs) (earlier o p)
groups_first f cs xs ys o p e h k =
    subst (λ l. IsFirst (IsOrderFaultOf f l) (earlier o p)) e
    (first_of_either (IsOrderFaultOf f xs) (IsOrderFaultOf f ys) (IsOrderFaultOf f (xs ++ ys)) o p h k
    (λ x u. (u.0, in_front xs ys u.0 u.1, u.2, u.3, u.4))
    (λ x u. (u.0, behind xs ys u.0 u.1, u.2, u.3, u.4))
    (λ x u. elim (either_part xs ys u.0 u.1) [ inl m ↦ inl (u.0, m, u.2, u.3, u.4) | inr m ↦ inr (u.0, m, u.2, u.3, u.4) ]))

-- ---- all of a file

above_one : (n : ℕ) → nat_lt 1 n ≡ true → 1 < n
above_one n h = grind (arith, nat_tests)

not_above : (n : ℕ) → nat_lt 1 n ≡ false → 1 < n → ⊥
not_above n h k = absurd (grind (arith, nat_tests))

pub record IsChannelOfSeveral (ss : List Service) (a : NameId) : Type 0 where
  pub service : Service
  pub declared : Contains ss service
  pub several : 1 < length service.active
  pub is_name : service.name.name ≡ a

service_among : (ss : List Service) (s : Service) → Contains ss s → 1 < length s.active → Contains (several ss) s.name.name
service_among [] s m h = absurd (nowhere s m)
service_among (t ∷ ts) s m h = elim (head_or_tail t ts s m) [ inl e ↦ here e | inr k ↦ there (nat_lt 1 (length t.active)) (service_among ts s k h) ]
  where
    here : t ≡ s → Contains (if nat_lt 1 (length t.active) then t.name.name ∷ several ts else several ts) s.name.name
    here e = go (nat_lt 1 (length t.active)) refl where
      go : (b : Bool) → nat_lt 1 (length t.active) ≡ b → Contains (if b then t.name.name ∷ several ts else several ts) s.name.name
      go true l = at_head t.name.name (several ts) s.name.name (ap (λ (r : Service). r.name.name) e)
      go false l = absurd (not_above (length t.active) l (subst (λ (r : Service). 1 < length r.active) (sym e) h))

    there : (b : Bool) → Contains (several ts) s.name.name → Contains (if b then t.name.name ∷ several ts else several ts) s.name.name
    there true k = at_tail t.name.name (several ts) s.name.name k
    there false k = k

channel_declared : (ss : List Service) (a : NameId) → Contains (several ss) a → IsChannelOfSeveral ss a
channel_declared [] a m = absurd (nowhere a m)
channel_declared (t ∷ ts) a m = go (nat_lt 1 (length t.active)) refl m (λ k. channel_declared ts a k)
  where
    further : IsChannelOfSeveral ts a → IsChannelOfSeveral (t ∷ ts) a
    further r = record { service = r.service; declared = at_tail t ts r.service r.declared; several = r.several; is_name = r.is_name }

    go : (b : Bool) → nat_lt 1 (length t.active) ≡ b → Contains (if b then t.name.name ∷ several ts else several ts) a → (Contains (several ts) a → IsChannelOfSeveral ts a) → IsChannelOfSeveral (t ∷ ts) a
    go true l k rest =
        elim (head_or_tail t.name.name (several ts) a k) [ inl e ↦ record { service = t; declared = at_head t ts t refl; several = above_one (length t.active) l; is_name = e } | inr j ↦ further (rest j) ]
    go false l k rest = further (rest k)

pub file_first : (f : File) (cs : List NameId) (o : Option Fault) → cs ≡ several f.services → IsFirst (IsOrderFaultOf f cs) o → IsFirst (IsOrderFault f) o
file_first f cs o is h = first_along (IsOrderFaultOf f cs) (IsOrderFault f) o h there back where
  there : (x : Fault) → IsOrderFaultOf f cs x → IsOrderFault f x
  there x (a, among, sets, g, u) =
      let r = channel_declared f.services a (subst (λ l. Contains l a) is among) in
      record {
        service = r.service;
        declared = r.declared;
        several = r.several;
        sets = sets;
        greatest = subst (λ b. IsGreatest (procedures_of f) (main_of f) b sets) (sym r.is_name) g;
        unordered = subst (λ b. IsUnorderedIn f b sets x) (sym r.is_name) u;
      }

  back : (x : Fault) → IsOrderFault f x → IsOrderFaultOf f cs x
  back x u = (u.service.name.name, subst (λ l. Contains l u.service.name.name) (sym is) (service_among f.services u.service u.declared u.several), u.sets, u.greatest, u.unordered)

-- ---- greatest sets

pub group_greatest : (f : File) (cs : List NameId) (sets : Sets) → AreAllGreatest f cs sets → HaveGreatest f cs
group_greatest f cs sets greatest a (k, lt, e) = (holds sets k, subst (λ b. IsGreatest (procedures_of f) (main_of f) b (holds sets k)) (channel_is cs k a a lt e) (greatest k lt))

pub groups_greatest : (f : File) (cs xs ys : List NameId) → xs ++ ys ≡ cs → HaveGreatest f xs → HaveGreatest f ys → HaveGreatest f cs
groups_greatest f cs xs ys e h k a m = elim (either_part xs ys a (subst (λ l. Contains l a) (sym e) m)) [ inl i ↦ h a i | inr i ↦ k a i ]

pub file_linear : (f : File) (cs : List NameId) → cs ≡ several f.services → HaveGreatest f cs → ((x : Fault) → IsOrderFault f x → ⊥) → IsLinearFile f
file_linear f cs is have none s declared more =
    let a = s.name.name in
    let k = have a (subst (λ l. Contains l a) (sym is) (service_among f.services s declared more)) in
    orders_linear (procedures_of f) (main_of f) a k.0 k.1
    (no_fault_ordered f a k.0 (λ x u. none x (record { service = s; declared = declared; several = more; sets = k.0; greatest = k.1; unordered = u })))

-- the answer on the channels of several roles is that on the file
pub file_judged : {E : Type 0} (f : File) (cs : List NameId) (r : Result (Option Fault) E) → cs ≡ several f.services → IfOk r (IsFirst (IsOrderFaultOf f cs)) → OnOk r (HaveGreatest f cs) → IfOk r (λ o. o ≡ None → IsLinearFile f)
file_judged f cs (Ok o) is h have = λ none. file_linear f cs is have (subst (λ p. IsFirst (IsOrderFault f) p) none (file_first f cs o is h))
file_judged f cs (Err e) is h have = tt

pub on_ok_always : {A E : Type 0} (r : Result A E) (P : Type 0) → P → OnOk r P
on_ok_always (Ok a) P p = p
on_ok_always (Err e) P p = tt
