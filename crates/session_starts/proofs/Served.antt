-- The processes of service roles.
use Rattle.std.proofs.Common.{◌≡◌, ℕ, suc, ◌+◌, ◌<◌, ◌≤◌, ◌==◌, ◌&&◌, ◌||◌, Bool, true, false, cond, List, [], ◌∷◌, ◌++◌, length, map, drop, get_or, refl, sym, ap, ◌∙◌, subst, Some, arith, append_assoc}
use Rattle.std.proofs.Math.Seq.{drop-cons}
use Rattle.std.proofs.lemmas.List.{append-nil, drop_all, map-append}
use Rattle.std.specs.Prelude.{All, Contains}
use Rattle.std.specs.FinMap as fin
use Rattle.std.proofs.lemmas.Bool.{and_parts}
use Rattle.std.proofs.lemmas.Bool.Decides.{nat_tests}
use Rattle.std.proofs.lemmas.List.Elements.{All-head, All-tail, All-cons, All-nil}
use Rattle.chor_base.specs.declared.names.NameId.{NameId}
use Rattle.chor_base.proofs.Members.{at_head, at_tail}
use Rattle.endpoint_code.specs.declared.code.CodeId.{CodeId}
use Rattle.endpoint_code.specs.declared.endpoints.Channel.{Channel}
use Rattle.endpoint_code.specs.declared.endpoints.ServiceCode.{ServiceCode}
use Rattle.endpoint_code.specs.declared.endpoints.Endpoints.{Endpoints}
use Rattle.endpoint_code.specs.Network.{Machine, service_of, served, served_parts, channel_of}
use Rattle.endpoint_code.specs.Faults.{IsFaultless, IsScoped, has_service}
use Rattle.endpoint_code.specs.InBodies.{of_service}
use Rattle.endpoint_machine.specs.Bound.{IsBound, AreBound}
use Rattle.endpoint_machine.specs.Views.{MachineView}
use Rattle.endpoint_machine.proofs.Scopes.{bound_put}
use Rattle.session_starts.specs.Machines.{standing_of, number_of}
use Rattle.session_starts.proofs.Places.{name_same}

eq_sym : (a b : ℕ) → (a == b) ≡ (b == a)
eq_sym a b = grind (arith, nat_tests)

abbrev is_for : ServiceCode → NameId → NameId → Bool
is_for s c r = (s.channel.0 == c.0) && (s.role.0 == r.0)

-- ---- what the new processes know

service_scoped : (e : Endpoints) (ss : List ServiceCode) (c r : NameId) → All (λ s. IsScoped e s.body (s.channel ∷ [])) ss → has_service c r ss ≡ true → IsScoped e (service_of ss c r) (c ∷ [])
service_scoped e [] c r all h = absurd cc
service_scoped e (s ∷ ss) c r all h = go (is_for s c r) refl (λ k. service_scoped e ss c r (All-tail (λ (x : ServiceCode). IsScoped e x.body (x.channel ∷ [])) s ss all) k)
  where
    turned : has_service c r (s ∷ ss) ≡ (is_for s c r || has_service c r ss)
    turned =
        ap (λ (b : Bool). (b && (r.0 == s.role.0)) || has_service c r ss) (eq_sym c.0 s.channel.0)
        ∙ ap (λ (b : Bool). ((s.channel.0 == c.0) && b) || has_service c r ss) (eq_sym r.0 s.role.0)

    go : (b : Bool) → is_for s c r ≡ b → (has_service c r ss ≡ true → IsScoped e (service_of ss c r) (c ∷ [])) → IsScoped e (service_of (s ∷ ss) c r) (c ∷ [])
    go true t more =
        let same : s.channel ≡ c = name_same s.channel c (and_parts (s.channel.0 == c.0) (s.role.0 == r.0) t).0 in
        subst (λ (i : CodeId). IsScoped e i (c ∷ [])) (sym (ap (λ (b : Bool). cond b s.body (service_of ss c r)) t))
        (subst (λ (x : NameId). IsScoped e s.body (x ∷ [])) same (All-head (λ (x : ServiceCode). IsScoped e x.body (x.channel ∷ [])) s ss all))
    go false t more =
        subst (λ (i : CodeId). IsScoped e i (c ∷ [])) (sym (ap (λ (b : Bool). cond b s.body (service_of ss c r)) t))
        (more (sym (turned ∙ ap (λ (b : Bool). b || has_service c r ss) t) ∙ h))

-- what holds of each channel holds of the one found
pub channel_has : (P : Channel → Type 0) (ks : List Channel) (c : NameId) (k : Channel) → All P ks → channel_of ks c ≡ Some k → P k
channel_has P [] c k all h = absurd cc
channel_has P (x ∷ ks) c k all h = go (x.name.0 == c.0) refl (λ i. channel_has P ks c k (All-tail P x ks all) i)
  where
    go : (b : Bool) → (x.name.0 == c.0) ≡ b → (channel_of ks c ≡ Some k → P k) → P k
    go true e more =
        let a : Some x ≡ Some k = sym (ap (λ (b : Bool). cond b (Some x) (channel_of ks c)) e) ∙ h in
        let same : x ≡ k = cc in
        subst P same (All-head P x ks all)
    go false e more = more (sym (ap (λ (b : Bool). cond b (Some x) (channel_of ks c)) e) ∙ h)

-- each service role of a channel has a service
pub provided : (e : Endpoints) (c : NameId) (k : Channel) → IsFaultless e → channel_of e.channels c ≡ Some k → All (λ r. has_service k.name r e.services ≡ true) k.serve
provided e c k faultless found = channel_has (λ (x : Channel). All (λ r. has_service x.name r e.services ≡ true) x.serve) e.channels c k faultless.names.provided found

-- the code of a service is that of one in the list
service_there : (ss : List ServiceCode) (c r : NameId) → has_service c r ss ≡ true → (s : ServiceCode) × Contains ss s × (s.body ≡ service_of ss c r)
service_there [] c r h = absurd cc
service_there (s ∷ ss) c r h = go ((s.channel.0 == c.0) && (s.role.0 == r.0)) ((c.0 == s.channel.0) && (r.0 == s.role.0)) (turned s) h (service_there ss c r)
  where
    turned : (s : ServiceCode) → ((c.0 == s.channel.0) && (r.0 == s.role.0)) ≡ ((s.channel.0 == c.0) && (s.role.0 == r.0))
    turned s = (λ i. eq_sym c.0 s.channel.0 i && eq_sym r.0 s.role.0 i)

    go : (t u : Bool) → u ≡ t → (u || has_service c r ss) ≡ true → (has_service c r ss ≡ true → (s : ServiceCode) × Contains ss s × (s.body ≡ service_of ss c r))
        → (x : ServiceCode) × Contains (s ∷ ss) x × (x.body ≡ cond t s.body (service_of ss c r))
    go true u e h before = (s, at_head s ss s refl, refl)
    go false true e h before = absurd cc
    go false false e h before = let b = before h in (b.0, at_tail s ss b.0 b.1, b.2)

none_bound : AreBound fin.empty []
none_bound k h = absurd cc

-- the new processes know their session
pub served_bound : (e : Endpoints) (c : NameId) (s : ℕ) (rs : List NameId) → IsFaultless e → All (λ r. has_service c r e.services ≡ true) rs → All (IsBound e) (served e c s rs)
served_bound e c s [] faultless all = All-nil (IsBound e)
served_bound e c s (r ∷ rs) faultless all =
    All-cons (IsBound e) (record { at = service_of e.services c r; vars = fin.empty; sessions = fin.insert fin.empty c.0 (s, r) }) (served e c s rs)
    (let here = service_there e.services c r (All-head (λ (x : NameId). has_service c x e.services ≡ true) r rs all) in
    record {
      in_body = of_service here.1 here.2;
      names = c ∷ [];
      scoped = service_scoped e e.services c r faultless.names.service_bodies (All-head (λ (x : NameId). has_service c x e.services ≡ true) r rs all);
      bound = bound_put fin.empty [] c (s, r) none_bound;
    })
    (served_bound e c s rs faultless (All-tail (λ (x : NameId). has_service c x e.services ≡ true) r rs all))

-- ---- one process more, for the next service role

next_role : (roles : List NameId) (i : ℕ) (d : NameId) → i < length roles → drop i roles ≡ get_or roles i d ∷ drop (i + 1) roles
next_role roles i d lt = drop-cons roles i d lt ∙ ap (λ (k : ℕ). get_or roles i d ∷ drop k roles) (let e : suc i ≡ i + 1 = omega arith in e)

abbrev pub new_at : CodeId → NameId → ℕ → NameId → Machine
new_at body c s r = record { at = body; vars = fin.empty; sessions = fin.insert fin.empty c.0 (s, r) }

module _ (i : ℕ) (roles : List NameId) (d : NameId) (ms new : List MachineView) (m : MachineView) (lt : i < length roles) (put : new ≡ ms ++ m ∷ []) where
  pub served_more : (e : Endpoints) (c : NameId) (s : ℕ) → m.machine ≡ new_at (service_of e.services c (get_or roles i d)) c s (get_or roles i d)
      → map standing_of ms ++ served e c s (drop i roles) ≡ served e c s roles → map standing_of new ++ served e c s (drop (i + 1) roles) ≡ served e c s roles
  served_more e c s is before =
      ap (λ (l : List MachineView). map standing_of l ++ served e c s (drop (i + 1) roles)) put
      ∙ ap (λ (l : List Machine). l ++ served e c s (drop (i + 1) roles)) (map-append standing_of ms (m ∷ []))
      ∙ append_assoc (map standing_of ms) (m.machine ∷ []) (served e c s (drop (i + 1) roles))
      ∙ ap (λ (x : Machine). map standing_of ms ++ x ∷ served e c s (drop (i + 1) roles)) is
      ∙ ap (λ (rs : List NameId). map standing_of ms ++ served e c s rs) (sym (next_role roles i d lt))
      ∙ before

  pub numbers_more : (first : ℕ) → m.number ≡ first + i → map number_of ms ++ map (λ (q : NameId × ℕ). q.1) (served_parts (drop i roles) (first + i)) ≡ map (λ (q : NameId × ℕ). q.1) (served_parts roles first)
      → map number_of new ++ map (λ (q : NameId × ℕ). q.1) (served_parts (drop (i + 1) roles) (first + (i + 1))) ≡ map (λ (q : NameId × ℕ). q.1) (served_parts roles first)
  numbers_more first is before =
      let next : first + (i + 1) ≡ suc (first + i) = omega arith in
      ap (λ (k : ℕ). map number_of new ++ map (λ (q : NameId × ℕ). q.1) (served_parts (drop (i + 1) roles) k)) next
      ∙ ap (λ (l : List MachineView). map number_of l ++ map (λ (q : NameId × ℕ). q.1) (served_parts (drop (i + 1) roles) (suc (first + i)))) put
      ∙ ap (λ (l : List ℕ). l ++ map (λ (q : NameId × ℕ). q.1) (served_parts (drop (i + 1) roles) (suc (first + i)))) (map-append number_of ms (m ∷ []))
      ∙ append_assoc (map number_of ms) (m.number ∷ []) (map (λ (q : NameId × ℕ). q.1) (served_parts (drop (i + 1) roles) (suc (first + i))))
      ∙ ap (λ (n : ℕ). map number_of ms ++ n ∷ map (λ (q : NameId × ℕ). q.1) (served_parts (drop (i + 1) roles) (suc (first + i)))) is
      ∙ ap (λ (rs : List NameId). map number_of ms ++ map (λ (q : NameId × ℕ). q.1) (served_parts rs (first + i))) (sym (next_role roles i d lt))
      ∙ before

-- ---- before the first of them, and after the last

pub none_served : (e : Endpoints) (c : NameId) (s : ℕ) (roles : List NameId) (ms : List MachineView) → ms ≡ [] → map standing_of ms ++ served e c s roles ≡ served e c s roles
none_served e c s roles ms none = ap (λ (l : List MachineView). map standing_of l ++ served e c s roles) none

pub none_numbered : (first : ℕ) (roles : List NameId) (ms : List MachineView) → ms ≡ []
    → map number_of ms ++ map (λ (q : NameId × ℕ). q.1) (served_parts roles (first + 0)) ≡ map (λ (q : NameId × ℕ). q.1) (served_parts roles first)
none_numbered first roles ms none =
    let same : first + 0 ≡ first = omega arith in
    ap (λ (l : List MachineView). map number_of l ++ map (λ (q : NameId × ℕ). q.1) (served_parts roles (first + 0))) none
    ∙ ap (λ (k : ℕ). map (λ (q : NameId × ℕ). q.1) (served_parts roles k)) same

module _ (roles : List NameId) (i : ℕ) (ms : List MachineView) (le : length roles ≤ i) where
  pub all_served : (e : Endpoints) (c : NameId) (s : ℕ) → map standing_of ms ++ served e c s (drop i roles) ≡ served e c s roles → map standing_of ms ≡ served e c s roles
  all_served e c s h = sym (append-nil (map standing_of ms)) ∙ sym (ap (λ (rs : List NameId). map standing_of ms ++ served e c s rs) (drop_all i roles le)) ∙ h

  pub all_numbered : (first p : ℕ) → map number_of ms ++ map (λ (q : NameId × ℕ). q.1) (served_parts (drop i roles) p) ≡ map (λ (q : NameId × ℕ). q.1) (served_parts roles first)
      → map number_of ms ≡ map (λ (q : NameId × ℕ). q.1) (served_parts roles first)
  all_numbered first p h =
      sym (append-nil (map number_of ms)) ∙ sym (ap (λ (rs : List NameId). map number_of ms ++ map (λ (q : NameId × ℕ). q.1) (served_parts rs p)) (drop_all i roles le)) ∙ h
