-- A linear file has sets in which each channel with two or more active roles is linear.
use Rattle.std.proofs.Common.{◌≡◌, ℕ, zero, suc, ◌<◌, List, [], ◌∷◌, map, length, refl, sym, ap, ◌∙◌, subst, Some, None, Option, Bool, true, false, if◌then◌else◌, ◌==◌, arith}
use Rattle.std.proofs.lemmas.Bool.Decides.{nat_tests}
use Rattle.std.specs.Prelude.{Contains, nat_lt}
use Rattle.std.specs.List.{filter}
use Rattle.chor_base.specs.declared.names.NameId.{NameId}
use Rattle.chor_tree.specs.declared.file.File.{File}
use Rattle.chor_tree.specs.declared.file.Named.{Named as Written}
use Rattle.chor_tree.specs.declared.file.Service.{Service}
use Rattle.chor_tree.specs.Names.{first_named, names_in}
use Rattle.chor_semantics.specs.Sources.{procedures_of}
use Rattle.endpoint_code.specs.declared.endpoints.Channel.{Channel}
use Rattle.endpoint_code.specs.Network.{channel_of as channel_in}
use Rattle.well_formed.specs.Linear.{ParameterSets, everyone, IsLinear, AllLinear}
use Rattle.well_formed.proofs.References.{same_name}
use Rattle.linearity.specs.OrderFaults.{main_of, IsLinearFile}
use Rattle.linearity.proofs.Orders.{linear_procedures, linear_main}
use Rattle.typed_sources.proofs.Checked.{some_is}
use Rattle.typed_sources.proofs.Resolved.{found_in}
use Rattle.typed_sources.proofs.Channels.{channel_from, channels_from}

kept_in : (wanted : Service → Bool) (ss : List Service) (s : Service) → Contains (filter wanted ss) s → Contains ss s
kept_in wanted [] s (i, l, e) = absurd (omega (arith, l))
kept_in wanted (z ∷ zs) s m = go (wanted z) m (λ n. kept_in wanted zs s n)
  where
    later : Contains zs s → Contains (z ∷ zs) s
    later w = (suc w.0, (let l : w.0 < length zs = w.1 in omega (arith, l)), w.2)

    go : (b : Bool) → Contains (if b then z ∷ filter wanted zs else filter wanted zs) s → (Contains (filter wanted zs) s → Contains zs s) → Contains (z ∷ zs) s
    go true (zero, l, e) ih = (0, omega arith, e)
    go true (suc i, l, e) ih = later (ih (i, omega (arith, l), e))
    go false w ih = later (ih w)

-- the service of a channel
record IsServiceOf (ss : List Service) (a : NameId) (k : Channel) : Type 0 where
  service : Service
  is : first_named (λ z. z.name) ss a ≡ Some service
  name : service.name.name ≡ a
  same : channel_from service ≡ k

service_of : (ss : List Service) (a : NameId) (k : Channel) → channel_in (map channel_from ss) a ≡ Some k → IsServiceOf ss a k
service_of [] a k h = absurd cc
service_of (z ∷ zs) a k h = go (z.name.name.0 == a.0) refl h (service_of zs a k)
  where
    go : (b : Bool) → (z.name.name.0 == a.0) ≡ b → (if b then Some (channel_from z) else channel_in (map channel_from zs) a) ≡ Some k → (channel_in (map channel_from zs) a ≡ Some k → IsServiceOf zs a k) → IsServiceOf (z ∷ zs) a k
    go true e i ih = record { service = z; is = ap (λ (b : Bool). if b then Some z else first_named (λ z. z.name) zs a) e; name = same_name z.name.name a e; same = some_is (channel_from z) k i }
    go false e i ih = let w = ih i in record { service = w.service; is = ap (λ (b : Bool). if b then Some z else first_named (λ z. z.name) zs a) e ∙ w.is; name = w.name; same = w.same }

more : (n : ℕ) → nat_lt 1 n ≡ true → 1 < n
more n h = grind (arith, nat_tests)

fewer : (n : ℕ) → nat_lt 1 n ≡ false → 1 < n → ⊥
fewer n h l = grind (arith, nat_tests)

names_length : (ws : List Written) → length (names_in ws) ≡ length ws
names_length [] = refl
names_length (w ∷ ws) = ap suc (names_length ws)

module _ (f : File) (linear : IsLinearFile f) (wanted : Service → Bool) where
  by_size : (s : Service) → Contains f.services s → (b : Bool) → nat_lt 1 (length s.active) ≡ b → ParameterSets
  by_size s m true e = (linear s m (more (length s.active) e)).sets
  by_size s m false e = λ h i. false

  sets_at : (a : NameId) (o : Option Service) → first_named (λ z. z.name) (filter wanted f.services) a ≡ o → ParameterSets
  sets_at a None i = λ h j. false
  sets_at a (Some s) i = by_size s (kept_in wanted f.services s (found_in (λ z. z.name) (filter wanted f.services) a s i)) (nat_lt 1 (length s.active)) refl

  -- the sets of each channel
  pub sets_of : NameId → ParameterSets
  sets_of a = sets_at a (first_named (λ z. z.name) (filter wanted f.services) a) refl

  abbrev Both : NameId → ParameterSets → Type 0
  Both a sets = AllLinear a sets (procedures_of f) × IsLinear a sets everyone (main_of f)

  size_linear : (s : Service) (m : Contains f.services s) (b : Bool) (e : nat_lt 1 (length s.active) ≡ b) → 1 < length s.active → Both s.name.name (by_size s m b e)
  unfolding by_size
  size_linear s m true e l = let w = linear s m (more (length s.active) e) in (linear_procedures s.name.name (procedures_of f) (main_of f) w, linear_main s.name.name (procedures_of f) (main_of f) w)
  size_linear s m false e l = absurd (fewer (length s.active) e l)

  at_linear : (a : NameId) (o : Option Service) (i : first_named (λ z. z.name) (filter wanted f.services) a ≡ o) (s : Service) → o ≡ Some s → s.name.name ≡ a → 1 < length s.active → Both a (sets_at a o i)
  unfolding sets_at
  at_linear a None i s same name l = absurd (nothing same)
    where
      nothing : None ≡ Some s → ⊥
      nothing h = cc
  at_linear a (Some z) i s same name l =
      let zs : z ≡ s = some_is z s same in
      let m = kept_in wanted f.services z (found_in (λ z. z.name) (filter wanted f.services) a z i) in
      subst (λ x. Both x (by_size z m (nat_lt 1 (length z.active)) refl)) (ap (λ (y : Service). y.name.name) zs ∙ name)
      (size_linear z m (nat_lt 1 (length z.active)) refl (subst (λ (y : Service). 1 < length y.active) (sym zs) l))

  -- Each channel with two or more active roles is linear in its sets
  pub channels_linear : (a : NameId) (k : Channel) → channel_in (channels_from wanted f) a ≡ Some k → 1 < length k.active → AllLinear a (sets_of a) (procedures_of f) × IsLinear a (sets_of a) everyone (main_of f)
  unfolding sets_of
  channels_linear a k h l =
      let s = service_of (filter wanted f.services) a k h in
      at_linear a (first_named (λ z. z.name) (filter wanted f.services) a) refl s.service s.is s.name (size s.service (subst (λ (z : Channel). 1 < length z.active) (sym s.same) l))
    where
      size : (z : Service) → 1 < length (names_in z.active) → 1 < length z.active
      size z i = let e : length (names_in z.active) ≡ length z.active = names_length z.active in omega (arith, i, e)
