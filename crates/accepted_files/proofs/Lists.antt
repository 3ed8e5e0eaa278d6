-- Lists of endpoints, unit by unit: what stands once, and what belongs together.
use Rattle.std.proofs.Common.{◌≡◌, suc, ◌<◌, List, [], ◌∷◌, ◌++◌, map, length, refl, ap, ◌∙◌, Some, Bool, true, false, if◌then◌else◌, ◌==◌, ◌&&◌, ◌||◌, arith}
use Rattle.std.specs.Prelude.{Contains, not}
use Rattle.std.specs.List.{AllByRecursion, AllZip, filter}
use Rattle.std.proofs.lemmas.Bool.Decides.{nat_tests}
use Rattle.std.proofs.lemmas.Bool.{and_parts}
use Rattle.chor_base.specs.declared.names.NameId.{NameId}
use Rattle.chor_tree.specs.declared.file.Named.{Named as Written}
use Rattle.chor_tree.specs.declared.file.Proc.{Proc}
use Rattle.chor_tree.specs.declared.file.ProcParam.{ProcParam}
use Rattle.chor_tree.specs.declared.file.Service.{Service}
use Rattle.chor_tree.specs.declared.file.SessionParam.{SessionParam}
use Rattle.chor_tree.specs.Names.{is_among as is_in}
use Rattle.endpoint_code.specs.declared.endpoints.Channel.{Channel}
use Rattle.endpoint_code.specs.declared.endpoints.Procedure.{Procedure}
use Rattle.endpoint_code.specs.declared.endpoints.ServiceCode.{ServiceCode}
use Rattle.endpoint_code.specs.Faults.{is_among, AreDistinct, no_name, one_more, unit_among, AreApart, no_unit, one_unit, has_service, AreSingle, no_service, one_service}
use Rattle.endpoint_code.specs.Network.{procedure_of, channel_of}
use Rattle.well_formed.proofs.References.{same_name, clash, true_eq, or_rights, or_left, left_or, right_or, or_false}
use Rattle.delegation.specs.Checks.{all_differ}
use Rattle.typed_sources.proofs.Opened.{not_is}
use Rattle.projection.specs.Codes.{holds, sessions_for}
use Rattle.projection.specs.Projects.{names_of, channel_from, parameters_of, service_roles}

-- ---- lists side by side

-- what the items of one list and what they are make of those of the other
pub zip_all : {A B : Type 0} (R : A → B → Type 0) (Q : A → Type 0) (S P : B → Type 0) (xs : List A) (ys : List B) → AllZip R xs ys → AllByRecursion Q xs → AllByRecursion S ys → ((x : A) (y : B) → R x y → Q x → S y → P y) → AllByRecursion P ys
zip_all R Q S P [] [] z q s more = tt
zip_all R Q S P [] (y ∷ ys) z q s more = absurd z
zip_all R Q S P (x ∷ xs) [] z q s more = absurd z
zip_all R Q S P (x ∷ xs) (y ∷ ys) z q s more = (more x y z.0 q.0 s.0, zip_all R Q S P xs ys z.1 q.1 s.1 more)

-- what holds of the items of both lists
pub append_all : {A : Type 0} (P : A → Type 0) (xs ys : List A) → AllByRecursion P xs → AllByRecursion P ys → AllByRecursion P (xs ++ ys)
append_all P [] ys h i = i
append_all P (x ∷ xs) ys h i = (h.0, append_all P xs ys h.1 i)

-- what holds of each item
pub each_all : {A : Type 0} (P : A → Type 0) (xs : List A) → ((x : A) → Contains xs x → P x) → AllByRecursion P xs
each_all P [] h = tt
each_all P (x ∷ xs) h = (h x (0, omega arith, refl), each_all P xs (λ y m. h y (suc m.0, (let l : m.0 < length xs = m.1 in omega (arith, l)), m.2)))

-- what holds of each item's image
pub map_all : {A B : Type 0} (g : A → B) (P : B → Type 0) (xs : List A) → AllByRecursion (λ x. P (g x)) xs → AllByRecursion P (map g xs)
map_all g P [] h = tt
map_all g P (x ∷ xs) h = (h.0, map_all g P xs h.1)

-- what holds of all items holds of some
pub filter_all : {A : Type 0} (p : A → Bool) (P : A → Type 0) (xs : List A) → AllByRecursion P xs → AllByRecursion P (filter p xs)
filter_all p P [] h = tt
filter_all p P (x ∷ xs) h = go (p x) (filter_all p P xs h.1)
  where
    go : (b : Bool) → AllByRecursion P (filter p xs) → AllByRecursion P (if b then x ∷ filter p xs else filter p xs)
    go true i = (h.0, i)
    go false i = i

-- the test holds of the items that pass it
pub filter_passed : {A : Type 0} (p : A → Bool) (xs : List A) → AllByRecursion (λ x. p x ≡ true) (filter p xs)
filter_passed p [] = tt
filter_passed p (x ∷ xs) = go (p x) refl (filter_passed p xs)
  where
    go : (b : Bool) → p x ≡ b → AllByRecursion (λ x. p x ≡ true) (filter p xs) → AllByRecursion (λ x. p x ≡ true) (if b then x ∷ filter p xs else filter p xs)
    go true e i = (e, i)
    go false e i = i

-- both of two facts
pub both_all : {A : Type 0} (P Q : A → Type 0) (xs : List A) → AllByRecursion P xs → AllByRecursion Q xs → AllByRecursion (λ x. P x × Q x) xs
both_all P Q [] h i = tt
both_all P Q (x ∷ xs) h i = ((h.0, i.0), both_all P Q xs h.1 i.1)

-- what holds of each parameter of each procedure
pub each_param : (P : Proc × ProcParam → Type 0) (hs : List Proc) → ((h : Proc) → Contains hs h → (q : ProcParam) → Contains h.params q → P (h, q)) → AllByRecursion P (parameters_of hs)
each_param P [] all = tt
each_param P (h ∷ hs) all =
    append_all P (map (λ p. (h, p)) h.params) (parameters_of hs) (map_all (λ p. (h, p)) P h.params (each_all (λ p. P (h, p)) h.params (λ q m. all h (0, omega arith, refl) q m)))
    (each_param P hs (λ x m. all x (suc m.0, (let l : m.0 < length hs = m.1 in omega (arith, l)), m.2)))

-- ---- names that stand once

filter_among : {A : Type 0} (nm : A → NameId) (p : A → Bool) (x : NameId) (xs : List A) → is_among x (map nm xs) ≡ false → is_among x (map nm (filter p xs)) ≡ false
filter_among nm p x [] h = refl
filter_among nm p x (y ∷ ys) h = go (p y) (filter_among nm p x ys (right_or _ _ h))
  where
    go : (b : Bool) → is_among x (map nm (filter p ys)) ≡ false → is_among x (map nm (if b then y ∷ filter p ys else filter p ys)) ≡ false
    go true i = or_false _ _ (left_or _ _ h) i
    go false i = i

-- some names of a list in which none stands twice
pub filter_distinct : {A : Type 0} (nm : A → NameId) (p : A → Bool) (xs : List A) → AreDistinct (map nm xs) → AreDistinct (map nm (filter p xs))
filter_distinct nm p [] d = no_name
filter_distinct nm p (x ∷ xs) (one_more h d) = go (p x) (filter_distinct nm p xs d)
  where
    go : (b : Bool) → AreDistinct (map nm (filter p xs)) → AreDistinct (map nm (if b then x ∷ filter p xs else filter p xs))
    go true i = one_more (filter_among nm p (nm x) xs h) i
    go false i = i

sessions_among : (x p : NameId) (ks : List SessionParam) → is_among x (map (λ k. k.name.name) ks) ≡ false → is_among x (sessions_for p ks) ≡ false
sessions_among x p [] h = refl
sessions_among x p (k ∷ ks) h = go (holds p k.holders) (sessions_among x p ks (right_or _ _ h))
  where
    go : (b : Bool) → is_among x (sessions_for p ks) ≡ false → is_among x (if b then k.name.name ∷ sessions_for p ks else sessions_for p ks) ≡ false
    go true i = or_false _ _ (left_or _ _ h) i
    go false i = i

-- the sessions that list a parameter are some of the session parameters
pub sessions_distinct : (p : NameId) (ks : List SessionParam) → AreDistinct (map (λ k. k.name.name) ks) → AreDistinct (sessions_for p ks)
sessions_distinct p [] d = no_name
sessions_distinct p (k ∷ ks) (one_more h d) = go (holds p k.holders) (sessions_distinct p ks d)
  where
    go : (b : Bool) → AreDistinct (sessions_for p ks) → AreDistinct (if b then k.name.name ∷ sessions_for p ks else sessions_for p ks)
    go true i = one_more (sessions_among k.name.name p ks h) i
    go false i = i

-- channels have the names of their services
pub channel_names : (ss : List Service) → map (λ k. k.name) (map channel_from ss) ≡ map (λ s. s.name.name) ss
channel_names [] = refl
channel_names (s ∷ ss) = ap (λ l. s.name.name ∷ l) (channel_names ss)

-- ---- units of procedures

-- a procedure and its parameter of these names stand in the list
abbrev pair_among : NameId → NameId → List (Proc × ProcParam) → Bool
pair_among f p [] = false
pair_among f p (z ∷ zs) = ((f.0 == z.0.name.name.0) && (p.0 == z.1.name.name.0)) || pair_among f p zs

-- none stands twice
abbrev ArePairsApart : List (Proc × ProcParam) → Type 0
ArePairsApart [] = Unit {0}
ArePairsApart (z ∷ zs) = (pair_among z.0.name.name z.1.name.name zs ≡ false) × ArePairsApart zs

pair_more : (f p : NameId) (xs ys : List (Proc × ProcParam)) → pair_among f p xs ≡ false → pair_among f p ys ≡ false → pair_among f p (xs ++ ys) ≡ false
pair_more f p [] ys h i = i
pair_more f p (x ∷ xs) ys h i = or_false _ _ (left_or _ _ h) (pair_more f p xs ys (right_or _ _ h) i)

pair_in : (f p : NameId) (h : Proc) (qs : List ProcParam) → is_in (map (λ q. q.name.name) qs) p ≡ false → pair_among f p (map (λ q. (h, q)) qs) ≡ false
pair_in f p h [] i = refl
pair_in f p h (q ∷ qs) i = or_false _ _ (off (f.0 == h.name.name.0)) (pair_in f p h qs (right_or _ _ i))
  where
    there : (p.0 == q.name.name.0) ≡ false
    there = let j : (q.name.name.0 == p.0) ≡ false = left_or _ _ i in grind (arith, nat_tests)

    off : (b : Bool) → (b && (p.0 == q.name.name.0)) ≡ false
    off true = there
    off false = refl

pair_out : (f p : NameId) (h : Proc) (qs : List ProcParam) → (f.0 == h.name.name.0) ≡ false → pair_among f p (map (λ q. (h, q)) qs) ≡ false
pair_out f p h [] i = refl
pair_out f p h (q ∷ qs) i = or_false _ _ (ap (λ b. b && (p.0 == q.name.name.0)) i) (pair_out f p h qs i)

pair_later : (f p : NameId) (hs : List Proc) → is_in (map (λ h. h.name.name) hs) f ≡ false → pair_among f p (parameters_of hs) ≡ false
pair_later f p [] i = refl
pair_later f p (h ∷ hs) i = pair_more f p (map (λ q. (h, q)) h.params) (parameters_of hs) (pair_out f p h h.params other) (pair_later f p hs (right_or _ _ i))
  where
    other : (f.0 == h.name.name.0) ≡ false
    other = let j : (h.name.name.0 == f.0) ≡ false = left_or _ _ i in grind (arith, nat_tests)

-- where no procedure and no parameter of one stands twice, no pair does
pub pairs_apart : (hs : List Proc) → all_differ (map (λ h. h.name.name) hs) ≡ true → AllByRecursion (λ h. all_differ (map (λ q. q.name.name) h.params) ≡ true) hs → ArePairsApart (parameters_of hs)
pairs_apart [] od each = tt
pairs_apart (h ∷ hs) od each = along h.params each.0 (pairs_apart hs w.1 each.1)
  where
    w : (not (is_in (map (λ h. h.name.name) hs) h.name.name) ≡ true) × (all_differ (map (λ h. h.name.name) hs) ≡ true)
    w = and_parts _ _ od

    along : (qs : List ProcParam) → all_differ (map (λ q. q.name.name) qs) ≡ true → ArePairsApart (parameters_of hs) → ArePairsApart (map (λ q. (h, q)) qs ++ parameters_of hs)
    along [] d rest = rest
    along (q ∷ qs) d rest =
        let v = and_parts _ _ d in
        (pair_more h.name.name q.name.name (map (λ q. (h, q)) qs) (parameters_of hs) (pair_in h.name.name q.name.name h qs (not_is _ v.0)) (pair_later h.name.name q.name.name hs (not_is _ w.0)), along qs v.1 rest)

-- units that have the names of these pairs, and no other
pub record HasNames (z : Proc × ProcParam) (q : Procedure) : Type 0 where
  pub name : q.name ≡ z.0.name.name
  pub param : q.param ≡ z.1.name.name

unit_same : (f p : NameId) (zs : List (Proc × ProcParam)) (qs : List Procedure) → AllZip HasNames zs qs → unit_among f p qs ≡ pair_among f p zs
unit_same f p [] [] a = refl
unit_same f p [] (q ∷ qs) a = absurd a
unit_same f p (z ∷ zs) [] a = absurd a
unit_same f p (z ∷ zs) (q ∷ qs) a =
    ap (λ (x : NameId). ((f.0 == x.0) && (p.0 == q.param.0)) || unit_among f p qs) a.0.name
    ∙ ap (λ (x : NameId). ((f.0 == z.0.name.name.0) && (p.0 == x.0)) || unit_among f p qs) a.0.param
    ∙ ap (λ b. ((f.0 == z.0.name.name.0) && (p.0 == z.1.name.name.0)) || b) (unit_same f p zs qs a.1)

-- so no unit does
pub units_apart : (zs : List (Proc × ProcParam)) (qs : List Procedure) → AllZip HasNames zs qs → ArePairsApart zs → AreApart qs
units_apart [] [] a d = no_unit
units_apart [] (q ∷ qs) a d = absurd a
units_apart (z ∷ zs) [] a d = absurd a
units_apart (z ∷ zs) (q ∷ qs) a d =
    one_unit (ap (λ x. unit_among x q.param qs) a.0.name ∙ ap (λ x. unit_among z.0.name.name x qs) a.0.param ∙ unit_same z.0.name.name z.1.name.name zs qs a.1 ∙ d.0) (units_apart zs qs a.1 d.1)

-- where no unit stands twice, each is the one of its names
pub each_found : (qs : List Procedure) → AreApart qs → AllByRecursion (λ q. procedure_of qs q.name q.param ≡ Some q) qs
each_found [] d = tt
each_found (q ∷ qs) (one_unit h d) = (
  ap (λ b. if b then Some q else procedure_of qs q.name q.param) (ap (λ b. b && (q.param.0 == q.param.0)) (true_eq q.name.0) ∙ true_eq q.param.0),
  later qs (each_found qs d) h,
)
  where
    later : (us : List Procedure) → AllByRecursion (λ u. procedure_of qs u.name u.param ≡ Some u) us → unit_among q.name q.param us ≡ false → AllByRecursion (λ u. procedure_of (q ∷ qs) u.name u.param ≡ Some u) us
    later [] a i = tt
    later (u ∷ us) a i = (ap (λ b. if b then Some q else procedure_of qs u.name u.param) (left_or _ _ i) ∙ a.0, later us a.1 (right_or _ _ i))

-- ---- services

-- a channel's name with a role stands in the list
abbrev role_pair : NameId → NameId → List (NameId × NameId) → Bool
role_pair c r [] = false
role_pair c r (z ∷ zs) = ((c.0 == z.0.0) && (r.0 == z.1.0)) || role_pair c r zs

abbrev AreRolesApart : List (NameId × NameId) → Type 0
AreRolesApart [] = Unit {0}
AreRolesApart (z ∷ zs) = (role_pair z.0 z.1 zs ≡ false) × AreRolesApart zs

role_more : (c r : NameId) (xs ys : List (NameId × NameId)) → role_pair c r xs ≡ false → role_pair c r ys ≡ false → role_pair c r (xs ++ ys) ≡ false
role_more c r [] ys h i = i
role_more c r (x ∷ xs) ys h i = or_false _ _ (left_or _ _ h) (role_more c r xs ys (right_or _ _ h) i)

role_in : (c r d : NameId) (ws : List Written) → is_among r (names_of ws) ≡ false → role_pair c r (map (λ w. (d, w.name)) ws) ≡ false
role_in c r d [] i = refl
role_in c r d (w ∷ ws) i = or_false _ _ (off (c.0 == d.0)) (role_in c r d ws (right_or _ _ i))
  where
    off : (b : Bool) → (b && (r.0 == w.name.0)) ≡ false
    off true = left_or _ _ i
    off false = refl

role_out : (c r d : NameId) (ws : List Written) → (c.0 == d.0) ≡ false → role_pair c r (map (λ w. (d, w.name)) ws) ≡ false
role_out c r d [] i = refl
role_out c r d (w ∷ ws) i = or_false _ _ (ap (λ b. b && (r.0 == w.name.0)) i) (role_out c r d ws i)

role_later : (c r : NameId) (ss : List Service) → is_among c (map (λ s. s.name.name) ss) ≡ false → role_pair c r (service_roles ss) ≡ false
role_later c r [] i = refl
role_later c r (s ∷ ss) i =
    role_more c r (map (λ w. (s.name.name, w.name)) s.serve) (service_roles ss) (role_out c r s.name.name s.serve (left_or _ _ i)) (role_later c r ss (right_or _ _ i))

-- where no channel and no service role of one stands twice, no pair does
pub roles_apart : (ss : List Service) → AreDistinct (map (λ s. s.name.name) ss) → AllByRecursion (λ s. AreDistinct (names_of s.serve)) ss → AreRolesApart (service_roles ss)
roles_apart [] d each = tt
roles_apart (s ∷ ss) (one_more h d) each = along s.serve each.0 (roles_apart ss d each.1)
  where
    along : (ws : List Written) → AreDistinct (names_of ws) → AreRolesApart (service_roles ss) → AreRolesApart (map (λ w. (s.name.name, w.name)) ws ++ service_roles ss)
    along [] d rest = rest
    along (w ∷ ws) (one_more i d) rest =
        (role_more s.name.name w.name (map (λ w. (s.name.name, w.name)) ws) (service_roles ss) (role_in s.name.name w.name s.name.name ws i) (role_later s.name.name w.name ss h), along ws d rest)

-- services that have these names and roles, and no other
pub record HasRole (z : NameId × NameId) (s : ServiceCode) : Type 0 where
  pub channel : s.channel ≡ z.0
  pub role : s.role ≡ z.1

service_same : (c r : NameId) (zs : List (NameId × NameId)) (ss : List ServiceCode) → AllZip HasRole zs ss → has_service c r ss ≡ role_pair c r zs
service_same c r [] [] a = refl
service_same c r [] (s ∷ ss) a = absurd a
service_same c r (z ∷ zs) [] a = absurd a
service_same c r (z ∷ zs) (s ∷ ss) a =
    ap (λ (x : NameId). ((c.0 == x.0) && (r.0 == s.role.0)) || has_service c r ss) a.0.channel
    ∙ ap (λ (x : NameId). ((c.0 == z.0.0) && (r.0 == x.0)) || has_service c r ss) a.0.role
    ∙ ap (λ b. ((c.0 == z.0.0) && (r.0 == z.1.0)) || b) (service_same c r zs ss a.1)

-- so no service does
pub services_single : (zs : List (NameId × NameId)) (ss : List ServiceCode) → AllZip HasRole zs ss → AreRolesApart zs → AreSingle ss
services_single [] [] a d = no_service
services_single [] (s ∷ ss) a d = absurd a
services_single (z ∷ zs) [] a d = absurd a
services_single (z ∷ zs) (s ∷ ss) a d =
    one_service (ap (λ x. has_service x s.role ss) a.0.channel ∙ ap (λ x. has_service z.0 x ss) a.0.role ∙ service_same z.0 z.1 zs ss a.1 ∙ d.0) (services_single zs ss a.1 d.1)

-- each service role of each channel has its service
pub record IsProvided (zs : List (NameId × NameId)) (s : Service) : Type 0 where
  pub all : AllByRecursion (λ r. role_pair s.name.name r zs ≡ true) (names_of s.serve)

role_front : (c r : NameId) (xs ys : List (NameId × NameId)) → role_pair c r xs ≡ true → role_pair c r (xs ++ ys) ≡ true
role_front c r [] ys h = absurd cc
role_front c r (x ∷ xs) ys h = go ((c.0 == x.0.0) && (r.0 == x.1.0)) h (role_front c r xs ys)
  where
    go : (b : Bool) → (b || role_pair c r xs) ≡ true → (role_pair c r xs ≡ true → role_pair c r (xs ++ ys) ≡ true) → (b || role_pair c r (xs ++ ys)) ≡ true
    go true i ih = refl
    go false i ih = ih i

role_behind : (c r : NameId) (xs ys : List (NameId × NameId)) → role_pair c r ys ≡ true → role_pair c r (xs ++ ys) ≡ true
role_behind c r [] ys h = h
role_behind c r (x ∷ xs) ys h = or_rights _ _ (role_behind c r xs ys h)

own_roles : (c : NameId) (ws : List Written) → AllByRecursion (λ r. role_pair c r (map (λ w. (c, w.name)) ws) ≡ true) (names_of ws)
own_roles c [] = tt
own_roles c (w ∷ ws) = (or_left _ _ (ap (λ b. b && (w.name.0 == w.name.0)) (true_eq c.0) ∙ true_eq w.name.0), more (names_of ws) (own_roles c ws))
  where
    more : (rs : List NameId) → AllByRecursion (λ r. role_pair c r (map (λ w. (c, w.name)) ws) ≡ true) rs → AllByRecursion (λ r. role_pair c r ((c, w.name) ∷ map (λ w. (c, w.name)) ws) ≡ true) rs
    more [] a = tt
    more (r ∷ rs) a = (or_rights _ _ a.0, more rs a.1)

-- what follows for each item
pub change : {A : Type 0} (P Q : A → Type 0) (xs : List A) → ((x : A) → P x → Q x) → AllByRecursion P xs → AllByRecursion Q xs
change P Q [] f h = tt
change P Q (x ∷ xs) f h = (f x h.0, change P Q xs f h.1)

-- Each service role is provided
pub all_provided : (ss : List Service) → AllByRecursion (IsProvided (service_roles ss)) ss
all_provided [] = tt
all_provided (s ∷ ss) = (
  record { all = change (λ r. role_pair s.name.name r own ≡ true) (λ r. role_pair s.name.name r (own ++ service_roles ss) ≡ true) (names_of s.serve) (λ r h. role_front s.name.name r own (service_roles ss) h) (own_roles s.name.name s.serve) },
  change (IsProvided (service_roles ss)) (IsProvided (own ++ service_roles ss)) ss
      (λ z h. record { all = change (λ r. role_pair z.name.name r (service_roles ss) ≡ true) (λ r. role_pair z.name.name r (own ++ service_roles ss) ≡ true) (names_of z.serve) (λ r i. role_behind z.name.name r own (service_roles ss) i) h.all }) (all_provided ss),
)
  where
    own : List (NameId × NameId)
    own = map (λ w. (s.name.name, w.name)) s.serve

-- by a service
pub provided_by : (zs : List (NameId × NameId)) (cs : List ServiceCode) → AllZip HasRole zs cs → (s : Service) → IsProvided zs s → AllByRecursion (λ r. has_service s.name.name r cs ≡ true) (names_of s.serve)
provided_by zs cs a s h = change (λ r. role_pair s.name.name r zs ≡ true) (λ r. has_service s.name.name r cs ≡ true) (names_of s.serve) (λ r i. service_same s.name.name r zs cs a ∙ i) h.all

-- the channel of a service role is there, and has the role
pub record IsServedIn (ks : List Channel) (z : NameId × NameId) : Type 0 where
  pub channel : Channel
  pub found : channel_of ks z.0 ≡ Some channel
  pub role : is_among z.1 channel.serve ≡ true

found_among : (ss : List Service) (c : NameId) (k : Channel) → channel_of (map channel_from ss) c ≡ Some k → is_among c (map (λ s. s.name.name) ss) ≡ true
found_among [] c k h = absurd cc
found_among (s ∷ ss) c k h = go (s.name.name.0 == c.0) refl h (found_among ss c k)
  where
    go : (b : Bool) → (s.name.name.0 == c.0) ≡ b → (if b then Some (channel_from s) else channel_of (map channel_from ss) c) ≡ Some k → (channel_of (map channel_from ss) c ≡ Some k → is_among c (map (λ s. s.name.name) ss) ≡ true) → ((c.0 == s.name.name.0) || is_among c (map (λ s. s.name.name) ss)) ≡ true
    go true e i ih = or_left _ _ (ap (λ (x : NameId). c.0 == x.0) (same_name s.name.name c e) ∙ true_eq c.0)
    go false e i ih = or_rights _ _ (ih i)

own_served : (s : Service) (ks : List Channel) (ws : List Written) → AllByRecursion (λ w. is_among w.name (names_of s.serve) ≡ true) ws → AllByRecursion (IsServedIn (channel_from s ∷ ks)) (map (λ w. (s.name.name, w.name)) ws)
own_served s ks [] h = tt
own_served s ks (w ∷ ws) h = (
  record { channel = channel_from s; found = ap (λ b. if b then Some (channel_from s) else channel_of ks s.name.name) (true_eq s.name.name.0); role = h.0 },
  own_served s ks ws h.1,
)

names_there : (ws : List Written) → AllByRecursion (λ w. is_among w.name (names_of ws) ≡ true) ws
names_there [] = tt
names_there (w ∷ ws) = (or_left _ _ (true_eq w.name.0), change (λ v. is_among v.name (names_of ws) ≡ true) (λ v. is_among v.name (names_of (w ∷ ws)) ≡ true) ws (λ v i. or_rights _ _ i) (names_there ws))

-- Each service role belongs to a channel
pub all_served : (ss : List Service) → AreDistinct (map (λ s. s.name.name) ss) → AllByRecursion (IsServedIn (map channel_from ss)) (service_roles ss)
all_served [] d = tt
all_served (s ∷ ss) (one_more h d) =
    append_all (IsServedIn (map channel_from (s ∷ ss))) (map (λ w. (s.name.name, w.name)) s.serve) (service_roles ss) (own_served s (map channel_from ss) s.serve (names_there s.serve))
    (change (IsServedIn (map channel_from ss)) (IsServedIn (map channel_from (s ∷ ss))) (service_roles ss) (λ z i. record { channel = i.channel; found = later z i.channel i.found (s.name.name.0 == z.0.0) refl; role = i.role }) (all_served ss d))
  where
    later : (z : NameId × NameId) (k : Channel) → channel_of (map channel_from ss) z.0 ≡ Some k → (b : Bool) → (s.name.name.0 == z.0.0) ≡ b → channel_of (map channel_from (s ∷ ss)) z.0 ≡ Some k
    later z k i false e = ap (λ b. if b then Some (channel_from s) else channel_of (map channel_from ss) z.0) e ∙ i
    later z k i true e = absurd (clash (ap (λ x. is_among x (map (λ s. s.name.name) ss)) (same_name s.name.name z.0 e) ∙ found_among ss z.0 k i) h)
