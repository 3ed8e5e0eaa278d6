-- Keys that stand once.
use Rattle.std.proofs.Common.{◌≡◌, ◌==◌, ◌&&◌, ◌||◌, Bool, true, false, List, [], ◌∷◌, ◌++◌, map, refl, ap, sym, ◌∙◌}
use Rattle.std.proofs.lemmas.List.Folds.{list_any-append}
use Rattle.chor_base.specs.declared.names.NameId.{NameId}
use Rattle.endpoint_reader.specs.declared.input.Named.{Named}
use Rattle.endpoint_reader.specs.declared.written.Procedure.{Procedure}
use Rattle.endpoint_reader.specs.declared.written.Service.{Service}
use Rattle.endpoint_code.specs.Faults.{is_among, AreDistinct, no_name, one_more, unit_among, AreApart, no_unit, one_unit, has_service, AreSingle, no_service, one_service}
use Rattle.endpoint_names.specs.declared.key.Key.{Key}
use Rattle.endpoint_names.specs.declared.key.Sign.{Sign}
use Rattle.endpoint_names.specs.Keys.{alone, both, same_key, is_known, sign_of_name, sign_of_procedure, sign_of_service, keys_of}
use Rattle.endpoint_names.specs.Faults.{fault_at, repeated}
use Rattle.endpoint_names.proofs.Keys.{key_turned}
use Rattle.endpoint_making.specs.Making.{procedure_made, service_made}
use Rattle.endpoint_laws.proofs.Lists.{nothing_of_two, no_fault, two_nothings, faultless}

abbrev pub keys_in : List Sign → List Key
keys_in ss = map (λ s. s.key) ss

-- no key stands twice
abbrev pub AreOnce : List Key → Type 0
AreOnce [] = Unit {0}
AreOnce (k ∷ ks) = (is_known ks k ≡ false) × AreOnce ks

-- none of these is known
abbrev AreNew : List Key → List Key → Type 0
AreNew known [] = Unit {0}
AreNew known (k ∷ ks) = (is_known known k ≡ false) × AreNew known ks

or_left : (a b : Bool) → (a || b) ≡ false → a ≡ false
or_left false b h = refl
or_left true b h = absurd cc

or_right : (a b : Bool) → (a || b) ≡ false → b ≡ false
or_right false b h = h
or_right true b h = absurd cc

new_less : (known : List Key) (y : Key) (ks : List Key) → AreNew (known ++ y ∷ []) ks → AreNew known ks × (is_known ks y ≡ false)
new_less known y [] h = (tt, refl)
new_less known y (k ∷ ks) h =
    let both_no : (is_known known k || is_known (y ∷ []) k) ≡ false = sym (list_any-append (same_key k) known (y ∷ [])) ∙ h.0 in
    let apart : same_key y k ≡ false = key_turned y k ∙ or_left (same_key k y) false (or_right (is_known known k) (is_known (y ∷ []) k) both_no) in
    let rest = new_less known y ks h.1 in
    ((or_left (is_known known k) (is_known (y ∷ []) k) both_no, rest.0), ap (λ b. b || is_known ks y) apart ∙ rest.1)

once_new : (known : List Key) (ss : List Sign) → repeated known ss ≡ [] → AreNew known (keys_in ss) × AreOnce (keys_in ss)
once_new known [] h = (tt, tt)
once_new known (s ∷ ss) h =
    let two = nothing_of_two (fault_at (is_known known s.key) s.place) (repeated (known ++ s.key ∷ []) ss) h in
    let rest = once_new (known ++ s.key ∷ []) ss two.1 in
    let less = new_less known s.key (keys_in ss) rest.0 in
    ((no_fault (is_known known s.key) s.place two.0, less.0), (less.1, rest.1))

-- where nothing is told, no key stands twice
pub once : (ss : List Sign) → repeated [] ss ≡ [] → AreOnce (keys_in ss)
once ss h = (once_new [] ss h).1

-- ---- names

and_true : (b : Bool) → (b && true) ≡ b
and_true true = refl
and_true false = refl

pub same_alone : (x y : NameId) → same_key (alone x) (alone y) ≡ (x.0 == y.0)
same_alone x y = and_true (x.0 == y.0)

module _ {X : Type 0} (f : X → Named) where
  pub known_name : (xs : List X) (x : NameId) → is_known (keys_in (map (λ y. sign_of_name (f y)) xs)) (alone x) ≡ is_among x (map (λ y. (f y).name) xs)
  known_name [] x = refl
  known_name (y ∷ ys) x = ap (λ b. b || is_known (keys_in (map (λ z. sign_of_name (f z)) ys)) (alone x)) (same_alone x (f y).name) ∙ ap (λ b. (x.0 == (f y).name.0) || b) (known_name ys x)

  distinct : (xs : List X) → AreOnce (keys_in (map (λ y. sign_of_name (f y)) xs)) → AreDistinct (map (λ y. (f y).name) xs)
  distinct [] h = no_name
  distinct (y ∷ ys) h = one_more (sym (known_name ys (f y).name) ∙ h.0) (distinct ys h.1)

  -- names of which none is told are distinct
  pub distinct_names : (xs : List X) → repeated [] (map (λ y. sign_of_name (f y)) xs) ≡ [] → AreDistinct (map (λ y. (f y).name) xs)
  distinct_names xs h = distinct xs (once (map (λ y. sign_of_name (f y)) xs) h)

-- ---- procedures and services

known_unit : (ps : List Procedure) (f p : NameId) → is_known (keys_in (map sign_of_procedure ps)) (both f p) ≡ unit_among f p (map procedure_made ps)
known_unit [] f p = refl
known_unit (q ∷ qs) f p = ap (λ b. ((f.0 == q.signature.name.name.0) && (p.0 == q.signature.param.name.0)) || b) (known_unit qs f p)

apart : (ps : List Procedure) → AreOnce (keys_in (map sign_of_procedure ps)) → AreApart (map procedure_made ps)
apart [] h = no_unit
apart (q ∷ qs) h = one_unit (sym (known_unit qs q.signature.name.name q.signature.param.name) ∙ h.0) (apart qs h.1)

pub apart_units : (ps : List Procedure) → repeated [] (map sign_of_procedure ps) ≡ [] → AreApart (map procedure_made ps)
apart_units ps h = apart ps (once (map sign_of_procedure ps) h)

pub known_service : (ss : List Service) (c r : NameId) → is_known (keys_of sign_of_service ss) (both c r) ≡ has_service c r (map service_made ss)
known_service [] c r = refl
known_service (s ∷ ss) c r = ap (λ b. ((c.0 == s.channel.name.0) && (r.0 == s.role.name.0)) || b) (known_service ss c r)

known_again : (ss : List Service) (c r : NameId) → is_known (keys_in (map sign_of_service ss)) (both c r) ≡ has_service c r (map service_made ss)
known_again [] c r = refl
known_again (s ∷ ss) c r = ap (λ b. ((c.0 == s.channel.name.0) && (r.0 == s.role.name.0)) || b) (known_again ss c r)

single : (ss : List Service) → AreOnce (keys_in (map sign_of_service ss)) → AreSingle (map service_made ss)
single [] h = no_service
single (s ∷ ss) h = one_service (sym (known_again ss s.channel.name s.role.name) ∙ h.0) (single ss h.1)

pub single_services : (ss : List Service) → repeated [] (map sign_of_service ss) ≡ [] → AreSingle (map service_made ss)
single_services ss h = single ss (once (map sign_of_service ss) h)

-- ---- back

or_neither : (a b : Bool) → a ≡ false → b ≡ false → (a || b) ≡ false
or_neither a b h g = cc

new_more : (known : List Key) (y : Key) (ks : List Key) → AreNew known ks → is_known ks y ≡ false → AreNew (known ++ y ∷ []) ks
new_more known y [] h g = tt
new_more known y (k ∷ ks) h g =
    let apart : same_key k y ≡ false = key_turned k y ∙ or_left (same_key y k) (is_known ks y) g in
    let here : is_known (known ++ y ∷ []) k ≡ false = list_any-append (same_key k) known (y ∷ []) ∙ or_neither (is_known known k) (is_known (y ∷ []) k) h.0 (or_neither (same_key k y) false apart refl) in
    (here, new_more known y ks h.1 (or_right (same_key y k) (is_known ks y) g))

new_once : (known : List Key) (ss : List Sign) → AreNew known (keys_in ss) → AreOnce (keys_in ss) → repeated known ss ≡ []
new_once known [] h g = refl
new_once known (s ∷ ss) h g =
    two_nothings (fault_at (is_known known s.key) s.place) (repeated (known ++ s.key ∷ []) ss) (faultless (is_known known s.key) s.place h.0)
    (new_once (known ++ s.key ∷ []) ss (new_more known s.key (keys_in ss) h.1 g.0) g.1)

none_known : (ks : List Key) → AreNew [] ks
none_known [] = tt
none_known (k ∷ ks) = (refl, none_known ks)

pub not_again : (ss : List Sign) → AreOnce (keys_in ss) → repeated [] ss ≡ []
not_again ss h = new_once [] ss (none_known (keys_in ss)) h

module _ {X : Type 0} (f : X → Named) where
  name_once : (xs : List X) → AreDistinct (map (λ y. (f y).name) xs) → AreOnce (keys_in (map (λ y. sign_of_name (f y)) xs))
  name_once [] h = tt
  name_once (y ∷ ys) (one_more g h) = (known_name f ys (f y).name ∙ g, name_once ys h)

  pub names_distinct : (xs : List X) → AreDistinct (map (λ y. (f y).name) xs) → repeated [] (map (λ y. sign_of_name (f y)) xs) ≡ []
  names_distinct xs h = not_again (map (λ y. sign_of_name (f y)) xs) (name_once xs h)

unit_once : (ps : List Procedure) → AreApart (map procedure_made ps) → AreOnce (keys_in (map sign_of_procedure ps))
unit_once [] h = tt
unit_once (q ∷ qs) (one_unit g h) = (known_unit qs q.signature.name.name q.signature.param.name ∙ g, unit_once qs h)

pub units_apart : (ps : List Procedure) → AreApart (map procedure_made ps) → repeated [] (map sign_of_procedure ps) ≡ []
units_apart ps h = not_again (map sign_of_procedure ps) (unit_once ps h)

service_once : (ss : List Service) → AreSingle (map service_made ss) → AreOnce (keys_in (map sign_of_service ss))
service_once [] h = tt
service_once (s ∷ ss) (one_service g h) = (known_again ss s.channel.name s.role.name ∙ g, service_once ss h)

pub services_single : (ss : List Service) → AreSingle (map service_made ss) → repeated [] (map sign_of_service ss) ≡ []
services_single ss h = not_again (map sign_of_service ss) (service_once ss h)
