-- Indexes of names, filled from left to right, and the parts of lists that are found by them.
use Rattle.std.proofs.Common.{◌≡◌, ℕ, ◌+◌, ◌-◌, ◌<◌, ◌≤◌, ◌==◌, ◌&&◌, Bool, true, false, List, [], ◌∷◌, ◌++◌, length, take, drop, map, get_or, Option, Some, None, refl, sym, ap, ◌∙◌, subst, arith}
use Rattle.std.specs.Prelude.{All, Contains, slice_get, if◌then◌else◌, option_map, ⊤}
use Rattle.std.specs.Option.{option_eq}
use Rattle.std.proofs.lemmas.Bool.Decides.{nat_tests}
use Rattle.std.proofs.lemmas.List.{take_more, take_all, drop_more, length-take-le}
use Rattle.std.proofs.lemmas.List.Elements.{All-contains, Contains-get_or}
use Rattle.std.proofs.lemmas.Option.{slice_get-map, slice_get-get_or, slice_get_within, get_or_from_slice_get}
use Rattle.chor_base.specs.declared.names.NameId.{NameId}
use Rattle.chor_base.proofs.Lists.{AtEnd, before, last, at_end, slice_get_last}
use Rattle.endpoint_link.specs.declared.unit_name.UnitName.{UnitName}
use Rattle.endpoint_link.specs.declared.index.Standing.{Standing}
use Rattle.endpoint_link.specs.declared.index.Standing.TheVariants.{Once, Again}
use Rattle.endpoint_link.specs.declared.index.Standings.{Standings}
use Rattle.endpoint_link.specs.declared.fault.LinkRule.{LinkRule}
use Rattle.endpoint_link.specs.declared.fault.LinkRule.TheVariants.{K1, K2}
use Rattle.endpoint_link.specs.Linked.{HasCounterpart}
use Rattle.endpoint_link.specs.Judged.{IsVerdict}
use Rattle.endpoint_link.specs.Indexes.{same_unit, standing_of, standing_after, IsIndex, IsPartNamed}
use Rattle.endpoint_link.proofs.Basics.{both, same_name, still_there, at_number}

-- ---- names of units

second_same : (a b : Option NameId) → option_eq (λ (x y : NameId). x.0 == y.0) a b ≡ true → a ≡ b
second_same None None h = refl
second_same None (Some y) h = absurd cc
second_same (Some x) None h = absurd cc
second_same (Some x) (Some y) h = ap (λ n. Some n) (same_name x y h)

number_itself : (n : ℕ) → (n == n) ≡ true
number_itself n = grind (arith, nat_tests)

second_itself : (a : Option NameId) → option_eq (λ (x y : NameId). x.0 == y.0) a a ≡ true
second_itself None = refl
second_itself (Some x) = number_itself x.0

pub unit_is : (x y : UnitName) → same_unit x y ≡ true → x ≡ y
unit_is x y h =
    let parts = both (x.name.0 == y.name.0) (option_eq (λ (a b : NameId). a.0 == b.0) x.second y.second) h in
    let unit : NameId → Option NameId → UnitName = λ n s. record { name = n; second = s } in
    ap (λ n. unit n x.second) (same_name x.name y.name parts.0) ∙ ap (unit y.name) (second_same x.second y.second parts.1)

unit_itself : (x : UnitName) → same_unit x x ≡ true
unit_itself x = ap (λ b. b && option_eq (λ (a b : NameId). a.0 == b.0) x.second x.second) (number_itself x.name.0) ∙ second_itself x.second

other_unit : (x k : UnitName) → same_unit x k ≡ false → k ≡ x → ⊥
other_unit x k differ same = let e : same_unit x k ≡ true = ap (same_unit x) same ∙ unit_itself x in absurd cc

-- one name, and two of them
abbrev pub one_name : NameId → UnitName
one_name a = record { name = a; second = None }

abbrev pub two_names : NameId → NameId → UnitName
two_names a b = record { name = a; second = Some b }

pub same_one : (a b : NameId) → a ≡ b → one_name a ≡ one_name b
same_one a b e = ap one_name e

pub same_two : (a b c d : NameId) → a ≡ b → c ≡ d → two_names a c ≡ two_names b d
same_two a b c d e f = ap (λ n. two_names n c) e ∙ ap (two_names b) f

-- ---- where a name stands

-- no place of the list has the name, or this one alone has it
abbrev pub StandsSo : List UnitName → UnitName → Option Standing → Type 0
StandsSo names k None = (i : ℕ) → slice_get names i ≡ Some k → ⊥
StandsSo names k (Some (Once i)) = (slice_get names i ≡ Some k) × ((j : ℕ) → slice_get names j ≡ Some k → j ≡ i)
StandsSo names k (Some Again) = ⊤

-- so each name stands in the list
abbrev pub AllStandSo : List UnitName → Standings → Type 0
AllStandSo names s = (k : UnitName) → StandsSo names k (standing_of s k)

pub stands_so : (names : List UnitName) (s : Standings) → IsIndex names s → AllStandSo names s
stands_so names s is k = go (standing_of s k) refl
  where
    go : (o : Option Standing) → standing_of s k ≡ o → StandsSo names k o
    go None e = λ i at. is.0 k i e at
    go (Some (Once i)) e = (is.1 k i e, λ j at. is.2 k i j e at)
    go (Some Again) e = tt

-- ---- one name more

module _ (names : List UnitName) (x : UnitName) where
  -- the name that is added
  this : (s : Option Standing) → StandsSo names x s → StandsSo (names ++ x ∷ []) x (Some (standing_after (length names) s))
  this (Some s) h = tt
  this None nowhere = (slice_get_last names x, λ j at. go j (at_end names x x j at))
    where
      go : (j : ℕ) → AtEnd names x x j → j ≡ length names
      go j (before h) = absurd (nowhere j h)
      go j (last e s) = e

  module _ (k : UnitName) (differ : same_unit x k ≡ false) where
    earlier : (j : ℕ) → slice_get (names ++ x ∷ []) j ≡ Some k → slice_get names j ≡ Some k
    earlier j at = go (at_end names x k j at)
      where
        go : AtEnd names x k j → slice_get names j ≡ Some k
        go (before h) = h
        go (last e s) = absurd (other_unit x k differ s)

    -- another name
    other : (s : Option Standing) → StandsSo names k s → StandsSo (names ++ x ∷ []) k s
    other None h = λ j at. h j (earlier j at)
    other (Some (Once i)) h = (still_there names (x ∷ []) i k h.0, λ j at. h.1 j (earlier j at))
    other (Some Again) h = tt

  stands_more : (old new : Standings) (k : UnitName) → AllStandSo names old → standing_of new k ≡ (if same_unit x k then Some (standing_after (length names) (standing_of old x)) else standing_of old k) → StandsSo (names ++ x ∷ []) k (standing_of new k)
  stands_more old new k so put = subst (StandsSo (names ++ x ∷ []) k) (sym put) (go (same_unit x k) refl)
    where
      go : (b : Bool) → same_unit x k ≡ b → StandsSo (names ++ x ∷ []) k (if b then Some (standing_after (length names) (standing_of old x)) else standing_of old k)
      go true e = subst (λ y. StandsSo (names ++ x ∷ []) y (Some (standing_after (length names) (standing_of old x)))) (unit_is x k e) (this (standing_of old x) (so x))
      go false e = other k e (standing_of old k) (so k)

pub index_turn : (names : List UnitName) (i : ℕ) (x : UnitName) (old new : Standings) → slice_get names i ≡ Some x → AllStandSo (take i names) old
    → ((k : UnitName) → standing_of new k ≡ (if same_unit x k then Some (standing_after i (standing_of old x)) else standing_of old k))
    → AllStandSo (take (i + 1) names) new
index_turn names i x old new at so put k =
    let within : i < length names = slice_get_within names i x at in
    let count : length (take i names) ≡ i = length-take-le i names (omega (arith, within)) in
    let more : take (i + 1) names ≡ take i names ++ x ∷ [] = take_more names i x within ∙ ap (λ y. take i names ++ y ∷ []) (get_or_from_slice_get names i x x at) in
    subst (λ l. StandsSo l k (standing_of new k)) (sym more)
    (stands_more (take i names) x old new k so (put k ∙ ap (λ n. if same_unit x k then Some (standing_after n (standing_of old x)) else standing_of old k) (sym count)))

pub index_ends : (names : List UnitName) (i : ℕ) (s : Standings) → length names ≤ i → AllStandSo (take i names) s → IsIndex names s
index_ends names i s l so = (λ k j e at. all_so k None e j at, λ k j e. (all_so k (Some (Once j)) e).0, λ k j m e at. (all_so k (Some (Once j)) e).1 m at)
  where
    all_so : (k : UnitName) (o : Option Standing) → standing_of s k ≡ o → StandsSo names k o
    all_so k o e = subst (λ ks. StandsSo ks k o) (take_all i names l) (subst (StandsSo (take i names) k) e (so k))

-- ---- the part of a list

pub once_inside : {A : Type 0} (names : List UnitName) (name : UnitName) (units : List A) (i : ℕ) → StandsSo names name (Some (Once i)) → length units ≡ length names → i < length units
once_inside names name units i so same = let l : i < length names = slice_get_within names i name so.0 in omega (arith, l, same)

module _ {A : Type 0} (names : List UnitName) (name : UnitName) (units part : List A) where
  pub one_part : (i : ℕ) (v : A) → StandsSo names name (Some (Once i)) → slice_get units i ≡ Some v → part ≡ v ∷ [] → IsPartNamed names name units part
  one_part i v so here is = record {
    inside = λ u there. (i, slice_get_within units i v here, inside u (subst (λ p. Contains p u) is there));
    all = λ j u named at. subst (λ p. Contains p u) (sym is) (0, omega arith, same j u named at);
  }
    where
      inside : (u : A) → Contains (v ∷ []) u → get_or units i u ≡ u
      inside u (k, l, at) = let z : k ≡ 0 = omega (arith, l) in get_or_from_slice_get units i v u here ∙ subst (λ n. get_or (v ∷ []) n u ≡ u) z at

      same : (j : ℕ) (u : A) → slice_get names j ≡ Some name → slice_get units j ≡ Some u → v ≡ u
      same j u named at = let e : Some v ≡ Some u = sym here ∙ ap (slice_get units) (sym (so.1 j named)) ∙ at in cc

  pub cut_part : (i : ℕ) → StandsSo names name (Some (Once i)) → length units ≡ length names → part ≡ take (i + 1 - i) (drop i units) → IsPartNamed names name units part
  cut_part i so same is =
      let l : i < length units = once_inside names name units i so same in
      let v = at_number units i l in
      let one : i + 1 - i ≡ 1 = omega arith in
      let cut : take (i + 1 - i) (drop i units) ≡ v.0 ∷ [] = ap (λ n. take n (drop i units)) one ∙ ap (take 1) (drop_more units i v.0 l ∙ ap (λ y. y ∷ drop (i + 1) units) (get_or_from_slice_get units i v.0 v.0 v.1)) in
      one_part i v.0 so v.1 (is ∙ cut)

  pub whole_part : part ≡ units → IsPartNamed names name units part
  whole_part is = record {
    inside = λ u there. subst (λ p. Contains p u) is there;
    all = λ i u named at. subst (λ p. Contains p u) (sym is) (i, slice_get_within units i u at, get_or_from_slice_get units i u u at);
  }

-- what is known of all units of the list is known of those of the part
pub all_part : {A : Type 0} (P : A → Type 0) (names : List UnitName) (name : UnitName) (units part : List A) → IsPartNamed names name units part → All P units → All P part
all_part P names name units part p all = λ k d l. All-contains P units (get_or part k d) all (p.inside (get_or part k d) (Contains-get_or part k d l))

-- what is known of the units of a part is known of all, where those of the name are what counts
module _ {A : Type 0} (f : A → UnitName) (names : List UnitName) (name : UnitName) (units part : List A) (are : names ≡ map f units) (p : IsPartNamed names name units part) where
  named_inside : (u : A) → Contains units u → f u ≡ name → Contains part u
  named_inside u (i, l, at) same =
      let here : slice_get units i ≡ Some u = slice_get-get_or units i u l ∙ ap Some at in
      p.all i u (ap (λ ks. slice_get ks i) are ∙ slice_get-map f units i ∙ ap (option_map f) here ∙ ap Some same) here

  module _ (Replaces Suits : A → A → Type 0) (x : A) (named : (u : A) → Replaces x u → f u ≡ name) where
    to_whole : HasCounterpart Replaces part x → HasCounterpart Replaces units x
    to_whole (u, there, r) = (u, p.inside u there, r)

    to_part : HasCounterpart Replaces units x → HasCounterpart Replaces part x
    to_part (u, there, r) = (u, named_inside u there (named u r), r)

    pub judged_whole : (v : Option LinkRule) → IsVerdict Replaces Suits part x v → IsVerdict Replaces Suits units x v
    judged_whole None j = record { there = to_whole j.there; suits = λ u there r. j.suits u (named_inside u there (named u r)) r }
    judged_whole (Some K1) j = (to_whole j.0, λ w. j.1 (record { there = to_part w.there; suits = λ u there r. w.suits u (p.inside u there) r }))
    judged_whole (Some K2) j = λ there. j (to_part there)

  pub none_whole : (Named : A → Type 0) → ((u : A) → Named u → f u ≡ name) → All (λ u. Named u → ⊥) part → All (λ u. Named u → ⊥) units
  none_whole Named named none = λ k d l r. All-contains (λ u. Named u → ⊥) part (get_or units k d) none (named_inside (get_or units k d) (Contains-get_or units k d l) (named (get_or units k d) r)) r

pub mapped_twice : {X Y Z : Type 0} (f : X → Y) (h : Y → Z) (xs : List X) → map h (map f xs) ≡ map (λ x. h (f x)) xs
mapped_twice f h [] = refl
mapped_twice f h (x ∷ xs) = ap (λ zs. h (f x) ∷ zs) (mapped_twice f h xs)
