-- The partners of a start, as they are posted.
use Rattle.std.proofs.Common.{◌≡◌, ℕ, zero, suc, ◌+◌, ◌==◌, Bool, true, false, cond, List, [], ◌∷◌, ◌++◌, refl, sym, ap, ◌∙◌, subst, Some, None, is_some, arith}
use Rattle.std.specs.Prelude.{map}
use Rattle.std.proofs.lemmas.List.Elements.{All-cons, All-nil}
use Rattle.std.proofs.lemmas.Bool.Decides.{nat_tests}
use Rattle.chor_base.specs.declared.names.NameId.{NameId}
use Rattle.endpoint_code.specs.Network.{paired, one_pair}
use Rattle.post_office.specs.declared.desk.Desk.{Desk}
use Rattle.post_office.specs.Views.{post_at}
use Rattle.post_office.specs.Starts.{joins_as, least_posted, partner_for, first_absent, IsCast, no_role, one_role, AllPosted}

pub name_same : (a b : NameId) → (a.0 == b.0) ≡ true → a ≡ b
name_same a b h = let e : a.0 ≡ b.0 = grind (arith, nat_tests) in ap (λ (n : ℕ). let r : NameId = record { 0 = n } in r) e

-- ---- going through the board and the roles

pub absent_head : (ds : List Desk) (c : NameId) (p : ℕ) (own r : NameId) (rs : List NameId) → first_absent ds c p own (r ∷ rs) ≡ None → (is_some (partner_for ds c p own r) ≡ true) × (first_absent ds c p own rs ≡ None)
absent_head ds c p own r rs h = go (is_some (partner_for ds c p own r)) refl h
  where
    go : (b : Bool) → is_some (partner_for ds c p own r) ≡ b → cond b (first_absent ds c p own rs) (Some r) ≡ None → (is_some (partner_for ds c p own r) ≡ true) × (first_absent ds c p own rs ≡ None)
    go true e k = (e, k)
    go false e k = absurd cc

pub cast_push : {ds : List Desk} {c : NameId} {p : ℕ} {own : NameId} {rs : List NameId} {ps : List (NameId × ℕ)} → IsCast ds c p own rs ps → (r : NameId) (q : ℕ) → partner_for ds c p own r ≡ Some q → IsCast ds c p own (rs ++ r ∷ []) (ps ++ (r, q) ∷ [])
cast_push no_role r q h = one_role h no_role
cast_push (one_role a b) r q h = one_role a (cast_push b r q h)

-- ---- what a cast is

pub cast_roles : {ds : List Desk} {c : NameId} {p : ℕ} {own : NameId} {rs : List NameId} {ps : List (NameId × ℕ)} → IsCast ds c p own rs ps → map (λ q. q.0) ps ≡ rs
cast_roles no_role = refl
cast_roles (one_role {r} a b) = ap (λ (ns : List NameId). r ∷ ns) (cast_roles b)

least_posts : (p : ℕ) (ds : List Desk) (c r : NameId) (q : ℕ) → least_posted p ds c r ≡ Some q → (i : ℕ) × (q ≡ p + i) × (joins_as (post_at ds i) c r ≡ true)
least_posts p [] c r q h = absurd cc
least_posts p (d ∷ ds) c r q h = go (joins_as d.post c r) refl (λ k. least_posts (suc p) ds c r q k)
  where
    go : (b : Bool) → joins_as d.post c r ≡ b → (least_posted (suc p) ds c r ≡ Some q → (i : ℕ) × (q ≡ suc p + i) × (joins_as (post_at ds i) c r ≡ true)) → (i : ℕ) × (q ≡ p + i) × (joins_as (post_at (d ∷ ds) i) c r ≡ true)
    go true t more =
        let a : Some p ≡ Some q = sym (ap (λ (b : Bool). cond b (Some p) (least_posted (suc p) ds c r)) t) ∙ h in
        let same : p ≡ q = cc in
        (zero, omega arith, t)
    go false t more =
        let k = more (sym (ap (λ (b : Bool). cond b (Some p) (least_posted (suc p) ds c r)) t) ∙ h) in
        let far : q ≡ suc p + k.0 = k.1 in
        (suc k.0, omega arith, k.2)

partner_posts : (ds : List Desk) (c : NameId) (p : ℕ) (own r : NameId) (q : ℕ) → joins_as (post_at ds p) c own ≡ true → partner_for ds c p own r ≡ Some q → joins_as (post_at ds q) c r ≡ true
partner_posts ds c p own r q h part = go (r.0 == own.0) refl part
  where
    go : (b : Bool) → (r.0 == own.0) ≡ b → cond b (Some p) (least_posted 0 ds c r) ≡ Some q → joins_as (post_at ds q) c r ≡ true
    go true same k =
        let here : p ≡ q = cc in
        subst (λ (x : ℕ). joins_as (post_at ds x) c r ≡ true) here (subst (λ (o : NameId). joins_as (post_at ds p) c o ≡ true) (sym (name_same r own same)) h)
    go false same k =
        let f = least_posts 0 ds c r q k in
        let here : f.0 ≡ q = let a : q ≡ 0 + f.0 = f.1 in omega arith in
        subst (λ (x : ℕ). joins_as (post_at ds x) c r ≡ true) here f.2

pub cast_posted : {ds : List Desk} {c : NameId} {p : ℕ} {own : NameId} {rs : List NameId} {ps : List (NameId × ℕ)} → IsCast ds c p own rs ps → joins_as (post_at ds p) c own ≡ true → AllPosted ds c ps
cast_posted {ds} {c} no_role h = All-nil (λ (x : NameId × ℕ). joins_as (post_at ds x.1) c x.0 ≡ true)
cast_posted {ds} {c} {p} {own} (one_role {r} {q} {rs} {ps} a b) h =
    All-cons (λ (x : NameId × ℕ). joins_as (post_at ds x.1) c x.0 ≡ true) (r, q) ps (partner_posts ds c p own r q h a) (cast_posted b h)

-- the parts as the definition of a start has them
pub parts_paired : (ps : List (NameId × ℕ)) → paired (map (λ q. q.0) ps) (map (λ q. q.1) ps) ≡ Some ps
parts_paired [] = refl
parts_paired (q ∷ ps) = ap (one_pair q.0 q.1) (parts_paired ps)
