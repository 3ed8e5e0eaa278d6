-- The partners of a start.
use Rattle.std.proofs.Common.{◌≡◌, ℕ, zero, suc, ◌+◌, ◌==◌, ◌||◌, Bool, true, false, cond, List, [], ◌∷◌, ◌++◌, refl, sym, ap, ◌∙◌, subst, Option, Some, None, arith, is_some}
use Rattle.std.specs.Prelude.{slice_get, map, All, ◌≢◌}
use Rattle.std.proofs.lemmas.Bool.{and_parts}
use Rattle.std.proofs.lemmas.Bool.Decides.{nat_tests}
use Rattle.std.proofs.lemmas.List.Elements.{All-cons, All-nil}
use Rattle.chor_base.specs.declared.names.NameId.{NameId}
use Rattle.endpoint_code.specs.declared.code.CodeNode.{CodeNode}
use Rattle.endpoint_code.specs.declared.code.CodeNode.TheVariants.{Join, Send, Recv, Pick, Branch, Throw, Catch, Set, Show, Host, If, Call, End}
use Rattle.chor_base.specs.declared.event.Why.TheVariants.{Absent}
use Rattle.endpoint_code.specs.declared.endpoints.Endpoints.{Endpoints}
use Rattle.endpoint_code.specs.Network.{Machine, Place, place_of, place_at, paired, one_pair}
use Rattle.endpoint_code.specs.NetworkRuns.{joins_there, is_joined, absent_among}
use Rattle.endpoint_code.specs.Scheduled.{least_joiner, partners, partner}
use Rattle.endpoint_code.specs.Faults.{AreDistinct, no_name, one_more, is_among}
use Rattle.session_starts.specs.Starts.{AllJoin, AreApart, no_part, one_part}
use Rattle.net_core.specs.Starts.{partner_for, IsCast, no_role, one_role}
use Rattle.net_core.proofs.Heads.{joined_least}
use Rattle.session_starts.proofs.Places.{name_same}

pub cast_push : {e : Endpoints} {ms : List Machine} {c : NameId} {p : ℕ} {own : NameId} {rs : List NameId} {ps : List (NameId × ℕ)} → IsCast e ms c p own rs ps → (r : NameId) (q : ℕ) → partner_for e ms c p own r ≡ Some q → IsCast e ms c p own (rs ++ r ∷ []) (ps ++ (r, q) ∷ [])
cast_push no_role r q h = one_role h no_role
cast_push (one_role a b) r q h = one_role a (cast_push b r q h)

some_absent : (e : Endpoints) (ms : List Machine) (c own r : NameId) (rs : List NameId) (p : ℕ) (b t : Bool) → (r.0 == own.0) ≡ b → is_joined e ms c r ≡ t → cond (b || t) (absent_among e ms c own rs) (Some (Absent c r)) ≡ None → (is_some (partner_for e ms c p own r) ≡ true) × (absent_among e ms c own rs ≡ None)
some_absent e ms c own r rs p true t same joined h = (ap (λ (b : Bool). is_some (cond b (Some p) (least_joiner e 0 ms c r))) same, h)
some_absent e ms c own r rs p false true same joined h =
    (ap (λ (b : Bool). is_some (cond b (Some p) (least_joiner e 0 ms c r))) same ∙ joined_least e 0 ms c r ∙ joined, h)
some_absent e ms c own r rs p false false same joined h = absurd cc

pub absent_head : (e : Endpoints) (ms : List Machine) (c own r : NameId) (rs : List NameId) (p : ℕ) → absent_among e ms c own (r ∷ rs) ≡ None → (is_some (partner_for e ms c p own r) ≡ true) × (absent_among e ms c own rs ≡ None)
absent_head e ms c own r rs p h = some_absent e ms c own r rs p (r.0 == own.0) (is_joined e ms c r) refl refl h

-- ---- each joins

least_joins : (e : Endpoints) (p : ℕ) (ms : List Machine) (c r : NameId) (q : ℕ) → least_joiner e p ms c r ≡ Some q → (i : ℕ) × (q ≡ p + i) × (joins_there (place_at e (slice_get ms i)) c r ≡ true)
least_joins e p [] c r q h = absurd cc
least_joins e p (m ∷ ms) c r q h = go (joins_there (place_of e m) c r) refl (λ k. least_joins e (suc p) ms c r q k)
  where
    go : (b : Bool) → joins_there (place_of e m) c r ≡ b → (least_joiner e (suc p) ms c r ≡ Some q → (i : ℕ) × (q ≡ suc p + i) × (joins_there (place_at e (slice_get ms i)) c r ≡ true)) → (i : ℕ) × (q ≡ p + i) × (joins_there (place_at e (slice_get (m ∷ ms) i)) c r ≡ true)
    go true t more =
        let a : Some p ≡ Some q = sym (ap (λ (b : Bool). cond b (Some p) (least_joiner e (suc p) ms c r)) t) ∙ h in
        let same : p ≡ q = cc in
        (zero, omega arith, t)
    go false t more =
        let k = more (sym (ap (λ (b : Bool). cond b (Some p) (least_joiner e (suc p) ms c r)) t) ∙ h) in
        let far : q ≡ suc p + k.0 = k.1 in
        (suc k.0, omega arith, k.2)

partner_joins : (e : Endpoints) (ms : List Machine) (c : NameId) (p : ℕ) (own r : NameId) (q : ℕ) → joins_there (place_at e (slice_get ms p)) c own ≡ true → partner_for e ms c p own r ≡ Some q → joins_there (place_at e (slice_get ms q)) c r ≡ true
partner_joins e ms c p own r q h part = go (r.0 == own.0) refl part
  where
    go : (b : Bool) → (r.0 == own.0) ≡ b → cond b (Some p) (least_joiner e 0 ms c r) ≡ Some q → joins_there (place_at e (slice_get ms q)) c r ≡ true
    go true same k =
        let here : p ≡ q = cc in
        subst (λ (x : ℕ). joins_there (place_at e (slice_get ms x)) c r ≡ true) here (subst (λ (o : NameId). joins_there (place_at e (slice_get ms p)) c o ≡ true) (sym (name_same r own same)) h)
    go false same k =
        let f = least_joins e 0 ms c r q k in
        let here : f.0 ≡ q = let a : q ≡ 0 + f.0 = f.1 in omega arith in
        subst (λ (x : ℕ). joins_there (place_at e (slice_get ms x)) c r ≡ true) here f.2

pub cast_joins : {e : Endpoints} {ms : List Machine} {c : NameId} {p : ℕ} {own : NameId} {rs : List NameId} {ps : List (NameId × ℕ)} → IsCast e ms c p own rs ps → joins_there (place_at e (slice_get ms p)) c own ≡ true → AllJoin e ms c ps
cast_joins {e} {ms} {c} no_role h = All-nil (λ (x : NameId × ℕ). joins_there (place_at e (slice_get ms x.1)) c x.0 ≡ true)
cast_joins {e} {ms} {c} {p} {own} (one_role {r} {q} {rs} {ps} a b) h =
    All-cons (λ (x : NameId × ℕ). joins_there (place_at e (slice_get ms x.1)) c x.0 ≡ true) (r, q) ps (partner_joins e ms c p own r q h a) (cast_joins b h)

-- ---- no process twice

pub same_role : (o : Option Place) (c r s : NameId) → joins_there o c r ≡ true → joins_there o c s ≡ true → (r.0 == s.0) ≡ true
same_role None c r s h k = absurd cc
same_role (Some p) c r s h k = at_node p.node h k
  where
    at_node : (node : CodeNode) → joins_there (Some (record { node = node; sessions = p.sessions })) c r ≡ true → joins_there (Some (record { node = node; sessions = p.sessions })) c s ≡ true → (r.0 == s.0) ≡ true
    at_node (Join d o k next) a b =
        let first = (and_parts (d.0 == c.0) (o.0 == r.0) a).1 in
        let second = (and_parts (d.0 == c.0) (o.0 == s.0) b).1 in
        let e : o.0 ≡ r.0 = let t : (o.0 == r.0) ≡ true = first in grind (arith, nat_tests) in
        let f : o.0 ≡ s.0 = let t : (o.0 == s.0) ≡ true = second in grind (arith, nat_tests) in
        grind (arith, nat_tests)
    at_node (Send k b x next) a b' = absurd cc
    at_node (Recv k b x next) a b' = absurd cc
    at_node (Pick k b l next) a b' = absurd cc
    at_node (Branch k b arms) a b' = absurd cc
    at_node (Throw k b l next) a b' = absurd cc
    at_node (Catch k b l next) a b' = absurd cc
    at_node (Set x v next) a b' = absurd cc
    at_node (Show v next) a b' = absurd cc
    at_node (Host x f v w next) a b' = absurd cc
    at_node (If v t u) a b' = absurd cc
    at_node (Call f o ss) a b' = absurd cc
    at_node End a b' = absurd cc

pub either_false : (a b : Bool) → (a || b) ≡ false → (a ≡ false) × (b ≡ false)
either_false true b h = absurd cc
either_false false b h = (refl, h)

others_apart : {e : Endpoints} {ms : List Machine} {c : NameId} {p : ℕ} {own : NameId} {rs : List NameId} {ps : List (NameId × ℕ)} → IsCast e ms c p own rs ps → joins_there (place_at e (slice_get ms p)) c own ≡ true → (r : NameId) (q : ℕ) → joins_there (place_at e (slice_get ms q)) c r ≡ true → is_among r rs ≡ false → All (λ x. x.1 ≢ q) ps
others_apart no_role h r q j n = All-nil (λ (x : NameId × ℕ). x.1 ≢ q)
others_apart {e} {ms} {c} {p} {own} (one_role {r = s} {q = t} {rs} {ps} a b) h r q j n =
    let parts = either_false (r.0 == s.0) (is_among r rs) n in
    All-cons (λ (x : NameId × ℕ). x.1 ≢ q) (s, t) ps
    (λ (same : t ≡ q).
    let k : joins_there (place_at e (slice_get ms q)) c s ≡ true = subst (λ (x : ℕ). joins_there (place_at e (slice_get ms x)) c s ≡ true) same (partner_joins e ms c p own s t h a) in
    let one : (r.0 == s.0) ≡ true = same_role (place_at e (slice_get ms q)) c r s j k in
    let two : (r.0 == s.0) ≡ false = parts.0 in
    cc)
    (others_apart b h r q j parts.1)

pub cast_apart : {e : Endpoints} {ms : List Machine} {c : NameId} {p : ℕ} {own : NameId} {rs : List NameId} {ps : List (NameId × ℕ)} → IsCast e ms c p own rs ps → AreDistinct rs → joins_there (place_at e (slice_get ms p)) c own ≡ true → AreApart ps
cast_apart no_role d h = no_part
cast_apart {e} {ms} {c} {p} {own} (one_role {r} {q} a b) (one_more n d) h = one_part (others_apart b h r q (partner_joins e ms c p own r q h a) n) (cast_apart b d h)

pub distinct_front : (xs ys : List NameId) → AreDistinct (xs ++ ys) → AreDistinct xs
distinct_front [] ys d = no_name
distinct_front (x ∷ xs) ys (one_more n d) = one_more (front xs n) (distinct_front xs ys d)
  where
    front : (zs : List NameId) → is_among x (zs ++ ys) ≡ false → is_among x zs ≡ false
    front [] h = refl
    front (z ∷ zs) h = let parts = either_false (x.0 == z.0) (is_among x (zs ++ ys)) h in ap (λ (b : Bool). b || is_among x zs) parts.0 ∙ front zs parts.1

-- ---- the parts as the definition of a start has them

pub cast_partners : {e : Endpoints} {ms : List Machine} {c : NameId} {p : ℕ} {own : NameId} {rs : List NameId} {ps : List (NameId × ℕ)} → IsCast e ms c p own rs ps → partners e ms c p own rs ≡ Some (map (λ q. q.1) ps)
cast_partners no_role = refl
cast_partners {e} {ms} {c} {p} {own} (one_role {r} {q} {rs} {ps} a b) = ap (λ (o : Option ℕ). partner o (partners e ms c p own rs)) a ∙ ap (partner (Some q)) (cast_partners b)

pub cast_paired : {e : Endpoints} {ms : List Machine} {c : NameId} {p : ℕ} {own : NameId} {rs : List NameId} {ps : List (NameId × ℕ)} → IsCast e ms c p own rs ps → paired rs (map (λ q. q.1) ps) ≡ Some ps
cast_paired no_role = refl
cast_paired (one_role {r} {q} a b) = ap (one_pair r q) (cast_paired b)
