-- Bindings as a finite map.
use Rattle.std.proofs.Common.{◌≡◌, ℕ, ◌+◌, ◌<◌, ◌≤◌, length, drop, Bool, true, false, cond, not, List, [], ◌∷◌, ◌++◌, refl, sym, ap, ◌∙◌, Option, Some, None, arith, ◌==◌}
use Rattle.std.specs.Prelude.{map, filter, slice_get, slice_index_or}
use Rattle.std.proofs.lemmas.List.{drop_more, drop_all}
use Rattle.std.specs.Ordering.{nat_cmp, eq_by_cmp}
use Rattle.std.specs.FinMap as fin
use Rattle.std.proofs.lemmas.Cmp.{nat_cmp_total}
use Rattle.std.proofs.lemmas.Bool.{eqb-true, eqb-false, eq-eqb}
use Rattle.std.proofs.lemmas.Bool.Decides.{nat_tests}
use Rattle.chor_base.specs.declared.names.NameId.{NameId}
use Rattle.endpoint_code.specs.Network.{Sessions, passed, passed_one}
use Rattle.endpoint_machine.specs.declared.sessions.Binding.{Binding}
use Rattle.endpoint_machine.specs.Sessions.{sessions_of}

-- what the first binding of a name says
abbrev pub lookup : List Binding → ℕ → Option (ℕ × NameId)
lookup [] q = None
lookup (b ∷ bs) q = cond (b.session.0 == q) (Some (b.sid, b.role)) (lookup bs q)

pub ties : (x y : ℕ) → eq_by_cmp nat_cmp x y ≡ (y == x)
ties x y = grind (arith, nat_tests)

found : (bs : List Binding) (q : ℕ) → fin.find nat_cmp q (map (λ b. (b.session.0, (b.sid, b.role))) bs) ≡ lookup bs q
found [] q = refl
found (b ∷ bs) q =
    ap (λ t. cond t (Some (b.sid, b.role)) (fin.find nat_cmp q (map (λ b. (b.session.0, (b.sid, b.role))) bs))) (ties q b.session.0)
    ∙ ap (cond (b.session.0 == q) (Some (b.sid, b.role))) (found bs q)

pub get_sessions : (bs : List Binding) (q : ℕ) → fin.get (sessions_of bs) q ≡ lookup bs q
get_sessions bs q = fin.get-from_entries nat_cmp_total (map (λ b. (b.session.0, (b.sid, b.role))) bs) q ∙ found bs q

pub same_sessions : (m n : Sessions) → ((q : ℕ) → fin.get m q ≡ fin.get n q) → m ≡ n
same_sessions m n h = fin.same_map nat_cmp_total fin.nat_cmp-IsAntisymmetric m n h

-- ---- a binding less, or one more

both_none : (t : Bool) → lookup [] 0 ≡ cond t None None
both_none true = refl
both_none false = refl

pub lookup_without : (bs : List Binding) (x q : ℕ) → lookup (filter (λ b. not (b.session.0 == x)) bs) q ≡ cond (x == q) None (lookup bs q)
lookup_without [] x q = both_none (x == q)
lookup_without (b ∷ bs) x q = go (b.session.0 == x) refl (lookup_without bs x q)
  where
    rest : List Binding
    rest = filter (λ b. not (b.session.0 == x)) bs

    same : b.session.0 ≡ x → (t : Bool) → (x == q) ≡ t → cond t None (lookup bs q) ≡ cond t None (cond (b.session.0 == q) (Some (b.sid, b.role)) (lookup bs q))
    same h true e = refl
    same h false e = sym (ap (λ t. cond t (Some (b.sid, b.role)) (lookup bs q)) (ap (λ y. y == q) h ∙ e))

    apart : (b.session.0 == x) ≡ false → (t u : Bool) → (x == q) ≡ t → (b.session.0 == q) ≡ u → cond u (Some (b.sid, b.role)) (cond t None (lookup bs q)) ≡ cond t None (cond u (Some (b.sid, b.role)) (lookup bs q))
    apart h true true e f = absurd (eqb-false b.session.0 x h (eqb-true b.session.0 q f ∙ sym (eqb-true x q e)))
    apart h true false e f = refl
    apart h false u e f = refl

    go : (t : Bool) → (b.session.0 == x) ≡ t → lookup rest q ≡ cond (x == q) None (lookup bs q) → lookup (cond (not t) (b ∷ rest) rest) q ≡ cond (x == q) None (cond (b.session.0 == q) (Some (b.sid, b.role)) (lookup bs q))
    go true h before = before ∙ same (eqb-true b.session.0 x h) (x == q) refl
    go false h before = ap (cond (b.session.0 == q) (Some (b.sid, b.role))) before ∙ apart h (x == q) (b.session.0 == q) refl refl

lookup_push : (bs : List Binding) (b : Binding) (q : ℕ) → lookup bs q ≡ None → lookup (bs ++ b ∷ []) q ≡ cond (b.session.0 == q) (Some (b.sid, b.role)) None
lookup_push [] b q h = refl
lookup_push (a ∷ bs) b q h = go (a.session.0 == q) h (λ n. lookup_push bs b q n)
  where
    go : (t : Bool) → cond t (Some (a.sid, a.role)) (lookup bs q) ≡ None → (lookup bs q ≡ None → lookup (bs ++ b ∷ []) q ≡ cond (b.session.0 == q) (Some (b.sid, b.role)) None) → cond t (Some (a.sid, a.role)) (lookup (bs ++ b ∷ []) q) ≡ cond (b.session.0 == q) (Some (b.sid, b.role)) None
    go true h before = absurd cc
    go false h before = before h

lookup_before : (bs : List Binding) (b : Binding) (q : ℕ) → (b.session.0 == q) ≡ false → lookup (bs ++ b ∷ []) q ≡ lookup bs q
lookup_before [] b q h = ap (λ t. cond t (Some (b.sid, b.role)) None) h
lookup_before (a ∷ bs) b q h = ap (cond (a.session.0 == q) (Some (a.sid, a.role))) (lookup_before bs b q h)

turned : {A : Type 0} (x y : ℕ) (a b : A) → cond (eq_by_cmp nat_cmp x y) a b ≡ cond (y == x) a b
turned x y a b = ap (λ t. cond t a b) (ties x y)

pub removed : (bs : List Binding) (x : ℕ) → sessions_of (filter (λ b. not (b.session.0 == x)) bs) ≡ fin.remove (sessions_of bs) x
removed bs x = same_sessions _ _ (λ q.
    get_sessions (filter (λ b. not (b.session.0 == x)) bs) q ∙ lookup_without bs x q
    ∙ sym (fin.get-remove nat_cmp_total (sessions_of bs) x q ∙ turned q x None (fin.get (sessions_of bs) q) ∙ ap (cond (x == q) None) (get_sessions bs q)))

pub put_last : (bs : List Binding) (b : Binding) → sessions_of (filter (λ a. not (a.session.0 == b.session.0)) bs ++ b ∷ []) ≡ fin.insert (sessions_of bs) b.session.0 (b.sid, b.role)
put_last bs b = same_sessions _ _ (λ q.
    get_sessions (rest ++ b ∷ []) q ∙ go q (b.session.0 == q) refl
    ∙ sym (fin.get-insert nat_cmp_total (sessions_of bs) b.session.0 (b.sid, b.role) q ∙ turned q b.session.0 (Some (b.sid, b.role)) (fin.get (sessions_of bs) q) ∙ ap (cond (b.session.0 == q) (Some (b.sid, b.role))) (get_sessions bs q)))
  where
    rest : List Binding
    rest = filter (λ a. not (a.session.0 == b.session.0)) bs

    go : (q : ℕ) (t : Bool) → (b.session.0 == q) ≡ t → lookup (rest ++ b ∷ []) q ≡ cond t (Some (b.sid, b.role)) (lookup bs q)
    go q true h = lookup_push rest b q (lookup_without bs b.session.0 q ∙ ap (λ t. cond t None (lookup bs q)) h) ∙ ap (λ t. cond t (Some (b.sid, b.role)) None) h
    go q false h = lookup_before rest b q h ∙ lookup_without bs b.session.0 q ∙ ap (λ t. cond t None (lookup bs q)) h

-- the first binding is the one of its name
pub found_first : (bs : List Binding) (q : ℕ) (b : Binding) → Some b ≡ slice_get bs 0 → (b.session.0 == q) ≡ true → lookup bs q ≡ Some (b.sid, b.role)
found_first [] q b at h = absurd cc
found_first (a ∷ bs) q b at h = let same : b ≡ a = cc in ap (λ (z : Binding). lookup (z ∷ bs) q) (sym same) ∙ taken _ _ _ h
  where
    taken : {X : Type 0} (t : Bool) (u v : X) → t ≡ true → cond t u v ≡ u
    taken t u v e = ap (λ (w : Bool). cond w u v) e

-- ---- turns of loops

taken : {X : Type 0} (t : Bool) (a b : X) → t ≡ true → cond t a b ≡ a
taken t a b h = ap (λ (u : Bool). cond u a b) h

left_out : {X : Type 0} (t : Bool) (a b : X) → t ≡ false → cond t a b ≡ b
left_out t a b h = ap (λ (u : Bool). cond u a b) h

lookup_turn : (bs : List Binding) (i q : ℕ) (d : Binding) → i < length bs → lookup (drop i bs) q ≡ cond ((slice_index_or bs i d).session.0 == q) (Some ((slice_index_or bs i d).sid, (slice_index_or bs i d).role)) (lookup (drop (i + 1) bs) q)
lookup_turn bs i q d lt = ap (λ (l : List Binding). lookup l q) (drop_more bs i d lt)

pub found_here : (bs : List Binding) (i q : ℕ) (d : Binding) → i < length bs → ((slice_index_or bs i d).session.0 == q) ≡ true → lookup (drop i bs) q ≡ Some ((slice_index_or bs i d).sid, (slice_index_or bs i d).role)
found_here bs i q d lt h = lookup_turn bs i q d lt ∙ taken _ _ _ h

pub not_here : (bs : List Binding) (i q : ℕ) (d : Binding) → i < length bs → ((slice_index_or bs i d).session.0 == q) ≡ false → lookup (drop i bs) q ≡ lookup (drop (i + 1) bs) q
not_here bs i q d lt h = lookup_turn bs i q d lt ∙ left_out _ _ _ h

pub none_left : (bs : List Binding) (i q : ℕ) → length bs ≤ i → lookup (drop i bs) q ≡ None
none_left bs i q le = ap (λ (l : List Binding). lookup l q) (drop_all i bs le)

pub passed_turn : (params names : List NameId) (m : Sessions) (i : ℕ) (d f : NameId) → i < length params → i < length names → passed (drop i params) (drop i names) m ≡ passed_one (fin.get m (slice_index_or names i f).0) (slice_index_or params i d) (passed (drop (i + 1) params) (drop (i + 1) names) m)
passed_turn params names m i d f lt lu = ap (λ (l : List NameId). passed l (drop i names) m) (drop_more params i d lt) ∙ ap (λ (l : List NameId). passed (slice_index_or params i d ∷ drop (i + 1) params) l m) (drop_more names i f lu)

pub passed_none : (params names : List NameId) (m : Sessions) (i : ℕ) → length params ≤ i → passed (drop i params) (drop i names) m ≡ fin.empty
passed_none params names m i le = ap (λ (l : List NameId). passed l (drop i names) m) (drop_all i params le)

-- one session passed
pub passed_set : (params names : List NameId) (m : Sessions) (i j : ℕ) (d f : NameId) (b : ℕ × NameId) → i + 1 ≡ j → i < length params → i < length names → Some b ≡ fin.get m (slice_index_or names i f).0 → fin.insert (passed (drop j params) (drop j names) m) (slice_index_or params i d).0 b ≡ passed (drop i params) (drop i names) m
passed_set params names m i j d f b next lt lu h =
    ap (λ (k : ℕ). fin.insert (passed (drop k params) (drop k names) m) (slice_index_or params i d).0 b) (sym next)
    ∙ ap (λ (o : Option (ℕ × NameId)). passed_one o (slice_index_or params i d) (passed (drop (i + 1) params) (drop (i + 1) names) m)) h
    ∙ sym (passed_turn params names m i d f lt lu)

pub passed_skip : (params names : List NameId) (m : Sessions) (i j : ℕ) (d f : NameId) → i + 1 ≡ j → i < length params → i < length names → None ≡ fin.get m (slice_index_or names i f).0 → passed (drop j params) (drop j names) m ≡ passed (drop i params) (drop i names) m
passed_skip params names m i j d f next lt lu h =
    ap (λ (k : ℕ). passed (drop k params) (drop k names) m) (sym next)
    ∙ ap (λ (o : Option (ℕ × NameId)). passed_one o (slice_index_or params i d) (passed (drop (i + 1) params) (drop (i + 1) names) m)) h
    ∙ sym (passed_turn params names m i d f lt lu)

-- ---- what a procedure's name stands for

get_one : (o : Option (ℕ × NameId)) (k : NameId) (rest : Sessions) (q : ℕ) → (k.0 == q) ≡ false → fin.get (passed_one o k rest) q ≡ fin.get rest q
get_one None k rest q h = refl
get_one (Some b) k rest q h = fin.get-insert nat_cmp_total rest k.0 b q ∙ turned q k.0 (Some b) (fin.get rest q) ∙ left_out _ _ _ h

pub passed_here : (params names : List NameId) (m : Sessions) (i q : ℕ) (d f : NameId) (b : ℕ × NameId) → i < length params → i < length names → ((slice_index_or params i d).0 == q) ≡ true → Some b ≡ fin.get m (slice_index_or names i f).0 → fin.get (passed (drop i params) (drop i names) m) q ≡ Some b
passed_here params names m i q d f b lt lu t h =
    ap (λ (n : Sessions). fin.get n q) (sym (passed_set params names m i (i + 1) d f b refl lt lu h))
    ∙ fin.get-insert nat_cmp_total (passed (drop (i + 1) params) (drop (i + 1) names) m) (slice_index_or params i d).0 b q
    ∙ turned q (slice_index_or params i d).0 (Some b) (fin.get (passed (drop (i + 1) params) (drop (i + 1) names) m) q)
    ∙ taken _ _ _ t

pub passed_not_here : (params names : List NameId) (m : Sessions) (i q : ℕ) (d f : NameId) → i < length params → i < length names → ((slice_index_or params i d).0 == q) ≡ false → fin.get (passed (drop i params) (drop i names) m) q ≡ fin.get (passed (drop (i + 1) params) (drop (i + 1) names) m) q
passed_not_here params names m i q d f lt lu t =
    ap (λ (n : Sessions). fin.get n q) (passed_turn params names m i d f lt lu)
    ∙ get_one (fin.get m (slice_index_or names i f).0) (slice_index_or params i d) (passed (drop (i + 1) params) (drop (i + 1) names) m) q t

pub passed_lacking : (params names : List NameId) (m : Sessions) (i q : ℕ) (d f : NameId) → i < length params → i < length names → None ≡ fin.get m (slice_index_or names i f).0 → fin.get (passed (drop i params) (drop i names) m) q ≡ fin.get (passed (drop (i + 1) params) (drop (i + 1) names) m) q
passed_lacking params names m i q d f lt lu h = ap (λ (n : Sessions). fin.get n q) (sym (passed_skip params names m i (i + 1) d f refl lt lu h))

pub passed_over : (params names : List NameId) (m : Sessions) (i q : ℕ) → length params ≤ i → fin.get (passed (drop i params) (drop i names) m) q ≡ None
passed_over params names m i q le = ap (λ (n : Sessions). fin.get n q) (passed_none params names m i le) ∙ fin.get-empty nat_cmp q

-- ---- a session that a call passes under its own name

kept : (p n : NameId) (b : Binding) → (p.0 == b.session.0) ≡ true → (n.0 == b.session.0) ≡ true → passed (p ∷ []) (n ∷ []) (sessions_of (b ∷ [])) ≡ sessions_of (b ∷ [])
kept p n b hp hn =
    let same = eqb-true p.0 b.session.0 hp in
    let back = eq-eqb b.session.0 n.0 (sym (eqb-true n.0 b.session.0 hn)) in
    ap (λ (o : Option (ℕ × NameId)). passed_one o p fin.empty) (get_sessions (b ∷ []) n.0 ∙ taken _ _ _ back)
    ∙ ap (λ (k : ℕ). fin.insert fin.empty k (b.sid, b.role)) same
    ∙ sym (put_last [] b)

pub kept_passed : (params names : List NameId) (bs : List Binding) (d : NameId) (z : Binding) → length params ≡ 1 → length names ≡ 1 → length bs ≡ 1 → Some z ≡ slice_get bs 0 → ((slice_index_or params 0 d).0 == z.session.0) ≡ true → ((slice_index_or names 0 d).0 == z.session.0) ≡ true → passed params names (sessions_of bs) ≡ sessions_of bs
kept_passed (p ∷ []) (n ∷ []) (b ∷ []) d z lp ln lb at hp hn =
    let same : b ≡ z = cc in kept p n b (ap (λ (a : Binding). p.0 == a.session.0) same ∙ hp) (ap (λ (a : Binding). n.0 == a.session.0) same ∙ hn)
kept_passed [] names bs d z lp ln lb at hp hn = absurd cc
kept_passed (p ∷ q ∷ params) names bs d z lp ln lb at hp hn = absurd (omega (arith, lp))
kept_passed (p ∷ []) [] bs d z lp ln lb at hp hn = absurd cc
kept_passed (p ∷ []) (n ∷ o ∷ names) bs d z lp ln lb at hp hn = absurd (omega (arith, ln))
kept_passed (p ∷ []) (n ∷ []) [] d z lp ln lb at hp hn = absurd cc
kept_passed (p ∷ []) (n ∷ []) (b ∷ c ∷ bs) d z lp ln lb at hp hn = absurd (omega (arith, lb))
