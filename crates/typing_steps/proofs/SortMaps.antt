-- The sorts of the variables of each process, entry by entry.
use Rattle.std.proofs.Common.{◌≡◌, ℕ, suc, ◌+◌, ◌-◌, ◌<◌, ◌==◌, ◌≤◌, ◌||◌, Bool, true, false, cond, subst, List, [], ◌∷◌, length, drop, map, Option, Some, None, refl, sym, ap, ◌∙◌, arith}
use Rattle.std.specs.Prelude.{slice_index_or, if◌then◌else◌}
use Rattle.std.specs.List.{AllByRecursion, IsDistinct}
use Rattle.std.specs.Ordering.{nat_cmp}
use Rattle.std.specs.Map.{lookup, keys_of}
use Rattle.std.specs.FinMap as fin
use Rattle.std.proofs.lemmas.Cmp.{nat_cmp_total}
use Rattle.std.proofs.lemmas.Bool.Decides.{nat_tests}
use Rattle.std.proofs.lemmas.Map.Keys.{IsDistinct-head, IsDistinct-tail}
use Rattle.std.proofs.lemmas.List.{drop_all}
use Rattle.std.proofs.Math.Seq.{drop-cons, drop-length}
use Rattle.std.proofs.lemmas.Bool.{eqb-true}
use Rattle.chor_base.specs.declared.names.NameId.{NameId}
use Rattle.chor_base.specs.declared.value.Sort.{Sort}
use Rattle.chor_base.specs.Sorts.{Sorts}
use Rattle.chor_base.specs.NameMap.{FromNames, NameMapView}
use Rattle.chor_base.proofs.NameMaps.{ties}
use Rattle.chor_tree.specs.declared.file.Named.{Named}
use Rattle.chor_tree.specs.declared.file.ProcParam.{ProcParam}
use Rattle.chor_tree.specs.declared.tree.Part.{Part}
use Rattle.chor_tree.specs.Names.{is_among}
use Rattle.typing_rules.specs.Environment.{sort_set, set_at, unset, declared_sort, declared_sorts}
use Rattle.typing_steps.specs.Sorts.{sorts_of_map, sorts_of_entry, sorts_among, with_sorts}

-- the entries of maps of sorts
abbrev pub Entries : Type 0
Entries = List (NameId × NameMapView Sort)

abbrev pub entry_of : Entries → NameId → Option (NameMapView Sort)
entry_of es q = lookup (λ k. q.0 == k.0) es

turned : (a b : ℕ) → (a == b) ≡ (b == a)
turned a b = grind (arith, nat_tests)

-- no variable is set in an empty map
pub none_in_empty : sorts_of_map fin.empty ≡ (λ x. None)
none_in_empty = λ i x. fin.get-empty nat_cmp x.0 i

-- ---- one process

-- the entry of one process is another
pub put_one : (old new : Entries) (p : NameId) (v : NameMapView Sort) → ((q : NameId) → entry_of new q ≡ cond (p.0 == q.0) (Some v) (entry_of old q))
    → sorts_among new ≡ with_sorts (sorts_among old) p (sorts_of_map v.map)
put_one old new p v h = λ i q. at q i where
  go : (q : NameId) (b : Bool) → sorts_of_entry (cond b (Some v) (entry_of old q)) ≡ cond b (sorts_of_map v.map) (sorts_among old q)
  go q true = refl
  go q false = refl

  at : (q : NameId) → sorts_among new q ≡ with_sorts (sorts_among old) p (sorts_of_map v.map) q
  at q = ap sorts_of_entry (h q) ∙ go q (p.0 == q.0) ∙ ap (λ b. cond b (sorts_of_map v.map) (sorts_among old q)) (turned p.0 q.0)

-- the last sorts of a process count
pub with_twice : (m : NameId → Sorts) (p : NameId) (s t : Sorts) → with_sorts (with_sorts m p s) p t ≡ with_sorts m p t
with_twice m p s t = λ i q. go q (q.0 == p.0) i where
  go : (q : NameId) (b : Bool) → cond b t (cond b s (m q)) ≡ cond b t (m q)
  go q true = refl
  go q false = refl

-- a variable more
pub set_one : (es : Entries) (p y : NameId) (s : Sort) (m new : FromNames Sort) → sorts_of_map m ≡ sorts_among es p → new ≡ fin.insert m y.0 s
    → with_sorts (sorts_among es) p (sorts_of_map new) ≡ set_at (sorts_among es) p y s
set_one es p y s m new known is_new = λ i q. at q (q.0 == p.0) refl i where
  entry : (x : NameId) → sorts_of_map new x ≡ sort_set (sorts_among es p) y s x
  entry x =
      ap (λ (n : FromNames Sort). fin.get n x.0) is_new ∙ fin.get-insert nat_cmp_total m y.0 s x.0 ∙ ap (λ b. cond b (Some s) (fin.get m x.0)) (ties x.0 y.0)
      ∙ ap (λ (f : Sorts). if x.0 == y.0 then Some s else f x) known

  there : (q : NameId) → (q.0 == p.0) ≡ true → sorts_among es p ≡ sorts_among es q
  there q e = ap (λ (n : ℕ). sorts_among es (record { 0 = n })) (sym (eqb-true q.0 p.0 e))

  at : (q : NameId) (b : Bool) → (q.0 == p.0) ≡ b → cond b (sorts_of_map new) (sorts_among es q) ≡ cond b (sort_set (sorts_among es q) y s) (sorts_among es q)
  at q true e = (λ i x. entry x i) ∙ ap (λ f. sort_set f y s) (there q e)
  at q false e = refl

-- ---- new processes

-- one process more without variables
pub cleared_one : (m : NameId → Sorts) (p : NameId) (ps : List NameId) → unset (with_sorts m p (sorts_of_map fin.empty)) ps ≡ unset m (p ∷ ps)
cleared_one m p ps = ap (λ (s : Sorts). unset (with_sorts m p s) ps) none_in_empty ∙ (λ i q. at q i) where
  go : (q : NameId) (a b : Bool) → cond a (λ x. None) (cond b (λ x. None) (m q)) ≡ cond (b || a) (λ x. None) (m q)
  go q true true = refl
  go q true false = refl
  go q false true = refl
  go q false false = refl

  at : (q : NameId) → unset (with_sorts m p (λ x. None)) ps q ≡ unset m (p ∷ ps) q
  at q = go q (is_among ps q) (q.0 == p.0) ∙ ap (λ b. cond (b || is_among ps q) (λ x. None) (m q)) (turned q.0 p.0)

abbrev pub names_of : List Part → List NameId
names_of ps = map (λ q. q.process.name) ps

pub cleared_turn : (m new : NameId → Sorts) (whole : NameId → Sorts) (ps : List Part) (i : ℕ) (d : Part) (e : FromNames Sort) → i < length ps → e ≡ fin.empty
    → new ≡ with_sorts m (slice_index_or ps i d).process.name (sorts_of_map e) → unset m (names_of (drop i ps)) ≡ whole → unset new (names_of (drop (i + 1) ps)) ≡ whole
cleared_turn m new whole ps i d e lt empty is_new so_far =
    let p = (slice_index_or ps i d).process.name in
    let after : suc i ≡ i + 1 = omega arith in
    let parts : drop i ps ≡ slice_index_or ps i d ∷ drop (i + 1) ps = drop-cons ps i d lt ∙ ap (λ j. slice_index_or ps i d ∷ drop j ps) after in
    ap (λ n. unset n (names_of (drop (i + 1) ps))) (is_new ∙ ap (λ (s : FromNames Sort). with_sorts m p (sorts_of_map s)) empty) ∙ cleared_one m p (names_of (drop (i + 1) ps))
    ∙ ap (λ l. unset m (names_of l)) (sym parts) ∙ so_far

pub cleared_all : (m whole : NameId → Sorts) (ps : List Part) (i : ℕ) → length ps ≤ i → unset m (names_of (drop i ps)) ≡ whole → m ≡ whole
cleared_all m whole ps i past so_far = ap (λ l. unset m (names_of l)) (sym (drop_all i ps past)) ∙ so_far

-- ---- copies, made entry by entry

-- no two entries are of one process
abbrev pub AreApart : Entries → Type 0
AreApart es = IsDistinct (λ p q. p.0 == q.0) (keys_of es)

-- the sorts of these entries, and beyond them others
abbrev pub sorts_over : Entries → (NameId → Sorts) → NameId → Sorts
sorts_over [] m = m
sorts_over (e ∷ es) m = with_sorts (sorts_over es m) e.0 (sorts_of_map e.1.map)

over_nothing : (es : Entries) → sorts_over es (λ p x. None) ≡ sorts_among es
over_nothing [] = refl
over_nothing (e ∷ es) = ap (λ m. with_sorts m e.0 (sorts_of_map e.1.map)) (over_nothing es) ∙ (λ i q. go q (q.0 == e.0.0) i) where
  go : (q : NameId) (b : Bool) → cond b (sorts_of_map e.1.map) (sorts_among es q) ≡ sorts_of_entry (cond b (Some e.1) (entry_of es q))
  go q true = refl
  go q false = refl

-- before anything is copied
pub copied_init : (left es : Entries) (m : NameId → Sorts) → left ≡ es → AreApart es → m ≡ (λ p x. None) → AreApart left × (sorts_over left m ≡ sorts_among es)
copied_init left es m whole apart empty = (subst AreApart (sym whole) apart, (λ i. sorts_over (whole i) (empty i)) ∙ over_nothing es)

swapped : (m : NameId → Sorts) (p q : NameId) (s t : Sorts) → (p.0 == q.0) ≡ false → with_sorts (with_sorts m p s) q t ≡ with_sorts (with_sorts m q t) p s
swapped m p q s t apart = λ i r. at r i where
  at : (r : NameId) → with_sorts (with_sorts m p s) q t r ≡ with_sorts (with_sorts m q t) p s r
  at r = grind (arith, nat_tests)

put_beyond : (es : Entries) (m : NameId → Sorts) (p : NameId) (s : Sorts) → AllByRecursion (λ q. (p.0 == q.0) ≡ false) (keys_of es)
    → sorts_over es (with_sorts m p s) ≡ with_sorts (sorts_over es m) p s
put_beyond [] m p s h = refl
put_beyond (e ∷ es) m p s h =
    ap (λ n. with_sorts n e.0 (sorts_of_map e.1.map)) (put_beyond es m p s h.1) ∙ swapped (sorts_over es m) p e.0 s (sorts_of_map e.1.map) h.0

-- an entry more is copied, of which the sorts alone are the same
pub copied_turn : (left rest : Entries) (m new whole : NameId → Sorts) (p : NameId) (v : NameMapView Sort) (n : FromNames Sort) → left ≡ (p, v) ∷ rest → n ≡ v.map
    → new ≡ with_sorts m p (sorts_of_map n) → AreApart left → sorts_over left m ≡ whole → AreApart rest × (sorts_over rest new ≡ whole)
copied_turn left rest m new whole p v n parts copied is_new apart so_far =
    let all = subst AreApart parts apart in
    let beyond = put_beyond rest m p (sorts_of_map n) (IsDistinct-head (λ p q. p.0 == q.0) p (keys_of rest) all) in (
      IsDistinct-tail (λ p q. p.0 == q.0) p (keys_of rest) all,
      ap (sorts_over rest) is_new ∙ beyond ∙ ap (λ (f : FromNames Sort). with_sorts (sorts_over rest m) p (sorts_of_map f)) copied ∙ ap (λ es. sorts_over es m) (sym parts) ∙ so_far,
    )

-- ---- declarations, made from the last item to the first

-- the sorts of one process, with a declared variable more
variable_first : (v : Named × Sort) (rest : List (Named × Sort)) (m new : FromNames Sort) → new ≡ fin.insert m v.0.name.0 v.1 → sorts_of_map m ≡ declared_sort rest
    → sorts_of_map new ≡ declared_sort (v ∷ rest)
variable_first v rest m new is_new so_far = λ i x. at x i where
  at : (x : NameId) → sorts_of_map new x ≡ declared_sort (v ∷ rest) x
  at x =
      ap (λ (n : FromNames Sort). fin.get n x.0) is_new ∙ fin.get-insert nat_cmp_total m v.0.name.0 v.1 x.0
      ∙ ap (λ b. cond b (Some v.1) (fin.get m x.0)) (ties x.0 v.0.name.0 ∙ turned x.0 v.0.name.0) ∙ ap (λ (f : Sorts). if v.0.name.0 == x.0 then Some v.1 else f x) so_far

pub variable_turn : (vs : List (Named × Sort)) (i : ℕ) (d : Named × Sort) (m kept new : FromNames Sort) → 0 < i → i ≤ length vs → kept ≡ m
    → new ≡ fin.insert kept (slice_index_or vs (i - 1) d).0.name.0 (slice_index_or vs (i - 1) d).1 → sorts_of_map m ≡ declared_sort (drop i vs) → sorts_of_map new ≡ declared_sort (drop (i - 1) vs)
variable_turn vs i d m kept new positive within is_kept is_new so_far =
    let lt : i - 1 < length vs = omega arith in
    let after : suc (i - 1) ≡ i = omega arith in
    let parts : drop (i - 1) vs ≡ slice_index_or vs (i - 1) d ∷ drop i vs = drop-cons vs (i - 1) d lt ∙ ap (λ j. slice_index_or vs (i - 1) d ∷ drop j vs) after in
    variable_first (slice_index_or vs (i - 1) d) (drop i vs) kept new is_new (ap sorts_of_map is_kept ∙ so_far) ∙ ap declared_sort (sym parts)

pub no_variables : (vs : List (Named × Sort)) (m : FromNames Sort) → m ≡ fin.empty → sorts_of_map m ≡ declared_sort (drop (length vs) vs)
no_variables vs m e = ap sorts_of_map e ∙ none_in_empty ∙ ap declared_sort (sym (drop-length vs))

-- the sorts of all processes, with a declared process more
process_first : (q : ProcParam) (rest : List ProcParam) (m : NameId → Sorts) → m ≡ declared_sorts rest → with_sorts m q.name.name (declared_sort q.vars) ≡ declared_sorts (q ∷ rest)
process_first q rest m so_far = ap (λ n. with_sorts n q.name.name (declared_sort q.vars)) so_far ∙ (λ i p. at p i) where
  go : (p : NameId) (b : Bool) → cond b (declared_sort q.vars) (declared_sorts rest p) ≡ (λ x. cond b (declared_sort q.vars x) (declared_sorts rest p x))
  go p true = refl
  go p false = refl

  at : (p : NameId) → with_sorts (declared_sorts rest) q.name.name (declared_sort q.vars) p ≡ declared_sorts (q ∷ rest) p
  at p = go p (p.0 == q.name.name.0) ∙ ap (λ b. (λ x. cond b (declared_sort q.vars x) (declared_sorts rest p x))) (turned p.0 q.name.name.0)

pub process_turn : (qs : List ProcParam) (i : ℕ) (q : ProcParam) (m new : NameId → Sorts) (s : Sorts) → 0 < i → i ≤ length qs → q ≡ slice_index_or qs (i - 1) q
    → s ≡ declared_sort q.vars → new ≡ with_sorts m q.name.name s → m ≡ declared_sorts (drop i qs) → new ≡ declared_sorts (drop (i - 1) qs)
process_turn qs i q m new s positive within is_q is_s is_new so_far =
    let lt : i - 1 < length qs = omega arith in
    let after : suc (i - 1) ≡ i = omega arith in
    let parts : drop (i - 1) qs ≡ q ∷ drop i qs = drop-cons qs (i - 1) q lt ∙ ap (λ e. e ∷ drop (suc (i - 1)) qs) (sym is_q) ∙ ap (λ j. q ∷ drop j qs) after in
    is_new ∙ ap (with_sorts m q.name.name) is_s ∙ process_first q (drop i qs) m so_far ∙ ap declared_sorts (sym parts)

pub no_processes : (qs : List ProcParam) (m : NameId → Sorts) → m ≡ (λ p x. None) → m ≡ declared_sorts (drop (length qs) qs)
no_processes qs m e = e ∙ ap declared_sorts (sym (drop-length qs))
