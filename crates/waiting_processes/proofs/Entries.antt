-- Lists of processes after one of them has changed.
use Rattle.std.proofs.Common.{◌≡◌, ℕ, ◌==◌, ◌&&◌, Bool, true, false, cond, List, [], refl, sym, ap, ◌∙◌, Option, Some, None, arith, if◌then◌else◌}
use Rattle.std.proofs.lemmas.Bool.{eqb-true, and_parts}
use Rattle.std.proofs.lemmas.Bool.Decides.{nat_tests}
use Rattle.std.specs.Map.{lookup, lookup_key}
use Rattle.std.specs.Prelude.{slice_get}
use Rattle.std.specs.Option.{option_map}
use Rattle.std.proofs.lemmas.Option.{slice_get-map}
use Rattle.std.proofs.lemmas.Map.Entries.{hash_map_get_place}
use Rattle.std.specs.Cmp.{IsEquivalence}
use Rattle.std.proofs.lemmas.Map.Made.{lookup_key_passes}
use Rattle.indexmap.specs.IndexMap.{IndexMap, IsUnique, values, with_value_at}
use Rattle.indexmap.proofs.CallerLemmas.{updates-with_value_at}
use Rattle.waiting_processes.specs.declared.waits.Awaited.{Awaited}
use Rattle.waiting_processes.specs.declared.waits.Awaited.TheVariants.{Queue, Channel}
use Rattle.waiting_processes.specs.contracts.waits.AwaitedPartialEq.TheImpl as awaited
use Rattle.chor_base.specs.declared.names.NameId.{NameId}
use Rattle.waiting_processes.specs.Lists.{same_awaited, list_of, StandsAt}

abbrev Entries : Type 0
Entries = List (Awaited × List ℕ)

-- the test of keys that the table makes
abbrev eq_of : Awaited → Awaited → Bool
eq_of = awaited.ghosts.eq

pub alike : (v w : Awaited) → eq_of v w ≡ same_awaited v w
alike (Queue s a b) (Queue t c d) = refl
alike (Channel c) (Channel d) = refl
alike (Queue s a b) (Channel d) = refl
alike (Channel c) (Queue t a b) = refl

look_up : (es : Entries) (v : Awaited) → lookup (eq_of v) es ≡ lookup (same_awaited v) es
look_up es v = ap (λ (f : Awaited → Bool). lookup f es) (λ i w. alike v w i)

cond_list : (b : Bool) (o p : Option (List ℕ)) → list_of (cond b o p) ≡ (if b then list_of o else list_of p)
cond_list true o p = refl
cond_list false o p = refl

-- the list of one is another
pub other_list : (old new : Entries) (w : Awaited) (o : Option (List ℕ)) → ((v : Awaited) → lookup (eq_of v) new ≡ cond (eq_of w v) o (lookup (eq_of v) old))
    → (v : Awaited) → list_of (lookup (same_awaited v) new) ≡ (if same_awaited w v then list_of o else list_of (lookup (same_awaited v) old))
other_list old new w o h v =
    ap list_of (sym (look_up new v) ∙ h v ∙ ap (λ (b : Bool). cond b o (lookup (eq_of v) old)) (alike w v) ∙ ap (λ (p : Option (List ℕ)). cond (same_awaited w v) o p) (look_up old v))
    ∙ cond_list (same_awaited w v) o (lookup (same_awaited v) old)

-- ---- when two are the same

number_itself : (n : ℕ) → (n == n) ≡ true
number_itself n = grind (arith, nat_tests)

name_same : (a b : NameId) → (a.0 == b.0) ≡ true → a ≡ b
name_same a b h = ap (λ (n : ℕ). let r : NameId = record { 0 = n } in r) (eqb-true a.0 b.0 h)

pub is_same : (w v : Awaited) → same_awaited w v ≡ true → w ≡ v
is_same (Queue s a b) (Queue t c d) h =
    let one = and_parts (s == t) ((a.0 == c.0) && (b.0 == d.0)) h in
    let two = and_parts (a.0 == c.0) (b.0 == d.0) one.1 in
    let i = eqb-true s t one.0 in
    let j = name_same a c two.0 in
    let k = name_same b d two.1 in
    ap (λ (x : ℕ). Queue x a b) i ∙ ap (λ (x : NameId). Queue t x b) j ∙ ap (λ (x : NameId). Queue t c x) k
is_same (Channel c) (Channel d) h = ap (λ (x : NameId). Channel x) (name_same c d h)
is_same (Queue s a b) (Channel d) h = absurd cc
is_same (Channel c) (Queue t a b) h = absurd cc

pub same_itself : (w : Awaited) → same_awaited w w ≡ true
same_itself (Queue s a b) = ap (λ (x : Bool). x && ((a.0 == a.0) && (b.0 == b.0))) (number_itself s) ∙ ap (λ (x : Bool). x && (b.0 == b.0)) (number_itself a.0) ∙ number_itself b.0
same_itself (Channel c) = number_itself c.0

-- nothing was there
pub no_list : (old : Entries) (w : Awaited) → lookup (same_awaited w) old ≡ None → (v : Awaited) → list_of (lookup (same_awaited v) old) ≡ (if same_awaited w v then [] else list_of (lookup (same_awaited v) old))
no_list old w h v = go (same_awaited w v) refl
  where
    go : (b : Bool) → same_awaited w v ≡ b → list_of (lookup (same_awaited v) old) ≡ (if b then [] else list_of (lookup (same_awaited v) old))
    go true e = ap (λ (u : Awaited). list_of (lookup (same_awaited u) old)) (sym (is_same w v e)) ∙ ap list_of h
    go false e = refl

-- a list becomes another, and the others stay
pub becomes : (old new : Entries) (w : Awaited) (ps qs : List ℕ) → ps ≡ qs → ((v : Awaited) → lookup (eq_of v) new ≡ cond (eq_of w v) (Some ps) (lookup (eq_of v) old))
    → (v : Awaited) → list_of (lookup (same_awaited v) new) ≡ (if same_awaited w v then qs else list_of (lookup (same_awaited v) old))
becomes old new w ps qs is h v = other_list old new w (Some ps) h v ∙ ap (λ (l : List ℕ). if same_awaited w v then l else list_of (lookup (same_awaited v) old)) is

-- the list that was found
pub found_list : (es : Entries) (w : Awaited) (ps : List ℕ) → Some ps ≡ lookup (eq_of w) es → ps ≡ list_of (lookup (same_awaited w) es)
found_list es w ps h = ap list_of (h ∙ look_up es w)

-- ---- a list whose place is known

eq_laws : IsEquivalence eq_of
eq_laws = record { refl = λ x. alike x x ∙ same_itself x; symm = λ x y. symm x y (eq_of x y) (eq_of y x) refl refl; congr = λ x y z h. ap (λ (u : Awaited). eq_of u z) (same x y h) }
  where
    same : (x y : Awaited) → eq_of x y ≡ true → x ≡ y
    same x y h = is_same x y (sym (alike x y) ∙ h)

    symm : (x y : Awaited) (a b : Bool) → eq_of x y ≡ a → eq_of y x ≡ b → eq_of x y ≡ eq_of y x
    symm x y true b i j = ap (λ (u : Awaited). eq_of u y) (same x y i) ∙ ap (λ (u : Awaited). eq_of y u) (sym (same x y i))
    symm x y false true i j = ap (λ (u : Awaited). eq_of u y) (sym (same y x j)) ∙ ap (λ (u : Awaited). eq_of y u) (same y x j)
    symm x y false false i j = i ∙ sym j

-- the key that a look-up finds is the same
pub found_same : (es : Entries) (w k : Awaited) → Some k ≡ lookup_key (eq_of w) es → same_awaited w k ≡ true
found_same es w k h = sym (alike w k) ∙ lookup_key_passes (eq_of w) es k (sym h)

-- the list at such a place is the one of those that wait for this
pub listed_at : {S : Type 0} (m : IndexMap Awaited (List ℕ) S) (w : Awaited) (i : ℕ) (ps : List ℕ) → IsUnique eq_of m → StandsAt m.entries w i → Some ps ≡ slice_get (values m) i → ps ≡ list_of (lookup (same_awaited w) m.entries)
listed_at m w i ps unique s there =
    let same : w ≡ s.0 = is_same w s.0 s.3 in
    let both : Some ps ≡ Some s.1 = there ∙ slice_get-map (λ (e : Awaited × List ℕ). e.1) m.entries i ∙ ap (option_map (λ (e : Awaited × List ℕ). e.1)) s.2 in
    let is : ps ≡ s.1 = cc in
    is ∙ ap list_of (sym (hash_map_get_place eq_laws m i s.0 s.1 unique s.2) ∙ look_up m.entries s.0 ∙ ap (λ (u : Awaited). lookup (same_awaited u) m.entries) (sym same))

-- it becomes another, and the others stay
pub becomes_at : {S : Type 0} (m : IndexMap Awaited (List ℕ) S) (w : Awaited) (i : ℕ) (ps qs : List ℕ) → IsUnique eq_of m → StandsAt m.entries w i → ps ≡ qs
    → (v : Awaited) → list_of (lookup (same_awaited v) (with_value_at m i ps).entries) ≡ (if same_awaited w v then qs else list_of (lookup (same_awaited v) m.entries))
becomes_at m w i ps qs unique s is v =
    let same : w ≡ s.0 = is_same w s.0 s.3 in
    becomes m.entries (with_value_at m i ps).entries s.0 ps qs is ((updates-with_value_at m i ps eq_laws unique s.0 s.1 s.2).0) v
    ∙ ap (λ (u : Awaited). if same_awaited u v then qs else list_of (lookup (same_awaited v) m.entries)) (sym same)
