-- The first configuration of a typed source is typed, and what calls ask stays under other references.
use Rattle.std.proofs.Common.{◌≡◌, ℕ, zero, suc, ◌<◌, ◌≤◌, ◌+◌, List, [], ◌∷◌, map, length, refl, sym, ap, ◌∙◌, subst, Some, None, Option, Bool, true, false, ◌==◌, ◌||◌, ◌&&◌, arith, if◌then◌else◌}
use Rattle.std.proofs.lemmas.Bool.Decides.{nat_tests}
use Rattle.std.specs.Prelude.{nat_lt}
use Rattle.std.proofs.lemmas.Bool.{eqb-true}
use Rattle.chor_base.specs.declared.names.NameId.{NameId}
use Rattle.chor_tree.specs.declared.file.File.{File}
use Rattle.chor_tree.specs.declared.file.Named.{Named as Written}
use Rattle.chor_tree.specs.Names.{is_among, names_in, scope_of_main}
use Rattle.chor_tree.specs.Source.{body_of}
use Rattle.chor_semantics.specs.Choreography.{Ref, Live, Named, ref_eq, named_by, instance_of}
use Rattle.chor_semantics.specs.Sources.{numbered, first_configuration}
use Rattle.well_formed.proofs.References.{self_ref, true_eq, differ_ref}
use Rattle.typing_rules.specs.Environment.{at_main}
use Rattle.typed_sources.specs.Context.{Context}
use Rattle.typed_sources.specs.Changes.{HoldersInScope}
use Rattle.typed_sources.proofs.Small.{on_or_off}
use Rattle.typed_sources.specs.Renames.{Renames, Stays}
use Rattle.typed_sources.specs.Stands.{states_in, Stands}
use Rattle.typed_sources.proofs.Statements.{ProtocolsFit}
use Rattle.typed_sources.specs.Calls.{IsTypedCall}
use Rattle.typed_sources.proofs.Calls.{call_put}
use Rattle.typed_sources.proofs.Instances.{Deep}
use Rattle.typed_sources.proofs.Bodies.{IsTypedThere, instance_typed}
use Rattle.typed_sources.proofs.Arguments.{named}
use Rattle.typed_sources.proofs.Sources.{IsFaultless, block_typed}
use Rattle.chor_semantics.specs.Blocks.{choreography_of}
use Rattle.chor_semantics.proofs.Blocks.{choreography_at}

-- ---- calls

-- what a call asks holds under other references
pub calls_stay : (f : File) (u v : Ref → Ref) (d e : Context) → Renames (states_in f) u v d e → Stays u v d e → (h : NameId) (k : ℕ) (ps ss : List Ref) → IsTypedCall f d h k ps ss → IsTypedCall f e h k (map u ps) (map v ss)
calls_stay f u v d e n st h k ps ss w = call_put f u v d e n h k k ps ss (λ x c l. let z = w.deeper x c l in ((st.process x c z.0).1, (st.session x c z.1).1)) w

-- ---- main

-- what is known first
abbrev pub first_known : ℕ → Ref → Bool
first_known n (Live m) = nat_lt m n
first_known n (Named x d) = false

abbrev pub first_context : ℕ → Context
first_context n = record { protocol = λ s. None; done = λ s r. []; holder = λ s r. None; sorts = λ p x. None; known = first_known n }

abbrev source_known : List Written → Ref → Bool
source_known ps (Named x zero) = is_among (names_in ps) (named x)
source_known ps (Named x (suc d)) = false
source_known ps (Live n) = false

abbrev pub source_context : List Written → Context
source_context ps = record { protocol = λ s. None; done = λ s r. []; holder = λ s r. None; sorts = λ p x. None; known = source_known ps }

pub record IsNumber (ps : List Written) (n y : ℕ) : Type 0 where
  pub number : ℕ
  pub is : numbered n ps y ≡ Live number
  pub least : n ≤ number
  pub below : number < n + length ps

number_of : (ps : List Written) (n y : ℕ) → is_among (names_in ps) (named y) ≡ true → IsNumber ps n y
number_of [] n y h = absurd cc
number_of (p ∷ ps) n y h = go (p.name.0 == y) refl h (number_of ps (suc n) y)
  where
    go : (b : Bool) → (p.name.0 == y) ≡ b → (b || is_among (names_in ps) (named y)) ≡ true → (is_among (names_in ps) (named y) ≡ true → IsNumber ps (suc n) y) → IsNumber (p ∷ ps) n y
    go true i j ih = record { number = n; is = ap (λ b. if b then Live n else numbered (suc n) ps y) i; least = omega arith; below = omega arith }
    go false i j ih =
        let w = ih j in
        let l : suc n ≤ w.number = w.least in
        let m : w.number < suc n + length ps = w.below in
        record { number = w.number; is = ap (λ b. if b then Live n else numbered (suc n) ps y) i ∙ w.is; least = omega (arith, l); below = omega (arith, m) }

numbers_differ : (ps : List Written) (n y z : ℕ) → is_among (names_in ps) (named y) ≡ true → is_among (names_in ps) (named z) ≡ true → (y == z) ≡ false → ref_eq (numbered n ps y) (numbered n ps z) ≡ false
numbers_differ [] n y z h i o = absurd cc
numbers_differ (p ∷ ps) n y z h i o = go (p.name.0 == y) (p.name.0 == z) refl refl h i (numbers_differ ps (suc n) y z)
  where
    clash : (b : Bool) → b ≡ true → b ≡ false → ⊥
    clash b u v = cc

    later : (u : ℕ) → is_among (names_in ps) (named u) ≡ true → ref_eq (Live n) (numbered (suc n) ps u) ≡ false
    later u m =
        let w = number_of ps (suc n) u m in
        let l : suc n ≤ w.number = w.least in
        differ_ref (Live n) (numbered (suc n) ps u) (λ e. let same : Live n ≡ Live w.number = e ∙ w.is in let num : n ≡ w.number = cc in absurd (omega (arith, l, num)))

    flip : (r s : Ref) → ref_eq r s ≡ false → ref_eq s r ≡ false
    flip r s k = differ_ref s r (λ e. clash (ref_eq r s) (ap (λ x. ref_eq x s) (sym e) ∙ self_ref s) k)

    go : (b c : Bool) → (p.name.0 == y) ≡ b → (p.name.0 == z) ≡ c → (b || is_among (names_in ps) (named y)) ≡ true → (c || is_among (names_in ps) (named z)) ≡ true
        → (is_among (names_in ps) (named y) ≡ true → is_among (names_in ps) (named z) ≡ true → (y == z) ≡ false → ref_eq (numbered (suc n) ps y) (numbered (suc n) ps z) ≡ false)
        → ref_eq (if b then Live n else numbered (suc n) ps y) (if c then Live n else numbered (suc n) ps z) ≡ false
    go true true j k l m ih = absurd (clash (y == z) (ap (λ w. w == z) (sym (eqb-true p.name.0 y j) ∙ eqb-true p.name.0 z k) ∙ true_eq z) o)
    go true false j k l m ih = later z m
    go false true j k l m ih = flip (Live n) (numbered (suc n) ps y) (later y l)
    go false false j k l m ih = ih l m o

module _ (f : File) where
  abbrev count : ℕ
  count = length f.processes

  less : (m n : ℕ) → m < n → nat_lt m n ≡ true
  less m n h = grind (arith, nat_tests)

  known : (r : Ref) → source_known f.processes r ≡ true → first_known (length f.processes) (named_by (numbered 0 f.processes) r) ≡ true
  known (Live n) h = absurd cc
  known (Named y (suc c)) h = absurd cc
  known (Named y zero) h = let w = number_of f.processes 0 y h in let b : w.number < 0 + length f.processes = w.below in ap (first_known (length f.processes)) w.is ∙ less w.number (length f.processes) (omega (arith, b))

  apart : (r s : Ref) → source_known f.processes r ≡ true → source_known f.processes s ≡ true → ref_eq (named_by (numbered 0 f.processes) r) (named_by (numbered 0 f.processes) s) ≡ ref_eq r s
  apart (Live n) s h i = absurd cc
  apart (Named y (suc c)) s h i = absurd cc
  apart (Named y zero) (Live n) h i = absurd cc
  apart (Named y zero) (Named z (suc c)) h i = absurd cc
  apart (Named y zero) (Named z zero) h i = go (y == z) refl
    where
      go : (b : Bool) → (y == z) ≡ b → ref_eq (numbered 0 f.processes y) (numbered 0 f.processes z) ≡ ((y == z) && true)
      go true l = ap (λ u. ref_eq (numbered 0 f.processes u) (numbered 0 f.processes z)) (eqb-true y z l) ∙ self_ref (numbered 0 f.processes z) ∙ sym (ap (λ b. b && true) l)
      go false l = numbers_differ f.processes 0 y z h i l ∙ sym (ap (λ b. b && true) l)

  nothing : {A : Type 0} (x : A) → None ≡ Some x → ⊥
  nothing x h = cc

  first_names : Renames (states_in f) (named_by (numbered 0 f.processes)) (named_by (λ y. Named y 0)) (source_context f.processes) (first_context (length f.processes))
  first_names = record {
    live = λ n. refl;
    known = known;
    apart = apart;
    sorts = λ r k x s i. absurd (nothing s i);
    protocol = λ s k i. absurd (nothing k i);
    apart_sessions = λ s u i j. absurd (on_or_off None refl i);
    done = λ s i r. absurd (on_or_off None refl i);
    holder = λ s r q i. absurd (nothing q i);
    none = λ n r i j. refl;
    held = λ s r q i. absurd (nothing q i);
    others = λ t k i. absurd (nothing k i);
  }

  first_deep : Deep 0 (source_context f.processes) (first_context (length f.processes))
  first_deep = record { process = λ x i. refl; session = λ x i. refl; flat = flat; deeper = λ x c l. (refl, refl) }
    where
      flat : (x c : ℕ) → 0 < c → (source_known f.processes (Named x c) ≡ false) × (◌≡◌ {A = Option NameId} None None)
      flat x zero l = absurd (omega (arith, l))
      flat x (suc c) l = (refl, refl)

  first_held : HoldersInScope (source_context f.processes)
  first_held = record { session = λ s r q i. absurd (nothing q i); process = λ s r q i. absurd (nothing q i) }

  first_stands : Stands f (scope_of_main f) at_main (source_context f.processes)
  first_stands = record {
    known = λ x. refl;
    sorts = λ x. refl;
    protocol = λ s. refl;
    reached = λ s st i. absurd (nothing st i);
    holder = λ s r. refl;
    one_role = λ s a b p i j. absurd (nothing p i);
    held = λ s r i. refl;
    of_source = λ t p i. absurd (nothing p i);
    deeper = λ x d l. first_deep.flat x d l;
  }

  -- The first configuration of a source without fault is typed
  pub main_typed : ProtocolsFit f → IsFaultless f (scope_of_main f) at_main (body_of f f.body) → IsTypedThere f (first_context (length f.processes)) (first_configuration f).tree
  main_typed good ok =
      let both = block_typed f good (body_of f f.body) (scope_of_main f) at_main ok (source_context f.processes) first_stands in
      let start = instance_of 0 (numbered 0 f.processes) (λ y. Named y 0) in
      subst (IsTypedThere f (first_context (length f.processes))) (ap start (sym (choreography_at f.tree.nodes f.body)))
      (instance_typed f 0 (numbered 0 f.processes) (λ y. Named y 0) (source_context f.processes) (first_context (length f.processes)) first_names first_deep first_held (choreography_of (body_of f f.body)) both.0 both.1)
