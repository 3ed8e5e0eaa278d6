-- Walks of all bodies, and the sets from which they take nothing away.
use Rattle.std.proofs.Common.{◌≡◌, ℕ, suc, ◌+◌, ◌<◌, ◌≤◌, ◌==◌, ◌&&◌, ◌||◌, Bool, true, false, length, drop, List, [], ◌∷◌, map, refl, ap, sym, ◌∙◌, subst, inl, inr, ◌⊎◌, arith, Some, None, add-one, drop-cons}
use Rattle.std.specs.Prelude.{Option, Contains, slice_get, slice_index_or}
use Rattle.std.proofs.lemmas.Bool.Decides.{nat_tests}
use Rattle.std.proofs.lemmas.Option.{slice_get-get_or, slice_get_within, get_or_from_slice_get}
use Rattle.std.proofs.lemmas.List.{drop_all}
use Rattle.std.proofs.lemmas.List.Elements.{All-contains_itself, All-weaker, All-map}
use Rattle.chor_base.specs.declared.names.NameId.{NameId}
use Rattle.chor_base.specs.declared.fault.Fault.{Fault}
use Rattle.chor_base.specs.Faults.{earlier, IsFirst}
use Rattle.chor_base.proofs.Members.{nowhere, at_head, at_tail, head_or_tail}
use Rattle.chor_base.proofs.Faults.{earlier_assoc, first_of_either, earlier_none}
use Rattle.chor_tree.specs.declared.file.File.{File}
use Rattle.chor_tree.specs.declared.file.Proc.{Proc}
use Rattle.chor_tree.specs.declared.file.ProcParam.{ProcParam}
use Rattle.chor_tree.specs.Source.{body_of}
use Rattle.chor_semantics.specs.Choreography.{Ref, Named}
use Rattle.chor_semantics.specs.Sources.{procedure_from, procedures_of}
use Rattle.chor_semantics.specs.Blocks.{choreography_of}
use Rattle.chor_semantics.proofs.Blocks.{block_choreography}
use Rattle.well_formed.specs.Linear.{ParameterSets, everyone, given}
use Rattle.linearity.specs.Linear.{set_of, AreWithin}
use Rattle.linearity.specs.Taken.{taken, AreUpper}
use Rattle.linearity.specs.OrderFaults.{main_of, in_main, in_a_procedure}
use Rattle.linearity.proofs.Greatest.{upper_taken, upper_main, settled_greatest}
use Rattle.linear_check.specs.declared.sets.Sets.{Sets}
use Rattle.linear_check.specs.Sets.{holds}
use Rattle.linear_check.specs.Takes.{TakesAway}
use Rattle.linear_check.specs.Tracks.{channel_at, IsUnorderedOfAny}
use Rattle.linear_check.specs.Greatest.{members_in, TakesIn, AreAllUpper, AreAllGreatest, IsUnorderedUnder, IsUnorderedInProcedures}

-- ---- where a procedure begins

abbrev pub refs : List ProcParam → List Ref
refs ps = map (λ x. Named x.0 0) (map (λ q. q.name.name) ps)

turned : (a b : ℕ) → ((a == b) && true) ≡ (b == a)
turned a b = grind (arith, nat_tests)

added : (old e k more : Bool) → ((old || (e && k)) || more) ≡ (old || ((k && e) || more))
added true e k more = refl
added false true true more = refl
added false true false more = refl
added false false true more = refl
added false false false more = refl

or_false : (a : Bool) → (a || false) ≡ a
or_false true = refl
or_false false = refl

from_place : {X : Type 0} (xs : List X) (i : ℕ) (x : X) → slice_get xs i ≡ Some x → drop i xs ≡ x ∷ drop (suc i) xs
from_place xs i x at = drop-cons xs i x (slice_get_within xs i x at) ∙ ap (λ y. y ∷ drop (suc i) xs) (get_or_from_slice_get xs i x x at)

-- one parameter more
pub set_turn : (f : ℕ → Bool) (ps : List ProcParam) (i : ℕ) (p : ProcParam) (x : ℕ) (old new mark whole : Bool) → slice_get ps i ≡ Some p → mark ≡ f i
    → new ≡ (old || ((p.name.name.0 == x) && mark))
    → (old || given f i (refs (drop i ps)) (Named x 0)) ≡ whole
    → (new || given f (i + 1) (refs (drop (i + 1) ps)) (Named x 0)) ≡ whole
set_turn f ps i p x old new mark whole at is_mark is_new so_far =
    let e : i + 1 ≡ suc i = add-one i in
    let more = given f (suc i) (refs (drop (suc i) ps)) (Named x 0) in
    ap (λ j. new || given f j (refs (drop j ps)) (Named x 0)) e
    ∙ ap (λ b. b || more) is_new ∙ added old (p.name.name.0 == x) mark more
    ∙ (λ k. old || ((is_mark k && sym (turned x p.name.name.0) k) || more))
    ∙ ap (λ l. old || given f i (refs l) (Named x 0)) (sym (from_place ps i p at)) ∙ so_far

pub set_end : (f : ℕ → Bool) (ps : List ProcParam) (i x : ℕ) (old whole : Bool) → length ps ≤ i → (old || given f i (refs (drop i ps)) (Named x 0)) ≡ whole → whole ≡ old
set_end f ps i x old whole le so_far =
    sym so_far ∙ ap (λ l. old || given f i (refs l) (Named x 0)) (drop_all i ps le) ∙ or_false old

-- ---- sets that are upper

same_functions : (s t : ParameterSets) → ((g : NameId) (i : ℕ) → s g i ≡ t g i) → s ≡ t
same_functions s t h = λ k g i. h g i k

contains_map : {X Y : Type 0} (g : X → Y) (xs : List X) (x : X) → Contains xs x → Contains (map g xs) (g x)
contains_map g [] x m = absurd (nowhere x m)
contains_map g (y ∷ ys) x m = elim (head_or_tail y ys x m) [ inl e ↦ at_head (g y) (map g ys) (g x) (ap g e) | inr k ↦ at_tail (g y) (map g ys) (g x) (contains_map g ys x k) ]

module _ (f : File) (cs : List NameId) where
  -- a walk of a body, over its choreography
  walked : (p : Proc) (old new : Sets) (c : ℕ) → c < length cs → TakesIn f cs p old new
      → holds new c ≡ taken (channel_at cs c) (holds old c) (set_of (holds old c) (procedure_from f.tree.nodes p)) (procedure_from f.tree.nodes p).body
  walked p old new c lt t =
      same_functions (holds new c) (taken (channel_at cs c) (holds old c) (members_in old p c) (choreography_of (body_of f p.body))) (t c lt)
      ∙ ap (λ b. taken (channel_at cs c) (holds old c) (members_in old p c) b) (block_choreography f.tree.nodes p.body)

  walked_main : (old new : Sets) (c : ℕ) → c < length cs → TakesAway cs (λ n. everyone) (body_of f f.body) old new → holds new c ≡ taken (channel_at cs c) (holds old c) everyone (main_of f)
  walked_main old new c lt t =
      same_functions (holds new c) (taken (channel_at cs c) (holds old c) everyone (choreography_of (body_of f f.body))) (t c lt)
      ∙ ap (λ b. taken (channel_at cs c) (holds old c) everyone b) (block_choreography f.tree.nodes f.body)

  pub upper_turn : (p : Proc) (old new : Sets) → Contains f.procs p → TakesIn f cs p old new → AreAllUpper f cs old → AreAllUpper f cs new
  upper_turn p old new among t u c lt =
      subst (AreUpper (procedures_of f) (main_of f) (channel_at cs c)) (sym (walked p old new c lt t))
      (upper_taken (procedures_of f) (main_of f) (channel_at cs c) (holds old c) (procedure_from f.tree.nodes p) (contains_map (procedure_from f.tree.nodes) f.procs p among) (u c lt))

  pub upper_end : (old new : Sets) → TakesAway cs (λ n. everyone) (body_of f f.body) old new → AreAllUpper f cs old → AreAllUpper f cs new
  upper_end old new t u c lt =
      subst (AreUpper (procedures_of f) (main_of f) (channel_at cs c)) (sym (walked_main old new c lt t)) (upper_main (procedures_of f) (main_of f) (channel_at cs c) (holds old c) (u c lt))

  pub upper_begins : (sets : Sets) → length cs ≤ 128 → ((c : ℕ) (g : NameId) (i : ℕ) → c < 128 → holds sets c g i ≡ true) → AreAllUpper f cs sets
  upper_begins sets few full c lt = λ others m g i h. full c g i (omega arith)

  -- ---- settled sets

  -- the walks of the procedures before this number take nothing away
  abbrev pub AreSettledBelow : Sets → ℕ → Type 0
  AreSettledBelow sets n = (k : ℕ) → k < n → (p : Proc) → slice_get f.procs k ≡ Some p → TakesIn f cs p sets sets

  pub settled_turn : (sets : Sets) (n : ℕ) (p : Proc) → slice_get f.procs n ≡ Some p → TakesIn f cs p sets sets → AreSettledBelow sets n → AreSettledBelow sets (n + 1)
  settled_turn sets n p at t below k lt q e = go (k == n) refl where
    here : (k == n) ≡ true → k ≡ n
    here h = grind (arith, nat_tests)

    under : (k == n) ≡ false → k < n
    under h = let l = lt in grind (arith, nat_tests)

    go : (b : Bool) → (k == n) ≡ b → TakesIn f cs q sets sets
    go true h =
        let same : slice_get f.procs n ≡ Some q = ap (slice_get f.procs) (sym (here h)) ∙ e in
        let is : p ≡ q = cc in subst (λ r. TakesIn f cs r sets sets) is t
    go false h = below k (under h) q e

  pub all_settled : (sets : Sets) (n : ℕ) → length f.procs ≤ n → AreSettledBelow sets n → TakesAway cs (λ c. everyone) (body_of f f.body) sets sets → AreAllUpper f cs sets → AreAllGreatest f cs sets
  all_settled sets n le below t u c lt =
      let a = channel_at cs c in
      let s = holds sets c in
      let g = procedure_from f.tree.nodes in
      settled_greatest (procedures_of f) (main_of f) a s (u c lt)
      (All-map (λ h. AreWithin s (taken a s (set_of s h) h.body)) g f.procs
      (All-weaker (Contains f.procs) (λ p. AreWithin s (taken a s (set_of s (g p)) (g p).body))
      (λ p among. stays (walked p sets sets c lt (each p among))) f.procs (All-contains_itself f.procs)))
      (stays (walked_main sets sets c lt t))
    where
      stays : {s t : ParameterSets} → s ≡ t → AreWithin s t
      stays {s = s} e = λ g i h. sym (ap (λ (r : ParameterSets). r g i) e) ∙ h

      each : (p : Proc) → Contains f.procs p → TakesIn f cs p sets sets
      each p among =
          let k = among.0 in
          let inside : k < length f.procs = among.1 in
          let at : slice_get f.procs k ≡ Some p = slice_get-get_or f.procs k p inside ∙ ap Some among.2 in below k (omega arith) p at

-- ---- the first unordered start

module _ (f : File) (cs : List NameId) (sets : Sets) where
  pub first_begins : (one o : Option Fault) → IsFirst (IsUnorderedOfAny cs (λ c. everyone) (body_of f f.body)) one → IsFirst (IsUnorderedInProcedures f cs sets f.procs) o
      → IsFirst (IsUnorderedUnder f cs sets) (earlier one o)
  first_begins one o h k =
      first_of_either (IsUnorderedOfAny cs (λ c. everyone) (body_of f f.body)) (IsUnorderedInProcedures f cs sets f.procs) (IsUnorderedUnder f cs sets) one o h k
      (λ x u. (u.0, u.1, in_main u.2))
      (λ x u. (u.2.0, u.2.1, in_a_procedure u.1 u.2.2))
      split where
        split : (x : Fault) → IsUnorderedUnder f cs sets x → IsUnorderedOfAny cs (λ c. everyone) (body_of f f.body) x ⊎ IsUnorderedInProcedures f cs sets f.procs x
        split x (c, lt, in_main u) = inl (c, lt, u)
        split x (c, lt, in_a_procedure {h = p} among u) = inr (p, among, (c, lt, u))

  pub first_turn : (old one new : Option Fault) (ys : List Proc) (i : ℕ) (p : Proc) → ys ≡ f.procs → i < length ys → p ≡ slice_index_or ys i p
      → IsFirst (IsUnorderedOfAny cs (members_in sets p) (body_of f p.body)) one → new ≡ earlier old one
      → ((o : Option Fault) → IsFirst (IsUnorderedInProcedures f cs sets (drop i f.procs)) o → IsFirst (IsUnorderedUnder f cs sets) (earlier old o))
      → (o : Option Fault) → IsFirst (IsUnorderedInProcedures f cs sets (drop (i + 1) f.procs)) o → IsFirst (IsUnorderedUnder f cs sets) (earlier new o)
  first_turn old one new ys i p same lt is_p first is_new rest o k =
      let W = IsUnorderedUnder f cs sets in
      let tail = drop (suc i) f.procs in
      let of_tail : IsFirst (IsUnorderedInProcedures f cs sets tail) o = subst (λ j. IsFirst (IsUnorderedInProcedures f cs sets (drop j f.procs)) o) (add-one i) k in
      let both : IsFirst (IsUnorderedInProcedures f cs sets (p ∷ tail)) (earlier one o) =
      first_of_either (IsUnorderedOfAny cs (members_in sets p) (body_of f p.body)) (IsUnorderedInProcedures f cs sets tail) (IsUnorderedInProcedures f cs sets (p ∷ tail)) one o first of_tail
      (λ x u. (p, at_head p tail p refl, u))
      (λ x a. (a.0, at_tail p tail a.0 a.1, a.2))
      (λ x a. elim (head_or_tail p tail a.0 a.1) [ inl e ↦ inl (subst (λ q. IsUnorderedOfAny cs (members_in sets q) (body_of f q.body) x) (sym e) a.2) | inr m ↦ inr (a.0, m, a.2) ]) in
      let at : slice_get f.procs i ≡ Some p = ap (λ l. slice_get l i) (sym same) ∙ slice_get-get_or ys i p lt ∙ ap Some (sym is_p) in
      let all : IsFirst (IsUnorderedInProcedures f cs sets (drop i f.procs)) (earlier one o) = subst (λ l. IsFirst (IsUnorderedInProcedures f cs sets l) (earlier one o)) (sym (from_place f.procs i p at)) both in
      subst (λ q. IsFirst W q) (sym (earlier_assoc old one o) ∙ ap (λ q. earlier q o) (sym is_new)) (rest (earlier one o) all)

  pub first_end : (first : Option Fault) (ys : List Proc) (i : ℕ) → ys ≡ f.procs → length ys ≤ i
      → ((o : Option Fault) → IsFirst (IsUnorderedInProcedures f cs sets (drop i f.procs)) o → IsFirst (IsUnorderedUnder f cs sets) (earlier first o)) → IsFirst (IsUnorderedUnder f cs sets) first
  first_end first ys i same le rest =
      let none : drop i f.procs ≡ [] = drop_all i f.procs (subst (λ l. length l ≤ i) same le) in
      let empty : IsFirst (IsUnorderedInProcedures f cs sets (drop i f.procs)) None = subst (λ l. IsFirst (IsUnorderedInProcedures f cs sets l) None) (sym none) (λ x a. nowhere a.0 a.1) in
      subst (λ q. IsFirst (IsUnorderedUnder f cs sets) q) (earlier_none first) (rest None empty)

pub item_at : {X : Type 0} (ys xs : List X) (i : ℕ) (x : X) → ys ≡ xs → i < length ys → x ≡ slice_index_or ys i x → slice_get xs i ≡ Some x
item_at ys xs i x same lt is = ap (λ l. slice_get l i) (sym same) ∙ slice_get-get_or ys i x lt ∙ ap Some (sym is)

pub item_among : {X : Type 0} (ys xs : List X) (i : ℕ) (x : X) → ys ≡ xs → i < length ys → x ≡ slice_index_or ys i x → Contains xs x
item_among ys xs i x same lt is = (i, subst (λ l. i < length l) same lt, ap (λ l. slice_index_or l i x) (sym same) ∙ sym is)

pub found_among : {X : Type 0} (xs : List X) (i : ℕ) (x : X) → slice_get xs i ≡ Some x → Contains xs x
found_among xs i x at = (i, slice_get_within xs i x at, get_or_from_slice_get xs i x x at)
