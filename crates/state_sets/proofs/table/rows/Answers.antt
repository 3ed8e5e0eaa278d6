use Rattle.std.proofs.Common.{ℕ, List, [], ◌≡◌, ◌+◌, ◌≤◌, sym, ap, ◌∙◌, subst, length, arith}
use Rattle.std.specs.Prelude.{◌⊎◌, slice_get, Some, vec_len}
use Rattle.chor_base.specs.declared.names.NameId.{NameId}
use Rattle.chor_tree.specs.declared.protocol.State.{State}
use Rattle.state_sets.specs.Table.{AreActs, HasGrown, AreArms, nexts, Counts, group_words, arm_words}
use Rattle.state_sets.specs.Ascending.{Ascend}
use Rattle.state_sets.proofs.TableLoops.{rows_begin, rows_in, rows_end, rows_over}
use Rattle.state_sets.proofs.table.rows.Goals as goal
use Rattle.std.proofs.lemmas.Option.{MatchOption-at_some, MatchOption-at_none}
use Rattle.chor_base.specs.Words.{AllDistinct}
use Rattle.state_sets.specs.Graph.{AreInside}
use Rattle.state_sets.specs.Numbering.{AreSingles, IsNumberOf}
use Rattle.state_sets.specs.Starts.{AreStarts, HaveAllowed}
use Rattle.std.specs.List.Sorted.{IsNonDecreasing}

-- the sets of one state alone are those of the first
first_alone : (n : ℕ) (old new : List (List ℕ)) (number : ℕ) → old ≡ [] → IsNumberOf n (λ j. 0 ≡ j) old new number → IsNumberOf n (λ j. 0 ≡ j) [] new number
first_alone n old new number e was = subst (λ (s : List (List ℕ)). IsNumberOf n (λ j. 0 ≡ j) s new number) e was

none_distinct : (sets : List (List ℕ)) → sets ≡ [] → AllDistinct sets
none_distinct sets e = let P : List (List ℕ) → Type 0 = λ s. AllDistinct s in subst P (sym e) (λ i j w a b. absurd (cc))

pub number_alone-requires-clause-distinct : goal.number_alone-requires-clause-distinct
number_alone-requires-clause-distinct c = none_distinct c.in_ok-numbering.numbering.sets c.in_ok-numbering.ensures.sets

pub loop-alloc-init : goal.loop-alloc-init
loop-alloc-init c =
    let first = first_alone (length c.args.reach.now) c.in_ok-numbering.numbering.sets c.number_alone.new.numbering.sets c.in_ok-number_alone.field-0 c.in_ok-numbering.ensures.sets c.in_ok-number_alone.ensures.number in record {
      so_far = rows_begin c.args.groups.now c.args.reach.now c.number_alone.new.numbering.sets c.in_ok-number_alone.field-0 c.new-rows.result.items first c.in_ok-number_alone.ensures.distinct c.new-rows.ensures.items;
      few = (let e : length c.number_alone.new.numbering.sets ≡ 1 = ap (λ (s : List (List ℕ)). length s) first.added in let some = c.requires.some in omega (arith, e, some));
      singles = c.in_ok-number_alone.ensures.singles;
    }

pub arms-requires-clause-inside : goal.arms-requires-clause-inside
arms-requires-clause-inside c =
    let at : slice_get c.loop-alloc.numbering.sets (length c.loop-alloc.rows.items) ≡ Some c.at.result.now = ap (λ n. slice_get c.loop-alloc.numbering.sets n) (sym (c.len-in-loop-alloc-2.ensures ∙ c.loop-alloc.rows.ok.0)) ∙ c.at.ensures in
    let still = c.in_ok-still.ensures in
    let size : length c.as_slice-in-loop-alloc-3.result.now ≡ length c.args.reach.now = ap (λ (l : List ℕ). length l) c.as_slice-in-loop-alloc-3.ensures.value ∙ still.size ∙ c.loop-alloc.invariant.so_far.sizes (length c.loop-alloc.rows.items) c.at.result.now at in
    subst (λ n. AreInside n c.args.groups.now) (sym size) c.requires.inside

pub arms-requires-clause-singles : goal.arms-requires-clause-singles
arms-requires-clause-singles c =
    let at : slice_get c.loop-alloc.numbering.sets (length c.loop-alloc.rows.items) ≡ Some c.at.result.now = ap (λ n. slice_get c.loop-alloc.numbering.sets n) (sym (c.len-in-loop-alloc-2.ensures ∙ c.loop-alloc.rows.ok.0)) ∙ c.at.ensures in
    let size : length c.as_slice-in-loop-alloc-3.result.now ≡ length c.args.reach.now = ap (λ (l : List ℕ). length l) c.as_slice-in-loop-alloc-3.ensures.value ∙ c.in_ok-still.ensures.size ∙ c.loop-alloc.invariant.so_far.sizes (length c.loop-alloc.rows.items) c.at.result.now at in
    subst (λ (m : ℕ). AreSingles m c.loop-alloc.numbering.sets c.loop-alloc.numbering.singles.items) (sym size) c.loop-alloc.invariant.singles

pub candidates-requires : goal.candidates-requires
candidates-requires c = subst (λ l. AreStarts c.args.groups.now l) (sym c.as_slice-in-loop-alloc.ensures.value) c.in_ok-starts.ensures

pub arms-requires-clause-rising : goal.arms-requires-clause-rising
arms-requires-clause-rising c = let P : List ℕ → Type 0 = λ l. IsNonDecreasing l in subst P (sym c.as_slice-in-loop-alloc-2.ensures.value) c.in_ok-numbers.ensures.rising

pub arms-requires-clause-allowed : goal.arms-requires-clause-allowed
arms-requires-clause-allowed c =
    let same : c.as_slice.result.now ≡ c.as_slice-in-loop-alloc-3.result.now = c.as_slice.ensures.value ∙ sym c.as_slice-in-loop-alloc-3.ensures.value in
    subst (λ l. HaveAllowed c.args.groups.now l c.as_slice-in-loop-alloc-2.result.now) same
    (subst (λ l. HaveAllowed c.args.groups.now c.as_slice.result.now l) (sym c.as_slice-in-loop-alloc-2.ensures.value) c.in_ok-numbers.ensures.allowed)

pub loop-alloc-preserved : goal.loop-alloc-preserved
loop-alloc-preserved c =
    let at : slice_get c.loop-alloc.numbering.sets (length c.loop-alloc.rows.items) ≡ Some c.at.result.now = ap (λ n. slice_get c.loop-alloc.numbering.sets n) (sym (c.len-in-loop-alloc-2.ensures ∙ c.loop-alloc.rows.ok.0)) ∙ c.at.ensures in
    let new = c.arms.new.numbering.sets in
    let sets = c.loop-alloc.numbering.sets in
    let value = c.as_slice-in-loop-alloc-3.ensures.value in
    let few : length new ≤ c.args.most = MatchOption-at_some (length new ≡ c.args.most + 1) (λ v. length new ≤ c.args.most) c.in-Some.arms c.in-Some.is c.in_ok-arms.ensures.count in
    let stays = subst (λ (m : ℕ). AreSingles m new c.arms.new.numbering.singles.items) (ap (λ (l : List ℕ). length l) value ∙ c.in_ok-still.ensures.size ∙ c.loop-alloc.invariant.so_far.sizes (length c.loop-alloc.rows.items) c.at.result.now at) c.in_ok-arms.ensures.singles in
    let so_far = rows_in c.args.groups.now c.args.reach.now sets new c.loop-alloc.rows.items c.push.new.self.items c.at.result.now _ c.loop-alloc.invariant.so_far at c.in_ok-still.ensures c.in_ok-arms.ensures.distinct c.in_ok-arms.ensures.longer
    (subst (λ (l : List ℕ). (k : ℕ) (v : List ℕ) → slice_get new k ≡ Some v → (slice_get sets k ≡ Some v) ⊎ (length v ≡ length l)) value c.in_ok-arms.ensures.sizes)
    (subst (λ (l : List ℕ). (ss : List State) (r : NameId) → AreActs ss r c.args.groups.now → HasGrown ss r (length l) l sets new) value c.in_ok-arms.ensures.grown)
    (λ ss r acts. subst (λ (l : List ℕ). AreArms ss r (length l) new l c.in-Some.arms.items) value (MatchOption-at_some (Unit {0}) (λ v. AreArms ss r (length c.as_slice-in-loop-alloc-3.result.now) new c.as_slice-in-loop-alloc-3.result.now v.items) c.in-Some.arms c.in-Some.is (c.in_ok-arms.ensures.arms ss r acts)))
    (MatchOption-at_some (Unit {0}) (λ v. Counts (length sets) (nexts v.items) (length new)) c.in-Some.arms c.in-Some.is c.in_ok-arms.ensures.numbered)
    (MatchOption-at_some (Unit {0}) (λ v. (names : List (List ℕ)) → Ascend (group_words names c.args.groups.now) → Ascend (arm_words names v.items)) c.in-Some.arms c.in-Some.is c.in_ok-arms.ensures.ascend)
    c.in_ok-push-in-Some.ensures.items in
    record { so_far = so_far; few = few; singles = stays }

pub returns-in-None-clause-table : goal.returns-in-None-clause-table
returns-in-None-clause-table c =
    let at : slice_get c.loop-alloc.numbering.sets (length c.loop-alloc.rows.items) ≡ Some c.at.result.now = ap (λ n. slice_get c.loop-alloc.numbering.sets n) (sym (c.len-in-loop-alloc-2.ensures ∙ c.loop-alloc.rows.ok.0)) ∙ c.at.ensures in
    let new = c.arms.new.numbering.sets in
    let many : length new ≡ c.args.most + 1 = MatchOption-at_none (length new ≡ c.args.most + 1) (λ v. length new ≤ c.args.most) c.in-None.is c.in_ok-arms.ensures.count in
    rows_over c.args.most c.args.groups.now c.args.reach.now c.loop-alloc.numbering.sets new c.loop-alloc.rows.items c.at.result.now c.in_ok-still.still.items c.loop-alloc.invariant.so_far at c.in_ok-still.ensures c.in_ok-arms.ensures.distinct many
    (subst (λ (l : List ℕ). (ss : List State) (r : NameId) → AreActs ss r c.args.groups.now → HasGrown ss r (length l) l c.loop-alloc.numbering.sets new) c.as_slice-in-loop-alloc-3.ensures.value c.in_ok-arms.ensures.grown)

pub returns-clause-ascend : goal.returns-clause-ascend
returns-clause-ascend c = c.loop-alloc.invariant.so_far.ascend

pub returns-clause-table : goal.returns-clause-table
returns-clause-table c = rows_end c.args.groups.now c.args.reach.now c.loop-alloc.numbering.sets c.loop-alloc.rows.items c.loop-alloc.invariant.so_far
    (let a = c.loop-alloc-test.false in let b = c.len.ensures in let d : vec_len c.loop-alloc.rows ≡ length c.loop-alloc.rows.items = c.loop-alloc.rows.ok.0 in let e = c.len-in-loop-alloc.ensures.len in omega (arith, a, b, d, e))

pub arms-requires-clause-few : goal.arms-requires-clause-few
arms-requires-clause-few c = c.loop-alloc.invariant.few

pub arms-requires-clause-distinct : goal.arms-requires-clause-distinct
arms-requires-clause-distinct c = c.loop-alloc.invariant.so_far.distinct

pub returns-clause-few : goal.returns-clause-few
returns-clause-few c = let done = c.loop-alloc.invariant.so_far.done in let few = c.loop-alloc.invariant.few in omega (arith, done, few)
