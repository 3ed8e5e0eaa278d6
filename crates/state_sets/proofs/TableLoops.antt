-- The table of sets is whole where its loops end.
use Rattle.std.proofs.Common.{drop, ℕ, ◌≡◌, ◌+◌, ◌<◌, ◌≤◌, List, [], ◌∷◌, ◌++◌, Bool, true, false, refl, ap, sym, subst, ◌∙◌, arith, inl, inr, length, take, zero, suc, length-append}
use Rattle.std.specs.declared.alloc.Global.{Global}
use Rattle.std.specs.Prelude.{◌⊎◌, Some, Vec, slice_get, slice_index_or, MatchBool}
use Rattle.std.proofs.lemmas.Option.{slice_get-get_or, slice_get_within}
use Rattle.chor_base.specs.declared.names.NameId.{NameId}
use Rattle.chor_base.specs.Words.{AllDistinct, with_word}
use Rattle.chor_tree.specs.declared.protocol.State.{State}
use Rattle.global_types.specs.Moves.{IsIn}
use Rattle.state_sets.specs.declared.graph.Edge.{Edge}
use Rattle.state_sets.specs.declared.graph.Group.{Group}
use Rattle.state_sets.specs.declared.table.Arm.{Arm}
use Rattle.state_sets.specs.declared.table.Row.{Row}
use Rattle.state_sets.specs.Sets.{Has, row_at, IsSetFor}
use Rattle.state_sets.specs.Graph.{AreApart, group_acts, AreRowsFor}
use Rattle.state_sets.specs.Numbering.{IsNumberOf}
use Rattle.state_sets.specs.Table.{Silent, AreActs, Keeps, HasGrown, IsArm, AreArms, IsTable, AreTooMany, IsWhole, nexts, all_nexts, Counts, group_words, arm_acts, arm_words, HasAscendingArms}
use Rattle.state_sets.specs.Ascending.{Ascend}
use Rattle.state_sets.proofs.Ascents.{arms_ascend_begin, arms_ascend_in, arms_ascend_out, arms_apart_in, arms_apart_out, arms_apart_end}
use Rattle.state_sets.proofs.Counts.{counts_arm, counts_row}
use Rattle.state_sets.proofs.Lists.{in_more, in_push, in_left, in_last, in_of_at}
use Rattle.state_sets.proofs.Tables.{word_kept, word_fresh, grown_begins, grown_more, arm_kept, next_of, arm_of, arms_whole, first_found, table_begins, found_more, table_more, union_is, word_longer}

-- ---- the loop over the groups

pub record ArmsSoFar (gs : List Group) (still : List ℕ) (first : List (List ℕ)) (i : ℕ) (sets : List (List ℕ)) (arms : List Arm) : Type 0 where
  pub longer : length first ≤ length sets
  pub distinct : AllDistinct sets
  pub sizes : (k : ℕ) (v : List ℕ) → slice_get sets k ≡ Some v → (slice_get first k ≡ Some v) ⊎ (length v ≡ length still)
  pub grown : (ss : List State) (r : NameId) → AreActs ss r gs → HasGrown ss r (length still) still first sets
  pub sound : (ss : List State) (r : NameId) → AreActs ss r gs → (arm : Arm) → IsIn arm arms → IsArm ss r (length still) sets still arm
  pub complete : (g : Group) → IsIn g (take i gs) → (e : Edge) → IsIn e g.edges.items → Has still e.from → (arm : Arm) × IsIn arm arms × (arm.act ≡ g.act)
  pub numbered : Counts (length first) (nexts arms) (length sets)
  pub ascend : (names : List (List ℕ)) → Ascend (group_words names gs) → Ascend (arm_words names arms ++ group_words names (drop i gs))
  pub apart : AreApart (group_acts gs) → AreApart (arm_acts arms ++ group_acts (drop i gs))

pub arms_begin : (gs : List Group) (still : List ℕ) (sets : List (List ℕ)) → AllDistinct sets → ArmsSoFar gs still sets 0 sets []
arms_begin gs still sets distinct = record {
  longer = omega arith;
  distinct = distinct;
  sizes = λ k v h. inl h;
  grown = λ ss r acts. grown_begins ss r (length still) still sets;
  sound = λ ss r acts arm m. absurd m;
  complete = λ g m. absurd m;
  numbered = refl;
  ascend = λ names up. arms_ascend_begin names gs up;
  apart = λ h. h;
}

pub group_among : (gs : List Group) (i : ℕ) (g : Group) → i < length gs → g ≡ slice_index_or gs i g → IsIn g gs
group_among gs i g h is = in_of_at g gs i (slice_get-get_or gs i g h ∙ ap (λ (v : Group). Some v) (sym is))

pub sizes_more : (still : List ℕ) (first old new : List (List ℕ)) (word : List ℕ) → new ≡ with_word old word → length word ≡ length still
    → ((k : ℕ) (v : List ℕ) → slice_get old k ≡ Some v → (slice_get first k ≡ Some v) ⊎ (length v ≡ length still))
    → (k : ℕ) (v : List ℕ) → slice_get new k ≡ Some v → (slice_get first k ≡ Some v) ⊎ (length v ≡ length still)
sizes_more still first old new word is len was k v h = go (word_fresh old word k v (subst (λ (s : List (List ℕ)). slice_get s k ≡ Some v) is h)) where
  go : (slice_get old k ≡ Some v) ⊎ (word ≡ v) → (slice_get first k ≡ Some v) ⊎ (length v ≡ length still)
  go (inl e) = was k v e
  go (inr e) = inr (subst (λ (u : List ℕ). length u ≡ length still) e len)

pub grown_over : (gs : List Group) (still : List ℕ) (first : List (List ℕ)) (i : ℕ) (sets : List (List ℕ)) (arms : List Arm) (g : Group) (word : List ℕ) (new : List (List ℕ))
    → ArmsSoFar gs still first i sets arms → i < length gs → g ≡ slice_index_or gs i g
    → ((e : Edge) × IsIn e g.edges.items × Has still e.from)
    → IsSetFor (length still) (λ j. (e : Edge) × IsIn e g.edges.items × Has still e.from × (e.to ≡ j)) word
    → new ≡ with_word sets word
    → (ss : List State) (r : NameId) → AreActs ss r gs → HasGrown ss r (length still) still first new
grown_over gs still first i sets arms g word new was h is allowed set added ss r acts =
    grown_more ss r (length still) still first sets new word (was.grown ss r acts) added (next_of ss r gs g (length still) still word acts (group_among gs i g h is) allowed set)

pub arms_in : (gs : List Group) (still : List ℕ) (first : List (List ℕ)) (i : ℕ) (sets : List (List ℕ)) (arms : List Arm) (g : Group) (word : List ℕ) (new : List (List ℕ)) (arm : Arm) (more : List Arm)
    → ArmsSoFar gs still first i sets arms → i < length gs → g ≡ slice_index_or gs i g
    → ((e : Edge) × IsIn e g.edges.items × Has still e.from)
    → IsSetFor (length still) (λ j. (e : Edge) × IsIn e g.edges.items × Has still e.from × (e.to ≡ j)) word
    → new ≡ with_word sets word → AllDistinct new
    → arm.act ≡ g.act → slice_get new arm.next ≡ Some word
    → more ≡ arms ++ arm ∷ []
    → ArmsSoFar gs still first (i + 1) new more
arms_in gs still first i sets arms g word new arm more was h is allowed set added distinct act at grows = rw grows (record {
  longer = word_longer first sets new word added was.longer;
  distinct = distinct;
  sizes = sizes_more still first sets new word added set.size was.sizes;
  grown = grown_over gs still first i sets arms g word new was h is allowed set added;
  sound = λ ss r acts a m. sound_at ss r acts a (in_push a arm arms m);
  complete = λ k m e o p. complete_at k e o p (in_more k gs i g h m);
  numbered = counts_arm (length first) arms arm sets new word was.numbered added distinct at;
  ascend = λ names up. arms_ascend_in names gs i g arms arm h is act (was.ascend names up);
  apart = λ all. arms_apart_in gs i g arms arm h is act (was.apart all);
})
  where
    keeps : Keeps sets new
    keeps = let P : List (List ℕ) → Type 0 = λ s. Keeps sets s in subst P (sym added) (word_kept sets word)

    sound_at : (ss : List State) (r : NameId) → AreActs ss r gs → (a : Arm) → IsIn a arms ⊎ (arm ≡ a) → IsArm ss r (length still) new still a
    sound_at ss r acts a (inl m) = arm_kept ss r (length still) sets new still a keeps (was.sound ss r acts a m)
    sound_at ss r acts a (inr e) = subst (λ b. IsArm ss r (length still) new still b) e (arm_of ss r gs g (length still) still word new arm acts (group_among gs i g h is) allowed set act at)

    complete_at : (k : Group) (e : Edge) → IsIn e k.edges.items → Has still e.from → IsIn k (take i gs) ⊎ (slice_index_or gs i g ≡ k) → (a : Arm) × IsIn a (arms ++ arm ∷ []) × (a.act ≡ k.act)
    complete_at k e o p (inl m) = let q = was.complete k m e o p in (q.0, in_left q.0 arms (arm ∷ []) q.1, q.2)
    complete_at k e o p (inr s) = (arm, in_last arm arms, act ∙ ap (λ (v : Group). v.act) (is ∙ s))

pub arms_out : (gs : List Group) (still : List ℕ) (first : List (List ℕ)) (i : ℕ) (sets : List (List ℕ)) (arms : List Arm) (g : Group)
    → ArmsSoFar gs still first i sets arms → i < length gs → g ≡ slice_index_or gs i g
    → ((e : Edge) → IsIn e g.edges.items → Has still e.from → ⊥)
    → ArmsSoFar gs still first (i + 1) sets arms
arms_out gs still first i sets arms g was h is not = record {
  longer = was.longer;
  distinct = was.distinct;
  sizes = was.sizes;
  grown = was.grown;
  sound = was.sound;
  complete = λ k m e o p. complete_at k e o p (in_more k gs i g h m);
  numbered = was.numbered;
  ascend = λ names up. arms_ascend_out names gs i g arms h (was.ascend names up);
  apart = λ all. arms_apart_out gs i g arms h (was.apart all);
}
  where
    complete_at : (k : Group) (e : Edge) → IsIn e k.edges.items → Has still e.from → IsIn k (take i gs) ⊎ (slice_index_or gs i g ≡ k) → (a : Arm) × IsIn a arms × (a.act ≡ k.act)
    complete_at k e o p (inl m) = was.complete k m e o p
    complete_at k e o p (inr s) = absurd (not e (subst (λ (v : Group). IsIn e v.edges.items) (sym (is ∙ s)) o) p)

pub arms_end : (gs : List Group) (still : List ℕ) (first : List (List ℕ)) (i : ℕ) (sets : List (List ℕ)) (arms : List Arm) → ArmsSoFar gs still first i sets arms → length gs ≤ i
    → (ss : List State) (r : NameId) → AreActs ss r gs → AreArms ss r (length still) sets still arms
arms_end gs still first i sets arms was h ss r acts = arms_whole ss r gs (length still) i sets still arms acts h (was.sound ss r acts) was.complete (arms_apart_end gs i arms (was.apart acts.apart))

-- a test with its cases
pub is_true : (b : Bool) (P Q : Type 0) → MatchBool b P Q → b ≡ true → P
is_true true P Q m e = m
is_true false P Q m e = absurd (cc)

pub is_false : (b : Bool) (P Q : Type 0) → MatchBool b P Q → b ≡ false → Q
is_false true P Q m e = absurd (cc)
is_false false P Q m e = m

-- ---- the loop over the sets

pub record RowsSoFar (gs : List Group) (reach : List (Vec ℕ Global)) (sets : List (List ℕ)) (rows : List Row) : Type 0 where
  pub done : length rows ≤ length sets
  pub distinct : AllDistinct sets
  pub sizes : (k : ℕ) (v : List ℕ) → slice_get sets k ≡ Some v → length v ≡ length reach
  pub table : (ss : List State) (r : NameId) → AreRowsFor (length reach) (Silent ss r) reach → AreActs ss r gs → IsTable ss r (length reach) sets rows
  pub numbered : Counts 1 (all_nexts rows) (length sets)
  pub ascend : (names : List (List ℕ)) → Ascend (group_words names gs) → HasAscendingArms names rows

pub rows_begin : (gs : List Group) (reach : List (Vec ℕ Global)) (sets : List (List ℕ)) (number : ℕ) (rows : List Row)
    → IsNumberOf (length reach) (λ j. 0 ≡ j) [] sets number → AllDistinct sets → rows ≡ []
    → RowsSoFar gs reach sets rows
rows_begin gs reach sets number rows first distinct empty = rw (first.added, empty) (record {
  done = omega arith;
  distinct = (let P : List (List ℕ) → Type 0 = λ s. AllDistinct s in subst P first.added distinct);
  sizes = λ k v e. sizes_at k v e;
  table = λ ss r are acts. table_begins ss r (length reach) first.word (first_found ss r (length reach) first.word first.set);
  numbered = refl;
  ascend = λ names up row m. absurd m;
})
  where
    sizes_at : (k : ℕ) (v : List ℕ) → slice_get (first.word ∷ []) k ≡ Some v → length v ≡ length reach
    sizes_at zero v e = let s : first.word ≡ v = cc in subst (λ (u : List ℕ). length u ≡ length reach) s first.set.size
    sizes_at (suc k) v e = absurd (cc)

pub rows_in : (gs : List Group) (reach : List (Vec ℕ Global)) (sets new : List (List ℕ)) (rows more : List Row) (word : List ℕ) (row : Row)
    → RowsSoFar gs reach sets rows → slice_get sets (length rows) ≡ Some word
    → IsSetFor (length word) (λ i. (k : ℕ) × Has word k × Has (row_at reach k) i) row.still.items
    → AllDistinct new → length sets ≤ length new
    → ((k : ℕ) (v : List ℕ) → slice_get new k ≡ Some v → (slice_get sets k ≡ Some v) ⊎ (length v ≡ length row.still.items))
    → ((ss : List State) (r : NameId) → AreActs ss r gs → HasGrown ss r (length row.still.items) row.still.items sets new)
    → ((ss : List State) (r : NameId) → AreActs ss r gs → AreArms ss r (length row.still.items) new row.still.items row.arms.items)
    → Counts (length sets) (nexts row.arms.items) (length new)
    → ((names : List (List ℕ)) → Ascend (group_words names gs) → Ascend (arm_words names row.arms.items))
    → more ≡ rows ++ row ∷ []
    → RowsSoFar gs reach new more
rows_in gs reach sets new rows more word row was at still distinct long sizes grown arms numbered ascend is = record {
  done = (let e : length more ≡ length rows + 1 = ap (λ (l : List Row). length l) is ∙ length-append rows (row ∷ []) in let b : length rows < length new = longer in omega (arith, e, b));
  distinct = distinct;
  sizes = λ k v e. sizes_at k v (sizes k v e);
  table = λ ss r are acts. table_more ss r (length reach) sets new rows more word row (was.table ss r are acts) at (union_is ss r (length reach) reach word row.still.items are size still)
      (subst (λ n. HasGrown ss r n row.still.items sets new) still_size (grown ss r acts)) (subst (λ n. AreArms ss r n new row.still.items row.arms.items) still_size (arms ss r acts)) is;
  numbered = subst (λ (l : List Row). Counts 1 (all_nexts l) (length new)) (sym is) (counts_row 1 (length sets) (length new) rows row was.numbered numbered);
  ascend = λ names up o m. ascend_at names up o (in_push o row rows (subst (λ (l : List Row). IsIn o l) is m));
}
  where
    ascend_at : (names : List (List ℕ)) → Ascend (group_words names gs) → (o : Row) → IsIn o rows ⊎ (row ≡ o) → Ascend (arm_words names o.arms.items)
    ascend_at names up o (inl m) = was.ascend names up o m
    ascend_at names up o (inr e) = subst (λ (v : Row). Ascend (arm_words names v.arms.items)) e (ascend names up)

    size : length word ≡ length reach
    size = was.sizes (length rows) word at

    still_size : length row.still.items ≡ length reach
    still_size = still.size ∙ size

    sizes_at : (k : ℕ) (v : List ℕ) → (slice_get sets k ≡ Some v) ⊎ (length v ≡ length row.still.items) → length v ≡ length reach
    sizes_at k v (inl e) = was.sizes k v e
    sizes_at k v (inr e) = e ∙ still_size

    longer : length rows < length new
    longer = let b = slice_get_within sets (length rows) word at in omega (arith, b, long)

pub rows_end : (gs : List Group) (reach : List (Vec ℕ Global)) (sets : List (List ℕ)) (rows : List Row) → RowsSoFar gs reach sets rows → length sets ≤ length rows
    → (ss : List State) (r : NameId) → AreRowsFor (length reach) (Silent ss r) reach → AreActs ss r gs → IsWhole ss r (length reach) rows
rows_end gs reach sets rows was h ss r are acts = record {
  sets = sets;
  distinct = was.distinct;
  whole = (let d = was.done in omega (arith, d, h));
  numbered = was.numbered;
  table = was.table ss r are acts;
}

pub rows_over : (most : ℕ) (gs : List Group) (reach : List (Vec ℕ Global)) (sets new : List (List ℕ)) (rows : List Row) (word still : List ℕ)
    → RowsSoFar gs reach sets rows → slice_get sets (length rows) ≡ Some word
    → IsSetFor (length word) (λ i. (k : ℕ) × Has word k × Has (row_at reach k) i) still
    → AllDistinct new → length new ≡ most + 1
    → ((ss : List State) (r : NameId) → AreActs ss r gs → HasGrown ss r (length still) still sets new)
    → (ss : List State) (r : NameId) → AreRowsFor (length reach) (Silent ss r) reach → AreActs ss r gs → AreTooMany ss r (length reach) most
rows_over most gs reach sets new rows word still was at after distinct many grown ss r are acts = record {
  sets = new;
  distinct = distinct;
  many = many;
  found = found_more ss r (length reach) sets new word still (was.table ss r are acts).found ((was.table ss r are acts).found (length rows) word at)
      (union_is ss r (length reach) reach word still are size after) (subst (λ n. HasGrown ss r n still sets new) (after.size ∙ size) (grown ss r acts));
}
  where
    size : length word ≡ length reach
    size = was.sizes (length rows) word at
