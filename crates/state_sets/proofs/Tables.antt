-- The table of a role's view, set by set.
use Rattle.std.proofs.Common.{ℕ, ◌≡◌, ◌+◌, ◌<◌, ◌≤◌, List, [], ◌∷◌, ◌++◌, Bool, true, false, refl, ap, sym, subst, ◌∙◌, arith, inl, inr, length, take, zero, suc, length-append}
use Rattle.std.specs.declared.alloc.Global.{Global}
use Rattle.std.specs.Prelude.{◌⊎◌, Some, Vec, slice_get, slice_index_or, slice_set, bytes_eq, if◌then◌else◌}
use Rattle.std.specs.List.{list_any}
use Rattle.std.proofs.lemmas.List.{take_all}
use Rattle.std.proofs.lemmas.Option.{slice_get-get_or, slice_get_within}
use Rattle.chor_base.specs.declared.names.NameId.{NameId}
use Rattle.chor_base.specs.Words.{with_word}
use Rattle.chor_tree.specs.declared.protocol.State.{State}
use Rattle.global_types.specs.Moves.{IsIn, Leads}
use Rattle.global_types.specs.Paths.{Action, Still, At}
use Rattle.state_sets.specs.declared.graph.Edge.{Edge}
use Rattle.state_sets.specs.declared.graph.Group.{Group}
use Rattle.state_sets.specs.declared.table.Arm.{Arm}
use Rattle.state_sets.specs.declared.table.Row.{Row}
use Rattle.state_sets.specs.Moves.{action_of}
use Rattle.state_sets.specs.Sets.{Has, row_at, IsSetFor}
use Rattle.state_sets.specs.Graph.{AreApart, AreRowsFor}
use Rattle.state_sets.specs.Table.{Silent, AreActs, Target, IsNext, Keeps, HasGrown, IsArm, AreArms, IsRow, IsFound, IsTable, arm_acts}
use Rattle.state_sets.proofs.Lists.{in_more, in_kept, in_new, in_of_at}
use Rattle.state_sets.proofs.Sets.{set_put, set_same, has_within}
use Rattle.state_sets.proofs.Walks.{at_is_still, still_silent, still_is_tail, at_after, at_before, nil_not_push}

-- ---- edges from a set

pub allowed_more : (still : List ℕ) (es : List Edge) (i : ℕ) (d : Edge) → i < length es
    → ((e : Edge) → IsIn e (take i es) → Has still e.from → ⊥) → (Has still (slice_index_or es i d).from → ⊥)
    → (e : Edge) → IsIn e (take (i + 1) es) → Has still e.from → ⊥
allowed_more still es i d h none not e among has = go (in_more e es i d h among) where
  go : IsIn e (take i es) ⊎ (slice_index_or es i d ≡ e) → ⊥
  go (inl o) = none e o has
  go (inr s) = not (subst (λ (v : Edge). Has still v.from) (sym s) has)

pub allowed_whole : (still : List ℕ) (es : List Edge) (i : ℕ) → length es ≤ i → ((e : Edge) → IsIn e (take i es) → Has still e.from → ⊥) → (e : Edge) → IsIn e es → Has still e.from → ⊥
allowed_whole still es i h none e among has = none e (subst (λ l. IsIn e l) (sym (take_all i es h)) among) has

pub target_in : (n : ℕ) (still : List ℕ) (es : List Edge) (i : ℕ) (d : Edge) (old : List ℕ) → i < length es → ((e : Edge) → IsIn e es → e.to < n)
    → Has still (slice_index_or es i d).from
    → IsSetFor n (λ j. (e : Edge) × IsIn e (take i es) × Has still e.from × (e.to ≡ j)) old
    → IsSetFor n (λ j. (e : Edge) × IsIn e (take (i + 1) es) × Has still e.from × (e.to ≡ j)) (slice_set old (slice_index_or es i d).to 1)
target_in n still es i d old h inside has was = set_same n _ _ _ (set_put n _ old (slice_index_or es i d).to was to) more less
  where
    to : (slice_index_or es i d).to < n
    to = inside (slice_index_or es i d) (in_of_at (slice_index_or es i d) es i (slice_get-get_or es i d h))

    more : (j : ℕ) → ((e : Edge) × IsIn e (take i es) × Has still e.from × (e.to ≡ j)) ⊎ ((slice_index_or es i d).to ≡ j) → (e : Edge) × IsIn e (take (i + 1) es) × Has still e.from × (e.to ≡ j)
    more j (inl p) = (p.0, in_kept p.0 es i d h p.1, p.2, p.3)
    more j (inr e) = (slice_index_or es i d, in_new es i d h, has, e)

    less : (j : ℕ) → (e : Edge) × IsIn e (take (i + 1) es) × Has still e.from × (e.to ≡ j) → ((e : Edge) × IsIn e (take i es) × Has still e.from × (e.to ≡ j)) ⊎ ((slice_index_or es i d).to ≡ j)
    less j p = go (in_more p.0 es i d h p.1) where
      go : IsIn p.0 (take i es) ⊎ (slice_index_or es i d ≡ p.0) → ((e : Edge) × IsIn e (take i es) × Has still e.from × (e.to ≡ j)) ⊎ ((slice_index_or es i d).to ≡ j)
      go (inl o) = inl (p.0, o, p.2, p.3)
      go (inr s) = inr (ap (λ (v : Edge). v.to) s ∙ p.3)

pub target_out : (n : ℕ) (still : List ℕ) (es : List Edge) (i : ℕ) (d : Edge) (old : List ℕ) → i < length es
    → (Has still (slice_index_or es i d).from → ⊥)
    → IsSetFor n (λ j. (e : Edge) × IsIn e (take i es) × Has still e.from × (e.to ≡ j)) old
    → IsSetFor n (λ j. (e : Edge) × IsIn e (take (i + 1) es) × Has still e.from × (e.to ≡ j)) old
target_out n still es i d old h not was = set_same n _ _ old was (λ j p. (p.0, in_kept p.0 es i d h p.1, p.2, p.3)) (λ j p. less j p (in_more p.0 es i d h p.1))
  where
    less : (j : ℕ) (p : (e : Edge) × IsIn e (take (i + 1) es) × Has still e.from × (e.to ≡ j)) → IsIn p.0 (take i es) ⊎ (slice_index_or es i d ≡ p.0) → (e : Edge) × IsIn e (take i es) × Has still e.from × (e.to ≡ j)
    less j p (inl o) = (p.0, o, p.2, p.3)
    less j p (inr s) = absurd (not (subst (λ (v : Edge). Has still v.from) (sym s) p.2))

pub target_begins : (n : ℕ) (still : List ℕ) (es : List Edge) (marks : List ℕ) → IsSetFor n (λ i. ⊥) marks → IsSetFor n (λ j. (e : Edge) × IsIn e (take 0 es) × Has still e.from × (e.to ≡ j)) marks
target_begins n still es marks none = set_same n _ _ marks none (λ j b. absurd b) (λ j p. p.1)

pub target_whole : (n : ℕ) (still : List ℕ) (es : List Edge) (i : ℕ) (marks : List ℕ) → length es ≤ i
    → IsSetFor n (λ j. (e : Edge) × IsIn e (take i es) × Has still e.from × (e.to ≡ j)) marks
    → IsSetFor n (λ j. (e : Edge) × IsIn e es × Has still e.from × (e.to ≡ j)) marks
target_whole n still es i marks h was = subst (λ l. IsSetFor n (λ j. (e : Edge) × IsIn e l × Has still e.from × (e.to ≡ j)) marks) (take_all i es h) was

-- what the edges of a group lead to is what its act leads to
pub target_is : (ss : List State) (r : NameId) (gs : List Group) (g : Group) (n : ℕ) (still word : List ℕ) → AreActs ss r gs → IsIn g gs
    → IsSetFor n (λ j. (e : Edge) × IsIn e g.edges.items × Has still e.from × (e.to ≡ j)) word
    → IsSetFor n (Target ss r still (action_of g.act)) word
target_is ss r gs g n still word acts among was = set_same n _ _ word was there back
  where
    there : (j : ℕ) → (e : Edge) × IsIn e g.edges.items × Has still e.from × (e.to ≡ j) → Target ss r still (action_of g.act) j
    there j p = let s = acts.sound g among p.0 p.1 in record { from = p.0.from; exchange = s.0; is_still = p.2; leads = subst (λ m. Leads ss p.0.from s.0 m) p.3 s.1; does = s.2 }

    back : (j : ℕ) → Target ss r still (action_of g.act) j → (e : Edge) × IsIn e g.edges.items × Has still e.from × (e.to ≡ j)
    back j t = let e : Edge = record { from = t.from; to = j } in (e, acts.whole g among e t.exchange t.leads t.does, t.is_still, refl)

-- ---- a set more

pub word_kept : (ws : List (List ℕ)) (w : List ℕ) → Keeps ws (with_word ws w)
word_kept ws w k v h = go (list_any (bytes_eq w) ws) where
  left : (xs : List (List ℕ)) (i : ℕ) → slice_get xs i ≡ Some v → slice_get (xs ++ w ∷ []) i ≡ Some v
  left [] i e = absurd (cc)
  left (x ∷ xs) zero e = e
  left (x ∷ xs) (suc i) e = left xs i e

  go : (b : Bool) → slice_get (if b then ws else ws ++ w ∷ []) k ≡ Some v
  go true = h
  go false = left ws k h

pub word_fresh : (ws : List (List ℕ)) (w : List ℕ) (k : ℕ) (v : List ℕ) → slice_get (with_word ws w) k ≡ Some v → (slice_get ws k ≡ Some v) ⊎ (w ≡ v)
word_fresh ws w k v h = go (list_any (bytes_eq w) ws) h where
  last : (xs : List (List ℕ)) (i : ℕ) → slice_get (xs ++ w ∷ []) i ≡ Some v → (slice_get xs i ≡ Some v) ⊎ (w ≡ v)
  last [] zero e = inr cc
  last [] (suc i) e = absurd (cc)
  last (x ∷ xs) zero e = inl e
  last (x ∷ xs) (suc i) e = last xs i e

  go : (b : Bool) → slice_get (if b then ws else ws ++ w ∷ []) k ≡ Some v → (slice_get ws k ≡ Some v) ⊎ (w ≡ v)
  go true e = inl e
  go false e = last ws k e

pub word_count : (ws : List (List ℕ)) (w : List ℕ) → length (with_word ws w) ≤ length ws + 1
word_count ws w = go (list_any (bytes_eq w) ws) where
  go : (b : Bool) → length (if b then ws else ws ++ w ∷ []) ≤ length ws + 1
  go true = omega arith
  go false = let e : length (ws ++ w ∷ []) ≡ length ws + 1 = length-append ws (w ∷ []) in omega (arith, e)

pub grown_begins : (ss : List State) (r : NameId) (n : ℕ) (still : List ℕ) (sets : List (List ℕ)) → HasGrown ss r n still sets sets
grown_begins ss r n still sets = record { kept = λ k v h. h; fresh = λ k v h. inl h }

pub grown_more : (ss : List State) (r : NameId) (n : ℕ) (still : List ℕ) (first old new : List (List ℕ)) (word : List ℕ) → HasGrown ss r n still first old → new ≡ with_word old word → IsNext ss r n still word → HasGrown ss r n still first new
grown_more ss r n still first old new word was is next = rw is (record {
  kept = λ k v h. word_kept old word k v (was.kept k v h);
  fresh = λ k v h. fresh_at k v (word_fresh old word k v h);
})
  where
    fresh_at : (k : ℕ) (v : List ℕ) → (slice_get old k ≡ Some v) ⊎ (word ≡ v) → (slice_get first k ≡ Some v) ⊎ IsNext ss r n still v
    fresh_at k v (inl h) = was.fresh k v h
    fresh_at k v (inr e) = inr (subst (λ u. IsNext ss r n still u) e next)

pub arm_kept : (ss : List State) (r : NameId) (n : ℕ) (old new : List (List ℕ)) (still : List ℕ) (arm : Arm) → Keeps old new → IsArm ss r n old still arm → IsArm ss r n new still arm
arm_kept ss r n old new still arm keeps a = record { word = a.word; state = a.state; at = keeps arm.next a.word a.at; set = a.set; reached = a.reached }

-- what follows from an edge of a group that is allowed
pub next_of : (ss : List State) (r : NameId) (gs : List Group) (g : Group) (n : ℕ) (still word : List ℕ) → AreActs ss r gs → IsIn g gs
    → ((e : Edge) × IsIn e g.edges.items × Has still e.from)
    → IsSetFor n (λ j. (e : Edge) × IsIn e g.edges.items × Has still e.from × (e.to ≡ j)) word
    → IsNext ss r n still word
next_of ss r gs g n still word acts among p was =
    let s = acts.sound g among p.0 p.1 in
    record { action = action_of g.act; state = p.0.to; reached = record { from = p.0.from; exchange = s.0; is_still = p.2; leads = s.1; does = s.2 }; set = target_is ss r gs g n still word acts among was }

pub arm_of : (ss : List State) (r : NameId) (gs : List Group) (g : Group) (n : ℕ) (still word : List ℕ) (sets : List (List ℕ)) (arm : Arm) → AreActs ss r gs → IsIn g gs
    → ((e : Edge) × IsIn e g.edges.items × Has still e.from)
    → IsSetFor n (λ j. (e : Edge) × IsIn e g.edges.items × Has still e.from × (e.to ≡ j)) word
    → arm.act ≡ g.act → slice_get sets arm.next ≡ Some word
    → IsArm ss r n sets still arm
arm_of ss r gs g n still word sets arm acts among p was act at =
    let s = acts.sound g among p.0 p.1 in
    record {
      word = word;
      state = p.0.to;
      at = at;
      set = subst (λ a. IsSetFor n (Target ss r still (action_of a)) word) (sym act) (target_is ss r gs g n still word acts among was);
      reached = subst (λ a. Target ss r still (action_of a) p.0.to) (sym act) (record { from = p.0.from; exchange = s.0; is_still = p.2; leads = s.1; does = s.2 });
    }

pub arms_whole : (ss : List State) (r : NameId) (gs : List Group) (n i : ℕ) (sets : List (List ℕ)) (still : List ℕ) (arms : List Arm) → AreActs ss r gs → length gs ≤ i
    → ((arm : Arm) → IsIn arm arms → IsArm ss r n sets still arm)
    → ((g : Group) → IsIn g (take i gs) → (e : Edge) → IsIn e g.edges.items → Has still e.from → (arm : Arm) × IsIn arm arms × (arm.act ≡ g.act))
    → AreApart (arm_acts arms)
    → AreArms ss r n sets still arms
arms_whole ss r gs n i sets still arms acts h sound complete apart = record { sound = sound; complete = complete_at; apart = apart }
  where
    complete_at : (a : Action) (j : ℕ) → Target ss r still a j → (arm : Arm) × IsIn arm arms × (action_of arm.act ≡ a)
    complete_at a j t =
        let p = acts.covers t.from j t.exchange a t.leads t.does in
        let e : Edge = record { from = t.from; to = j } in
        let mine = acts.whole p.0 p.1 e t.exchange t.leads (t.does ∙ ap (λ b. b ∷ []) (sym p.2)) in
        let q = complete p.0 (subst (λ l. IsIn p.0 l) (sym (take_all i gs h)) p.1) e mine t.is_still in
        (q.0, q.1, ap action_of q.2 ∙ p.2)

-- ---- the set of a list of actions

-- the states silently after a set are those in which the role still has done no more
pub still_set : (ss : List State) (r : NameId) (n : ℕ) (w : List Action) (word still : List ℕ) → IsSetFor n (At ss r w) word → IsSetFor n (λ i. (j : ℕ) × Has word j × Silent ss r j i) still → IsSetFor n (Still ss r w) still
still_set ss r n w word still was after = set_same n _ _ still after there back
  where
    there : (i : ℕ) → (j : ℕ) × Has word j × Silent ss r j i → Still ss r w i
    there i p = still_silent ss r w p.0 i (at_is_still ss r w p.0 (was.sound p.0 p.1)) p.2

    back : (i : ℕ) → Still ss r w i → (j : ℕ) × Has word j × Silent ss r j i
    back i s = let t = still_is_tail ss r w i s in (t.after, was.complete t.after t.is_at, t.silent)

-- what an action leads to is the set of the longer list
pub next_set : (ss : List State) (r : NameId) (n : ℕ) (w : List Action) (a : Action) (still word : List ℕ) → IsSetFor n (Still ss r w) still → IsSetFor n (Target ss r still a) word → IsSetFor n (At ss r (w ++ a ∷ [])) word
next_set ss r n w a still word was after = set_same n _ _ word after there back
  where
    there : (j : ℕ) → Target ss r still a j → At ss r (w ++ a ∷ []) j
    there j t = at_after ss r w t.from j t.exchange a (was.sound t.from t.is_still) t.leads t.does

    back : (j : ℕ) → At ss r (w ++ a ∷ []) j → Target ss r still a j
    back j h = let b = at_before ss r w a j h in record { from = b.from; exchange = b.exchange; is_still = was.complete b.from b.still; leads = b.leads; does = b.does }

pub next_found : (ss : List State) (r : NameId) (n : ℕ) (word still more : List ℕ) → IsFound ss r n word → IsSetFor n (λ i. (j : ℕ) × Has word j × Silent ss r j i) still → IsNext ss r n still more → IsFound ss r n more
next_found ss r n word still more f after next =
    let s = still_set ss r n f.actions word still f.set after in
    let set = next_set ss r n f.actions next.action still more s next.set in
    record { actions = f.actions ++ next.action ∷ []; state = next.state; is_at = set.sound next.state (next.set.complete next.state next.reached); set = set }

-- ---- the table

pub first_found : (ss : List State) (r : NameId) (n : ℕ) (word : List ℕ) → IsSetFor n (λ j. 0 ≡ j) word → IsSetFor n (At ss r []) word
first_found ss r n word was = set_same n _ _ word was (λ j e. inl (refl, sym e)) back
  where
    back : (j : ℕ) → At ss r [] j → 0 ≡ j
    back j (inl p) = sym p.1
    back j (inr a) = absurd (nil_not_push a.before a.action (sym a.parts))

pub table_begins : (ss : List State) (r : NameId) (n : ℕ) (word : List ℕ) → IsSetFor n (At ss r []) word → IsTable ss r n (word ∷ []) []
table_begins ss r n word set = record {
  first = (word, refl, set);
  found = λ k v h. found_at k v h;
  follows = λ k v row h. absurd (cc);
}
  where
    found_at : (k : ℕ) (v : List ℕ) → slice_get (word ∷ []) k ≡ Some v → IsFound ss r n v
    found_at zero v h = let e : word ≡ v = cc in subst (λ u. IsFound ss r n u) e (record { actions = []; state = 0; is_at = inl (refl, refl); set = set })
    found_at (suc k) v h = absurd (cc)

pub found_more : (ss : List State) (r : NameId) (n : ℕ) (old new : List (List ℕ)) (word still : List ℕ) → ((k : ℕ) (v : List ℕ) → slice_get old k ≡ Some v → IsFound ss r n v)
    → IsFound ss r n word → IsSetFor n (λ i. (j : ℕ) × Has word j × Silent ss r j i) still → HasGrown ss r n still old new
    → (k : ℕ) (v : List ℕ) → slice_get new k ≡ Some v → IsFound ss r n v
found_more ss r n old new word still found f after grown k v h = go (grown.fresh k v h) where
  go : (slice_get old k ≡ Some v) ⊎ IsNext ss r n still v → IsFound ss r n v
  go (inl e) = found k v e
  go (inr next) = next_found ss r n word still v f after next

pub table_more : (ss : List State) (r : NameId) (n : ℕ) (old new : List (List ℕ)) (rows more : List Row) (word : List ℕ) (row : Row)
    → IsTable ss r n old rows → slice_get old (length rows) ≡ Some word
    → IsSetFor n (λ i. (j : ℕ) × Has word j × Silent ss r j i) row.still.items
    → HasGrown ss r n row.still.items old new → AreArms ss r n new row.still.items row.arms.items
    → more ≡ rows ++ row ∷ []
    → IsTable ss r n new more
table_more ss r n old new rows more word row was at after grown arms is = rw is (record {
  first = (was.first.0, grown.kept 0 was.first.0 was.first.1, was.first.2);
  found = found_more ss r n old new word row.still.items was.found (was.found (length rows) word at) after grown;
  follows = λ k v one h e. follows_at k v one (split rows k one h) e;
})
  where
    split : (xs : List Row) (k : ℕ) (one : Row) → slice_get (xs ++ row ∷ []) k ≡ Some one → ((slice_get xs k ≡ Some one) × (k < length xs)) ⊎ ((k ≡ length xs) × (row ≡ one))
    split [] zero one h = inr (refl, cc)
    split [] (suc k) one h = absurd (cc)
    split (x ∷ xs) zero one h = inl (h, omega arith)
    split (x ∷ xs) (suc k) one h = go (split xs k one h) where
      go : ((slice_get xs k ≡ Some one) × (k < length xs)) ⊎ ((k ≡ length xs) × (row ≡ one)) → ((slice_get (x ∷ xs) (suc k) ≡ Some one) × (suc k < length (x ∷ xs))) ⊎ ((suc k ≡ length (x ∷ xs)) × (row ≡ one))
      go (inl p) = inl (p.0, (let b = p.1 in omega (arith, b)))
      go (inr p) = inr (ap suc p.0, p.1)

    same_word : (k : ℕ) (v : List ℕ) → slice_get new k ≡ Some v → (u : List ℕ) → slice_get old k ≡ Some u → u ≡ v
    same_word k v e u f = let g = grown.kept k u f in cc

    old_at : (k : ℕ) → k < length rows → (u : List ℕ) × (slice_get old k ≡ Some u)
    old_at k h = let b : length rows < length old = slice_get_within old (length rows) word at in (slice_index_or old k [], slice_get-get_or old k [] (omega (arith, h, b)))

    follows_at : (k : ℕ) (v : List ℕ) (one : Row) → ((slice_get rows k ≡ Some one) × (k < length rows)) ⊎ ((k ≡ length rows) × (row ≡ one)) → slice_get new k ≡ Some v → IsRow ss r n new v one
    follows_at k v one (inl p) e =
        let o = old_at k p.1 in
        let same = same_word k v e o.0 o.1 in
        let f = was.follows k v one p.0 (subst (λ u. slice_get old k ≡ Some u) same o.1) in
        record { still = f.still; arms = record { sound = λ arm m. arm_kept ss r n old new one.still.items arm grown.kept (f.arms.sound arm m); complete = f.arms.complete; apart = f.arms.apart } }
    follows_at k v one (inr p) e =
        let same : word ≡ v = same_word k v e word (subst (λ m. slice_get old m ≡ Some word) (sym p.0) at) in
        subst (λ (o : Row). IsRow ss r n new v o) p.1 (subst (λ u. IsRow ss r n new u row) same (record { still = after; arms = arms }))

-- the union of rows is what is silently after a set
pub union_is : (ss : List State) (r : NameId) (n : ℕ) (reach : List (Vec ℕ Global)) (word still : List ℕ) → AreRowsFor n (Silent ss r) reach → length word ≡ n
    → IsSetFor (length word) (λ i. (k : ℕ) × Has word k × Has (row_at reach k) i) still
    → IsSetFor n (λ i. (j : ℕ) × Has word j × Silent ss r j i) still
union_is ss r n reach word still are len was = subst (λ m. IsSetFor m (λ i. (j : ℕ) × Has word j × Silent ss r j i) still) len (set_same (length word) _ _ still was there back)
  where
    there : (i : ℕ) → (k : ℕ) × Has word k × Has (row_at reach k) i → (j : ℕ) × Has word j × Silent ss r j i
    there i p = (p.0, p.1, (are.row p.0 (let b = has_within word p.0 p.1 in omega (arith, b, len))).sound i p.2)

    back : (i : ℕ) → (j : ℕ) × Has word j × Silent ss r j i → (k : ℕ) × Has word k × Has (row_at reach k) i
    back i p = (p.0, p.1, (are.row p.0 (let b = has_within word p.0 p.1 in omega (arith, b, len))).complete i p.2)

pub word_longer : (first old new : List (List ℕ)) (w : List ℕ) → new ≡ with_word old w → length first ≤ length old → length first ≤ length new
word_longer first old new w is h = rw is (go (list_any (bytes_eq w) old)) where
  go : (b : Bool) → length first ≤ length (if b then old else old ++ w ∷ [])
  go true = h
  go false = let e : length (old ++ w ∷ []) ≡ length old + 1 = length-append old (w ∷ []) in omega (arith, e, h)
