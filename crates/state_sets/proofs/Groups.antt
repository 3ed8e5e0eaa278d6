-- The acts of a role and their edges, found move by move.
use Rattle.std.proofs.Common.{ℕ, ◌≡◌, ◌+◌, ◌<◌, ◌≤◌, List, [], ◌∷◌, ◌++◌, Bool, true, false, refl, ap, sym, subst, ◌∙◌, inl, inr, length, take}
use Rattle.std.specs.Prelude.{◌⊎◌, Some, slice_index_or, slice_set}
use Rattle.std.proofs.lemmas.List.{take_all, take_more, map-append}
use Rattle.global_types.specs.Moves.{IsIn}
use Rattle.global_types.specs.Paths.{Action}
use Rattle.state_sets.specs.declared.act.Act.{Act}
use Rattle.state_sets.specs.declared.graph.Edge.{Edge}
use Rattle.state_sets.specs.declared.graph.Group.{Group}
use Rattle.state_sets.specs.declared.moves.Move.{Move}
use Rattle.state_sets.specs.Moves.{actions_in}
use Rattle.state_sets.specs.Sets.{IsSetFor}
use Rattle.state_sets.specs.Graph.{HasMove, AreEdges, Knows, Covers, IsActOf, group_acts, AreWithin}
use Rattle.std.proofs.lemmas.Option.{slice_get-get_or}
use Rattle.state_sets.proofs.Lists.{in_of_at, in_more, in_kept, in_new, in_push, in_left, in_last}
use Rattle.state_sets.proofs.Sets.{set_put, set_same}

-- ---- acts

pub covers_more : (ms : List Move) (i : ℕ) (d : Move) (old new : List Act) → i < length ms → Covers (take i ms) old
    → ((b : Act) → IsIn b old → IsIn b new)
    → ((a : Act) → (slice_index_or ms i d).act ≡ Some a → Knows new a)
    → Covers (take (i + 1) ms) new
covers_more ms i d old new h was kept added m a among is = go (in_more m ms i d h among) where
  go : IsIn m (take i ms) ⊎ (slice_index_or ms i d ≡ m) → Knows new a
  go (inl o) = let p = was m a o is in (p.0, kept p.0 p.1, p.2)
  go (inr e) = added a (ap (λ (v : Move). v.act) e ∙ is)

pub covers_whole : (ms : List Move) (i : ℕ) (acts : List Act) → length ms ≤ i → Covers (take i ms) acts → Covers ms acts
covers_whole ms i acts h was = subst (λ l. Covers l acts) (take_all i ms h) was

pub own_more : (ms : List Move) (i : ℕ) (d : Move) (old new : List Act) → i < length ms → ((b : Act) → IsIn b old → IsActOf ms b)
    → ((b : Act) → IsIn b new → IsIn b old ⊎ ((slice_index_or ms i d).act ≡ Some b))
    → (b : Act) → IsIn b new → IsActOf ms b
own_more ms i d old new h was added b among = go (added b among) where
  go : IsIn b old ⊎ ((slice_index_or ms i d).act ≡ Some b) → IsActOf ms b
  go (inl o) = was b o
  go (inr e) = (slice_index_or ms i d, in_of_at (slice_index_or ms i d) ms i (slice_get-get_or ms i d h), e)

-- ---- moves in a front

move_kept : (ms : List Move) (i : ℕ) (d : Move) (p : ℕ) (acts : List Action) (q : ℕ) → i < length ms → HasMove (take i ms) p acts q → HasMove (take (i + 1) ms) p acts q
move_kept ms i d p acts q h m = record { move = m.move; among = in_kept m.move ms i d h m.among; from = m.from; to = m.to; does = m.does }

move_new : (ms : List Move) (i : ℕ) (d : Move) (acts : List Action) → i < length ms → actions_in (slice_index_or ms i d).act ≡ acts → HasMove (take (i + 1) ms) (slice_index_or ms i d).from acts (slice_index_or ms i d).to
move_new ms i d acts h e = record { move = slice_index_or ms i d; among = in_new ms i d h; from = refl; to = refl; does = e }

-- a move of a front with one more is that one, or one of the front
data IsOf (ms : List Move) (i : ℕ) (d : Move) (p : ℕ) (acts : List Action) (q : ℕ) : Type 0 where
  before : HasMove (take i ms) p acts q → IsOf ms i d p acts q
  that : (slice_index_or ms i d).from ≡ p → (slice_index_or ms i d).to ≡ q → actions_in (slice_index_or ms i d).act ≡ acts → IsOf ms i d p acts q

move_of : (ms : List Move) (i : ℕ) (d : Move) (p : ℕ) (acts : List Action) (q : ℕ) → i < length ms → HasMove (take (i + 1) ms) p acts q → IsOf ms i d p acts q
move_of ms i d p acts q h m = go (in_more m.move ms i d h m.among) where
  go : IsIn m.move (take i ms) ⊎ (slice_index_or ms i d ≡ m.move) → IsOf ms i d p acts q
  go (inl o) = before (record { move = m.move; among = o; from = m.from; to = m.to; does = m.does })
  go (inr e) = that (ap (λ (v : Move). v.from) e ∙ m.from) (ap (λ (v : Move). v.to) e ∙ m.to) (ap (λ (v : Move). actions_in v.act) e ∙ m.does)

-- ---- edges

pub edges_in : (ms : List Move) (i : ℕ) (d : Move) (a : Action) (old new : List Edge) → i < length ms → AreEdges (take i ms) a old
    → actions_in (slice_index_or ms i d).act ≡ a ∷ []
    → new ≡ old ++ record { from = (slice_index_or ms i d).from; to = (slice_index_or ms i d).to } ∷ []
    → AreEdges (take (i + 1) ms) a new
edges_in ms i d a old new h was does is = rw is (record {
  sound = λ e among. sound_at e (in_push e last old among);
  complete = λ e m. complete_at e (move_of ms i d e.from (a ∷ []) e.to h m);
})
  where
    last : Edge
    last = record { from = (slice_index_or ms i d).from; to = (slice_index_or ms i d).to }

    sound_at : (e : Edge) → IsIn e old ⊎ (last ≡ e) → HasMove (take (i + 1) ms) e.from (a ∷ []) e.to
    sound_at e (inl o) = move_kept ms i d e.from (a ∷ []) e.to h (was.sound e o)
    sound_at e (inr s) = subst (λ (v : Edge). HasMove (take (i + 1) ms) v.from (a ∷ []) v.to) s (move_new ms i d (a ∷ []) h does)

    complete_at : (e : Edge) → IsOf ms i d e.from (a ∷ []) e.to → IsIn e (old ++ last ∷ [])
    complete_at e (before m) = in_left e old (last ∷ []) (was.complete e m)
    complete_at e (that p q r) = let same : last ≡ e = ap (λ n. record { from = n; to = (slice_index_or ms i d).to }) p ∙ ap (λ n. record { from = e.from; to = n }) q in subst (λ v. IsIn v (old ++ last ∷ [])) same (in_last last old)

pub edges_out : (ms : List Move) (i : ℕ) (d : Move) (a : Action) (old : List Edge) → i < length ms → AreEdges (take i ms) a old
    → (actions_in (slice_index_or ms i d).act ≡ a ∷ [] → ⊥)
    → AreEdges (take (i + 1) ms) a old
edges_out ms i d a old h was not = record {
  sound = λ e o. move_kept ms i d e.from (a ∷ []) e.to h (was.sound e o);
  complete = λ e m. complete_at e (move_of ms i d e.from (a ∷ []) e.to h m);
}
  where
    complete_at : (e : Edge) → IsOf ms i d e.from (a ∷ []) e.to → IsIn e old
    complete_at e (before m) = was.complete e m
    complete_at e (that p q r) = absurd (not r)

pub edges_whole : (ms : List Move) (i : ℕ) (a : Action) (es : List Edge) → length ms ≤ i → AreEdges (take i ms) a es → AreEdges ms a es
edges_whole ms i a es h was = subst (λ l. AreEdges l a es) (take_all i ms h) was

-- ---- the row of a state

pub direct_in : (n : ℕ) (ms : List Move) (i : ℕ) (d : Move) (s : ℕ) (old : List ℕ) → i < length ms → AreWithin n ms
    → (slice_index_or ms i d).from ≡ s → actions_in (slice_index_or ms i d).act ≡ []
    → IsSetFor n (λ j. (s ≡ j) ⊎ HasMove (take i ms) s [] j) old
    → IsSetFor n (λ j. (s ≡ j) ⊎ HasMove (take (i + 1) ms) s [] j) (slice_set old (slice_index_or ms i d).to 1)
direct_in n ms i d s old h within from silent was = set_same n _ _ _ (set_put n _ old (slice_index_or ms i d).to was to) more less
  where
    to : (slice_index_or ms i d).to < n
    to = (within (slice_index_or ms i d) (in_of_at (slice_index_or ms i d) ms i (slice_get-get_or ms i d h))).1

    more : (j : ℕ) → ((s ≡ j) ⊎ HasMove (take i ms) s [] j) ⊎ ((slice_index_or ms i d).to ≡ j) → (s ≡ j) ⊎ HasMove (take (i + 1) ms) s [] j
    more j (inl (inl e)) = inl e
    more j (inl (inr m)) = inr (move_kept ms i d s [] j h m)
    more j (inr e) = inr (record { move = slice_index_or ms i d; among = in_new ms i d h; from = from; to = e; does = silent })

    less : (j : ℕ) → (s ≡ j) ⊎ HasMove (take (i + 1) ms) s [] j → ((s ≡ j) ⊎ HasMove (take i ms) s [] j) ⊎ ((slice_index_or ms i d).to ≡ j)
    less j (inl e) = inl (inl e)
    less j (inr m) = go (move_of ms i d s [] j h m) where
      go : IsOf ms i d s [] j → ((s ≡ j) ⊎ HasMove (take i ms) s [] j) ⊎ ((slice_index_or ms i d).to ≡ j)
      go (before b) = inl (inr b)
      go (that p q r) = inr q

pub direct_out : (n : ℕ) (ms : List Move) (i : ℕ) (d : Move) (s : ℕ) (old : List ℕ) → i < length ms
    → ((slice_index_or ms i d).from ≡ s × (actions_in (slice_index_or ms i d).act ≡ []) → ⊥)
    → IsSetFor n (λ j. (s ≡ j) ⊎ HasMove (take i ms) s [] j) old
    → IsSetFor n (λ j. (s ≡ j) ⊎ HasMove (take (i + 1) ms) s [] j) old
direct_out n ms i d s old h not was = set_same n _ _ old was more less
  where
    more : (j : ℕ) → (s ≡ j) ⊎ HasMove (take i ms) s [] j → (s ≡ j) ⊎ HasMove (take (i + 1) ms) s [] j
    more j (inl e) = inl e
    more j (inr m) = inr (move_kept ms i d s [] j h m)

    less : (j : ℕ) → (s ≡ j) ⊎ HasMove (take (i + 1) ms) s [] j → (s ≡ j) ⊎ HasMove (take i ms) s [] j
    less j (inl e) = inl e
    less j (inr m) = go (move_of ms i d s [] j h m) where
      go : IsOf ms i d s [] j → (s ≡ j) ⊎ HasMove (take i ms) s [] j
      go (before b) = inr b
      go (that p q r) = absurd (not (p, r))

-- ---- groups

pub groups_more : (P : Group → Type 0) (acts : List Act) (i : ℕ) (d : Act) (old new : List Group) (g : Group) → i < length acts
    → ((k : Group) → IsIn k old → P k)
    → group_acts old ≡ take i acts
    → g.act ≡ slice_index_or acts i d → P g
    → new ≡ old ++ g ∷ []
    → record { edges : (k : Group) → IsIn k new → P k; acts : group_acts new ≡ take (i + 1) acts }
groups_more P acts i d old new g h edges first act own is = rw is (record {
  edges = λ k o. edges_at k (in_push k g old o);
  acts = map-append (λ (k : Group). k.act) old (g ∷ []) ∙ ap (λ l. l ++ g.act ∷ []) first ∙ ap (λ b. take i acts ++ b ∷ []) act ∙ sym (take_more acts i d h);
})
  where
    edges_at : (k : Group) → IsIn k old ⊎ (g ≡ k) → P k
    edges_at k (inl o) = edges k o
    edges_at k (inr e) = subst P e own

pub groups_whole : (acts : List Act) (i : ℕ) (gs : List Group) → length acts ≤ i → group_acts gs ≡ take i acts → group_acts gs ≡ acts
groups_whole acts i gs h are = are ∙ take_all i acts h

-- ---- tests

pub not_both : (b : Bool) → b ≡ true → b ≡ false → ⊥
not_both b e f = absurd (let g : true ≡ false = sym e ∙ f in cc)

-- ---- moves that others go back from

pub circle_in : (n : ℕ) (B : ℕ → ℕ → Type 0) (ms : List Move) (i : ℕ) (d : Move) (old : List ℕ) → i < length ms → AreWithin n ms
    → actions_in (slice_index_or ms i d).act ≡ [] → B (slice_index_or ms i d).to (slice_index_or ms i d).from
    → IsSetFor n (λ p. (q : ℕ) × HasMove (take i ms) p [] q × B q p) old
    → IsSetFor n (λ p. (q : ℕ) × HasMove (take (i + 1) ms) p [] q × B q p) (slice_set old (slice_index_or ms i d).from 1)
circle_in n B ms i d old h within silent back was = set_same n _ _ _ (set_put n _ old (slice_index_or ms i d).from was from) more less
  where
    from : (slice_index_or ms i d).from < n
    from = (within (slice_index_or ms i d) (in_of_at (slice_index_or ms i d) ms i (slice_get-get_or ms i d h))).0

    more : (p : ℕ) → ((q : ℕ) × HasMove (take i ms) p [] q × B q p) ⊎ ((slice_index_or ms i d).from ≡ p) → (q : ℕ) × HasMove (take (i + 1) ms) p [] q × B q p
    more p (inl x) = (x.0, move_kept ms i d p [] x.0 h x.1, x.2)
    more p (inr e) = ((slice_index_or ms i d).to, record { move = slice_index_or ms i d; among = in_new ms i d h; from = e; to = refl; does = silent }, subst (λ v. B (slice_index_or ms i d).to v) e back)

    less : (p : ℕ) → (q : ℕ) × HasMove (take (i + 1) ms) p [] q × B q p → ((q : ℕ) × HasMove (take i ms) p [] q × B q p) ⊎ ((slice_index_or ms i d).from ≡ p)
    less p x = go (move_of ms i d p [] x.0 h x.1) where
      go : IsOf ms i d p [] x.0 → ((q : ℕ) × HasMove (take i ms) p [] q × B q p) ⊎ ((slice_index_or ms i d).from ≡ p)
      go (before b) = inl (x.0, b, x.2)
      go (that a b e) = inr a

pub circle_out : (n : ℕ) (B : ℕ → ℕ → Type 0) (ms : List Move) (i : ℕ) (d : Move) (old : List ℕ) → i < length ms
    → ((actions_in (slice_index_or ms i d).act ≡ []) × B (slice_index_or ms i d).to (slice_index_or ms i d).from → ⊥)
    → IsSetFor n (λ p. (q : ℕ) × HasMove (take i ms) p [] q × B q p) old
    → IsSetFor n (λ p. (q : ℕ) × HasMove (take (i + 1) ms) p [] q × B q p) old
circle_out n B ms i d old h not was = set_same n _ _ old was (λ p x. (x.0, move_kept ms i d p [] x.0 h x.1, x.2)) less
  where
    less : (p : ℕ) → (q : ℕ) × HasMove (take (i + 1) ms) p [] q × B q p → (q : ℕ) × HasMove (take i ms) p [] q × B q p
    less p x = go (move_of ms i d p [] x.0 h x.1) where
      go : IsOf ms i d p [] x.0 → (q : ℕ) × HasMove (take i ms) p [] q × B q p
      go (before b) = (x.0, b, x.2)
      go (that a b e) = absurd (not (e, subst (λ v. B v (slice_index_or ms i d).from) (sym b) (subst (λ v. B x.0 v) (sym a) x.2)))

pub circle_whole : (n : ℕ) (B : ℕ → ℕ → Type 0) (ms : List Move) (i : ℕ) (marks : List ℕ) → length ms ≤ i
    → IsSetFor n (λ p. (q : ℕ) × HasMove (take i ms) p [] q × B q p) marks → IsSetFor n (λ p. (q : ℕ) × HasMove ms p [] q × B q p) marks
circle_whole n B ms i marks h was = subst (λ l. IsSetFor n (λ p. (q : ℕ) × HasMove l p [] q × B q p) marks) (take_all i ms h) was
