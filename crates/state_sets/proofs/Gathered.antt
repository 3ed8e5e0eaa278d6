-- The acts and the groups of moves, gathered part by part.
use Rattle.std.specs.declared.alloc.Global.{Global}
use Rattle.std.proofs.Common.{ℕ, ◌≡◌, ◌≢◌, ◌+◌, ◌<◌, ◌≤◌, List, [], ◌∷◌, ◌++◌, refl, ap, sym, subst, ◌∙◌, arith, inl, inr, length}
use Rattle.std.specs.Prelude.{◌⊎◌, Some, Vec, slice_get, slice_index_or}
use Rattle.std.proofs.lemmas.Option.{slice_get-get_or}
use Rattle.std.specs.List.Sorted.{IsPermutation}
use Rattle.std.proofs.lemmas.Bool.{cases_lt}
use Rattle.std.proofs.lemmas.List.Sorted.{IsPermutation-sym}
use Rattle.std.proofs.lemmas.Simd.{map-map}
use Rattle.global_types.specs.Moves.{IsIn}
use Rattle.state_sets.specs.declared.act.Act.{Act}
use Rattle.state_sets.specs.declared.graph.Edge.{Edge}
use Rattle.state_sets.specs.declared.graph.Group.{Group}
use Rattle.state_sets.specs.declared.moves.Move.{Move}
use Rattle.state_sets.specs.Moves.{action_of}
use Rattle.state_sets.specs.Graph.{HasMove, AreEdges, Knows, IsActOf, AreApart, AreActsOf, group_acts, AreGroups, part_number, IsPart, AreParts, HasOwnEdges, AreGroupsOf}
use Rattle.state_sets.specs.Ascending.{Ascend}
use Rattle.state_sets.specs.Table.{act_word, act_words, group_words}
use Rattle.state_sets.proofs.Lists.{in_left, in_right, in_either, in_map, in_map_back, in_permuted}
use Rattle.state_sets.proofs.Pairs.{pairs_append, pairs_permuted}
use Rattle.state_sets.proofs.Parts.{same_part, falls_into, fell_into, number_below, act_at}

module _ (count : ℕ) where
  -- the acts of the first n parts
  pub record ActsSoFar (ms : List Move) (n : ℕ) (acts : List Act) : Type 0 where
    pub own : (b : Act) → IsIn b acts → IsActOf ms b
    pub covers : (m : Move) (a : Act) → IsIn m ms → m.act ≡ Some a → part_number count a < n → Knows acts a
    pub below : (b : Act) → IsIn b acts → part_number count b < n
    pub apart : AreApart acts

  pub acts_begin : (ms : List Move) (acts : List Act) → acts ≡ [] → ActsSoFar ms 0 acts
  acts_begin ms acts e = rw e (record { own = λ b o. absurd o; covers = λ m a o is h. absurd (omega (arith, h)); below = λ b o. absurd o; apart = λ i j d less within. absurd (omega (arith, less, within)) })

  pub acts_add : (ms : List Move) (n : ℕ) (part seen : List Move) (old more new : List Act) → ActsSoFar ms n old → IsPart count ms n part → seen ≡ part → AreActsOf seen more → new ≡ old ++ more → ActsSoFar ms (n + 1) new
  acts_add ms n part seen old more new was cut same found is = rw is (record {
    own = λ b o. own_at b (in_either b old more o);
    covers = λ m a o e h. covers_at m a o e h (cases_lt (part_number count a) n);
    below = λ b o. below_at b (in_either b old more o);
    apart = pairs_append (λ a b. action_of a ≢ action_of b) old more was.apart are.apart (λ a b o m e. let p = was.below a o in let q = number_of b m in let s = same_part count a b e in omega (arith, p, q, s));
  })
    where
      are : AreActsOf part more
      are = subst (λ l. AreActsOf l more) same found

      number_of : (b : Act) → IsIn b more → part_number count b ≡ n
      number_of b m = let p = are.own b m in fell_into count n b p.0.act p.2 (cut.sound p.0 p.1).1

      own_at : (b : Act) → IsIn b old ⊎ IsIn b more → IsActOf ms b
      own_at b (inl o) = was.own b o
      own_at b (inr o) = let p = are.own b o in (p.0, (cut.sound p.0 p.1).0, p.2)

      below_at : (b : Act) → IsIn b old ⊎ IsIn b more → part_number count b < n + 1
      below_at b (inl o) = let p = was.below b o in omega (arith, p)
      below_at b (inr o) = let p = number_of b o in omega (arith, p)

      covers_at : (m : Move) (a : Act) → IsIn m ms → m.act ≡ Some a → part_number count a < n + 1 → (part_number count a < n) ⊎ (n ≤ part_number count a) → Knows (old ++ more) a
      covers_at m a o e h (inl l) = let p = was.covers m a o e l in (p.0, in_left p.0 old more p.1, p.2)
      covers_at m a o e h (inr l) =
          let here : part_number count a ≡ n = omega (arith, h, l) in
          let p = are.covers m a (cut.complete m o (falls_into count n a m.act e here)) e in
          (p.0, in_right p.0 old more p.1, p.2)

  -- in another order
  pub acts_all : (ms : List Move) (n : ℕ) (acts seen sorted : List Act) → 0 < count → count ≤ n → ActsSoFar ms n acts → seen ≡ acts → IsPermutation seen sorted → AreActsOf ms sorted
  acts_all ms n acts seen sorted some h was same moved = record {
    own = λ b o. was.own b (in_permuted b sorted acts (IsPermutation-sym acts sorted order) o);
    covers = λ m a o e. let p = was.covers m a o e (let b = number_below count a some in omega (arith, b, h)) in (p.0, in_permuted p.0 acts sorted order p.1, p.2);
    apart = pairs_permuted (λ a b. action_of a ≢ action_of b) (λ a b d e. d (sym e)) acts sorted order was.apart;
  }
    where
      order : IsPermutation acts sorted
      order = subst (λ (l : List Act). IsPermutation l sorted) same moved

  -- the edges of a part are those of all moves
  own_edges : (ms : List Move) (parts : List (Vec Move Global)) (g : Group) → AreParts count ms parts → IsActOf ms g.act → HasOwnEdges parts g → AreEdges ms (action_of g.act) g.edges.items
  own_edges ms parts g are of h = record { sound = λ e k. widen e (h.edges.sound e k); complete = λ e k. h.edges.complete e (narrow e k) }
    where
      n : ℕ
      n = part_number count g.act

      cut : IsPart count ms n h.part.items
      cut = subst (λ (k : ℕ). IsPart count ms (part_number k g.act) h.part.items) are.size (subst (λ (k : ℕ). IsPart k ms (part_number (length parts) g.act) h.part.items) refl (are.part (part_number (length parts) g.act) h.part h.at))

      widen : (e : Edge) → HasMove h.part.items e.from (action_of g.act ∷ []) e.to → HasMove ms e.from (action_of g.act ∷ []) e.to
      widen e k = record { move = k.move; among = (cut.sound k.move k.among).0; from = k.from; to = k.to; does = k.does }

      narrow : (e : Edge) → HasMove ms e.from (action_of g.act ∷ []) e.to → HasMove h.part.items e.from (action_of g.act ∷ []) e.to
      narrow e k =
          let b = act_at k.move.act (action_of g.act) k.does in
          let test = falls_into count n b.0 k.move.act b.1 (same_part count b.0 g.act b.2) in
          record { move = k.move; among = cut.complete k.move k.among test; from = k.from; to = k.to; does = k.does }

  pub groups_are : (ms : List Move) (parts seen : List (Vec Move Global)) (acts handed : List Act) (gs : List Group) → AreParts count ms parts → seen ≡ parts → AreActsOf ms acts → handed ≡ acts → AreGroupsOf seen handed gs → AreGroups ms gs
  groups_are ms parts seen acts handed gs cut same are is of = record {
    own = λ g o. own_at g o;
    edges = λ g o. own_edges ms parts g cut (own_at g o) (subst (λ (l : List (Vec Move Global)). HasOwnEdges l g) same (of.edges g o));
    covers = λ m a o e. let p = are.covers m a o e in let q = in_map_back (λ (k : Group). k.act) p.0 gs (subst (λ l. IsIn p.0 l) (sym all) p.1) in (q.0, q.1, ap action_of q.2 ∙ p.2);
    apart = subst AreApart (sym all) are.apart;
  }
    where
      all : group_acts gs ≡ acts
      all = of.acts ∙ is

      own_at : (g : Group) → IsIn g gs → IsActOf ms g.act
      own_at g o = are.own g.act (subst (λ l. IsIn g.act l) all (in_map (λ (k : Group). k.act) g gs o))

pub groups_ascend : (names : List (List ℕ)) (parts : List (Vec Move Global)) (sorted handed : List Act) (gs : List Group) → handed ≡ sorted → AreGroupsOf parts handed gs → Ascend (act_words names sorted) → Ascend (group_words names gs)
groups_ascend names parts sorted handed gs is of up =
    subst Ascend (sym (sym (map-map (act_word names) (λ (g : Group). g.act) gs) ∙ ap (λ (l : List Act). act_words names l) (of.acts ∙ is))) up

-- the edges of a group, where they are those of its part
pub own_of : (parts : List (Vec Move Global)) (g : Group) (number : ℕ) (part : Vec Move Global) (seen : List Move) → 0 < length parts → number ≡ part_number (length parts) g.act → part ≡ slice_index_or parts number part
    → seen ≡ part.items → AreEdges seen (action_of g.act) g.edges.items → HasOwnEdges parts g
own_of parts g number part seen some is at same edges =
    let below : number < length parts = (let b = number_below (length parts) g.act some in omega (arith, b, is)) in record {
      part = part;
      at = subst (λ (n : ℕ). slice_get parts n ≡ Some part) is (slice_get-get_or parts number part below ∙ ap (λ (v : Vec Move Global). Some v) (sym at));
      edges = subst (λ (l : List Move). AreEdges l (action_of g.act) g.edges.items) same edges;
    }
