-- Tables of nodes seen as trees: what a node's tree is made of, what stays when nodes are added, and what holds of every tree.
use Rattle.std.proofs.Common.{◌≡◌, ℕ, zero, suc, ◌+◌, ◌<◌, ◌≤◌, List, [], ◌∷◌, ◌++◌, length, map, refl, sym, ap, ◌∙◌, Some, subst, arith}
use Rattle.std.specs.Prelude.{slice_get, slice_index_or, All}
use Rattle.std.proofs.lemmas.List.{length-append, map-append, get_or_past}
use Rattle.std.proofs.lemmas.List.Elements.{All-head, All-tail}
use Rattle.std.proofs.Math.ListN.{get_or-append}
use Rattle.std.proofs.Math.Seq.{get_or-append_seam}
use Rattle.node_table.specs.Tables.{grown, trees_of}

-- ---- how many there are, and what is added

module _ {N T : Type 0} (make : List T → N → T) where
  pub grown_length : (ns : List N) (ts : List T) → length (grown make ts ns) ≡ length ts + length ns
  grown_length [] ts = omega arith
  grown_length (n ∷ ns) ts = omega (arith, grown_length ns (ts ++ make ts n ∷ []), length-append ts (make ts n ∷ []))

  -- there are as many trees as nodes
  pub trees_length : (ns : List N) → length (trees_of make ns) ≡ length ns
  trees_length ns = omega (arith, grown_length ns [])

  pub grown_more : (ns ms : List N) (ts : List T) → grown make ts (ns ++ ms) ≡ grown make (grown make ts ns) ms
  grown_more [] ms ts = refl
  grown_more (n ∷ ns) ms ts = grown_more ns ms (ts ++ make ts n ∷ [])

  -- one more node is one more tree
  pub trees_pushed : (ns : List N) (n : N) → trees_of make (ns ++ n ∷ []) ≡ trees_of make ns ++ make (trees_of make ns) n ∷ []
  trees_pushed ns n = grown_more ns (n ∷ []) []

-- ---- the tree at a number; `none` stands where no node is

module _ {N T : Type 0} (make : List T → N → T) (none : T) where
  -- what is known stays
  grown_old : (ns : List N) (ts : List T) (j : ℕ) → j < length ts → slice_index_or (grown make ts ns) j none ≡ slice_index_or ts j none
  grown_old [] ts j lt = refl
  grown_old (n ∷ ns) ts j lt =
      grown_old ns (ts ++ make ts n ∷ []) j (omega (arith, length-append ts (make ts n ∷ []))) ∙ get_or-append ts (make ts n ∷ []) none j lt

  -- no tree where no node is
  pub tree_past : (ns : List N) (i : ℕ) → length ns ≤ i → slice_index_or (trees_of make ns) i none ≡ none
  tree_past ns i h = get_or_past (trees_of make ns) i none (omega (arith, trees_length make ns))

  -- older trees stay when nodes are added
  pub tree_stays : (old new more : List N) (i : ℕ) → new ≡ old ++ more → i < length old
      → slice_index_or (trees_of make new) i none ≡ slice_index_or (trees_of make old) i none
  tree_stays old new more i e h =
      ap (λ ns. slice_index_or (trees_of make ns) i none) e ∙ ap (λ ts. slice_index_or ts i none) (grown_more make old more [])
      ∙ grown_old more (trees_of make old) i (omega (arith, trees_length make old))

  -- the tree of an added node
  pub tree_pushed : (old new : List N) (n : N) (i : ℕ) → new ≡ old ++ n ∷ [] → i ≡ length old
      → slice_index_or (trees_of make new) i none ≡ make (trees_of make old) n
  tree_pushed old new n i e at =
      let one = make (trees_of make old) n in
      ap (λ ns. slice_index_or (trees_of make ns) i none) e ∙ ap (λ ts. slice_index_or ts i none) (trees_pushed make old n)
      ∙ ap (λ k. slice_index_or (trees_of make old ++ one ∷ []) k none) (at ∙ sym (trees_length make old))
      ∙ get_or-append_seam (trees_of make old) one [] none

  -- ---- a tree is made of those at the nodes that follow: `Follows i n` says that those that follow n come before i

  module _ (Follows : ℕ → N → Type 0)
      (local : (ts us : List T) (i : ℕ) → ((j : ℕ) → j < i → slice_index_or us j none ≡ slice_index_or ts j none) → (n : N) → Follows i n → make us n ≡ make ts n) where
    grown_at : (ns : List N) (ts : List T) (i : ℕ) (n : N) → slice_get ns i ≡ Some n → Follows (length ts + i) n
        → slice_index_or (grown make ts ns) (length ts + i) none ≡ make (grown make ts ns) n
    grown_at [] ts i n h a = absurd cc
    grown_at (m ∷ ns) ts zero n h a =
        let e : m ≡ n = cc in
        let z : length ts + 0 ≡ length ts = omega arith in
        let more = ts ++ make ts m ∷ [] in
        let lt : length ts < length more = omega (arith, length-append ts (make ts m ∷ [])) in
        let here = ap (λ j. slice_index_or (grown make more ns) j none) z ∙ grown_old ns more (length ts) lt ∙ get_or-append_seam ts (make ts m) [] none in
        let old : (j : ℕ) → j < length ts → slice_index_or (grown make more ns) j none ≡ slice_index_or ts j none =
        λ j l. grown_old ns more j (omega arith) ∙ get_or-append ts (make ts m ∷ []) none j l in
        here ∙ ap (make ts) e ∙ sym (local ts (grown make more ns) (length ts) old n (subst (λ (j : ℕ). Follows j n) z a))
    grown_at (m ∷ ns) ts (suc i) n h a =
        let more = ts ++ make ts m ∷ [] in
        let z : length ts + suc i ≡ length more + i = omega (arith, length-append ts (make ts m ∷ [])) in
        ap (λ j. slice_index_or (grown make more ns) j none) z ∙ grown_at ns more i n h (subst (λ (j : ℕ). Follows j n) z a)

    pub tree_at_node : (ns : List N) (i : ℕ) (n : N) → ((j : ℕ) (m : N) → slice_get ns j ≡ Some m → Follows j m) → slice_get ns i ≡ Some n
        → slice_index_or (trees_of make ns) i none ≡ make (trees_of make ns) n
    tree_at_node ns i n closed h =
        let z : length {A = T} [] + i ≡ i = omega arith in
        ap (λ j. slice_index_or (trees_of make ns) j none) (sym z) ∙ grown_at ns [] i n h (subst (λ (j : ℕ). Follows j n) (sym z) (closed i n h))

-- ---- trees that are made alike

module _ {N T U : Type 0} (make : List T → N → T) (other : List U → N → U) (f : T → U) (alike : (ts : List T) (n : N) → other (map f ts) n ≡ f (make ts n)) where
  grown_alike : (ns : List N) (ts : List T) → grown other (map f ts) ns ≡ map f (grown make ts ns)
  grown_alike [] ts = refl
  grown_alike (n ∷ ns) ts =
      ap (λ u. grown other (map f ts ++ u ∷ []) ns) (alike ts n)
      ∙ ap (λ us. grown other us ns) (sym (map-append f ts (make ts n ∷ [])))
      ∙ grown_alike ns (ts ++ make ts n ∷ [])

  pub trees_alike : (ns : List N) → trees_of other ns ≡ map f (trees_of make ns)
  trees_alike ns = grown_alike ns []

-- nodes that stand for others
module _ {M N T : Type 0} (make : List T → N → T) (g : M → N) where
  grown_map : (ms : List M) (ts : List T) → grown make ts (map g ms) ≡ grown (λ us m. make us (g m)) ts ms
  grown_map [] ts = refl
  grown_map (m ∷ ms) ts = grown_map ms (ts ++ make ts (g m) ∷ [])

  pub trees_map : (ms : List M) → trees_of make (map g ms) ≡ trees_of (λ us m. make us (g m)) ms
  trees_map ms = grown_map ms []

-- ---- what holds of every tree

module _ {N T : Type 0} (make : List T → N → T) (none : T) (C : N → Type 0) (P : T → Type 0) (of_none : P none)
    (of_node : (ts : List T) → ((i : ℕ) → P (slice_index_or ts i none)) → (n : N) → C n → P (make ts n)) where
  one_more : (ts : List T) (t : T) → ((i : ℕ) → P (slice_index_or ts i none)) → P t → (i : ℕ) → P (slice_index_or (ts ++ t ∷ []) i none)
  one_more [] t h p zero = p
  one_more [] t h p (suc i) = of_none
  one_more (x ∷ ts) t h p zero = h zero
  one_more (x ∷ ts) t h p (suc i) = one_more ts t (λ j. h (suc j)) p i

  grown_all : (ns : List N) → All C ns → (ts : List T) → ((i : ℕ) → P (slice_index_or ts i none)) → (i : ℕ) → P (slice_index_or (grown make ts ns) i none)
  grown_all [] c ts h = h
  grown_all (n ∷ ns) c ts h =
      grown_all ns (All-tail C n ns c) (ts ++ make ts n ∷ []) (one_more ts (make ts n) h (of_node ts h n (All-head C n ns c)))

  pub trees_all : (ns : List N) → All C ns → (i : ℕ) → P (slice_index_or (trees_of make ns) i none)
  trees_all ns c = grown_all ns c [] (λ i. of_none)
