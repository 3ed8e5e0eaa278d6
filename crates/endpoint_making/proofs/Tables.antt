-- Tables of code, filled as lines are gone through.
use Rattle.std.proofs.Common.{◌≡◌, ℕ, ◌+◌, ◌<◌, Bool, true, Some, add-one, drop, drop-cons, append_assoc, List, [], ◌∷◌, ◌++◌, length, map, take, refl, sym, ap, ◌∙◌, subst}
use Rattle.std.specs.Prelude.{slice_index_or, slice_get, All}
use Rattle.std.proofs.lemmas.Option.{slice_get-get_or}
use Rattle.std.proofs.lemmas.List.{take_more, map-append}
use Rattle.std.proofs.lemmas.List.Elements.{All-map, All-push}
use Rattle.node_table.proofs.Tables.{trees_pushed}
use Rattle.endpoint_code.specs.declared.code.CodeId.{CodeId}
use Rattle.endpoint_code.specs.declared.code.CodeNode.{CodeNode}
use Rattle.endpoint_code.specs.Trees as tree
use Rattle.endpoint_reader.specs.declared.lines.Line.{Line}
use Rattle.endpoint_reader.specs.Lines.{nexts_of, IsClosed}
use Rattle.chor_base.specs.declared.names.NameId.{NameId}
use Rattle.endpoint_code.specs.Kept.{node_there}
use Rattle.endpoint_names.specs.Bodies.{Body, line_body, bodies_of}
use Rattle.endpoint_making.specs.Codes.{code_id, code_of, line_there}

module _ (ls ys : List Line) (i : ℕ) (l : Line) (same : ys ≡ ls) (lt : i < length ys) (at : l ≡ slice_index_or ys i l) where
  within : i < length ls
  within = subst (λ zs. i < length zs) same lt

  here : l ≡ slice_index_or ls i l
  here = at ∙ ap (λ zs. slice_index_or zs i l) same

  -- the nodes that follow come before
  pub next_below : (n : ℕ) (cs : List CodeId) → IsClosed ls → n ≡ i → cs ≡ map code_id (nexts_of l) → All (λ c. c.0 < n) cs
  next_below n cs closed e is =
      let found : slice_get ls i ≡ Some l = slice_get-get_or ls i l within ∙ ap (λ m. Some m) (sym here) in
      let below : All (λ x. x.0 < n) (nexts_of l) = subst (λ (k : ℕ). All (λ x. x.0 < k) (nexts_of l)) (sym e) (closed i l found) in
      subst (λ zs. All (λ c. c.0 < n) zs) (sym is) (All-map (λ c. c.0 < n) code_id (nexts_of l) below)

  -- one line more
  pub trees_turn : (old new : List CodeNode) (node : CodeNode) → new ≡ old ++ node ∷ []
      → ((bs : List Body) → tree.node_tree (map code_of bs) node ≡ code_of (line_body bs l))
      → tree.trees_of old ≡ map code_of (bodies_of (take i ls)) → tree.trees_of new ≡ map code_of (bodies_of (take (i + 1) ls))
  trees_turn old new node is_new made so_far =
      let bs = bodies_of (take i ls) in
      ap tree.trees_of is_new ∙ trees_pushed tree.node_tree old node
      ∙ ap (λ ts. ts ++ tree.node_tree ts node ∷ []) so_far
      ∙ ap (λ c. map code_of bs ++ c ∷ []) (made bs)
      ∙ sym (map-append code_of bs (line_body bs l ∷ []))
      ∙ ap (map code_of) (sym (trees_pushed line_body (take i ls) l) ∙ ap (λ x. bodies_of (take i ls ++ x ∷ [])) here ∙ ap bodies_of (sym (take_more ls i l within)))

  pub there_turn : (n : NameId → Bool) (t : ℕ → Bool) (old new : List CodeNode) (node : CodeNode) → new ≡ old ++ node ∷ []
      → node_there n t node ≡ line_there n t l → All (λ m. line_there n t m ≡ true) ls
      → All (λ o. node_there n t o ≡ true) old → All (λ o. node_there n t o ≡ true) new
  there_turn n t old new node is_new made there so_far =
      let this : node_there n t node ≡ true = made ∙ ap (line_there n t) here ∙ there i l within in
      subst (λ ns. All (λ o. node_there n t o ≡ true) ns) (sym is_new) (All-push (λ o. node_there n t o ≡ true) old node so_far this)

-- one item more of a list that is made item by item
pub mapped_turn : {X Y : Type 0} (f : X → Y) (xs : List X) (i : ℕ) (x : X) (y : Y) (old new whole : List Y) → i < length xs → x ≡ slice_index_or xs i x
    → y ≡ f x → new ≡ old ++ y ∷ [] → old ++ map f (drop i xs) ≡ whole → new ++ map f (drop (i + 1) xs) ≡ whole
mapped_turn f xs i x y old new whole lt at is is_new so_far =
    let rest = map f (drop (i + 1) xs) in
    let parts : drop i xs ≡ slice_index_or xs i x ∷ drop (i + 1) xs = rw (add-one, drop-cons xs i x) refl in
    ap (λ l. l ++ rest) is_new ∙ append_assoc old (y ∷ []) rest
    ∙ ap (λ z. old ++ z ∷ rest) (is ∙ ap f at) ∙ ap (λ l. old ++ map f l) (sym parts) ∙ so_far
