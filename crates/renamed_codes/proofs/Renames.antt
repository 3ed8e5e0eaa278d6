-- How nodes are renamed, and the codes at them.
use Rattle.std.proofs.Common.{◌≡◌, ℕ, zero, suc, ◌+◌, ◌<◌, ◌≤◌, List, [], ◌∷◌, ◌++◌, length, take, get_or, map, refl, sym, ap, ◌∙◌, Some, arith, length-append}
use Rattle.std.specs.Prelude.{All, slice_get, Result, Ok, Err, IfOk}
use Rattle.chor_base.specs.declared.memory.Memory.{Memory}
use Rattle.std.proofs.lemmas.List.{map-append, map_more, take_all}
use Rattle.std.proofs.lemmas.List.Elements.{All-same, All-head, All-tail, All-weaker, All-push}
use Rattle.chor_base.specs.declared.names.NameId.{NameId}
use Rattle.endpoint_code.specs.declared.code.CodeId.{CodeId}
use Rattle.endpoint_code.specs.declared.code.CodeNode.{CodeNode}
use Rattle.endpoint_code.specs.declared.code.CodeNode.TheVariants.{Branch}
use Rattle.endpoint_code.specs.Code.{children_of, IsClosed}
use Rattle.endpoint_code.specs.Trees.{CodeTree, Offers, tree_in, arms_in, node_tree, trees_of, code_at}
use Rattle.endpoint_code.proofs.CodeTables.{code_at-node, code_at-pushed}
use Rattle.branch_merge.specs.Merged.{Keeps}
use Rattle.branch_merge.proofs.ArmTables.{keeps_both, code_kept, kept_length}
use Rattle.projection.specs.Renamed.{renamed, renamed_arms}
use Rattle.renamed_codes.specs.declared.exchange.Exchange.{Exchange}
use Rattle.renamed_codes.specs.Renames.{by, relabelled, IsNodeRenamed, IsRenamed}

-- ---- lists of a known length

mapped_length : {X Y : Type 0} (f : X → Y) (xs : List X) → length (map f xs) ≡ length xs
mapped_length f [] = refl
mapped_length f (x ∷ xs) = ap suc (mapped_length f xs)

none_of : {X : Type 0} (xs : List X) → length xs ≡ 0 → xs ≡ []
none_of [] e = refl
none_of (x ∷ xs) e = absurd (omega arith)

-- ---- nodes

labels_to : (arms : List (NameId × CodeId)) (cs : List CodeId) → length cs ≡ length arms → map (λ arm. arm.1) (relabelled arms cs) ≡ cs
labels_to [] cs h = sym (none_of cs h)
labels_to (arm ∷ arms) [] h = absurd (omega arith)
labels_to (arm ∷ arms) (c ∷ cs) h = ap (λ xs. c ∷ xs) (labels_to arms cs (omega arith))

arms_renamed : (e : Exchange) (us ts : List CodeTree) (arms : List (NameId × CodeId)) (cs : List CodeId) → map (λ c. renamed (by e) (tree_in us c)) (map (λ arm. arm.1) arms) ≡ map (tree_in ts) cs → arms_in ts (relabelled arms cs) ≡ renamed_arms (by e) (arms_in us arms)
arms_renamed e us ts [] cs h = refl
arms_renamed e us ts (arm ∷ arms) [] h = absurd cc
arms_renamed e us ts (arm ∷ arms) (c ∷ cs) h =
    let one : tree_in ts c ≡ renamed (by e) (tree_in us arm.1) = cc in
    let rest : map (λ x. renamed (by e) (tree_in us x)) (map (λ y. y.1) arms) ≡ map (tree_in ts) cs = cc in
    let more = arms_renamed e us ts arms cs rest in cc

module _ (e : Exchange) {old : CodeNode} (to : List CodeId) (same : length to ≡ length (children_of old)) where
  pub offer_renamed : (k a : NameId) (arms made : List (NameId × CodeId)) → old ≡ Branch k a arms → made ≡ relabelled arms to → IsNodeRenamed e old to (Branch (by e k) a made)
  offer_renamed k a arms made is m = record {
    children = ap (map (λ arm. arm.1)) m ∙ labels_to arms to (same ∙ ap length (ap children_of is) ∙ mapped_length (λ arm. arm.1) arms);
    code = λ us ts h.
        ap (λ xs. Offers (by e k) a (arms_in ts xs)) m ∙ ap (Offers (by e k) a) (arms_renamed e us ts arms to (sym (ap (map (λ c. renamed (by e) (tree_in us c))) (ap children_of is)) ∙ h))
        ∙ sym (ap (renamed (by e)) (ap (node_tree us) is));
  }

-- ---- the loop over arms

pub relabelled_more : (arms : List (NameId × CodeId)) (cs : List CodeId) (i : ℕ) (d : NameId × CodeId) (c : CodeId) → i < length arms → length cs ≡ length arms
    → relabelled (take (i + 1) arms) (take (i + 1) cs) ≡ relabelled (take i arms) (take i cs) ++ ((get_or arms i d).0, get_or cs i c) ∷ []
relabelled_more [] cs i d c lt e = absurd (omega arith)
relabelled_more (arm ∷ arms) [] i d c lt e = absurd (omega arith)
relabelled_more (arm ∷ arms) (x ∷ cs) zero d c lt e =
    let z : zero + 1 ≡ suc zero = omega arith in
    ap (λ j. relabelled (take j (arm ∷ arms)) (take j (x ∷ cs))) z
relabelled_more (arm ∷ arms) (x ∷ cs) (suc i) d c lt e =
    let z : suc i + 1 ≡ suc (i + 1) = omega arith in
    ap (λ j. relabelled (take j (arm ∷ arms)) (take j (x ∷ cs))) z ∙ ap (λ l. (arm.0, x) ∷ l) (relabelled_more arms cs i d c (omega arith) (omega arith))

pub relabelled_all : (arms : List (NameId × CodeId)) (cs : List CodeId) (i : ℕ) → length arms ≤ i → length cs ≡ length arms → relabelled (take i arms) (take i cs) ≡ relabelled arms cs
relabelled_all arms cs i le e = ap (λ xs. relabelled xs (take i cs)) (take_all i arms le) ∙ ap (relabelled arms) (take_all i cs (omega arith))

-- ---- a code

same_node : (old more : List CodeNode) (i : ℕ) → i < length old → slice_get (old ++ more) i ≡ slice_get old i
same_node [] more i lt = absurd (omega arith)
same_node (n ∷ old) more zero lt = refl
same_node (n ∷ old) more (suc i) lt = same_node old more i (omega arith)

pub one_node : {old mid : List CodeNode} (k : Keeps old mid) (i : ℕ) (n m : CodeNode) → i < length old → slice_get old i ≡ Some n → slice_get mid i ≡ Some m → n ≡ m
one_node {old = old} k i n m lt a b =
    let e : slice_get old i ≡ Some m = sym (same_node old k.more i lt) ∙ ap (λ ns. slice_get ns i) (sym k.is) ∙ b in
    let both : Some n ≡ Some m = sym a ∙ e in cc

codes_kept : {old new : List CodeNode} (ids : List CodeId) → Keeps old new → All (λ c. c.0 < length old) ids → map (code_at new) ids ≡ map (code_at old) ids
codes_kept [] k h = refl
codes_kept {old = old} (c ∷ ids) k h =
    let one = code_kept c k (All-head (λ x. x.0 < length old) c ids h) in
    let rest = codes_kept ids k (All-tail (λ x. x.0 < length old) c ids h) in cc

inside_later : {old new : List CodeNode} (ids : List CodeId) → Keeps old new → All (λ c. c.0 < length old) ids → All (λ c. c.0 < length new) ids
inside_later {old = old} {new = new} ids k h = All-weaker (λ c. c.0 < length old) (λ c. c.0 < length new) (λ c lt. let n = kept_length k in let m : c.0 < length old = lt in omega arith) ids h

pub child_before : (id : CodeId) (nodes : List CodeNode) (n : CodeNode) → IsClosed nodes → slice_get nodes id.0 ≡ Some n → (items : List CodeId) → items ≡ children_of n → (i : ℕ) (d : CodeId) → i < length items → (get_or items i d).0 < id.0
child_before id nodes n closed at items are i d lt = All-same (λ c. c.0 < id.0) items (children_of n) are (closed id.0 n at) i d lt

pub all_codes : (e : Exchange) (old mid : List CodeNode) (items : List CodeId) (i : ℕ) (to : List CodeId) → length items ≤ i → map (code_at mid) to ≡ map (λ c. renamed (by e) (code_at old c)) (take i items) → map (code_at mid) to ≡ map (λ c. renamed (by e) (code_at old c)) items
all_codes e old mid items i to le h = h ∙ ap (map (λ c. renamed (by e) (code_at old c))) (take_all i items le)

-- one turn of the loop over the nodes that follow
module _ (e : Exchange) {old mid new : List CodeNode} (items : List CodeId) (i : ℕ) (d : CodeId) (lt : i < length items) (k : Keeps old mid) (to us : List CodeId) (id : CodeId) (before : (get_or items i d).0 < length old)
    (inside : All (λ c. c.0 < length mid) to) (made : IsRenamed e mid new (get_or items i d) id) (push : us ≡ to ++ id ∷ []) where
  pub turn_inside : All (λ c. c.0 < length new) us
  turn_inside = All-same (λ c. c.0 < length new) us (to ++ id ∷ []) push (All-push (λ c. c.0 < length new) to id (inside_later to made.kept inside) made.inside)

  pub turn_codes : map (code_at mid) to ≡ map (λ c. renamed (by e) (code_at old c)) (take i items) → map (code_at new) us ≡ map (λ c. renamed (by e) (code_at old c)) (take (i + 1) items)
  turn_codes h =
      let it = get_or items i d in
      let front : map (code_at new) to ≡ map (λ c. renamed (by e) (code_at old c)) (take i items) = codes_kept to made.kept inside ∙ h in
      let last : code_at new id ≡ renamed (by e) (code_at old it) = made.code ∙ ap (renamed (by e)) (code_kept it k before) in
      ap (map (code_at new)) push ∙ map-append (code_at new) to (id ∷ []) ∙ ap (λ xs. xs ++ code_at new id ∷ []) front
      ∙ ap (λ x. map (λ c. renamed (by e) (code_at old c)) (take i items) ++ x ∷ []) last
      ∙ sym (map_more (λ c. renamed (by e) (code_at old c)) items i d lt)

-- after the loop
module _ (e : Exchange) {old mid : List CodeNode} (id : CodeId) (n m : CodeNode) (closed : IsClosed old) (within : id.0 < length old) (at : slice_get old id.0 ≡ Some n) (again : slice_get mid id.0 ≡ Some m) (k : Keeps old mid)
    (items to : List CodeId) (are : items ≡ children_of n) (codes : map (code_at mid) to ≡ map (λ c. renamed (by e) (code_at old c)) items) where
  same : n ≡ m
  same = one_node k id.0 n m within at again

  pub to_length : length to ≡ length (children_of m)
  to_length = sym (mapped_length (code_at mid) to) ∙ ap length codes ∙ mapped_length (λ c. renamed (by e) (code_at old c)) items ∙ ap length are ∙ ap (λ x. length (children_of x)) same

  pub renamed_made : (new : List CodeNode) (o : CodeNode) (r : CodeId) → IsNodeRenamed e m to o → new ≡ mid ++ o ∷ [] → r.0 ≡ length mid → IsRenamed e old new id r
  renamed_made new o r h push place = record {
    kept = keeps_both k (record { more = o ∷ []; is = push });
    inside = omega (arith, ap length push ∙ length-append mid (o ∷ []));
    code =
        code_at-pushed mid new o r push place
        ∙ h.code (trees_of old) (trees_of mid) (sym (codes ∙ ap (map (λ c. renamed (by e) (code_at old c))) (are ∙ ap children_of same)))
        ∙ ap (renamed (by e)) (ap (node_tree (trees_of old)) (sym same) ∙ sym (code_at-node old id n closed at));
  }

pub pushed_answer : (e : Exchange) (old mid new : List CodeNode) (id : CodeId) (n m o : CodeNode) (closed : IsClosed old) (within : id.0 < length old) (at : slice_get old id.0 ≡ Some n) (again : slice_get mid id.0 ≡ Some m) (k : Keeps old mid)
    (items to : List CodeId) (are : items ≡ children_of n) (codes : map (code_at mid) to ≡ map (λ c. renamed (by e) (code_at old c)) items) → IsNodeRenamed e m to o
    → (answer : Result CodeId Memory) → IfOk answer (λ r. (r.0 ≡ length mid) × (new ≡ mid ++ o ∷ [])) → IfOk answer (IsRenamed e old new id)
pushed_answer e old mid new id n m o closed within at again k items to are codes h (Ok r) p = renamed_made e id n m closed within at again k items to are codes new o r h p.1 p.0
pushed_answer e old mid new id n m o closed within at again k items to are codes h (Err f) p = tt
