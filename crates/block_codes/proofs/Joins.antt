-- How the codes of two branches are joined, one process after another.
use Rattle.std.proofs.Common.{◌≡◌, ℕ, ◌+◌, ◌<◌, ◌==◌, Bool, true, false, List, [], ◌∷◌, ◌++◌, length, take, get_or, refl, sym, ap, ◌∙◌, subst, arith, length-append}
use Rattle.std.specs.Prelude.{All}
use Rattle.std.specs.List.{AllZip, zip}
use Rattle.std.proofs.lemmas.List.Elements.{All-nil, All-cons}
use Rattle.chor_base.specs.declared.expr.Expr.{Expr}
use Rattle.chor_base.specs.Expr.{term_of}
use Rattle.chor_tree.specs.declared.file.Named.{Named as Written}
use Rattle.chor_tree.specs.declared.tree.Form.{Form}
use Rattle.chor_tree.specs.declared.tree.Form.TheVariants.{If}
use Rattle.chor_tree.specs.declared.tree.NodeId.{NodeId}
use Rattle.chor_tree.specs.declared.tree.Node.{Node as TreeNode}
use Rattle.endpoint_code.specs.declared.code.CodeId.{CodeId}
use Rattle.endpoint_code.specs.declared.code.CodeNode.{CodeNode}
use Rattle.endpoint_code.specs.declared.code.CodeNode.TheVariants.{If as Test}
use Rattle.endpoint_code.proofs.CodeTables.{code_at-pushed}
use Rattle.endpoint_code.specs.Labels.{HasDistinctLabels}
use Rattle.endpoint_code.specs.LeastAbove.{HasNoneAbove}
use Rattle.endpoint_code.specs.Trees.{CodeTree, Tests, code_at}
use Rattle.branch_merge.specs.Merged.{Keeps, IsMerged}
use Rattle.branch_merge.proofs.ArmTables.{code_kept, kept_length}
use Rattle.projection.specs.MergeFaults.{IsFirstOf}
use Rattle.block_codes.specs.declared.coded.Coded.{Coded}
use Rattle.block_codes.specs.declared.stop.Stop.{Stop}
use Rattle.block_codes.specs.declared.stop.Stop.TheVariants.{Clash, Memory}
use Rattle.block_codes.specs.Joins.{Branched, decides, IsSound, IsJoin, IsJoinedAt, IsJoined, IsStuck, StopsOne, StopsFirst}
use Rattle.block_codes.proofs.Zips.{zip_weaker, zip_step, first_at, length-zip, get_or-zip}

pub sound_kept : {old new : List CodeNode} (x : Coded) → Keeps old new → IsSound old x → IsSound new x
sound_kept x k h = record {
  inside = let n = kept_length k in let m = h.inside in omega arith;
  distinct = subst HasDistinctLabels (sym (code_kept x.code k h.inside)) h.distinct;
}

joined_kept : {old mid new : List CodeNode} {g : Form} (x : Branched) (y : Coded) → Keeps mid new → IsJoined old mid g x y → IsJoined old new g x y
joined_kept {old = old} {g = g} x y k h = record {
  process = h.process;
  inside = let n = kept_length k in let m = h.inside in omega arith;
  code = subst (IsJoin (decides x.0.process g) g (code_at old x.0.code) (code_at old x.1.code)) (sym (code_kept y.code k h.inside)) h.code;
}

-- the codes that are joined are those of the old table
joined_one : {old mid new : List CodeNode} {g : Form} (x : Branched) (id : CodeId) → Keeps old mid → IsSound old x.0 → IsSound old x.1 → IsJoinedAt mid new g x id → IsJoined old new g x (record { process = x.0.process; code = id })
joined_one {old = old} {mid = mid} {new = new} {g = g} x id k h i j = record {
  process = refl;
  inside = j.inside;
  code =
      subst (λ (c : CodeTree). IsJoin (decides x.0.process g) g c (code_at old x.1.code) (code_at new id)) (code_kept x.0.code k h.inside)
      (subst (λ (c : CodeTree). IsJoin (decides x.0.process g) g (code_at mid x.0.code) c (code_at new id)) (code_kept x.1.code k i.inside) j.code);
}

stuck_same : {old mid : List CodeNode} {g : Form} (x : Branched) → Keeps old mid → IsSound old x.0 → IsSound old x.1 → IsStuck mid g x → IsStuck old g x
stuck_same {old = old} {mid = mid} x k h i s = record {
  other = s.other;
  none =
      subst (λ (c : CodeTree). HasNoneAbove (c ∷ code_at old x.1.code ∷ [])) (code_kept x.0.code k h.inside)
      (subst (λ (c : CodeTree). HasNoneAbove (code_at mid x.0.code ∷ c ∷ [])) (code_kept x.1.code k i.inside) s.none);
}

-- what is joined isn't stuck
not_stuck : {old new : List CodeNode} {g : Form} (x : Branched) (y : Coded) → IsJoined old new g x y → IsStuck old g x → ⊥
not_stuck {old = old} {new = new} {g = g} x y j s =
    let l : IsJoin false g (code_at old x.0.code) (code_at old x.1.code) (code_at new y.code) =
    subst (λ (b : Bool). IsJoin b g (code_at old x.0.code) (code_at old x.1.code) (code_at new y.code)) s.other j.code in
    s.none (code_at new y.code) l.distinct l.above

none_stuck : (old new : List CodeNode) (g : Form) (xs : List Branched) (ys : List Coded) → AllZip (IsJoined old new g) xs ys → All (λ x. IsStuck old g x → ⊥) xs
none_stuck old new g [] [] z = All-nil (λ x. IsStuck old g x → ⊥)
none_stuck old new g [] (y ∷ ys) z = absurd z
none_stuck old new g (x ∷ xs) [] z = absurd z
none_stuck old new g (x ∷ xs) (y ∷ ys) z = All-cons (λ x. IsStuck old g x → ⊥) x xs (not_stuck x y z.0) (none_stuck old new g xs ys z.1)

-- the decider's code
pub tested : {old new : List CodeNode} {g : Form} (x : Branched) (p : Written) (e made : Expr) (a b : NodeId) (id : CodeId) → g ≡ If p e a b → (x.0.process.0 == p.name.0) ≡ true → term_of made ≡ term_of e → new ≡ old ++ Test made x.0.code x.1.code ∷ [] → id.0 ≡ length old
    → IsJoinedAt old new g x id
tested {old = old} {new = new} {g = g} x p e made a b id is true' same push at = record {
  kept = record { more = Test made x.0.code x.1.code ∷ []; is = push };
  inside = omega (arith, ap length push ∙ length-append old (Test made x.0.code x.1.code ∷ []));
  code =
      subst (λ (f : Form). IsJoin (decides x.0.process f) f (code_at old x.0.code) (code_at old x.1.code) (code_at new id)) (sym is)
      (subst (λ (t : Bool). IsJoin t (If p e a b) (code_at old x.0.code) (code_at old x.1.code) (code_at new id)) (sym true')
      (code_at-pushed old new (Test made x.0.code x.1.code) id push at ∙ ap (λ y. Tests y (code_at old x.0.code) (code_at old x.1.code)) same));
}

-- the code of a process that doesn't decide
pub merged_apart : {old new : List CodeNode} {g : Form} (x : Branched) (p : Written) (e : Expr) (a b : NodeId) (id : CodeId) → g ≡ If p e a b → (x.0.process.0 == p.name.0) ≡ false → Keeps old new
    → IsMerged old new x.0.code x.1.code id → IsJoinedAt old new g x id
merged_apart {old = old} {new = new} {g = g} x p e a b id is other k m = record {
  kept = k;
  inside = m.inside;
  code = subst (λ (t : Bool). IsJoin t g (code_at old x.0.code) (code_at old x.1.code) (code_at new id)) (sym (ap (decides x.0.process) is ∙ other)) m.least;
}

-- one turn of the loop
module _ {old mid : List CodeNode} (g : Form) (firsts seconds : List Coded) (i : ℕ) (d : Coded) (lt : i < length firsts) (same : length firsts ≡ length seconds)
    (sound : All (IsSound old) firsts) (sound' : All (IsSound old) seconds) (k : Keeps old mid) where
  abbrev it : Branched
  it = (get_or firsts i d, get_or seconds i d)

  first_sound : IsSound old (get_or firsts i d)
  first_sound = sound i d lt

  second_sound : IsSound old (get_or seconds i d)
  second_sound = sound' i d (omega arith)

  pub first_later : IsSound mid (get_or firsts i d)
  first_later = sound_kept (get_or firsts i d) k first_sound

  pub second_later : IsSound mid (get_or seconds i d)
  second_later = sound_kept (get_or seconds i d) k second_sound

  at : get_or (zip firsts seconds) i (d, d) ≡ it
  at = get_or-zip firsts seconds i d d lt same

  within : i < length (zip firsts seconds)
  within = let e = length-zip firsts seconds same in omega arith

  pub join_more : {new : List CodeNode} (ys zs : List Coded) (id : CodeId) → AllZip (IsJoined old mid g) (take i (zip firsts seconds)) ys → IsJoinedAt mid new g it id → zs ≡ ys ++ record { process = (get_or firsts i d).process; code = id } ∷ []
      → AllZip (IsJoined old new g) (take (i + 1) (zip firsts seconds)) zs
  join_more {new = new} ys zs id z j e =
      zip_step (IsJoined old new g) (zip firsts seconds) i (d, d) ys zs (record { process = (get_or firsts i d).process; code = id }) within
      (zip_weaker (IsJoined old mid g) (IsJoined old new g) (λ x y. joined_kept x y j.kept) (take i (zip firsts seconds)) ys z)
      (subst (λ (x : Branched). IsJoined old new g x (record { process = (get_or firsts i d).process; code = id })) (sym at) (joined_one it id k first_sound second_sound j)) e

  pub stops_first : (n : TreeNode) → n.form ≡ g → (ys : List Coded) (s : Stop) → AllZip (IsJoined old mid g) (take i (zip firsts seconds)) ys → StopsOne mid n it s → StopsFirst old n (zip firsts seconds) s
  stops_first n e ys Memory z h = tt
  stops_first n e ys (Clash place who) z h =
      let stuck : IsStuck old g it = stuck_same it k first_sound second_sound (subst (λ (f : Form). IsStuck mid f it) e h.stuck) in
      let first : IsFirstOf (IsStuck old g) (get_or (zip firsts seconds) i (d, d)) (zip firsts seconds) =
      first_at (IsStuck old g) (zip firsts seconds) i (d, d) within (none_stuck old mid g (take i (zip firsts seconds)) ys z) (subst (IsStuck old g) (sym at) stuck) in
      record {
        branched = it;
        first = subst (λ (f : Form). IsFirstOf (IsStuck old f) it (zip firsts seconds)) (sym e) (subst (λ (x : Branched). IsFirstOf (IsStuck old g) x (zip firsts seconds)) at first);
        place_is = h.place_is;
        who_is = h.who_is;
      }
