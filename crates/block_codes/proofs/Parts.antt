-- How the codes before a statement are made, one process after another.
use Rattle.std.proofs.Common.{◌≡◌, ℕ, ◌+◌, ◌<◌, List, [], ◌∷◌, ◌++◌, length, take, get_or, refl, sym, ap, ◌∙◌, subst, Some, None, Ok, Err, arith, length-append}
use Rattle.std.specs.Prelude.{IfOk, Option, Result, map}
use Rattle.std.specs.List.{AllZip}
use Rattle.chor_base.specs.declared.memory.Memory.{Memory}
use Rattle.chor_base.specs.declared.names.NameId.{NameId}
use Rattle.chor_tree.specs.declared.file.Proc.{Proc}
use Rattle.chor_tree.specs.declared.file.Named.{Named as Written}
use Rattle.chor_tree.specs.declared.tree.Form.{Form}
use Rattle.chor_tree.specs.declared.tree.Form.TheVariants.{Call}
use Rattle.chor_semantics.specs.Sources.{name_ref}
use Rattle.endpoint_code.specs.declared.code.CodeId.{CodeId}
use Rattle.endpoint_code.specs.declared.code.CodeNode.{CodeNode}
use Rattle.endpoint_code.specs.declared.code.CodeNode.TheVariants.{End}
use Rattle.endpoint_code.specs.Trees.{Ends, code_at, trees_of}
use Rattle.endpoint_code.proofs.CodeTables.{code_at-pushed}
use Rattle.branch_merge.specs.Merged.{Keeps}
use Rattle.branch_merge.proofs.ArmTables.{keeps_all, code_kept, kept_length}
use Rattle.projection.specs.Codes.{Part, call_code, proc_named}
use Rattle.projection.specs.Making.{part_tree, part_at, Puts}
use Rattle.block_codes.specs.declared.coded.Coded.{Coded}
use Rattle.block_codes.specs.Nodes.{call_in, called_in}
use Rattle.block_codes.specs.Parts.{IsPut, IsEndAt, IsLeaf, IsCallAt, IsCalled}
use Rattle.block_codes.proofs.Zips.{zip_weaker, zip_step}

-- ---- a statement

pub puts_keeps : {old new : List CodeNode} {part : Part} {next id : CodeId} → Puts old new part next id → Keeps old new
puts_keeps p = record { more = p.more; is = p.is }

put_kept : {old mid new : List CodeNode} {g : Form} (x y : Coded) → Keeps mid new → IsPut old mid g x y → IsPut old new g x y
put_kept x y k h = record {
  process = h.process;
  inside = let n = kept_length k in let m = h.inside in omega arith;
  code = code_kept y.code k h.inside ∙ h.code;
}

put_one : {old mid new : List CodeNode} (g : Form) (x : Coded) (id : CodeId) → Keeps old mid → x.code.0 < length old → Puts mid new (part_at x.process g) x.code id → IsPut old new g x (record { process = x.process; code = id })
put_one g x id k lt p = record {
  process = refl;
  inside = p.inside;
  code = p.code ∙ ap (part_tree (part_at x.process g)) (code_kept x.code k lt);
}

-- one turn of the loop
pub put_more : {old mid new : List CodeNode} (g : Form) (xs : List Coded) (i : ℕ) (d : Coded) (ys zs : List Coded) (id : CodeId) → i < length xs → Keeps old mid → AllZip (IsPut old mid g) (take i xs) ys → (get_or xs i d).code.0 < length old
    → Puts mid new (part_at (get_or xs i d).process g) (get_or xs i d).code id → zs ≡ ys ++ record { process = (get_or xs i d).process; code = id } ∷ [] → AllZip (IsPut old new g) (take (i + 1) xs) zs
put_more {old = old} {mid = mid} {new = new} g xs i d ys zs id lt k z inside p e =
    zip_step (IsPut old new g) xs i d ys zs (record { process = (get_or xs i d).process; code = id }) lt
    (zip_weaker (IsPut old mid g) (IsPut old new g) (λ x y. put_kept x y (puts_keeps p)) (take i xs) ys z) (put_one g (get_or xs i d) id k inside p) e

-- ---- a call

keeps_pushed : (old new : List CodeNode) (n : CodeNode) → new ≡ old ++ n ∷ [] → Keeps old new
keeps_pushed old new n e = record { more = n ∷ []; is = e }

pushed_inside : (old new : List CodeNode) (n : CodeNode) (id : CodeId) → new ≡ old ++ n ∷ [] → id.0 ≡ length old → id.0 < length new
pushed_inside old new n id e i = omega (arith, ap length e ∙ length-append old (n ∷ []))

pub end_answer : (old new : List CodeNode) (answer : Result CodeId Memory) → IfOk answer (λ id. (id.0 ≡ length old) × (new ≡ old ++ End ∷ [])) → IfOk answer (IsEndAt old new)
end_answer old new (Ok id) h = record { kept = keeps_pushed old new End h.1; inside = pushed_inside old new End id h.1 h.0; code = code_at-pushed old new End id h.1 h.0 }
end_answer old new (Err m) h = tt

pub call_ends : (procs : List Proc) (g : Form) (nodes : List CodeNode) (r : NameId) (id : CodeId) (made : Option CodeNode) → IsLeaf (call_in procs r g) made → made ≡ None → id.0 < length nodes → code_at nodes id ≡ Ends → IsCallAt procs g nodes nodes r id
call_ends procs g nodes r id made leaf e lt ends = record {
  kept = keeps_all nodes;
  inside = lt;
  code = ends ∙ sym (subst (IsLeaf (call_in procs r g)) e leaf);
}

pub call_pushed : (procs : List Proc) (g : Form) (old new : List CodeNode) (r : NameId) (n : CodeNode) (made : Option CodeNode) (answer : Result CodeId Memory) → IsLeaf (call_in procs r g) made → made ≡ Some n → IfOk answer (λ id. (id.0 ≡ length old) × (new ≡ old ++ n ∷ []))
    → IfOk answer (IsCallAt procs g old new r)
call_pushed procs g old new r n made (Ok id) leaf e h =
    let l = subst (IsLeaf (call_in procs r g)) e leaf in
    record {
      kept = keeps_pushed old new n h.1;
      inside = pushed_inside old new n id h.1 h.0;
      code = code_at-pushed old new n id h.1 h.0 ∙ l.1 (trees_of old);
    }
call_pushed procs g old new r n made (Err m) leaf e h = tt

-- a leaf of the call of a procedure that was looked up is one of the call
pub tail_calls : (procs : List Proc) (r : NameId) (g : Form) (f : Written) (ps ks : List Written) (h : Option Proc) (made : Option CodeNode) → g ≡ Call f ps ks → h ≡ called_in procs g
    → IsLeaf (call_code r f.name (map name_ref ps) (map name_ref ks) h) made → IsLeaf (call_in procs r g) made
tail_calls procs r g f ps ks h made is same leaf =
    let found : h ≡ proc_named procs f.name = same ∙ ap (called_in procs) is in
    subst (λ k. IsLeaf (call_in procs r k) made) (sym is) (subst (λ x. IsLeaf (call_code r f.name (map name_ref ps) (map name_ref ks) x) made) found leaf)

called_kept : {procs : List Proc} {g : Form} {mid new : List CodeNode} (r : NameId) (y : Coded) → Keeps mid new → IsCalled procs g mid r y → IsCalled procs g new r y
called_kept r y k h = record {
  process = h.process;
  inside = let n = kept_length k in let m = h.inside in omega arith;
  code = code_kept y.code k h.inside ∙ h.code;
}

pub called_more : {procs : List Proc} {g : Form} {mid new : List CodeNode} (scope : List NameId) (i : ℕ) (d : NameId) (ys zs : List Coded) (id : CodeId) → i < length scope → AllZip (IsCalled procs g mid) (take i scope) ys
    → IsCallAt procs g mid new (get_or scope i d) id → zs ≡ ys ++ record { process = get_or scope i d; code = id } ∷ [] → AllZip (IsCalled procs g new) (take (i + 1) scope) zs
called_more {procs = procs} {g = g} {mid = mid} {new = new} scope i d ys zs id lt z p e =
    zip_step (IsCalled procs g new) scope i d ys zs (record { process = get_or scope i d; code = id }) lt
    (zip_weaker (IsCalled procs g mid) (IsCalled procs g new) (λ r y. called_kept r y p.kept) (take i scope) ys z)
    (record { process = refl; inside = p.inside; code = p.code }) e
