-- How lines within braces are written.
use Rattle.std.proofs.Common.{◌≡◌, ℕ, suc, ◌+◌, ◌<◌, List, [], ◌∷◌, ◌++◌, map, Some, refl, sym, ap, ◌∙◌, subst, append_assoc, arith, codes}
use Rattle.std.specs.Prelude.{All}
use Rattle.std.specs.List.{flat_map}
use Rattle.std.proofs.lemmas.Grind.{flat_map-append}
use Rattle.std.proofs.lemmas.List.{append-nil}
use Rattle.std.proofs.lemmas.List.Elements.{All-nil, All-cons, All-head, All-tail}
use Rattle.chor_base.specs.declared.expr.Expr.{Expr}
use Rattle.chor_base.specs.Expr.{term_of}
use Rattle.chor_tree.specs.declared.file.File.{File}
use Rattle.chor_tree.specs.declared.file.Named.{Named}
use Rattle.chor_tree.specs.declared.tree.NodeId.{NodeId}
use Rattle.chor_tree.specs.declared.tree.Form.{Form}
use Rattle.chor_tree.specs.declared.tree.Form.TheVariants.{Start, Value, Label, Give, Set, Host, Show, If, Call, End}
use Rattle.chor_tree.specs.Children.{children_of}
use Rattle.chor_print.specs.Statements.{if_text}
use Rattle.chor_print.specs.Lines.{indented, braced, lines_in, lines_of_form, block_lines}
use Rattle.chor_print.specs.Text.{header_lines, state_line, protocol_head, protocol_lines, service_line, proc_head, proc_lines, main_head, main_lines, canonical_text}
use Rattle.chor_print.specs.Parts.{indentation, line_at, lines_at, body_text, statement_text, next_of, header_text, protocol_text, service_text, proc_text, main_text}

-- ---- indentation

pub indented_at : (depth : ℕ) (ls : List (List ℕ)) → lines_at depth (indented ls) ≡ lines_at (depth + 1) ls
indented_at depth [] = refl
indented_at depth (l ∷ ls) =
    let one : depth + 1 ≡ suc depth = omega arith in
    let here : line_at depth (codes "  " ++ l) ≡ line_at (suc depth) l = ap (λ (t : List ℕ). t ++ 10 ∷ []) (sym (append_assoc (indentation depth) (codes "  ") l)) in
    ap (λ t. t ++ lines_at depth (indented ls)) here ∙ ap (λ t. line_at (suc depth) l ++ t) (indented_at depth ls) ∙ ap (λ d. line_at d l ++ lines_at (depth + 1) ls) (sym one)

-- lines between braces
pub braced_at : (depth : ℕ) (head : List ℕ) (ls : List (List ℕ)) → lines_at depth (braced head ls) ≡ line_at depth head ++ (lines_at (depth + 1) ls ++ line_at depth (codes "}"))
braced_at depth head ls =
    ap (λ t. line_at depth head ++ t)
    (flat_map-append (line_at depth) (indented ls) (codes "}" ∷ []) ∙ ap (λ t. t ++ lines_at depth (codes "}" ∷ [])) (indented_at depth ls) ∙ ap (λ (t : List ℕ). lines_at (depth + 1) ls ++ t) (append-nil (line_at depth (codes "}"))))

-- a conditional
pub either_at : (depth : ℕ) (head middle end : List ℕ) (first second : List (List ℕ))
    → lines_at depth (head ∷ (indented first ++ middle ∷ (indented second ++ end ∷ [])))
    ≡ line_at depth head ++ (lines_at (depth + 1) first ++ (line_at depth middle ++ (lines_at (depth + 1) second ++ line_at depth end)))
either_at depth head middle end first second =
    let later = middle ∷ (indented second ++ end ∷ []) in
    let closing : lines_at depth (indented second ++ end ∷ []) ≡ lines_at (depth + 1) second ++ line_at depth end =
    flat_map-append (line_at depth) (indented second) (end ∷ []) ∙ ap (λ t. t ++ lines_at depth (end ∷ [])) (indented_at depth second)
    ∙ ap (λ (t : List ℕ). lines_at (depth + 1) second ++ t) (append-nil (line_at depth end)) in
    ap (λ t. line_at depth head ++ t)
    (flat_map-append (line_at depth) (indented first) later ∙ ap (λ t. t ++ lines_at depth later) (indented_at depth first)
    ∙ ap (λ (t : List ℕ). lines_at (depth + 1) first ++ (line_at depth middle ++ t)) closing)

-- lines that are made of items
pub mapped_lines : {A : Type 0} (depth : ℕ) (line : A → List ℕ) (xs : List A) → lines_at depth (map line xs) ≡ flat_map (λ x. line_at depth (line x)) xs
mapped_lines depth line [] = refl
mapped_lines depth line (x ∷ xs) = ap (λ t. line_at depth (line x) ++ t) (mapped_lines depth line xs)

-- the same of units that are written between braces
pub braced_lines : {A : Type 0} (head : A → List ℕ) (lines : A → List (List ℕ)) (xs : List A)
    → lines_at 0 (flat_map (λ x. braced (head x) (lines x)) xs) ≡ flat_map (λ x. line_at 0 (head x) ++ body_text (lines x)) xs
braced_lines head lines [] = refl
braced_lines head lines (x ∷ xs) =
    flat_map-append (line_at 0) (braced (head x) (lines x)) (flat_map (λ y. braced (head y) (lines y)) xs)
    ∙ (λ i. braced_at 0 (head x) (lines x) i ++ braced_lines head lines xs i)

-- the text of a file, unit by unit
pub canonical : (f : File)
    → canonical_text f ≡ header_text f.header ++ flat_map (protocol_text f.names) f.protocols ++ flat_map (service_text f.names) f.services ++ flat_map (proc_text f) f.procs ++ main_text f
canonical f =
    let hs = header_lines f.header in
    let ps = flat_map (protocol_lines f.names) f.protocols in
    let ss = map (service_line f.names) f.services in
    let rs = flat_map (proc_lines f) f.procs in
    flat_map-append (line_at 0) (hs ++ ps ++ ss ++ rs) (main_lines f)
    ∙ ap (λ (t : List ℕ). t ++ lines_at 0 (main_lines f))
    (flat_map-append (line_at 0) (hs ++ ps ++ ss) rs
    ∙ ap (λ (t : List ℕ). t ++ lines_at 0 rs) (flat_map-append (line_at 0) (hs ++ ps) ss ∙ ap (λ (t : List ℕ). t ++ lines_at 0 ss) (flat_map-append (line_at 0) hs ps)))
    ∙ (λ i. header_text f.header
    ++ braced_lines (protocol_head f.names) (λ p. map (state_line f.names) p.states) f.protocols i
    ++ mapped_lines 0 (service_line f.names) f.services i
    ++ braced_lines (proc_head f.names) (λ p. block_lines f p.body) f.procs i
    ++ braced_at 0 (main_head f) (block_lines f f.body) i)

-- ---- statements

module _ (f : File) (bs : List (List (List ℕ))) where
  pub lines_on : (n : Form) (next : NodeId) → next_of n ≡ Some next → lines_of_form f bs n ≡ (statement_text f n ++ codes ";") ∷ lines_in bs next
  lines_on (Start c k active serve m) next h = cc
  lines_on (Value from e to x k m) next h = cc
  lines_on (Label from to k l m) next h = cc
  lines_on (Give from to k given m) next h = cc
  lines_on (Set p x e m) next h = cc
  lines_on (Host p x g left right m) next h = cc
  lines_on (Show p e m) next h = cc
  lines_on (If p e first second) next h = absurd cc
  lines_on (Call g ps ks) next h = absurd cc
  lines_on End next h = absurd cc

-- a conditional, by its branches
pub if_lines : (f : File) (bs : List (List (List ℕ))) (depth : ℕ) {p : Named} {e : Expr} {first second : NodeId} (n : Form) → n ≡ If p e first second
    → lines_at depth (lines_of_form f bs n)
    ≡ line_at depth (if_text f p (term_of e)) ++ (lines_at (depth + 1) (lines_in bs first)
    ++ (line_at depth (codes "} else {") ++ (lines_at (depth + 1) (lines_in bs second) ++ line_at depth (codes "}"))))
if_lines f bs depth {p} {e} {first} {second} n h =
    ap (λ m. lines_at depth (lines_of_form f bs m)) h ∙ either_at depth (if_text f p (term_of e)) (codes "} else {") (codes "}") (lines_in bs first) (lines_in bs second)

-- all stand below i
abbrev pub Below : ℕ → List NodeId → Type 0
Below i cs = All (λ c. c.0 < i) cs

module _ (i : ℕ) where
  one_below : (c d : NodeId) → Some c ≡ Some d → Below i (c ∷ []) → d.0 < i
  one_below c d h b = let here = All-head (λ c. c.0 < i) c [] b in let same : c ≡ d = cc in subst (λ (x : NodeId). x.0 < i) same here

  pub below_on : (n : Form) (next : NodeId) → next_of n ≡ Some next → Below i (children_of n) → next.0 < i
  below_on (Start c k active serve m) next h b = one_below m next h b
  below_on (Value from e to x k m) next h b = one_below m next h b
  below_on (Label from to k l m) next h b = one_below m next h b
  below_on (Give from to k given m) next h b = one_below m next h b
  below_on (Set p x e m) next h b = one_below m next h b
  below_on (Host p x g left right m) next h b = one_below m next h b
  below_on (Show p e m) next h b = one_below m next h b
  below_on (If p e first second) next h b = absurd cc
  below_on (Call g ps ks) next h b = absurd cc
  below_on End next h b = absurd cc

  pub below_more : (j : ℕ) (cs : List NodeId) → j < i → Below j cs → Below i cs
  below_more j [] lt b = All-nil (λ c. c.0 < i)
  below_more j (c ∷ cs) lt b =
      let here : c.0 < j = All-head (λ c. c.0 < j) c cs b in
      All-cons (λ c. c.0 < i) c cs (omega arith) (below_more j cs lt (All-tail (λ c. c.0 < j) c cs b))
