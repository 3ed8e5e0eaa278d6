-- The text of statements, without the semicolon that ends them, and of what a conditional begins with (this project's own).
use Rattle.std.specs.Prelude.{ℕ, List, ◌++◌, codes}
use Rattle.chor_base.specs.declared.names.NameId.{NameId}
use Rattle.chor_base.specs.Expr.{Term}
use Rattle.chor_base.specs.Writing.{name_in}
use Rattle.chor_lexer.specs.Canonical.{expr_text}
use Rattle.chor_tree.specs.declared.file.Named.{Named}
use Rattle.chor_tree.specs.declared.file.File.{File}
use Rattle.chor_tree.specs.declared.tree.Part.{Part}
use Rattle.chor_print.specs.Pieces.{named_text, part_text, listed, listed_after}

-- an expression, by the tables of the file f
abbrev pub term_text : File → Term → List ℕ
term_text f e = expr_text f.names f.texts e

-- `start a(k): p[A], q[B] new r[C]`
abbrev pub start_text : File → Named → Named → List Part → List Part → List ℕ
start_text f c k active serve =
    codes "start " ++ named_text f.names c ++ codes "(" ++ named_text f.names k ++ codes "): "
    ++ listed (part_text f.names) active ++ listed_after (codes " new ") (part_text f.names) serve

-- `p[A].e -> q[B].x : k`
abbrev pub value_text : File → Part → Term → Part → NameId → Named → List ℕ
value_text f from e to x k =
    part_text f.names from ++ codes "." ++ term_text f e ++ codes " -> " ++ part_text f.names to ++ codes "." ++ name_in f.names x
    ++ codes " : " ++ named_text f.names k

-- `p[A] -> q[B] : k.l`
abbrev pub label_text : File → Part → Part → Named → NameId → List ℕ
label_text f from to k l =
    part_text f.names from ++ codes " -> " ++ part_text f.names to ++ codes " : " ++ named_text f.names k ++ codes "." ++ name_in f.names l

-- `p[A] -> q[B] : k(h[R])`
abbrev pub give_text : File → Part → Part → Named → Part → List ℕ
give_text f from to k given =
    part_text f.names from ++ codes " -> " ++ part_text f.names to ++ codes " : " ++ named_text f.names k
    ++ codes "(" ++ part_text f.names given ++ codes ")"

-- `p.x := e`
abbrev pub set_text : File → Named → NameId → Term → List ℕ
set_text f p x e = named_text f.names p ++ codes "." ++ name_in f.names x ++ codes " := " ++ term_text f e

-- `p.x := host g(e, e)`
abbrev pub host_text : File → Named → NameId → Named → Term → Term → List ℕ
host_text f p x g left right =
    named_text f.names p ++ codes "." ++ name_in f.names x ++ codes " := host " ++ named_text f.names g
    ++ codes "(" ++ term_text f left ++ codes ", " ++ term_text f right ++ codes ")"

-- `p show e`
abbrev pub show_text : File → Named → Term → List ℕ
show_text f p e = named_text f.names p ++ codes " show " ++ term_text f e

-- `if p.e {`
abbrev pub if_text : File → Named → Term → List ℕ
if_text f p e = codes "if " ++ named_text f.names p ++ codes "." ++ term_text f e ++ codes " {"

-- `call F(p, q; k)`
abbrev pub call_text : File → Named → List Named → List Named → List ℕ
call_text f g ps ks =
    codes "call " ++ named_text f.names g ++ codes "(" ++ listed (named_text f.names) ps ++ listed_after (codes "; ") (named_text f.names) ks ++ codes ")"
