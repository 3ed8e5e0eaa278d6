-- The canonical text of a source, by tables of names and texts, is that of each file that is this source.
use Rattle.std.proofs.Common.{◌≡◌, ℕ, List, [], ◌∷◌, ◌++◌, map, refl, sym, ap, ◌∙◌, codes}
use Rattle.std.proofs.lemmas.List.{map-append}
use Rattle.std.proofs.lemmas.List.Concat.{flat_map-append}
use Rattle.std.proofs.Math.ListN.{get_or-map}
use Rattle.node_table.proofs.Tables.{trees_alike}
use Rattle.chor_base.specs.declared.rule.Place.{Place}
use Rattle.std.specs.List.{flat_map}
use Rattle.chor_base.specs.Expr.{Term}
use Rattle.chor_base.specs.Writing.{name_in}
use Rattle.chor_lexer.specs.Canonical.{expr_text}
use Rattle.chor_tree.specs.declared.file.File.{File}
use Rattle.chor_tree.specs.declared.file.Named.{Named}
use Rattle.chor_tree.specs.declared.file.Proc.{Proc}
use Rattle.chor_tree.specs.declared.tree.NodeId.{NodeId}
use Rattle.chor_tree.specs.declared.tree.Node.{Node}
use Rattle.chor_tree.specs.declared.tree.Form.{Form}
use Rattle.chor_tree.specs.declared.tree.Form.TheVariants as form
use Rattle.chor_tree.specs.Source.{Statement, Starts, Sends, Selects, Gives, Sets, Asks, Shows, Block, Then, Either, Calls, Ends, Procedure, Source, nowhere, block_in, block_of, procedure_of, source_of}
use Rattle.chor_tree.specs.Source as source
use Rattle.chor_print.specs.Pieces.{named_text, part_text, process_param_text, session_param_text, listed, listed_after}
use Rattle.chor_print.specs.Statements.{start_text, label_text, give_text}
use Rattle.chor_print.specs.Lines.{indented, braced, stated, lines_in, lines_of_form, node_lines, block_lines}
use Rattle.chor_print.specs.Text.{header_lines, state_line, protocol_head, protocol_lines, service_line, proc_head, proc_lines, main_head, ended, canonical_text}
use Rattle.chor_print.specs.Parts.{line_at, lines_at, body_text, header_text, protocol_text, service_text}
use Rattle.chor_print.proofs.Lines.{braced_lines, mapped_lines, braced_at}

-- a statement, by these tables
abbrev pub statement_text : List (List ℕ) → List (List ℕ) → Statement → List ℕ
statement_text names texts (Starts c k active serve) =
    codes "start " ++ named_text names c ++ codes "(" ++ named_text names k ++ codes "): "
    ++ listed (part_text names) active ++ listed_after (codes " new ") (part_text names) serve
statement_text names texts (Sends a e b x k) =
    part_text names a ++ codes "." ++ expr_text names texts e ++ codes " -> " ++ part_text names b ++ codes "." ++ name_in names x
    ++ codes " : " ++ named_text names k
statement_text names texts (Selects a b k l) =
    part_text names a ++ codes " -> " ++ part_text names b ++ codes " : " ++ named_text names k ++ codes "." ++ name_in names l
statement_text names texts (Gives a b k h) =
    part_text names a ++ codes " -> " ++ part_text names b ++ codes " : " ++ named_text names k
    ++ codes "(" ++ part_text names h ++ codes ")"
statement_text names texts (Sets p x e) = named_text names p ++ codes "." ++ name_in names x ++ codes " := " ++ expr_text names texts e
statement_text names texts (Asks p x g a b) =
    named_text names p ++ codes "." ++ name_in names x ++ codes " := host " ++ named_text names g
    ++ codes "(" ++ expr_text names texts a ++ codes ", " ++ expr_text names texts b ++ codes ")"
statement_text names texts (Shows p e) = named_text names p ++ codes " show " ++ expr_text names texts e

-- with what a conditional begins, and a call
abbrev pub if_line : List (List ℕ) → List (List ℕ) → Named → Term → List ℕ
if_line names texts q e = codes "if " ++ named_text names q ++ codes "." ++ expr_text names texts e ++ codes " {"

abbrev pub call_line : List (List ℕ) → Named → List Named → List Named → List ℕ
call_line names g ps ks =
    codes "call " ++ named_text names g ++ codes "(" ++ listed (named_text names) ps ++ listed_after (codes "; ") (named_text names) ks ++ codes ")"

-- the lines of a block
abbrev pub lines_of : List (List ℕ) → List (List ℕ) → Block → List (List ℕ)
lines_of names texts (Then p s b) = stated (statement_text names texts s) (lines_of names texts b)
lines_of names texts (Either p q e a b) =
    if_line names texts q e ∷ (indented (lines_of names texts a) ++ codes "} else {" ∷ (indented (lines_of names texts b) ++ codes "}" ∷ []))
lines_of names texts (Calls p g ps ks) = call_line names g ps ks ∷ []
lines_of names texts (Ends p) = codes "end" ∷ []

-- the lines of a procedure, and of a whole source
abbrev pub procedure_line : List (List ℕ) → Procedure → List ℕ
procedure_line names p =
    codes "proc " ++ named_text names p.name ++ codes " (" ++ listed (process_param_text names) p.params
    ++ listed_after (codes "; ") (session_param_text names) p.sessions ++ codes ") {"

abbrev pub procedure_lines : List (List ℕ) → List (List ℕ) → Procedure → List (List ℕ)
procedure_lines names texts p = braced (procedure_line names p) (lines_of names texts p.body)

abbrev pub main_line : List (List ℕ) → List Named → List ℕ
main_line names ps = codes "main (" ++ listed (named_text names) ps ++ codes ") {"

abbrev pub source_lines : List (List ℕ) → List (List ℕ) → Source → List (List ℕ)
source_lines names texts s =
    header_lines s.header ++ flat_map (protocol_lines names) s.items.protocols ++ map (service_line names) s.items.services
    ++ flat_map (procedure_lines names texts) s.items.procedures ++ braced (main_line names s.processes) (lines_of names texts s.body)

-- the canonical text of a source, by these tables
abbrev pub source_text : List (List ℕ) → List (List ℕ) → Source → List ℕ
source_text names texts s = flat_map ended (source_lines names texts s)

module _ (f : File) where
  lines_there : (bs : List Block) (id : NodeId) → lines_in (map (lines_of f.names f.texts) bs) id ≡ lines_of f.names f.texts (block_in bs id)
  lines_there bs id = get_or-map (lines_of f.names f.texts) bs id.0 (Ends nowhere)

  form_lines : (bs : List Block) (p : Place) (n : Form) → lines_of_form f (map (lines_of f.names f.texts) bs) n ≡ lines_of f.names f.texts (block_of bs p n)
  form_lines bs p (form.Start c k active serve next) = ap (stated (start_text f c k active serve)) (lines_there bs next)
  form_lines bs p (form.Value a e b x k next) = let h = lines_there bs next in cc
  form_lines bs p (form.Label a b k l next) = ap (stated (label_text f a b k l)) (lines_there bs next)
  form_lines bs p (form.Give a b k g next) = ap (stated (give_text f a b k g)) (lines_there bs next)
  form_lines bs p (form.Set q x e next) = let h = lines_there bs next in cc
  form_lines bs p (form.Host q x g a b next) = let h = lines_there bs next in cc
  form_lines bs p (form.Show q e next) = let h = lines_there bs next in cc
  form_lines bs p (form.If q e first second) = let h = lines_there bs first in let k = lines_there bs second in cc
  form_lines bs p (form.Call g ps ks) = refl
  form_lines bs p form.End = refl

  pub block_lines_are : (id : NodeId) → block_lines f id ≡ lines_of f.names f.texts (block_in (source.blocks_of f.tree.nodes) id)
  block_lines_are id =
      let alike = trees_alike source.node_block (node_lines f) (lines_of f.names f.texts) (λ bs n. form_lines bs n.place n.form) f.tree.nodes in
      ap (λ (ls : List (List (List ℕ))). lines_in ls id) alike ∙ lines_there (source.blocks_of f.tree.nodes) id

procedures_are : (f : File) (ps : List Proc) → flat_map (proc_lines f) ps ≡ flat_map (procedure_lines f.names f.texts) (map (procedure_of f.tree.nodes) ps)
procedures_are f [] = refl
procedures_are f (p ∷ ps) =
    let first : proc_lines f p ≡ procedure_lines f.names f.texts (procedure_of f.tree.nodes p) = ap (braced (proc_head f.names p)) (block_lines_are f p.body) in
    let others = procedures_are f ps in
    λ i. first i ++ others i

-- the canonical text of a file is that of its source
pub canonical_is : (f : File) → canonical_text f ≡ source_text f.names f.texts (source_of f)
canonical_is f =
    let procedures = procedures_are f f.procs in
    let body = block_lines_are f f.body in
    ap (flat_map ended) (λ i. header_lines f.header ++ flat_map (protocol_lines f.names) f.protocols ++ map (service_line f.names) f.services ++ procedures i ++ braced (main_head f) (body i))

-- ---- unit by unit

abbrev pub procedure_text : List (List ℕ) → List (List ℕ) → Procedure → List ℕ
procedure_text names texts p = line_at 0 (procedure_line names p) ++ body_text (lines_of names texts p.body)

abbrev pub main_text : List (List ℕ) → List (List ℕ) → List Named → Block → List ℕ
main_text names texts ps b = line_at 0 (main_line names ps) ++ body_text (lines_of names texts b)

pub source_units : (names texts : List (List ℕ)) (s : Source)
    → source_text names texts s ≡ header_text s.header ++ flat_map (protocol_text names) s.items.protocols ++ flat_map (service_text names) s.items.services ++ flat_map (procedure_text names texts) s.items.procedures ++ main_text names texts s.processes s.body
source_units names texts s =
    let hs = header_lines s.header in
    let ps = flat_map (protocol_lines names) s.items.protocols in
    let ss = map (service_line names) s.items.services in
    let rs = flat_map (procedure_lines names texts) s.items.procedures in
    let main = braced (main_line names s.processes) (lines_of names texts s.body) in
    flat_map-append (line_at 0) (hs ++ ps ++ ss ++ rs) main
    ∙ ap (λ (t : List ℕ). t ++ lines_at 0 main)
    (flat_map-append (line_at 0) (hs ++ ps ++ ss) rs
    ∙ ap (λ (t : List ℕ). t ++ lines_at 0 rs) (flat_map-append (line_at 0) (hs ++ ps) ss ∙ ap (λ (t : List ℕ). t ++ lines_at 0 ss) (flat_map-append (line_at 0) hs ps)))
    ∙ (λ i. header_text s.header
    ++ braced_lines (protocol_head names) (λ p. map (state_line names) p.states) s.items.protocols i
    ++ mapped_lines 0 (service_line names) s.items.services i
    ++ braced_lines (procedure_line names) (λ p. lines_of names texts p.body) s.items.procedures i
    ++ braced_at 0 (main_line names s.processes) (lines_of names texts s.body) i)
