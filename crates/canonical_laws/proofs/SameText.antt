-- Files that say the same have the same canonical text.
use Rattle.std.proofs.Common.{◌≡◌, ◌==◌, ℕ, Bool, true, false, Option, Some, None, List, [], ◌∷◌, ◌++◌, map, refl, sym, ap, ◌∙◌, codes}
use Rattle.std.specs.List.{flat_map}
use Rattle.std.proofs.lemmas.Bool.{eqb-true}
use Rattle.chor_base.specs.declared.value.Value.TheVariants.{Int, Bool as Truth, Text, Part as Endpoint}
use Rattle.chor_base.specs.Expr.{Constant, Variable, Unary, Binary}
use Rattle.chor_base.specs.Writing.{name_in, literal}
use Rattle.chor_lexer.specs.Mark.{spelling}
use Rattle.chor_lexer.specs.Canonical.{unary_mark, binary_mark, strength, strength_of, left_needs, right_needs, operand_text, constant_text, expr_text}
use Rattle.chor_tree.specs.declared.file.File.{File}
use Rattle.chor_tree.specs.declared.protocol.Payload.TheVariants as payload
use Rattle.chor_tree.specs.declared.protocol.ProtoStep.TheVariants as step
use Rattle.chor_tree.specs.Source.{Starts, Sends, Selects, Gives, Sets, Asks, Shows, Then, Either, Calls, Ends, Source, source_of}
use Rattle.chor_tree.specs.Same.{Same, all_same, same_named, same_part, same_payload, same_arm, same_step, same_state, same_protocol, same_service, same_variable, same_process_param, same_holder, same_session_param, same_value, same_term, same_statement, same_block, same_procedure, same_source, same_capacity, same_header, same_words, same_texts, same_files}
use Rattle.chor_print.specs.Pieces.{named_text, part_text, sort_text, payload_text, arm_text, variable_text, variables_text, process_param_text, holder_text, session_param_text, listed, listed_after}
use Rattle.chor_print.specs.Lines.{indented, braced, stated}
use Rattle.chor_print.specs.Text.{capacity_lines, version_lines, header_lines, step_text, state_line, protocol_lines, service_line, ended, canonical_text}
use Rattle.chor_tree.proofs.SameLaws.{two, three, four, five, six, same_bytes, found_tells, int_tells, bool_tells, sort_tells, unary_tells, binary_tells}
use Rattle.canonical_laws.proofs.Sources.{statement_text, lines_of, procedure_lines, source_text, canonical_is}

-- ---- lists

-- two things that are the same, each of one file, have the same image
abbrev Tells : {A B : Type 0} → Same A → (A → B) → (A → B) → Type 0
Tells {A} p image image' = (x y : A) → p x y ≡ true → image x ≡ image' y

module _ {A : Type 0} {p : Same A} where
  map_tells : {B : Type 0} {image image' : A → B} → Tells p image image' → Tells (all_same p) (map image) (map image')
  map_tells each [] [] h = refl
  map_tells each (x ∷ xs) (y ∷ ys) h =
      let a = two h in
      let first = each x y a.0 in
      let others = map_tells each xs ys a.1 in
      λ i. first i ∷ others i
  map_tells each _ _ h = absurd cc

  flat_tells : {B : Type 0} {image image' : A → List B} → Tells p image image' → Tells (all_same p) (flat_map image) (flat_map image')
  flat_tells each [] [] h = refl
  flat_tells each (x ∷ xs) (y ∷ ys) h =
      let a = two h in
      let first = each x y a.0 in
      let others = flat_tells each xs ys a.1 in
      λ i. first i ++ others i
  flat_tells each _ _ h = absurd cc

  listed_tells : {text text' : A → List ℕ} → Tells p text text' → Tells (all_same p) (listed text) (listed text')
  listed_tells each [] [] h = refl
  listed_tells {text = text} {text' = text'} each (x ∷ xs) (y ∷ ys) h =
      let a = two h in
      let first = each x y a.0 in
      let others = flat_tells {image = λ z. codes ", " ++ text z} {image' = λ z. codes ", " ++ text' z} (λ v w e. ap (λ (t : List ℕ). codes ", " ++ t) (each v w e)) xs ys a.1 in
      λ i. first i ++ others i
  listed_tells each _ _ h = absurd cc

  listed_after_tells : (word : List ℕ) {text text' : A → List ℕ} → Tells p text text' → Tells (all_same p) (listed_after word text) (listed_after word text')
  listed_after_tells word each [] [] h = refl
  listed_after_tells word each (x ∷ xs) (y ∷ ys) h = ap (λ (t : List ℕ). word ++ t) (listed_tells each (x ∷ xs) (y ∷ ys) h)
  listed_after_tells word each _ _ h = absurd cc

-- ---- names, protocols and parameters

module _ (names names' : List (List ℕ)) where
  name_tells : Tells (same_words names names') (name_in names) (name_in names')
  name_tells x y h = same_bytes _ _ h

  named_tells : Tells (same_named (same_words names names')) (named_text names) (named_text names')
  named_tells x y h = name_tells x.name y.name h

  part_tells : Tells (same_part (same_words names names')) (part_text names) (part_text names')
  part_tells p q h =
      let a = two h in
      let process = named_tells p.process q.process a.0 in
      let role = named_tells p.role q.role a.1 in
      λ i. process i ++ codes "[" ++ role i ++ codes "]"

  payload_tells : Tells (same_payload (same_words names names')) (payload_text names) (payload_text names')
  payload_tells (payload.Plain s) (payload.Plain r) h = ap sort_text (sort_tells s r h)
  payload_tells (payload.Endpoint p s r) (payload.Endpoint q u v) h =
      let a = three h in
      let protocol = named_tells p q a.0 in
      let state = named_tells s u a.1 in
      let role = named_tells r v a.2 in
      λ i. protocol i ++ codes "." ++ state i ++ codes "@" ++ role i
  payload_tells _ _ h = absurd cc

  arm_tells : Tells (same_arm (same_words names names')) (arm_text names) (arm_text names')
  arm_tells x y h =
      let a = two h in
      let label = named_tells x.label y.label a.0 in
      let next = named_tells x.next y.next a.1 in
      λ i. label i ++ codes " then " ++ next i

  step_tells : Tells (same_step (same_words names names')) (step_text names) (step_text names')
  step_tells step.End step.End h = refl
  step_tells (step.Value x y p n) (step.Value z w q m) h =
      let a = four h in
      let from = named_tells x z a.0 in
      let to = named_tells y w a.1 in
      let sent = payload_tells p q a.2 in
      let next = named_tells n m a.3 in
      λ i. from i ++ codes " -> " ++ to i ++ codes " : " ++ sent i ++ codes " then " ++ next i
  step_tells (step.Choice x y ms) (step.Choice z w ns) h =
      let a = three h in
      let from = named_tells x z a.0 in
      let to = named_tells y w a.1 in
      let arms = listed_tells arm_tells ms ns a.2 in
      λ i. from i ++ codes " -> " ++ to i ++ codes " {" ++ arms i ++ codes "}"
  step_tells _ _ h = absurd cc

  state_tells : Tells (same_state (same_words names names')) (state_line names) (state_line names')
  state_tells s r h =
      let a = two h in
      let name = named_tells s.name r.name a.0 in
      let does = step_tells s.step r.step a.1 in
      λ i. name i ++ codes " = " ++ does i ++ codes ";"

  protocol_tells : Tells (same_protocol (same_words names names')) (protocol_lines names) (protocol_lines names')
  protocol_tells p q h =
      let a = three h in
      let name = named_tells p.name q.name a.0 in
      let roles = listed_tells named_tells p.roles q.roles a.1 in
      let states = map_tells state_tells p.states q.states a.2 in
      λ i. braced (codes "protocol " ++ name i ++ codes " (" ++ roles i ++ codes ") {") (states i)

  service_tells : Tells (same_service (same_words names names')) (service_line names) (service_line names')
  service_tells s r h =
      let a = four h in
      let name = named_tells s.name r.name a.0 in
      let protocol = named_tells s.protocol r.protocol a.1 in
      let active = listed_tells named_tells s.active r.active a.2 in
      let serve = listed_after_tells (codes " | ") named_tells s.serve r.serve a.3 in
      λ i. codes "service " ++ name i ++ codes " : " ++ protocol i ++ codes " " ++ (codes "(" ++ active i ++ serve i ++ codes ")") ++ codes ";"

  variable_tells : Tells (same_variable (same_words names names')) (variable_text names) (variable_text names')
  variable_tells v w h =
      let a = two h in
      let name = named_tells v.0 w.0 a.0 in
      let of = ap sort_text (sort_tells v.1 w.1 a.1) in
      λ i. name i ++ codes " : " ++ of i

  variables_tell : Tells (all_same (same_variable (same_words names names'))) (variables_text names) (variables_text names')
  variables_tell [] [] h = refl
  variables_tell (v ∷ vs) (w ∷ ws) h = ap (λ (t : List ℕ). codes "(" ++ t ++ codes ")") (listed_tells variable_tells (v ∷ vs) (w ∷ ws) h)
  variables_tell _ _ h = absurd cc

  process_param_tells : Tells (same_process_param (same_words names names')) (process_param_text names) (process_param_text names')
  process_param_tells p q h =
      let a = two h in
      let name = named_tells p.name q.name a.0 in
      let variables = variables_tell p.vars q.vars a.1 in
      λ i. name i ++ variables i

  holder_tells : Tells (same_holder (same_words names names')) (holder_text names) (holder_text names')
  holder_tells x y h =
      let a = two h in
      let role = named_tells x.0 y.0 a.0 in
      let process = named_tells x.1 y.1 a.1 in
      λ i. role i ++ codes " = " ++ process i

  session_param_tells : Tells (same_session_param (same_words names names')) (session_param_text names) (session_param_text names')
  session_param_tells k l h =
      let a = four h in
      let name = named_tells k.name l.name a.0 in
      let protocol = named_tells k.protocol l.protocol a.1 in
      let state = named_tells k.state l.state a.2 in
      let holders = listed_tells holder_tells k.holders l.holders a.3 in
      λ i. name i ++ codes " : " ++ protocol i ++ codes "." ++ state i ++ codes " {" ++ holders i ++ codes "}"

-- ---- expressions

module _ (names texts names' texts' : List (List ℕ)) where
  value_tells : Tells (same_value (same_words names names') (same_texts texts texts')) (constant_text texts) (constant_text texts')
  value_tells (Int y) (Int z) h = ap (λ v. constant_text texts (Int v)) (int_tells y z h)
  value_tells (Truth a) (Truth b) h = ap (λ v. constant_text texts (Truth v)) (bool_tells a b h)
  value_tells (Text x) (Text y) h = ap literal (found_tells _ _ h)
  value_tells (Endpoint s r) (Endpoint u q) h = refl
  value_tells _ _ h = absurd cc

  strength_tells : Tells (same_term (same_words names names') (same_texts texts texts')) strength_of strength_of
  strength_tells (Constant v) (Constant w) h = refl
  strength_tells (Variable x) (Variable y) h = refl
  strength_tells (Unary o e) (Unary p f) h = refl
  strength_tells (Binary o e f) (Binary p g k) h = ap strength (binary_tells o p (three h).0)
  strength_tells _ _ h = absurd cc

  term_tells : Tells (same_term (same_words names names') (same_texts texts texts')) (expr_text names texts) (expr_text names' texts')
  term_tells (Constant v) (Constant w) h = value_tells v w h
  term_tells (Variable x) (Variable y) h = name_tells names names' x y h
  term_tells (Unary o e) (Unary p f) h =
      let a = two h in
      let op = unary_tells o p a.0 in
      let strong = strength_tells e f a.1 in
      let text = term_tells e f a.1 in
      λ i. spelling (unary_mark (op i)) ++ operand_text 6 (strong i) (text i)
  term_tells (Binary o e f) (Binary p g k) h =
      let a = three h in
      let op = binary_tells o p a.0 in
      let strong = strength_tells e g a.1 in
      let left = term_tells e g a.1 in
      let weak = strength_tells f k a.2 in
      let right = term_tells f k a.2 in
      λ i. operand_text (left_needs (op i)) (strong i) (left i) ++ (codes " " ++ spelling (binary_mark (op i)) ++ codes " ") ++ operand_text (right_needs (op i)) (weak i) (right i)
  term_tells _ _ h = absurd cc

-- ---- statements and blocks

module _ (names texts names' texts' : List (List ℕ)) where
  statement_tells : Tells (same_statement (same_words names names') (same_texts texts texts')) (statement_text names texts) (statement_text names' texts')
  statement_tells (Starts c k ps qs) (Starts d l rs ss) h =
      let a = four h in
      let channel = named_tells names names' c d a.0 in
      let session = named_tells names names' k l a.1 in
      let active = listed_tells (part_tells names names') ps rs a.2 in
      let serve = listed_after_tells (codes " new ") (part_tells names names') qs ss a.3 in
      λ i. codes "start " ++ channel i ++ codes "(" ++ session i ++ codes "): " ++ active i ++ serve i
  statement_tells (Sends p e q x k) (Sends r u s y l) h =
      let a = five h in
      let from = part_tells names names' p r a.0 in
      let sent = term_tells names texts names' texts' e u a.1 in
      let to = part_tells names names' q s a.2 in
      let var = name_tells names names' x y a.3 in
      let session = named_tells names names' k l a.4 in
      λ i. from i ++ codes "." ++ sent i ++ codes " -> " ++ to i ++ codes "." ++ var i ++ codes " : " ++ session i
  statement_tells (Selects p q k x) (Selects r s l y) h =
      let a = four h in
      let from = part_tells names names' p r a.0 in
      let to = part_tells names names' q s a.1 in
      let session = named_tells names names' k l a.2 in
      let label = name_tells names names' x y a.3 in
      λ i. from i ++ codes " -> " ++ to i ++ codes " : " ++ session i ++ codes "." ++ label i
  statement_tells (Gives p q k x) (Gives r s l y) h =
      let a = four h in
      let from = part_tells names names' p r a.0 in
      let to = part_tells names names' q s a.1 in
      let session = named_tells names names' k l a.2 in
      let given = part_tells names names' x y a.3 in
      λ i. from i ++ codes " -> " ++ to i ++ codes " : " ++ session i ++ codes "(" ++ given i ++ codes ")"
  statement_tells (Sets p x e) (Sets q y u) h =
      let a = three h in
      let process = named_tells names names' p q a.0 in
      let var = name_tells names names' x y a.1 in
      let value = term_tells names texts names' texts' e u a.2 in
      λ i. process i ++ codes "." ++ var i ++ codes " := " ++ value i
  statement_tells (Asks p x k d e) (Asks q y l u v) h =
      let a = five h in
      let process = named_tells names names' p q a.0 in
      let var = name_tells names names' x y a.1 in
      let function = named_tells names names' k l a.2 in
      let left = term_tells names texts names' texts' d u a.3 in
      let right = term_tells names texts names' texts' e v a.4 in
      λ i. process i ++ codes "." ++ var i ++ codes " := host " ++ function i ++ codes "(" ++ left i ++ codes ", " ++ right i ++ codes ")"
  statement_tells (Shows p e) (Shows q u) h =
      let a = two h in
      let process = named_tells names names' p q a.0 in
      let value = term_tells names texts names' texts' e u a.1 in
      λ i. process i ++ codes " show " ++ value i
  statement_tells _ _ h = absurd cc

  block_tells : Tells (same_block (same_words names names') (same_texts texts texts')) (lines_of names texts) (lines_of names' texts')
  block_tells (Then p s b) (Then q r c) h =
      let a = two h in
      let statement = statement_tells s r a.0 in
      let others = block_tells b c a.1 in
      λ i. stated (statement i) (others i)
  block_tells (Either p x e b c) (Either q y u d k) h =
      let a = four h in
      let process = named_tells names names' x y a.0 in
      let value = term_tells names texts names' texts' e u a.1 in
      let first = block_tells b d a.2 in
      let second = block_tells c k a.3 in
      λ i. (codes "if " ++ process i ++ codes "." ++ value i ++ codes " {") ∷ (indented (first i) ++ codes "} else {" ∷ (indented (second i) ++ codes "}" ∷ []))
  block_tells (Calls p x ps ks) (Calls q y rs ls) h =
      let a = three h in
      let procedure = named_tells names names' x y a.0 in
      let processes = listed_tells (named_tells names names') ps rs a.1 in
      let sessions = listed_after_tells (codes "; ") (named_tells names names') ks ls a.2 in
      λ i. (codes "call " ++ procedure i ++ codes "(" ++ processes i ++ sessions i ++ codes ")") ∷ []
  block_tells (Ends p) (Ends q) h = refl
  block_tells _ _ h = absurd cc

  -- ---- headers, procedures and sources

  capacity_tells : Tells same_capacity capacity_lines capacity_lines
  capacity_tells (Some c) (Some d) h = ap (λ (n : ℕ). capacity_lines (Some n)) (eqb-true c d h)
  capacity_tells None None h = refl
  capacity_tells _ _ h = absurd cc

  version_tells : (b : Bool) (c d : Option ℕ) → capacity_lines c ≡ capacity_lines d → version_lines b c ≡ version_lines b d
  version_tells true c d h = ap (λ (ls : List (List ℕ)). codes "chor 2;" ∷ ls) h
  version_tells false c d h = refl

  header_tells : Tells same_header header_lines header_lines
  header_tells h k e =
      let a = two e in
      ap (λ (v : ℕ). version_lines (v == 2) h.capacity) (eqb-true h.version k.version a.0) ∙ version_tells (k.version == 2) h.capacity k.capacity (capacity_tells h.capacity k.capacity a.1)

  procedure_tells : Tells (same_procedure (same_words names names') (same_texts texts texts')) (procedure_lines names texts) (procedure_lines names' texts')
  procedure_tells p q h =
      let a = four h in
      let name = named_tells names names' p.name q.name a.0 in
      let params = listed_tells (process_param_tells names names') p.params q.params a.1 in
      let sessions = listed_after_tells (codes "; ") (session_param_tells names names') p.sessions q.sessions a.2 in
      let body = block_tells p.body q.body a.3 in
      λ i. braced (codes "proc " ++ name i ++ codes " (" ++ params i ++ sessions i ++ codes ") {") (body i)

  -- sources that say the same have the same canonical text
  pub same_source_text : (s r : Source) → same_source (same_words names names') (same_texts texts texts') s r ≡ true → source_text names texts s ≡ source_text names' texts' r
  same_source_text s r h =
      let a = six h in
      let header = header_tells s.header r.header a.0 in
      let protocols = flat_tells (protocol_tells names names') s.items.protocols r.items.protocols a.1 in
      let services = map_tells (service_tells names names') s.items.services r.items.services a.2 in
      let procedures = flat_tells procedure_tells s.items.procedures r.items.procedures a.3 in
      let processes = listed_tells (named_tells names names') s.processes r.processes a.4 in
      let body = block_tells s.body r.body a.5 in
      ap (flat_map ended) (λ i. header i ++ protocols i ++ services i ++ procedures i ++ braced (codes "main (" ++ processes i ++ codes ") {") (body i))

-- files that say the same have the same canonical text
pub same_text : (f g : File) → same_files f g ≡ true → canonical_text f ≡ canonical_text g
same_text f g h = canonical_is f ∙ same_source_text f.names f.texts g.names g.texts (source_of f) (source_of g) h ∙ sym (canonical_is g)
