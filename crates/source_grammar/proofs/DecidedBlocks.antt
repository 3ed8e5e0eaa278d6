-- Statements, blocks and sources are read, or there is a token at which they are refused.
use Rattle.std.proofs.Common.{◌-◌, suc, zero, ℕ, List, refl, codes, arith}
use Rattle.chor_base.specs.declared.rule.Place.{Place}
use Rattle.chor_lexer.specs.declared.mark.Mark.{Mark}
use Rattle.chor_lexer.specs.declared.mark.Mark.TheVariants.{OpenBrace, CloseBrace, OpenParen, CloseParen, OpenBracket, CloseBracket, Comma, Semicolon, Colon, Dot, Becomes, Arrow}
use Rattle.chor_tree.specs.declared.file.Named.{Named}
use Rattle.chor_tree.specs.declared.tree.Part.{Part as Role}
use Rattle.source_grammar.specs.Symbols.{Part, Further, Nothing}
use Rattle.source_grammar.specs.Expressions.{Operator}
use Rattle.source_grammar.specs.Values.{After}
use Rattle.source_grammar.proofs.Starts.{then_begins, within_begins, nothing_apart}
use Rattle.source_grammar.proofs.Values.{as_begins, after_begins}
use Rattle.source_grammar.proofs.ExpressionAnswers.{expr_begins}
use Rattle.source_grammar.proofs.DecidedTokens.{Tells, IsDecided, decided_same, decided_as, decided_further, decided_then, decided_after, decided_later, decided_choice, decided_either, decided_option, decided_within, decided_at, decided_times}
use Rattle.source_grammar.proofs.DecidedExpressions.{decided_expr}
use Rattle.source_grammar.specs.Grammar.{NameIs, PartIs}
use Rattle.source_grammar.specs.Parts.{MarkPart, AWord, WordPart, NamePart, PartPart, OrComma, IsKeyword}
use Rattle.source_grammar.specs.Statements.{RolesPart, NewRolesPart, RoleMore, StatementPart, StatementFirst, StatementMore, StartTail, ValueTail, GiveTail, SessionTail, PathTail, RoleTail, SendingTail, HostTail, SetTail, PlainTail, NameTail}
use Rattle.source_grammar.specs.Blocks.{BlockPart, LinesPart, LinePart, TailPart, TailFirst, LineAt, TailAt, LaterAt, AllNamesPart, PassedSessionsPart, PassedSessionsMore, PassedPart, PassedMore, CallTail, IfTail}
use Rattle.source_grammar.specs.Files.{ProcedurePart, AnItemPart, ItemFirst, ItemsPart, MainPart, NumberPart, CapacityNumber, CapacityPart, HeaderPart, HeaderMore, SourcePart}
use Rattle.source_grammar.proofs.Terminals.{mark_begins, mark_stable, word_begins, word_stable, name_begins, name_stable, nothing_among, word_not_name, start_keyword, new_keyword, host_keyword, show_keyword, end_keyword, call_keyword, if_keyword, else_keyword, proc_keyword, main_keyword}
use Rattle.source_grammar.proofs.ItemLists.{Bare, any_list_alike}
use Rattle.source_grammar.proofs.ShortParts.{part_items}
use Rattle.source_grammar.proofs.Statements as s
use Rattle.source_grammar.proofs.PassedNames as c
use Rattle.source_grammar.proofs.Nested as b
use Rattle.source_grammar.proofs.Headers as o
use Rattle.source_grammar.proofs.Files as f
use Rattle.source_grammar.proofs.Decided.{tells_number, decided_number, decided_capacity_number, decided_word_at, tells_mark, tells_word, tells_name, tells_or, decided_mark, decided_word, decided_name, mark_and, name_and, word_and, decided_commas, decided_any_names, decided_part, decided_protocol, decided_service, decided_params}

-- ---- one part and then what is told of it

mark_on : {B : Type 0} {n : ℕ} {S : Unit {0} → Part B} {D : Further} (m : Mark) → ((u : Unit {0}) → IsDecided n (S u) D) → IsDecided n (After (MarkPart m) S) D
mark_on m q = decided_after (decided_mark m) q (λ u. nothing_apart)

name_on : {B : Type 0} {n : ℕ} {S : Named → Part B} {D : Further} → ((x : Named) → IsDecided n (S x) D) → IsDecided n (After NamePart S) D
name_on q = decided_after decided_name q (λ x. nothing_apart)

word_on : {B : Type 0} {n : ℕ} {S : Unit {0} → Part B} {D : Further} {w : List ℕ} → IsKeyword w → ((u : Unit {0}) → IsDecided n (S u) D) → IsDecided n (After (WordPart w) S) D
word_on k q = decided_after (decided_word k) q (λ u. nothing_apart)

role_on : {B : Type 0} {n : ℕ} {S : Role → Part B} {D : Further} → ((p : Role) → IsDecided n (S p) D) → IsDecided n (After PartPart S) D
role_on q = decided_after decided_part q (λ p. nothing_apart)

-- ---- statements

decided_roles : {n : ℕ} → IsDecided n RolesPart (OrComma Nothing)
decided_roles = decided_same (decided_commas {W = Bare PartIs} 0 part_items (λ j. decided_part)) (any_list_alike PartIs 0)

decided_new_roles : {n : ℕ} → IsDecided n NewRolesPart RoleMore
decided_new_roles = decided_same (decided_option (word_on new_keyword (λ u. decided_roles)) (after_begins (word_begins (codes "new"))) (word_stable (codes "new")) (tells_word (codes "new")) s.list_more s.new_more s.role_more_stable) s.new_alike

decided_start : {n : ℕ} → IsDecided n StartTail RoleMore
decided_start = name_on (λ c. mark_on OpenParen (λ u. name_on (λ k. mark_on CloseParen (λ v. mark_on Colon (λ w. decided_after decided_roles (λ active. decided_as decided_new_roles) (λ active. s.new_roles_apart))))))

decided_value : {n : ℕ} (a : Role) → IsDecided n (ValueTail a) Nothing
decided_value {n} a = decided_after (decided_expr n) (λ e. mark_on Arrow (λ u. role_on (λ b. mark_on Dot (λ v. name_on (λ x. mark_on Colon (λ w. decided_as decided_name)))))) (λ e. s.mark_apart Arrow refl)

decided_give : {n : ℕ} (a b : Role) (k : Named) → IsDecided n (GiveTail a b k) Nothing
decided_give a b k = mark_on OpenParen (λ u. role_on (λ h. decided_as (decided_mark CloseParen)))

decided_session : {n : ℕ} (a b : Role) (k : Named) → IsDecided n (SessionTail a b k) Nothing
decided_session a b k = decided_either (mark_on Dot (λ u. decided_as decided_name)) (decided_give a b k) (after_begins (mark_begins Dot)) (after_begins (mark_begins OpenParen)) (mark_stable Dot) (tells_mark Dot) s.dot_no_paren

decided_path : {n : ℕ} (a : Role) → IsDecided n (PathTail a) Nothing
decided_path a = role_on (λ b. mark_on Colon (λ u. name_on (λ k. decided_session a b k)))

decided_role_tail : {n : ℕ} (a : Role) → IsDecided n (RoleTail a) Nothing
decided_role_tail a = decided_either (mark_on Dot (λ u. decided_value a)) (mark_on Arrow (λ u. decided_path a)) (after_begins (mark_begins Dot)) (after_begins (mark_begins Arrow)) (mark_stable Dot) (tells_mark Dot) s.dot_no_arrow

decided_sending : {n : ℕ} (p : Named) → IsDecided n (SendingTail p) Nothing
decided_sending p = name_on (λ r. mark_on CloseBracket (λ u. decided_role_tail _))

decided_host : {n : ℕ} (p x : Named) → IsDecided n (HostTail p x) Nothing
decided_host {n} p x = name_on (λ f. mark_on OpenParen (λ u. decided_after (decided_expr n) (λ a. mark_on Comma (λ v. decided_after (decided_expr n) (λ b. decided_as (decided_mark CloseParen)) (λ b. s.last_mark_apart CloseParen refl))) (λ a. s.mark_apart Comma refl)))

decided_set : {n : ℕ} (p x : Named) → IsDecided n (SetTail p x) Operator
decided_set {n} p x = decided_either (word_on host_keyword (λ u. decided_further (decided_host p x) s.none_more s.operator_stable)) (decided_as (decided_expr n)) (after_begins (word_begins (codes "host"))) (as_begins expr_begins) (word_stable (codes "host")) (tells_word (codes "host")) s.host_no_expr

decided_plain : {n : ℕ} (p : Named) → IsDecided n (PlainTail p) Operator
decided_plain {n} p = decided_either (mark_on Dot (λ u. name_on (λ x. mark_on Becomes (λ v. decided_set p x)))) (word_on show_keyword (λ u. decided_as (decided_expr n))) (after_begins (mark_begins Dot)) (after_begins (word_begins (codes "show"))) (mark_stable Dot) (tells_mark Dot) s.dot_no_show

decided_named : {n : ℕ} (p : Named) → IsDecided n (NameTail p) Operator
decided_named p = decided_either (mark_on OpenBracket (λ u. decided_further (decided_sending p) s.none_more s.operator_stable)) (decided_plain p) (after_begins (mark_begins OpenBracket)) (s.plain_begins p) (mark_stable OpenBracket) (tells_mark OpenBracket) s.bracket_no_plain

decided_statement : {n : ℕ} → IsDecided n StatementPart StatementMore
decided_statement =
    decided_same
    (decided_either (word_on start_keyword (λ u. decided_further decided_start s.start_more s.statement_more_stable)) (name_on (λ p. decided_further (decided_named p) s.name_more s.statement_more_stable)) (after_begins (word_begins (codes "start"))) (after_begins name_begins) (word_stable (codes "start")) (tells_word (codes "start")) (word_not_name start_keyword))
    s.statement_alike

tells_statement : Tells StatementFirst
tells_statement = tells_or (tells_word (codes "start")) tells_name

-- ---- calls

decided_all_names : {n : ℕ} → IsDecided n AllNamesPart (OrComma Nothing)
decided_all_names = decided_same (decided_commas {W = Bare NameIs} 0 c.all_names_items (λ j. decided_name)) (any_list_alike NameIs 0)

decided_passed_sessions : {n : ℕ} → IsDecided n PassedSessionsPart PassedSessionsMore
decided_passed_sessions = decided_same (decided_option (mark_on Semicolon (λ u. decided_all_names)) (after_begins (mark_begins Semicolon)) (mark_stable Semicolon) (tells_mark Semicolon) c.names_more c.semicolon_more c.sessions_stable) c.sessions_alike

decided_passed : {n : ℕ} → IsDecided n PassedPart PassedMore
decided_passed = decided_same (decided_option (decided_then decided_all_names decided_passed_sessions c.passed_sessions_apart) (then_begins c.all_names_begin) name_stable tells_name c.sessions_more c.name_more c.passed_stable) c.passed_alike

decided_call : {n : ℕ} (p : Place) → IsDecided n (CallTail p) Nothing
decided_call p = name_on (λ q. mark_on OpenParen (λ u. decided_after decided_passed (λ v. decided_as (decided_mark CloseParen)) (λ v. c.close_apart)))

-- ---- blocks, where lines of fewer tokens are decided

decided_block_of : {n : ℕ} → ((blocks path : ℕ) → IsDecided n (LinesPart blocks path) Nothing) → (blocks path : ℕ) → IsDecided n (BlockPart blocks path) Nothing
decided_block_of lines blocks path =
    decided_same
    (decided_within (mark_on OpenBrace (λ u. decided_after (lines (blocks - 1) path) (λ k. decided_as (decided_mark CloseBrace)) (λ k. nothing_apart))) (after_begins (mark_begins OpenBrace)) (b.block_opens blocks path) (mark_stable OpenBrace) (tells_mark OpenBrace))
    (b.block_alike blocks path)

decided_if : {n : ℕ} → ((blocks path : ℕ) → IsDecided n (BlockPart blocks path) Nothing) → (blocks path : ℕ) (p : Place) → IsDecided n (IfTail blocks path p) Nothing
decided_if {n} block blocks path p = name_on (λ q. mark_on Dot (λ u. decided_after (decided_expr n) (λ e. decided_after (block blocks path) (λ k. word_on else_keyword (λ v. decided_as (block blocks path))) (λ k. nothing_apart)) (λ e. b.brace_apart)))

decided_tail : {n : ℕ} → ((blocks path : ℕ) → IsDecided n (LinesPart blocks path) Nothing) → (blocks path : ℕ) → IsDecided (suc n) (TailPart blocks path) Nothing
decided_tail {n} lines blocks path = decided_same (decided_at at b.tail_at_begins) (b.tail_alike blocks path)
  where
    conditional : (p : Place) → IsDecided (suc n) (After (WordPart (codes "if")) (λ u. IfTail blocks path p)) Nothing
    conditional p = decided_later (decided_word if_keyword) (word_begins (codes "if")) (λ u. decided_if (decided_block_of lines) blocks path p) (λ u. nothing_apart)

    later : (p : Place) → IsDecided (suc n) (LaterAt blocks path p) Nothing
    later p = decided_either (word_on call_keyword (λ u. decided_call p)) (conditional p) b.call_begins b.if_begins (word_stable (codes "call")) (tells_word (codes "call")) b.call_no_if

    at : (p : Place) → IsDecided (suc n) (TailAt blocks path p) Nothing
    at p = decided_either (decided_as (decided_word end_keyword)) (later p) b.end_begins b.later_begins (word_stable (codes "end")) (tells_word (codes "end")) b.end_no_later

decided_line : {n : ℕ} → ((blocks path : ℕ) → IsDecided n (LinesPart blocks path) Nothing) → (blocks path : ℕ) → IsDecided (suc n) (LinePart blocks path) Nothing
decided_line {n} lines blocks path = decided_at at (b.line_at_begins blocks path)
  where
    at : (p : Place) → IsDecided (suc n) (LineAt blocks path p) Nothing
    at p = decided_after decided_statement (λ t. decided_later (decided_mark Semicolon) (mark_begins Semicolon) (λ u. decided_as (lines blocks (path - 1))) (λ u. nothing_apart)) (λ t. b.semicolon_apart)

tells_tail : Tells TailFirst
tells_tail = tells_or (tells_word (codes "end")) (tells_or (tells_word (codes "call")) (tells_word (codes "if")))

decided_lines : (n blocks path : ℕ) → IsDecided n (LinesPart blocks path) Nothing
decided_lines zero blocks path = record { part = b.lines_part blocks path; by = λ names ts k w. absurd (omega (arith, k)) }
decided_lines (suc n) blocks path =
    decided_same
    (decided_either (decided_within (decided_line (decided_lines n) blocks path) (b.line_begins blocks path) (b.line_opens blocks path) s.statement_first_stable tells_statement) (decided_within (decided_tail (decided_lines n) blocks (path - 1)) (b.tail_begins blocks (path - 1)) (b.tail_opens blocks (path - 1)) b.tail_first_stable tells_tail) (within_begins (b.line_begins blocks path)) (within_begins (b.tail_begins blocks (path - 1))) s.statement_first_stable tells_statement b.statement_no_tail)
    (b.lines_alike blocks path)

decided_body : (n : ℕ) → IsDecided n (BlockPart 64 1024) Nothing
decided_body n = decided_block_of (decided_lines n) 64 1024

-- ---- sources

decided_procedure : (n : ℕ) → IsDecided n ProcedurePart Nothing
decided_procedure n = decided_same (word_and proc_keyword (name_and (mark_and (decided_then decided_params (mark_and (decided_body n)) f.params_end)))) f.procedure_alike

tells_other : Tells f.OtherFirst
tells_other = tells_or (tells_word (codes "service")) (tells_word (codes "proc"))

decided_item : (n : ℕ) → IsDecided n AnItemPart Nothing
decided_item n = decided_choice decided_protocol (decided_choice decided_service (decided_procedure n) f.service_begins f.procedure_begins (word_stable (codes "service")) (tells_word (codes "service")) f.service_not_procedure) f.protocol_begins f.other_begins (word_stable (codes "protocol")) (tells_word (codes "protocol")) f.protocol_not_other

decided_items : (n : ℕ) → IsDecided n ItemsPart ItemFirst
decided_items n = decided_same (decided_times {R = f.EachItem} f.items_repeated (λ k. decided_item n) (tells_or (tells_word (codes "protocol")) tells_other) 0) f.items_alike

decided_main : (n : ℕ) → IsDecided n MainPart Nothing
decided_main n = word_and main_keyword (mark_and (decided_then (decided_any_names 64) (mark_and (decided_body n)) f.names_end))

decided_capacity : {n : ℕ} → IsDecided n CapacityPart (AWord (codes "capacity"))
decided_capacity =
    decided_same
    (decided_option (decided_then (decided_word_at o.capacity_keyword) (decided_then decided_capacity_number (decided_mark Semicolon) nothing_apart) nothing_apart) o.some_capacity_begins (word_stable (codes "capacity")) (tells_word (codes "capacity")) (nothing_among (AWord (codes "capacity"))) (o.same_among (AWord (codes "capacity"))) (word_stable (codes "capacity")))
    o.capacity_alike

decided_header : {n : ℕ} → IsDecided n HeaderPart HeaderMore
decided_header =
    decided_same
    (decided_option (word_and o.chor_keyword (decided_then (decided_number 2) (mark_and decided_capacity) nothing_apart)) o.some_header_begins (word_stable (codes "chor")) (tells_word (codes "chor")) o.capacity_more o.chor_more o.header_more_stable)
    o.header_alike

pub decided_source : (n : ℕ) → IsDecided n SourcePart Nothing
decided_source n = decided_then decided_header (decided_then (decided_items n) (decided_main n) f.items_end) f.header_end
