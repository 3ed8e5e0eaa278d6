-- On the way through a statement, and what a last call answers.
use Rattle.std.proofs.Common.{Result, Ok, Err, IfOk, IfErr, IsErrAnd, ◌≡◌, ℕ, List, codes}
use Rattle.chor_base.specs.declared.rule.Denied.{Denied}
use Rattle.chor_base.specs.declared.rule.Denied.TheVariants.{Memory}
use Rattle.chor_base.specs.Expr.{Term}
use Rattle.chor_lexer.specs.declared.mark.Mark.TheVariants.{OpenParen, OpenBracket, Dot, Arrow}
use Rattle.chor_lexer.specs.declared.token.Token.{Token}
use Rattle.chor_tree.specs.declared.file.Named.{Named}
use Rattle.chor_tree.specs.declared.tree.Part.{Part as Role}
use Rattle.source_grammar.specs.Symbols.{Part, Further, Nothing, IsPart, Reads, Halts, Apart, As, Leads}
use Rattle.source_grammar.specs.Expressions.{Operator, ExprPart}
use Rattle.source_grammar.specs.Values.{After}
use Rattle.source_grammar.proofs.Expressions.{expr_part}
use Rattle.source_grammar.proofs.ExpressionAnswers.{expr_begins}
use Rattle.source_grammar.proofs.Values.{as_part, as_begins, after_leads, after_now, after_begins, either_first, either_second}
use Rattle.source_grammar.proofs.Sequels.{leads_on}
use Rattle.source_grammar.proofs.Choices.{same_leads}
use Rattle.source_grammar.proofs.Starts.{nothing_apart}
use Rattle.chor_tree.specs.Source.{Starts, Sets}
use Rattle.source_grammar.specs.Grammar.{MarkIs, WordIs, NameIs}
use Rattle.source_grammar.specs.Parts.{MarkPart, WordPart, NamePart, PartPart, OrComma}
use Rattle.source_grammar.specs.Statements.{RolesPart, NewRolesPart, RoleMore, StatementPart, StatementMore, StartTail, ValueTail, LabelTail, GiveTail, SessionTail, PathTail, RoleTail, SendingTail, HostTail, SetTail, SettingTail, ShowTail, PlainTail, NameTail}
use Rattle.source_grammar.proofs.ShortParts.{part_part}
use Rattle.source_grammar.proofs.Terminals.{mark_begins, mark_stable, mark_head, no_mark_head, word_head, no_word_head, word_begins, word_stable, name_begins, start_keyword, host_keyword, word_not_name}
use Rattle.source_grammar.proofs.Statements.{past_name, past_mark, at_one, past_word, further_leads, roles_part, new_roles_part, new_roles_apart, none_more, start_more, name_more, host_no_expr, dot_no_paren, dot_no_arrow, dot_no_show, plain_begins, bracket_no_plain, named, statement_alike}

-- ---- on the way through a statement

pub to_start : {names : List (List ℕ)} {ts mid : List Token} → WordIs names (codes "start") ts mid → Leads StatementPart StatementMore names ts StartTail RoleMore mid (λ s. s)
to_start w =
    leads_on (same_leads statement_alike)
    (leads_on (either_first (after_begins name_begins) (word_stable (codes "start")) (word_not_name start_keyword) (word_head w))
    (leads_on (past_word start_keyword w) (further_leads start_more)))

-- where no keyword comes
pub no_start : {names : List (List ℕ)} {ts : List Token} → ((rest : List Token) → WordIs names (codes "start") ts rest → ⊥) → Leads StatementPart StatementMore names ts (After NamePart (λ p. NameTail p)) StatementMore ts (λ s. s)
no_start n = leads_on (same_leads statement_alike) (either_second (after_begins (word_begins (codes "start"))) (word_stable (codes "start")) (λ h. no_word_head n h))

pub stops_at_name : {names : List (List ℕ)} {ts : List Token} {d : Denied} → ((rest : List Token) → WordIs names (codes "start") ts rest → ⊥) → Halts NamePart Nothing names ts d → Halts StatementPart StatementMore names ts d
stops_at_name n h = (no_start n).halts _ (at_one named h)

pub to_name : {names : List (List ℕ)} {ts mid : List Token} {p : Named} → ((rest : List Token) → WordIs names (codes "start") ts rest → ⊥) → NameIs names ts p mid → Leads StatementPart StatementMore names ts (NameTail p) Operator mid (λ s. s)
to_name n h = leads_on (no_start n) (leads_on (past_name h) (further_leads name_more))

pub to_sending : {names : List (List ℕ)} {ts mid : List Token} {p : Named} → MarkIs OpenBracket ts mid → Leads (NameTail p) Operator names ts (SendingTail p) Nothing mid (λ s. s)
to_sending {p = p} o =
    leads_on (either_first (plain_begins p) (mark_stable OpenBracket) bracket_no_plain (mark_head o))
    (leads_on (past_mark o) (further_leads none_more))

pub to_plain : {names : List (List ℕ)} {ts : List Token} {p : Named} → ((rest : List Token) → MarkIs OpenBracket ts rest → ⊥) → Leads (NameTail p) Operator names ts (PlainTail p) Operator ts (λ s. s)
to_plain n = either_second (after_begins (mark_begins OpenBracket)) (mark_stable OpenBracket) (λ h. no_mark_head n h)

pub to_setting : {names : List (List ℕ)} {ts mid : List Token} {p : Named} → MarkIs Dot ts mid → Leads (PlainTail p) Operator names ts (SettingTail p) Operator mid (λ s. s)
to_setting d = leads_on (either_first (after_begins (word_begins (codes "show"))) (mark_stable Dot) dot_no_show (mark_head d)) (past_mark d)

pub to_show : {names : List (List ℕ)} {ts : List Token} {p : Named} → ((rest : List Token) → MarkIs Dot ts rest → ⊥) → Leads (PlainTail p) Operator names ts (After (WordPart (codes "show")) (λ u. ShowTail p)) Operator ts (λ s. s)
to_show n = either_second (after_begins (mark_begins Dot)) (mark_stable Dot) (λ h. no_mark_head n h)

pub to_value : {names : List (List ℕ)} {ts mid : List Token} {a : Role} → MarkIs Dot ts mid → Leads (RoleTail a) Nothing names ts (ValueTail a) Nothing mid (λ s. s)
to_value d = leads_on (either_first (after_begins (mark_begins Arrow)) (mark_stable Dot) dot_no_arrow (mark_head d)) (past_mark d)

pub to_path : {names : List (List ℕ)} {ts : List Token} {a : Role} → ((rest : List Token) → MarkIs Dot ts rest → ⊥) → Leads (RoleTail a) Nothing names ts (After (MarkPart Arrow) (λ u. PathTail a)) Nothing ts (λ s. s)
to_path n = either_second (after_begins (mark_begins Dot)) (mark_stable Dot) (λ h. no_mark_head n h)

pub to_label : {names : List (List ℕ)} {ts mid : List Token} {a b : Role} {k : Named} → MarkIs Dot ts mid → Leads (SessionTail a b k) Nothing names ts (LabelTail a b k) Nothing mid (λ s. s)
to_label d = leads_on (either_first (after_begins (mark_begins OpenParen)) (mark_stable Dot) dot_no_paren (mark_head d)) (past_mark d)

pub to_give : {names : List (List ℕ)} {ts : List Token} {a b : Role} {k : Named} → ((rest : List Token) → MarkIs Dot ts rest → ⊥) → Leads (SessionTail a b k) Nothing names ts (GiveTail a b k) Nothing ts (λ s. s)
to_give n = either_second (after_begins (mark_begins Dot)) (mark_stable Dot) (λ h. no_mark_head n h)

pub to_host : {names : List (List ℕ)} {ts mid : List Token} (p x : Named) → WordIs names (codes "host") ts mid → Leads (SetTail p x) Operator names ts (HostTail p x) Nothing mid (λ s. s)
to_host p x w =
    leads_on (either_first (as_begins expr_begins) (word_stable (codes "host")) host_no_expr (word_head w))
    (leads_on (past_word host_keyword w) (further_leads none_more))

pub to_set : {names : List (List ℕ)} {ts : List Token} (p x : Named) → ((rest : List Token) → WordIs names (codes "host") ts rest → ⊥) → Leads (SetTail p x) Operator names ts (As ExprPart (λ e. Sets p x.name e)) Operator ts (λ s. s)
to_set p x n = either_second (after_begins (word_begins (codes "host"))) (word_stable (codes "host")) (λ h. no_word_head n h)

-- ---- the parts of a statement one after another

pub past_expr : {B : Type 0} {S : Term → Part B} {D : Further} {names : List (List ℕ)} {ts mid : List Token} {e : Term} → ((x : Term) → Apart Operator (S x) D) → Reads ExprPart Operator names ts e mid → Leads (After ExprPart S) D names ts (S e) D mid (λ y. y)
past_expr a r = after_leads expr_part a r

pub past_role : {B : Type 0} {S : Role → Part B} {D : Further} {names : List (List ℕ)} {ts mid : List Token} {p : Role} → Reads PartPart Nothing names ts p mid → Leads (After PartPart S) D names ts (S p) D mid (λ y. y)
past_role r = after_leads part_part (λ p. nothing_apart) r

pub past_roles : {names : List (List ℕ)} {ts mid : List Token} {c k : Named} {active : List Role} → Reads RolesPart (OrComma Nothing) names ts active mid → Leads (After RolesPart (λ ps. As NewRolesPart (λ serve. Starts c k ps serve))) RoleMore names ts (As NewRolesPart (λ serve. Starts c k active serve)) RoleMore mid (λ y. y)
past_roles r = after_leads roles_part (λ ps. new_roles_apart) r

pub roles_halt : {names : List (List ℕ)} {ts : List Token} {c k : Named} {d : Denied} → Halts RolesPart (OrComma Nothing) names ts d → Halts (After RolesPart (λ ps. As NewRolesPart (λ serve. Starts c k ps serve))) RoleMore names ts d
roles_halt h = after_now (λ ps. as_part new_roles_part) (λ ps. new_roles_apart) h

pub expr_halts : {B : Type 0} {S : Term → Part B} {D : Further} {names : List (List ℕ)} {ts : List Token} {d : Denied} → ((x : Term) → IsPart (S x) D) → ((x : Term) → Apart Operator (S x) D) → Halts ExprPart Operator names ts d → Halts (After ExprPart S) D names ts d
expr_halts q a h = after_now q a h

-- ---- what a last call answers

pub on_ok : {X Y : Type 0} (r : Result X Y) (P Q : X → Type 0) → IfOk r P → ((x : X) → P x → Q x) → IfOk r Q
on_ok (Ok x) P Q h f = f x h
on_ok (Err y) P Q h f = tt

pub on_err : {X Y : Type 0} (r : Result X Y) (P Q : Y → Type 0) → IfErr r P → ((y : Y) → P y → Q y) → IfErr r Q
on_err (Ok x) P Q h f = tt
on_err (Err y) P Q h f = f y h

-- want of memory
pub no_memory : {X : Type 0} (r : Result X Denied) (P : Denied → Type 0) → IsErrAnd r (λ e. e ≡ Memory) → ((d : Denied) → d ≡ Memory → P d) → IfErr r P
no_memory (Ok x) P h f = tt
no_memory (Err d) P h f = f d h
