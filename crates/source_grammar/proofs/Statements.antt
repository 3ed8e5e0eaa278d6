-- Statements are parts of the grammar, read step by step.
use Rattle.std.proofs.lemmas.Result.{err_from_is_err_and}
use Rattle.std.proofs.Common.{Result, IfErr, IsErrAnd, ◌≡◌, inl, inr, ℕ, List, [], Bool, true, false, Option, Some, None, ap, refl, sym, ◌∙◌, subst, codes}
use Rattle.chor_base.specs.declared.expr.BinOp.{BinOp}
use Rattle.chor_base.specs.declared.expr.BinOp.TheVariants as binop
use Rattle.chor_base.specs.declared.rule.Denied.{Denied}
use Rattle.chor_lexer.specs.declared.mark.Mark.{Mark}
use Rattle.chor_lexer.specs.declared.mark.Mark.TheVariants.{OpenParen, CloseParen, OpenBracket, CloseBracket, Comma, Colon, Dot, Becomes, Arrow, Plus, Minus, Star, Slash, Equal, NotEqual, Less, LessEqual, And, Or as OrMark}
use Rattle.chor_lexer.specs.declared.token.Kind.TheVariants as kind
use Rattle.chor_lexer.specs.declared.token.Token.{Token}
use Rattle.chor_lexer.specs.Canonical.{binary_mark}
use Rattle.chor_tree.specs.declared.file.Named.{Named}
use Rattle.chor_tree.specs.declared.tree.Part.{Part as Role}
use Rattle.source_grammar.specs.Symbols.{Allowed, Part, Further, Nothing, more_words, IsPart, Reads, Halts, Apart, IsStable, Among, AreDistinct, Begins, Opens, AtMost, without, with, As, Alike, Leads}
use Rattle.source_grammar.specs.Expressions.{Operator, IsNoWord}
use Rattle.source_grammar.specs.Values.{After, by_first, by_second}
use Rattle.source_grammar.proofs.Expressions.{expr_part}
use Rattle.source_grammar.proofs.ExpressionAnswers.{expr_begins}
use Rattle.source_grammar.proofs.Values.{as_alike, as_part, as_begins, after_part, after_leads, after_now, after_begins, after_opens, either_part, either_begins, either_opens}
use Rattle.source_grammar.proofs.Sequels.{leads_on}
use Rattle.source_grammar.proofs.Choices.{same_part, same_reads, same_leads, option_part, option_leads, without_reads, more_further, halts_further, reads_further}
use Rattle.source_grammar.proofs.Starts.{same_begins, same_opens, nothing_apart, begins_apart, option_apart, same_apart}
use Rattle.chor_tree.specs.Source.{Statement}
use Rattle.source_grammar.specs.Grammar.{MarkIs, WordIs, NameIs, PartIs, NewPartsAre, no_new, some_new, StatementIs, a_part, a_start, a_value, a_label, a_delegation, a_set, a_host_call, a_show}
use Rattle.source_grammar.specs.Limits.{KeepsStatement}
use Rattle.source_grammar.specs.Parts.{MarkPart, WordPart, NamePart, PartPart, OrComma, AMark, AWord, Or, IsKeyword}
use Rattle.source_grammar.specs.Statements.{RolesPart, NewRolesPart, RoleMore, StatementPart, StatementFirst, StatementMore, StartTail, ValueTail, GiveTail, SessionTail, PathTail, RoleTail, SendingTail, HostTail, SetTail, SettingTail, PlainTail, NameTail, Stepwise}
use Rattle.source_grammar.proofs.ItemLists.{commas_part, any_list_alike}
use Rattle.source_grammar.proofs.ShortParts.{nothing_stable, part_part, part_items}
use Rattle.source_grammar.proofs.Terminals.{mark_part, mark_begins, mark_stable, mark_reads, word_head, no_word_head, word_part, word_begins, word_stable, word_reads, name_part, name_begins, name_opens, name_stable, name_reads, start_keyword, new_keyword, word_not_mark, nothing_distinct, host_keyword, show_keyword, word_not_name, mark_not_word, marks_differ, or_stable, distinct_or}

-- ---- one token, and then what is left

pub name_then : {B : Type 0} {S : Named → Part B} {D : Further} → ((n : Named) → IsPart (S n) D) → IsPart (After NamePart S) D
name_then q = after_part name_part q (λ n. nothing_apart)

pub mark_then : {B : Type 0} {S : Unit {0} → Part B} {D : Further} (m : Mark) → ((u : Unit {0}) → IsPart (S u) D) → IsPart (After (MarkPart m) S) D
mark_then m q = after_part (mark_part m) q (λ u. nothing_apart)

pub past_name : {B : Type 0} {S : Named → Part B} {D : Further} {names : List (List ℕ)} {ts mid : List Token} {n : Named} → NameIs names ts n mid → Leads (After NamePart S) D names ts (S n) D mid (λ y. y)
past_name h = after_leads name_part (λ n. nothing_apart) (name_reads h)

pub past_mark : {B : Type 0} {S : Unit {0} → Part B} {D : Further} {m : Mark} {names : List (List ℕ)} {ts mid : List Token} → MarkIs m ts mid → Leads (After (MarkPart m) S) D names ts (S tt) D mid (λ y. y)
past_mark {m = m} h = after_leads (mark_part m) (λ u. nothing_apart) (mark_reads h)

-- what is refused is handed on
pub passes : {X : Type 0} {d : Denied} (r : Result X Denied) (P : Denied → Type 0) → IsErrAnd r (λ e. e ≡ d) → P d → IfErr r P
passes r P h p = let q = err_from_is_err_and r h in rw (q.1, q.2) p

-- a refusal of a part before others that don't go on with it
pub at_one : {A B : Type 0} {R : Part A} {S : A → Part B} {D : Further} {names : List (List ℕ)} {ts : List Token} {d : Denied} → ((x : A) → IsPart (S x) D) → Halts R Nothing names ts d → Halts (After R S) D names ts d
at_one q h = after_now q (λ x. nothing_apart) h

pub word_then : {B : Type 0} {S : Unit {0} → Part B} {D : Further} {w : List ℕ} → IsKeyword w → ((u : Unit {0}) → IsPart (S u) D) → IsPart (After (WordPart w) S) D
word_then k q = after_part (word_part k) q (λ u. nothing_apart)

pub past_word : {B : Type 0} {S : Unit {0} → Part B} {D : Further} {w : List ℕ} {names : List (List ℕ)} {ts mid : List Token} → IsKeyword w → WordIs names w ts mid → Leads (After (WordPart w) S) D names ts (S tt) D mid (λ y. y)
past_word k h = after_leads (word_part k) (λ u. nothing_apart) (word_reads k h)

pub word_opens : (w : List ℕ) → Opens (WordPart w) (AWord w)
word_opens w = record {
  by = λ names t p h. record { added = []; there = tt; value = tt; is = λ more. record { token = t; parts = refl; is = (word_stable w).stays names more_words t h } };
}

pub mark_opens : (m : Mark) → Opens (MarkPart m) (AMark m)
mark_opens m = record { by = λ names t p h. record { added = []; there = tt; value = tt; is = λ more. record { token = t; parts = refl; is = h } } }

pub further_leads : {A : Type 0} {R : Part A} {C D : Further} {names : List (List ℕ)} {ts : List Token} → Among C D → Leads R D names ts R C ts (λ x. x)
further_leads a = record { reads = λ x rest r. reads_further a r; halts = λ d h. halts_further a h }

-- ---- roles

pub roles_part : IsPart RolesPart (OrComma Nothing)
roles_part = same_part (commas_part 0 part_items) (any_list_alike PartIs 0)

-- [ "new" role { "," role } ]
abbrev pub NewRoles : Part (Option (List Role))
NewRoles = AtMost (After (WordPart (codes "new")) (λ u. RolesPart))

abbrev pub these : Option (List Role) → List Role
these None = []
these (Some ps) = ps

new_to : {Q : Allowed} {names : List (List ℕ)} {ts rest : List Token} {ps : List Role} → NewPartsAre names ts ps rest → As NewRoles these Q names ts ps rest
new_to no_new = record { value = None; is = without; same = refl }
new_to (some_new {t1 = t1} {ps = ps} w h) = record { value = Some ps; is = with (record { said = tt; mid = t1; first = w; second = h }); same = refl }

new_from : {Q : Allowed} {names : List (List ℕ)} {ts rest : List Token} {v : Option (List Role)} → NewRoles Q names ts v rest → NewPartsAre names ts (these v) rest
new_from without = no_new
new_from (with h) = some_new h.first h.second

pub new_alike : Alike NewRolesPart NewRoles these
new_alike = record { to = λ h. new_to h; from = λ h. new_from h }

pub role_more_stable : IsStable RoleMore
role_more_stable = or_stable (or_stable (mark_stable Comma) nothing_stable) (word_stable (codes "new"))

pub list_more : Among (OrComma Nothing) RoleMore
list_more names t h = inl h

pub new_more : Among (AWord (codes "new")) RoleMore
new_more names t h = inr h

new_no_comma : AreDistinct (AWord (codes "new")) (OrComma Nothing)
new_no_comma = distinct_or (word_not_mark Comma (codes "new")) (nothing_distinct (AWord (codes "new")))

pub new_roles_part : IsPart NewRolesPart RoleMore
new_roles_part = same_part (option_part (word_then new_keyword (λ u. roles_part)) (after_begins (word_begins (codes "new"))) list_more new_more role_more_stable) new_alike

pub new_roles_apart : {f : List Role → Statement} → Apart (OrComma Nothing) (As NewRolesPart f) RoleMore
new_roles_apart = same_apart (same_apart (option_apart (after_begins (word_begins (codes "new"))) new_no_comma list_more) new_alike) as_alike

-- some come
pub to_new : {names : List (List ℕ)} {ts mid : List Token} → WordIs names (codes "new") ts mid → Leads NewRolesPart RoleMore names ts RolesPart (OrComma Nothing) mid (λ ps. ps)
to_new w = leads_on (same_leads new_alike) (leads_on (option_leads (after_begins (word_begins (codes "new"))) (word_stable (codes "new")) list_more new_more (word_head w)) (past_word new_keyword w))

-- none come
pub no_new_roles : {names : List (List ℕ)} {ts : List Token} → ((rest : List Token) → WordIs names (codes "new") ts rest → ⊥) → Reads NewRolesPart RoleMore names ts [] ts
no_new_roles n = same_reads new_alike (without_reads (after_begins (word_begins (codes "new"))) (word_stable (codes "new")) (λ h. no_word_head n h))

pub role_then : {B : Type 0} {S : Role → Part B} {D : Further} → ((p : Role) → IsPart (S p) D) → IsPart (After PartPart S) D
role_then q = after_part part_part q (λ p. nothing_apart)

-- ---- operators

pub operator_stable : IsStable Operator
operator_stable = record { stays = λ names words t h. h; back = λ names words t k h. h }

abbrev binds : Mark → Bool
binds Plus = true
binds Minus = true
binds Star = true
binds Slash = true
binds Equal = true
binds NotEqual = true
binds Less = true
binds LessEqual = true
binds And = true
binds OrMark = true
binds m = false

binary_binds : (op : BinOp) → binds (binary_mark op) ≡ true
binary_binds binop.Add = refl
binary_binds binop.Sub = refl
binary_binds binop.Mul = refl
binary_binds binop.Div = refl
binary_binds binop.Eq = refl
binary_binds binop.Ne = refl
binary_binds binop.Lt = refl
binary_binds binop.Le = refl
binary_binds binop.And = refl
binary_binds binop.Or = refl

pub no_operator : (m : Mark) → binds m ≡ false → AreDistinct (AMark m) Operator
no_operator m f names t h g = absurd (apart (sym f ∙ ap binds (mark_same (sym h ∙ g.1)) ∙ binary_binds g.0))
  where
    mark_same : {a b : Mark} → kind.Mark a ≡ kind.Mark b → a ≡ b
    mark_same e = cc

    apart : false ≡ true → ⊥
    apart e = absurd cc

-- a mark after an expression ends it
pub mark_apart : {B : Type 0} {S : Unit {0} → Part B} {D : Further} (m : Mark) → binds m ≡ false → Apart Operator (After (MarkPart m) S) D
mark_apart m f = begins_apart (after_begins (mark_begins m)) (no_operator m f)

pub last_mark_apart : {B : Type 0} {D : Further} {f : Unit {0} → B} (m : Mark) → binds m ≡ false → Apart Operator (As (MarkPart m) f) D
last_mark_apart m f = begins_apart (as_begins (mark_begins m)) (no_operator m f)

pub none_more : Among Nothing Operator
none_more names t h = absurd h

pub start_more : Among RoleMore StatementMore
start_more names t h = inl h

pub name_more : Among Operator StatementMore
name_more names t h = inr h

pub host_no_expr : AreDistinct (AWord (codes "host")) (IsNoWord (codes "host"))
host_no_expr names t h g = g h

-- ---- what is left of a statement is a part

pub start_tail : IsPart StartTail RoleMore
start_tail = name_then (λ c. mark_then OpenParen (λ u. name_then (λ k. mark_then CloseParen (λ v. mark_then Colon (λ w. after_part roles_part (λ active. as_part new_roles_part) (λ active. new_roles_apart))))))

pub value_tail : (a : Role) → IsPart (ValueTail a) Nothing
value_tail a = after_part expr_part (λ e. mark_then Arrow (λ u. role_then (λ b. mark_then Dot (λ v. name_then (λ x. mark_then Colon (λ w. as_part name_part)))))) (λ e. mark_apart Arrow refl)

pub give_tail : (a b : Role) (k : Named) → IsPart (GiveTail a b k) Nothing
give_tail a b k = mark_then OpenParen (λ u. role_then (λ h. as_part (mark_part CloseParen)))

pub dot_no_paren : AreDistinct (AMark Dot) (AMark OpenParen)
dot_no_paren = marks_differ Dot OpenParen (λ e. absurd cc)

pub session_tail : (a b : Role) (k : Named) → IsPart (SessionTail a b k) Nothing
session_tail a b k = either_part (mark_then Dot (λ u. as_part name_part)) (give_tail a b k) (after_begins (mark_begins Dot)) (after_begins (mark_begins OpenParen)) dot_no_paren

pub path_tail : (a : Role) → IsPart (PathTail a) Nothing
path_tail a = role_then (λ b. mark_then Colon (λ u. name_then (λ k. session_tail a b k)))

pub dot_no_arrow : AreDistinct (AMark Dot) (AMark Arrow)
dot_no_arrow = marks_differ Dot Arrow (λ e. absurd cc)

pub role_tail : (a : Role) → IsPart (RoleTail a) Nothing
role_tail a = either_part (mark_then Dot (λ u. value_tail a)) (mark_then Arrow (λ u. path_tail a)) (after_begins (mark_begins Dot)) (after_begins (mark_begins Arrow)) dot_no_arrow

pub sending_tail : (p : Named) → IsPart (SendingTail p) Nothing
sending_tail p = name_then (λ r. mark_then CloseBracket (λ u. role_tail _))

pub host_tail : (p x : Named) → IsPart (HostTail p x) Nothing
host_tail p x = name_then (λ f. mark_then OpenParen (λ u. after_part expr_part (λ a. mark_then Comma (λ v. after_part expr_part (λ b. as_part (mark_part CloseParen)) (λ b. last_mark_apart CloseParen refl))) (λ a. mark_apart Comma refl)))

pub set_tail : (p x : Named) → IsPart (SetTail p x) Operator
set_tail p x = either_part (word_then host_keyword (λ u. more_further (host_tail p x) none_more operator_stable)) (as_part expr_part) (after_begins (word_begins (codes "host"))) (as_begins expr_begins) host_no_expr

pub setting_tail : (p : Named) → IsPart (SettingTail p) Operator
setting_tail p = name_then (λ x. mark_then Becomes (λ u. set_tail p x))

pub dot_no_show : AreDistinct (AMark Dot) (AWord (codes "show"))
dot_no_show = mark_not_word Dot (codes "show")

pub plain_tail : (p : Named) → IsPart (PlainTail p) Operator
plain_tail p = either_part (mark_then Dot (λ u. setting_tail p)) (word_then show_keyword (λ u. as_part expr_part)) (after_begins (mark_begins Dot)) (after_begins (word_begins (codes "show"))) dot_no_show

pub plain_begins : (p : Named) → Begins (PlainTail p) (Or (AMark Dot) (AWord (codes "show")))
plain_begins p = either_begins (after_begins (mark_begins Dot)) (after_begins (word_begins (codes "show")))

pub bracket_no_plain : AreDistinct (AMark OpenBracket) (Or (AMark Dot) (AWord (codes "show")))
bracket_no_plain = distinct_or (marks_differ OpenBracket Dot (λ e. absurd cc)) (mark_not_word OpenBracket (codes "show"))

pub name_tail : (p : Named) → IsPart (NameTail p) Operator
name_tail p = either_part (mark_then OpenBracket (λ u. more_further (sending_tail p) none_more operator_stable)) (plain_tail p) (after_begins (mark_begins OpenBracket)) (plain_begins p) bracket_no_plain

pub statement_more_stable : IsStable StatementMore
statement_more_stable = or_stable role_more_stable operator_stable

started : (u : Unit {0}) → IsPart StartTail StatementMore
started u = more_further start_tail start_more statement_more_stable

pub named : (p : Named) → IsPart (NameTail p) StatementMore
named p = more_further (name_tail p) name_more statement_more_stable

stepwise_part : IsPart Stepwise StatementMore
stepwise_part = either_part (word_then start_keyword started) (name_then named) (after_begins (word_begins (codes "start"))) (after_begins name_begins) (word_not_name start_keyword)

-- ---- a statement is what its first tokens lead to

pub seq : {A B : Type 0} {R : Part A} {S : A → Part B} {Q : Allowed} {names : List (List ℕ)} {ts rest : List Token} {y : B} (x : A) (mid : List Token) → R Q names ts x mid → S x Q names mid y rest → After R S Q names ts y rest
seq x mid h k = record { said = x; mid = mid; first = h; second = k }

pub say : {A B : Type 0} {S : Part B} {f : B → A} {Q : Allowed} {names : List (List ℕ)} {ts rest : List Token} (y : B) → S Q names ts y rest → As S f Q names ts (f y) rest
say y h = record { value = y; is = h; same = refl }

steps : (Q : Allowed) (names : List (List ℕ)) (ts : List Token) (s : Statement) (rest : List Token) → (d : StatementIs names ts s rest) → KeepsStatement Q d → Stepwise Q names ts s rest
steps Q names ts s rest (a_start {c = c} {k = k} {active = active} {serve = serve} w n o m p q r v) keeps =
    by_first (seq tt _ w (seq c _ n (seq tt _ o (seq k _ m (seq tt _ p (seq tt _ q (seq active _ r (say serve v))))))))
steps Q names ts s rest (a_value {b = b} {e = e} {x = x} {k = k} (a_part {p = p} {r = r} n o m c) d h a i f j l q) keeps =
    by_second (seq p _ n (by_first (seq tt _ o (seq r _ m (seq tt _ c (by_first (seq tt _ d (seq e _ (record { is = h; keeps = keeps }) (seq tt _ a (seq b _ i (seq tt _ f (seq x _ j (seq tt _ l (say k q))))))))))))))
steps Q names ts s rest (a_label {b = b} {k = k} {l = l} (a_part {p = p} {r = r} n o m c) a i d j f q) keeps =
    by_second (seq p _ n (by_first (seq tt _ o (seq r _ m (seq tt _ c (by_second (seq tt _ a (seq b _ i (seq tt _ d (seq k _ j (by_first (seq tt _ f (say l q)))))))))))))
steps Q names ts s rest (a_delegation {b = b} {h = h} {k = k} (a_part {p = p} {r = r} n o m c) a i d j f g q) keeps =
    by_second (seq p _ n (by_first (seq tt _ o (seq r _ m (seq tt _ c (by_second (seq tt _ a (seq b _ i (seq tt _ d (seq k _ j (by_second (seq tt _ f (seq h _ g (say tt q))))))))))))))
steps Q names ts s rest (a_set {p = p} {x = x} {e = e} n d m b h) keeps =
    by_second (seq p _ n (by_second (by_first (seq tt _ d (seq x _ m (seq tt _ b (by_second (say e (record { is = h; keeps = keeps })))))))))
steps Q names ts s rest (a_host_call {p = p} {x = x} {f = f} {a = a} {b = b} n d m c w i o h j g q) keeps =
    by_second (seq p _ n (by_second (by_first (seq tt _ d (seq x _ m (seq tt _ c (by_first (seq tt _ w (seq f _ i (seq tt _ o (seq a _ (record { is = h; keeps = keeps.0 }) (seq tt _ j (seq b _ (record { is = g; keeps = keeps.1 }) (say tt q))))))))))))))
steps Q names ts s rest (a_show {p = p} {e = e} n w h) keeps =
    by_second (seq p _ n (by_second (by_second (seq tt _ w (say e (record { is = h; keeps = keeps }))))))

-- ---- and back

part_of : {names : List (List ℕ)} {t0 t1 t2 t3 t4 : List Token} {p r : Named} → NameIs names t0 p t1 → MarkIs OpenBracket t1 t2 → NameIs names t2 r t3 → MarkIs CloseBracket t3 t4 → PartIs names t0 (record { process = p; role = r }) t4
part_of n o m c = a_part n o m c

-- of what was derived, with what was said
said : {Q : Allowed} {names : List (List ℕ)} {ts rest : List Token} {x y : Statement} → x ≡ y → StatementPart Q names ts y rest → StatementPart Q names ts x rest
said {Q} {names} {ts} {rest} e h = subst (λ (s : Statement). StatementPart Q names ts s rest) (sym e) h

back_start : {Q : Allowed} {names : List (List ℕ)} {ts mid : List Token} {s : Statement} {rest : List Token} → WordIs names (codes "start") ts mid → StartTail Q names mid s rest → StatementPart Q names ts s rest
back_start w h =
    let h1 = h.second in
    let h2 = h1.second in
    let h3 = h2.second in
    let h4 = h3.second in
    let h5 = h4.second in
    let h6 = h5.second in
    said h6.same (record { is = a_start w h.first h1.first h2.first h3.first h4.first h5.first h6.is; keeps = tt })

back_value : {Q : Allowed} {names : List (List ℕ)} {ts mid t1 : List Token} {a : Role} {s : Statement} {rest : List Token} → PartIs names ts a mid → MarkIs Dot mid t1 → ValueTail a Q names t1 s rest → StatementPart Q names ts s rest
back_value i d h =
    let h1 = h.second in
    let h2 = h1.second in
    let h3 = h2.second in
    let h4 = h3.second in
    let h5 = h4.second in
    let h6 = h5.second in
    said h6.same (record { is = a_value i d h.first.is h1.first h2.first h3.first h4.first h5.first h6.is; keeps = h.first.keeps })

back_session : {Q : Allowed} {names : List (List ℕ)} {ts t1 t2 t3 t4 mid : List Token} {a b : Role} {k : Named} {s : Statement} {rest : List Token} → PartIs names ts a t1 → MarkIs Arrow t1 t2 → PartIs names t2 b t3 → MarkIs Colon t3 t4 → NameIs names t4 k mid → SessionTail a b k Q names mid s rest → StatementPart Q names ts s rest
back_session i r j c k (by_first h) = let h1 = h.second in said h1.same (record { is = a_label i r j c k h.first h1.is; keeps = tt })
back_session i r j c k (by_second h) =
    let h1 = h.second in
    let h2 = h1.second in
    said h2.same (record { is = a_delegation i r j c k h.first h1.first h2.is; keeps = tt })

back_role : {Q : Allowed} {names : List (List ℕ)} {ts mid : List Token} {a : Role} {s : Statement} {rest : List Token} → PartIs names ts a mid → RoleTail a Q names mid s rest → StatementPart Q names ts s rest
back_role i (by_first h) = back_value i h.first h.second
back_role i (by_second h) =
    let h1 = h.second in
    let h2 = h1.second in
    let h3 = h2.second in
    back_session i h.first h1.first h2.first h3.first h3.second

back_set : {Q : Allowed} {names : List (List ℕ)} {ts t1 t2 t3 mid : List Token} {p x : Named} {s : Statement} {rest : List Token} → NameIs names ts p t1 → MarkIs Dot t1 t2 → NameIs names t2 x t3 → MarkIs Becomes t3 mid → SetTail p x Q names mid s rest → StatementPart Q names ts s rest
back_set n d m b (by_first h) =
    let h1 = h.second in
    let h2 = h1.second in
    let h3 = h2.second in
    let h4 = h3.second in
    let h5 = h4.second in
    let h6 = h5.second in
    said h6.same (record { is = a_host_call n d m b h.first h1.first h2.first h3.first.is h4.first h5.first.is h6.is; keeps = (h3.first.keeps, h5.first.keeps) })
back_set n d m b (by_second h) = said h.same (record { is = a_set n d m b h.is.is; keeps = h.is.keeps })

back_plain : {Q : Allowed} {names : List (List ℕ)} {ts mid : List Token} {p : Named} {s : Statement} {rest : List Token} → NameIs names ts p mid → PlainTail p Q names mid s rest → StatementPart Q names ts s rest
back_plain n (by_first h) = let h1 = h.second in let h2 = h1.second in back_set n h.first h1.first h2.first h2.second
back_plain n (by_second h) = let h1 = h.second in said h1.same (record { is = a_show n h.first h1.is.is; keeps = h1.is.keeps })

back_name : {Q : Allowed} {names : List (List ℕ)} {ts mid : List Token} {p : Named} {s : Statement} {rest : List Token} → NameIs names ts p mid → NameTail p Q names mid s rest → StatementPart Q names ts s rest
back_name n (by_first h) = let h1 = h.second in let h2 = h1.second in back_role (part_of n h.first h1.first h2.first) h2.second
back_name n (by_second h) = back_plain n h

back : {Q : Allowed} {names : List (List ℕ)} {ts : List Token} {s : Statement} {rest : List Token} → Stepwise Q names ts s rest → StatementPart Q names ts s rest
back (by_first h) = back_start h.first h.second
back (by_second h) = back_name h.first h.second

pub statement_alike : Alike StatementPart Stepwise (λ s. s)
statement_alike = record {
  to = λ {Q} {names} {ts} {x} {rest} h. record { value = x; is = steps Q names ts x rest h.is h.keeps; same = refl };
  from = λ h. back h;
}

pub statement_part : IsPart StatementPart StatementMore
statement_part = same_part stepwise_part statement_alike

pub statement_begins : Begins StatementPart StatementFirst
statement_begins = same_begins (either_begins (after_begins (word_begins (codes "start"))) (after_begins name_begins)) statement_alike

pub statement_opens : Opens StatementPart StatementFirst
statement_opens = same_opens (either_opens (after_opens (word_opens (codes "start")) started) (after_opens name_opens named)) statement_alike

pub statement_first_stable : IsStable StatementFirst
statement_first_stable = or_stable (word_stable (codes "start")) name_stable
