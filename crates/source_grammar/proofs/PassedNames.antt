-- What a call passes is a part of the grammar.
use Rattle.std.proofs.Common.{inl, inr, ℕ, List, [], Option, Some, None, refl}
use Rattle.chor_base.specs.declared.rule.Denied.{Denied}
use Rattle.chor_lexer.specs.declared.mark.Mark.TheVariants.{CloseParen, Comma, Semicolon}
use Rattle.chor_lexer.specs.declared.token.Token.{Token}
use Rattle.chor_tree.specs.declared.file.Named.{Named}
use Rattle.source_grammar.specs.Symbols.{Allowed, Part, Further, Nothing, IsPart, Reads, Halts, Head, Apart, Then, AtMost, without, with, IsStable, Among, AreDistinct, Begins, As, Alike, Leads}
use Rattle.source_grammar.specs.Values.{After}
use Rattle.source_grammar.proofs.Values.{after_begins, as_begins}
use Rattle.source_grammar.proofs.Sequels.{leads_on, then_part, leads, now}
use Rattle.source_grammar.proofs.Choices.{same_part, same_reads, same_leads, option_part, option_leads, without_reads}
use Rattle.source_grammar.proofs.Starts.{then_begins, same_begins, begins_apart, option_apart, same_apart}
use Rattle.source_grammar.specs.Grammar.{MarkIs, NameIs, PassedSessionsAre, no_session_passed, sessions_passed, PassedAre, nothing_passed, processes_passed}
use Rattle.source_grammar.specs.Parts.{MarkPart, AMark, AName, OrComma}
use Rattle.source_grammar.specs.Blocks.{AllNamesPart, PassedSessionsPart, PassedSessionsMore, PassedPart, PassedMore}
use Rattle.source_grammar.proofs.ItemLists.{AreItems, Bare, commas_part, commas_begins, any_list_alike}
use Rattle.source_grammar.proofs.ShortParts.{nothing_stable}
use Rattle.source_grammar.proofs.Terminals.{mark_begins, mark_stable, mark_head, no_mark_head, name_part, name_begins, name_stable, marks_differ, mark_not_name, nothing_distinct, or_stable, distinct_or}
use Rattle.source_grammar.proofs.Statements.{mark_then, past_mark}

-- ---- names

pub all_names_items : AreItems (Bare NameIs) Nothing AName
all_names_items = record { part = λ n. name_part; begins = λ n. name_begins; stable = nothing_stable; distinct = nothing_distinct (AMark Comma) }

pub all_names_part : IsPart AllNamesPart (OrComma Nothing)
all_names_part = same_part (commas_part 0 all_names_items) (any_list_alike NameIs 0)

pub all_names_begin : Begins AllNamesPart AName
all_names_begin = same_begins (commas_begins 0 all_names_items) (any_list_alike NameIs 0)

abbrev pub these : Option (List Named) → List Named
these None = []
these (Some ns) = ns

-- ---- sessions

abbrev pub Sessions : Part (Option (List Named))
Sessions = AtMost (After (MarkPart Semicolon) (λ u. AllNamesPart))

sessions_to : {Q : Allowed} {names : List (List ℕ)} {ts rest : List Token} {ns : List Named} → PassedSessionsAre names ts ns rest → As Sessions these Q names ts ns rest
sessions_to no_session_passed = record { value = None; is = without; same = refl }
sessions_to (sessions_passed {t1 = t1} {ss = ss} m h) = record { value = Some ss; is = with (record { said = tt; mid = t1; first = m; second = h }); same = refl }

sessions_from : {Q : Allowed} {names : List (List ℕ)} {ts rest : List Token} {v : Option (List Named)} → Sessions Q names ts v rest → PassedSessionsAre names ts (these v) rest
sessions_from without = no_session_passed
sessions_from (with h) = sessions_passed h.first h.second

pub sessions_alike : Alike PassedSessionsPart Sessions these
sessions_alike = record { to = λ h. sessions_to h; from = λ h. sessions_from h }

pub names_more : Among (OrComma Nothing) PassedSessionsMore
names_more names t h = inl h

pub semicolon_more : Among (AMark Semicolon) PassedSessionsMore
semicolon_more names t h = inr h

pub sessions_stable : IsStable PassedSessionsMore
sessions_stable = or_stable (or_stable (mark_stable Comma) nothing_stable) (mark_stable Semicolon)

semicolon_no_comma : AreDistinct (AMark Semicolon) (OrComma Nothing)
semicolon_no_comma = distinct_or (marks_differ Semicolon Comma (λ e. absurd cc)) (nothing_distinct (AMark Semicolon))

pub passed_sessions_part : IsPart PassedSessionsPart PassedSessionsMore
passed_sessions_part = same_part (option_part (mark_then Semicolon (λ u. all_names_part)) (after_begins (mark_begins Semicolon)) names_more semicolon_more sessions_stable) sessions_alike

pub passed_sessions_apart : Apart (OrComma Nothing) PassedSessionsPart PassedSessionsMore
passed_sessions_apart = same_apart (option_apart (after_begins (mark_begins Semicolon)) semicolon_no_comma names_more) sessions_alike

pub to_passed_sessions : {names : List (List ℕ)} {ts mid : List Token} → MarkIs Semicolon ts mid → Leads PassedSessionsPart PassedSessionsMore names ts AllNamesPart (OrComma Nothing) mid (λ ns. ns)
to_passed_sessions m = leads_on (same_leads sessions_alike) (leads_on (option_leads (after_begins (mark_begins Semicolon)) (mark_stable Semicolon) names_more semicolon_more (mark_head m)) (past_mark m))

pub no_passed_sessions : {names : List (List ℕ)} {ts : List Token} → ((rest : List Token) → MarkIs Semicolon ts rest → ⊥) → Reads PassedSessionsPart PassedSessionsMore names ts [] ts
no_passed_sessions n = same_reads sessions_alike (without_reads (after_begins (mark_begins Semicolon)) (mark_stable Semicolon) (λ h. no_mark_head n h))

-- ---- processes and sessions

abbrev pub Both : Part (List Named × List Named)
Both = Then AllNamesPart PassedSessionsPart

abbrev pub passed : Option (List Named × List Named) → List Named × List Named
passed None = ([], [])
passed (Some v) = v

passed_to : {Q : Allowed} {names : List (List ℕ)} {ts rest : List Token} {ps ss : List Named} → PassedAre names ts ps ss rest → As (AtMost Both) passed Q names ts (ps, ss) rest
passed_to nothing_passed = record { value = None; is = without; same = refl }
passed_to (processes_passed {t1 = t1} {ps = ps} {ss = ss} p s) = record { value = Some (ps, ss); is = with (record { mid = t1; first = p; second = s }); same = refl }

passed_from : {Q : Allowed} {names : List (List ℕ)} {ts rest : List Token} {v : Option (List Named × List Named)} → AtMost Both Q names ts v rest → PassedPart Q names ts (passed v) rest
passed_from without = nothing_passed
passed_from (with h) = processes_passed h.first h.second

pub passed_alike : Alike PassedPart (AtMost Both) passed
passed_alike = record { to = λ h. passed_to h; from = λ h. passed_from h }

both_part : IsPart Both PassedSessionsMore
both_part = then_part all_names_part passed_sessions_part passed_sessions_apart

pub sessions_more : Among PassedSessionsMore PassedMore
sessions_more names t h = inl h

pub name_more : Among AName PassedMore
name_more names t h = inr h

pub passed_stable : IsStable PassedMore
passed_stable = or_stable sessions_stable name_stable

pub passed_part : IsPart PassedPart PassedMore
passed_part = same_part (option_part both_part (then_begins all_names_begin) sessions_more name_more passed_stable) passed_alike

-- some come
pub to_passed : {names : List (List ℕ)} {ts : List Token} → Head AName names ts → Leads PassedPart PassedMore names ts Both PassedSessionsMore ts (λ v. v)
to_passed h = leads_on (same_leads passed_alike) (option_leads (then_begins all_names_begin) name_stable sessions_more name_more h)

pub after_processes : {names : List (List ℕ)} {ts mid : List Token} {ps : List Named} → Reads AllNamesPart (OrComma Nothing) names ts ps mid → Leads Both PassedSessionsMore names ts PassedSessionsPart PassedSessionsMore mid (λ ss. (ps, ss))
after_processes r = leads all_names_part passed_sessions_apart r

-- none come
pub nothing_is_passed : {names : List (List ℕ)} {ts : List Token} → (Head AName names ts → ⊥) → Reads PassedPart PassedMore names ts ([], []) ts
nothing_is_passed n = same_reads passed_alike (without_reads (then_begins all_names_begin) name_stable n)

pub processes_halt : {names : List (List ℕ)} {ts : List Token} {d : Denied} → Halts AllNamesPart (OrComma Nothing) names ts d → Halts Both PassedSessionsMore names ts d
processes_halt h = now passed_sessions_part passed_sessions_apart h

pub close_apart : {B : Type 0} {f : Unit {0} → B} {D : Further} → Apart PassedMore (As (MarkPart CloseParen) f) D
close_apart = begins_apart (as_begins (mark_begins CloseParen)) (distinct_or (distinct_or (distinct_or (marks_differ CloseParen Comma (λ e. absurd cc)) (nothing_distinct (AMark CloseParen))) (marks_differ CloseParen Semicolon (λ e. absurd cc))) (mark_not_name CloseParen))
