-- Heads of procedures as parts of the grammar.
use Rattle.std.proofs.Common.{inl, inr, ℕ, List, [], Option, Some, None, refl}
use Rattle.chor_base.specs.declared.value.Sort.{Sort}
use Rattle.chor_lexer.specs.declared.mark.Mark.TheVariants.{OpenBrace, CloseBrace, OpenParen, CloseParen, Comma, Semicolon, Colon, Dot, Assign}
use Rattle.chor_lexer.specs.declared.token.Token.{Token}
use Rattle.chor_tree.specs.declared.file.Named.{Named}
use Rattle.chor_tree.specs.declared.file.ProcParam.{ProcParam}
use Rattle.chor_tree.specs.declared.file.SessionParam.{SessionParam}
use Rattle.source_grammar.specs.Symbols.{Allowed, Part, Nothing, IsPart, Then, Apart, AtMost, without, with, IsStable, Among, AreDistinct, Begins, As, Alike}
use Rattle.source_grammar.proofs.Sequels.{then_part}
use Rattle.source_grammar.proofs.Choices.{same_part, option_part}
use Rattle.source_grammar.proofs.Starts.{then_begins, same_begins, then_opens, same_opens, option_apart, same_apart}
use Rattle.source_grammar.specs.Grammar as g
use Rattle.source_grammar.specs.Grammar.{VariableIs, VariablesAre, ProcParamIs, HolderIs, SessionParamIs, SessionsAre, ParamsAre}
use Rattle.source_grammar.specs.Limits.{KeepsVariables, KeepsParam, KeepsSessions, KeepsParams}
use Rattle.source_grammar.specs.Parts.{MarkPart, NamePart, AMark, AName, AComma, OrComma, OrSession, OrParams, VarsPart, ProcParamsPart, HoldersPart, SessionParamsPart, ItemPart, Unlimited, SortPart, VariablePart, VariablesPart, ProcParamPart, HolderPart, SessionParamPart, SessionsPart, ParamsPart}
use Rattle.source_grammar.proofs.Terminals.{mark_begins, mark_stable, name_part, name_begins, name_opens, name_stable, marks_differ, nothing_among, nothing_distinct, or_left, or_right, or_stable, distinct_or}
use Rattle.source_grammar.proofs.ItemLists.{AreItems, Commas, IsItem, Roomy, roomy_items, list_alike, commas_part, commas_begins, all_of, Bare, any_list_alike}
use Rattle.source_grammar.proofs.Protocols.{sort_part}
use Rattle.source_grammar.proofs.ShortParts.{seq, mark_then, name_then, a_mark, mark_after_list, free_items, nothing_stable}

-- ---- variables

abbrev pub VariableNest : Part (Named × (Unit {0} × Sort))
VariableNest = Then NamePart (Then (MarkPart Colon) SortPart)

abbrev pub variable_of : Named × (Unit {0} × Sort) → Named × Sort
variable_of v = (v.0, v.1.1)

variable_to : {Q : Allowed} {names : List (List ℕ)} {ts : List Token} {v : Named × Sort} {rest : List Token} → VariableIs names ts v rest → As VariableNest variable_of Q names ts v rest
variable_to (g.a_variable {n = n} {s = s} h c k) = record { value = (n, (tt, s)); is = seq _ h (seq _ c k); same = refl }

pub variable_alike : Alike VariablePart VariableNest variable_of
variable_alike = record { to = λ h. variable_to h; from = λ h. g.a_variable h.first h.second.first h.second.second }

pub sort_tail : IsPart (Then (MarkPart Colon) SortPart) Nothing
sort_tail = mark_then sort_part

pub variable_part : IsPart VariablePart Nothing
variable_part = same_part (name_then sort_tail) variable_alike

pub variable_item : IsItem (ItemPart VariableIs (Unlimited VariableIs)) Nothing AName
variable_item = free_items VariableIs variable_part (same_begins (then_begins name_begins) variable_alike) (same_opens (then_opens name_opens (λ x. sort_tail)) variable_alike)

pub vars_alike : Alike VarsPart (Commas (Roomy (ItemPart VariableIs (Unlimited VariableIs))) 16) all_of
vars_alike = list_alike VariableIs (Unlimited VariableIs) 16

pub vars_part : IsPart VarsPart (OrComma Nothing)
vars_part = same_part (commas_part 16 (roomy_items variable_item)) vars_alike

abbrev pub ParenNest : Part (Unit {0} × (List (Named × Sort) × Unit {0}))
ParenNest = Then (MarkPart OpenParen) (Then VarsPart (MarkPart CloseParen))

abbrev pub variables_of : Option (Unit {0} × (List (Named × Sort) × Unit {0})) → List (Named × Sort)
variables_of None = []
variables_of (Some v) = v.1.0

variables_to : {Q : Allowed} {names : List (List ℕ)} {ts : List Token} {vs : List (Named × Sort)} {rest : List Token} (d : VariablesAre names ts vs rest) → KeepsVariables Q d → As (AtMost ParenNest) variables_of Q names ts vs rest
variables_to g.no_variables k = record { value = None; is = without; same = refl }
variables_to (g.some_variables {vs = vs} o h c) k = record { value = Some (tt, (vs, tt)); is = with (record { mid = _; first = o; second = record { mid = _; first = (h, k); second = c } }); same = refl }

variables_from : {Q : Allowed} {names : List (List ℕ)} {ts : List Token} {v : Option (Unit {0} × (List (Named × Sort) × Unit {0}))} {rest : List Token} → AtMost ParenNest Q names ts v rest → VariablesPart Q names ts (variables_of v) rest
variables_from without = (g.no_variables, tt)
variables_from (with h) = (g.some_variables h.first h.second.first.0 h.second.second, h.second.first.1)

pub variables_alike : Alike VariablesPart (AtMost ParenNest) variables_of
variables_alike = record { to = λ h. variables_to h.0 h.1; from = λ h. variables_from h }

pub vars_tail : IsPart (Then VarsPart (MarkPart CloseParen)) Nothing
vars_tail = then_part vars_part a_mark (mark_after_list (λ e. absurd cc))

pub paren_begins : Begins ParenNest (AMark OpenParen)
paren_begins = then_begins (mark_begins OpenParen)

pub variables_part : IsPart VariablesPart (AMark OpenParen)
variables_part = same_part (option_part (mark_then vars_tail) paren_begins (nothing_among (AMark OpenParen)) (λ names t h. h) (mark_stable OpenParen)) variables_alike

-- ---- process parameters

abbrev pub KeepsTheParam : Allowed → (names : List (List ℕ)) (ts : List Token) (p : ProcParam) (rest : List Token) → ProcParamIs names ts p rest → Type 0
KeepsTheParam Q names = KeepsParam Q

abbrev pub ProcParamNest : Part (Named × List (Named × Sort))
ProcParamNest = Then NamePart VariablesPart

abbrev pub proc_param_of : Named × List (Named × Sort) → ProcParam
proc_param_of v = record { name = v.0; vars = v.1 }

proc_param_to : {Q : Allowed} {names : List (List ℕ)} {ts : List Token} {p : ProcParam} {rest : List Token} (d : ProcParamIs names ts p rest) → KeepsParam Q ts p rest d → As ProcParamNest proc_param_of Q names ts p rest
proc_param_to (g.a_param {n = n} {vs = vs} h v) k = record { value = (n, vs); is = record { mid = _; first = h; second = (v, k) }; same = refl }

pub proc_param_alike : Alike ProcParamPart ProcParamNest proc_param_of
proc_param_alike = record { to = λ h. proc_param_to h.0 h.1; from = λ h. (g.a_param h.first h.second.0, h.second.1) }

pub proc_param_part : IsPart ProcParamPart (AMark OpenParen)
proc_param_part = same_part (name_then variables_part) proc_param_alike

pub comma_not_paren : AreDistinct AComma (AMark OpenParen)
comma_not_paren = marks_differ Comma OpenParen (λ e. absurd cc)

pub proc_param_item : IsItem ProcParamPart (AMark OpenParen) AName
proc_param_item = record {
  part = proc_param_part;
  begins = same_begins (then_begins name_begins) proc_param_alike;
  opens = same_opens (then_opens name_opens (λ x. variables_part)) proc_param_alike;
  stable = name_stable;
  end_stable = mark_stable OpenParen;
  distinct = comma_not_paren;
}

pub proc_params_alike : Alike ProcParamsPart (Commas (Roomy ProcParamPart) 8) all_of
proc_params_alike = list_alike ProcParamIs KeepsTheParam 8

pub proc_params_part : IsPart ProcParamsPart (OrComma (AMark OpenParen))
proc_params_part = same_part (commas_part 8 (roomy_items proc_param_item)) proc_params_alike

pub proc_params_begins : Begins ProcParamsPart AName
proc_params_begins = same_begins (commas_begins 8 (roomy_items proc_param_item)) proc_params_alike

-- ---- session parameters

abbrev pub HolderNest : Part (Named × (Unit {0} × Named))
HolderNest = Then NamePart (Then (MarkPart Assign) NamePart)

abbrev pub holder_of : Named × (Unit {0} × Named) → Named × Named
holder_of v = (v.0, v.1.1)

holder_to : {Q : Allowed} {names : List (List ℕ)} {ts : List Token} {h : Named × Named} {rest : List Token} → HolderIs names ts h rest → As HolderNest holder_of Q names ts h rest
holder_to (g.a_holder {r = r} {p = p} h e k) = record { value = (r, (tt, p)); is = seq _ h (seq _ e k); same = refl }

pub holder_alike : Alike HolderPart HolderNest holder_of
holder_alike = record { to = λ h. holder_to h; from = λ h. g.a_holder h.first h.second.first h.second.second }

pub holder_part : IsPart HolderPart Nothing
holder_part = same_part (name_then (mark_then name_part)) holder_alike

pub holder_items : AreItems (Bare HolderIs) Nothing AName
holder_items = record { part = λ n. holder_part; begins = λ n. same_begins (then_begins name_begins) holder_alike; stable = nothing_stable; distinct = nothing_distinct AComma }

pub holders_alike : Alike HoldersPart (Commas (Bare HolderIs) 0) all_of
holders_alike = any_list_alike HolderIs 0

pub holders_part : IsPart HoldersPart (OrComma Nothing)
holders_part = same_part (commas_part 0 holder_items) holders_alike

abbrev pub SessionParamNest : Part (Named × (Unit {0} × (Named × (Unit {0} × (Named × (Unit {0} × (List (Named × Named) × Unit {0})))))))
SessionParamNest = Then NamePart (Then (MarkPart Colon) (Then NamePart (Then (MarkPart Dot) (Then NamePart (Then (MarkPart OpenBrace) (Then HoldersPart (MarkPart CloseBrace)))))))

abbrev pub session_param_of : Named × (Unit {0} × (Named × (Unit {0} × (Named × (Unit {0} × (List (Named × Named) × Unit {0})))))) → SessionParam
session_param_of v = record { name = v.0; protocol = v.1.1.0; state = v.1.1.1.1.0; holders = v.1.1.1.1.1.1.0 }

session_param_to : {Q : Allowed} {names : List (List ℕ)} {ts : List Token} {s : SessionParam} {rest : List Token} → SessionParamIs names ts s rest → As SessionParamNest session_param_of Q names ts s rest
session_param_to (g.a_session {n = n} {p = p} {s = s} {hs = hs} h c i d m o l e) = record {
  value = (n, (tt, (p, (tt, (s, (tt, (hs, tt)))))));
  is = seq _ h (seq _ c (seq _ i (seq _ d (seq _ m (seq _ o (seq _ l e))))));
  same = refl;
}

session_param_from : {Q : Allowed} {names : List (List ℕ)} {ts : List Token} {v : Named × (Unit {0} × (Named × (Unit {0} × (Named × (Unit {0} × (List (Named × Named) × Unit {0}))))))} {rest : List Token} → SessionParamNest Q names ts v rest → SessionParamIs names ts (session_param_of v) rest
session_param_from h =
    let t = h.second.second.second in
    let u = t.second.second in
    g.a_session h.first h.second.first h.second.second.first t.first t.second.first u.first u.second.first u.second.second

pub session_param_alike : Alike SessionParamPart SessionParamNest session_param_of
session_param_alike = record { to = λ h. session_param_to h; from = λ h. session_param_from h }

pub holders_tail : IsPart (Then HoldersPart (MarkPart CloseBrace)) Nothing
holders_tail = then_part holders_part a_mark (mark_after_list (λ e. absurd cc))

pub session_param_tail : IsPart (Then (MarkPart Colon) (Then NamePart (Then (MarkPart Dot) (Then NamePart (Then (MarkPart OpenBrace) (Then HoldersPart (MarkPart CloseBrace))))))) Nothing
session_param_tail = mark_then (name_then (mark_then (name_then (mark_then holders_tail))))

pub session_param_part : IsPart SessionParamPart Nothing
session_param_part = same_part (name_then session_param_tail) session_param_alike

pub session_param_item : IsItem (ItemPart SessionParamIs (Unlimited SessionParamIs)) Nothing AName
session_param_item = free_items SessionParamIs session_param_part (same_begins (then_begins name_begins) session_param_alike) (same_opens (then_opens name_opens (λ x. session_param_tail)) session_param_alike)

pub session_params_alike : Alike SessionParamsPart (Commas (Roomy (ItemPart SessionParamIs (Unlimited SessionParamIs))) 8) all_of
session_params_alike = list_alike SessionParamIs (Unlimited SessionParamIs) 8

pub session_params_part : IsPart SessionParamsPart (OrComma Nothing)
session_params_part = same_part (commas_part 8 (roomy_items session_param_item)) session_params_alike

abbrev pub SessionsNest : Part (Unit {0} × List SessionParam)
SessionsNest = Then (MarkPart Semicolon) SessionParamsPart

abbrev pub sessions_of : Option (Unit {0} × List SessionParam) → List SessionParam
sessions_of None = []
sessions_of (Some v) = v.1

sessions_to : {Q : Allowed} {names : List (List ℕ)} {ts : List Token} {ss : List SessionParam} {rest : List Token} (d : SessionsAre names ts ss rest) → KeepsSessions Q d → As (AtMost SessionsNest) sessions_of Q names ts ss rest
sessions_to g.no_sessions k = record { value = None; is = without; same = refl }
sessions_to (g.some_sessions {ss = ss} m h) k = record { value = Some (tt, ss); is = with (record { mid = _; first = m; second = (h, k) }); same = refl }

sessions_from : {Q : Allowed} {names : List (List ℕ)} {ts : List Token} {v : Option (Unit {0} × List SessionParam)} {rest : List Token} → AtMost SessionsNest Q names ts v rest → SessionsPart Q names ts (sessions_of v) rest
sessions_from without = (g.no_sessions, tt)
sessions_from (with h) = (g.some_sessions h.first h.second.0, h.second.1)

pub sessions_alike : Alike SessionsPart (AtMost SessionsNest) sessions_of
sessions_alike = record { to = λ h. sessions_to h.0 h.1; from = λ h. sessions_from h }

pub session_stable : IsStable OrSession
session_stable = or_stable (mark_stable Semicolon) (or_stable (mark_stable Comma) (mark_stable OpenParen))

pub list_among_sessions : Among (OrComma Nothing) OrSession
list_among_sessions names t (inl h) = inr (inl h)
list_among_sessions names t (inr h) = absurd h

pub sessions_begin : Begins SessionsNest (AMark Semicolon)
sessions_begin = then_begins (mark_begins Semicolon)

pub sessions_part : IsPart SessionsPart OrSession
sessions_part = same_part (option_part (mark_then session_params_part) sessions_begin list_among_sessions (or_left (AMark Semicolon) (OrComma (AMark OpenParen))) session_stable) sessions_alike

pub sessions_apart : Apart (OrComma (AMark OpenParen)) SessionsPart OrSession
sessions_apart = same_apart (option_apart sessions_begin (distinct_or (marks_differ Semicolon Comma (λ e. absurd cc)) (marks_differ Semicolon OpenParen (λ e. absurd cc))) (or_right (AMark Semicolon) (OrComma (AMark OpenParen)))) sessions_alike

-- ---- all parameters

abbrev pub SomeParams : Part (List ProcParam × List SessionParam)
SomeParams = Then ProcParamsPart SessionsPart

abbrev pub params_of : Option (List ProcParam × List SessionParam) → List ProcParam × List SessionParam
params_of None = ([], [])
params_of (Some v) = v

params_to : {Q : Allowed} {names : List (List ℕ)} {ts : List Token} {ps : List ProcParam} {ss : List SessionParam} {rest : List Token} (d : ParamsAre names ts ps ss rest) → KeepsParams Q d → As (AtMost SomeParams) params_of Q names ts (ps, ss) rest
params_to g.no_params k = record { value = None; is = without; same = refl }
params_to (g.some_params {ps = ps} {ss = ss} p s) k = record { value = Some (ps, ss); is = with (record { mid = _; first = (p, k.0); second = (s, k.1) }); same = refl }

params_from : {Q : Allowed} {names : List (List ℕ)} {ts : List Token} {v : Option (List ProcParam × List SessionParam)} {rest : List Token} → AtMost SomeParams Q names ts v rest → ParamsPart Q names ts (params_of v) rest
params_from without = (g.no_params, tt)
params_from (with h) = (g.some_params h.first.0 h.second.0, (h.first.1, h.second.1))

pub params_alike : Alike ParamsPart (AtMost SomeParams) params_of
params_alike = record { to = λ h. params_to h.0 h.1; from = λ h. params_from h }

pub some_params_part : IsPart SomeParams OrSession
some_params_part = then_part proc_params_part sessions_part sessions_apart

pub some_params_begin : Begins SomeParams AName
some_params_begin = then_begins proc_params_begins

pub params_part : IsPart ParamsPart OrParams
params_part = same_part (option_part some_params_part some_params_begin (or_right AName OrSession) (or_left AName OrSession) (or_stable name_stable session_stable)) params_alike
