-- Lists of names, protocols and services as parts of the grammar.
use Rattle.std.proofs.Common.{◌≡◌, ◌-◌, ℕ, List, [], ◌∷◌, length, Option, Some, None, refl, codes}
use Rattle.chor_base.specs.declared.value.Sort.{Sort}
use Rattle.chor_base.specs.declared.value.Sort.TheVariants as sort
use Rattle.chor_lexer.specs.declared.mark.Mark.TheVariants.{OpenBrace, CloseBrace, OpenParen, CloseParen, Comma, Semicolon, Colon, Dot, Assign, Arrow, Bar, At}
use Rattle.chor_lexer.specs.declared.token.Token.{Token}
use Rattle.chor_tree.specs.declared.file.Named.{Named}
use Rattle.chor_tree.specs.declared.file.Service.{Service}
use Rattle.chor_tree.specs.Protocols.{Protocol}
use Rattle.chor_tree.specs.declared.protocol.State.{State}
use Rattle.chor_tree.specs.declared.protocol.ProtoStep.{ProtoStep}
use Rattle.chor_tree.specs.declared.protocol.ProtoStep.TheVariants as step
use Rattle.chor_tree.specs.declared.protocol.ProtoArm.{ProtoArm}
use Rattle.chor_tree.specs.declared.protocol.Payload.{Payload}
use Rattle.chor_tree.specs.declared.protocol.Payload.TheVariants as payload
use Rattle.source_grammar.specs.Symbols.{Allowed, Part, Further, Nothing, IsPart, ThenBy, Then, Apart, Choice, left, right, OneOf, the_first, the_second, AtMost, without, with, IsStable, AreDistinct, Begins, Opens, As, Alike, Repeats, done, again, Times, AreRepeated}
use Rattle.source_grammar.proofs.Sequels.{then_part, by_part}
use Rattle.source_grammar.proofs.Choices.{same_part, choice_part, choice_begins, option_part}
use Rattle.source_grammar.proofs.Starts.{then_begins, same_begins, then_opens, same_opens, within_part, within_begins, nothing_apart, begins_apart, option_apart, then_apart, same_apart}
use Rattle.source_grammar.proofs.Repetitions.{times_part}
use Rattle.source_grammar.specs.Grammar as g
use Rattle.source_grammar.specs.Grammar.{NameIs, PartIs, SortIs, PayloadIs, ArmIs, StepIs, StateIs, MoreStatesAre, StatesAre, ProtocolIs, AnyNamesAre, ServedAre, ServiceIs}
use Rattle.source_grammar.specs.Limits.{KeepsMoreStates, KeepsStep, KeepsState, KeepsStates, KeepsProtocol, KeepsServed, KeepsService}
use Rattle.source_grammar.specs.Parts.{MarkPart, WordPart, NamePart, AMark, AWord, AName, Or, OrComma, OrBar, ItemPart, Unlimited, NamesPart, SortPart, PayloadPart, ArmPart, ArmsPart, StepPart, StatePart, StatesPart, ProtocolPart, ServedPart, ServicePart}
use Rattle.source_grammar.proofs.Terminals.{mark_begins, mark_stable, word_part, word_begins, word_stable, name_part, name_begins, name_opens, name_stable, word_not_name, mark_not_name, marks_differ, words_differ, nothing_among, nothing_distinct, or_left, or_right, or_stable, or_distinct, distinct_or, then_keyword, int_keyword, bool_keyword, text_keyword, end_keyword, protocol_keyword, service_keyword}
use Rattle.source_grammar.proofs.ItemLists.{Commas, IsItem, Roomy, roomy_items, list_alike, commas_part, all_of}
use Rattle.source_grammar.proofs.ShortParts.{seq, and_then, mark_then, name_then, a_mark, mark_after_list, after_list, list_stable, free_items, names_part}

-- ---- protocols

abbrev pub SortNest : Part (Choice (Unit {0}) (Choice (Unit {0}) (Unit {0})))
SortNest = OneOf (WordPart (codes "int")) (OneOf (WordPart (codes "bool")) (WordPart (codes "text")))

abbrev pub sort_of : Choice (Unit {0}) (Choice (Unit {0}) (Unit {0})) → Sort
sort_of (left v) = sort.Int
sort_of (right (left v)) = sort.Bool
sort_of (right (right v)) = sort.Text

sort_to : {Q : Allowed} {names : List (List ℕ)} {ts : List Token} {s : Sort} {rest : List Token} → SortIs names ts s rest → As SortNest sort_of Q names ts s rest
sort_to (g.int w) = record { value = left tt; is = the_first w; same = refl }
sort_to (g.bool w) = record { value = right (left tt); is = the_second (the_first w); same = refl }
sort_to (g.text w) = record { value = right (right tt); is = the_second (the_second w); same = refl }

sort_from : {Q : Allowed} {names : List (List ℕ)} {ts : List Token} {v : Choice (Unit {0}) (Choice (Unit {0}) (Unit {0}))} {rest : List Token} → SortNest Q names ts v rest → SortIs names ts (sort_of v) rest
sort_from (the_first w) = g.int w
sort_from (the_second (the_first w)) = g.bool w
sort_from (the_second (the_second w)) = g.text w

pub sort_alike : Alike SortPart SortNest sort_of
sort_alike = record { to = λ h. sort_to h; from = λ h. sort_from h }

-- a word that is a sort
abbrev pub ASort : Further
ASort = Or (AWord (codes "int")) (Or (AWord (codes "bool")) (AWord (codes "text")))

pub sort_stable : IsStable ASort
sort_stable = or_stable (word_stable (codes "int")) (or_stable (word_stable (codes "bool")) (word_stable (codes "text")))

two_sorts : IsPart (OneOf (WordPart (codes "bool")) (WordPart (codes "text"))) Nothing
two_sorts = choice_part (word_part bool_keyword) (word_part text_keyword) (word_begins (codes "bool")) (word_begins (codes "text")) (words_differ (codes "bool") (codes "text") refl refl)

pub two_begin : Begins (OneOf (WordPart (codes "bool")) (WordPart (codes "text"))) (Or (AWord (codes "bool")) (AWord (codes "text")))
two_begin = choice_begins (word_begins (codes "bool")) (word_begins (codes "text"))

pub sort_part : IsPart SortPart Nothing
sort_part = same_part (choice_part (word_part int_keyword) two_sorts (word_begins (codes "int")) two_begin (distinct_or (words_differ (codes "int") (codes "bool") refl refl) (words_differ (codes "int") (codes "text") refl refl))) sort_alike

pub sort_begins : Begins SortPart ASort
sort_begins = same_begins (choice_begins (word_begins (codes "int")) two_begin) sort_alike

pub sort_not_name : AreDistinct ASort AName
sort_not_name = or_distinct (word_not_name int_keyword) (or_distinct (word_not_name bool_keyword) (word_not_name text_keyword))

abbrev pub EndpointNest : Part (Named × (Unit {0} × (Named × (Unit {0} × Named))))
EndpointNest = Then NamePart (Then (MarkPart Dot) (Then NamePart (Then (MarkPart At) NamePart)))

abbrev pub PayloadNest : Part (Choice Sort (Named × (Unit {0} × (Named × (Unit {0} × Named)))))
PayloadNest = OneOf SortPart EndpointNest

abbrev pub payload_of : Choice Sort (Named × (Unit {0} × (Named × (Unit {0} × Named)))) → Payload
payload_of (left s) = payload.Plain s
payload_of (right v) = payload.Endpoint v.0 v.1.1.0 v.1.1.1.1

payload_to : {Q : Allowed} {names : List (List ℕ)} {ts : List Token} {p : Payload} {rest : List Token} → PayloadIs names ts p rest → As PayloadNest payload_of Q names ts p rest
payload_to (g.plain {s = s} h) = record { value = left s; is = the_first h; same = refl }
payload_to (g.endpoint {p = p} {s = s} {r = r} n d m a k) = record { value = right (p, (tt, (s, (tt, r)))); is = the_second (seq _ n (seq _ d (seq _ m (seq _ a k)))); same = refl }

payload_from : {Q : Allowed} {names : List (List ℕ)} {ts : List Token} {v : Choice Sort (Named × (Unit {0} × (Named × (Unit {0} × Named))))} {rest : List Token} → PayloadNest Q names ts v rest → PayloadIs names ts (payload_of v) rest
payload_from (the_first h) = g.plain h
payload_from (the_second h) = g.endpoint h.first h.second.first h.second.second.first h.second.second.second.first h.second.second.second.second

pub payload_alike : Alike PayloadPart PayloadNest payload_of
payload_alike = record { to = λ h. payload_to h; from = λ h. payload_from h }

pub endpoint_part : IsPart EndpointNest Nothing
endpoint_part = name_then (mark_then (name_then (mark_then name_part)))

pub payload_part : IsPart PayloadPart Nothing
payload_part = same_part (choice_part sort_part endpoint_part sort_begins (then_begins name_begins) sort_not_name) payload_alike

abbrev pub ArmNest : Part (Named × (Unit {0} × Named))
ArmNest = Then NamePart (Then (WordPart (codes "then")) NamePart)

abbrev pub arm_of : Named × (Unit {0} × Named) → ProtoArm
arm_of v = record { label = v.0; next = v.1.1 }

arm_to : {Q : Allowed} {names : List (List ℕ)} {ts : List Token} {a : ProtoArm} {rest : List Token} → ArmIs names ts a rest → As ArmNest arm_of Q names ts a rest
arm_to (g.an_arm {l = l} {n = n} h w k) = record { value = (l, (tt, n)); is = seq _ h (seq _ w k); same = refl }

pub arm_alike : Alike ArmPart ArmNest arm_of
arm_alike = record { to = λ h. arm_to h; from = λ h. g.an_arm h.first h.second.first h.second.second }

pub then_name : IsPart (Then (WordPart (codes "then")) NamePart) Nothing
then_name = and_then (word_part then_keyword) name_part

pub arm_part : IsPart ArmPart Nothing
arm_part = same_part (name_then then_name) arm_alike

pub arm_item : IsItem (ItemPart ArmIs (Unlimited ArmIs)) Nothing AName
arm_item = free_items ArmIs arm_part (same_begins (then_begins name_begins) arm_alike) (same_opens (then_opens name_opens (λ x. then_name)) arm_alike)

pub arms_alike : (n : ℕ) → Alike (ArmsPart n) (Commas (Roomy (ItemPart ArmIs (Unlimited ArmIs))) n) all_of
arms_alike n = list_alike ArmIs (Unlimited ArmIs) n

pub arms_part : (n : ℕ) → IsPart (ArmsPart n) (OrComma Nothing)
arms_part n = same_part (commas_part n (roomy_items arm_item)) (arms_alike n)

-- what follows NAME "->" NAME
abbrev pub ValueNest : Part (Unit {0} × (Payload × (Unit {0} × Named)))
ValueNest = Then (MarkPart Colon) (Then PayloadPart (Then (WordPart (codes "then")) NamePart))

abbrev pub ChoiceNest : Part (Unit {0} × (List ProtoArm × Unit {0}))
ChoiceNest = Then (MarkPart OpenBrace) (Then (ArmsPart 64) (MarkPart CloseBrace))

abbrev pub Passes : Type 0
Passes = Choice (Unit {0} × (Payload × (Unit {0} × Named))) (Unit {0} × (List ProtoArm × Unit {0}))

abbrev pub PassesNest : Part Passes
PassesNest = OneOf ValueNest ChoiceNest

abbrev pub StepNest : Part (Choice (Unit {0}) (Named × (Unit {0} × (Named × Passes))))
StepNest = OneOf (WordPart (codes "end")) (Then NamePart (Then (MarkPart Arrow) (Then NamePart PassesNest)))

abbrev pub passes_of : Named → Named → Passes → ProtoStep
passes_of a b (left v) = step.Value a b v.1.0 v.1.1.1
passes_of a b (right v) = step.Choice a b v.1.0

abbrev pub step_of : Choice (Unit {0}) (Named × (Unit {0} × (Named × Passes))) → ProtoStep
step_of (left v) = step.End
step_of (right v) = passes_of v.0 v.1.1.0 v.1.1.1

step_to : {Q : Allowed} {names : List (List ℕ)} {ts : List Token} {s : ProtoStep} {rest : List Token} (d : StepIs names ts s rest) → KeepsStep Q d → As StepNest step_of Q names ts s rest
step_to (g.end_step w) k = record { value = left tt; is = the_first w; same = refl }
step_to (g.value_step {a = a} {b = b} {n = n} {p = p} h r i c q w m) k = record { value = right (a, (tt, (b, left (tt, (p, (tt, n)))))); is = the_second (seq _ h (seq _ r (seq _ i (the_first (seq _ c (seq _ q (seq _ w m))))))); same = refl }
step_to (g.choice_step {a = a} {b = b} {arms = arms} h r i o l c) k = record { value = right (a, (tt, (b, right (tt, (arms, tt))))); is = the_second (seq _ h (seq _ r (seq _ i (the_second (record { mid = _; first = o; second = record { mid = _; first = (l, k); second = c } }))))); same = refl }

passes_from : {Q : Allowed} {names : List (List ℕ)} {t0 t1 t2 t3 : List Token} {a b : Named} {v : Passes} {rest : List Token} → NameIs names t0 a t1 → g.MarkIs Arrow t1 t2 → NameIs names t2 b t3 → PassesNest Q names t3 v rest → StepPart Q names t0 (passes_of a b v) rest
passes_from h r i (the_first m) = (g.value_step h r i m.first m.second.first m.second.second.first m.second.second.second, tt)
passes_from h r i (the_second m) = (g.choice_step h r i m.first m.second.first.0 m.second.second, m.second.first.1)

step_from : {Q : Allowed} {names : List (List ℕ)} {ts : List Token} {v : Choice (Unit {0}) (Named × (Unit {0} × (Named × Passes)))} {rest : List Token} → StepNest Q names ts v rest → StepPart Q names ts (step_of v) rest
step_from (the_first w) = (g.end_step w, tt)
step_from (the_second h) = passes_from h.first h.second.first h.second.second.first h.second.second.second

pub step_alike : Alike StepPart StepNest step_of
step_alike = record { to = λ h. step_to h.0 h.1; from = λ h. step_from h }

pub not_comma_close_brace : CloseBrace ≡ Comma → ⊥
not_comma_close_brace e = absurd cc

pub choice_tail : IsPart (Then (ArmsPart 64) (MarkPart CloseBrace)) Nothing
choice_tail = then_part (arms_part 64) a_mark (mark_after_list not_comma_close_brace)

pub value_tail : IsPart (Then PayloadPart (Then (WordPart (codes "then")) NamePart)) Nothing
value_tail = and_then payload_part then_name

pub colon_not_brace : AreDistinct (AMark Colon) (AMark OpenBrace)
colon_not_brace = marks_differ Colon OpenBrace (λ e. absurd cc)

pub passes_part : IsPart PassesNest Nothing
passes_part = choice_part (mark_then value_tail) (mark_then choice_tail) (then_begins (mark_begins Colon)) (then_begins (mark_begins OpenBrace)) colon_not_brace

pub passing_part : IsPart (Then NamePart (Then (MarkPart Arrow) (Then NamePart PassesNest))) Nothing
passing_part = name_then (mark_then (name_then passes_part))

pub step_part : IsPart StepPart Nothing
step_part = same_part (choice_part (word_part end_keyword) passing_part (word_begins (codes "end")) (then_begins name_begins) (word_not_name end_keyword)) step_alike

abbrev pub StateNest : Part (Named × (Unit {0} × (ProtoStep × Unit {0})))
StateNest = Then NamePart (Then (MarkPart Assign) (Then StepPart (MarkPart Semicolon)))

abbrev pub state_of : Named × (Unit {0} × (ProtoStep × Unit {0})) → State
state_of v = record { name = v.0; step = v.1.1.0 }

state_to : {Q : Allowed} {names : List (List ℕ)} {ts : List Token} {s : State} {rest : List Token} (d : StateIs names ts s rest) → KeepsState Q d → As StateNest state_of Q names ts s rest
state_to (g.a_state {n = n} {s = s} h e m c) k = record { value = (n, (tt, (s, tt))); is = seq _ h (seq _ e (record { mid = _; first = (m, k); second = c })); same = refl }

pub state_alike : Alike StatePart StateNest state_of
state_alike = record { to = λ h. state_to h.0 h.1; from = λ h. (g.a_state h.first h.second.first h.second.second.first.0 h.second.second.second, h.second.second.first.1) }

pub state_tail : IsPart (Then (MarkPart Assign) (Then StepPart (MarkPart Semicolon))) Nothing
state_tail = mark_then (and_then step_part a_mark)

pub state_part : IsPart StatePart Nothing
state_part = same_part (name_then state_tail) state_alike

pub state_begins : Begins StatePart AName
state_begins = same_begins (then_begins name_begins) state_alike

pub state_opens : Opens StatePart AName
state_opens = same_opens (then_opens name_opens (λ x. state_tail)) state_alike

pub states_repeated : AreRepeated (Roomy StatePart) Nothing AName AName
states_repeated = record {
  part = λ n. within_part state_part state_begins;
  begins = λ n. within_begins state_begins;
  distinct = nothing_distinct AName;
  items = nothing_among AName;
  starts = λ names t h. h;
  start_stable = name_stable;
  end_stable = name_stable;
}

abbrev pub StatesNest : Part (State × List State)
StatesNest = Then StatePart (Times (Roomy StatePart) 255)

abbrev pub states_of : State × List State → List State
states_of v = v.0 ∷ v.1

more_states_to : {Q : Allowed} {names : List (List ℕ)} {ts : List Token} {ss : List State} {rest : List Token} (n : ℕ) (d : MoreStatesAre names ts ss rest) → KeepsMoreStates Q n d → Repeats (Roomy StatePart) Q names n ts ss rest
more_states_to n g.no_state k = done
more_states_to n (g.one_state s m) k = again (record { room = k.0; is = (s, k.1) }) (more_states_to (n - 1) m k.2)

abbrev MoreStatesPart : ℕ → Part (List State)
MoreStatesPart n Q names ts ss rest = (d : MoreStatesAre names ts ss rest) × KeepsMoreStates Q n d

more_states_from : {Q : Allowed} {names : List (List ℕ)} {n : ℕ} {ts : List Token} {ss : List State} {rest : List Token} → Repeats (Roomy StatePart) Q names n ts ss rest → MoreStatesPart n Q names ts ss rest
more_states_from done = (g.no_state, tt)
more_states_from (again h m) = let r = more_states_from m in (g.one_state h.is.0 r.0, (h.room, h.is.1, r.1))

states_to : {Q : Allowed} {names : List (List ℕ)} {ts : List Token} {ss : List State} {rest : List Token} (d : StatesAre names ts ss rest) → KeepsStates Q d → As StatesNest states_of Q names ts ss rest
states_to (g.some_states {s = s} {ss = ss} h m) k = record { value = (s, ss); is = record { mid = _; first = (h, k.0); second = more_states_to 255 m k.1 }; same = refl }

states_from : {Q : Allowed} {names : List (List ℕ)} {ts : List Token} {v : State × List State} {rest : List Token} → StatesNest Q names ts v rest → StatesPart Q names ts (states_of v) rest
states_from h = let r = more_states_from h.second in (g.some_states h.first.0 r.0, (h.first.1, r.1))

pub states_alike : Alike StatesPart StatesNest states_of
states_alike = record { to = λ h. states_to h.0 h.1; from = λ h. states_from h }

pub after_state : {n : ℕ} → Apart Nothing (Times (Roomy StatePart) n) AName
after_state = nothing_apart

pub states_part : IsPart StatesPart AName
states_part = same_part (then_part state_part (times_part states_repeated 255) after_state) states_alike

-- after its keyword
abbrev pub ProtocolTail : Part (Named × (Unit {0} × (List Named × (Unit {0} × (Unit {0} × (List State × Unit {0}))))))
ProtocolTail = Then NamePart (Then (MarkPart OpenParen) (Then (NamesPart 16) (Then (MarkPart CloseParen) (Then (MarkPart OpenBrace) (Then StatesPart (MarkPart CloseBrace))))))

abbrev pub ProtocolNest : Part (Unit {0} × (Named × (Unit {0} × (List Named × (Unit {0} × (Unit {0} × (List State × Unit {0})))))))
ProtocolNest = Then (WordPart (codes "protocol")) ProtocolTail

abbrev pub protocol_of : Unit {0} × (Named × (Unit {0} × (List Named × (Unit {0} × (Unit {0} × (List State × Unit {0})))))) → Protocol
protocol_of v = record { name = v.1.0; roles = v.1.1.1.0; states = v.1.1.1.1.1.1.0 }

protocol_to : {Q : Allowed} {names : List (List ℕ)} {ts : List Token} {p : Protocol} {rest : List Token} (d : ProtocolIs names ts p rest) → KeepsProtocol Q d → As ProtocolNest protocol_of Q names ts p rest
protocol_to (g.a_protocol {n = n} {roles = roles} {states = states} w h o r c b s e) k = record {
  value = (tt, (n, (tt, (roles, (tt, (tt, (states, tt)))))));
  is = seq _ w (seq _ h (seq _ o (record { mid = _; first = (r, k.0); second = seq _ c (seq _ b (record { mid = _; first = (s, k.1); second = e })) })));
  same = refl;
}

protocol_from : {Q : Allowed} {names : List (List ℕ)} {ts : List Token} {v : Unit {0} × (Named × (Unit {0} × (List Named × (Unit {0} × (Unit {0} × (List State × Unit {0}))))))} {rest : List Token} → ProtocolNest Q names ts v rest → ProtocolPart Q names ts (protocol_of v) rest
protocol_from h =
    let t = h.second.second.second in
    let u = t.second.second.second in
    (g.a_protocol h.first h.second.first h.second.second.first t.first.0 t.second.first t.second.second.first u.first.0 u.second, (t.first.1, u.first.1))

pub protocol_alike : Alike ProtocolPart ProtocolNest protocol_of
protocol_alike = record { to = λ h. protocol_to h.0 h.1; from = λ h. protocol_from h }

-- "}" after states, and what comes before it
pub end_of_states : Apart AName (MarkPart CloseBrace) Nothing
end_of_states = begins_apart (mark_begins CloseBrace) (mark_not_name CloseBrace)

pub states_tail : IsPart (Then StatesPart (MarkPart CloseBrace)) Nothing
states_tail = then_part states_part a_mark end_of_states

pub roles_end : {B : Type 0} {S : Part B} {D : Further} → Apart (OrComma Nothing) (Then (MarkPart CloseParen) S) D
roles_end = after_list (λ e. absurd cc)

pub roles_tail : IsPart (Then (NamesPart 16) (Then (MarkPart CloseParen) (Then (MarkPart OpenBrace) (Then StatesPart (MarkPart CloseBrace))))) Nothing
roles_tail = then_part (names_part 16) (mark_then (mark_then states_tail)) roles_end

pub protocol_tail : IsPart ProtocolTail Nothing
protocol_tail = name_then (mark_then roles_tail)

pub protocol_part : IsPart ProtocolPart Nothing
protocol_part = same_part (and_then (word_part protocol_keyword) protocol_tail) protocol_alike

-- ---- services

abbrev pub ServedNest : ℕ → Part (Option (Unit {0} × List Named))
ServedNest n = AtMost (Then (MarkPart Bar) (NamesPart n))

abbrev pub served_of : Option (Unit {0} × List Named) → List Named
served_of None = []
served_of (Some v) = v.1

served_to : {Q : Allowed} {names : List (List ℕ)} {ts : List Token} {ns : List Named} {rest : List Token} (n : ℕ) (d : ServedAre names ts ns rest) → KeepsServed Q n d → As (ServedNest n) served_of Q names ts ns rest
served_to n g.none_served k = record { value = None; is = without; same = refl }
served_to n (g.some_served {ns = ns} b h) k = record { value = Some (tt, ns); is = with (record { mid = _; first = b; second = (h, k) }); same = refl }

served_from : {Q : Allowed} {names : List (List ℕ)} {ts : List Token} {v : Option (Unit {0} × List Named)} {rest : List Token} (n : ℕ) → ServedNest n Q names ts v rest → ServedPart n Q names ts (served_of v) rest
served_from n without = (g.none_served, tt)
served_from n (with h) = (g.some_served h.first h.second.0, h.second.1)

pub served_alike : (n : ℕ) → Alike (ServedPart n) (ServedNest n) served_of
served_alike n = record { to = λ h. served_to n h.0 h.1; from = λ h. served_from n h }

pub served_part : (n : ℕ) → IsPart (ServedPart n) OrBar
served_part n = same_part (option_part (mark_then (names_part n)) (then_begins (mark_begins Bar)) (or_right (AMark Bar) (OrComma Nothing)) (or_left (AMark Bar) (OrComma Nothing)) (or_stable (mark_stable Bar) list_stable)) (served_alike n)

pub served_apart : (n : ℕ) → Apart (OrComma Nothing) (ServedPart n) OrBar
served_apart n = same_apart (option_apart (then_begins (mark_begins Bar)) (distinct_or (marks_differ Bar Comma (λ e. absurd cc)) (nothing_distinct (AMark Bar))) (or_right (AMark Bar) (OrComma Nothing))) (served_alike n)

pub end_of_served : Apart OrBar (Then (MarkPart CloseParen) (MarkPart Semicolon)) Nothing
end_of_served = begins_apart (then_begins (mark_begins CloseParen)) (distinct_or (marks_differ CloseParen Bar (λ e. absurd cc)) (distinct_or (marks_differ CloseParen Comma (λ e. absurd cc)) (nothing_distinct (AMark CloseParen))))

abbrev pub ServedTail : ℕ → Part (List Named × (Unit {0} × Unit {0}))
ServedTail n = Then (ServedPart n) (Then (MarkPart CloseParen) (MarkPart Semicolon))

abbrev pub RolesTail : Part (List Named × (List Named × (Unit {0} × Unit {0})))
RolesTail = ThenBy (NamesPart 16) (λ active. ServedTail (16 - length active))

abbrev pub ServiceNest : Part (Unit {0} × (Named × (Unit {0} × (Named × (Unit {0} × (List Named × (List Named × (Unit {0} × Unit {0}))))))))
ServiceNest = Then (WordPart (codes "service")) (Then NamePart (Then (MarkPart Colon) (Then NamePart (Then (MarkPart OpenParen) RolesTail))))

abbrev pub service_of : Unit {0} × (Named × (Unit {0} × (Named × (Unit {0} × (List Named × (List Named × (Unit {0} × Unit {0}))))))) → Service
service_of v = record { name = v.1.0; protocol = v.1.1.1.0; active = v.1.1.1.1.1.0; serve = v.1.1.1.1.1.1.0 }

service_to : {Q : Allowed} {names : List (List ℕ)} {ts : List Token} {s : Service} {rest : List Token} (d : ServiceIs names ts s rest) → KeepsService Q d → As ServiceNest service_of Q names ts s rest
service_to (g.a_service {n = n} {p = p} {active = active} {serve = serve} w h c i o a v e m) k = record {
  value = (tt, (n, (tt, (p, (tt, (active, (serve, (tt, tt))))))));
  is = seq _ w (seq _ h (seq _ c (seq _ i (seq _ o (record { mid = _; first = (a, k.0); second = record { mid = _; first = (v, k.1); second = seq _ e m } })))));
  same = refl;
}

service_from : {Q : Allowed} {names : List (List ℕ)} {ts : List Token} {v : Unit {0} × (Named × (Unit {0} × (Named × (Unit {0} × (List Named × (List Named × (Unit {0} × Unit {0})))))))} {rest : List Token} → ServiceNest Q names ts v rest → ServicePart Q names ts (service_of v) rest
service_from h =
    let t = h.second.second.second.second in
    (g.a_service h.first h.second.first h.second.second.first h.second.second.second.first t.first t.second.first.0 t.second.second.first.0 t.second.second.second.first t.second.second.second.second, (t.second.first.1, t.second.second.first.1))

pub service_alike : Alike ServicePart ServiceNest service_of
service_alike = record { to = λ h. service_to h.0 h.1; from = λ h. service_from h }

pub served_tail : (n : ℕ) → IsPart (ServedTail n) Nothing
served_tail n = then_part (served_part n) (mark_then a_mark) end_of_served

pub after_active : (n : ℕ) → Apart (OrComma Nothing) (ServedTail n) Nothing
after_active n = then_apart (served_apart n) (λ x. end_of_served)

pub active_tail : IsPart RolesTail Nothing
active_tail = by_part (names_part 16) (λ active. served_tail (16 - length active)) (λ active. after_active (16 - length active)) []

pub service_tail : IsPart (Then NamePart (Then (MarkPart Colon) (Then NamePart (Then (MarkPart OpenParen) RolesTail)))) Nothing
service_tail = name_then (mark_then (name_then (mark_then active_tail)))

pub service_part : IsPart ServicePart Nothing
service_part = same_part (and_then (word_part service_keyword) service_tail) service_alike
