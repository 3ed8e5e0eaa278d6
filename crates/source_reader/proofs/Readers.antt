-- What readers of choices, of optional parts and of items with limits come to.
use Rattle.std.proofs.Common.{◌≡◌, ◌-◌, inl, inr, ℕ, List, [], ◌∷◌, ◌++◌, length, ap, sym, ◌∙◌, subst, arith, codes, append_assoc, length-append}
use Rattle.std.proofs.Common.{Result, IfOk, IfErr, drop}
use Rattle.std.proofs.lemmas.List.{append-nil}
use Rattle.std.proofs.lemmas.Result.{IfOk-weaker, IfErr-weaker}
use Rattle.chor_base.specs.declared.value.Sort.{Sort}
use Rattle.chor_base.specs.declared.rule.Rule.TheVariants.{P1, P3}
use Rattle.chor_base.specs.declared.rule.Denied.{Denied}
use Rattle.chor_lexer.specs.declared.mark.Mark.TheVariants.{OpenBrace, OpenParen, CloseParen, Comma, Semicolon, Colon, Arrow, Bar}
use Rattle.chor_lexer.specs.declared.token.Token.{Token}
use Rattle.chor_tree.specs.declared.file.Named.{Named}
use Rattle.chor_tree.specs.declared.tree.Node.{Node}
use Rattle.chor_tree.specs.declared.tree.NodeId.{NodeId}
use Rattle.chor_tree.specs.Source.{Block, block_in, blocks_of}
use Rattle.source_reader.specs.declared.input.Input.{Input}
use Rattle.source_reader.specs.Reading.{names_of, tokens_from, Made}
use Rattle.chor_tree.specs.declared.protocol.State.{State}
use Rattle.chor_tree.specs.declared.protocol.ProtoStep.TheVariants as step
use Rattle.chor_tree.specs.declared.protocol.Payload.TheVariants as payload
use Rattle.source_grammar.specs.Symbols.{Part, Further, Nothing, Reads, Halts, Then, Head, HasRoom, IsFull, RefusesFirst, Times, Leads}
use Rattle.source_grammar.proofs.Wholes.{reads_by_end}
use Rattle.source_grammar.proofs.Sequels.{past, reads_past, leads, leads_on, leads_same}
use Rattle.source_grammar.proofs.Choices.{same_leads, same_reads, same_halts, option_leads, without_reads, first_leads, second_leads, first_reads}
use Rattle.source_grammar.proofs.Starts.{then_begins, wrong_halts, at_full, into_room}
use Rattle.source_grammar.proofs.Repetitions.{times_part, times_step, times_now, times_done}
use Rattle.source_grammar.specs.Grammar as g
use Rattle.source_grammar.specs.Grammar.{MarkIs, WordIs, NameIs, SortIs}
use Rattle.source_grammar.specs.Parts.{MarkPart, WordPart, NamePart, AMark, AWord, AName, AParen, OrComma, OrName, OrBar, OrSession, OrParams, ItemPart, Unlimited, NamesPart, AnyNamesPart, ServedPart, SortPart, PayloadPart, StepPart, StatePart, StatesPart, VarsPart, VariablesPart, SessionParamsPart, SessionsPart, ParamsPart}
use Rattle.source_grammar.proofs.Terminals.{mark_begins, mark_stable, mark_head, no_mark_head, word_begins, word_stable, word_head, word_reads, name_begins, name_stable, name_not_word, word_not_name, after_name, after_mark, at_once, end_keyword, or_left, or_right, nothing_among}
use Rattle.source_grammar.proofs.ItemLists.{IsItem, Roomy}
use Rattle.source_grammar.proofs.Protocols.{sort_part, sort_begins, sort_stable, sort_not_name, ASort, EndpointNest, payload_alike, step_alike, ChoiceNest, PassesNest, colon_not_brace, passes_of, served_alike, states_alike, states_repeated, after_state, state_part, state_begins, state_opens}
use Rattle.source_grammar.proofs.ShortParts.{free_item, names_begins, any_names_alike}
use Rattle.source_grammar.proofs.Heads.{variables_alike, paren_begins, sessions_alike, sessions_begin, list_among_sessions, SomeParams, params_alike, some_params_begin}

-- ---- items with limits

pub item_read : {A : Type 0} {R : Part A} {C F : Further} {names : List (List ℕ)} {ts : List Token} {n : ℕ} {x : A} {rest : List Token} → IsItem R C F → HasRoom F names ts n → Reads R C names ts x rest → Reads (Roomy R n) C names ts x rest
item_read i h r = reads_past (into_room i.begins i.stable h) r

pub item_halts_in : {A : Type 0} {R : Part A} {C F : Further} {names : List (List ℕ)} {ts : List Token} {n : ℕ} {d : Denied} → IsItem R C F → HasRoom F names ts n → Halts R C names ts d → Halts (Roomy R n) C names ts d
item_halts_in i h k = past (into_room i.begins i.stable h) k

pub item_full : {A : Type 0} {R : Part A} {C F : Further} {names : List (List ℕ)} {ts : List Token} {n : ℕ} {d : Denied} → IsItem R C F → IsFull F names ts n P3 d → Halts (Roomy R n) C names ts d
item_full i f = at_full i.part i.begins i.opens f

pub free_read : {A : Type 0} {Item : List (List ℕ) → List Token → A → List Token → Type 0} {C : Further} {names : List (List ℕ)} {ts : List Token} {x : A} {rest : List Token} → Reads (λ Q ns us y left. Item ns us y left) C names ts x rest → Reads (ItemPart Item (Unlimited Item)) C names ts x rest
free_read {Item = Item} r = same_reads (free_item Item) r

pub free_halts : {A : Type 0} {Item : List (List ℕ) → List Token → A → List Token → Type 0} {C : Further} {names : List (List ℕ)} {ts : List Token} {d : Denied} → Halts (λ Q ns us y left. Item ns us y left) C names ts d → Halts (ItemPart Item (Unlimited Item)) C names ts d
free_halts {Item = Item} h = same_halts (free_item Item) h

-- the first has the room of all
pub room_first : {F : Further} {names : List (List ℕ)} {ts : List Token} {n : ℕ} → HasRoom F names ts (n - 0) → HasRoom F names ts n
room_first {F} {names} {ts} {n} h = let e : n - 0 ≡ n = omega arith in subst (λ (k : ℕ). HasRoom F names ts k) e h

pub full_first : {F : Further} {names : List (List ℕ)} {ts : List Token} {n : ℕ} {d : Denied} → IsFull F names ts (n - 0) P3 d → IsFull F names ts n P3 d
full_first {F} {names} {ts} {n} {d} h = let e : n - 0 ≡ n = omega arith in subst (λ (k : ℕ). IsFull F names ts k P3 d) e h

-- as many as there are
pub room_for : {F : Further} {names : List (List ℕ)} {ts : List Token} {k m : ℕ} (n : ℕ) → k ≡ m → HasRoom F names ts (n - k) → HasRoom F names ts (n - m)
room_for {F} {names} {ts} n e h = subst (λ (j : ℕ). HasRoom F names ts (n - j)) e h

pub full_for : {F : Further} {names : List (List ℕ)} {ts : List Token} {k m : ℕ} {d : Denied} (n : ℕ) → k ≡ m → IsFull F names ts (n - k) P3 d → IsFull F names ts (n - m) P3 d
full_for {F} {names} {ts} {d = d} n e h = subst (λ (j : ℕ). IsFull F names ts (n - j) P3 d) e h

-- where a list has a limit above 0, its first item has room
pub room_above : {F : Further} {names : List (List ℕ)} {ts : List Token} (n : ℕ) → (n ≡ 0 → ⊥) → HasRoom F names ts n
room_above n h = record { room = λ e k. h e }

-- ---- lists of names or none

pub some_names_lead : {names : List (List ℕ)} {ts : List Token} (n : ℕ) → Head AName names ts → Leads (AnyNamesPart n) OrName names ts (NamesPart n) (OrComma Nothing) ts (λ ns. ns)
some_names_lead n h = leads_on (same_leads (any_names_alike n)) (option_leads (names_begins n) name_stable (or_right AName (OrComma Nothing)) (or_left AName (OrComma Nothing)) h)

pub no_names_read : {names : List (List ℕ)} {ts : List Token} (n : ℕ) → (Head AName names ts → ⊥) → Reads (AnyNamesPart n) OrName names ts [] ts
no_names_read n h = same_reads (any_names_alike n) (without_reads (names_begins n) name_stable h)

-- ---- sorts and payloads

pub sort_reads : {names : List (List ℕ)} {ts : List Token} {s : Sort} {rest : List Token} → SortIs names ts s rest → Reads SortPart Nothing names ts s rest
sort_reads h = reads_by_end sort_part h (λ t rest e n. n)

sort_there : {names : List (List ℕ)} {ts : List Token} → Head ASort names ts → (s : Sort) × (rest : List Token) × SortIs names ts s rest
sort_there {names} {ts} h = go h.is
  where
    go : ASort names h.token → (s : Sort) × (rest : List Token) × SortIs names ts s rest
    go (inl w) = (_, h.rest, g.int (record { token = h.token; parts = h.parts; is = w }))
    go (inr (inl w)) = (_, h.rest, g.bool (record { token = h.token; parts = h.parts; is = w }))
    go (inr (inr w)) = (_, h.rest, g.text (record { token = h.token; parts = h.parts; is = w }))

pub no_sort_head : {names : List (List ℕ)} {ts : List Token} → ((s : Sort) (rest : List Token) → SortIs names ts s rest → ⊥) → Head ASort names ts → ⊥
no_sort_head n h = let k = sort_there h in n k.0 k.1 k.2

pub sort_halts : {names : List (List ℕ)} {ts : List Token} {d : Denied} → ((s : Sort) (rest : List Token) → SortIs names ts s rest → ⊥) → RefusesFirst P1 ts d → Halts SortPart Nothing names ts d
sort_halts n f = wrong_halts sort_part sort_begins sort_stable (λ h. no_sort_head n h) f

pub plain_reads : {names : List (List ℕ)} {ts : List Token} {s : Sort} {rest : List Token} → SortIs names ts s rest → Reads PayloadPart Nothing names ts (payload.Plain s) rest
plain_reads h = same_reads payload_alike (first_reads (then_begins name_begins) sort_stable sort_not_name (sort_begins.by {Q = λ r p. ⊥} h) (sort_reads h))

pub endpoint_leads : {names : List (List ℕ)} {ts : List Token} → ((s : Sort) (rest : List Token) → SortIs names ts s rest → ⊥) → Leads PayloadPart Nothing names ts EndpointNest Nothing ts (λ v. payload.Endpoint v.0 v.1.1.0 v.1.1.1.1)
endpoint_leads n = leads_on (same_leads payload_alike) (second_leads sort_begins sort_stable (λ h. no_sort_head n h))

-- ---- steps

pub end_reads : {names : List (List ℕ)} {ts rest : List Token} → WordIs names (codes "end") ts rest → Reads StepPart Nothing names ts step.End rest
end_reads w = same_reads step_alike (first_reads (then_begins name_begins) (word_stable (codes "end")) (word_not_name end_keyword) (word_head w) (word_reads end_keyword w))

-- from a name on
pub passing : {names : List (List ℕ)} {ts : List Token} → (Head (AWord (codes "end")) names ts → ⊥) → Leads StepPart Nothing names ts (Then NamePart (Then (MarkPart Arrow) (Then NamePart PassesNest))) Nothing ts (λ v. passes_of v.0 v.1.1.0 v.1.1.1)
passing n = leads_on (same_leads step_alike) (second_leads (word_begins (codes "end")) (word_stable (codes "end")) n)

name_no_end : {names : List (List ℕ)} {ts rest : List Token} {n : Named} → NameIs names ts n rest → Head (AWord (codes "end")) names ts → ⊥
name_no_end {names} {ts} {rest} {n} h w = name_not_word end_keyword names h.token (n.name, h.is) (subst (λ (t : Token). AWord (codes "end") names t) (same (sym w.parts ∙ h.parts)) w.is)
  where
    same : {t u : Token} {us vs : List Token} → t ∷ us ≡ u ∷ vs → t ≡ u
    same e = cc

pub value_leads : {names : List (List ℕ)} {t0 t1 t2 t3 t4 : List Token} {a b : Named} → NameIs names t0 a t1 → MarkIs Arrow t1 t2 → NameIs names t2 b t3 → MarkIs Colon t3 t4 → Leads StepPart Nothing names t0 (Then PayloadPart (Then (WordPart (codes "then")) NamePart)) Nothing t4 (λ v. step.Value a b v.0 v.1.1)
value_leads h r k c = leads_on (passing (λ w. name_no_end h w)) (leads_on (after_name h) (leads_on (after_mark r) (leads_on (after_name k) (leads_on (first_leads (then_begins (mark_begins OpenBrace)) (mark_stable Colon) colon_not_brace (mark_head c)) (after_mark c)))))

pub choice_leads : {names : List (List ℕ)} {t0 t1 t2 t3 : List Token} {a b : Named} → NameIs names t0 a t1 → MarkIs Arrow t1 t2 → NameIs names t2 b t3 → ((t : List Token) → MarkIs Colon t3 t → ⊥) → Leads StepPart Nothing names t0 ChoiceNest Nothing t3 (λ v. step.Choice a b v.1.0)
choice_leads h r k n = leads_on (passing (λ w. name_no_end h w)) (leads_on (after_name h) (leads_on (after_mark r) (leads_on (after_name k) (second_leads (then_begins (mark_begins Colon)) (mark_stable Colon) (λ w. no_mark_head n w)))))

-- ---- what may be left out

pub served_leads : {names : List (List ℕ)} {ts rest : List Token} (n : ℕ) → MarkIs Bar ts rest → Leads (ServedPart n) OrBar names ts (NamesPart n) (OrComma Nothing) rest (λ ns. ns)
served_leads n b = leads_on (same_leads (served_alike n)) (leads_on (option_leads (then_begins (mark_begins Bar)) (mark_stable Bar) (or_right (AMark Bar) (OrComma Nothing)) (or_left (AMark Bar) (OrComma Nothing)) (mark_head b)) (after_mark b))

pub none_served_read : {names : List (List ℕ)} {ts : List Token} (n : ℕ) → ((t : List Token) → MarkIs Bar ts t → ⊥) → Reads (ServedPart n) OrBar names ts [] ts
none_served_read n h = same_reads (served_alike n) (without_reads (then_begins (mark_begins Bar)) (mark_stable Bar) (λ k. no_mark_head h k))

pub not_comma_close_paren : CloseParen ≡ Comma → ⊥
not_comma_close_paren e = absurd cc

pub paren_leads : {names : List (List ℕ)} {ts rest : List Token} → MarkIs OpenParen ts rest → Leads VariablesPart AParen names ts (Then VarsPart (MarkPart CloseParen)) Nothing rest (λ v. v.0)
paren_leads o = leads_on (same_leads variables_alike) (leads_on (option_leads paren_begins (mark_stable OpenParen) (nothing_among AParen) (λ names t h. h) (mark_head o)) (after_mark o))

pub no_variables_read : {names : List (List ℕ)} {ts : List Token} → ((t : List Token) → MarkIs OpenParen ts t → ⊥) → Reads VariablesPart AParen names ts [] ts
no_variables_read n = same_reads variables_alike (without_reads paren_begins (mark_stable OpenParen) (λ k. no_mark_head n k))

pub sessions_lead : {names : List (List ℕ)} {ts rest : List Token} → MarkIs Semicolon ts rest → Leads SessionsPart OrSession names ts SessionParamsPart (OrComma Nothing) rest (λ ss. ss)
sessions_lead m = leads_on (same_leads sessions_alike) (leads_on (option_leads sessions_begin (mark_stable Semicolon) list_among_sessions (or_left (AMark Semicolon) (OrComma AParen)) (mark_head m)) (after_mark m))

pub no_sessions_read : {names : List (List ℕ)} {ts : List Token} → ((t : List Token) → MarkIs Semicolon ts t → ⊥) → Reads SessionsPart OrSession names ts [] ts
no_sessions_read n = same_reads sessions_alike (without_reads sessions_begin (mark_stable Semicolon) (λ k. no_mark_head n k))

pub params_lead : {names : List (List ℕ)} {ts : List Token} → Head AName names ts → Leads ParamsPart OrParams names ts SomeParams OrSession ts (λ v. v)
params_lead h = leads_on (same_leads params_alike) (option_leads some_params_begin name_stable (or_right AName OrSession) (or_left AName OrSession) h)

pub no_params_read : {names : List (List ℕ)} {ts : List Token} → (Head AName names ts → ⊥) → Reads ParamsPart OrParams names ts ([], []) ts
no_params_read h = same_reads params_alike (without_reads some_params_begin name_stable h)

-- ---- states

-- some states have come, and n more have room
pub record StatesHaveCome (names : List (List ℕ)) (ts : List Token) (n : ℕ) (ss : List State) (rest : List Token) : Type 0 where
  pub leads : Leads StatesPart AName names ts (Times (Roomy StatePart) n) AName rest (λ more. ss ++ more)

pub first_state_comes : {names : List (List ℕ)} {ts mid : List Token} {s : State} (none ss : List State) → Reads StatePart Nothing names ts s mid → none ≡ [] → ss ≡ none ++ s ∷ [] → StatesHaveCome names ts (256 - length ss) ss mid
first_state_comes {names} {ts} {mid} {s} none ss r e f =
    let one : ss ≡ s ∷ [] = f ∙ ap (λ (l : List State). l ++ s ∷ []) e in
    let here : StatesHaveCome names ts 255 (s ∷ []) mid = record { leads = leads_on (same_leads states_alike) (leads state_part after_state r) } in
    subst (λ (l : List State). StatesHaveCome names ts (256 - length l) l mid) (sym one) here

pub first_state_halts : {names : List (List ℕ)} {ts : List Token} {d : Denied} → Halts StatePart Nothing names ts d → Halts StatesPart AName names ts d
first_state_halts h = same_halts states_alike (at_once (times_part states_repeated 255) h)

pub more_states_come : {names : List (List ℕ)} {ts t1 t2 : List Token} {s : State} (ss ys : List State) → StatesHaveCome names ts (256 - length ss) ss t1 → HasRoom AName names t1 (256 - length ss) → Reads StatePart Nothing names t1 s t2 → ys ≡ ss ++ s ∷ [] → StatesHaveCome names ts (256 - length ys) ys t2
more_states_come {names} {ts} {t1} {t2} {s} ss ys c h r e =
    let step = leads_on c.leads (times_step (256 - length ss) states_repeated (reads_past (into_room state_begins name_stable h) r)) in
    let here = leads_same step (λ zs. sym (append_assoc ss (s ∷ []) zs)) in
    let count : 256 - length ss - 1 ≡ 256 - length (ss ++ s ∷ []) = omega (arith, length-append ss (s ∷ [])) in
    let all : StatesHaveCome names ts (256 - length (ss ++ s ∷ [])) (ss ++ s ∷ []) t2 = subst (λ (k : ℕ). StatesHaveCome names ts k (ss ++ s ∷ []) t2) count (record { leads = here }) in
    subst (λ (l : List State). StatesHaveCome names ts (256 - length l) l t2) (sym e) all

-- the next state has no room, or stops
pub state_full : {names : List (List ℕ)} {ts t1 : List Token} {d : Denied} (n : ℕ) (ss : List State) → StatesHaveCome names ts n ss t1 → IsFull AName names t1 n P3 d → Halts StatesPart AName names ts d
state_full n ss c f = past c.leads (times_now n states_repeated f.begins (at_full state_part state_begins state_opens f))

pub state_stops : {names : List (List ℕ)} {ts t1 : List Token} {d : Denied} (n : ℕ) (ss : List State) → StatesHaveCome names ts n ss t1 → Head AName names t1 → HasRoom AName names t1 n → Halts StatePart Nothing names t1 d → Halts StatesPart AName names ts d
state_stops n ss c f h k = past c.leads (times_now n states_repeated f (past (into_room state_begins name_stable h) k))

pub states_read : {names : List (List ℕ)} {ts rest : List Token} (n : ℕ) (ss : List State) → StatesHaveCome names ts n ss rest → (Head AName names rest → ⊥) → Reads StatesPart AName names ts ss rest
states_read {names} {ts} {rest} n ss c h = subst (λ (l : List State). Reads StatesPart AName names ts l rest) (append-nil ss) (c.leads.reads [] rest (times_done n states_repeated h))

-- ---- what a reader hands on

pub hands_on : {A B : Type 0} {R : Part A} {S : Part B} {C D : Further} {names : List (List ℕ)} {ts mid : List Token} {f : B → A} (r : Result (B × ℕ) Denied) (tokens : List Token) → Leads R C names ts S D mid f → IfOk r (λ x. Reads S D names mid x.0 (drop x.1 tokens)) → IfOk r (λ x. Reads R C names ts (f x.0) (drop x.1 tokens))
hands_on {R = R} {S = S} {C = C} {D = D} {names = names} {ts = ts} {mid = mid} {f = f} r tokens l h =
    IfOk-weaker r (λ x. Reads S D names mid x.0 (drop x.1 tokens)) (λ x. Reads R C names ts (f x.0) (drop x.1 tokens)) (λ x k. l.reads x.0 (drop x.1 tokens) k) h

-- the same where the value that is answered stands for that of the part
pub hands_by : {A B X : Type 0} {R : Part A} {S : Part B} {C D : Further} {names : List (List ℕ)} {ts mid : List Token} {f : B → A} (value : X → B) (r : Result (X × ℕ) Denied) (tokens : List Token) → Leads R C names ts S D mid f → IfOk r (λ x. Reads S D names mid (value x.0) (drop x.1 tokens)) → IfOk r (λ x. Reads R C names ts (f (value x.0)) (drop x.1 tokens))
hands_by {R = R} {S = S} {C = C} {D = D} {names = names} {ts = ts} {mid = mid} {f = f} value r tokens l h =
    IfOk-weaker r (λ x. Reads S D names mid (value x.0) (drop x.1 tokens)) (λ x. Reads R C names ts (f (value x.0)) (drop x.1 tokens)) (λ x k. l.reads (value x.0) (drop x.1 tokens) k) h

pub hands_back : {A B X : Type 0} {R : Part A} {S : Part B} {C D : Further} {names : List (List ℕ)} {ts mid : List Token} {f : B → A} (r : Result X Denied) → Leads R C names ts S D mid f → IfErr r (λ d. Halts S D names mid d) → IfErr r (λ d. Halts R C names ts d)
hands_back {R = R} {S = S} {C = C} {D = D} {names = names} {ts = ts} {mid = mid} r l h =
    IfErr-weaker r (λ d. Halts S D names mid d) (λ d. Halts R C names ts d) (λ d k. l.halts d k) h

-- so of what was made
pub makes_on : {R S : Part Block} (input : Input) (ts mid : ℕ) (old new : List Node) (r : Result (NodeId × ℕ) Denied) → Leads R Nothing (names_of input) (tokens_from input ts) S Nothing (tokens_from input mid) (λ b. b) → IfOk r (Made S input mid old new) → IfOk r (Made R input ts old new)
makes_on {R} {S} input ts mid old new r l h =
    IfOk-weaker r (Made S input mid old new) (Made R input ts old new) (λ x m. record { reads = l.reads (block_in (blocks_of new) x.0) (tokens_from input x.1) m.reads; there = m.there; grows = m.grows; adds = m.adds }) h
