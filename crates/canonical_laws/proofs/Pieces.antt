-- Tokens that spell lists, protocols, services and parameters derive them, but for places.
use Rattle.std.proofs.Common.{◌≡◌, ◌-◌, ℕ, List, [], ◌∷◌, length, map, refl, sym, ap, ◌∙◌, subst, arith}
use Rattle.std.proofs.lemmas.List.{length-map}
use Rattle.chor_base.specs.declared.rule.Rule.TheVariants.{P3}
use Rattle.chor_base.specs.declared.value.Sort.{Sort}
use Rattle.chor_base.specs.declared.value.Sort.TheVariants as sort
use Rattle.chor_base.specs.Words.{AllDistinct}
use Rattle.chor_lexer.specs.declared.mark.Mark.TheVariants.{Semicolon, Bar}
use Rattle.chor_lexer.specs.declared.token.Token.{Token}
use Rattle.chor_lexer.specs.Lexeme.{Symbol, mark}
use Rattle.source_grammar.specs.Symbols.{nowhere}
use Rattle.chor_tree.specs.declared.file.Named.{Named}
use Rattle.chor_tree.specs.declared.file.Service.{Service}
use Rattle.chor_tree.specs.declared.file.ProcParam.{ProcParam}
use Rattle.chor_tree.specs.declared.file.SessionParam.{SessionParam}
use Rattle.chor_tree.specs.Protocols.{Protocol}
use Rattle.chor_tree.specs.declared.protocol.State.{State}
use Rattle.chor_tree.specs.declared.protocol.ProtoStep.{ProtoStep}
use Rattle.chor_tree.specs.declared.protocol.ProtoStep.TheVariants as step
use Rattle.chor_tree.specs.declared.protocol.ProtoArm.{ProtoArm}
use Rattle.chor_tree.specs.declared.protocol.Payload.{Payload}
use Rattle.chor_tree.specs.declared.protocol.Payload.TheVariants as payload
use Rattle.chor_tree.specs.declared.tree.Part.{Part}
use Rattle.source_grammar.specs.Grammar.{NameIs, MoreAre, no_more, one_more, ListIs, a_list, NamesAre, AnyNamesAre, no_names, some_names, PartIs, a_part, SortIs, int, bool, text, PayloadIs, plain, endpoint, ArmIs, an_arm, StepIs, end_step, value_step, choice_step, StateIs, a_state, MoreStatesAre, no_state, one_state, StatesAre, some_states, ProtocolIs, a_protocol, ServedAre, none_served, some_served, ServiceIs, a_service, VariableIs, a_variable, VariablesAre, no_variables, some_variables, ProcParamIs, a_param, HolderIs, a_holder, SessionParamIs, a_session, SessionsAre, no_sessions, some_sessions, ParamsAre, no_params, some_params}
use Rattle.source_grammar.specs.Limits.{KeepsMore, KeepsList, KeepsNames, KeepsAnyNames, KeepsStep, KeepsState, KeepsMoreStates, KeepsStates, KeepsProtocol, KeepsServed, KeepsService, KeepsVariables, KeepsParam, KeepsSessions, KeepsParams}
use Rattle.source_grammar.specs.Parts.{NamesPart, AnyNamesPart, StepPart, StatePart, StatesPart, ProtocolPart, ServedPart, ServicePart, VariablesPart, ProcParamPart, SessionsPart, ParamsPart}
use Rattle.canonical_laws.specs.Places.{bare_name, bare_part, bare_payload, bare_arm, bare_step, bare_state, bare_protocol, bare_service, bare_variable, bare_process_param, bare_holder, bare_session_param}
use Rattle.canonical_laws.specs.Symbols.{name_symbols, each, after_commas, listed, listed_after, part_symbols, sort_symbols, payload_symbols, arm_symbols, step_symbols, state_symbols, protocol_symbols, service_symbols, variable_symbols, variables_symbols, process_param_symbols, holder_symbols, session_param_symbols}
use Rattle.canonical_laws.proofs.Tokens.{Spelled, Reads, Stands, room_kept, mark_reads, word_reads, name_begins, name_reads}

-- an item that is derived begins with a token, and is read by its symbols, within the limits that K asks of it
pub record ItemReads (names texts : List (List ℕ)) {A : Type 0} (Item : List Token → A → List Token → Type 0) (K : (us : List Token) (x : A) (vs : List Token) → Item us x vs → Type 0) (symbols : A → List Symbol → List Symbol) (bare : A → A) : Type 0 where
  pub begins : (us vs : List Token) (x : A) → Item us x vs → Stands us
  pub reads : (us vs : List Token) (x : A) (d : Item us x vs) → K us x vs d → (ts : List Token) (more : List Symbol)
      → Spelled names texts ts (symbols x more) → Reads names texts (λ us y vs. (i : Item us y vs) × K us y vs i) bare x ts more

-- no limits
abbrev pub Unlimited : {A : Type 0} (Item : List Token → A → List Token → Type 0) (us : List Token) (x : A) (vs : List Token) → Item us x vs → Type 0
Unlimited Item us x vs i = Unit {0}

-- there is room for as many items as there are
more_room : {A : Type 0} {Item : List Token → A → List Token → Type 0} (n : ℕ) (xs : List A) {us vs : List Token} (d : MoreAre Item us xs vs) → n ≡ length xs → KeepsMore nowhere (Unlimited Item) n d
more_room n ys no_more e = tt
more_room n ys (one_more {xs = xs} m d r) e = (λ z. absurd (omega (arith, e, z)), tt, more_room (n - 1) xs r (omega (arith, e)))

list_room : {A : Type 0} {Item : List Token → A → List Token → Type 0} (n : ℕ) (xs : List A) {us vs : List Token} (d : ListIs Item us xs vs) → n ≡ length xs → KeepsList nowhere (Unlimited Item) n d
list_room n ys (a_list {xs = xs} d r) e = (λ z. absurd (omega (arith, e, z)), tt, more_room (n - 1) xs r (omega (arith, e)))

-- what begins with a name
module _ {names : List (List ℕ)} where
  part_begins : {p : Part} {us vs : List Token} → PartIs names us p vs → Stands us
  part_begins (a_part d1 d2 d3 d4) = name_begins d1

  arm_begins : {m : ProtoArm} {us vs : List Token} → ArmIs names us m vs → Stands us
  arm_begins (an_arm d1 d2 d3) = name_begins d1

  state_begins : {s : State} {us vs : List Token} → StateIs names us s vs → Stands us
  state_begins (a_state d1 d2 d3 d4) = name_begins d1

  variable_begins : {v : Named × Sort} {us vs : List Token} → VariableIs names us v vs → Stands us
  variable_begins (a_variable d1 d2 d3) = name_begins d1

  process_param_begins : {p : ProcParam} {us vs : List Token} → ProcParamIs names us p vs → Stands us
  process_param_begins (a_param d1 d2) = name_begins d1

  holder_begins : {x : Named × Named} {us vs : List Token} → HolderIs names us x vs → Stands us
  holder_begins (a_holder d1 d2 d3) = name_begins d1

  session_param_begins : {x : SessionParam} {us vs : List Token} → SessionParamIs names us x vs → Stands us
  session_param_begins (a_session d1 d2 d3 d4 d5 d6 d7 d8) = name_begins d1

module _ {names texts : List (List ℕ)} where
  -- ---- lists

  more_within : {A : Type 0} {Item : List Token → A → List Token → Type 0} {K : (us : List Token) (x : A) (vs : List Token) → Item us x vs → Type 0} {symbols : A → List Symbol → List Symbol} {bare : A → A}
      → ItemReads names texts Item K symbols bare → (n : ℕ) (xs : List A) {us vs : List Token} (d : MoreAre Item us xs vs) → KeepsMore nowhere K n d → {ts : List Token} {more : List Symbol}
      → Spelled names texts ts (after_commas symbols xs more) → Reads names texts (λ us ys vs. (e : MoreAre Item us ys vs) × KeepsMore nowhere K n e) (map bare) xs ts more
  more_within item n ys no_more keeps {ts} h = record { read = []; rest = ts; is = (no_more, tt); same = refl; others = h }
  more_within item n ys (one_more {x = x} {xs = xs} m d r) keeps h =
      let a = mark_reads h in
      let b = item.reads _ _ x d keeps.1 a.rest _ a.others in
      let c = more_within item (n - 1) xs r keeps.2 b.others in
      record {
        read = b.read ∷ c.read;
        rest = c.rest;
        is = (one_more a.is b.is.0 c.is.0, (room_kept P3 n a.rest (item.begins _ _ x d) keeps.0, b.is.1, c.is.1));
        same = λ i. b.same i ∷ c.same i;
        others = c.others;
      }

  pub list_within : {A : Type 0} {Item : List Token → A → List Token → Type 0} {K : (us : List Token) (x : A) (vs : List Token) → Item us x vs → Type 0} {symbols : A → List Symbol → List Symbol} {bare : A → A}
      → ItemReads names texts Item K symbols bare → (n : ℕ) (xs : List A) {us vs : List Token} (d : ListIs Item us xs vs) → KeepsList nowhere K n d → {ts : List Token} {more : List Symbol}
      → Spelled names texts ts (listed symbols xs more) → Reads names texts (λ us ys vs. (e : ListIs Item us ys vs) × KeepsList nowhere K n e) (map bare) xs ts more
  list_within item n ys (a_list {x = x} {xs = xs} d r) keeps {ts} h =
      let b = item.reads _ _ x d keeps.1 ts _ h in
      let c = more_within item (n - 1) xs r keeps.2 b.others in
      record {
        read = b.read ∷ c.read;
        rest = c.rest;
        is = (a_list b.is.0 c.is.0, (room_kept P3 n ts (item.begins _ _ x d) keeps.0, b.is.1, c.is.1));
        same = λ i. b.same i ∷ c.same i;
        others = c.others;
      }

  -- lists without a limit
  pub list_reads : {A : Type 0} {Item : List Token → A → List Token → Type 0} {symbols : A → List Symbol → List Symbol} {bare : A → A} → ItemReads names texts Item (Unlimited Item) symbols bare
      → (xs : List A) {us vs : List Token} → ListIs Item us xs vs → {ts : List Token} {more : List Symbol}
      → Spelled names texts ts (listed symbols xs more) → Reads names texts (ListIs Item) (map bare) xs ts more
  list_reads item xs d h =
      let a = list_within item (length xs) xs d (list_room (length xs) xs d refl) h in
      record { read = a.read; rest = a.rest; is = a.is.0; same = a.same; others = a.others }

  unlimited : {A : Type 0} {Item : List Token → A → List Token → Type 0} {symbols : A → List Symbol → List Symbol} {bare : A → A}
      → ((us vs : List Token) (x : A) → Item us x vs → Stands us)
      → ((us vs : List Token) (x : A) → Item us x vs → (ts : List Token) (more : List Symbol) → Spelled names texts ts (symbols x more) → Reads names texts Item bare x ts more)
      → ItemReads names texts Item (Unlimited Item) symbols bare
  unlimited begins reads = record {
    begins = begins;
    reads = λ us vs x d k ts more h. let a = reads us vs x d ts more h in record { read = a.read; rest = a.rest; is = (a.is, tt); same = a.same; others = a.others };
  }

module _ {names texts : List (List ℕ)} (dn : AllDistinct names) where
  name_item : ItemReads names texts (NameIs names) (Unlimited (NameIs names)) (name_symbols names) bare_name
  name_item = unlimited (λ us vs n d. name_begins d) (λ us vs n e ts more k. name_reads dn n e k)

  names_within : (n : ℕ) (ns : List Named) {us vs : List Token} (d : NamesAre names us ns vs) → KeepsNames nowhere n d → {ts : List Token} {more : List Symbol}
      → Spelled names texts ts (listed (name_symbols names) ns more) → Reads names texts (NamesPart n nowhere names) (map bare_name) ns ts more
  names_within n ns d keeps h = list_within name_item n ns d keeps h

  pub names_read : (ns : List Named) {us vs : List Token} → NamesAre names us ns vs → {ts : List Token} {more : List Symbol}
      → Spelled names texts ts (listed (name_symbols names) ns more) → Reads names texts (NamesAre names) (map bare_name) ns ts more
  names_read ns d h = list_reads name_item ns d h

  pub any_names_read : (n : ℕ) (ns : List Named) {us vs : List Token} (d : AnyNamesAre names us ns vs) → KeepsAnyNames nowhere n d → {ts : List Token} {more : List Symbol}
      → Spelled names texts ts (listed (name_symbols names) ns more) → Reads names texts (AnyNamesPart n nowhere names) (map bare_name) ns ts more
  any_names_read n [] d keeps {ts} h = record { read = []; rest = ts; is = (no_names, tt); same = refl; others = h }
  any_names_read n (x ∷ ns) (some_names d) keeps h =
      let a = names_within n (x ∷ ns) d keeps h in
      record { read = a.read; rest = a.rest; is = (some_names a.is.0, a.is.1); same = a.same; others = a.others }

  pub part_reads : (p : Part) {us vs : List Token} → PartIs names us p vs → {ts : List Token} {more : List Symbol}
      → Spelled names texts ts (part_symbols names p more) → Reads names texts (PartIs names) bare_part p ts more
  part_reads x (a_part {p = p} {r = r} d1 d2 d3 d4) h =
      let a = name_reads dn p d1 h in
      let b = mark_reads a.others in
      let c = name_reads dn r d3 b.others in
      let d = mark_reads c.others in
      record { read = record { process = a.read; role = c.read }; rest = d.rest; is = a_part a.is b.is c.is d.is; same = λ i. record { process = a.same i; role = c.same i }; others = d.others }

  pub parts_read : (ps : List Part) {us vs : List Token} → ListIs (PartIs names) us ps vs → {ts : List Token} {more : List Symbol}
      → Spelled names texts ts (listed (part_symbols names) ps more) → Reads names texts (ListIs (PartIs names)) (map bare_part) ps ts more
  parts_read ps d h = list_reads (unlimited (λ us vs p e. part_begins e) (λ us vs p e ts more k. part_reads p e k)) ps d h

  -- ---- protocols

  sort_reads : (s : Sort) {us vs : List Token} → SortIs names us s vs → {ts : List Token} {more : List Symbol}
      → Spelled names texts ts (sort_symbols s more) → Reads names texts (SortIs names) (λ s. s) s ts more
  sort_reads s (int d) h = let a = word_reads h in record { read = sort.Int; rest = a.rest; is = int a.is; same = refl; others = a.others }
  sort_reads s (bool d) h = let a = word_reads h in record { read = sort.Bool; rest = a.rest; is = bool a.is; same = refl; others = a.others }
  sort_reads s (text d) h = let a = word_reads h in record { read = sort.Text; rest = a.rest; is = text a.is; same = refl; others = a.others }

  payload_reads : (p : Payload) {us vs : List Token} → PayloadIs names us p vs → {ts : List Token} {more : List Symbol}
      → Spelled names texts ts (payload_symbols names p more) → Reads names texts (PayloadIs names) bare_payload p ts more
  payload_reads x (plain {s = s} d) h =
      let a = sort_reads s d h in
      record { read = payload.Plain a.read; rest = a.rest; is = plain a.is; same = λ i. payload.Plain (a.same i); others = a.others }
  payload_reads x (endpoint {p = p} {s = s} {r = r} d1 d2 d3 d4 d5) h =
      let a = name_reads dn p d1 h in
      let b = mark_reads a.others in
      let c = name_reads dn s d3 b.others in
      let d = mark_reads c.others in
      let e = name_reads dn r d5 d.others in
      record { read = payload.Endpoint a.read c.read e.read; rest = e.rest; is = endpoint a.is b.is c.is d.is e.is; same = λ i. payload.Endpoint (a.same i) (c.same i) (e.same i); others = e.others }

  arm_reads : (m : ProtoArm) {us vs : List Token} → ArmIs names us m vs → {ts : List Token} {more : List Symbol}
      → Spelled names texts ts (arm_symbols names m more) → Reads names texts (ArmIs names) bare_arm m ts more
  arm_reads x (an_arm {l = l} {n = n} d1 d2 d3) h =
      let a = name_reads dn l d1 h in
      let b = word_reads a.others in
      let c = name_reads dn n d3 b.others in
      record { read = record { label = a.read; next = c.read }; rest = c.rest; is = an_arm a.is b.is c.is; same = λ i. record { label = a.same i; next = c.same i }; others = c.others }

  step_reads : (s : ProtoStep) {us vs : List Token} (d : StepIs names us s vs) → KeepsStep nowhere d → {ts : List Token} {more : List Symbol}
      → Spelled names texts ts (step_symbols names s more) → Reads names texts (StepPart nowhere names) bare_step s ts more
  step_reads x (end_step d) keeps h = let a = word_reads h in record { read = step.End; rest = a.rest; is = (end_step a.is, tt); same = refl; others = a.others }
  step_reads x (value_step {a = from} {b = to} {n = n} {p = p} d1 d2 d3 d4 d5 d6 d7) keeps h =
      let a = name_reads dn from d1 h in
      let b = mark_reads a.others in
      let c = name_reads dn to d3 b.others in
      let d = mark_reads c.others in
      let e = payload_reads p d5 d.others in
      let f = word_reads e.others in
      let g = name_reads dn n d7 f.others in
      record {
        read = step.Value a.read c.read e.read g.read;
        rest = g.rest;
        is = (value_step a.is b.is c.is d.is e.is f.is g.is, tt);
        same = λ i. step.Value (a.same i) (c.same i) (e.same i) (g.same i);
        others = g.others;
      }
  step_reads x (choice_step {a = from} {b = to} {arms = arms} d1 d2 d3 d4 d5 d6) keeps h =
      let a = name_reads dn from d1 h in
      let b = mark_reads a.others in
      let c = name_reads dn to d3 b.others in
      let d = mark_reads c.others in
      let e = list_within (unlimited (λ us vs m k. arm_begins k) (λ us vs m k ts more l. arm_reads m k l)) 64 arms d5 keeps d.others in
      let f = mark_reads e.others in
      record {
        read = step.Choice a.read c.read e.read;
        rest = f.rest;
        is = (choice_step a.is b.is c.is d.is e.is.0 f.is, e.is.1);
        same = λ i. step.Choice (a.same i) (c.same i) (e.same i);
        others = f.others;
      }

  state_reads : (s : State) {us vs : List Token} (d : StateIs names us s vs) → KeepsState nowhere d → {ts : List Token} {more : List Symbol}
      → Spelled names texts ts (state_symbols names s more) → Reads names texts (StatePart nowhere names) bare_state s ts more
  state_reads x (a_state {n = n} {s = s} d1 d2 d3 d4) keeps h =
      let a = name_reads dn n d1 h in
      let b = mark_reads a.others in
      let c = step_reads s d3 keeps b.others in
      let d = mark_reads c.others in
      record { read = record { name = a.read; step = c.read }; rest = d.rest; is = (a_state a.is b.is c.is.0 d.is, c.is.1); same = λ i. record { name = a.same i; step = c.same i }; others = d.others }

  more_states_read : (n : ℕ) (ss : List State) {us vs : List Token} (d : MoreStatesAre names us ss vs) → KeepsMoreStates nowhere n d → {ts : List Token} {more : List Symbol}
      → Spelled names texts ts (each (state_symbols names) ss more) → Reads names texts (λ us ys vs. (e : MoreStatesAre names us ys vs) × KeepsMoreStates nowhere n e) (map bare_state) ss ts more
  more_states_read n [] d keeps {ts} h = record { read = []; rest = ts; is = (no_state, tt); same = refl; others = h }
  more_states_read n (s ∷ ss) (one_state d r) keeps {ts} h =
      let a = state_reads s d keeps.1 h in
      let b = more_states_read (n - 1) ss r keeps.2 a.others in
      let room = room_kept P3 n ts (state_begins d) keeps.0 in
      record { read = a.read ∷ b.read; rest = b.rest; is = (one_state a.is.0 b.is.0, (room, a.is.1, b.is.1)); same = λ i. a.same i ∷ b.same i; others = b.others }

  states_read : (ss : List State) {us vs : List Token} (d : StatesAre names us ss vs) → KeepsStates nowhere d → {ts : List Token} {more : List Symbol}
      → Spelled names texts ts (each (state_symbols names) ss more) → Reads names texts (StatesPart nowhere names) (map bare_state) ss ts more
  states_read x (some_states {s = s} {ss = ss} d r) keeps h =
      let a = state_reads s d keeps.0 h in
      let b = more_states_read 255 ss r keeps.1 a.others in
      record { read = a.read ∷ b.read; rest = b.rest; is = (some_states a.is.0 b.is.0, (a.is.1, b.is.1)); same = λ i. a.same i ∷ b.same i; others = b.others }

  pub protocol_reads : (p : Protocol) {us vs : List Token} (d : ProtocolIs names us p vs) → KeepsProtocol nowhere d → {ts : List Token} {more : List Symbol}
      → Spelled names texts ts (protocol_symbols names p more) → Reads names texts (ProtocolPart nowhere names) bare_protocol p ts more
  protocol_reads x (a_protocol {n = n} {roles = roles} {states = states} d1 d2 d3 d4 d5 d6 d7 d8) keeps k =
      let a = word_reads k in
      let b = name_reads dn n d2 a.others in
      let c = mark_reads b.others in
      let d = names_within 16 roles d4 keeps.0 c.others in
      let e = mark_reads d.others in
      let f = mark_reads e.others in
      let g = states_read states d7 keeps.1 f.others in
      let h = mark_reads g.others in
      record {
        read = record { name = b.read; roles = d.read; states = g.read };
        rest = h.rest;
        is = (a_protocol a.is b.is c.is d.is.0 e.is f.is g.is.0 h.is, (d.is.1, g.is.1));
        same = λ i. record { name = b.same i; roles = d.same i; states = g.same i };
        others = h.others;
      }

  -- ---- services

  served_read : (n : ℕ) (ns : List Named) {us vs : List Token} (d : ServedAre names us ns vs) → KeepsServed nowhere n d → {ts : List Token} {more : List Symbol}
      → Spelled names texts ts (listed_after (mark Bar) (name_symbols names) ns more) → Reads names texts (ServedPart n nowhere names) (map bare_name) ns ts more
  served_read n [] d keeps {ts} h = record { read = []; rest = ts; is = (none_served, tt); same = refl; others = h }
  served_read n (x ∷ ns) (some_served d1 d2) keeps h =
      let a = mark_reads h in
      let b = names_within n (x ∷ ns) d2 keeps a.others in
      record { read = b.read; rest = b.rest; is = (some_served a.is b.is.0, b.is.1); same = b.same; others = b.others }

  pub service_reads : (s : Service) {us vs : List Token} (d : ServiceIs names us s vs) → KeepsService nowhere d → {ts : List Token} {more : List Symbol}
      → Spelled names texts ts (service_symbols names s more) → Reads names texts (ServicePart nowhere names) bare_service s ts more
  service_reads x (a_service {n = n} {p = p} {active = active} {serve = serve} d1 d2 d3 d4 d5 d6 d7 d8 d9) keeps k =
      let a = word_reads k in
      let b = name_reads dn n d2 a.others in
      let c = mark_reads b.others in
      let d = name_reads dn p d4 c.others in
      let e = mark_reads d.others in
      let f = names_within 16 active d6 keeps.0 e.others in
      let g = served_read (16 - length active) serve d7 keeps.1 f.others in
      let h = mark_reads g.others in
      let j = mark_reads h.others in
      let many : length active ≡ length f.read = sym (length-map active bare_name) ∙ ap (λ (l : List Named). length l) (sym f.same) ∙ length-map f.read bare_name in
      record {
        read = record { name = b.read; protocol = d.read; active = f.read; serve = g.read };
        rest = j.rest;
        is = (a_service a.is b.is c.is d.is e.is f.is.0 g.is.0 h.is j.is, (f.is.1, subst (λ (n : ℕ). KeepsServed nowhere (16 - n) g.is.0) many g.is.1));
        same = λ i. record { name = b.same i; protocol = d.same i; active = f.same i; serve = g.same i };
        others = j.others;
      }

  -- ---- parameters

  variable_reads : (v : Named × Sort) {us vs : List Token} → VariableIs names us v vs → {ts : List Token} {more : List Symbol}
      → Spelled names texts ts (variable_symbols names v more) → Reads names texts (VariableIs names) bare_variable v ts more
  variable_reads x (a_variable {n = n} {s = s} d1 d2 d3) h =
      let a = name_reads dn n d1 h in
      let b = mark_reads a.others in
      let c = sort_reads s d3 b.others in
      record { read = (a.read, c.read); rest = c.rest; is = a_variable a.is b.is c.is; same = λ i. (a.same i, c.same i); others = c.others }

  variables_read : (xs : List (Named × Sort)) {us vs : List Token} (d : VariablesAre names us xs vs) → KeepsVariables nowhere d → {ts : List Token} {more : List Symbol}
      → Spelled names texts ts (variables_symbols names xs more) → Reads names texts (VariablesPart nowhere names) (map bare_variable) xs ts more
  variables_read [] d keeps {ts} h = record { read = []; rest = ts; is = (no_variables, tt); same = refl; others = h }
  variables_read (x ∷ xs) (some_variables d1 d2 d3) keeps h =
      let a = mark_reads h in
      let b = list_within (unlimited (λ us vs v k. variable_begins k) (λ us vs v k ts more l. variable_reads v k l)) 16 (x ∷ xs) d2 keeps a.others in
      let c = mark_reads b.others in
      record { read = b.read; rest = c.rest; is = (some_variables a.is b.is.0 c.is, b.is.1); same = b.same; others = c.others }

  process_param_reads : (p : ProcParam) {us vs : List Token} (d : ProcParamIs names us p vs) → KeepsParam nowhere us p vs d → {ts : List Token} {more : List Symbol}
      → Spelled names texts ts (process_param_symbols names p more) → Reads names texts (ProcParamPart nowhere names) bare_process_param p ts more
  process_param_reads x (a_param {n = n} {vs = vars} d1 d2) keeps h =
      let a = name_reads dn n d1 h in
      let b = variables_read vars d2 keeps a.others in
      record { read = record { name = a.read; vars = b.read }; rest = b.rest; is = (a_param a.is b.is.0, b.is.1); same = λ i. record { name = a.same i; vars = b.same i }; others = b.others }

  holder_reads : (x : Named × Named) {us vs : List Token} → HolderIs names us x vs → {ts : List Token} {more : List Symbol}
      → Spelled names texts ts (holder_symbols names x more) → Reads names texts (HolderIs names) bare_holder x ts more
  holder_reads x (a_holder {r = r} {p = p} d1 d2 d3) h =
      let a = name_reads dn r d1 h in
      let b = mark_reads a.others in
      let c = name_reads dn p d3 b.others in
      record { read = (a.read, c.read); rest = c.rest; is = a_holder a.is b.is c.is; same = λ i. (a.same i, c.same i); others = c.others }

  session_param_reads : (x : SessionParam) {us vs : List Token} → SessionParamIs names us x vs → {ts : List Token} {more : List Symbol}
      → Spelled names texts ts (session_param_symbols names x more) → Reads names texts (SessionParamIs names) bare_session_param x ts more
  session_param_reads x (a_session {n = n} {p = p} {s = s} {hs = hs} d1 d2 d3 d4 d5 d6 d7 d8) k =
      let a = name_reads dn n d1 k in
      let b = mark_reads a.others in
      let c = name_reads dn p d3 b.others in
      let d = mark_reads c.others in
      let e = name_reads dn s d5 d.others in
      let f = mark_reads e.others in
      let g = list_reads (unlimited (λ us vs v l. holder_begins l) (λ us vs v l ts more m. holder_reads v l m)) hs d7 f.others in
      let h = mark_reads g.others in
      record {
        read = record { name = a.read; protocol = c.read; state = e.read; holders = g.read };
        rest = h.rest;
        is = a_session a.is b.is c.is d.is e.is f.is g.is h.is;
        same = λ i. record { name = a.same i; protocol = c.same i; state = e.same i; holders = g.same i };
        others = h.others;
      }

  sessions_read : (ks : List SessionParam) {us vs : List Token} (d : SessionsAre names us ks vs) → KeepsSessions nowhere d → {ts : List Token} {more : List Symbol}
      → Spelled names texts ts (listed_after (mark Semicolon) (session_param_symbols names) ks more) → Reads names texts (SessionsPart nowhere names) (map bare_session_param) ks ts more
  sessions_read [] d keeps {ts} h = record { read = []; rest = ts; is = (no_sessions, tt); same = refl; others = h }
  sessions_read (x ∷ xs) (some_sessions d1 d2) keeps h =
      let a = mark_reads h in
      let b = list_within (unlimited (λ us vs v k. session_param_begins k) (λ us vs v k ts more l. session_param_reads v k l)) 8 (x ∷ xs) d2 keeps a.others in
      record { read = b.read; rest = b.rest; is = (some_sessions a.is b.is.0, b.is.1); same = b.same; others = b.others }

  process_param_item : ItemReads names texts (ProcParamIs names) (KeepsParam nowhere) (process_param_symbols names) bare_process_param
  process_param_item = record { begins = λ us vs p d. process_param_begins d; reads = λ us vs p d keeps ts more h. process_param_reads p d keeps h }

  pub params_read : {us vs : List Token} (ps : List ProcParam) (ks : List SessionParam) (d : ParamsAre names us ps ks vs) → KeepsParams nowhere d → {ts : List Token} {more : List Symbol}
      → Spelled names texts ts (listed (process_param_symbols names) ps (listed_after (mark Semicolon) (session_param_symbols names) ks more))
      → Reads names texts {A = List ProcParam × List SessionParam} (ParamsPart nowhere names) (λ x. (map bare_process_param x.0, map bare_session_param x.1)) (ps, ks) ts more
  params_read ps ks no_params keeps {ts} h = record { read = ([], []); rest = ts; is = (no_params, tt); same = refl; others = h }
  params_read ps ks (some_params d1 d2) keeps h =
      let a = list_within process_param_item 8 ps d1 keeps.0 h in
      let b = sessions_read ks d2 keeps.1 a.others in
      record { read = (a.read, b.read); rest = b.rest; is = (some_params a.is.0 b.is.0, (a.is.1, b.is.1)); same = λ i. (a.same i, b.same i); others = b.others }
