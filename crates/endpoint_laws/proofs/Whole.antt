-- The text of programs without a fault violates no rule of endpoint files.
use Rattle.std.proofs.Common.{◌≡◌, ℕ, Bool, true, false, not, List, [], ◌∷◌, ◌++◌, map, is_some, refl, sym, ap, ◌∙◌, subst, arith, inl, inr}
use Rattle.std.specs.List.{flat_map, AllByRecursion}
use Rattle.endpoint_code.specs.Asked.{AsksTree}
use Rattle.chor_base.specs.declared.names.NameId.{NameId}
use Rattle.chor_base.specs.Words.{AllDistinct}
use Rattle.endpoint_reader.specs.declared.input.Input.{Input}
use Rattle.endpoint_reader.specs.declared.input.Named.{Named}
use Rattle.endpoint_reader.specs.declared.written.Channel.{Channel}
use Rattle.endpoint_reader.specs.declared.written.Procedure.{Procedure}
use Rattle.endpoint_reader.specs.declared.written.Service.{Service}
use Rattle.endpoint_reader.specs.declared.written.Written.{Written}
use Rattle.endpoint_code.specs.declared.endpoints.Channel.{Channel as CodeChannel}
use Rattle.endpoint_code.specs.declared.endpoints.Procedure.{Procedure as CodeProcedure}
use Rattle.endpoint_code.specs.declared.endpoints.ServiceCode.{ServiceCode}
use Rattle.endpoint_code.specs.declared.endpoints.Endpoints.{Endpoints}
use Rattle.endpoint_code.specs.Faults.{is_among, AreDistinct, all_among, AsksKnown, is_listed}
use Rattle.endpoint_code.specs.Network as network
use Rattle.endpoint_code.specs.Trees.{Action, CodeTree, Arms}
use Rattle.endpoint_code.specs.Trees as tree
use Rattle.endpoint_names.specs.Keys.{sign_of_name, sign_of_channel, sign_of_procedure, sign_of_service, sign_of_process}
use Rattle.endpoint_names.specs.Bodies.{Body, body_at}
use Rattle.endpoint_names.specs.Bodies as body
use Rattle.endpoint_names.specs.Faults.{fault_at, names_in, repeated, channel_of, procedure_of, unknown_channel, inactive, unbound, bound_again, bound_after, wrong_call, Setting, setting, action_faults, call_faults, body_faults, arms_faults, channel_faults, unprovided, unserved, procedure_faults, service_faults, process_faults, faults_of_channels, faults_of_procedures, faults_of_services, faults_of_processes, name_faults}
use Rattle.endpoint_laws.specs.Reading.{written_body}
use Rattle.endpoint_laws.proofs.Lists.{two_nothings, faultless_so}
use Rattle.endpoint_laws.proofs.Once.{names_distinct, units_apart, services_single, known_service}
use Rattle.endpoint_laws.specs.Symbols.{ordered_at}
use Rattle.endpoint_laws.specs.Says.{BodySays, calls}
use Rattle.endpoint_laws.proofs.SameNames.{same_distinct, both_same}
use Rattle.std.specs.Prelude.{All, Contains, slice_index_or}
use Rattle.chor_base.specs.Faults.{fault as told}
use Rattle.std.proofs.lemmas.List.{map-append}
use Rattle.std.proofs.lemmas.List.Elements.{All-head, All-tail, All-from_recursion}
use Rattle.chor_base.specs.declared.fault.Fault.{Fault}
use Rattle.endpoint_reader.specs.declared.lines.LineId.{LineId}
use Rattle.endpoint_reader.specs.Files.{units_written}
use Rattle.endpoint_code.specs.declared.code.CodeId.{CodeId}
use Rattle.endpoint_code.specs.Faults as code
use Rattle.endpoint_code.proofs.CodeTables.{code_at-node}
use Rattle.endpoint_names.specs.Class.{IsFaultless, opening_faults, begin_faults, IsBroken}
use Rattle.endpoint_names.specs.Faults as fault
use Rattle.endpoint_laws.proofs.Backward.{IsFine, any_known, tree_fine}
use Rattle.endpoint_laws.specs.Ordered.{in_order}
use Rattle.endpoint_laws.proofs.AskedOrdering.{fine_ordered}
use Rattle.endpoint_laws.proofs.PrintedFaults.{IsSame, AreSame, ChannelSame, ProcedureSame, ServiceSame, ProcessSame, CodeSaid, UnitsSame, among, channel_found}
use Rattle.endpoint_laws.proofs.FaultlessBodies.{body_fine}
use Rattle.chor_base.specs.declared.rule.Refusal.{Refusal}
use Rattle.chor_base.specs.declared.rule.Denied.TheVariants.{Refused}
use Rattle.endpoint_units.specs.Wholes.{IsWritten}
use Rattle.endpoint_check.specs.Programs.{lexemes_of, IsInputOf, ViolatesPrograms, unread, broken, grammar, names}
use Rattle.endpoint_reader.proofs.Spelled.{spelled}
use Rattle.endpoint_text.specs.Text.{endpoints_text}
use Rattle.chor_lexer.specs.Tokens.{IsTokens}
use Rattle.chor_lexer.proofs.DistinctTables.{distinct_names}
use Rattle.endpoint_laws.proofs.Cutting.{is_taken}
use Rattle.endpoint_laws.specs.PrintedLaws.{AreWritable}
use Rattle.endpoint_laws.proofs.PrintedUnits.{units_say_them, tokens_are_taken}
use Rattle.endpoint_laws.proofs.FaultlessUnits.{no_faults, units_same, channel_names, process_names, apart, service_there, single}

-- what holds of each element and what holds of each by recursion hold together
together : {X : Type 0} (P Q : X → Type 0) (xs : List X) → All P xs → AllByRecursion Q xs → All (λ x. P x × Q x) xs
together P Q xs h g = let q = All-from_recursion Q xs g in λ k d lt. (h k d lt, q k d lt)

-- ---- names

module _ (words : List (List ℕ)) (e : Endpoints) (i : Input) (w : Written) (dn : AllDistinct e.names) (dm : AllDistinct i.names.now) (same : UnitsSame e i w) (fine : code.IsFaultless e) (asks : AsksKnown (is_listed words e) e) where
  abbrev here : Setting
  here = setting w i.names.now words

  provided_so : (c n : NameId) → IsSame e i c n → (rs : List NameId) (ks : List Named) → AreSame e i rs (names_in ks) → All (λ r. code.has_service c r e.services ≡ true) rs → flat_map (unprovided w n) ks ≡ []
  provided_so c n s [] [] h p = refl
  provided_so c n s [] (k ∷ ks) h p = absurd h
  provided_so c n s (r ∷ rs) [] h p = absurd h
  provided_so c n s (r ∷ rs) (k ∷ ks) h p =
      let there : fault.has_service w n k.name ≡ true = known_service w.services n k.name ∙ sym (service_there e i w dn dm s h.0 e.services w.services same.services) ∙ All-head (λ r. code.has_service c r e.services ≡ true) r rs p in
      two_nothings (unprovided w n k) (flat_map (unprovided w n) ks) (faultless_so (fault.has_service w n k.name) k.place there) (provided_so c n s rs ks h.1 (All-tail (λ r. code.has_service c r e.services ≡ true) r rs p))

  one_channel : (c : CodeChannel) (x : Channel) → ChannelSame e i c x → code.AreDistinct (c.active ++ c.serve) → All (λ r. code.has_service c.name r e.services ≡ true) c.serve → channel_faults w x ≡ []
  one_channel c x s d p =
      let roles = x.roles.active ++ x.roles.serve in
      let all : AreSame e i (c.active ++ c.serve) (names_in roles) =
      subst (AreSame e i (c.active ++ c.serve)) (sym (map-append (λ k. k.name) x.roles.active x.roles.serve))
      (both_same e.names i.names.now c.active c.serve (names_in x.roles.active) (names_in x.roles.serve) s.active s.serve) in
      two_nothings (repeated [] (map sign_of_name roles)) (flat_map (unprovided w x.name.name) x.roles.serve)
      (names_distinct (λ k. k) roles (same_distinct e.names i.names.now dn dm (c.active ++ c.serve) (names_in roles) all d)) (provided_so c.name x.name.name s.name c.serve x.roles.serve s.serve p)

  -- the code at a number asks known functions alone
  abbrev AsksThere : CodeId → Type 0
  AsksThere q = AsksTree (is_listed words e) (tree.code_at e.code.nodes q)

  body_so : (q : CodeId) (b : LineId) (bs ns : List NameId) → AreSame e i bs ns → CodeSaid e i (ordered_at e q) (body_at w.lines.items b) → code.IsScoped e q bs → AsksThere q → body_faults here ns (body_at w.lines.items b) ≡ []
  body_so q b bs ns s c h k =
      let t = tree_fine (λ n. true) e (any_known e) h in
      let f : IsFine (is_listed words e) e bs (tree.code_at e.code.nodes q) = record { scoped = t.scoped; distinct = t.distinct; asks = k } in
      body_fine words e i w dn dm same bs ns s (ordered_at e q) (body_at w.lines.items b) c.says c.spelled (fine_ordered e.names (is_listed words e) e bs (tree.code_at e.code.nodes q) f)

  one_procedure : (q : CodeProcedure) (p : Procedure) → ProcedureSame e i w q p → code.AreDistinct q.sessions → code.IsScoped e q.body q.sessions × AsksThere q.body → procedure_faults here p ≡ []
  one_procedure q p s d h =
      let sessions = p.signature.sessions in
      two_nothings (repeated [] (map sign_of_name sessions)) (body_faults here (names_in sessions) (body_at w.lines.items p.body))
      (names_distinct (λ k. k) sessions (same_distinct e.names i.names.now dn dm q.sessions (names_in sessions) s.sessions d)) (body_so q.body p.body q.sessions (names_in sessions) s.sessions s.body h.0 h.1)

  one_service : (x : ServiceCode) (v : Service) → ServiceSame e i w x v → code.IsServed e x → code.IsScoped e x.body (x.channel ∷ []) × AsksThere x.body → service_faults here v ≡ []
  one_service x v s served h =
      let found = channel_found e i dn dm e.channels w.channels same.channels s.channel served.0 served.1 in
      let listed : is_among v.role.name (names_in found.0.roles.serve) ≡ true = sym (among e i dn dm s.role served.0.serve (names_in found.0.roles.serve) found.2.serve) ∙ served.2 in
      let declared : unknown_channel w v.channel ≡ [] = ap (λ y. fault_at (not (is_some y)) v.channel.place) found.1 in
      let role : unserved (channel_of w v.channel.name) v.role ≡ [] = ap (λ y. unserved y v.role) found.1 ∙ faultless_so (is_among v.role.name (names_in found.0.roles.serve)) v.role.place listed in
      two_nothings (unknown_channel w v.channel ++ unserved (channel_of w v.channel.name) v.role) (body_faults here (v.channel.name ∷ []) (body_at w.lines.items v.body))
      (two_nothings (unknown_channel w v.channel) (unserved (channel_of w v.channel.name) v.role) declared role) (body_so x.body v.body (x.channel ∷ []) (v.channel.name ∷ []) (s.channel, tt) s.body h.0 h.1)

  names_fine : name_faults here ≡ []
  names_fine =
      let f = fine.names in
      let channel_list = repeated [] (map sign_of_channel w.channels) in
      let channels = two_nothings channel_list (flat_map (channel_faults w) w.channels)
      (names_distinct (λ k. k.name) w.channels (same_distinct e.names i.names.now dn dm (map (λ k. k.name) e.channels) (map (λ x. x.name.name) w.channels) (channel_names e i w dn dm e.channels w.channels same.channels) f.channels))
      (no_faults (ChannelSame e i) (λ c. code.AreDistinct (c.active ++ c.serve)) (λ c. All (λ r. code.has_service c.name r e.services ≡ true) c.serve) (channel_faults w) one_channel e.channels w.channels same.channels f.roles f.provided) in
      let procedures = two_nothings (repeated [] (map sign_of_procedure w.procedures)) (flat_map (procedure_faults here) w.procedures)
      (units_apart w.procedures (apart e i w dn dm e.procedures w.procedures same.procedures f.procedures))
      (no_faults (ProcedureSame e i w) (λ q. code.AreDistinct q.sessions) (λ q. code.IsScoped e q.body q.sessions × AsksThere q.body) (procedure_faults here) one_procedure e.procedures w.procedures same.procedures f.sessions
      (together (λ q. code.IsScoped e q.body q.sessions) (λ q. AsksThere q.body) e.procedures f.procedure_bodies asks.procedures)) in
      let services = two_nothings (repeated [] (map sign_of_service w.services)) (flat_map (service_faults here) w.services)
      (services_single w.services (single e i w dn dm e.services w.services same.services f.services))
      (no_faults (ServiceSame e i w) (code.IsServed e) (λ s. code.IsScoped e s.body (s.channel ∷ []) × AsksThere s.body) (service_faults here) one_service e.services w.services same.services f.served
      (together (λ s. code.IsScoped e s.body (s.channel ∷ [])) (λ s. AsksThere s.body) e.services f.service_bodies asks.services)) in
      let processes = two_nothings (repeated [] (map sign_of_process w.processes)) (flat_map (process_faults here) w.processes)
      (names_distinct (λ p. p.name) w.processes (same_distinct e.names i.names.now dn dm (map (λ p. p.name) e.processes) (map (λ p. p.name.name) w.processes) (process_names e i w dn dm e.processes w.processes same.processes) f.processes))
      (no_faults (ProcessSame e i w) (λ q. code.IsScoped e q.body []) (λ q. AsksThere q.body) (process_faults here) (λ q p s h k. body_so q.body p.body [] [] tt s.body h k) e.processes w.processes same.processes f.process_bodies
      (All-from_recursion (λ q. AsksThere q.body) e.processes asks.processes)) in
      two_nothings (faults_of_channels w ++ faults_of_procedures here ++ faults_of_services here) (faults_of_processes here)
      (two_nothings (faults_of_channels w ++ faults_of_procedures here) (faults_of_services here) (two_nothings (faults_of_channels w) (faults_of_procedures here) channels procedures) services) processes

  -- ---- how procedures begin

  abbrev is_call : CodeTree → Bool
  is_call (tree.Calls f x ss) = true
  is_call _ = false

  call_ordered : (c : CodeTree) → is_call c ≡ false → is_call (in_order e.names c) ≡ false
  call_ordered (tree.Does a rest) h = refl
  call_ordered (tree.Offers k a arms) h = refl
  call_ordered (tree.Tests t first second) h = refl
  call_ordered (tree.Calls f x ss) h = absurd cc
  call_ordered tree.Ends h = refl

  no_call : {q : CodeId} {bs : List NameId} → code.IsScoped e q bs → code.begins_with_call (network.node_at e q) ≡ false → is_call (tree.code_at e.code.nodes q) ≡ false
  no_call {q} (code.joins h a f d) k = ap is_call (code_at-node e.code.nodes q _ e.code.closed h)
  no_call {q} (code.sends h a d) k = ap is_call (code_at-node e.code.nodes q _ e.code.closed h)
  no_call {q} (code.receives h a d) k = ap is_call (code_at-node e.code.nodes q _ e.code.closed h)
  no_call {q} (code.picks h a d) k = ap is_call (code_at-node e.code.nodes q _ e.code.closed h)
  no_call {q} (code.offers h a u d) k = ap is_call (code_at-node e.code.nodes q _ e.code.closed h)
  no_call {q} (code.gives h a f d) k = ap is_call (code_at-node e.code.nodes q _ e.code.closed h)
  no_call {q} (code.gains h a f d) k = ap is_call (code_at-node e.code.nodes q _ e.code.closed h)
  no_call {q} (code.sets h d) k = ap is_call (code_at-node e.code.nodes q _ e.code.closed h)
  no_call {q} (code.shows h d) k = ap is_call (code_at-node e.code.nodes q _ e.code.closed h)
  no_call {q} (code.asks h d) k = ap is_call (code_at-node e.code.nodes q _ e.code.closed h)
  no_call {q} (code.tests h c d) k = ap is_call (code_at-node e.code.nodes q _ e.code.closed h)
  no_call {q} (code.calls h f n b u) k = let t : code.begins_with_call (network.node_at e q) ≡ true = ap code.begins_with_call h in absurd cc
  no_call {q} (code.ends h) k = ap is_call (code_at-node e.code.nodes q _ e.code.closed h)

  opens_so : (c : CodeTree) (b : Body) → BodySays e c (written_body i b) → is_call c ≡ false → opening_faults b ≡ []
  opens_so c (body.Does d rest) s h = refl
  opens_so c (body.Offers k a others) s h = refl
  opens_so c (body.Tests t first second) s h = refl
  opens_so c (body.Calls p sig) (calls x y z) h = absurd cc
  opens_so c body.Ends s h = refl

  begins_so : (q : CodeProcedure) (p : Procedure) → ProcedureSame e i w q p → code.IsScoped e q.body q.sessions → code.begins_with_call (network.node_at e q.body) ≡ false → opening_faults (body_at w.lines.items p.body) ≡ []
  begins_so q p s h k = opens_so (ordered_at e q.body) (body_at w.lines.items p.body) s.body.says (call_ordered (tree.code_at e.code.nodes q.body) (no_call h k))

  pub is_faultless : IsFaultless here
  is_faultless = record {
    names = names_fine;
    begins = no_faults (ProcedureSame e i w) (λ q. code.IsScoped e q.body q.sessions) (λ q. code.begins_with_call (network.node_at e q.body) ≡ false) (λ p. opening_faults (body_at w.lines.items p.body)) begins_so e.procedures w.procedures same.procedures fine.names.procedure_bodies fine.calls;
  }

-- ---- the laws

-- the tokens of the text are its lexemes
lexemes_are : (e : Endpoints) (i : Input) → (h : IsInputOf (endpoints_text e) i) → lexemes_of i ≡ h.lexemes
lexemes_are e i h = spelled i i.tokens.now.items h.lexemes h.spelled

tokens_are : (e : Endpoints) (i : Input) → IsInputOf (endpoints_text e) i → IsTokens (endpoints_text e) (lexemes_of i)
tokens_are e i h = subst (IsTokens (endpoints_text e)) (sym (lexemes_are e i h)) h.tokens

-- the units that are written there are those of the programs
pub same_units : (e : Endpoints) (i : Input) (w : Written) → AreWritable e → IsInputOf (endpoints_text e) i → IsWritten (lexemes_of i) (units_written i w) → UnitsSame e i w
same_units e i w h input written = units_same e i w h.spelled (units_say_them e (lexemes_of i) (units_written i w) h (tokens_are e i input) written)

pub units_are_faultless : (words : List (List ℕ)) (e : Endpoints) (i : Input) (w : Written) → AreWritable e → code.IsFaultless e → AsksKnown (is_listed words e) e → IsInputOf (endpoints_text e) i → IsWritten (lexemes_of i) (units_written i w) → IsFaultless (setting w i.names.now words)
units_are_faultless words e i w h fine asks input written = is_faultless words e i w h.names (distinct_names input) (same_units e i w h input written) fine asks

-- what has no fault isn't refused for one
nothing_there : (xs : List Fault) (x : Fault) → xs ≡ [] → Contains xs x → ⊥
nothing_there [] x h c = absurd (omega (arith, c.1))
nothing_there (y ∷ xs) x h c = absurd cc

unbroken : (s : Setting) (r : Refusal) → IsFaultless s → IsBroken s (Refused r) → ⊥
unbroken s r f (inl h) = nothing_there (name_faults s) (told r.rule r.place) f.names h.0.0
unbroken s r f (inr h) = nothing_there (begin_faults s.written) (told r.rule r.place) f.begins h.1.0.0

pub text_is_taken : (words : List (List ℕ)) (e : Endpoints) (r : Refusal) → AreWritable e → code.IsFaultless e → AsksKnown (is_listed words e) e → ViolatesPrograms words (endpoints_text e) r → ⊥
text_is_taken words e r h fine asks (unread refused nobody) = is_taken e r.rule r.place h.spelled refused
text_is_taken words e r h fine asks (broken i input (grammar refused)) = tokens_are_taken e (lexemes_of i) r h (tokens_are e i input) refused
text_is_taken words e r h fine asks (broken i input (names w written told)) = unbroken (setting w i.names.now words) r (units_are_faultless words e i w h fine asks input written) told
