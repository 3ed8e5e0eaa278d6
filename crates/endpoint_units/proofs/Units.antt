-- How readers of units go on.
use Rattle.std.proofs.Common.{◌≡◌, ◌-◌, ℕ, inr, List, [], ◌∷◌, ◌++◌, Some, length, length-append, map, refl, sym, ap, ◌∙◌, subst, arith}
use Rattle.std.proofs.lemmas.List.{append-nil}
use Rattle.chor_base.specs.declared.rule.Denied.{Denied}
use Rattle.chor_base.specs.declared.rule.Rule.TheVariants.{E4}
use Rattle.chor_lexer.specs.Lexeme.{Lexeme}
use Rattle.chor_lexer.specs.declared.mark.Mark.TheVariants.{OpenParen, Semicolon}
use Rattle.grammar.specs.Classes.{a_word, the_end}
use Rattle.grammar.specs.Grammars.{one, within}
use Rattle.grammar.specs.Readers.{Reads, Halts, HasOne, Tells}
use Rattle.grammar.proofs.Reading.{past, reads_past, leads_on, after_reads, into_rule}
use Rattle.grammar.proofs.Lists.{last_of}
use Rattle.grammar.proofs.Ways.{one_is}
use Rattle.endpoint_grammar.specs.Written.{Body, Units, Roles as WrittenRoles, Channel as ChannelUnit, Procedure as ProcedureUnit, Service as ServiceUnit, Process as ProcessUnit, no_units}
use Rattle.endpoint_grammar.specs.Grammar.{NAME, mark, body, roles, roles_of, units, units_of, signature, role_of_channel, channel, procedure, service, process}
use Rattle.endpoint_grammar.specs.Values.{rules, role_lists, units_from}
use Rattle.endpoint_reader.specs.declared.input.Input.{Input}
use Rattle.endpoint_reader.specs.declared.lists.Two.{Two}
use Rattle.endpoint_reader.specs.declared.lines.Line.{Line}
use Rattle.endpoint_reader.specs.declared.lines.Lines.{Lines}
use Rattle.endpoint_reader.specs.declared.lines.LineId.{LineId}
use Rattle.endpoint_reader.specs.declared.written.Channel.{Channel}
use Rattle.endpoint_reader.specs.declared.written.Procedure.{Procedure}
use Rattle.endpoint_reader.specs.declared.written.Service.{Service}
use Rattle.endpoint_reader.specs.declared.written.Process.{Process}
use Rattle.endpoint_reader.specs.Tokens.{named}
use Rattle.endpoint_reader.specs.Signatures.{roles_written, role_of, signed, signature_of}
use Rattle.endpoint_reader.specs.Lines.{body_at}
use Rattle.endpoint_reader.specs.Bodies.{Grows}
use Rattle.endpoint_reader.specs.Units.{AreInside, channel_unit, procedure_unit, service_unit, process_unit}
use Rattle.endpoint_units.specs.declared.parts.Parts.{Parts}
use Rattle.endpoint_units.specs.declared.word.UnitWord.{UnitWord}
use Rattle.endpoint_units.specs.declared.word.UnitWord.TheVariants as begun
use Rattle.endpoint_units.specs.Words.{first_word, rest_of, with_word, units_by, LacksUnit}
use Rattle.endpoint_units.specs.Parts.{left, ArePartsInside, units_in, joined, Goes}
use Rattle.endpoint_units.proofs.Entering.{through}
use Rattle.endpoint_units.proofs.Words.{into_unit, no_unit}
use Rattle.endpoint_units.proofs.Insides.{units_stay}

-- ---- what stays of units when lines are added

abbrev as_procedure : Input → Body → Procedure → ProcedureUnit
as_procedure i b p = record { name = named i p.signature.name; param = named i p.signature.param; sessions = map (named i) p.signature.sessions; body = b }

abbrev as_service : Input → Body → Service → ServiceUnit
as_service i b s = record { channel = named i s.channel; role = named i s.role; body = b }

abbrev as_process : Input → Body → Process → ProcessUnit
as_process i b p = record { name = named i p.name; body = b }

module _ {old new : List Line} (i : Input) (g : Grows old new) where
  procedures_stay : {ps : List Procedure} {ss : List Service} {qs : List Process} → AreInside old ps ss qs → map (procedure_unit i old) ps ≡ map (procedure_unit i new) ps
  procedures_stay {ps} h = units_stay (as_procedure i) (λ p. p.body) i ps g h.procedures

  services_stay : {ps : List Procedure} {ss : List Service} {qs : List Process} → AreInside old ps ss qs → map (service_unit i old) ss ≡ map (service_unit i new) ss
  services_stay {ss = ss} h = units_stay (as_service i) (λ s. s.body) i ss g h.services

  processes_stay : {ps : List Procedure} {ss : List Service} {qs : List Process} → AreInside old ps ss qs → map (process_unit i old) qs ≡ map (process_unit i new) qs
  processes_stay {qs = qs} h = units_stay (as_process i) (λ p. p.body) i qs g h.processes

-- ---- a channel

pub channel_goes : {q : ℕ} {ts us vs ws xs : List Lexeme} (i : Input) (old : Parts) (c : Channel) (cs : List Channel) → Reads rules NAME ts (named i c.name) us → Reads rules (mark OpenParen) us tt vs → Tells rules (roles_of 16) (role_lists 16) vs (roles_written i c.roles) ws → Reads rules (mark Semicolon) ws tt xs
    → cs ≡ old.channels ++ c ∷ [] → Goes channel (units_by begun.Channel) q ts (units_in i old) (units_in i (record old { channels = cs })) q xs
channel_goes {q} i old c cs r o t s e = record {
  whole = λ v. (named i c.name, (role_lists 16 t.value, units_from q v));
  leads = leads_on _ (after_reads _ r) (leads_on _ (after_reads _ (reads_past _ (into_rule _ (roles 16) (one_is _ o.is).stands) t.reads)) (into_rule _ (units q) (one_is _ s.is).stands));
  is = λ v.
      let u = units_from q v in
      let one_more : map (channel_unit i) old.channels ++ (record { name = named i c.name; roles = role_lists 16 t.value }) ∷ u.channels ≡ map (channel_unit i) cs ++ u.channels =
      ap (λ (y : WrittenRoles). let k : ChannelUnit = record { name = named i c.name; roles = y } in map (channel_unit i) old.channels ++ k ∷ u.channels) t.is ∙ last_of (channel_unit i) old.channels cs c u.channels e in
      ap (λ (ks : List ChannelUnit). let all : Units = record { channels = ks; procedures = (units_in i old).procedures ++ u.procedures; services = (units_in i old).services ++ u.services; processes = (units_in i old).processes ++ u.processes } in all) one_more;
}

-- ---- bodies

module _ {q : ℕ} {ts us vs : List Lexeme} (i : Input) where
  pub procedure_goes : (old : Parts) (new : Lines) (p : Procedure) (ps : List Procedure) → Tells rules signature signed ts (signature_of i p.signature) us → Reads rules (body 1024) us (body_at i new.items p.body, tt) vs → ArePartsInside old → Grows old.lines.items new.items
      → ps ≡ old.procedures ++ p ∷ [] → Goes procedure (units_by begun.Procedure) q ts (units_in i old) (units_in i (record old { lines = new; procedures = ps })) q vs
  procedure_goes old new p ps t b h g e = record {
    whole = λ v. (t.value, (body_at i new.items p.body, units_from q v));
    leads = leads_on _ (after_reads _ t.reads) (through _ (units q) b);
    is = λ v.
        let u = units_from q v in
        let old_ones = procedures_stay i g h in
        let first = ap (λ (s : (Lexeme × Lexeme) × List Lexeme). let k : ProcedureUnit = record { name = s.0.0; param = s.0.1; sessions = s.1; body = body_at i new.items p.body } in k) t.is in
        let more = last_of (procedure_unit i new.items) old.procedures ps p u.procedures e in
        let all : (units_in i old).procedures ++ (units_by begun.Procedure q (t.value, (body_at i new.items p.body, u))).procedures ≡ map (procedure_unit i new.items) ps ++ u.procedures = (λ j. old_ones j ++ first j ∷ u.procedures) ∙ more in
        let others = services_stay i g h in
        let last = processes_stay i g h in
        λ j. record { channels = (units_in i old).channels ++ u.channels; procedures = all j; services = others j ++ u.services; processes = last j ++ u.processes };
  }

  pub service_goes : (old : Parts) (new : Lines) (names : Two) (id : LineId) (ss : List Service) → Reads rules role_of_channel ts (role_of i names) us → Reads rules (body 1024) us (body_at i new.items id, tt) vs → ArePartsInside old → Grows old.lines.items new.items
      → ss ≡ old.services ++ record { channel = names.first; role = names.second; body = id } ∷ [] → Goes service (units_by begun.Service) q ts (units_in i old) (units_in i (record old { lines = new; services = ss })) q vs
  service_goes old new names id ss r b h g e = record {
    whole = λ v. (role_of i names, (body_at i new.items id, units_from q v));
    leads = leads_on _ (after_reads _ r) (through _ (units q) b);
    is = λ v.
        let u = units_from q v in
        let old_ones = services_stay i g h in
        let s : Service = record { channel = names.first; role = names.second; body = id } in
        let more = last_of (service_unit i new.items) old.services ss s u.services e in
        let all : (units_in i old).services ++ (service_unit i new.items s) ∷ u.services ≡ map (service_unit i new.items) ss ++ u.services = (λ j. old_ones j ++ (service_unit i new.items s) ∷ u.services) ∙ more in
        let others = procedures_stay i g h in
        let last = processes_stay i g h in
        λ j. record { channels = (units_in i old).channels ++ u.channels; procedures = others j ++ u.procedures; services = all j; processes = last j ++ u.processes };
  }

  process_on : (old : Parts) (new : Lines) (p : Process) (ps : List Process) → Reads rules (within E4 (Some q) NAME) ts (named i p.name) us → Reads rules (body 1024) us (body_at i new.items p.body, tt) vs → ArePartsInside old → Grows old.lines.items new.items
      → ps ≡ old.processes ++ p ∷ [] → Goes process (units_by begun.Process) q ts (units_in i old) (units_in i (record old { lines = new; processes = ps })) (q - 1) vs
  process_on old new p ps r b h g e = record {
    whole = λ v. (named i p.name, (body_at i new.items p.body, units_from (q - 1) v));
    leads = leads_on _ (after_reads _ r) (through _ (units (q - 1)) b);
    is = λ v.
        let u = units_from (q - 1) v in
        let old_ones = processes_stay i g h in
        let more = last_of (process_unit i new.items) old.processes ps p u.processes e in
        let all : (units_in i old).processes ++ (process_unit i new.items p) ∷ u.processes ≡ map (process_unit i new.items) ps ++ u.processes = (λ j. old_ones j ++ (process_unit i new.items p) ∷ u.processes) ∙ more in
        let others = procedures_stay i g h in
        let last = services_stay i g h in
        λ j. record { channels = (units_in i old).channels ++ u.channels; procedures = others j ++ u.procedures; services = last j ++ u.services; processes = all j };
  }

  pub process_goes : (old : Parts) (new : Lines) (p : Process) (ps : List Process) → q ≡ left old → Reads rules (within E4 (Some q) NAME) ts (named i p.name) us → Reads rules (body 1024) us (body_at i new.items p.body, tt) vs → ArePartsInside old → Grows old.lines.items new.items
      → ps ≡ old.processes ++ p ∷ [] → Goes process (units_by begun.Process) (left old) ts (units_in i old) (units_in i (record old { lines = new; processes = ps })) (64 - length ps) vs
  process_goes old new p ps n r b h g e =
      let fewer : q - 1 ≡ 64 - length ps = omega (arith, n, ap length e, length-append old.processes (p ∷ [])) in
      let then_ = subst (λ (k : ℕ). Goes process (units_by begun.Process) q ts (units_in i old) (units_in i (record old { lines = new; processes = ps })) k vs) fewer (process_on old new p ps r b h g e) in
      subst (λ (k : ℕ). Goes process (units_by begun.Process) k ts (units_in i old) (units_in i (record old { lines = new; processes = ps })) (64 - length ps) vs) n then_

pub process_room : {room count : ℕ} (ps : List Process) → room ≡ 64 - count → count ≡ length ps → room ≡ 64 - length ps
process_room ps e f = e ∙ ap (λ k. 64 - k) f

pub process_halts : {room q : ℕ} {ts : List Lexeme} {d : Denied} → room ≡ q → Halts rules (process room) ts d → Halts rules (process q) ts d
process_halts {ts = ts} {d = d} e h = subst (λ (k : ℕ). Halts rules (process k) ts d) e h

-- ---- one unit after another

pub units_begin : {ts : List Lexeme} (i : Input) (p : Parts) → p.channels ≡ [] → p.procedures ≡ [] → p.services ≡ [] → p.processes ≡ [] → Goes units_of units_from 64 ts no_units (units_in i p) (left p) ts
units_begin {ts} i p a b c d =
    let none : units_in i p ≡ no_units = λ j. record { channels = map (channel_unit i) (a j); procedures = map (procedure_unit i p.lines.items) (b j); services = map (service_unit i p.lines.items) (c j); processes = map (process_unit i p.lines.items) (d j) } in
    let room : left p ≡ 64 = λ j. 64 - length (d j) in
    let here : Goes units_of units_from 64 ts no_units no_units 64 ts = record { whole = λ v. v; leads = record { on = λ h. refl; is = λ y rest e. e }; is = λ v. refl } in
    subst (λ (u : Units). Goes units_of units_from 64 ts no_units u (left p) ts) (sym none) (subst (λ (k : ℕ). Goes units_of units_from 64 ts no_units no_units k ts) (sym room) here)

module _ {q n : ℕ} {ts us vs : List Lexeme} {a b : Units} where
  pub units_go : {p : ℕ} {c : Units} {ws : List Lexeme} (w : UnitWord) → Goes units_of units_from q ts a b n us → HasOne (a_word (first_word w)) us vs → Goes (rest_of w) (units_by w) n vs b c p ws → Goes units_of units_from q ts a c p ws
  units_go w s h t = record {
    whole = λ v. s.whole (with_word w n (t.whole v));
    leads = leads_on _ s.leads (leads_on _ (into_unit w h) t.leads);
    is = λ v. s.is (with_word w n (t.whole v)) ∙ t.is v;
  }

  pub unit_halts : {d : Denied} (w : UnitWord) → Goes units_of units_from q ts a b n us → HasOne (a_word (first_word w)) us vs → Halts rules (rest_of w n) vs d → Halts rules (units_of q) ts d
  unit_halts w s h t = past _ s.leads (past _ (into_unit w h) t)

nothing_more : (b : Units) → joined b no_units ≡ b
nothing_more b =
    let c = append-nil b.channels in
    let p = append-nil b.procedures in
    let s = append-nil b.services in
    let q = append-nil b.processes in
    λ j. record { channels = c j; procedures = p j; services = s j; processes = q j }

module _ {q n : ℕ} {ts us : List Lexeme} {b : Units} where
  pub units_end : Goes units_of units_from q ts no_units b n us → LacksUnit us → Reads rules (one the_end) us tt [] → Tells rules (units_of q) (units_from q) ts b []
  units_end s l r = record {
    value = s.whole (inr (inr (inr (inr tt))));
    reads = reads_past _ s.leads (reads_past _ (no_unit l) r);
    is = s.is (inr (inr (inr (inr tt)))) ∙ nothing_more b;
  }

  pub end_halts : {d : Denied} → Goes units_of units_from q ts no_units b n us → LacksUnit us → Halts rules (one the_end) us d → Halts rules (units_of q) ts d
  end_halts s l h = past _ s.leads (past _ (no_unit l) h)
