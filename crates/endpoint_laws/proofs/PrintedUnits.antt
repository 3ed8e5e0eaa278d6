-- Tokens that say units are the units of an endpoint file.
use Rattle.std.proofs.Common.{inl, inr, ◌≡◌, ◌<◌, ◌≤◌, ◌-◌, ◌+◌, ℕ, true, List, [], ◌∷◌, length, map, refl, sym, ap, ◌∙◌, subst, arith}
use Rattle.std.specs.List.{AllByRecursion}
use Rattle.chor_base.specs.declared.names.NameId.{NameId}
use Rattle.chor_base.specs.Words.{AllDistinct}
use Rattle.chor_lexer.specs.declared.mark.Mark.TheVariants.{CloseParen, Bar}
use Rattle.chor_base.specs.declared.rule.Refusal.{Refusal}
use Rattle.chor_base.specs.declared.rule.Denied.TheVariants.{Refused}
use Rattle.chor_lexer.specs.Lexeme.{Symbol, Lexeme, mark, last}
use Rattle.chor_lexer.specs.Tokens.{IsTokens}
use Rattle.grammar.specs.Classes.{the_end, exactly, is_of}
use Rattle.grammar.specs.Grammars.{nowhere, Derives, is_one, in_turn, the_first, the_second, with_room}
use Rattle.grammar.proofs.Completed.{never_both}
use Rattle.grammar.proofs.Unique.{unique}
use Rattle.endpoint_grammar.specs.Grammar.{units, lines, roles, served, endpoints, last_body, roles_of, served_of, units_of}
use Rattle.endpoint_grammar.specs.Values.{Derived, rules, written_units, role_list, role_lists, units_from}
use Rattle.endpoint_grammar.specs.Written.{Units, Roles}
use Rattle.endpoint_grammar.proofs.Clear.{rules_clear, endpoints_clear}
use Rattle.endpoint_units.specs.Wholes.{IsWritten, IsRefusal}
use Rattle.canonical_laws.specs.Symbols.{each, listed, listed_after}
use Rattle.endpoint_code.specs.declared.code.CodeId.{CodeId}
use Rattle.endpoint_code.specs.declared.endpoints.Channel.{Channel}
use Rattle.endpoint_code.specs.declared.endpoints.Procedure.{Procedure}
use Rattle.endpoint_code.specs.declared.endpoints.ServiceCode.{ServiceCode}
use Rattle.endpoint_code.specs.declared.endpoints.Process.{Process}
use Rattle.endpoint_code.specs.declared.endpoints.Endpoints.{Endpoints}
use Rattle.endpoint_code.specs.Trees.{code_at}
use Rattle.endpoint_text.specs.Text.{endpoints_text}
use Rattle.endpoint_laws.specs.Symbols.{name, ordered_at, body_symbols, channel_symbols, procedure_symbols, service_symbols, process_symbols, endpoints_symbols}
use Rattle.endpoint_laws.specs.Spelled.{AreNamed, IsBodySpelled, IsChannelSpelled, IsProcedureSpelled, IsServiceSpelled, IsProcessSpelled, AreSpelled}
use Rattle.endpoint_laws.proofs.SymbolOrdering.{ordered_spelled}
use Rattle.endpoint_laws.proofs.Cutting.{has_symbols, says_them}
use Rattle.endpoint_laws.specs.Limits.{IsBodyWithin, IsChannelWithin, IsProcedureWithin, AreWithin}
use Rattle.endpoint_laws.specs.Says.{AllName, BodySays, UnitsSay, AreUnitsOf}
use Rattle.endpoint_laws.specs.PrintedLaws.{AreWritable, HaveUnits}
use Rattle.endpoint_laws.proofs.SymbolReading.{Say, first, Reads, mark_reads, word_reads, after_reads, room, name_reads, sessions_read}
use Rattle.endpoint_laws.proofs.PrintedBodies.{code_reads}
use Rattle.endpoint_laws.proofs.LimitOrdering.{ordered_fits}

module _ (e : Endpoints) where
  -- ---- the roles of a channel

  -- service roles, the first of which is x
  served_read : (n : ℕ) (x : NameId) (xs : List NameId) → AreNamed e (x ∷ xs) → length (x ∷ xs) ≤ n → {ls : List Lexeme} {ss : List Symbol} → Say ls (listed (name e) (x ∷ xs) (mark CloseParen ∷ ss))
      → Reads (served_of n) (λ v. AllName e (x ∷ xs) (role_list n v)) ls ss
  served_read n x [] h few {ls} k =
      let a = name_reads e x h.0 k in
      let d = mark_reads refl a.others in
      record { value = (a.value, inr tt); rest = d.rest; is = in_turn (with_room (room ls (omega (arith, few))) a.is) (the_second d.is); says = (a.says, tt); others = d.others }
  served_read n x (y ∷ ys) h few {ls} k =
      let a = name_reads e x h.0 k in
      let f = first a.others in
      let r = after_reads {n = served (n - 1)} {P = λ v. AllName e (y ∷ ys) v} f refl (served_read (n - 1) y ys h.1 (omega (arith, few)) f.others) in
      record { value = (a.value, inl r.value); rest = r.rest; is = in_turn (with_room (room ls (omega (arith, few))) a.is) (the_first r.is); says = (a.says, r.says); others = r.others }

  abbrev RolesSay : List NameId → List NameId → Roles → Type 0
  RolesSay xs ys rs = AllName e xs rs.active × AllName e ys rs.serve

  -- active roles, the first of which is x, and service roles
  roles_read : (n : ℕ) (x : NameId) (xs ys : List NameId) → AreNamed e (x ∷ xs) → AreNamed e ys → length (x ∷ xs) + length ys ≤ n → {ls : List Lexeme} {ss : List Symbol}
      → Say ls (listed (name e) (x ∷ xs) (listed_after (mark Bar) (name e) ys (mark CloseParen ∷ ss))) → Reads (roles_of n) (λ v. RolesSay (x ∷ xs) ys (role_lists n v)) ls ss
  roles_read n x [] [] h i few {ls} k =
      let a = name_reads e x h.0 k in
      let d = mark_reads refl a.others in
      record { value = (a.value, inr (inr tt)); rest = d.rest; is = in_turn (with_room (room ls (omega (arith, few))) a.is) (the_second (the_second d.is)); says = ((a.says, tt), tt); others = d.others }
  roles_read n x [] (y ∷ ys) h i few {ls} k =
      let a = name_reads e x h.0 k in
      let f = first a.others in
      let r = after_reads {n = served (n - 1)} {P = λ v. AllName e (y ∷ ys) v} f refl (served_read (n - 1) y ys i (omega (arith, few)) f.others) in
      record { value = (a.value, inr (inl r.value)); rest = r.rest; is = in_turn (with_room (room ls (omega (arith, few))) a.is) (the_second (the_first r.is)); says = ((a.says, tt), r.says); others = r.others }
  roles_read n x (z ∷ xs) ys h i few {ls} k =
      let a = name_reads e x h.0 k in
      let f = first a.others in
      let r = after_reads {n = roles (n - 1)} {P = λ v. RolesSay (z ∷ xs) ys v} f refl (roles_read (n - 1) z xs ys h.1 i (omega (arith, few)) f.others) in
      record { value = (a.value, inl r.value); rest = r.rest; is = in_turn (with_room (room ls (omega (arith, few))) a.is) (the_first r.is); says = ((a.says, r.says.0), r.says.1); others = r.others }

module _ (e : Endpoints) (dn : AllDistinct e.names) (dt : AllDistinct e.texts) where
  -- ---- units

  -- what the units from some place on say
  abbrev Rest : ℕ → List Channel → List Procedure → List ServiceCode → List Process → List Lexeme → Type 0
  Rest q cs ps ss qs ls = Reads (units_of q) (λ v. UnitsSay e cs ps ss qs (units_from q v)) ls []

  -- a body, and the units after it
  record Whole (q : ℕ) (id : CodeId) (cs : List Channel) (ps : List Procedure) (ss : List ServiceCode) (qs : List Process) (ls : List Lexeme) : Type 0 where
    value : Derived (last_body q)
    rest : List Lexeme
    is : Derives rules nowhere (last_body q) ls value rest
    body : BodySays e (ordered_at e id) value.0
    units : UnitsSay e cs ps ss qs value.1
    others : Say rest []

  whole_reads : (q : ℕ) (id : CodeId) → IsBodySpelled e id → IsBodyWithin e id → {cs : List Channel} {ps : List Procedure} {ss : List ServiceCode} {qs : List Process} {ls : List Lexeme} {more : List Symbol}
      → Say ls (body_symbols e id more) → ((us : List Lexeme) → Say us more → Rest q cs ps ss qs us) → Whole q id cs ps ss qs ls
  whole_reads q id h i {cs} {ps} {ss} {qs} k go =
      let c = ordered_at e id in
      let f = first k in
      let b = after_reads {n = lines 1024} {P = λ v. BodySays e c v} f refl (code_reads e dn dt 1024 c (ordered_spelled e (code_at e.code.nodes id) h) (ordered_fits e 1024 (code_at e.code.nodes id) i) f.others) in
      let g = first b.others in
      let r = after_reads {n = units q} {P = λ v. UnitsSay e cs ps ss qs v} g refl (go g.rest g.others) in
      record { value = (b.value, r.value); rest = r.rest; is = in_turn b.is r.is; body = b.says; units = r.says; others = r.others }

  end_reads : (q : ℕ) {ls : List Lexeme} → Say ls (last ∷ []) → Rest q [] [] [] [] ls
  end_reads q k =
      let f = first k in
      record {
        value = inr (inr (inr (inr tt)));
        rest = f.rest;
        is = the_second (the_second (the_second (the_second (is_one f.token f.parts (subst (λ (s : Symbol). is_of the_end s ≡ true) (sym f.is) refl)))));
        says = record { channels = tt; procedures = tt; services = tt; processes = tt };
        others = f.others;
      }

  processes_read : (q : ℕ) (qs : List Process) → AllByRecursion (IsProcessSpelled e) qs → AllByRecursion (λ p. IsBodyWithin e p.body) qs → length qs ≤ q → {ls : List Lexeme}
      → Say ls (each (process_symbols e) qs (last ∷ [])) → Rest q [] [] [] qs ls
  processes_read q [] h i few k = end_reads q k
  processes_read q (p ∷ qs) h i few k =
      let w = word_reads refl k in
      let x = name_reads e p.name h.0.0 w.others in
      let b = whole_reads (q - 1) p.body h.0.1 i.0 x.others (λ us s. processes_read (q - 1) qs h.1 i.1 (omega (arith, few)) s) in
      record {
        value = inr (inr (inr (inl (tt, (x.value, b.value)))));
        rest = b.rest;
        is = the_second (the_second (the_second (the_first (in_turn w.is (in_turn (with_room (room w.rest (omega (arith, few))) x.is) b.is)))));
        says = record { channels = b.units.channels; procedures = b.units.procedures; services = b.units.services; processes = (record { name = x.says; body = b.body }, b.units.processes) };
        others = b.others;
      }

  -- what comes after the services, and so on
  abbrev After : List Process → Type 0
  After qs = (ls : List Lexeme) → Say ls (each (process_symbols e) qs (last ∷ [])) → Rest 64 [] [] [] qs ls

  services_read : (ss : List ServiceCode) (qs : List Process) → AllByRecursion (IsServiceSpelled e) ss → AllByRecursion (λ s. IsBodyWithin e s.body) ss → After qs → {ls : List Lexeme}
      → Say ls (each (service_symbols e) ss (each (process_symbols e) qs (last ∷ []))) → Rest 64 [] [] ss qs ls
  services_read [] qs h i go {ls} k = go ls k
  services_read (s ∷ ss) qs h i go k =
      let w = word_reads refl k in
      let x = name_reads e s.channel h.0.0 w.others in
      let o = mark_reads refl x.others in
      let y = name_reads e s.role h.0.1 o.others in
      let d = mark_reads refl y.others in
      let b = whole_reads 64 s.body h.0.2 i.0 d.others (λ us t. services_read ss qs h.1 i.1 go t) in
      record {
        value = inr (inr (inl (tt, ((x.value, (tt, (y.value, tt))), b.value))));
        rest = b.rest;
        is = the_second (the_second (the_first (in_turn w.is (in_turn (in_turn x.is (in_turn o.is (in_turn y.is d.is))) b.is))));
        says = record { channels = b.units.channels; procedures = b.units.procedures; services = (record { channel = x.says; role = y.says; body = b.body }, b.units.services); processes = b.units.processes };
        others = b.others;
      }

  abbrev Later : List ServiceCode → List Process → Type 0
  Later ss qs = (ls : List Lexeme) → Say ls (each (service_symbols e) ss (each (process_symbols e) qs (last ∷ []))) → Rest 64 [] [] ss qs ls

  procedures_read : (ps : List Procedure) (ss : List ServiceCode) (qs : List Process) → AllByRecursion (IsProcedureSpelled e) ps → AllByRecursion (IsProcedureWithin e) ps → Later ss qs → {ls : List Lexeme}
      → Say ls (each (procedure_symbols e) ps (each (service_symbols e) ss (each (process_symbols e) qs (last ∷ [])))) → Rest 64 [] ps ss qs ls
  procedures_read [] ss qs h i go {ls} k = go ls k
  procedures_read (p ∷ ps) ss qs h i go k =
      let w = word_reads refl k in
      let x = name_reads e p.name h.0.0 w.others in
      let y = name_reads e p.param h.0.1 x.others in
      let o = mark_reads refl y.others in
      let r = sessions_read e p.sessions h.0.2 i.0.0 o.others in
      let d = mark_reads refl r.others in
      let b = whole_reads 64 p.body h.0.3 i.0.1 d.others (λ us t. procedures_read ps ss qs h.1 i.1 go t) in
      record {
        value = inr (inl (tt, (((x.value, y.value), (tt, (r.value, tt))), b.value)));
        rest = b.rest;
        is = the_second (the_first (in_turn w.is (in_turn (in_turn (in_turn x.is y.is) (in_turn o.is (in_turn r.is d.is))) b.is)));
        says = record { channels = b.units.channels; procedures = (record { name = x.says; param = y.says; sessions = r.says; body = b.body }, b.units.procedures); services = b.units.services; processes = b.units.processes };
        others = b.others;
      }

  abbrev Last : List Procedure → List ServiceCode → List Process → Type 0
  Last ps ss qs = (ls : List Lexeme) → Say ls (each (procedure_symbols e) ps (each (service_symbols e) ss (each (process_symbols e) qs (last ∷ [])))) → Rest 64 [] ps ss qs ls

  -- the roles of a channel, of which there are some
  channel_roles : (xs ys : List NameId) → AreNamed e xs → AreNamed e ys → 0 < length xs → length xs + length ys ≤ 16 → {ls : List Lexeme} {ss : List Symbol}
      → Say ls (listed (name e) xs (listed_after (mark Bar) (name e) ys (mark CloseParen ∷ ss))) → Reads (roles_of 16) (λ v. RolesSay e xs ys (role_lists 16 v)) ls ss
  channel_roles [] ys h i some few k = absurd (omega (arith, some))
  channel_roles (x ∷ xs) ys h i some few k = roles_read e 16 x xs ys h i few k

  channels_read : (cs : List Channel) (ps : List Procedure) (ss : List ServiceCode) (qs : List Process) → AllByRecursion (IsChannelSpelled e) cs → AllByRecursion IsChannelWithin cs → Last ps ss qs → {ls : List Lexeme}
      → Say ls (each (channel_symbols e) cs (each (procedure_symbols e) ps (each (service_symbols e) ss (each (process_symbols e) qs (last ∷ []))))) → Rest 64 cs ps ss qs ls
  channels_read [] ps ss qs h i go {ls} k = go ls k
  channels_read (c ∷ cs) ps ss qs h i go k =
      let w = word_reads refl k in
      let x = name_reads e c.name h.0.0 w.others in
      let f = first x.others in
      let r = after_reads {n = roles 16} {P = λ v. RolesSay e c.active c.serve v} f refl (channel_roles c.active c.serve h.0.1 h.0.2 i.0.0 i.0.1 f.others) in
      let g = first r.others in
      let b = after_reads {n = units 64} {P = λ v. UnitsSay e cs ps ss qs v} g refl (channels_read cs ps ss qs h.1 i.1 go g.others) in
      record {
        value = inl (tt, (x.value, (r.value, b.value)));
        rest = b.rest;
        is = the_first (in_turn w.is (in_turn x.is (in_turn r.is b.is)));
        says = record { channels = (record { name = x.says; active = r.says.0; serve = r.says.1 }, b.says.channels); procedures = b.says.procedures; services = b.says.services; processes = b.says.processes };
        others = b.others;
      }

  -- ---- whole files

  nothing_left : (ls : List Lexeme) → Say ls [] → ls ≡ []
  nothing_left [] h = refl
  nothing_left (l ∷ ls) h = let k = h.are in absurd cc

  file_reads : (ls : List Lexeme) → AreSpelled e → AreWithin e → Say ls (endpoints_symbols e) → HaveUnits e ls
  file_reads ls h i k =
      let w = word_reads refl k in
      let n = first w.others in
      let f = first n.others in
      let processes : After e.processes = λ us s. processes_read 64 e.processes h.processes i.processes i.few s in
      let services : Later e.services e.processes = λ us s. services_read e.services e.processes h.services i.services processes s in
      let procedures : Last e.procedures e.services e.processes = λ us s. procedures_read e.procedures e.services e.processes h.procedures i.procedures services s in
      let all = channels_read e.channels e.procedures e.services e.processes h.channels i.channels procedures f.others in
      let b = after_reads {n = units 64} {P = AreUnitsOf e} f refl all in
      let one : is_of (exactly 1) n.token.symbol ≡ true = subst (λ (s : Symbol). is_of (exactly 1) s ≡ true) (sym n.is) refl in
      let is = subst (λ (us : List Lexeme). Derives rules nowhere endpoints ls (tt, (tt, b.value)) us) (nothing_left b.rest b.others) (in_turn w.is (in_turn (is_one n.token n.parts one) b.is)) in
      record { units = b.value; written = record { value = (tt, (tt, b.value)); is = is; units = refl }; say = b.says }

pub units_are_written : (e : Endpoints) (ls : List Lexeme) → AreWritable e → map (λ l. l.symbol) ls ≡ endpoints_symbols e → HaveUnits e ls
units_are_written e ls h k = file_reads e h.names h.texts ls h.spelled h.within (record { are = k })

pub text_has_units : (e : Endpoints) → AreWritable e → (ls : List Lexeme) × IsTokens (endpoints_text e) ls × HaveUnits e ls
text_has_units e h = let own = has_symbols e h.spelled in (own.0, own.1, units_are_written e own.0 h own.2)

-- one file at most
one_file : (ls : List Lexeme) (u v : Units) → IsWritten ls u → IsWritten ls v → u ≡ v
one_file ls u v a b = sym a.units ∙ ap written_units (unique _ rules_clear a.is b.is endpoints_clear (λ l us p i. cc) (λ l us p i. cc)).0 ∙ b.units

pub units_say_them : (e : Endpoints) (ls : List Lexeme) (u : Units) → AreWritable e → IsTokens (endpoints_text e) ls → IsWritten ls u → AreUnitsOf e u
units_say_them e ls u h tokens written =
    let own = units_are_written e ls h (says_them e ls h.spelled tokens) in
    subst (AreUnitsOf e) (one_file ls own.units u own.written written) own.say

pub tokens_are_taken : (e : Endpoints) (ls : List Lexeme) (f : Refusal) → AreWritable e → IsTokens (endpoints_text e) ls → IsRefusal ls (Refused f) → ⊥
tokens_are_taken e ls f h tokens refused =
    let own = units_are_written e ls h (says_them e ls h.spelled tokens) in
    never_both rules own.written.is refused.0
