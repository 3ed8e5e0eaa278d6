-- Programs that were read from the same bytes are the same.
use Rattle.std.proofs.Common.{◌≡◌, ℕ, List, [], ◌∷◌, map, sym, ap, ◌∙◌, subst}
use Rattle.std.specs.Prelude.{All}
use Rattle.std.specs.List.{AllZip}
use Rattle.std.proofs.lemmas.List.Elements.{All-head, All-tail}
use Rattle.chor_base.specs.Words.{AllDistinct}
use Rattle.chor_lexer.proofs.DistinctTables.{distinct_names, distinct_texts}
use Rattle.endpoint_grammar.specs.Written as unit
use Rattle.endpoint_reader.specs.declared.input.Input.{Input}
use Rattle.endpoint_reader.specs.declared.lines.LineId.{LineId}
use Rattle.endpoint_reader.specs.declared.lines.Line.{Line}
use Rattle.endpoint_reader.specs.declared.written.Channel.{Channel}
use Rattle.endpoint_reader.specs.declared.written.Procedure.{Procedure}
use Rattle.endpoint_reader.specs.declared.written.Service.{Service}
use Rattle.endpoint_reader.specs.declared.written.Process.{Process}
use Rattle.endpoint_reader.specs.declared.written.Written.{Written}
use Rattle.endpoint_reader.specs.Known.{IsThere, AreRolesThere, IsSignatureThere, AreLinesThere}
use Rattle.endpoint_reader.specs.Lines as text
use Rattle.endpoint_reader.specs.Units.{channel_unit, procedure_unit, service_unit, process_unit}
use Rattle.endpoint_reader.specs.Files.{units_written}
use Rattle.endpoint_names.specs.Bodies.{body_at}
use Rattle.endpoint_making.specs.Codes.{code_id, code_of}
use Rattle.endpoint_making.specs.Making.{channel_made, procedure_made, service_made, process_made, IsMadeOf}
use Rattle.endpoint_code.specs.declared.endpoints.Endpoints.{Endpoints}
use Rattle.endpoint_code.specs.Trees.{CodeTree, code_at}
use Rattle.endpoint_check.specs.Programs.{AreProgramsOf}
use Rattle.endpoint_laws.proofs.Verdicts.{one_text}
use Rattle.endpoint_laws.proofs.Bodies.{code_same}
use Rattle.endpoint_laws.proofs.Files.{made_is_faultless}
use Rattle.endpoint_laws.proofs.Trees.{bodies_written}
use Rattle.endpoint_laws.specs.Reading.{written_body}
use Rattle.same_programs.specs.Codes.{SameCode}
use Rattle.same_programs.specs.Programs.{SameCodeAt, SameChannel, SameProcedure, SameService, SameProcess, SamePrograms, IsCopy}
use Rattle.endpoint_laws.proofs.There.{body_there}
use Rattle.projected_programs.proofs.SameTerms.{HaveTables, N, T, name_same, names_same}
use Rattle.projected_programs.proofs.SameCodes.{body_same}

module _ (hosts : List (List ℕ)) {e f : Endpoints} {i j : Input} (tables : HaveTables e f i j) (w v : Written)
    (made : IsMadeOf w i.names.now i.texts.now e) (other : IsMadeOf v j.names.now j.texts.now f)
    (there : AreLinesThere i w.lines.items) (over_there : AreLinesThere j v.lines.items) where
  abbrev ls : List Line
  ls = w.lines.items

  abbrev ms : List Line
  ms = v.lines.items

  code_at_same : (x y : LineId) → text.body_at i ls x ≡ text.body_at j ms y → SameCodeAt e f (code_id x) (code_id y)
  code_at_same x y s =
      let b = body_at ls x in
      let c = body_at ms y in
      let said : written_body i b ≡ written_body j c = bodies_written i ls x ∙ s ∙ sym (bodies_written j ms y) in
      let same = body_same tables b c (body_there i ls there x) (body_there j ms over_there y) said in
      let first : code_at e.code.nodes (code_id x) ≡ code_of b = code_same w i.names.now i.texts.now hosts e made x in
      let second : code_at f.code.nodes (code_id y) ≡ code_of c = code_same v j.names.now j.texts.now hosts f other y in
      subst (λ (t : CodeTree). SameCode (N tables) (T tables) t (code_at f.code.nodes (code_id y))) (sym first)
      (subst (λ (t : CodeTree). SameCode (N tables) (T tables) (code_of b) t) (sym second) same)

  channel_same : (c d : Channel) → IsThere i c.name × AreRolesThere i c.roles → IsThere j d.name × AreRolesThere j d.roles → channel_unit i c ≡ channel_unit j d
      → SameChannel e f (channel_made c) (channel_made d)
  channel_same c d g o s = record {
    name = name_same tables c.name d.name g.0 o.0 (ap (λ (u : unit.Channel). u.name) s);
    active = names_same tables c.roles.active d.roles.active g.1.0 o.1.0 (ap (λ (u : unit.Channel). u.roles.active) s);
    serve = names_same tables c.roles.serve d.roles.serve g.1.1 o.1.1 (ap (λ (u : unit.Channel). u.roles.serve) s);
  }

  procedure_same : (p q : Procedure) → IsSignatureThere i p.signature → IsSignatureThere j q.signature → procedure_unit i ls p ≡ procedure_unit j ms q
      → SameProcedure e f (procedure_made p) (procedure_made q)
  procedure_same p q g o s = record {
    name = name_same tables p.signature.name q.signature.name g.0 o.0 (ap (λ (u : unit.Procedure). u.name) s);
    param = name_same tables p.signature.param q.signature.param g.1 o.1 (ap (λ (u : unit.Procedure). u.param) s);
    sessions = names_same tables p.signature.sessions q.signature.sessions g.2 o.2 (ap (λ (u : unit.Procedure). u.sessions) s);
    body = code_at_same p.body q.body (ap (λ (u : unit.Procedure). u.body) s);
  }

  service_same : (x y : Service) → IsThere i x.channel × IsThere i x.role → IsThere j y.channel × IsThere j y.role → service_unit i ls x ≡ service_unit j ms y
      → SameService e f (service_made x) (service_made y)
  service_same x y g o s = record {
    channel = name_same tables x.channel y.channel g.0 o.0 (ap (λ (u : unit.Service). u.channel) s);
    role = name_same tables x.role y.role g.1 o.1 (ap (λ (u : unit.Service). u.role) s);
    body = code_at_same x.body y.body (ap (λ (u : unit.Service). u.body) s);
  }

  process_same : (p q : Process) → IsThere i p.name → IsThere j q.name → process_unit i ls p ≡ process_unit j ms q → SameProcess e f (process_made p) (process_made q)
  process_same p q g o s = record {
    name = name_same tables p.name q.name g o (ap (λ (u : unit.Process). u.name) s);
    body = code_at_same p.body q.body (ap (λ (u : unit.Process). u.body) s);
  }

-- lists of units that are written alike, where units that are written alike are made into the same
made_alike : {W U M : Type 0} (P Q : W → Type 0) (f g : W → U) (make : W → M) (R : M → M → Type 0) → ((x y : W) → P x → Q y → f x ≡ g y → R (make x) (make y))
    → (xs ys : List W) → All P xs → All Q ys → map f xs ≡ map g ys → AllZip R (map make xs) (map make ys)
made_alike P Q f g make R each [] [] a b s = tt
made_alike P Q f g make R each [] (y ∷ ys) a b s = absurd cc
made_alike P Q f g make R each (x ∷ xs) [] a b s = absurd cc
made_alike P Q f g make R each (x ∷ xs) (y ∷ ys) a b s =
    let first : f x ≡ g y = cc in
    let rest : map f xs ≡ map g ys = cc in
    (each x y (All-head P x xs a) (All-head Q y ys b) first, made_alike P Q f g make R each xs ys (All-tail P x xs a) (All-tail Q y ys b) rest)

module _ (hosts : List (List ℕ)) (bytes : List ℕ) (e f : Endpoints) (p : AreProgramsOf hosts bytes e) (q : AreProgramsOf hosts bytes f) where
  abbrev i : Input
  i = p.input

  abbrev j : Input
  j = q.input

  abbrev w : Written
  w = p.written

  abbrev v : Written
  v = q.written

  tables : HaveTables e f i j
  tables = record { names = p.made.names_are; texts = p.made.texts_are; other_names = q.made.names_are; other_texts = q.made.texts_are }

  same_units : units_written i w ≡ units_written j v
  same_units = (one_text hosts bytes e f p q).units

  -- lists that are the same, made of what was written
  both_made : {X : Type 0} (R : X → X → Type 0) (xs ys us vs : List X) → xs ≡ us → ys ≡ vs → AllZip R us vs → AllZip R xs ys
  both_made R xs ys us vs a b h = subst (λ zs. AllZip R zs ys) (sym a) (subst (AllZip R us) (sym b) h)

  pub are_same : SamePrograms e f
  are_same =
      let lines = p.fine.there.lines in
      let others = q.fine.there.lines in
      let channels = made_alike _ _ (channel_unit i) (channel_unit j) channel_made (SameChannel e f) (channel_same hosts tables w v p.made q.made lines others) w.channels v.channels p.fine.there.channels q.fine.there.channels (ap (λ (u : unit.Units). u.channels) same_units) in
      let procedures = made_alike _ _ (procedure_unit i w.lines.items) (procedure_unit j v.lines.items) procedure_made (SameProcedure e f) (procedure_same hosts tables w v p.made q.made lines others) w.procedures v.procedures p.fine.there.procedures q.fine.there.procedures (ap (λ (u : unit.Units). u.procedures) same_units) in
      let services = made_alike _ _ (service_unit i w.lines.items) (service_unit j v.lines.items) service_made (SameService e f) (service_same hosts tables w v p.made q.made lines others) w.services v.services p.fine.there.services q.fine.there.services (ap (λ (u : unit.Units). u.services) same_units) in
      let processes = made_alike _ _ (process_unit i w.lines.items) (process_unit j v.lines.items) process_made (SameProcess e f) (process_same hosts tables w v p.made q.made lines others) w.processes v.processes p.fine.there.processes q.fine.there.processes (ap (λ (u : unit.Units). u.processes) same_units) in
      record {
        channels = both_made (SameChannel e f) e.channels f.channels (map channel_made w.channels) (map channel_made v.channels) p.made.channels q.made.channels channels;
        procedures = both_made (SameProcedure e f) e.procedures f.procedures (map procedure_made w.procedures) (map procedure_made v.procedures) p.made.procedures q.made.procedures procedures;
        services = both_made (SameService e f) e.services f.services (map service_made w.services) (map service_made v.services) p.made.services q.made.services services;
        processes = both_made (SameProcess e f) e.processes f.processes (map process_made w.processes) (map process_made v.processes) p.made.processes q.made.processes processes;
      }

  pub are_copies : IsCopy e f
  are_copies = record {
    same = are_same;
    faultless = made_is_faultless w i.names.now i.texts.now hosts e p.made p.fine.faultless;
    words = record { names = subst AllDistinct (sym p.made.names_are) (distinct_names p.tokens); texts = subst AllDistinct (sym p.made.texts_are) (distinct_texts p.tokens) };
    copied_words = record { names = subst AllDistinct (sym q.made.names_are) (distinct_names q.tokens); texts = subst AllDistinct (sym q.made.texts_are) (distinct_texts q.tokens) };
  }
