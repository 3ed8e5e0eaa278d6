-- The units of a file stand in some table of lines.
use Rattle.std.proofs.Common.{◌≡◌, ◌<◌, ℕ, List, [], ◌∷◌, length, map, refl, sym, ◌∙◌, subst}
use Rattle.std.specs.Prelude.{All}
use Rattle.std.specs.List.{AllByRecursion}
use Rattle.std.proofs.lemmas.List.Elements.{All-nil, All-cons, All-head, All-tail, All-weaker}
use Rattle.endpoint_grammar.specs.Written.{Body, Units, Channel as ChannelText, Procedure as ProcedureText, Service as ServiceText, Process as ProcessText}
use Rattle.endpoint_reader.specs.declared.input.Input.{Input}
use Rattle.endpoint_reader.specs.declared.lines.LineId.{LineId}
use Rattle.endpoint_reader.specs.declared.lines.Line.{Line}
use Rattle.endpoint_reader.specs.declared.written.Channel.{Channel}
use Rattle.endpoint_reader.specs.declared.written.Procedure.{Procedure}
use Rattle.endpoint_reader.specs.declared.written.Service.{Service}
use Rattle.endpoint_reader.specs.declared.written.Process.{Process}
use Rattle.endpoint_reader.specs.declared.written.Written.{Written}
use Rattle.endpoint_reader.specs.Lines.{body_at}
use Rattle.endpoint_reader.specs.Bodies.{Grows}
use Rattle.endpoint_reader.specs.Files.{units_written}
use Rattle.endpoint_reader.specs.Units.{channel_unit, procedure_unit, service_unit, process_unit}
use Rattle.endpoint_reader.specs.Known.{IsThere, IsLineThere, AreRolesThere, IsSignatureThere, IsWrittenThere}
use Rattle.endpoint_reader.proofs.Tables.{grows_none, grows_on, no_fewer, body_stays}
use Rattle.endpoint_laws.proofs.Naming.{IsBodyNamed, IsChannelNamed, IsProcedureNamed, IsServiceNamed, IsProcessNamed, AreUnitsNamed}
use Rattle.projected_programs.proofs.Terms.{name_of, names_of, name_same, name_there, names_same, names_there}
use Rattle.projected_programs.proofs.Laid.{IsTable, laid}

-- a kind of units with bodies: U as they are written, X as they are read
record Kind (i : Input) (U X : Type 0) : Type 1 where
  Named : U → Type 0
  There : X → Type 0
  text : U → Body
  start : X → LineId
  unit : List Line → X → U
  make : U → LineId → X
  starts : (u : U) (id : LineId) → start (make u id) ≡ id
  named : (u : U) → Named u → IsBodyNamed i.names.now i.texts.now (text u)
  there : (u : U) (id : LineId) → Named u → There (make u id)
  same : (ls : List Line) (u : U) (id : LineId) → Named u → body_at i ls id ≡ text u → unit ls (make u id) ≡ u
  stays : (old new : List Line) (x : X) → Grows old new → (start x).0 < length old → unit new x ≡ unit old x

module _ (i : Input) {U X : Type 0} (k : Kind i U X) where
  -- their lines, after older ones
  record LaidAll (old : List Line) (us : List U) : Type 0 where
    lines : List Line
    units : List X
    grows : Grows old lines
    table : IsTable i lines
    inside : All (λ x. (k.start x).0 < length lines) units
    are : map (k.unit lines) units ≡ us
    there : All k.There units

  laid_all : (old : List Line) → IsTable i old → (us : List U) → AllByRecursion k.Named us → LaidAll old us
  laid_all old table [] h = record {
    lines = old;
    units = [];
    grows = grows_none old;
    table = table;
    inside = All-nil (λ x. (k.start x).0 < length old);
    are = refl;
    there = All-nil k.There;
  }
  laid_all old table (u ∷ us) h =
      let l = laid i old table (k.text u) (k.named u h.0) in
      let r = laid_all l.lines l.table us h.1 in
      let x = k.make u l.root in
      let below : l.root.0 < length r.lines = no_fewer {id = l.root} r.grows l.inside in
      let body : body_at i r.lines l.root ≡ k.text u = body_stays {id = l.root} i r.grows l.inside ∙ l.is in
      let one : k.unit r.lines x ≡ u = k.same r.lines u l.root h.0 body in
      record {
        lines = r.lines;
        units = x ∷ r.units;
        grows = grows_on l.grows r.grows;
        table = r.table;
        inside = All-cons (λ y. (k.start y).0 < length r.lines) x r.units (subst (λ (id : LineId). id.0 < length r.lines) (sym (k.starts u l.root)) below) r.inside;
        are = λ j. one j ∷ r.are j;
        there = All-cons k.There x r.units (k.there u l.root h.0) r.there;
      }

  -- lines that are added leave them as they are
  still : (old new : List Line) (xs : List X) → Grows old new → All (λ x. (k.start x).0 < length old) xs → map (k.unit new) xs ≡ map (k.unit old) xs
  still old new [] g h = refl
  still old new (x ∷ xs) g h =
      let one = k.stays old new x g (All-head (λ y. (k.start y).0 < length old) x xs h) in
      let rest = still old new xs g (All-tail (λ y. (k.start y).0 < length old) x xs h) in λ j. one j ∷ rest j

  further : (old new : List Line) (xs : List X) → Grows old new → All (λ x. (k.start x).0 < length old) xs → All (λ x. (k.start x).0 < length new) xs
  further old new xs g h = All-weaker (λ x. (k.start x).0 < length old) (λ x. (k.start x).0 < length new) (λ x lt. no_fewer {id = k.start x} g lt) xs h

-- ---- the kinds

module _ (i : Input) where
  abbrev ns : List (List ℕ)
  ns = i.names.now

  abbrev xs : List (List ℕ)
  xs = i.texts.now

  procedures : Kind i ProcedureText Procedure
  procedures = record {
    Named = IsProcedureNamed ns xs;
    There = λ p. IsSignatureThere i p.signature;
    text = λ u. u.body;
    start = λ p. p.body;
    unit = procedure_unit i;
    make = λ u id. record { signature = record { name = name_of i u.name; param = name_of i u.param; sessions = names_of i u.sessions }; body = id };
    starts = λ u id. refl;
    named = λ u h. h.3;
    there = λ u id h. (name_there i u.name h.0, name_there i u.param h.1, names_there i u.sessions h.2);
    same = λ ls u id h e j. record { name = name_same i u.name h.0 j; param = name_same i u.param h.1 j; sessions = names_same i u.sessions h.2 j; body = e j };
    stays = λ old new p g lt j. record { name = (procedure_unit i old p).name; param = (procedure_unit i old p).param; sessions = (procedure_unit i old p).sessions; body = body_stays {id = p.body} i g lt j };
  }

  services : Kind i ServiceText Service
  services = record {
    Named = IsServiceNamed ns xs;
    There = λ s. IsThere i s.channel × IsThere i s.role;
    text = λ u. u.body;
    start = λ s. s.body;
    unit = service_unit i;
    make = λ u id. record { channel = name_of i u.channel; role = name_of i u.role; body = id };
    starts = λ u id. refl;
    named = λ u h. h.2;
    there = λ u id h. (name_there i u.channel h.0, name_there i u.role h.1);
    same = λ ls u id h e j. record { channel = name_same i u.channel h.0 j; role = name_same i u.role h.1 j; body = e j };
    stays = λ old new s g lt j. record { channel = (service_unit i old s).channel; role = (service_unit i old s).role; body = body_stays {id = s.body} i g lt j };
  }

  processes : Kind i ProcessText Process
  processes = record {
    Named = IsProcessNamed ns xs;
    There = λ p. IsThere i p.name;
    text = λ u. u.body;
    start = λ p. p.body;
    unit = process_unit i;
    make = λ u id. record { name = name_of i u.name; body = id };
    starts = λ u id. refl;
    named = λ u h. h.1;
    there = λ u id h. name_there i u.name h.0;
    same = λ ls u id h e j. record { name = name_same i u.name h.0 j; body = e j };
    stays = λ old new p g lt j. record { name = (process_unit i old p).name; body = body_stays {id = p.body} i g lt j };
  }

  -- ---- channels have no body

  channel : ChannelText → Channel
  channel c = record { name = name_of i c.name; roles = record { active = names_of i c.roles.active; serve = names_of i c.roles.serve } }

  channels_same : (cs : List ChannelText) → AllByRecursion (IsChannelNamed ns xs) cs → map (channel_unit i) (map channel cs) ≡ cs
  unfolding channel
  channels_same [] h = refl
  channels_same (c ∷ cs) h =
      let roles : channel_unit i (channel c) ≡ c = λ j. record { name = name_same i c.name h.0.0 j; roles = record { active = names_same i c.roles.active h.0.1.0 j; serve = names_same i c.roles.serve h.0.1.1 j } } in
      let rest = channels_same cs h.1 in λ j. roles j ∷ rest j

  channels_there : (cs : List ChannelText) → AllByRecursion (IsChannelNamed ns xs) cs → All (λ c. IsThere i c.name × AreRolesThere i c.roles) (map channel cs)
  unfolding channel
  channels_there [] h = All-nil (λ c. IsThere i c.name × AreRolesThere i c.roles)
  channels_there (c ∷ cs) h =
      All-cons (λ d. IsThere i d.name × AreRolesThere i d.roles) (channel c) (map channel cs) (name_there i c.name h.0.0, (names_there i c.roles.active h.0.1.0, names_there i c.roles.serve h.0.1.1)) (channels_there cs h.1)

  -- ---- files

  -- what is written so
  pub record IsRead (u : Units) : Type 0 where
    pub written : Written
    pub is : units_written i written ≡ u
    pub there : IsWrittenThere i written

  no_lines : IsTable i []
  no_lines = record { closed = λ n l h. absurd cc; there = All-nil (IsLineThere i) }

  pub read : (u : Units) → AreUnitsNamed ns xs u → IsRead u
  unfolding procedures services processes
  read u h =
      let a = laid_all i procedures [] no_lines u.procedures h.1 in
      let b = laid_all i services a.lines a.table u.services h.2 in
      let c = laid_all i processes b.lines b.table u.processes h.3 in
      let on = grows_on b.grows c.grows in
      let ps = still i procedures a.lines c.lines a.units on a.inside ∙ a.are in
      let ss = still i services b.lines c.lines b.units c.grows b.inside ∙ b.are in
      let cs = channels_same u.channels h.0 in
      let w : Written = record {
        lines = record { items = c.lines; closed = c.table.closed };
        channels = map channel u.channels;
        procedures = a.units;
        services = b.units;
        processes = c.units;
        inside = record {
          procedures = further i procedures a.lines c.lines a.units on a.inside;
          services = further i services b.lines c.lines b.units c.grows b.inside;
          processes = c.inside;
        };
      } in
      record {
        written = w;
        is = λ j. record { channels = cs j; procedures = ps j; services = ss j; processes = c.are j };
        there = record { lines = c.table.there; channels = channels_there u.channels h.0; procedures = a.there; services = b.there; processes = c.there };
      }
