-- What is made of a source and given programs, as a way through the row of `link`.
use Rattle.std.proofs.Common.{◌≡◌, ◌≤◌, inr, ℕ, List, [], ◌∷◌, sym, ap, ◌∙◌, subst}
use Rattle.std.specs.Prelude.{Vec, Err}
use Rattle.std.specs.declared.alloc.Global.{Global}
use Rattle.chor_host.specs.Functions.{Function, names_of}
use Rattle.chor_tree.specs.declared.file.File.{File}
use Rattle.chor_io.specs.Outside.{ShelfState}
use Rattle.command_words.specs.declared.options.Options.{Options}
use Rattle.command_words.specs.declared.words.Command.TheVariants.{Link}
use Rattle.endpoint_code.specs.declared.endpoints.Endpoints.{Endpoints}
use Rattle.endpoint_check.specs.Programs.{ViolatesPrograms}
use Rattle.projection.specs.Projects.{Projects}
use Rattle.accepted_links.specs.Linked.{AreToLink, AreLinkedPrograms}
use Rattle.simulation.specs.Accepted.{AcceptedView}
use Rattle.simulation.specs.Capacity.{capacity_of}
use Rattle.source_check.specs.declared.rules.Rules.TheVariants.{All}
use Rattle.source_check.specs.Source.{Violates}
use Rattle.chor_cmd.specs.declared.status.Status.{Status}
use Rattle.chor_cmd.specs.declared.status.Status.TheVariants as status
use Rattle.chor_cmd.specs.declared.ending.Stop.{Stop}
use Rattle.chor_cmd.specs.declared.linking.Linking.{Linking}
use Rattle.chor_cmd.specs.declared.linking.Linking.TheVariants.{Linked, Unsuited}
use Rattle.chor_cmd.specs.Endings.{Told, MayTell, Goes}
use Rattle.chor_cmd.specs.Linkings.{IsLinkingOf, HasLinked}
use Rattle.chor_cmd.specs.Outputs.{TellsRun}
use Rattle.chor_cmd.specs.Rows.{Row, Closes, IsFineSource, ArePrograms, Links, runs, clashes, source_limit, programs_limit, after_programs, row_of}
use Rattle.chor_cmd.specs.Stops.{HasFetchedSource, HasFetchedPrograms, IsUnread, IsStop}
use Rattle.chor_cmd.proofs.Exits.{stops_judging, goes_on}

module _ (functions : List Function) (before : ShelfState) (name units_name : List ℕ) where
  abbrev words : List (List ℕ)
  words = names_of functions

  abbrev names : List (List ℕ)
  names = name ∷ units_name ∷ []

  pub linked_hosts : (a : AcceptedView) → HasLinked functions before name units_name (Linked a) → a.typed.hosts ≡ words
  linked_hosts a h = ap (λ t. t.hosts) h.linked.0 ∙ h.hosts

  -- what a call ends with
  module _ (options : Options) where
    go_on : (l : Linking) (h : HasLinked functions before name units_name l) (s : Status) (t : List ℕ) → Links functions options h.source h.units s t → Goes (MayTell before.files) names (row_of functions (Link options)) s t
    go_on l h s t says =
        (h.source, h.source_read.0, inr (h.source_read.1, inr ((h.accepted.typed.file, h.input.accepted), (h.units, h.units_read.0, inr (h.units_read.1, inr ((h.given, h.input.programs), says))))))

    pub linked_runs : (a : AcceptedView) → HasLinked functions before name units_name (Linked a) → (text : List ℕ) → TellsRun functions a.typed.file a.endpoints (capacity_of a.typed.file) options text
        → Goes (MayTell before.files) names (row_of functions (Link options)) status.Done text
    linked_runs a h text tells =
        let input = subst (λ (f : File). AreToLink functions h.source h.units f h.accepted.endpoints h.given) (sym (ap (λ t. t.file) h.linked.0)) h.input in
        let programs : AreLinkedPrograms functions h.source h.units a.typed.file a.endpoints = record { projection = h.accepted.endpoints; given = h.given; input = input; links = h.linked.1 } in
        go_on (Linked a) h status.Done text (runs (record { file = a.typed.file; linked = a.endpoints; programs = programs; tells = tells }))

    pub unsuited_is_refused : (line : Vec ℕ Global) → HasLinked functions before name units_name (Unsuited line) → Goes (MayTell before.files) names (row_of functions (Link options)) status.Refused line.items
    unsuited_is_refused line h =
        let u = h.linked in
        go_on (Unsuited line) h status.Refused line.items
        (clashes (record { file = h.accepted.typed.file; projection = h.accepted.endpoints; given = h.given; input = h.input; rule = u.rule; unit = u.unit; first = u.first; line_is = u.line_is }))

  -- the files that were read
  module _ (a : AcceptedView) (now : ShelfState) (read : HasFetchedSource All words before name a.typed.file) (same : now.files ≡ before.files) where
    pub has_linked : (given : Endpoints) (l : Linking) → a.typed.hosts ≡ words → Projects a.typed.file a.endpoints → HasFetchedPrograms words now units_name given → IsLinkingOf a given l → HasLinked functions before name units_name l
    has_linked given l hosts projects (bytes, units_read, are) linked = record {
      source = read.0;
      units = bytes;
      accepted = a;
      hosts = hosts;
      given = given;
      source_read = read.1;
      units_read = (subst (λ (files : Told). MayTell files units_name bytes) same units_read.0, units_read.1);
      input = record { accepted = read.2; projects = projects; programs = are };
      linked = linked;
    }

    -- programs that weren't read or are refused
    pub units_stop : (after : ShelfState) → ((other : List ℕ) → before.faults other ≤ now.faults other) → (stop : Stop) → IsUnread programs_limit (ViolatesPrograms words) now after units_name stop
        → (options : Options) → IsStop (row_of functions (Link options)) names before after stop
    units_stop after rises stop why options =
        let next : List ℕ → List ℕ → Row = λ source units. Closes (Links functions options source units) in
        goes_on source_limit before after name (units_name ∷ []) (IsFineSource functions All) (Violates All words) (λ source. after_programs functions (next source)) read.0 now read.1 (a.typed.file, read.2) same rises
        (Err stop) (stops_judging programs_limit now after units_name [] (ArePrograms functions) (ViolatesPrograms words) (next read.0) stop why)

  -- a source that wasn't read or is refused
  pub source_stop : (after : ShelfState) (stop : Stop) → IsUnread source_limit (Violates All words) before after name stop → (options : Options) → IsStop (row_of functions (Link options)) names before after stop
  source_stop after stop why options =
      stops_judging source_limit before after name (units_name ∷ []) (IsFineSource functions All) (Violates All words) (λ source. after_programs functions (λ units. Closes (Links functions options source units))) stop why
