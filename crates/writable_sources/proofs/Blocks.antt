-- Statements and blocks that tokens derive within the limits can be written.
use Rattle.std.proofs.Common.{ℕ, ◌<◌, ◌-◌, List, [], ◌∷◌, map}
use Rattle.std.specs.List.{AllByRecursion}
use Rattle.chor_base.specs.Expr.{Term}
use Rattle.chor_base.specs.declared.rule.Rule.TheVariants.{P3}
use Rattle.chor_lexer.specs.declared.token.Token.{Token}
use Rattle.chor_lexer.specs.Grammar.{ExprIs}
use Rattle.chor_lexer.specs.Spelling.{IsSource}
use Rattle.source_grammar.specs.Symbols.{nowhere}
use Rattle.source_grammar.specs.Expressions.{KeepsLength}
use Rattle.chor_tree.specs.declared.file.Named.{Named}
use Rattle.chor_tree.specs.declared.tree.Part.{Part}
use Rattle.chor_tree.specs.Source.{Statement, Block}
use Rattle.source_grammar.specs.Grammar.{NameIs, NamesAre, AnyNamesAre, no_names, some_names, PartIs, a_part, StatementIs, a_start, a_value, a_label, a_delegation, a_set, a_host_call, a_show, PassedSessionsAre, no_session_passed, sessions_passed, PassedAre, nothing_passed, processes_passed, BlockIs, a_block, LinesAre, a_line, a_tail, TailIs, an_end, a_call, a_conditional}
use Rattle.source_grammar.specs.Limits.{KeepsStatement, KeepsBlock, KeepsLines, KeepsTail}
use Rattle.canonical_laws.specs.Terms.{AllInStatement, AllInBlock}
use Rattle.canonical_laws.proofs.Cutting.{AreWords}
use Rattle.canonical_laws.proofs.Derived.{list_derived}
use Rattle.canonical_laws.proofs.Tokens.{Stands}
use Rattle.chor_semantics.specs.Sources.{name_ref, parts_of}
use Rattle.endpoint_code.specs.declared.endpoints.Endpoints.{Endpoints}
use Rattle.endpoint_laws.specs.Spelled.{IsNamed}
use Rattle.chor_semantics.specs.Blocks.{node_of, choreography_of}
use Rattle.writable_sources.specs.Written.{IsShortSource, IsNamedRef, IsWritableNode, IsWritableIn}
use Rattle.writable_sources.specs.Sources.{AreNamedThere}
use Rattle.writable_sources.proofs.Limits.{some_room, derived_all, term_short}

module _ (e : Endpoints) (words : AreWords e.names) where
  -- ---- names

  pub name_named : (n : Named) {us vs : List Token} → NameIs e.names us n vs → IsNamed e n.name
  name_named n d = let w = words n.name.0 d.is.word d.is.is in record { spelling = d.is.word; is = d.is.is; name = d.is.name; lexeme = w.0; short = w.1 }

  pub names_named : (ns : List Named) {us vs : List Token} → NamesAre e.names us ns vs → AreNamedThere e ns
  names_named ns d = derived_all {Item = NameIs e.names} (λ n. IsNamed e n.name) ns (λ us n vs i. name_named n i) (list_derived ns d)

  pub any_names_named : (ns : List Named) {us vs : List Token} → AnyNamesAre e.names us ns vs → AreNamedThere e ns
  any_names_named ns no_names = tt
  any_names_named ns (some_names d) = names_named ns d

  role_named : (p : Part) {us vs : List Token} → PartIs e.names us p vs → IsNamed e p.role.name
  role_named p (a_part {r = r} d1 d2 d3 d4) = name_named r d3

  process_named : (p : Part) {us vs : List Token} → PartIs e.names us p vs → IsNamed e p.process.name
  process_named p (a_part {p = q} d1 d2 d3 d4) = name_named q d1

  roles_named : (ps : List Part) → AllByRecursion (λ p. IsNamed e p.role.name) ps → AllByRecursion (λ p. IsNamed e p.1) (parts_of ps)
  roles_named [] h = tt
  roles_named (p ∷ ps) h = (h.0, roles_named ps h.1)

  refs_named : (ns : List Named) → AreNamedThere e ns → AllByRecursion (IsNamedRef e) (map name_ref ns)
  refs_named [] h = tt
  refs_named (n ∷ ns) h = (h.0, refs_named ns h.1)

  -- ---- statements

  term_written : (t : Term) {us vs : List Token} → ExprIs e.names us t vs → KeepsLength nowhere us vs → IsSource e.names e.texts t → IsShortSource e t
  term_written t {us} {vs} d keeps ok = (ok, term_short e.names e.texts us vs t d keeps)

  statement_writable : (s : Statement) {us vs : List Token} (d : StatementIs e.names us s vs) → KeepsStatement nowhere d → AllInStatement (IsSource e.names e.texts) s → IsWritableNode e (node_of s)
  statement_writable s (a_start {c = c} {k = k} {active = active} d1 d2 d3 d4 d5 d6 d7 d8) keeps ok =
      (name_named c d2, name_named k d4, roles_named active (derived_all {Item = PartIs e.names} (λ p. IsNamed e p.role.name) active (λ us p vs i. role_named p i) (list_derived active d7)))
  statement_writable s (a_value {a = a} {b = b} {e = t} {x = x} {k = k} d1 d2 d3 d4 d5 d6 d7 d8 d9) keeps ok = (name_named k d9, role_named a d1, role_named b d5, (term_written t d3 keeps ok, name_named x d7))
  statement_writable s (a_label {a = a} {b = b} {k = k} {l = l} d1 d2 d3 d4 d5 d6 d7) keeps ok = (name_named k d5, role_named a d1, role_named b d3, name_named l d7)
  statement_writable s (a_delegation {a = a} {b = b} {h = h} {k = k} d1 d2 d3 d4 d5 d6 d7 d8) keeps ok = (name_named k d5, role_named a d1, role_named b d3, process_named h d7)
  statement_writable s (a_set {x = x} {e = t} d1 d2 d3 d4 d5) keeps ok = (name_named x d3, term_written t d5 keeps ok)
  statement_writable s (a_host_call {x = x} {f = f} {a = a} {b = b} d1 d2 d3 d4 d5 d6 d7 d8 d9 d10 d11) keeps ok =
      (name_named x d3, name_named f d6, term_written a d8 keeps.0 ok.0, term_written b d10 keeps.1 ok.1)
  statement_writable s (a_show {e = t} d1 d2 d3) keeps ok = term_written t d3 keeps ok

  -- ---- blocks

  passed_sessions_named : (ss : List Named) {us vs : List Token} → PassedSessionsAre e.names us ss vs → AreNamedThere e ss
  passed_sessions_named ss no_session_passed = tt
  passed_sessions_named ss (sessions_passed d1 d2) = names_named ss d2

  passed_named : (ps ss : List Named) {us vs : List Token} → PassedAre e.names us ps ss vs → AreNamedThere e ss
  passed_named ps ss nothing_passed = tt
  passed_named ps ss (processes_passed d1 d2) = passed_sessions_named ss d2

  stands_there : (b : Block) {us vs : List Token} → TailIs e.names us b vs → Stands us
  stands_there b (an_end {p = p} at d) = record { at = p; is = at }
  stands_there b (a_call {p = p} at d1 d2 d3 d4 d5) = record { at = p; is = at }
  stands_there b (a_conditional {p = p} at d1 d2 d3 d4 d5 d6 d7) = record { at = p; is = at }

  mutual
    pub block_writable : (b : Block) (blocks path : ℕ) {us vs : List Token} (d : BlockIs e.names us b vs) → KeepsBlock nowhere blocks path d → AllInBlock (IsSource e.names e.texts) b → IsWritableIn e path (choreography_of b)
    block_writable x blocks path (a_block {b = b} d1 d2 d3) keeps ok = lines_writable b (blocks - 1) path d2 keeps.1 ok

    lines_writable : (b : Block) (blocks path : ℕ) {us vs : List Token} (d : LinesAre e.names us b vs) → KeepsLines nowhere blocks path d → AllInBlock (IsSource e.names e.texts) b → IsWritableIn e path (choreography_of b)
    lines_writable x blocks path (a_line {p = p} {s = s} {b = b} d1 d2 d3 d4) keeps ok =
        (some_room P3 path (record { at = p; is = d1 }) keeps.0, statement_writable s d2 keeps.1 ok.0, lines_writable b blocks (path - 1) d4 keeps.2 ok.1)
    lines_writable x blocks path (a_tail d) keeps ok = tail_writable x blocks path (some_room P3 path (stands_there x d) keeps.0) d keeps.1 ok

    tail_writable : (b : Block) (blocks path : ℕ) → 0 < path → {us vs : List Token} (d : TailIs e.names us b vs) → KeepsTail nowhere blocks (path - 1) d → AllInBlock (IsSource e.names e.texts) b → IsWritableIn e path (choreography_of b)
    tail_writable x blocks path room (an_end d1 d2) keeps ok = room
    tail_writable x blocks path room (a_call {f = f} {ps = ps} {ss = ss} d1 d2 d3 d4 d5 d6) keeps ok = (room, name_named f d3, refs_named ss (passed_named ps ss d5))
    tail_writable x blocks path room (a_conditional {e = t} {a = a} {b = b} d1 d2 d3 d4 d5 d6 d7 d8) keeps ok =
        (room, term_written t d5 keeps.0 ok.0, block_writable a blocks (path - 1) d6 keeps.1 ok.1, block_writable b blocks (path - 1) d8 keeps.2 ok.2)
