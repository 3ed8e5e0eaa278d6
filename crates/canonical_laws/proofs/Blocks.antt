-- Tokens that spell statements and blocks derive them, but for places.
use Rattle.std.proofs.Common.{◌-◌, ℕ, List, [], ◌∷◌, map, refl, codes}
use Rattle.chor_base.specs.declared.rule.Rule.TheVariants.{P2, P3}
use Rattle.chor_base.specs.Words.{AllDistinct}
use Rattle.chor_lexer.specs.declared.mark.Mark.TheVariants.{Semicolon}
use Rattle.chor_lexer.specs.declared.token.Token.{Token}
use Rattle.chor_lexer.specs.Lexeme.{Symbol, word, mark}
use Rattle.chor_lexer.specs.Spelling.{IsSource}
use Rattle.source_grammar.specs.Symbols.{nowhere}
use Rattle.chor_tree.specs.declared.file.Named.{Named}
use Rattle.chor_tree.specs.declared.tree.Part.{Part}
use Rattle.chor_tree.specs.Source.{Statement, Starts, Sends, Selects, Gives, Sets, Asks, Shows, Block, Then, Either, Calls, Ends}
use Rattle.chor_tree.specs.Source as source
use Rattle.source_grammar.specs.Grammar.{NewPartsAre, no_new, some_new, StatementIs, a_start, a_value, a_label, a_delegation, a_set, a_host_call, a_show, PassedSessionsAre, no_session_passed, sessions_passed, PassedAre, nothing_passed, processes_passed, BlockIs, a_block, LinesAre, a_line, a_tail, TailIs, an_end, a_call, a_conditional}
use Rattle.source_grammar.specs.Limits.{KeepsStatement, KeepsBlock, KeepsLines, KeepsTail}
use Rattle.source_grammar.specs.Statements.{StatementPart}
use Rattle.source_grammar.specs.Blocks.{BlockPart, LinesPart, TailPart}
use Rattle.canonical_laws.specs.Places.{bare_name, bare_part, bare_statement, bare_block}
use Rattle.canonical_laws.specs.Symbols.{name_symbols, listed, listed_after, part_symbols, statement_symbols, lines_symbols, block_symbols}
use Rattle.canonical_laws.specs.Terms.{AllInStatement, AllInBlock}
use Rattle.canonical_laws.proofs.Tokens.{Spelled, Reads, Stands, room_kept, mark_begins, mark_reads, word_reads, name_reads, term_reads, stands}
use Rattle.canonical_laws.proofs.Pieces.{names_read, part_reads, parts_read}

module _ {names texts : List (List ℕ)} (dn : AllDistinct names) where
  new_parts_read : (ps : List Part) {us vs : List Token} → NewPartsAre names us ps vs → {ts : List Token} {more : List Symbol}
      → Spelled names texts ts (listed_after (word (codes "new")) (part_symbols names) ps more) → Reads names texts (NewPartsAre names) (map bare_part) ps ts more
  new_parts_read [] d {ts} h = record { read = []; rest = ts; is = no_new; same = refl; others = h }
  new_parts_read (p ∷ ps) (some_new d1 d2) h =
      let a = word_reads h in
      let b = parts_read dn (p ∷ ps) d2 a.others in
      record { read = b.read; rest = b.rest; is = some_new a.is b.is; same = b.same; others = b.others }

  passed_sessions_read : (ns : List Named) {us vs : List Token} → PassedSessionsAre names us ns vs → {ts : List Token} {more : List Symbol}
      → Spelled names texts ts (listed_after (mark Semicolon) (name_symbols names) ns more) → Reads names texts (PassedSessionsAre names) (map bare_name) ns ts more
  passed_sessions_read [] d {ts} h = record { read = []; rest = ts; is = no_session_passed; same = refl; others = h }
  passed_sessions_read (n ∷ ns) (sessions_passed d1 d2) h =
      let a = mark_reads h in
      let b = names_read dn (n ∷ ns) d2 a.others in
      record { read = b.read; rest = b.rest; is = sessions_passed a.is b.is; same = b.same; others = b.others }

  passed_read : (ps ks : List Named) {us vs : List Token} → PassedAre names us ps ks vs → {ts : List Token} {more : List Symbol}
      → Spelled names texts ts (listed (name_symbols names) ps (listed_after (mark Semicolon) (name_symbols names) ks more))
      → Reads names texts {A = List Named × List Named} (λ us x vs. PassedAre names us x.0 x.1 vs) (λ x. (map bare_name x.0, map bare_name x.1)) (ps, ks) ts more
  passed_read ps ks nothing_passed {ts} h = record { read = ([], []); rest = ts; is = nothing_passed; same = refl; others = h }
  passed_read ps ks (processes_passed d1 d2) h =
      let a = names_read dn ps d1 h in
      let b = passed_sessions_read ks d2 a.others in
      record { read = (a.read, b.read); rest = b.rest; is = processes_passed a.is b.is; same = λ i. (a.same i, b.same i); others = b.others }

tail_begins : {names : List (List ℕ)} {b : Block} {us vs : List Token} → TailIs names us b vs → Stands us
tail_begins (an_end {p = p} d1 d2) = record { at = p; is = d1 }
tail_begins (a_call {p = p} d1 d2 d3 d4 d5 d6) = record { at = p; is = d1 }
tail_begins (a_conditional {p = p} d1 d2 d3 d4 d5 d6 d7 d8) = record { at = p; is = d1 }

module _ {names texts : List (List ℕ)} (dn : AllDistinct names) (dt : AllDistinct texts) where
  statement_reads : (s : Statement) {us vs : List Token} (d : StatementIs names us s vs) → KeepsStatement nowhere d → AllInStatement (IsSource names texts) s → {ts : List Token} {more : List Symbol}
      → Spelled names texts ts (statement_symbols names texts s more) → Reads names texts (StatementPart nowhere names) bare_statement s ts more
  statement_reads x (a_start {c = channel} {k = session} {active = active} {serve = serve} d1 d2 d3 d4 d5 d6 d7 d8) keeps ok k =
      let a = word_reads k in
      let b = name_reads dn channel d2 a.others in
      let c = mark_reads b.others in
      let d = name_reads dn session d4 c.others in
      let e = mark_reads d.others in
      let f = mark_reads e.others in
      let g = parts_read dn active d7 f.others in
      let h = new_parts_read dn serve d8 g.others in
      record {
        read = Starts b.read d.read g.read h.read;
        rest = h.rest;
        is = record { is = a_start a.is b.is c.is d.is e.is f.is g.is h.is; keeps = tt };
        same = λ i. Starts (b.same i) (d.same i) (g.same i) (h.same i);
        others = h.others;
      }
  statement_reads x (a_value {a = from} {b = to} {e = term} {x = var} {k = session} d1 d2 d3 d4 d5 d6 d7 d8 d9) keeps ok k =
      let a = part_reads dn from d1 k in
      let b = mark_reads a.others in
      let c = term_reads dn dt term ok d3 keeps b.others in
      let d = mark_reads c.others in
      let e = part_reads dn to d5 d.others in
      let f = mark_reads e.others in
      let g = name_reads dn var d7 f.others in
      let h = mark_reads g.others in
      let j = name_reads dn session d9 h.others in
      record {
        read = Sends a.read term e.read g.read.name j.read;
        rest = j.rest;
        is = record { is = a_value a.is b.is c.is.is d.is e.is f.is g.is h.is j.is; keeps = c.is.keeps };
        same = λ i. Sends (a.same i) term (e.same i) ((g.same i).name) (j.same i);
        others = j.others;
      }
  statement_reads x (a_label {a = from} {b = to} {k = session} {l = label} d1 d2 d3 d4 d5 d6 d7) keeps ok k =
      let a = part_reads dn from d1 k in
      let b = mark_reads a.others in
      let c = part_reads dn to d3 b.others in
      let d = mark_reads c.others in
      let e = name_reads dn session d5 d.others in
      let f = mark_reads e.others in
      let g = name_reads dn label d7 f.others in
      record {
        read = Selects a.read c.read e.read g.read.name;
        rest = g.rest;
        is = record { is = a_label a.is b.is c.is d.is e.is f.is g.is; keeps = tt };
        same = λ i. Selects (a.same i) (c.same i) (e.same i) ((g.same i).name);
        others = g.others;
      }
  statement_reads x (a_delegation {a = from} {b = to} {h = given} {k = session} d1 d2 d3 d4 d5 d6 d7 d8) keeps ok k =
      let a = part_reads dn from d1 k in
      let b = mark_reads a.others in
      let c = part_reads dn to d3 b.others in
      let d = mark_reads c.others in
      let e = name_reads dn session d5 d.others in
      let f = mark_reads e.others in
      let g = part_reads dn given d7 f.others in
      let h = mark_reads g.others in
      record {
        read = Gives a.read c.read e.read g.read;
        rest = h.rest;
        is = record { is = a_delegation a.is b.is c.is d.is e.is f.is g.is h.is; keeps = tt };
        same = λ i. Gives (a.same i) (c.same i) (e.same i) (g.same i);
        others = h.others;
      }
  statement_reads x (a_set {p = process} {x = var} {e = term} d1 d2 d3 d4 d5) keeps ok k =
      let a = name_reads dn process d1 k in
      let b = mark_reads a.others in
      let c = name_reads dn var d3 b.others in
      let d = mark_reads c.others in
      let e = term_reads dn dt term ok d5 keeps d.others in
      record {
        read = Sets a.read c.read.name term;
        rest = e.rest;
        is = record { is = a_set a.is b.is c.is d.is e.is.is; keeps = e.is.keeps };
        same = λ i. Sets (a.same i) ((c.same i).name) term;
        others = e.others;
      }
  statement_reads x (a_host_call {p = process} {x = var} {f = function} {a = left} {b = right} d1 d2 d3 d4 d5 d6 d7 d8 d9 d10 d11) keeps ok k =
      let a = name_reads dn process d1 k in
      let b = mark_reads a.others in
      let c = name_reads dn var d3 b.others in
      let d = mark_reads c.others in
      let e = word_reads d.others in
      let f = name_reads dn function d6 e.others in
      let g = mark_reads f.others in
      let h = term_reads dn dt left ok.0 d8 keeps.0 g.others in
      let j = mark_reads h.others in
      let l = term_reads dn dt right ok.1 d10 keeps.1 j.others in
      let m = mark_reads l.others in
      record {
        read = Asks a.read c.read.name f.read left right;
        rest = m.rest;
        is = record { is = a_host_call a.is b.is c.is d.is e.is f.is g.is h.is.is j.is l.is.is m.is; keeps = (h.is.keeps, l.is.keeps) };
        same = λ i. Asks (a.same i) ((c.same i).name) (f.same i) left right;
        others = m.others;
      }
  statement_reads x (a_show {p = process} {e = term} d1 d2 d3) keeps ok k =
      let a = name_reads dn process d1 k in
      let b = word_reads a.others in
      let c = term_reads dn dt term ok d3 keeps b.others in
      record { read = Shows a.read term; rest = c.rest; is = record { is = a_show a.is b.is c.is.is; keeps = c.is.keeps }; same = λ i. Shows (a.same i) term; others = c.others }

  statement_stands : (s : Statement) {ts : List Token} (more : List Symbol) → Spelled names texts ts (statement_symbols names texts s more) → Stands ts
  statement_stands (Starts c k active serve) more h = stands h
  statement_stands (Sends a e b x k) more h = stands h
  statement_stands (Selects a b k l) more h = stands h
  statement_stands (Gives a b k g) more h = stands h
  statement_stands (Sets p x e) more h = stands h
  statement_stands (Asks p x f a b) more h = stands h
  statement_stands (Shows p e) more h = stands h

  mutual
    pub block_reads : (blocks path : ℕ) (b : Block) {us vs : List Token} (d : BlockIs names us b vs) → KeepsBlock nowhere blocks path d → AllInBlock (IsSource names texts) b → {ts : List Token} {more : List Symbol}
        → Spelled names texts ts (block_symbols names texts b more) → Reads names texts (BlockPart blocks path nowhere names) bare_block b ts more
    block_reads blocks path x (a_block {b = b} d1 d2 d3) keeps ok {ts} h =
        let a = mark_reads h in
        let c = lines_read (blocks - 1) path b d2 keeps.1 ok a.others in
        let d = mark_reads c.others in
        let room = room_kept P2 blocks ts (mark_begins d1) keeps.0 in
        record { read = c.read; rest = d.rest; is = record { is = a_block a.is c.is.is d.is; keeps = (room, c.is.keeps) }; same = c.same; others = d.others }

    lines_read : (blocks path : ℕ) (b : Block) {us vs : List Token} (d : LinesAre names us b vs) → KeepsLines nowhere blocks path d → AllInBlock (IsSource names texts) b → {ts : List Token} {more : List Symbol}
        → Spelled names texts ts (lines_symbols names texts b more) → Reads names texts (LinesPart blocks path nowhere names) bare_block b ts more
    lines_read blocks path x (a_line {p = p} {s = s} {b = b} d1 d2 d3 d4) keeps ok {ts} h =
        let at = statement_stands s _ h in
        let a = statement_reads s d2 keeps.1 ok.0 h in
        let c = mark_reads a.others in
        let d = lines_read blocks (path - 1) b d4 keeps.2 ok.1 c.others in
        let room = room_kept P3 path ts (record { at = p; is = d1 }) keeps.0 in
        record {
          read = Then at.at a.read d.read;
          rest = d.rest;
          is = record { is = a_line at.is a.is.is c.is d.is.is; keeps = (room, a.is.keeps, d.is.keeps) };
          same = λ i. Then source.nowhere (a.same i) (d.same i);
          others = d.others;
        }
    lines_read blocks path x (a_tail d1) keeps ok {ts} h =
        let a = tail_reads blocks (path - 1) x d1 keeps.1 ok h in
        let room = room_kept P3 path ts (tail_begins d1) keeps.0 in
        record { read = a.read; rest = a.rest; is = record { is = a_tail a.is.is; keeps = (room, a.is.keeps) }; same = a.same; others = a.others }

    tail_reads : (blocks path : ℕ) (b : Block) {us vs : List Token} (d : TailIs names us b vs) → KeepsTail nowhere blocks path d → AllInBlock (IsSource names texts) b → {ts : List Token} {more : List Symbol}
        → Spelled names texts ts (lines_symbols names texts b more) → Reads names texts (TailPart blocks path nowhere names) bare_block b ts more
    tail_reads blocks path x (an_end d1 d2) keeps ok h =
        let at = stands h in
        let a = word_reads h in
        record { read = Ends at.at; rest = a.rest; is = record { is = an_end at.is a.is; keeps = tt }; same = refl; others = a.others }
    tail_reads blocks path x (a_call {f = f} {ps = ps} {ss = ss} d1 d2 d3 d4 d5 d6) keeps ok h =
        let at = stands h in
        let a = word_reads h in
        let b = name_reads dn f d3 a.others in
        let c = mark_reads b.others in
        let d = passed_read dn ps ss d5 c.others in
        let e = mark_reads d.others in
        record {
          read = Calls at.at b.read d.read.0 d.read.1;
          rest = e.rest;
          is = record { is = a_call at.is a.is b.is c.is d.is e.is; keeps = tt };
          same = λ i. Calls source.nowhere (b.same i) ((d.same i).0) ((d.same i).1);
          others = e.others;
        }
    tail_reads blocks path x (a_conditional {q = q} {e = term} {a = first} {b = second} d1 d2 d3 d4 d5 d6 d7 d8) keeps ok k =
        let at = stands k in
        let a = word_reads k in
        let b = name_reads dn q d3 a.others in
        let c = mark_reads b.others in
        let d = term_reads dn dt term ok.0 d5 keeps.0 c.others in
        let e = block_reads blocks path first d6 keeps.1 ok.1 d.others in
        let f = word_reads e.others in
        let g = block_reads blocks path second d8 keeps.2 ok.2 f.others in
        record {
          read = Either at.at b.read term e.read g.read;
          rest = g.rest;
          is = record { is = a_conditional at.is a.is b.is c.is d.is.is e.is.is f.is g.is.is; keeps = (d.is.keeps, e.is.keeps, g.is.keeps) };
          same = λ i. Either source.nowhere (b.same i) term (e.same i) (g.same i);
          others = g.others;
        }
