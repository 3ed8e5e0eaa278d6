-- Statements and blocks that tokens derive are derived by alike tokens, in their own tables.
use Rattle.std.proofs.Common.{◌-◌, ◌&&◌, ℕ, List, [], refl}
use Rattle.std.proofs.lemmas.Bool.{and_parts}
use Rattle.chor_base.specs.declared.rule.Rule.TheVariants.{P2, P3}
use Rattle.chor_lexer.specs.declared.token.Token.{Token}
use Rattle.source_grammar.specs.Symbols.{nowhere}
use Rattle.chor_tree.specs.declared.file.Named.{Named}
use Rattle.chor_tree.specs.declared.tree.Part.{Part}
use Rattle.chor_tree.specs.Source.{Statement, Starts, Sends, Selects, Gives, Sets, Asks, Shows, Block, Then, Either, Calls, Ends}
use Rattle.chor_tree.specs.Same.{Same, all_same, same_named, same_part, same_statement, same_block}
use Rattle.source_grammar.specs.Grammar.{NewPartsAre, no_new, some_new, StatementIs, a_start, a_value, a_label, a_delegation, a_set, a_host_call, a_show, PassedSessionsAre, no_session_passed, sessions_passed, PassedAre, nothing_passed, processes_passed, BlockIs, a_block, LinesAre, a_line, a_tail, TailIs, an_end, a_call, a_conditional}
use Rattle.source_grammar.specs.Limits.{KeepsStatement, KeepsBlock, KeepsLines, KeepsTail}
use Rattle.canonical_laws.proofs.Alike.{Tables, alike_words, alike_texts, Alike, Renewed, Read, mark_passes, word_passes, name_renewed, stands_there, length_kept, room_kept, list_renewed}
use Rattle.canonical_laws.proofs.AlikePieces.{names_renewed, part_renewed}
use Rattle.canonical_laws.proofs.AlikeTerms.{term_renewed}

-- both lists of what is passed to a procedure are the same
abbrev pub same_passed : Tables → Same (List Named × List Named)
same_passed T x y = all_same (same_named (alike_words T)) x.0 y.0 && all_same (same_named (alike_words T)) x.1 y.1

module _ {T : Tables} where
  new_parts_renewed : {ps : List Part} {ts rest us : List Token} → NewPartsAre T.names ts ps rest → Alike T ts us
      → Read T (NewPartsAre T.other_names) (all_same (same_part (alike_words T)) ps) rest us
  new_parts_renewed {us = us} no_new h = record { read = []; left = us; is = no_new; keeps = λ k. tt; same = refl; others = h }
  new_parts_renewed (some_new d1 d2) h =
      let a = word_passes d1 h in
      let b = list_renewed (λ ts rest us x m g. part_renewed m g) d2 a.others in
      record { read = b.read; left = b.left; is = some_new a.is b.is; keeps = λ k. tt; same = b.same; others = b.others }

  passed_sessions_renewed : {ns : List Named} {ts rest us : List Token} → PassedSessionsAre T.names ts ns rest → Alike T ts us
      → Read T (PassedSessionsAre T.other_names) (all_same (same_named (alike_words T)) ns) rest us
  passed_sessions_renewed {us = us} no_session_passed h = record { read = []; left = us; is = no_session_passed; keeps = λ k. tt; same = refl; others = h }
  passed_sessions_renewed (sessions_passed d1 d2) h =
      let a = mark_passes d1 h in
      let b = names_renewed d2 a.others in
      record { read = b.read; left = b.left; is = sessions_passed a.is b.is; keeps = λ k. tt; same = b.same; others = b.others }

  passed_renewed : {ps ks : List Named} {ts rest us : List Token} → PassedAre T.names ts ps ks rest → Alike T ts us
      → Read T (λ vs x left. PassedAre T.other_names vs x.0 x.1 left) (same_passed T (ps, ks)) rest us
  passed_renewed {us = us} nothing_passed h = record { read = ([], []); left = us; is = nothing_passed; keeps = λ k. tt; same = refl; others = h }
  passed_renewed (processes_passed d1 d2) h =
      let a = names_renewed d1 h in
      let b = passed_sessions_renewed d2 a.others in
      record { read = (a.read, b.read); left = b.left; is = processes_passed a.is b.is; keeps = λ k. tt; same = λ i. a.same i && b.same i; others = b.others }

  statement_renewed : {s : Statement} {ts rest us : List Token} (d : StatementIs T.names ts s rest) → Alike T ts us
      → Renewed T (StatementIs T.other_names) (λ vs r left e. KeepsStatement nowhere d → KeepsStatement nowhere e) (same_statement (alike_words T) (alike_texts T) s) rest us
  statement_renewed (a_start d1 d2 d3 d4 d5 d6 d7 d8) k =
      let a = word_passes d1 k in
      let b = name_renewed d2 a.others in
      let c = mark_passes d3 b.others in
      let d = name_renewed d4 c.others in
      let e = mark_passes d5 d.others in
      let f = mark_passes d6 e.others in
      let g = list_renewed (λ ts rest us x m l. part_renewed m l) d7 f.others in
      let h = new_parts_renewed d8 g.others in
      record {
        read = Starts b.read d.read g.read h.read;
        left = h.left;
        is = a_start a.is b.is c.is d.is e.is f.is g.is h.is;
        keeps = λ l. tt;
        same = λ i. b.same i && d.same i && g.same i && h.same i;
        others = h.others;
      }
  statement_renewed (a_value d1 d2 d3 d4 d5 d6 d7 d8 d9) k =
      let a = part_renewed d1 k in
      let b = mark_passes d2 a.others in
      let c = term_renewed d3 b.others in
      let d = mark_passes d4 c.others in
      let e = part_renewed d5 d.others in
      let f = mark_passes d6 e.others in
      let g = name_renewed d7 f.others in
      let h = mark_passes d8 g.others in
      let j = name_renewed d9 h.others in
      record {
        read = Sends a.read c.read e.read g.read.name j.read;
        left = j.left;
        is = a_value a.is b.is c.is d.is e.is f.is g.is h.is j.is;
        keeps = λ l. length_kept b.others c.others l;
        same = λ i. a.same i && c.same i && e.same i && g.same i && j.same i;
        others = j.others;
      }
  statement_renewed (a_label d1 d2 d3 d4 d5 d6 d7) k =
      let a = part_renewed d1 k in
      let b = mark_passes d2 a.others in
      let c = part_renewed d3 b.others in
      let d = mark_passes d4 c.others in
      let e = name_renewed d5 d.others in
      let f = mark_passes d6 e.others in
      let g = name_renewed d7 f.others in
      record {
        read = Selects a.read c.read e.read g.read.name;
        left = g.left;
        is = a_label a.is b.is c.is d.is e.is f.is g.is;
        keeps = λ l. tt;
        same = λ i. a.same i && c.same i && e.same i && g.same i;
        others = g.others;
      }
  statement_renewed (a_delegation d1 d2 d3 d4 d5 d6 d7 d8) k =
      let a = part_renewed d1 k in
      let b = mark_passes d2 a.others in
      let c = part_renewed d3 b.others in
      let d = mark_passes d4 c.others in
      let e = name_renewed d5 d.others in
      let f = mark_passes d6 e.others in
      let g = part_renewed d7 f.others in
      let h = mark_passes d8 g.others in
      record {
        read = Gives a.read c.read e.read g.read;
        left = h.left;
        is = a_delegation a.is b.is c.is d.is e.is f.is g.is h.is;
        keeps = λ l. tt;
        same = λ i. a.same i && c.same i && e.same i && g.same i;
        others = h.others;
      }
  statement_renewed (a_set d1 d2 d3 d4 d5) k =
      let a = name_renewed d1 k in
      let b = mark_passes d2 a.others in
      let c = name_renewed d3 b.others in
      let d = mark_passes d4 c.others in
      let e = term_renewed d5 d.others in
      record {
        read = Sets a.read c.read.name e.read;
        left = e.left;
        is = a_set a.is b.is c.is d.is e.is;
        keeps = λ l. length_kept d.others e.others l;
        same = λ i. a.same i && c.same i && e.same i;
        others = e.others;
      }
  statement_renewed (a_host_call d1 d2 d3 d4 d5 d6 d7 d8 d9 d10 d11) k =
      let a = name_renewed d1 k in
      let b = mark_passes d2 a.others in
      let c = name_renewed d3 b.others in
      let d = mark_passes d4 c.others in
      let e = word_passes d5 d.others in
      let f = name_renewed d6 e.others in
      let g = mark_passes d7 f.others in
      let h = term_renewed d8 g.others in
      let j = mark_passes d9 h.others in
      let l = term_renewed d10 j.others in
      let m = mark_passes d11 l.others in
      record {
        read = Asks a.read c.read.name f.read h.read l.read;
        left = m.left;
        is = a_host_call a.is b.is c.is d.is e.is f.is g.is h.is j.is l.is m.is;
        keeps = λ n. (length_kept g.others h.others n.0, length_kept j.others l.others n.1);
        same = λ i. a.same i && c.same i && f.same i && h.same i && l.same i;
        others = m.others;
      }
  statement_renewed (a_show d1 d2 d3) k =
      let a = name_renewed d1 k in
      let b = word_passes d2 a.others in
      let c = term_renewed d3 b.others in
      record { read = Shows a.read c.read; left = c.left; is = a_show a.is b.is c.is; keeps = λ l. length_kept b.others c.others l; same = λ i. a.same i && c.same i; others = c.others }

  mutual
    pub block_renewed : {b : Block} {ts rest us : List Token} (d : BlockIs T.names ts b rest) → Alike T ts us
        → Renewed T (BlockIs T.other_names) (λ vs c left e. (n m : ℕ) → KeepsBlock nowhere n m d → KeepsBlock nowhere n m e) (same_block (alike_words T) (alike_texts T) b) rest us
    block_renewed (a_block d1 d2 d3) h =
        let a = mark_passes d1 h in
        let b = lines_renewed d2 a.others in
        let c = mark_passes d3 b.others in
        record { read = b.read; left = c.left; is = a_block a.is b.is c.is; keeps = λ n m k. (room_kept P2 n h k.0, b.keeps (n - 1) m k.1); same = b.same; others = c.others }

    lines_renewed : {b : Block} {ts rest us : List Token} (d : LinesAre T.names ts b rest) → Alike T ts us
        → Renewed T (LinesAre T.other_names) (λ vs c left e. (n m : ℕ) → KeepsLines nowhere n m d → KeepsLines nowhere n m e) (same_block (alike_words T) (alike_texts T) b) rest us
    lines_renewed (a_line d1 d2 d3 d4) h =
        let at = stands_there d1 h in
        let a = statement_renewed d2 h in
        let b = mark_passes d3 a.others in
        let c = lines_renewed d4 b.others in
        record {
          read = Then at.at a.read c.read;
          left = c.left;
          is = a_line at.is a.is b.is c.is;
          keeps = λ n m k. (room_kept P3 m h k.0, a.keeps k.1, c.keeps n (m - 1) k.2);
          same = λ i. a.same i && c.same i;
          others = c.others;
        }
    lines_renewed (a_tail d1) h =
        let a = tail_renewed d1 h in
        record { read = a.read; left = a.left; is = a_tail a.is; keeps = λ n m k. (room_kept P3 m h k.0, a.keeps n (m - 1) k.1); same = a.same; others = a.others }

    tail_renewed : {b : Block} {ts rest us : List Token} (d : TailIs T.names ts b rest) → Alike T ts us
        → Renewed T (TailIs T.other_names) (λ vs c left e. (n m : ℕ) → KeepsTail nowhere n m d → KeepsTail nowhere n m e) (same_block (alike_words T) (alike_texts T) b) rest us
    tail_renewed (an_end d1 d2) h =
        let at = stands_there d1 h in
        let a = word_passes d2 h in
        record { read = Ends at.at; left = a.left; is = an_end at.is a.is; keeps = λ n m k. tt; same = refl; others = a.others }
    tail_renewed (a_call {ps = ps} {ss = ks} d1 d2 d3 d4 d5 d6) h =
        let at = stands_there d1 h in
        let a = word_passes d2 h in
        let b = name_renewed d3 a.others in
        let c = mark_passes d4 b.others in
        let d = passed_renewed d5 c.others in
        let e = mark_passes d6 d.others in
        let both = and_parts (all_same (same_named (alike_words T)) ps d.read.0) (all_same (same_named (alike_words T)) ks d.read.1) d.same in
        record {
          read = Calls at.at b.read d.read.0 d.read.1;
          left = e.left;
          is = a_call at.is a.is b.is c.is d.is e.is;
          keeps = λ n m k. tt;
          same = λ i. b.same i && both.0 i && both.1 i;
          others = e.others;
        }
    tail_renewed (a_conditional d1 d2 d3 d4 d5 d6 d7 d8) k =
        let at = stands_there d1 k in
        let a = word_passes d2 k in
        let b = name_renewed d3 a.others in
        let c = mark_passes d4 b.others in
        let d = term_renewed d5 c.others in
        let e = block_renewed d6 d.others in
        let f = word_passes d7 e.others in
        let g = block_renewed d8 f.others in
        record {
          read = Either at.at b.read d.read e.read g.read;
          left = g.left;
          is = a_conditional at.is a.is b.is c.is d.is e.is f.is g.is;
          keeps = λ n m l. (length_kept c.others d.others l.0, e.keeps n m l.1, g.keeps n m l.2);
          same = λ i. b.same i && d.same i && e.same i && g.same i;
          others = g.others;
        }
