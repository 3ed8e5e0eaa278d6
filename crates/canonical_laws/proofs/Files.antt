-- Tokens that spell a source derive it, but for places.
use Rattle.std.proofs.Common.{ℕ, List, [], ◌∷◌, refl}
use Rattle.std.specs.List.{AllByRecursion}
use Rattle.chor_base.specs.Words.{AllDistinct}
use Rattle.chor_lexer.specs.declared.token.Token.{Token}
use Rattle.chor_lexer.specs.Lexeme.{Symbol}
use Rattle.chor_lexer.specs.Spelling.{IsSource, SpellAll}
use Rattle.source_grammar.specs.Symbols.{nowhere}
use Rattle.chor_tree.specs.declared.file.Service.{Service}
use Rattle.chor_tree.specs.Protocols.{Protocol}
use Rattle.chor_tree.specs.Source.{Procedure, Source}
use Rattle.source_grammar.specs.Grammar.{ProcedureIs, a_procedure, no_item, protocol_first, service_first, procedure_first, FileIs, a_file}
use Rattle.source_grammar.specs.Limits.{KeepsProcedure, KeepsAll}
use Rattle.source_grammar.specs.Faults.{IsWithin}
use Rattle.source_grammar.specs.Parts.{ProtocolPart, ServicePart}
use Rattle.source_grammar.specs.Files.{ProcedurePart, ItemsPart}
use Rattle.canonical_laws.specs.Places.{bare_procedure, bare_items}
use Rattle.canonical_laws.specs.Symbols.{each, protocol_symbols, service_symbols, procedure_symbols, source_symbols}
use Rattle.canonical_laws.specs.Terms.{AllInBlock, AllTerms}
use Rattle.canonical_laws.specs.ReadsBack.{DeriveSame}
use Rattle.canonical_laws.proofs.Derived.{Derived, gathered}
use Rattle.canonical_laws.proofs.Tokens.{Spelled, Reads, mark_reads, word_reads, end_reads, name_reads}
use Rattle.canonical_laws.proofs.Pieces.{any_names_read, protocol_reads, service_reads, params_read}
use Rattle.canonical_laws.proofs.Blocks.{block_reads}
use Rattle.canonical_laws.proofs.Headers.{header_reads}

module _ {names texts : List (List ℕ)} (dn : AllDistinct names) (dt : AllDistinct texts) where
  procedure_reads : (p : Procedure) {us vs : List Token} (d : ProcedureIs names us p vs) → KeepsProcedure nowhere d → AllInBlock (IsSource names texts) p.body → {ts : List Token} {more : List Symbol}
      → Spelled names texts ts (procedure_symbols names texts p more) → Reads names texts (ProcedurePart nowhere names) bare_procedure p ts more
  procedure_reads x (a_procedure {n = n} {ps = ps} {ss = ss} {b = body} d1 d2 d3 d4 d5 d6) keeps ok h =
      let a = word_reads h in
      let b = name_reads dn n d2 a.others in
      let c = mark_reads b.others in
      let d = params_read dn ps ss d4 keeps.0 c.others in
      let e = mark_reads d.others in
      let f = block_reads dn dt 64 1024 body d6 keeps.1 ok e.others in
      record {
        read = record { name = b.read; params = d.read.0; sessions = d.read.1; body = f.read };
        rest = f.rest;
        is = (a_procedure a.is b.is c.is d.is.0 e.is f.is.is, (d.is.1, f.is.keeps));
        same = λ i. record { name = b.same i; params = (d.same i).0; sessions = (d.same i).1; body = f.same i };
        others = f.others;
      }

  procedures_read : (qs : List Procedure) → AllByRecursion (Derived (ProcedurePart nowhere names)) qs → AllByRecursion (λ p. AllInBlock (IsSource names texts) p.body) qs
      → {ts : List Token} {more : List Symbol} → Spelled names texts ts (each (procedure_symbols names texts) qs more)
      → Reads names texts (ItemsPart nowhere names) bare_items (record { protocols = []; services = []; procedures = qs }) ts more
  procedures_read [] d ok {ts} h = record { read = record { protocols = []; services = []; procedures = [] }; rest = ts; is = (no_item, tt); same = refl; others = h }
  procedures_read (q ∷ qs) d ok h =
      let a = procedure_reads q d.0.is.0 d.0.is.1 ok.0 h in
      let r = procedures_read qs d.1 ok.1 a.others in
      record {
        read = record r.read { procedures = a.read ∷ r.read.procedures };
        rest = r.rest;
        is = (procedure_first a.is.0 r.is.0, (a.is.1, r.is.1));
        same = λ i. record (r.same i) { procedures = a.same i ∷ (r.same i).procedures };
        others = r.others;
      }

  services_read : (qs : List Procedure) (ss : List Service) → AllByRecursion (Derived (ProcedurePart nowhere names)) qs → AllByRecursion (λ p. AllInBlock (IsSource names texts) p.body) qs
      → AllByRecursion (Derived (ServicePart nowhere names)) ss
      → {ts : List Token} {more : List Symbol} → Spelled names texts ts (each (service_symbols names) ss (each (procedure_symbols names texts) qs more))
      → Reads names texts (ItemsPart nowhere names) bare_items (record { protocols = []; services = ss; procedures = qs }) ts more
  services_read qs [] d ok e h = procedures_read qs d ok h
  services_read qs (s ∷ ss) d ok e h =
      let a = service_reads dn s e.0.is.0 e.0.is.1 h in
      let r = services_read qs ss d ok e.1 a.others in
      record {
        read = record r.read { services = a.read ∷ r.read.services };
        rest = r.rest;
        is = (service_first a.is.0 r.is.0, (a.is.1, r.is.1));
        same = λ i. record (r.same i) { services = a.same i ∷ (r.same i).services };
        others = r.others;
      }

  items_read : (qs : List Procedure) (ss : List Service) (ps : List Protocol) → AllByRecursion (Derived (ProcedurePart nowhere names)) qs
      → AllByRecursion (λ p. AllInBlock (IsSource names texts) p.body) qs → AllByRecursion (Derived (ServicePart nowhere names)) ss → AllByRecursion (Derived (ProtocolPart nowhere names)) ps
      → {ts : List Token} {more : List Symbol} → Spelled names texts ts (each (protocol_symbols names) ps (each (service_symbols names) ss (each (procedure_symbols names texts) qs more)))
      → Reads names texts (ItemsPart nowhere names) bare_items (record { protocols = ps; services = ss; procedures = qs }) ts more
  items_read qs ss [] d ok e f h = services_read qs ss d ok e h
  items_read qs ss (p ∷ ps) d ok e f h =
      let a = protocol_reads dn p f.0.is.0 f.0.is.1 h in
      let r = items_read qs ss ps d ok e f.1 a.others in
      record {
        read = record r.read { protocols = a.read ∷ r.read.protocols };
        rest = r.rest;
        is = (protocol_first a.is.0 r.is.0, (a.is.1, r.is.1));
        same = λ i. record (r.same i) { protocols = a.same i ∷ (r.same i).protocols };
        others = r.others;
      }

source_reads : (names texts : List (List ℕ)) (us ts : List Token) (s : Source) → AllDistinct names → AllDistinct texts → (d : FileIs names us s) → KeepsAll d → AllTerms (IsSource names texts) s
    → SpellAll names texts ts (source_symbols names texts s) → DeriveSame names ts s
source_reads names texts us ts s dn dt (a_file {h = header} {is = is} {ps = ps} {b = body} d0 d1 d2 d3 d4 d5 d6 d7) keeps ok h =
    let g = gathered is d1 keeps.1 in
    let all : Spelled names texts ts (source_symbols names texts (record { header = header; items = is; processes = ps; body = body })) = record { all = h } in
    let begin = header_reads header d0 keeps.0 all in
    let a = items_read dn dt is.procedures is.services is.protocols g.procedures ok.0 g.services g.protocols begin.others in
    let b = word_reads a.others in
    let c = mark_reads b.others in
    let d = any_names_read dn 64 ps d4 keeps.2 c.others in
    let e = mark_reads d.others in
    let f = block_reads dn dt 64 1024 body d6 keeps.3 ok.1 e.others in
    let k = end_reads f.others in (
      record { header = begin.read; items = a.read; processes = d.read; body = f.read },
      record { is = a_file begin.is.0 a.is.0 b.is c.is d.is.0 e.is f.is.is k; keeps = (begin.is.1, a.is.1, d.is.1, f.is.keeps) },
      λ i. record { header = begin.same i; items = a.same i; processes = d.same i; body = f.same i },
    )

pub symbols_read_back : (names texts : List (List ℕ)) (us ts : List Token) (s : Source) → AllDistinct names → AllDistinct texts → IsWithin names us s → AllTerms (IsSource names texts) s
    → SpellAll names texts ts (source_symbols names texts s) → DeriveSame names ts s
symbols_read_back names texts us ts s dn dt d ok h = source_reads names texts us ts s dn dt d.is d.keeps ok h
