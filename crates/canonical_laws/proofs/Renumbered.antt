-- Whatever tokens spell the same symbols in other tables derive a source that says the same, within the same limits.
use Rattle.std.proofs.Common.{◌≡◌, ◌&&◌, ℕ, true, List, [], ◌∷◌, refl}
use Rattle.std.proofs.lemmas.Bool.{and_parts}
use Rattle.chor_lexer.specs.declared.token.Token.{Token}
use Rattle.chor_lexer.specs.Lexeme.{Symbol}
use Rattle.chor_lexer.specs.Spelling.{SpellAll}
use Rattle.source_grammar.specs.Symbols.{nowhere}
use Rattle.chor_tree.specs.Source.{Procedure, Items, Source}
use Rattle.chor_tree.specs.Same.{Same, all_same, same_process_param, same_session_param, same_protocol, same_service, same_procedure}
use Rattle.source_grammar.specs.Grammar.{ProcedureIs, a_procedure, ItemsAre, no_item, protocol_first, service_first, procedure_first, FileIs, a_file}
use Rattle.source_grammar.specs.Limits.{KeepsProcedure, KeepsItems, KeepsAll}
use Rattle.source_grammar.specs.Faults.{IsWithin}
use Rattle.canonical_laws.specs.Anew.{SayTheSame}
use Rattle.canonical_laws.proofs.Alike.{Tables, alike_words, alike_texts, Alike, Renewed, mark_passes, word_passes, name_renewed, end_there}
use Rattle.canonical_laws.proofs.AlikePieces.{any_names_renewed, protocol_renewed, service_renewed, params_renewed}
use Rattle.canonical_laws.proofs.AlikeBlocks.{block_renewed}
use Rattle.canonical_laws.proofs.Headers.{header_renewed}

-- all items before main are the same
abbrev pub same_items : Tables → Same Items
same_items T x y =
    all_same (same_protocol (alike_words T)) x.protocols y.protocols && all_same (same_service (alike_words T)) x.services y.services
    && all_same (same_procedure (alike_words T) (alike_texts T)) x.procedures y.procedures

-- each list of them is the same
record SameItems (T : Tables) (x y : Items) : Type 0 where
  protocols : all_same (same_protocol (alike_words T)) x.protocols y.protocols ≡ true
  services : all_same (same_service (alike_words T)) x.services y.services ≡ true
  procedures : all_same (same_procedure (alike_words T) (alike_texts T)) x.procedures y.procedures ≡ true

items_parts : (T : Tables) (x y : Items) → same_items T x y ≡ true → SameItems T x y
items_parts T x y h =
    let p = all_same (same_protocol (alike_words T)) x.protocols y.protocols in
    let s = all_same (same_service (alike_words T)) x.services y.services in
    let a = and_parts (p && s) (all_same (same_procedure (alike_words T) (alike_texts T)) x.procedures y.procedures) h in
    let b = and_parts p s a.0 in
    record { protocols = b.0; services = b.1; procedures = a.1 }

module _ {T : Tables} where
  procedure_renewed : {p : Procedure} {ts rest us : List Token} (d : ProcedureIs T.names ts p rest) → Alike T ts us
      → Renewed T (ProcedureIs T.other_names) (λ vs q left e. KeepsProcedure nowhere d → KeepsProcedure nowhere e) (same_procedure (alike_words T) (alike_texts T) p) rest us
  procedure_renewed (a_procedure {ps = ps} {ss = ks} d1 d2 d3 d4 d5 d6) h =
      let a = word_passes d1 h in
      let b = name_renewed d2 a.others in
      let c = mark_passes d3 b.others in
      let d = params_renewed d4 c.others in
      let e = mark_passes d5 d.others in
      let f = block_renewed d6 e.others in
      let both = and_parts (all_same (same_process_param (alike_words T)) ps d.read.0) (all_same (same_session_param (alike_words T)) ks d.read.1) d.same in
      record {
        read = record { name = b.read; params = d.read.0; sessions = d.read.1; body = f.read };
        left = f.left;
        is = a_procedure a.is b.is c.is d.is e.is f.is;
        keeps = λ k. (d.keeps k.0, f.keeps 64 1024 k.1);
        same = λ i. b.same i && both.0 i && both.1 i && f.same i;
        others = f.others;
      }

  items_renewed : {is : Items} {ts rest us : List Token} (d : ItemsAre T.names ts is rest) → Alike T ts us
      → Renewed T (ItemsAre T.other_names) (λ vs js left e. KeepsItems nowhere d → KeepsItems nowhere e) (same_items T is) rest us
  items_renewed {us = us} no_item h = record { read = record { protocols = []; services = []; procedures = [] }; left = us; is = no_item; keeps = λ k. tt; same = refl; others = h }
  items_renewed (protocol_first {is = is} d r) h =
      let a = protocol_renewed d h in
      let b = items_renewed r a.others in
      let s = items_parts T is b.read b.same in
      record {
        read = record b.read { protocols = a.read ∷ b.read.protocols };
        left = b.left;
        is = protocol_first a.is b.is;
        keeps = λ k. (a.keeps k.0, b.keeps k.1);
        same = λ i. a.same i && s.protocols i && s.services i && s.procedures i;
        others = b.others;
      }
  items_renewed (service_first {is = is} d r) h =
      let a = service_renewed d h in
      let b = items_renewed r a.others in
      let s = items_parts T is b.read b.same in
      record {
        read = record b.read { services = a.read ∷ b.read.services };
        left = b.left;
        is = service_first a.is b.is;
        keeps = λ k. (a.keeps k.0, b.keeps k.1);
        same = λ i. s.protocols i && (a.same i && s.services i) && s.procedures i;
        others = b.others;
      }
  items_renewed (procedure_first {is = is} d r) h =
      let a = procedure_renewed d h in
      let b = items_renewed r a.others in
      let s = items_parts T is b.read b.same in
      record {
        read = record b.read { procedures = a.read ∷ b.read.procedures };
        left = b.left;
        is = procedure_first a.is b.is;
        keeps = λ k. (a.keeps k.0, b.keeps k.1);
        same = λ i. s.protocols i && s.services i && (a.same i && s.procedures i);
        others = b.others;
      }

pub renumbered : (names texts other_names other_texts : List (List ℕ)) (ts us : List Token) (ss : List Symbol) (s : Source)
    → SpellAll names texts ts ss → SpellAll other_names other_texts us ss → IsWithin names ts s
    → SayTheSame names texts other_names other_texts us s
renumbered names texts other_names other_texts ts us ss s here there w = go s w.is w.keeps
  where
    go : (s : Source) (d : FileIs names ts s) → KeepsAll d → SayTheSame names texts other_names other_texts us s
    go s (a_file d0 d1 d2 d3 d4 d5 d6 d7) k =
        let T : Tables = record { names = names; texts = texts; other_names = other_names; other_texts = other_texts } in
        let h : Alike T ts us = record { symbols = ss; one = here; other = there } in
        let begin = header_renewed d0 h in
        let a = items_renewed d1 begin.others in
        let b = word_passes d2 a.others in
        let c = mark_passes d3 b.others in
        let d = any_names_renewed d4 c.others in
        let e = mark_passes d5 d.others in
        let f = block_renewed d6 e.others in
        let end = end_there d7 f.others in
        let p = items_parts T _ a.read a.same in
        record {
          source = record { header = begin.read; items = a.read; processes = d.read; body = f.read };
          within = record { is = a_file begin.is a.is b.is c.is d.is e.is f.is end; keeps = (begin.keeps k.0, a.keeps k.1, d.keeps 64 k.2, f.keeps 64 1024 k.3) };
          same = λ i. begin.same i && p.protocols i && p.services i && p.procedures i && d.same i && f.same i;
        }
