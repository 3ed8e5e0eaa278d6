-- The canonical text of a file is cut into the tokens of the symbols of its source, and reads back.
use Rattle.std.proofs.Common.{◌≡◌, ℕ, List, [], ◌∷◌, ◌++◌, map, refl, sym, ap, ◌∙◌, subst, codes}
use Rattle.std.specs.List.{flat_map, AllByRecursion}
use Rattle.std.proofs.lemmas.List.{append-nil, map-append}
use Rattle.chor_lexer.specs.declared.mark.Mark.TheVariants.{CloseParen, OpenBrace, CloseBrace}
use Rattle.chor_lexer.specs.declared.token.Token.{Token}
use Rattle.chor_lexer.specs.Lexeme.{Lexeme, mark, last}
use Rattle.chor_lexer.specs.Cut.{start}
use Rattle.chor_lexer.specs.Spelling.{IsSource, SpellAll}
use Rattle.chor_lexer.specs.Tokens.{IsTokens, AreSpelled, AreTokensOf}
use Rattle.chor_lexer.proofs.Cuts.{one_reading}
use Rattle.chor_lexer.proofs.ReadBack.{HaveKinds, numbered}
use Rattle.source_grammar.specs.Symbols.{nowhere}
use Rattle.chor_tree.specs.declared.file.File.{File}
use Rattle.chor_tree.specs.Source.{Procedure, Items, Source, Block, source_of}
use Rattle.source_grammar.specs.Grammar.{NameIs, AnyNamesAre, ParamsAre, BlockIs, ProcedureIs, a_procedure, FileIs, a_file}
use Rattle.source_grammar.specs.Limits.{KeepsAll}
use Rattle.source_grammar.specs.Faults.{IsWithin}
use Rattle.source_grammar.specs.Parts.{ProtocolPart, ServicePart}
use Rattle.source_grammar.specs.Files.{ProcedurePart, HeaderPart}
use Rattle.chor_print.specs.Text.{canonical_text}
use Rattle.chor_print.specs.Parts.{body_text}
use Rattle.canonical_laws.specs.ReadsBack.{DeriveSame, HasSymbols, IsReadFrom, ReadsBack}
use Rattle.canonical_laws.specs.Symbols.{each, lines_symbols, procedure_symbols, main_symbols, source_symbols}
use Rattle.canonical_laws.specs.Terms.{AllInBlock, AllTerms}
use Rattle.canonical_laws.proofs.Derived.{Derived, Gathered, gathered}
use Rattle.canonical_laws.proofs.Files.{symbols_read_back}
use Rattle.canonical_laws.proofs.Cutting.{AreWords, Whole, whole_none, Free, free_free, free_bound, bound_free, bound_of, free_none, space, keyword, open_brace, close_brace, open_paren, close_paren, each_cut, line_cut}
use Rattle.canonical_laws.proofs.Written.{name_cut, any_names_cut, protocol_cut, service_cut, params_cut}
use Rattle.canonical_laws.proofs.Sources.{lines_of, source_text, procedure_text, main_text, source_units, canonical_is}
use Rattle.canonical_laws.proofs.WrittenBlocks.{block_cut}
use Rattle.canonical_laws.proofs.Headers.{header_cut}
use Rattle.canonical_laws.proofs.Known.{file_sound}
use Rattle.chor_lexer.proofs.DistinctTables.{distinct_names, distinct_texts}
use Rattle.canonical_laws.proofs.Tables.{are_words, known}
use Rattle.canonical_laws.proofs.Numbered.{source_there}

-- ---- what a procedure and a file are made of

record OfProcedure (names : List (List ℕ)) (q : Procedure) : Type 0 where
  name : Derived (NameIs names) q.name
  from : List Token
  to : List Token
  params : ParamsAre names from q.params q.sessions to
  body : Derived (BlockIs names) q.body

of_procedure : {names : List (List ℕ)} (q : Procedure) → Derived (ProcedurePart nowhere names) q → OfProcedure names q
of_procedure q d = go q d.is.0
  where
    go : {names : List (List ℕ)} (p : Procedure) {us vs : List Token} → ProcedureIs names us p vs → OfProcedure names p
    go p (a_procedure d1 d2 d3 d4 d5 d6) = record { name = record { from = _; to = _; is = d2 }; from = _; to = _; params = d4; body = record { from = _; to = _; is = d6 } }

record OfFile (names : List (List ℕ)) (s : Source) : Type 0 where
  header : Derived (HeaderPart nowhere names) s.header
  items : Gathered names s.items
  from : List Token
  to : List Token
  processes : AnyNamesAre names from s.processes to
  body : Derived (BlockIs names) s.body

of_file : {names : List (List ℕ)} (s : Source) {us : List Token} (d : FileIs names us s) → KeepsAll d → OfFile names s
of_file s (a_file {is = is} d0 d1 d2 d3 d4 d5 d6 d7) keeps = record { header = record { from = _; to = _; is = (d0, keeps.0) }; items = gathered is d1 keeps.1; from = _; to = _; processes = d4; body = record { from = _; to = _; is = d6 } }

-- ---- the text

end_head : Free (codes ") {") (λ ss. mark CloseParen ∷ mark OpenBrace ∷ ss)
end_head = free_free close_paren (free_free space open_brace)

module _ (names texts : List (List ℕ)) (words : AreWords names) where
  -- a body, and the line that closes it
  body_cut : (b : Block) → Derived (BlockIs names) b → AllInBlock (IsSource names texts) b → Free (body_text (lines_of names texts b)) (λ more. lines_symbols names texts b (mark CloseBrace ∷ more))
  body_cut b d ok = free_free (block_cut names texts words b d.is ok 1) (line_cut 0 (bound_of close_brace))

  procedure_cut : (q : Procedure) → Derived (ProcedurePart nowhere names) q → AllInBlock (IsSource names texts) q.body → Free (procedure_text names texts q) (procedure_symbols names texts q)
  procedure_cut q d ok =
      let o = of_procedure q d in
      let begin = free_bound (bound_free (keyword (codes "proc") refl) space refl) (name_cut names words q.name o.name.is) in
      let head = bound_free (params_cut names words (bound_free begin (free_free space open_paren) refl) q.params q.sessions o.params) end_head refl in
      free_free (line_cut 0 (bound_of head)) (body_cut q.body o.body ok)

  procedures_cut : (qs : List Procedure) → AllByRecursion (Derived (ProcedurePart nowhere names)) qs → AllByRecursion (λ q. AllInBlock (IsSource names texts) q.body) qs
      → Free (flat_map (procedure_text names texts) qs) (each (procedure_symbols names texts) qs)
  procedures_cut [] d ok = free_none
  procedures_cut (q ∷ qs) d ok = free_free (procedure_cut q d.0 ok.0) (procedures_cut qs d.1 ok.1)

  main_cut : (s : Source) → OfFile names s → AllInBlock (IsSource names texts) s.body → Free (main_text names texts s.processes s.body) (main_symbols names texts s.processes s.body)
  main_cut s o ok =
      let begin = bound_free (keyword (codes "main") refl) (free_free space open_paren) refl in
      let head = bound_free (free_bound begin (any_names_cut names words s.processes o.processes)) end_head refl in
      free_free (line_cut 0 (bound_of head)) (body_cut s.body o.body ok)

  pub whole_text : {us : List Token} (s : Source) → IsWithin names us s → AllTerms (IsSource names texts) s → Whole (source_text names texts s) (source_symbols names texts s)
  whole_text s d ok =
      let o = of_file s d.is d.keeps in
      let header = header_cut s.header o.header.is.0 o.header.is.1 in
      let protocols = each_cut {P = Derived (ProtocolPart nowhere names)} (λ p h. protocol_cut names words p h.is.0) s.items.protocols o.items.protocols in
      let services = each_cut {P = Derived (ServicePart nowhere names)} (λ x h. service_cut names words x h.is.0) s.items.services o.items.services in
      let all = free_free (free_free (free_free (free_free header protocols) services) (procedures_cut s.items.procedures o.items.procedures ok.0)) (main_cut s o ok.1) in
      let text = all.cuts [] (last ∷ []) whole_none in
      subst (λ (t : List ℕ). Whole t (source_symbols names texts s)) (append-nil _ ∙ sym (source_units names texts s)) text

-- ---- the laws

symbols_of : (ls : List Lexeme) (l : Lexeme) → map (λ (x : Lexeme). x.symbol) (ls ++ l ∷ []) ≡ map (λ (x : Lexeme). x.symbol) ls ++ l.symbol ∷ []
symbols_of ls l = map-append (λ (x : Lexeme). x.symbol) ls (l ∷ [])

-- tokens that filled empty tables, and derive a source within the limits
pub source_has_symbols : (bytes : List ℕ) (names texts : List (List ℕ)) (written : List Token) (s : Source) → AreTokensOf bytes [] [] names texts written → IsWithin names written s → HasSymbols (source_text names texts s) (source_symbols names texts s)
source_has_symbols bytes names texts written s h d =
    let w = whole_text names texts (are_words h) s d (file_sound s d.is (known h)) in
    let c = w.cut start in
    let end : Lexeme = record { symbol = last; place = c.next } in
    (c.lexemes ++ end ∷ [], record { utf8 = w.utf8; front = c.lexemes; next = c.next; cut = c.cut; whole = refl }, symbols_of c.lexemes end ∙ c.are)

pub text_has_symbols : (bytes : List ℕ) (written : List Token) (f : File) → IsReadFrom bytes written f → HasSymbols (canonical_text f) (source_symbols f.names f.texts (source_of f))
text_has_symbols bytes written f r = subst (λ (t : List ℕ). HasSymbols t (source_symbols f.names f.texts (source_of f))) (sym (canonical_is f)) (source_has_symbols bytes f.names f.texts written (source_of f) r.tokens r.derived)

pub spelled_symbols : (names texts : List (List ℕ)) (ts : List Token) (ls : List Lexeme) → AreSpelled names texts ts ls → SpellAll names texts ts (map (λ (l : Lexeme). l.symbol) ls)
spelled_symbols names texts [] [] h = tt
spelled_symbols names texts [] (l ∷ ls) h = absurd h
spelled_symbols names texts (t ∷ ts) [] h = absurd h
spelled_symbols names texts (t ∷ ts) (l ∷ ls) h = (h.0.0, spelled_symbols names texts ts ls h.1)

-- what its text spells derives the source again, but for places
source_reads_back : (bytes : List ℕ) (names texts : List (List ℕ)) (written ts : List Token) (s : Source) (ls : List Lexeme) → AreTokensOf bytes [] [] names texts written → IsWithin names written s → IsTokens (source_text names texts s) ls → AreSpelled names texts ts ls → DeriveSame names ts s
source_reads_back bytes names texts written ts s ls h d tokens spelled =
    let own = source_has_symbols bytes names texts written s h d in
    let same : ls ≡ own.0 = one_reading (source_text names texts s) ls own.0 tokens own.1 in
    let symbols = ap (map (λ (l : Lexeme). l.symbol)) same ∙ own.2 in
    symbols_read_back names texts written ts s (distinct_names h) (distinct_texts h) d (file_sound s d.is (known h))
    (subst (SpellAll names texts ts) symbols (spelled_symbols names texts ts ls spelled))

-- the text has tokens, which have numbers in the tables, and they derive the source but for places
pub record SourceReadsBack (names texts : List (List ℕ)) (s : Source) : Type 0 where
  pub lexemes : List Lexeme
  pub tokens : List Token
  pub has : IsTokens (source_text names texts s) lexemes
  pub spelled : AreSpelled names texts tokens lexemes
  pub same : DeriveSame names tokens s

pub source_back : (bytes : List ℕ) (names texts : List (List ℕ)) (written : List Token) (s : Source) → AreTokensOf bytes [] [] names texts written → IsWithin names written s → SourceReadsBack names texts s
source_back bytes names texts written s h d =
    let own = source_has_symbols bytes names texts written s h d in
    let kinds = source_there s d.is d.keeps (file_sound s d.is (known h)) in
    let found = numbered names texts own.0 (subst (HaveKinds names texts) (sym own.2) kinds.all) in
    record { lexemes = own.0; tokens = found.0; has = own.1; spelled = found.1; same = source_reads_back bytes names texts written found.0 s own.0 h d own.1 found.1 }

pub text_reads_back : (bytes : List ℕ) (written ts : List Token) (f : File) (ls : List Lexeme) → IsReadFrom bytes written f → IsTokens (canonical_text f) ls → AreSpelled f.names f.texts ts ls → DeriveSame f.names ts (source_of f)
text_reads_back bytes written ts f ls r tokens spelled =
    source_reads_back bytes f.names f.texts written ts (source_of f) ls r.tokens r.derived (subst (λ (t : List ℕ). IsTokens t ls) (canonical_is f) tokens) spelled

pub reads_back : (bytes : List ℕ) (written : List Token) (f : File) → IsReadFrom bytes written f → ReadsBack f
reads_back bytes written f r =
    let b = source_back bytes f.names f.texts written (source_of f) r.tokens r.derived in
    record { lexemes = b.lexemes; tokens = b.tokens; has = subst (λ (t : List ℕ). IsTokens t b.lexemes) (sym (canonical_is f)) b.has; spelled = b.spelled; same = b.same }
