-- The lines of blocks are cut into the tokens of their symbols.
use Rattle.std.proofs.Common.{ℕ, ◌+◌, List, [], ◌∷◌, ◌++◌, refl, sym, subst, codes}
use Rattle.chor_lexer.specs.declared.mark.Mark.TheVariants.{OpenBrace, CloseBrace, Semicolon, Becomes}
use Rattle.chor_lexer.specs.declared.token.Token.{Token}
use Rattle.chor_lexer.specs.Lexeme.{Symbol, word, mark}
use Rattle.chor_lexer.specs.Spelling.{IsSource}
use Rattle.chor_tree.specs.declared.file.Named.{Named}
use Rattle.chor_tree.specs.declared.tree.Part.{Part}
use Rattle.chor_tree.specs.Source.{Statement, Block}
use Rattle.source_grammar.specs.Grammar.{NewPartsAre, some_new, StatementIs, a_start, a_value, a_label, a_delegation, a_set, a_host_call, a_show, PassedSessionsAre, sessions_passed, PassedAre, nothing_passed, processes_passed, BlockIs, a_block, LinesAre, a_line, a_tail, TailIs, an_end, a_call, a_conditional}
use Rattle.chor_print.specs.Pieces.{named_text, part_text, listed, listed_after}
use Rattle.chor_print.specs.Parts.{lines_at}
use Rattle.chor_print.proofs.Lines.{either_at}
use Rattle.canonical_laws.specs.Symbols.{name_symbols, part_symbols, statement_symbols, lines_symbols}
use Rattle.canonical_laws.specs.Symbols as symbols
use Rattle.canonical_laws.specs.Terms.{AllInStatement, AllInBlock}
use Rattle.canonical_laws.proofs.Cutting.{AreWords, Free, Bound, free_free, free_bound, bound_bound, bound_free, bound_of, free_none, opens_none, space, keyword, term_cut, open_brace, close_brace, open_paren, close_paren, semicolon, dot, colon, becomes, comma_space, list_after_opens, line_cut}
use Rattle.canonical_laws.proofs.Written.{arrow_text, colon_text, name_cut, names_cut, part_cut, parts_cut}
use Rattle.canonical_laws.proofs.Sources.{statement_text, if_line, lines_of}

becomes_text : Free (codes " := ") (λ ss. mark Becomes ∷ ss)
becomes_text = free_free space (free_free becomes space)

host_becomes : Free (codes " := host ") (λ ss. mark Becomes ∷ word (codes "host") ∷ ss)
host_becomes = free_free becomes_text (bound_free (keyword (codes "host") refl) space refl)

begin_branch : Free (codes " {") (λ ss. mark OpenBrace ∷ ss)
begin_branch = free_free space open_brace

else_line : Free (codes "} else {") (λ ss. mark CloseBrace ∷ word (codes "else") ∷ mark OpenBrace ∷ ss)
else_line = free_free close_brace (free_free space (bound_free (keyword (codes "else") refl) begin_branch refl))

module _ (names : List (List ℕ)) (words : AreWords names) where
  new_parts_cut : (ps : List Part) {us vs : List Token} → NewPartsAre names us ps vs → Bound (listed_after (codes " new ") (part_text names) ps) (symbols.listed_after (word (codes "new")) (part_symbols names) ps)
  new_parts_cut [] d = bound_of free_none
  new_parts_cut (p ∷ ps) (some_new d1 d2) = free_bound (free_free space (bound_free (keyword (codes "new") refl) space refl)) (parts_cut names words (p ∷ ps) d2)

  passed_sessions_cut : (ns : List Named) {us vs : List Token} → PassedSessionsAre names us ns vs → Bound (listed_after (codes "; ") (named_text names) ns) (symbols.listed_after (mark Semicolon) (name_symbols names) ns)
  passed_sessions_cut [] d = bound_of free_none
  passed_sessions_cut (n ∷ ns) (sessions_passed d1 d2) = free_bound (free_free semicolon space) (names_cut names words (n ∷ ns) d2)

module _ (names texts : List (List ℕ)) (words : AreWords names) where
  statement_cut : (s : Statement) {us vs : List Token} → StatementIs names us s vs → AllInStatement (IsSource names texts) s → Bound (statement_text names texts s) (statement_symbols names texts s)
  statement_cut x (a_start {c = c} {k = k} {active = active} {serve = serve} d1 d2 d3 d4 d5 d6 d7 d8) ok =
      let begin = bound_free (keyword (codes "start") refl) space refl in
      let opened = bound_free (free_bound begin (name_cut names words c d2)) open_paren refl in
      let closed = bound_free (free_bound opened (name_cut names words k d4)) (free_free close_paren colon) refl in
      bound_bound (free_bound closed (parts_cut names words active d7)) (new_parts_cut names words serve d8) (list_after_opens (part_text names) 32 (110 ∷ 101 ∷ 119 ∷ 32 ∷ []) refl serve)
  statement_cut x (a_value {a = a} {b = b} {e = e} {x = var} {k = k} d1 d2 d3 d4 d5 d6 d7 d8 d9) ok =
      let sent = free_bound (free_free (part_cut names words a d1) dot) (term_cut names texts e ok) in
      let received = free_bound (free_free (free_free (bound_free sent arrow_text refl) (part_cut names words b d5)) dot) (name_cut names words var d7) in
      free_bound (bound_free received colon_text refl) (name_cut names words k d9)
  statement_cut x (a_label {a = a} {b = b} {k = k} {l = l} d1 d2 d3 d4 d5 d6 d7) ok =
      let between = free_free (free_free (free_free (part_cut names words a d1) arrow_text) (part_cut names words b d3)) colon_text in
      free_bound (bound_free (free_bound between (name_cut names words k d5)) dot refl) (name_cut names words l d7)
  statement_cut x (a_delegation {a = a} {b = b} {h = h} {k = k} d1 d2 d3 d4 d5 d6 d7 d8) ok =
      let between = free_free (free_free (free_free (part_cut names words a d1) arrow_text) (part_cut names words b d3)) colon_text in
      bound_of (free_free (free_free (bound_free (free_bound between (name_cut names words k d5)) open_paren refl) (part_cut names words h d7)) close_paren)
  statement_cut x (a_set {p = p} {x = var} {e = e} d1 d2 d3 d4 d5) ok =
      free_bound (bound_free (free_bound (bound_free (name_cut names words p d1) dot refl) (name_cut names words var d3)) becomes_text refl) (term_cut names texts e ok)
  statement_cut x (a_host_call {p = p} {x = var} {f = g} {a = a} {b = b} d1 d2 d3 d4 d5 d6 d7 d8 d9 d10 d11) ok =
      let target = bound_free (free_bound (bound_free (name_cut names words p d1) dot refl) (name_cut names words var d3)) host_becomes refl in
      let left = free_bound (bound_free (free_bound target (name_cut names words g d6)) open_paren refl) (term_cut names texts a ok.0) in
      bound_of (bound_free (free_bound (bound_free left comma_space refl) (term_cut names texts b ok.1)) close_paren refl)
  statement_cut x (a_show {p = p} {e = e} d1 d2 d3) ok =
      free_bound (bound_free (name_cut names words p d1) (free_free space (bound_free (keyword (codes "show") refl) space refl)) refl) (term_cut names texts e ok)

  -- what is passed, after the text t
  passed_cut : {t : List ℕ} {g : List Symbol → List Symbol} → Free t g → (ps ks : List Named) {us vs : List Token} → PassedAre names us ps ks vs
      → Bound (t ++ listed (named_text names) ps ++ listed_after (codes "; ") (named_text names) ks)
      (λ more. g (symbols.listed (name_symbols names) ps (symbols.listed_after (mark Semicolon) (name_symbols names) ks more)))
  passed_cut head ps ks nothing_passed = bound_bound (free_bound head (bound_of free_none)) (bound_of free_none) opens_none
  passed_cut head ps ks (processes_passed d1 d2) =
      bound_bound (free_bound head (names_cut names words ps d1)) (passed_sessions_cut names words ks d2) (list_after_opens (named_text names) 59 (32 ∷ []) refl ks)

  -- one line
  alone : (depth : ℕ) {l : List ℕ} {g : List Symbol → List Symbol} → Bound l g → Free (lines_at depth (l ∷ [])) g
  alone depth h = free_free (line_cut depth h) free_none

  mutual
    pub block_cut : (b : Block) {us vs : List Token} → BlockIs names us b vs → AllInBlock (IsSource names texts) b → (depth : ℕ) → Free (lines_at depth (lines_of names texts b)) (lines_symbols names texts b)
    block_cut x (a_block {b = b} d1 d2 d3) ok depth = lines_cut b d2 ok depth

    lines_cut : (b : Block) {us vs : List Token} → LinesAre names us b vs → AllInBlock (IsSource names texts) b → (depth : ℕ) → Free (lines_at depth (lines_of names texts b)) (lines_symbols names texts b)
    lines_cut x (a_line {s = s} {b = b} d1 d2 d3 d4) ok depth = free_free (line_cut depth (bound_of (bound_free (statement_cut s d2 ok.0) semicolon refl))) (lines_cut b d4 ok.1 depth)
    lines_cut x (a_tail d1) ok depth = tail_cut x d1 ok depth

    tail_cut : (b : Block) {us vs : List Token} → TailIs names us b vs → AllInBlock (IsSource names texts) b → (depth : ℕ) → Free (lines_at depth (lines_of names texts b)) (lines_symbols names texts b)
    tail_cut x (an_end d1 d2) ok depth = alone depth (keyword (codes "end") refl)
    tail_cut x (a_call {f = g} {ps = ps} {ss = ks} d1 d2 d3 d4 d5 d6) ok depth =
        let begin = bound_free (keyword (codes "call") refl) space refl in
        let head = bound_free (free_bound begin (name_cut names words g d3)) open_paren refl in
        alone depth (bound_of (bound_free (passed_cut head ps ks d5) close_paren refl))
    tail_cut x (a_conditional {q = q} {e = e} {a = a} {b = b} d1 d2 d3 d4 d5 d6 d7 d8) ok depth =
        let begin = bound_free (keyword (codes "if") refl) space refl in
        let head = bound_free (free_bound (bound_free (free_bound begin (name_cut names words q d3)) dot refl) (term_cut names texts e ok.0)) begin_branch refl in
        let second = free_free (block_cut b d8 ok.2 (depth + 1)) (line_cut depth (bound_of close_brace)) in
        let whole = free_free (line_cut depth (bound_of head)) (free_free (block_cut a d6 ok.1 (depth + 1)) (free_free (line_cut depth (bound_of else_line)) second)) in
        subst (λ (t : List ℕ). Free t (lines_symbols names texts x)) (sym (either_at depth (if_line names texts q e) (codes "} else {") (codes "}") (lines_of names texts a) (lines_of names texts b))) whole
