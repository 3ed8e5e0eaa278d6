-- What statements, blocks and whole sources keep that are derived.
use Rattle.std.proofs.Common.{◌≡◌, ◌&&◌, ℕ, Bool, true, List, refl, subst}
use Rattle.std.specs.List.{AllByRecursion, list_all}
use Rattle.chor_base.specs.Expr.{Term}
use Rattle.chor_lexer.specs.declared.mark.Mark.{Mark}
use Rattle.chor_lexer.specs.declared.token.Token.{Token}
use Rattle.chor_lexer.specs.Grammar.{ExprIs}
use Rattle.chor_lexer.proofs.Each.{each_back}
use Rattle.chor_tree.specs.declared.file.Named.{Named}
use Rattle.chor_tree.specs.declared.file.Service.{Service}
use Rattle.chor_tree.specs.declared.file.ProcParam.{ProcParam}
use Rattle.chor_tree.specs.declared.file.SessionParam.{SessionParam}
use Rattle.chor_tree.specs.Protocols.{Protocol, has_items}
use Rattle.chor_tree.specs.declared.tree.Part.{Part as Role}
use Rattle.chor_tree.specs.Source.{Statement, Block, Procedure, Items, Source}
use Rattle.chor_tree.specs.Kept.{named_there, names_there, protocol_there, service_there, process_param_there, session_param_there, comes_after_items, has_name, has_text}
use Rattle.source_grammar.specs.Symbols.{Part, Further, IsPart, anywhere}
use Rattle.source_grammar.specs.Grammar as g
use Rattle.source_grammar.specs.Grammar.{MarkIs, WordIs, NameIs, AnyNamesAre, PartIs, ProtocolIs, ServiceIs, ParamsAre, StatementIs, BlockIs, LinesAre, TailIs, ProcedureIs, ItemsAre, FileIs}
use Rattle.source_grammar.specs.Known.{IsTextKnown}
use Rattle.source_grammar.specs.Growing.{statement_kept, block_kept}
use Rattle.source_grammar.proofs.Protocols.{protocol_part, service_part}
use Rattle.source_grammar.proofs.ShortParts.{any_names_part}
use Rattle.source_grammar.proofs.Heads.{params_part}
use Rattle.source_grammar.proofs.Statements.{statement_part}
use Rattle.source_grammar.proofs.Files.{body_part, procedure_part, items_part}
use Rattle.source_grammar.proofs.Headers.{header_part}
use Rattle.source_grammar.proofs.Free.{IsFree, names_free, statement_free, protocol_free, service_free, params_free, block_free, procedure_free, items_free, header_free}
use Rattle.source_grammar.proofs.KnownTexts.{TermKept, or_kept}
use Rattle.source_grammar.proofs.KeptHeads.{two, three, four, five, named, list_filled, any_names_kept, part_kept, parts_kept, new_parts_kept, protocol_kept, service_kept, params_kept, passed_kept}

-- ---- the tokens that are left

-- the texts of these tokens are in the table
record AreKnown (texts : List (List ℕ)) (ts : List Token) : Type 0 where
  each : AllByRecursion (IsTextKnown texts) ts

rest_of : {A : Type 0} {R : Part A} {C : Further} {names : List (List ℕ)} {ts : List Token} {x : A} {rest : List Token} {texts : List (List ℕ)} → IsPart R C → R anywhere names ts x rest → AreKnown texts ts → AreKnown texts rest
rest_of {rest = rest} {texts = texts} p r h = let f = p.fits r in record { each = each_back (IsTextKnown texts) f.front rest (subst (AllByRecursion (IsTextKnown texts)) f.parts h.each) }

free : IsFree anywhere
free = record { blocks = λ p. tt; items = λ p. tt }

mark_rest : {m : Mark} {ts rest : List Token} {texts : List (List ℕ)} → MarkIs m ts rest → AreKnown texts ts → AreKnown texts rest
mark_rest {texts = texts} m h = record { each = (subst (AllByRecursion (IsTextKnown texts)) m.parts h.each).1 }

word_rest : {names : List (List ℕ)} {w : List ℕ} {ts rest : List Token} {texts : List (List ℕ)} → WordIs names w ts rest → AreKnown texts ts → AreKnown texts rest
word_rest {texts = texts} w h = record { each = (subst (AllByRecursion (IsTextKnown texts)) w.parts h.each).1 }

name_rest : {names : List (List ℕ)} {n : Named} {ts rest : List Token} {texts : List (List ℕ)} → NameIs names ts n rest → AreKnown texts ts → AreKnown texts rest
name_rest {texts = texts} n h = record { each = (subst (AllByRecursion (IsTextKnown texts)) n.parts h.each).1 }

part_rest : {names : List (List ℕ)} {p : Role} {ts rest : List Token} {texts : List (List ℕ)} → PartIs names ts p rest → AreKnown texts ts → AreKnown texts rest
part_rest (g.a_part p o r c) h = mark_rest c (name_rest r (mark_rest o (name_rest p h)))

statement_rest : {names : List (List ℕ)} {s : Statement} {ts rest : List Token} {texts : List (List ℕ)} → StatementIs names ts s rest → AreKnown texts ts → AreKnown texts rest
statement_rest d h = rest_of statement_part (record { is = d; keeps = statement_free free d }) h

block_rest : {names : List (List ℕ)} {b : Block} {ts rest : List Token} {texts : List (List ℕ)} → BlockIs names ts b rest → AreKnown texts ts → AreKnown texts rest
block_rest d h = rest_of body_part (record { is = d; keeps = block_free 64 1024 free d }) h

params_rest : {names : List (List ℕ)} {ps : List ProcParam} {ss : List SessionParam} {ts rest : List Token} {texts : List (List ℕ)} → ParamsAre names ts ps ss rest → AreKnown texts ts → AreKnown texts rest
params_rest {ps = ps} {ss = ss} d h = rest_of {x = (ps, ss)} params_part (d, params_free free d) h

protocol_rest : {names : List (List ℕ)} {p : Protocol} {ts rest : List Token} {texts : List (List ℕ)} → ProtocolIs names ts p rest → AreKnown texts ts → AreKnown texts rest
protocol_rest d h = rest_of protocol_part (d, protocol_free free d) h

service_rest : {names : List (List ℕ)} {s : Service} {ts rest : List Token} {texts : List (List ℕ)} → ServiceIs names ts s rest → AreKnown texts ts → AreKnown texts rest
service_rest d h = rest_of service_part (d, service_free free d) h

procedure_rest : {names : List (List ℕ)} {p : Procedure} {ts rest : List Token} {texts : List (List ℕ)} → ProcedureIs names ts p rest → AreKnown texts ts → AreKnown texts rest
procedure_rest d h = rest_of procedure_part (d, procedure_free free d) h

items_rest : {names : List (List ℕ)} {is : Items} {ts rest : List Token} {texts : List (List ℕ)} → ItemsAre names ts is rest → AreKnown texts ts → AreKnown texts rest
items_rest d h = rest_of items_part (d, items_free free d) h

-- ---- statements and blocks

term : {names texts : List (List ℕ)} {ts : List Token} {x : Term} {rest : List Token} → ExprIs names ts x rest → AreKnown texts ts → TermKept names texts x rest
term {names} {texts} {ts} {x} {rest} e h = or_kept names texts ts x rest e h.each

others : {names texts : List (List ℕ)} {x : Term} {rest : List Token} → TermKept names texts x rest → AreKnown texts rest
others k = record { each = k.others }

statement_good : (names texts : List (List ℕ)) {ts : List Token} {s : Statement} {rest : List Token} → StatementIs names ts s rest → AreKnown texts ts → statement_kept (has_name names) (has_text texts) s ≡ true
statement_good names texts (g.a_start w c o k e m active serve) h = two (four (named c) (named k) (parts_kept active) (new_parts_kept serve)) (list_filled active)
statement_good names texts (g.a_value a d e r b f x m k) h =
    let at = mark_rest d (part_rest a h) in
    two (five (part_kept a) (term e at).there (part_kept b) (named x) (named k)) refl
statement_good names texts (g.a_label a r b c k d l) h = two (four (part_kept a) (part_kept b) (named k) (named l)) refl
statement_good names texts (g.a_delegation a r b c k o i e) h = two (four (part_kept a) (part_kept b) (named k) (part_kept i)) refl
statement_good names texts (g.a_set p d x b e) h =
    let at = mark_rest b (name_rest x (mark_rest d (name_rest p h))) in
    two (three (named p) (named x) (term e at).there) refl
statement_good names texts (g.a_host_call p d x b w f o l c r e) h =
    let at = mark_rest b (name_rest x (mark_rest d (name_rest p h))) in
    let left = term l (mark_rest o (name_rest f (word_rest w at))) in
    let right = term r (mark_rest c (others left)) in
    two (five (named p) (named x) (named f) left.there right.there) refl
statement_good names texts (g.a_show p w e) h =
    two (two (named p) (term e (word_rest w (name_rest p h))).there) refl

mutual
  block_good : (names texts : List (List ℕ)) {ts : List Token} {b : Block} {rest : List Token} → BlockIs names ts b rest → AreKnown texts ts → block_kept (has_name names) (has_text texts) b ≡ true
  block_good names texts (g.a_block o l c) h = lines_good names texts l (mark_rest o h)

  lines_good : (names texts : List (List ℕ)) {ts : List Token} {b : Block} {rest : List Token} → LinesAre names ts b rest → AreKnown texts ts → block_kept (has_name names) (has_text texts) b ≡ true
  lines_good names texts (g.a_line at s m l) h =
      two (statement_good names texts s h) (lines_good names texts l (mark_rest m (statement_rest s h)))
  lines_good names texts (g.a_tail t) h = tail_good names texts t h

  tail_good : (names texts : List (List ℕ)) {ts : List Token} {b : Block} {rest : List Token} → TailIs names ts b rest → AreKnown texts ts → block_kept (has_name names) (has_text texts) b ≡ true
  tail_good names texts (g.an_end at w) h = refl
  tail_good names texts (g.a_call at w f o passed c) h = let k = passed_kept passed in two (three (named f) k.processes k.sessions) k.filled
  tail_good names texts (g.a_conditional at w q d e a l b) h =
      let test = term e (mark_rest d (name_rest q (word_rest w h))) in
      let other = word_rest l (block_rest a (others test)) in
      two (two (named q) test.there) (two (block_good names texts a (others test)) (block_good names texts b other))

-- ---- sources

abbrev pub head_there : List (List ℕ) → Procedure → Bool
head_there names p = named_there (has_name names) p.name && list_all (process_param_there (has_name names)) p.params && list_all (session_param_there (has_name names)) p.sessions

abbrev pub head_filled : Procedure → Bool
head_filled p = comes_after_items p.params p.sessions && list_all (λ (k : SessionParam). has_items k.holders) p.sessions

pub record ProcedureKept (names texts : List (List ℕ)) (p : Procedure) : Type 0 where
  pub there : head_there names p ≡ true
  pub filled : head_filled p ≡ true
  pub body : block_kept (has_name names) (has_text texts) p.body ≡ true

procedure_good : (names texts : List (List ℕ)) {ts : List Token} {p : Procedure} {rest : List Token} → ProcedureIs names ts p rest → AreKnown texts ts → ProcedureKept names texts p
procedure_good names texts (g.a_procedure w n o params c body) h =
    let k = params_kept params in
    let at = mark_rest c (params_rest params (mark_rest o (name_rest n (word_rest w h)))) in
    record { there = three (named n) k.params k.sessions; filled = k.filled; body = block_good names texts body at }

pub record ItemsKept (names texts : List (List ℕ)) (is : Items) : Type 0 where
  pub protocols : list_all (protocol_there (has_name names)) is.protocols ≡ true
  pub services : list_all (service_there (has_name names)) is.services ≡ true
  pub services_filled : list_all (λ (s : Service). has_items s.active) is.services ≡ true
  pub heads : list_all (head_there names) is.procedures ≡ true
  pub heads_filled : list_all head_filled is.procedures ≡ true
  pub bodies : AllByRecursion (λ (p : Procedure). block_kept (has_name names) (has_text texts) p.body ≡ true) is.procedures

items_good : (names texts : List (List ℕ)) {ts : List Token} {is : Items} {rest : List Token} → ItemsAre names ts is rest → AreKnown texts ts → ItemsKept names texts is
items_good names texts g.no_item h = record { protocols = refl; services = refl; services_filled = refl; heads = refl; heads_filled = refl; bodies = tt }
items_good names texts (g.protocol_first p is) h =
    let k = protocol_kept p in
    let l = items_good names texts is (protocol_rest p h) in
    record {
      protocols = two k l.protocols;
      services = l.services;
      services_filled = l.services_filled;
      heads = l.heads;
      heads_filled = l.heads_filled;
      bodies = l.bodies;
    }
items_good names texts (g.service_first s is) h =
    let k = service_kept s in
    let l = items_good names texts is (service_rest s h) in
    record {
      protocols = l.protocols;
      services = two k.0 l.services;
      services_filled = two k.1 l.services_filled;
      heads = l.heads;
      heads_filled = l.heads_filled;
      bodies = l.bodies;
    }
items_good names texts (g.procedure_first p is) h =
    let k = procedure_good names texts p h in
    let l = items_good names texts is (procedure_rest p h) in
    record {
      protocols = l.protocols;
      services = l.services;
      services_filled = l.services_filled;
      heads = two k.there l.heads;
      heads_filled = two k.filled l.heads_filled;
      bodies = (k.body, l.bodies);
    }

pub record SourceKept (names texts : List (List ℕ)) (s : Source) : Type 0 where
  pub items : ItemsKept names texts s.items
  pub processes : names_there (has_name names) s.processes ≡ true
  pub body : block_kept (has_name names) (has_text texts) s.body ≡ true

any_rest : {names : List (List ℕ)} {ns : List Named} {ts rest : List Token} {texts : List (List ℕ)} → AnyNamesAre names ts ns rest → AreKnown texts ts → AreKnown texts rest
any_rest d h = rest_of (any_names_part 64) (d, names_free 64 free d) h

pub source_good : (names texts : List (List ℕ)) {ts : List Token} {s : Source} → FileIs names ts s → AllByRecursion (IsTextKnown texts) ts → SourceKept names texts s
source_good names texts (g.a_file d is w o ps c body e) each =
    let h : AreKnown texts _ = rest_of header_part (d, header_free free d) (record { each = each }) in
    let at = mark_rest c (any_rest ps (mark_rest o (word_rest w (items_rest is h)))) in
    record { items = items_good names texts is h; processes = any_names_kept ps; body = block_good names texts body at }
