-- Items that are read one by one.
use Rattle.std.specs.Prelude.{IfSome, IfNone, IsTrue}
use Rattle.std.proofs.Common.{Option, Some, None, drop, ◌≡◌, ℕ, List, [], ◌∷◌, ◌++◌, map, ap, refl, sym, ◌∙◌, subst, append_assoc, codes, inl, inr}
use Rattle.std.proofs.lemmas.List.{append-nil, map-append}
use Rattle.chor_base.specs.declared.rule.Denied.{Denied}
use Rattle.chor_lexer.specs.declared.token.Token.{Token}
use Rattle.chor_lexer.specs.Tokens.{is_ended}
use Rattle.chor_tree.specs.declared.header.Header.{Header}
use Rattle.chor_tree.specs.declared.file.Named.{Named}
use Rattle.chor_tree.specs.declared.file.Proc.{Proc}
use Rattle.chor_tree.specs.declared.file.Service.{Service}
use Rattle.chor_tree.specs.Protocols.{Protocol}
use Rattle.chor_tree.specs.declared.tree.Node.{Node}
use Rattle.chor_tree.specs.declared.tree.NodeId.{NodeId}
use Rattle.source_grammar.specs.Symbols.{Nothing, Reads, Halts, Head, left, right, Times, Leads}
use Rattle.source_grammar.proofs.Sequels.{past, reads_past, leads_on, leads_same}
use Rattle.source_grammar.proofs.Choices.{same_leads}
use Rattle.source_grammar.proofs.Repetitions.{times_done, times_step, times_now}
use Rattle.chor_parser.specs.declared.source.Declared.{Declared}
use Rattle.chor_tree.specs.Source.{Block, Procedure, Items, procedure_of}
use Rattle.source_grammar.specs.Grammar.{WordIs}
use Rattle.source_grammar.specs.Parts.{ProtocolPart, ServicePart}
use Rattle.source_grammar.specs.Faults.{IsWithin}
use Rattle.source_grammar.specs.Files.{SourcePart, main_of, ProcedurePart, AnItemPart, ItemFirst, ItemsPart}
use Rattle.source_reader.specs.Reading.{Ends}
use Rattle.chor_parser.specs.Items.{items_of, joined, ItemGoes, AddsBodies}
use Rattle.source_grammar.specs.Growing.{Grows, AreThere, Adds, begins_of}
use Rattle.source_grammar.proofs.Shorter.{protocol_shorter, service_shorter, procedure_shorter}
use Rattle.source_grammar.proofs.Tables.{procedures_stay}
use Rattle.source_grammar.proofs.Growth.{adds_on}
use Rattle.chor_parser.proofs.Ends.{end_is}
use Rattle.source_grammar.proofs.FirstFaults.{within}
use Rattle.source_grammar.proofs.Terminals.{word_head, words_apart}
use Rattle.source_grammar.proofs.Files.{EachItem, gathered, items_alike, items_repeated, a_protocol_leads, a_service_leads, a_procedure_leads}

abbrev items : List Protocol → List Service → List Procedure → Items
items ps ss qs = record { protocols = ps; services = ss; procedures = qs }

-- these items have come
pub record ItemsGo (names : List (List ℕ)) (ts : List Token) (d : Declared) (rest : List Token) : Type 0 where
  pub leads : Leads ItemsPart ItemFirst names ts (Times EachItem 0) ItemFirst rest (λ xs. joined (items_of d) (gathered xs))

-- nothing so far
pub none_so_far : {names : List (List ℕ)} {ts : List Token} {d : Declared} → d.protocols ≡ [] → d.services ≡ [] → d.procs ≡ [] → ItemsGo names ts d ts
none_so_far {names} {ts} {d} e f h = record {
  leads = leads_same (same_leads items_alike) (λ xs i. items (sym e i ++ (gathered xs).protocols) (sym f i ++ (gathered xs).services) (map (procedure_of d.tree.nodes) (sym h i) ++ (gathered xs).procedures));
}

-- one item more
pub one_so_far : {names : List (List ℕ)} {ts t1 t2 : List Token} {old new : Declared} → ItemsGo names ts old t1 → ItemGoes names t1 old new t2 → ItemsGo names ts new t2
one_so_far g h = record { leads = leads_same (leads_on g.leads (times_step 0 items_repeated h.reads)) (λ xs. h.adds (gathered xs)) }

-- an item that has begun stops
pub item_stops : {names : List (List ℕ)} {ts t1 : List Token} {d : Declared} {r : Denied} → ItemsGo names ts d t1 → Head ItemFirst names t1 → Halts AnItemPart Nothing names t1 r → Halts ItemsPart ItemFirst names ts r
item_stops g h k = past g.leads (times_now 0 items_repeated h k)

-- all items
pub all_items : {names : List (List ℕ)} {ts rest : List Token} {d : Declared} → ItemsGo names ts d rest → (Head ItemFirst names rest → ⊥) → Reads ItemsPart ItemFirst names ts (items_of d) rest
all_items {names} {ts} {rest} {d} g n =
    let same : joined (items_of d) (items [] [] []) ≡ items_of d = λ i. items (append-nil d.protocols i) (append-nil d.services i) (append-nil (map (procedure_of d.tree.nodes) d.procs) i) in
    subst (λ (x : Items). Reads ItemsPart ItemFirst names ts x rest) same (g.leads.reads [] rest (times_done 0 items_repeated n))

-- ---- items of each kind, after their words

pub protocol_leads : {names : List (List ℕ)} {ts rest : List Token} → WordIs names (codes "protocol") ts rest → Leads AnItemPart Nothing names ts ProtocolPart Nothing ts left
protocol_leads w = a_protocol_leads (word_head w)

pub service_leads : {names : List (List ℕ)} {ts rest : List Token} → WordIs names (codes "service") ts rest → Leads AnItemPart Nothing names ts ServicePart Nothing ts (λ s. right (left s))
service_leads w = a_service_leads (words_apart (codes "protocol") (codes "service") refl refl w) (word_head w)

pub procedure_leads : {names : List (List ℕ)} {ts rest : List Token} → WordIs names (codes "proc") ts rest → Leads AnItemPart Nothing names ts ProcedurePart Nothing ts (λ p. right (right p))
procedure_leads w = a_procedure_leads (words_apart (codes "protocol") (codes "proc") refl refl w) (words_apart (codes "service") (codes "proc") refl refl w)

pub protocol_goes : {names : List (List ℕ)} {ts mid rest : List Token} {old new : Declared} {p : Protocol} → WordIs names (codes "protocol") ts mid → Reads ProtocolPart Nothing names ts p rest → new.protocols ≡ old.protocols ++ p ∷ [] → new.services ≡ old.services → new.procs ≡ old.procs → new.tree ≡ old.tree → ItemGoes names ts old new rest
protocol_goes {names} {ts} {mid} {rest} {old} {new} {p} w r e f q t = record {
  item = left p;
  reads = reads_past (protocol_leads w) r;
  adds = λ is. sym (λ i. items ((ap (λ (l : List Protocol). l ++ is.protocols) e ∙ append_assoc old.protocols (p ∷ []) is.protocols) i) (f i ++ is.services) (map (procedure_of (t i).nodes) (q i) ++ is.procedures));
  shorter = protocol_shorter r.is.0;
}

pub service_goes : {names : List (List ℕ)} {ts mid rest : List Token} {old new : Declared} {s : Service} → WordIs names (codes "service") ts mid → Reads ServicePart Nothing names ts s rest → new.protocols ≡ old.protocols → new.services ≡ old.services ++ s ∷ [] → new.procs ≡ old.procs → new.tree ≡ old.tree → ItemGoes names ts old new rest
service_goes {names} {ts} {mid} {rest} {old} {new} {s} w r e f q t = record {
  item = right (left s);
  reads = reads_past (service_leads w) r;
  adds = λ is. sym (λ i. items (e i ++ is.protocols) ((ap (λ (l : List Service). l ++ is.services) f ∙ append_assoc old.services (s ∷ []) is.services) i) (map (procedure_of (t i).nodes) (q i) ++ is.procedures));
  shorter = service_shorter r.is.0;
}

map_last : (nodes : List Node) (ps : List Proc) (p : Proc) → map (procedure_of nodes) (ps ++ p ∷ []) ≡ map (procedure_of nodes) ps ++ procedure_of nodes p ∷ []
map_last nodes [] p = refl
map_last nodes (q ∷ ps) p = ap (λ (l : List Procedure). procedure_of nodes q ∷ l) (map_last nodes ps p)

pub procedure_goes : {names : List (List ℕ)} {ts mid rest : List Token} {old new : Declared} (p : Proc) → WordIs names (codes "proc") ts mid → Reads ProcedurePart Nothing names ts (procedure_of new.tree.nodes p) rest → new.protocols ≡ old.protocols → new.services ≡ old.services → new.procs ≡ old.procs ++ p ∷ [] → Grows old.tree.nodes new.tree.nodes → AreThere old.tree.nodes old.procs → ItemGoes names ts old new rest
procedure_goes {names} {ts} {mid} {rest} {old} {new} p w r e f q g there =
    let made : map (procedure_of new.tree.nodes) new.procs ≡ map (procedure_of old.tree.nodes) old.procs ++ procedure_of new.tree.nodes p ∷ [] =
    ap (map (procedure_of new.tree.nodes)) q ∙ map_last new.tree.nodes old.procs p
    ∙ ap (λ (l : List Procedure). l ++ procedure_of new.tree.nodes p ∷ []) (procedures_stay old.tree.nodes new.tree.nodes old.procs g there) in
    record {
      item = right (right (procedure_of new.tree.nodes p));
      reads = reads_past (procedure_leads w) r;
      adds = λ is. sym (λ i. items (e i ++ is.protocols) (f i ++ is.services) ((ap (λ (l : List Procedure). l ++ is.procedures) made ∙ append_assoc (map (procedure_of old.tree.nodes) old.procs) (procedure_of new.tree.nodes p ∷ []) is.procedures) i));
      shorter = procedure_shorter r.is.0;
    }

-- an item that was read
pub item_at : (names : List (List ℕ)) (tokens ts : List Token) (old new : Declared) (o : Option ℕ) (x : ℕ) → IfSome o (λ n. ItemGoes names ts old new (drop n tokens)) → o ≡ Some x → ItemGoes names ts old new (drop x tokens)
item_at names tokens ts old new o x h e = subst (λ (k : Option ℕ). IfSome k (λ n. ItemGoes names ts old new (drop n tokens))) e h

-- none was read
pub none_at : {P : Type 0} (o : Option ℕ) → IfNone o P → o ≡ None → P
none_at {P} o h e = subst (λ (k : Option ℕ). IfNone k P) e h

pub same_items : {names : List (List ℕ)} {ts rest : List Token} {old : Declared} (new : Declared) → ItemsGo names ts old rest → new ≡ old → ItemsGo names ts new rest
same_items {names} {ts} {rest} {old} new g e = subst (λ (d : Declared). ItemsGo names ts d rest) (sym e) g

-- ---- their nodes

-- with the procedures that were read after those before
pub adds_bodies : {old new : Declared} → Adds [] old.tree.nodes (begins_of old.procs) → AddsBodies old new → Adds [] new.tree.nodes (begins_of new.procs)
adds_bodies {old} {new} d e =
    let same : begins_of old.procs ++ begins_of e.procs ≡ begins_of new.procs = sym (ap begins_of e.parts ∙ map-append (λ (p : Proc). p.body) old.procs e.procs) in
    subst (λ (rs : List NodeId). Adds [] new.tree.nodes rs) same (adds_on d e.adds)

-- ---- the whole file

pub file_within : (names : List (List ℕ)) (tokens : List Token) (end : ℕ) (h : Header) (d : Declared) (final : List Node) (ps : List Named) (b : Block) → Reads SourcePart Nothing names tokens (h, (items_of d, main_of ps b)) (drop end tokens) → AreThere d.tree.nodes d.procs → Grows d.tree.nodes final → IsTrue (is_ended tokens) → Ends (drop end tokens) → IsWithin names tokens (record { header = h; items = record { protocols = d.protocols; services = d.services; procedures = map (procedure_of final) d.procs }; processes = ps; body = b })
file_within names tokens end h d final ps b r there grows ended e =
    let here = within r (end_is tokens end ended e) in
    let same : map (procedure_of final) d.procs ≡ map (procedure_of d.tree.nodes) d.procs = procedures_stay d.tree.nodes final d.procs grows there in
    subst (λ (qs : List Procedure). IsWithin names tokens (record { header = h; items = record { protocols = d.protocols; services = d.services; procedures = qs }; processes = ps; body = b })) (sym same) here

-- what begins with the word of an item begins as one
pub begins_protocol : {names : List (List ℕ)} {ts rest : List Token} → WordIs names (codes "protocol") ts rest → Head ItemFirst names ts
begins_protocol {rest = rest} w = record { token = w.token; rest = rest; parts = w.parts; is = inl w.is }

pub begins_service : {names : List (List ℕ)} {ts rest : List Token} → WordIs names (codes "service") ts rest → Head ItemFirst names ts
begins_service {rest = rest} w = record { token = w.token; rest = rest; parts = w.parts; is = inr (inl w.is) }

pub begins_procedure : {names : List (List ℕ)} {ts rest : List Token} → WordIs names (codes "proc") ts rest → Head ItemFirst names ts
begins_procedure {rest = rest} w = record { token = w.token; rest = rest; parts = w.parts; is = inr (inr w.is) }
