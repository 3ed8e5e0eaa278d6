-- Procedures, what stands before main, and main as parts of the grammar.
use Rattle.std.proofs.Common.{◌-◌, inl, inr, ℕ, List, [], ◌∷◌, ap, refl, codes}
use Rattle.chor_lexer.specs.declared.mark.Mark.TheVariants.{OpenParen, CloseParen, Comma, Semicolon}
use Rattle.chor_lexer.specs.declared.token.Token.{Token}
use Rattle.chor_tree.specs.declared.file.Named.{Named}
use Rattle.chor_tree.specs.declared.file.ProcParam.{ProcParam}
use Rattle.chor_tree.specs.declared.file.SessionParam.{SessionParam}
use Rattle.source_grammar.specs.Symbols.{Allowed, Part, Further, Nothing, IsPart, Then, Apart, left, right, OneOf, the_first, the_second, IsStable, AreDistinct, Head, Begins, As, Alike, Repeats, done, again, Times, AreRepeated, Leads}
use Rattle.source_grammar.proofs.Sequels.{then_part, leads_on}
use Rattle.source_grammar.proofs.Choices.{same_part, choice_part, choice_begins, first_leads, second_leads}
use Rattle.source_grammar.proofs.Starts.{then_begins, same_begins, begins_apart}
use Rattle.source_grammar.proofs.Repetitions.{times_part}
use Rattle.chor_tree.specs.Source.{Block, Procedure, Items}
use Rattle.source_grammar.specs.Grammar as g
use Rattle.source_grammar.specs.Grammar.{ProcedureIs, ItemsAre}
use Rattle.source_grammar.specs.Limits.{KeepsProcedure, KeepsItems}
use Rattle.source_grammar.specs.Parts.{MarkPart, WordPart, NamePart, AMark, AWord, Or, OrName, OrParams, AnyNamesPart, ParamsPart, ProtocolPart, ServicePart}
use Rattle.source_grammar.specs.Blocks.{BlockPart}
use Rattle.source_grammar.specs.Files.{ProcedurePart, Item, AnItemPart, ItemFirst, ItemsPart, with_item, Main, MainPart, HeaderMore, BarePart, SourcePart}
use Rattle.source_grammar.proofs.Terminals.{mark_begins, word_part, word_begins, word_stable, mark_not_name, marks_differ, words_differ, nothing_distinct, nothing_among, or_stable, or_distinct, distinct_or, proc_keyword, main_keyword}
use Rattle.source_grammar.proofs.Protocols.{protocol_alike, protocol_part, service_alike, service_part}
use Rattle.source_grammar.proofs.ShortParts.{seq, and_then, mark_then, name_then, any_names_part}
use Rattle.source_grammar.proofs.Heads.{params_part}
use Rattle.source_grammar.proofs.Nested.{block_part}
use Rattle.source_grammar.proofs.Headers.{header_part}

-- ---- procedures

abbrev pub ProcedureNest : Part (Unit {0} × (Named × (Unit {0} × ((List ProcParam × List SessionParam) × (Unit {0} × Block)))))
ProcedureNest = Then (WordPart (codes "proc")) (Then NamePart (Then (MarkPart OpenParen) (Then ParamsPart (Then (MarkPart CloseParen) (BlockPart 64 1024)))))

abbrev pub procedure_by : Unit {0} × (Named × (Unit {0} × ((List ProcParam × List SessionParam) × (Unit {0} × Block)))) → Procedure
procedure_by v = record { name = v.1.0; params = v.1.1.1.0.0; sessions = v.1.1.1.0.1; body = v.1.1.1.1.1 }

procedure_to : {Q : Allowed} {names : List (List ℕ)} {ts : List Token} {p : Procedure} {rest : List Token} (d : ProcedureIs names ts p rest) → KeepsProcedure Q d → As ProcedureNest procedure_by Q names ts p rest
procedure_to (g.a_procedure {n = n} {ps = ps} {ss = ss} {b = b} w h o v c body) k = record {
  value = (tt, (n, (tt, ((ps, ss), (tt, b)))));
  is = seq _ w (seq _ h (seq _ o (record { mid = _; first = (v, k.0); second = seq _ c (record { is = body; keeps = k.1 }) })));
  same = refl;
}

procedure_from : {Q : Allowed} {names : List (List ℕ)} {ts : List Token} {v : Unit {0} × (Named × (Unit {0} × ((List ProcParam × List SessionParam) × (Unit {0} × Block))))} {rest : List Token} → ProcedureNest Q names ts v rest → ProcedurePart Q names ts (procedure_by v) rest
procedure_from h =
    let t = h.second.second.second in
    (g.a_procedure h.first h.second.first h.second.second.first t.first.0 t.second.first t.second.second.is, (t.first.1, t.second.second.keeps))

pub procedure_alike : Alike ProcedurePart ProcedureNest procedure_by
procedure_alike = record { to = λ h. procedure_to h.0 h.1; from = λ h. procedure_from h }

pub body_part : IsPart (BlockPart 64 1024) Nothing
body_part = block_part 64 1024

-- what follows parameters doesn't go on with them
pub params_end : Apart OrParams (Then (MarkPart CloseParen) (BlockPart 64 1024)) Nothing
params_end = begins_apart (then_begins (mark_begins CloseParen)) (distinct_or (mark_not_name CloseParen) (distinct_or (marks_differ CloseParen Semicolon (λ e. absurd cc)) (distinct_or (marks_differ CloseParen Comma (λ e. absurd cc)) (marks_differ CloseParen OpenParen (λ e. absurd cc)))))

pub procedure_tail : IsPart (Then NamePart (Then (MarkPart OpenParen) (Then ParamsPart (Then (MarkPart CloseParen) (BlockPart 64 1024))))) Nothing
procedure_tail = name_then (mark_then (then_part params_part (mark_then body_part) params_end))

pub procedure_part : IsPart ProcedurePart Nothing
procedure_part = same_part (and_then (word_part proc_keyword) procedure_tail) procedure_alike

-- ---- what stands before main

pub protocol_begins : Begins ProtocolPart (AWord (codes "protocol"))
protocol_begins = same_begins (then_begins (word_begins (codes "protocol"))) protocol_alike

pub service_begins : Begins ServicePart (AWord (codes "service"))
service_begins = same_begins (then_begins (word_begins (codes "service"))) service_alike

pub procedure_begins : Begins ProcedurePart (AWord (codes "proc"))
procedure_begins = same_begins (then_begins (word_begins (codes "proc"))) procedure_alike

abbrev pub OtherFirst : Further
OtherFirst = Or (AWord (codes "service")) (AWord (codes "proc"))

pub service_not_procedure : AreDistinct (AWord (codes "service")) (AWord (codes "proc"))
service_not_procedure = words_differ (codes "service") (codes "proc") refl refl

pub protocol_not_other : AreDistinct (AWord (codes "protocol")) OtherFirst
protocol_not_other = distinct_or (words_differ (codes "protocol") (codes "service") refl refl) (words_differ (codes "protocol") (codes "proc") refl refl)

other_part : IsPart (OneOf ServicePart ProcedurePart) Nothing
other_part = choice_part service_part procedure_part service_begins procedure_begins service_not_procedure

pub other_begins : Begins (OneOf ServicePart ProcedurePart) OtherFirst
other_begins = choice_begins service_begins procedure_begins

pub an_item_part : IsPart AnItemPart Nothing
an_item_part = choice_part protocol_part other_part protocol_begins other_begins protocol_not_other

pub an_item_begins : Begins AnItemPart ItemFirst
an_item_begins = choice_begins protocol_begins other_begins

pub item_first_stable : IsStable ItemFirst
item_first_stable = or_stable (word_stable (codes "protocol")) (or_stable (word_stable (codes "service")) (word_stable (codes "proc")))

-- an item of each kind
pub a_protocol_leads : {names : List (List ℕ)} {ts : List Token} → Head (AWord (codes "protocol")) names ts → Leads AnItemPart Nothing names ts ProtocolPart Nothing ts left
a_protocol_leads h = first_leads other_begins (word_stable (codes "protocol")) protocol_not_other h

pub a_service_leads : {names : List (List ℕ)} {ts : List Token} → (Head (AWord (codes "protocol")) names ts → ⊥) → Head (AWord (codes "service")) names ts → Leads AnItemPart Nothing names ts ServicePart Nothing ts (λ s. right (left s))
a_service_leads n h = leads_on (second_leads protocol_begins (word_stable (codes "protocol")) n) (first_leads procedure_begins (word_stable (codes "service")) service_not_procedure h)

pub a_procedure_leads : {names : List (List ℕ)} {ts : List Token} → (Head (AWord (codes "protocol")) names ts → ⊥) → (Head (AWord (codes "service")) names ts → ⊥) → Leads AnItemPart Nothing names ts ProcedurePart Nothing ts (λ p. right (right p))
a_procedure_leads n m = leads_on (second_leads protocol_begins (word_stable (codes "protocol")) n) (second_leads service_begins (word_stable (codes "service")) m)

-- which begins with none of the words is no item
pub no_item_head : {names : List (List ℕ)} {ts : List Token} → (Head (AWord (codes "protocol")) names ts → ⊥) → (Head (AWord (codes "service")) names ts → ⊥) → (Head (AWord (codes "proc")) names ts → ⊥) → Head ItemFirst names ts → ⊥
no_item_head {names} {ts} p s q h = go h.is
  where
    go : ItemFirst names h.token → ⊥
    go (inl w) = p (record { token = h.token; rest = h.rest; parts = h.parts; is = w })
    go (inr (inl w)) = s (record { token = h.token; rest = h.rest; parts = h.parts; is = w })
    go (inr (inr w)) = q (record { token = h.token; rest = h.rest; parts = h.parts; is = w })

-- items one after another
abbrev pub EachItem : ℕ → Part Item
EachItem n = AnItemPart

abbrev pub gathered : List Item → Items
gathered [] = record { protocols = []; services = []; procedures = [] }
gathered (x ∷ xs) = with_item x (gathered xs)

items_to : {Q : Allowed} {names : List (List ℕ)} {ts : List Token} {is : Items} {rest : List Token} (n : ℕ) (d : ItemsAre names ts is rest) → KeepsItems Q d → As (Times EachItem n) gathered Q names ts is rest
items_to n g.no_item k = record { value = []; is = done; same = refl }
items_to n (g.protocol_first {p = p} h m) k =
    let r = items_to (n - 1) m k.1 in
    record { value = left p ∷ r.value; is = again (the_first (h, k.0)) r.is; same = ap (with_item (left p)) r.same }
items_to n (g.service_first {s = s} h m) k =
    let r = items_to (n - 1) m k.1 in
    record { value = right (left s) ∷ r.value; is = again (the_second (the_first (h, k.0))) r.is; same = ap (with_item (right (left s))) r.same }
items_to n (g.procedure_first {p = p} h m) k =
    let r = items_to (n - 1) m k.1 in
    record { value = right (right p) ∷ r.value; is = again (the_second (the_second (h, k.0))) r.is; same = ap (with_item (right (right p))) r.same }

item_before : {Q : Allowed} {names : List (List ℕ)} {ts mid : List Token} {x : Item} {is : Items} {rest : List Token} → AnItemPart Q names ts x mid → ItemsPart Q names mid is rest → ItemsPart Q names ts (with_item x is) rest
item_before (the_first h) r = (g.protocol_first h.0 r.0, (h.1, r.1))
item_before (the_second (the_first h)) r = (g.service_first h.0 r.0, (h.1, r.1))
item_before (the_second (the_second h)) r = (g.procedure_first h.0 r.0, (h.1, r.1))

items_from : {Q : Allowed} {names : List (List ℕ)} {n : ℕ} {ts : List Token} {xs : List Item} {rest : List Token} → Repeats EachItem Q names n ts xs rest → ItemsPart Q names ts (gathered xs) rest
items_from done = (g.no_item, tt)
items_from (again h m) = item_before h (items_from m)

pub items_alike : Alike ItemsPart (Times EachItem 0) gathered
items_alike = record { to = λ h. items_to 0 h.0 h.1; from = λ h. items_from h }

pub items_repeated : AreRepeated EachItem Nothing ItemFirst ItemFirst
items_repeated = record {
  part = λ n. an_item_part;
  begins = λ n. an_item_begins;
  distinct = nothing_distinct ItemFirst;
  items = nothing_among ItemFirst;
  starts = λ names t h. h;
  start_stable = item_first_stable;
  end_stable = item_first_stable;
}

pub items_part : IsPart ItemsPart ItemFirst
items_part = same_part (times_part items_repeated 0) items_alike

-- ---- main, and a whole source

pub names_end : Apart OrName (Then (MarkPart CloseParen) (BlockPart 64 1024)) Nothing
names_end = begins_apart (then_begins (mark_begins CloseParen)) (distinct_or (mark_not_name CloseParen) (distinct_or (marks_differ CloseParen Comma (λ e. absurd cc)) (nothing_distinct (AMark CloseParen))))

pub names_tail : IsPart (Then (AnyNamesPart 64) (Then (MarkPart CloseParen) (BlockPart 64 1024))) Nothing
names_tail = then_part (any_names_part 64) (mark_then body_part) names_end

pub main_tail : IsPart (Then (MarkPart OpenParen) (Then (AnyNamesPart 64) (Then (MarkPart CloseParen) (BlockPart 64 1024)))) Nothing
main_tail = mark_then names_tail

pub main_part : IsPart MainPart Nothing
main_part = and_then (word_part main_keyword) main_tail

pub items_end : Apart ItemFirst MainPart Nothing
items_end = begins_apart (then_begins (word_begins (codes "main"))) (distinct_or (words_differ (codes "main") (codes "protocol") refl refl) (distinct_or (words_differ (codes "main") (codes "service") refl refl) (words_differ (codes "main") (codes "proc") refl refl)))

pub bare_part : IsPart BarePart Nothing
bare_part = then_part items_part main_part items_end

-- the words with which begins what follows the header
abbrev pub BareFirst : Further
BareFirst = Or ItemFirst (AWord (codes "main"))

bare_head : {Q : Allowed} {names : List (List ℕ)} {ts mid rest : List Token} {is : Items} {m : Main} (d : ItemsAre names ts is mid) → KeepsItems Q d → MainPart Q names mid m rest → Head BareFirst names ts
bare_head g.no_item k m = let h = (then_begins (word_begins (codes "main"))).by m in record { token = h.token; rest = h.rest; parts = h.parts; is = inr h.is }
bare_head {Q} (g.protocol_first p is) k m = let h = protocol_begins.by {Q = Q} (p, k.0) in record { token = h.token; rest = h.rest; parts = h.parts; is = inl (inl h.is) }
bare_head {Q} (g.service_first s is) k m = let h = service_begins.by {Q = Q} (s, k.0) in record { token = h.token; rest = h.rest; parts = h.parts; is = inl (inr (inl h.is)) }
bare_head {Q} (g.procedure_first p is) k m = let h = procedure_begins.by {Q = Q} (p, k.0) in record { token = h.token; rest = h.rest; parts = h.parts; is = inl (inr (inr h.is)) }

bare_begins : Begins BarePart BareFirst
bare_begins = record { by = λ h. bare_head h.first.0 h.first.1 h.second }

-- what follows a header doesn't go on with it
bare_no_header : AreDistinct BareFirst HeaderMore
bare_no_header =
    or_distinct
    (or_distinct
    (distinct_or (words_differ (codes "protocol") (codes "chor") refl refl) (words_differ (codes "protocol") (codes "capacity") refl refl))
    (or_distinct
    (distinct_or (words_differ (codes "service") (codes "chor") refl refl) (words_differ (codes "service") (codes "capacity") refl refl))
    (distinct_or (words_differ (codes "proc") (codes "chor") refl refl) (words_differ (codes "proc") (codes "capacity") refl refl))))
    (distinct_or (words_differ (codes "main") (codes "chor") refl refl) (words_differ (codes "main") (codes "capacity") refl refl))

pub header_end : Apart HeaderMore BarePart Nothing
header_end = begins_apart bare_begins bare_no_header

pub source_part : IsPart SourcePart Nothing
source_part = then_part header_part bare_part header_end
