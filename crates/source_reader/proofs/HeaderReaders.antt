-- What readers of headers come to.
use Rattle.std.proofs.Common.{◌≡◌, ℕ, List, ◌∷◌, Some, None, codes}
use Rattle.chor_base.specs.declared.rule.Place.{Place}
use Rattle.chor_lexer.specs.declared.mark.Mark.TheVariants.{Semicolon}
use Rattle.chor_lexer.specs.declared.token.Token.{Token}
use Rattle.chor_tree.specs.Headers.{first_place, no_header}
use Rattle.source_grammar.specs.Symbols.{Nothing, Reads, Then, Leads}
use Rattle.source_grammar.specs.Grammar.{StandsAt, WordIs, NumberIs, MarkIs}
use Rattle.source_grammar.specs.Parts.{MarkPart, AWord}
use Rattle.source_grammar.specs.Files.{NumberPart, CapacityNumber, CapacityPart, HeaderPart, HeaderMore}
use Rattle.source_grammar.proofs.Sequels.{leads, leads_on}
use Rattle.source_grammar.proofs.Choices.{same_leads, same_reads, option_leads, without_reads}
use Rattle.source_grammar.proofs.Starts.{nothing_apart}
use Rattle.source_grammar.proofs.Terminals.{word_stable, word_head, no_word_head, after_word, after_mark, nothing_among}
use Rattle.source_grammar.proofs.Headers.{number_part, number_reads, chor_keyword, capacity_keyword, word_at_part, word_at_reads, some_capacity_begins, same_among, capacity_alike, header_by, some_header_begins, capacity_more, chor_more, header_alike}

-- ---- capacities

pub no_capacity_read : {names : List (List ℕ)} {ts : List Token} → ((rest : List Token) → WordIs names (codes "capacity") ts rest → ⊥) → Reads CapacityPart (AWord (codes "capacity")) names ts (None, first_place) ts
no_capacity_read n = same_reads capacity_alike (without_reads some_capacity_begins (word_stable (codes "capacity")) (no_word_head n))

-- the word stands where its token does
pub stands_so : {names : List (List ℕ)} {w : List ℕ} {ts rest : List Token} {p : Place} → WordIs names w ts rest → ((t : Token) (left : List Token) → ts ≡ t ∷ left → p ≡ t.place) → StandsAt p ts
stands_so {rest = rest} w at = record { token = w.token; rest = rest; parts = w.parts; place = at w.token rest w.parts }

pub capacity_leads : {names : List (List ℕ)} {ts mid : List Token} {p : Place} → StandsAt p ts → WordIs names (codes "capacity") ts mid
    → Leads CapacityPart (AWord (codes "capacity")) names ts (Then CapacityNumber (MarkPart Semicolon)) Nothing mid (λ v. (Some v.0, p))
capacity_leads s w =
    leads_on (same_leads capacity_alike)
    (leads_on (option_leads some_capacity_begins (word_stable (codes "capacity")) (nothing_among (AWord (codes "capacity"))) (same_among (AWord (codes "capacity"))) (word_head w))
    (leads (word_at_part capacity_keyword) nothing_apart (word_at_reads capacity_keyword s w)))

-- ---- headers

pub no_header_read : {names : List (List ℕ)} {ts : List Token} → ((rest : List Token) → WordIs names (codes "chor") ts rest → ⊥) → Reads HeaderPart HeaderMore names ts no_header ts
no_header_read n = same_reads header_alike (without_reads some_header_begins (word_stable (codes "chor")) (no_word_head n))

pub chor_leads : {names : List (List ℕ)} {ts mid : List Token} → WordIs names (codes "chor") ts mid
    → Leads HeaderPart HeaderMore names ts (Then (NumberPart 2) (Then (MarkPart Semicolon) CapacityPart)) (AWord (codes "capacity")) mid (λ v. header_by (Some (tt, v)))
chor_leads w = leads_on (same_leads header_alike) (leads_on (option_leads some_header_begins (word_stable (codes "chor")) capacity_more chor_more (word_head w)) (after_word chor_keyword w))

pub after_number : {names : List (List ℕ)} {ts mid : List Token} {n : ℕ} → NumberIs n ts mid
    → Leads (Then (NumberPart n) (Then (MarkPart Semicolon) CapacityPart)) (AWord (codes "capacity")) names ts (Then (MarkPart Semicolon) CapacityPart) (AWord (codes "capacity")) mid (λ y. (tt, y))
after_number {n = n} i = leads (number_part n) nothing_apart (number_reads i)

pub header_leads : {names : List (List ℕ)} {t0 t1 t2 t3 : List Token} → WordIs names (codes "chor") t0 t1 → NumberIs 2 t1 t2 → MarkIs Semicolon t2 t3
    → Leads HeaderPart HeaderMore names t0 CapacityPart (AWord (codes "capacity")) t3 (λ v. record { version = 2; capacity = v.0; place = v.1 })
header_leads w n m = leads_on (chor_leads w) (leads_on (after_number n) (after_mark m))
