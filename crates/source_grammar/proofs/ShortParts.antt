-- Short parts of sources: words, lists of names, parts of processes.
use Rattle.std.proofs.Common.{◌≡◌, ℕ, List, [], Option, Some, None, refl}
use Rattle.chor_lexer.specs.declared.mark.Mark.{Mark}
use Rattle.chor_lexer.specs.declared.mark.Mark.TheVariants.{OpenBracket, CloseBracket, Comma}
use Rattle.chor_lexer.specs.declared.token.Token.{Token}
use Rattle.chor_tree.specs.declared.file.Named.{Named}
use Rattle.chor_tree.specs.declared.tree.Part.{Part as ProcessRole}
use Rattle.source_grammar.specs.Symbols.{Allowed, Part, Further, Nothing, IsPart, Then, Apart, AtMost, without, with, IsStable, Begins, Opens, As, Alike}
use Rattle.source_grammar.proofs.Sequels.{then_part}
use Rattle.source_grammar.proofs.Choices.{same_part, option_part}
use Rattle.source_grammar.proofs.Starts.{then_begins, same_begins, same_opens, nothing_apart, begins_apart}
use Rattle.source_grammar.specs.Grammar as g
use Rattle.source_grammar.specs.Grammar.{NameIs, PartIs, SortIs, PayloadIs, ArmIs, StepIs, StateIs, MoreStatesAre, StatesAre, ProtocolIs, AnyNamesAre, ServedAre, ServiceIs}
use Rattle.source_grammar.specs.Limits.{KeepsAnyNames}
use Rattle.source_grammar.specs.Parts.{MarkPart, NamePart, AMark, AName, AComma, OrComma, OrName, ItemPart, Unlimited, NamesPart, AnyNamesPart, PartPart}
use Rattle.source_grammar.proofs.Terminals.{mark_part, mark_begins, mark_stable, name_part, name_begins, name_opens, name_stable, marks_differ, nothing_distinct, or_left, or_right, or_stable, distinct_or}
use Rattle.source_grammar.proofs.ItemLists.{AreItems, Commas, IsItem, Roomy, roomy_items, list_alike, commas_part, commas_begins, all_of, Bare}

-- ---- short words

-- one part and then another
pub seq : {A B : Type 0} {R : Part A} {S : Part B} {Q : Allowed} {names : List (List ℕ)} {ts rest : List Token} {x : A} {y : B} (mid : List Token) → R Q names ts x mid → S Q names mid y rest → Then R S Q names ts (x, y) rest
seq mid h k = record { mid = mid; first = h; second = k }

-- a part with which nothing goes on, and then another
pub and_then : {A B : Type 0} {R : Part A} {S : Part B} {D : Further} → IsPart R Nothing → IsPart S D → IsPart (Then R S) D
and_then p q = then_part p q nothing_apart

pub mark_then : {B : Type 0} {S : Part B} {D : Further} {m : Mark} → IsPart S D → IsPart (Then (MarkPart m) S) D
mark_then {m = m} q = and_then (mark_part m) q

pub name_then : {B : Type 0} {S : Part B} {D : Further} → IsPart S D → IsPart (Then NamePart S) D
name_then q = and_then name_part q

pub a_mark : {m : Mark} → IsPart (MarkPart m) Nothing
a_mark {m} = mark_part m

-- a list goes on with no mark but a comma
pub mark_after_list : {D : Further} {m : Mark} → (m ≡ Comma → ⊥) → Apart (OrComma Nothing) (MarkPart m) D
mark_after_list {m = m} d = begins_apart (mark_begins m) (distinct_or (marks_differ m Comma d) (nothing_distinct (AMark m)))

pub after_list : {B : Type 0} {S : Part B} {D : Further} {m : Mark} → (m ≡ Comma → ⊥) → Apart (OrComma Nothing) (Then (MarkPart m) S) D
after_list {m = m} d = begins_apart (then_begins (mark_begins m)) (distinct_or (marks_differ m Comma d) (nothing_distinct (AMark m)))

pub comma_stable : IsStable AComma
comma_stable = mark_stable Comma

pub nothing_stable : IsStable Nothing
nothing_stable = record { stays = λ names words t h. h; back = λ names words t k h. h }

pub list_stable : IsStable (OrComma Nothing)
list_stable = or_stable comma_stable nothing_stable

-- items without limits of their own
pub free_item : {A : Type 0} (Item : List (List ℕ) → List Token → A → List Token → Type 0) → Alike (ItemPart Item (Unlimited Item)) (λ Q names ts x rest. Item names ts x rest) (λ x. x)
free_item Item = record { to = λ {Q} {names} {ts} {x} h. record { value = x; is = h.0; same = refl }; from = λ h. (h, tt) }

pub free_items : {A : Type 0} (Item : List (List ℕ) → List Token → A → List Token → Type 0) → IsPart (λ Q names ts x rest. Item names ts x rest) Nothing → Begins (λ Q names ts x rest. Item names ts x rest) AName → Opens (λ Q names ts x rest. Item names ts x rest) AName → IsItem (ItemPart Item (Unlimited Item)) Nothing AName
free_items Item p b o = record {
  part = same_part p (free_item Item);
  begins = same_begins b (free_item Item);
  opens = same_opens o (free_item Item);
  stable = name_stable;
  end_stable = nothing_stable;
  distinct = nothing_distinct AComma;
}

-- ---- lists of names

pub name_item : IsItem (ItemPart NameIs (Unlimited NameIs)) Nothing AName
name_item = free_items NameIs name_part name_begins name_opens

pub names_alike : (n : ℕ) → Alike (NamesPart n) (Commas (Roomy (ItemPart NameIs (Unlimited NameIs))) n) all_of
names_alike n = list_alike NameIs (Unlimited NameIs) n

pub names_part : (n : ℕ) → IsPart (NamesPart n) (OrComma Nothing)
names_part n = same_part (commas_part n (roomy_items name_item)) (names_alike n)

pub names_begins : (n : ℕ) → Begins (NamesPart n) AName
names_begins n = same_begins (commas_begins n (roomy_items name_item)) (names_alike n)

abbrev pub some_or_none : {A : Type 0} → Option (List A) → List A
some_or_none None = []
some_or_none (Some xs) = xs

any_names_to : {Q : Allowed} {names : List (List ℕ)} {ts : List Token} {ns : List Named} {rest : List Token} (n : ℕ) (d : AnyNamesAre names ts ns rest) → KeepsAnyNames Q n d → As (AtMost (NamesPart n)) some_or_none Q names ts ns rest
any_names_to n g.no_names k = record { value = None; is = without; same = refl }
any_names_to n (g.some_names {ns = ns} h) k = record { value = Some ns; is = with (h, k); same = refl }

any_names_from : {Q : Allowed} {names : List (List ℕ)} {ts : List Token} {o : Option (List Named)} {rest : List Token} (n : ℕ) → AtMost (NamesPart n) Q names ts o rest → AnyNamesPart n Q names ts (some_or_none o) rest
any_names_from n without = (g.no_names, tt)
any_names_from n (with h) = (g.some_names h.0, h.1)

pub any_names_alike : (n : ℕ) → Alike (AnyNamesPart n) (AtMost (NamesPart n)) some_or_none
any_names_alike n = record { to = λ h. any_names_to n h.0 h.1; from = λ h. any_names_from n h }

pub any_names_part : (n : ℕ) → IsPart (AnyNamesPart n) OrName
any_names_part n = same_part (option_part (names_part n) (names_begins n) (or_right AName (OrComma Nothing)) (or_left AName (OrComma Nothing)) (or_stable name_stable list_stable)) (any_names_alike n)

-- ---- parts of processes

abbrev pub PartNest : Part (Named × (Unit {0} × (Named × Unit {0})))
PartNest = Then NamePart (Then (MarkPart OpenBracket) (Then NamePart (MarkPart CloseBracket)))

abbrev pub part_of : Named × (Unit {0} × (Named × Unit {0})) → ProcessRole
part_of v = record { process = v.0; role = v.1.1.0 }

part_to : {Q : Allowed} {names : List (List ℕ)} {ts : List Token} {p : ProcessRole} {rest : List Token} → PartIs names ts p rest → As PartNest part_of Q names ts p rest
part_to (g.a_part {p = p} {r = r} n o s c) = record { value = (p, (tt, (r, tt))); is = seq _ n (seq _ o (seq _ s c)); same = refl }

pub part_alike : Alike PartPart PartNest part_of
part_alike = record { to = λ h. part_to h; from = λ h. g.a_part h.first h.second.first h.second.second.first h.second.second.second }

pub part_part : IsPart PartPart Nothing
part_part = same_part (name_then (mark_then (name_then a_mark))) part_alike

pub part_begins : Begins PartPart AName
part_begins = same_begins (then_begins name_begins) part_alike

pub part_items : AreItems (Bare PartIs) Nothing AName
part_items = record { part = λ n. part_part; begins = λ n. part_begins; stable = nothing_stable; distinct = nothing_distinct AComma }
