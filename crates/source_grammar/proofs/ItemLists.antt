-- Lists as parts of the grammar.
use Rattle.std.proofs.Common.{◌≡◌, ◌-◌, ℕ, List, [], ◌∷◌, ◌++◌, length, map, ap, refl, sym, ◌∙◌, subst, append_assoc, length-append, arith}
use Rattle.std.proofs.lemmas.List.{append-nil}
use Rattle.chor_base.specs.declared.rule.Rule.TheVariants.{P3}
use Rattle.chor_base.specs.declared.rule.Denied.{Denied}
use Rattle.chor_lexer.specs.declared.mark.Mark.TheVariants.{Comma}
use Rattle.chor_lexer.specs.declared.token.Token.{Token}
use Rattle.source_grammar.specs.Symbols.{Allowed, Part, Further, IsPart, Reads, Halts, Then, Apart, Within, IsStable, AreDistinct, Begins, Opens, As, Alike, Repeats, done, again, Times, AreRepeated, Leads}
use Rattle.source_grammar.proofs.Sequels.{then_part, now, leads, leads_on, leads_same}
use Rattle.source_grammar.proofs.Choices.{same_leads}
use Rattle.source_grammar.proofs.Starts.{then_begins, within_part, within_begins, nothing_apart}
use Rattle.source_grammar.proofs.Repetitions.{times_part, times_apart, times_done, times_step, times_now}
use Rattle.source_grammar.specs.Grammar.{MarkIs, MoreAre, no_more, one_more, ListIs, a_list}
use Rattle.source_grammar.specs.Limits.{KeepsMore, KeepsList}
use Rattle.source_grammar.specs.Parts.{MarkPart, AComma, OrComma, ItemPart, MorePart, ListPart, AnyListPart}
use Rattle.source_grammar.proofs.Terminals.{mark_part, mark_begins, mark_stable, mark_head, no_mark_head, after_mark, or_left, or_right, or_stable}

-- ---- items with commas between them

-- what is asked of an item where n have room
pub record AreItems {A : Type 0} (W : ℕ → Part A) (C F : Further) : Type 1 where
  pub part : (n : ℕ) → IsPart (W n) C
  pub begins : (n : ℕ) → Begins (W n) F
  pub stable : IsStable C
  pub distinct : AreDistinct AComma C

abbrev pub CommaAnd : {A : Type 0} → (ℕ → Part A) → ℕ → Part (Unit {0} × A)
CommaAnd W n = Then (MarkPart Comma) (W n)

abbrev pub Commas : {A : Type 0} → (ℕ → Part A) → ℕ → Part (A × List (Unit {0} × A))
Commas W n = Then (W n) (Times (CommaAnd W) (n - 1))

abbrev pub rest_of : {A : Type 0} → List (Unit {0} × A) → List A
rest_of ys = map (λ y. y.1) ys

abbrev pub all_of : {A : Type 0} → A × List (Unit {0} × A) → List A
all_of v = v.0 ∷ rest_of v.1

pub repeated : {A : Type 0} {W : ℕ → Part A} {C F : Further} → AreItems W C F → AreRepeated (CommaAnd W) C (OrComma C) AComma
repeated {C = C} w = record {
  part = λ n. then_part (mark_part Comma) (w.part n) nothing_apart;
  begins = λ n. then_begins (mark_begins Comma);
  distinct = w.distinct;
  items = or_right AComma C;
  starts = or_left AComma C;
  start_stable = mark_stable Comma;
  end_stable = or_stable (mark_stable Comma) w.stable;
}

pub apart_from_more : {A : Type 0} {W : ℕ → Part A} {C F : Further} {n : ℕ} → AreItems W C F → Apart C (Times (CommaAnd W) n) (OrComma C)
apart_from_more {C = C} w = times_apart (repeated w) w.distinct (or_right AComma C)

pub commas_part : {A : Type 0} {W : ℕ → Part A} {C F : Further} (n : ℕ) → AreItems W C F → IsPart (Commas W n) (OrComma C)
commas_part n w = then_part (w.part n) (times_part (repeated w) (n - 1)) (apart_from_more w)

pub commas_begins : {A : Type 0} {W : ℕ → Part A} {C F : Further} (n : ℕ) → AreItems W C F → Begins (Commas W n) F
commas_begins n w = then_begins (w.begins n)

-- ---- the readers of lists

pub first_item : {A B : Type 0} {L : Part B} {W : ℕ → Part A} {C F : Further} {names : List (List ℕ)} {ts mid : List Token} {x : A} (n : ℕ) (f : A × List (Unit {0} × A) → B) → AreItems W C F → Alike L (Commas W n) f → Reads (W n) C names ts x mid → Leads L (OrComma C) names ts (Times (CommaAnd W) (n - 1)) (OrComma C) mid (λ ys. f (x, ys))
first_item n f w a r = leads_on (same_leads a) (leads (w.part n) (apart_from_more w) r)

pub first_item_halts : {A B : Type 0} {L : Part B} {W : ℕ → Part A} {C F : Further} {names : List (List ℕ)} {ts : List Token} {d : Denied} (n : ℕ) (f : A × List (Unit {0} × A) → B) → AreItems W C F → Alike L (Commas W n) f → Halts (W n) C names ts d → Halts L (OrComma C) names ts d
first_item_halts {d = d} n f w a h = (same_leads a).halts d (now (times_part (repeated w) (n - 1)) (apart_from_more w) h)

-- some items have come, and there is room for n more
pub record Comes {A : Type 0} (L : Part (List A)) (W : ℕ → Part A) (C : Further) (names : List (List ℕ)) (ts : List Token) (n : ℕ) (xs : List A) (rest : List Token) : Type 0 where
  pub leads : Leads L (OrComma C) names ts (Times (CommaAnd W) n) (OrComma C) rest (λ ys. xs ++ rest_of ys)

pub first_comes : {A : Type 0} {L : Part (List A)} {W : ℕ → Part A} {C F : Further} {names : List (List ℕ)} {ts mid : List Token} {x : A} (n : ℕ) (none xs : List A) → AreItems W C F → Alike L (Commas W n) all_of → Reads (W n) C names ts x mid → none ≡ [] → xs ≡ none ++ x ∷ [] → Comes L W C names ts (n - length xs) xs mid
first_comes {A} {L} {W} {C} {F} {names} {ts} {mid} {x} n none xs w a r e f =
    let one : xs ≡ x ∷ [] = f ∙ ap (λ (l : List A). l ++ x ∷ []) e in
    subst (λ (l : List A). Comes L W C names ts (n - length l) l mid) (sym one) (record { leads = first_item n all_of w a r })

pub more_come : {A : Type 0} {L : Part (List A)} {W : ℕ → Part A} {C F : Further} {names : List (List ℕ)} {ts t1 t2 t3 : List Token} {x : A} (n : ℕ) (xs ys : List A) → AreItems W C F → Comes L W C names ts (n - length xs) xs t1 → MarkIs Comma t1 t2 → Reads (W (n - length xs)) C names t2 x t3 → ys ≡ xs ++ x ∷ [] → Comes L W C names ts (n - length ys) ys t3
more_come {A} {L} {W} {C} {F} {names} {ts} {t1} {t2} {t3} {x} n xs ys w c m r e =
    let step = leads_on c.leads (times_step (n - length xs) (repeated w) ((after_mark m).reads x t3 r)) in
    let here = leads_same step (λ zs. sym (append_assoc xs (x ∷ []) (rest_of zs))) in
    let count : n - length xs - 1 ≡ n - length (xs ++ x ∷ []) = omega (arith, length-append xs (x ∷ [])) in
    let all : Comes L W C names ts (n - length (xs ++ x ∷ [])) (xs ++ x ∷ []) t3 = subst (λ (k : ℕ). Comes L W C names ts k (xs ++ x ∷ []) t3) count (record { leads = here }) in
    subst (λ (l : List A). Comes L W C names ts (n - length l) l t3) (sym e) all

pub item_halts : {A : Type 0} {L : Part (List A)} {W : ℕ → Part A} {C F : Further} {names : List (List ℕ)} {ts t1 t2 : List Token} {d : Denied} (n : ℕ) (xs : List A) → AreItems W C F → Comes L W C names ts n xs t1 → MarkIs Comma t1 t2 → Halts (W n) C names t2 d → Halts L (OrComma C) names ts d
item_halts {d = d} n xs w c m h = c.leads.halts d (times_now n (repeated w) (mark_head m) ((after_mark m).halts d h))

pub list_reads : {A : Type 0} {L : Part (List A)} {W : ℕ → Part A} {C F : Further} {names : List (List ℕ)} {ts rest : List Token} (n : ℕ) (xs : List A) → AreItems W C F → Comes L W C names ts n xs rest → ((t : List Token) → MarkIs Comma rest t → ⊥) → Reads L (OrComma C) names ts xs rest
list_reads {A} {L} {W} {C} {F} {names} {ts} {rest} n xs w c h =
    subst (λ (l : List A). Reads L (OrComma C) names ts l rest) (append-nil xs) (c.leads.reads [] rest (times_done n (repeated w) (λ k. no_mark_head h k)))

-- ---- the lists of the grammar

-- an item that has room
abbrev pub Roomy : {A : Type 0} → Part A → ℕ → Part A
Roomy R n = Within P3 n R

more_to : {A : Type 0} {Item : List (List ℕ) → List Token → A → List Token → Type 0} {K : Allowed → (names : List (List ℕ)) (ts : List Token) (x : A) (rest : List Token) → Item names ts x rest → Type 0} {Q : Allowed} {names : List (List ℕ)} {ts : List Token} {xs : List A} {rest : List Token} (n : ℕ) (d : MoreAre (Item names) ts xs rest) → KeepsMore Q (K Q names) n d → As (Times (CommaAnd (Roomy (ItemPart Item K))) n) rest_of Q names ts xs rest
more_to n no_more k = record { value = []; is = done; same = refl }
more_to {A} {Item} {K} n (one_more {t1 = t1} {t2 = t2} {x = x} c i m) k =
    let r = more_to {Item = Item} {K = K} (n - 1) m k.2 in
    record {
      value = (tt, x) ∷ r.value;
      is = again (record { mid = t1; first = c; second = record { room = k.0; is = (i, k.1) } }) r.is;
      same = ap (λ (l : List A). x ∷ l) r.same;
    }

more_from : {A : Type 0} {Item : List (List ℕ) → List Token → A → List Token → Type 0} {K : Allowed → (names : List (List ℕ)) (ts : List Token) (x : A) (rest : List Token) → Item names ts x rest → Type 0} {Q : Allowed} {names : List (List ℕ)} {n : ℕ} {ts : List Token} {ys : List (Unit {0} × A)} {rest : List Token} → Repeats (CommaAnd (Roomy (ItemPart Item K))) Q names n ts ys rest → MorePart Item K n Q names ts (rest_of ys) rest
more_from done = (no_more, tt)
more_from {Item = Item} {K = K} (again h m) =
    let r = more_from {Item = Item} {K = K} m in
    (one_more h.first h.second.is.0 r.0, (h.second.room, h.second.is.1, r.1))

list_to : {A : Type 0} {Item : List (List ℕ) → List Token → A → List Token → Type 0} {K : Allowed → (names : List (List ℕ)) (ts : List Token) (x : A) (rest : List Token) → Item names ts x rest → Type 0} {Q : Allowed} {names : List (List ℕ)} {ts : List Token} {xs : List A} {rest : List Token} (n : ℕ) (d : ListIs (Item names) ts xs rest) → KeepsList Q (K Q names) n d → As (Commas (Roomy (ItemPart Item K)) n) all_of Q names ts xs rest
list_to {A} {Item} {K} n (a_list {t1 = t1} {x = x} i m) k =
    let r = more_to {Item = Item} {K = K} (n - 1) m k.2 in
    record {
      value = (x, r.value);
      is = record { mid = t1; first = record { room = k.0; is = (i, k.1) }; second = r.is };
      same = ap (λ (l : List A). x ∷ l) r.same;
    }

pub list_alike : {A : Type 0} (Item : List (List ℕ) → List Token → A → List Token → Type 0) (K : Allowed → (names : List (List ℕ)) (ts : List Token) (x : A) (rest : List Token) → Item names ts x rest → Type 0) (n : ℕ) → Alike (ListPart Item K n) (Commas (Roomy (ItemPart Item K)) n) all_of
list_alike Item K n = record {
  to = λ h. list_to {Item = Item} {K = K} n h.0 h.1;
  from = λ h.
      let r = more_from {Item = Item} {K = K} h.second in
      (a_list h.first.is.0 r.0, (h.first.room, h.first.is.1, r.1));
}

-- items of which each keeps its own limits
pub record IsItem {A : Type 0} (R : Part A) (C F : Further) : Type 1 where
  pub part : IsPart R C
  pub begins : Begins R F
  pub opens : Opens R F
  pub stable : IsStable F
  pub end_stable : IsStable C
  pub distinct : AreDistinct AComma C

pub roomy_items : {A : Type 0} {R : Part A} {C F : Further} → IsItem R C F → AreItems (Roomy R) C F
roomy_items r = record {
  part = λ n. within_part r.part r.begins;
  begins = λ n. within_begins r.begins;
  stable = r.end_stable;
  distinct = r.distinct;
}

-- ---- lists without a limit

abbrev pub Bare : {A : Type 0} → (List (List ℕ) → List Token → A → List Token → Type 0) → ℕ → Part A
Bare Item n Q names ts x rest = Item names ts x rest

any_more_to : {A : Type 0} {Item : List (List ℕ) → List Token → A → List Token → Type 0} {Q : Allowed} {names : List (List ℕ)} {ts : List Token} {xs : List A} {rest : List Token} (n : ℕ) → MoreAre (Item names) ts xs rest → As (Times (CommaAnd (Bare Item)) n) rest_of Q names ts xs rest
any_more_to n no_more = record { value = []; is = done; same = refl }
any_more_to {A} {Item} n (one_more {t1 = t1} {x = x} c i m) =
    let r = any_more_to {Item = Item} (n - 1) m in
    record {
      value = (tt, x) ∷ r.value;
      is = again (record { mid = t1; first = c; second = i }) r.is;
      same = ap (λ (l : List A). x ∷ l) r.same;
    }

any_more_from : {A : Type 0} {Item : List (List ℕ) → List Token → A → List Token → Type 0} {Q : Allowed} {names : List (List ℕ)} {n : ℕ} {ts : List Token} {ys : List (Unit {0} × A)} {rest : List Token} → Repeats (CommaAnd (Bare Item)) Q names n ts ys rest → MoreAre (Item names) ts (rest_of ys) rest
any_more_from done = no_more
any_more_from {Item = Item} (again h m) = one_more h.first h.second (any_more_from {Item = Item} m)

any_list_to : {A : Type 0} {Item : List (List ℕ) → List Token → A → List Token → Type 0} {Q : Allowed} {names : List (List ℕ)} {ts : List Token} {xs : List A} {rest : List Token} (n : ℕ) → ListIs (Item names) ts xs rest → As (Commas (Bare Item) n) all_of Q names ts xs rest
any_list_to {A} {Item} n (a_list {t1 = t1} {x = x} i m) =
    let r = any_more_to {Item = Item} (n - 1) m in
    record { value = (x, r.value); is = record { mid = t1; first = i; second = r.is }; same = ap (λ (l : List A). x ∷ l) r.same }

pub any_list_alike : {A : Type 0} (Item : List (List ℕ) → List Token → A → List Token → Type 0) (n : ℕ) → Alike (AnyListPart Item) (Commas (Bare Item) n) all_of
any_list_alike Item n = record {
  to = λ h. any_list_to {Item = Item} n h;
  from = λ h. a_list h.first (any_more_from {Item = Item} h.second);
}
