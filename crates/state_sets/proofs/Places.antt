-- Tables of the numbers of states, filled from the first state to the last.
use Rattle.std.proofs.Common.{◌≡◌, ℕ, ◌+◌, ◌<◌, ◌≤◌, List, ◌∷◌, ◌++◌, length, drop, ap, sym, ◌∙◌}
use Rattle.std.specs.declared.alloc.Global.{Global}
use Rattle.std.specs.Prelude.{slice_index_or, Option, Result, Ok, Err, IfOk, Vec}
use Rattle.std.specs.FinMap as fin
use Rattle.std.proofs.lemmas.List.{drop_more, drop_all}
use Rattle.chor_base.specs.declared.names.NameId.{NameId}
use Rattle.chor_base.specs.NameMap.{FromNames}
use Rattle.chor_base.specs.FirstPlaces.{or_else, with_place}
use Rattle.chor_base.proofs.FirstPlaces.{later, or_none, none_yet, one_more}
use Rattle.chor_tree.specs.declared.protocol.ProtoArm.{ProtoArm}
use Rattle.chor_tree.specs.declared.protocol.State.{State}
use Rattle.global_types.specs.Moves.{state_named}
use Rattle.state_sets.specs.declared.act.Act.{Act}
use Rattle.state_sets.specs.declared.moves.Move.{Move}
use Rattle.state_sets.specs.Moves.{choice_act, move_to, arms_by, step_by, moves_by, moves_from}
use Rattle.state_sets.specs.Places.{place_in, ArePlaces}
use Rattle.state_sets.proofs.Lists.{step_on}

-- the table so far, with the numbers of the states that are left, is the whole table
abbrev pub ArePlacesSoFar : List State → ℕ → FromNames ℕ → Type 0
ArePlacesSoFar ss i places = (n : NameId) → or_else (fin.get places n.0) (later i (state_named (drop i ss) n)) ≡ state_named ss n

pub places_begin : (ss : List State) (places : FromNames ℕ) → places ≡ fin.empty → ArePlacesSoFar ss 0 places
places_begin ss places e n = none_yet places n (state_named ss n) e

pub places_more : (ss seen : List State) (i : ℕ) (d s : State) (old new : FromNames ℕ) → seen ≡ ss → i < length ss → s ≡ slice_index_or seen i d → new ≡ with_place old s.name.name i
    → ArePlacesSoFar ss i old → ArePlacesSoFar ss (i + 1) new
places_more ss seen i d s old new same lt at more so_far n =
    let rest = drop (i + 1) ss in
    let is : s ≡ slice_index_or ss i d = at ∙ ap (λ (l : List State). slice_index_or l i d) same in
    ap (λ m. or_else (fin.get m n.0) (later (i + 1) (state_named rest n))) more
    ∙ one_more old s.name.name n i (state_named rest n)
    ∙ ap (λ (l : List State). or_else (fin.get old n.0) (later i (state_named l n))) (ap (λ (t : State). t ∷ rest) is ∙ sym (drop_more ss i d lt))
    ∙ so_far n

pub places_end : (ss : List State) (i : ℕ) (places : FromNames ℕ) → length ss ≤ i → ArePlacesSoFar ss i places → ArePlaces ss places
places_end ss i places h so_far n =
    sym (or_none (fin.get places n.0)) ∙ ap (λ (l : List State). or_else (fin.get places n.0) (later i (state_named l n))) (sym (drop_all i ss h)) ∙ so_far n

-- moves by a table are moves by names
moves_placed : (ss : List State) (r : NameId) (places : FromNames ℕ) (ms : List Move) → ArePlaces ss places → ms ≡ moves_by (place_in places) r 0 ss → ms ≡ moves_from ss r 0 ss
moves_placed ss r places ms are is =
    let same : ◌≡◌ {A = NameId → Option ℕ} (place_in places) (state_named ss) = λ i n. are n i in
    is ∙ ap (λ (f : NameId → Option ℕ). moves_by f r 0 ss) same

pub placed_so : {E : Type 0} (ss : List State) (r : NameId) (places : FromNames ℕ) (o : Result (Vec Move Global) E) → ArePlaces ss places
    → IfOk o (λ v. v.items ≡ moves_by (place_in places) r 0 ss) → IfOk o (λ v. v.items ≡ moves_from ss r 0 ss)
placed_so ss r places (Ok v) are is = moves_placed ss r places v.items are is
placed_so ss r places (Err e) are is = tt

-- one state more
pub placed_more : (f : NameId → Option ℕ) (r : NameId) (ss seen : List State) (i : ℕ) (d : State) (old new whole : List Move) → seen ≡ ss → i < length ss
    → new ≡ old ++ step_by f r i (slice_index_or seen i d).step → old ++ moves_by f r i (drop i ss) ≡ whole → new ++ moves_by f r (i + 1) (drop (i + 1) ss) ≡ whole
placed_more f r ss seen i d old new whole same lt grows before =
    let rest = moves_by f r (i + 1) (drop (i + 1) ss) in
    let part = step_by f r i (slice_index_or ss i d).step in
    step_on old new part (moves_by f r i (drop i ss)) rest whole (grows ∙ ap (λ (l : List State). old ++ step_by f r i (slice_index_or l i d).step) same) (ap (λ l. moves_by f r i l) (drop_more ss i d lt)) before

-- one arm more
pub arm_more : (f : NameId → Option ℕ) (r : NameId) (from : ℕ) (a b : NameId) (arms : List ProtoArm) (i : ℕ) (d : ProtoArm) (act : Option Act) (old new whole : List Move) → i < length arms
    → act ≡ choice_act r a b (slice_index_or arms i d).label.name → new ≡ old ++ move_to from act (f (slice_index_or arms i d).next.name)
    → old ++ arms_by f r from a b (drop i arms) ≡ whole → new ++ arms_by f r from a b (drop (i + 1) arms) ≡ whole
arm_more f r from a b arms i d act old new whole lt is grows before =
    let arm = slice_index_or arms i d in
    let part = move_to from (choice_act r a b arm.label.name) (f arm.next.name) in
    let own : new ≡ old ++ part = grows ∙ ap (λ (o : Option Act). old ++ move_to from o (f arm.next.name)) is in
    step_on old new part (arms_by f r from a b (drop i arms)) (arms_by f r from a b (drop (i + 1) arms)) whole own (ap (λ l. arms_by f r from a b l) (drop_more arms i d lt)) before
