-- Texts that are appended part by part.
use Rattle.std.proofs.Common.{ℕ, ◌≡◌, ◌+◌, ◌<◌, List, ◌++◌, ap, sym, ◌∙◌, length, drop, append_assoc}
use Rattle.std.specs.Prelude.{Result, Ok, Err, OnOk, codes, slice_index_or}
use Rattle.std.specs.Fmt.{decimal}
use Rattle.std.proofs.lemmas.List.{drop_more}
use Rattle.chor_base.specs.declared.names.NameId.{NameId}
use Rattle.chor_base.specs.Writing.{name_in}
use Rattle.local_types.specs.declared.local_type.LocalState.{LocalState}
use Rattle.local_types.specs.Text.{labels_text, state_text, states_text}
use Rattle.state_sets.proofs.Lists.{step_on}

pub on_ok : {T E : Type 0} (r : Result T E) (P Q : Type 0) → (P → Q) → OnOk r P → OnOk r Q
on_ok (Ok v) P Q f h = f h
on_ok (Err e) P Q f h = tt

pub both : {A : Type 0} (a b c x y : List A) → b ≡ a ++ x → c ≡ b ++ y → c ≡ a ++ (x ++ y)
both a b c x y one other = other ∙ ap (λ l. l ++ y) one ∙ append_assoc a x y

-- bytes that are those of a literal
pub literal : (a b seen x : List ℕ) → b ≡ a ++ seen → seen ≡ x → b ≡ a ++ x
literal a b seen x e is = e ∙ ap (λ l. a ++ l) is

-- one label more
pub label_more : (names : List (List ℕ)) (ls : List (NameId × ℕ)) (i : ℕ) (d : NameId × ℕ) (old one two new whole : List ℕ) → i < length ls → one ≡ old ++ codes " "
    → two ≡ one ++ name_in names (slice_index_or ls i d).0 → new ≡ two ++ (codes " " ++ decimal (slice_index_or ls i d).1)
    → old ++ labels_text names (drop i ls) ≡ whole → new ++ labels_text names (drop (i + 1) ls) ≡ whole
label_more names ls i d old one two new whole lt space name next before =
    let l = slice_index_or ls i d in
    let end = codes " " ++ decimal l.1 in
    let own = both old one new (codes " ") (name_in names l.0 ++ end) space (both one two new (name_in names l.0) end name next) in
    step_on old new (codes " " ++ (name_in names l.0 ++ end)) (labels_text names (drop i ls)) (labels_text names (drop (i + 1) ls)) whole own (ap (λ k. labels_text names k) (drop_more ls i d lt)) before

-- one state more
pub state_more : (names : List (List ℕ)) (ss : List LocalState) (i : ℕ) (d s : LocalState) (old one new whole : List ℕ) → i < length ss → s ≡ slice_index_or ss i d → one ≡ old ++ decimal i
    → new ≡ one ++ state_text names s → old ++ states_text names i (drop i ss) ≡ whole → new ++ states_text names (i + 1) (drop (i + 1) ss) ≡ whole
state_more names ss i d s old one new whole lt is number own before =
    let rest = states_text names (i + 1) (drop (i + 1) ss) in
    let splits = ap (λ k. states_text names i k) (drop_more ss i d lt) ∙ ap (λ (t : LocalState). (decimal i ++ state_text names t) ++ rest) (sym is) in
    step_on old new (decimal i ++ state_text names s) (states_text names i (drop i ss)) rest whole (both old one new (decimal i) (state_text names s) number own) splits before
