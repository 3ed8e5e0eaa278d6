-- The first fault of arms and units, one by one.
use Rattle.std.proofs.Common.{◌≡◌, ℕ, ◌+◌, ◌<◌, Bool, List, [], ◌∷◌, ◌++◌, length, map, take, drop, refl, ap, sym, ◌∙◌, Some, add-one, drop-cons}
use Rattle.std.specs.Prelude.{Option, slice_index_or, slice_get}
use Rattle.std.proofs.lemmas.List.{take_more, map-append}
use Rattle.std.proofs.lemmas.Option.{get_or_from_slice_get}
use Rattle.chor_base.specs.declared.names.NameId.{NameId}
use Rattle.chor_base.specs.declared.fault.Fault.{Fault}
use Rattle.chor_base.specs.Faults.{earlier, first_of_all}
use Rattle.chor_base.proofs.Faults.{first_append, first_of_two, earlier_assoc}
use Rattle.endpoint_reader.specs.declared.lines.Arm.{Arm as OneArm}
use Rattle.endpoint_reader.specs.declared.input.Named.{Named}
use Rattle.endpoint_reader.specs.declared.lines.LineId.{LineId}
use Rattle.endpoint_reader.specs.declared.lines.Line.{Line}
use Rattle.endpoint_reader.specs.declared.lines.Line.TheVariants as line
use Rattle.endpoint_names.specs.Keys.{sign_of_name, sign_of_arm}
use Rattle.endpoint_names.specs.Bodies.{Body, labels_of, body_in, arms_in, line_body, bodies_of, body_at}
use Rattle.endpoint_names.specs.Faults.{Setting, unbound, repeated, body_faults, arms_faults}
use Rattle.endpoint_names.proofs.Tables.{labels_are}

-- one arm is looked at
pub arms_turn : (s : Setting) (bound inside : List NameId) (bs : List Body) (arms : List OneArm) (i : ℕ) (d : OneArm) (old found new whole : Option Fault) → i < length arms
    → inside ≡ bound → found ≡ first_of_all (body_faults s inside (body_in bs (slice_index_or arms i d).body)) → new ≡ earlier old found
    → earlier old (first_of_all (arms_faults s bound (arms_in bs (drop i arms)))) ≡ whole
    → earlier new (first_of_all (arms_faults s bound (arms_in bs (drop (i + 1) arms)))) ≡ whole
arms_turn s bound inside bs arms i d old found new whole lt same is is_new so_far =
    let arm = slice_index_or arms i d in
    let rest = arms_faults s bound (arms_in bs (drop (i + 1) arms)) in
    let here = body_faults s bound (body_in bs arm.body) in
    let parts : drop i arms ≡ arm ∷ drop (i + 1) arms = rw (add-one, drop-cons arms i d) refl in
    ap (λ o. earlier o (first_of_all rest)) (is_new ∙ ap (earlier old) (is ∙ ap (λ b. first_of_all (body_faults s b (body_in bs arm.body))) same)) ∙ earlier_assoc old (first_of_all here) (first_of_all rest)
    ∙ ap (earlier old) (sym (first_append here rest) ∙ ap (λ l. first_of_all (arms_faults s bound (arms_in bs l))) (sym parts)) ∙ so_far

-- one word more is looked up
pub looked_up : (g : List ℕ → Bool) (words : List (List ℕ)) (i : ℕ) (word : List ℕ) (b : Bool) (old new : List Bool) → i < length words → slice_get words i ≡ Some word
    → b ≡ g word → old ≡ map g (take i words) → new ≡ old ++ b ∷ [] → new ≡ map g (take (i + 1) words)
looked_up g words i word b old new lt at is so_far added =
    added ∙ ap (λ l. l ++ b ∷ []) so_far ∙ ap (λ c. map g (take i words) ++ c ∷ []) (is ∙ ap g (sym (get_or_from_slice_get words i word word at)))
    ∙ sym (ap (map g) (take_more words i word lt) ∙ map-append g (take i words) (slice_index_or words i word ∷ []))

-- a branch: its session, its labels, and its arms
pub branch_first : (s : Setting) (bound : List NameId) (ls : List Line) (id : LineId) (l : Line) {k a : Named} {arms xs ys : List OneArm} (here labels rest one all : Option Fault)
    → body_at ls id ≡ line_body (bodies_of ls) l → l ≡ line.Branch k a arms
    → here ≡ first_of_all (unbound bound k) → labels ≡ first_of_all (repeated [] (map sign_of_arm xs)) → xs ≡ arms
    → rest ≡ first_of_all (arms_faults s bound (arms_in (bodies_of ls) ys)) → ys ≡ arms → one ≡ earlier here labels → all ≡ earlier one rest
    → all ≡ first_of_all (body_faults s bound (body_at ls id))
branch_first s bound ls id l {k} {a} {arms} here labels rest one all tree is is_here is_labels xs_are is_rest ys_are is_one is_all =
    let bs = bodies_of ls in
    let names : labels ≡ first_of_all (repeated [] (map sign_of_name (labels_of (arms_in bs arms)))) =
    is_labels ∙ ap (λ zs. first_of_all (repeated [] (map sign_of_arm zs))) xs_are ∙ ap (λ zs. first_of_all (repeated [] zs)) (sym (labels_are bs arms)) in
    first_of_two (unbound bound k ++ repeated [] (map sign_of_name (labels_of (arms_in bs arms)))) (arms_faults s bound (arms_in bs arms)) one rest all is_all
    (first_of_two (unbound bound k) (repeated [] (map sign_of_name (labels_of (arms_in bs arms)))) here labels one is_one is_here names)
    (is_rest ∙ ap (λ zs. first_of_all (arms_faults s bound (arms_in bs zs))) ys_are)
    ∙ ap (λ b. first_of_all (body_faults s bound b)) (sym (tree ∙ ap (line_body bs) is))
