use Rattle.std.proofs.Common.{Bool, ℕ, List, ◌≡◌, ◌≤◌, ◌∙◌, ap, sym, subst, length}
use Rattle.std.specs.Prelude.{MatchBool}
use Rattle.chor_base.specs.declared.names.NameId.{NameId}
use Rattle.chor_base.specs.declared.rule.Rule.TheVariants.{V1, V2}
use Rattle.chor_tree.specs.declared.protocol.State.{State}
use Rattle.global_types.specs.Views.{NamesAt}
use Rattle.state_sets.specs.Sets.{IsSetFor}
use Rattle.state_sets.specs.Table.{HasAscendingArms, HasTorn, IsWhole, Circles}
use Rattle.state_sets.specs.declared.table.Row.{Row}
use Rattle.state_sets.proofs.TableLoops.{is_true, is_false}
use Rattle.state_sets.proofs.Verdicts.{few_sets, left_behind, not_left, torn, not_torn}
use Rattle.state_sets.proofs.Kin.{rows_kin}
use Rattle.local_types.proofs.Breadth.{breadth_first}
use Rattle.local_types.proofs.Readings.{type_of, labels_ascend, labels_distinct}
use Rattle.local_types.proofs.Firsts.{refusal_by}
use Rattle.local_types.proofs.view.judged.Goals as goal

few_handed : {rows handed : List Row} → length rows ≤ 1024 → handed ≡ rows → length handed ≤ 1024
few_handed few e = subst (λ (l : List Row). length l ≤ 1024) (sym e) few

named_handed : (ss seen : List State) (r : NameId) (marks handed : List ℕ) → seen ≡ ss → handed ≡ marks → IsSetFor (length seen) (NamesAt seen r) marks → IsSetFor (length ss) (NamesAt ss r) handed
named_handed ss seen r marks handed e f was = subst (λ l. IsSetFor (length l) (NamesAt l r) handed) e (subst (λ m. IsSetFor (length seen) (NamesAt seen r) m) (sym f) was)

torn_handed : (ss seen : List State) (r : NameId) (rows : List Row) (b : Bool) → seen ≡ ss → MatchBool b (HasTorn seen r rows) (HasTorn seen r rows → ⊥) → MatchBool b (HasTorn ss r rows) (HasTorn ss r rows → ⊥)
torn_handed ss seen r rows b e was = subst (λ l. MatchBool b (HasTorn l r rows) (HasTorn l r rows → ⊥)) e was

pub returns-then-leaves_behind-clause-refused : goal.returns-then-leaves_behind-clause-refused
returns-then-leaves_behind-clause-refused c =
    let ss = c.args.protocol.now.states in
    let r = c.args.role in
    let n = length ss in
    let rows = c.as_slice-rows.result.now in
    let whole = subst (λ l. IsWhole ss r n l) (sym c.as_slice-rows.ensures.value) c.requires.whole in
    let circling = subst (λ m. IsSetFor n (Circles ss r) m) (sym c.as_slice.ensures.value) c.requires.circling in
    let names = named_handed ss c.as_slice-states.result.now r c.in_ok-named.named.items c.as_slice-2.result.now (c.as_slice-states.ensures ∙ ap (λ p. p.states) c.protocol.view_is) c.as_slice-2.ensures.value c.in_ok-named.ensures in
    refusal_by V2 c.args.protocol.now r c.refused.result c.refused.ensures (few_sets ss r n rows whole (few_handed c.requires.few c.as_slice-rows.ensures.value), left_behind ss r n rows c.as_slice.result.now c.as_slice-2.result.now whole circling names c.if-leaves_behind.ensures)

pub returns-then-torn-clause-refused : goal.returns-then-torn-clause-refused
returns-then-torn-clause-refused c =
    let ss = c.args.protocol.now.states in
    let r = c.args.role in
    let n = length ss in
    let rows = c.as_slice-rows.result.now in
    let whole = subst (λ l. IsWhole ss r n l) (sym c.as_slice-rows.ensures.value) c.requires.whole in
    let circling = subst (λ m. IsSetFor n (Circles ss r) m) (sym c.as_slice.ensures.value) c.requires.circling in
    let names = named_handed ss c.as_slice-states.result.now r c.in_ok-named.named.items c.as_slice-2.result.now (c.as_slice-states.ensures ∙ ap (λ p. p.states) c.protocol.view_is) c.as_slice-2.ensures.value c.in_ok-named.ensures in
    refusal_by V1 c.args.protocol.now r c.refused-then-torn.result c.refused-then-torn.ensures
    (few_sets ss r n rows whole (few_handed c.requires.few c.as_slice-rows.ensures.value), not_left ss r n rows c.as_slice.result.now c.as_slice-2.result.now whole circling names c.if-leaves_behind.ensures, torn ss r n rows whole (is_true c.in_ok-torn.torn (HasTorn ss r rows) (HasTorn ss r rows → ⊥) (torn_handed ss c.as_slice-states.result.now r rows c.in_ok-torn.torn (c.as_slice-states.ensures ∙ ap (λ p. p.states) c.protocol.view_is) c.in_ok-torn.ensures) c.if-torn.true))

pub returns-clause-fine : goal.returns-clause-fine
returns-clause-fine c =
    let ss = c.args.protocol.now.states in
    let r = c.args.role in
    let n = length ss in
    let rows = c.as_slice-rows.result.now in
    let whole = subst (λ l. IsWhole ss r n l) (sym c.as_slice-rows.ensures.value) c.requires.whole in
    let circling = subst (λ m. IsSetFor n (Circles ss r) m) (sym c.as_slice.ensures.value) c.requires.circling in
    let names = named_handed ss c.as_slice-states.result.now r c.in_ok-named.named.items c.as_slice-2.result.now (c.as_slice-states.ensures ∙ ap (λ p. p.states) c.protocol.view_is) c.as_slice-2.ensures.value c.in_ok-named.ensures in
    record {
      few = few_sets ss r n rows whole (few_handed c.requires.few c.as_slice-rows.ensures.value);
      kept = not_left ss r n rows c.as_slice.result.now c.as_slice-2.result.now whole circling names c.if-leaves_behind.ensures;
      clear = not_torn ss r n rows whole (is_false c.in_ok-torn.torn (HasTorn ss r rows) (HasTorn ss r rows → ⊥) (torn_handed ss c.as_slice-states.result.now r rows c.in_ok-torn.torn (c.as_slice-states.ensures ∙ ap (λ p. p.states) c.protocol.view_is) c.in_ok-torn.ensures) c.if-torn.false);
    }

pub states_of-requires : goal.states_of-requires
states_of-requires c =
    let ss = c.args.protocol.now.states in
    let r = c.args.role in
    let n = length ss in
    let rows = c.as_slice-rows.result.now in
    let whole = subst (λ l. IsWhole ss r n l) (sym c.as_slice-rows.ensures.value) c.requires.whole in
    rows_kin ss r n rows whole (not_torn ss r n rows whole (is_false c.in_ok-torn.torn (HasTorn ss r rows) (HasTorn ss r rows → ⊥) (torn_handed ss c.as_slice-states.result.now r rows c.in_ok-torn.torn (c.as_slice-states.ensures ∙ ap (λ p. p.states) c.protocol.view_is) c.in_ok-torn.ensures) c.if-torn.false))

pub returns-clause-stands : goal.returns-clause-stands
returns-clause-stands c =
    let ss = c.args.protocol.now.states in
    let r = c.args.role in
    let n = length ss in
    let rows = c.as_slice-rows.result.now in
    let whole = subst (λ l. IsWhole ss r n l) (sym c.as_slice-rows.ensures.value) c.requires.whole in
    type_of ss r n rows c.in_ok-states_of.field-0 whole c.in_ok-states_of.ensures

pub returns-clause-numbered : goal.returns-clause-numbered
returns-clause-numbered c =
    let ss = c.args.protocol.now.states in
    let rows = c.as_slice-rows.result.now in
    let whole = subst (λ l. IsWhole ss c.args.role (length ss) l) (sym c.as_slice-rows.ensures.value) c.requires.whole in
    breadth_first (length whole.sets) rows c.in_ok-states_of.field-0 c.in_ok-states_of.ensures whole.numbered

pub returns-clause-distinct : goal.returns-clause-distinct
returns-clause-distinct c =
    let ss = c.args.protocol.now.states in
    let rows = c.as_slice-rows.result.now in
    let whole = subst (λ l. IsWhole ss c.args.role (length ss) l) (sym c.as_slice-rows.ensures.value) c.requires.whole in
    labels_distinct ss c.args.role (length ss) rows c.in_ok-states_of.field-0 whole c.in_ok-states_of.ensures

pub returns-clause-ascend : goal.returns-clause-ascend
returns-clause-ascend c = λ names up.
    labels_ascend names c.as_slice-rows.result.now c.in_ok-states_of.field-0 c.in_ok-states_of.ensures (subst (λ l. HasAscendingArms names l) (sym c.as_slice-rows.ensures.value) up)
