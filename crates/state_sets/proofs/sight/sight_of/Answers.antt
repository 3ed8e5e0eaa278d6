use Rattle.std.proofs.Common.{ℕ, List, ◌≡◌, ◌≤◌, sym, ap, ◌∙◌, subst, length, arith}
use Rattle.std.proofs.lemmas.Option.{MatchOption-at_some, MatchOption-at_none}
use Rattle.chor_base.specs.declared.names.NameId.{NameId}
use Rattle.chor_tree.specs.declared.protocol.State.{State}
use Rattle.chor_tree.proofs.FilledProtocols.{has_first}
use Rattle.state_sets.specs.declared.moves.Move.{Move}
use Rattle.state_sets.specs.Moves.{moves_from}
use Rattle.state_sets.specs.Graph.{AreWithin, AreInside}
use Rattle.state_sets.specs.Ascending.{Ascend}
use Rattle.state_sets.specs.Table.{group_words, HasAscendingArms, AreTooMany, IsWhole}
use Rattle.state_sets.proofs.Collected.{collected, moves_within, groups_inside, acts_handed, reach_handed, circles_are}
use Rattle.state_sets.proofs.sight.sight_of.Goals as goal

within_of : (ss : List State) (r : NameId) (n : ℕ) (ms : List Move) → ms ≡ moves_from ss r 0 ss → n ≡ length ss → AreWithin n ms
within_of ss r n ms e f = subst (λ k. AreWithin k ms) (sym f) (subst (λ l. AreWithin (length ss) l) (sym e) (moves_within ss r (moves_from ss r 0 ss) (collected ss r)))

pub reach-requires : goal.reach-requires
reach-requires c = within_of c.args.protocol.now.states c.args.role c.len-count.result c.as_slice-2.result.now (c.as_slice-2.ensures.value ∙ c.in_ok-moves.ensures) (c.len-count.ensures ∙ ap (λ p. length p.states) c.protocol.view_is)

pub circling-requires : goal.circling-requires
circling-requires c = within_of c.args.protocol.now.states c.args.role c.len-count.result c.as_slice-3.result.now (c.as_slice-3.ensures.value ∙ c.in_ok-moves.ensures) (c.len-count.ensures ∙ ap (λ p. length p.states) c.protocol.view_is)

pub rows-requires-clause-first : goal.rows-requires-clause-first
rows-requires-clause-first c =
    let d = c.len-count.ensures in let f = has_first c.protocol.inside.roles c.protocol.inside.states c.protocol.invariant in
    let size : length c.as_slice-6.result.now ≡ c.len-count.result = ap (λ l. length l) c.as_slice-6.ensures.value ∙ c.in_ok-reach.ensures.size in
    omega (arith, size, d, f)

pub rows-requires-clause-inside : goal.rows-requires-clause-inside
rows-requires-clause-inside c =
    let n : length c.as_slice-6.result.now ≡ length c.args.protocol.now.states = ap (λ l. length l) c.as_slice-6.ensures.value ∙ c.in_ok-reach.ensures.size ∙ (c.len-count.ensures ∙ ap (λ p. length p.states) c.protocol.view_is) in
    let within = within_of c.args.protocol.now.states c.args.role (length c.as_slice-6.result.now) c.as_slice.result.now (c.as_slice.ensures.value ∙ c.in_ok-moves.ensures) n in
    subst (λ gs. AreInside (length c.as_slice-6.result.now) gs) (sym c.as_slice-5.ensures.value) (groups_inside (length c.as_slice-6.result.now) c.as_slice.result.now c.in_ok-groups.groups.items within c.in_ok-groups.ensures.are)

pub returns-clause-seen : goal.returns-clause-seen
returns-clause-seen c =
    let ss = c.args.protocol.now.states in
    let r = c.args.role in
    let acts = acts_handed ss r c.in_ok-moves.moves.items c.as_slice.result.now c.in_ok-groups.groups.items c.as_slice-5.result.now c.in_ok-moves.ensures c.as_slice.ensures.value c.in_ok-groups.ensures.are c.as_slice-5.ensures.value in
    let reach = reach_handed ss r c.len-count.result c.in_ok-moves.moves.items c.as_slice-2.result.now c.in_ok-reach.reach.items c.as_slice-6.result.now c.in_ok-moves.ensures c.as_slice-2.ensures.value c.in_ok-reach.ensures c.as_slice-6.ensures.value in
    let n = length c.as_slice-6.result.now in
    let size : n ≡ length ss = ap (λ l. length l) c.as_slice-6.ensures.value ∙ c.in_ok-reach.ensures.size ∙ (c.len-count.ensures ∙ ap (λ p. length p.states) c.protocol.view_is) in
    subst (λ k. AreTooMany ss r k c.args.most) size (MatchOption-at_none (AreTooMany ss r n c.args.most) (λ v. IsWhole ss r n v.items) c.in-None.is (c.in_ok-rows.ensures.table ss r reach acts))

pub returns-in-Some-clause-seen : goal.returns-in-Some-clause-seen
returns-in-Some-clause-seen c =
    let ss = c.args.protocol.now.states in
    let r = c.args.role in
    let acts = acts_handed ss r c.in_ok-moves.moves.items c.as_slice.result.now c.in_ok-groups.groups.items c.as_slice-5.result.now c.in_ok-moves.ensures c.as_slice.ensures.value c.in_ok-groups.ensures.are c.as_slice-5.ensures.value in
    let reach = reach_handed ss r c.len-count.result c.in_ok-moves.moves.items c.as_slice-2.result.now c.in_ok-reach.reach.items c.as_slice-6.result.now c.in_ok-moves.ensures c.as_slice-2.ensures.value c.in_ok-reach.ensures c.as_slice-6.ensures.value in
    let reach4 = reach_handed ss r c.len-count.result c.in_ok-moves.moves.items c.as_slice-2.result.now c.in_ok-reach.reach.items c.as_slice-4.result.now c.in_ok-moves.ensures c.as_slice-2.ensures.value c.in_ok-reach.ensures c.as_slice-4.ensures.value in
    let n = length c.as_slice-6.result.now in
    let size : n ≡ length ss = ap (λ l. length l) c.as_slice-6.ensures.value ∙ c.in_ok-reach.ensures.size ∙ (c.len-count.ensures ∙ ap (λ p. length p.states) c.protocol.view_is) in
    let long4 : length c.as_slice-4.result.now ≡ c.len-count.result = ap (λ l. length l) c.as_slice-4.ensures.value ∙ c.in_ok-reach.ensures.size in
    let whole = MatchOption-at_some (AreTooMany ss r n c.args.most) (λ v. IsWhole ss r n v.items) c.in-Some.rows c.in-Some.is (c.in_ok-rows.ensures.table ss r reach acts) in (
      subst (λ k. IsWhole ss r k c.in-Some.rows.items) size whole,
      circles_are ss r c.len-count.result c.in_ok-moves.moves.items c.as_slice-3.result.now c.as_slice-4.result.now c.in_ok-circling.circling.items c.in_ok-moves.ensures c.as_slice-3.ensures.value (c.len-count.ensures ∙ ap (λ p. length p.states) c.protocol.view_is) reach4 long4 c.in_ok-circling.ensures,
    )

pub returns-in-Some-clause-ascend : goal.returns-in-Some-clause-ascend
returns-in-Some-clause-ascend c =
    MatchOption-at_some (Unit {0}) (λ v. (names : List (List ℕ)) → Ascend (group_words names c.as_slice-5.result.now) → HasAscendingArms names v.items) c.in-Some.rows c.in-Some.is c.in_ok-rows.ensures.ascend c.args.names.now
    (subst (λ gs. Ascend (group_words c.args.names.now gs)) (sym c.as_slice-5.ensures.value) c.in_ok-groups.ensures.ascend)

pub rows-requires-clause-some : goal.rows-requires-clause-some
rows-requires-clause-some c = c.requires

pub returns-in-Some-clause-few : goal.returns-in-Some-clause-few
returns-in-Some-clause-few c = MatchOption-at_some (Unit {0}) (λ v. length v.items ≤ c.args.most) c.in-Some.rows c.in-Some.is c.in_ok-rows.ensures.few
