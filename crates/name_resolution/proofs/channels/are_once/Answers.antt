use Rattle.std.proofs.Common.{◌++◌, ◌==◌, sym, ◌∙◌, Bool}
use Rattle.std.specs.List.{count_by}
use Rattle.chor_base.specs.declared.names.NameId.{NameId}
use Rattle.chor_tree.specs.Names.{names_in}
use Rattle.name_resolution.proofs.Members.{all_turn, all_fails}
use Rattle.name_resolution.proofs.channels.are_once.Goals as goal

pub returns-then-not-is_once : goal.returns-then-not-is_once
returns-then-not-is_once c =
    let p : NameId → Bool = λ r. count_by (λ x. x.0 == r.0) (names_in (c.args.active.now ++ c.args.serve.now)) == 1 in
    sym (all_fails p c.args.roles.now c.loop-role.role-index _ c.loop-role-test.true (sym c.is_once.ensures ∙ c.if-not-is_once.true)) ∙ c.loop-role.invariant

pub loop-role-preserved : goal.loop-role-preserved
loop-role-preserved c =
    let p : NameId → Bool = λ r. count_by (λ x. x.0 == r.0) (names_in (c.args.active.now ++ c.args.serve.now)) == 1 in
    all_turn p c.args.roles.now c.loop-role.role-index _ _ c.loop-role-test.true (sym c.is_once.ensures ∙ c.if-not-is_once.false) c.loop-role.invariant
