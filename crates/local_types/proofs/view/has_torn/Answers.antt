use Rattle.std.proofs.Common.{ℕ, List, sym, subst, length}
use Rattle.std.specs.Prelude.{Vec}
use Rattle.std.specs.declared.alloc.Global.{Global}
use Rattle.state_sets.specs.Graph.{AreRowsFor}
use Rattle.state_sets.specs.Table.{ApartAt}
use Rattle.state_sets.proofs.Torn.{not_crowded, judged_by}
use Rattle.local_types.proofs.view.has_torn.Goals as goal

pub returns-then-not-are_crowded : goal.returns-then-not-are_crowded
returns-then-not-are_crowded c = not_crowded c.args.states.now c.args.role c.args.rows.now c.if-not-are_crowded.ensures

pub returns : goal.returns
returns c =
    let ss = c.args.states.now in
    let are = subst (λ (l : List (Vec ℕ Global)). AreRowsFor (length ss) (ApartAt ss c.args.role) l) (sym c.as_slice.ensures.value) c.in_ok-apart.ensures in
    judged_by ss c.args.role c.args.rows.now c.as_slice.result.now are c.clashes.result c.clashes.ensures
