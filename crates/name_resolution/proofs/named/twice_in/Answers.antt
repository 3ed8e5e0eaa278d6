use Rattle.std.proofs.Common.{◌≡◌, map, subst}
use Rattle.std.specs.Prelude.{IfOk}
use Rattle.chor_tree.specs.Names.{repeated}
use Rattle.chor_base.specs.Faults.{first_of_all}
use Rattle.name_resolution.proofs.named.twice_in.Goals as goal

pub returns : goal.returns
returns g c = subst (λ l. IfOk c.repeated.result (λ o. o ≡ first_of_all (repeated l (map g.T.HasName.name_of c.args.items.now)))) c.new-known.ensures c.repeated.ensures.fault
