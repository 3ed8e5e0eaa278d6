use Rattle.std.proofs.Common.{subst, sym}
use Rattle.endpoint_code.specs.AboveUnits.{AreUnitsAbove}
use Rattle.endpoint_code.specs.Faults.{IsFaultlessWith}
use Rattle.simulation.specs.Accepted.{AcceptedView}
use Rattle.simulation.proofs.accepted.Accepted.linked.Goals as goal

pub invariant_of-self : goal.invariant_of-self
invariant_of-self c =
    let a = c.self.invariant in
    let programs = c.args.programs in
    record {
      linear = a.linear;
      merges = a.merges;
      above = c.above_stays_above.ensures c.self.inside.typed.file c.self.inside.endpoints programs a.above (subst (λ (v : AcceptedView). AreUnitsAbove v.endpoints programs) (sym c.self.view_is) c.requires.above);
      faultless = subst (λ (v : AcceptedView). IsFaultlessWith v.typed.hosts programs) (sym c.self.view_is) c.requires.faultless;
    }
