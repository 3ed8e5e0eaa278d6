use Rattle.std.proofs.Common.{◌≡◌, drop}
use Rattle.std.specs.List.{list_all}
use Rattle.typing_rules.specs.Checks.{holds_as}
use Rattle.typing_steps.specs.Known.{environment_of}
use Rattle.typing_steps.proofs.known.Known.holders_fit.Given as goal

abbrev pub invariant-loop-listed : goal.invariant-loop-listed
invariant-loop-listed l =
    list_all (λ h. holds_as (environment_of l.self) l.session h.0.name h.1.name l.params l.processes) (drop l.listed-index l.holders)
    ≡ list_all (λ h. holds_as (environment_of l.self) l.session h.0.name h.1.name l.params l.processes) l.holders
