use Rattle.std.proofs.Common.{List, Bool, drop, ◌+◌, ◌&&◌, ap, ◌∙◌, refl}
use Rattle.std.specs.List.{list_all}
use Rattle.chor_tree.specs.declared.file.Named.{Named}
use Rattle.typing_rules.specs.Checks.{holds_as}
use Rattle.typing_steps.specs.Known.{environment_of}
use Rattle.typing_steps.proofs.Searches.{at_place}
use Rattle.typing_steps.proofs.known.Known.holders_fit.Goals as goal

pub returns-then-not-holds_as : goal.returns-then-not-holds_as
returns-then-not-holds_as c =
    let left : List (Named × Named) → Bool = list_all (λ h. holds_as (environment_of c.args.self.now) c.args.session h.0.name h.1.name c.args.params.now c.args.processes.now) in
    let i = c.loop-listed.listed-index in
    ap (λ b. b && left (drop (i + 1) c.args.holders.now)) c.if-not-holds_as.ensures ∙ at_place left c.args.holders.now c.args.holders.now i _ _ refl c.loop-listed-test.true c.loop-listed.invariant

pub loop-listed-preserved : goal.loop-listed-preserved
loop-listed-preserved c =
    let left : List (Named × Named) → Bool = list_all (λ h. holds_as (environment_of c.args.self.now) c.args.session h.0.name h.1.name c.args.params.now c.args.processes.now) in
    let i = c.loop-listed.listed-index in
    ap (λ b. b && left (drop (i + 1) c.args.holders.now)) c.if-not-holds_as.ensures ∙ at_place left c.args.holders.now c.args.holders.now i _ _ refl c.loop-listed-test.true c.loop-listed.invariant
