use Rattle.std.proofs.Common.{length}
use Rattle.std.proofs.lemmas.Option.{MatchOption-at_none}
use Rattle.chor_base.specs.declared.rule.Rule.TheVariants.{V3}
use Rattle.state_sets.specs.Sets.{IsSetFor}
use Rattle.state_sets.specs.Table.{AreTooMany, IsWhole, Circles}
use Rattle.state_sets.proofs.Verdicts.{too_many}
use Rattle.local_types.proofs.Firsts.{refusal_by}
use Rattle.local_types.proofs.view.local.Goals as goal

pub returns-in-None-clause-refused : goal.returns-in-None-clause-refused
returns-in-None-clause-refused c =
    let p = c.args.protocol.now in
    let ss = p.states in
    let r = c.args.role in
    let n = length ss in
    let many = MatchOption-at_none (AreTooMany ss r n 1024) (λ s. IsWhole ss r n s.rows.items × IsSetFor n (Circles ss r) s.circling.items) c.in-None.is c.in_ok-sight.ensures.seen in
    refusal_by V3 p r c.refused.result c.refused.ensures (too_many ss r n many)
