use Rattle.std.proofs.Common.{refl, sym, ap, ◌∙◌, subst}
use Rattle.name_resolution.specs.Sets.{Grows, with_name}
use Rattle.chor_tree.specs.Names.{is_among}
use Rattle.name_resolution.proofs.Members.{grows_on, grows_with}
use Rattle.name_resolution.proofs.Repeats.{repeated_turn, known_turn, known_ends, alike_here}
use Rattle.name_resolution.proofs.scope.Bound.bind_processes.Goals as goal

pub loop-part-preserved : goal.loop-part-preserved
loop-part-preserved c =
    let s = c.loop-part.self in
    let l = c.loop-part.invariant in
    let n = c.named-process.result in
    let added = c.in_ok-add.ensures.names ∙ ap (λ t. with_name t.processes n.name) c.self.view_is in
    record {
      fault = repeated_turn (λ q. q.process) _ _ _ _ _ _ c.args.serve.now c.loop-part.part-index _ _ n _ c.as_slice-part-items.ensures c.loop-part-test.true refl c.named-process.ensures (alike_here s _ _ n.name c.self.view_is c.in_ok-add.ensures.names) c.twice.ensures c.earlier-first.ensures l.fault;
      processes = known_turn (λ q. q.process) s.processes _ _ _ c.args.serve.now c.loop-part.part-index _ _ n c.as_slice-part-items.ensures c.loop-part-test.true refl c.named-process.ensures added l.processes;
      sessions = ap (λ t. t.sessions) c.self.view_is ∙ l.sessions;
      grows = grows_on _ s.processes _ l.grows (subst (λ l. Grows s.processes l) (sym added) (grows_with s.processes n.name));
    }

pub returns-clause-bound : goal.returns-clause-bound
returns-clause-bound c =
    let l = c.loop-part.invariant in
    record {
      processes = known_ends (λ q. q.process) _ _ _ c.args.serve.now c.loop-part.part-index c.as_slice-part-items.ensures c.loop-part-test.false l.processes;
      sessions = λ y. ap (λ ks. is_among ks y) l.sessions;
    }
