use Rattle.std.proofs.Common.{◌∙◌, sym, subst}
use Rattle.waiting_processes.specs.declared.lists.WaitingLists.{WaitingLists}
use Rattle.net_core.specs.Candidates.{ListsAll}
use Rattle.net_core.proofs.Anew.{judged_next}
use Rattle.net_core.proofs.candidates.Candidates.judge_each.Goals as goal

pub judge-requires-clause-lists : goal.judge-requires-clause-lists
judge-requires-clause-lists c = let v = c.args.network.now in subst (λ (l : WaitingLists). ListsAll v.endpoints v.capacity v.state l) (sym c.loop-pid.invariant.waiting) c.requires.lists

pub loop-pid-preserved : goal.loop-pid-preserved
loop-pid-preserved c =
    let v = c.args.network.now in
    record {
      unended = c.loop-pid.invariant.unended;
      waiting = c.loop-pid.invariant.waiting;
      count = c.judge.ensures.count ∙ c.loop-pid.invariant.count;
      judged = judged_next v.endpoints v.capacity v.state c.loop-pid.self.listed c.judge.new.listed c.loop-pid.pid c.judge.ensures c.loop-pid.invariant.judged;
    }
