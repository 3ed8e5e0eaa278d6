use Rattle.std.proofs.Common.{refl, sym, ◌∙◌}
use Rattle.endpoint_code.proofs.same_state_is_an_equivalence.Goals as goal

pub returns-clause-reflexive : goal.returns-clause-reflexive
returns-clause-reflexive c n = record { machines = refl; queues = λ t. refl; sid = refl }

pub returns-clause-symmetric : goal.returns-clause-symmetric
returns-clause-symmetric c n m s = record { machines = sym s.machines; queues = λ t. sym (s.queues t); sid = sym s.sid }

pub returns-clause-transitive : goal.returns-clause-transitive
returns-clause-transitive c n m k s r = record { machines = s.machines ∙ r.machines; queues = λ t. s.queues t ∙ r.queues t; sid = s.sid ∙ r.sid }
