use Rattle.std.proofs.Common.{sym, subst, List, ℕ}
use Rattle.waiting_processes.specs.declared.waits.Awaited.TheVariants.{Channel}
use Rattle.waiting_processes.specs.Taken.{IsIn}
use Rattle.net_core.proofs.candidates.is_listed.Goals as goal

pub are_joined_among-requires-clause-there : goal.are_joined_among-requires-clause-there
are_joined_among-requires-clause-there c q i = c.requires.lists.within (Channel c.in-Join.channel) q (subst (λ (l : List ℕ). IsIn l q) c.get-joiners.ensures i)

pub are_joined_among-requires-clause-all : goal.are_joined_among-requires-clause-all
are_joined_among-requires-clause-all c q lt a = subst (λ (l : List ℕ). IsIn l q) (sym c.get-joiners.ensures) (c.requires.lists.kept q lt (Channel c.in-Join.channel) a)
