use Rattle.std.proofs.Common.{◌∙◌, ap, nat_eq, ℕ}
use Rattle.net_core.proofs.Listed.{none_unended}
use Rattle.net_core.proofs.candidates.Candidates.have_ended.Goals as goal

pub returns : goal.returns
returns c e cap n u =
    ap (λ (k : ℕ). nat_eq k 0) c.count.ensures
    ∙ none_unended e 0 c.args.self.now.unended n.machines u.places.unended (λ q lt. (u.noted q lt).unended)
