use Rattle.std.proofs.Common.{◌≡◌, ℕ, ◌==◌, ◌||◌, ◌&&◌, drop}
use Rattle.std.specs.List.{list_any}
use Rattle.linearity.specs.Marks.{is_marked}
use Rattle.linear_check.specs.Heard.{hears}
use Rattle.linear_check.proofs.heard.Heard.get.Given as goal

abbrev pub invariant-loop-entry : goal.invariant-loop-entry
invariant-loop-entry l = (c : ℕ) → (is_marked l.marks c || list_any (λ e. (e.0.0 == l.process.0) && is_marked e.1 c) (drop l.entry-index l.self.entries)) ≡ hears l.self c l.process.0
