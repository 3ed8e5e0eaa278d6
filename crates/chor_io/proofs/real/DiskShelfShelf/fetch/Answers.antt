use Rattle.std.proofs.Common.{◌≡◌, sym, subst, ◌∙◌, List, ℕ}
use Rattle.chor_io.specs.Outside.{failed_after, times, Risen}
use Rattle.chor_io.proofs.Counts.{failed_after-same, failed_cause, failed_others}
use Rattle.chor_io.proofs.real.DiskShelfShelf.fetch.Goals as goal

noted : (g : _) (c : goal.After-settle g) → c.settle.new.self.names.items ≡ failed_after c.args.self.now c.args.name.now c.read_file-answer.result
noted g c = c.settle.ensures ∙ failed_after-same c.prepare.new.self.names.items c.args.self.now c.in-Ok.failure c.args.name.now c.read_file-answer.result (c.prepare.ensures.names ∙ c.self.view_is) c.in-Ok.ensures.word

pub returns-clause-cause : goal.returns-clause-cause
returns-clause-cause g c = λ failed. subst (λ (names : List (List ℕ)). Risen (times c.args.self.now c.args.name.now) (times names c.args.name.now)) (sym (noted g c)) (failed_cause c.args.self.now c.args.name.now c.read_file-answer.result failed)

pub returns-clause-others : goal.returns-clause-others
returns-clause-others g c = λ other differs. subst (λ (names : List (List ℕ)). times names other ≡ times c.args.self.now other) (sym (noted g c)) (failed_others c.args.self.now c.args.name.now c.read_file-answer.result other differs)
