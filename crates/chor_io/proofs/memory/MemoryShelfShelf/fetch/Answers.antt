use Rattle.std.proofs.Common.{◌≡◌, inl, inr, sym, subst, ap, ◌∙◌, List, ℕ, arith}
use Rattle.std.proofs.lemmas.Grind.{common_steps}
use Rattle.chor_io.specs.declared.outside.Fetched.TheVariants as fetched
use Rattle.chor_io.specs.Outside.{failed_after, times, Risen}
use Rattle.chor_io.specs.Memory.{FailsAt}
use Rattle.chor_io.proofs.Counts.{failed_after-same, failed_cause, failed_others}
use Rattle.chor_io.proofs.memory.MemoryShelfShelf.fetch.Goals.{then-contains, else-contains}
use Rattle.chor_io.proofs.memory.MemoryShelfShelf.fetch.Goals as goal

noted : (c : goal.After-settle) → c.settle.new.self.names.items ≡ failed_after c.args.self.now.failed c.args.name.now c.if-contains.answer
noted c = c.settle.ensures ∙ failed_after-same c.prepare.new.self.names.items c.args.self.now.failed c.in-Ok.failure c.args.name.now c.if-contains.answer (c.prepare.ensures.names ∙ ap (λ s. s.failed) c.self.view_is) c.in-Ok.ensures.word

pub returns-clause-cause : goal.returns-clause-cause
returns-clause-cause c = λ failed. subst (λ (names : List (List ℕ)). Risen (times c.args.self.now.failed c.args.name.now) (times names c.args.name.now)) (sym (noted c)) (failed_cause c.args.self.now.failed c.args.name.now c.if-contains.answer failed)

pub returns-clause-others : goal.returns-clause-others
returns-clause-others c = λ other differs. subst (λ (names : List (List ℕ)). times names other ≡ times c.args.self.now.failed other) (sym (noted c)) (failed_others c.args.self.now.failed c.args.name.now c.if-contains.answer other differs)

pub returns-clause-only : goal.returns-clause-only
returns-clause-only c =
    elim c.if-contains.branch as (λ _. c.if-contains.answer ≡ fetched.Failed → FailsAt c.args.self.now c.args.name.now) [
      | then-contains w ↦ λ failed. inl (grind (arith, common_steps))
      | else-contains w ↦ λ failed. inr (grind (arith, common_steps))
    ]
