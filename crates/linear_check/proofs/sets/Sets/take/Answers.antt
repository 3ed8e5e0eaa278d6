use Rattle.std.specs.Map.{lookup}
use Rattle.std.proofs.Common.{◌≡◌, ◌==◌, ◌&&◌, ◌∙◌, false, sym, arith}
use Rattle.std.proofs.lemmas.Bool.Decides.{nat_tests}
use Rattle.linear_check.proofs.Parameters.{put_marks}
use Rattle.linear_check.proofs.Weights.{put_here, put_no_heavier}
use Rattle.linear_check.proofs.sets.Sets.take.Goals as goal

pub returns-clause-taken : goal.returns-clause-taken
returns-clause-taken c = λ n f i lt.
    put_marks (λ f i. lookup (λ k. (f.0 == k.procedure.0) && (i == k.place)) c.insert.new.self.entries) (λ f i. lookup (λ k. (f.0 == k.procedure.0) && (i == k.place)) c.args.self.now.marks.entries)
    c.args.parameter c.get-old.result c.args.marks c.and-new.result n (λ f i. c.in_ok-insert.ensures.updates.0 (record { procedure = f; place = i })) (c.get-old.ensures.holds n lt) (c.and-new.ensures.both n) f i

pub returns-clause-lighter : goal.returns-clause-lighter
returns-clause-lighter c =
    put_no_heavier (λ f i. lookup (λ k. (f.0 == k.procedure.0) && (i == k.place)) c.insert.new.self.entries) (λ f i. lookup (λ k. (f.0 == k.procedure.0) && (i == k.place)) c.args.self.now.marks.entries)
    c.args.parameter c.and-new.result (λ f i. c.in_ok-insert.ensures.updates.0 (record { procedure = f; place = i })) (let fewer = c.and-new.ensures.fewer in let weight = c.get-old.ensures.weight in omega arith)

pub returns-clause-falls : goal.returns-clause-falls
returns-clause-falls c = λ e.
    let here =
    put_here (λ f i. lookup (λ k. (f.0 == k.procedure.0) && (i == k.place)) c.insert.new.self.entries) (λ f i. lookup (λ k. (f.0 == k.procedure.0) && (i == k.place)) c.args.self.now.marks.entries)
    c.args.parameter c.and-new.result (λ f i. c.in_ok-insert.ensures.updates.0 (record { procedure = f; place = i })) in
    let fewer = c.and-new.ensures.fewer in
    let weight = c.get-old.ensures.weight in
    let differ : (c.and-new.result.bits == c.get-old.result.bits) ≡ false = sym c.eq.ensures ∙ c.if-eq.false in
    grind (arith, nat_tests)
