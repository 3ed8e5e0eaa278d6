use Rattle.std.proofs.Common.{◌≤◌, length, subst, arith}
use Rattle.endpoint_link.specs.Linked.{ReplacesProcess, SuitsProcess}
use Rattle.endpoint_link.specs.Judged.{IsVerdict}
use Rattle.endpoint_link.specs.InTables.{ReplacesProcessIn, SuitsProcessIn}
use Rattle.endpoint_link.proofs.Alike.{process_judged}
use Rattle.endpoint_link.proofs.Firsts.{found_among, fit_more, fit_all, found_first}
use Rattle.endpoint_link.proofs.joined.Joined.first_process.Goals as goal

pub returns-in-Some : goal.returns-in-Some
returns-in-Some c =
    let e = c.args.base.now in
    let g = c.args.given.now in
    let x = c.at.result.now in
    found_first (ReplacesProcess e g) (SuitsProcess e g) e.processes g.processes c.loop-place.place x c.in_ok-rule.field-0 c.in-Some.rule c.at.ensures c.loop-place.invariant
    (process_judged e g c.args.self.now c.requires x (found_among g.processes c.loop-place.place x c.at.ensures) c.in_ok-rule.field-0
    (subst (λ us. IsVerdict (ReplacesProcessIn c.args.self.now) (SuitsProcessIn c.args.self.now) us x c.in_ok-rule.field-0) c.as_slice-units.ensures c.in_ok-rule.ensures)) c.in-Some.is

pub loop-place-preserved : goal.loop-place-preserved
loop-place-preserved c =
    let e = c.args.base.now in
    let g = c.args.given.now in
    let x = c.at.result.now in
    fit_more (ReplacesProcess e g) (SuitsProcess e g) e.processes g.processes c.loop-place.place x c.in_ok-rule.field-0 c.at.ensures c.loop-place.invariant
    (process_judged e g c.args.self.now c.requires x (found_among g.processes c.loop-place.place x c.at.ensures) c.in_ok-rule.field-0
    (subst (λ us. IsVerdict (ReplacesProcessIn c.args.self.now) (SuitsProcessIn c.args.self.now) us x c.in_ok-rule.field-0) c.as_slice-units.ensures c.in_ok-rule.ensures)) c.in_default.not-Some

pub returns : goal.returns
returns c =
    let e = c.args.base.now in
    let g = c.args.given.now in
    let l : length g.processes ≤ c.loop-place.place = omega (arith, c.loop-place-test.false, c.count-place-end.ensures) in
    fit_all (ReplacesProcess e g) (SuitsProcess e g) e.processes g.processes c.loop-place.place l c.loop-place.invariant
