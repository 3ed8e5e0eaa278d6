use Rattle.std.proofs.Common.{◌≤◌, length, subst, arith}
use Rattle.endpoint_link.specs.Linked.{ReplacesService, SuitsService}
use Rattle.endpoint_link.specs.Judged.{IsVerdict}
use Rattle.endpoint_link.specs.InTables.{ReplacesServiceIn, SuitsServiceIn}
use Rattle.endpoint_link.proofs.Alike.{service_judged}
use Rattle.endpoint_link.proofs.Firsts.{found_among, fit_more, fit_all, found_first}
use Rattle.endpoint_link.proofs.joined.Joined.first_service.Goals as goal

pub returns-in-Some : goal.returns-in-Some
returns-in-Some c =
    let e = c.args.base.now in
    let g = c.args.given.now in
    let x = c.at.result.now in
    found_first (ReplacesService e g) (SuitsService e g) e.services g.services c.loop-place.place x c.in_ok-rule.field-0 c.in-Some.rule c.at.ensures c.loop-place.invariant
    (service_judged e g c.args.self.now c.requires x (found_among g.services c.loop-place.place x c.at.ensures) c.in_ok-rule.field-0
    (subst (λ us. IsVerdict (ReplacesServiceIn c.args.self.now) (SuitsServiceIn c.args.self.now) us x c.in_ok-rule.field-0) c.as_slice-units.ensures c.in_ok-rule.ensures)) c.in-Some.is

pub loop-place-preserved : goal.loop-place-preserved
loop-place-preserved c =
    let e = c.args.base.now in
    let g = c.args.given.now in
    let x = c.at.result.now in
    fit_more (ReplacesService e g) (SuitsService e g) e.services g.services c.loop-place.place x c.in_ok-rule.field-0 c.at.ensures c.loop-place.invariant
    (service_judged e g c.args.self.now c.requires x (found_among g.services c.loop-place.place x c.at.ensures) c.in_ok-rule.field-0
    (subst (λ us. IsVerdict (ReplacesServiceIn c.args.self.now) (SuitsServiceIn c.args.self.now) us x c.in_ok-rule.field-0) c.as_slice-units.ensures c.in_ok-rule.ensures)) c.in_default.not-Some

pub returns : goal.returns
returns c =
    let e = c.args.base.now in
    let g = c.args.given.now in
    let l : length g.services ≤ c.loop-place.place = omega (arith, c.loop-place-test.false, c.count-place-end.ensures) in
    fit_all (ReplacesService e g) (SuitsService e g) e.services g.services c.loop-place.place l c.loop-place.invariant
