use Rattle.std.proofs.Common.{◌≡◌, [], List, rules, sym, subst}
use Rattle.chor_tree.specs.declared.file.Named.{Named}
use Rattle.block_codes.proofs.Zips.{stops_by}
use Rattle.service_codes.specs.Services.{roles_of, StopsAt}
use Rattle.service_codes.proofs.Roles.{roles_all, role_more, role_stops, role_declared, roles_done}
use Rattle.service_codes.proofs.all.put_services.Goals as goal

abbrev none : Named
none = record { name = record { 0 = 0 }; place = record { line = 0; col = 0 } }

pub service_code-requires-clause-declared : goal.service_code-requires-clause-declared
service_code-requires-clause-declared c =
    role_declared c.args.started.now.file.now c.args.service.now c.as_slice-role-items.result.now c.loop-role.role-index none c.loop-role-test.true c.as_slice-role-items.ensures c.requires.declared

pub returns-in_err-body-clause-stopped : goal.returns-in_err-body-clause-stopped
returns-in_err-body-clause-stopped c =
    let f = c.args.started.now.file.now in
    let s = c.args.service.now in
    let some : c.in_ok-starts.starts ≡ [] → ⊥ = search rules in
    stops_by (StopsAt f (roles_of f s)) c.from_residual-in_err-body.result c.in_err-body.field-0.0 c.from_residual-in_err-body.ensures.1
    (subst (λ (l : List (Named × Named)). StopsAt f l c.in_err-body.field-0.0) (sym (roles_all f s c.in_ok-starts.starts c.in_ok-starts.ensures some))
    (role_stops f s c.as_slice-role-items.result.now c.loop-role.role-index none c.loop-role-test.true s.serve c.as_slice-role-items.ensures c.loop-role.invariant c.in_err-body.field-0.0 c.in_err-body.ensures.stopped))

pub loop-role-preserved : goal.loop-role-preserved
loop-role-preserved c =
    role_more c.args.started.now.file.now c.args.service.now c.as_slice-role-items.result.now c.loop-role.role-index none c.loop-role-test.true c.in_ok-body.body c.loop-role.invariant c.in_ok-body.ensures.code c.in_ok-push.ensures.ok

pub returns-clause-services : goal.returns-clause-services
returns-clause-services c =
    let f = c.args.started.now.file.now in
    let s = c.args.service.now in
    let some : c.in_ok-starts.starts ≡ [] → ⊥ = search rules in
    roles_done f s c.as_slice-role-items.result.now c.loop-role.role-index c.loop-role-test.false c.as_slice-role-items.ensures (roles_all f s c.in_ok-starts.starts c.in_ok-starts.ensures some) c.loop-role.invariant
