use Rattle.projection.specs.MergeFaults.{services_of}
use Rattle.block_codes.proofs.Zips.{stops_by}
use Rattle.service_codes.specs.Services.{StopsAt}
use Rattle.service_codes.proofs.Roles.{service_more, service_stops, service_declared, services_all}
use Rattle.service_codes.proofs.all.services.Goals as goal

pub put_services-requires-clause-declared : goal.put_services-requires-clause-declared
put_services-requires-clause-declared c =
    service_declared c.args.file.now c.as_slice-service-items.result.now c.loop-service.service-index c.service-item.result c.loop-service-test.true c.service-item.is c.requires.names c.as_slice-service-items.ensures

pub returns-in_err-put_services-clause-stopped : goal.returns-in_err-put_services-clause-stopped
returns-in_err-put_services-clause-stopped c =
    let f = c.args.file.now in
    stops_by (StopsAt f (services_of f)) c.from_residual-in_err-put_services.result c.in_err-put_services.field-0.0 c.from_residual-in_err-put_services.ensures.1
    (service_stops f c.as_slice-service-items.result.now c.loop-service.service-index c.service-item.result c.loop-service-test.true c.service-item.is c.as_slice-service-items.ensures c.loop-service.invariant
    c.in_err-put_services.field-0.0 c.in_err-put_services.ensures.stopped)

pub loop-service-preserved : goal.loop-service-preserved
loop-service-preserved c =
    service_more c.args.file.now c.as_slice-service-items.result.now c.loop-service.service-index c.service-item.result c.loop-service-test.true c.service-item.is c.loop-service.invariant c.in_ok-put_services.ensures.services

pub returns-clause-services : goal.returns-clause-services
returns-clause-services c =
    services_all c.args.file.now c.as_slice-service-items.result.now c.loop-service.service-index c.as_slice-service-items.ensures c.loop-service-test.false c.loop-service.invariant
