use Rattle.std.proofs.Common.{take, map}
use Rattle.service_codes.specs.Services.{AddsServices}
use Rattle.service_codes.proofs.all.put_services.Given as goal

abbrev pub invariant-loop-role : goal.invariant-loop-role
invariant-loop-role l = AddsServices l.started.file.now (map (λ r. (l.service.name, r)) (take l.role-index l.role-items)) l.fn.code.nodes l.code.nodes l.fn.services l.services
