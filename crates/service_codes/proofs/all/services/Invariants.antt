use Rattle.std.proofs.Common.{take, []}
use Rattle.std.specs.List.{flat_map}
use Rattle.service_codes.specs.Services.{roles_of, AddsServices}
use Rattle.service_codes.proofs.all.services.Given as goal

abbrev pub invariant-loop-service : goal.invariant-loop-service
invariant-loop-service l = AddsServices l.file (flat_map (roles_of l.file) (take l.service-index l.service-items)) l.fn.code.nodes l.code.nodes [] l.services
