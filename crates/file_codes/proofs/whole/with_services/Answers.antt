use Rattle.file_codes.proofs.Bodies.{units_kept}
use Rattle.file_codes.proofs.whole.with_services.Goals as goal

pub endpoints-requires-clause-units : goal.endpoints-requires-clause-units
endpoints-requires-clause-units c = units_kept c.args.file.now c.args.units c.services.new.code c.in-Ok.ensures.services.kept c.requires.units
