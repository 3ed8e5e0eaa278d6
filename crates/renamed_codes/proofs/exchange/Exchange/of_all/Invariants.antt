use Rattle.std.proofs.Common.{◌≡◌, map, take}
use Rattle.projection.specs.Renamed.{exchanged}
use Rattle.renamed_codes.proofs.exchange.Exchange.of_all.Given as goal

abbrev pub invariant-loop-name : goal.invariant-loop-name
invariant-loop-name l = l.list ≡ map (exchanged l.self.one l.self.other) (take l.name-index l.names)
