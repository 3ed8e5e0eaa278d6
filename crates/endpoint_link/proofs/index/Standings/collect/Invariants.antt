use Rattle.std.proofs.Common.{take}
use Rattle.endpoint_link.proofs.Indexes.{AllStandSo}
use Rattle.endpoint_link.proofs.index.Standings.collect.Given as goal

abbrev pub invariant-loop-place : goal.invariant-loop-place
invariant-loop-place l = AllStandSo (take l.place l.names) l.standings
