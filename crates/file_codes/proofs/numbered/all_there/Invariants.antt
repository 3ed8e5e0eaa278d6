use Rattle.std.proofs.Common.{◌≡◌, drop}
use Rattle.std.specs.List.{list_all}
use Rattle.endpoint_code.specs.Kept.{has_name}
use Rattle.file_codes.proofs.numbered.all_there.Given as goal

abbrev pub invariant-loop-name : goal.invariant-loop-name
invariant-loop-name l = list_all (has_name l.names) (drop l.name-index l.list) ≡ list_all (has_name l.names) l.list
