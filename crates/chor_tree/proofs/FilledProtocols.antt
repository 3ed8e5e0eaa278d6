-- What a protocol keeps: it has a first state.
use Rattle.std.proofs.Common.{◌≡◌, ◌<◌, true, List, length, arith}
use Rattle.std.proofs.lemmas.Bool.Decides.{nat_tests}
use Rattle.chor_tree.specs.declared.file.Named.{Named}
use Rattle.chor_tree.specs.declared.protocol.State.{State}
use Rattle.chor_tree.specs.Protocols.{are_filled}

pub has_first : (rs : List Named) (ss : List State) → are_filled rs ss ≡ true → 0 < length ss
has_first rs ss h = grind (arith, nat_tests)
