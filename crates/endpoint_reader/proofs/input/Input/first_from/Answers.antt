use Rattle.std.proofs.Common.{arith}
use Rattle.endpoint_reader.proofs.Ends.{first_there, first_beyond, some_token}
use Rattle.endpoint_reader.proofs.input.Input.first_from.Goals as goal

pub returns-then-at-count : goal.returns-then-at-count
returns-then-at-count c = first_there _ _ _ c.at.ensures

pub returns : goal.returns
returns c = first_beyond _ _ _ _ (omega (arith, c.if-at-count.false, c.len-count.ensures)) (omega (arith, c.len-count.ensures, some_token c.args.self.now.tokens.now.items c.args.self.now.tokens.now.ended)) c.at-2.ensures
