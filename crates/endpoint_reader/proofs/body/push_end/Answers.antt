use Rattle.std.proofs.Common.{refl}
use Rattle.endpoint_reader.proofs.Tables.{grows_by, last_there, body_pushed}
use Rattle.endpoint_reader.proofs.Known.{one_more_line}
use Rattle.endpoint_reader.proofs.body.push_end.Goals as goal

pub returns-clause-ends : goal.returns-clause-ends
returns-clause-ends c = record { after = refl; body = λ i. body_pushed i _ _ c.in_ok-end.ensures.grows c.in_ok-end.ensures.id }

pub returns-clause-there : goal.returns-clause-there
returns-clause-there c = last_there _ _ c.in_ok-end.ensures.grows c.in_ok-end.ensures.id

pub returns-clause-grows : goal.returns-clause-grows
returns-clause-grows c = grows_by _ c.in_ok-end.ensures.grows

pub returns-clause-known : goal.returns-clause-known
returns-clause-known c i h = one_more_line i _ _ _ h tt c.in_ok-end.ensures.grows
