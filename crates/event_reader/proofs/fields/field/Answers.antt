use Rattle.std.proofs.Common.{arith}
use Rattle.event_reader.proofs.Cuts.{front_len, front_free, front_ends}
use Rattle.event_reader.proofs.fields.field.Goals as goal

pub split_at-requires : goal.split_at-requires
split_at-requires c = omega (arith, front_len c.args.end c.args.bytes.now, c.field_len.ensures)

pub returns-clause-free : goal.returns-clause-free
returns-clause-free c = rw (c.split_at.ensures.front, c.field_len.ensures) (front_free c.args.end c.args.bytes.now)

pub returns-clause-rest : goal.returns-clause-rest
returns-clause-rest c = rw (c.split_at.ensures.back, c.field_len.ensures) (front_ends c.args.end c.args.bytes.now)
