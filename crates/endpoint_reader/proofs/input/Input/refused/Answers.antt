use Rattle.std.proofs.Common.{refl}
use Rattle.endpoint_reader.proofs.Ends.{refused_first}
use Rattle.endpoint_reader.proofs.input.Input.refused.Goals as goal

pub returns-clause-refuses : goal.returns-clause-refuses
returns-clause-refuses c = refused_first c.first_from-token.ensures

pub returns-clause-told : goal.returns-clause-told
returns-clause-told c = record { refusal = _; is = refl; nobody = refl }
