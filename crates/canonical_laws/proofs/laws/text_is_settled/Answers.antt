use Rattle.canonical_laws.proofs.Anew.{is_settled}
use Rattle.canonical_laws.proofs.SameText.{same_text}
use Rattle.canonical_laws.proofs.laws.text_is_settled.Goals as goal

pub returns-clause-same : goal.returns-clause-same
returns-clause-same c = same_text

pub returns-clause-settled : goal.returns-clause-settled
returns-clause-settled c f g old_names old_texts us r = is_settled r.bytes r.tokens f r.is us g
