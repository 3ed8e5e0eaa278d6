use Rattle.writable_sources.proofs.Whole.{text_writable}
use Rattle.writable_sources.proofs.projection_is_writable.Goals as goal

pub returns-clause-text : goal.returns-clause-text
returns-clause-text c bytes f h e pr = text_writable bytes f h e pr

pub returns-clause-accepted : goal.returns-clause-accepted
returns-clause-accepted c words bytes f h e pr = text_writable bytes f h.file e pr
