use Rattle.writable_sources.proofs.Codes.{code_writable}
use Rattle.writable_sources.proofs.codes_are_writable.Goals as goal

pub returns : goal.returns
returns x e procs heads r n c t h w = code_writable e procs heads r n c t h w
