use Rattle.accepted_files.proofs.AtCalls.{through}
use Rattle.accepted_files.proofs.following.call_follows.Goals as goal

pub returns : goal.returns
returns c0 e procs r h p ss u q m n c found there w = through e procs r h p ss u found q there m n c w
