use Rattle.endpoint_code.proofs.Fifo.{network_fifo}
use Rattle.endpoint_code.proofs.first_in_first_out.Goals as goal

pub returns : goal.returns
returns c = network_fifo
