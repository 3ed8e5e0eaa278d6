use Rattle.merged_codes.proofs.Least.{least_made}
use Rattle.merged_codes.proofs.least_is_made.Goals as goal

pub returns : goal.returns
returns x c cs q d l = least_made c cs q d l
