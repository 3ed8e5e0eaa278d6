use Rattle.service_codes.proofs.starts.+put_starts.Given as goal

abbrev pub decreases-put_starts : goal.decreases-put_starts
decreases-put_starts l = l.id.0
