use Rattle.std.proofs.Common.{◌≡◌, drop}
use Rattle.post_office.specs.Views.{events_of}
use Rattle.post_office.specs.Standings.{first_start}
use Rattle.post_office.proofs.office.Office.born.Given as goal

abbrev pub invariant-loop-entry : goal.invariant-loop-entry
invariant-loop-entry l = first_start (events_of l.self.history) l.pid ≡ first_start (events_of (drop l.entry-index l.self.history)) l.pid
