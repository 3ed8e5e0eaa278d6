-- What contracts see of the session names of a process.
use Rattle.std.specs.Prelude.{List, map}
use Rattle.std.specs.FinMap as fin
use Rattle.endpoint_code.specs.Network.{Sessions}
use Rattle.endpoint_machine.specs.declared.sessions.Binding.{Binding}

-- the sessions of bindings, of which the first of a name counts
abbrev pub sessions_of : List Binding → Sessions
sessions_of bs = fin.from_entries (map (λ b. (b.session.0, (b.sid, b.role))) bs)
