-- The capacity of a file's queues.
use Rattle.std.specs.Prelude.{ℕ, ◌≡◌, true, [], Option, None}
use Rattle.chor_tree.specs.declared.file.File.{File}
use Rattle.chor_tree.specs.Headers.{no_header}
use Rattle.endpoint_code.specs.Network.{has_room}

-- how many loads a queue holds at most in the runs of a file: what its header declares, if it declares a capacity
abbrev pub capacity_of : File → Option ℕ
capacity_of f = f.header.capacity

-- an empty queue has room for a load
abbrev pub EmptyQueuesHaveRoom : Type 0
EmptyQueuesHaveRoom = (f : File) → has_room (capacity_of f) [] ≡ true

-- no queue is ever full where a file has no header
abbrev pub PlainFilesHaveNoCapacity : Type 0
PlainFilesHaveNoCapacity = (f : File) → f.header ≡ no_header → capacity_of f ≡ None
