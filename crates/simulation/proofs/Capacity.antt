-- The capacity of a file leaves room in an empty queue.
use Rattle.std.proofs.Common.{◌≡◌, ◌&&◌, ℕ, Bool, true, false, [], Option, Some, None, refl, ap}
use Rattle.std.specs.Prelude.{◌==◌, nat_lt}
use Rattle.chor_tree.specs.declared.file.File.{File}
use Rattle.chor_tree.specs.Headers.{can_declare, is_capacity}
use Rattle.endpoint_code.specs.Network.{has_room}
use Rattle.simulation.specs.Capacity.{capacity_of, EmptyQueuesHaveRoom, PlainFilesHaveNoCapacity}

last_true : (a b : Bool) → (a && b) ≡ true → b ≡ true
last_true true b e = e
last_true false b e = absurd cc

first_true : (a b : Bool) → (a && b) ≡ true → a ≡ true
first_true true b e = refl
first_true false b e = absurd cc

pub declared_has_room : (version : ℕ) (cap : Option ℕ) → can_declare version cap ≡ true → has_room cap [] ≡ true
declared_has_room version None e = refl
declared_has_room version (Some c) e = first_true (nat_lt 0 c) (nat_lt c 1000001) (last_true (version == 2) (is_capacity c) e)

pub empty_queues_have_room : EmptyQueuesHaveRoom
empty_queues_have_room = λ f. declared_has_room f.header.version f.header.capacity f.kept.header

-- of a file under another name
pub capacity_of_same : (f g : File) → f ≡ g → f.header.capacity ≡ capacity_of g
capacity_of_same f g same = ap (λ (h : File). h.header.capacity) same

pub room_of_file : (f : File) → has_room f.header.capacity [] ≡ true
room_of_file f = empty_queues_have_room f

pub plain_files_have_none : PlainFilesHaveNoCapacity
plain_files_have_none = λ f is. ap (λ h. h.capacity) is
