-- What tells a unit from others of its kind (this project's own): its name, and a second name where it has one.
use Rattle.std.specs.Prelude.{◌==◌, ◌&&◌, Bool, List, [], ◌∷◌, map, Option, Some, None, if◌then◌else◌}
use Rattle.std.specs.Option.{option_eq}
use Rattle.std.specs.List.{list_any}
use Rattle.chor_base.specs.declared.names.NameId.{NameId}
use Rattle.endpoint_reader.specs.declared.input.Named.{Named}
use Rattle.endpoint_reader.specs.declared.lines.Arm.{Arm}
use Rattle.endpoint_reader.specs.declared.written.Channel.{Channel}
use Rattle.endpoint_reader.specs.declared.written.Procedure.{Procedure}
use Rattle.endpoint_reader.specs.declared.written.Service.{Service}
use Rattle.endpoint_reader.specs.declared.written.Process.{Process}
use Rattle.endpoint_names.specs.declared.key.Key.{Key}
use Rattle.endpoint_names.specs.declared.key.Sign.{Sign}

-- a key of one name
abbrev pub alone : NameId → Key
alone x = record { name = x; second = None }

-- a key of two names
abbrev pub both : NameId → NameId → Key
both x y = record { name = x; second = Some y }

-- two keys are the same
abbrev pub same_key : Key → Key → Bool
same_key x y = (x.name.0 == y.name.0) && option_eq (λ a b. a.0 == b.0) x.second y.second

-- one of the keys is this one
abbrev pub is_known : List Key → Key → Bool
is_known ks x = list_any (same_key x) ks

-- ---- keys with their places: that of the first name

-- one name is the key
abbrev pub sign_of_name : Named → Sign
sign_of_name x = record { key = alone x.name; place = x.place }

-- two names are the key, and the place is that of the first
abbrev pub sign_of_two : Named → Named → Sign
sign_of_two x y = record { key = both x.name y.name; place = x.place }

-- a channel is known by its name
abbrev pub sign_of_channel : Channel → Sign
sign_of_channel c = sign_of_name c.name

-- a procedure is known by its name and its parameter
abbrev pub sign_of_procedure : Procedure → Sign
sign_of_procedure p = sign_of_two p.signature.name p.signature.param

-- a service is known by its channel and its role
abbrev pub sign_of_service : Service → Sign
sign_of_service s = sign_of_two s.channel s.role

-- a process is known by its name
abbrev pub sign_of_process : Process → Sign
sign_of_process p = sign_of_name p.name

abbrev pub sign_of_arm : Arm → Sign
sign_of_arm a = sign_of_name a.label

-- ---- items by their keys

-- the keys of these units
abbrev pub keys_of : {X : Type 0} → (X → Sign) → List X → List Key
keys_of f xs = map (λ x. (f x).key) xs

-- of several items of one key the first counts
abbrev pub first_by : {X : Type 0} → (X → Sign) → List X → Key → Option X
first_by f [] k = None
first_by f (x ∷ xs) k = if same_key k (f x).key then Some x else first_by f xs k
