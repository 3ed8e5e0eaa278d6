-- What follows each start of a choreography that can be written can be written.
use Rattle.std.proofs.Common.{ℕ, ◌≤◌, ◌<◌, ◌-◌, List, [], ◌∷◌, Bool, true, false, if◌then◌else◌, ◌==◌, arith}
use Rattle.std.specs.List.{AllByRecursion}
use Rattle.chor_base.specs.declared.names.NameId.{NameId}
use Rattle.chor_tree.specs.declared.file.File.{File}
use Rattle.chor_tree.specs.declared.file.Proc.{Proc}
use Rattle.chor_lexer.proofs.Each.{each_append}
use Rattle.chor_semantics.specs.Choreography.{Node, Starts, Communicates, InTransit, Alone, Choreography, Then, Either, Calls, Ends}
use Rattle.endpoint_code.specs.declared.endpoints.Endpoints.{Endpoints}
use Rattle.projection.specs.Projects.{Started, start_at, starts_in, starts_in_procs, starts_of, body_at}
use Rattle.writable_sources.specs.Written.{IsWritableIn}

module _ (e : Endpoints) where
  -- with room for more nodes
  writable_more : (c : Choreography) (n m : ℕ) → n ≤ m → IsWritableIn e n c → IsWritableIn e m c
  writable_more (Then node rest) n m h w = let b : 0 < n = w.0 in (omega (arith, h, b), w.1, writable_more rest (n - 1) (m - 1) (omega (arith, h)) w.2)
  writable_more (Either p t c d) n m h w =
      let b : 0 < n = w.0 in (omega (arith, h, b), w.1, writable_more c (n - 1) (m - 1) (omega (arith, h)) w.2, writable_more d (n - 1) (m - 1) (omega (arith, h)) w.3)
  writable_more (Calls f d ps ss) n m h w = let b : 0 < n = w.0 in (omega (arith, h, b), w.1, w.2)
  writable_more Ends n m h w = omega (arith, h, w)

  abbrev AreFollowed : ℕ → List Started → Type 0
  AreFollowed n ss = AllByRecursion (λ s. IsWritableIn e n s.rest) ss

  start_followed : (a : NameId) (node : Node) (rest : Choreography) (n : ℕ) → IsWritableIn e n rest → AreFollowed n (start_at a node rest)
  start_followed a (Starts c d k active serve) rest n w = go (c.0 == a.0)
    where
      go : (b : Bool) → AreFollowed n (if b then record { session = k; serve = serve; rest = rest } ∷ [] else [])
      go true = (w, tt)
      go false = tt
  start_followed a (Communicates k p x q y w) rest n h = tt
  start_followed a (InTransit k x y m q) rest n h = tt
  start_followed a (Alone p own) rest n h = tt

  starts_followed : (a : NameId) (c : Choreography) (n m : ℕ) → n ≤ m → IsWritableIn e n c → AreFollowed m (starts_in a c)
  starts_followed a (Then node rest) n m h w =
      each_append (λ (s : Started). IsWritableIn e m s.rest) (start_at a node rest) (starts_in a rest) (start_followed a node rest m (writable_more rest (n - 1) m (omega (arith, h)) w.2)) (starts_followed a rest (n - 1) m (omega (arith, h)) w.2)
  starts_followed a (Either p t c d) n m h w =
      each_append (λ (s : Started). IsWritableIn e m s.rest) (starts_in a c) (starts_in a d) (starts_followed a c (n - 1) m (omega (arith, h)) w.2) (starts_followed a d (n - 1) m (omega (arith, h)) w.3)
  starts_followed a (Calls f d ps ss) n m h w = tt
  starts_followed a Ends n m h w = tt

  procs_followed : (f : File) (a : NameId) (n : ℕ) (hs : List Proc) → AllByRecursion (λ h. IsWritableIn e n (body_at f h.body)) hs → AreFollowed n (starts_in_procs f a hs)
  procs_followed f a n [] w = tt
  procs_followed f a n (h ∷ hs) w =
      each_append (λ (s : Started). IsWritableIn e n s.rest) (starts_in a (body_at f h.body)) (starts_in_procs f a hs) (starts_followed a (body_at f h.body) n n (omega arith) w.0) (procs_followed f a n hs w.1)

  -- What follows each start of a channel can be written, where all bodies can
  pub all_followed : (f : File) (a : NameId) (n : ℕ) → AllByRecursion (λ h. IsWritableIn e n (body_at f h.body)) f.procs → IsWritableIn e n (body_at f f.body) → AreFollowed n (starts_of f a)
  all_followed f a n bodies body =
      each_append (λ (s : Started). IsWritableIn e n s.rest) (starts_in_procs f a f.procs) (starts_in a (body_at f f.body)) (procs_followed f a n f.procs bodies) (starts_followed a (body_at f f.body) n n (omega arith) body)
