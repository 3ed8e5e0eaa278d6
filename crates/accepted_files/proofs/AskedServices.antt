-- The code of a service role asks only what follows the starts of its channel asks.
use Rattle.std.proofs.Common.{◌≡◌, ◌==◌, List, [], ◌∷◌, ◌++◌, Bool, true, false, if◌then◌else◌}
use Rattle.std.specs.List.{AllByRecursion, AllZip}
use Rattle.std.proofs.lemmas.List.Elements.{All-nil}
use Rattle.chor_base.specs.declared.names.NameId.{NameId}
use Rattle.chor_tree.specs.declared.file.File.{File}
use Rattle.chor_tree.specs.declared.file.Proc.{Proc}
use Rattle.chor_semantics.specs.Choreography.{Node, Starts, Communicates, InTransit, Alone, Choreography, Then, Either, Calls, Ends, put}
use Rattle.endpoint_code.specs.Above.{IsAbove, ends}
use Rattle.endpoint_code.specs.Labels.{HasDistinctLabels}
use Rattle.endpoint_code.specs.LeastAbove.{IsLeastAbove}
use Rattle.endpoint_code.specs.Trees.{CodeTree, Ends as Stops}
use Rattle.well_formed.proofs.Asked.{asked_put}
use Rattle.projection.specs.Projects.{Started, start_at, starts_in, starts_in_procs, starts_of, body_at, session_as, IsStartCode, IsServiceCode}
use Rattle.projection.proofs.OneCode.{code_distinct}
use Rattle.endpoint_code.specs.Asked.{AsksTree}
use Rattle.merged_codes.proofs.AskedMerged.{least_asks}
use Rattle.accepted_files.proofs.AskedCodes.{Known, both_known, code_known}

pub each_append : {X : Type 0} (P : X → Type 0) (xs ys : List X) → AllByRecursion P xs → AllByRecursion P ys → AllByRecursion P (xs ++ ys)
each_append P [] ys h k = k
each_append P (x ∷ xs) ys h k = (h.0, each_append P xs ys h.1 k)

module _ (known : NameId → Bool) where
  -- ---- what follows the starts of a channel

  abbrev StartKnown : Started → Type 0
  StartKnown s = Known known s.rest

  start_known : (a : NameId) (node : Node) (rest : Choreography) → Known known rest → AllByRecursion StartKnown (start_at a node rest)
  start_known a (Starts c d k active serve) rest h = go (c.0 == a.0)
    where
      go : (b : Bool) → AllByRecursion StartKnown (if b then record { session = k; serve = serve; rest = rest } ∷ [] else [])
      go true = (h, tt)
      go false = tt
  start_known a (Communicates k p x q y w) rest h = tt
  start_known a (InTransit k x y m q) rest h = tt
  start_known a (Alone p own) rest h = tt

  starts_known : (a : NameId) (c : Choreography) → Known known c → AllByRecursion StartKnown (starts_in a c)
  starts_known a (Then node rest) h =
      let b = (both_known known node rest h).1 in
      each_append StartKnown (start_at a node rest) (starts_in a rest) (start_known a node rest b) (starts_known a rest b)
  starts_known a (Either p t c d) h = each_append StartKnown (starts_in a c) (starts_in a d) (starts_known a c h.0) (starts_known a d h.1)
  starts_known a (Calls f d ps ss) h = tt
  starts_known a Ends h = tt

  module _ (f : File) where
    procs_started : (a : NameId) (hs : List Proc) → AllByRecursion (λ h. Known known (body_at f h.body)) hs → AllByRecursion StartKnown (starts_in_procs f a hs)
    procs_started a [] w = tt
    procs_started a (h ∷ hs) w = each_append StartKnown (starts_in a (body_at f h.body)) (starts_in_procs f a hs) (starts_known a (body_at f h.body) w.0) (procs_started a hs w.1)

    -- What follows each start of a channel asks only known host functions, if all bodies do
    pub all_started : (a : NameId) → AllByRecursion (λ h. Known known (body_at f h.body)) f.procs → Known known (body_at f f.body) → AllByRecursion StartKnown (starts_of f a)
    all_started a bodies body = each_append StartKnown (starts_in_procs f a f.procs) (starts_in a (body_at f f.body)) (procs_started a f.procs bodies) (starts_known a (body_at f f.body) body)

  -- ---- the code of a service role

  -- the least code of all is the end
  least_of_all : (c : CodeTree) → IsAbove Stops c → AsksTree known c
  least_of_all c ends = tt

  module _ (procs : List Proc) (a r : NameId) where
    codes_known : (ss : List Started) (cs : List CodeTree) → AllZip (IsStartCode procs a r) ss cs → AllByRecursion StartKnown ss → AllByRecursion (AsksTree known) cs
    codes_known [] [] z w = tt
    codes_known [] (c ∷ cs) z w = absurd z
    codes_known (s ∷ ss) [] z w = absurd z
    codes_known (s ∷ ss) (c ∷ cs) z w = (
      code_known known procs z.0.process (put (λ p. p) (session_as s.session a) s.rest) c z.0.code (asked_put (λ x. known x ≡ true) (λ p. p) (session_as s.session a) s.rest w.0),
      codes_known ss cs z.1 w.1,
    )

    codes_distinct : (ss : List Started) (cs : List CodeTree) → AllZip (IsStartCode procs a r) ss cs → AllByRecursion HasDistinctLabels cs
    codes_distinct [] [] z = tt
    codes_distinct [] (c ∷ cs) z = absurd z
    codes_distinct (s ∷ ss) [] z = absurd z
    codes_distinct (s ∷ ss) (c ∷ cs) z = (code_distinct procs z.0.process z.0.code, codes_distinct ss cs z.1)

    least_known : (cs : List CodeTree) (c : CodeTree) → AllByRecursion HasDistinctLabels cs → AllByRecursion (AsksTree known) cs → IsLeastAbove cs c → AsksTree known c
    least_known [] c d w l = least_of_all c (l.least Stops tt (All-nil (IsAbove Stops)))
    least_known (x ∷ xs) c d w l = least_asks known x xs c d w l

    -- The code of a service role asks only known host functions, if what follows each start does
    pub service_known : (ss : List Started) (c : CodeTree) → AllByRecursion StartKnown ss → IsServiceCode procs a r ss c → AsksTree known c
    service_known ss c w h = least_known h.codes c (codes_distinct ss h.codes h.each) (codes_known ss h.codes h.each w) h.merged
