-- The code of a process asks only what the choreography asks.
use Rattle.std.proofs.Common.{◌≡◌, List, [], ◌∷◌, sym, subst, Option, Some, None, Bool, true, false, if◌then◌else◌}
use Rattle.chor_base.specs.declared.names.NameId.{NameId}
use Rattle.chor_tree.specs.declared.file.Proc.{Proc}
use Rattle.chor_semantics.specs.Choreography.{Ref, Content, OfValue, OfLabel, OfPart, Own, Sets as SetsOwn, Shows as ShowsOwn, Asks as AsksOwn, Node, Starts, Communicates, InTransit, Alone, Choreography, Then}
use Rattle.endpoint_code.specs.Trees.{CodeTree}
use Rattle.well_formed.specs.Asked.{AllAsked}
use Rattle.projection.specs.Codes.{Part, Absent, Acts, Learns, name_of, is_named, role_in, joins, sends, receives, acts_alone, part_in, proc_named, param_for, call_as, call_code, IsCodeOf, acts, learns, absent, decides, merges, calls, ends}
use Rattle.projection.proofs.OneCode.{code_distinct}
use Rattle.endpoint_code.specs.Asked.{asks_so, AsksTree}
use Rattle.merged_codes.proofs.AskedMerged.{least_asks}

module _ (known : NameId → Bool) where
  -- a choreography that asks only known host functions
  abbrev pub Known : Choreography → Type 0
  Known c = AllAsked (λ x. known x ≡ true) c

  -- ---- what a process does at a node

  abbrev PartKnown : Part → Type 0
  PartKnown Absent = Unit {0}
  PartKnown (Acts a) = asks_so known a
  PartKnown (Learns k a l) = Unit {0}

  abbrev pub OwnKnown : Own → Type 0
  OwnKnown (SetsOwn x t) = Unit {0}
  OwnKnown (ShowsOwn t) = Unit {0}
  OwnKnown (AsksOwn x f l r) = known f ≡ true

  abbrev pub NodeKnown : Node → Type 0
  NodeKnown (Starts c d k active serve) = Unit {0}
  NodeKnown (Communicates k p a q b w) = Unit {0}
  NodeKnown (InTransit k a b m q) = Unit {0}
  NodeKnown (Alone p own) = OwnKnown own

  -- a node and what follows it
  pub both_known : (n : Node) (rest : Choreography) → Known (Then n rest) → NodeKnown n × Known rest
  both_known (Starts c d k active serve) rest h = (tt, h)
  both_known (Communicates k p a q b w) rest h = (tt, h)
  both_known (InTransit k a b m q) rest h = (tt, h)
  both_known (Alone p (SetsOwn x t)) rest h = (tt, h)
  both_known (Alone p (ShowsOwn t)) rest h = (tt, h)
  both_known (Alone p (AsksOwn x f l r)) rest h = h

  joins_known : (c k : NameId) (o : Option NameId) → PartKnown (joins c k.0 o)
  joins_known c k None = tt
  joins_known c k (Some a) = tt

  sends_known : (k b : NameId) (w : Content) → PartKnown (Acts (sends k b w))
  sends_known k b (OfValue t x) = tt
  sends_known k b (OfLabel l) = tt
  sends_known k b (OfPart s r) = tt

  receives_known : (k a : NameId) (w : Content) → PartKnown (receives k a w)
  receives_known k a (OfValue t x) = tt
  receives_known k a (OfLabel l) = tt
  receives_known k a (OfPart s r) = tt

  alone_known : (own : Own) → OwnKnown own → PartKnown (Acts (acts_alone own))
  alone_known (SetsOwn x t) h = tt
  alone_known (ShowsOwn t) h = tt
  alone_known (AsksOwn x f l r) h = h

  part_known : (r : NameId) (n : Node) → NodeKnown n → PartKnown (part_in r n)
  part_known r (Starts c d k active serve) h = joins_known c (record { 0 = k }) (role_in r active)
  part_known r (Communicates k p a q b w) h = go (is_named r p) (is_named r q)
    where
      go : (i j : Bool) → PartKnown (if i then Acts (sends (name_of k) b w) else (if j then receives (name_of k) a w else Absent))
      go true j = sends_known (name_of k) b w
      go false true = receives_known (name_of k) a w
      go false false = tt
  part_known r (InTransit k a b m q) h = tt
  part_known r (Alone p own) h = go (is_named r p)
    where
      go : (i : Bool) → PartKnown (if i then Acts (acts_alone own) else Absent)
      go true = alone_known own h
      go false = tt

  -- ---- calls

  call_as_known : (f : NameId) (h : Proc) (ss : List Ref) (o : Option NameId) → AsksTree known (call_as f h ss o)
  call_as_known f h ss None = tt
  call_as_known f h ss (Some p) = tt

  call_known : (r f : NameId) (qs ss : List Ref) (o : Option Proc) → AsksTree known (call_code r f qs ss o)
  call_known r f qs ss None = tt
  call_known r f qs ss (Some h) = call_as_known f h ss (param_for r h.params qs)

  -- ---- the code

  module _ (procs : List Proc) (r : NameId) where
    -- The code of a process asks only known host functions, if the choreography does
    pub code_known : (c : Choreography) (x : CodeTree) → IsCodeOf procs r c x → Known c → AsksTree known x
    code_known c x (acts {n = node} {rest = rest} {c = t} i h) w =
        let b = both_known node rest w in
        (subst PartKnown i (part_known r node b.0), code_known rest t h b.1)
    code_known c x (learns {n = node} {rest = rest} {c = t} i h) w = (code_known rest t h (both_known node rest w).1, tt)
    code_known c x (absent {n = node} {rest = rest} i h) w = code_known rest x h (both_known node rest w).1
    code_known c x (decides {first = first} {second = second} {c = s} {d = t} i h k) w = (code_known first s h w.0, code_known second t k w.1)
    code_known c x (merges {first = first} {second = second} {c = s} {d = t} i h k least) w =
        let one = code_known first s h w.0 in
        let other = code_known second t k w.1 in
        least_asks known s (t ∷ []) x (code_distinct procs r h, (code_distinct procs r k, tt)) (one, (other, tt)) least
    code_known c x (calls {f = f} {qs = qs} {ss = ss} i) w = subst (AsksTree known) (sym i) (call_known r f qs ss (proc_named procs f))
    code_known c x ends w = tt
