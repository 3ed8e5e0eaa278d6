-- The body of a call is typed where what the call asks holds.
use Rattle.std.proofs.Common.{ℕ, zero, suc, List, [], map, subst, None, Option, Bool, false}
use Rattle.chor_base.specs.declared.names.NameId.{NameId}
use Rattle.chor_base.specs.declared.value.Sort.{Sort}
use Rattle.chor_base.specs.declared.value.Sort.TheVariants as sort
use Rattle.chor_tree.specs.declared.file.File.{File}
use Rattle.chor_tree.specs.declared.file.Proc.{Proc}
use Rattle.chor_tree.specs.declared.file.ProcParam.{ProcParam}
use Rattle.chor_tree.specs.declared.file.SessionParam.{SessionParam}
use Rattle.chor_tree.specs.Names.{is_among}
use Rattle.chor_semantics.specs.Choreography.{Ref, Live, Named, Starts, Communicates, InTransit, Alone, Choreography, Then, Either, Calls, Ends, put_node, put_part, instance_of, named_by, bound, bound_served}
use Rattle.chor_semantics.specs.Steps.{bound_all}
use Rattle.delegation.specs.Owners.{holder_of}
use Rattle.typing_rules.specs.Environment.{Environment, standing_of, at_procedure}
use Rattle.typed_sources.specs.Context.{Context, after}
use Rattle.typed_sources.specs.Typing.{AllKnown, IsTypedNode, IsTypedIn}
use Rattle.typed_sources.specs.Told.{Act}
use Rattle.typed_sources.specs.Changes.{HoldersInScope}
use Rattle.typed_sources.specs.Renames.{Renames}
use Rattle.typed_sources.proofs.StartsRenamed.{active_known, still_some}
use Rattle.typed_sources.proofs.Renamed.{sort_more, renamed_communication, renamed_own, renamed_end}
use Rattle.typed_sources.proofs.StartKept.{held_after}
use Rattle.typed_sources.specs.Stands.{kind_in, states_in, holder_at, protocol_at}
use Rattle.typed_sources.specs.Calls.{IsTypedCall}
use Rattle.typed_sources.proofs.Calls.{call_put}
use Rattle.typed_sources.proofs.Instances.{IsFlat, Deep, start_names, start_deep, all_new_there}

module _ (f : File) where
  abbrev pub IsTypedThere : Context → Choreography → Type 0
  IsTypedThere = IsTypedIn (kind_in f) (states_in f) (IsTypedCall f)

  -- A source's tree is typed at a depth, with references for its free names
  pub instance_typed : (k : ℕ) (F G : ℕ → Ref) (d e : Context) → Renames (states_in f) (named_by F) (named_by G) d e → Deep k d e → HoldersInScope d → (c : Choreography) → IsFlat c → IsTypedThere d c → IsTypedThere e (instance_of k F G c)
  instance_typed k F G d e n deep held (Then (Starts ch c s active serve) rest) fl t =
      let u = subst (λ x. AllKnown d.known (map (λ p. p.0) active) × IsTypedNode (kind_in f) d (Starts ch x s active serve) × IsTypedThere (after (kind_in f) d (Starts ch x s active serve)) rest) fl.0 t in
      let names = start_names f k F G d e n deep ch s active serve u.1.0 u.1.1 u.1.2 u.0 held.process in
      let deep' = start_deep f k F G d e n deep ch s active serve u.1.0 u.1.1 u.1.2 in (
        active_known (kind_in f) (states_in f) (named_by F) (named_by G) d e n active u.0,
        (u.1.0, deep.session s u.1.1, all_new_there f k F G d e n deep ch s active serve u.1.0 u.1.1 u.1.2 serve u.1.2, still_some (named_by F) active u.1.3),
        instance_typed k (bound_served k serve F) (bound s (Named s k) G) (after (kind_in f) d (Starts ch 0 s active serve)) (after (kind_in f) e (Starts ch k s (put_part (named_by F) active) serve)) names deep'
            (held_after (kind_in f) d (Starts ch 0 s active serve) held u.0 u.1) rest fl.1 u.2,
      )
  instance_typed k F G d e n deep held (Then (Communicates s p a q b w) rest) fl (kn, fits, t) =
      let i = renamed_communication (kind_in f) (states_in f) (named_by F) (named_by G) d e n s p a q b w kn fits in (
        (n.known p kn.0, (n.known q kn.1.0, tt)),
        i.0,
        instance_typed k F G (after (kind_in f) d (Communicates s p a q b w)) (after (kind_in f) e (put_node (named_by F) (named_by G) (Communicates s p a q b w))) i.1
            (record { process = deep.process; session = deep.session; flat = deep.flat; deeper = deep.deeper })
            (held_after (kind_in f) d (Communicates s p a q b w) held kn fits) rest fl t,
      )
  instance_typed k F G d e n deep held (Then (InTransit s a b w q) rest) fl t = elim fl [ ]
  instance_typed k F G d e n deep held (Then (Alone p o) rest) fl (kn, fits, t) =
      let i = renamed_own (kind_in f) (states_in f) (named_by F) (named_by G) d e n p o kn fits in (
        (n.known p kn.0, tt),
        i.0,
        instance_typed k F G (after (kind_in f) d (Alone p o)) (after (kind_in f) e (put_node (named_by F) (named_by G) (Alone p o))) i.1
            (record { process = deep.process; session = deep.session; flat = deep.flat; deeper = deep.deeper })
            (held_after (kind_in f) d (Alone p o) held kn fits) rest fl t,
      )
  instance_typed k F G d e n deep held (Either p x c c') fl (kn, s, t, u) =
      (n.known p kn, sort_more (d.sorts p) (e.sorts (named_by F p)) (n.sorts p kn) x sort.Bool s, instance_typed k F G d e n deep held c fl.0 t, instance_typed k F G d e n deep held c' fl.1 u)
  instance_typed k F G d e n deep held (Calls h l ps ss) fl t = call_put f (named_by F) (named_by G) d e n h l k ps ss deep.deeper t
  instance_typed k F G d e n deep held Ends fl t = renamed_end (kind_in f) (states_in f) (named_by F) (named_by G) d e n t

  -- ---- what is known where a body begins

  abbrev pub named_params : List ProcParam → List NameId
  named_params qs = map (λ q. q.name.name) qs

  abbrev pub named_sessions : List SessionParam → List NameId
  named_sessions qs = map (λ q. q.name.name) qs

  abbrev pub id : ℕ → NameId
  id x = record { 0 = x }

  module _ (dep : ℕ) (p : Proc) (ps ss : List Ref) (e : Context) where
    abbrev pub F : ℕ → Ref
    F = bound_all dep (named_params p.params) ps

    abbrev pub G : ℕ → Ref
    G = bound_all dep (named_sessions p.sessions) ss

    abbrev pub begins : Environment
    begins = at_procedure p

    abbrev pub protocol_of_ref : Ref → Option NameId
    protocol_of_ref (Named y zero) = protocol_at (standing_of begins.standings (id y))
    protocol_of_ref (Named y (suc c)) = None
    protocol_of_ref (Live n) = None

    abbrev pub holder_of_ref : Ref → NameId → Option Ref
    holder_of_ref (Named y zero) r = holder_at (holder_of begins.owners (id y) r)
    holder_of_ref (Named y (suc c)) r = None
    holder_of_ref (Live n) r = None

    abbrev pub done_of_ref : Ref → NameId → List Act
    done_of_ref (Named y c) r = e.done (G y) r
    done_of_ref (Live n) r = []

    abbrev pub sorts_of_ref : Ref → NameId → Option Sort
    sorts_of_ref (Named y zero) x = begins.sorts (id y) x
    sorts_of_ref (Named y (suc c)) x = None
    sorts_of_ref (Live n) x = None

    abbrev pub known_ref : Ref → Bool
    known_ref (Named y zero) = is_among (named_params p.params) (id y)
    known_ref (Named y (suc c)) = false
    known_ref (Live n) = false

    -- the names of the parameters, as the source knows them
    abbrev pub there : Context
    there = record { protocol = protocol_of_ref; done = done_of_ref; holder = holder_of_ref; sorts = sorts_of_ref; known = known_ref }
