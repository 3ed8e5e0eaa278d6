-- A block of which no name is at fault, and that its nodes have no fault then.
use Rattle.std.proofs.Common.{◌≡◌, ℕ, zero, suc, List, [], ◌∷◌, ◌++◌, map, refl, subst, arith}
use Rattle.std.specs.Prelude.{Contains}
use Rattle.std.specs.List.{flat_map}
use Rattle.chor_base.specs.declared.fault.Fault.{Fault}
use Rattle.chor_base.specs.declared.rule.Place.{Place}
use Rattle.chor_tree.specs.declared.file.File.{File}
use Rattle.chor_tree.specs.declared.file.Named.{Named}
use Rattle.chor_tree.specs.declared.tree.Form.{Form}
use Rattle.chor_tree.specs.declared.tree.Form.TheVariants as form
use Rattle.chor_tree.specs.declared.tree.NodeId.{NodeId}
use Rattle.chor_tree.specs.Children.{children_of}
use Rattle.chor_tree.specs.Names.{Scope, unknown, unknown_process, unknown_session, unknown_function, wrong_parts, wrong_numbers, message_faults, named_as_channel, repeated, channels_of, procedures_of, channel_of, procedure_of, scope_after, node_faults, IsBodyFault, here, further}
use Rattle.chor_tree.specs.Source.{Statement, Starts, Sends, Selects, Gives, Sets, Asks, Shows, Block, Then, Either, Calls, Ends, block_in, block_of, blocks_of, body_of}
use Rattle.chor_tree.proofs.Blocks.{block_at}
use Rattle.generated_files.proofs.Lists.{no_member, one_member}

module _ (f : File) (hosts : List (List ℕ)) where
  abbrev pub statement_faults : Scope → Statement → List Fault
  statement_faults s (Starts c k active serve) =
      unknown (channels_of f) c ++ wrong_parts (channel_of f c.name) c active serve
      ++ flat_map (λ q. unknown_process s q.process) active
      ++ named_as_channel f k ++ repeated (s.processes ++ s.sessions) (k ∷ map (λ q. q.process) serve)
  statement_faults s (Sends a e b x k) = message_faults s a b k
  statement_faults s (Selects a b k l) = message_faults s a b k
  statement_faults s (Gives a b k given) = message_faults s a b k ++ unknown_session s given.process
  statement_faults s (Sets p x e) = unknown_process s p
  statement_faults s (Asks p x h a b) = unknown_process s p ++ unknown_function f hosts h
  statement_faults s (Shows p e) = unknown_process s p

  abbrev pub call_faults : Scope → Named → List Named → List Named → List Fault
  call_faults s g ps ks =
      unknown (procedures_of f) g ++ wrong_numbers (procedure_of f g.name) g ps ks
      ++ flat_map (unknown_process s) ps ++ flat_map (unknown_session s) ks

  abbrev pub scope_by : Scope → Statement → Scope
  scope_by s (Starts c k active serve) = record { processes = s.processes ++ map (λ q. q.process.name) serve; sessions = s.sessions ++ k.name ∷ [] }
  scope_by s (Sends a e b x k) = s
  scope_by s (Selects a b k l) = s
  scope_by s (Gives a b k given) = s
  scope_by s (Sets p x e) = s
  scope_by s (Asks p x h a b) = s
  scope_by s (Shows p e) = s

  -- no statement and no tail is at fault
  abbrev pub IsClear : Scope → Block → Type 0
  IsClear s (Then place x next) = (statement_faults s x ≡ []) × IsClear (scope_by s x) next
  IsClear s (Either place p e first second) = (unknown_process s p ≡ []) × IsClear s first × IsClear s second
  IsClear s (Calls place g ps ks) = call_faults s g ps ks ≡ []
  IsClear s (Ends place) = Unit {0}

  none_at : (bs : List Block) (s : Scope) (place : Place) (n : Form) → IsClear s (block_of bs place n) → node_faults f hosts s n ≡ []
  none_at bs s place (form.Start c k active serve next) w = w.0
  none_at bs s place (form.Value a e b x k next) w = w.0
  none_at bs s place (form.Label a b k l next) w = w.0
  none_at bs s place (form.Give a b k given next) w = w.0
  none_at bs s place (form.Set p x e next) w = w.0
  none_at bs s place (form.Host p x h a b next) w = w.0
  none_at bs s place (form.Show p e next) w = w.0
  none_at bs s place (form.If p e first second) w = w.0
  none_at bs s place (form.Call g ps ks) w = w
  none_at bs s place form.End w = refl

  follows : (bs : List Block) (s : Scope) (c d : NodeId) → Contains (c ∷ []) d → IsClear s (block_in bs c) → IsClear s (block_in bs d)
  follows bs s c d m w = subst (λ (x : NodeId). IsClear s (block_in bs x)) (one_member d c m) w

  clear_next : (bs : List Block) (s : Scope) (place : Place) (n : Form) (d : NodeId) → Contains (children_of n) d → IsClear s (block_of bs place n) → IsClear (scope_after s n) (block_in bs d)
  clear_next bs s place (form.Start c k active serve next) d m w = follows bs _ next d m w.1
  clear_next bs s place (form.Value a e b x k next) d m w = follows bs s next d m w.1
  clear_next bs s place (form.Label a b k l next) d m w = follows bs s next d m w.1
  clear_next bs s place (form.Give a b k given next) d m w = follows bs s next d m w.1
  clear_next bs s place (form.Set p x e next) d m w = follows bs s next d m w.1
  clear_next bs s place (form.Host p x h a b next) d m w = follows bs s next d m w.1
  clear_next bs s place (form.Show p e next) d m w = follows bs s next d m w.1
  clear_next bs s place (form.If p e first second) d (zero, l, i) w = subst (λ (x : NodeId). IsClear s (block_in bs x)) i w.1
  clear_next bs s place (form.If p e first second) d (suc zero, l, i) w = subst (λ (x : NodeId). IsClear s (block_in bs x)) i w.2
  clear_next bs s place (form.If p e first second) d (suc (suc j), l, i) w = absurd (omega (arith, l))
  clear_next bs s place (form.Call g ps ks) d m w = absurd (no_member d m)
  clear_next bs s place form.End d m w = absurd (no_member d m)

  module _ (x : Fault) where
    pub no_fault : {s : Scope} {id : NodeId} → IsClear s (body_of f id) → IsBodyFault f hosts x s id → ⊥
    no_fault w (here {s = s} {id = id} {n = n} is m) =
        let v = subst (IsClear s) (block_at f.tree.nodes id n f.tree.closed is) w in
        no_member x (subst (λ l. Contains l x) (none_at (blocks_of f.tree.nodes) s n.place n.form v) m)
    no_fault w (further {s = s} {id = id} {next = d} {n = n} is m h) =
        let v = subst (IsClear s) (block_at f.tree.nodes id n f.tree.closed is) w in
        no_fault (clear_next (blocks_of f.tree.nodes) s n.place n.form d m v) h
