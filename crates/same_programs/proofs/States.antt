-- What keeps states the same.
use Rattle.std.proofs.Common.{◌≡◌, ℕ, Bool, true, false, ◌==◌, ◌&&◌, List, refl, sym, ap, ◌∙◌, subst, if◌then◌else◌}
use Rattle.std.specs.List.{AllZip}
use Rattle.chor_base.specs.declared.names.NameId.{NameId}
use Rattle.chor_base.specs.declared.value.Load.{Load}
use Rattle.chor_base.specs.Events.{Triple, triple_eq}
use Rattle.chor_base.specs.NameMap.{Variables}
use Rattle.endpoint_code.specs.declared.code.CodeId.{CodeId}
use Rattle.endpoint_code.specs.declared.endpoints.Endpoints.{Endpoints}
use Rattle.endpoint_code.specs.Network.{Sessions, NetworkState, moved, with_queue, loads_for, with_loads}
use Rattle.endpoint_code.proofs.Queues.{loads-same, loads-other}
use Rattle.endpoint_code.proofs.Fifo.{same_triple}
use Rattle.same_programs.specs.Words.{SameName, SameText}
use Rattle.same_programs.specs.Programs.{IsCopy}
use Rattle.same_programs.specs.States.{SameLoad, SameMachine, SameState, SameVariables, SameSessions}
use Rattle.same_programs.proofs.Zips.{zip_set}
use Rattle.same_programs.proofs.Nodes.{IsSpot}
use Rattle.same_programs.proofs.Places.{tell}

-- each queue after one is set
queue_after : (qs : List (Triple × List Load)) (t u : Triple) (ls : List Load) → loads_for (with_loads qs t ls) u ≡ (if triple_eq t u then ls else loads_for qs u)
queue_after qs t u ls = go (triple_eq t u) refl
  where
    go : (b : Bool) → triple_eq t u ≡ b → loads_for (with_loads qs t ls) u ≡ (if triple_eq t u then ls else loads_for qs u)
    go true e =
        subst (λ (w : Triple). loads_for (with_loads qs t ls) w ≡ ls) (same_triple t u e) (loads-same qs t ls)
        ∙ sym (ap (λ b. if b then ls else loads_for qs u) e)
    go false e = loads-other qs t u ls e ∙ sym (ap (λ b. if b then ls else loads_for qs u) e)

module _ (e e' : Endpoints) (c : IsCopy e e') where
  abbrev N : NameId → NameId → Type 0
  N = SameName e e'

  abbrev pub Loads : List Load → List Load → Type 0
  Loads ls ks = AllZip (SameLoad (SameName e e') (SameText e e')) ls ks

  loads_choice : (b d : Bool) (ls ks us vs : List Load) → b ≡ d → Loads ls ks → Loads us vs → Loads (if b then ls else us) (if d then ks else vs)
  loads_choice b d ls ks us vs h i j = subst (λ t. Loads (if b then ls else us) (if t then ks else vs)) h (go b)
    where
      go : (t : Bool) → Loads (if t then ls else us) (if t then ks else vs)
      go true = i
      go false = j

  pub machine_same : (at at' : CodeId) (vars vars' : Variables) (m m' : Sessions) → IsSpot e e' at at' → SameVariables e e' vars vars' → SameSessions e e' m m'
      → SameMachine e e' (record { at = at; vars = vars; sessions = m }) (record { at = at'; vars = vars'; sessions = m' })
  machine_same at at' vars vars' m m' s v u = record { inside = s.inside; copied_inside = s.copied_inside; code = s.code; distinct = s.distinct; vars = v; sessions = u }

  pub moved_same : (n n' : NetworkState) → SameState e e' n n' → (p : ℕ) (at at' : CodeId) (vars vars' : Variables) (m m' : Sessions)
      → IsSpot e e' at at' → SameVariables e e' vars vars' → SameSessions e e' m m' → SameState e e' (moved n p at vars m) (moved n' p at' vars' m')
  moved_same n n' same p at at' vars vars' m m' s v u = record {
    machines = zip_set (SameMachine e e') n.machines n'.machines same.machines p (record { at = at; vars = vars; sessions = m }) (record { at = at'; vars = vars'; sessions = m' })
        (machine_same at at' vars vars' m m' s v u);
    queues = same.queues;
    sid = same.sid;
  }

  triples_same : (s t : ℕ) (a b d f x y z w : NameId) → N a d → N b f → N x z → N y w → triple_eq (s, a, b) (t, x, y) ≡ triple_eq (s, d, f) (t, z, w)
  triples_same s t a b d f x y z w i j k l =
      let first : (a.0 == x.0) ≡ (d.0 == z.0) = tell e e' c a d x z i k in
      let second : (b.0 == y.0) ≡ (f.0 == w.0) = tell e e' c b f y w j l in
      λ h. (s == t) && (first h && second h)

  pub queued_same : (n n' : NetworkState) → SameState e e' n n' → (s : ℕ) (a b d f : NameId) → N a d → N b f → (ls ks : List Load) → Loads ls ks
      → SameState e e' (with_queue n (s, a, b) ls) (with_queue n' (s, d, f) ks)
  queued_same n n' same s a b d f i j ls ks h = record {
    machines = same.machines;
    queues = each;
    sid = same.sid;
  }
    where
      each : (t : ℕ) (x y z w : NameId) → N x z → N y w → Loads (loads_for (with_loads n.queues (s, a, b) ls) (t, x, y)) (loads_for (with_loads n'.queues (s, d, f) ks) (t, z, w))
      each t x y z w k l =
          subst (λ (us : List Load). Loads us (loads_for (with_loads n'.queues (s, d, f) ks) (t, z, w))) (sym (queue_after n.queues (s, a, b) (t, x, y) ls))
          (subst (λ (vs : List Load). Loads (if triple_eq (s, a, b) (t, x, y) then ls else loads_for n.queues (t, x, y)) vs) (sym (queue_after n'.queues (s, d, f) (t, z, w) ks))
          (loads_choice (triple_eq (s, a, b) (t, x, y)) (triple_eq (s, d, f) (t, z, w)) ls ks (loads_for n.queues (t, x, y)) (loads_for n'.queues (t, z, w))
          (triples_same s t a b d f x y z w i j k l) h (same.queues t x y z w k l)))
