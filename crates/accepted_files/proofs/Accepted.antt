-- The projection of a checked file meets all that is asked of a projection.
use Rattle.std.proofs.Common.{◌≡◌, ◌≤◌, ◌<◌, ℕ, suc, List, [], ◌∷◌, ◌++◌, map, length, refl, sym, ap, ◌∙◌, subst, Some, Option, true, arith}
use Rattle.std.specs.Prelude.{Contains}
use Rattle.std.specs.List.{AllByRecursion}
use Rattle.chor_base.specs.declared.names.NameId.{NameId}
use Rattle.chor_base.specs.Meaning.{Hosts}
use Rattle.chor_tree.specs.declared.file.File.{File}
use Rattle.chor_tree.specs.declared.file.Proc.{Proc}
use Rattle.chor_tree.specs.declared.file.ProcParam.{ProcParam}
use Rattle.chor_semantics.specs.Choreography.{Named}
use Rattle.chor_semantics.specs.Sources.{procedures_of}
use Rattle.endpoint_code.specs.declared.endpoints.Channel.{Channel}
use Rattle.endpoint_code.specs.declared.endpoints.Endpoints.{Endpoints}
use Rattle.endpoint_code.specs.Network.{has_room, channel_of}
use Rattle.well_formed.specs.WellFormed.{declared_scope, IsWellFormed, AllFit}
use Rattle.well_formed.specs.Guarded.{IsGuardedFor}
use Rattle.well_formed.specs.Asked.{IsAnswered}
use Rattle.well_formed.specs.Linear.{ParameterSets}
use Rattle.linearity.specs.OrderFaults.{main_of, IsLinearFile}
use Rattle.linearity.proofs.Judged.{none_is_linear}
use Rattle.accepted_files.proofs.Exist.{greatest_there}
use Rattle.typed_sources.specs.Laws.{IsAccepted}
use Rattle.typed_sources.proofs.Resolved.{found_in}
use Rattle.correspondence.specs.Premises.{IsUnhindered}
use Rattle.projection.specs.Codes.{proc_named}
use Rattle.projection.specs.Projects.{Projects, parameters_of, body_at}
use Rattle.accepted_files.specs.Premises.{EachGuarded, ProceduresChecked, MainChecked, IsProjectionOf}
use Rattle.typed_sources.specs.Lists.{lists_of}
use Rattle.typed_sources.proofs.Places.{lists_fit}
use Rattle.typed_sources.proofs.Declared.{main_held, bodies_held}
use Rattle.typed_sources.proofs.Channels.{channels_from}
use Rattle.typed_sources.proofs.WellFormedFiles.{active_there, roles_apart, processes_apart, main_fits, all_fit}
use Rattle.typed_sources.proofs.Guards.{all_guarded}
use Rattle.accepted_files.proofs.Parts.{proc_same}
use Rattle.accepted_files.proofs.Begins.{holds_its_roles}
use Rattle.accepted_files.specs.Accepted.{IsChecked}
use Rattle.accepted_files.proofs.Wanted.{is_started, main_wanted, body_wanted}
use Rattle.accepted_files.proofs.Apart.{main_apart, procedure_apart}
use Rattle.accepted_files.proofs.Sets.{sets_of, channels_linear}

-- what holds of each parameter of each procedure
each_param : (P : Proc × ProcParam → Type 0) (hs : List Proc) → ((h : Proc) → Contains hs h → (q : ProcParam) → Contains h.params q → P (h, q)) → AllByRecursion P (parameters_of hs)
each_param P [] all = tt
each_param P (h ∷ hs) all = along h.params (λ q m. all h (0, omega arith, refl) q m) (each_param P hs (λ x m. all x (suc m.0, (let l : m.0 < length hs = m.1 in omega (arith, l)), m.2)))
  where
    along : (qs : List ProcParam) → ((q : ProcParam) → Contains qs q → P (h, q)) → AllByRecursion P (parameters_of hs) → AllByRecursion P (map (λ p. (h, p)) qs ++ parameters_of hs)
    along [] one rest = rest
    along (q ∷ qs) one rest = (one q (0, omega arith, refl), along qs (λ x m. one x (suc m.0, (let l : m.0 < length qs = m.1 in omega (arith, l)), m.2)) rest)

module _ (f : File) (words : List (List ℕ)) (checked : IsChecked f words) (e : Endpoints) (pr : Projects f e) where
  ok : IsAccepted f words
  ok = checked.accepted

  linear_file : IsLinearFile f
  linear_file = none_is_linear f (λ s m. greatest_there (procedures_of f) (main_of f) s.name.name) checked.ordered

  -- the sets of each channel
  pub sets : NameId → ParameterSets
  sets = sets_of f linear_file (is_started f)

  -- a channel of the endpoints
  channel_here : (a : NameId) (k : Channel) → channel_of e.channels a ≡ Some k → channel_of (channels_from (is_started f) f) a ≡ Some k
  channel_here a k h = ap (λ ks. channel_of ks a) (sym pr.channels) ∙ h

  each_guarded : EachGuarded f
  each_guarded = each_param (λ z. IsGuardedFor (Named z.1.name.name.0 0) (body_at f z.0.body)) f.procs (λ p m q i. all_guarded f words ok checked.guarded p m q i)

  proc_there : (h : NameId) (x : Proc) → proc_named f.procs h ≡ Some x → Contains f.procs x
  proc_there h x i = found_in (λ z. z.name) f.procs h x (sym (proc_same f.procs h) ∙ i)

  procedures_checked : ProceduresChecked e f sets (lists_of f)
  unfolding sets
  procedures_checked = record {
    fit = subst (λ ks. AllFit ks (procedures_of f)) (sym pr.channels) (all_fit f words ok (is_started f) (body_wanted f));
    guarded = each_guarded;
    linear = λ a k h two. (channels_linear f linear_file (is_started f) a k (channel_here a k h) (more two)).0;
    roles = λ a k h. (roles_apart f words ok (is_started f) a k (channel_here a k h)).0;
    serve_roles = λ a k h. (roles_apart f words ok (is_started f) a k (channel_here a k h)).1;
    other_names = λ a k h g x i. procedure_apart f words ok (is_started f) a k (channel_here a k h) x (proc_there g x i);
    lists_fit = lists_fit f;
    holders_fit = bodies_held f words ok;
  }
    where
      more : {n : ℕ} → 2 ≤ n → 1 < n
      more l = omega (arith, l)

  main_checked : MainChecked e f sets (lists_of f)
  unfolding sets
  main_checked = record {
    fit = subst (λ ks. IsWellFormed ks (procedures_of f) (declared_scope (map (λ p. p.name) f.processes) []) (body_at f f.body)) (sym pr.channels) (main_fits f words ok (is_started f) (main_wanted f));
    apart = processes_apart f words ok;
    linear = λ a k h two. (channels_linear f linear_file (is_started f) a k (channel_here a k h) (more two)).1;
    holders_fit = main_held f words ok;
    other_names = λ a k h. main_apart f words ok (is_started f) a k (channel_here a k h);
  }
    where
      more : {n : ℕ} → 2 ≤ n → 1 < n
      more l = omega (arith, l)

  -- It meets all that is asked of a projection
  pub is_projection : IsProjectionOf e f sets (lists_of f)
  is_projection = record { projects = pr; roles = holds_its_roles f words ok; procedures = procedures_checked; main = main_checked }

  -- each channel has an active role
  pub has_active : (a : NameId) (k : Channel) → channel_of e.channels a ≡ Some k → 1 ≤ length k.active
  has_active a k h = some (active_there f words ok (is_started f) a k (channel_here a k h))
    where
      some : {n : ℕ} → 0 < n → 1 ≤ n
      some l = omega (arith, l)

  -- and nobody waits in vain, where host functions answer
  pub is_unhindered : (hosts : Hosts) → IsAnswered f hosts → (cap : Option ℕ) → has_room cap [] ≡ true → IsUnhindered e f hosts cap
  is_unhindered hosts answered cap room = record {
    room = room;
    active = has_active;
    answered = answered;
  }
