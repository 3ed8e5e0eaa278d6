-- All faults of names have one rule, and so have all of how procedures begin.
use Rattle.std.proofs.Common.{◌≡◌, ◌==◌, ◌&&◌, ◌||◌, ℕ, Bool, true, false, List, [], ◌∷◌, ◌++◌, Option, Some, None, refl, sym, ◌∙◌, subst, arith, inl, inr, ◌⊎◌}
use Rattle.std.specs.Prelude.{Contains, map, nat_lt}
use Rattle.std.specs.List.{flat_map}
use Rattle.std.proofs.lemmas.Bool.Decides.{nat_tests}
use Rattle.chor_base.specs.declared.rule.Place.{Place}
use Rattle.chor_base.specs.declared.rule.Rule.{Rule}
use Rattle.chor_base.specs.declared.rule.Rule.TheVariants.{E2, E3}
use Rattle.chor_base.specs.declared.rule.Refusal.{Refusal}
use Rattle.chor_base.specs.declared.rule.Denied.TheVariants.{Refused}
use Rattle.chor_base.specs.declared.fault.Fault.{Fault}
use Rattle.chor_base.specs.declared.names.NameId.{NameId}
use Rattle.chor_base.specs.Faults.{fault, fault_if, rank, IsDenial}
use Rattle.chor_base.proofs.Members.{nowhere, head_or_tail}
use Rattle.endpoint_reader.specs.declared.input.Named.{Named}
use Rattle.endpoint_reader.specs.declared.node.Action.{Action}
use Rattle.endpoint_reader.specs.declared.node.Action.TheVariants.{Join, Send, Recv, Pick, Give, Gain, Set, Show, Host}
use Rattle.endpoint_reader.specs.declared.lists.Signature.{Signature}
use Rattle.endpoint_reader.specs.declared.written.Channel.{Channel}
use Rattle.endpoint_reader.specs.declared.written.Procedure.{Procedure}
use Rattle.endpoint_reader.specs.declared.written.Service.{Service}
use Rattle.endpoint_reader.specs.declared.written.Process.{Process}
use Rattle.endpoint_reader.specs.declared.written.Written.{Written}
use Rattle.endpoint_names.specs.declared.key.Key.{Key}
use Rattle.endpoint_names.specs.declared.key.Sign.{Sign}
use Rattle.endpoint_names.specs.Keys.{is_known, sign_of_name, sign_of_channel, sign_of_procedure, sign_of_service, sign_of_process}
use Rattle.endpoint_names.specs.Bodies.{Body, Does, Offers, Tests, Calls, Ends, Arms, NoArms, Arm, labels_of, body_at}
use Rattle.endpoint_names.specs.Faults.{Setting, fault_at, repeated, names_in, channel_of, procedure_of, inactive, unserved, unprovided, channel_faults, unbound, bound_again, bound_after, unknown_channel, wrong_call, action_faults, call_faults, body_faults, arms_faults, procedure_faults, service_faults, process_faults, faults_of_channels, faults_of_procedures, faults_of_services, faults_of_processes, name_faults}
use Rattle.endpoint_names.specs.Class.{opening_faults, begin_faults}

-- ---- of one rule there is one first fault

-- whether a place and a digit come before others
abbrev sooner : ℕ → ℕ → ℕ → ℕ → ℕ → Bool
sooner a b c d r = nat_lt a b || ((a == b) && (nat_lt c d || ((c == d) && nat_lt r r)))

same_line : (a b c d r : ℕ) → sooner a b c d r ≡ false → sooner b a d c r ≡ false → a ≡ b
same_line a b c d r p q = grind (arith, nat_tests)

same_col : (a c d r : ℕ) → sooner a a c d r ≡ false → sooner a a d c r ≡ false → c ≡ d
same_col a c d r p q = grind (arith, nat_tests)

module _ (rule : Rule) where
  abbrev Are : List Fault → Type 0
  Are [] = Unit {0}
  Are (x ∷ xs) = (x.rule ≡ rule) × Are xs

  both_are : (xs ys : List Fault) → Are xs → Are ys → Are (xs ++ ys)
  both_are [] ys h k = k
  both_are (x ∷ xs) ys h k = (h.0, both_are xs ys h.1 k)

  each : {X : Type 0} (g : X → List Fault) → ((a : X) → Are (g a)) → (xs : List X) → Are (flat_map g xs)
  each g h [] = tt
  each g h (x ∷ xs) = both_are (g x) (flat_map g xs) (h x) (each g h xs)

  one_if : (b : Bool) (p : Place) → Are (fault_if b rule p)
  one_if true p = (refl, tt)
  one_if false p = tt

  among : (xs : List Fault) (x : Fault) → Are xs → Contains xs x → x.rule ≡ rule
  among [] x h m = absurd (nowhere x m)
  among (y ∷ ys) x h m = go (head_or_tail y ys x m) (among ys x h.1)
    where
      go : (y ≡ x) ⊎ Contains ys x → (Contains ys x → x.rule ≡ rule) → x.rule ≡ rule
      go (inl e) others = subst (λ (z : Fault). z.rule ≡ rule) e h.0
      go (inr n) others = others n

  pub one_denial : (xs : List Fault) → Are xs → (r q : Refusal) → IsDenial (Contains xs) (Refused r) → IsDenial (Contains xs) (Refused q) → r ≡ q
  one_denial xs are r q h k =
      let x : Fault = fault r.rule r.place in
      let y : Fault = fault q.rule q.place in
      let e : r.rule ≡ rule = among xs x are h.0.0 in
      let g : q.rule ≡ rule = among xs y are k.0.0 in
      let same : r.rule ≡ q.rule = e ∙ sym g in
      let before : sooner r.place.line q.place.line r.place.col q.place.col (rank r.rule) ≡ false = subst (λ (z : Rule). (nat_lt r.place.line q.place.line || ((r.place.line == q.place.line) && (nat_lt r.place.col q.place.col || ((r.place.col == q.place.col) && nat_lt (rank r.rule) (rank z))))) ≡ false) (sym same) (k.0.1 x h.0.0) in
      let after : sooner q.place.line r.place.line q.place.col r.place.col (rank r.rule) ≡ false = subst (λ (z : Rule). (nat_lt q.place.line r.place.line || ((q.place.line == r.place.line) && (nat_lt q.place.col r.place.col || ((q.place.col == r.place.col) && nat_lt (rank z) (rank r.rule))))) ≡ false) (sym same) (h.0.1 y k.0.0) in
      let lines : r.place.line ≡ q.place.line = same_line r.place.line q.place.line r.place.col q.place.col (rank r.rule) before after in
      let cols : r.place.col ≡ q.place.col =
      same_col r.place.line r.place.col q.place.col (rank r.rule)
      (subst (λ (n : ℕ). sooner r.place.line n r.place.col q.place.col (rank r.rule) ≡ false) (sym lines) before)
      (subst (λ (n : ℕ). sooner n r.place.line q.place.col r.place.col (rank r.rule) ≡ false) (sym lines) after) in
      let who = h.1 ∙ sym k.1 in λ j. record { rule = same j; place = record { line = lines j; col = cols j }; who = who j }

-- ---- names

abbrev AreE2 : List Fault → Type 0
AreE2 xs = Are E2 xs

at : (b : Bool) (p : Place) → AreE2 (fault_at b p)
at b p = one_if E2 b p

then_are : (xs ys : List Fault) → AreE2 xs → AreE2 ys → AreE2 (xs ++ ys)
then_are xs ys h k = both_are E2 xs ys h k

repeated_are : (known : List Key) (ss : List Sign) → AreE2 (repeated known ss)
repeated_are known [] = tt
repeated_are known (s ∷ ss) = then_are (fault_at (is_known known s.key) s.place) (repeated (known ++ s.key ∷ []) ss) (at (is_known known s.key) s.place) (repeated_are (known ++ s.key ∷ []) ss)

inactive_are : (o : Option Channel) (r : Named) → AreE2 (inactive o r)
inactive_are None r = tt
inactive_are (Some c) r = at _ r.place

unserved_are : (o : Option Channel) (r : Named) → AreE2 (unserved o r)
unserved_are None r = tt
unserved_are (Some c) r = at _ r.place

call_are : (o : Option Procedure) (s : Signature) → AreE2 (wrong_call o s)
call_are None s = at true s.name.place
call_are (Some p) s = at _ s.name.place

channel_are : (w : Written) (c : Channel) → AreE2 (channel_faults w c)
channel_are w c =
    then_are (repeated [] (map sign_of_name (c.roles.active ++ c.roles.serve))) (flat_map (unprovided w c.name.name) c.roles.serve) (repeated_are [] (map sign_of_name (c.roles.active ++ c.roles.serve)))
    (each E2 (unprovided w c.name.name) (λ r. at _ r.place) c.roles.serve)

module _ (s : Setting) where
  action_are : (bs : List NameId) (a : Action) → AreE2 (action_faults s bs a)
  action_are bs (Join c r k) =
      then_are (unknown_channel s.written c ++ inactive (channel_of s.written c.name) r) (bound_again bs k)
      (then_are (unknown_channel s.written c) (inactive (channel_of s.written c.name) r) (at _ c.place) (inactive_are (channel_of s.written c.name) r)) (at _ k.place)
  action_are bs (Send k b e) = at _ k.place
  action_are bs (Recv k a x) = at _ k.place
  action_are bs (Pick k b l) = at _ k.place
  action_are bs (Give k b h) = then_are (unbound bs k) (unbound bs h) (at _ k.place) (at _ h.place)
  action_are bs (Gain k a h) = then_are (unbound bs k) (bound_again bs h) (at _ k.place) (at _ h.place)
  action_are bs (Set x e) = tt
  action_are bs (Show e) = tt
  action_are bs (Host x f a b) = at _ f.place

  calls_are : (bs : List NameId) (c : Signature) → AreE2 (call_faults s bs c)
  calls_are bs c =
      let q = procedure_of s.written c.name.name c.param.name in
      then_are (wrong_call q c ++ flat_map (unbound bs) c.sessions) (repeated [] (map sign_of_name c.sessions))
      (then_are (wrong_call q c) (flat_map (unbound bs) c.sessions) (call_are q c) (each E2 (unbound bs) (λ k. at _ k.place) c.sessions)) (repeated_are [] (map sign_of_name c.sessions))

  mutual
    body_are : (bs : List NameId) (b : Body) → AreE2 (body_faults s bs b)
    body_are bs (Does a rest) = then_are (action_faults s bs a) (body_faults s (bound_after bs a) rest) (action_are bs a) (body_are (bound_after bs a) rest)
    body_are bs (Offers k a arms) =
        then_are (unbound bs k ++ repeated [] (map sign_of_name (labels_of arms))) (arms_faults s bs arms)
        (then_are (unbound bs k) (repeated [] (map sign_of_name (labels_of arms))) (at _ k.place) (repeated_are [] (map sign_of_name (labels_of arms)))) (arms_are bs arms)
    body_are bs (Tests e first second) = then_are (body_faults s bs first) (body_faults s bs second) (body_are bs first) (body_are bs second)
    body_are bs (Calls p c) = calls_are bs c
    body_are bs Ends = tt

    arms_are : (bs : List NameId) (arms : Arms) → AreE2 (arms_faults s bs arms)
    arms_are bs NoArms = tt
    arms_are bs (Arm l b others) = then_are (body_faults s bs b) (arms_faults s bs others) (body_are bs b) (arms_are bs others)

  procedure_are : (p : Procedure) → AreE2 (procedure_faults s p)
  procedure_are p = let ns = names_in p.signature.sessions in let b = body_at s.written.lines.items p.body in then_are (repeated [] (map sign_of_name p.signature.sessions)) (body_faults s ns b) (repeated_are [] (map sign_of_name p.signature.sessions)) (body_are ns b)

  service_are : (v : Service) → AreE2 (service_faults s v)
  service_are v =
      let b = body_at s.written.lines.items v.body in
      let c = channel_of s.written v.channel.name in
      then_are (unknown_channel s.written v.channel ++ unserved c v.role) (body_faults s (v.channel.name ∷ []) b)
      (then_are (unknown_channel s.written v.channel) (unserved c v.role) (at _ v.channel.place) (unserved_are c v.role)) (body_are (v.channel.name ∷ []) b)

  process_are : (p : Process) → AreE2 (process_faults s p)
  process_are p = body_are [] (body_at s.written.lines.items p.body)

  declared_are : {X : Type 0} (sign : X → Sign) (of : X → List Fault) → ((x : X) → AreE2 (of x)) → (xs : List X) → AreE2 (repeated [] (map sign xs) ++ flat_map of xs)
  declared_are sign of h xs = then_are (repeated [] (map sign xs)) (flat_map of xs) (repeated_are [] (map sign xs)) (each E2 of h xs)

  pub names_are : AreE2 (name_faults s)
  names_are =
      then_are (faults_of_channels s.written ++ faults_of_procedures s ++ faults_of_services s) (faults_of_processes s)
      (then_are (faults_of_channels s.written ++ faults_of_procedures s) (faults_of_services s)
      (then_are (faults_of_channels s.written) (faults_of_procedures s) (declared_are sign_of_channel (channel_faults s.written) (channel_are s.written) s.written.channels)
      (declared_are sign_of_procedure (procedure_faults s) procedure_are s.written.procedures)) (declared_are sign_of_service (service_faults s) service_are s.written.services))
      (declared_are sign_of_process (process_faults s) process_are s.written.processes)

-- ---- how procedures begin

opening_are : (b : Body) → Are E3 (opening_faults b)
opening_are (Does a rest) = tt
opening_are (Offers k a arms) = tt
opening_are (Tests e first second) = tt
opening_are (Calls p c) = (refl, tt)
opening_are Ends = tt

pub begins_are : (w : Written) → Are E3 (begin_faults w)
begins_are w = each E3 (λ p. opening_faults (body_at w.lines.items p.body)) (λ p. opening_are (body_at w.lines.items p.body)) w.procedures
