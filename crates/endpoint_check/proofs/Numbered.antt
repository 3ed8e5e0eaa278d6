-- What was read with its names and texts in the tables has their numbers in them.
use Rattle.std.proofs.Common.{◌≡◌, ◌&&◌, Bool, ℕ, true, List, length, map, refl}
use Rattle.std.specs.Prelude.{All}
use Rattle.std.specs.List.{list_all}
use Rattle.std.proofs.lemmas.Bool.{and_from, lt-ltb}
use Rattle.std.proofs.lemmas.List.Elements.{All-map, All-weaker}
use Rattle.std.proofs.lemmas.List.Sums.{list_all-from_AllPass}
use Rattle.chor_base.specs.declared.names.NameId.{NameId}
use Rattle.chor_base.specs.declared.value.Value.TheVariants.{Int, Bool as Truth, Text, Part}
use Rattle.chor_base.specs.Expr.{Term, Constant, Variable, Unary, Binary, term_of}
use Rattle.endpoint_reader.specs.declared.input.Input.{Input}
use Rattle.endpoint_reader.specs.declared.input.Named.{Named}
use Rattle.endpoint_reader.specs.declared.node.Action.{Action}
use Rattle.endpoint_reader.specs.declared.node.Action.TheVariants as action
use Rattle.endpoint_reader.specs.declared.lists.Signature.{Signature}
use Rattle.endpoint_reader.specs.declared.lines.Arm.{Arm}
use Rattle.endpoint_reader.specs.declared.lines.Line.{Line}
use Rattle.endpoint_reader.specs.declared.lines.Line.TheVariants as line
use Rattle.endpoint_reader.specs.declared.written.Channel.{Channel}
use Rattle.endpoint_reader.specs.declared.written.Written.{Written}
use Rattle.endpoint_reader.specs.Known.{IsThere, AreThere, AreRolesThere, IsSignatureThere, AreLabelsThere, IsTermThere, IsActionThere, IsLineThere, IsWrittenThere}
use Rattle.endpoint_code.specs.Kept.{has_name, has_text, term_there, channel_there, procedure_there, service_there}
use Rattle.endpoint_names.specs.Faults.{names_in}
use Rattle.endpoint_making.specs.Codes.{pairs_of, code_id, action_there, line_there}
use Rattle.endpoint_making.specs.Making.{channel_made, procedure_made, service_made, AreNumbered}

-- where each item is one of these, each that is made of it passes
all_pass : {X Y : Type 0} (P : X → Type 0) (test : Y → Bool) (f : X → Y) → ((x : X) → P x → test (f x) ≡ true) → (xs : List X) → All P xs → list_all test (map f xs) ≡ true
all_pass P test f passes xs h =
    list_all-from_AllPass test (map f xs) (All-map (λ y. test y ≡ true) f xs (All-weaker P (λ x. test (f x) ≡ true) passes xs h))

module _ (i : Input) where
  abbrev n : NameId → Bool
  n = has_name i.names.now

  abbrev t : ℕ → Bool
  t = has_text i.texts.now

  one : (x : Named) → IsThere i x → n x.name ≡ true
  one x h = lt-ltb x.name.0 (length i.names.now) h

  two : (x y : Named) → IsThere i x → IsThere i y → (n x.name && n y.name) ≡ true
  two x y h k = and_from (n x.name) (n y.name) (one x h) (one y k)

  three : (x y z : Named) → IsThere i x × IsThere i y × IsThere i z → (n x.name && n y.name && n z.name) ≡ true
  three x y z h = and_from _ _ (two x y h.0 h.1) (one z h.2)

  each : (xs : List Named) → AreThere i xs → list_all n (names_in xs) ≡ true
  each xs h = all_pass (IsThere i) n (λ x. x.name) one xs h

  -- ---- bodies

  term : (e : Term) → IsTermThere i e → term_there n t e ≡ true
  term (Constant (Int z)) h = refl
  term (Constant (Truth b)) h = refl
  term (Constant (Text x)) h = lt-ltb x (length i.texts.now) h
  term (Constant (Part s r)) h = absurd h
  term (Variable x) h = lt-ltb x.0 (length i.names.now) h.0
  term (Unary op e) h = term e h
  term (Binary op e f) h = and_from _ _ (term e h.0) (term f h.1)

  deed : (a : Action) → IsActionThere i a → action_there n t a ≡ true
  deed (action.Join c r k) h = three c r k h
  deed (action.Send k b e) h = and_from _ _ (two k b h.0 h.1) (term (term_of e) h.2)
  deed (action.Recv k a x) h = three k a x h
  deed (action.Pick k b l) h = three k b l h
  deed (action.Give k b x) h = three k b x h
  deed (action.Gain k a x) h = three k a x h
  deed (action.Set x e) h = and_from _ _ (one x h.0) (term (term_of e) h.1)
  deed (action.Show e) h = term (term_of e) h
  deed (action.Host x f a b) h = and_from _ _ (and_from _ _ (two x f h.0 h.1) (term (term_of a) h.2)) (term (term_of b) h.3)

  labels : (arms : List Arm) → AreLabelsThere i arms → list_all (λ arm. n arm.0) (pairs_of arms) ≡ true
  labels arms h = all_pass (λ arm. IsThere i arm.label) (λ arm. n arm.0) (λ arm. (arm.label.name, code_id arm.body)) (λ arm k. one arm.label k) arms h

  head : (s : Signature) → IsSignatureThere i s → (n s.name.name && n s.param.name && list_all n (names_in s.sessions)) ≡ true
  head s h = and_from _ _ (two s.name s.param h.0 h.1) (each s.sessions h.2)

  of_line : (l : Line) → IsLineThere i l → line_there n t l ≡ true
  of_line (line.Act a next) h = deed a h
  of_line (line.Branch k a arms) h = and_from _ _ (two k a h.0 h.1) (labels arms h.2)
  of_line (line.If e first second) h = term (term_of e) h
  of_line (line.Call p s) h = head s h
  of_line line.End h = refl

  -- ---- units

  of_channel : (c : Channel) → IsThere i c.name × AreRolesThere i c.roles → channel_there n (channel_made c) ≡ true
  of_channel c h = and_from _ _ (and_from _ _ (one c.name h.0) (each c.roles.active h.1.0)) (each c.roles.serve h.1.1)

  pub numbered : (w : Written) → IsWrittenThere i w → AreNumbered i.names.now i.texts.now w
  numbered w h = record {
    channels = All-weaker (λ c. IsThere i c.name × AreRolesThere i c.roles) (λ c. channel_there n (channel_made c) ≡ true) of_channel w.channels h.channels;
    procedures = All-weaker (λ p. IsSignatureThere i p.signature) (λ p. procedure_there n (procedure_made p) ≡ true) (λ p k. head p.signature k) w.procedures h.procedures;
    services = All-weaker (λ s. IsThere i s.channel × IsThere i s.role) (λ s. service_there n (service_made s) ≡ true) (λ s k. two s.channel s.role k.0 k.1) w.services h.services;
    processes = All-weaker (λ p. IsThere i p.name) (λ p. n p.name.name ≡ true) (λ p k. one p.name k) w.processes h.processes;
    lines = All-weaker (IsLineThere i) (λ l. line_there n t l ≡ true) of_line w.lines.items h.lines;
  }
