-- The endpoint programs of a source have numbers of 64 bits, and few processes.
use Rattle.std.proofs.Common.{◌≡◌, ◌≤◌, ◌<◌, ◌+◌, ◌*◌, ◌^◌, ℕ, ℤ, pos, List, [], ◌∷◌, length, max, mul-le-mul_left, sym, subst, arith}
use Rattle.std.specs.Prelude.{All}
use Rattle.std.specs.List.{AllByRecursion}
use Rattle.std.proofs.lemmas.List.Elements.{All-nil, All-cons}
use Rattle.chor_base.specs.declared.event.Event.{Event}
use Rattle.chor_base.specs.declared.value.Value.TheVariants.{Int, Bool as Truth, Text, Part}
use Rattle.chor_base.specs.Expr.{Term, Constant, Variable, Unary, Binary}
use Rattle.endpoint_code.specs.declared.endpoints.Channel.{Channel}
use Rattle.endpoint_code.specs.declared.endpoints.Endpoints.{Endpoints}
use Rattle.endpoint_code.specs.Trees.{Action, Joins, Sends, Receives, Selects, Gives, Gains, Sets, Shows, Asks, CodeTree, Does, Offers, Tests, Calls, Ends, Arms, NoArms, Arm, code_at}
use Rattle.event_reader.specs.Known.{IsInt}
use Rattle.endpoint_laws.specs.Spelled.{IsWritable, IsActionSpelled, IsCodeSpelled, AreArmsSpelled, IsProcedureSpelled, IsServiceSpelled, IsProcessSpelled}
use Rattle.endpoint_laws.specs.Limits.{IsChannelWithin}
use Rattle.endpoint_laws.specs.PrintedLaws.{AreWritable}
use Rattle.projected_programs.specs.Sizes.{IsTermSized, IsActionSized, IsCodeSized, AreArmsSized, AreLiteralsSized}
use Rattle.projected_programs.specs.Told.{most_served, IsShort}

-- ---- literals

module _ (e : Endpoints) where
  term_sized : (t : Term) → IsWritable e t → IsTermSized t
  term_sized (Constant (Int z)) h = subst IsInt (sym h.1) h.2
  term_sized (Constant (Truth b)) h = tt
  term_sized (Constant (Text t)) h = tt
  term_sized (Constant (Part s r)) h = absurd h
  term_sized (Variable x) h = tt
  term_sized (Unary op t) h = term_sized t h
  term_sized (Binary op t u) h = (term_sized t h.0, term_sized u h.1)

  action_sized : (a : Action) → IsActionSpelled e a → IsActionSized a
  action_sized (Joins c r k) h = tt
  action_sized (Sends k b t) h = term_sized t h.2
  action_sized (Receives k a x) h = tt
  action_sized (Selects k b l) h = tt
  action_sized (Gives k b x) h = tt
  action_sized (Gains k a x) h = tt
  action_sized (Sets x t) h = term_sized t h.1
  action_sized (Shows t) h = term_sized t h
  action_sized (Asks x f a b) h = (term_sized a h.2, term_sized b h.3)

  mutual
    code_sized : (c : CodeTree) → IsCodeSpelled e c → IsCodeSized c
    code_sized (Does a rest) h = (action_sized a h.0, code_sized rest h.1)
    code_sized (Offers k a arms) h = arms_sized arms h.2
    code_sized (Tests t first second) h = (term_sized t h.0, code_sized first h.1, code_sized second h.2)
    code_sized (Calls f p ss) h = tt
    code_sized Ends h = tt

    arms_sized : (arms : Arms) → AreArmsSpelled e arms → AreArmsSized arms
    arms_sized NoArms h = tt
    arms_sized (Arm l c rest) h = (code_sized c h.1, arms_sized rest h.2)

each : {X : Type 0} (P Q : X → Type 0) → ((x : X) → P x → Q x) → (xs : List X) → AllByRecursion P xs → All Q xs
each P Q f [] h = All-nil Q
each P Q f (x ∷ xs) h = All-cons Q x xs (f x h.0) (each P Q f xs h.1)

pub literals_sized : (e : Endpoints) → AreWritable e → AreLiteralsSized e
literals_sized e w = record {
  procedures = each (IsProcedureSpelled e) (λ p. IsCodeSized (code_at e.code.nodes p.body)) (λ p h. code_sized e (code_at e.code.nodes p.body) h.3) e.procedures w.spelled.procedures;
  services = each (IsServiceSpelled e) (λ s. IsCodeSized (code_at e.code.nodes s.body)) (λ s h. code_sized e (code_at e.code.nodes s.body) h.2) e.services w.spelled.services;
  processes = each (IsProcessSpelled e) (λ p. IsCodeSized (code_at e.code.nodes p.body)) (λ p h. code_sized e (code_at e.code.nodes p.body) h.1) e.processes w.spelled.processes;
}

-- ---- few events

serves_few : (cs : List Channel) → AllByRecursion IsChannelWithin cs → most_served cs ≤ 16
serves_few [] h = omega arith
serves_few (c ∷ cs) h =
    let here = h.0.1 in
    let rest = serves_few cs h.1 in
    omega (arith, here, rest)

times_few : (n m : ℕ) → m ≤ 16 → n * m ≤ n * 16
times_few n m h = mul-le-mul_left n h

pub is_short : (e : Endpoints) (h : List Event) → AreWritable e → length h < 2 ^ 27 → IsShort e h
is_short e h w few =
    let served = times_few (length h) (most_served e.channels) (serves_few e.channels w.within.channels) in
    let processes = w.within.few in
    (omega (arith, served, processes, few), omega (arith, few))
