-- The units that tokens derive keep the limits of endpoint files.
use Rattle.std.proofs.Common.{◌<◌, ◌≤◌, ◌+◌, ◌-◌, ℕ, List, [], ◌∷◌, length, Some, inl, inr, arith}
use Rattle.std.specs.List.{AllByRecursion}
use Rattle.chor_lexer.specs.Lexeme.{Lexeme}
use Rattle.grammar.specs.Grammars.{nowhere, Derives}
use Rattle.endpoint_grammar.specs.Written.{Phrase, Deed, Sends, Sets, Shows, Asks, Body, Does, Offers, Tests, Calls, Ends, Arms, NoArms, Arm, Roles, Channel, Procedure, Units}
use Rattle.endpoint_grammar.specs.Grammar.{Nonterminal, units, lines, roles, served, operand, parens, Part, node, tail, arm, expr, sessions, lines_of, roles_of, served_of, units_of, endpoints, rule_of}
use Rattle.endpoint_grammar.specs.Values.{Meaning, Derived, phrase, deed, session_list, arms_of, last_node, body_of, role_list, role_lists, units_from, make, rules, written_units}
use Rattle.written_programs.proofs.Counts.{EachCounts, EachFits, Counts, used}
use Rattle.written_programs.proofs.Phrases.{tokens_in, size, size_least, IsPhrase, leaf_counts, phrase_counts}

-- ---- what the limits say of what is written

abbrev pub IsShortPhrase : Phrase → Type 0
IsShortPhrase e = tokens_in e ≤ 255

abbrev pub IsShortDeed : Deed → Type 0
IsShortDeed (Sends k b e) = IsShortPhrase e
IsShortDeed (Sets x e) = IsShortPhrase e
IsShortDeed (Shows e) = IsShortPhrase e
IsShortDeed (Asks x f a b) = IsShortPhrase a × IsShortPhrase b
IsShortDeed _ = Unit {0}

abbrev pub SomeArm : Arms → Type 0
SomeArm NoArms = ⊥
SomeArm (Arm l b rest) = Unit {0}

abbrev mutual
  pub BodyFits : ℕ → Body → Type 0
  BodyFits p (Does d rest) = (0 < p) × IsShortDeed d × BodyFits (p - 1) rest
  BodyFits p (Offers k a arms) = (0 < p) × SomeArm arms × ArmsFit (p - 1) arms
  BodyFits p (Tests e first second) = (0 < p) × IsShortPhrase e × BodyFits (p - 1) first × BodyFits (p - 1) second
  BodyFits p (Calls c f x ss) = (0 < p) × (length ss ≤ 8)
  BodyFits p Ends = 0 < p

  pub ArmsFit : ℕ → Arms → Type 0
  ArmsFit p NoArms = Unit {0}
  ArmsFit p (Arm l b rest) = BodyFits p b × ArmsFit p rest

abbrev pub RolesFit : ℕ → Roles → Type 0
RolesFit n r = (0 < length r.active) × (length r.active + length r.serve ≤ n)

abbrev pub ChannelFits : Channel → Type 0
ChannelFits c = RolesFit 16 c.roles

abbrev pub ProcedureFits : Procedure → Type 0
ProcedureFits p = (length p.sessions ≤ 8) × BodyFits 1024 p.body

pub record UnitsFit (q : ℕ) (u : Units) : Type 0 where
  pub channels : AllByRecursion ChannelFits u.channels
  pub procedures : AllByRecursion ProcedureFits u.procedures
  pub services : AllByRecursion (λ s. BodyFits 1024 s.body) u.services
  pub processes : AllByRecursion (λ p. BodyFits 1024 p.body) u.processes
  pub few : length u.processes ≤ q

-- ---- what tokens derive

abbrev Fits : (n : Nonterminal) → Meaning n → ℕ → Type 0
Fits (units q) u k = UnitsFit q u
Fits (lines p) b k = BodyFits p b
Fits (roles n) r k = RolesFit n r
Fits (served n) ls k = length ls ≤ n
Fits operand e k = IsPhrase 6 e k
Fits parens e k = size 1 e < k

abbrev Has : (g : Part) → Derived g → ℕ → Type 0
Has g v k = Counts rules Fits g v k

a_phrase : (v : Derived expr) (k : ℕ) → Has expr v k → IsShortPhrase (phrase v)
a_phrase v k h = omega (arith, h.0, phrase_counts Fits (λ e k h. h) (λ e k h. h) v k h.1, size_least 1 (phrase v))

more_few : (n : ℕ) (xs : List Lexeme) (k : ℕ) → EachFits (λ x k. 1 ≤ k) (Some n) xs k → length xs ≤ n
more_few n [] k h = omega arith
more_few n (x ∷ xs) k h = let room : 0 < n = h.3 h.4 in let rest = more_few (n - 1) xs h.1 h.5 in omega (arith, room, rest)

sessions_few : (v : Derived sessions) (k : ℕ) → Has sessions v k → length (session_list v) ≤ 8
sessions_few (inl (x, xs)) k h = let rest = more_few 7 xs h.1 h.4 in omega (arith, rest)
sessions_few (inr v) k h = omega arith

deed_short : (v : Derived node) (k : ℕ) → Has node v k → IsShortDeed (deed v)
deed_short (inl (w, ((c, (m, (r, l))), (o, (s, p))))) k h = tt
deed_short (inr (inl (w, ((l, b), e)))) k h = a_phrase e h.4.1 h.4.4
deed_short (inr (inr (inl (w, (l, (a, x)))))) k h = tt
deed_short (inr (inr (inr (inl (w, (l, (b, m))))))) k h = tt
deed_short (inr (inr (inr (inr (inl (w, (l, (b, g)))))))) k h = tt
deed_short (inr (inr (inr (inr (inr (inl (w, (l, (a, g))))))))) k h = tt
deed_short (inr (inr (inr (inr (inr (inr (inl (w, (x, e))))))))) k h = a_phrase e h.4.1 h.4.4
deed_short (inr (inr (inr (inr (inr (inr (inr (inl (w, e))))))))) k h = a_phrase e h.1 h.4
deed_short (inr (inr (inr (inr (inr (inr (inr (inr (w, ((x, f), (o, (a, (m, (b, p)))))))))))))) k h =
    (a_phrase a h.4.4.4.0 h.4.4.4.3, a_phrase b h.4.4.4.4.4.0 h.4.4.4.4.4.3)

node_some : (v : Derived node) (k : ℕ) → Has node v k → 0 < k
node_some (inl v) k h = omega (arith, h.2, h.3)
node_some (inr (inl v)) k h = omega (arith, h.2, h.3)
node_some (inr (inr (inl v))) k h = omega (arith, h.2, h.3)
node_some (inr (inr (inr (inl v)))) k h = omega (arith, h.2, h.3)
node_some (inr (inr (inr (inr (inl v))))) k h = omega (arith, h.2, h.3)
node_some (inr (inr (inr (inr (inr (inl v)))))) k h = omega (arith, h.2, h.3)
node_some (inr (inr (inr (inr (inr (inr (inl v))))))) k h = omega (arith, h.2, h.3)
node_some (inr (inr (inr (inr (inr (inr (inr (inl v)))))))) k h = omega (arith, h.2, h.3)
node_some (inr (inr (inr (inr (inr (inr (inr (inr v)))))))) k h = omega (arith, h.2, h.3)

arms_fit : (p : ℕ) (xs : List (Derived (arm p))) (k : ℕ) → EachCounts (Has (arm p)) xs k → ArmsFit p (arms_of xs)
arms_fit p [] k h = tt
arms_fit p (x ∷ xs) k h = (h.3.4.3.2, arms_fit p xs h.1 h.4)

tail_fits : (p : ℕ) (v : Derived (tail (p - 1))) (k : ℕ) → (0 < k → 0 < p) → Has (tail (p - 1)) v k → BodyFits p (last_node (p - 1) v)
tail_fits p (inl (w, ((l, a), (o, (x, (xs, c)))))) k room h = (room (omega (arith, h.2, h.3)), tt, (h.4.4.4.3.4.3.2, arms_fit (p - 1) xs h.4.4.4.4.0 h.4.4.4.4.3))
tail_fits p (inr (inl (w, (e, ((x, m), (v, (y, n))))))) k room h = (room (omega (arith, h.2, h.3)), a_phrase e h.4.0 h.4.3, h.4.4.3.3.2, h.4.4.4.4.3.2)
tail_fits p (inr (inr (inl (w, ((f, x), (o, (ss, c))))))) k room h = (room (omega (arith, h.2, h.3)), sessions_few ss h.4.4.4.0 h.4.4.4.3)
tail_fits p (inr (inr (inr w))) k room h = room h

body_fits : (p : ℕ) (v : Derived (lines_of p)) (k : ℕ) → Has (lines_of p) v k → BodyFits p (body_of p v)
body_fits p (inl (n, rest)) k h = (h.3.0 (node_some n h.0 h.3.1), deed_short n h.0 h.3.1, h.4.2)
body_fits p (inr t) k h = tail_fits p t k h.0 h.1

served_fit : (n : ℕ) (v : Derived (served_of n)) (k : ℕ) → Has (served_of n) v k → length (role_list n v) ≤ n
served_fit n (x, inl xs) k h = omega (arith, h.3.0 h.3.1, h.4.2)
served_fit n (x, inr v) k h = omega (arith, h.3.0 h.3.1)

roles_fit : (n : ℕ) (v : Derived (roles_of n)) (k : ℕ) → Has (roles_of n) v k → RolesFit n (role_lists n v)
roles_fit n (x, inl rs) k h = let room : 0 < n = h.3.0 h.3.1 in (omega arith, omega (arith, room, h.4.2.1))
roles_fit n (x, inr (inl ys)) k h = let room : 0 < n = h.3.0 h.3.1 in (omega arith, omega (arith, room, h.4.2))
roles_fit n (x, inr (inr v)) k h = let room : 0 < n = h.3.0 h.3.1 in (omega arith, omega (arith, room))

units_fit : (q : ℕ) (v : Derived (units_of q)) (k : ℕ) → Has (units_of q) v k → UnitsFit q (units_from q v)
units_fit q (inl (w, (n, (rs, us)))) k h =
    let rest : UnitsFit q us = h.4.4.4.2 in
    record { channels = (h.4.4.3.2, rest.channels); procedures = rest.procedures; services = rest.services; processes = rest.processes; few = rest.few }
units_fit q (inr (inl (w, (((f, x), (o, (ss, c))), (b, us))))) k h =
    let rest : UnitsFit q us = h.4.4.4.2 in
    record { channels = rest.channels; procedures = ((sessions_few ss h.4.3.4.4.0 h.4.3.4.4.3, h.4.4.3.2), rest.procedures); services = rest.services; processes = rest.processes; few = rest.few }
units_fit q (inr (inr (inl (w, ((c, (o, (r, l))), (b, us)))))) k h =
    let rest : UnitsFit q us = h.4.4.4.2 in
    record { channels = rest.channels; procedures = rest.procedures; services = (h.4.4.3.2, rest.services); processes = rest.processes; few = rest.few }
units_fit q (inr (inr (inr (inl (w, (n, (b, us))))))) k h =
    let rest : UnitsFit (q - 1) us = h.4.4.4.2 in
    let room : 0 < q = h.4.3.0 h.4.3.1 in
    record { channels = rest.channels; procedures = rest.procedures; services = rest.services; processes = (h.4.4.3.2, rest.processes); few = (let few = rest.few in omega (arith, room, few)) }
units_fit q (inr (inr (inr (inr l)))) k h = record { channels = tt; procedures = tt; services = tt; processes = tt; few = omega arith }

made : (n : Nonterminal) (v : Derived (rule_of n)) (k : ℕ) → Has (rule_of n) v k → Fits n (make n v) k
made (units q) v k h = units_fit q v k h
made (lines p) v k h = body_fits p v k h
made (roles n) v k h = roles_fit n v k h
made (served n) v k h = served_fit n v k h
made operand v k h = leaf_counts Fits (λ e k h. h) (λ e k h. h) v k h
made parens v k h = omega (arith, h.2, h.4, phrase_counts Fits (λ e k h. h) (λ e k h. h) v.0 h.0 h.3)

-- the units of a file keep its limits
pub file_fits : {ts : List Lexeme} {v : Derived endpoints} → Derives rules nowhere endpoints ts v [] → UnitsFit 64 (written_units v)
file_fits d = let u = used rules Fits made d in u.counts.4.4.2
