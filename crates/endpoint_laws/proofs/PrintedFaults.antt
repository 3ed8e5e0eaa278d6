-- Bodies that say code without a fault have none.
use Rattle.std.proofs.Common.{◌≡◌, ◌==◌, ◌&&◌, ◌||◌, ◌<◌, ℕ, zero, suc, Bool, true, false, List, [], ◌∷◌, length, map, Some, refl, sym, ◌∙◌, subst, arith}
use Rattle.std.specs.Prelude.{slice_index_or, if◌then◌else◌}
use Rattle.std.specs.List.{AllZip}
use Rattle.std.proofs.lemmas.Option.{slice_get_within}
use Rattle.chor_base.specs.declared.names.NameId.{NameId}
use Rattle.chor_base.specs.Words.{AllDistinct}
use Rattle.chor_base.specs.Writing.{name_in}
use Rattle.chor_lexer.specs.Lexeme.{Symbol, word, IsLexeme, is_word, is_number, is_text, is_mark}
use Rattle.chor_lexer.proofs.Spelling.{name_of}
use Rattle.endpoint_reader.specs.declared.input.Input.{Input}
use Rattle.endpoint_reader.specs.declared.input.Named.{Named}
use Rattle.endpoint_reader.specs.declared.written.Channel.{Channel}
use Rattle.endpoint_reader.specs.declared.written.Procedure.{Procedure}
use Rattle.endpoint_reader.specs.declared.written.Service.{Service}
use Rattle.endpoint_reader.specs.declared.written.Process.{Process}
use Rattle.endpoint_reader.specs.declared.written.Written.{Written}
use Rattle.endpoint_reader.specs.Tokens.{named, all_named}
use Rattle.endpoint_code.specs.declared.endpoints.Channel.{Channel as CodeChannel}
use Rattle.endpoint_code.specs.declared.endpoints.Procedure.{Procedure as CodeProcedure}
use Rattle.endpoint_code.specs.declared.endpoints.ServiceCode.{ServiceCode}
use Rattle.endpoint_code.specs.declared.endpoints.Process.{Process as CodeProcess}
use Rattle.endpoint_code.specs.declared.endpoints.Endpoints.{Endpoints}
use Rattle.endpoint_code.specs.Faults.{is_among}
use Rattle.endpoint_code.specs.Labels.{has_label, AreDistinctArms}
use Rattle.endpoint_code.specs.Network as network
use Rattle.endpoint_code.specs.Trees.{CodeTree, Arms}
use Rattle.endpoint_names.specs.Keys.{alone, both, same_key, is_known, sign_of_name, sign_of_channel, sign_of_procedure, first_by}
use Rattle.endpoint_names.specs.Bodies.{Body, body_at}
use Rattle.endpoint_names.specs.Bodies as body
use Rattle.endpoint_names.specs.Faults.{names_in}
use Rattle.endpoint_names.proofs.Keys.{number_turned}
use Rattle.endpoint_laws.specs.Reading.{written_body, written_arms}
use Rattle.endpoint_laws.proofs.Once.{keys_in, AreOnce, same_alone}
use Rattle.endpoint_laws.specs.Symbols.{ordered_at}
use Rattle.endpoint_laws.specs.Spelled.{IsNamed, AreNamed, IsCodeSpelled, AreArmsSpelled}
use Rattle.endpoint_laws.specs.Says.{Names, AllName, BodySays, ArmsSay, no_arm, one_arm}
use Rattle.endpoint_laws.proofs.SameNames.{Same, AllSame, same_number, same_among}

-- a word has bytes
has_bytes : {s : Symbol} {w : List ℕ} → IsLexeme s w → (u : List ℕ) → s ≡ word u → 0 < length w
has_bytes (is_word h k) u e = omega arith
has_bytes (is_number h k) u e = absurd cc
has_bytes (is_text h k) u e = absurd cc
has_bytes (is_mark h) u e = absurd cc

-- what has bytes is in its table
in_table : (ws : List (List ℕ)) (n : ℕ) → 0 < length (slice_index_or ws n []) → n < length ws
in_table [] n h = absurd (omega (arith, h))
in_table (v ∷ ws) zero h = omega arith
in_table (v ∷ ws) (suc n) h = let k = in_table ws n h in omega (arith, k)

module _ (e : Endpoints) (i : Input) where
  abbrev pub IsSame : NameId → NameId → Type 0
  IsSame x n = Same e.names i.names.now x n

  abbrev pub AreSame : List NameId → List NameId → Type 0
  AreSame xs ns = AllSame e.names i.names.now xs ns

  pub is_same : {x : NameId} (k : Named) → IsNamed e x → Names e x (named i k) → IsSame x k.name
  is_same {x} k h is =
      let own : name_in e.names x ≡ h.spelling = name_of e.names x h.spelling h.is in
      let words : name_in i.names.now k.name ≡ name_in e.names x = cc in
      let long : 0 < length (name_in i.names.now k.name) = subst (λ (v : List ℕ). 0 < length v) (sym (words ∙ own)) (has_bytes h.lexeme h.spelling refl) in
      record { first = slice_get_within e.names x.0 h.spelling h.is; second = in_table i.names.now k.name.0 long; words = sym words }

  pub are_same : (xs : List NameId) (ks : List Named) → AreNamed e xs → AllName e xs (all_named i ks) → AreSame xs (names_in ks)
  are_same [] [] h s = tt
  are_same [] (k ∷ ks) h s = absurd s
  are_same (x ∷ xs) [] h s = absurd s
  are_same (x ∷ xs) (k ∷ ks) h s = (is_same k h.0 s.0, are_same xs ks h.1 s.1)

  -- ---- units that say others

  pub record ChannelSame (c : CodeChannel) (x : Channel) : Type 0 where
    pub name : IsSame c.name x.name.name
    pub active : AreSame c.active (names_in x.roles.active)
    pub serve : AreSame c.serve (names_in x.roles.serve)

  -- a body says the code, which can be spelled
  pub record CodeSaid (c : CodeTree) (b : Body) : Type 0 where
    pub spelled : IsCodeSpelled e c
    pub says : BodySays e c (written_body i b)

  pub record ProcedureSame (w : Written) (q : CodeProcedure) (p : Procedure) : Type 0 where
    pub name : IsSame q.name p.signature.name.name
    pub param : IsSame q.param p.signature.param.name
    pub sessions : AreSame q.sessions (names_in p.signature.sessions)
    pub body : CodeSaid (ordered_at e q.body) (body_at w.lines.items p.body)

  pub record ServiceSame (w : Written) (s : ServiceCode) (v : Service) : Type 0 where
    pub channel : IsSame s.channel v.channel.name
    pub role : IsSame s.role v.role.name
    pub body : CodeSaid (ordered_at e s.body) (body_at w.lines.items v.body)

  pub record ProcessSame (w : Written) (q : CodeProcess) (p : Process) : Type 0 where
    pub name : IsSame q.name p.name.name
    pub body : CodeSaid (ordered_at e q.body) (body_at w.lines.items p.body)

  pub record UnitsSame (w : Written) : Type 0 where
    pub channels : AllZip ChannelSame e.channels w.channels
    pub procedures : AllZip (ProcedureSame w) e.procedures w.procedures
    pub services : AllZip (ServiceSame w) e.services w.services
    pub processes : AllZip (ProcessSame w) e.processes w.processes

  module _ (dn : AllDistinct e.names) (dm : AllDistinct i.names.now) where
    numbers : {x n y m : NameId} → IsSame x n → IsSame y m → (x.0 == y.0) ≡ (n.0 == m.0)
    numbers h k = same_number e.names i.names.now dn dm h k

    pub among : {x n : NameId} → IsSame x n → (xs ns : List NameId) → AreSame xs ns → is_among x xs ≡ is_among n ns
    among h xs ns k = same_among e.names i.names.now dn dm h xs ns k

    -- ---- what is declared

    pub channel_found : (cs : List CodeChannel) (xs : List Channel) → AllZip ChannelSame cs xs → {c n : NameId} → IsSame c n → (k : CodeChannel) → network.channel_of cs c ≡ Some k
        → (x : Channel) × (first_by sign_of_channel xs (alone n) ≡ Some x) × ChannelSame k x
    channel_found [] [] h s k f = absurd cc
    channel_found [] (x ∷ xs) h s k f = absurd h
    channel_found (d ∷ cs) [] h s k f = absurd h
    channel_found (d ∷ cs) (x ∷ xs) h {c} {n} s k f =
        pick (d.name.0 == c.0) (same_key (alone n) (alone x.name.name)) (numbers h.0.name s ∙ number_turned x.name.name.0 n.0 ∙ sym (same_alone n x.name.name)) f (channel_found cs xs h.1 s k)
      where
        pick : (b g : Bool) → b ≡ g → (if b then Some d else network.channel_of cs c) ≡ Some k
            → (network.channel_of cs c ≡ Some k → (y : Channel) × (first_by sign_of_channel xs (alone n) ≡ Some y) × ChannelSame k y)
            → (y : Channel) × ((if g then Some x else first_by sign_of_channel xs (alone n)) ≡ Some y) × ChannelSame k y
        pick true true q t ih = let same : d ≡ k = cc in (x, refl, subst (λ z. ChannelSame z x) same h.0)
        pick false false q t ih = ih t
        pick true false q t ih = absurd cc
        pick false true q t ih = absurd cc

    pub procedure_found : (w : Written) (qs : List CodeProcedure) (ps : List Procedure) → AllZip (ProcedureSame w) qs ps → {f g x y : NameId} → IsSame f g → IsSame x y → (q : CodeProcedure)
        → network.procedure_of qs f x ≡ Some q → (p : Procedure) × (first_by sign_of_procedure ps (both g y) ≡ Some p) × ProcedureSame w q p
    procedure_found w [] [] h s t q k = absurd cc
    procedure_found w [] (p ∷ ps) h s t q k = absurd h
    procedure_found w (r ∷ qs) [] h s t q k = absurd h
    procedure_found w (r ∷ qs) (p ∷ ps) h {f} {g} {x} {y} s t q k =
        pick ((r.name.0 == f.0) && (r.param.0 == x.0)) ((g.0 == p.signature.name.name.0) && (y.0 == p.signature.param.name.0)) same k (procedure_found w qs ps h.1 s t q)
      where
        same : ((r.name.0 == f.0) && (r.param.0 == x.0)) ≡ ((g.0 == p.signature.name.name.0) && (y.0 == p.signature.param.name.0))
        same =
            let a = numbers h.0.name s ∙ number_turned p.signature.name.name.0 g.0 in
            let b = numbers h.0.param t ∙ number_turned p.signature.param.name.0 y.0 in
            λ j. a j && b j

        pick : (b d : Bool) → b ≡ d → (if b then Some r else network.procedure_of qs f x) ≡ Some q
            → (network.procedure_of qs f x ≡ Some q → (z : Procedure) × (first_by sign_of_procedure ps (both g y) ≡ Some z) × ProcedureSame w q z)
            → (z : Procedure) × ((if d then Some p else first_by sign_of_procedure ps (both g y)) ≡ Some z) × ProcedureSame w q z
        pick true true u v ih = let it : r ≡ q = cc in (p, refl, subst (λ z. ProcedureSame w z p) it h.0)
        pick false false u v ih = ih v
        pick true false u v ih = absurd cc
        pick false true u v ih = absurd cc

    -- ---- labels

    known_label : {l n : NameId} → IsSame l n → (arms : Arms) (others : body.Arms) → AreArmsSpelled e arms → ArmsSay e arms (written_arms i others)
        → is_known (keys_in (map sign_of_name (body.labels_of others))) (alone n) ≡ has_label l arms
    known_label s arms body.NoArms h no_arm = refl
    known_label {l} {n} s arms (body.Arm m b others) h (one_arm p c r) =
        let first = same_alone n m.name ∙ sym (numbers s (is_same m h.0 p)) in
        let rest = known_label s _ others h.2 r in
        λ j. first j || rest j

    pub labels_once : (arms : Arms) (others : body.Arms) → AreArmsSpelled e arms → ArmsSay e arms (written_arms i others) → AreDistinctArms arms → AreOnce (keys_in (map sign_of_name (body.labels_of others)))
    labels_once arms body.NoArms h no_arm d = tt
    labels_once arms (body.Arm m b others) h (one_arm p c r) d = (known_label (is_same m h.0 p) _ others h.2 r ∙ d.0, labels_once _ others h.2 r d.2)
