-- The faults of a body, from what is written.
use Rattle.std.proofs.Common.{◌≡◌, ℕ, pos, List, [], ◌∷◌, ◌++◌, refl, ap, ◌∙◌}
use Rattle.std.specs.Prelude.{map}
use Rattle.chor_base.specs.Words.{AllDistinct}
use Rattle.chor_base.specs.declared.names.NameId.{NameId}
use Rattle.chor_base.specs.declared.expr.Expr.{Expr}
use Rattle.chor_base.specs.declared.expr.Expr.TheVariants.{Lit}
use Rattle.chor_base.specs.declared.value.Value.TheVariants.{Int}
use Rattle.chor_lexer.specs.Lexeme.{Symbol, word, number, text, mark, last, Lexeme}
use Rattle.endpoint_grammar.specs.Written.{Deed, Joins, Sends, Receives, Selects, Gives, Gains, Sets, Shows, Asks, Body as Text, Does as Does', Offers as Offers', Tests as Tests', Calls as Calls', Ends as Ends', Arms as Texts, NoArms as NoArms', Arm as Arm'}
use Rattle.endpoint_reader.specs.declared.input.Input.{Input}
use Rattle.endpoint_reader.specs.declared.input.Named.{Named}
use Rattle.endpoint_reader.specs.declared.node.Action.{Action}
use Rattle.endpoint_reader.specs.declared.node.Action.TheVariants.{Join, Send, Recv, Pick, Give, Gain, Set, Show, Host}
use Rattle.endpoint_reader.specs.declared.lists.Signature.{Signature}
use Rattle.endpoint_reader.specs.Tokens.{named, all_named}
use Rattle.endpoint_reader.specs.Nodes.{deed_of}
use Rattle.endpoint_code.specs.Faults.{without}
use Rattle.endpoint_names.specs.Keys.{sign_of_name}
use Rattle.endpoint_names.specs.Bodies.{Body, Does, Offers, Tests, Calls, Ends, Arms, NoArms, Arm, labels_of}
use Rattle.endpoint_names.specs.Faults.{Setting, repeated, unbound, bound_again, bound_after, unknown_function, action_faults, call_faults, body_faults, arms_faults}
use Rattle.endpoint_names.specs.Class.{opening_faults}
use Rattle.endpoint_laws.proofs.Words.{number_of, same_number}
use Rattle.endpoint_laws.proofs.Naming.{IsName, AreNames, IsDeedNamed, IsBodyNamed, AreArmsNamed}
use Rattle.endpoint_laws.specs.Reading.{written_body, written_arms}

-- ---- back from what is written

word_bytes : Symbol → List ℕ
word_bytes (word w) = w
word_bytes (number n) = []
word_bytes (text t) = []
word_bytes (mark m) = []
word_bytes last = []

-- no fault depends on an expression
abbrev nothing : Expr
nothing = Lit (Int (pos 0))

module _ (names : List (List ℕ)) where
  pub name_back : Lexeme → Named
  name_back l = record { name = record { 0 = number_of names (word_bytes l.symbol) }; place = l.place }

  abbrev pub names_back : List Lexeme → List Named
  names_back ls = map name_back ls

  abbrev pub action_back : Deed → Action
  action_back (Joins c r k) = Join (name_back c) (name_back r) (name_back k)
  action_back (Sends k b e) = Send (name_back k) (name_back b) nothing
  action_back (Receives k a x) = Recv (name_back k) (name_back a) (name_back x)
  action_back (Selects k b l) = Pick (name_back k) (name_back b) (name_back l)
  action_back (Gives k b h) = Give (name_back k) (name_back b) (name_back h)
  action_back (Gains k a h) = Gain (name_back k) (name_back a) (name_back h)
  action_back (Sets x e) = Set (name_back x) nothing
  action_back (Shows e) = Show nothing
  action_back (Asks x f a b) = Host (name_back x) (name_back f) nothing nothing

  abbrev pub signature_back : Lexeme → Lexeme → List Lexeme → Signature
  signature_back f x ss = record { name = name_back f; param = name_back x; sessions = names_back ss }

  abbrev mutual
    pub body_back : Text → Body
    body_back (Does' d rest) = Does (action_back d) (body_back rest)
    body_back (Offers' k a arms) = Offers (name_back k) (name_back a) (arms_back arms)
    body_back (Tests' e first second) = Tests nothing (body_back first) (body_back second)
    body_back (Calls' c f x ss) = Calls c.place (signature_back f x ss)
    body_back Ends' = Ends

    pub arms_back : Texts → Arms
    arms_back NoArms' = NoArms
    arms_back (Arm' l b rest) = Arm (name_back l) (body_back b) (arms_back rest)

-- ---- what is written says the same

module _ (i : Input) (distinct : AllDistinct i.names.now) where
  abbrev ns : List (List ℕ)
  ns = i.names.now

  abbrev xs : List (List ℕ)
  xs = i.texts.now

  pub same_name : (n : Named) → IsName ns xs (named i n) → name_back ns (named i n) ≡ n
  unfolding name_back word_bytes
  same_name n h = let e = same_number ns distinct n.name h.0 in λ j. record { name = record { 0 = e j }; place = n.place }

  pub same_names : (ys : List Named) → AreNames ns xs (all_named i ys) → names_back ns (all_named i ys) ≡ ys
  same_names [] h = refl
  same_names (y ∷ ys) h = λ j. same_name y h.0 j ∷ same_names ys h.1 j

  module _ (s : Setting) where
    action : (bs : List NameId) (a : Action) → IsDeedNamed ns xs (deed_of i a) → action_faults s bs (action_back ns (deed_of i a)) ≡ action_faults s bs a
    action bs (Join c r k) h = λ j. action_faults s bs (Join (same_name c h.0 j) (same_name r h.1 j) (same_name k h.2 j))
    action bs (Send k b e) h = λ j. unbound bs (same_name k h.0 j)
    action bs (Recv k a x) h = λ j. unbound bs (same_name k h.0 j)
    action bs (Pick k b l) h = λ j. unbound bs (same_name k h.0 j)
    action bs (Give k b x) h = λ j. unbound bs (same_name k h.0 j) ++ unbound bs (same_name x h.2 j)
    action bs (Gain k a x) h = λ j. unbound bs (same_name k h.0 j) ++ bound_again bs (same_name x h.2 j)
    action bs (Set x e) h = refl
    action bs (Show e) h = refl
    action bs (Host x f a b) h = λ j. unknown_function s (same_name f h.1 j)

    bound : (bs : List NameId) (a : Action) → IsDeedNamed ns xs (deed_of i a) → bound_after bs (action_back ns (deed_of i a)) ≡ bound_after bs a
    bound bs (Join c r k) h = λ j. (same_name k h.2 j).name ∷ bs
    bound bs (Send k b e) h = refl
    bound bs (Recv k a x) h = refl
    bound bs (Pick k b l) h = refl
    bound bs (Give k b x) h = λ j. without (same_name x h.2 j).name bs
    bound bs (Gain k a x) h = λ j. (same_name x h.2 j).name ∷ bs
    bound bs (Set x e) h = refl
    bound bs (Show e) h = refl
    bound bs (Host x f a b) h = refl

    labels : (arms : Arms) → AreArmsNamed ns xs (written_arms i arms) → labels_of (arms_back ns (written_arms i arms)) ≡ labels_of arms
    labels NoArms h = refl
    labels (Arm l b others) h = λ j. same_name l h.0 j ∷ labels others h.2 j

    mutual
      pub body : (bs : List NameId) (b : Body) → IsBodyNamed ns xs (written_body i b) → body_faults s bs (body_back ns (written_body i b)) ≡ body_faults s bs b
      body bs (Does a rest) h =
          let others = ap (λ cs. body_faults s cs (body_back ns (written_body i rest))) (bound bs a h.0) ∙ body (bound_after bs a) rest h.1 in
          λ j. action bs a h.0 j ++ others j
      body bs (Offers k a arms) h = λ j. unbound bs (same_name k h.0 j) ++ repeated [] (map sign_of_name (labels arms h.2 j)) ++ of_arms bs arms h.2 j
      body bs (Tests e first second) h = λ j. body bs first h.0 j ++ body bs second h.1 j
      body bs (Calls p c) h = λ j. call_faults s bs (record { name = same_name c.name h.0 j; param = same_name c.param h.1 j; sessions = same_names c.sessions h.2 j })
      body bs Ends h = refl

      of_arms : (bs : List NameId) (arms : Arms) → AreArmsNamed ns xs (written_arms i arms) → arms_faults s bs (arms_back ns (written_arms i arms)) ≡ arms_faults s bs arms
      of_arms bs NoArms h = refl
      of_arms bs (Arm l b others) h = λ j. body bs b h.1 j ++ of_arms bs others h.2 j

-- ---- how a body begins

pub opening : (i : Input) (b : Body) → opening_faults (body_back i.names.now (written_body i b)) ≡ opening_faults b
opening i (Does a rest) = refl
opening i (Offers k a arms) = refl
opening i (Tests e first second) = refl
opening i (Calls p c) = refl
opening i Ends = refl
