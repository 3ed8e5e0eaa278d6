-- The grammar of sources (this project's own). Each nonterminal relates the tokens from some place on, what they derive there,
-- and the tokens that are left after it; its premises are the symbols of its production in order. The words have the numbers
-- of `names`.
use Rattle.std.specs.Prelude.{◌≡◌, ℕ, pos, List, [], ◌∷◌, Option, Some, None, codes}
use Rattle.chor_base.specs.declared.rule.Place.{Place}
use Rattle.chor_base.specs.declared.value.Sort.{Sort}
use Rattle.chor_base.specs.declared.value.Sort.TheVariants as sort
use Rattle.chor_base.specs.Expr.{Term}
use Rattle.chor_lexer.specs.declared.mark.Mark.{Mark}
use Rattle.chor_lexer.specs.declared.mark.Mark.TheVariants.{OpenBrace, CloseBrace, OpenParen, CloseParen, OpenBracket, CloseBracket, Comma, Semicolon, Colon, Dot, Assign, Becomes, Arrow, Bar, At}
use Rattle.chor_lexer.specs.declared.token.Kind.TheVariants as kind
use Rattle.chor_lexer.specs.declared.token.Token.{Token}
use Rattle.chor_lexer.specs.Keywords.{HasMark, HasWord, HasName}
use Rattle.chor_lexer.specs.Grammar.{ExprIs}
pub use Rattle.source_grammar.specs.Values.{StandsAt}
use Rattle.chor_tree.specs.declared.header.Header.{Header}
use Rattle.chor_tree.specs.Headers.{first_place, no_header}
use Rattle.chor_tree.specs.declared.file.Named.{Named}
use Rattle.chor_tree.specs.declared.file.Service.{Service}
use Rattle.chor_tree.specs.declared.file.ProcParam.{ProcParam}
use Rattle.chor_tree.specs.declared.file.SessionParam.{SessionParam}
use Rattle.chor_tree.specs.Protocols.{Protocol}
use Rattle.chor_tree.specs.declared.protocol.State.{State}
use Rattle.chor_tree.specs.declared.protocol.ProtoStep.{ProtoStep}
use Rattle.chor_tree.specs.declared.protocol.ProtoStep.TheVariants as step
use Rattle.chor_tree.specs.declared.protocol.ProtoArm.{ProtoArm}
use Rattle.chor_tree.specs.declared.protocol.Payload.{Payload}
use Rattle.chor_tree.specs.declared.protocol.Payload.TheVariants as payload
use Rattle.chor_tree.specs.declared.tree.Part.{Part}
use Rattle.chor_tree.specs.Source.{Statement, Starts, Sends, Selects, Gives, Sets, Asks, Shows, Block, Then, Either, Calls, Ends, Procedure, Items, Source}

-- ---- single tokens

-- a mark
pub record MarkIs (m : Mark) (ts rest : List Token) : Type 0 where
  pub token : Token
  pub parts : ts ≡ token ∷ rest
  pub is : HasMark m token

-- a keyword
pub record WordIs (names : List (List ℕ)) (w : List ℕ) (ts rest : List Token) : Type 0 where
  pub token : Token
  pub parts : ts ≡ token ∷ rest
  pub is : HasWord names w token

-- NAME
pub record NameIs (names : List (List ℕ)) (ts : List Token) (n : Named) (rest : List Token) : Type 0 where
  pub token : Token
  pub parts : ts ≡ token ∷ rest
  pub is : HasName names n.name token
  pub place : n.place ≡ token.place

-- a number
pub record NumberIs (n : ℕ) (ts rest : List Token) : Type 0 where
  pub token : Token
  pub parts : ts ≡ token ∷ rest
  pub is : token.kind ≡ kind.Number (pos n)

-- ---- lists

-- { "," item }
pub data MoreAre {A : Type 0} (Item : List Token → A → List Token → Type 0) : List Token → List A → List Token → Type 0 where
  no_more : {ts : List Token} → MoreAre Item ts [] ts
  one_more : {t0 t1 t2 t3 : List Token} {x : A} {xs : List A}
      → MarkIs Comma t0 t1 → Item t1 x t2 → MoreAre Item t2 xs t3
      → MoreAre Item t0 (x ∷ xs) t3

-- item { "," item }
pub data ListIs {A : Type 0} (Item : List Token → A → List Token → Type 0) : List Token → List A → List Token → Type 0 where
  a_list : {t0 t1 t2 : List Token} {x : A} {xs : List A}
      → Item t0 x t1 → MoreAre Item t1 xs t2
      → ListIs Item t0 (x ∷ xs) t2

-- names = NAME { "," NAME }
abbrev pub NamesAre : List (List ℕ) → List Token → List Named → List Token → Type 0
NamesAre names ts ns rest = ListIs (NameIs names) ts ns rest

-- [ names ]
pub data AnyNamesAre (names : List (List ℕ)) : List Token → List Named → List Token → Type 0 where
  no_names : {ts : List Token} → AnyNamesAre names ts [] ts
  some_names : {t0 t1 : List Token} {ns : List Named} → NamesAre names t0 ns t1 → AnyNamesAre names t0 ns t1

-- part = NAME "[" NAME "]"
pub data PartIs (names : List (List ℕ)) : List Token → Part → List Token → Type 0 where
  a_part : {t0 t1 t2 t3 t4 : List Token} {p r : Named}
      → NameIs names t0 p t1 → MarkIs OpenBracket t1 t2 → NameIs names t2 r t3 → MarkIs CloseBracket t3 t4
      → PartIs names t0 (record { process = p; role = r }) t4

-- ---- protocols

-- sort = "int" | "bool" | "text"
pub data SortIs (names : List (List ℕ)) : List Token → Sort → List Token → Type 0 where
  int : {t0 t1 : List Token} → WordIs names (codes "int") t0 t1 → SortIs names t0 sort.Int t1
  bool : {t0 t1 : List Token} → WordIs names (codes "bool") t0 t1 → SortIs names t0 sort.Bool t1
  text : {t0 t1 : List Token} → WordIs names (codes "text") t0 t1 → SortIs names t0 sort.Text t1

-- payload = sort | NAME "." NAME "@" NAME
pub data PayloadIs (names : List (List ℕ)) : List Token → Payload → List Token → Type 0 where
  plain : {t0 t1 : List Token} {s : Sort} → SortIs names t0 s t1 → PayloadIs names t0 (payload.Plain s) t1
  endpoint : {t0 t1 t2 t3 t4 t5 : List Token} {p s r : Named}
      → NameIs names t0 p t1 → MarkIs Dot t1 t2 → NameIs names t2 s t3 → MarkIs At t3 t4 → NameIs names t4 r t5
      → PayloadIs names t0 (payload.Endpoint p s r) t5

-- arm = NAME "then" NAME
pub data ArmIs (names : List (List ℕ)) : List Token → ProtoArm → List Token → Type 0 where
  an_arm : {t0 t1 t2 t3 : List Token} {l n : Named}
      → NameIs names t0 l t1 → WordIs names (codes "then") t1 t2 → NameIs names t2 n t3
      → ArmIs names t0 (record { label = l; next = n }) t3

-- step = "end"
--      | NAME "->" NAME ":" payload "then" NAME
--      | NAME "->" NAME "{" arm { "," arm } "}"
pub data StepIs (names : List (List ℕ)) : List Token → ProtoStep → List Token → Type 0 where
  end_step : {t0 t1 : List Token} → WordIs names (codes "end") t0 t1 → StepIs names t0 step.End t1
  value_step : {t0 t1 t2 t3 t4 t5 t6 t7 : List Token} {a b n : Named} {p : Payload}
      → NameIs names t0 a t1 → MarkIs Arrow t1 t2 → NameIs names t2 b t3 → MarkIs Colon t3 t4
      → PayloadIs names t4 p t5 → WordIs names (codes "then") t5 t6 → NameIs names t6 n t7
      → StepIs names t0 (step.Value a b p n) t7
  choice_step : {t0 t1 t2 t3 t4 t5 t6 : List Token} {a b : Named} {arms : List ProtoArm}
      → NameIs names t0 a t1 → MarkIs Arrow t1 t2 → NameIs names t2 b t3 → MarkIs OpenBrace t3 t4
      → ListIs (ArmIs names) t4 arms t5 → MarkIs CloseBrace t5 t6
      → StepIs names t0 (step.Choice a b arms) t6

-- state = NAME "=" step ";"
pub data StateIs (names : List (List ℕ)) : List Token → State → List Token → Type 0 where
  a_state : {t0 t1 t2 t3 t4 : List Token} {n : Named} {s : ProtoStep}
      → NameIs names t0 n t1 → MarkIs Assign t1 t2 → StepIs names t2 s t3 → MarkIs Semicolon t3 t4
      → StateIs names t0 (record { name = n; step = s }) t4

-- { state }
pub data MoreStatesAre (names : List (List ℕ)) : List Token → List State → List Token → Type 0 where
  no_state : {ts : List Token} → MoreStatesAre names ts [] ts
  one_state : {t0 t1 t2 : List Token} {s : State} {ss : List State}
      → StateIs names t0 s t1 → MoreStatesAre names t1 ss t2
      → MoreStatesAre names t0 (s ∷ ss) t2

-- state { state }
pub data StatesAre (names : List (List ℕ)) : List Token → List State → List Token → Type 0 where
  some_states : {t0 t1 t2 : List Token} {s : State} {ss : List State}
      → StateIs names t0 s t1 → MoreStatesAre names t1 ss t2
      → StatesAre names t0 (s ∷ ss) t2

-- protocol = "protocol" NAME "(" names ")" "{" state { state } "}"
pub data ProtocolIs (names : List (List ℕ)) : List Token → Protocol → List Token → Type 0 where
  a_protocol : {t0 t1 t2 t3 t4 t5 t6 t7 t8 : List Token} {n : Named} {roles : List Named} {states : List State}
      → WordIs names (codes "protocol") t0 t1 → NameIs names t1 n t2
      → MarkIs OpenParen t2 t3 → NamesAre names t3 roles t4 → MarkIs CloseParen t4 t5
      → MarkIs OpenBrace t5 t6 → StatesAre names t6 states t7 → MarkIs CloseBrace t7 t8
      → ProtocolIs names t0 (record { name = n; roles = roles; states = states }) t8

-- ---- services

-- [ "|" names ]
pub data ServedAre (names : List (List ℕ)) : List Token → List Named → List Token → Type 0 where
  none_served : {ts : List Token} → ServedAre names ts [] ts
  some_served : {t0 t1 t2 : List Token} {ns : List Named}
      → MarkIs Bar t0 t1 → NamesAre names t1 ns t2 → ServedAre names t0 ns t2

-- service = "service" NAME ":" NAME "(" names [ "|" names ] ")" ";"
pub data ServiceIs (names : List (List ℕ)) : List Token → Service → List Token → Type 0 where
  a_service : {t0 t1 t2 t3 t4 t5 t6 t7 t8 t9 : List Token} {n p : Named} {active serve : List Named}
      → WordIs names (codes "service") t0 t1 → NameIs names t1 n t2 → MarkIs Colon t2 t3 → NameIs names t3 p t4
      → MarkIs OpenParen t4 t5 → NamesAre names t5 active t6 → ServedAre names t6 serve t7 → MarkIs CloseParen t7 t8
      → MarkIs Semicolon t8 t9
      → ServiceIs names t0 (record { name = n; protocol = p; active = active; serve = serve }) t9

-- ---- heads of procedures

-- NAME ":" sort
pub data VariableIs (names : List (List ℕ)) : List Token → Named × Sort → List Token → Type 0 where
  a_variable : {t0 t1 t2 t3 : List Token} {n : Named} {s : Sort}
      → NameIs names t0 n t1 → MarkIs Colon t1 t2 → SortIs names t2 s t3
      → VariableIs names t0 (n, s) t3

-- [ "(" NAME ":" sort { "," NAME ":" sort } ")" ]
pub data VariablesAre (names : List (List ℕ)) : List Token → List (Named × Sort) → List Token → Type 0 where
  no_variables : {ts : List Token} → VariablesAre names ts [] ts
  some_variables : {t0 t1 t2 t3 : List Token} {vs : List (Named × Sort)}
      → MarkIs OpenParen t0 t1 → ListIs (VariableIs names) t1 vs t2 → MarkIs CloseParen t2 t3
      → VariablesAre names t0 vs t3

-- parameter = NAME [ "(" NAME ":" sort { "," NAME ":" sort } ")" ]
pub data ProcParamIs (names : List (List ℕ)) : List Token → ProcParam → List Token → Type 0 where
  a_param : {t0 t1 t2 : List Token} {n : Named} {vs : List (Named × Sort)}
      → NameIs names t0 n t1 → VariablesAre names t1 vs t2
      → ProcParamIs names t0 (record { name = n; vars = vs }) t2

-- NAME "=" NAME
pub data HolderIs (names : List (List ℕ)) : List Token → Named × Named → List Token → Type 0 where
  a_holder : {t0 t1 t2 t3 : List Token} {r p : Named}
      → NameIs names t0 r t1 → MarkIs Assign t1 t2 → NameIs names t2 p t3
      → HolderIs names t0 (r, p) t3

-- session = NAME ":" NAME "." NAME "{" NAME "=" NAME { "," NAME "=" NAME } "}"
pub data SessionParamIs (names : List (List ℕ)) : List Token → SessionParam → List Token → Type 0 where
  a_session : {t0 t1 t2 t3 t4 t5 t6 t7 t8 : List Token} {n p s : Named} {hs : List (Named × Named)}
      → NameIs names t0 n t1 → MarkIs Colon t1 t2 → NameIs names t2 p t3 → MarkIs Dot t3 t4 → NameIs names t4 s t5
      → MarkIs OpenBrace t5 t6 → ListIs (HolderIs names) t6 hs t7 → MarkIs CloseBrace t7 t8
      → SessionParamIs names t0 (record { name = n; protocol = p; state = s; holders = hs }) t8

-- [ ";" session { "," session } ]
pub data SessionsAre (names : List (List ℕ)) : List Token → List SessionParam → List Token → Type 0 where
  no_sessions : {ts : List Token} → SessionsAre names ts [] ts
  some_sessions : {t0 t1 t2 : List Token} {ss : List SessionParam}
      → MarkIs Semicolon t0 t1 → ListIs (SessionParamIs names) t1 ss t2 → SessionsAre names t0 ss t2

-- [ parameter { "," parameter } [ ";" session { "," session } ] ]
pub data ParamsAre (names : List (List ℕ)) : List Token → List ProcParam → List SessionParam → List Token → Type 0 where
  no_params : {ts : List Token} → ParamsAre names ts [] [] ts
  some_params : {t0 t1 t2 : List Token} {ps : List ProcParam} {ss : List SessionParam}
      → ListIs (ProcParamIs names) t0 ps t1 → SessionsAre names t1 ss t2
      → ParamsAre names t0 ps ss t2

-- ---- statements

-- [ "new" part { "," part } ]
pub data NewPartsAre (names : List (List ℕ)) : List Token → List Part → List Token → Type 0 where
  no_new : {ts : List Token} → NewPartsAre names ts [] ts
  some_new : {t0 t1 t2 : List Token} {ps : List Part}
      → WordIs names (codes "new") t0 t1 → ListIs (PartIs names) t1 ps t2 → NewPartsAre names t0 ps t2

-- stmt = "start" NAME "(" NAME ")" ":" part { "," part } [ "new" part { "," part } ]
--      | part "." expr "->" part "." NAME ":" NAME
--      | part "->" part ":" NAME "." NAME
--      | part "->" part ":" NAME "(" part ")"
--      | NAME "." NAME ":=" expr
--      | NAME "." NAME ":=" "host" NAME "(" expr "," expr ")"
--      | NAME "show" expr
pub data StatementIs (names : List (List ℕ)) : List Token → Statement → List Token → Type 0 where
  a_start : {t0 t1 t2 t3 t4 t5 t6 t7 t8 : List Token} {c k : Named} {active serve : List Part}
      → WordIs names (codes "start") t0 t1 → NameIs names t1 c t2
      → MarkIs OpenParen t2 t3 → NameIs names t3 k t4 → MarkIs CloseParen t4 t5 → MarkIs Colon t5 t6
      → ListIs (PartIs names) t6 active t7 → NewPartsAre names t7 serve t8
      → StatementIs names t0 (Starts c k active serve) t8
  a_value : {t0 t1 t2 t3 t4 t5 t6 t7 t8 t9 : List Token} {a b : Part} {e : Term} {x k : Named}
      → PartIs names t0 a t1 → MarkIs Dot t1 t2 → ExprIs names t2 e t3 → MarkIs Arrow t3 t4
      → PartIs names t4 b t5 → MarkIs Dot t5 t6 → NameIs names t6 x t7 → MarkIs Colon t7 t8 → NameIs names t8 k t9
      → StatementIs names t0 (Sends a e b x.name k) t9
  a_label : {t0 t1 t2 t3 t4 t5 t6 t7 : List Token} {a b : Part} {k l : Named}
      → PartIs names t0 a t1 → MarkIs Arrow t1 t2 → PartIs names t2 b t3 → MarkIs Colon t3 t4
      → NameIs names t4 k t5 → MarkIs Dot t5 t6 → NameIs names t6 l t7
      → StatementIs names t0 (Selects a b k l.name) t7
  a_delegation : {t0 t1 t2 t3 t4 t5 t6 t7 t8 : List Token} {a b h : Part} {k : Named}
      → PartIs names t0 a t1 → MarkIs Arrow t1 t2 → PartIs names t2 b t3 → MarkIs Colon t3 t4
      → NameIs names t4 k t5 → MarkIs OpenParen t5 t6 → PartIs names t6 h t7 → MarkIs CloseParen t7 t8
      → StatementIs names t0 (Gives a b k h) t8
  a_set : {t0 t1 t2 t3 t4 t5 : List Token} {p x : Named} {e : Term}
      → NameIs names t0 p t1 → MarkIs Dot t1 t2 → NameIs names t2 x t3 → MarkIs Becomes t3 t4 → ExprIs names t4 e t5
      → StatementIs names t0 (Sets p x.name e) t5
  a_host_call : {t0 t1 t2 t3 t4 t5 t6 t7 t8 t9 t10 t11 : List Token} {p x f : Named} {a b : Term}
      → NameIs names t0 p t1 → MarkIs Dot t1 t2 → NameIs names t2 x t3 → MarkIs Becomes t3 t4
      → WordIs names (codes "host") t4 t5 → NameIs names t5 f t6
      → MarkIs OpenParen t6 t7 → ExprIs names t7 a t8 → MarkIs Comma t8 t9 → ExprIs names t9 b t10 → MarkIs CloseParen t10 t11
      → StatementIs names t0 (Asks p x.name f a b) t11
  a_show : {t0 t1 t2 t3 : List Token} {p : Named} {e : Term}
      → NameIs names t0 p t1 → WordIs names (codes "show") t1 t2 → ExprIs names t2 e t3
      → StatementIs names t0 (Shows p e) t3

-- [ ";" names ]
pub data PassedSessionsAre (names : List (List ℕ)) : List Token → List Named → List Token → Type 0 where
  no_session_passed : {ts : List Token} → PassedSessionsAre names ts [] ts
  sessions_passed : {t0 t1 t2 : List Token} {ss : List Named}
      → MarkIs Semicolon t0 t1 → NamesAre names t1 ss t2 → PassedSessionsAre names t0 ss t2

-- [ names [ ";" names ] ]
pub data PassedAre (names : List (List ℕ)) : List Token → List Named → List Named → List Token → Type 0 where
  nothing_passed : {ts : List Token} → PassedAre names ts [] [] ts
  processes_passed : {t0 t1 t2 : List Token} {ps ss : List Named}
      → NamesAre names t0 ps t1 → PassedSessionsAre names t1 ss t2 → PassedAre names t0 ps ss t2

mutual
  -- block = "{" { stmt ";" } tail "}"
  pub data BlockIs (names : List (List ℕ)) : List Token → Block → List Token → Type 0 where
    a_block : {t0 t1 t2 t3 : List Token} {b : Block}
        → MarkIs OpenBrace t0 t1 → LinesAre names t1 b t2 → MarkIs CloseBrace t2 t3
        → BlockIs names t0 b t3

  -- { stmt ";" } tail
  pub data LinesAre (names : List (List ℕ)) : List Token → Block → List Token → Type 0 where
    a_line : {t0 t1 t2 t3 : List Token} {p : Place} {s : Statement} {b : Block}
        → StandsAt p t0 → StatementIs names t0 s t1 → MarkIs Semicolon t1 t2 → LinesAre names t2 b t3
        → LinesAre names t0 (Then p s b) t3
    a_tail : {t0 t1 : List Token} {b : Block} → TailIs names t0 b t1 → LinesAre names t0 b t1

  -- tail = "end"
  --      | "call" NAME "(" [ names [ ";" names ] ] ")"
  --      | "if" NAME "." expr block "else" block
  pub data TailIs (names : List (List ℕ)) : List Token → Block → List Token → Type 0 where
    an_end : {t0 t1 : List Token} {p : Place} → StandsAt p t0 → WordIs names (codes "end") t0 t1 → TailIs names t0 (Ends p) t1
    a_call : {t0 t1 t2 t3 t4 t5 : List Token} {p : Place} {f : Named} {ps ss : List Named}
        → StandsAt p t0 → WordIs names (codes "call") t0 t1 → NameIs names t1 f t2
        → MarkIs OpenParen t2 t3 → PassedAre names t3 ps ss t4 → MarkIs CloseParen t4 t5
        → TailIs names t0 (Calls p f ps ss) t5
    a_conditional : {t0 t1 t2 t3 t4 t5 t6 t7 : List Token} {p : Place} {q : Named} {e : Term} {a b : Block}
        → StandsAt p t0 → WordIs names (codes "if") t0 t1 → NameIs names t1 q t2 → MarkIs Dot t2 t3 → ExprIs names t3 e t4
        → BlockIs names t4 a t5 → WordIs names (codes "else") t5 t6 → BlockIs names t6 b t7
        → TailIs names t0 (Either p q e a b) t7

-- ---- headers

-- [ "capacity" NUMBER ";" ], and where the word stands
pub data CapacityIs (names : List (List ℕ)) : List Token → Option ℕ → Place → List Token → Type 0 where
  no_capacity : {ts : List Token} → CapacityIs names ts None first_place ts
  a_capacity : {t0 t1 t2 t3 : List Token} {n : ℕ} {p : Place}
      → StandsAt p t0 → WordIs names (codes "capacity") t0 t1 → NumberIs n t1 t2 → MarkIs Semicolon t2 t3
      → CapacityIs names t0 (Some n) p t3

-- [ header ]
-- header = "chor" "2" ";" [ "capacity" NUMBER ";" ]
pub data HeaderIs (names : List (List ℕ)) : List Token → Header → List Token → Type 0 where
  without_header : {ts : List Token} → HeaderIs names ts no_header ts
  a_header : {t0 t1 t2 t3 t4 : List Token} {c : Option ℕ} {p : Place}
      → WordIs names (codes "chor") t0 t1 → NumberIs 2 t1 t2 → MarkIs Semicolon t2 t3 → CapacityIs names t3 c p t4
      → HeaderIs names t0 (record { version = 2; capacity = c; place = p }) t4

-- ---- files

-- proc = "proc" NAME "(" [ parameter { "," parameter } [ ";" session { "," session } ] ] ")" block
pub data ProcedureIs (names : List (List ℕ)) : List Token → Procedure → List Token → Type 0 where
  a_procedure : {t0 t1 t2 t3 t4 t5 t6 : List Token} {n : Named} {ps : List ProcParam} {ss : List SessionParam} {b : Block}
      → WordIs names (codes "proc") t0 t1 → NameIs names t1 n t2
      → MarkIs OpenParen t2 t3 → ParamsAre names t3 ps ss t4 → MarkIs CloseParen t4 t5 → BlockIs names t5 b t6
      → ProcedureIs names t0 (record { name = n; params = ps; sessions = ss; body = b }) t6

-- { protocol | service | proc }
pub data ItemsAre (names : List (List ℕ)) : List Token → Items → List Token → Type 0 where
  no_item : {ts : List Token} → ItemsAre names ts (record { protocols = []; services = []; procedures = [] }) ts
  protocol_first : {t0 t1 t2 : List Token} {p : Protocol} {is : Items}
      → ProtocolIs names t0 p t1 → ItemsAre names t1 is t2
      → ItemsAre names t0 (record is { protocols = p ∷ is.protocols }) t2
  service_first : {t0 t1 t2 : List Token} {s : Service} {is : Items}
      → ServiceIs names t0 s t1 → ItemsAre names t1 is t2
      → ItemsAre names t0 (record is { services = s ∷ is.services }) t2
  procedure_first : {t0 t1 t2 : List Token} {p : Procedure} {is : Items}
      → ProcedureIs names t0 p t1 → ItemsAre names t1 is t2
      → ItemsAre names t0 (record is { procedures = p ∷ is.procedures }) t2

-- the end of the file
pub record EndIs (ts : List Token) : Type 0 where
  pub token : Token
  pub alone : ts ≡ token ∷ []
  pub last : token.kind ≡ kind.Last

-- file = [ header ] { protocol | service | proc } main
-- main = "main" "(" [ names ] ")" block
pub data FileIs (names : List (List ℕ)) : List Token → Source → Type 0 where
  a_file : {t0 t1 t2 t3 t4 t5 t6 t7 : List Token} {h : Header} {is : Items} {ps : List Named} {b : Block}
      → HeaderIs names t0 h t1 → ItemsAre names t1 is t2 → WordIs names (codes "main") t2 t3
      → MarkIs OpenParen t3 t4 → AnyNamesAre names t4 ps t5 → MarkIs CloseParen t5 t6 → BlockIs names t6 b t7 → EndIs t7
      → FileIs names t0 (record { header = h; items = is; processes = ps; body = b })
