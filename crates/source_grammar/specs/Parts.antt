-- The nonterminals of the grammar as parts of it, with the limits that they keep, and the tokens with which they could go on.
use Rattle.std.specs.Prelude.{◌≡◌, ◌⊎◌, ℕ, true, List, Some, slice_get, bytes_eq}
use Rattle.std.specs.List.{list_any}
use Rattle.chor_base.specs.declared.names.NameId.{NameId}
use Rattle.chor_base.specs.declared.value.Sort.{Sort}
use Rattle.chor_lexer.specs.declared.mark.Mark.{Mark}
use Rattle.chor_lexer.specs.declared.mark.Mark.TheVariants as mark
use Rattle.chor_lexer.specs.declared.token.Token.{Token}
use Rattle.chor_lexer.specs.Keywords.{keywords, HasMark, HasWord, HasName}
use Rattle.chor_tree.specs.declared.file.Named.{Named}
use Rattle.source_grammar.specs.Symbols.{Allowed, Part, Further, Nothing, more_words}
use Rattle.chor_tree.specs.declared.file.Service.{Service}
use Rattle.chor_tree.specs.declared.file.ProcParam.{ProcParam}
use Rattle.chor_tree.specs.declared.file.SessionParam.{SessionParam}
use Rattle.chor_tree.specs.Protocols.{Protocol}
use Rattle.chor_tree.specs.declared.protocol.State.{State}
use Rattle.chor_tree.specs.declared.protocol.ProtoStep.{ProtoStep}
use Rattle.chor_tree.specs.declared.protocol.ProtoArm.{ProtoArm}
use Rattle.chor_tree.specs.declared.protocol.Payload.{Payload}
use Rattle.chor_tree.specs.declared.tree.Part.{Part as ProcessRole}
use Rattle.source_grammar.specs.Symbols.{Allowed, Part, Further, Nothing, more_words}
use Rattle.source_grammar.specs.Grammar.{MarkIs, WordIs, NameIs, MoreAre, ListIs, NamesAre, AnyNamesAre, PartIs, SortIs, PayloadIs, ArmIs, StepIs, StateIs, StatesAre, ProtocolIs, ServedAre, ServiceIs, VariableIs, VariablesAre, ProcParamIs, HolderIs, SessionParamIs, SessionsAre, ParamsAre}
use Rattle.source_grammar.specs.Limits.{KeepsMore, KeepsList, KeepsNames, KeepsAnyNames, KeepsStep, KeepsState, KeepsStates, KeepsProtocol, KeepsServed, KeepsService, KeepsVariables, KeepsParam, KeepsSessions, KeepsParams}

-- ---- tokens

abbrev pub MarkPart : Mark → Part (Unit {0})
MarkPart m Q names ts x rest = MarkIs m ts rest

abbrev pub WordPart : List ℕ → Part (Unit {0})
WordPart w Q names ts x rest = WordIs names w ts rest

abbrev pub NamePart : Part Named
NamePart Q names ts n rest = NameIs names ts n rest

-- a word that is a keyword, and which of them
pub record IsKeyword (w : List ℕ) : Type 0 where
  pub index : ℕ
  pub at : slice_get more_words index ≡ Some w
  pub no_name : list_any (bytes_eq w) keywords ≡ true

-- a token that is this mark, this word, a name
abbrev pub AMark : Mark → Further
AMark m names t = HasMark m t

abbrev pub AWord : List ℕ → Further
AWord w names t = HasWord names w t

abbrev pub AName : Further
AName names t = (n : NameId) × HasName names n t

-- one of these or of those
abbrev pub Or : Further → Further → Further
Or F G names t = F names t ⊎ G names t

-- ---- lists

-- an item with the limits that K asks of it
abbrev pub ItemPart : {A : Type 0} (Item : List (List ℕ) → List Token → A → List Token → Type 0) → (Allowed → (names : List (List ℕ)) (ts : List Token) (x : A) (rest : List Token) → Item names ts x rest → Type 0) → Part A
ItemPart Item K Q names ts x rest = (i : Item names ts x rest) × K Q names ts x rest i

-- { "," item }, n more of them
abbrev pub MorePart : {A : Type 0} (Item : List (List ℕ) → List Token → A → List Token → Type 0) → (Allowed → (names : List (List ℕ)) (ts : List Token) (x : A) (rest : List Token) → Item names ts x rest → Type 0) → ℕ → Part (List A)
MorePart Item K n Q names ts xs rest = (d : MoreAre (Item names) ts xs rest) × KeepsMore Q (K Q names) n d

-- item { "," item }, n of them
abbrev pub ListPart : {A : Type 0} (Item : List (List ℕ) → List Token → A → List Token → Type 0) → (Allowed → (names : List (List ℕ)) (ts : List Token) (x : A) (rest : List Token) → Item names ts x rest → Type 0) → ℕ → Part (List A)
ListPart Item K n Q names ts xs rest = (d : ListIs (Item names) ts xs rest) × KeepsList Q (K Q names) n d

-- no limits
abbrev pub Unlimited : {A : Type 0} (Item : List (List ℕ) → List Token → A → List Token → Type 0) → Allowed → (names : List (List ℕ)) (ts : List Token) (x : A) (rest : List Token) → Item names ts x rest → Type 0
Unlimited Item Q names ts x rest i = Unit {0}

-- lists without a limit
abbrev pub AnyListPart : {A : Type 0} → (List (List ℕ) → List Token → A → List Token → Type 0) → Part (List A)
AnyListPart Item Q names ts xs rest = ListIs (Item names) ts xs rest

abbrev pub NamesPart : ℕ → Part (List Named)
NamesPart n Q names ts ns rest = (d : NamesAre names ts ns rest) × KeepsNames Q n d

abbrev pub AnyNamesPart : ℕ → Part (List Named)
AnyNamesPart n Q names ts ns rest = (d : AnyNamesAre names ts ns rest) × KeepsAnyNames Q n d

-- a list goes on with a comma, or with what goes on with its items
abbrev pub AComma : Further
AComma = AMark mark.Comma

abbrev pub OrComma : Further → Further
OrComma C = Or AComma C

-- a name goes on with no names, a comma with some
abbrev pub OrName : Further
OrName = Or AName (OrComma Nothing)

abbrev pub PartPart : Part ProcessRole
PartPart Q names ts p rest = PartIs names ts p rest

-- ---- protocols and services

abbrev pub SortPart : Part Sort
SortPart Q names ts s rest = SortIs names ts s rest

abbrev pub PayloadPart : Part Payload
PayloadPart Q names ts p rest = PayloadIs names ts p rest

abbrev pub ArmPart : Part ProtoArm
ArmPart Q names ts a rest = ArmIs names ts a rest

abbrev pub ArmsPart : ℕ → Part (List ProtoArm)
ArmsPart n = ListPart ArmIs (Unlimited ArmIs) n

abbrev pub StepPart : Part ProtoStep
StepPart Q names ts s rest = (d : StepIs names ts s rest) × KeepsStep Q d

abbrev pub StatePart : Part State
StatePart Q names ts s rest = (d : StateIs names ts s rest) × KeepsState Q d

abbrev pub StatesPart : Part (List State)
StatesPart Q names ts ss rest = (d : StatesAre names ts ss rest) × KeepsStates Q d

abbrev pub ProtocolPart : Part Protocol
ProtocolPart Q names ts p rest = (d : ProtocolIs names ts p rest) × KeepsProtocol Q d

abbrev pub ServedPart : ℕ → Part (List Named)
ServedPart n Q names ts ns rest = (d : ServedAre names ts ns rest) × KeepsServed Q n d

-- a bar goes on with the roles, or a comma
abbrev pub OrBar : Further
OrBar = Or (AMark mark.Bar) (OrComma Nothing)

abbrev pub ServicePart : Part Service
ServicePart Q names ts s rest = (d : ServiceIs names ts s rest) × KeepsService Q d

-- ---- heads of procedures

abbrev pub VariablePart : Part (Named × Sort)
VariablePart Q names ts v rest = VariableIs names ts v rest

abbrev pub VarsPart : Part (List (Named × Sort))
VarsPart = ListPart VariableIs (Unlimited VariableIs) 16

abbrev pub VariablesPart : Part (List (Named × Sort))
VariablesPart Q names ts vs rest = (d : VariablesAre names ts vs rest) × KeepsVariables Q d

abbrev pub ProcParamPart : Part ProcParam
ProcParamPart = ItemPart ProcParamIs (λ Q names. KeepsParam Q)

abbrev pub ProcParamsPart : Part (List ProcParam)
ProcParamsPart = ListPart ProcParamIs (λ Q names. KeepsParam Q) 8

abbrev pub HolderPart : Part (Named × Named)
HolderPart Q names ts h rest = HolderIs names ts h rest

abbrev pub HoldersPart : Part (List (Named × Named))
HoldersPart = AnyListPart HolderIs

abbrev pub SessionParamPart : Part SessionParam
SessionParamPart Q names ts s rest = SessionParamIs names ts s rest

abbrev pub SessionParamsPart : Part (List SessionParam)
SessionParamsPart = ListPart SessionParamIs (Unlimited SessionParamIs) 8

abbrev pub SessionsPart : Part (List SessionParam)
SessionsPart Q names ts ss rest = (d : SessionsAre names ts ss rest) × KeepsSessions Q d

-- with a parenthesis the last parameter could go on
abbrev pub AParen : Further
AParen = AMark mark.OpenParen

-- with a semicolon too, or a comma
abbrev pub OrSession : Further
OrSession = Or (AMark mark.Semicolon) (OrComma AParen)

-- with a name too
abbrev pub OrParams : Further
OrParams = Or AName OrSession

abbrev pub ParamsPart : Part (List ProcParam × List SessionParam)
ParamsPart Q names ts v rest = (d : ParamsAre names ts v.0 v.1 rest) × KeepsParams Q d
