-- What the tokens of a source derive, item by item.
use Rattle.std.proofs.Common.{ℕ, List}
use Rattle.std.specs.List.{AllByRecursion}
use Rattle.chor_lexer.specs.declared.token.Token.{Token}
use Rattle.source_grammar.specs.Symbols.{nowhere}
use Rattle.chor_tree.specs.declared.protocol.State.{State}
use Rattle.chor_tree.specs.Source.{Items}
use Rattle.source_grammar.specs.Grammar.{MoreAre, no_more, one_more, ListIs, a_list, StateIs, MoreStatesAre, no_state, one_state, StatesAre, some_states, ItemsAre, no_item, protocol_first, service_first, procedure_first}
use Rattle.source_grammar.specs.Limits.{KeepsItems}
use Rattle.source_grammar.specs.Parts.{ProtocolPart, ServicePart}
use Rattle.source_grammar.specs.Files.{ProcedurePart}

-- some tokens derive the item
pub record Derived {A : Type 0} (Item : List Token → A → List Token → Type 0) (x : A) : Type 0 where
  pub from : List Token
  pub to : List Token
  pub is : Item from x to

more_derived : {A : Type 0} {Item : List Token → A → List Token → Type 0} (xs : List A) {us vs : List Token} → MoreAre Item us xs vs → AllByRecursion (Derived Item) xs
more_derived xs no_more = tt
more_derived ys (one_more {xs = xs} m d r) = (record { from = _; to = _; is = d }, more_derived xs r)

pub list_derived : {A : Type 0} {Item : List Token → A → List Token → Type 0} (xs : List A) {us vs : List Token} → ListIs Item us xs vs → AllByRecursion (Derived Item) xs
list_derived ys (a_list {xs = xs} d r) = (record { from = _; to = _; is = d }, more_derived xs r)

more_states_derived : {names : List (List ℕ)} (ss : List State) {us vs : List Token} → MoreStatesAre names us ss vs → AllByRecursion (Derived (StateIs names)) ss
more_states_derived ss no_state = tt
more_states_derived ys (one_state {ss = ss} d r) = (record { from = _; to = _; is = d }, more_states_derived ss r)

pub states_derived : {names : List (List ℕ)} (ss : List State) {us vs : List Token} → StatesAre names us ss vs → AllByRecursion (Derived (StateIs names)) ss
states_derived ys (some_states {ss = ss} d r) = (record { from = _; to = _; is = d }, more_states_derived ss r)

-- each item that stands before main, whatever their order, within its limits
pub record Gathered (names : List (List ℕ)) (is : Items) : Type 0 where
  pub protocols : AllByRecursion (Derived (ProtocolPart nowhere names)) is.protocols
  pub services : AllByRecursion (Derived (ServicePart nowhere names)) is.services
  pub procedures : AllByRecursion (Derived (ProcedurePart nowhere names)) is.procedures

pub gathered : {names : List (List ℕ)} (is : Items) {us vs : List Token} (d : ItemsAre names us is vs) → KeepsItems nowhere d → Gathered names is
gathered is no_item keeps = record { protocols = tt; services = tt; procedures = tt }
gathered is (protocol_first {is = others} d r) keeps =
    let g = gathered others r keeps.1 in record { protocols = (record { from = _; to = _; is = (d, keeps.0) }, g.protocols); services = g.services; procedures = g.procedures }
gathered is (service_first {is = others} d r) keeps =
    let g = gathered others r keeps.1 in record { protocols = g.protocols; services = (record { from = _; to = _; is = (d, keeps.0) }, g.services); procedures = g.procedures }
gathered is (procedure_first {is = others} d r) keeps =
    let g = gathered others r keeps.1 in record { protocols = g.protocols; services = g.services; procedures = (record { from = _; to = _; is = (d, keeps.0) }, g.procedures) }
