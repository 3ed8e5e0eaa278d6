-- What is made of a source and given endpoint programs (this project's own).
use Rattle.std.specs.Prelude.{ℕ, ◌≡◌, List}
use Rattle.chor_host.specs.Functions.{Function, names_of}
use Rattle.chor_io.specs.Outside.{ShelfState}
use Rattle.endpoint_code.specs.declared.endpoints.Endpoints.{Endpoints}
use Rattle.endpoint_link.specs.declared.fault.LinkRule.{LinkRule}
use Rattle.endpoint_link.specs.declared.fault.Unit.{Unit as AnyUnit}
use Rattle.endpoint_link.specs.Judged.{IsFirstLinkFault}
use Rattle.endpoint_link.specs.Linked.{IsLinked}
use Rattle.accepted_links.specs.Line.{refusal_line}
use Rattle.accepted_links.specs.Linked.{AreToLink}
use Rattle.simulation.specs.Accepted.{AcceptedView}
use Rattle.chor_cmd.specs.declared.linking.Linking.{Linking}
use Rattle.chor_cmd.specs.declared.linking.Linking.TheVariants.{Linked, Unsuited}
use Rattle.chor_cmd.specs.Rows.{source_limit, programs_limit}
use Rattle.chor_cmd.specs.Stops.{HasFetched}

-- the line tells the first given unit that can't take the place of one of the projection
pub record TellsUnsuited (projection given : Endpoints) (line : List ℕ) : Type 0 where
  pub rule : LinkRule
  pub unit : AnyUnit
  pub first : IsFirstLinkFault projection given rule unit
  pub line_is : line ≡ refusal_line given rule unit

-- A source of this projection is linked with these given programs, or one of them is unsuited
abbrev pub IsLinkingOf : AcceptedView → Endpoints → Linking → Type 0
IsLinkingOf a given (Linked linked) = (linked.typed ≡ a.typed) × IsLinked a.endpoints given linked.endpoints
IsLinkingOf a given (Unsuited line) = TellsUnsuited a.endpoints given line.items

-- The files of these names may have these bytes, a source that violates no rule and programs without a fault, of which this was made
pub record HasLinked (functions : List Function) (shelf : ShelfState) (name units_name : List ℕ) (linking : Linking) : Type 0 where
  pub source : List ℕ
  pub units : List ℕ
  pub accepted : AcceptedView
  pub hosts : accepted.typed.hosts ≡ names_of functions
  pub given : Endpoints
  pub source_read : HasFetched source_limit shelf name source
  pub units_read : HasFetched programs_limit shelf units_name units
  pub input : AreToLink functions source units accepted.typed.file accepted.endpoints given
  pub linked : IsLinkingOf accepted given linking
