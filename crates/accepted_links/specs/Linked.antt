-- A source that is linked with endpoint programs written by hand (this project's own).
use Rattle.std.specs.Prelude.{ℕ, ◌≡◌, ◌↔◌, List, Option}
use Rattle.chor_base.specs.declared.event.Event.{Event}
use Rattle.chor_base.specs.Meaning.{Hosts}
use Rattle.chor_tree.specs.declared.file.File.{File}
use Rattle.chor_host.specs.Functions.{Function, names_of}
use Rattle.chor_semantics.specs.Runs.{IsRun}
use Rattle.endpoint_code.specs.declared.endpoints.Endpoints.{Endpoints}
use Rattle.endpoint_check.specs.Programs.{AreProgramsOf}
use Rattle.endpoint_link.specs.declared.fault.LinkRule.{LinkRule}
use Rattle.endpoint_link.specs.declared.fault.Unit.{Unit as AnyUnit}
use Rattle.endpoint_link.specs.Judged.{IsFirstLinkFault}
use Rattle.endpoint_link.specs.Linked.{IsLinked}
use Rattle.projection.specs.Projects.{Projects}
use Rattle.accepted_files.specs.LinkedRuns.{IsRunOfNetwork}
use Rattle.source_check.specs.declared.rules.Rules.TheVariants.{All}
use Rattle.source_check.specs.Source.{IsAccepted}
use Rattle.accepted_links.specs.Line.{refusal_line}

-- the network of these programs has exactly the runs of the file's choreography, under any capacity
abbrev pub HasRunsOf : File → Endpoints → Type 0
HasRunsOf f r = (hosts : Hosts) (cap : Option ℕ) (h : List Event) → IsRunOfNetwork r hosts cap h ↔ IsRun f hosts cap h

-- What is to be linked: the first bytes are a source that violates no rule, and this is its projection; the second bytes are
-- these endpoint programs, which have no fault
pub record AreToLink (functions : List Function) (source units : List ℕ) (f : File) (projection given : Endpoints) : Type 0 where
  pub accepted : IsAccepted All (names_of functions) source f
  pub projects : Projects f projection
  pub programs : AreProgramsOf (names_of functions) units given

-- These programs are the projection of the source, with the given ones in their places
pub record AreLinkedPrograms (functions : List Function) (source units : List ℕ) (f : File) (linked : Endpoints) : Type 0 where
  pub projection : Endpoints
  pub given : Endpoints
  pub input : AreToLink functions source units f projection given
  pub links : IsLinked projection given linked

-- The line tells the first given unit that can't take the place of one of the projection, and the rule that it violates
pub record IsLinkRefusal (functions : List Function) (source units line : List ℕ) : Type 0 where
  pub file : File
  pub projection : Endpoints
  pub given : Endpoints
  pub input : AreToLink functions source units file projection given
  pub rule : LinkRule
  pub unit : AnyUnit
  pub first : IsFirstLinkFault projection given rule unit
  pub line_is : line ≡ refusal_line given rule unit
