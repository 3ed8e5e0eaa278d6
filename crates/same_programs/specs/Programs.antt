-- Endpoint programs with the same units (this project's own): names and texts are compared as bytes, and code as trees.
use Rattle.std.specs.Prelude.{◌≡◌}
use Rattle.std.specs.List.{AllZip}
use Rattle.chor_base.specs.declared.names.NameId.{NameId}
use Rattle.chor_base.specs.Meaning.{Hosts, meaning_named}
use Rattle.endpoint_code.specs.declared.code.CodeId.{CodeId}
use Rattle.endpoint_code.specs.declared.endpoints.Channel.{Channel}
use Rattle.endpoint_code.specs.declared.endpoints.Procedure.{Procedure}
use Rattle.endpoint_code.specs.declared.endpoints.ServiceCode.{ServiceCode}
use Rattle.endpoint_code.specs.declared.endpoints.Process.{Process}
use Rattle.endpoint_code.specs.declared.endpoints.Endpoints.{Endpoints}
use Rattle.endpoint_code.specs.Faults.{IsFaultless}
use Rattle.endpoint_code.specs.Trees.{code_at}
use Rattle.same_programs.specs.Words.{SameName, SameText, HasDistinctWords}
use Rattle.same_programs.specs.Codes.{SameCode}

-- the code at q of e is the code at p of e'
abbrev pub SameCodeAt : Endpoints → Endpoints → CodeId → CodeId → Type 0
SameCodeAt e e' q p = SameCode (SameName e e') (SameText e e') (code_at e.code.nodes q) (code_at e'.code.nodes p)

pub record SameChannel (e e' : Endpoints) (c d : Channel) : Type 0 where
  pub name : SameName e e' c.name d.name
  pub active : AllZip (SameName e e') c.active d.active
  pub serve : AllZip (SameName e e') c.serve d.serve

pub record SameProcedure (e e' : Endpoints) (q p : Procedure) : Type 0 where
  pub name : SameName e e' q.name p.name
  pub param : SameName e e' q.param p.param
  pub sessions : AllZip (SameName e e') q.sessions p.sessions
  pub body : SameCodeAt e e' q.body p.body

pub record SameService (e e' : Endpoints) (s r : ServiceCode) : Type 0 where
  pub channel : SameName e e' s.channel r.channel
  pub role : SameName e e' s.role r.role
  pub body : SameCodeAt e e' s.body r.body

pub record SameProcess (e e' : Endpoints) (p q : Process) : Type 0 where
  pub name : SameName e e' p.name q.name
  pub body : SameCodeAt e e' p.body q.body

-- The same channels, procedures, services and processes, each list in its order
pub record SamePrograms (e e' : Endpoints) : Type 0 where
  pub channels : AllZip (SameChannel e e') e.channels e'.channels
  pub procedures : AllZip (SameProcedure e e') e.procedures e'.procedures
  pub services : AllZip (SameService e e') e.services e'.services
  pub processes : AllZip (SameProcess e e') e.processes e'.processes

-- e' has the programs of e, which have no fault, and neither has a name or a text twice in its table
pub record IsCopy (e e' : Endpoints) : Type 0 where
  pub same : SamePrograms e e'
  pub faultless : IsFaultless e
  pub words : HasDistinctWords e
  pub copied_words : HasDistinctWords e'

-- host functions of the same name have the same meaning
abbrev pub SameHosts : Endpoints → Endpoints → Hosts → Hosts → Type 0
SameHosts e e' hosts hosts' = (f g : NameId) → SameName e e' f g → meaning_named hosts f ≡ meaning_named hosts' g
