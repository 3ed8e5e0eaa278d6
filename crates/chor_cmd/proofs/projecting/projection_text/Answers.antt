use Rattle.std.proofs.Common.{sym, subst}
use Rattle.endpoint_code.specs.declared.endpoints.Endpoints.{Endpoints}
use Rattle.projection.specs.Projects.{Projects}
use Rattle.chor_cmd.proofs.projecting.projection_text.Goals as goal

pub returns : goal.returns
returns c = record {
  endpoints = c.endpoints.result.now;
  projects = subst (λ (e : Endpoints). Projects c.args.accepted.now.typed.file e) (sym c.endpoints.ensures.endpoints) c.requires;
  text_is = c.in_ok-text.ensures;
}
