use Rattle.std.proofs.Common.{subst, ap, ◌∙◌, map}
use Rattle.chor_base.specs.Faults.{IsFirst}
use Rattle.chor_tree.specs.declared.file.ProcParam.{ProcParam}
use Rattle.chor_tree.specs.Source.{body_of}
use Rattle.guard_check.specs.InBodies.{IsUnguardedIn}
use Rattle.guard_check.proofs.checking.first_in_procedure.Goals as goal

pub returns : goal.returns
returns c =
    let f = c.args.file.now in
    let body = body_of f c.args.procedure.now.body in
    subst (λ ps. IsFirst (IsUnguardedIn ps body) c.in_ok-first.first) (c.in_ok-params.ensures ∙ ap (map (λ (q : ProcParam). q.name.name)) c.as_slice.ensures) c.in_ok-first.ensures
