use Rattle.std.proofs.Common.{◌&&◌, ap, ◌∙◌}
use Rattle.std.proofs.lemmas.Result.{on_ok_weaker}
use Rattle.linear_check.specs.Heard.{hears}
use Rattle.linear_check.proofs.heard.Heard.forget.Goals as goal

pub returns : goal.returns
returns c =
    on_ok_weaker c.keep.result
    (λ h n x lt. h n x ∙ ap (λ b. hears c.args.self.now n x && b) (c.not_named-others.ensures n lt))
    c.keep.ensures
