use Rattle.std.proofs.Common.{◌++◌, ◌∙◌, List, ℕ, ap}
use Rattle.chor_print.specs.Text.{canonical_text}
use Rattle.generated_runs.proofs.text.text_of.Goals as goal

pub returns : goal.returns
returns c = c.in_ok-print.ensures.ok ∙ ap (λ (old : List ℕ). old ++ canonical_text c.args.file.now) c.new-text.ensures.items
