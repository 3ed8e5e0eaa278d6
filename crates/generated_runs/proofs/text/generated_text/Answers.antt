use Rattle.std.proofs.Common.{◌≡◌, ℕ, Result, Ok, Err, IfOk}
use Rattle.std.specs.Prelude.{Vec}
use Rattle.std.specs.declared.alloc.Global.{Global}
use Rattle.chor_base.specs.declared.memory.Memory.{Memory}
use Rattle.chor_tree.specs.declared.file.File.{File}
use Rattle.chor_print.specs.Text.{canonical_text}
use Rattle.generated_files.specs.Generated.{IsGenerated}
use Rattle.generated_runs.specs.Texts.{IsGeneratedText}
use Rattle.generated_runs.proofs.text.generated_text.Goals as goal

text_made : (n : ℕ) (f : File) (o : Result (Vec ℕ Global) Memory) → IsGenerated f n → IfOk o (λ text. text.items ≡ canonical_text f) → IfOk o (λ text. IsGeneratedText n text.items)
text_made n f (Ok text) generated is = record { file = f; generated = generated; text_is = is }
text_made n f (Err e) generated is = tt

pub returns : goal.returns
returns c = text_made c.args.count c.in_ok-file.file c.text_of-text.result c.in_ok-file.ensures.generated c.text_of-text.ensures
