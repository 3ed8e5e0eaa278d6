use Rattle.std.proofs.Common.{◌≡◌, ◌++◌, drop}
use Rattle.local_types.specs.Text.{labels_text}
use Rattle.local_types.proofs.print.put_labels.Given as goal

abbrev pub invariant-loop-label : goal.invariant-loop-label
invariant-loop-label l = l.text.items ++ labels_text l.names (drop l.label-index l.labels) ≡ l.initial.text.items ++ labels_text l.names l.labels
