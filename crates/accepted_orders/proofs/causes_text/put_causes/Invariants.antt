use Rattle.std.proofs.Common.{◌≡◌, ◌++◌, drop}
use Rattle.accepted_orders.specs.Texts.{numbers_text}
use Rattle.accepted_orders.proofs.causes_text.put_causes.Given as goal

abbrev pub invariant-loop-cause : goal.invariant-loop-cause
invariant-loop-cause l = l.text.items ++ numbers_text (drop l.cause-index l.causes) ≡ l.initial.text.items ++ numbers_text l.causes
