use Rattle.chor_base.specs.declared.names.NameId.{NameId}
use Rattle.endpoint_link.proofs.GrownWords.{WordsUnderway}
use Rattle.endpoint_link.proofs.words.joined_names.Given as goal

abbrev pub invariant-loop-place : goal.invariant-loop-place
invariant-loop-place l = WordsUnderway (λ (n : NameId). n.0) l.base l.given l.names l.numbers l.place
