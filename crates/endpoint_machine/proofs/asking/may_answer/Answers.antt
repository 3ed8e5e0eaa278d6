use Rattle.std.proofs.Common.{◌≡◌, ℤ, Option, sym, subst, w64, to_z, of_z, rules}
use Rattle.chor_base.specs.declared.meaning.Meaning.{Meaning}
use Rattle.chor_base.specs.Meaning.{MayAnswer}
use Rattle.chor_host.specs.Tables.{functions_of}
use Rattle.chor_host.proofs.Meanings.{by_number}
use Rattle.endpoint_machine.proofs.asking.may_answer.Goals as goal

-- the numbers of a call are those that were handed over
same_numbers : (m : Option Meaning) (a b v a' b' v' : ℤ) → a ≡ a' → b ≡ b' → v ≡ v' → MayAnswer m a b v → MayAnswer m a' b' v'
same_numbers m a b v a' b' v' x y z h =
    subst (λ (k : ℤ). MayAnswer m a' b' k) z (subst (λ (j : ℤ). MayAnswer m a' j v) y (subst (λ (i : ℤ). MayAnswer m i b v) x h))

pub returns : goal.returns
returns g c =
    let same = by_number c.args.names.now (functions_of c.args.hosts.now) c.args.name c.word_of-word.result.now c.word_of-word.ensures.distinct c.word_of-word.ensures.word in
    let left : to_z w64 (of_z w64 c.args.numbers.0) ≡ c.args.numbers.0 = search rules in
    let right : to_z w64 (of_z w64 c.args.numbers.1) ≡ c.args.numbers.1 = search rules in
    let value : to_z w64 (of_z w64 c.args.value) ≡ c.args.value = search rules in (
      λ h. subst (λ (m : Option Meaning). MayAnswer m c.args.numbers.0 c.args.numbers.1 c.args.value) (sym same) (same_numbers _ _ _ _ _ _ _ left right value (c.allows.ensures.0 h)),
      λ h. c.allows.ensures.1 (same_numbers _ _ _ _ _ _ _ (sym left) (sym right) (sym value) (subst (λ (m : Option Meaning). MayAnswer m c.args.numbers.0 c.args.numbers.1 c.args.value) same h)),
    )
