use Rattle.std.proofs.Common.{◌≡◌, ℤ, Option, sym, subst, w64, to_z, of_z, rules}
use Rattle.chor_base.specs.declared.meaning.Meaning.{Meaning}
use Rattle.chor_base.specs.Meaning.{MayAnswer}
use Rattle.chor_host.specs.Tables.{functions_of}
use Rattle.chor_host.proofs.Meanings.{by_number}
use Rattle.endpoint_machine.proofs.asking.answer_of.Goals as goal

moved : {m k : Option Meaning} {a b v a' b' v' : ℤ} → m ≡ k → a ≡ a' → b ≡ b' → v ≡ v' → MayAnswer m a b v → MayAnswer k a' b' v'
moved {k} {a} {b} {v} {a'} {b'} m l r z h =
    subst (λ (x : ℤ). MayAnswer k a' b' x) z (subst (λ (x : ℤ). MayAnswer k a' x v) r (subst (λ (x : ℤ). MayAnswer k x b v) l (subst (λ (x : Option Meaning). MayAnswer x a b v) m h)))

pub returns : goal.returns
returns g c =
    let same = by_number c.args.names.now (functions_of c.args.hosts.now) c.args.name c.word_of-word.result.now c.word_of-word.ensures.distinct c.word_of-word.ensures.word in
    let left : to_z w64 (of_z w64 c.args.left) ≡ c.args.left = search rules in
    let right : to_z w64 (of_z w64 c.args.right) ≡ c.args.right = search rules in
    let answer : to_z w64 (of_z w64 c.in-Some.answer) ≡ c.in-Some.answer = search rules in
    record { answers = moved (sym same) left right (sym answer) c.in-Some.ensures.allowed }
