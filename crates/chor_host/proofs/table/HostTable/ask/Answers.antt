use Rattle.std.proofs.Common.{◌≡◌, ℤ, Option, sym, subst, w64, to_z, of_z, SFits}
use Rattle.std.proofs.lemmas.Int.{to_z-of_z}
use Rattle.chor_base.specs.declared.meaning.Meaning.{Meaning}
use Rattle.chor_base.specs.Meaning.{MayAnswer}
use Rattle.chor_base.specs.Words.{AllDistinct}
use Rattle.chor_host.specs.Functions.{function_of}
use Rattle.chor_host.specs.Tables.{functions_of}
use Rattle.chor_host.proofs.Meanings.{asked}
use Rattle.chor_host.proofs.table.HostTable.ask.Goals as goal

back : (z : ℤ) → SFits w64 z → to_z w64 (of_z w64 z) ≡ z
back z h = to_z-of_z w64 z h

may_back : (m : Option Meaning) (a b v : ℤ) → SFits w64 a → SFits w64 b → SFits w64 v → MayAnswer m (to_z w64 (of_z w64 a)) (to_z w64 (of_z w64 b)) v → MayAnswer m a b (to_z w64 (of_z w64 v))
may_back m a b v fits fits' within h =
    subst (λ (x : ℤ). MayAnswer m x b (to_z w64 (of_z w64 v))) (back a fits) (subst (λ (y : ℤ). MayAnswer m (to_z w64 (of_z w64 a)) y (to_z w64 (of_z w64 v))) (back b fits') (subst (λ (z : ℤ). MayAnswer m (to_z w64 (of_z w64 a)) (to_z w64 (of_z w64 b)) z) (sym (back v within)) h))

-- src/table/calls.rt:92:5
pub returns-in-Some-clause-allowed : goal.returns-in-Some-clause-allowed
returns-in-Some-clause-allowed g c =
    let distinct = subst AllDistinct c.args.self.now.named c.args.self.now.distinct in
    let known = asked (functions_of c.args.self.now) (function_of c.at.result.now) c.args.name.now c.in-Some.index distinct c.in-Some.ensures.found c.at.ensures in
    may_back _ c.args.a c.args.b c.ask.result c.ranges.a c.ranges.b (record { sfits = c.ask.type_inv }) (known.may _ _ _ c.ask.ensures.allowed)
