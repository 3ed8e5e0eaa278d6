use Rattle.std.proofs.Common.{◌≡◌, ℤ, sym, subst, w64, to_z, of_z, SFits}
use Rattle.std.proofs.lemmas.Int.{to_z-of_z}
use Rattle.chor_base.specs.Meaning.{IsAllowed}
use Rattle.chor_base.specs.Words.{AllDistinct}
use Rattle.chor_host.specs.Functions.{function_of}
use Rattle.chor_host.specs.Tables.{functions_of}
use Rattle.chor_host.proofs.Meanings.{asked, unnamed}
use Rattle.chor_host.proofs.table.HostTable.allows.Goals as goal

-- the numbers of a call are those that were handed over
same_numbers : (A : ℤ → ℤ → ℤ → Type 0) (a b v : ℤ) → SFits w64 a → SFits w64 b → SFits w64 v → (A (to_z w64 (of_z w64 a)) (to_z w64 (of_z w64 b)) (to_z w64 (of_z w64 v)) → A a b v) × (A a b v → A (to_z w64 (of_z w64 a)) (to_z w64 (of_z w64 b)) (to_z w64 (of_z w64 v)))
same_numbers A a b v fits fits' within =
    let x : to_z w64 (of_z w64 a) ≡ a = to_z-of_z w64 a fits in
    let y : to_z w64 (of_z w64 b) ≡ b = to_z-of_z w64 b fits' in
    let z : to_z w64 (of_z w64 v) ≡ v = to_z-of_z w64 v within in (
      λ h. subst (λ (i : ℤ). A i b v) x (subst (λ (j : ℤ). A (to_z w64 (of_z w64 a)) j v) y (subst (λ (k : ℤ). A (to_z w64 (of_z w64 a)) (to_z w64 (of_z w64 b)) k) z h)),
      λ h. subst (λ (k : ℤ). A (to_z w64 (of_z w64 a)) (to_z w64 (of_z w64 b)) k) (sym z) (subst (λ (j : ℤ). A (to_z w64 (of_z w64 a)) j v) (sym y) (subst (λ (i : ℤ). A i b v) (sym x) h)),
    )

pub returns-in-Some : goal.returns-in-Some
returns-in-Some g c =
    let distinct = subst AllDistinct c.args.self.now.named c.args.self.now.distinct in
    let known = asked (functions_of c.args.self.now) (function_of c.at.result.now) c.args.name.now c.in-Some.index distinct c.in-Some.ensures.found c.at.ensures in
    let same = same_numbers (λ x y z. IsAllowed c.at.result.now.meaning x y z) c.args.a c.args.b c.args.value c.ranges.a c.ranges.b c.ranges.value in
    (λ h. known.may _ _ _ (same.0 (c.allows.ensures.0 h)), λ h. c.allows.ensures.1 (same.1 (known.only _ _ _ h)))

pub returns-in-None : goal.returns-in-None
returns-in-None g c =
    (λ h. absurd cc, λ h. absurd (unnamed (functions_of c.args.self.now) c.args.name.now _ _ c.args.value c.in-None.ensures.absent h))
