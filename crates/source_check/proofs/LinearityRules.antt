-- The faults of linearity are violations of U1 or U2.
use Rattle.std.proofs.Common.{ℕ, ◌==◌, refl, subst, inl, inr, if◌then◌else◌}
use Rattle.chor_base.specs.declared.names.NameId.{NameId}
use Rattle.chor_base.specs.declared.rule.Rule.{Rule}
use Rattle.chor_base.specs.declared.rule.Rule.TheVariants.{U1, U2}
use Rattle.chor_base.specs.declared.fault.Fault.{Fault}
use Rattle.chor_tree.specs.declared.file.File.{File}
use Rattle.chor_tree.specs.Source.{Block}
use Rattle.typing_rules.specs.Guarded.{IsUnguardedCall, here, further}
use Rattle.well_formed.specs.Linear.{Members, ParameterSets}
use Rattle.linearity.specs.OrderFaults.{IsUnorderedStart, here as at_start, after, first, second, IsUnorderedIn, in_main, in_a_procedure}
use Rattle.linear_check.specs.Class.{IsLinearityFault}
use Rattle.source_check.proofs.ClassRules.{IsOf}

abbrev pub linear_rule : ℕ → Rule
linear_rule n = if n == 49 then U1 else U2

abbrev IsLinear : Fault → Type 0
IsLinear x = IsOf linear_rule x.rule

of_call : (p : NameId) (x : Fault) (b : Block) → IsUnguardedCall p x b → IsLinear x
of_call p x b (here passed is) = subst IsLinear is refl
of_call p x b (further {next = next} unnamed m more) = of_call p x next more

of_start : (a : NameId) (x : Fault) (members : Members) (b : Block) → IsUnorderedStart a x members b → IsLinear x
of_start a x members b (at_start joins is) = subst IsLinear is refl
of_start a x members b (after more) = of_start a x _ _ more
of_start a x members b (first more) = of_start a x _ _ more
of_start a x members b (second more) = of_start a x _ _ more

of_unordered : (f : File) (a : NameId) (sets : ParameterSets) (x : Fault) → IsUnorderedIn f a sets x → IsLinear x
of_unordered f a sets x (in_main u) = of_start a x _ _ u
of_unordered f a sets x (in_a_procedure m u) = of_start a x _ _ u

pub is_linear_rule : (f : File) (x : Fault) → IsLinearityFault f x → IsOf linear_rule x.rule
is_linear_rule f x (inl h) = of_call h.param.name.name x _ h.is_call
is_linear_rule f x (inr h) = of_unordered f h.service.name.name h.sets x h.unordered
