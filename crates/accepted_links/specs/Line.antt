-- The line that says which given unit can't be linked (this project's own).
use Rattle.std.specs.Prelude.{ℕ, List, [], ◌∷◌, ◌++◌, Option, Some, None, slice_get, codes}
use Rattle.chor_base.specs.Writing.{name_in}
use Rattle.endpoint_code.specs.declared.endpoints.Channel.{Channel}
use Rattle.endpoint_code.specs.declared.endpoints.Procedure.{Procedure}
use Rattle.endpoint_code.specs.declared.endpoints.ServiceCode.{ServiceCode}
use Rattle.endpoint_code.specs.declared.endpoints.Process.{Process}
use Rattle.endpoint_code.specs.declared.endpoints.Endpoints.{Endpoints}
use Rattle.endpoint_link.specs.declared.fault.LinkRule.{LinkRule}
use Rattle.endpoint_link.specs.declared.fault.LinkRule.TheVariants.{K1, K2}
use Rattle.endpoint_link.specs.declared.fault.Unit.{Unit as AnyUnit}
use Rattle.endpoint_link.specs.declared.fault.Unit.TheVariants as units

-- `K1` or `K2`
abbrev pub rule_word : LinkRule → List ℕ
rule_word K1 = codes "K1"
rule_word K2 = codes "K2"

-- `channel a`
abbrev pub channel_text : Endpoints → Channel → List ℕ
channel_text g c = codes "channel " ++ name_in g.names c.name

-- `procedure F p`
abbrev pub procedure_text : Endpoints → Procedure → List ℕ
procedure_text g q = codes "procedure " ++ name_in g.names q.name ++ codes " " ++ name_in g.names q.param

-- `service a[C]`
abbrev pub service_text : Endpoints → ServiceCode → List ℕ
service_text g s = codes "service " ++ name_in g.names s.channel ++ codes "[" ++ name_in g.names s.role ++ codes "]"

-- `process p`
abbrev pub process_text : Endpoints → Process → List ℕ
process_text g p = codes "process " ++ name_in g.names p.name

-- the text of a unit, if there is one
abbrev pub text_if_any : {A : Type 0} → (A → List ℕ) → Option A → List ℕ
text_if_any text None = []
text_if_any text (Some x) = text x

-- `channel a`, `procedure F p`, `service a[C]` or `process p`
abbrev pub unit_text : Endpoints → AnyUnit → List ℕ
unit_text g (units.Channel i) = text_if_any (channel_text g) (slice_get g.channels i)
unit_text g (units.Procedure i) = text_if_any (procedure_text g) (slice_get g.procedures i)
unit_text g (units.Service i) = text_if_any (service_text g) (slice_get g.services i)
unit_text g (units.Process i) = text_if_any (process_text g) (slice_get g.processes i)

-- `refused K1 process p`
abbrev pub refusal_line : Endpoints → LinkRule → AnyUnit → List ℕ
refusal_line g rule unit = codes "refused " ++ rule_word rule ++ codes " " ++ unit_text g unit ++ 10 ∷ []
