-- What is proved of endpoint programs that can be linked, and of those that can't.
use Rattle.std.specs.Prelude.{◌≡◌}
use Rattle.endpoint_code.specs.declared.endpoints.Endpoints.{Endpoints}
use Rattle.endpoint_link.specs.declared.fault.LinkRule.{LinkRule}
use Rattle.endpoint_link.specs.declared.fault.Unit.{Unit as AnyUnit}
use Rattle.endpoint_link.specs.Judged.{IsFirstLinkFault}
use Rattle.endpoint_link.specs.Linked.{IsLinked}

-- where there are linked programs no unit fails
abbrev pub LinkedHasNoFault : Type 0
LinkedHasNoFault = (e g r : Endpoints) → IsLinked e g r → (rule : LinkRule) (unit : AnyUnit) → IsFirstLinkFault e g rule unit → ⊥

-- one unit at most is the first that fails, by one rule
abbrev pub OneLinkFault : Type 0
OneLinkFault = (e g : Endpoints) (a b : LinkRule) (x y : AnyUnit) → IsFirstLinkFault e g a x → IsFirstLinkFault e g b y → (a ≡ b) × (x ≡ y)
