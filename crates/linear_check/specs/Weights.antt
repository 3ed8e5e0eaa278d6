-- How much of what the calls of a file pass is still in the sets (this project's own): a measure of the walks, which falls
-- where a walk takes a parameter away.
use Rattle.std.specs.Prelude.{ℕ, zero, suc, ◌+◌, ◌<◌, ◌≤◌, ◌==◌, ◌&&◌, ◌^◌, List, [], ◌∷◌, length, Option, Some, None}
use Rattle.std.specs.Map.{lookup}
use Rattle.chor_base.specs.declared.names.NameId.{NameId}
use Rattle.chor_tree.specs.declared.tree.Form.{Form}
use Rattle.chor_tree.specs.declared.tree.Form.TheVariants.{Call}
use Rattle.chor_tree.specs.declared.tree.Node.{Node}
use Rattle.linearity.specs.Marks.{bits_of}
use Rattle.linearity.specs.declared.marks.Marks.{Marks}
use Rattle.linear_check.specs.declared.sets.Sets.{Sets}

-- the marks of a parameter as a number; one of which nothing is known has more than any
abbrev pub weight_in : Option Marks → ℕ
weight_in None = 2 ^ 128
weight_in (Some m) = bits_of m

-- the same of a parameter by its procedure and place
abbrev pub weight_at : Sets → NameId → ℕ → ℕ
weight_at s f i = weight_in (lookup (λ k. (f.0 == k.procedure.0) && (i == k.place)) s.marks.entries)

-- the sum over the first parameters of a procedure
abbrev pub weight_below : Sets → NameId → ℕ → ℕ
weight_below s f zero = 0
weight_below s f (suc n) = weight_below s f n + weight_at s f n

-- the sum over what a node passes, if it is a call
abbrev pub form_weight : Sets → Form → ℕ
form_weight s (Call f ps ss) = weight_below s f.name (length ps)
form_weight s _ = 0

-- the sum over all calls
abbrev pub weight_of : Sets → List Node → ℕ
weight_of s [] = 0
weight_of s (n ∷ ns) = form_weight s n.form + weight_of s ns

-- a parameter has less than before
abbrev pub IsLighterAt : NameId → ℕ → Sets → Sets → Type 0
IsLighterAt f i new old = weight_at new f i < weight_at old f i

-- the first parameters of a procedure have
abbrev pub IsLighterBelow : NameId → ℕ → Sets → Sets → Type 0
IsLighterBelow f n new old = weight_below new f n < weight_below old f n

-- what all calls pass has
abbrev pub IsLighter : List Node → Sets → Sets → Type 0
IsLighter ns new old = weight_of new ns < weight_of old ns

-- no parameter has more than before
abbrev pub IsNoHeavier : Sets → Sets → Type 0
IsNoHeavier new old = (f : NameId) (i : ℕ) → weight_at new f i ≤ weight_at old f i
