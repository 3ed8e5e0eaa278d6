-- The expressions of a source.
use Rattle.std.specs.List.{AllByRecursion}
use Rattle.chor_base.specs.Expr.{Term}
use Rattle.chor_tree.specs.Source.{Statement, Starts, Sends, Selects, Gives, Sets, Asks, Shows, Block, Then, Either, Calls, Ends, Source}

-- P holds of the expressions of a statement
abbrev pub AllInStatement : (Term → Type 0) → Statement → Type 0
AllInStatement P (Starts c k active serve) = Unit {0}
AllInStatement P (Sends a e b x k) = P e
AllInStatement P (Selects a b k l) = Unit {0}
AllInStatement P (Gives a b k h) = Unit {0}
AllInStatement P (Sets p x e) = P e
AllInStatement P (Asks p x f a b) = P a × P b
AllInStatement P (Shows p e) = P e

-- of a block
abbrev pub AllInBlock : (Term → Type 0) → Block → Type 0
AllInBlock P (Then p s b) = AllInStatement P s × AllInBlock P b
AllInBlock P (Either p q e a b) = P e × AllInBlock P a × AllInBlock P b
AllInBlock P (Calls p f ps ks) = Unit {0}
AllInBlock P (Ends p) = Unit {0}

-- of a whole source
abbrev pub AllTerms : (Term → Type 0) → Source → Type 0
AllTerms P s = AllByRecursion (λ p. AllInBlock P p.body) s.items.procedures × AllInBlock P s.body
