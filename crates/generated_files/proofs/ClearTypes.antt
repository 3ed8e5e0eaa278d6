-- A block in which nothing violates a rule of types has no fault.
use Rattle.std.proofs.Common.{◌≡◌, zero, suc, sym, subst, Some, None, arith}
use Rattle.chor_base.specs.declared.fault.Fault.{Fault}
use Rattle.chor_base.specs.declared.rule.Rule.{Rule}
use Rattle.chor_tree.specs.declared.file.File.{File}
use Rattle.chor_tree.specs.Source.{Block, Then, Either, Calls, Ends}
use Rattle.delegation.specs.Checks.{Check}
use Rattle.typing_rules.specs.Environment.{Environment}
use Rattle.typing_rules.specs.Checks.{rule_at}
use Rattle.typing_rules.specs.After.{after_statement}
use Rattle.typing_rules.specs.TypeFaults.{IsBodyFault, here, further}
use Rattle.generated_files.proofs.Lists.{no_member, one_member}

module _ (f : File) where
  -- no rule is violated at the block's head, nor in what follows it
  abbrev pub IsClear : Environment → Block → Type 0
  IsClear e (Then place s next) = (rule_at f e (Then place s next) ≡ None) × IsClear (after_statement f e s) next
  IsClear e (Either place p x first second) = (rule_at f e (Either place p x first second) ≡ None) × IsClear e first × IsClear e second
  IsClear e (Calls place g ps ks) = rule_at f e (Calls place g ps ks) ≡ None
  IsClear e (Ends place) = rule_at f e (Ends place) ≡ None

  clash : (c : Check) (r : Rule) → c ≡ None → c ≡ Some r → ⊥
  clash c r i j = cc

  module _ (x : Fault) where
    pub no_fault : (b : Block) (e : Environment) → IsClear e b → IsBodyFault f x e b → ⊥
    no_fault (Then place s next) e c (here r p) = clash (rule_at f e (Then place s next)) x.rule c.0 r
    no_fault (Then place s next) e c (further {next = n} r m h) = no_fault next (after_statement f e s) c.1 (subst (IsBodyFault f x (after_statement f e s)) (sym (one_member n next m)) h)
    no_fault (Either place p y first second) e c (here r q) = clash (rule_at f e (Either place p y first second)) x.rule c.0 r
    no_fault (Either place p y first second) e c (further {next = n} r (zero, l, i) h) = no_fault first e c.1 (subst (IsBodyFault f x e) (sym i) h)
    no_fault (Either place p y first second) e c (further {next = n} r (suc zero, l, i) h) = no_fault second e c.2 (subst (IsBodyFault f x e) (sym i) h)
    no_fault (Either place p y first second) e c (further {next = n} r (suc (suc j), l, i) h) = absurd (omega (arith, l))
    no_fault (Calls place g ps ks) e c (here r p) = clash (rule_at f e (Calls place g ps ks)) x.rule c r
    no_fault (Calls place g ps ks) e c (further {next = n} r m h) = no_member n m
    no_fault (Ends place) e c (here r p) = clash (rule_at f e (Ends place)) x.rule c r
    no_fault (Ends place) e c (further {next = n} r m h) = no_member n m
