-- How nodes with the same head go on.
use Rattle.std.proofs.Common.{◌≡◌, [], ◌∷◌, sym, ap, ◌∙◌, refl, Some}
use Rattle.chor_base.specs.declared.expr.Expr.{Expr}
use Rattle.chor_base.specs.Expr.{term_of}
use Rattle.endpoint_code.specs.declared.code.CodeId.{CodeId}
use Rattle.endpoint_code.specs.declared.code.CodeNode.{CodeNode}
use Rattle.endpoint_code.specs.declared.code.CodeNode.TheVariants.{Join, Send, Recv, Pick, Branch, Throw, Catch, Set, Show, Host, If, Call, End}
use Rattle.endpoint_code.specs.Code.{children_of}
use Rattle.endpoint_code.specs.Trees.{Action, Does, Tests, tree_in, node_tree}
use Rattle.endpoint_code.specs.Heads.{Acts, Decides, head_of, next_of}
use Rattle.endpoint_code.proofs.Decides.{acting}
use Rattle.branch_merge.specs.Meetings.{GoesOn, GoOn, Fork, TestsAs}

pub one_child : (n : CodeNode) (p : CodeId) → next_of n ≡ Some p → children_of n ≡ p ∷ []
one_child (Join c r k next) p h = cc
one_child (Send k b e next) p h = cc
one_child (Recv k a x next) p h = cc
one_child (Pick k b l next) p h = cc
one_child (Throw k b g next) p h = cc
one_child (Catch k a g next) p h = cc
one_child (Set x e next) p h = cc
one_child (Show e next) p h = cc
one_child (Host x f a b next) p h = cc
one_child (Branch k a arms) p h = absurd cc
one_child (If e f g) p h = absurd cc
one_child (Call f r ss) p h = absurd cc
one_child End p h = absurd cc

-- a node goes on by the action that its head is
goes_on : (n : CodeNode) (p : CodeId) (x : Action) → next_of n ≡ Some p → head_of n ≡ Acts x → GoesOn n x p
goes_on n p x h e = record {
  next = h;
  children = one_child n p h;
  tree = λ ts.
      let a = acting ts n p h in
      let same : Acts a.action ≡ Acts x = sym a.head ∙ e in
      let y : a.action ≡ x = cc in
      a.tree ∙ ap (λ z. Does z (tree_in ts p)) y;
}

pub go_on : (n m : CodeNode) (p q : CodeId) → head_of n ≡ head_of m → next_of n ≡ Some p → next_of m ≡ Some q → GoOn n m (record { left = p; right = q })
go_on n m p q e h i =
    let a = acting [] n p h in
    record { action = a.action; left = goes_on n p a.action h a.head; right = goes_on m q a.action i (sym e ∙ a.head) }

pub goes_as : (n m : CodeNode) (x : Action) (p next : CodeId) → GoesOn n x p → head_of m ≡ head_of n → next_of m ≡ Some next → GoesOn m x next
goes_as n m x p next g e h =
    let a = acting [] n p g.next in
    let same : Does a.action (tree_in [] p) ≡ Does x (tree_in [] p) = sym a.tree ∙ g.tree [] in
    let y : a.action ≡ x = cc in
    goes_on m next x h (e ∙ a.head ∙ ap Acts y)

pub fork_of : (n m : CodeNode) {e f : Expr} (p q r s : CodeId) → head_of n ≡ head_of m → n ≡ If e p r → m ≡ If f q s → Fork n m (record { left = p; right = q }) (record { left = r; right = s })
fork_of n m {e = e} {f = f} p q r s h i j =
    let heads : Decides (term_of e) ≡ Decides (term_of f) = sym (ap head_of i) ∙ h ∙ ap head_of j in
    let same : term_of e ≡ term_of f = cc in
    record {
      test = term_of e;
      left = record { children = ap children_of i; tree = λ ts. ap (node_tree ts) i };
      right = record { children = ap children_of j; tree = λ ts. ap (node_tree ts) j ∙ ap (λ t. Tests t (tree_in ts q) (tree_in ts s)) (sym same) };
    }

pub tests_as : (n : CodeNode) {e f : Expr} {p r first second : CodeId} → n ≡ If e p r → term_of f ≡ term_of e → TestsAs n first second (If f first second)
tests_as n {e = e} {f = f} {p = p} {r = r} {first = first} {second = second} i same = λ t p' r' g.
    let here : Tests (term_of e) (tree_in [] p) (tree_in [] r) ≡ Tests t (tree_in [] p') (tree_in [] r') = sym (ap (node_tree []) i) ∙ g.tree [] in
    let y : term_of f ≡ t = same ∙ cc in
    record { children = refl; tree = λ ts. ap (λ z. Tests z (tree_in ts first) (tree_in ts second)) y }
