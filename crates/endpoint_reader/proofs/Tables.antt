-- The bodies of a table of lines, when lines are added.
use Rattle.std.proofs.Common.{◌≡◌, ◌<◌, ℕ, zero, suc, Some, Result, Ok, Err, IfOk, OnOk, OnErr, All, slice_get, subst, List, [], ◌∷◌, ◌++◌, length, length-append, ap, ◌∙◌, sym, append_assoc, arith}
use Rattle.std.proofs.lemmas.List.{append-nil}
use Rattle.node_table.proofs.Tables.{tree_stays, tree_pushed}
use Rattle.endpoint_grammar.specs.Written.{Ends}
use Rattle.endpoint_reader.specs.declared.input.Input.{Input}
use Rattle.endpoint_reader.specs.declared.lines.LineId.{LineId}
use Rattle.endpoint_reader.specs.declared.lines.Line.{Line}
use Rattle.endpoint_reader.specs.Lines.{nexts_of, IsClosed, line_body, bodies_of, body_at}
use Rattle.chor_base.specs.declared.memory.Memory.{Memory}
use Rattle.chor_base.specs.declared.rule.Denied.{Denied}
use Rattle.endpoint_reader.specs.Known.{AreLinesThere}
use Rattle.endpoint_reader.specs.Bodies.{Grows, Made}

pub body_at-kept : (i : Input) (old new more : List Line) (id : LineId) → new ≡ old ++ more → id.0 < length old → body_at i new id ≡ body_at i old id
body_at-kept i old new more id e h = tree_stays (line_body i) Ends old new more id.0 e h

pub body_at-pushed : (i : Input) (old new : List Line) (l : Line) (id : LineId) → new ≡ old ++ l ∷ [] → id.0 ≡ length old → body_at i new id ≡ line_body i (bodies_of i old) l
body_at-pushed i old new l id e j = tree_pushed (line_body i) Ends old new l id.0 e j

-- ---- growth

pub grows_none : (ls : List Line) → Grows ls ls
grows_none ls = record { more = []; is = sym (append-nil ls) }

pub grows_by : {old new : List Line} (l : Line) → new ≡ old ++ l ∷ [] → Grows old new
grows_by l e = record { more = l ∷ []; is = e }

pub grows_on : {a b c : List Line} → Grows a b → Grows b c → Grows a c
grows_on {a = a} g h = record { more = g.more ++ h.more; is = h.is ∙ ap (λ (ls : List Line). ls ++ h.more) g.is ∙ append_assoc a g.more h.more }

pub no_fewer : {old new : List Line} {id : LineId} → Grows old new → id.0 < length old → id.0 < length new
no_fewer {old = old} g lt = omega (arith, ap length g.is, length-append old g.more)

pub last_there : {new : List Line} {id : LineId} (old : List Line) (l : Line) → new ≡ old ++ l ∷ [] → id.0 ≡ length old → id.0 < length new
last_there old l e at = omega (arith, ap length e, length-append old (l ∷ []))

pub body_stays : {old new : List Line} {id : LineId} (i : Input) → Grows old new → id.0 < length old → body_at i new id ≡ body_at i old id
body_stays {old} {new} {id} i g lt = body_at-kept i old new g.more id g.is lt

pub body_pushed : {new : List Line} {id : LineId} (i : Input) (old : List Line) (l : Line) → new ≡ old ++ l ∷ [] → id.0 ≡ length old → body_at i new id ≡ line_body i (bodies_of i old) l
body_pushed {new} {id} i old l e at = body_at-pushed i old new l id e at

-- ---- what was made

pub made_by : (P : List Line → LineId × ℕ → Type 0) (i : Input) (old new : List Line) (r : Result (LineId × ℕ) Denied) → IfOk r (P new) → IfOk r (λ x. x.0.0 < length new) → OnOk r (Grows old new) → OnOk r (AreLinesThere i new) → IfOk r (Made P i old new)
made_by P i old new (Ok x) a b c d = record { reads = a; there = b; grows = c; known = d }
made_by P i old new (Err e) a b c d = tt

pub made_as : (P Q : List Line → LineId × ℕ → Type 0) (i : Input) (old new : List Line) (r : Result (LineId × ℕ) Denied) → ((x : LineId × ℕ) → P new x → Q new x) → IfOk r (Made P i old new) → IfOk r (Made Q i old new)
made_as P Q i old new (Ok x) f m = record { reads = f x m.reads; there = m.there; grows = m.grows; known = m.known }
made_as P Q i old new (Err e) f m = tt

-- ---- each line comes after those that follow it

same_item : {X : Type 0} (x y : X) → Some x ≡ Some y → x ≡ y
same_item x y e = cc

-- what holds of each item at its place holds after one more
one_more : {X : Type 0} (P : ℕ → X → Type 0) (xs : List X) (x : X) → ((i : ℕ) (y : X) → slice_get xs i ≡ Some y → P i y) → P (length xs) x → (i : ℕ) (y : X) → slice_get (xs ++ x ∷ []) i ≡ Some y → P i y
one_more P [] x h k zero y e = subst (P zero) (same_item x y e) k
one_more P [] x h k (suc i) y e = absurd cc
one_more P (z ∷ zs) x h k zero y e = h zero y e
one_more P (z ∷ zs) x h k (suc i) y e = one_more (λ j. P (suc j)) zs x (λ j w. h (suc j) w) k i y e

pub closed_after : {X : Type 0} (old new : List Line) (l : Line) (r : Result X Memory) → IsClosed old → All (λ next. next.0 < length old) (nexts_of l) → OnOk r (new ≡ old ++ l ∷ []) → OnErr r (new ≡ old) → IsClosed new
closed_after old new l (Ok u) c n e f = subst IsClosed (sym e) (one_more (λ i m. All (λ next. next.0 < i) (nexts_of m)) old l c n)
closed_after old new l (Err d) c n e f = subst IsClosed (sym f) c
