use Rattle.std.proofs.Common.{◌≡◌, ◌∙◌, sym, ap, Option, None, Some, Bool, ℕ}
use Rattle.std.specs.Prelude.{not, slice_set}
use Rattle.waiting_processes.specs.Waits.{awaited_at, awaited_by}
use Rattle.net_core.proofs.Anew.{awaits, entered_one, added, adds, adds_below}
use Rattle.std.proofs.lemmas.Option.{none-some}
use Rattle.std.proofs.lemmas.Result.{IfOk-from_err}
use Rattle.net_core.proofs.candidates.Candidates.enter.Goals as goal

pub returns-in_ok-add-in-Some : goal.returns-in_ok-add-in-Some
returns-in_ok-add-in-Some c =
    let v = c.args.network.now in
    let e = v.endpoints in
    let cap = v.capacity in
    let n = v.state in
    let p = c.args.pid in
    let old = c.args.self.now in
    let is : awaited_at e cap n p ≡ Some c.in-Some.awaited = awaits e cap n p c.head-head.result c.head-head.ensures ∙ ap (λ (k : Option ℕ). awaited_by k c.head-head.result) (sym c.capacity.ensures) ∙ sym c.in-Some.ensures in
    let put = c.in_ok-add-in-Some.ensures in
    entered_one e cap n old (record { listed = c.settle-joins.new.listed; unended = c.set.new.self; waiting = c.add.new.self }) p c.settle-joins.result c.requires.there c.requires.places c.settle-joins.ensures.kept c.settle-joins.ensures.settled
    (c.set.ensures ∙ ap (λ (b : Bool). slice_set old.unended p (not b)) (c.has_ended.ensures ∙ sym c.head-head.ensures.ended))
    (added e cap n old.waiting c.add.new.self c.in-Some.awaited p put is)
    (adds e cap n old.waiting c.add.new.self c.in-Some.awaited p put)
    (adds_below e cap n old.waiting c.add.new.self c.in-Some.awaited p put _ c.requires.there c.requires.places.within)

pub returns-in-None : goal.returns-in-None
returns-in-None c =
    let v = c.args.network.now in
    let e = v.endpoints in
    let cap = v.capacity in
    let n = v.state in
    let p = c.args.pid in
    let old = c.args.self.now in
    let is : awaited_at e cap n p ≡ None = awaits e cap n p c.head-head.result c.head-head.ensures ∙ ap (λ (k : Option ℕ). awaited_by k c.head-head.result) (sym c.capacity.ensures) ∙ sym c.in-None.ensures in
    entered_one e cap n old (record { listed = c.settle-joins.new.listed; unended = c.set.new.self; waiting = old.waiting }) p c.settle-joins.result c.requires.there c.requires.places c.settle-joins.ensures.kept c.settle-joins.ensures.settled
    (c.set.ensures ∙ ap (λ (b : Bool). slice_set old.unended p (not b)) (c.has_ended.ensures ∙ sym c.head-head.ensures.ended))
    (λ w i. absurd (none-some w (sym is ∙ i)))
    (λ w q i. i)
    c.requires.places.within

pub returns-in_err-add-in-Some : goal.returns-in_err-add-in-Some
returns-in_err-add-in-Some c = IfOk-from_err c.from_residual.result _ c.from_residual.ensures.0
