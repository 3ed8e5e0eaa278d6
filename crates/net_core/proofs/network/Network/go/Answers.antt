use Rattle.std.proofs.Common.{◌≡◌, ◌∙◌, ◌<◌, sym, subst, length, true, false, ℕ, Option}
use Rattle.std.proofs.lemmas.Result.{IfOk-from_err}
use Rattle.std.proofs.lemmas.Bool.{true≢false}
use Rattle.chor_base.specs.Meaning.{Hosts}
use Rattle.chor_host.specs.Functions.{hosts_in, names_of}
use Rattle.chor_host.specs.Tables.{functions_of}
use Rattle.endpoint_code.specs.declared.endpoints.Endpoints.{Endpoints}
use Rattle.endpoint_code.specs.Faults.{AsksKnown, is_listed}
use Rattle.endpoint_code.specs.Network.{NetworkState}
use Rattle.net_core.specs.Heads.{Shows, steps_at, joins_at_all}
use Rattle.std.proofs.lemmas.Bool.{true≢false}
use Rattle.net_core.specs.Shown.{MovesAlone}
use Rattle.net_core.specs.Steps.{HasGrown, HasSteppedBy}
use Rattle.net_core.proofs.Answered.{on_ok, on_err}
use Rattle.net_core.proofs.Fields.{stepped_after, grown_after}
use Rattle.net_core.proofs.network.Network.go.Goals as goal

pub start-requires : goal.start-requires
start-requires g c = record {
  there = c.requires.there;
  shows = c.requires.shows;
  steps = c.requires.steps;
  joins = c.requires.shows.joining ∙ sym c.is_joining.ensures ∙ c.if-is_joining.true;
  fits = c.requires.fits;
}

pub act-requires : goal.act-requires
act-requires g c =
    let v = c.args.self.now in
    let w = c.reserve_for.new.self in
    let p = c.args.pid in
    let same = c.in_ok-reserve_for.ensures.same in
    let alone : joins_at_all v.endpoints v.state p ≡ false = c.requires.shows.joining ∙ sym c.is_joining.ensures ∙ c.if-is_joining.false in
    record {
      there = subst (λ (n : NetworkState). p < length n.machines) (sym same.state) c.requires.there;
      shows = subst (λ (e : Endpoints). Shows e w.state p c.args.head) (sym same.endpoints) (subst (λ (n : NetworkState). Shows v.endpoints n p c.args.head) (sym same.state) c.requires.shows);
      hosts = subst (λ (e : Endpoints). AsksKnown (is_listed (names_of (functions_of c.args.hosts.now)) e) e) (sym same.endpoints) c.requires.hosts;
      steps =
          subst (λ (e : Endpoints). steps_at e w.capacity w.state p ≡ true) (sym same.endpoints)
          (subst (λ (k : Option ℕ). steps_at v.endpoints k w.state p ≡ true) (sym same.capacity) (subst (λ (n : NetworkState). steps_at v.endpoints v.capacity n p ≡ true) (sym same.state) c.requires.steps));
      alone = subst (λ (e : Endpoints). joins_at_all e w.state p ≡ false) (sym same.endpoints) (subst (λ (n : NetworkState). joins_at_all v.endpoints n p ≡ false) (sym same.state) alone);
      room = c.in_ok-reserve_for.ensures.ok;
    }

pub returns-then-is_joining-clause-ok : goal.returns-then-is_joining-clause-ok
returns-then-is_joining-clause-ok g c = on_ok c.start.result (λ (h : (hosts : Hosts) → HasSteppedBy c.args.worker hosts c.args.self.now c.args.pid c.start.new.self). h (hosts_in c.args.self.now.endpoints.names (functions_of c.args.hosts.now))) c.start.ensures.ok

pub returns-then-is_joining-clause-grown : goal.returns-then-is_joining-clause-grown
returns-then-is_joining-clause-grown g c = c.start.ensures.grown

pub returns-then-is_joining-clause-alone : goal.returns-then-is_joining-clause-alone
returns-then-is_joining-clause-alone g c =
    let yes : joins_at_all c.args.self.now.endpoints c.args.self.now.state c.args.pid ≡ true = c.requires.shows.joining ∙ sym c.is_joining.ensures ∙ c.if-is_joining.true in
    on_ok c.start.result (λ (h : HasGrown c.args.self.now c.start.new.self) (f : joins_at_all c.args.self.now.endpoints c.args.self.now.state c.args.pid ≡ false). absurd {A = MovesAlone c.args.self.now.state c.args.pid c.start.new.self.state} (true≢false (sym yes ∙ f))) c.start.ensures.grown

pub returns-then-is_joining-clause-room : goal.returns-then-is_joining-clause-room
returns-then-is_joining-clause-room g c = on_err c.start.result (λ r. c.requires.shows.joining ∙ sym c.is_joining.ensures ∙ c.if-is_joining.true)

pub returns-then-is_joining-clause-same : goal.returns-then-is_joining-clause-same
returns-then-is_joining-clause-same g c = c.start.ensures.err

pub reserve_for-requires-clause-there : goal.reserve_for-requires-clause-there
reserve_for-requires-clause-there g c = c.requires.there

pub reserve_for-requires-clause-shows : goal.reserve_for-requires-clause-shows
reserve_for-requires-clause-shows g c = c.requires.shows

pub returns-in_err-reserve_for-clause-ok : goal.returns-in_err-reserve_for-clause-ok
returns-in_err-reserve_for-clause-ok g c = IfOk-from_err c.from_residual.result _ c.from_residual.ensures.0

pub returns-in_err-reserve_for-clause-grown : goal.returns-in_err-reserve_for-clause-grown
returns-in_err-reserve_for-clause-grown g c = IfOk-from_err c.from_residual.result _ c.from_residual.ensures.0

pub returns-in_err-reserve_for-clause-alone : goal.returns-in_err-reserve_for-clause-alone
returns-in_err-reserve_for-clause-alone g c = IfOk-from_err c.from_residual.result _ c.from_residual.ensures.0

pub returns-in_err-reserve_for-clause-room : goal.returns-in_err-reserve_for-clause-room
returns-in_err-reserve_for-clause-room g c = on_err c.from_residual.result (λ r. absurd (true≢false (sym (c.in_err-reserve_for.ensures.succeeds r))))

pub returns-in_err-reserve_for-clause-same : goal.returns-in_err-reserve_for-clause-same
returns-in_err-reserve_for-clause-same g c = on_err c.from_residual.result c.in_err-reserve_for.ensures.same

pub returns-clause-ok : goal.returns-clause-ok
returns-clause-ok g c = stepped_after c.args.worker (λ e. hosts_in e.names (functions_of c.args.hosts.now)) c.args.self.now c.reserve_for.new.self c.act.new.self c.args.pid c.in_ok-reserve_for.ensures.same c.act.ensures.stepped

pub returns-clause-grown : goal.returns-clause-grown
returns-clause-grown g c = grown_after c.args.self.now c.reserve_for.new.self c.act.new.self c.in_ok-reserve_for.ensures.same c.act.ensures.grown

pub returns-clause-alone : goal.returns-clause-alone
returns-clause-alone g c = λ f. subst (λ (n : NetworkState). MovesAlone n c.args.pid c.act.new.self.state) c.in_ok-reserve_for.ensures.same.state c.act.ensures.alone

pub returns-clause-room : goal.returns-clause-room
returns-clause-room g c = tt

pub returns-clause-same : goal.returns-clause-same
returns-clause-same g c = tt
