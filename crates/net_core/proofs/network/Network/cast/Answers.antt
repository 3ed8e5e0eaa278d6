use Rattle.std.proofs.Common.{◌∙◌, sym, ap, subst, List, drop, take, get_or, ◌+◌, ◌++◌, ◌∷◌, [], ℕ, is_some}
use Rattle.std.proofs.lemmas.List.{drop_more, take_more}
use Rattle.chor_base.specs.declared.names.NameId.{NameId}
use Rattle.endpoint_code.specs.NetworkRuns.{absent_among}
use Rattle.net_core.specs.Starts.{IsCast, no_role}
use Rattle.net_core.proofs.Casts.{cast_push, absent_head}
use Rattle.std.proofs.lemmas.Bool.{true≢false}
use Rattle.net_core.proofs.network.Network.cast.Goals as goal

pub loop-role-init : goal.loop-role-init
loop-role-init c = record {
  so_far =
      subst (IsCast c.args.self.now.endpoints c.args.self.now.state.machines c.args.channel c.args.pid c.args.own []) (sym c.new-parts.ensures) no_role;
  left = c.requires;
}

pub loop-role-preserved : goal.loop-role-preserved
loop-role-preserved c =
    let v = c.args.self.now in
    let i = c.loop-role.role-index in
    let roles = c.args.roles.now in
    let role = get_or roles i (record { 0 = 0 }) in
    let more = drop_more roles i (record { 0 = 0 }) c.loop-role-test.true in
    record {
      so_far =
          subst (λ (ps : List (NameId × ℕ)). IsCast v.endpoints v.state.machines c.args.channel c.args.pid c.args.own (take (i + 1) roles) ps) (sym c.in_ok-push.ensures.ok)
          (subst (λ (rs : List NameId). IsCast v.endpoints v.state.machines c.args.channel c.args.pid c.args.own rs (c.loop-role.parts ++ (role, c.in-Some.partner) ∷ [])) (sym (take_more roles i (record { 0 = 0 }) c.loop-role-test.true))
          (cast_push c.loop-role.invariant.so_far role c.in-Some.partner (sym c.in-Some.ensures)));
      left = (absent_head v.endpoints v.state.machines c.args.channel c.args.own role (drop (i + 1) roles) c.args.pid (sym (ap (absent_among v.endpoints v.state.machines c.args.channel c.args.own) more) ∙ c.loop-role.invariant.left)).1;
    }

pub unreachable-requires : goal.unreachable-requires
unreachable-requires c =
    let v = c.args.self.now in
    let i = c.loop-role.role-index in
    let roles = c.args.roles.now in
    let role = get_or roles i (record { 0 = 0 }) in
    let more = drop_more roles i (record { 0 = 0 }) c.loop-role-test.true in
    let found = (absent_head v.endpoints v.state.machines c.args.channel c.args.own role (drop (i + 1) roles) c.args.pid (sym (ap (absent_among v.endpoints v.state.machines c.args.channel c.args.own) more) ∙ c.loop-role.invariant.left)).0 in
    true≢false (sym (ap is_some c.in_default.ensures ∙ found))
