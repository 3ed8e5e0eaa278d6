use Rattle.std.proofs.Common.{◌∙◌, sym, ap, subst, List, drop, take, get_or, ◌+◌, ◌++◌, ◌∷◌, [], ℕ}
use Rattle.std.proofs.lemmas.List.{drop_more, take_more}
use Rattle.chor_base.specs.declared.names.NameId.{NameId}
use Rattle.post_office.specs.Starts.{first_absent, IsCast, no_role}
use Rattle.post_office.proofs.Casts.{cast_push, absent_head}
use Rattle.post_office.proofs.office.Office.cast.Goals as goal

pub loop-role-init : goal.loop-role-init
loop-role-init c = record {
  so_far = subst (IsCast c.args.self.now.desks c.args.channel c.args.pid c.args.own []) (sym c.new-parts.ensures) no_role;
  left = c.requires;
}

pub loop-role-preserved : goal.loop-role-preserved
loop-role-preserved c =
    let ds = c.args.self.now.desks in
    let i = c.loop-role.role-index in
    let roles = c.args.roles.now in
    let role = get_or roles i (record { 0 = 0 }) in
    let more = drop_more roles i (record { 0 = 0 }) c.loop-role-test.true in
    record {
      so_far =
          subst (λ (ps : List (NameId × ℕ)). IsCast ds c.args.channel c.args.pid c.args.own (take (i + 1) roles) ps) (sym c.in_ok-push.ensures.ok)
          (subst (λ (rs : List NameId). IsCast ds c.args.channel c.args.pid c.args.own rs (c.loop-role.parts ++ (role, c.in-Some.partner) ∷ [])) (sym (take_more roles i (record { 0 = 0 }) c.loop-role-test.true))
          (cast_push c.loop-role.invariant.so_far role c.in-Some.partner (sym c.in-Some.ensures)));
      left = (absent_head ds c.args.channel c.args.pid c.args.own role (drop (i + 1) roles) (sym (ap (first_absent ds c.args.channel c.args.pid c.args.own) more) ∙ c.loop-role.invariant.left)).1;
    }
