use Rattle.std.proofs.Common.{◌≡◌, ◌<◌, ◌∷◌, [], refl, sym, ap, ◌∙◌, subst, arith}
use Rattle.std.specs.Prelude.{Contains, option_copied}
use Rattle.chor_host.specs.Functions.{names_of}
use Rattle.chor_host.specs.Tables.{functions_of}
use Rattle.chor_tree.specs.Names.{IsBodyFault}
use Rattle.chor_base.specs.Faults.{earlier, IsFirst}
use Rattle.chor_base.proofs.Members.{at_head, at_tail}
use Rattle.chor_tree.proofs.Nodes.{child_below}
use Rattle.name_resolution.specs.Sets.{BeginsWith}
use Rattle.name_resolution.proofs.Members.{begins_itself, begins_on, back_at}
use Rattle.name_resolution.proofs.Walks.{after_one, after_two, node_then, node_last, walk_ends}
use Rattle.name_resolution.proofs.declared.Declared.+first_in_body.Goals as goal

pub returns-in-Nothing-clause-first : goal.returns-in-Nothing-clause-first
returns-in-Nothing-clause-first g t c =
    let f = c.args.self.now.file.now in
    let hosts = names_of (functions_of c.args.hosts.now) in
    node_last f hosts (λ x. IsBodyFault f hosts x c.args.bound.now c.args.id) c.loop-node.bound c.first_in_node.new.bound c.loop-node.at c.in-Some.node.now c.loop-node.first c.in_ok-found.found _ []
    (sym c.in-Some.ensures) c.in_ok-found.ensures.fault c.in_ok-found.ensures.bound c.earlier-first.ensures c.in-Nothing.ensures c.loop-node.invariant.rest

pub returns-in-Nothing-clause-begins : goal.returns-in-Nothing-clause-begins
returns-in-Nothing-clause-begins g t c = begins_on c.args.bound.now c.loop-node.bound c.first_in_node.new.bound c.loop-node.invariant.begins c.in_ok-found.ensures.begins

pub loop-node-init : goal.loop-node-init
loop-node-init g t c = record {
  rest = λ o h. h;
  begins = begins_itself c.args.bound.now;
  below = omega arith;
}

pub loop-node-smaller : goal.loop-node-smaller
loop-node-smaller g t c =
    let f = c.args.self.now.file.now in
    let next = c.in-One.next in
    child_below f.tree.nodes c.loop-node.at.0 c.in-Some.node.now next f.tree.closed (sym c.in-Some.ensures) (subst (λ l. Contains l next) c.in-One.ensures (at_head next [] next refl))

pub loop-node-preserved : goal.loop-node-preserved
loop-node-preserved g t c =
    let f = c.args.self.now.file.now in
    let hosts = names_of (functions_of c.args.hosts.now) in
    let next = c.in-One.next in
    let lt : next.0 < c.loop-node.at.0 = child_below f.tree.nodes c.loop-node.at.0 c.in-Some.node.now next f.tree.closed (sym c.in-Some.ensures) (subst (λ l. Contains l next) c.in-One.ensures (at_head next [] next refl)) in
    let le = c.loop-node.invariant.below in
    record {
      rest = λ o h. node_then f hosts (λ x. IsBodyFault f hosts x c.args.bound.now c.args.id) c.loop-node.bound c.first_in_node.new.bound c.loop-node.at c.in-Some.node.now c.loop-node.first c.in_ok-found.found _ (next ∷ [])
          (sym c.in-Some.ensures) c.in_ok-found.ensures.fault c.in_ok-found.ensures.bound c.earlier-first.ensures c.in-One.ensures c.loop-node.invariant.rest o (after_one f hosts c.first_in_node.new.bound next o h);
      begins = begins_on c.args.bound.now c.loop-node.bound c.first_in_node.new.bound c.loop-node.invariant.begins c.in_ok-found.ensures.begins;
      below = omega arith;
    }

pub first_in_body-requires : goal.first_in_body-requires
first_in_body-requires g t c =
    let f = c.args.self.now.file.now in
    let one = c.in-Either.one in
    let other = c.in-Either.other in
    let lt : one.0 < c.loop-node.at.0 = child_below f.tree.nodes c.loop-node.at.0 c.in-Some.node.now one f.tree.closed (sym c.in-Some.ensures) (subst (λ l. Contains l one) c.in-Either.ensures (at_head one (other ∷ []) one refl)) in
    (omega (arith, lt, c.loop-node.invariant.below, c.decreases), tt)

pub first_in_body-requires-in-Either : goal.first_in_body-requires-in-Either
first_in_body-requires-in-Either g t c =
    let f = c.args.self.now.file.now in
    let one = c.in-Either.one in
    let other = c.in-Either.other in
    let lt : other.0 < c.loop-node.at.0 = child_below f.tree.nodes c.loop-node.at.0 c.in-Some.node.now other f.tree.closed (sym c.in-Some.ensures) (subst (λ l. Contains l other) c.in-Either.ensures (at_tail one (other ∷ []) other (at_head other [] other refl))) in
    (omega (arith, lt, c.loop-node.invariant.below, c.decreases), tt)

pub returns-in-Either-clause-first : goal.returns-in-Either-clause-first
returns-in-Either-clause-first g t c =
    let f = c.args.self.now.file.now in
    let hosts = names_of (functions_of c.args.hosts.now) in
    let after = c.first_in_node.new.bound in
    let one = c.in-Either.one in
    let other = c.in-Either.other in
    let again : c.back_to.new.self ≡ after = back_at after c.first_in_body.new.bound c.back_to.new.self _ _ c.in_ok-here-in-Either.ensures.begins c.mark-mark.ensures.processes c.mark-mark.ensures.sessions c.back_to.ensures in
    let there : IsFirst (λ x. IsBodyFault f hosts x after other) c.in_ok-there-in-Either.there = subst (λ s. IsFirst (λ x. IsBodyFault f hosts x s other) c.in_ok-there-in-Either.there) again c.in_ok-there-in-Either.ensures.first in
    let both = after_two f hosts after one other _ _ c.in_ok-here-in-Either.ensures.first there in
    let all = node_then f hosts (λ x. IsBodyFault f hosts x c.args.bound.now c.args.id) c.loop-node.bound after c.loop-node.at c.in-Some.node.now c.loop-node.first c.in_ok-found.found _ (one ∷ other ∷ [])
    (sym c.in-Some.ensures) c.in_ok-found.ensures.fault c.in_ok-found.ensures.bound c.earlier-first.ensures c.in-Either.ensures c.loop-node.invariant.rest _ both in
    subst (λ p. IsFirst (λ x. IsBodyFault f hosts x c.args.bound.now c.args.id) p) (ap (λ p. earlier c.earlier-first.result p) (sym c.earlier-branches.ensures) ∙ sym c.earlier.ensures) all

pub returns-in-Either-clause-begins : goal.returns-in-Either-clause-begins
returns-in-Either-clause-begins g t c =
    let after = c.first_in_node.new.bound in
    let end = c.first_in_body-in-Either.new.bound in
    let again : c.back_to.new.self ≡ after = back_at after c.first_in_body.new.bound c.back_to.new.self _ _ c.in_ok-here-in-Either.ensures.begins c.mark-mark.ensures.processes c.mark-mark.ensures.sessions c.back_to.ensures in
    begins_on c.args.bound.now after end (begins_on c.args.bound.now c.loop-node.bound after c.loop-node.invariant.begins c.in_ok-found.ensures.begins)
    (subst (λ s. BeginsWith s end) again c.in_ok-there-in-Either.ensures.begins)

pub returns-clause-first : goal.returns-clause-first
returns-clause-first g t c =
    let f = c.args.self.now.file.now in
    let hosts = names_of (functions_of c.args.hosts.now) in
    walk_ends f hosts (λ x. IsBodyFault f hosts x c.args.bound.now c.args.id) c.loop-node.bound c.loop-node.at c.loop-node.first (sym (ap option_copied c.in_default.is) ∙ c.node_at.ensures) c.loop-node.invariant.rest

pub returns-clause-begins : goal.returns-clause-begins
returns-clause-begins g t c = c.loop-node.invariant.begins
