use Rattle.std.proofs.Common.{◌&&◌, sym, ap, ◌∙◌, map}
use Rattle.std.specs.List.{list_all}
use Rattle.chor_base.specs.declared.names.NameId.{NameId}
use Rattle.chor_base.specs.Expr.{term_of}
use Rattle.endpoint_code.specs.declared.code.CodeId.{CodeId}
use Rattle.endpoint_code.specs.Kept.{term_there, node_there}
use Rattle.endpoint_link.specs.Renumbered.{renumbered_name, renumbered_text, renumbered_arm}
use Rattle.endpoint_link.proofs.Nodes.{names_there, labels_there, term_joined}
use Rattle.endpoint_link.proofs.node.renumbered_node.Goals as goal

pub returns-in_ok-arms-in-Branch-clause-words : goal.returns-in_ok-arms-in-Branch-clause-words
returns-in_ok-arms-in-Branch-clause-words c n t =
    let s = c.args.numbers.now in
    let arms = c.in_ok-arms-in-Branch.ensures ∙ ap (map (renumbered_arm s)) c.as_slice.ensures in
    (λ i. (n (c.name.ensures i) && n (c.name-in-Branch.ensures i)) && list_all (λ (arm : NameId × CodeId). n arm.0) (arms i))
    ∙ ap (λ b. (n (renumbered_name s c.in-Branch.k) && n (renumbered_name s c.in-Branch.a)) && b) (labels_there s n c.in-Branch.arms)
    ∙ sym (ap (node_there (λ x. n (renumbered_name s x)) (λ x. t (renumbered_text s x))) c.in-Branch.is)

pub returns-in_ok-sessions-in-Call-clause-words : goal.returns-in_ok-sessions-in-Call-clause-words
returns-in_ok-sessions-in-Call-clause-words c n t =
    let s = c.args.numbers.now in
    let sessions = c.in_ok-sessions-in-Call.ensures ∙ ap (map (renumbered_name s)) c.as_slice-in-Call.ensures in
    (λ i. (n (c.name-in-Call.ensures i) && n (c.name-in-Call-2.ensures i)) && list_all n (sessions i))
    ∙ ap (λ b. (n (renumbered_name s c.in-Call.f) && n (renumbered_name s c.in-Call.p)) && b) (names_there s n c.in-Call.sessions)
    ∙ sym (ap (node_there (λ x. n (renumbered_name s x)) (λ x. t (renumbered_text s x))) c.in-Call.is)

pub returns-in_ok-next-in-Host-clause-words : goal.returns-in_ok-next-in-Host-clause-words
returns-in_ok-next-in-Host-clause-words c n t =
    let s = c.args.numbers.now in
    (λ i. ((n (c.name-in-Host.ensures i) && n (c.name-in-Host-2.ensures i)) && term_there n t (c.in_ok-left-in-Host.ensures i)) && term_there n t (c.in_ok-right-in-Host.ensures i))
    ∙ (λ i. ((n (renumbered_name s c.in-Host.x) && n (renumbered_name s c.in-Host.f)) && term_joined s n t (term_of c.in-Host.a) i) && term_joined s n t (term_of c.in-Host.b) i)
    ∙ sym (ap (node_there (λ x. n (renumbered_name s x)) (λ x. t (renumbered_text s x))) c.in-Host.is)
