use Rattle.std.proofs.Common.{◌∙◌, ap, subst, ◌<◌, ◌^◌, length}
use Rattle.post_office.specs.declared.desk.Desk.{Desk}
use Rattle.std.proofs.Math.ListN.{replicate}
use Rattle.post_office.proofs.Firsts.{first_kept}
use Rattle.post_office.proofs.office.Office.new.Goals as goal

pub invariant_of-result : goal.invariant_of-result
invariant_of-result g c =
    let l = c.new.result in
    first_kept c.args.endpoints.now c.in_ok-hosts.hosts.items l.capacity l.history.items l.queues l.sid c.in_ok-desks.desks.items _ _ c.requires (subst (λ n. n < 2 ^ 32) c.count-processes.ensures c.count-processes.type_inv) c.new.ensures.history c.new.ensures.queues c.new.ensures.sid
    (c.in_ok-desks.ensures.items_if_clones_equal (λ y h. h) ∙ ap (λ n. replicate n c.idle.result) c.count-processes.ensures ∙ ap (λ (d : Desk). replicate (length c.args.endpoints.now.processes) d) c.idle.ensures)
