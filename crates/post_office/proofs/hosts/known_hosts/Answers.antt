use Rattle.std.proofs.Common.{◌∙◌, ap, subst, Some, List, arith, Vec, Global}
use Rattle.chor_base.specs.declared.names.NameId.{NameId}
use Rattle.chor_base.specs.declared.meaning.Meaning.{Meaning}
use Rattle.chor_base.specs.Words.{Lacks}
use Rattle.std.proofs.lemmas.List.{take_all}
use Rattle.chor_host.specs.Functions.{Function, function_of, hosts_in}
use Rattle.chor_host.specs.Tables.{functions_of}
use Rattle.post_office.proofs.Firsts.{known_more, unknown_more}
use Rattle.post_office.proofs.hosts.known_hosts.Goals as goal
use Rattle.post_office.proofs.hosts.known_hosts.Goals.{in-Some+in_ok-push, in_default}

pub loop-place-preserved : goal.loop-place-preserved
loop-place-preserved g c =
    let fs = functions_of c.args.hosts.now in
    let f = function_of c.at-host.result.now in
    elim c.match-find.branch [
      | in-Some+in_ok-push w ↦ ap (λ (v : Vec (NameId × Meaning) Global). v.items) w.known-is ∙ w.in_ok-push.ensures.items
          ∙ known_more c.args.names.now fs c.loop-place.place f c.loop-place.known.items c.loop-place.invariant c.at-host.ensures w.in-Some.name c.len-2.ensures.distinct (w.in-Some.ensures.found ∙ ap Some c.as_slice.ensures)
      | in_default w ↦ ap (λ (v : Vec (NameId × Meaning) Global). v.items) w.known-is
          ∙ unknown_more c.args.names.now fs c.loop-place.place f c.loop-place.known.items c.loop-place.invariant c.at-host.ensures (subst (Lacks c.args.names.now) c.as_slice.ensures w.in_default.ensures.absent)
    ]

pub returns : goal.returns
returns g c = c.loop-place.invariant ∙ ap (λ (fs : List Function). hosts_in c.args.names.now fs) (take_all c.loop-place.place (functions_of c.args.hosts.now) (omega (arith, c.loop-place-test.false, c.len-place-end.ensures)))
