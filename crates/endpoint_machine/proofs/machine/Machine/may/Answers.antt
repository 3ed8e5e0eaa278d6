use Rattle.std.proofs.Common.{◌≡◌, ◌∙◌, ℤ, Some, sym, ap, subst, w64, to_z, of_z, rules}
use Rattle.std.proofs.lemmas.Bool.{true≢false}
use Rattle.std.proofs.lemmas.Option.{same_Some}
use Rattle.chor_host.specs.Functions.{hosts_in}
use Rattle.chor_host.specs.Tables.{functions_of}
use Rattle.endpoint_machine.specs.Acts.{NodeAnswers, node_event}
use Rattle.endpoint_machine.specs.Places.{sessions_at}
use Rattle.endpoint_machine.proofs.Actings.{alone_there, numbered_there, makes_there, makes_only}
use Rattle.endpoint_machine.proofs.machine.Machine.may.Goals as goal

pub event_at-requires : goal.event_at-requires
event_at-requires g c = alone_there c.args.endpoints.now c.args.self.now.machine c.place-place.result.node.now _ c.place-place.ensures.stands c.requires.alone

pub allows_at-requires : goal.allows_at-requires
allows_at-requires g c = numbered_there c.args.endpoints.now c.args.self.now.machine c.place-place.result.node.now _ c.place-place.ensures.stands

pub returns-then-is_same_alone : goal.returns-then-is_same_alone
returns-then-is_same_alone g c =
    let e = c.args.endpoints.now in
    let hosts = hosts_in e.names (functions_of c.args.hosts.now) in
    let p = c.args.self.now.number in
    let m = c.args.self.now.machine in
    let x = c.args.event.now in
    let node = c.place-place.result.node.now in
    let ss = sessions_at c.place-place.result.call m.sessions in
    let st = c.place-place.ensures.stands in
    let is = alone_there e m node ss st c.requires.alone in
    let v = c.answer_in-answer.result in
    let back : to_z w64 (of_z w64 v) ≡ v = search rules in
    let same = c.is_same_alone.ensures.0 c.if-is_same_alone.true in
    let made : node_event p v m.vars node ≡ Some x = ap (λ (w : ℤ). node_event p w m.vars node) (sym back) ∙ c.event_at.ensures.event ∙ ap Some same in (
      λ t. makes_there e hosts p m node ss v x st is (subst (λ (w : ℤ). NodeAnswers hosts m.vars node w) back (c.allows_at.ensures.0 t)) made,
      λ can. c.allows_at.ensures.1 (subst (λ (w : ℤ). NodeAnswers hosts m.vars node w) (sym c.answer_in-answer.ensures ∙ sym back) (makes_only e hosts p m node ss x st is can).answers),
    )

pub returns-else-is_same_alone : goal.returns-else-is_same_alone
returns-else-is_same_alone g c =
    let e = c.args.endpoints.now in
    let hosts = hosts_in e.names (functions_of c.args.hosts.now) in
    let p = c.args.self.now.number in
    let m = c.args.self.now.machine in
    let x = c.args.event.now in
    let node = c.place-place.result.node.now in
    let ss = sessions_at c.place-place.result.call m.sessions in
    let st = c.place-place.ensures.stands in
    let is = alone_there e m node ss st c.requires.alone in
    let v = c.answer_in-answer.result in
    let back : to_z w64 (of_z w64 v) ≡ v = search rules in (
      λ t. absurd (true≢false (sym t ∙ c.if-is_same_alone.false)),
      λ can.
          let tells = makes_only e hosts p m node ss x st is can in
          let made : Some c.event_at.result ≡ Some x = sym c.event_at.ensures.event ∙ ap (λ (w : ℤ). node_event p w m.vars node) (back ∙ c.answer_in-answer.ensures) ∙ tells.event in
          c.is_same_alone.ensures.1 (same_Some c.event_at.result x made),
    )
