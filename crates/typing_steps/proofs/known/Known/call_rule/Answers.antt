use Rattle.std.proofs.Common.{◌∙◌, ◌≡◌, ◌&&◌, [], ◌∷◌, ap}
use Rattle.chor_base.specs.declared.rule.Rule.TheVariants.{T6, T7}
use Rattle.chor_tree.specs.Names.{names_in, procedure_of}
use Rattle.delegation.specs.Checks.{ask, first_failed, all_differ}
use Rattle.typing_rules.specs.Checks.{arguments_fit, rest_ended}
use Rattle.typing_steps.specs.Known.{environment_of}
use Rattle.typing_steps.proofs.CheckOrder.{call_first}
use Rattle.typing_steps.proofs.known.Known.call_rule.Goals as goal

pub returns : goal.returns
returns c =
    let e = environment_of c.args.self.now in
    let f = c.args.file.now in
    let ps = c.args.processes.now in
    let ks = c.args.sessions.now in
    let differ = ask (all_differ (names_in ps) && all_differ (names_in ks)) T7 in
    let fit = arguments_fit e (procedure_of f c.args.name.now.name) ps ks in
    let ended = ask (rest_ended f e (names_in ks)) T6 in
    let is_differ : c.ask-differ.result ≡ differ = c.ask-differ.ensures ∙ ap (λ b. ask b T7) c.both_differ.ensures in
    let is_fit : c.arguments_rule-fit.result ≡ first_failed fit = c.arguments_rule-fit.ensures ∙ ap (λ o. first_failed (arguments_fit e o ps ks)) c.procedure_of.ensures in
    let is_ended : c.ask-ended.result ≡ ended = c.ask-ended.ensures ∙ ap (λ b. ask b T6) c.rest_ended.ensures in
    let rest : c.first_of.result ≡ first_failed (first_failed fit ∷ ended ∷ []) = c.first_of.ensures ∙ (λ i. first_failed (is_fit i ∷ is_ended i ∷ [])) in
    c.first_of-2.ensures ∙ (λ i. first_failed (is_differ i ∷ rest i ∷ [])) ∙ call_first differ ended fit
