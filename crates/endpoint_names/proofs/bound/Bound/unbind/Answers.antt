use Rattle.std.proofs.Common.{◌==◌, not, ◌∙◌, sym, ap, rules}
use Rattle.std.proofs.lemmas.Fn.{filter_same}
use Rattle.endpoint_code.specs.Faults.{without}
use Rattle.endpoint_names.proofs.Keys.{without_is}
use Rattle.endpoint_names.proofs.bound.Bound.unbind.Goals as goal

pub returns : goal.returns
returns c =
    filter_same _ (λ y. not (y.0 == c.args.name.0)) _ (λ x b f' k. search rules) _ _ c.retain.ensures.filtered
    ∙ sym (without_is c.args.name c.self.inside.names.items) ∙ ap (without c.args.name) c.self.view_is
