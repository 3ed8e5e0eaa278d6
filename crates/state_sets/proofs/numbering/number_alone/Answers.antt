use Rattle.std.proofs.Common.{ℕ, List, ◌≡◌, ◌<◌, ◌∙◌, ap, sym, refl, subst, length, arith}
use Rattle.std.specs.Prelude.{Option, Some}
use Rattle.std.proofs.lemmas.Option.{slice_get-get_or}
use Rattle.state_sets.specs.Sets.{IsSetFor}
use Rattle.state_sets.proofs.Singles.{singles_kept, single_put, number_kept}
use Rattle.state_sets.proofs.numbering.number_alone.Goals as goal

pub returns-in-Some-clause-number : goal.returns-in-Some-clause-number
returns-in-Some-clause-number c =
    let singles = c.args.numbering.now.singles.items in
    let within : c.args.state < length singles = (let h = c.requires.inside in let s = c.requires.singles.size in omega (arith, h, s)) in
    number_kept c.args.count c.args.numbering.now.sets singles c.args.state c.in-Some.number c.requires.singles
    (slice_get-get_or singles c.args.state c.index.result.now within ∙ ap (λ (o : Option ℕ). Some o) (sym c.index.ensures ∙ c.in-Some.is))

pub returns-clause-singles : goal.returns-clause-singles
returns-clause-singles c =
    let word = c.as_slice.result.now in
    let set = subst (λ (w : List ℕ). IsSetFor c.args.count (λ j. c.args.state ≡ j) w) (sym c.as_slice.ensures.value) c.in_ok-alone.ensures in
    single_put c.args.count c.intern.new.self c.args.numbering.now.singles.items _ c.args.state c.in_ok-number.number word refl c.in_ok-number.ensures.number set
    (singles_kept c.args.count c.args.numbering.now.sets c.intern.new.self c.args.numbering.now.singles.items word c.in_ok-number.ensures.ok c.requires.singles)
