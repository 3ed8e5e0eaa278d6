use Rattle.std.proofs.Common.{sym, ap, ◌∙◌, ◌≡◌}
use Rattle.std.specs.FinMap as fin
use Rattle.std.proofs.lemmas.Result.{on_ok_weaker}
use Rattle.chor_base.specs.declared.value.Sort.{Sort}
use Rattle.chor_base.specs.NameMap.{FromNames, NameMapView}
use Rattle.typing_steps.specs.Sorts.{sorts_of_map, sorts_of_entry, sorts_among, with_sorts}
use Rattle.typing_steps.proofs.SortMaps.{put_one, with_twice, set_one, none_in_empty}
use Rattle.typing_steps.proofs.sorts.SortMap.set.Goals as goal
use Rattle.typing_steps.proofs.sorts.SortMap.set.Goals.{in-Some, in-None}

pub returns : goal.returns
returns c =
    let es = c.args.self.now.processes.entries in
    let p = c.args.process in
    let first : sorts_among c.insert.new.self.entries ≡ with_sorts (sorts_among es) p (sorts_of_map c.new.result.map) =
    put_one es c.insert.new.self.entries p c.new.result (c.in_ok-known.ensures.updates.0) in
    let known : sorts_of_map c.match-known.env.map ≡ sorts_among es p = elim c.match-known.branch [
      | in-Some w ↦ ap (λ (v : NameMapView Sort). sorts_of_map v.map) w.env-is ∙ ap sorts_of_entry (sym w.in-Some.is ∙ c.in_ok-known.ensures.old)
      | in-None w ↦ ap (λ (v : NameMapView Sort). sorts_of_map v.map) w.env-is ∙ ap sorts_of_map w.new-env.ensures ∙ none_in_empty ∙ ap sorts_of_entry (sym w.in-None.is ∙ c.in_ok-known.ensures.old)
    ] in
    on_ok_weaker c.put.result (λ e. e ∙ ap (λ m. with_sorts m p (sorts_of_map c.set.new.self.map)) first ∙ with_twice (sorts_among es) p (sorts_of_map c.new.result.map) (sorts_of_map c.set.new.self.map)
    ∙ set_one es p c.args.var c.args.sort c.match-known.env.map c.set.new.self.map known (c.set.ensures.map ∙ ap (λ (m : FromNames Sort). fin.insert m c.args.var.0 c.args.sort) c.in_ok-reserve.ensures.map))
    c.put.ensures
