use Rattle.std.proofs.Common.{◌≡◌, ℕ, List, ap, ◌∙◌}
use Rattle.std.specs.List.{insert}
use Rattle.endpoint_text.specs.Places.{place_in, label_in}
use Rattle.endpoint_text.proofs.Ascents.{put_place}
use Rattle.endpoint_text.proofs.arms.insert_arm.Goals as goal

pub returns : goal.returns
returns c =
    let word = label_in c.args.names.now in
    let place : c.place_in-place.result ≡ place_in word (word c.args.arm) c.args.sorted.now.items =
    c.place_in-place.ensures ∙ ap (place_in word c.word_of.result.now) c.as_slice.ensures.value ∙ ap (λ (w : List ℕ). place_in word w c.args.sorted.now.items) c.word_of.ensures in
    c.in_ok-insert.ensures.items ∙ ap (λ (i : ℕ). insert c.args.sorted.now.items i c.args.arm) place ∙ put_place word c.args.arm c.args.sorted.now.items
