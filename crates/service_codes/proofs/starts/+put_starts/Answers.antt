use Rattle.std.proofs.Common.{◌≡◌, [], ◌∷◌, sym, ap, ◌∙◌, arith}
use Rattle.std.proofs.lemmas.Result.{on_ok_weaker}
use Rattle.chor_tree.specs.Children.{children_of}
use Rattle.chor_tree.specs.Following.{followers}
use Rattle.service_codes.specs.Starts.{nodes_of}
use Rattle.service_codes.proofs.Names.{inside}
use Rattle.service_codes.proofs.Standing.{child_stands, child_before, only, first_of, second_of, adds_none, adds_node, adds_one, adds_two, nodes_placed}
use Rattle.service_codes.proofs.starts.+put_starts.Goals as goal

pub at-node-requires : goal.at-node-requires
at-node-requires t c = inside c.args.file.now c.requires.scope c.args.id c.requires.stands

pub put_starts-requires : goal.put_starts-requires
put_starts-requires t c =
    let f = c.args.file.now in
    let cs = c.in-One.next ∷ [] in
    let is : cs ≡ children_of c.at-node.result.now.form = ap followers (sym c.in-One.is) ∙ c.what_follows.ensures in
    let before = child_before f c.args.id c.at-node.result.now cs c.at-node.ensures is c.in-One.next (only c.in-One.next) in
    (omega arith, child_stands f c.args.id c.at-node.result.now cs c.requires c.at-node.ensures is c.in-One.next (only c.in-One.next))

pub put_starts-requires-in-Either : goal.put_starts-requires-in-Either
put_starts-requires-in-Either t c =
    let f = c.args.file.now in
    let cs = c.in-Either.first ∷ c.in-Either.second ∷ [] in
    let is : cs ≡ children_of c.at-node.result.now.form = ap followers (sym c.in-Either.is) ∙ c.what_follows.ensures in
    let m = first_of c.in-Either.first c.in-Either.second in
    let before = child_before f c.args.id c.at-node.result.now cs c.at-node.ensures is c.in-Either.first m in
    (omega arith, child_stands f c.args.id c.at-node.result.now cs c.requires c.at-node.ensures is c.in-Either.first m)

pub put_starts-requires-in-Either-2 : goal.put_starts-requires-in-Either-2
put_starts-requires-in-Either-2 t c =
    let f = c.args.file.now in
    let cs = c.in-Either.first ∷ c.in-Either.second ∷ [] in
    let is : cs ≡ children_of c.at-node.result.now.form = ap followers (sym c.in-Either.is) ∙ c.what_follows.ensures in
    let m = second_of c.in-Either.first c.in-Either.second in
    let before = child_before f c.args.id c.at-node.result.now cs c.at-node.ensures is c.in-Either.second m in
    (omega arith, child_stands f c.args.id c.at-node.result.now cs c.requires c.at-node.ensures is c.in-Either.second m)

pub returns-in-Nothing : goal.returns-in-Nothing
returns-in-Nothing t c = record {
  of = λ a.
      adds_node c.args.file.now a c.args.id c.at-node.result.now c.requires c.at-node.ensures [] (ap followers (sym c.in-Nothing.is) ∙ c.what_follows.ensures)
      (nodes_placed a c.args.id c.at-node.result.now.form c.args.starts.now c.put_start.new.starts c.in_ok-put_start.ensures) (adds_none c.args.file.now a (nodes_of a c.put_start.new.starts));
}

pub returns-in-One : goal.returns-in-One
returns-in-One t c =
    on_ok_weaker c.put_starts.result
    (λ h. record {
      of = λ a.
          adds_node c.args.file.now a c.args.id c.at-node.result.now c.requires c.at-node.ensures (c.in-One.next ∷ []) (ap followers (sym c.in-One.is) ∙ c.what_follows.ensures)
          (nodes_placed a c.args.id c.at-node.result.now.form c.args.starts.now c.put_start.new.starts c.in_ok-put_start.ensures) (adds_one c.args.file.now a c.in-One.next (h.of a));
    })
    c.put_starts.ensures

pub returns-in_ok-put_starts-in-Either : goal.returns-in_ok-put_starts-in-Either
returns-in_ok-put_starts-in-Either t c =
    on_ok_weaker c.put_starts-in-Either-2.result
    (λ h. record {
      of = λ a.
          adds_node c.args.file.now a c.args.id c.at-node.result.now c.requires c.at-node.ensures (c.in-Either.first ∷ c.in-Either.second ∷ [])
          (ap followers (sym c.in-Either.is) ∙ c.what_follows.ensures) (nodes_placed a c.args.id c.at-node.result.now.form c.args.starts.now c.put_start.new.starts c.in_ok-put_start.ensures)
          (adds_two c.args.file.now a c.in-Either.first c.in-Either.second (c.in_ok-put_starts-in-Either.ensures.of a) (h.of a));
    })
    c.put_starts-in-Either-2.ensures
