use Rattle.std.proofs.Common.{◌≡◌, subst, sym, ap, ◌∙◌, List, ℕ, Vec, Global, Some, ◌++◌, ◌∷◌, [], length, ◌+◌, ◌<◌, ◌^◌, arith}
use Rattle.std.proofs.Math.ListN.{length-append}
use Rattle.std.proofs.lemmas.Grind.{elements}
use Rattle.chor_base.specs.Words.{words_of, IsShortSet, Lacks, IsNumbered}
use Rattle.chor_base.proofs.WordTables.{words-push, distinct_more, length-words_of, numbered_more, Puts}
use Rattle.chor_base.proofs.table.Table.add.Goals as goal

pub invariant_of-self-2 : goal.invariant_of-self-2
invariant_of-self-2 c =
    let old = words_of c.self.inside.words.items in
    let w = c.args.word.now in
    let own : c.in_ok-own.own.items ≡ w = c.in_ok-own.ensures.items_if_clones_equal (λ y z h. h) in
    let key : c.in_ok-key.key.items ≡ w = c.in_ok-key.ensures.items_if_clones_equal (λ y z h. h) in
    let more : words_of c.push.new.self.items ≡ old ++ w ∷ [] = ap words_of (c.in-Ok.ensures.items ∙ ap (λ (ks : List (Vec ℕ Global)). ks ++ c.in_ok-own.own ∷ []) c.in_ok-reserve.ensures.items) ∙ words-push c.self.inside.words.items c.in_ok-own.own ∙ ap (λ (u : List ℕ). old ++ u ∷ []) own in
    let lacks : Lacks old w = subst (λ (v : List (List ℕ)). Lacks v w) (sym c.self.view_is) c.requires in
    let held : IsShortSet old = c.self.invariant.set in
    let full : length old + 1 < 2 ^ 32 = omega (arith, length-words_of c.self.inside.words.items) in
    let number : c.len-number.result ≡ length old = omega (arith, length-words_of c.self.inside.words.items) in
    let put : Puts c.self.inside.numbers.entries c.insert.new.self.entries c.in_ok-key.key.items (length old) = (c.in_ok-insert.ensures.updates.1 ∙ ap Some number, c.in_ok-insert.ensures.updates.3) in
    subst (λ (ws : List (List ℕ)). IsNumbered ws c.insert.new.self.entries) (sym more) (record {
      set = record { distinct = distinct_more old w held.distinct lacks; short = omega (arith, length-append old (w ∷ [])) };
      places = numbered_more old c.self.inside.numbers.entries c.insert.new.self.entries w lacks c.self.invariant.places (subst (λ (k : List ℕ). Puts c.self.inside.numbers.entries c.insert.new.self.entries k (length old)) key put);
    })

pub returns-clause-set : goal.returns-clause-set
returns-clause-set c = (invariant_of-self-2 c).set

pub returns-clause-number : goal.returns-clause-number
returns-clause-number c = grind (arith, elements)
