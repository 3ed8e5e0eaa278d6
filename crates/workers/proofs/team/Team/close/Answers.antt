use Rattle.std.proofs.Common.{◌≡◌, ◌+◌, ◌++◌, ◌∷◌, [], length, sym, ap, ◌∙◌, subst}
use Rattle.std.specs.Prelude.{Option}
use Rattle.std.specs.Option.{option_to_list}
use Rattle.turn_lock.specs.Seats.{view}
use Rattle.workers.specs.declared.desks.Desk.{Desk}
use Rattle.workers.specs.Desks.{IsReady, InOrder}
use Rattle.workers.proofs.Teams.{front_same, last_same}
use Rattle.workers.proofs.team.Team.close.Goals as goal

pub take_in-requires-clause-chief : goal.take_in-requires-clause-chief
take_in-requires-clause-chief g c =
    let s = c.requires in
    let rest = c.pop.new.self.items in
    let is : rest ++ c.unwrap-chief.result ∷ [] ≡ s.others ++ s.chief ∷ [] = sym (c.pop.ensures.items ∙ ap (λ (x : Option (Desk _ _)). rest ++ option_to_list x) c.unwrap-chief.ensures) ∙ s.desks in
    subst (λ (d : Desk _ _). IsReady g.T.Told.origin c.args.self.turn d × (d.number ≡ 1)) (sym (last_same rest s.others c.unwrap-chief.result s.chief is)) (s.ready, s.first)

pub take_in-requires-clause-desks : goal.take_in-requires-clause-desks
take_in-requires-clause-desks g c =
    let s = c.requires in
    let rest = c.pop.new.self.items in
    let is : rest ++ c.unwrap-chief.result ∷ [] ≡ s.others ++ s.chief ∷ [] = sym (c.pop.ensures.items ∙ ap (λ (x : Option (Desk _ _)). rest ++ option_to_list x) c.unwrap-chief.ensures) ∙ s.desks in
    subst (InOrder g.T.Told.origin c.args.self.turn) (sym (front_same rest s.others c.unwrap-chief.result s.chief is)) s.order

pub take_in-requires-clause-all : goal.take_in-requires-clause-all
take_in-requires-clause-all g c =
    let s = c.requires in
    let rest = c.pop.new.self.items in
    let is : rest ++ c.unwrap-chief.result ∷ [] ≡ s.others ++ s.chief ∷ [] = sym (c.pop.ensures.items ∙ ap (λ (x : Option (Desk _ _)). rest ++ option_to_list x) c.unwrap-chief.ensures) ∙ s.desks in
    ap (λ (d : Desk _ _). (view d.seat).made) (last_same rest s.others c.unwrap-chief.result s.chief is) ∙ (s.made ∙ ap (λ l. length l + 1) (sym (front_same rest s.others c.unwrap-chief.result s.chief is)))

pub take_in-requires-clause-none : goal.take_in-requires-clause-none
take_in-requires-clause-none g c =
    let s = c.requires in
    let rest = c.pop.new.self.items in
    let is : rest ++ c.unwrap-chief.result ∷ [] ≡ s.others ++ s.chief ∷ [] = sym (c.pop.ensures.items ∙ ap (λ (x : Option (Desk _ _)). rest ++ option_to_list x) c.unwrap-chief.ensures) ∙ s.desks in
    ap (λ (d : Desk _ _). (view d.seat).taken) (last_same rest s.others c.unwrap-chief.result s.chief is) ∙ s.none
