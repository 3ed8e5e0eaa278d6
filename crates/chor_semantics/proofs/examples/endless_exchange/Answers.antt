use Rattle.std.proofs.Common.{◌≡◌, true, refl, ap, ◌∙◌, pos, ◌∷◌}
use Rattle.std.specs.Prelude.{unwrap_or}
use Rattle.std.specs.FinMap as fin
use Rattle.std.proofs.lemmas.Cmp.{nat_cmp_total}
use Rattle.chor_base.specs.declared.expr.Expr.{Expr}
use Rattle.chor_base.specs.declared.expr.BinOp.TheVariants.{Add}
use Rattle.chor_base.specs.declared.value.Value.TheVariants.{Int}
use Rattle.chor_base.specs.NameMap.{Variables}
use Rattle.chor_base.specs.Expr.{term_of, value_of, binary}
use Rattle.chor_semantics.specs.Steps.{head, unfolded}
use Rattle.chor_tree.specs.Kept.{is_numbered}
use Rattle.chor_semantics.proofs.Tables.{made, contents_in}
use Rattle.chor_semantics.proofs.Walks.{stop, ◌⨟◌, at_node, sends, not_last, open_run, no_run}
use Rattle.chor_semantics.specs.Examples.Names.{x}
use Rattle.chor_semantics.specs.Examples.EndlessExchange.{x_and_one, source, start, asked, asking, ten_events}
use Rattle.chor_semantics.proofs.examples.endless_exchange.Goals as goal

-- x was set to 1
two : (e : Expr) (m : Variables) → term_of e ≡ x_and_one → value_of (term_of e) (fin.insert m x.0 (Int (pos 1))) ≡ Int (pos 2)
two e m same =
    ap (λ t. value_of t (fin.insert m x.0 (Int (pos 1)))) same
    ∙ ap (λ o. binary Add (unwrap_or o (Int (pos 0))) (Int (pos 1))) (fin.get-insert nat_cmp_total m x.0 (Int (pos 1)) x.0)

numbered : (e : Expr) → term_of e ≡ x_and_one → is_numbered (contents_in (source e)) ≡ true
numbered e same = rw same refl

pub returns-clause-run : goal.returns-clause-run
returns-clause-run c e same = open_run (source e) (made (source e) refl (numbered e same) refl refl refl) ten_events (λ hosts.
    head (pos 0) tt refl
    ⨟ unfolded refl (head (pos 0) tt refl) ⨟ head (pos 0) tt refl ⨟ sends (two e _ same) ⨟ head (pos 0) tt refl
    ⨟ unfolded refl (head (pos 0) tt refl) ⨟ head (pos 0) tt refl ⨟ sends (two e _ same) ⨟ head (pos 0) tt refl
    ⨟ unfolded refl (head (pos 0) tt refl) ⨟ stop not_last)

pub returns-clause-waits : goal.returns-clause-waits
returns-clause-waits c e same table hosts = no_run (source e) table (start ∷ asked) asking hosts
    (head (pos 0) tt refl ⨟ unfolded refl (head (pos 0) tt refl) ⨟ head (pos 0) tt refl ⨟ sends (two e _ same)
    ⨟ stop (at_node (λ v f d h. cc) (λ g. absurd cc)))
