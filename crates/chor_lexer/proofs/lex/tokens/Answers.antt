use Rattle.std.proofs.Common.{◌∙◌, sym, refl}
use Rattle.std.proofs.lemmas.Bool.{eqb-true}
use Rattle.chor_lexer.proofs.Known.{are_known}
use Rattle.chor_lexer.proofs.Progress.{progress_none, progress_blank, progress_token, progress_fault, progress_end, progress_ended, denied_malformed, names_on, texts_on}
use Rattle.chor_lexer.proofs.Spelled.{grows_none}
use Rattle.chor_lexer.proofs.lex.tokens.Goals as goal

pub returns-in-Err-clause-denied : goal.returns-in-Err-clause-denied
returns-in-Err-clause-denied c = denied_malformed _ _ _ _ _ c.in-Err.ensures.cases.0 (c.valid_up_to.ensures ∙ c.in-Err.ensures.valid_len) c.first_place.ensures c.place_after.ensures.place c.refused.ensures

pub loop-rest-init : goal.loop-rest-init
loop-rest-init c = progress_none _ _ _ _ _ c.new-items.ensures c.first_place-place.ensures

pub loop-rest-preserved-in-Ok-Blank : goal.loop-rest-preserved-in-Ok-Blank
loop-rest-preserved-in-Ok-Blank c =
    let piece = rw c.in-Ok-Blank.field-0-is at c.in-Ok-Blank.ensures.piece in
    progress_blank _ _ _ _ _ _ _ _ _ _ _ c.in-Ok-Blank.len c.loop-rest.invariant
    (record { written_is = c.split_at.ensures.front; after_is = c.split_at.ensures.back; place = c.place_after-place.ensures.place; line = c.place_after-place.ensures.line; col = c.place_after-place.ensures.col; within = piece.1 })
    piece.2

pub returns-in_err-kind-in-Ok-Token-clause-names : goal.returns-in_err-kind-in-Ok-Token-clause-names
returns-in_err-kind-in-Ok-Token-clause-names c = names_on _ _ _ _ _ _ _ _ _ _ c.in-Ok-Token.form c.in-Ok-Token.len c.loop-rest.invariant (rw c.in-Ok-Token.field-0-is at c.in-Ok-Token.ensures.piece) c.split_at-in-Ok-Token.ensures.front c.kind_of.ensures.names

pub returns-in_err-kind-in-Ok-Token-clause-texts : goal.returns-in_err-kind-in-Ok-Token-clause-texts
returns-in_err-kind-in-Ok-Token-clause-texts c = texts_on _ _ _ _ _ _ _ _ _ _ c.in-Ok-Token.form c.in-Ok-Token.len c.loop-rest.invariant (rw c.in-Ok-Token.field-0-is at c.in-Ok-Token.ensures.piece) c.split_at-in-Ok-Token.ensures.front c.kind_of.ensures.texts

pub returns-in_err-push-in-Ok-Token-clause-names : goal.returns-in_err-push-in-Ok-Token-clause-names
returns-in_err-push-in-Ok-Token-clause-names c = names_on _ _ _ _ _ _ _ _ _ _ c.in-Ok-Token.form c.in-Ok-Token.len c.loop-rest.invariant (rw c.in-Ok-Token.field-0-is at c.in-Ok-Token.ensures.piece) c.split_at-in-Ok-Token.ensures.front c.kind_of.ensures.names

pub returns-in_err-push-in-Ok-Token-clause-texts : goal.returns-in_err-push-in-Ok-Token-clause-texts
returns-in_err-push-in-Ok-Token-clause-texts c = texts_on _ _ _ _ _ _ _ _ _ _ c.in-Ok-Token.form c.in-Ok-Token.len c.loop-rest.invariant (rw c.in-Ok-Token.field-0-is at c.in-Ok-Token.ensures.piece) c.split_at-in-Ok-Token.ensures.front c.kind_of.ensures.texts

pub loop-rest-preserved : goal.loop-rest-preserved
loop-rest-preserved c =
    let piece = rw c.in-Ok-Token.field-0-is at c.in-Ok-Token.ensures.piece in
    progress_token _ _ _ _ _ _ _ _ _ _ _ _ _ _ c.in-Ok-Token.form c.in-Ok-Token.len _ c.loop-rest.invariant
    (record { written_is = c.split_at-in-Ok-Token.ensures.front; after_is = c.split_at-in-Ok-Token.ensures.back; place = c.place_after-place-in-Ok-Token.ensures.place; line = c.place_after-place-in-Ok-Token.ensures.line; col = c.place_after-place-in-Ok-Token.ensures.col; within = piece.within })
    piece c.in_ok-kind-in-Ok-Token.ensures.kind c.in_ok-kind-in-Ok-Token.ensures.names_are c.in_ok-kind-in-Ok-Token.ensures.texts_are c.kind_of.ensures.names c.kind_of.ensures.texts c.in_ok-push-in-Ok-Token.ensures.ok

pub returns-in-Err-piece_at-clause-denied : goal.returns-in-Err-piece_at-clause-denied
returns-in-Err-piece_at-clause-denied c = progress_fault _ _ _ _ _ _ _ _ _ _ _ c.in-Err-piece_at.fault.offset _ c.loop-rest.invariant c.in_default.ensures.cases.1 c.in-Err-piece_at.ensures.fault refl c.place_after-in-Err-piece_at.ensures.place c.refused-in-Err-piece_at.ensures

pub invariant_of-result : goal.invariant_of-result
invariant_of-result c = record {
  ended = progress_ended _ _ _ _ _ _ _ _ _ c.loop-rest.invariant c.in_ok-push.ensures.ok;
  short = c.push-2.ensures.short;
}

pub returns-clause-found : goal.returns-clause-found
returns-clause-found c = progress_end _ _ _ _ _ _ _ _ _ c.loop-rest.invariant c.in_default.ensures.cases.1 (eqb-true _ _ (sym c.loop-rest-test.ensures)) c.in_ok-push.ensures.ok

pub returns-clause-known : goal.returns-clause-known
returns-clause-known c = are_known _ _ _ _ _ _ (progress_end _ _ _ _ _ _ _ _ _ c.loop-rest.invariant c.in_default.ensures.cases.1 (eqb-true _ _ (sym c.loop-rest-test.ensures)) c.in_ok-push.ensures.ok)

pub returns-in-Err-clause-names : goal.returns-in-Err-clause-names
returns-in-Err-clause-names c = grows_none _ _ _ refl

pub returns-in-Err-piece_at-clause-names : goal.returns-in-Err-piece_at-clause-names
returns-in-Err-piece_at-clause-names c = c.loop-rest.invariant.names_grow

pub returns-in_err-push-clause-names : goal.returns-in_err-push-clause-names
returns-in_err-push-clause-names c = c.loop-rest.invariant.names_grow

pub returns-clause-names : goal.returns-clause-names
returns-clause-names c = c.loop-rest.invariant.names_grow

pub returns-in-Err-clause-texts : goal.returns-in-Err-clause-texts
returns-in-Err-clause-texts c = grows_none _ _ _ refl

pub returns-in-Err-piece_at-clause-texts : goal.returns-in-Err-piece_at-clause-texts
returns-in-Err-piece_at-clause-texts c = c.loop-rest.invariant.texts_grow

pub returns-in_err-push-clause-texts : goal.returns-in_err-push-clause-texts
returns-in_err-push-clause-texts c = c.loop-rest.invariant.texts_grow

pub returns-clause-texts : goal.returns-clause-texts
returns-clause-texts c = c.loop-rest.invariant.texts_grow
