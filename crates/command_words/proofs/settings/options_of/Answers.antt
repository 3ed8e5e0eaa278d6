use Rattle.std.proofs.Common.{sym}
use Rattle.command_words.proofs.OptionWords.{nothing_set, nothing_bounded, no_turn, turn_back, turn, at_end, at_lone, match_none}
use Rattle.command_words.proofs.settings.options_of.Goals as goal

pub loop-rest-init : goal.loop-rest-init
loop-rest-init c = (nothing_set c.args.command c.args.words.now, nothing_bounded)

pub returns-in_err-setting : goal.returns-in_err-setting
returns-in_err-setting c =
    match_none _ _ _ c.from_residual.ensures
    (no_turn c.args.command c.args.words.now c.loop-rest.rest.now c.loop-rest.settings c.loop-rest.invariant.0 _ _ _ _ c.as_slice.ensures c.as_slice-in-len2-up.ensures c.in-len2-up.len_at_least c.option-item.is c.number-item.is c.in_err-setting.ensures)

pub returns-in_err-settings : goal.returns-in_err-settings
returns-in_err-settings c =
    match_none _ _ _ c.from_residual-in_err-settings.ensures
    (turn_back c.args.command c.args.words.now c.loop-rest.rest.now c.loop-rest.settings c.loop-rest.invariant.0 _ _ _ _ c.as_slice.ensures c.as_slice-in-len2-up.ensures c.in-len2-up.len_at_least c.option-item.is c.number-item.is c.in_ok-setting.setting c.in_ok-setting.ensures c.in_err-settings.ensures.added)

pub loop-rest-preserved : goal.loop-rest-preserved
loop-rest-preserved c = (
  turn c.args.command c.args.words.now c.loop-rest.rest.now c.loop-rest.settings c.loop-rest.invariant.0 _ _ _ _ c.as_slice.ensures c.as_slice-in-len2-up.ensures c.in-len2-up.len_at_least c.option-item.is c.number-item.is c.in_ok-setting.setting c.in_ok-setting.ensures c.in_ok-settings.settings c.in_ok-settings.ensures.added,
  c.in_ok-settings.ensures.bounded c.loop-rest.invariant.1,
)

pub returns-then-is_empty : goal.returns-then-is_empty
returns-then-is_empty c = at_end c.args.command c.args.words.now c.loop-rest.rest.now c.loop-rest.settings c.loop-rest.invariant.0 (sym c.if-is_empty.ensures) c.options.result c.options.ensures

pub returns-else-is_empty : goal.returns-else-is_empty
returns-else-is_empty c = at_lone c.args.command c.args.words.now c.loop-rest.rest.now c.loop-rest.settings c.loop-rest.invariant.0 (sym c.if-is_empty.ensures) c.in_default.len_below
