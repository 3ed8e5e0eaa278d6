use Rattle.std.proofs.Common.{◌≡◌, ◌∙◌, ◌==◌, sym, ap, true, false, length, arith}
use Rattle.std.proofs.lemmas.Bool.{eq-eqb, true≢false}
use Rattle.net_core.proofs.Castings.{casting_told, told_casting, joined_piece, served_piece}
use Rattle.net_core.proofs.network.Network.may_start.Goals as goal

pub returns-then-parts-active : goal.returns-then-parts-active
returns-then-parts-active c = (
  λ (h : false ≡ true). absurd (true≢false (sym h)),
  λ cast.
      let v = c.args.self.now in
      let told = casting_told v.endpoints v.state.machines c.args.channel.now c.args.parts.now cast in
      let a = ap length c.as_slice-active.ensures in
      let b = ap length c.as_slice-serve.ensures in
      let long = told.long in
      absurd (c.if-parts-active.true (omega arith)),
)

pub returns-then-are_joined : goal.returns-then-are_joined
returns-then-are_joined c =
    let v = c.args.self.now in
    let k = c.args.channel.now in
    let ps = c.args.parts.now in
    let joined = joined_piece v.endpoints v.state.machines k ps _ _ c.as_slice-active.ensures c.split_at.ensures.front ∙ sym c.are_joined.ensures in
    let served = served_piece v.state.machines k ps _ _ _ c.count.result c.as_slice-active.ensures c.as_slice-serve.ensures c.split_at.ensures.back c.count.ensures.count ∙ sym c.are_served.ensures in (
      λ h. told_casting v.endpoints v.state.machines k ps (λ none. let l : length c.as_slice-active.result.now ≡ 0 = ap length (c.as_slice-active.ensures ∙ none) in let e : false ≡ (length c.as_slice-active.result.now == 0) = sym c.if-is_empty.false ∙ c.is_empty.ensures in true≢false (sym (e ∙ eq-eqb (length c.as_slice-active.result.now) 0 l))) (joined ∙ c.if-are_joined.true) (served ∙ h),
      λ cast. sym served ∙ (casting_told v.endpoints v.state.machines k ps cast).serves_all,
    )

pub returns-else-are_joined : goal.returns-else-are_joined
returns-else-are_joined c =
    let v = c.args.self.now in
    let k = c.args.channel.now in
    let ps = c.args.parts.now in
    let joined = joined_piece v.endpoints v.state.machines k ps _ _ c.as_slice-active.ensures c.split_at.ensures.front ∙ sym c.are_joined.ensures in (
      λ h. let yes : c.are_joined.result ≡ true = h in let no : c.are_joined.result ≡ false = c.if-are_joined.false in absurd (true≢false (sym yes ∙ no)),
      λ cast. sym joined ∙ (casting_told v.endpoints v.state.machines k ps cast).joins_all,
    )
