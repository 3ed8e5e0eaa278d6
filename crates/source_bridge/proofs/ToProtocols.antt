-- Protocols: what the relations say, the data derives.
use Rattle.std.proofs.Common.{◌-◌, inl, inr, ℕ, List, [], ◌∷◌, map, Some, refl, ap}
use Rattle.chor_base.specs.declared.rule.Rule.TheVariants.{P3}
use Rattle.chor_base.specs.declared.value.Sort.{Sort}
use Rattle.chor_lexer.specs.declared.token.Token.{Token}
use Rattle.chor_tree.specs.Protocols.{Protocol}
use Rattle.chor_tree.specs.declared.file.Named.{Named}
use Rattle.chor_tree.specs.declared.protocol.State.{State}
use Rattle.chor_tree.specs.declared.protocol.ProtoStep.{ProtoStep}
use Rattle.chor_tree.specs.declared.protocol.ProtoStep.TheVariants as is_step
use Rattle.chor_tree.specs.declared.protocol.ProtoArm.{ProtoArm}
use Rattle.chor_tree.specs.declared.protocol.Payload.{Payload}
use Rattle.chor_tree.specs.declared.protocol.Payload.TheVariants as is_payload
use Rattle.chor_lexer.specs.declared.mark.Mark.TheVariants.{Comma}
use Rattle.grammar.specs.Classes.{a_mark}
use Rattle.grammar.specs.Grammars.{Allowed, many, more, in_turn, the_first, the_second, none_of_many, one_of_many, no_more, one_more, with_room}
use Rattle.source_grammar.specs.Grammar as sg
use Rattle.source_grammar.specs.Limits.{KeepsMore, KeepsList, KeepsNames, KeepsStep, KeepsState, KeepsMoreStates, KeepsProtocol}
use Rattle.source_rows.specs.Sources.{Source, NAME, sort as sorts, payload, arm, commas, step, state, protocol, names}
use Rattle.source_rows.specs.Values.{Tables, Derived, name, listing, sort_of, payload_of, arm_of, step_of, state_of, protocol_of}
use Rattle.source_bridge.specs.Bridge.{There, AreTables, ByData}
use Rattle.source_bridge.proofs.ToTerminals.{to_here, to_mark, to_word, to_name, room_to, separated}

module _ (i : Tables) (z : AreTables i) (Q : Allowed) where
  -- ---- lists with a limit, whose items keep what K asks

  module _ {A : Type 0} {R : List Token → A → List Token → Type 0} (K : (ts : List Token) (x : A) (rest : List Token) → R ts x rest → Type 0) (g : Source) (f : Derived g → A)
      (item : (ts : List Token) (x : A) (rest : List Token) → (d : R ts x rest) → K ts x rest d → There i ts → ByData i Q g f ts x rest) where
    limited_more : (n : ℕ) {ts rest : List Token} {xs : List A} → (d : sg.MoreAre R ts xs rest) → KeepsMore Q K n d → There i ts → ByData i Q (more P3 (Some n) (a_mark Comma) g) (map f) ts xs rest
    limited_more n sg.no_more k h = record { value = []; is = no_more; same = refl; there = h }
    limited_more n (sg.one_more {t1 = t1} c x m) k h =
        to_here (to_mark i z Q c h) (λ c1 c2 c3 h0.
        to_here (item _ _ _ x k.1 h0) (λ x1 x2 x3 h1.
        to_here (limited_more (n - 1) m k.2 h1) (λ m1 m2 m3 h2.
        separated i Q c2 (λ l p j. record { value = x1 ∷ m1; is = one_more l p j (with_room (room_to i Q P3 n t1 k.0) x2) m2; same = λ o. x3 o ∷ m3 o; there = h2 }))))

    pub limited_list : (n : ℕ) {ts rest : List Token} {xs : List A} → (d : sg.ListIs R ts xs rest) → KeepsList Q K n d → There i ts → ByData i Q (commas (Some n) g) (listing f) ts xs rest
    limited_list n {ts = ts} (sg.a_list x m) k h =
        to_here (item _ _ _ x k.1 h) (λ x1 x2 x3 h1.
        to_here (limited_more (n - 1) m k.2 h1) (λ m1 m2 m3 h2.
        record { value = (x1, m1); is = in_turn (with_room (room_to i Q P3 n ts k.0) x2) m2; same = λ o. x3 o ∷ m3 o; there = h2 }))

  pub to_limited_names : (n : ℕ) {ts rest : List Token} {ns : List Named} → (d : sg.NamesAre i.words ts ns rest) → KeepsNames Q n d → There i ts → ByData i Q (names (Some n)) (listing (name i)) ts ns rest
  to_limited_names n d k h = limited_list (λ ts x rest d. Unit {0}) NAME (name i) (λ ts x rest d k h. to_name i z Q d h) n d k h

  -- ---- protocols

  pub to_sort : {ts rest : List Token} {s : Sort} → sg.SortIs i.words ts s rest → There i ts → ByData i Q sorts sort_of ts s rest
  to_sort (sg.int w) h = to_here (to_word i z Q w h) (λ w1 w2 w3 h0. record { value = inl w1; is = the_first w2; same = refl; there = h0 })
  to_sort (sg.bool w) h = to_here (to_word i z Q w h) (λ w1 w2 w3 h0. record { value = inr (inl w1); is = the_second (the_first w2); same = refl; there = h0 })
  to_sort (sg.text w) h = to_here (to_word i z Q w h) (λ w1 w2 w3 h0. record { value = inr (inr w1); is = the_second (the_second w2); same = refl; there = h0 })

  pub to_payload : {ts rest : List Token} {p : Payload} → sg.PayloadIs i.words ts p rest → There i ts → ByData i Q payload (payload_of i) ts p rest
  to_payload (sg.plain s) h = to_here (to_sort s h) (λ s1 s2 s3 h0. record { value = inl s1; is = the_first s2; same = ap is_payload.Plain s3; there = h0 })
  to_payload (sg.endpoint p d s a r) h =
      to_here (to_name i z Q p h) (λ p1 p2 p3 h0.
      to_here (to_mark i z Q d h0) (λ d1 d2 d3 h1.
      to_here (to_name i z Q s h1) (λ s1 s2 s3 h2.
      to_here (to_mark i z Q a h2) (λ a1 a2 a3 h3.
      to_here (to_name i z Q r h3) (λ r1 r2 r3 h4.
      record { value = _; is = the_second (in_turn p2 (in_turn d2 (in_turn s2 (in_turn a2 r2)))); same = λ j. is_payload.Endpoint (p3 j) (s3 j) (r3 j); there = h4 })))))

  to_arm : (ts : List Token) (x : ProtoArm) (rest : List Token) → sg.ArmIs i.words ts x rest → Unit {0} → There i ts → ByData i Q arm (arm_of i) ts x rest
  to_arm ts x rest (sg.an_arm l w n) k h =
      to_here (to_name i z Q l h) (λ l1 l2 l3 h0.
      to_here (to_word i z Q w h0) (λ w1 w2 w3 h1.
      to_here (to_name i z Q n h1) (λ n1 n2 n3 h2.
      record { value = _; is = in_turn l2 (in_turn w2 n2); same = λ j. record { label = l3 j; next = n3 j }; there = h2 })))

  pub to_step : {ts rest : List Token} {s : ProtoStep} → (d : sg.StepIs i.words ts s rest) → KeepsStep Q d → There i ts → ByData i Q step (step_of i) ts s rest
  to_step (sg.end_step w) k h = to_here (to_word i z Q w h) (λ w1 w2 w3 h0. record { value = inl w1; is = the_first w2; same = refl; there = h0 })
  to_step (sg.value_step a r b c p w n) k h =
      to_here (to_name i z Q a h) (λ a1 a2 a3 h0.
      to_here (to_mark i z Q r h0) (λ r1 r2 r3 h1.
      to_here (to_name i z Q b h1) (λ b1 b2 b3 h2.
      to_here (to_mark i z Q c h2) (λ c1 c2 c3 h3.
      to_here (to_payload p h3) (λ p1 p2 p3 h4.
      to_here (to_word i z Q w h4) (λ w1 w2 w3 h5.
      to_here (to_name i z Q n h5) (λ n1 n2 n3 h6.
      record { value = _; is = the_second (in_turn a2 (in_turn r2 (in_turn b2 (the_first (in_turn c2 (in_turn p2 (in_turn w2 n2))))))); same = λ j. is_step.Value (a3 j) (b3 j) (p3 j) (n3 j); there = h6 })))))))
  to_step (sg.choice_step a r b o xs c) k h =
      to_here (to_name i z Q a h) (λ a1 a2 a3 h0.
      to_here (to_mark i z Q r h0) (λ r1 r2 r3 h1.
      to_here (to_name i z Q b h1) (λ b1 b2 b3 h2.
      to_here (to_mark i z Q o h2) (λ o1 o2 o3 h3.
      to_here (limited_list (λ ts x rest d. Unit {0}) arm (arm_of i) to_arm 64 xs k h3) (λ x1 x2 x3 h4.
      to_here (to_mark i z Q c h4) (λ c1 c2 c3 h5.
      record { value = _; is = the_second (in_turn a2 (in_turn r2 (in_turn b2 (the_second (in_turn o2 (in_turn x2 c2)))))); same = λ j. is_step.Choice (a3 j) (b3 j) (x3 j); there = h5 }))))))

  pub to_state : {ts rest : List Token} {s : State} → (d : sg.StateIs i.words ts s rest) → KeepsState Q d → There i ts → ByData i Q state (state_of i) ts s rest
  to_state (sg.a_state n a s m) k h =
      to_here (to_name i z Q n h) (λ n1 n2 n3 h0.
      to_here (to_mark i z Q a h0) (λ a1 a2 a3 h1.
      to_here (to_step s k h1) (λ s1 s2 s3 h2.
      to_here (to_mark i z Q m h2) (λ m1 m2 m3 h3.
      record { value = _; is = in_turn n2 (in_turn a2 (in_turn s2 m2)); same = λ j. record { name = n3 j; step = s3 j }; there = h3 }))))

  to_states : (n : ℕ) {ts rest : List Token} {ss : List State} → (d : sg.MoreStatesAre i.words ts ss rest) → KeepsMoreStates Q n d → There i ts → ByData i Q (many P3 (Some n) state) (map (state_of i)) ts ss rest
  to_states n sg.no_state k h = record { value = []; is = none_of_many; same = refl; there = h }
  to_states n {ts = ts} (sg.one_state s m) k h =
      to_here (to_state s k.1 h) (λ s1 s2 s3 h0.
      to_here (to_states (n - 1) m k.2 h0) (λ m1 m2 m3 h1.
      record { value = s1 ∷ m1; is = one_of_many (room_to i Q P3 n ts k.0) s2 m2; same = λ j. s3 j ∷ m3 j; there = h1 }))

  pub to_protocol : {ts rest : List Token} {p : Protocol} → (d : sg.ProtocolIs i.words ts p rest) → KeepsProtocol Q d → There i ts → ByData i Q protocol (protocol_of i) ts p rest
  to_protocol (sg.a_protocol w n o rs c b (sg.some_states s ss) q) k h =
      to_here (to_word i z Q w h) (λ w1 w2 w3 h0.
      to_here (to_name i z Q n h0) (λ n1 n2 n3 h1.
      to_here (to_mark i z Q o h1) (λ o1 o2 o3 h2.
      to_here (to_limited_names 16 rs k.0 h2) (λ r1 r2 r3 h3.
      to_here (to_mark i z Q c h3) (λ c1 c2 c3 h4.
      to_here (to_mark i z Q b h4) (λ b1 b2 b3 h5.
      to_here (to_state s k.1.0 h5) (λ s1 s2 s3 h6.
      to_here (to_states 255 ss k.1.1 h6) (λ t1 t2 t3 h7.
      to_here (to_mark i z Q q h7) (λ q1 q2 q3 h8.
      record { value = _; is = in_turn w2 (in_turn n2 (in_turn o2 (in_turn r2 (in_turn c2 (in_turn b2 (in_turn s2 (in_turn t2 q2))))))); same = λ j. record { name = n3 j; roles = r3 j; states = s3 j ∷ t3 j }; there = h8 })))))))))
