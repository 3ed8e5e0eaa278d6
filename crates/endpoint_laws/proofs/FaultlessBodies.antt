-- Bodies that say code without a fault have none.
use Rattle.std.proofs.Common.{◌≡◌, ◌==◌, ℕ, Bool, true, false, not, List, [], ◌∷◌, ◌++◌, length, map, is_some, refl, sym, ap, ◌∙◌}
use Rattle.std.specs.Prelude.{bytes_eq}
use Rattle.std.specs.List.{flat_map, list_any}
use Rattle.std.proofs.lemmas.List.{length-map}
use Rattle.chor_base.specs.declared.names.NameId.{NameId}
use Rattle.chor_base.specs.Words.{AllDistinct}
use Rattle.endpoint_reader.specs.declared.input.Input.{Input}
use Rattle.endpoint_reader.specs.declared.input.Named.{Named}
use Rattle.endpoint_reader.specs.declared.node.Action.{Action as Deed}
use Rattle.endpoint_reader.specs.declared.node.Action.TheVariants as deed
use Rattle.endpoint_reader.specs.declared.lists.Signature.{Signature}
use Rattle.endpoint_reader.specs.declared.written.Written.{Written}
use Rattle.endpoint_reader.specs.Tokens.{named, all_named}
use Rattle.endpoint_reader.specs.Nodes.{deed_of}
use Rattle.endpoint_code.specs.declared.endpoints.Endpoints.{Endpoints}
use Rattle.endpoint_code.specs.Faults.{is_among, AreDistinct, all_among, is_listed}
use Rattle.endpoint_code.specs.Trees.{Action, CodeTree, Arms}
use Rattle.merged_codes.specs.Scoped as scoped
use Rattle.merged_codes.specs.Scoped.{IsScopedAction, IsScopedCall}
use Rattle.endpoint_names.specs.Keys.{sign_of_name}
use Rattle.endpoint_names.specs.Bodies.{Body, body_at}
use Rattle.endpoint_names.specs.Bodies as body
use Rattle.endpoint_names.specs.Faults.{fault_at, names_in, repeated, channel_of, procedure_of, unknown_channel, inactive, unbound, bound_again, bound_after, wrong_call, Setting, setting, action_faults, call_faults, body_faults, arms_faults}
use Rattle.endpoint_names.proofs.Keys.{left_true, right_true}
use Rattle.endpoint_laws.specs.Reading.{written_body, written_arms}
use Rattle.endpoint_laws.proofs.Lists.{two_nothings, faultless, faultless_so, count_same}
use Rattle.endpoint_laws.proofs.Once.{not_again, names_distinct}
use Rattle.endpoint_code.specs.Asked.{asks_so}
use Rattle.endpoint_laws.proofs.Backward.{IsFine, AreFine}
use Rattle.endpoint_laws.specs.Spelled.{IsNamed, AreNamed, IsActionSpelled, IsCodeSpelled, AreArmsSpelled}
use Rattle.endpoint_laws.specs.Says.{Names, AllName, DeedSays, joins, sends, receives, selects, gives, gains, sets, shows, asks, BodySays, does, offers, tests, calls, ends, ArmsSay, no_arm, one_arm}
use Rattle.endpoint_laws.proofs.SameNames.{as_many, same_without, same_distinct, same_all_among}
use Rattle.endpoint_laws.proofs.PrintedFaults.{AreSame, is_same, are_same, UnitsSame, among, channel_found, procedure_found, labels_once}

all_there : (bs : List NameId) (ks : List Named) → all_among (names_in ks) bs ≡ true → flat_map (unbound bs) ks ≡ []
all_there bs [] h = refl
all_there bs (k ∷ ks) h =
    two_nothings (unbound bs k) (flat_map (unbound bs) ks) (faultless_so (is_among k.name bs) k.place (left_true (is_among k.name bs) (all_among (names_in ks) bs) h))
    (all_there bs ks (right_true (is_among k.name bs) (all_among (names_in ks) bs) h))

module _ (words : List (List ℕ)) (e : Endpoints) (i : Input) (w : Written) (dn : AllDistinct e.names) (dm : AllDistinct i.names.now) (same : UnitsSame e i w) where
  abbrev known : NameId → Bool
  known = is_listed words e

  abbrev here : Setting
  here = setting w i.names.now words

  -- a session is bound where it is bound
  bound_so : {k : NameId} (n : Named) (bs ns : List NameId) → AreSame e i bs ns → IsNamed e k → Names e k (named i n) → is_among k bs ≡ true → unbound ns n ≡ []
  bound_so n bs ns s h p f = faultless_so (is_among n.name ns) n.place (sym (among e i dn dm (is_same e i n h p) bs ns s) ∙ f)

  free_so : {k : NameId} (n : Named) (bs ns : List NameId) → AreSame e i bs ns → IsNamed e k → Names e k (named i n) → is_among k bs ≡ false → bound_again ns n ≡ []
  free_so n bs ns s h p f = faultless (is_among n.name ns) n.place (sym (among e i dn dm (is_same e i n h p) bs ns s) ∙ f)

  action_fine : (bs ns : List NameId) → AreSame e i bs ns → (a : Action) (d : Deed) → DeedSays e a (deed_of i d) → IsActionSpelled e a → IsScopedAction e a bs → asks_so known a → action_faults here ns d ≡ []
  action_fine bs ns s a (deed.Join c r k) (joins p q o) h (there, free) u =
      let x = channel_found e i dn dm e.channels w.channels same.channels (is_same e i c h.0 p) there.0 there.1 in
      let listed : is_among r.name (names_in x.0.roles.active) ≡ true = sym (among e i dn dm (is_same e i r h.1 q) there.0.active (names_in x.0.roles.active) x.2.active) ∙ there.2 in
      let declared : unknown_channel w c ≡ [] = ap (λ y. fault_at (not (is_some y)) c.place) x.1 in
      let active : inactive (channel_of w c.name) r ≡ [] = ap (λ y. inactive y r) x.1 ∙ faultless_so (is_among r.name (names_in x.0.roles.active)) r.place listed in
      two_nothings (unknown_channel w c ++ inactive (channel_of w c.name) r) (bound_again ns k) (two_nothings (unknown_channel w c) (inactive (channel_of w c.name) r) declared active) (free_so k bs ns s h.2 o free)
  action_fine bs ns s a (deed.Send k b t) (sends p q o) h f u = bound_so k bs ns s h.0 p f
  action_fine bs ns s a (deed.Recv k b x) (receives p q o) h f u = bound_so k bs ns s h.0 p f
  action_fine bs ns s a (deed.Pick k b l) (selects p q o) h f u = bound_so k bs ns s h.0 p f
  action_fine bs ns s a (deed.Give k b g) (gives p q o) h f u = two_nothings (unbound ns k) (unbound ns g) (bound_so k bs ns s h.0 p f.0) (bound_so g bs ns s h.2 o f.1)
  action_fine bs ns s a (deed.Gain k b g) (gains p q o) h f u = two_nothings (unbound ns k) (bound_again ns g) (bound_so k bs ns s h.0 p f.0) (free_so g bs ns s h.2 o f.1)
  action_fine bs ns s a (deed.Set x t) (sets p q) h f u = refl
  action_fine bs ns s a (deed.Show t) (shows q) h f u = refl
  action_fine bs ns s a (deed.Host x f t v) (asks p q o r) h g u =
      faultless_so (here.is_function f.name) f.place (ap (λ v. list_any (bytes_eq v) words) (sym (is_same e i f h.1 q).words) ∙ u)

  after_action : (bs ns : List NameId) → AreSame e i bs ns → (a : Action) (d : Deed) → DeedSays e a (deed_of i d) → IsActionSpelled e a → AreSame e i (scoped.bound_after a bs) (bound_after ns d)
  after_action bs ns s a (deed.Join c r k) (joins p q o) h = (is_same e i k h.2 o, s)
  after_action bs ns s a (deed.Send k b t) (sends p q o) h = s
  after_action bs ns s a (deed.Recv k b x) (receives p q o) h = s
  after_action bs ns s a (deed.Pick k b l) (selects p q o) h = s
  after_action bs ns s a (deed.Give k b g) (gives p q o) h = same_without e.names i.names.now dn dm (is_same e i g h.2 o) bs ns s
  after_action bs ns s a (deed.Gain k b g) (gains p q o) h = (is_same e i g h.2 o, s)
  after_action bs ns s a (deed.Set x t) (sets p q) h = s
  after_action bs ns s a (deed.Show t) (shows q) h = s
  after_action bs ns s a (deed.Host x f t v) (asks p q o r) h = s

  call_fine : (bs ns : List NameId) → AreSame e i bs ns → {f x : NameId} {ss : List NameId} (c : Signature) → IsNamed e f × IsNamed e x × AreNamed e ss
      → Names e f (named i c.name) → Names e x (named i c.param) → AllName e ss (all_named i c.sessions) → IsScopedCall e f x ss bs → call_faults here ns c ≡ []
  call_fine bs ns s {f} {x} {ss} c h p q o u =
      let found = procedure_found e i dn dm w e.procedures w.procedures same.procedures (is_same e i c.name h.0 p) (is_same e i c.param h.1 q) u.unit u.found in
      let passed = are_same e i ss c.sessions h.2 o in
      let counted : length c.sessions ≡ length found.0.signature.sessions =
      sym (length-map c.sessions (λ k. k.name)) ∙ sym (as_many e.names i.names.now ss (names_in c.sessions) passed) ∙ u.count
      ∙ as_many e.names i.names.now u.unit.sessions (names_in found.0.signature.sessions) found.2.sessions ∙ length-map found.0.signature.sessions (λ k. k.name) in
      let unit = procedure_of w c.name.name c.param.name in
      let fits : wrong_call unit c ≡ [] = ap (λ y. wrong_call y c) found.1 ∙ faultless_so (length c.sessions == length found.0.signature.sessions) c.name.place (count_same (length c.sessions) (length found.0.signature.sessions) counted) in
      let bound : all_among (names_in c.sessions) ns ≡ true = sym (same_all_among e.names i.names.now dn dm ss (names_in c.sessions) bs ns passed s) ∙ u.bound in
      let apart : AreDistinct (names_in c.sessions) = same_distinct e.names i.names.now dn dm ss (names_in c.sessions) passed u.apart in
      two_nothings (wrong_call unit c ++ flat_map (unbound ns) c.sessions) (repeated [] (map sign_of_name c.sessions))
      (two_nothings (wrong_call unit c) (flat_map (unbound ns) c.sessions) fits (all_there ns c.sessions bound)) (names_distinct (λ k. k) c.sessions apart)

  mutual
    pub body_fine : (bs ns : List NameId) → AreSame e i bs ns → (c : CodeTree) (b : Body) → BodySays e c (written_body i b) → IsCodeSpelled e c → IsFine known e bs c → body_faults here ns b ≡ []
    body_fine bs ns s c (body.Does d rest) (does {a = a} {c = q} p r) h f =
        two_nothings (action_faults here ns d) (body_faults here (bound_after ns d) rest) (action_fine bs ns s a d p h.0 f.scoped.0 f.asks.0)
        (body_fine (scoped.bound_after a bs) (bound_after ns d) (after_action bs ns s a d p h.0) q rest r h.1 (record { scoped = f.scoped.1; distinct = f.distinct; asks = f.asks.1 }))
    body_fine bs ns s c (body.Offers k a others) (offers {arms = arms} p q r) h f =
        let labels = repeated [] (map sign_of_name (body.labels_of others)) in
        two_nothings (unbound ns k ++ labels) (arms_faults here ns others)
        (two_nothings (unbound ns k) labels (bound_so k bs ns s h.0 p f.scoped.0) (not_again (map sign_of_name (body.labels_of others)) (labels_once e i dn dm arms others h.2 r f.distinct)))
        (arms_fine bs ns s arms others r h.2 (record { scoped = f.scoped.1; distinct = f.distinct; asks = f.asks }))
    body_fine bs ns s c (body.Tests t first second) (tests {c = q} {d = p} o a b) h f =
        two_nothings (body_faults here ns first) (body_faults here ns second)
        (body_fine bs ns s q first a h.1 (record { scoped = f.scoped.0; distinct = f.distinct.0; asks = f.asks.0 }))
        (body_fine bs ns s p second b h.2 (record { scoped = f.scoped.1; distinct = f.distinct.1; asks = f.asks.1 }))
    body_fine bs ns s c (body.Calls at sig) (calls p q o) h f = call_fine bs ns s sig h p q o f.scoped
    body_fine bs ns s c body.Ends ends h f = refl

    arms_fine : (bs ns : List NameId) → AreSame e i bs ns → (arms : Arms) (others : body.Arms) → ArmsSay e arms (written_arms i others) → AreArmsSpelled e arms → AreFine known e bs arms → arms_faults here ns others ≡ []
    arms_fine bs ns s arms body.NoArms no_arm h f = refl
    arms_fine bs ns s arms (body.Arm l b others) (one_arm {c = c} {arms = rest} p q r) h f =
        two_nothings (body_faults here ns b) (arms_faults here ns others)
        (body_fine bs ns s c b q h.1 (record { scoped = f.scoped.0; distinct = f.distinct.1; asks = f.asks.0 }))
        (arms_fine bs ns s rest others r h.2 (record { scoped = f.scoped.1; distinct = f.distinct.2; asks = f.asks.1 }))
