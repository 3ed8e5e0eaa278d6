-- Names and numbers stay in order: by an event of one process.
use Rattle.std.proofs.Common.{◌≡◌, ℕ, Bool, true, false, List, Option, Some, None, refl, subst, sym, ℤ, if◌then◌else◌}
use Rattle.std.specs.FinMap as fin
use Rattle.chor_base.specs.declared.names.NameId.{NameId}
use Rattle.chor_base.specs.declared.value.Value.{Value}
use Rattle.chor_base.specs.declared.value.Value.TheVariants.{Int}
use Rattle.chor_base.specs.declared.expr.UnOp.{UnOp}
use Rattle.chor_base.specs.declared.expr.UnOp.TheVariants.{Neg, Not}
use Rattle.chor_base.specs.declared.expr.BinOp.{BinOp}
use Rattle.chor_base.specs.declared.expr.BinOp.TheVariants.{Add, Sub, Mul, Div, Eq, Ne, Lt, Le, And, Or}
use Rattle.chor_base.specs.declared.event.Event.{Event}
use Rattle.chor_base.specs.Expr.{Term, Constant, Variable, Unary, Binary, value_of, truth_of}
use Rattle.chor_base.specs.NameMap.{Variables}
use Rattle.chor_base.specs.Meaning.{Hosts}
use Rattle.chor_semantics.specs.Choreography.{Ref, Live, Named, Content, OfValue, OfLabel, OfPart, Message, ValueSent, LabelSent, PartSent, Own, Sets, Shows, Asks, Node, Alone, Choreography, Then}
use Rattle.chor_semantics.specs.Sources.{Procedure}
use Rattle.chor_semantics.specs.Steps.{Effect, Keeps, Assigns, Makes, Moves, head, test, delay, both, unfolded, alone, message_of, receipt, vars_of, procedure_named, body_of}
use Rattle.endpoint_code.specs.declared.endpoints.Channel.{Channel}
use Rattle.well_formed.specs.WellFormed.{Scope, scope_after, IsPlain, IsPlainTerm, NodeFits, OwnFits, CommunicationFits, TransitFits, MessageFits, ContentFits, CallFits, IsWellFormed, ArePlain}
use Rattle.well_formed.proofs.References.{NotStart}
use Rattle.well_formed.proofs.Heads.{Headed, sends, gets, owns, starts, headed, owned_event, decided}

-- expressions without endpoints have values without
plain_unary : (op : UnOp) (m : Variables) (e : Term) → IsPlain (value_of (Unary op e) m)
plain_unary Neg m e = tt
plain_unary Not m e = tt

plain_binary : (op : BinOp) (m : Variables) (e f : Term) → IsPlain (value_of (Binary op e f) m)
plain_binary Add m e f = tt
plain_binary Sub m e f = tt
plain_binary Mul m e f = tt
plain_binary Div m e f = tt
plain_binary Eq m e f = tt
plain_binary Ne m e f = tt
plain_binary Lt m e f = tt
plain_binary Le m e f = tt
plain_binary And m e f = tt
plain_binary Or m e f = tt

pub plain_value : (e : Term) (m : Variables) → IsPlainTerm e → ArePlain m → IsPlain (value_of e m)
plain_value (Constant v) m h k = h
plain_value (Variable x) m h k = go (fin.get m x.0) refl
  where
    go : (o : Option Value) → fin.get m x.0 ≡ o → IsPlain (value_of (Variable x) m)
    go None e = rw e tt
    go (Some v) e = rw e (k x.0 v e)
plain_value (Unary op e) m h k = plain_unary op m e
plain_value (Binary op e f) m h k = plain_binary op m e f

pub message_fits : (sc : Scope) (m : Variables) (w : Content) (msg : Message) → ArePlain m → ContentFits sc w → message_of m w ≡ Some msg → MessageFits sc msg
message_fits sc m (OfValue e x) msg k h i = let j : ValueSent (value_of e m) x ≡ msg = cc in subst (MessageFits sc) j (plain_value e m h k)
message_fits sc m (OfLabel l) msg k h i = let j : LabelSent l ≡ msg = cc in subst (MessageFits sc) j tt
message_fits sc m (OfPart (Live s) r) msg k h i = let j : PartSent s r ≡ msg = cc in subst (MessageFits sc) j h
message_fits sc m (OfPart (Named s d) r) msg k h i = absurd cc

module _ (ks : List Channel) (procs : List Procedure) (hosts : Hosts) (vars : List Variables) (sid : ℕ)
    (bodies : (sc : Scope) (f : NameId) (d : ℕ) (ps ss : List Ref) (c : Choreography) → body_of (procedure_named procs f) d ps ss ≡ Some c → CallFits procs sc f d ps ss → IsWellFormed ks procs sc c)
    (plain : (p : ℕ) → ArePlain (vars_of vars p)) where
  head_fits : (sc : Scope) (v : ℤ) (n : Node) (c d : Choreography) (x : Event) (f : Effect) → NotStart x → IsWellFormed ks procs sc (Then n c) → Headed vars sid v n c x f d → IsWellFormed ks procs sc d
  head_fits sc v n c d x f ns w (sends s p a b q u m is made e k left) =
      let t : CommunicationFits sc (Live s) (Live p) q u = subst (NodeFits ks sc) is w.0 in
      let rest : IsWellFormed ks procs sc c = subst (λ y. IsWellFormed ks procs (scope_after sc y) c) is w.1 in
      subst (IsWellFormed ks procs sc) (sym left) (record { session = t.session; message = message_fits sc (vars_of vars p) u m (plain p) t.content made; receiver = t.receiver }, rest)
  head_fits sc v n c d x f ns w (gets s q a b m is e k left) = subst (IsWellFormed ks procs sc) (sym left) (subst (λ y. IsWellFormed ks procs (scope_after sc y) c) is w.1)
  head_fits sc v n c d x f ns w (owns p o is made) =
      subst (IsWellFormed ks procs sc) (sym (owned_event vars sid v (vars_of vars p) p o c d x f made).2) (subst (λ y. IsWellFormed ks procs (scope_after sc y) c) is w.1)
  head_fits sc v n c d x f ns w (starts ch k s active serve q ps is lives e g left) = absurd (subst NotStart e ns)

  pub fits_kept : (sc : Scope) {c d : Choreography} {x : Event} {f : Effect} → NotStart x → IsWellFormed ks procs sc c → Moves procs hosts vars sid c x f d → IsWellFormed ks procs sc d
  fits_kept sc ns w (head {n = n} {c = c} {d = d} {e = x} {f = f} v a h) = head_fits sc v n c d x f ns w (headed vars sid v n c x f d h)
  fits_kept sc ns w (test {p = p} {x = g} {c = c} {c' = c'} {d = d} {e = x} {f = f} h) =
      let i = decided vars p g c c' x f d h in
      subst (IsWellFormed ks procs sc) (sym i.left) (branch (truth_of (value_of g (vars_of vars i.p))))
    where
      branch : (b : Bool) → IsWellFormed ks procs sc (if b then c else c')
      branch true = w.1
      branch false = w.2
  fits_kept sc ns w (delay {n = n} u mv) = (w.0, fits_kept (scope_after sc n) ns w.1 mv)
  fits_kept sc ns w (both u mv mw) = (w.0, fits_kept sc ns w.1 mv, fits_kept sc ns w.2 mw)
  fits_kept sc ns w (unfolded {h = h} {k = k} {ps = ps} {ss = ss} {c = c} u mv) = fits_kept sc ns (bodies sc h k ps ss c u w) mv

  -- a value that is assigned is no endpoint
  abbrev pub IsPlainEffect : Effect → Type 0
  IsPlainEffect Keeps = Unit {0}
  IsPlainEffect (Assigns q y v) = IsPlain v

  plain_receipt : (sc : Scope) (q : ℕ) (m : Message) → MessageFits sc m → IsPlainEffect (receipt q m)
  plain_receipt sc q (ValueSent v y) h = h
  plain_receipt sc q (LabelSent l) h = tt
  plain_receipt sc q (PartSent s r) h = tt

  plain_own : (p : ℕ) (v : ℤ) (o : Own) (c d : Choreography) (x : Event) (f : Effect) → OwnFits o → Makes x f d ≡ alone (vars_of vars p) p v o c → IsPlainEffect f
  plain_own p v (Sets y e) c d x f h i = let j : f ≡ Assigns p y (value_of e (vars_of vars p)) = cc in subst IsPlainEffect (sym j) (plain_value e (vars_of vars p) h (plain p))
  plain_own p v (Shows e) c d x f h i = let j : f ≡ Keeps = cc in subst IsPlainEffect (sym j) tt
  plain_own p v (Asks y g a b) c d x f h i = let j : f ≡ Assigns p y (Int v) = cc in subst IsPlainEffect (sym j) tt

  pub plain_effect : (sc : Scope) {c d : Choreography} {x : Event} {f : Effect} → IsWellFormed ks procs sc c → Moves procs hosts vars sid c x f d → IsPlainEffect f
  plain_effect sc w (head {n = n} {c = c} {d = d} {e = x} {f = f} v a h) = at (headed vars sid v n c x f d h)
    where
      at : Headed vars sid v n c x f d → IsPlainEffect f
      at (sends s p a b q u m is made e k left) = subst IsPlainEffect (sym k) tt
      at (gets s q a b m is e k left) = let t : TransitFits sc s m (Live q) = subst (NodeFits ks sc) is w.0 in subst IsPlainEffect (sym k) (plain_receipt sc q m t.message)
      at (owns p o is made) = let t : NodeFits ks sc (Alone (Live p) o) = subst (NodeFits ks sc) is w.0 in plain_own p v o c d x f t.1 made
      at (starts ch k s active serve q ps is lives e g left) = subst IsPlainEffect (sym g) tt
  plain_effect sc w (test {p = p} {x = g} {c = c} {c' = c'} {d = d} {e = x} {f = f} h) = subst IsPlainEffect (sym (decided vars p g c c' x f d h).keeps) tt
  plain_effect sc w (delay {n = n} u mv) = plain_effect (scope_after sc n) w.1 mv
  plain_effect sc w (both u mv mw) = plain_effect sc w.1 mv
  plain_effect sc w (unfolded {h = h} {k = k} {ps = ps} {ss = ss} {c = c} u mv) = plain_effect sc (bodies sc h k ps ss c u w) mv
