-- A typed choreography stays typed by each start.
use Rattle.std.proofs.Common.{◌≡◌, ℕ, List, [], ◌∷◌, ◌++◌, map, length, refl, sym, ap, ◌∙◌, subst, Some, None, Option, Bool, true, false, ◌==◌, ◌||◌, arith, ℤ, if◌then◌else◌}
use Rattle.chor_base.specs.declared.names.NameId.{NameId}
use Rattle.chor_base.specs.declared.event.Event.{Event}
use Rattle.chor_base.specs.declared.event.Event.TheVariants.{Start, Send, Recv, Test}
use Rattle.chor_base.specs.Expr.{Term, value_of, truth_of}
use Rattle.chor_base.specs.NameMap.{Variables}
use Rattle.chor_base.specs.Meaning.{Hosts}
use Rattle.chor_tree.specs.declared.protocol.State.{State}
use Rattle.chor_semantics.specs.Choreography.{Ref, Live, Named, ref_eq, among, named_in, Content, OfValue, OfLabel, OfPart, Message, ValueSent, LabelSent, PartSent, Sets, Shows, Asks, Node, Starts, Communicates, InTransit, Alone, Choreography, Then, put, number_for, numbers_for}
use Rattle.chor_semantics.specs.Sources.{Procedure}
use Rattle.chor_semantics.specs.Steps.{Effect, Keeps, Made, Makes, Moves, head, test, delay, both, unfolded, head_makes, branch_makes, vars_of, message_of, load_of, receipt, sent, live_parts, begun, alone, new_parts, procedure_named, body_of}
use Rattle.well_formed.specs.Holders.{is_role, first_with, as_parts}
use Rattle.well_formed.specs.WellFormed.{service_refs}
use Rattle.well_formed.proofs.References.{self_ref, same_ref, differ_ref, or_rights}
use Rattle.typed_sources.specs.Told.{Act, receiving}
use Rattle.typed_sources.specs.Context.{Context, Hands, handed, opened, content_hand, message_hand, after, exchanged, more_in, told_content, told_load, told_part}
use Rattle.typed_sources.specs.Typing.{HasProtocol, IsTypedContent, IsTypedMessage, AllKnown, AllNew, IsTypedNode, AtCalls, IsTypedIn}
use Rattle.typed_sources.specs.Changes.{lives, started, HoldersInScope, NumbersAreNew}
use Rattle.typed_sources.proofs.PastNodes.{role_same, same_context, not_service}
use Rattle.typed_sources.proofs.Small.{on_or_off}
use Rattle.typed_sources.specs.Renames.{Renames, Stays}
use Rattle.typed_sources.proofs.Renamed.{value_told}
use Rattle.typed_sources.proofs.NewNumbers.{live_active}
use Rattle.typed_sources.proofs.Started.{some_same, pids, no_named, begun_typed}

abbrev pub is_part : Ref → List (Ref × NameId) → Type 0
is_part q parts = among q (map (λ p. p.0) parts) ≡ true

-- who holds a role in a new session is one of its processes
pub first_among : (r : NameId) (parts : List (Ref × NameId)) (q : Ref) → first_with r parts ≡ Some q → among q (map (λ p. p.0) parts) ≡ true
first_among r [] q h = absurd cc
first_among r (p ∷ ps) q h = go (p.1.0 == r.0) h (first_among r ps q)
  where
    go : (b : Bool) → (if b then Some p.0 else first_with r ps) ≡ Some q → (first_with r ps ≡ Some q → among q (map (λ p. p.0) ps) ≡ true) → (ref_eq q p.0 || among q (map (λ p. p.0) ps)) ≡ true
    go true k ih = ap (λ b. b || among q (map (λ p. p.0) ps)) (ap (λ x. ref_eq x p.0) (sym (some_same p.0 q k)) ∙ self_ref p.0)
    go false k ih = or_rights _ _ (ih k)

parts_are : (c : ℕ) (serve : List (ℕ × NameId)) → map (λ p. p.0) (as_parts c serve) ≡ service_refs c serve
parts_are c [] = refl
parts_are c (s ∷ ss) = ap (λ l. Named s.0 c ∷ l) (parts_are c ss)

parts_known : (m : Ref → Bool) (active : List (Ref × NameId)) (c : ℕ) (serve : List (ℕ × NameId)) → AllKnown m (map (λ p. p.0) active) → (q : Ref) → among q (map (λ p. p.0) (active ++ as_parts c serve)) ≡ true → (among q (service_refs c serve) || m q) ≡ true
parts_known m [] c serve k q h = ap (λ b. b || m q) (ap (among q) (sym (parts_are c serve)) ∙ h)
parts_known m (p ∷ ps) c serve k q h = go (ref_eq q p.0) refl h (parts_known m ps c serve k.1 q)
  where
    go : (b : Bool) → ref_eq q p.0 ≡ b → (b || among q (map (λ p. p.0) (ps ++ as_parts c serve))) ≡ true → (among q (map (λ p. p.0) (ps ++ as_parts c serve)) ≡ true → (among q (service_refs c serve) || m q) ≡ true) → (among q (service_refs c serve) || m q) ≡ true
    go false i h ih = ih h
    go true i h ih = or_rights _ _ (ap m (same_ref q p.0 i) ∙ k.0)

module _ (kind : NameId → Option NameId) where
  -- ---- roles stay held by those in scope

  hands_held : (e : Context) → HoldersInScope e → (u : Ref) (r : NameId) (q : Ref) → HasProtocol (e.protocol u) → e.known q ≡ true
      → (s : Ref) (a : NameId) (z : Ref) → handed (Hands u r (Some q)) e.holder s a ≡ Some z → HasProtocol (e.protocol s) × (e.known z ≡ true)
  hands_held e h u r q ku kq s a z i = go (is_role s a u r) refl i
    where
      go : (b : Bool) → is_role s a u r ≡ b → (if b then Some q else e.holder s a) ≡ Some z → HasProtocol (e.protocol s) × (e.known z ≡ true)
      go false j k = (h.session s a z k, h.process s a z k)
      go true j k = (subst (λ x. HasProtocol (e.protocol x)) (sym (role_same u r s a j).0) ku, subst (λ x. e.known x ≡ true) (some_same q z k) kq)

  pub held_after : (e : Context) (n : Node) → HoldersInScope e → AllKnown e.known (named_in n) → IsTypedNode kind e n → HoldersInScope (after kind e n)
  held_after e (Starts ch c k active serve) h a f = record { session = λ s r q i. (go s r q (ref_eq s (Named k c)) refl i).0; process = λ s r q i. (go s r q (ref_eq s (Named k c)) refl i).1 }
    where
      go : (s : Ref) (r : NameId) (q : Ref) (b : Bool) → ref_eq s (Named k c) ≡ b → (if b then first_with r (active ++ as_parts c serve) else e.holder s r) ≡ Some q → HasProtocol (if b then kind ch else e.protocol s) × ((among q (service_refs c serve) || e.known q) ≡ true)
      go s r q true i j = (f.0, parts_known e.known active c serve a q (first_among r (active ++ as_parts c serve) q j))
      go s r q false i j = (h.session s r q j, or_rights _ _ (h.process s r q j))
  held_after e (Communicates s p x q y (OfValue g z)) h a f = record { session = h.session; process = h.process }
  held_after e (Communicates s p x q y (OfLabel l)) h a f = record { session = h.session; process = h.process }
  held_after e (Communicates s p x q y (OfPart u r)) h a f = record { session = λ t b z i. (hands_held e h u r q f.3.1 a.1.0 t b z i).0; process = λ t b z i. (hands_held e h u r q f.3.1 a.1.0 t b z i).1 }
  held_after e (InTransit s x y (ValueSent v z) q) h a f = record { session = h.session; process = h.process }
  held_after e (InTransit s x y (LabelSent l) q) h a f = record { session = h.session; process = h.process }
  held_after e (InTransit s x y (PartSent j r) q) h a f = record { session = λ t b z i. (hands_held e h (Live j) r q f.1.1 a.0 t b z i).0; process = λ t b z i. (hands_held e h (Live j) r q f.1.1 a.0 t b z i).1 }
  held_after e (Alone p o) h a f = record { session = h.session; process = h.process }

  pub fresh_after : (e : Context) (n : Node) (sid pid : ℕ) → NumbersAreNew e sid pid → NumbersAreNew (after kind e n) sid pid
  fresh_after e (Starts ch c k active serve) sid pid l = record { session = l.session; process = λ m h. ap (λ b. b || e.known (Live m)) (not_service m c serve) ∙ l.process m h }
  fresh_after e (Communicates s p x q y w) sid pid l = record { session = l.session; process = l.process }
  fresh_after e (InTransit s x y w q) sid pid l = record { session = l.session; process = l.process }
  fresh_after e (Alone p o) sid pid l = record { session = l.session; process = l.process }

  -- ---- a start past a node

  module _ (e : Context) (ch : NameId) (sid : ℕ) (parts : List (NameId × ℕ)) (h : HoldersInScope e) (late : e.protocol (Live sid) ≡ None) where
    abbrev next : Context
    next = started kind e ch sid parts

    off : (s : Ref) → HasProtocol (e.protocol s) → ref_eq s (Live sid) ≡ false
    off s ks = differ_ref s (Live sid) (λ i. on_or_off (e.protocol (Live sid)) late (subst (λ x. HasProtocol (e.protocol x)) i ks))

    same_protocol : (s : Ref) → HasProtocol (e.protocol s) → next.protocol s ≡ e.protocol s
    same_protocol s ks = ap (λ (b : Bool). if b then kind ch else e.protocol s) (off s ks)

    known_still : (s : Ref) → HasProtocol (e.protocol s) → HasProtocol (next.protocol s)
    known_still s ks = subst HasProtocol (sym (same_protocol s ks)) ks

    same_holder : (s : Ref) (r : NameId) → HasProtocol (e.protocol s) → next.holder s r ≡ e.holder s r
    same_holder s r ks = ap (λ (b : Bool). if b then first_with r (lives parts) else e.holder s r) (off s ks)

    holds_still : (s : Ref) (r : NameId) (q : Ref) → e.holder s r ≡ Some q → next.holder s r ≡ Some q
    holds_still s r q i = same_holder s r (h.session s r q i) ∙ i

    content_still : (p : Ref) (w : Content) → IsTypedContent e p w → IsTypedContent next p w
    content_still p (OfValue g x) f = f
    content_still p (OfLabel l) f = f
    content_still p (OfPart u r) f = (holds_still u r p f.0, known_still u f.1)

    message_still : (w : Message) → IsTypedMessage e w → IsTypedMessage next w
    message_still (ValueSent v x) f = f
    message_still (LabelSent l) f = f
    message_still (PartSent j r) f = (same_holder (Live j) r f.1 ∙ f.0, known_still (Live j) f.1)

    new_still : (c : ℕ) (serve : List (ℕ × NameId)) → AllNew e.known (service_refs c serve) → AllNew next.known (service_refs c serve)
    new_still c [] a = tt
    new_still c (s ∷ ss) a = (ap (λ b. b || e.known (Named s.0 c)) (no_named s.0 c parts) ∙ a.0, a.1, new_still c ss a.2)

    all_still : (rs : List Ref) → AllKnown e.known rs → AllKnown next.known rs
    all_still [] a = tt
    all_still (r ∷ rs) a = (or_rights _ _ a.0, all_still rs a.1)

    fits_still : (n : Node) → IsTypedNode kind e n → IsTypedNode kind next n
    fits_still (Starts d c k active serve) f = (f.0, f.1, new_still c serve f.2, f.3)
    fits_still (Communicates s p a q b w) f = (holds_still s a p f.0, holds_still s b q f.1, f.2, content_still p w f.3)
    fits_still (InTransit s a b w q) f = (holds_still (Live s) b q f.0, message_still w f.1)
    fits_still (Alone p o) f = f

    told_content_still : (p : Ref) (w : Content) → IsTypedContent e p w → told_content next.protocol (e.sorts p) w ≡ told_content e.protocol (e.sorts p) w
    told_content_still p (OfValue g x) f = refl
    told_content_still p (OfLabel l) f = refl
    told_content_still p (OfPart u r) f = ap (told_part r) (same_protocol u f.1)

    told_message_still : (w : Message) → IsTypedMessage e w → told_load next.protocol (load_of w) ≡ told_load e.protocol (load_of w)
    told_message_still (ValueSent v x) f = value_told next.protocol e.protocol v f.0 f.1
    told_message_still (LabelSent l) f = refl
    told_message_still (PartSent j r) f = ap (told_part r) (same_protocol (Live j) f.1)

    more_still : (s : Ref) (more : NameId → List Act) → HasProtocol (e.protocol s) → more_in s more next.done ≡ (λ t r. if ref_eq t (Live sid) then [] else more_in s more e.done t r)
    more_still s more ks = λ i t r. go t r (ref_eq t (Live sid)) (ref_eq t s) refl refl i
      where
        go : (t : Ref) (r : NameId) (b d : Bool) → ref_eq t (Live sid) ≡ b → ref_eq t s ≡ d → (if b then [] else e.done t r) ++ (if d then more r else []) ≡ (if b then [] else e.done t r ++ (if d then more r else []))
        go t r false d i j = refl
        go t r true false i j = refl
        go t r true true i j = let o : ref_eq t (Live sid) ≡ false = ap (λ x. ref_eq x (Live sid)) (same_ref t s j) ∙ off s ks in absurd cc

    hands_still : (u : Ref) (r : NameId) (o : Option Ref) → HasProtocol (e.protocol u) → handed (Hands u r o) next.holder ≡ opened (Live sid) (lives parts) (handed (Hands u r o) e.holder)
    hands_still u r o ku = λ i s a. go s a (ref_eq s (Live sid)) (is_role s a u r) refl refl i
      where
        go : (s : Ref) (a : NameId) (b d : Bool) → ref_eq s (Live sid) ≡ b → is_role s a u r ≡ d → (if d then o else (if b then first_with a (lives parts) else e.holder s a)) ≡ (if b then first_with a (lives parts) else (if d then o else e.holder s a))
        go s a false d i j = refl
        go s a true false i j = refl
        go s a true true i j = let x : ref_eq s (Live sid) ≡ false = ap (λ t. ref_eq t (Live sid)) (role_same u r s a j).0 ∙ off u ku in absurd cc

    content_hands : (p q : Ref) (w : Content) → IsTypedContent e p w → handed (content_hand q w) next.holder ≡ opened (Live sid) (lives parts) (handed (content_hand q w) e.holder)
    content_hands p q (OfValue g x) f = refl
    content_hands p q (OfLabel l) f = refl
    content_hands p q (OfPart u r) f = hands_still u r (Some q) f.1

    message_hands : (q : Ref) (w : Message) → IsTypedMessage e w → handed (message_hand q w) next.holder ≡ opened (Live sid) (lives parts) (handed (message_hand q w) e.holder)
    message_hands q (ValueSent v x) f = refl
    message_hands q (LabelSent l) f = refl
    message_hands q (PartSent j r) f = hands_still (Live j) r (Some q) f.1

    or_swap : (a b c : Bool) → (a || (b || c)) ≡ (b || (a || c))
    or_swap true true c = refl
    or_swap true false c = refl
    or_swap false b c = refl

    named_swap : {A : Type 0} (k c : ℕ) (x y : A) (z : Ref → A) (t : Ref) → (if ref_eq t (Named k c) then x else (if ref_eq t (Live sid) then y else z t)) ≡ (if ref_eq t (Live sid) then y else (if ref_eq t (Named k c) then x else z t))
    named_swap k c x y z (Live m) = refl
    named_swap k c x y z (Named m d) = refl

    pub past_start : (n : Node) → IsTypedNode kind e n → after kind next n ≡ started kind (after kind e n) ch sid parts
    past_start (Starts d c k active serve) f = same_context _ _
        (λ i t. named_swap k c (kind d) (kind ch) e.protocol t i)
        (λ i t r. named_swap k c [] [] (λ u. e.done u r) t i)
        (λ i t r. named_swap k c (first_with r (active ++ as_parts c serve)) (first_with r (lives parts)) (λ u. e.holder u r) t i)
        refl (λ i q. or_swap (among q (service_refs c serve)) (among q (pids parts)) (e.known q) i)
    past_start (Communicates s p a q b w) f = same_context _ _ refl
        (ap (λ o. more_in s (exchanged a b o) next.done) (told_content_still p w f.3) ∙ more_still s (exchanged a b (told_content e.protocol (e.sorts p) w)) (h.session s a p f.0))
        (content_hands p q w f.3) refl refl
    past_start (InTransit s a b w q) f = same_context _ _ refl
        (ap (λ o. more_in (Live s) (receiving a b o) next.done) (told_message_still w f.1) ∙ more_still (Live s) (receiving a b (told_load e.protocol (load_of w))) (h.session (Live s) b q f.0))
        (message_hands q w f.1) refl refl
    past_start (Alone p o) f = same_context _ _ refl refl refl refl refl

  -- ---- each start

  known_back : (e : Context) (n : Node) (m : ℕ) → (after kind e n).known (Live m) ≡ e.known (Live m)
  known_back e (Starts ch c k active serve) m = ap (λ b. b || e.known (Live m)) (not_service m c serve)
  known_back e (Communicates s p x q y w) m = refl
  known_back e (InTransit s x y w q) m = refl
  known_back e (Alone p o) m = refl

  all_back : (e : Context) (n : Node) (ps : List (NameId × ℕ)) → AllKnown (after kind e n).known (pids ps) → AllKnown e.known (pids ps)
  all_back e n [] a = tt
  all_back e n (p ∷ ps) a = (sym (known_back e n p.1) ∙ a.0, all_back e n ps a.1)

  module _ (states : NameId → List State) (called : AtCalls) (procs : List Procedure) (hosts : Hosts) (vars : List Variables) (sid : ℕ)
      (bodies : (e : Context) (h : NameId) (k : ℕ) (ps ss : List Ref) (c : Choreography) → body_of (procedure_named procs h) k ps ss ≡ Some c → called e h k ps ss → IsTypedIn kind states called e c)
      (calls : (u v : Ref → Ref) (d e : Context) → Renames states u v d e → Stays u v d e → (h : NameId) (k : ℕ) (ps ss : List Ref) → called d h k ps ss → called e h k (map u ps) (map v ss)) where
    -- what a start leaves: a typed choreography, where its processes were in scope or have the next numbers
    pub record Began (e : Context) (ch : NameId) (s : ℕ) (parts : List (NameId × ℕ)) (d : Choreography) : Type 0 where
      pub same : s ≡ sid
      pub typed : IsTypedIn kind states called (started kind e ch sid parts) d
      pub kind_known : HasProtocol (kind ch)
      pub active : List (NameId × ℕ)
      pub serve : List (ℕ × NameId)
      pub parts_are : parts ≡ active ++ new_parts serve (length vars)
      pub known : AllKnown e.known (pids active)

    -- what is asked of what is made: where it is a start, it leaves a typed choreography
    abbrev StartKept : Context → Made → Type 0
    StartKept e (Makes x f d) = (ch : NameId) (s : ℕ) (parts : List (NameId × ℕ)) → x ≡ Start ch s parts → Began e ch s parts d

    made_is : (a b : Made) → Some a ≡ Some b → a ≡ b
    made_is a b h = cc

    head_start : (e : Context) (n : Node) (c : Choreography) (v : ℤ) (m : Made) → HoldersInScope e → NumbersAreNew e sid (length vars) → IsTypedIn kind states called e (Then n c) → head_makes vars sid v n c ≡ Some m → StartKept e m
    head_start e (Communicates (Live s) (Live p) a q b w) c v m held late t h = go (message_of (vars_of vars p) w) h
      where
        go : (o : Option Message) → sent s p a q b c o ≡ Some m → StartKept e m
        go None j = absurd cc
        go (Some y) j = subst (StartKept e) (made_is (Makes (Send p s a b (load_of y)) Keeps (Then (InTransit s a b y q) c)) m j) (λ ch z parts i. absurd cc)
    head_start e (Communicates (Live s) (Named x d) a q b w) c v m held late t h = absurd cc
    head_start e (Communicates (Named y d) p a q b w) c v m held late t h = absurd cc
    head_start e (InTransit s a b y (Live p)) c v m held late t h = subst (StartKept e) (made_is (Makes (Recv p s a b (load_of y)) (receipt p y) c) m h) (λ ch z parts i. absurd cc)
    head_start e (InTransit s a b y (Named x d)) c v m held late t h = absurd cc
    head_start e (Alone (Live p) (Sets x g)) c v m held late t h = subst (StartKept e) (made_is (alone (vars_of vars p) p v (Sets x g) c) m h) (λ ch z parts i. absurd cc)
    head_start e (Alone (Live p) (Shows g)) c v m held late t h = subst (StartKept e) (made_is (alone (vars_of vars p) p v (Shows g) c) m h) (λ ch z parts i. absurd cc)
    head_start e (Alone (Live p) (Asks x g a b)) c v m held late t h = subst (StartKept e) (made_is (alone (vars_of vars p) p v (Asks x g a b) c) m h) (λ ch z parts i. absurd cc)
    head_start e (Alone (Named x d) o) c v m held late t h = absurd cc
    head_start e (Starts ch d k active serve) c v m held late (a, f, t) h = go (live_parts active) refl h
      where
        same_start : (c1 c2 : NameId) (s1 s2 : ℕ) (p1 p2 : List (NameId × ℕ)) → ◌≡◌ {A = Event} (Start c1 s1 p1) (Start c2 s2 p2) → (c1 ≡ c2) × (s1 ≡ s2) × (p1 ≡ p2)
        same_start c1 c2 s1 s2 p1 p2 i = (cc, cc, cc)

        go : (o : Option (List (NameId × ℕ))) → live_parts active ≡ o → begun ch d k serve c sid (length vars) o ≡ Some m → StartKept e m
        go None i j = absurd cc
        go (Some []) i j = absurd cc
        go (Some (q ∷ ps)) i j =
            let done = begun_typed kind states sid (length vars) e ch d k active serve (q ∷ ps) i f.0 f.1 f.2 held late called calls c t in
            subst (StartKept e) (made_is (Makes (Start ch sid (q ∷ (ps ++ new_parts serve (length vars)))) Keeps (put (numbers_for d serve (length vars)) (number_for k d sid) c)) m j)
            (λ ch' s parts is.
            let w = same_start ch ch' sid s (q ∷ (ps ++ new_parts serve (length vars))) parts is in
            record {
              same = sym w.1;
              typed = subst (λ y. IsTypedIn kind states called (started kind e y sid parts) (put (numbers_for d serve (length vars)) (number_for k d sid) c)) w.0
                  (subst (λ y. IsTypedIn kind states called (started kind e ch sid y) (put (numbers_for d serve (length vars)) (number_for k d sid) c)) w.2 done);
              kind_known = subst (λ y. HasProtocol (kind y)) w.0 f.0;
              active = q ∷ ps;
              serve = serve;
              parts_are = sym w.2;
              known = subst (AllKnown e.known) (sym (ap (map (λ x. x.0)) (live_active active (q ∷ ps) i))) a;
            })

    test_start : (e : Context) (r : Ref) (g : Term) (c d : Choreography) (m : Made) → branch_makes vars r g c d ≡ Some m → StartKept e m
    test_start e (Named x k) g c d m h = absurd cc
    test_start e (Live p) g c d m h =
        let b = truth_of (value_of g (vars_of vars p)) in
        subst (StartKept e) (made_is (Makes (Test p b) Keeps (if b then c else d)) m h) (λ ch z parts i. absurd cc)

    -- Each start keeps a choreography typed
    pub start_kept : (e : Context) {c d : Choreography} {x : Event} {f : Effect} → Moves procs hosts vars sid c x f d → HoldersInScope e → NumbersAreNew e sid (length vars)
        → (ch : NameId) (s : ℕ) (parts : List (NameId × ℕ)) → x ≡ Start ch s parts → IsTypedIn kind states called e c → Began e ch s parts d
    start_kept e (head {n = n} {c = c} {d = d} {e = x} {f = f} v a h) held late ch s parts is t = head_start e n c v (Makes x f d) held late t h ch s parts is
    start_kept e (test {p = r} {x = g} {c = c} {c' = c'} {d = d} {e = x} {f = f} h) held late ch s parts is t = test_start e r g c c' (Makes x f d) h ch s parts is
    start_kept e (delay {n = n} {d = d} g m) held late ch s parts is t =
        let i = start_kept (after kind e n) m (held_after e n held t.0 t.1) (fresh_after e n sid (length vars) late) ch s parts is t.2 in
        record {
          same = i.same;
          typed = (
            all_still e ch sid parts held (late.session sid (omega arith)) (named_in n) t.0,
            fits_still e ch sid parts held (late.session sid (omega arith)) n t.1,
            subst (λ y. IsTypedIn kind states called y d) (sym (past_start e ch sid parts held (late.session sid (omega arith)) n t.1)) i.typed,
          );
          kind_known = i.kind_known;
          active = i.active;
          serve = i.serve;
          parts_are = i.parts_are;
          known = all_back e n i.active i.known;
        }
    start_kept e (both {p = r} {x = g} h m n) held late ch s parts is t =
        let i = start_kept e m held late ch s parts is t.2 in
        let j = start_kept e n held late ch s parts is t.3 in
        record { same = i.same; typed = (or_rights _ _ t.0, t.1, i.typed, j.typed); kind_known = i.kind_known; active = i.active; serve = i.serve; parts_are = i.parts_are; known = i.known }
    start_kept e (unfolded {h = h} {k = k} {ps = ps} {ss = ss} {c = c} b m) held late ch s parts is t = start_kept e m held late ch s parts is (bodies e h k ps ss c b t)
