-- What comes after the first word of a tail.
use Rattle.std.proofs.Common.{◌≡◌, ◌≤◌, ◌<◌, ℕ, List, [], ◌∷◌, ◌++◌, None, All, length, refl, ap, ◌∙◌, sym, map, codes, arith}
use Rattle.std.proofs.lemmas.List.{append-nil}
use Rattle.std.proofs.lemmas.List.Elements.{All-map, All-cons, All-nil, All-head, All-tail, All-push, All-same, All-weaker}
use Rattle.chor_base.specs.declared.expr.Expr.{Expr}
use Rattle.chor_base.specs.Expr.{term_of}
use Rattle.chor_base.specs.declared.rule.Denied.{Denied}
use Rattle.chor_base.specs.declared.rule.Rule.TheVariants.{E4}
use Rattle.chor_lexer.specs.Lexeme.{Lexeme}
use Rattle.chor_lexer.specs.declared.mark.Mark.TheVariants.{CloseBrace}
use Rattle.grammar.specs.Classes.{a_name}
use Rattle.grammar.specs.Grammars.{seq, many, HasRoom, nowhere, Derives, in_turn, one_of_many}
use Rattle.grammar.specs.Readers.{Reads, Halts, Leads, Stands, Lacks, Begins, Tells}
use Rattle.grammar.proofs.Reading.{past, reads_past, leads_on, after_reads, many_end, begun_by, comes_then, token_comes, misses_then, token_misses}
use Rattle.grammar.proofs.Sequences.{then_reads, then_halts, now_halts}
use Rattle.grammar.proofs.Progress.{read_shorter, read_no_longer}
use Rattle.grammar.proofs.Lists.{last_of}
use Rattle.grammar.proofs.Ways.{item_comes}
use Rattle.endpoint_grammar.specs.Written.{Phrase, Body, Offers, Tests, Calls, Arm as WrittenArm}
use Rattle.endpoint_grammar.specs.Grammar.{Part, NAME, mark, word, expr, arm, body, branch, conditional, signature}
use Rattle.endpoint_grammar.specs.Values.{rules, Derived, phrase, arms_of}
use Rattle.endpoint_reader.specs.declared.input.Input.{Input}
use Rattle.endpoint_reader.specs.declared.input.Named.{Named}
use Rattle.endpoint_reader.specs.declared.lines.LineId.{LineId}
use Rattle.endpoint_reader.specs.declared.lines.Arm.{Arm}
use Rattle.endpoint_reader.specs.declared.lines.Line.{Line}
use Rattle.endpoint_reader.specs.declared.lines.Line.TheVariants.{If}
use Rattle.endpoint_reader.specs.Tokens.{named, written}
use Rattle.endpoint_reader.specs.Signatures.{signed}
use Rattle.endpoint_reader.specs.Lines.{body_in, arms_in, bodies_of, body_at}
use Rattle.endpoint_reader.specs.Bodies.{Grows, OneArm, arms, arm_list, arm_of, BranchOpens, branch_body, conditional_body, call_body}
use Rattle.endpoint_reader.proofs.Tables.{grows_none, grows_on, body_stays, body_pushed, no_fewer}

-- ---- arms

same_arms : (i : Input) (bs : List Body) (xs : List Arm) → arms_of (map (arm_of i bs) xs) ≡ arms_in i bs xs
same_arms i bs [] = refl
same_arms i bs (x ∷ xs) = ap (WrittenArm (named i x.label) (body_in bs x.body)) (same_arms i bs xs)

abbrev Inside : List Line → Arm → Type 0
Inside ls a = a.body.0 < length ls

-- the arms that were read stay
arms_stay : {old new : List Line} (i : Input) (xs : List Arm) → Grows old new → All (Inside old) xs → map (arm_of i (bodies_of i new)) xs ≡ map (arm_of i (bodies_of i old)) xs
arms_stay i [] g h = refl
arms_stay {old} {new} i (x ∷ xs) g h =
    let here : body_at i new x.body ≡ body_at i old x.body = body_stays i g (All-head (Inside old) x xs h) in
    let rest = arms_stay i xs g (All-tail (Inside old) x xs h) in
    λ j. (named i x.label, (here j, tt)) ∷ rest j

still_inside : {old new : List Line} (xs : List Arm) → Grows old new → All (Inside old) xs → All (Inside new) xs
still_inside {old} {new} xs g h = All-weaker (Inside old) (Inside new) (λ a lt. no_fewer {id = a.body} g lt) xs h

abbrev arms_left : ℕ → Part
arms_left p = seq (many E4 None (arm p)) (mark CloseBrace)

arm_begins : {p : ℕ} {l : Lexeme} {ts us : List Lexeme} → Stands a_name l ts us → Begins rules (arm p) ts
arm_begins s = begun_by _ (comes_then _ (token_comes _ s))

one_arm : {p : ℕ} {ts : List Lexeme} → Begins rules (arm p) ts → Leads rules (arms_left p) ts (seq (arm p) (arms_left p)) ts (λ v. (v.0 ∷ v.1.0, v.1.1))
one_arm {p} {ts} b = record { on = (item_comes rules b).on; is = λ v rest d. go v rest d }
  where
    room : (us : List Lexeme) → HasRoom nowhere E4 None us
    room [] = tt
    room (l ∷ us) = λ t. absurd cc

    go : (v : Derived (seq (arm p) (arms_left p))) (rest : List Lexeme) → Derives rules nowhere (seq (arm p) (arms_left p)) ts v rest → Derives rules nowhere (arms_left p) ts (v.0 ∷ v.1.0, v.1.1) rest
    go v rest (in_turn d (in_turn m c)) = in_turn (one_of_many (room ts) d m) c

no_arm : {p : ℕ} {ts : List Lexeme} → Lacks a_name ts → Reads rules (many E4 None (arm p)) ts [] ts
no_arm n = many_end _ (misses_then _ (token_misses _ n))

-- these arms were read, with their lines in the table, and another comes
pub record ArmsSoFar (i : Input) (p : ℕ) (ts : List Lexeme) (first ls : List Line) (xs : List Arm) (us : List Lexeme) : Type 0 where
  pub whole : Derived (arms p) → Derived (arms p)
  pub leads : Leads rules (arms p) ts (arms p) us whole
  pub is : (v : Derived (arms p)) → arm_list p (whole v) ≡ map (arm_of i (bodies_of i ls)) xs ++ arm_list p v
  pub there : All (Inside ls) xs
  pub grows : Grows first ls
  pub further : length us ≤ length ts

pub arms_begin : {i : Input} {p : ℕ} {ts : List Lexeme} {ls : List Line} {xs : List Arm} → xs ≡ [] → ArmsSoFar i p ts ls ls xs ts
arms_begin {i} {p} {ts} {ls} {xs} e = record {
  whole = λ v. v;
  leads = record { on = λ h. refl; is = λ y rest d. d };
  is = λ v. ap (λ ys. map (arm_of i (bodies_of i ls)) ys ++ arm_list p v) (sym e);
  there = All-same (Inside ls) xs [] e (All-nil (Inside ls));
  grows = grows_none ls;
  further = omega arith;
}

module _ {i : Input} {p : ℕ} {ts us : List Lexeme} {first ls : List Line} {xs : List Arm} (s : ArmsSoFar i p ts first ls xs us) where
  pub label_halts : {d : Denied} → Halts rules NAME us d → Halts rules (arms p) ts d
  label_halts h = past _ s.leads (now_halts (now_halts h))

  module _ {vs : List Lexeme} (l : Named) (n : Reads rules NAME us (named i l) vs) where
    pub arm_halts : {d : Denied} → Halts rules (body p) vs d → Halts rules (arms p) ts d
    arm_halts h = past _ s.leads (now_halts (then_halts n h))

    module _ {new : List Line} {b : LineId} {ws : List Lexeme} {zs : List Arm} (r : Reads rules (body p) vs (body_at i new b, tt) ws) (lt : b.0 < length new) (g : Grows ls new) (e : zs ≡ xs ++ (record { label = l; body = b }) ∷ []) where
      abbrev last : Arm
      last = record { label = l; body = b }

      arm_read : Reads rules (arm p) us (arm_of i (bodies_of i new) last) ws
      arm_read = then_reads n r

      arms_with : (ys : List OneArm) → map (arm_of i (bodies_of i ls)) xs ++ arm_of i (bodies_of i new) last ∷ ys ≡ map (arm_of i (bodies_of i new)) zs ++ ys
      arms_with ys = ap (λ zs. zs ++ arm_of i (bodies_of i new) last ∷ ys) (sym (arms_stay i xs g s.there)) ∙ last_of (arm_of i (bodies_of i new)) xs zs last ys e

      pub arms_there : All (Inside new) zs
      arms_there = All-same (Inside new) zs (xs ++ last ∷ []) e (All-push (Inside new) xs last (still_inside xs g s.there) lt)

      pub arms_grow : Grows first new
      arms_grow = grows_on s.grows g

      pub arms_go : {m : Lexeme} {us' : List Lexeme} → Stands a_name m ws us' → ArmsSoFar i p ts first new zs ws
      arms_go h = record {
        whole = λ v. s.whole (arm_of i (bodies_of i new) last, (v.0 ∷ v.1.0, v.1.1));
        leads = leads_on _ s.leads (leads_on _ (after_reads _ arm_read) (one_arm (arm_begins h)));
        is = λ v. s.is (arm_of i (bodies_of i new) last, (v.0 ∷ v.1.0, v.1.1)) ∙ arms_with (v.0 ∷ v.1.0);
        there = arms_there;
        grows = arms_grow;
        further = omega (arith, s.further, read_no_longer arm_read);
      }

      pub arms_end : {ends : List Lexeme} → Lacks a_name ws → Reads rules (mark CloseBrace) ws tt ends → Tells rules (arms p) (arm_list p) ts (map (arm_of i (bodies_of i new)) zs) ends
      arms_end o c = record {
        value = s.whole (arm_of i (bodies_of i new) last, ([], tt));
        reads = reads_past _ s.leads (then_reads arm_read (then_reads (no_arm o) c));
        is = s.is (arm_of i (bodies_of i new) last, ([], tt)) ∙ arms_with [] ∙ append-nil (map (arm_of i (bodies_of i new)) zs);
      }

      pub arms_open : {d : Denied} → Lacks a_name ws → Halts rules (mark CloseBrace) ws d → Halts rules (arms p) ts d
      arms_open o h = past _ s.leads (then_halts arm_read (then_halts (no_arm o) h))

-- ---- a branch, a conditional

-- so were the names before them
pub record ArmsFrom (i : Input) (p : ℕ) (ts : List Lexeme) (names : Lexeme × Lexeme) (first ls : List Line) (xs : List Arm) (us : List Lexeme) : Type 0 where
  pub start : List Lexeme
  pub opens : BranchOpens ts names start
  pub arms : ArmsSoFar i p start first ls xs us

pub branch_shorter : {ts us : List Lexeme} {x : Lexeme × Lexeme} → BranchOpens ts x us → length us < length ts
branch_shorter o = omega (arith, read_shorter refl o.names, read_shorter refl o.opens)

pub branch_halts_in : {p : ℕ} {ts us : List Lexeme} {x : Lexeme × Lexeme} {d : Denied} → BranchOpens ts x us → Halts rules (arms p) us d → Halts rules (branch p) ts d
branch_halts_in o h = then_halts o.names (then_halts o.opens h)

pub branch_is : {p : ℕ} {ts vs ws : List Lexeme} {k a : Lexeme} {b : Body} (i : Input) (bs : List Body) (xs : List Arm) → BranchOpens ts (k, a) vs → Tells rules (arms p) (arm_list p) vs (map (arm_of i bs) xs) ws
    → b ≡ Offers k a (arms_in i bs xs) → Tells rules (branch p) (branch_body p) ts b ws
branch_is {k = k} {a = a} i bs xs o t e = record {
  value = ((k, a), (tt, t.value));
  reads = then_reads o.names (then_reads o.opens t.reads);
  is = ap (λ ys. Offers k a (arms_of ys)) t.is ∙ ap (Offers k a) (same_arms i bs xs) ∙ sym e;
}

pub test_is : {p : ℕ} {ts us vs ws xs : List Lexeme} {e : Phrase} {x y b : Body} → Tells rules expr phrase ts e us → Reads rules (body p) us (x, tt) vs → Reads rules (word (codes "else")) vs tt ws → Reads rules (body p) ws (y, tt) xs
    → b ≡ Tests e x y → Tells rules (conditional p) (conditional_body p) ts b xs
test_is {x = x} {y = y} t f w s e = record {
  value = (t.value, ((x, tt), (tt, (y, tt))));
  reads = then_reads t.reads (then_reads f (then_reads w s));
  is = ap (λ z. Tests z x y) t.is ∙ sym e;
}

pub tests_pushed : {first mid new : List Line} {x id : LineId} (i : Input) (e : Expr) (y : LineId) → x.0 < length first → Grows first mid → new ≡ mid ++ If e x y ∷ [] → id.0 ≡ length mid → body_at i new id ≡ Tests (written i (term_of e)) (body_at i first x) (body_at i mid y)
tests_pushed {mid = mid} {x = x} i e y lt g made at = body_pushed i mid (If e x y) made at ∙ ap (λ b. Tests (written i (term_of e)) b (body_at i mid y)) (body_stays i g lt)

-- its value is the name of a procedure and of its parameter, and the sessions
pub call_is : {w : Lexeme} {ts us : List Lexeme} {f x : Lexeme} {ss : List Lexeme} {b : Body} → Tells rules signature signed ts ((f, x), ss) us → b ≡ Calls w f x ss → Tells rules signature (call_body w) ts b us
call_is {w = w} t e = record { value = t.value; reads = t.reads; is = ap (λ s. Calls w s.0.0 s.0.1 s.1) t.is ∙ sym e }

pub both_inside : {first second : LineId} (ls : List Line) → first.0 < length ls → second.0 < length ls → All (λ next. next.0 < length ls) (first ∷ second ∷ [])
both_inside {first} {second} ls f s =
    let Has : LineId → Type 0 = λ next. next.0 < length ls in
    All-cons Has first (second ∷ []) f (All-cons Has second [] s (All-nil Has))

pub each_inside : (ls : List Line) (xs : List Arm) → All (Inside ls) xs → All (λ next. next.0 < length ls) (map (λ a. a.body) xs)
each_inside ls xs h = All-map (λ (next : LineId). next.0 < length ls) (λ (a : Arm). a.body) xs h
