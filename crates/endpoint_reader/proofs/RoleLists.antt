-- How readers of roles go on.
use Rattle.std.proofs.Common.{◌≡◌, ◌-◌, ℕ, inl, inr, List, [], ◌∷◌, ◌++◌, Some, refl, ap, ◌∙◌, sym, subst}
use Rattle.std.proofs.lemmas.List.{append-nil}
use Rattle.chor_base.specs.declared.rule.Rule.TheVariants.{E4}
use Rattle.chor_base.specs.declared.rule.Denied.{Denied}
use Rattle.chor_lexer.specs.Lexeme.{Lexeme}
use Rattle.chor_lexer.specs.declared.mark.Mark.TheVariants.{Comma, Bar, CloseParen}
use Rattle.grammar.specs.Classes.{a_mark}
use Rattle.grammar.specs.Grammars.{within}
use Rattle.grammar.specs.Readers.{Reads, Halts, Leads, HasOne, Lacks, Tells}
use Rattle.grammar.proofs.Reading.{past, reads_past, leads_on, after_reads, first_halts, first_of_two, second_of_two, rule_comes, rule_misses, into_rule}
use Rattle.grammar.proofs.Lists.{last_of}
use Rattle.endpoint_grammar.specs.Written.{Roles as WrittenRoles}
use Rattle.endpoint_grammar.specs.Grammar.{NAME, mark, roles, served, roles_of, served_of}
use Rattle.endpoint_grammar.specs.Values.{rules, Derived, role_list, role_lists}
use Rattle.endpoint_reader.specs.declared.input.Input.{Input}
use Rattle.endpoint_reader.specs.declared.input.Named.{Named}
use Rattle.endpoint_reader.specs.Tokens.{named, all_named}
use Rattle.endpoint_reader.specs.Signatures.{serving, serve_list}

-- ---- service roles

-- these were read, and so many more may come
pub record ServedSoFar (i : Input) (room : ℕ) (ts : List Lexeme) (xs : List Named) (left : ℕ) (us : List Lexeme) : Type 0 where
  pub whole : Derived (served_of left) → Derived (served_of room)
  pub leads : Leads rules (served_of room) ts (served_of left) us whole
  pub is : (v : Derived (served_of left)) → role_list room (whole v) ≡ all_named i xs ++ role_list left v

module _ {i : Input} {room : ℕ} {ts : List Lexeme} where
  pub served_begins : {xs : List Named} → xs ≡ [] → ServedSoFar i room ts xs room ts
  served_begins e = record { whole = λ v. v; leads = record { on = λ h. refl; is = λ y rest d. d }; is = λ v. ap (λ ys. all_named i ys ++ role_list room v) (sym e) }

  module _ {xs zs : List Named} (x : Named) {left : ℕ} {us vs ws : List Lexeme} where
    served_on : ServedSoFar i room ts xs left us → Reads rules (within E4 (Some left) NAME) us (named i x) vs → HasOne (a_mark Comma) vs ws → zs ≡ xs ++ x ∷ [] → ServedSoFar i room ts zs (left - 1) ws
    served_on a r h e = record {
      whole = λ v. a.whole (named i x, inl (role_list (left - 1) v));
      leads = leads_on _ a.leads (leads_on _ (after_reads _ r) (leads_on _ (first_of_two _ (rule_comes _ (served (left - 1)) h.stands)) (into_rule _ (served (left - 1)) h.stands)));
      is = λ v. a.is (named i x, inl (role_list (left - 1) v)) ∙ last_of (named i) xs zs x (role_list (left - 1) v) e;
    }

    pub served_goes : {new : ℕ} → ServedSoFar i room ts xs left us → Reads rules (within E4 (Some left) NAME) us (named i x) vs → HasOne (a_mark Comma) vs ws → zs ≡ xs ++ x ∷ [] → new ≡ left - 1 → ServedSoFar i room ts zs new ws
    served_goes a r h e n = subst (λ (k : ℕ). ServedSoFar i room ts zs k ws) (sym n) (served_on a r h e)

    pub served_ends : ServedSoFar i room ts xs left us → Reads rules (within E4 (Some left) NAME) us (named i x) vs → Lacks (a_mark Comma) vs → Reads rules (mark CloseParen) vs tt ws → zs ≡ xs ++ x ∷ [] → Tells rules (served_of room) (role_list room) ts (all_named i zs) ws
    served_ends a r l c e = record {
      value = a.whole (named i x, inr tt);
      reads = reads_past _ a.leads (reads_past _ (after_reads _ r) (reads_past _ (second_of_two _ (rule_misses _ l)) c));
      is = a.is (named i x, inr tt) ∙ last_of (named i) xs zs x [] e ∙ append-nil (all_named i zs);
    }

  pub served_close : {xs : List Named} {left : ℕ} {us vs : List Lexeme} {d : Denied} (x : Named) → ServedSoFar i room ts xs left us → Reads rules (within E4 (Some left) NAME) us (named i x) vs → Lacks (a_mark Comma) vs → Halts rules (mark CloseParen) vs d → Halts rules (served_of room) ts d
  served_close x a r l c = past _ a.leads (past _ (after_reads _ r) (past _ (second_of_two _ (rule_misses _ l)) c))

  pub served_halts : {xs : List Named} {left : ℕ} {us : List Lexeme} {d : Denied} → ServedSoFar i room ts xs left us → Halts rules (within E4 (Some left) NAME) us d → Halts rules (served_of room) ts d
  served_halts a h = past _ a.leads (first_halts _ h)

-- ---- what comes after the active roles

pub some_served : {n : ℕ} {ts us vs : List Lexeme} {xs : List Lexeme} → HasOne (a_mark Bar) ts us → Tells rules (served_of n) (role_list n) us xs vs → Tells rules (serving n) (serve_list n) ts xs vs
some_served {n = n} h t = record { value = inl (role_list n t.value); reads = reads_past _ (first_of_two _ (rule_comes _ (served n) h.stands)) (reads_past _ (into_rule _ (served n) h.stands) t.reads); is = t.is }

pub some_served_halts : {n : ℕ} {ts us : List Lexeme} {d : Denied} → HasOne (a_mark Bar) ts us → Halts rules (served_of n) us d → Halts rules (serving n) ts d
some_served_halts {n = n} h t = past _ (first_of_two _ (rule_comes _ (served n) h.stands)) (past _ (into_rule _ (served n) h.stands) t)

pub none_served : {n : ℕ} {ts us : List Lexeme} → Lacks (a_mark Bar) ts → Reads rules (mark CloseParen) ts tt us → Tells rules (serving n) (serve_list n) ts [] us
none_served l c = record { value = inr tt; reads = reads_past _ (second_of_two _ (rule_misses _ l)) c; is = refl }

pub none_served_halts : {n : ℕ} {ts : List Lexeme} {d : Denied} → Lacks (a_mark Bar) ts → Halts rules (mark CloseParen) ts d → Halts rules (serving n) ts d
none_served_halts l c = past _ (second_of_two _ (rule_misses _ l)) c

-- ---- active roles

abbrev with_front : List Lexeme → WrittenRoles → WrittenRoles
with_front xs r = record { active = xs ++ r.active; serve = r.serve }

pub record ActiveSoFar (i : Input) (room : ℕ) (ts : List Lexeme) (xs : List Named) (left : ℕ) (us : List Lexeme) : Type 0 where
  pub whole : Derived (roles_of left) → Derived (roles_of room)
  pub leads : Leads rules (roles_of room) ts (roles_of left) us whole
  pub is : (v : Derived (roles_of left)) → role_lists room (whole v) ≡ with_front (all_named i xs) (role_lists left v)

last_list : (n : ℕ) (x : Lexeme) (v : Derived (serving (n - 1))) → role_lists n (x, inr v) ≡ record { active = x ∷ []; serve = serve_list (n - 1) v }
last_list n x (inl ys) = refl
last_list n x (inr v) = refl

module _ {i : Input} {room : ℕ} {ts : List Lexeme} where
  pub active_begins : {xs : List Named} → xs ≡ [] → ActiveSoFar i room ts xs room ts
  active_begins e = record { whole = λ v. v; leads = record { on = λ h. refl; is = λ y rest d. d }; is = λ v. ap (λ ys. with_front (all_named i ys) (role_lists room v)) (sym e) }

  module _ {xs zs : List Named} (x : Named) {left : ℕ} {us vs ws : List Lexeme} where
    active_on : ActiveSoFar i room ts xs left us → Reads rules (within E4 (Some left) NAME) us (named i x) vs → HasOne (a_mark Comma) vs ws → zs ≡ xs ++ x ∷ [] → ActiveSoFar i room ts zs (left - 1) ws
    active_on a r h e = record {
      whole = λ v. a.whole (named i x, inl (role_lists (left - 1) v));
      leads = leads_on _ a.leads (leads_on _ (after_reads _ r) (leads_on _ (first_of_two _ (rule_comes _ (roles (left - 1)) h.stands)) (into_rule _ (roles (left - 1)) h.stands)));
      is = λ v. a.is (named i x, inl (role_lists (left - 1) v)) ∙ ap (λ ys. record { active = ys; serve = (role_lists (left - 1) v).serve }) (last_of (named i) xs zs x (role_lists (left - 1) v).active e);
    }

    pub active_goes : {new : ℕ} → ActiveSoFar i room ts xs left us → Reads rules (within E4 (Some left) NAME) us (named i x) vs → HasOne (a_mark Comma) vs ws → zs ≡ xs ++ x ∷ [] → new ≡ left - 1 → ActiveSoFar i room ts zs new ws
    active_goes a r h e n = subst (λ (k : ℕ). ActiveSoFar i room ts zs k ws) (sym n) (active_on a r h e)

    pub active_ends : {new : ℕ} {ss : List Lexeme} → ActiveSoFar i room ts xs left us → Reads rules (within E4 (Some left) NAME) us (named i x) vs → Lacks (a_mark Comma) vs → zs ≡ xs ++ x ∷ [] → new ≡ left - 1 → Tells rules (serving new) (serve_list new) vs ss ws
        → Tells rules (roles_of room) (role_lists room) ts (record { active = all_named i zs; serve = ss }) ws
    active_ends {ss = ss} a r l e n t = go (subst (λ (k : ℕ). Tells rules (serving k) (serve_list k) vs ss ws) n t)
      where
        go : Tells rules (serving (left - 1)) (serve_list (left - 1)) vs ss ws → Tells rules (roles_of room) (role_lists room) ts (record { active = all_named i zs; serve = ss }) ws
        go t = record {
          value = a.whole (named i x, inr t.value);
          reads = reads_past _ a.leads (reads_past _ (after_reads _ r) (reads_past _ (second_of_two _ (rule_misses _ l)) t.reads));
          is = a.is (named i x, inr t.value) ∙ ap (with_front (all_named i xs)) (last_list left (named i x) t.value)
              ∙ ap (λ ys. record { active = ys; serve = serve_list (left - 1) t.value }) (last_of (named i) xs zs x [] e ∙ append-nil (all_named i zs)) ∙ ap (λ ys. record { active = all_named i zs; serve = ys }) t.is;
        }

  pub active_close : {xs : List Named} {left : ℕ} {us vs : List Lexeme} {new : ℕ} {d : Denied} (x : Named) → ActiveSoFar i room ts xs left us → Reads rules (within E4 (Some left) NAME) us (named i x) vs → Lacks (a_mark Comma) vs → new ≡ left - 1 → Halts rules (serving new) vs d → Halts rules (roles_of room) ts d
  active_close {vs = vs} {d = d} x a r l n c = past _ a.leads (past _ (after_reads _ r) (past _ (second_of_two _ (rule_misses _ l)) (subst (λ (k : ℕ). Halts rules (serving k) vs d) n c)))

  pub active_halts : {xs : List Named} {left : ℕ} {us : List Lexeme} {d : Denied} → ActiveSoFar i room ts xs left us → Halts rules (within E4 (Some left) NAME) us d → Halts rules (roles_of room) ts d
  active_halts a h = past _ a.leads (first_halts _ h)
