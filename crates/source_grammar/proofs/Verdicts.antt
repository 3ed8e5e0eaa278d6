-- Tokens up to the end are a source within the limits, or have a first fault, and this is one rule at one place.
use Rattle.std.proofs.Common.{◌≡◌, ◌⊎◌, inl, inr, suc, ℕ, Bool, true, false, not, ◌&&◌, List, [], ◌∷◌, ◌++◌, length, refl, sym, ap, ◌∙◌, subst, arith}
use Rattle.chor_base.specs.declared.rule.Place.{Place}
use Rattle.chor_base.specs.declared.rule.Rule.{Rule}
use Rattle.chor_base.specs.declared.rule.Rule.TheVariants.{P1, P2, P3}
use Rattle.chor_lexer.specs.declared.token.Kind.{Kind}
use Rattle.chor_lexer.specs.declared.token.Kind.TheVariants.{Word, Number, Text, Mark, Last}
use Rattle.chor_lexer.specs.declared.token.Token.{Token}
use Rattle.chor_lexer.specs.Tokens.{is_last, is_ended}
use Rattle.source_grammar.specs.Symbols.{but_at, also_at, Nothing, AreWhole, Reads, Reason, wrong, excess, Stops}
use Rattle.source_grammar.proofs.Wholes.{whole_first, whole_after}
use Rattle.source_grammar.proofs.DecidedTokens.{Outcome, reads, halts}
use Rattle.chor_tree.specs.Source.{Source}
use Rattle.source_grammar.specs.Faults.{IsViable, IsFaultAt, unexpected, excess as exceeds, IsFirstFault, IsWithin}
use Rattle.source_grammar.specs.Files.{SourcePart}
use Rattle.source_grammar.proofs.Files.{source_part}
use Rattle.source_grammar.proofs.Free.{IsFree, file_free}
use Rattle.source_grammar.proofs.FirstFaults.{Whole, CanEnd, can_end, viable, derives_wider, other, other_differs, wrong_is_free, fault_of, first_fault, after_source, within, never_refused_is}
use Rattle.source_grammar.proofs.DecidedBlocks.{decided_source}

-- ---- the rules of limits

is_depth : (r : Rule) → (r ≡ P2) ⊎ (r ≡ P2 → ⊥)
is_depth P2 = inl refl
is_depth r = inr (λ e. absurd cc)

is_count : (r : Rule) → (r ≡ P3) ⊎ (r ≡ P3 → ⊥)
is_count P3 = inl refl
is_count r = inr (λ e. absurd cc)

-- a rule that every source exceeds somewhere is one of them
limit_rule : (r : Rule) (place : Place) → (IsFree (but_at r place) → ⊥) → (r ≡ P2) ⊎ (r ≡ P3)
limit_rule r place n = go (is_depth r) (is_count r)
  where
    go : (r ≡ P2) ⊎ (r ≡ P2 → ⊥) → (r ≡ P3) ⊎ (r ≡ P3 → ⊥) → (r ≡ P2) ⊎ (r ≡ P3)
    go (inl e) y = inl e
    go (inr a) (inl e) = inr e
    go (inr a) (inr b) = absurd (n (record { blocks = λ p e f. a (sym e); items = λ p e f. b (sym e) }))

fault_rule : {names : List (List ℕ)} {before : List Token} {t : Token} {r : Rule} → IsViable names (before ++ t ∷ []) → IsFaultAt names before t r → (r ≡ P2) ⊎ (r ≡ P3)
fault_rule w (unexpected v n) = absurd (n w)
fault_rule {t = t} {r = r} w (exceeds v a) = limit_rule r t.place (λ f. a v.words v.more v.source v.is (file_free f v.is))

differ : {r s : Rule} → (r ≡ P2) ⊎ (r ≡ P3) → (s ≡ P2) ⊎ (s ≡ P3) → (r ≡ s) ⊎ (r ≡ s → ⊥)
differ (inl e) (inl f) = inl (e ∙ sym f)
differ (inl e) (inr f) = inr (λ q. let both : P2 ≡ P3 = sym e ∙ q ∙ f in absurd cc)
differ (inr e) (inl f) = inr (λ q. let both : P3 ≡ P2 = sym e ∙ q ∙ f in absurd cc)
differ (inr e) (inr f) = inl (e ∙ sym f)

-- ---- one rule at a token

-- no limit has the rule of a token that can't be there
not_viable : {names : List (List ℕ)} {before : List Token} {t : Token} → IsFaultAt names before t P1 → IsViable names (before ++ t ∷ []) → ⊥
not_viable (unexpected v n) w = n w
not_viable {t = t} (exceeds v a) w = a v.words v.more v.source v.is (file_free (wrong_is_free t.place) v.is)

-- which can't be there
one_wrong : {names : List (List ℕ)} {before : List Token} {t : Token} {r : Rule} → (IsViable names (before ++ t ∷ []) → ⊥) → IsFaultAt names before t r → r ≡ P1
one_wrong n (unexpected v m) = refl
one_wrong n (exceeds v a) = absurd (n v)

-- or exceeds a limit, where a source exceeds no other there
one_excess : {names : List (List ℕ)} {before : List Token} {t : Token} {r rule : Rule} → CanEnd (also_at rule t.place (other t.place)) names (before ++ t ∷ []) → (r ≡ rule) ⊎ (r ≡ rule → ⊥) → IsFaultAt names before t r → r ≡ rule
one_excess c (inl e) f = e
one_excess c (inr d) (unexpected v n) = absurd (n (viable c))
one_excess {t = t} {r = r} {rule = rule} c (inr d) (exceeds v a) =
    let k = derives_wider {Q' = but_at r t.place} (λ q p h. apart q p h) c.derives in
    absurd (a c.words c.more c.source k.is k.keeps)
  where
    apart : (q : Rule) (p : Place) → also_at rule t.place (other t.place) q p → q ≡ r → p ≡ t.place → ⊥
    apart q p (inl e) f g = other_differs t.place p e g
    apart q p (inr e) f g = d (sym f ∙ e.0)

-- ---- the first fault is one

-- two fronts, each with the item after it, of one list: the same, or one goes on past the other
data Meet {A : Type 0} (b c : List A) (t u : A) : Type 0 where
  together : b ≡ c → t ≡ u → Meet b c t u
  sooner : (more : List A) → c ≡ b ++ t ∷ more → Meet b c t u
  later : (more : List A) → b ≡ c ++ u ∷ more → Meet b c t u

longer : {A : Type 0} (x y : A) (b c : List A) (t u : A) → x ≡ y → Meet b c t u → Meet (x ∷ b) (y ∷ c) t u
longer x y b c t u e (together h i) = together (λ j. e j ∷ h j) i
longer x y b c t u e (sooner more h) = sooner more (λ j. sym e j ∷ h j)
longer x y b c t u e (later more h) = later more (λ j. e j ∷ h j)

meet : {A : Type 0} (b c p q : List A) (t u : A) → b ++ t ∷ p ≡ c ++ u ∷ q → Meet b c t u
meet [] [] p q t u e = together refl cc
meet [] (y ∷ c) p q t u e = let same : y ≡ t = cc in sooner c (ap (λ z. z ∷ c) same)
meet (x ∷ b) [] p q t u e = let same : x ≡ u = cc in later b (ap (λ z. z ∷ b) same)
meet (x ∷ b) (y ∷ c) p q t u e =
    let here : x ≡ y = cc in
    let rest : b ++ t ∷ p ≡ c ++ u ∷ q = cc in
    longer x y b c t u here (meet b c p q t u rest)

-- a first fault, at whose token no other rule is violated
record Settled (names : List (List ℕ)) (ts : List Token) : Type 0 where
  rule : Rule
  place : Place
  first : IsFirstFault names ts rule place
  only : (r : Rule) → IsFaultAt names first.before first.token r → r ≡ rule

same_fault : {names : List (List ℕ)} {ts : List Token} {r : Rule} {p : Place} (s : Settled names ts) → IsFirstFault names ts r p → (r ≡ s.rule) × (p ≡ s.place)
same_fault {names} {ts} {r} {p} s f = go (meet f.before s.first.before f.rest s.first.rest f.token s.first.token (sym f.parts ∙ s.first.parts))
  where
    go : Meet f.before s.first.before f.token s.first.token → (r ≡ s.rule) × (p ≡ s.place)
    go (together b t) = (
      s.only r (subst (λ (u : Token). IsFaultAt names s.first.before u r) t (subst (λ (l : List Token). IsFaultAt names l f.token r) b f.fault)),
      f.at ∙ ap (λ (u : Token). u.place) t ∙ sym s.first.at,
    )
    go (sooner more e) = absurd (s.first.first f.before f.token more r e f.fault)
    go (later more e) = absurd (f.first s.first.before s.first.token more s.rule e s.first.fault)

-- ---- what comes of tokens

abbrev Verdict : List (List ℕ) → List Token → Type 0
Verdict names ts = ((s : Source) × IsWithin names ts s) ⊎ Settled names ts

stopped : {names : List (List ℕ)} {ts : List Token} {rule : Rule} {place : Place} → (s : Stops SourcePart Nothing names ts rule place) → (r : Rule) → r ≡ rule → Reason SourcePart names s.before s.token r → (q : Rule) → IsFaultAt names s.before s.token q → q ≡ r
stopped s r e wrong q f = one_wrong (not_viable (fault_of s r e wrong)) f
stopped {names} s r e (excess c) q f =
    let k = can_end (c (other s.token.place)) in
    one_excess k (differ (fault_rule (viable k) f) (fault_rule (viable k) (fault_of s r e (excess c)))) f

last_is : (k : Kind) → (is_last k ≡ true → k ≡ Last) × (is_last k ≡ false → k ≡ Last → ⊥)
last_is Last = (λ e. refl, λ e f. absurd cc)
last_is (Word n) = (λ e. absurd cc, λ e f. absurd cc)
last_is (Number z) = (λ e. absurd cc, λ e f. absurd cc)
last_is (Text n) = (λ e. absurd cc, λ e f. absurd cc)
last_is (Mark m) = (λ e. absurd cc, λ e f. absurd cc)

end_is : (t : Token) (left : List Token) → is_ended (t ∷ left) ≡ true → is_last t.kind ≡ true → left ≡ []
end_is t [] e l = refl
end_is t (u ∷ left) e l = let no : (not (is_last t.kind) && is_ended (u ∷ left)) ≡ false = ap (λ (b : Bool). not b && is_ended (u ∷ left)) l in let both : true ≡ false = sym e ∙ no in absurd cc

-- after a source the end comes, or what comes can't be there
sourced : {names : List (List ℕ)} {ts : List Token} {v : Whole} {rest : List Token} → AreWhole names ts → Reads SourcePart Nothing names ts v rest → Verdict names ts
sourced {names} {ts} {v} {rest} w r =
    let whole = whole_after source_part r.is w in
    let f = whole_first whole in
    go f.token f.rest f.parts (is_last f.token.kind) refl whole.ended
  where
    go : (t : Token) (left : List Token) → rest ≡ t ∷ left → (b : Bool) → is_last t.kind ≡ b → is_ended rest ≡ true → Verdict names ts
    go t left e true l ended =
        let none = end_is t left (sym (ap is_ended e) ∙ ended) l in
        inl (_, within r (record { token = t; alone = e ∙ ap (λ (k : List Token). t ∷ k) none; last = (last_is t.kind).0 l }))
    go t left e false l ended =
        let f = after_source w r (r.only w) t left e ((last_is t.kind).1 l) in
        inr (record { rule = P1; place = t.place; first = f; only = λ q k. one_wrong (not_viable f.fault) k })

verdict : (names : List (List ℕ)) (ts : List Token) → AreWhole names ts → Verdict names ts
verdict names ts w = go ((decided_source (suc (length ts))).by names ts (omega arith) w)
  where
    go : Outcome SourcePart Nothing names ts → Verdict names ts
    go (reads r) = sourced w r
    go (halts q h) =
        let s = (h.by q refl w).0 in
        inr (record { rule = q.rule; place = q.place; first = first_fault s; only = λ r f. stopped s q.rule refl s.reason r f })

-- ---- laws

pub one_or_the_other_is : (names : List (List ℕ)) (ts : List Token) → AreWhole names ts → ((s : Source) × IsWithin names ts s) ⊎ ((rule : Rule) × (place : Place) × IsFirstFault names ts rule place)
one_or_the_other_is names ts w = go (verdict names ts w)
  where
    go : Verdict names ts → ((s : Source) × IsWithin names ts s) ⊎ ((rule : Rule) × (place : Place) × IsFirstFault names ts rule place)
    go (inl x) = inl x
    go (inr s) = inr (s.rule, s.place, s.first)

pub one_fault_is : (names : List (List ℕ)) (ts : List Token) (r s : Rule) (p q : Place) → AreWhole names ts → IsFirstFault names ts r p → IsFirstFault names ts s q → (r ≡ s) × (p ≡ q)
one_fault_is names ts r s p q w f g = go (verdict names ts w)
  where
    go : Verdict names ts → (r ≡ s) × (p ≡ q)
    go (inl x) = absurd (never_refused_is names ts x.0 r p x.1 f)
    go (inr k) = let a = same_fault k f in let b = same_fault k g in (a.0 ∙ sym b.0, a.1 ∙ sym b.1)
