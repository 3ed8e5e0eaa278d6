-- Blocks are parts of the grammar, though they contain themselves.
use Rattle.std.proofs.Common.{◌≡◌, ◌<◌, ◌-◌, inl, inr, ℕ, List, [], ◌∷◌, ◌++◌, refl, sym, subst, codes, arith}
use Rattle.chor_base.specs.declared.rule.Place.{Place}
use Rattle.chor_base.specs.declared.rule.Rule.TheVariants.{P1, P2, P3}
use Rattle.chor_base.specs.declared.rule.Denied.{Denied}
use Rattle.chor_lexer.specs.Tokens.{IsKnown}
use Rattle.chor_lexer.specs.declared.mark.Mark.TheVariants.{OpenBrace, CloseBrace, OpenParen, CloseParen, Semicolon, Dot, Comma}
use Rattle.chor_lexer.specs.declared.token.Token.{Token}
use Rattle.chor_tree.specs.declared.file.Named.{Named}
use Rattle.source_grammar.specs.Symbols.{Allowed, Part, Further, Nothing, more_words, only_at, Completes, IsPart, Reads, Halts, Apart, IsStable, AreDistinct, Head, Begins, Opens, Within, As, Alike, Leads, RefusesFirst}
use Rattle.source_grammar.specs.Expressions.{Operator}
use Rattle.source_grammar.specs.Values.{After, by_first, by_second, StandsAt}
use Rattle.source_grammar.proofs.Expressions.{expr_part}
use Rattle.source_grammar.proofs.Values.{as_alike, as_part, as_leads, as_begins, as_opens, after_part, after_leads, after_now, after_begins, after_opens, either_part, either_first, either_second, either_begins, either_opens, at_part, at_leads, at_begins, at_opens, stands_there}
use Rattle.source_grammar.proofs.Sequels.{leads_on}
use Rattle.source_grammar.proofs.Choices.{same_part, same_leads}
use Rattle.source_grammar.proofs.Starts.{same_begins, same_opens, nothing_apart, begins_apart, within_part, within_begins, within_leads, full_halts, wrong_halts, allows_added}
use Rattle.source_grammar.proofs.Sound.{Sound, sound_of, sound_after, sound_first, sound_second, sound_within, sound_at, sound_alike, sound_part}
use Rattle.chor_tree.specs.Source.{Statement, Block, Then, Calls, Ends}
use Rattle.source_grammar.specs.Grammar.{MarkIs, WordIs, NameIs, BlockIs, LinesAre, TailIs, a_block, a_line, a_tail, an_end, a_call, a_conditional}
use Rattle.source_grammar.specs.Limits.{KeepsBlock, KeepsLines, KeepsTail}
use Rattle.source_grammar.specs.Parts.{MarkPart, WordPart, AMark, AWord, Or}
use Rattle.source_grammar.specs.Statements.{StatementPart, StatementFirst, StatementMore}
use Rattle.source_grammar.specs.Blocks.{BlockPart, LinesPart, TailPart, TailFirst, BlockTail, PassedMore, BlockSteps, LineAt, LinePart, LastPart, LinesSteps, PassedPart, CallTail, IfTail, LaterAt, TailAt, TailSteps}
use Rattle.source_grammar.proofs.Terminals.{mark_part, mark_begins, mark_stable, mark_head, no_mark_head, word_part, word_begins, word_stable, word_reads, word_head, no_word_head, name_part, end_keyword, call_keyword, if_keyword, else_keyword, name_not_word, words_differ, mark_not_word, marks_differ, nothing_distinct, or_stable, or_distinct, distinct_or}
use Rattle.source_grammar.proofs.PassedNames.{passed_part, close_apart}
use Rattle.source_grammar.proofs.Statements.{name_then, mark_then, word_then, past_mark, past_word, at_one, word_opens, mark_opens, statement_part, statement_begins, statement_opens, statement_first_stable, no_operator, seq, say}

-- ---- what they are step by step

block_steps : (Q : Allowed) (blocks path : ℕ) (names : List (List ℕ)) (ts : List Token) (b : Block) (rest : List Token) (d : BlockIs names ts b rest) → KeepsBlock Q blocks path d → BlockSteps blocks path Q names ts b rest
block_steps Q blocks path names ts b rest (a_block o l c) keeps = record { room = keeps.0; is = seq tt _ o (seq b _ (record { is = l; keeps = keeps.1 }) (say tt c)) }

block_back : {Q : Allowed} {blocks path : ℕ} {names : List (List ℕ)} {ts : List Token} {b : Block} {rest : List Token} → BlockSteps blocks path Q names ts b rest → BlockPart blocks path Q names ts b rest
block_back {Q} {blocks} {path} {names} {ts} {b} {rest} h =
    let h1 = h.is.second in
    let h2 = h1.second in
    subst (λ (x : Block). BlockPart blocks path Q names ts x rest) (sym h2.same) (record { is = a_block h.is.first h1.first.is h2.is; keeps = (h.room, h1.first.keeps) })

pub block_alike : (blocks path : ℕ) → Alike (BlockPart blocks path) (BlockSteps blocks path) (λ b. b)
block_alike blocks path = record {
  to = λ {Q} {names} {ts} {x} {rest} h. record { value = x; is = block_steps Q blocks path names ts x rest h.is h.keeps; same = refl };
  from = λ h. block_back h;
}

lines_steps : (Q : Allowed) (blocks path : ℕ) (names : List (List ℕ)) (ts : List Token) (b : Block) (rest : List Token) (d : LinesAre names ts b rest) → KeepsLines Q blocks path d → LinesSteps blocks path Q names ts b rest
lines_steps Q blocks path names ts b rest (a_line {p = p} {s = s} {b = c} at d m l) keeps =
    by_first (record { room = keeps.0; is = record { place = p; at = at; is = seq s _ (record { is = d; keeps = keeps.1 }) (seq tt _ m (say c (record { is = l; keeps = keeps.2 }))) } })
lines_steps Q blocks path names ts b rest (a_tail t) keeps = by_second (record { room = keeps.0; is = record { is = t; keeps = keeps.1 } })

lines_back : {Q : Allowed} {blocks path : ℕ} {names : List (List ℕ)} {ts : List Token} {b : Block} {rest : List Token} → LinesSteps blocks path Q names ts b rest → LinesPart blocks path Q names ts b rest
lines_back {Q} {blocks} {path} {names} {ts} {b} {rest} (by_first h) =
    let h1 = h.is.is in
    let h2 = h1.second in
    let h3 = h2.second in
    subst (λ (x : Block). LinesPart blocks path Q names ts x rest) (sym h3.same) (record { is = a_line h.is.at h1.first.is h2.first h3.is.is; keeps = (h.room, h1.first.keeps, h3.is.keeps) })
lines_back (by_second h) = record { is = a_tail h.is.is; keeps = (h.room, h.is.keeps) }

pub lines_alike : (blocks path : ℕ) → Alike (LinesPart blocks path) (LinesSteps blocks path) (λ b. b)
lines_alike blocks path = record {
  to = λ {Q} {names} {ts} {x} {rest} h. record { value = x; is = lines_steps Q blocks path names ts x rest h.is h.keeps; same = refl };
  from = λ h. lines_back h;
}

tail_steps : (Q : Allowed) (blocks path : ℕ) (names : List (List ℕ)) (ts : List Token) (b : Block) (rest : List Token) (d : TailIs names ts b rest) → KeepsTail Q blocks path d → TailSteps blocks path Q names ts b rest
tail_steps Q blocks path names ts b rest (an_end {p = p} at w) keeps = record { place = p; at = at; is = by_first (say tt w) }
tail_steps Q blocks path names ts b rest (a_call {p = p} {f = f} {ps = ps} {ss = ss} at w n o d c) keeps =
    record { place = p; at = at; is = by_second (by_first (seq tt _ w (seq f _ n (seq tt _ o (seq (ps, ss) _ d (say tt c)))))) }
tail_steps Q blocks path names ts b rest (a_conditional {p = p} {q = q} {e = e} {a = a} {b = c} at w n d h f v g) keeps =
    record { place = p; at = at; is = by_second (by_second (seq tt _ w (seq q _ n (seq tt _ d (seq e _ (record { is = h; keeps = keeps.0 }) (seq a _ (record { is = f; keeps = keeps.1 }) (seq tt _ v (say c (record { is = g; keeps = keeps.2 }))))))))) }

tail_back : {Q : Allowed} {blocks path : ℕ} {names : List (List ℕ)} {ts : List Token} {p : Place} {b : Block} {rest : List Token} → StandsAt p ts → TailAt blocks path p Q names ts b rest → TailPart blocks path Q names ts b rest
tail_back {Q} {blocks} {path} {names} {ts} {p} {b} {rest} at (by_first h) =
    subst (λ (x : Block). TailPart blocks path Q names ts x rest) (sym h.same) (record { is = an_end at h.is; keeps = tt })
tail_back {Q} {blocks} {path} {names} {ts} {p} {b} {rest} at (by_second (by_first h)) =
    let h1 = h.second in
    let h2 = h1.second in
    let h3 = h2.second in
    let h4 = h3.second in
    subst (λ (x : Block). TailPart blocks path Q names ts x rest) (sym h4.same) (record { is = a_call at h.first h1.first h2.first h3.first h4.is; keeps = tt })
tail_back {Q} {blocks} {path} {names} {ts} {p} {b} {rest} at (by_second (by_second h)) =
    let h1 = h.second in
    let h2 = h1.second in
    let h3 = h2.second in
    let h4 = h3.second in
    let h5 = h4.second in
    let h6 = h5.second in
    subst (λ (x : Block). TailPart blocks path Q names ts x rest) (sym h6.same) (record {
      is = a_conditional at h.first h1.first h2.first h3.first.is h4.first.is h5.first h6.is.is;
      keeps = (h3.first.keeps, h4.first.keeps, h6.is.keeps);
    })

pub tail_alike : (blocks path : ℕ) → Alike (TailPart blocks path) (TailSteps blocks path) (λ b. b)
tail_alike blocks path = record {
  to = λ {Q} {names} {ts} {x} {rest} h. record { value = x; is = tail_steps Q blocks path names ts x rest h.is h.keeps; same = refl };
  from = λ h. tail_back h.at h.is;
}

-- ---- what they begin with

pub end_begins : {p : Place} → Begins (As (WordPart (codes "end")) (λ u. Ends p)) (AWord (codes "end"))
end_begins = as_begins (word_begins (codes "end"))

pub call_begins : {p : Place} → Begins (After (WordPart (codes "call")) (λ u. CallTail p)) (AWord (codes "call"))
call_begins = after_begins (word_begins (codes "call"))

pub if_begins : {blocks path : ℕ} {p : Place} → Begins (After (WordPart (codes "if")) (λ u. IfTail blocks path p)) (AWord (codes "if"))
if_begins = after_begins (word_begins (codes "if"))

pub later_begins : {blocks path : ℕ} {p : Place} → Begins (LaterAt blocks path p) (Or (AWord (codes "call")) (AWord (codes "if")))
later_begins = either_begins call_begins if_begins

pub tail_at_begins : {blocks path : ℕ} (p : Place) → Begins (TailAt blocks path p) TailFirst
tail_at_begins p = either_begins end_begins later_begins

pub tail_begins : (blocks path : ℕ) → Begins (TailPart blocks path) TailFirst
tail_begins blocks path = same_begins (at_begins tail_at_begins) (tail_alike blocks path)

pub line_at_begins : (blocks path : ℕ) (p : Place) → Begins (LineAt blocks path p) StatementFirst
line_at_begins blocks path p = after_begins statement_begins

pub line_begins : (blocks path : ℕ) → Begins (LinePart blocks path) StatementFirst
line_begins blocks path = at_begins (line_at_begins blocks path)

pub block_begins : (blocks path : ℕ) → Begins (BlockPart blocks path) (AMark OpenBrace)
block_begins blocks path = same_begins (within_begins (after_begins (mark_begins OpenBrace))) (block_alike blocks path)

pub end_no_later : AreDistinct (AWord (codes "end")) (Or (AWord (codes "call")) (AWord (codes "if")))
end_no_later = distinct_or (words_differ (codes "end") (codes "call") refl refl) (words_differ (codes "end") (codes "if") refl refl)

pub call_no_if : AreDistinct (AWord (codes "call")) (AWord (codes "if"))
call_no_if = words_differ (codes "call") (codes "if") refl refl

pub statement_no_tail : AreDistinct StatementFirst TailFirst
statement_no_tail =
    or_distinct
    (distinct_or (words_differ (codes "start") (codes "end") refl refl) (distinct_or (words_differ (codes "start") (codes "call") refl refl) (words_differ (codes "start") (codes "if") refl refl)))
    (distinct_or (name_not_word end_keyword) (distinct_or (name_not_word call_keyword) (name_not_word if_keyword)))

-- ---- what contains itself is a part

-- what comes after a statement, an expression and what is passed
pub semicolon_apart : {S : Unit {0} → Part Block} {D : Further} → Apart StatementMore (After (MarkPart Semicolon) S) D
semicolon_apart = begins_apart (after_begins (mark_begins Semicolon)) (distinct_or (distinct_or (distinct_or (marks_differ Semicolon Comma (λ e. absurd cc)) (nothing_distinct (AMark Semicolon))) (mark_not_word Semicolon (codes "new"))) (no_operator Semicolon refl))

pub brace_apart : {blocks path : ℕ} {S : Block → Part Block} {D : Further} → Apart Operator (After (BlockPart blocks path) S) D
brace_apart {blocks} {path} = begins_apart (after_begins (block_begins blocks path)) (no_operator OpenBrace refl)

mutual
  sound_block : (Q : Allowed) (blocks path : ℕ) (names : List (List ℕ)) (ts : List Token) (b : Block) (rest : List Token) (d : BlockIs names ts b rest) → KeepsBlock Q blocks path d → Sound (BlockPart blocks path) Nothing Q names ts b rest
  sound_block Q blocks path names ts b rest (a_block {t1 = t1} {t2 = t2} o l c) keeps =
      sound_alike (block_alike blocks path)
      (sound_within (after_begins (mark_begins OpenBrace)) keeps.0
      (sound_after {x = tt} (λ u. nothing_apart) (sound_of (mark_part OpenBrace) o)
      (sound_after (λ k. nothing_apart) (sound_lines Q (blocks - 1) path names t1 b t2 l keeps.1)
      (sound_alike {y = tt} as_alike (sound_of (mark_part CloseBrace) c)))))

  sound_lines : (Q : Allowed) (blocks path : ℕ) (names : List (List ℕ)) (ts : List Token) (b : Block) (rest : List Token) (d : LinesAre names ts b rest) → KeepsLines Q blocks path d → Sound (LinesPart blocks path) Nothing Q names ts b rest
  sound_lines Q blocks path names ts b rest (a_line {t2 = t2} {p = p} {s = s} {b = c} at d m l) keeps =
      sound_alike (lines_alike blocks path)
      (sound_first (within_begins (line_begins blocks path)) (within_begins (tail_begins blocks (path - 1))) statement_no_tail
      (sound_within (line_begins blocks path) keeps.0
      (sound_at (line_at_begins blocks path p) at
      (sound_after (λ k. semicolon_apart) (sound_of statement_part (record { is = d; keeps = keeps.1 }))
      (sound_after {x = tt} (λ u. nothing_apart) (sound_of (mark_part Semicolon) m)
      (sound_alike as_alike (sound_lines Q blocks (path - 1) names t2 c rest l keeps.2)))))))
  sound_lines Q blocks path names ts b rest (a_tail t) keeps =
      sound_alike (lines_alike blocks path)
      (sound_second (within_begins (line_begins blocks path)) (within_begins (tail_begins blocks (path - 1))) statement_no_tail
      (sound_within (tail_begins blocks (path - 1)) keeps.0
      (sound_tail Q blocks (path - 1) names ts b rest t keeps.1)))

  sound_tail : (Q : Allowed) (blocks path : ℕ) (names : List (List ℕ)) (ts : List Token) (b : Block) (rest : List Token) (d : TailIs names ts b rest) → KeepsTail Q blocks path d → Sound (TailPart blocks path) Nothing Q names ts b rest
  sound_tail Q blocks path names ts b rest (an_end {p = p} at w) keeps =
      sound_alike (tail_alike blocks path)
      (sound_at (tail_at_begins p) at
      (sound_first end_begins later_begins end_no_later
      (sound_alike {y = tt} as_alike (sound_of (word_part end_keyword) w))))
  sound_tail Q blocks path names ts b rest (a_call {p = p} {f = f} {ps = ps} {ss = ss} at w n o d c) keeps =
      sound_alike (tail_alike blocks path)
      (sound_at (tail_at_begins p) at
      (sound_second end_begins later_begins end_no_later
      (sound_first call_begins if_begins call_no_if
      (sound_after {x = tt} (λ u. nothing_apart) (sound_of (word_part call_keyword) w)
      (sound_after (λ k. nothing_apart) (sound_of name_part n)
      (sound_after {x = tt} (λ u. nothing_apart) (sound_of (mark_part OpenParen) o)
      (sound_after {x = (ps, ss)} (λ k. close_apart) (sound_of passed_part d)
      (sound_alike {y = tt} as_alike (sound_of (mark_part CloseParen) c)))))))))
  sound_tail Q blocks path names ts b rest (a_conditional {t4 = t4} {t5 = t5} {t6 = t6} {p = p} {q = q} {e = e} {a = a} {b = c} at w n d h f v g) keeps =
      sound_alike (tail_alike blocks path)
      (sound_at (tail_at_begins p) at
      (sound_second end_begins later_begins end_no_later
      (sound_second call_begins if_begins call_no_if
      (sound_after {x = tt} (λ u. nothing_apart) (sound_of (word_part if_keyword) w)
      (sound_after (λ k. nothing_apart) (sound_of name_part n)
      (sound_after {x = tt} (λ u. nothing_apart) (sound_of (mark_part Dot) d)
      (sound_after (λ k. brace_apart) (sound_of expr_part (record { is = h; keeps = keeps.0 }))
      (sound_after (λ k. nothing_apart) (sound_block Q blocks path names t4 a t5 f keeps.1)
      (sound_after {x = tt} (λ u. nothing_apart) (sound_of (word_part else_keyword) v)
      (sound_alike as_alike (sound_block Q blocks path names t6 c rest g keeps.2)))))))))))

nothing_back : (names words : List (List ℕ)) (t : Token) → IsKnown names t → Nothing (names ++ words) t → Nothing names t
nothing_back names words t k h = h

-- a tail that is enough for lines
some_lines : (blocks path : ℕ) (p : Place) (names : List (List ℕ)) → Completes (LinesPart blocks path) (only_at p) p names []
some_lines blocks path p names =
    let c = (word_part end_keyword).some p names in
    let h : Head (AWord (codes "end")) (names ++ more_words) (c.added ++ []) = (word_begins (codes "end")).by {Q = only_at p} (c.is []) in
    record {
      added = c.added;
      there = c.there;
      value = Ends p;
      is = λ more. record {
        is = a_tail (an_end (stands_there c.added more c.there h) (c.is more));
        keeps = ((λ e. allows_added P3 p c.added more c.there h), tt);
      };
    }

pub lines_part : (blocks path : ℕ) → IsPart (LinesPart blocks path) Nothing
lines_part blocks path = sound_part (λ Q names ts b rest h. sound_lines Q blocks path names ts b rest h.is h.keeps) (some_lines blocks path) nothing_back

block_tail : (blocks path : ℕ) → IsPart (BlockTail blocks path) Nothing
block_tail blocks path = after_part (lines_part (blocks - 1) path) (λ b. as_part (mark_part CloseBrace)) (λ b. nothing_apart)

opened_block : (blocks path : ℕ) → IsPart (After (MarkPart OpenBrace) (λ u. BlockTail blocks path)) Nothing
opened_block blocks path = mark_then OpenBrace (λ u. block_tail blocks path)

pub block_part : (blocks path : ℕ) → IsPart (BlockPart blocks path) Nothing
block_part blocks path = same_part (within_part (opened_block blocks path) (after_begins (mark_begins OpenBrace))) (block_alike blocks path)

pub call_tail : (p : Place) → IsPart (CallTail p) Nothing
call_tail p = name_then (λ f. mark_then OpenParen (λ u. after_part passed_part (λ v. as_part (mark_part CloseParen)) (λ v. close_apart)))

pub if_tail : (blocks path : ℕ) (p : Place) → IsPart (IfTail blocks path p) Nothing
if_tail blocks path p = name_then (λ q. mark_then Dot (λ u. after_part expr_part (λ e. after_part (block_part blocks path) (λ a. word_then else_keyword (λ v. as_part (block_part blocks path))) (λ a. nothing_apart)) (λ e. brace_apart)))

later_at : (blocks path : ℕ) (p : Place) → IsPart (LaterAt blocks path p) Nothing
later_at blocks path p = either_part (word_then call_keyword (λ u. call_tail p)) (word_then if_keyword (λ u. if_tail blocks path p)) call_begins if_begins call_no_if

tail_at : (blocks path : ℕ) (p : Place) → IsPart (TailAt blocks path p) Nothing
tail_at blocks path p = either_part (as_part (word_part end_keyword)) (later_at blocks path p) end_begins later_begins end_no_later

pub tail_part : (blocks path : ℕ) → IsPart (TailPart blocks path) Nothing
tail_part blocks path = same_part (at_part (tail_at blocks path) tail_at_begins) (tail_alike blocks path)

line_at : (blocks path : ℕ) (p : Place) → IsPart (LineAt blocks path p) Nothing
line_at blocks path p = after_part statement_part (λ s. mark_then Semicolon (λ u. as_part (lines_part blocks (path - 1)))) (λ s. semicolon_apart)

line_part : (blocks path : ℕ) → IsPart (LinePart blocks path) Nothing
line_part blocks path = at_part (line_at blocks path) (line_at_begins blocks path)

-- ---- what can be completed after its first token

pub line_opens : (blocks path : ℕ) → Opens (LinePart blocks path) StatementFirst
line_opens blocks path = at_opens (λ p. after_opens statement_opens (λ s. mark_then Semicolon (λ u. as_part (lines_part blocks (path - 1)))))

later_opens : (blocks path : ℕ) (p : Place) → Opens (LaterAt blocks path p) (Or (AWord (codes "call")) (AWord (codes "if")))
later_opens blocks path p = either_opens (after_opens (word_opens (codes "call")) (λ u. call_tail p)) (after_opens (word_opens (codes "if")) (λ u. if_tail blocks path p))

pub tail_opens : (blocks path : ℕ) → Opens (TailPart blocks path) TailFirst
tail_opens blocks path = same_opens (at_opens (λ p. either_opens (as_opens (word_opens (codes "end"))) (later_opens blocks path p))) (tail_alike blocks path)

pub block_opens : (blocks path : ℕ) → Opens (After (MarkPart OpenBrace) (λ u. BlockTail blocks path)) (AMark OpenBrace)
block_opens blocks path = after_opens (mark_opens OpenBrace) (λ u. block_tail blocks path)

pub tail_first_stable : IsStable TailFirst
tail_first_stable = or_stable (word_stable (codes "end")) (or_stable (word_stable (codes "call")) (word_stable (codes "if")))

-- ---- on the way through a block

pub no_block : {names : List (List ℕ)} {ts : List Token} {d : Denied} (blocks path : ℕ) → ((rest : List Token) → MarkIs OpenBrace ts rest → ⊥) → RefusesFirst P1 ts d → Halts (BlockPart blocks path) Nothing names ts d
no_block blocks path n f = wrong_halts (block_part blocks path) (block_begins blocks path) (mark_stable OpenBrace) (λ h. no_mark_head n h) f

pub too_many_blocks : {names : List (List ℕ)} {ts rest : List Token} {d : Denied} (blocks path : ℕ) → blocks ≡ 0 → MarkIs OpenBrace ts rest → RefusesFirst P2 ts d → Halts (BlockPart blocks path) Nothing names ts d
too_many_blocks blocks path z o f = (same_leads (block_alike blocks path)).halts _ (full_halts z (opened_block blocks path) (after_begins (mark_begins OpenBrace)) (block_opens blocks path) (mark_head o) f)

pub into_block : {names : List (List ℕ)} {ts mid : List Token} (blocks path : ℕ) → 0 < blocks → MarkIs OpenBrace ts mid → Leads (BlockPart blocks path) Nothing names ts (BlockTail blocks path) Nothing mid (λ b. b)
into_block blocks path some o =
    leads_on (same_leads (block_alike blocks path))
    (leads_on (within_leads (after_begins (mark_begins OpenBrace)) (mark_stable OpenBrace) (λ z h. absurd (omega (arith, some, z)))) (past_mark o))

-- a refusal in its lines
pub lines_halt : {names : List (List ℕ)} {ts : List Token} {d : Denied} (blocks path : ℕ) → Halts (LinesPart (blocks - 1) path) Nothing names ts d → Halts (BlockTail blocks path) Nothing names ts d
lines_halt blocks path h = after_now (λ b. as_part (mark_part CloseBrace)) (λ b. nothing_apart) h

pub past_lines : {names : List (List ℕ)} {ts mid : List Token} {b : Block} (blocks path : ℕ) → Reads (LinesPart (blocks - 1) path) Nothing names ts b mid → Leads (BlockTail blocks path) Nothing names ts (As (MarkPart CloseBrace) (λ u. b)) Nothing mid (λ c. c)
past_lines blocks path r = after_leads (lines_part (blocks - 1) path) (λ b. nothing_apart) r

-- ---- on the way through lines

pub statement_comes : {names : List (List ℕ)} {ts : List Token} (blocks path : ℕ) → Head StatementFirst names ts → Leads (LinesPart blocks path) Nothing names ts (Within P3 path (LinePart blocks path)) Nothing ts (λ b. b)
statement_comes blocks path h =
    leads_on (same_leads (lines_alike blocks path))
    (either_first (within_begins (tail_begins blocks (path - 1))) statement_first_stable statement_no_tail h)

pub too_many_lines : {names : List (List ℕ)} {ts : List Token} {d : Denied} (blocks path : ℕ) → path ≡ 0 → Head StatementFirst names ts → RefusesFirst P3 ts d → Halts (LinesPart blocks path) Nothing names ts d
too_many_lines blocks path z h f = (statement_comes blocks path h).halts _ (full_halts z (line_part blocks path) (line_begins blocks path) (line_opens blocks path) h f)

pub into_line : {names : List (List ℕ)} {ts : List Token} {p : Place} (blocks path : ℕ) → 0 < path → Head StatementFirst names ts → StandsAt p ts → Leads (LinesPart blocks path) Nothing names ts (LineAt blocks path p) Nothing ts (λ b. b)
into_line blocks path some h at =
    leads_on (statement_comes blocks path h)
    (leads_on (within_leads (line_begins blocks path) statement_first_stable (λ z k. absurd (omega (arith, some, z)))) (at_leads (line_at blocks path) (line_at_begins blocks path) at))

pub statement_halts : {names : List (List ℕ)} {ts : List Token} {p : Place} {d : Denied} (blocks path : ℕ) → Halts StatementPart StatementMore names ts d → Halts (LineAt blocks path p) Nothing names ts d
statement_halts blocks path h = after_now (λ s. mark_then Semicolon (λ u. as_part (lines_part blocks (path - 1)))) (λ s. semicolon_apart) h

pub past_statement : {names : List (List ℕ)} {ts mid : List Token} {p : Place} {s : Statement} (blocks path : ℕ) → Reads StatementPart StatementMore names ts s mid → Leads (LineAt blocks path p) Nothing names ts (After (MarkPart Semicolon) (λ u. As (LinesPart blocks (path - 1)) (λ b. Then p s b))) Nothing mid (λ b. b)
past_statement blocks path r = after_leads statement_part (λ s. semicolon_apart) r

pub semicolon_halts : {names : List (List ℕ)} {ts : List Token} {p : Place} {s : Statement} {d : Denied} (blocks path : ℕ) → Halts (MarkPart Semicolon) Nothing names ts d → Halts (After (MarkPart Semicolon) (λ u. As (LinesPart blocks (path - 1)) (λ b. Then p s b))) Nothing names ts d
semicolon_halts blocks path h = at_one (λ u. as_part (lines_part blocks (path - 1))) h

pub past_line : {names : List (List ℕ)} {ts mid : List Token} {p : Place} {s : Statement} (blocks path : ℕ) → MarkIs Semicolon ts mid → Leads (After (MarkPart Semicolon) (λ u. As (LinesPart blocks (path - 1)) (λ b. Then p s b))) Nothing names ts (LinesPart blocks (path - 1)) Nothing mid (λ b. Then p s b)
past_line blocks path m = leads_on (past_mark m) (as_leads (λ b. Then _ _ b))

-- ---- on the way through a tail

pub no_statement_comes : {names : List (List ℕ)} {ts : List Token} (blocks path : ℕ) → (Head StatementFirst names ts → ⊥) → Leads (LinesPart blocks path) Nothing names ts (LastPart blocks path) Nothing ts (λ b. b)
no_statement_comes blocks path n =
    leads_on (same_leads (lines_alike blocks path))
    (either_second (within_begins (line_begins blocks path)) statement_first_stable n)

pub no_tail : {names : List (List ℕ)} {ts : List Token} {d : Denied} (blocks path : ℕ) → ((rest : List Token) → WordIs names (codes "end") ts rest → ⊥) → ((rest : List Token) → WordIs names (codes "call") ts rest → ⊥) → ((rest : List Token) → WordIs names (codes "if") ts rest → ⊥) → RefusesFirst P1 ts d → Halts (LastPart blocks path) Nothing names ts d
no_tail {names} {ts} blocks path e c i f = wrong_halts (within_part (tail_part blocks (path - 1)) (tail_begins blocks (path - 1))) (within_begins (tail_begins blocks (path - 1))) tail_first_stable (λ h. go h.token h.rest h.parts h.is) f
  where
    go : (t : Token) (rest : List Token) → ts ≡ t ∷ rest → TailFirst names t → ⊥
    go t rest p (inl h) = e rest (record { token = t; parts = p; is = h })
    go t rest p (inr (inl h)) = c rest (record { token = t; parts = p; is = h })
    go t rest p (inr (inr h)) = i rest (record { token = t; parts = p; is = h })

pub end_first : {names : List (List ℕ)} {ts rest : List Token} → WordIs names (codes "end") ts rest → Head TailFirst names ts
end_first {rest = rest} w = record { token = w.token; rest = rest; parts = w.parts; is = inl w.is }

pub call_first : {names : List (List ℕ)} {ts rest : List Token} → WordIs names (codes "call") ts rest → Head TailFirst names ts
call_first {rest = rest} w = record { token = w.token; rest = rest; parts = w.parts; is = inr (inl w.is) }

pub if_first : {names : List (List ℕ)} {ts rest : List Token} → WordIs names (codes "if") ts rest → Head TailFirst names ts
if_first {rest = rest} w = record { token = w.token; rest = rest; parts = w.parts; is = inr (inr w.is) }

pub too_long_path : {names : List (List ℕ)} {ts : List Token} {d : Denied} (blocks path : ℕ) → path ≡ 0 → Head TailFirst names ts → RefusesFirst P3 ts d → Halts (LastPart blocks path) Nothing names ts d
too_long_path blocks path z h f = full_halts z (tail_part blocks (path - 1)) (tail_begins blocks (path - 1)) (tail_opens blocks (path - 1)) h f

into_tail : {names : List (List ℕ)} {ts : List Token} {p : Place} (blocks path : ℕ) → 0 < path → StandsAt p ts → Leads (LastPart blocks path) Nothing names ts (TailAt blocks (path - 1) p) Nothing ts (λ b. b)
into_tail blocks path some at =
    leads_on (within_leads (tail_begins blocks (path - 1)) tail_first_stable (λ z h. absurd (omega (arith, some, z))))
    (leads_on (same_leads (tail_alike blocks (path - 1))) (at_leads (tail_at blocks (path - 1)) tail_at_begins at))

pub reads_end : {names : List (List ℕ)} {ts rest : List Token} {p : Place} (blocks path : ℕ) → 0 < path → StandsAt p ts → WordIs names (codes "end") ts rest → Reads (LastPart blocks path) Nothing names ts (Ends p) rest
reads_end {p = p} blocks path some at w =
    (leads_on (into_tail blocks path some at) (leads_on (either_first later_begins (word_stable (codes "end")) end_no_later (word_head w)) (as_leads (λ u. Ends p)))).reads tt _ (word_reads end_keyword w)

not_end : {names : List (List ℕ)} {ts : List Token} {p : Place} (blocks path : ℕ) → ((rest : List Token) → WordIs names (codes "end") ts rest → ⊥) → Leads (TailAt blocks path p) Nothing names ts (LaterAt blocks path p) Nothing ts (λ b. b)
not_end blocks path n = either_second end_begins (word_stable (codes "end")) (λ h. no_word_head n h)

pub to_call : {names : List (List ℕ)} {ts mid : List Token} {p : Place} (blocks path : ℕ) → 0 < path → StandsAt p ts → ((rest : List Token) → WordIs names (codes "end") ts rest → ⊥) → WordIs names (codes "call") ts mid → Leads (LastPart blocks path) Nothing names ts (CallTail p) Nothing mid (λ b. b)
to_call blocks path some at n w =
    leads_on (into_tail blocks path some at)
    (leads_on (not_end blocks (path - 1) n)
    (leads_on (either_first if_begins (word_stable (codes "call")) call_no_if (word_head w)) (past_word call_keyword w)))

pub to_if : {names : List (List ℕ)} {ts mid : List Token} {p : Place} (blocks path : ℕ) → 0 < path → StandsAt p ts → ((rest : List Token) → WordIs names (codes "end") ts rest → ⊥) → ((rest : List Token) → WordIs names (codes "call") ts rest → ⊥) → WordIs names (codes "if") ts mid → Leads (LastPart blocks path) Nothing names ts (IfTail blocks (path - 1) p) Nothing mid (λ b. b)
to_if blocks path some at n c w =
    leads_on (into_tail blocks path some at)
    (leads_on (not_end blocks (path - 1) n)
    (leads_on (either_second call_begins (word_stable (codes "call")) (λ h. no_word_head c h)) (past_word if_keyword w)))

-- ---- lines that have come

pub name_first : {names : List (List ℕ)} {ts rest : List Token} {n : Named} → NameIs names ts n rest → Head StatementFirst names ts
name_first {rest = rest} {n = n} h = record { token = h.token; rest = rest; parts = h.parts; is = inr (n.name, h.is) }

pub start_first : {names : List (List ℕ)} {ts rest : List Token} → WordIs names (codes "start") ts rest → Head StatementFirst names ts
start_first {rest = rest} w = record { token = w.token; rest = rest; parts = w.parts; is = inl w.is }

pub no_statement : {names : List (List ℕ)} {ts : List Token} → ((n : Named) (rest : List Token) → NameIs names ts n rest → ⊥) → ((rest : List Token) → WordIs names (codes "start") ts rest → ⊥) → Head StatementFirst names ts → ⊥
no_statement {names} {ts} n w h = go h.is
  where
    go : StatementFirst names h.token → ⊥
    go (inl s) = w h.rest (record { token = h.token; parts = h.parts; is = s })
    go (inr m) = n (record { name = m.0; place = h.token.place }) h.rest (record { token = h.token; parts = h.parts; is = m.1; place = refl })

-- ---- on the way through a call and a conditional

pub past_passed : {names : List (List ℕ)} {ts mid : List Token} {p : Place} {f : Named} {v : List Named × List Named} → Reads PassedPart PassedMore names ts v mid → Leads (After PassedPart (λ w. As (MarkPart CloseParen) (λ u. Calls p f w.0 w.1))) Nothing names ts (As (MarkPart CloseParen) (λ u. Calls p f v.0 v.1)) Nothing mid (λ b. b)
past_passed r = after_leads passed_part (λ v. close_apart) r

pub passed_halts : {names : List (List ℕ)} {ts : List Token} {p : Place} {f : Named} {d : Denied} → Halts PassedPart PassedMore names ts d → Halts (After PassedPart (λ w. As (MarkPart CloseParen) (λ u. Calls p f w.0 w.1))) Nothing names ts d
passed_halts h = after_now (λ v. as_part (mark_part CloseParen)) (λ v. close_apart) h

pub past_branch : {B : Type 0} {S : Block → Part B} {D : Further} {names : List (List ℕ)} {ts mid : List Token} {blocks path : ℕ} {b : Block} → Reads (BlockPart blocks path) Nothing names ts b mid → Leads (After (BlockPart blocks path) S) D names ts (S b) D mid (λ y. y)
past_branch {blocks = blocks} {path = path} r = after_leads (block_part blocks path) (λ b. nothing_apart) r
