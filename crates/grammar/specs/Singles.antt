-- Which limits one token may exceed.
use Rattle.std.specs.Prelude.{◌≡◌, Bool, true, false, ◌&&◌, ◌||◌, not, Some, None}
use Rattle.chor_base.specs.declared.rule.Rule.{Rule}
use Rattle.grammar.specs.Grammars.{Grammar, empty, one, seq, alt, many, more, within, short, after, Room, Rules, is_nullable}

-- any number may come
abbrev pub no_limit : Room → Bool
no_limit None = true
no_limit (Some n) = false

-- all its limits have rules that are ok, and all its nonterminals are free
abbrev pub all_limits : {N : Type 0} → (N → Bool) → (Rule → Bool) → Grammar N → Bool
all_limits free ok empty = true
all_limits free ok (one c) = true
all_limits free ok (seq g h) = all_limits free ok g && all_limits free ok h
all_limits free ok (alt g h) = all_limits free ok g && all_limits free ok h
all_limits free ok (many e n g) = (no_limit n || ok e) && all_limits free ok g
all_limits free ok (more e n c g) = (no_limit n || ok e) && all_limits free ok g
all_limits free ok (within e n g) = (no_limit n || ok e) && all_limits free ok g
all_limits free ok (short e n g) = (no_limit n || ok e) && all_limits free ok g
all_limits free ok (after c n) = free n

-- the limits that its first token may exceed have rules that are ok
abbrev pub first_limits : {N : Type 0} → (Rule → Bool) → Grammar N → Bool
first_limits ok empty = true
first_limits ok (one c) = true
first_limits ok (seq g h) = first_limits ok g && (not (is_nullable g) || first_limits ok h)
first_limits ok (alt g h) = first_limits ok g && first_limits ok h
first_limits ok (many e n g) = (no_limit n || ok e) && first_limits ok g
first_limits ok (more e n c g) = true
first_limits ok (within e n g) = (no_limit n || ok e) && first_limits ok g
first_limits ok (short e n g) = (no_limit n || ok e) && first_limits ok g
first_limits ok (after c n) = true

-- where a token may exceed two limits at a time, their rules are the same
abbrev pub is_single : {N : Type 0} → (Rule → Rule → Bool) → (N → Bool) → Grammar N → Bool
is_single same free empty = true
is_single same free (one c) = true
is_single same free (seq g h) = is_single same free g && is_single same free h
is_single same free (alt g h) = is_single same free g && is_single same free h
is_single same free (many e n g) = (no_limit n || first_limits (same e) g) && is_single same free g
is_single same free (more e n c g) = (no_limit n || first_limits (same e) g) && is_single same free g
is_single same free (within e n g) = (no_limit n || first_limits (same e) g) && is_single same free g
is_single same free (short e n g) = (no_limit n || all_limits free (same e) g) && is_single same free g
is_single same free (after c n) = true

-- so in each rule; the nonterminals that are free have no limits at all
pub record AreSingle {N : Type 0} (r : Rules N) : Type 0 where
  pub same : Rule → Rule → Bool
  pub is_same : (e f : Rule) → same e f ≡ true → e ≡ f
  pub free : N → Bool
  pub free_rules : (n : N) → free n ≡ true → (ok : Rule → Bool) → all_limits free ok (r.rule n) ≡ true
  pub single_rules : (n : N) → is_single same free (r.rule n) ≡ true
