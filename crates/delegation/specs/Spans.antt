-- Where the entries of a session stand in the list of all entries.
use Rattle.std.specs.Prelude.{◌≡◌, ◌==◌, true, List, [], ◌∷◌, ◌++◌, length, filter, Option, Some, None, if◌then◌else◌}
use Rattle.std.specs.List.{list_all}
use Rattle.std.specs.FinMap as fin
use Rattle.chor_base.specs.declared.names.NameId.{NameId}
use Rattle.chor_base.specs.NameMap.{FromNames}
use Rattle.delegation.specs.declared.held.Held.{Held}
use Rattle.delegation.specs.declared.owners.Span.{Span}
use Rattle.delegation.specs.Owners.{Lacks}

-- the entries of one session
abbrev pub entries_of : NameId → List Held → List Held
entries_of k hs = filter (λ h. h.session.0 == k.0) hs

-- all entries are of that session
abbrev pub AreOf : NameId → List Held → Type 0
AreOf k hs = list_all (λ h. h.session.0 == k.0) hs ≡ true

-- the holder of a role among the entries of one session
abbrev pub role_holder : List Held → NameId → Option NameId
role_holder [] r = None
role_holder (h ∷ hs) r = if h.role.0 == r.0 then Some h.process else role_holder hs r

abbrev pub passed_role : NameId → NameId → Held → Held
passed_role r p h = if h.role.0 == r.0 then record h { process = p } else h

-- the entries of session k, one after another, are those of a span
pub record IsPart (k : NameId) (hs : List Held) (s : Span) : Type 0 where
  pub before : List Held
  pub part : List Held
  pub after : List Held
  pub is_all : hs ≡ before ++ part ++ after
  pub begins : length before ≡ s.first
  pub has : length part ≡ s.len
  pub none_before : Lacks k before
  pub none_after : Lacks k after
  pub are_own : AreOf k part

-- where no span is told, there are no entries of the session
abbrev pub IsSpan : NameId → List Held → Option Span → Type 0
IsSpan k hs None = Lacks k hs
IsSpan k hs (Some s) = IsPart k hs s

-- the span of each session is told
abbrev pub AreSpans : List Held → FromNames Span → Type 0
AreSpans hs spans = (k : NameId) → IsSpan k hs (fin.get spans k.0)
