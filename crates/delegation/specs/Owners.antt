-- Who holds which role of a session: a finite map from a session and a role to a process, as the list of its entries.
use Rattle.std.specs.Prelude.{◌≡◌, ◌==◌, ◌&&◌, Bool, false, not, List, [], ◌∷◌, map, Option, Some, None, if◌then◌else◌}
use Rattle.std.specs.List.{list_any}
use Rattle.chor_base.specs.declared.names.NameId.{NameId}
use Rattle.chor_base.specs.declared.rule.Rule.TheVariants.{T1, T9}
use Rattle.chor_tree.specs.declared.file.Named.{Named}
use Rattle.chor_tree.specs.declared.tree.Part.{Part}
use Rattle.delegation.specs.declared.held.Held.{Held}
use Rattle.delegation.specs.Checks.{Check, ask, first_failed, all_differ}

-- this is that role of that session
abbrev pub is_role : NameId → NameId → Held → Bool
is_role k r h = (h.session.0 == k.0) && (h.role.0 == r.0)

-- this process holds this role of this session
abbrev pub held : NameId → NameId → NameId → Held
held k r p = record { session = k; role = r; process = p }

-- the holder of a role of a session, if it has one
abbrev pub holder_of : List Held → NameId → NameId → Option NameId
holder_of [] k r = None
holder_of (h ∷ hs) k r = if is_role k r h then Some h.process else holder_of hs k r

-- the holder is this process
abbrev pub is_process : NameId → Option NameId → Bool
is_process p None = false
is_process p (Some q) = p.0 == q.0

-- the process holds the role
abbrev pub holds : List Held → NameId → NameId → NameId → Bool
holds hs k r p = is_process p (holder_of hs k r)

-- the process holds a role of the session
abbrev pub holds_some : List Held → NameId → NameId → Bool
holds_some hs k p = list_any (λ h. (h.session.0 == k.0) && (h.process.0 == p.0)) hs

-- nobody holds a role of the session
abbrev pub Lacks : NameId → List Held → Type 0
Lacks k hs = list_any (λ h. h.session.0 == k.0) hs ≡ false

-- each role of a new session has its process
abbrev pub started : NameId → List Part → List Held
started k parts = map (λ q. held k q.role.name q.process.name) parts

-- T9: no process stands twice
abbrev pub start_check : List Part → Check
start_check parts = ask (all_differ (map (λ q. q.process.name) parts)) T9

-- each listed role of a session has its holder
abbrev pub listed : NameId → List (Named × Named) → List Held
listed k holders = map (λ h. held k h.0.name h.1.name) holders

-- the role with its new holder, or another role as it was
abbrev pub passed_one : NameId → NameId → NameId → Held → Held
passed_one k r p h = if is_role k r h then record h { process = p } else h

-- the role has another holder
abbrev pub passed : List Held → NameId → NameId → NameId → List Held
passed hs k r p = map (passed_one k r p) hs

-- T1: the giver holds the role; T9: the taker holds no role of the session
abbrev pub pass_check : List Held → NameId → NameId → NameId → NameId → Check
pass_check hs k r p q = first_failed (ask (holds hs k r p) T1 ∷ ask (not (holds_some hs k q)) T9 ∷ [])
