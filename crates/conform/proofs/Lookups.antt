-- Where a role stands, looked up step by step.
use Rattle.std.proofs.Common.{◌≡◌, ℕ, ◌<◌, ◌≤◌, List, length, Option, Some, None, sym, ap, ◌∙◌, subst}
use Rattle.std.specs.Prelude.{slice_get, slice_index_or, IfSome}
use Rattle.std.proofs.lemmas.Option.{slice_get-get_or, slice_get_within, slice_get_past}
use Rattle.chor_base.specs.declared.names.NameId.{NameId}
use Rattle.chor_base.specs.declared.value.Load.{Load}
use Rattle.chor_tree.specs.declared.file.File.{File}
use Rattle.chor_tree.specs.Protocols.{Protocol}
use Rattle.local_types.specs.declared.local_type.LocalState.{LocalState}
use Rattle.local_types.specs.declared.local_type.LocalType.{LocalType}
use Rattle.typed_sources.specs.Told.{Told, Act}
use Rattle.typed_sources.specs.Context.{told_load}
use Rattle.conform.specs.declared.progress.Progress.{Progress}
use Rattle.conform.specs.Sessions.{SessionView}
use Rattle.conform.specs.Moves.{LeadsBy}
use Rattle.conform.specs.Progress.{role_among, protocols_in, IsMove}
use Rattle.conform.specs.Steps.{CanDo}
use Rattle.conform.proofs.Lists.{some_same}

-- an item that was found at a place
pub here : {A : Type 0} (xs ys : List A) (i : ℕ) (x : A) → xs ≡ ys → i < length xs → x ≡ slice_index_or xs i x → slice_get ys i ≡ Some x
here {A = A} xs ys i x same within is = ap (λ (l : List A). slice_get l i) (sym same) ∙ slice_get-get_or xs i x within ∙ ap (λ (z : A). Some z) (sym is)

-- the same at a place with another name
pub here_at : {A : Type 0} (xs ys : List A) (i j : ℕ) (x : A) → i ≡ j → xs ≡ ys → i < length xs → x ≡ slice_index_or xs i x → slice_get ys j ≡ Some x
here_at xs ys i j x number same within is = ap (slice_get ys) (sym number) ∙ here xs ys i x same within is

pub nowhere : {A : Type 0} (xs ys : List A) (i j : ℕ) → i ≡ j → xs ≡ ys → length xs ≤ i → slice_get ys j ≡ None
nowhere {A = A} xs ys i j number same past = ap (slice_get ys) (sym number) ∙ ap (λ (l : List A). slice_get l i) (sym same) ∙ slice_get_past xs i past

pub move_within : (f : File) (p : Progress) (s : ℕ) (r : NameId) (act : Act) (place next : ℕ) → IsMove f p s r act place next → s < length p.sessions.items
move_within f p s r act place next m = slice_get_within p.sessions.items s m.session m.started

-- a role that can't go on from where it stands has no move
pub no_move : (f : File) (p : Progress) (s : ℕ) (r : NameId) (act : Act) (k : SessionView) → slice_get p.sessions.items s ≡ Some k → (q : Protocol) → slice_get f.protocols k.protocol ≡ Some q
    → (row : List LocalType) → slice_get p.types k.protocol ≡ Some row → (place : ℕ) → role_among q.roles r ≡ Some place → (t : LocalType) → slice_get row place ≡ Some t
    → (n : ℕ) → slice_get k.states place ≡ Some n → (local : LocalState) → slice_get t.states n ≡ Some local → ((m : ℕ) → ¬ LeadsBy local act m) → (i j : ℕ) → ¬ IsMove f p s r act i j
no_move f p s r act k at q there row types place role t typed n state local is none i j m =
    let a : m.session ≡ k = some_same m.session k (sym m.started ∙ at) in
    let b : m.protocol ≡ q = some_same m.protocol q (sym m.here ∙ ap (λ (z : SessionView). slice_get f.protocols z.protocol) a ∙ there) in
    let c : m.row ≡ row = some_same m.row row (sym m.types_there ∙ ap (λ (z : SessionView). slice_get p.types z.protocol) a ∙ types) in
    let d : i ≡ place = some_same i place (sym m.role ∙ ap (λ (z : Protocol). role_among z.roles r) b ∙ role) in
    let e : m.type ≡ t = some_same m.type t (sym m.type_there ∙ (λ x. slice_get (c x) (d x)) ∙ typed) in
    let g : m.state ≡ n = some_same m.state n (sym m.stands ∙ (λ x. slice_get (SessionView.states (a x)) (d x)) ∙ state) in
    let h : m.local ≡ local = some_same m.local local (sym m.is ∙ (λ x. slice_get (LocalType.states (e x)) (g x)) ∙ is) in
    none j (subst (λ (l : LocalState). LeadsBy l act j) h m.leads)

-- what isn't told so, or is no move, can't be done
pub cannot : (f : File) (p : Progress) (s : ℕ) (r : NameId) (act : Told → Act) (l : Load) (w : Told) → Some w ≡ told_load (protocols_in f p.sessions.items) l → ((i j : ℕ) → ¬ IsMove f p s r (act w) i j) → ¬ CanDo f p s r act l
cannot f p s r act l w says none (content, told, (i, j, move)) = none i j (subst (λ (x : Told). IsMove f p s r (act x) i j) (some_same content w (sym told ∙ sym says)) move)

pub if_some : {A : Type 0} (P : Type 0) (o : Option A) (a : A) → o ≡ Some a → IfSome o (λ z. P) → P
if_some P (Some b) a e h = h
if_some P None a e h = absurd cc

pub none_is : {A B : Type 0} (a : A) → None ≡ Some a → B
none_is a h = absurd cc
