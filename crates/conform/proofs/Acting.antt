-- A role may act exactly where its type goes on.
use Rattle.std.proofs.Common.{◌≡◌, ℕ, ◌<◌, false, List, [], ◌∷◌, ◌++◌, map, length, Option, Some, None, refl, sym, ap, ◌∙◌, subst, arith}
use Rattle.std.specs.Prelude.{slice_get}
use Rattle.std.proofs.lemmas.List.{map-append}
use Rattle.std.proofs.lemmas.Option.{slice_get_within}
use Rattle.chor_base.specs.declared.names.NameId.{NameId}
use Rattle.chor_base.specs.declared.value.Load.{Load}
use Rattle.chor_base.specs.declared.event.Event.{Event}
use Rattle.chor_tree.specs.declared.file.File.{File}
use Rattle.chor_tree.specs.declared.file.Named.{Named}
use Rattle.chor_tree.specs.Protocols.{Protocol}
use Rattle.chor_tree.specs.Names.{is_among, names_in, protocol_of}
use Rattle.chor_tree.specs.declared.protocol.State.{State}
use Rattle.chor_semantics.specs.Choreography.{Ref, Live}
use Rattle.global_types.specs.Paths.{Action, actions_of}
use Rattle.local_types.specs.declared.local_type.LocalState.{LocalState}
use Rattle.local_types.specs.declared.local_type.LocalType.{LocalType}
use Rattle.local_types.specs.Reading.{LeadsTo, IsTypeOf}
use Rattle.typing_rules.specs.Environment.{states_of}
use Rattle.typed_sources.specs.Told.{Told, Act, act_of}
use Rattle.typed_sources.specs.Context.{told_load}
use Rattle.typed_sources.specs.Stands.{states_in}
use Rattle.conform.specs.declared.progress.Progress.{Progress}
use Rattle.conform.specs.Sessions.{SessionView}
use Rattle.conform.specs.ByRole.{FollowsView, account_of, MayDo}
use Rattle.conform.specs.Judged.{IsFit}
use Rattle.conform.specs.Laws.{IsReadTo}
use Rattle.conform.specs.Moves.{LeadsBy}
use Rattle.conform.specs.Progress.{IsRead, AreRead, role_among, name_of, protocol_at, protocols_in, StandsAt, IsMove, IsAfter}
use Rattle.conform.specs.Steps.{CanDo}
use Rattle.conform.proofs.Read.{follows_read, one_more, last_of}
use Rattle.conform.proofs.OneState.{one_state, parted}
use Rattle.conform.proofs.Declared.{role_there, role_nowhere, contains_at, does_nothing}
use Rattle.conform.proofs.Lists.{other, stands_for, some_same, item_at}

-- the protocols of sessions, by what is kept of them
pub same_protocols : (f : File) (h : List Event) (p : Progress) → IsAfter f h p → (account_of f h).protocol ≡ protocols_in f p.sessions.items
same_protocols f h p a = λ i s. a.protocols s i

-- what a role has done, and one act more
pub read_more : (ts : List LocalState) (done : List Act) (act : Act) (n m : ℕ) (t : LocalState) → IsReadTo ts done n → slice_get ts n ≡ Some t → LeadsBy t act m → IsReadTo ts (done ++ act ∷ []) m
read_more ts done act n m t r at (a, among, is) = record {
  actions = r.actions ++ a ∷ [];
  leads = one_more ts r.actions a 0 n m t r.leads at among;
  told = map-append act_of r.actions (a ∷ []) ∙ ap (λ l. l ++ act_of a ∷ []) r.told ∙ ap (λ x. done ++ x ∷ []) is;
}

module _ (f : File) (h : List Event) (p : Progress) (a : IsAfter f h p) where
  -- the session of a move, with its role
  pub record Found (s : ℕ) (r : NameId) (act : Act) (place next : ℕ) (m : IsMove f p s r act place next) : Type 0 where
    pub started : (account_of f h).protocol (Live s) ≡ Some m.protocol.name.name
    pub states : states_in f m.protocol.name.name ≡ m.protocol.states
    pub role : Named
    pub role_at : slice_get m.protocol.roles place ≡ Some role
    pub role_is : role.name ≡ r
    pub stands : IsTypeOf m.protocol.states r m.type.states
    pub read : IsReadTo m.type.states ((account_of f h).done (Live s) r ++ act ∷ []) next

  pub found : (s : ℕ) (r : NameId) (act : Act) (place next : ℕ) (m : IsMove f p s r act place next) → Found s r act place next m
  found s r act place next m =
      let k = a.sessions s m.session m.started in
      let same : k.protocol ≡ m.protocol = some_same k.protocol m.protocol (sym k.here ∙ m.here) in
      let row : k.row ≡ m.row = some_same k.row m.row (sym k.types_there ∙ m.types_there) in
      let there = role_there m.protocol.roles r place m.role in
      let at : slice_get k.protocol.roles place ≡ Some there.role = ap (λ (q : Protocol). slice_get q.roles place) same ∙ there.at in
      let types : AreRead m.protocol m.row = stands_for AreRead f.protocols p.types m.session.protocol m.protocol m.row a.types m.here m.types_there in
      let one : IsRead m.protocol there.role m.type = stands_for (IsRead m.protocol) m.protocol.roles m.row place there.role m.type types there.at m.type_there in
      let here : slice_get k.row place ≡ Some m.type = ap (λ (l : List LocalType). slice_get l place) row ∙ m.type_there in
      let read : IsReadTo m.type.states ((account_of f h).done (Live s) there.role.name) m.state = k.each place there.role m.type m.state at here m.stands in
      let own : IsReadTo m.type.states ((account_of f h).done (Live s) r) m.state = subst (λ (x : NameId). IsReadTo m.type.states ((account_of f h).done (Live s) x) m.state) there.is read in
      record {
        started = a.protocols (Live s) ∙ ap (protocol_at f) m.started ∙ ap name_of m.here;
        states = ap states_of (subst (λ (q : Protocol). protocol_of f q.name.name ≡ Some q) same k.named);
        role = there.role;
        role_at = there.at;
        role_is = there.is;
        stands = subst (λ (x : NameId). IsTypeOf m.protocol.states x m.type.states) there.is one.stands;
        read = read_more m.type.states ((account_of f h).done (Live s) r) act m.state next m.local own m.is m.leads;
      }

  pub may_do : (s : ℕ) (r : NameId) (act : Told → Act) (l : Load) (content : Told) (place next : ℕ) → told_load (protocols_in f p.sessions.items) l ≡ Some content → IsMove f p s r (act content) place next → MayDo f h s r act l
  may_do s r act l content place next says m =
      let w = found s r (act content) place next m in
      let done = (account_of f h).done (Live s) r ++ act content ∷ [] in
      record {
        protocol = m.protocol.name.name;
        started = w.started;
        content = content;
        says = ap (λ (pr : Ref → Option NameId). told_load pr l) (same_protocols f h p a) ∙ says;
        follows = subst (λ (ss : List State). FollowsView ss r done) (sym w.states) ((follows_read m.protocol.states r m.type.states w.stands done).1 (next, w.read));
      }

  -- ---- the other way

  -- the session of a protocol
  pub record Session (s : ℕ) (name : NameId) : Type 0 where
    pub session : SessionView
    pub started : slice_get p.sessions.items s ≡ Some session
    pub protocol : Protocol
    pub here : slice_get f.protocols session.protocol ≡ Some protocol
    pub is : protocol.name.name ≡ name

  pub session_of : (s : ℕ) (name : NameId) → (account_of f h).protocol (Live s) ≡ Some name → Session s name
  session_of s name started = go (slice_get p.sessions.items s) refl (sym (a.protocols (Live s)) ∙ started)
    where
      with_protocol : (k : SessionView) → slice_get p.sessions.items s ≡ Some k → (o : Option Protocol) → slice_get f.protocols k.protocol ≡ o → name_of o ≡ Some name → Session s name
      with_protocol k e None i j = absurd cc
      with_protocol k e (Some q) i j = record { session = k; started = e; protocol = q; here = i; is = some_same q.name.name name j }

      go : (o : Option SessionView) → slice_get p.sessions.items s ≡ o → protocol_at f o ≡ Some name → Session s name
      go None e i = absurd cc
      go (Some k) e i = with_protocol k e (slice_get f.protocols k.protocol) refl i

  module _ (fit : IsFit f) where
    -- who has no part in a protocol does nothing in it
    no_part : (q : Protocol) (i : ℕ) → slice_get f.protocols i ≡ Some q → (r : NameId) → is_among (names_in q.roles) r ≡ false → (done : List Act) (act : Act) → FollowsView q.states r (done ++ act ∷ []) → ⊥
    no_part q i here r off done act w =
        let nothing : actions_of r w.view.path ≡ [] = does_nothing f fit q (contains_at f.protocols i q here) r off w.view.path 0 w.view.last w.view.is_path in
        clash w.actions w.view.rest done (sym nothing ∙ w.view.begins) w.told
      where
        clash : (acts rest : List Action) (done : List Act) → [] ≡ acts ++ rest → map act_of acts ≡ done ++ act ∷ [] → ⊥
        clash [] rest [] e t = absurd cc
        clash [] rest (d ∷ ds) e t = absurd cc
        clash (x ∷ xs) rest done e t = absurd cc

    -- the state from which the act is read
    record GoesOn (ts : List LocalState) (state : ℕ) (act : Act) : Type 0 where
      pub local : LocalState
      pub is : slice_get ts state ≡ Some local
      pub next : ℕ
      pub leads : LeadsBy local act next

    goes_on : (ss : List State) (r : NameId) (q : Protocol) (role : Named) (t : LocalType) → IsRead q role t → q.states ≡ ss → role.name ≡ r → (done : List Act) (act : Act) (state : ℕ)
        → FollowsView ss r (done ++ act ∷ []) → IsReadTo t.states done state → GoesOn t.states state act
    goes_on ss r q role t one same is done act state w read =
        let stands : IsTypeOf ss r t.states = subst (λ (x : NameId). IsTypeOf ss x t.states) is (subst (λ (l : List State). IsTypeOf l role.name t.states) same one.stands) in
        let whole = (follows_read ss r t.states stands (done ++ act ∷ [])).0 w in
        let parts = parted whole.1.actions done act whole.1.told in
        let lead : LeadsTo t.states 0 (parts.first ++ parts.action ∷ []) whole.0 = subst (λ (l : List Action). LeadsTo t.states 0 l whole.0) parts.parts whole.1.leads in
        let l = last_of t.states parts.first parts.action 0 whole.0 lead in
        let here : l.0 ≡ state = one_state t.states one.distinct parts.first read.actions 0 l.0 state l.1 read.leads (parts.told ∙ sym read.told) in
        record { local = l.2.0; is = sym (ap (slice_get t.states) here) ∙ l.2.1; next = whole.0; leads = (parts.action, l.2.2, parts.is) }

    -- where the role goes on, in a session that stands so
    moves : (s : ℕ) (r : NameId) (act : Act) (name : NameId) → FollowsView (states_in f name) r ((account_of f h).done (Live s) r ++ act ∷ []) → Session s name → (place : ℕ) × (next : ℕ) × IsMove f p s r act place next
    moves s r act name follows w = go (role_among w.protocol.roles r) refl
      where
        done : List Act
        done = (account_of f h).done (Live s) r

        k : StandsAt f p.types ((account_of f h).done (Live s)) w.session
        k = a.sessions s w.session w.started

        same : k.protocol ≡ w.protocol
        same = some_same k.protocol w.protocol (sym k.here ∙ w.here)

        states : w.protocol.states ≡ states_in f name
        states =
            let named : protocol_of f w.protocol.name.name ≡ Some w.protocol = subst (λ (q : Protocol). protocol_of f q.name.name ≡ Some q) same k.named in
            sym (ap (states_in f) (sym w.is) ∙ ap states_of named)

        follows_there : FollowsView w.protocol.states r (done ++ act ∷ [])
        follows_there = subst (λ (ss : List State). FollowsView ss r (done ++ act ∷ [])) (sym states) follows

        go : (o : Option ℕ) → role_among w.protocol.roles r ≡ o → (place : ℕ) × (next : ℕ) × IsMove f p s r act place next
        go None e = absurd (no_part w.protocol w.session.protocol w.here r (role_nowhere w.protocol.roles r e) done act follows_there)
        go (Some j) e =
            let there = role_there w.protocol.roles r j e in
            let row = other AreRead f.protocols p.types w.session.protocol w.protocol a.types w.here in
            let one = other (IsRead w.protocol) w.protocol.roles row.item j there.role row.stands there.at in
            let same_row : k.row ≡ row.item = some_same k.row row.item (sym k.types_there ∙ row.at) in
            let many : length w.session.states ≡ length w.protocol.roles = k.many ∙ ap (λ (q : Protocol). length q.roles) same in
            let within : j < length w.protocol.roles = slice_get_within w.protocol.roles j there.role there.at in
            let state = item_at w.session.states j (omega (arith, many, within)) in
            let at : slice_get k.protocol.roles j ≡ Some there.role = ap (λ (q : Protocol). slice_get q.roles j) same ∙ there.at in
            let typed : slice_get k.row j ≡ Some one.item = ap (λ (l : List LocalType). slice_get l j) same_row ∙ one.at in
            let read : IsReadTo one.item.states ((account_of f h).done (Live s) there.role.name) state.0 = k.each j there.role one.item state.0 at typed state.1 in
            let own : IsReadTo one.item.states done state.0 = subst (λ (x : NameId). IsReadTo one.item.states ((account_of f h).done (Live s) x) state.0) there.is read in
            let on = goes_on (states_in f name) r w.protocol there.role one.item one.stands states there.is done act state.0 follows own in (
              j,
              on.next,
              record {
                session = w.session;
                started = w.started;
                protocol = w.protocol;
                here = w.here;
                role = e;
                row = row.item;
                types_there = row.at;
                type = one.item;
                type_there = one.at;
                state = state.0;
                stands = state.1;
                local = on.local;
                is = on.is;
                leads = on.leads;
              },
            )

    pub can_do : (s : ℕ) (r : NameId) (act : Told → Act) (l : Load) → MayDo f h s r act l → CanDo f p s r act l
    can_do s r act l m =
        (m.content, sym (ap (λ (pr : Ref → Option NameId). told_load pr l) (same_protocols f h p a)) ∙ m.says, moves s r (act m.content) m.protocol m.follows (session_of s m.protocol m.started))
