-- The units of a projection can be written, one by one.
use Rattle.std.proofs.Common.{◌≡◌, suc, ◌≤◌, ◌<◌, ◌+◌, List, [], ◌∷◌, map, length, refl, sym, subst, Bool, true, false, if◌then◌else◌, arith}
use Rattle.std.specs.List.{AllByRecursion, AllZip, filter}
use Rattle.std.proofs.lemmas.List.{length-map}
use Rattle.chor_base.specs.declared.names.NameId.{NameId}
use Rattle.chor_lexer.proofs.Each.{each_append}
use Rattle.chor_tree.specs.declared.file.File.{File}
use Rattle.chor_tree.specs.declared.file.Named.{Named as Written}
use Rattle.chor_tree.specs.declared.file.Proc.{Proc}
use Rattle.chor_tree.specs.declared.file.ProcParam.{ProcParam}
use Rattle.chor_tree.specs.declared.file.Service.{Service}
use Rattle.chor_tree.specs.declared.file.SessionParam.{SessionParam}
use Rattle.endpoint_code.specs.declared.endpoints.Channel.{Channel}
use Rattle.endpoint_code.specs.declared.endpoints.Procedure.{Procedure}
use Rattle.endpoint_code.specs.declared.endpoints.ServiceCode.{ServiceCode}
use Rattle.endpoint_code.specs.declared.endpoints.Process.{Process}
use Rattle.endpoint_code.specs.declared.endpoints.Endpoints.{Endpoints}
use Rattle.endpoint_laws.specs.Spelled.{IsNamed, AreNamed, IsChannelSpelled, IsProcedureSpelled, IsServiceSpelled, IsProcessSpelled}
use Rattle.endpoint_laws.specs.Limits.{IsBodyWithin, IsChannelWithin, IsProcedureWithin}
use Rattle.projection.specs.Codes.{holds, sessions_for}
use Rattle.projection.specs.Projects.{body_at, is_some_start, starts_of, channel_from, names_of, parameters_of, service_roles, IsProcedureOf, IsServiceOf, IsProcessOf}
use Rattle.writable_sources.specs.Written.{IsWritableIn, IsWritableHead}
use Rattle.writable_sources.proofs.Codes.{code_writable}
use Rattle.writable_sources.proofs.Services.{service_writable}
use Rattle.writable_sources.specs.Sources.{AreNamedThere, IsWritableService}
use Rattle.writable_sources.proofs.Starts.{all_followed}

-- ---- lists

-- what the items of one list and what they are make of those of the other
pub zip_all : {A B : Type 0} (R : A → B → Type 0) (Q : A → Type 0) (P : B → Type 0) (xs : List A) (ys : List B) → AllZip R xs ys → AllByRecursion Q xs → ((x : A) (y : B) → R x y → Q x → P y) → AllByRecursion P ys
zip_all R Q P [] [] z q more = tt
zip_all R Q P [] (y ∷ ys) z q more = absurd z
zip_all R Q P (x ∷ xs) [] z q more = absurd z
zip_all R Q P (x ∷ xs) (y ∷ ys) z q more = (more x y z.0 q.0, zip_all R Q P xs ys z.1 q.1 more)

-- what follows for each item
pub change : {A : Type 0} (P Q : A → Type 0) (xs : List A) → ((x : A) → P x → Q x) → AllByRecursion P xs → AllByRecursion Q xs
change P Q [] f h = tt
change P Q (x ∷ xs) f h = (f x h.0, change P Q xs f h.1)

-- for each item's image
pub map_all : {A B : Type 0} (g : A → B) (P : A → Type 0) (Q : B → Type 0) (xs : List A) → ((x : A) → P x → Q (g x)) → AllByRecursion P xs → AllByRecursion Q (map g xs)
map_all g P Q [] f h = tt
map_all g P Q (x ∷ xs) f h = (f x h.0, map_all g P Q xs f h.1)

-- and backwards
pub map_back : {A B : Type 0} (g : A → B) (P : B → Type 0) (Q : A → Type 0) (xs : List A) → ((x : A) → P (g x) → Q x) → AllByRecursion P (map g xs) → AllByRecursion Q xs
map_back g P Q [] f h = tt
map_back g P Q (x ∷ xs) f h = (f x h.0, map_back g P Q xs f h.1)

-- what holds of all items, and the test, hold of those that pass it
pub filter_all : {A : Type 0} (p : A → Bool) (P : A → Type 0) (xs : List A) → AllByRecursion P xs → AllByRecursion (λ x. P x × (p x ≡ true)) (filter p xs)
filter_all p P [] h = tt
filter_all p P (x ∷ xs) h = go (p x) refl (filter_all p P xs h.1)
  where
    go : (b : Bool) → p x ≡ b → AllByRecursion (λ x. P x × (p x ≡ true)) (filter p xs) → AllByRecursion (λ x. P x × (p x ≡ true)) (if b then x ∷ filter p xs else filter p xs)
    go true e i = ((h.0, e), i)
    go false e i = i

-- what holds of each parameter of each procedure
pub params_all : (P : Proc × ProcParam → Type 0) (hs : List Proc) → AllByRecursion (λ h. AllByRecursion (λ p. P (h, p)) h.params) hs → AllByRecursion P (parameters_of hs)
params_all P [] w = tt
params_all P (h ∷ hs) w = each_append P (map (λ p. (h, p)) h.params) (parameters_of hs) (map_all (λ p. (h, p)) (λ p. P (h, p)) P h.params (λ p i. i) w.0) (params_all P hs w.1)

-- of each service role of each channel
pub roles_all : (P : NameId × NameId → Type 0) (ss : List Service) → AllByRecursion (λ s. AllByRecursion (λ r. P (s.name.name, r.name)) s.serve) ss → AllByRecursion P (service_roles ss)
roles_all P [] w = tt
roles_all P (s ∷ ss) w =
    each_append P (map (λ r. (s.name.name, r.name)) s.serve) (service_roles ss) (map_all (λ r. (s.name.name, r.name)) (λ r. P (s.name.name, r.name)) P s.serve (λ r i. i) w.0) (roles_all P ss w.1)

module _ (e : Endpoints) where
  names_named : (xs : List Written) → AreNamedThere e xs → AreNamed e (names_of xs)
  names_named xs h = map_all (λ (x : Written). x.name) (λ x. IsNamed e x.name) (IsNamed e) xs (λ x i. i) h

  -- ---- channels

  pub record IsChannelWritable (c : Channel) : Type 0 where
    pub spelled : IsChannelSpelled e c
    pub within : IsChannelWithin c

  pub channel_written : (s : Service) → IsWritableService e s → IsChannelWritable (channel_from s)
  channel_written s w =
      let active = length-map s.active (λ (x : Written). x.name) in
      let serve = length-map s.serve (λ (x : Written). x.name) in
      let some : 0 < length s.active = w.some in
      let few : length s.active + length s.serve ≤ 16 = w.few in
      record { spelled = (w.name, names_named s.active w.active, names_named s.serve w.serve); within = (omega (arith, active, some), omega (arith, active, serve, few)) }

  -- ---- procedures

  sessions_named : (p : NameId) (ks : List SessionParam) → AllByRecursion (λ k. IsNamed e k.name.name) ks → AreNamed e (sessions_for p ks)
  sessions_named p [] h = tt
  sessions_named p (k ∷ ks) h = go (holds p k.holders) (sessions_named p ks h.1)
    where
      go : (b : Bool) → AreNamed e (sessions_for p ks) → AreNamed e (if b then k.name.name ∷ sessions_for p ks else sessions_for p ks)
      go true i = (h.0, i)
      go false i = i

  sessions_few : (p : NameId) (ks : List SessionParam) → length (sessions_for p ks) ≤ length ks
  sessions_few p [] = omega arith
  sessions_few p (k ∷ ks) = go (holds p k.holders) (sessions_few p ks)
    where
      go : (b : Bool) → length (sessions_for p ks) ≤ length ks → length (if b then k.name.name ∷ sessions_for p ks else sessions_for p ks) ≤ suc (length ks)
      go true i = omega (arith, i)
      go false i = omega (arith, i)

  module _ (f : File) (heads : AllByRecursion (IsWritableHead e) f.procs) (bodies : AllByRecursion (λ h. IsWritableIn e 1024 (body_at f h.body)) f.procs) (body : IsWritableIn e 1024 (body_at f f.body)) where
    -- a procedure and its parameter can be written
    pub record IsParamWritable (z : Proc × ProcParam) : Type 0 where
      pub head : IsWritableHead e z.0
      pub param : IsNamed e z.1.name.name
      pub written : IsWritableIn e 1024 (body_at f z.0.body)

    params_of_one : (h : Proc) (ps : List ProcParam) → IsWritableHead e h → IsWritableIn e 1024 (body_at f h.body) → AllByRecursion (λ p. IsNamed e p.name.name) ps → AllByRecursion (λ p. IsParamWritable (h, p)) ps
    params_of_one h ps head fits named = change (λ (p : ProcParam). IsNamed e p.name.name) (λ p. IsParamWritable (h, p)) ps (λ p i. record { head = head; param = i; written = fits }) named

    params_of_all : (hs : List Proc) → AllByRecursion (IsWritableHead e) hs → AllByRecursion (λ h. IsWritableIn e 1024 (body_at f h.body)) hs → AllByRecursion (λ h. AllByRecursion (λ p. IsParamWritable (h, p)) h.params) hs
    params_of_all [] w v = tt
    params_of_all (h ∷ hs) w v = (params_of_one h h.params w.0 v.0 w.0.params, params_of_all hs w.1 v.1)

    pub record IsProcedureWritable (q : Procedure) : Type 0 where
      pub spelled : IsProcedureSpelled e q
      pub within : IsProcedureWithin e q

    procedure_written : (z : Proc × ProcParam) (q : Procedure) → IsProcedureOf f e z q → IsParamWritable z → IsProcedureWritable q
    procedure_written z q x w =
        let code = code_writable e f.procs heads z.1.name.name 1024 (body_at f z.0.body) _ x.body w.written in
        let few : length z.0.sessions ≤ 8 = w.head.few in
        let less : length (sessions_for z.1.name.name z.0.sessions) ≤ 8 = omega (arith, few, sessions_few z.1.name.name z.0.sessions) in
        record {
          spelled = (subst (IsNamed e) (sym x.name) w.head.name, subst (IsNamed e) (sym x.param) w.param, subst (AreNamed e) (sym x.sessions) (sessions_named z.1.name.name z.0.sessions w.head.sessions), code.spelled);
          within = (subst (λ (ss : List NameId). length ss ≤ 8) (sym x.sessions) less, code.fits);
        }

    pub procedures_written : (qs : List Procedure) → AllZip (IsProcedureOf f e) (parameters_of f.procs) qs → AllByRecursion IsProcedureWritable qs
    procedures_written qs z = zip_all (IsProcedureOf f e) IsParamWritable IsProcedureWritable (parameters_of f.procs) qs z (params_all IsParamWritable f.procs (params_of_all f.procs heads bodies)) procedure_written

    -- ---- services

    -- a service role of a channel that is started
    pub record IsRoleWritable (a : NameId × NameId) : Type 0 where
      pub channel : IsNamed e a.0
      pub role : IsNamed e a.1
      pub some : is_some_start (starts_of f a.0) ≡ true

    abbrev IsStarted : Service → Type 0
    IsStarted s = IsWritableService e s × (is_some_start (starts_of f s.name.name) ≡ true)

    roles_of_one : (s : Service) → IsStarted s → AllByRecursion (λ r. IsRoleWritable (s.name.name, r.name)) s.serve
    roles_of_one s w = change (λ (r : Written). IsNamed e r.name) (λ r. IsRoleWritable (s.name.name, r.name)) s.serve (λ r i. record { channel = w.0.name; role = i; some = w.1 }) w.0.serve

    pub record IsServiceWritable (s : ServiceCode) : Type 0 where
      pub spelled : IsServiceSpelled e s
      pub within : IsBodyWithin e s.body

    service_written : (a : NameId × NameId) (s : ServiceCode) → IsServiceOf f e a s → IsRoleWritable a → IsServiceWritable s
    service_written a s x w =
        let code = service_writable e f.procs heads a.0 a.1 1024 (starts_of f a.0) _ w.some w.channel (all_followed e f a.0 1024 bodies body) x.body in
        record { spelled = (subst (IsNamed e) (sym x.channel) w.channel, subst (IsNamed e) (sym x.role) w.role, code.spelled); within = code.fits }

    pub services_written : (ss : List Service) (cs : List ServiceCode) → AllZip (IsServiceOf f e) (service_roles ss) cs → AllByRecursion IsStarted ss → AllByRecursion IsServiceWritable cs
    services_written ss cs z w =
        zip_all (IsServiceOf f e) IsRoleWritable IsServiceWritable (service_roles ss) cs z (roles_all IsRoleWritable ss (change IsStarted (λ s. AllByRecursion (λ r. IsRoleWritable (s.name.name, r.name)) s.serve) ss roles_of_one w)) service_written

    -- ---- processes

    pub record IsProcessWritable (p : Process) : Type 0 where
      pub spelled : IsProcessSpelled e p
      pub within : IsBodyWithin e p.body

    process_written : (x : Written) (p : Process) → IsProcessOf f e x p → IsNamed e x.name → IsProcessWritable p
    process_written x p h w =
        let code = code_writable e f.procs heads x.name 1024 (body_at f f.body) _ h.body body in
        record { spelled = (subst (IsNamed e) (sym h.name) w, code.spelled); within = code.fits }

    pub processes_written : (xs : List Written) (ps : List Process) → AllZip (IsProcessOf f e) xs ps → AreNamedThere e xs → AllByRecursion IsProcessWritable ps
    processes_written xs ps z w = zip_all (IsProcessOf f e) (λ x. IsNamed e x.name) IsProcessWritable xs ps z w process_written
