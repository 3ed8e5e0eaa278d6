-- Which channels main and the procedures of a file start.
use Rattle.std.proofs.Common.{◌≡◌, zero, suc, List, [], ◌∷◌, ◌++◌, refl, sym, ap, ◌∙◌, subst, Some, Bool, true, false, if◌then◌else◌, ◌==◌, inl, inr, arith}
use Rattle.std.specs.Prelude.{Contains}
use Rattle.chor_base.specs.declared.names.NameId.{NameId}
use Rattle.chor_tree.specs.declared.file.File.{File}
use Rattle.chor_tree.specs.declared.file.Proc.{Proc}
use Rattle.chor_tree.specs.declared.file.Service.{Service}
use Rattle.chor_tree.specs.Names.{first_named}
use Rattle.chor_semantics.specs.Choreography.{Node, Starts, Communicates, InTransit, Alone, Choreography, Then, Either, Calls, Ends}
use Rattle.well_formed.proofs.References.{same_name, true_eq}
use Rattle.typed_sources.proofs.Checked.{some_is}
use Rattle.projection.specs.Projects.{Started, start_at, starts_in, body_at, starts_in_procs, starts_of, is_some_start}
use Rattle.typed_sources.proofs.Channels.{IsStartOf, StartsIn}

some_left : (xs ys : List Started) → is_some_start xs ≡ true → is_some_start (xs ++ ys) ≡ true
some_left [] ys h = absurd cc
some_left (x ∷ xs) ys h = refl

some_right : (xs ys : List Started) → is_some_start ys ≡ true → is_some_start (xs ++ ys) ≡ true
some_right [] ys h = h
some_right (x ∷ xs) ys h = refl

start_here : (c : NameId) (n : Node) (rest : Choreography) → IsStartOf c n → is_some_start (start_at c n rest) ≡ true
start_here c (Starts a d k active serve) rest h = ap (λ (b : Bool). is_some_start (if b then record { session = k; serve = serve; rest = rest } ∷ [] else [])) (ap (λ z. z.0 == c.0) h ∙ true_eq c.0)
start_here c (Communicates s p a q b w) rest h = absurd h
start_here c (InTransit s a b m q) rest h = absurd h
start_here c (Alone p o) rest h = absurd h

starts_there : (c : NameId) (x : Choreography) → StartsIn c x → is_some_start (starts_in c x) ≡ true
starts_there c (Then n rest) (inl h) = some_left (start_at c n rest) (starts_in c rest) (start_here c n rest h)
starts_there c (Then n rest) (inr h) = some_right (start_at c n rest) (starts_in c rest) (starts_there c rest h)
starts_there c (Either p e x y) (inl h) = some_left (starts_in c x) (starts_in c y) (starts_there c x h)
starts_there c (Either p e x y) (inr h) = some_right (starts_in c x) (starts_in c y) (starts_there c y h)
starts_there c (Calls f d ps ss) h = absurd h
starts_there c Ends h = absurd h

in_procs : (f : File) (c : NameId) (ps : List Proc) (p : Proc) → Contains ps p → StartsIn c (body_at f p.body) → is_some_start (starts_in_procs f c ps) ≡ true
in_procs f c [] p (i, l, e) h = absurd (omega (arith, l))
in_procs f c (q ∷ qs) p (zero, l, e) h = some_left (starts_in c (body_at f q.body)) (starts_in_procs f c qs) (starts_there c (body_at f q.body) (subst (λ (z : Proc). StartsIn c (body_at f z.body)) (sym e) h))
in_procs f c (q ∷ qs) p (suc i, l, e) h = some_right (starts_in c (body_at f q.body)) (starts_in_procs f c qs) (in_procs f c qs p (i, omega (arith, l), e) h)

-- what is found by a name has it
pub named_so : (ss : List Service) (c : NameId) (s : Service) → first_named (λ z. z.name) ss c ≡ Some s → s.name.name ≡ c
named_so [] c s h = absurd cc
named_so (z ∷ zs) c s h = go (z.name.name.0 == c.0) refl h (named_so zs c s)
  where
    go : (b : Bool) → (z.name.name.0 == c.0) ≡ b → (if b then Some z else first_named (λ z. z.name) zs c) ≡ Some s → (first_named (λ z. z.name) zs c ≡ Some s → s.name.name ≡ c) → s.name.name ≡ c
    go true e i ih = ap (λ (y : Service). y.name.name) (sym (some_is z s i)) ∙ same_name z.name.name c e
    go false e i ih = ih i

module _ (f : File) (c : NameId) where
  -- a channel that main starts is started
  pub main_starts : StartsIn c (body_at f f.body) → is_some_start (starts_of f c) ≡ true
  main_starts h = some_right (starts_in_procs f c f.procs) (starts_in c (body_at f f.body)) (starts_there c (body_at f f.body) h)

  -- and one that a procedure starts
  pub body_starts : (p : Proc) → Contains f.procs p → StartsIn c (body_at f p.body) → is_some_start (starts_of f c) ≡ true
  body_starts p m h = some_left (starts_in_procs f c f.procs) (starts_in c (body_at f f.body)) (in_procs f c f.procs p m h)
