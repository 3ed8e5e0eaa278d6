-- Which class of rules refuses a file.
use Rattle.std.proofs.Common.{◌≡◌, ℕ, List, [], ap, sym, ◌∙◌, subst, inl, inr}
use Rattle.std.specs.Prelude.{Option, Some, None, Contains, bytes_eq}
use Rattle.std.specs.List.{list_any}
use Rattle.chor_base.specs.declared.names.NameId.{NameId}
use Rattle.chor_base.specs.declared.fault.Fault.{Fault}
use Rattle.chor_base.specs.declared.rule.Denied.{Denied}
use Rattle.chor_base.specs.declared.rule.Denied.TheVariants.{Refused, Memory}
use Rattle.chor_base.specs.Faults.{first_of_all, IsFirst, IsDenial}
use Rattle.chor_base.specs.Writing.{name_in}
use Rattle.chor_base.proofs.Faults.{first_is_first, first_denied}
use Rattle.endpoint_reader.specs.declared.written.Written.{Written}
use Rattle.endpoint_names.specs.declared.functions.Functions.{Functions}
use Rattle.endpoint_names.specs.Faults.{Setting, setting, name_faults}
use Rattle.endpoint_names.specs.Functions.{knows, setting_of}
use Rattle.endpoint_names.specs.Class.{begin_faults, IsBroken}

pub names_broken : (s : Setting) (d : Denied) → IsDenial (Contains (name_faults s)) d → IsBroken s d
names_broken s (Refused r) h = inl h
names_broken s Memory h = tt

pub beginnings_broken : (s : Setting) (d : Denied) → name_faults s ≡ [] → IsDenial (Contains (begin_faults s.written)) d → IsBroken s d
beginnings_broken s (Refused r) none h = inr (none, h)
beginnings_broken s Memory none h = tt

-- the refusal for the first of a list
pub denied_for : (xs : List Fault) (o : Option Fault) (x : Fault) (d : Denied) → o ≡ first_of_all xs → o ≡ Some x → d ≡ Refused (record { rule = x.rule; place = x.place; who = None }) → IsDenial (Contains xs) d
denied_for xs o x d first is denied = first_denied (Contains xs) x d (subst (λ p. IsFirst (Contains xs) p) (sym first ∙ is) (first_is_first xs)) denied

-- the same is known
pub setting_is : (w v : Written) (f g : Functions) (names hosts : List (List ℕ)) → w ≡ v → f ≡ g
    → ((x : NameId) → knows g x ≡ list_any (bytes_eq (name_in names x)) hosts) → setting_of w f ≡ setting v names hosts
setting_is w v f g names hosts e same h = λ i. record { written = e i; is_function = λ x. (ap (λ k. knows k x) same ∙ h x) i }
