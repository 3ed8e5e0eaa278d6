-- All processes after a start.
use Rattle.std.proofs.Common.{◌≡◌, Some, ℕ, suc, ◌+◌, ◌<◌, ◌^◌, List, [], ◌∷◌, ◌++◌, length, map, refl, sym, ap, ◌∙◌, subst, arith, length-append}
use Rattle.std.specs.Prelude.{All}
use Rattle.std.proofs.lemmas.List.{length-map, map-append}
use Rattle.std.proofs.lemmas.List.Elements.{All-append}
use Rattle.chor_base.specs.declared.names.NameId.{NameId}
use Rattle.endpoint_code.specs.declared.endpoints.Channel.{Channel}
use Rattle.endpoint_code.specs.declared.endpoints.Endpoints.{Endpoints}
use Rattle.endpoint_code.specs.Network.{served, served_parts, channel_of}
use Rattle.endpoint_code.specs.Faults.{IsFaultless}
use Rattle.endpoint_machine.specs.Bound.{IsBound}
use Rattle.endpoint_machine.specs.Views.{MachineView}
use Rattle.session_starts.specs.Machines.{standing_of, number_of, AreCounted}
use Rattle.session_starts.proofs.Counts.{counted_more, counted_same}
use Rattle.session_starts.proofs.Served.{served_bound, provided}

length-served_parts : (rs : List NameId) (p : ℕ) → length (served_parts rs p) ≡ length rs
length-served_parts [] p = refl
length-served_parts (r ∷ rs) p = ap suc (length-served_parts rs (suc p))

few_in_all : (a b c d n : ℕ) → n ≡ a + b → a ≡ c → b ≡ d → c + d < 2 ^ 32 → n < 2 ^ 32
few_in_all a b c d n sum same new few = omega arith

pub few_among : (a b n : ℕ) → n ≡ a → a + b < 2 ^ 32 → n < 2 ^ 32
few_among a b n same few = omega arith

pub same_long : (first ms : List MachineView) → map number_of ms ≡ map number_of first → length ms ≡ length first
same_long first ms same = sym (length-map ms number_of) ∙ ap length same ∙ length-map first number_of

module _ (e : Endpoints) (k : Channel) (s : ℕ) (first ms ns all : List MachineView) (is : all ≡ ms ++ ns) where
  pub started_bound : IsFaultless e → channel_of e.channels k.name ≡ Some k → All (IsBound e) (map standing_of ms) → map standing_of ns ≡ served e k.name s k.serve → All (IsBound e) (map standing_of all)
  started_bound faultless found bound new =
      subst (All (IsBound e)) (sym (ap (map standing_of) is ∙ map-append standing_of ms ns))
      (All-append (IsBound e) (map standing_of ms) (map standing_of ns) bound
      (subst (All (IsBound e)) (sym new) (served_bound e k.name s k.serve faultless (provided e k.name k faultless found))))

  pub started_counted : AreCounted first → map number_of ms ≡ map number_of first → map number_of ns ≡ map (λ q. q.1) (served_parts k.serve (length first)) → AreCounted all
  started_counted counted same new =
      subst AreCounted (sym is)
      (counted_more ms ns k.serve (counted_same first ms same counted)
      (new ∙ ap (λ (i : ℕ). map (λ q. q.1) (served_parts k.serve i)) (sym (same_long first ms same))))

  pub started_few : map number_of ms ≡ map number_of first → map number_of ns ≡ map (λ q. q.1) (served_parts k.serve (length first)) → length first + length k.serve < 2 ^ 32 → length all < 2 ^ 32
  started_few same new few =
      few_in_all (length ms) (length ns) (length first) (length k.serve) (length all) (ap length is ∙ length-append ms ns) (same_long first ms same)
      (sym (length-map ns number_of) ∙ ap length new ∙ length-map (served_parts k.serve (length first)) (λ (q : NameId × ℕ). q.1) ∙ length-served_parts k.serve (length first)) few
