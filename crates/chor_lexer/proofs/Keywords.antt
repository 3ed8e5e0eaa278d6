-- Keywords.
use Rattle.std.proofs.Common.{◌≡◌, ◌||◌, ℕ, Bool, true, false, List, [], ◌∷◌, ◌++◌, take, drop, refl, ap, ◌∙◌}
use Rattle.std.specs.Prelude.{bytes_eq}
use Rattle.std.specs.List.{list_any}
use Rattle.chor_lexer.specs.Keywords.{keywords}

any_of_both : (p : List ℕ → Bool) (xs ys : List (List ℕ)) → list_any p (xs ++ ys) ≡ (list_any p xs || list_any p ys)
any_of_both p [] ys = refl
any_of_both p (x ∷ xs) ys = ap (λ b. p x || b) (any_of_both p xs ys) ∙ turn (p x) (list_any p xs) (list_any p ys)
  where
    turn : (a b c : Bool) → (a || (b || c)) ≡ ((a || b) || c)
    turn true b c = refl
    turn false b c = refl

-- five words at a time
pub keywords_are : (w : List ℕ) → list_any (bytes_eq w) keywords ≡ (list_any (bytes_eq w) (take 5 keywords) || (list_any (bytes_eq w) (take 5 (drop 5 keywords)) || (list_any (bytes_eq w) (take 5 (drop 10 keywords)) || list_any (bytes_eq w) (drop 15 keywords))))
keywords_are w =
    any_of_both (bytes_eq w) (take 5 keywords) (drop 5 keywords)
    ∙ ap (λ b. list_any (bytes_eq w) (take 5 keywords) || b) (any_of_both (bytes_eq w) (take 5 (drop 5 keywords)) (drop 10 keywords)
    ∙ ap (λ b. list_any (bytes_eq w) (take 5 (drop 5 keywords)) || b) (any_of_both (bytes_eq w) (take 5 (drop 10 keywords)) (drop 15 keywords)))
