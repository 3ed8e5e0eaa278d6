-- Lists that are appended one after the other.
use Rattle.std.proofs.Common.{◌≡◌, ℕ, List, ◌++◌, ap, ◌∙◌, append_assoc}

pub three : (o x y z : List ℕ) {a b c : List ℕ} → a ≡ o ++ x → b ≡ a ++ y → c ≡ b ++ z → c ≡ o ++ (x ++ y ++ z)
three o x y z p q r = r ∙ ap (λ v. v ++ z) (q ∙ ap (λ v. v ++ y) p) ∙ simp append_assoc

pub four : (o x y z w : List ℕ) {a b c d : List ℕ} → a ≡ o ++ x → b ≡ a ++ y → c ≡ b ++ z → d ≡ c ++ w → d ≡ o ++ (x ++ y ++ z ++ w)
four o x y z w p q r s = s ∙ ap (λ v. v ++ w) (three o x y z p q r) ∙ simp append_assoc

pub five : (o x y z w v : List ℕ) {a b c d e : List ℕ} → a ≡ o ++ x → b ≡ a ++ y → c ≡ b ++ z → d ≡ c ++ w → e ≡ d ++ v → e ≡ o ++ (x ++ y ++ z ++ w ++ v)
five o x y z w v p q r s t = t ∙ ap (λ l. l ++ v) (four o x y z w p q r s) ∙ simp append_assoc

pub six : (o x y z w v u : List ℕ) {a b c d e f : List ℕ} → a ≡ o ++ x → b ≡ a ++ y → c ≡ b ++ z → d ≡ c ++ w → e ≡ d ++ v → f ≡ e ++ u → f ≡ o ++ (x ++ y ++ z ++ w ++ v ++ u)
six o x y z w v u p q r s t k = k ∙ ap (λ l. l ++ u) (five o x y z w v p q r s t) ∙ simp append_assoc
