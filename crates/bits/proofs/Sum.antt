-- Sums over the numbers below a bound; in how many places two lists differ is one, so it does not depend on the order of the places.
-- Assumes nothing.
use mathlib.Core.Path.{◌≡◌, refl, sym, ap, ap₂, ◌∙◌}
use mathlib.Core.Bool.{Bool}
use mathlib.Core.List.{List, [], ◌∷◌}
use Prim.Native.Nat.{ℕ, zero, suc, ◌+◌, ◌*◌, ◌<◌}
use native.Mathlib.Nat.{add-suc, zero-mul, suc-mul}
use native.Mathlib.Omega.{arith}
use borrow.Author.Tests.{eq-eqb}
use lib.ListN.{length}
use Rattle.bits.specs.Lists.{at, pick, unlike, differences}

-- f 0 + f 1 + .. + f (n - 1)
unfoldable pub sum : ℕ → (ℕ → ℕ) → ℕ
sum zero f = 0
sum (suc n) f = sum n f + f n

pub sum_same : (n : ℕ) (f g : ℕ → ℕ) → ((i : ℕ) → i < n → f i ≡ g i) → sum n f ≡ sum n g
unfolding sum
sum_same zero f g h = refl
sum_same (suc n) f g h = ap₂ ◌+◌ (sum_same n f g (λ i k. h i (omega arith))) (h n (omega arith))

sum_zero : (n : ℕ) → sum n (λ i. 0) ≡ 0
unfolding sum
sum_zero zero = refl
sum_zero (suc n) = omega (arith, sum_zero n)

pub sum_both : (n : ℕ) (f g : ℕ → ℕ) → sum n (λ i. f i + g i) ≡ sum n f + sum n g
unfolding sum
sum_both zero f g = refl
sum_both (suc n) f g = omega (arith, sum_both n f g)

sum_first : (n : ℕ) (f : ℕ → ℕ) → sum (suc n) f ≡ f 0 + sum n (λ i. f (suc i))
unfolding sum
sum_first zero f = omega arith
sum_first (suc n) f = omega (arith, sum_first n f)

pub sum_swap : (a b : ℕ) (g : ℕ → ℕ → ℕ) → sum a (λ r. sum b (λ c. g r c)) ≡ sum b (λ c. sum a (λ r. g r c))
unfolding sum
sum_swap zero b g = sym (sum_zero b)
sum_swap (suc a) b g =
    ap (λ (n : ℕ). n + sum b (λ c. g a c)) (sum_swap a b g) ∙ sym (sum_both b (λ c. sum a (λ r. g r c)) (λ c. g a c))

sum_more : (m n : ℕ) (f : ℕ → ℕ) → sum (m + n) f ≡ sum m f + sum n (λ i. f (m + i))
unfolding sum
sum_more m zero f = let z : m + 0 ≡ m = omega arith in rw z (omega arith)
sum_more m (suc n) f = rw (add-suc m n) (omega (arith, sum_more m n f))

-- row by row
pub sum_rows : (a b : ℕ) (f : ℕ → ℕ) → sum (a * b) f ≡ sum a (λ r. sum b (λ c. f (r * b + c)))
unfolding sum
sum_rows zero b f = rw (zero-mul b) refl
sum_rows (suc a) b f = rw (suc-mul a b, sum_more (a * b) b f, sum_rows a b f) refl

-- ---- the places at which two lists differ
differences_same_long : (u v : List ℕ) → length u ≡ length v → differences u v ≡ sum (length u) (λ i. unlike (at u i) (at v i))
unfolding differences sum
differences_same_long [] [] e = refl
differences_same_long [] (y ∷ v) e = absurd (omega arith)
differences_same_long (x ∷ u) [] e = absurd (omega arith)
differences_same_long (x ∷ u) (y ∷ v) e =
    ap (λ (n : ℕ). unlike x y + n) (differences_same_long u v (omega arith))
    ∙ sym (sum_first (length u) (λ i. unlike (at (x ∷ u) i) (at (y ∷ v) i)))

pub differences_sum : (n : ℕ) (u v : List ℕ) → length u ≡ n → length v ≡ n → differences u v ≡ sum n (λ i. unlike (at u i) (at v i))
differences_sum n u v eu ev = differences_same_long u v (eu ∙ sym ev) ∙ ap (λ (k : ℕ). sum k (λ i. unlike (at u i) (at v i))) eu

pub differences_none : (a : List ℕ) → differences a a ≡ 0
unfolding differences
differences_none [] = refl
differences_none (x ∷ a) = omega (arith, ap (λ (b : Bool). pick {A = ℕ} b 0 1) (eq-eqb x x refl), differences_none a)
