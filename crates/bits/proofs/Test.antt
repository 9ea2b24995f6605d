-- A test that antt computes at each number below a bound, turned into a fact of each; and cases of a bit.
-- Assumes nothing.
use mathlib.Core.Path.{◌≡◌, refl, sym, subst, ◌∙◌}
use mathlib.Core.Logic.{◌⊎◌, inl, inr}
use mathlib.Core.Bool.{Bool, true, false}
use Prim.Native.Nat.{ℕ, zero, suc, ◌≤◌, ◌<◌}
use native.Mathlib.Nat.{le_of_suc-le-suc, not-suc-le-zero, eq-or-lt_of_le}
use native.Mathlib.Omega.{arith}
use borrow.Author.Tests.{eq-eqb, ne_eqb, eqb-true, eqb-false}
use lib.Dec.{T, eqb, eqb→eq}
use Rattle.bits.specs.Lists.{both}

both_left : (a b : Bool) → T (both a b) → T a
both_left true b t = tt
both_left false b t = t

both_right : (a b : Bool) → T (both a b) → T b
both_right true b t = t
both_right false b t = absurd t

-- the test f passes at each number below n
abbrev pub every : (ℕ → Bool) → ℕ → Bool
every f zero = true
every f (suc n) = both (f n) (every f n)

pub every_at : (f : ℕ → Bool) (n : ℕ) → T (every f n) → (k : ℕ) → k < n → T (f k)
every_at f zero t k h = absurd (not-suc-le-zero h)
every_at f (suc n) t k h = go (eq-or-lt_of_le (le_of_suc-le-suc h)) (every_at f n (both_right (f n) (every f n) t) k)
  where
    go : (k ≡ n) ⊎ (k < n) → (k < n → T (f k)) → T (f k)
    go (inl e) ih = subst (λ (m : ℕ). T (f m)) (sym e) (both_left (f n) (every f n) t)
    go (inr l) ih = ih l

-- two functions that antt computes to be the same below n
pub agree : (f g : ℕ → ℕ) (n : ℕ) → T (every (λ (k : ℕ). eqb (f k) (g k)) n) → (k : ℕ) → k < n → f k ≡ g k
agree f g n t k h = eqb→eq (f k) (g k) (every_at (λ (k : ℕ). eqb (f k) (g k)) n t k h)

pub bit_cases : (b : ℕ) → b ≤ 1 → (b ≡ 0) ⊎ (b ≡ 1)
bit_cases zero h = inl refl
bit_cases (suc zero) h = inr refl
bit_cases (suc (suc b)) h = absurd (omega arith)

-- what holds of the four pairs of bits holds of two bits
pub two_bits : (P : ℕ → ℕ → Type 0) → P 0 0 → P 0 1 → P 1 0 → P 1 1 → (a b : ℕ) → a ≤ 1 → b ≤ 1 → P a b
two_bits P oo oi io ii zero zero h k = oo
two_bits P oo oi io ii zero (suc zero) h k = oi
two_bits P oo oi io ii (suc zero) zero h k = io
two_bits P oo oi io ii (suc zero) (suc zero) h k = ii
two_bits P oo oi io ii zero (suc (suc b)) h k = absurd (omega arith)
two_bits P oo oi io ii (suc zero) (suc (suc b)) h k = absurd (omega arith)
two_bits P oo oi io ii (suc (suc a)) b h k = absurd (omega arith)

pub three : (a b : ℕ) → (a < b) ⊎ ((a ≡ b) ⊎ (b < a))
three zero zero = inr (inl refl)
three zero (suc b) = inl (omega arith)
three (suc a) zero = inr (inr (omega arith))
three (suc a) (suc b) = go (three a b)
  where
    go : (a < b) ⊎ ((a ≡ b) ⊎ (b < a)) → (suc a < suc b) ⊎ ((suc a ≡ suc b) ⊎ (suc b < suc a))
    go (inl l) = inl (omega arith)
    go (inr (inl e)) = inr (inl (omega arith))
    go (inr (inr l)) = inr (inr (omega arith))

-- two tests that stand and fall together
pub same_test : (a b c d : ℕ) → (a ≡ b → c ≡ d) → (c ≡ d → a ≡ b) → eqb a b ≡ eqb c d
same_test a b c d f g = go (eqb a b) refl
  where
    go : (t : Bool) → eqb a b ≡ t → eqb a b ≡ eqb c d
    go true e = e ∙ sym (eq-eqb c d (f (eqb-true a b e)))
    go false e = e ∙ sym (ne_eqb c d (λ z. eqb-false a b e (g z)))
