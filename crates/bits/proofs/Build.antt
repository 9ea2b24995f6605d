-- A list told by its length and its elements.
-- Assumes nothing.
use mathlib.Core.Path.{◌≡◌, refl, sym, ap, ◌∙◌}
use mathlib.Core.List.{List}
use Prim.Native.Nat.{ℕ, zero, suc, ◌<◌}
use native.Mathlib.Omega.{arith}
use lib.ListN.{length}
use lib.Seq.{ext_get_or}
use Rattle.bits.specs.Lists.{at, build}

pub build_long : (n : ℕ) (f : ℕ → ℕ) → length (build n f) ≡ n
unfolding build
build_long zero f = refl
build_long (suc n) f = ap suc (build_long n (λ i. f (suc i)))

pub build_at : (n : ℕ) (f : ℕ → ℕ) (i : ℕ) → i < n → at (build n f) i ≡ f i
unfolding build
build_at zero f i h = absurd (omega arith)
build_at (suc n) f zero h = refl
build_at (suc n) f (suc i) h = build_at n (λ j. f (suc j)) i (omega arith)

-- a list of n elements whose element i is f i is build n f
pub built : (n : ℕ) (f : ℕ → ℕ) (l : List ℕ) → length l ≡ n → ((i : ℕ) → i < n → at l i ≡ f i) → l ≡ build n f
built n f l e h =
    ext_get_or 0 l (build n f) (e ∙ sym (build_long n f)) (λ i k. let k' : i < n = omega arith in h i k' ∙ sym (build_at n f i k'))

-- gathering by f and then by g is no change where f undoes g
module _ (n : ℕ) (f g : ℕ → ℕ) (below : (i : ℕ) → i < n → g i < n) (undoes : (i : ℕ) → i < n → f (g i) ≡ i) where
  pub gathers : (l : List ℕ) → length l ≡ n → build n (λ i. at (build n (λ p. at l (f p))) (g i)) ≡ l
  gathers l e =
      sym (built n (λ i. at (build n (λ p. at l (f p))) (g i)) l e
      (λ i k. sym (build_at n (λ p. at l (f p)) (g i) (below i k) ∙ ap (at l) (undoes i k))))
