-- Lists whose elements are bounded, bits above all: parts of them, joined, reversed, and told place by place.
-- Assumes nothing.
use mathlib.Core.Path.{◌≡◌, refl, ap}
use mathlib.Core.Bool.{Bool, true, false}
use mathlib.Core.List.{List, [], ◌∷◌, ◌++◌, map, reverse, reverse_aux}
use Prim.Native.Nat.{ℕ, zero, suc, ◌≤◌, ◌<◌}
use native.Mathlib.Omega.{arith}
use lib.Dec.{leb}
use lib.ListN.{length, take, drop, replicate}
use borrow.Author.Tests.{le-leb, lt-leb, leb-true}
use Rattle.bits.specs.Lists.{at, both, AtMost, at_most}

module _ (p : ℕ) where
  pub at_most_at : (x : List ℕ) → AtMost p x → (k : ℕ) → at x k ≤ p
  at_most_at [] h k = omega arith
  at_most_at (b ∷ x) h zero = h.0
  at_most_at (b ∷ x) h (suc k) = at_most_at x h.1 k

  pub at_most_all : (x : List ℕ) → ((k : ℕ) → k < length x → at x k ≤ p) → AtMost p x
  at_most_all [] h = tt
  at_most_all (b ∷ x) h = (h 0 (omega arith), at_most_all x (λ k l. h (suc k) (omega arith)))

  pub at_most_append : (x y : List ℕ) → AtMost p x → AtMost p y → AtMost p (x ++ y)
  at_most_append [] y h k = k
  at_most_append (b ∷ x) y h k = (h.0, at_most_append x y h.1 k)

  pub at_most_take : (n : ℕ) (x : List ℕ) → AtMost p x → AtMost p (take n x)
  at_most_take zero x h = tt
  at_most_take (suc n) [] h = tt
  at_most_take (suc n) (b ∷ x) h = (h.0, at_most_take n x h.1)

  pub at_most_drop : (n : ℕ) (x : List ℕ) → AtMost p x → AtMost p (drop n x)
  at_most_drop zero x h = h
  at_most_drop (suc n) [] h = h
  at_most_drop (suc n) (b ∷ x) h = at_most_drop n x h.1

  pub at_most_onto : (x r : List ℕ) → AtMost p x → AtMost p r → AtMost p (reverse_aux x r)
  at_most_onto [] r h k = k
  at_most_onto (b ∷ x) r h k = at_most_onto x (b ∷ r) h.1 (h.0, k)

  pub at_most_reverse : (x : List ℕ) → AtMost p x → AtMost p (reverse x)
  at_most_reverse x h = at_most_onto x [] h tt

  pub at_most_zeros : (n : ℕ) → AtMost p (replicate n 0)
  at_most_zeros zero = tt
  at_most_zeros (suc n) = (omega arith, at_most_zeros n)

  -- the test and what it tests
  pub at_most_true : (x : List ℕ) → AtMost p x → at_most p x ≡ true
  unfolding at_most
  at_most_true [] h = refl
  at_most_true (b ∷ x) h = rw (le-leb b p h.0) (at_most_true x h.1)

  pub at_most_false : (x : List ℕ) (k : ℕ) → k < length x → p < at x k → at_most p x ≡ false
  unfolding at_most
  at_most_false [] k l h = absurd (omega arith)
  at_most_false (b ∷ x) zero l h = rw (lt-leb b p h) refl
  at_most_false (b ∷ x) (suc k) l h = rw (at_most_false x k (omega arith) h) (none (leb b p))
    where
      none : (t : Bool) → both t false ≡ false
      none true = refl
      none false = refl

  pub at_most_holds : (x : List ℕ) → at_most p x ≡ true → AtMost p x
  unfolding at_most
  at_most_holds [] e = tt
  at_most_holds (b ∷ x) e = go (leb b p) refl e (at_most_holds x)
    where
      go : (t : Bool) → leb b p ≡ t → both t (at_most p x) ≡ true → (at_most p x ≡ true → AtMost p x) → AtMost p (b ∷ x)
      go true q f rest = (leb-true b p q, rest f)
      go false q f rest = absurd (let z : ◌≡◌ {A = ℕ} 0 1 = (cc) in omega arith)

-- what a map makes of the element at a place
pub map_at : (f : ℕ → ℕ) (x : List ℕ) (k : ℕ) → k < length x → at (map f x) k ≡ f (at x k)
map_at f [] k h = absurd (omega arith)
map_at f (b ∷ x) zero h = refl
map_at f (b ∷ x) (suc k) h = map_at f x k (omega arith)

pub map_long : (f : ℕ → ℕ) (x : List ℕ) → length (map f x) ≡ length x
map_long f [] = refl
map_long f (b ∷ x) = ap suc (map_long f x)

pub map_take : (f : ℕ → ℕ) (n : ℕ) (x : List ℕ) → take n (map f x) ≡ map f (take n x)
map_take f zero x = refl
map_take f (suc n) [] = refl
map_take f (suc n) (b ∷ x) = ap (λ (y : List ℕ). f b ∷ y) (map_take f n x)
