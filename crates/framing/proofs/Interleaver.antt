-- The interleaver only orders symbols anew: what is interleaved comes back, and what is counted over all places stays as it was.
-- Assumes nothing.
use mathlib.Core.Path.{◌≡◌, refl, sym, ap, ap₂, ◌∙◌}
use mathlib.Core.List.{List, [], ◌∷◌, map}
use Prim.Native.Nat.{ℕ, zero, suc, ◌+◌, ◌*◌, ◌≤◌, ◌<◌}
use native.Mathlib.Omega.{arith}
use lib.ListN.{length}
use Rattle.bits.specs.Lists.{at, build, AtMost, unlike, differences}
use Rattle.bits.proofs.Build.{build_long, build_at, gathers}
use Rattle.bits.proofs.Lists.{at_most_at}
use Rattle.bits.proofs.Sum.{sum, sum_same, sum_swap, sum_rows, differences_sum}
use Rattle.framing.specs.Interleaver.{place, home, interleaved, deinterleaved}

-- the five places that the paper gives
pub edge_places : map place (0 ∷ 1 ∷ 7 ∷ 8 ∷ 583 ∷ []) ≡ 0 ∷ 73 ∷ 511 ∷ 1 ∷ 583 ∷ []
edge_places = refl

pub place_home : (k : ℕ) → k < 584 → place (home k) ≡ k
place_home k h = omega arith

pub home_place : (i : ℕ) → i < 584 → home (place i) ≡ i
home_place i h = omega arith

pub interleaved_long : (l : List ℕ) → length (interleaved l) ≡ 584
unfolding interleaved
interleaved_long l = build_long 584 _

pub deinterleaved_long : (l : List ℕ) → length (deinterleaved l) ≡ 584
unfolding deinterleaved
deinterleaved_long l = build_long 584 _

pub interleaved_at : (l : List ℕ) (k : ℕ) → k < 584 → at (interleaved l) k ≡ at l (home k)
unfolding interleaved
interleaved_at l k h = build_at 584 (λ k. at l (home k)) k h

-- coded symbol i travels at its place
pub travels : (l : List ℕ) (i : ℕ) → i < 584 → at (interleaved l) (place i) ≡ at l i
travels l i h = interleaved_at l (place i) (omega arith) ∙ ap (at l) (home_place i h)

-- what is interleaved comes back, and the other way round
pub undone : (l : List ℕ) → length l ≡ 584 → deinterleaved (interleaved l) ≡ l
unfolding deinterleaved interleaved
undone l e = gathers 584 home place (λ i h. omega arith) home_place l e

pub redone : (l : List ℕ) → length l ≡ 584 → interleaved (deinterleaved l) ≡ l
unfolding deinterleaved interleaved
redone l e = gathers 584 place home (λ k h. omega arith) place_home l e

-- no level is higher than before
build_at_most : (p n : ℕ) (f : ℕ → ℕ) → ((k : ℕ) → f k ≤ p) → AtMost p (build n f)
unfolding build
build_at_most p zero f h = tt
build_at_most p (suc n) f h = (h 0, build_at_most p n (λ k. f (suc k)) (λ k. h (suc k)))

pub interleaved_at_most : (p : ℕ) (l : List ℕ) → AtMost p l → AtMost p (interleaved l)
unfolding interleaved
interleaved_at_most p l h = build_at_most p 584 _ (λ k. at_most_at p l h (home k))

pub deinterleaved_at_most : (p : ℕ) (l : List ℕ) → AtMost p l → AtMost p (deinterleaved l)
unfolding deinterleaved
deinterleaved_at_most p l h = build_at_most p 584 _ (λ i. at_most_at p l h (place i))

-- ---- each place is taken once, so a sum over all of them stays as it was
in_cell : (r c : ℕ) → r < 8 → c < 73 → home (r * 73 + c) ≡ c * 8 + r
in_cell r c hr hc = omega arith

pub sum_home : (f : ℕ → ℕ) → sum 584 (λ k. f (home k)) ≡ sum 584 f
sum_home f =
    sum_rows 8 73 (λ k. f (home k))
    ∙ sum_same 8 _ _ (λ r hr. sum_same 73 _ _ (λ c hc. ap f (in_cell r c hr hc)))
    ∙ sum_swap 8 73 (λ r c. f (c * 8 + r)) ∙ sym (sum_rows 73 8 f)

pub differences_interleaved : (a b : List ℕ) → length a ≡ 584 → length b ≡ 584 → differences (interleaved a) (interleaved b) ≡ differences a b
differences_interleaved a b ea eb =
    differences_sum 584 _ _ (interleaved_long a) (interleaved_long b)
    ∙ sum_same 584 _ _ (λ k h. ap₂ unlike (interleaved_at a k h) (interleaved_at b k h))
    ∙ sum_home (λ i. unlike (at a i) (at b i))
    ∙ sym (differences_sum 584 a b ea eb)
