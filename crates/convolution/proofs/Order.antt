-- The order of two lists by where they first part, and that there is one nearest word.
-- Assumes nothing.
use mathlib.Core.Path.{◌≡◌, refl, sym, ◌∙◌}
use mathlib.Core.Logic.{◌⊎◌, inl, inr}
use mathlib.Core.List.{List, [], ◌∷◌, ◌++◌, reverse}
use Prim.Native.Nat.{ℕ, zero, suc, ◌<◌}
use native.Mathlib.Omega.{arith}
use lib.ListN.{length, replicate}
use Rattle.bits.proofs.Test.{three}
use Rattle.convolution.specs.Code.{ZeroFirst, Better, Nearest}

pub zero_first_asym : (x y : List ℕ) → ZeroFirst x y → ZeroFirst y x → ⊥
zero_first_asym [] y h k = h
zero_first_asym (b ∷ x) [] h k = h
zero_first_asym (b ∷ x) (c ∷ y) (inl h) (inl k) = omega arith
zero_first_asym (b ∷ x) (c ∷ y) (inl h) (inr k) = omega arith
zero_first_asym (b ∷ x) (c ∷ y) (inr h) (inl k) = omega arith
zero_first_asym (b ∷ x) (c ∷ y) (inr h) (inr k) = zero_first_asym x y h.1 k.1

-- nothing comes before zeros
pub zero_first_zeros : (n : ℕ) (x : List ℕ) → ZeroFirst x (replicate n 0) → ⊥
zero_first_zeros n [] h = h
zero_first_zeros zero (b ∷ x) h = h
zero_first_zeros (suc n) (b ∷ x) (inl h) = omega arith
zero_first_zeros (suc n) (b ∷ x) (inr h) = zero_first_zeros n x h.1

-- a part in front, or behind, that both have decides nothing
pub zero_first_front : (x u v : List ℕ) → ZeroFirst (x ++ u) (x ++ v) → ZeroFirst u v
zero_first_front [] u v h = h
zero_first_front (b ∷ x) u v (inl h) = absurd (omega arith)
zero_first_front (b ∷ x) u v (inr h) = zero_first_front x u v h.1

pub zero_first_behind : (x y u : List ℕ) → length x ≡ length y → ZeroFirst (x ++ u) (y ++ u) → ZeroFirst x y
zero_first_behind [] [] u e h = zero_first_asym u u h h
zero_first_behind [] (c ∷ y) u e h = absurd (omega arith)
zero_first_behind (b ∷ x) [] u e h = absurd (omega arith)
zero_first_behind (b ∷ x) (c ∷ y) u e (inl h) = inl h
zero_first_behind (b ∷ x) (c ∷ y) u e (inr h) = inr (h.0, zero_first_behind x y u (omega arith) h.1)

zero_first_three : (x y : List ℕ) → length x ≡ length y → (x ≡ y) ⊎ (ZeroFirst x y ⊎ ZeroFirst y x)
zero_first_three [] [] e = inl refl
zero_first_three [] (c ∷ y) e = absurd (omega arith)
zero_first_three (b ∷ x) [] e = absurd (omega arith)
zero_first_three (b ∷ x) (c ∷ y) e = go (three b c) (zero_first_three x y (omega arith))
  where
    go : (b < c) ⊎ ((b ≡ c) ⊎ (c < b)) → (x ≡ y) ⊎ (ZeroFirst x y ⊎ ZeroFirst y x)
        → ((b ∷ x) ≡ (c ∷ y)) ⊎ (ZeroFirst (b ∷ x) (c ∷ y) ⊎ ZeroFirst (c ∷ y) (b ∷ x))
    go (inl l) r = inr (inl (inl l))
    go (inr (inr l)) r = inr (inr (inl l))
    go (inr (inl q)) (inl r) = inl (rw (q, r))
    go (inr (inl q)) (inr (inl r)) = inr (inl (inr (q, r)))
    go (inr (inl q)) (inr (inr r)) = inr (inr (inr (sym q, r)))

-- whichever of two equals the tie takes, it does not take both
better_asym : (p : ℕ) (l w v : List ℕ) → Better p l w v → Better p l v w → ⊥
better_asym p l w v (inl h) (inl j) = omega arith
better_asym p l w v (inl h) (inr j) = omega arith
better_asym p l w v (inr h) (inl j) = omega arith
better_asym p l w v (inr h) (inr j) = search (zero_first_asym (reverse w) (reverse v))

pub nearest_one : (p n : ℕ) (l w v : List ℕ) → Nearest p n l w → Nearest p n l v → w ≡ v
nearest_one p n l w v nw nv = go (zero_first_three w v (nw.long ∙ sym nv.long))
  where
    clash : (w ≡ v → ⊥) → ⊥
    clash other = better_asym p l w v (nw.best v nv.bits nv.long (λ e. other (sym e))) (nv.best w nw.bits nw.long other)

    go : (w ≡ v) ⊎ (ZeroFirst w v ⊎ ZeroFirst v w) → w ≡ v
    go (inl e) = e
    go (inr (inl h)) = absurd (clash (λ e. zero_first_asym v v (rw e at h) (rw e at h)))
    go (inr (inr h)) = absurd (clash (λ e. zero_first_asym v v (rw e at h) (rw e at h)))
