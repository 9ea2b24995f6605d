-- How far the metrics lie apart: a state is reached from every other in six steps.
-- Assumes nothing.
use mathlib.Core.Path.{◌≡◌, sym, ap, ◌∙◌}
use mathlib.Core.Logic.{◌⊎◌, inl, inr}
use mathlib.Core.Bool.{Bool, true, false}
use mathlib.Core.List.{List, [], ◌∷◌, ◌++◌}
use Prim.Native.Nat.{ℕ, zero, suc, ◌+◌, ◌*◌, ◌/◌, ◌%◌, ◌<◌, ◌≤◌}
use native.Mathlib.Omega.{arith}
use lib.Dec.{eqb}
use lib.ListN.{length, take, drop, length-take, length-drop, take-append-drop}
use Rattle.bits.proofs.Lists.{at_most_append, at_most_take, at_most_drop}
use Rattle.bits.proofs.Test.{agree}
use Rattle.bits.specs.Lists.{at, pick, Bits}
use Rattle.convolution.proofs.Decoded.{pairs_length}
use Rattle.convolution.proofs.Survivor.{toll_le, better_le, origin, origin_six, paid, least, reached, survivor_bits, survivor_length}
use Rattle.convolution.specs.Trellis.{Pair, toll, via, start, metric, survivor, pairs}

module _ (p : ℕ) where
  -- two ways that come together cost much the same from there on
  detour : (u v tail : List ℕ) (qs : List Pair) (s r : ℕ) → length u ≡ length v → length qs ≡ length u + length tail → origin s u ≡ origin r v
      → paid p s (u ++ tail) qs ≤ paid p r (v ++ tail) qs + 2 * p * length u
  unfolding origin paid
  detour [] [] tail qs s r e l same = rw same (omega arith)
  detour [] (j ∷ v) tail qs s r e l same = absurd (omega arith)
  detour (k ∷ u) [] tail qs s r e l same = absurd (omega arith)
  detour (k ∷ u) (j ∷ v) tail [] s r e l same = absurd (omega arith)
  detour (k ∷ u) (j ∷ v) tail (q ∷ qs) s r e l same =
      omega (arith, detour u v tail qs (s / 2 + 32 * k) (r / 2 + 32 * j) (omega arith) (omega arith) same, toll_le p q (s + 64 * k))

  -- the bits of a state: the way that comes from it in six steps
  abbrev six : ℕ → List ℕ
  six o = o % 2 ∷ o / 2 % 2 ∷ o / 4 % 2 ∷ o / 8 % 2 ∷ o / 16 % 2 ∷ o / 32 ∷ []

  six_origin : (s o : ℕ) → s < 64 → o < 64 → origin s (six o) ≡ o
  six_origin s o hs ho =
      origin_six s (o % 2) (o / 2 % 2) (o / 4 % 2) (o / 8 % 2) (o / 16 % 2) (o / 32) hs
      ∙ agree (λ (o : ℕ). o % 2 + 2 * (o / 2 % 2) + 4 * (o / 4 % 2) + 8 * (o / 8 % 2) + 16 * (o / 16 % 2) + 32 * (o / 32)) (λ (o : ℕ). o) 64 tt o ho

  six_bits : (o : ℕ) → o < 64 → Bits (six o)
  six_bits o h = (omega arith, (omega arith, (omega arith, (omega arith, (omega arith, (omega arith, tt))))))

  origin_lt : (u : List ℕ) (s : ℕ) → Bits u → s < 64 → origin s u < 64
  unfolding origin
  origin_lt [] s h l = l
  origin_lt (k ∷ u) s h l = origin_lt u (s / 2 + 32 * k) h.1 (omega arith)

  spread_late : (qs : List Pair) (s r : ℕ) → 6 ≤ length qs → s < 64 → r < 64 → metric p qs s ≤ metric p qs r + 12 * p
  spread_late qs s r l hs hr =
      let w : List ℕ = survivor p qs r in
      let b : Bits w = survivor_bits p qs r in
      let e : length w ≡ length qs = survivor_length p qs r in
      let o : ℕ = origin r (take 6 w) in
      let ho : o < 64 = origin_lt (take 6 w) r (at_most_take 1 6 w b) hr in
      let t : length (take 6 w) ≡ 6 = omega (arith, length-take 6 w) in
      let d = length-drop 6 w in
      omega (
        arith,
        least p qs (six o ++ drop 6 w) s (at_most_append 1 (six o) (drop 6 w) (six_bits o ho) (at_most_drop 1 6 w b)) (omega arith),
        detour (six o) (take 6 w) (drop 6 w) qs s r (sym t) (omega arith) (six_origin s o hs ho),
        ap (λ (y : List ℕ). paid p r y qs) (take-append-drop 6 w),
        reached p qs r,
      )

  start_le : (s : ℕ) → start p s ≤ 12 * p
  unfolding start
  start_le s = go (eqb s 0)
    where
      go : (t : Bool) → pick t 0 (12 * p) ≤ 12 * p
      go true = omega arith
      go false = omega arith

  grow : (qs : List Pair) (q : Pair) → metric p (q ∷ qs) 0 ≤ metric p qs 0 + 2 * p
  unfolding metric via
  grow qs q = omega (arith, better_le (metric p qs) (toll p q) 0 0 (omega arith), toll_le p q 0)

  module _ (l : List ℕ) where
    pub spread : (t s r : ℕ) → (t ≡ 0) ⊎ (6 ≤ t) → s < 64 → r < 64 → metric p (pairs l t) s ≤ metric p (pairs l t) r + 12 * p
    unfolding metric pairs
    spread t s r (inl z) hs hr = rw z (omega (arith, start_le s))
    spread t s r (inr h) hs hr = spread_late (pairs l t) s r (omega (arith, pairs_length l t)) hs hr

    -- no metric of the state 0 passes what its steps can cost
    pub metric_low : (t : ℕ) → metric p (pairs l t) 0 ≤ 2 * p * t
    unfolding metric pairs start
    metric_low zero = omega arith
    metric_low (suc t) = omega (arith, grow (pairs l t) (at l (2 * t), at l (2 * t + 1)), metric_low t)
