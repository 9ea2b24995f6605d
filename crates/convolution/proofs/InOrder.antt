-- What a word costs in order is what its way costs in the trellis.
-- Assumes nothing.
use mathlib.Core.Path.{◌≡◌, refl, ap, ◌∙◌}
use mathlib.Core.List.{List, [], ◌∷◌, ◌++◌, reverse, reverse_aux, reverse_aux-eq, reverse_aux-append}
use Prim.Native.Nat.{ℕ, zero, suc, ◌+◌, ◌*◌, ◌/◌, ◌%◌, ◌≤◌, ◌<◌}
use native.Mathlib.Omega.{arith}
use lib.ListN.{length, drop, length-append, drop_of_length-le}
use lib.Seq.{drop-cons}
use Rattle.bits.proofs.Lists.{at_most_at, at_most_append, at_most_reverse, at_most_zeros}
use Rattle.bits.specs.Lists.{at, Bits}
use Rattle.convolution.specs.Code.{ago, six_zeros, g1, g2, encode, coded_form, price, prices, cost}
use Rattle.convolution.specs.Trellis.{Pair, toll, start, pairs}
use Rattle.convolution.proofs.Register.{after, after_lt, after_bits, after_zeros, g1_out, g2_out}
use Rattle.convolution.proofs.Survivor.{paid}

-- the pairs of levels in order, latest first, onto those before them
unfoldable onto : List ℕ → List Pair → List Pair
onto [] qs = qs
onto (a ∷ []) qs = qs
onto (a ∷ b ∷ l) qs = onto l ((a, b) ∷ qs)

two : (l : List ℕ) (k : ℕ) → k + 1 < length l → drop k l ≡ at l k ∷ at l (k + 1) ∷ drop (k + 2) l
two l k h =
    let e : k + 1 ≡ suc k = omega arith in
    let f : k + 2 ≡ suc (suc k) = omega arith in
    rw (e, f) (drop-cons l k 0 (omega arith) ∙ ap (λ (r : List ℕ). at l k ∷ r) (drop-cons l (suc k) 0 (omega arith)))

onto_from : (l : List ℕ) (j i : ℕ) → length l ≡ 2 * (i + j) → onto (drop (2 * i) l) (pairs l i) ≡ pairs l (i + j)
unfolding onto pairs
onto_from l zero i e =
    let z : i + 0 ≡ i = omega arith in
    rw (z, drop_of_length-le l {i = 2 * i} (omega arith)) refl
onto_from l (suc j) i e =
    let s : i + suc j ≡ suc i + j = omega arith in
    let t : 2 * i + 2 ≡ 2 * suc i = omega arith in
    rw (two l (2 * i) (omega arith), t, s) (onto_from l j (suc i) (omega arith))

onto_pairs : (l : List ℕ) (n : ℕ) → length l ≡ 2 * n → onto l [] ≡ pairs l n
unfolding pairs
onto_pairs l n e =
    let z : 0 + n ≡ n = omega arith in
    rw z at (onto_from l n 0 (omega arith))

module _ (p : ℕ) where
  -- what the bits z, latest first, cost: the state that they leave, by way of those before
  abbrev whole : List ℕ → List Pair → ℕ
  whole z qs = paid p (after z) (drop 6 z) qs

  whole_more : (b : ℕ) (z : List ℕ) (a c : ℕ) (qs : List Pair) → b ≤ 1 → Bits z → 5 < length z
      → whole (b ∷ z) ((a, c) ∷ qs) ≡ whole z qs + (price p (g1 (b ∷ z)) a + price p (g2 (b ∷ z)) c)
  unfolding after paid toll
  whole_more b z a c qs hb h l =
      let bit : (k : ℕ) → ago z k ≤ 1 = at_most_at 1 z h in
      let k : ago z 5 ≡ after z / 32 = omega (arith, after_bits z h, bit 0, bit 1, bit 2, bit 3, bit 4, bit 5) in
      let o = after_lt z in
      let s : (2 * after z + b) % 64 / 2 + 32 * ago z 5 ≡ after z = omega arith in
      let r : (2 * after z + b) % 64 + 64 * ago z 5 ≡ 2 * after z + b = omega arith in
      rw (drop-cons z 5 0 l, ← g1_out b z hb h, ← g2_out b z hb h) (rw (s, r))

  in_order : (w l z : List ℕ) (qs : List Pair) → Bits w → Bits z → 5 < length z → length l ≡ 2 * length w
      → whole (reverse_aux w z) (onto l qs) ≡ whole z qs + prices p (encode z w) l
  unfolding onto encode prices
  in_order [] [] z qs hw hz h e = omega arith
  in_order [] (a ∷ l) z qs hw hz h e = absurd (omega arith)
  in_order (b ∷ w) [] z qs hw hz h e = absurd (omega arith)
  in_order (b ∷ w) (a ∷ []) z qs hw hz h e = absurd (omega arith)
  in_order (b ∷ w) (a ∷ c ∷ l) z qs hw hz h e =
      in_order w l (b ∷ z) ((a, c) ∷ qs) hw.1 (hw.0, hz) (omega arith) (omega arith)
      ∙ omega (arith, whole_more b z a c qs hw.0 hz h)

  none : whole six_zeros [] ≡ 0
  unfolding after paid start
  none = refl

  -- the way of a word to the state 0
  pub cost_paid : (n : ℕ) (l w : List ℕ) → Bits w → length w ≡ n → length l ≡ 2 * (n + 6)
      → cost p l w ≡ paid p 0 (reverse w ++ six_zeros) (pairs l (n + 6))
  unfolding coded_form
  cost_paid n l w h e size =
      let z : Bits six_zeros = at_most_zeros 1 6 in
      let b : Bits (reverse w ++ six_zeros) = at_most_append 1 (reverse w) six_zeros (at_most_reverse 1 w h) z in
      let o : length (w ++ six_zeros) ≡ n + 6 = omega (arith, length-append w six_zeros) in
      omega (
        arith,
        none,
        rw (reverse_aux-append w six_zeros six_zeros, reverse_aux-eq w six_zeros, after_zeros (reverse w ++ six_zeros) b, onto_pairs l (n + 6) size) at
            (in_order (w ++ six_zeros) l six_zeros [] (at_most_append 1 w six_zeros h z) z (omega arith) (omega arith)),
      )
