-- The survivor of a state is the best way there: no way is cheaper, and of the cheapest it is the first. A way to the state s is the list of
-- the bits before those of s, latest first; it passes through s / 2 + 32 * k, where k is its next bit. Assumes nothing.
use mathlib.Core.Path.{◌≡◌, refl, sym, ap, ◌∙◌}
use mathlib.Core.Logic.{◌⊎◌, inl, inr}
use mathlib.Core.Bool.{Bool, true, false}
use mathlib.Core.List.{List, [], ◌∷◌, ◌++◌}
use Prim.Native.Nat.{ℕ, zero, suc, ◌+◌, ◌*◌, ◌/◌, ◌≤◌, ◌<◌, min}
use native.Mathlib.Nat.{eq-or-lt_of_le}
use native.Mathlib.Omega.{arith}
use borrow.Author.Tests.{ltb-true, ltb-false, ne_eqb}
use lib.Dec.{ltb}
use lib.ListN.{length, take, drop, length-append, length-take, length-drop, take-append-drop}
use Rattle.bits.proofs.Lists.{at_most_append, at_most_take, at_most_drop, at_most_zeros}
use Rattle.bits.proofs.Test.{three}
use Rattle.bits.specs.Lists.{pick, Bits}
use Rattle.convolution.specs.Code.{six_zeros, ZeroFirst}
use Rattle.convolution.specs.Trellis.{out1, out2, Pair, toll, via, better, choice, start, metric, mark, survivor}
use Rattle.convolution.proofs.Coded.{price_le}
use Rattle.convolution.proofs.Order.{zero_first_zeros, zero_first_front}

-- ---- one step
module _ (f c : ℕ → ℕ) (s : ℕ) where
  chosen : (t : Bool) → ltb (via f c s 1) (via f c s 0) ≡ t
      → (pick t 1 0 ≤ 1) × (better f c s ≡ via f c s (pick t 1 0)) × ((k : ℕ) → k ≤ 1 → via f c s k ≤ better f c s → pick t 1 0 ≤ k)
  unfolding better
  chosen true e = let l = ltb-true (via f c s 1) (via f c s 0) e in (omega arith, omega arith, λ k h le. go k h le)
    where
      go : (k : ℕ) → k ≤ 1 → via f c s k ≤ min (via f c s 0) (via f c s 1) → 1 ≤ k
      go zero h le = absurd (omega (arith, ltb-true (via f c s 1) (via f c s 0) e))
      go (suc k) h le = omega arith
  chosen false e = let l = ltb-false (via f c s 1) (via f c s 0) e in (omega arith, omega arith, λ k h le. omega arith)

  choice_first : (k : ℕ) → k ≤ 1 → via f c s k ≤ better f c s → choice f c s ≤ k
  unfolding choice
  choice_first = (chosen (ltb (via f c s 1) (via f c s 0)) refl).2

  pub choice_bit : choice f c s ≤ 1
  unfolding choice
  choice_bit = (chosen (ltb (via f c s 1) (via f c s 0)) refl).0

  pub choice_way : better f c s ≡ via f c s (choice f c s)
  unfolding choice
  choice_way = (chosen (ltb (via f c s 1) (via f c s 0)) refl).1

  pub better_le : (k : ℕ) → k ≤ 1 → better f c s ≤ via f c s k
  unfolding better
  better_le zero h = omega arith
  better_le (suc zero) h = omega arith
  better_le (suc (suc k)) h = absurd (omega arith)

-- where a way starts
unfoldable pub origin : ℕ → List ℕ → ℕ
origin s [] = s
origin s (k ∷ y) = origin (s / 2 + 32 * k) y

-- a way of six bits starts in the state of those bits
pub origin_six : (s a b c d e f : ℕ) → s < 64 → origin s (a ∷ b ∷ c ∷ d ∷ e ∷ f ∷ []) ≡ a + 2 * b + 4 * c + 8 * d + 16 * e + 32 * f
unfolding origin
origin_six s a b c d e f h =
    let x2 : (s / 2 + 32 * a) / 2 + 32 * b ≡ s / 4 + 16 * a + 32 * b = omega arith in
    let x3 : (s / 4 + 16 * a + 32 * b) / 2 + 32 * c ≡ s / 8 + 8 * a + 16 * b + 32 * c = omega arith in
    let x4 : (s / 8 + 8 * a + 16 * b + 32 * c) / 2 + 32 * d ≡ s / 16 + 4 * a + 8 * b + 16 * c + 32 * d = omega arith in
    let x5 : (s / 16 + 4 * a + 8 * b + 16 * c + 32 * d) / 2 + 32 * e ≡ s / 32 + 2 * a + 4 * b + 8 * c + 16 * d + 32 * e = omega arith in
    rw (x2, x3, x4, x5) (omega arith)

module _ (p : ℕ) where
  pub toll_le : (q : Pair) (r : ℕ) → toll p q r ≤ 2 * p
  unfolding toll
  toll_le q r = omega (arith, price_le p (out1 r) q.0, price_le p (out2 r) q.1)

  -- what the way y to the state s costs
  unfoldable pub paid : ℕ → List ℕ → List Pair → ℕ
  paid s y [] = start p s
  paid s [] (q ∷ qs) = 0
  paid s (k ∷ y) (q ∷ qs) = paid (s / 2 + 32 * k) y qs + toll p q (s + 64 * k)

  pub least : (qs : List Pair) (y : List ℕ) (s : ℕ) → Bits y → length y ≡ length qs → metric p qs s ≤ paid s y qs
  unfolding metric paid via
  least [] y s h e = omega arith
  least (q ∷ qs) [] s h e = absurd (omega arith)
  least (q ∷ qs) (k ∷ y) s h e =
      omega (arith, better_le (metric p qs) (toll p q) s k h.0, least qs y (s / 2 + 32 * k) h.1 (omega arith))

  pub reached : (qs : List Pair) (s : ℕ) → metric p qs s ≡ paid s (survivor p qs s) qs
  unfolding metric mark survivor paid via
  reached [] s = refl
  reached (q ∷ qs) s =
      omega (arith, choice_way (metric p qs) (toll p q) s, reached qs (s / 2 + 32 * choice (metric p qs) (toll p q) s))

  pub earliest : (qs : List Pair) (y : List ℕ) (s : ℕ) → Bits y → length y ≡ length qs → paid s y qs ≤ metric p qs s
      → (survivor p qs s ≡ y) ⊎ ZeroFirst (survivor p qs s) y
  unfolding metric mark survivor paid via
  earliest [] [] s h e c = inl refl
  earliest [] (k ∷ y) s h e c = absurd (omega arith)
  earliest (q ∷ qs) [] s h e c = absurd (omega arith)
  earliest (q ∷ qs) (k ∷ y) s h e c =
      go (eq-or-lt_of_le (choice_first (metric p qs) (toll p q) s k h.0 (omega (arith, low))))
      (earliest qs y (s / 2 + 32 * k) h.1 (omega arith) (omega (arith, better_le (metric p qs) (toll p q) s k h.0)))
    where
      low : metric p qs (s / 2 + 32 * k) ≤ paid (s / 2 + 32 * k) y qs
      low = least qs y (s / 2 + 32 * k) h.1 (omega arith)

      m : ℕ
      m = choice (metric p qs) (toll p q) s

      go : (m ≡ k) ⊎ (m < k) → (survivor p qs (s / 2 + 32 * k) ≡ y) ⊎ ZeroFirst (survivor p qs (s / 2 + 32 * k)) y
          → ((m ∷ survivor p qs (s / 2 + 32 * m)) ≡ (k ∷ y)) ⊎ ZeroFirst (m ∷ survivor p qs (s / 2 + 32 * m)) (k ∷ y)
      go (inr l) r = inr (inl l)
      go (inl same) (inl r) = inl (rw (same, r))
      go (inl same) (inr r) = inr (inr (same, rw same r))

  pub survivor_bits : (qs : List Pair) (s : ℕ) → Bits (survivor p qs s)
  unfolding mark survivor
  survivor_bits [] s = tt
  survivor_bits (q ∷ qs) s = (choice_bit (metric p qs) (toll p q) s, survivor_bits qs (s / 2 + 32 * choice (metric p qs) (toll p q) s))

  pub survivor_length : (qs : List Pair) (s : ℕ) → length (survivor p qs s) ≡ length qs
  unfolding survivor
  survivor_length [] s = refl
  survivor_length (q ∷ qs) s = ap suc (survivor_length qs (s / 2 + 32 * mark p (q ∷ qs) s))

  -- ---- the survivor of a state that is six steps or more from the start comes from the state 0
  paid_low : (qs : List Pair) (y : List ℕ) (s : ℕ) → length y ≡ length qs → start p (origin s y) ≤ paid s y qs
  unfolding origin paid
  paid_low [] [] s e = omega arith
  paid_low [] (k ∷ y) s e = absurd (omega arith)
  paid_low (q ∷ qs) [] s e = absurd (omega arith)
  paid_low (q ∷ qs) (k ∷ y) s e = omega (arith, paid_low qs y (s / 2 + 32 * k) (omega arith))

  paid_high : (qs : List Pair) (y : List ℕ) (s : ℕ) → length y ≡ length qs → paid s y qs ≤ start p (origin s y) + 2 * p * length qs
  unfolding origin paid
  paid_high [] [] s e = omega arith
  paid_high [] (k ∷ y) s e = absurd (omega arith)
  paid_high (q ∷ qs) [] s e = absurd (omega arith)
  paid_high (q ∷ qs) (k ∷ y) s e = omega (arith, paid_high qs y (s / 2 + 32 * k) (omega arith), toll_le q (s + 64 * k))

  start_zero : start p 0 ≡ 0
  unfolding start
  start_zero = refl

  start_other : (s : ℕ) → 0 < s → start p s ≡ 12 * p
  unfolding start
  start_other s h = rw (ne_eqb s 0 (λ e. omega arith)) refl

  home : (qs : List Pair) (u : List ℕ) (s : ℕ) → s < 64 → Bits u → length u ≡ 6 → length qs ≡ 6 → paid s six_zeros qs ≤ paid s u qs
  home qs [] s hs h e l = absurd (omega arith)
  home qs (a ∷ []) s hs h e l = absurd (omega arith)
  home qs (a ∷ b ∷ []) s hs h e l = absurd (omega arith)
  home qs (a ∷ b ∷ c ∷ []) s hs h e l = absurd (omega arith)
  home qs (a ∷ b ∷ c ∷ d ∷ []) s hs h e l = absurd (omega arith)
  home qs (a ∷ b ∷ c ∷ d ∷ i ∷ []) s hs h e l = absurd (omega arith)
  home qs (a ∷ b ∷ c ∷ d ∷ i ∷ j ∷ g ∷ u) s hs h e l = absurd (omega arith)
  home qs (a ∷ b ∷ c ∷ d ∷ i ∷ j ∷ []) s hs h e l = go (three 0 (a + 2 * b + 4 * c + 8 * d + 16 * i + 32 * j))
    where
      go : (0 < a + 2 * b + 4 * c + 8 * d + 16 * i + 32 * j)
          ⊎ ((0 ≡ a + 2 * b + 4 * c + 8 * d + 16 * i + 32 * j) ⊎ (a + 2 * b + 4 * c + 8 * d + 16 * i + 32 * j < 0))
          → paid s six_zeros qs ≤ paid s (a ∷ b ∷ c ∷ d ∷ i ∷ j ∷ []) qs
      go (inl n) =
          omega (
            arith,
            paid_high qs six_zeros s (sym l),
            ap (start p) (origin_six s 0 0 0 0 0 0 hs) ∙ start_zero,
            ap (λ (k : ℕ). 2 * p * k) l,
            paid_low qs (a ∷ b ∷ c ∷ d ∷ i ∷ j ∷ []) s (e ∙ sym l),
            ap (start p) (origin_six s a b c d i j hs) ∙ start_other _ n,
          )
      go (inr (inl z)) =
          let a0 : a ≡ 0 = omega arith in
          let b0 : b ≡ 0 = omega arith in
          let c0 : c ≡ 0 = omega arith in
          let d0 : d ≡ 0 = omega arith in
          let i0 : i ≡ 0 = omega arith in
          let j0 : j ≡ 0 = omega arith in
          rw (a0, b0, c0, d0, i0, j0) (omega arith)
      go (inr (inr n)) = absurd (omega arith)

  -- a better end makes a better way
  paid_end : (x : List ℕ) (qs : List Pair) (u : List ℕ) (s : ℕ) → s < 64 → Bits x → Bits u → length u ≡ 6 → length qs ≡ length x + 6
      → paid s (x ++ six_zeros) qs ≤ paid s (x ++ u) qs
  unfolding paid
  paid_end [] qs u s hs h hu e l = home qs u s hs hu e (omega arith)
  paid_end (k ∷ x) [] u s hs h hu e l = absurd (omega arith)
  paid_end (k ∷ x) (q ∷ qs) u s hs h hu e l = omega (arith, paid_end x qs u (s / 2 + 32 * k) (omega arith) h.1 hu e (omega arith))

  ends : (x u : List ℕ) (qs : List Pair) → survivor p qs 0 ≡ x ++ u → Bits x → Bits u → length u ≡ 6 → length qs ≡ length x + 6
      → survivor p qs 0 ≡ x ++ six_zeros
  ends x u qs cut hx hu e l =
      go (earliest qs (x ++ six_zeros) 0 (at_most_append 1 x six_zeros hx (at_most_zeros 1 6)) (omega (arith, length-append x six_zeros))
      (omega (arith, reached qs 0, ap (λ (y : List ℕ). paid 0 y qs) cut, paid_end x qs u 0 (omega arith) hx hu e l)))
    where
      go : (survivor p qs 0 ≡ x ++ six_zeros) ⊎ ZeroFirst (survivor p qs 0) (x ++ six_zeros) → survivor p qs 0 ≡ x ++ six_zeros
      go (inl r) = r
      go (inr r) = absurd (zero_first_zeros 6 u (zero_first_front x u six_zeros (rw cut at r)))

  pub survivor_end : (n : ℕ) (qs : List Pair) → length qs ≡ n + 6 → survivor p qs 0 ≡ take n (survivor p qs 0) ++ six_zeros
  survivor_end n qs l =
      let w : List ℕ = survivor p qs 0 in
      let e = survivor_length qs 0 in
      ends (take n w) (drop n w) qs (sym (take-append-drop n w)) (at_most_take 1 n w (survivor_bits qs 0)) (at_most_drop 1 n w (survivor_bits qs 0))
      (omega (arith, length-drop n w)) (omega (arith, length-take n w))
