-- The coded forms of two different words of one length are at least ten symbols apart. The code is linear, so it is enough that the sum of the two, which
-- is not all zeros, has ten ones; and that follows by a potential, the least number of ones sent on the way from the first 1 to each state.
-- Assumes nothing.
use mathlib.Core.Path.{◌≡◌, refl, sym, ap, ◌∙◌}
use mathlib.Core.Logic.{◌⊎◌, inl, inr}
use mathlib.Core.Bool.{Bool}
use mathlib.Core.List.{List, [], ◌∷◌, ◌++◌, reverse, reverse_aux, reverse_aux-append, reverse_aux-reverse_aux-nil}
use Prim.Native.Nat.{ℕ, zero, suc, ◌+◌, ◌*◌, ◌/◌, ◌%◌, ◌≤◌, ◌<◌}
use native.Mathlib.Omega.{arith}
use lib.Dec.{T, leb, leb→le}
use lib.ListN.{length, drop, length-append, length-reverse_aux}
use Rattle.bits.proofs.Lists.{at_most_onto, at_most_zeros}
use Rattle.bits.proofs.Test.{bit_cases, every, every_at, two_bits}
use Rattle.bits.specs.Lists.{at, Bits, unlike, differences}
use Rattle.convolution.specs.Code.{ago, six_zeros, g1, g2, encode, coded_form}
use Rattle.convolution.specs.Trellis.{out1, out2}
use Rattle.convolution.proofs.Register.{after, after_lt, zeros_bits, after_zeros, g1_out, g2_out}

-- ---- the weight of a list of bits, latest first
table : List ℕ
table = 10 ∷ 2 ∷ 3 ∷ 3 ∷ 5 ∷ 3 ∷ 4 ∷ 4 ∷ 7 ∷ 5 ∷ 4 ∷ 4 ∷ 4 ∷ 6 ∷ 5 ∷ 5 ∷ 7 ∷ 5 ∷ 6 ∷ 6 ∷ 4 ∷ 4 ∷ 5 ∷ 5 ∷ 6 ∷ 4 ∷ 7 ∷ 7 ∷ 5 ∷ 7 ∷ 6 ∷ 6 ∷ 8 ∷ 8 ∷ 7 ∷ 5 ∷ 7 ∷ 7 ∷ 6 ∷ 4 ∷ 5 ∷ 5 ∷ 4 ∷ 6 ∷ 6 ∷ 6 ∷ 7 ∷ 5 ∷ 7 ∷ 7 ∷ 6 ∷ 4 ∷ 8 ∷ 8 ∷ 7 ∷ 7 ∷ 6 ∷ 6 ∷ 7 ∷ 7 ∷ 7 ∷ 7 ∷ 6 ∷ 6 ∷ []

potential : ℕ → ℕ
unfolding table
potential s = at table s

rises : ℕ → Bool
rises r = leb (potential (r % 64)) (potential (r / 2) + (out1 r + out2 r))

rises_test : T (every rises 128)
unfolding rises potential out1 out2
rises_test = tt

unfoldable weight : List ℕ → ℕ
weight [] = 0
weight (b ∷ x) = weight x + (g1 (b ∷ x) + g2 (b ∷ x))

Zeros : List ℕ → Type 0
Zeros [] = Unit {0}
Zeros (b ∷ x) = (b ≡ 0) × Zeros x

zeros_after : (x : List ℕ) → Zeros x → after x ≡ 0
unfolding after Zeros
zeros_after [] z = refl
zeros_after (b ∷ x) z = omega (arith, zeros_after x z.1)

-- the first 1 sends two ones, and the sum of every step covers the rise of the potential
first_one : (x : List ℕ) (b : ℕ) → Bits x → b ≡ 1 → after x ≡ 0 → potential (after (b ∷ x)) ≤ weight (b ∷ x)
unfolding after weight potential out1 out2
first_one x b h e z =
    let f : g1 (b ∷ x) ≡ 1 = sym (g1_out b x (omega arith) h) ∙ rw (e, z) in
    let g : g2 (b ∷ x) ≡ 1 = sym (g2_out b x (omega arith) h) ∙ rw (e, z) in
    rw (f, g, e, z) (omega arith)

next_one : (x : List ℕ) (b : ℕ) → Bits x → b ≤ 1 → potential (after x) ≤ weight x → potential (after (b ∷ x)) ≤ weight (b ∷ x)
unfolding after weight rises
next_one x b h hb le =
    let r : ℕ = 2 * after x + b in
    let l : after x < 64 = after_lt x in
    let d : (2 * after x + b) / 2 ≡ after x = omega arith in
    omega (
      arith,
      g1_out b x hb h,
      g2_out b x hb h,
      rw d at (leb→le (potential (r % 64)) (potential (r / 2) + (out1 r + out2 r)) (every_at rises 128 rises_test r (omega arith))),
    )

heavy : (x : List ℕ) → Bits x → Zeros x ⊎ (potential (after x) ≤ weight x)
unfolding Zeros
heavy [] h = inl tt
heavy (b ∷ x) h = go (heavy x h.1) (bit_cases b h.0)
  where
    go : Zeros x ⊎ (potential (after x) ≤ weight x) → (b ≡ 0) ⊎ (b ≡ 1) → Zeros (b ∷ x) ⊎ (potential (after (b ∷ x)) ≤ weight (b ∷ x))
    go (inl z) (inl e) = inl (e, z)
    go (inl z) (inr e) = inr (first_one x b h.1 e (zeros_after x z))
    go (inr l) c = inr (next_one x b h.1 h.0 l)

-- ---- the sum of two lists, bit by bit
unfoldable xor : List ℕ → List ℕ → List ℕ
xor [] y = []
xor (b ∷ x) [] = []
xor (b ∷ x) (c ∷ y) = (b + c) % 2 ∷ xor x y

xor_bits : (x y : List ℕ) → Bits (xor x y)
unfolding xor
xor_bits [] y = tt
xor_bits (b ∷ x) [] = tt
xor_bits (b ∷ x) (c ∷ y) = (omega arith, xor_bits x y)

xor_at : (x y : List ℕ) → length x ≡ length y → (k : ℕ) → ago (xor x y) k ≡ (ago x k + ago y k) % 2
unfolding xor
xor_at [] [] e k = refl
xor_at [] (c ∷ y) e k = absurd (omega arith)
xor_at (b ∷ x) [] e k = absurd (omega arith)
xor_at (b ∷ x) (c ∷ y) e zero = refl
xor_at (b ∷ x) (c ∷ y) e (suc k) = xor_at x y (omega arith) k

xor_same : (x y : List ℕ) → Bits x → Bits y → length x ≡ length y → Zeros (xor x y) → x ≡ y
unfolding xor Zeros
xor_same [] [] hx hy e z = refl
xor_same [] (c ∷ y) hx hy e z = absurd (omega arith)
xor_same (b ∷ x) [] hx hy e z = absurd (omega arith)
xor_same (b ∷ x) (c ∷ y) hx hy e z =
    let q : b ≡ c = omega arith in
    rw (q, xor_same x y hx.1 hy.1 (omega arith) z.1)

-- ---- the distance is the weight of the sum
differ_bits : (a b : ℕ) → a ≤ 1 → b ≤ 1 → unlike a b ≡ (a + b) % 2
differ_bits = two_bits (λ a b. unlike a b ≡ (a + b) % 2) refl refl refl refl

differ_mod : (u v : ℕ) → unlike (u % 2) (v % 2) ≡ (u + v) % 2
differ_mod u v = differ_bits (u % 2) (v % 2) (omega arith) (omega arith) ∙ omega arith

more : (s p q a b : ℕ) → s % 2 ≡ (p + q) % 2 → (s + (a + b) % 2) % 2 ≡ (p + a + (q + b)) % 2
more s p q a b h = omega arith

linear : (a b c d e a' b' c' d' e' : ℕ)
    → ((a + a') % 2 + (b + b') % 2 + (c + c') % 2 + (d + d') % 2 + (e + e') % 2) % 2 ≡ unlike ((a + b + c + d + e) % 2) ((a' + b' + c' + d' + e') % 2)
linear a b c d e a' b' c' d' e' =
    more _ (a + b + c + d) (a' + b' + c' + d') e e'
    (more _ (a + b + c) (a' + b' + c') d d' (more _ (a + b) (a' + b') c c' (more _ a a' b b' (omega arith))))
    ∙ sym (differ_mod (a + b + c + d + e) (a' + b' + c' + d' + e'))

module _ (x y : List ℕ) (e : length x ≡ length y) where
  g1_linear : g1 (xor x y) ≡ unlike (g1 x) (g1 y)
  unfolding g1
  g1_linear =
      rw (xor_at x y e 0, xor_at x y e 1, xor_at x y e 2, xor_at x y e 3, xor_at x y e 6)
      (linear (ago x 0) (ago x 1) (ago x 2) (ago x 3) (ago x 6) (ago y 0) (ago y 1) (ago y 2) (ago y 3) (ago y 6))

  g2_linear : g2 (xor x y) ≡ unlike (g2 x) (g2 y)
  unfolding g2
  g2_linear =
      rw (xor_at x y e 0, xor_at x y e 2, xor_at x y e 3, xor_at x y e 5, xor_at x y e 6)
      (linear (ago x 0) (ago x 2) (ago x 3) (ago x 5) (ago x 6) (ago y 0) (ago y 2) (ago y 3) (ago y 5) (ago y 6))

weighed : (w v x y : List ℕ) → length w ≡ length v → length x ≡ length y
    → differences (encode x w) (encode y v) + weight (xor x y) ≡ weight (xor (reverse_aux w x) (reverse_aux v y))
unfolding encode differences weight xor
weighed [] [] x y e f = omega arith
weighed [] (c ∷ v) x y e f = absurd (omega arith)
weighed (b ∷ w) [] x y e f = absurd (omega arith)
weighed (b ∷ w) (c ∷ v) x y e f =
    omega (
      arith,
      weighed w v (b ∷ x) (c ∷ y) (omega arith) (omega arith),
      g1_linear (b ∷ x) (c ∷ y) (omega arith),
      g2_linear (b ∷ x) (c ∷ y) (omega arith),
    )

-- ---- the theorem
back : (w : List ℕ) → drop 6 (reverse (reverse_aux w six_zeros)) ≡ w
back w = ap (drop 6) (reverse_aux-reverse_aux-nil w six_zeros)

potential_home : potential 0 ≡ 10
unfolding potential
potential_home = refl

none : weight (xor six_zeros six_zeros) ≡ 0
unfolding weight xor g1 g2
none = refl

pub distance : (w v : List ℕ) → Bits w → Bits v → length w ≡ length v → (w ≡ v → ⊥) → 10 ≤ differences (coded_form w) (coded_form v)
unfolding coded_form xor
distance w v hw hv e other = go (heavy (xor x y) (xor_bits x y))
  where
    x : List ℕ
    x = 0 ∷ 0 ∷ 0 ∷ 0 ∷ 0 ∷ 0 ∷ reverse_aux w six_zeros

    y : List ℕ
    y = 0 ∷ 0 ∷ 0 ∷ 0 ∷ 0 ∷ 0 ∷ reverse_aux v six_zeros

    sum : differences (encode six_zeros (w ++ six_zeros)) (encode six_zeros (v ++ six_zeros)) + weight (xor six_zeros six_zeros) ≡ weight (xor x y)
    sum =
        rw (reverse_aux-append w six_zeros six_zeros, reverse_aux-append v six_zeros six_zeros) at
        (weighed (w ++ six_zeros) (v ++ six_zeros) six_zeros six_zeros (omega (arith, length-append w six_zeros, length-append v six_zeros)) refl)

    long : length x ≡ length y
    long = omega (arith, length-reverse_aux w six_zeros, length-reverse_aux v six_zeros)

    go : Zeros (xor x y) ⊎ (potential (after (xor x y)) ≤ weight (xor x y))
        → 10 ≤ differences (encode six_zeros (w ++ six_zeros)) (encode six_zeros (v ++ six_zeros))
    go (inl z) =
        let b : Bits six_zeros = at_most_zeros 1 6 in
        let bx : Bits x = zeros_bits (reverse_aux w six_zeros) (at_most_onto 1 w six_zeros hw b) in
        let by : Bits y = zeros_bits (reverse_aux v six_zeros) (at_most_onto 1 v six_zeros hv b) in
        absurd (other (sym (back w) ∙ ap (λ (z : List ℕ). drop 6 (reverse (drop 6 z))) (xor_same x y bx by long z) ∙ back v))
    go (inr l) =
        let r : List ℕ = xor (reverse_aux w six_zeros) (reverse_aux v six_zeros) in
        omega (arith, sum, none, ap potential (after_zeros r (xor_bits (reverse_aux w six_zeros) (reverse_aux v six_zeros))) ∙ potential_home)
