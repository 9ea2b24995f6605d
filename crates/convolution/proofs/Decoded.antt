-- The decoder's word is the nearest: its way through the trellis is the survivor of the state 0, which no way undercuts, and which of the
-- cheapest is the first. Assumes nothing.
use mathlib.Core.Path.{◌≡◌, refl, sym, ap, ◌∙◌}
use mathlib.Core.Logic.{◌⊎◌, inl, inr}
use mathlib.Core.List.{List, ◌++◌, reverse, reverse-reverse}
use Prim.Native.Nat.{ℕ, zero, suc, ◌+◌, ◌*◌, ◌<◌}
use native.Mathlib.Nat.{eq-or-lt_of_le}
use native.Mathlib.Omega.{arith}
use lib.ListN.{length, take, length-take, length-append, length-reverse}
use lib.Seq.{take_at}
use Rattle.bits.proofs.Lists.{at_most_append, at_most_take, at_most_reverse, at_most_zeros}
use Rattle.bits.specs.Lists.{Bits}
use Rattle.convolution.specs.Code.{six_zeros, cost, ZeroFirst, Better, Nearest}
use Rattle.convolution.specs.Trellis.{Pair, metric, survivor, pairs, decode}
use Rattle.convolution.proofs.InOrder.{cost_paid}
use Rattle.convolution.proofs.Order.{zero_first_behind}
use Rattle.convolution.proofs.Survivor.{paid, least, reached, earliest, survivor_bits, survivor_length, survivor_end}

pub pairs_length : (l : List ℕ) (n : ℕ) → length (pairs l n) ≡ n
unfolding pairs
pairs_length l zero = refl
pairs_length l (suc n) = ap suc (pairs_length l n)

module _ (p n : ℕ) (l : List ℕ) (size : length l ≡ 2 * (n + 6)) where
  qs : List Pair
  qs = pairs l (n + 6)

  -- the word, latest first
  x : List ℕ
  unfolding qs
  x = take n (survivor p qs 0)

  long : length x ≡ n
  unfolding x qs
  long = omega (arith, length-take n (survivor p qs 0), survivor_length p qs 0, pairs_length l (n + 6))

  ends : survivor p qs 0 ≡ x ++ six_zeros
  unfolding x qs
  ends = survivor_end p n qs (pairs_length l (n + 6))

  bits : Bits x
  unfolding x
  bits = at_most_take 1 n (survivor p qs 0) (survivor_bits p qs 0)

  own : cost p l (reverse x) ≡ metric p qs 0
  unfolding qs
  own =
      rw (cost_paid p n l (reverse x) (at_most_reverse 1 x bits) (omega (arith, length-reverse x, long)) size, reverse-reverse x, ← ends)
      (sym (reached p qs 0))

  -- another word, latest first: it costs more; or the same, and x has the zero where they first part
  module _ (v : List ℕ) (h : Bits v) (e : length v ≡ n) (other : v ≡ reverse x → ⊥) where
    way : List ℕ
    way = reverse v ++ six_zeros

    way_bits : Bits way
    unfolding way
    way_bits = at_most_append 1 (reverse v) six_zeros (at_most_reverse 1 v h) (at_most_zeros 1 6)

    way_long : length way ≡ length qs
    unfolding way qs
    way_long = omega (arith, length-append (reverse v) six_zeros, length-reverse v, pairs_length l (n + 6))

    way_cost : cost p l v ≡ paid p 0 way qs
    unfolding way qs
    way_cost = cost_paid p n l v h e size

    same_way : survivor p qs 0 ≡ way → v ≡ reverse x
    unfolding way
    same_way r =
        sym (reverse-reverse v)
        ∙ ap reverse (sym (take_at (reverse v) six_zeros n (length-reverse v ∙ e)) ∙ ap (take n) (sym r ∙ ends) ∙ take_at x six_zeros n long)

    zero_first : (survivor p qs 0 ≡ way) ⊎ ZeroFirst (survivor p qs 0) way → ZeroFirst x (reverse v)
    unfolding way
    zero_first (inl r) = absurd (other (same_way r))
    zero_first (inr r) = zero_first_behind x (reverse v) six_zeros (omega (arith, long, length-reverse v)) (rw ends at r)

    behind : (cost p l (reverse x) < cost p l v) ⊎ ((cost p l (reverse x) ≡ cost p l v) × ZeroFirst x (reverse v))
    behind = go (eq-or-lt_of_le (least p qs way 0 way_bits way_long))
      where
        go : (metric p qs 0 ≡ paid p 0 way qs) ⊎ (metric p qs 0 < paid p 0 way qs)
            → (cost p l (reverse x) < cost p l v) ⊎ ((cost p l (reverse x) ≡ cost p l v) × ZeroFirst x (reverse v))
        go (inr r) = inl (omega (arith, own, way_cost))
        go (inl r) = inr (own ∙ r ∙ sym way_cost, zero_first (earliest p qs way 0 way_bits way_long (omega arith)))

  pub nearest_decode : Nearest p n l (decode p n l)
  unfolding decode x qs
  nearest_decode = record { bits = at_most_reverse 1 x bits; long = length-reverse x ∙ long; best = best }
    where
      best : (v : List ℕ) → Bits v → length v ≡ n → (v ≡ reverse x → ⊥) → Better p l (reverse x) v
      best v h e other = go (behind v h e other)
        where
          go : (cost p l (reverse x) < cost p l v) ⊎ ((cost p l (reverse x) ≡ cost p l v) × ZeroFirst x (reverse v)) → Better p l (reverse x) v
          go (inl less) = inl less
          go (inr tie) = inr (tie.0, rw (reverse-reverse x) tie.1)

  pub decode_cost : cost p l (decode p n l) ≡ metric p (pairs l (n + 6)) 0
  unfolding decode x qs
  decode_cost = own
