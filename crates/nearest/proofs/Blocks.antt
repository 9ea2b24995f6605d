-- From one block to the next: what the first metric is above 12 p is taken off all, and kept in the base.
-- Assumes nothing.
use mathlib.Core.Path.{◌≡◌, refl, ◌∙◌}
use mathlib.Core.Logic.{◌⊎◌, inl, inr}
use mathlib.Core.List.{List, ◌∷◌}
use Prim.Native.Nat.{ℕ, zero, suc, ◌+◌, ◌-◌, ◌*◌, ◌<◌, ◌≤◌}
use native.Mathlib.Nat.{mul-le-mul_left, mul-le-mul}
use native.Mathlib.Omega.{arith}
use borrow.Author.Tests.{ne_eqb}
use lib.ListN.{length, set, replicate, get_or-replicate}
use Rattle.bits.specs.Lists.{at}
use Rattle.convolution.specs.Trellis.{start, metric, pairs}
use Rattle.nearest.specs.Steps.{Fits, Marked, Held, Under, Passed}
use Rattle.nearest.proofs.Spread.{spread, metric_low}

pub record Blocks (p : ℕ) (l m : List ℕ) (marks : List (List ℕ)) (base t : ℕ) : Type 0 where
  pub upto : t ≤ 292
  pub six : (t ≡ 0) ⊎ (6 ≤ t)
  pub long : length marks ≡ 292
  pub held : Held p l t m base
  pub marked : Marked p l t marks

first_metrics : (p n s : ℕ) → s < suc n → at (0 ∷ replicate n (12 * p)) s + 0 ≡ start p s
unfolding start
first_metrics p n zero h = refl
first_metrics p n (suc s) h =
    let z : at (replicate n (12 * p)) s + 0 ≡ 12 * p = omega (arith, get_or-replicate {A = ℕ} n s (12 * p) 0 (omega arith)) in
    z ∙ rw (ne_eqb (suc s) 0 (λ e. omega arith))

pub blocks_first : {p : ℕ} {l : List ℕ} {marks : List (List ℕ)} → length marks ≡ 292 → Blocks p l (set (replicate 64 (12 * p)) 0 0) marks 0 0
unfolding metric pairs
blocks_first {p} e =
    record {
      upto = omega arith;
      six = inl refl;
      long = e;
      held = record { each = λ s h. first_metrics p 63 s h };
      marked = record { each = λ t s lt h. absurd (omega arith) };
    }

module _ {p : ℕ} {l m : List ℕ} {marks : List (List ℕ)} {base t : ℕ} (b : Blocks p l m marks base t) where
  -- any two bytes are at most 12 p apart
  near : (s r : ℕ) → s < 64 → r < 64 → at m s ≤ at m r + 12 * p
  near s r hs hr = omega (arith, b.held.each s hs, b.held.each r hr, spread p l t s r b.six hs hr)

  pub low : (s : ℕ) → s < 64 → at m 0 - 12 * p ≤ at m s
  low s h = omega (arith, near 0 s (omega arith) h)

  pub small : p ≤ 7 → base + at m 0 ≤ 4088
  small h = omega (arith, b.held.each 0 (omega arith), metric_low p l t, mul-le-mul h b.upto)

  module _ {d : ℕ} {lowered : List ℕ} (e : d ≡ at m 0 - 12 * p) (each : (s : ℕ) → s < 64 → at lowered s ≡ at m s - d) where
    pub under : Under lowered (24 * p)
    under = record { each = λ s h. omega (arith, each s h, near s 0 h (omega arith)) }

    held_low : Held p l t lowered (base + d)
    held_low = record { each = λ s h. omega (arith, each s h, low s h, b.held.each s h) }

    -- behind n steps more, where what was taken off is in the base
    pub blocks_more : (n : ℕ) {u base' : ℕ} {m' : List ℕ} {marks' : List (List ℕ)} → t + n ≡ u → u ≤ 292 → 6 ≤ u → base' ≡ base + d
        → length marks' ≡ 292 → Passed p l t (t + n) lowered m' marks' → Blocks p l m' marks' base' u
    blocks_more n {u} {base'} {m'} {marks'} there upto six more long w =
        let b : Blocks p l m' marks' (base + d) (t + n) = record {
          upto = omega arith;
          six = inr (omega arith);
          long = long;
          held = w.held (base + d) held_low;
          marked = w.marked (base + d) held_low;
        } in
        rw more (rw there at b)

-- a shorter block fits too
pub shorter : (p n len : ℕ) → Fits p len → n ≤ len → 24 * p + 2 * p * n ≤ 255
shorter p n len f h = omega (arith, f.byte, mul-le-mul_left (2 * p) h)
