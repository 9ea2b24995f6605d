-- A list that a loop fills from a place on.
-- Assumes nothing.
use mathlib.Core.Path.{◌≡◌, refl, ◌∙◌}
use mathlib.Core.List.{List}
use Prim.Native.Nat.{ℕ, ◌+◌, ◌*◌, ◌≤◌, ◌<◌}
use native.Mathlib.Omega.{arith}
use borrow.Author.Count.{below_more}
use lib.ListN.{length, set, length-set}
use lib.Seq.{get_or-set_same, get_or-set_other}
use Rattle.bits.specs.Lists.{at, build}
use Rattle.bits.proofs.Build.{built}

-- `new` is `old` with the n values of f put in from `base` on; what stands behind them is not said
pub record Put (f : ℕ → ℕ) (base n : ℕ) (old new : List ℕ) : Type 0 where
  pub long : length new ≡ length old
  pub here : (k i : ℕ) → k < n → i ≡ base + k → at new i ≡ f k
  pub before : (i : ℕ) → i < base → at new i ≡ at old i

pub put_none : (f : ℕ → ℕ) (base : ℕ) (l : List ℕ) → Put f base 0 l l
put_none f base l = record { long = refl; here = λ k i h e. absurd (omega arith); before = λ i h. refl }

pub put_more : (f : ℕ → ℕ) (base n i a : ℕ) (old new : List ℕ) → i ≡ base + n → i < length old → a ≡ f n → Put f base n old new
    → Put f base (n + 1) old (set new i a)
put_more f base n i a old new e l q w =
    record {
      long = length-set new i a ∙ w.long;
      here =
          λ k j h g.
          below_more (λ (k : ℕ). (j : ℕ) → j ≡ base + k → at (set new i a) j ≡ f k) n
          (λ k lt j g. get_or-set_other new i j a 0 (λ z. omega arith) ∙ w.here k j lt g)
          (λ j g. let z : j ≡ i = omega arith in rw z (get_or-set_same new i a 0 (omega (arith, w.long)) ∙ q))
          k h j g;
      before = λ j h. get_or-set_other new i j a 0 (λ z. omega arith) ∙ w.before j h;
    }

pub put_two : (f : ℕ → ℕ) (j a b : ℕ) (old new : List ℕ) → 2 * j + 1 < length old → a ≡ f (2 * j) → b ≡ f (2 * j + 1) → Put f 0 (2 * j) old new
    → Put f 0 (2 * (j + 1)) old (set (set new (2 * j) a) (2 * j + 1) b)
put_two f j a b old new h p q w =
    let e : 2 * (j + 1) ≡ 2 * j + 1 + 1 = omega arith in
    rw e
    (put_more f 0 (2 * j + 1) (2 * j + 1) b old (set new (2 * j) a) (omega arith) h q
    (put_more f 0 (2 * j) (2 * j) a old new (omega arith) (omega arith) p w))

-- the whole list, filled from its start
pub put_all : (f : ℕ → ℕ) (n i : ℕ) (old new : List ℕ) → length old ≡ n → n ≤ i → Put f 0 i old new → new ≡ build n f
put_all f n i old new e h w = built n f new (w.long ∙ e) (λ k l. w.here k k (omega arith) (omega arith))
