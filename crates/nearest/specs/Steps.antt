-- What the decoder's inner functions say of their arrays, over the trellis of the crate convolution. Nobody has to believe anything of this file.
-- Assumes nothing.
use Rattle.std.specs.Prelude.{◌≡◌, List, [], ℕ, suc, ◌+◌, ◌*◌, ◌/◌, ◌%◌, ◌≤◌, ◌<◌, ltb, get_or, replicate}
use Rattle.bits.proofs.Fill.{Put}
use Rattle.bits.specs.Lists.{at, pick}
use Rattle.convolution.specs.Trellis.{toll, metric, mark, pairs}

-- 1 where the second of two sums is the lesser; of equals the first is taken
abbrev pub second_less : ℕ → ℕ → ℕ
second_less a b = pick (ltb b a) 1 0

-- a top price of at most 7, and as many steps as metrics of a byte can go without being lowered
pub record Fits (p steps : ℕ) : Type 0 where
  pub price : p ≤ 7
  pub six : 6 ≤ steps
  pub byte : 24 * p + 2 * p * steps ≤ 255

-- the tolls of the even registers at the levels q / 8 and q % 8
abbrev pub even_toll : ℕ → ℕ → ℕ → ℕ
even_toll p q j = toll p (q / 8, q % 8) (2 * j)

-- the rows of tolls below n, 32 to a row, where the second level is at most p
pub record Tolls (p n : ℕ) (table : List ℕ) : Type 0 where
  pub each : (q j : ℕ) → q < n → q % 8 ≤ p → j < 32 → at table (32 * q + j) ≡ even_toll p q j

-- what f gives at the even places below 2 n, and at the odd ones, each in a list of 32
pub record Halves (f : ℕ → ℕ) (n : ℕ) (even odd : List ℕ) : Type 0 where
  pub evens : Put (λ (j : ℕ). f (2 * j)) 0 n (replicate 32 0) even
  pub odds : Put (λ (j : ℕ). f (2 * j + 1)) 0 n (replicate 32 0) odd

-- what f gives for each of the 64 states
pub record Each (f : ℕ → ℕ) (l : List ℕ) : Type 0 where
  pub each : (s : ℕ) → s < 64 → at l s ≡ f s

-- the mark of the state s after t + 1 steps: each step has a row of marks
abbrev pub mark_at : List (List ℕ) → ℕ → ℕ → ℕ
mark_at marks t s = at (get_or marks t []) s

-- the marks of the first n steps
pub record Marked (p : ℕ) (l : List ℕ) (n : ℕ) (marks : List (List ℕ)) : Type 0 where
  pub each : (t s : ℕ) → t < n → s < 64 → mark_at marks t s ≡ mark p (pairs l (suc t)) s

-- the bytes m and what was taken off them are the metrics after t steps
pub record Held (p : ℕ) (l : List ℕ) (t : ℕ) (m : List ℕ) (base : ℕ) : Type 0 where
  pub each : (s : ℕ) → s < 64 → at m s + base ≡ metric p (pairs l t) s

pub record Under (m : List ℕ) (n : ℕ) : Type 0 where
  pub each : (s : ℕ) → s < 64 → at m s ≤ n

-- from the metrics `first` after `start` steps to those after t steps
pub record Passed (p : ℕ) (l : List ℕ) (start t : ℕ) (first m : List ℕ) (marks : List (List ℕ)) : Type 0 where
  pub held : (base : ℕ) → Held p l start first base → Held p l t m base
  pub marked : (base : ℕ) → Held p l start first base → Marked p l t marks
