-- A part of a list: its length, and what stands at its places.
-- Assumes nothing.
use mathlib.Core.Path.{◌≡◌, ◌∙◌}
use mathlib.Core.List.{List}
use Prim.Native.Nat.{ℕ, ◌+◌, ◌≤◌, ◌<◌}
use native.Mathlib.Omega.{arith}
use lib.ListN.{length, drop, length-take, length-drop}
use lib.Seq.{get_or-take, get_or-drop}
use Rattle.bits.specs.Lists.{at, part}

pub part_long : (l : List ℕ) (i n : ℕ) → i + n ≤ length l → length (part l i n) ≡ n
part_long l i n h = simp (length-take, length-drop) (omega arith)

pub part_short : (l : List ℕ) (i n : ℕ) → 0 < n → length l < i + n → length (part l i n) < n
part_short l i n z h = simp (length-take, length-drop) (omega arith)

pub part_at : (l : List ℕ) (i n k : ℕ) → k < n → at (part l i n) k ≡ at l (i + k)
part_at l i n k h = get_or-take n (drop i l) k 0 h ∙ get_or-drop i l k 0
