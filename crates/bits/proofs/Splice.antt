-- What stands in a list after a part of it was replaced. Assumes nothing.
use mathlib.Core.Path.{◌≡◌, sym, ap, ◌∙◌}
use mathlib.Core.List.{List, ◌++◌, append_assoc}
use Prim.Native.Nat.{ℕ, ◌+◌, ◌≤◌}
use native.Mathlib.Omega.{arith}
use lib.ListN.{length, take, drop, length-append, length-drop}
use lib.Seq.{take_at, length-take-le}
use Rattle.bits.specs.Lists.{splice}

module _ (l x : List ℕ) (i : ℕ) (h : i + length x ≤ length l) where
  pub splice_take : take (i + length x) (splice l i x) ≡ take i l ++ x
  unfolding splice
  splice_take =
      let e : length (take i l ++ x) ≡ i + length x = length-append (take i l) x ∙ ap (λ (n : ℕ). n + length x) (length-take-le i l (omega arith)) in
      ap (take (i + length x)) (sym (append_assoc (take i l) x (drop (i + length x) l)))
      ∙ take_at (take i l ++ x) (drop (i + length x) l) (i + length x) e

  pub splice_long : length (splice l i x) ≡ length l
  unfolding splice
  splice_long =
      length-append (take i l) (x ++ drop (i + length x) l)
      ∙ omega (arith, length-take-le i l (omega arith), length-append x (drop (i + length x) l), length-drop (i + length x) l)
