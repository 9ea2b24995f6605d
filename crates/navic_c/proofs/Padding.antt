-- Numbers with zeros behind them: a list is the front of it with zeros where the rest is zeros, and a layout looks at its own numbers only.
-- Assumes nothing.
use mathlib.Core.Path.{◌≡◌, refl, sym, ap, ap₂, ◌∙◌}
use mathlib.Core.Bool.{true}
use mathlib.Core.List.{List, [], ◌∷◌, ◌++◌}
use Prim.Native.Nat.{ℕ, zero, suc, ◌-◌, ◌≤◌}
use native.Mathlib.Omega.{arith}
use borrow.Author.Tests.{eqb-true}
use lib.Dec.{eqb}
use lib.IntN.{ℤ, pos, negsuc}
use lib.ListN.{length, take, drop, replicate, length-append, length-replicate, length-drop, take-append-drop}
use lib.Seq.{length-take-le, drop_at}
use Rattle.bits.specs.Lists.{pick}
use Rattle.bits.proofs.Both.{both_holds}
use Rattle.ephemeris.proofs.Alone.{same}
use Rattle.fields.specs.declared.Layout.{Layout}
use Rattle.fields.specs.declared.Row.{Row}
use Rattle.fields.specs.Table.{first, width, rows_of}
use Rattle.fields.specs.Fields.{field_bits, body_of, holds, fault_in}
use Rattle.fields.proofs.Rules.{few}
use Rattle.navic_c.specs.Numbers.{padded, layout_in, body_from, is_zero, all_zero, fault_from}

-- ---- zeros
pub zeros_zero : (n : ℕ) → all_zero (replicate n (pos 0)) ≡ true
unfolding all_zero
zeros_zero zero = refl
zeros_zero (suc n) = zeros_zero n

is_zero_lem : (z : ℤ) → is_zero z ≡ true → z ≡ pos 0
is_zero_lem (pos n) e = ap pos (eqb-true n 0 e)
is_zero_lem (negsuc n) e = absurd (let z : ◌≡◌ {A = ℕ} 0 1 = (cc) in omega arith)

pub zeros_only : (zs : List ℤ) → all_zero zs ≡ true → zs ≡ replicate (length zs) (pos 0)
unfolding all_zero
zeros_only [] e = refl
zeros_only (z ∷ zs) e = let p = both_holds (is_zero z) (all_zero zs) e in ap₂ ◌∷◌ (is_zero_lem z p.0) (zeros_only zs p.1)

-- ---- zeros up to n numbers
pub padded_long : (n : ℕ) (zs : List ℤ) → length zs ≤ n → length (zs ++ replicate (n - length zs) (pos 0)) ≡ n
padded_long n zs h =
    omega (arith, length-append zs (replicate (n - length zs) (pos 0)), length-replicate {A = ℤ} (n - length zs) (pos 0))

-- n numbers, zeros from the place k on, are their first k and zeros
pub padded_again : (n k : ℕ) (zs : List ℤ) → length zs ≡ n → k ≤ n → all_zero (drop k zs) ≡ true
    → take k zs ++ replicate (n - length (take k zs)) (pos 0) ≡ zs
padded_again n k zs e h z =
    let t : length (take k zs) ≡ k = length-take-le k zs (omega arith) in
    let d : n - length (take k zs) ≡ length (drop k zs) = omega (arith, length-drop k zs) in
    ap (λ (m : ℕ). take k zs ++ replicate m (pos 0)) d
    ∙ ap (λ (l : List ℤ). take k zs ++ l) (sym (zeros_only (drop k zs) z))
    ∙ take-append-drop k zs

-- ---- what stands behind a layout's own numbers does not count
pub body_ahead : (rs : List Row) (zs rest : List ℤ) → length zs ≡ length rs → body_of rs (zs ++ rest) ≡ body_of rs zs
unfolding body_of
body_ahead [] zs rest e = refl
body_ahead (r ∷ rs) [] rest e = absurd (omega arith)
body_ahead (r ∷ rs) (z ∷ zs) rest e = ap (λ (l : List ℕ). field_bits (width r) z ++ l) (body_ahead rs zs rest (omega arith))

pub fault_ahead : (rs : List Row) (zs rest : List ℤ) → length zs ≡ length rs → fault_in rs (zs ++ rest) ≡ fault_in rs zs
unfolding fault_in
fault_ahead [] zs rest e = refl
fault_ahead (r ∷ rs) [] rest e = absurd (omega arith)
fault_ahead (r ∷ rs) (z ∷ zs) rest e = ap (λ (n : ℕ). pick (holds r z) n (first r)) (fault_ahead rs zs rest (omega arith))

-- ---- numbers of the layout that they name, one to a row, with zeros behind them
module _ (l : Layout) (zs : List ℤ) (named : layout_in (padded zs) ≡ l) (long : length zs ≡ length (rows_of l)) where
  pub padded_42 : length (padded zs) ≡ 42
  padded_42 = padded_long 42 zs (omega (arith, few l))

  pub padded_body : body_from (padded zs) ≡ body_of (rows_of l) zs
  unfolding body_from
  padded_body = ap (λ (l : Layout). body_of (rows_of l) (padded zs)) named ∙ body_ahead (rows_of l) zs (replicate (42 - length zs) (pos 0)) long

  -- the zeros behind them are no fault
  pub padded_fault : fault_from (padded zs) ≡ fault_in (rows_of l) zs
  unfolding fault_from
  padded_fault =
      let rest = replicate (42 - length zs) (pos 0) in
      let f : fault_in (rows_of l) (padded zs) ≡ fault_in (rows_of l) zs = fault_ahead (rows_of l) zs rest long in
      let z : all_zero (drop (length (rows_of l)) (padded zs)) ≡ true = ap all_zero (drop_at zs rest (length (rows_of l)) long) ∙ zeros_zero (42 - length zs) in
      ap (λ (l : Layout). pick (eqb (fault_in (rows_of l) (padded zs)) 0) (pick (all_zero (drop (length (rows_of l)) (padded zs))) 0 293) (fault_in (rows_of l) (padded zs))) named
      ∙ rw (f, z) (same (fault_in (rows_of l) zs))
