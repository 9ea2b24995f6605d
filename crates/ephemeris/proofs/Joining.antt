-- A number of a half: the raw number times the scale in the table's row. Assumes nothing.
use mathlib.Core.Path.{◌≡◌, refl, ap, ◌∙◌}
use mathlib.Core.Bool.{Bool, true, false}
use mathlib.Core.List.{List}
use Prim.Native.Nat.{ℕ, ◌<◌, ◌^◌}
use native.Mathlib.Nat.{lt_of_lt_of_le}
use lib.Dec.{lit≤, lit<}
use lib.IntN.{ℤ, pos, nat_abs}
use lib.ListN.{get_or}
use lib.Ieee.{Float, binary64, of_int}
use mir.Syntax.{w32}
use mir.Val.{to_z, of_z, bool_byte, SFits}
use mir.ValLaws.{to_z-of_z}
use Rattle.bits.specs.Lists.{pick}
use Rattle.fields.specs.declared.Layout.{Layout}
use Rattle.fields.specs.declared.Row.{Row}
use Rattle.fields.specs.Patterns.{no_row}
use Rattle.fields.specs.Table.{rows_of}
use Rattle.ephemeris.specs.Exactly.{exactly}
use Rattle.ephemeris.specs.Pairing.{scale_at}
use Rattle.ephemeris.specs.Scales.{Scaled}
use Rattle.ephemeris.proofs.Scaling.{narrow}

-- the place k among rows that are a layout's
module _ (l : Layout) {rows : List Row} (known : rows ≡ rows_of l) (k : ℕ) where
  -- a raw number that is the whole number z
  number_in : (z : ℤ) → nat_abs z < 2 ^ 53 → {y : Float} {r : Float} → y ≡ of_int binary64 z → Scaled (λ x. x ≡ y) (get_or rows k no_row).3 r
      → r ≡ exactly z (scale_at l k)
  unfolding scale_at
  number_in z small told s = s.exact z small (λ x e. e ∙ told) ∙ ap (λ (rows : List Row). exactly z (get_or rows k no_row).3) known

  pub whole_in : (n : ℕ) → n < 2 ^ 32 → {r : Float} → Scaled (λ x. x ≡ of_int binary64 (pos n)) (get_or rows k no_row).3 r → r ≡ exactly (pos n) (scale_at l k)
  whole_in n small = number_in (pos n) (lt_of_lt_of_le small (lit≤ tt)) refl

  -- a signed number goes to its call as bits, and is itself again, since it fits
  pub signed_in : (z : ℤ) → SFits w32 z → {r : Float} → Scaled (λ x. x ≡ of_int binary64 (to_z w32 (of_z w32 z))) (get_or rows k no_row).3 r → r ≡ exactly z (scale_at l k)
  signed_in z fits = number_in z (narrow z fits) (ap (of_int binary64) (to_z-of_z w32 z fits))

  -- a flag is 1 or 0
  pub flag_in : (b : Bool) → {r : Float} → Scaled (λ x. x ≡ of_int binary64 (pos (bool_byte b))) (get_or rows k no_row).3 r → r ≡ exactly (pos (pick b 1 0)) (scale_at l k)
  flag_in true = number_in (pos 1) (lit< tt) refl
  flag_in false = number_in (pos 0) (lit< tt) refl
