-- The layout of a body is that of its numbers: number 4 is the subframe ID in every layout, and number 6 the message ID in a message's.
-- Assumes nothing.
use mathlib.Core.Path.{◌≡◌, refl, ap, ◌∙◌}
use mathlib.Core.Bool.{Bool, true, false}
use mathlib.Core.List.{List, ◌++◌}
use Prim.Native.Nat.{ℕ}
use lib.Dec.{eqb}
use lib.IntN.{ℤ}
use Rattle.bits.specs.Lists.{pick, part}
use Rattle.bits.specs.Numbers.{number}
use Rattle.fields.specs.declared.Layout.{Layout}
use Rattle.fields.specs.declared.Layout.TheVariants as layout
use Rattle.fields.specs.declared.Row.{Row}
use Rattle.fields.specs.Table as table
use Rattle.fields.specs.Table.{head, message, rows_of}
use Rattle.fields.specs.Table.{iono_grid, almanac, time_offsets, earth_iono, data_bytes}
use Rattle.fields.specs.Fields.{value_at, values}
use Rattle.message.specs.Numbers.{unsigned}
use Rattle.message.specs.Records.{layout_by, message_layout, subframe_id, message_id}

-- ---- what all layouts share, and all messages
after_head : (l : Layout) → (rs : List Row) × (rows_of l ≡ head ++ rs)
after_head layout.Subframe1 = (_, refl)
after_head layout.Subframe2 = (_, refl)
after_head layout.IonoGrid = (_, refl)
after_head layout.Almanac = (_, refl)
after_head layout.TimeOffsets = (_, refl)
after_head layout.EarthIono = (_, refl)
after_head layout.Data = (_, refl)

after_id : (m : ℕ) → (rs : List Row) × (rows_of (message_layout m) ≡ message rs)
after_id m = go (eqb m 5) (eqb m 7) (eqb m 9) (eqb m 11) (eqb m 26)
  where
    go : (a b c d e : Bool)
        → (rs : List Row) × (rows_of (pick a layout.IonoGrid (pick b layout.Almanac (pick c layout.TimeOffsets (pick d layout.EarthIono (pick e layout.TimeOffsets layout.Data))))) ≡ message rs)
    go true b c d e = (iono_grid, refl)
    go false true c d e = (almanac, refl)
    go false false true d e = (time_offsets, refl)
    go false false false true e = (earth_iono, refl)
    go false false false false true = (time_offsets, refl)
    go false false false false false = (data_bytes, refl)

-- the message ID counts from subframe 3 on
layout_by_lem : (s m k : ℕ) → (eqb s 0 ≡ false → eqb s 1 ≡ false → m ≡ k) → layout_by s m ≡ layout_by s k
unfolding layout_by
layout_by_lem s m k f = go (eqb s 0) (eqb s 1) f
  where
    go : (a b : Bool) → (a ≡ false → b ≡ false → m ≡ k)
        → pick a layout.Subframe1 (pick b layout.Subframe2 (message_layout m)) ≡ pick a layout.Subframe1 (pick b layout.Subframe2 (message_layout k))
    go true b g = refl
    go false true g = refl
    go false false g = ap message_layout (g refl refl)

-- ---- numbers 1, 4 and 6 of a body, whatever stands behind its numbers
module _ (body : List ℕ) (rest : List ℤ) where
  pub time_number : (l : Layout) → unsigned (values (rows_of l) body ++ rest) 1 ≡ number (part body 8 17)
  unfolding value_at head
  time_number l = ap (λ (rs : List Row). unsigned (values rs body ++ rest) 1) (after_head l).1

  pub frame_number : (l : Layout) → unsigned (values (rows_of l) body ++ rest) 4 ≡ subframe_id body
  unfolding value_at head
  frame_number l = ap (λ (rs : List Row). unsigned (values rs body ++ rest) 4) (after_head l).1

  pub message_number : (s m : ℕ) → eqb s 0 ≡ false → eqb s 1 ≡ false → unsigned (values (rows_of (layout_by s m)) body ++ rest) 6 ≡ message_id body
  unfolding value_at head table.message_id layout_by
  message_number s m n0 n1 = rw (n0, n1) (ap (λ (rs : List Row). unsigned (values rs body ++ rest) 6) (after_id m).1)

  -- the numbers of a body name its own layout
  pub laid : (s m : ℕ) → s ≡ subframe_id body
      → let zs = values (rows_of (layout_by s m)) body ++ rest in layout_by (unsigned zs 4) (unsigned zs 6) ≡ layout_by (subframe_id body) (message_id body)
  laid s m e =
      let zs = values (rows_of (layout_by s m)) body ++ rest in
      ap (λ (k : ℕ). layout_by k (unsigned zs 6)) (frame_number (layout_by s m))
      ∙ layout_by_lem (subframe_id body) (unsigned zs 6) (message_id body)
      (λ n0 n1. message_number s m (ap (λ (k : ℕ). eqb k 0) e ∙ n0) (ap (λ (k : ℕ). eqb k 1) e ∙ n1))
