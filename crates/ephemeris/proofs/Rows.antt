-- The table's scales: each is near enough, by one test that antt computes. Assumes nothing.
use mathlib.Core.Path.{◌≡◌}
use mathlib.Core.Bool.{Bool}
use mathlib.Core.List.{List}
use Prim.Native.Nat.{ℕ, ◌<◌}
use lib.Dec.{T, leb, ltb, leb→le, ltb→lt}
use lib.IntN.{ℤ, pos, negsuc, nat_abs}
use native.Mathlib.Omega.{arith}
use lib.ListN.{length, get_or}
use Rattle.bits.proofs.Test.{every, every_at}
use Rattle.fields.specs.declared.Layout.{Layout}
use Rattle.fields.specs.declared.Layout.TheVariants.{Subframe1, Subframe2, IonoGrid, Almanac, TimeOffsets, EarthIono, Data}
use Rattle.fields.specs.declared.Row.{Row}
use Rattle.fields.specs.Patterns.{no_row}
use Rattle.fields.specs.Table.{rows_of, head, message_id, prn, subframe1, subframe2, iono_grid, almanac, time_offsets, earth_iono, data_bytes}
use Rattle.ephemeris.specs.Pairing.{scale_at}
use Rattle.ephemeris.specs.Scales.{Near}

abbrev pub near? : ℤ → Bool
near? e = leb (nat_abs e) 900

pub near_of : (e : ℤ) → T (near? e) → Near e
near_of e t = leb→le (nat_abs e) 900 t

-- the same without 900 itself, as the table's scales are
abbrev pub Nearer : ℤ → Type 0
Nearer (pos k) = k < 900
Nearer (negsuc k) = k < 900

abbrev pub nearer? : ℤ → Bool
nearer? (pos k) = ltb k 900
nearer? (negsuc k) = ltb k 900

pub nearer_of : (e : ℤ) → T (nearer? e) → Nearer e
nearer_of (pos k) t = ltb→lt k 900 t
nearer_of (negsuc k) t = ltb→lt k 900 t

nearer_near : (e : ℤ) → Nearer e → Near e
nearer_near (pos k) h = omega arith
nearer_near (negsuc k) h = omega arith

all_nearer : (l : Layout) → T (every (λ k. nearer? (scale_at l k)) (length (rows_of l)))
unfolding scale_at head message_id prn subframe1 subframe2 iono_grid almanac time_offsets earth_iono data_bytes
all_nearer Subframe1 = tt
all_nearer Subframe2 = tt
all_nearer IonoGrid = tt
all_nearer Almanac = tt
all_nearer TimeOffsets = tt
all_nearer EarthIono = tt
all_nearer Data = tt

pub scales_nearer : (l : Layout) (k : ℕ) → k < length (rows_of l) → Nearer (scale_at l k)
scales_nearer l k h = nearer_of (scale_at l k) (every_at (λ k. nearer? (scale_at l k)) (length (rows_of l)) (all_nearer l) k h)

pub scales_near : (l : Layout) (rows : List Row) → rows ≡ rows_of l → (k : ℕ) → k < length rows → Near (get_or rows k no_row).3
unfolding scale_at
scales_near l rows e k h = rw e (nearer_near (scale_at l k) (scales_nearer l k (rw e at h)))
