-- The table's rules, each shown for every row by one test that antt computes: the rows of a layout lie one behind the other from bit 1 to
-- bit 262, and each has a width that a number of the code holds. Assumes nothing.
use mathlib.Core.Bool.{Bool, true, false, ◌&&◌, ◌||◌}
use mathlib.Core.Logic.{◌⊎◌, ⊎_elim, inl, inr}
use mathlib.Core.Path.{◌≡◌, sym, ◌∙◌}
use mathlib.Core.List.{List, [], ◌∷◌}
use Prim.Native.Nat.{ℕ, zero, suc, ◌+◌, ◌-◌, ◌≤◌, ◌<◌}
use native.Mathlib.Nat.{add_assoc, add-zero}
use native.Mathlib.Omega.{arith}
use lib.Dec.{T, eqb, leb, leb→le, eqb→eq}
use lib.ListN.{length, get_or, take}
use mir.Facts.{and_yes, or_yes}
use Rattle.fields.specs.declared.Row.{Row}
use Rattle.fields.specs.declared.Layout.{Layout}
use Rattle.fields.specs.declared.Layout.TheVariants.{Subframe1, Subframe2, IonoGrid, Almanac, TimeOffsets, EarthIono, Data}
use Rattle.fields.specs.Patterns.{no_row}
use Rattle.fields.specs.Table.{first, width, signed, rows_of, head, message_id, prn, subframe1, subframe2, iono_grid, almanac, time_offsets, earth_iono, data_bytes}

-- a signed field has at most 32 bits, and another at most 32 or 63
abbrev pub Narrow : Bool → ℕ → Type 0
Narrow true w = w ≤ 32
Narrow false w = (w ≡ 63) ⊎ (w ≤ 32)

-- a row whose field is the next one behind `at` bits
pub record Next (at : ℕ) (r : Row) : Type 0 where
  pub place : first r ≡ at + 1
  pub wide : 0 < width r
  pub most : width r ≤ 63
  pub narrow : Narrow (signed r) (width r)

-- the rows lie one behind the other behind `at` bits, and the last ends at bit 262
abbrev pub Tiles : ℕ → List Row → Type 0
Tiles at [] = at ≡ 262
Tiles at (r ∷ rs) = Next at r × Tiles (at + width r) rs

-- ---- the test
abbrev narrow? : Bool → ℕ → Bool
narrow? true w = leb w 32
narrow? false w = eqb w 63 || leb w 32

abbrev next? : ℕ → Row → Bool
next? at r = eqb (first r) (at + 1) && (leb 1 (width r) && (leb (width r) 63 && narrow? (signed r) (width r)))

abbrev tiles? : ℕ → List Row → Bool
tiles? at [] = eqb at 262
tiles? at (r ∷ rs) = next? at r && tiles? (at + width r) rs

narrow_of : (s : Bool) (w : ℕ) → T (narrow? s w) → Narrow s w
narrow_of true w t = leb→le w 32 t
narrow_of false w t = ⊎_elim (λ e. inl (eqb→eq w 63 e)) (λ l. inr (leb→le w 32 l)) (or_yes (eqb w 63) (leb w 32) t)

next_of : (at : ℕ) (r : Row) → T (next? at r) → Next at r
next_of at r t =
    let a = and_yes (eqb (first r) (at + 1)) (leb 1 (width r) && (leb (width r) 63 && narrow? (signed r) (width r))) t in
    let b = and_yes (leb 1 (width r)) (leb (width r) 63 && narrow? (signed r) (width r)) a.1 in
    let d = and_yes (leb (width r) 63) (narrow? (signed r) (width r)) b.1 in
    record {
      place = eqb→eq (first r) (at + 1) a.0;
      wide = leb→le 1 (width r) b.0;
      most = leb→le (width r) 63 d.0;
      narrow = narrow_of (signed r) (width r) d.1;
    }

tiles_of : (at : ℕ) (rs : List Row) → T (tiles? at rs) → Tiles at rs
tiles_of at [] t = eqb→eq at 262 t
tiles_of at (r ∷ rs) t =
    let a = and_yes (next? at r) (tiles? (at + width r) rs) t in
    (next_of at r a.0, tiles_of (at + width r) rs a.1)

pub tiled : (l : Layout) → Tiles 0 (rows_of l)
unfolding head message_id prn subframe1 subframe2 iono_grid almanac time_offsets earth_iono data_bytes
tiled Subframe1 = tiles_of 0 (rows_of Subframe1) tt
tiled Subframe2 = tiles_of 0 (rows_of Subframe2) tt
tiled IonoGrid = tiles_of 0 (rows_of IonoGrid) tt
tiled Almanac = tiles_of 0 (rows_of Almanac) tt
tiled TimeOffsets = tiles_of 0 (rows_of TimeOffsets) tt
tiled EarthIono = tiles_of 0 (rows_of EarthIono) tt
tiled Data = tiles_of 0 (rows_of Data) tt

pub few : (l : Layout) → length (rows_of l) ≤ 42
unfolding head message_id prn subframe1 subframe2 iono_grid almanac time_offsets earth_iono data_bytes
few Subframe1 = leb→le 26 42 tt
few Subframe2 = leb→le 15 42 tt
few IonoGrid = leb→le 42 42 tt
few Almanac = leb→le 22 42 tt
few TimeOffsets = leb→le 24 42 tt
few EarthIono = leb→le 24 42 tt
few Data = leb→le 36 42 tt

-- ---- what follows for a row
-- the bits that rows take
unfoldable pub total : List Row → ℕ
total [] = 0
total (r ∷ rs) = width r + total rs

pub tiles_end : (at : ℕ) (rs : List Row) → Tiles at rs → at + total rs ≡ 262
unfolding total
tiles_end at [] t = omega arith
tiles_end at (r ∷ rs) t = sym (add_assoc at (width r) (total rs)) ∙ tiles_end (at + width r) rs t.1

pub tile_at : (at : ℕ) (rs : List Row) (i : ℕ) → Tiles at rs → i < length rs → Next (at + total (take i rs)) (get_or rs i no_row)
unfolding total
tile_at at [] i t h = absurd (omega arith)
tile_at at (r ∷ rs) zero t h = rw (add-zero at) t.0
tile_at at (r ∷ rs) (suc i) t h = rw (sym (add_assoc at (width r) (total (take i rs)))) (tile_at (at + width r) rs i t.1 (omega arith))

pub total_next : (rs : List Row) (i : ℕ) → i < length rs → total (take (suc i) rs) ≡ total (take i rs) + width (get_or rs i no_row)
unfolding total
total_next [] i h = absurd (omega arith)
total_next (r ∷ rs) zero h = omega arith
total_next (r ∷ rs) (suc i) h = omega (arith, total_next rs i (omega arith))

pub total_most : (rs : List Row) (i : ℕ) → total (take i rs) ≤ total rs
unfolding total
total_most [] zero = omega arith
total_most [] (suc i) = omega arith
total_most (r ∷ rs) zero = omega arith
total_most (r ∷ rs) (suc i) = omega (arith, total_most rs i)

-- a field lies within the 262 bits
pub inside : (rs : List Row) (i : ℕ) → Tiles 0 rs → i < length rs → first (get_or rs i no_row) - 1 + width (get_or rs i no_row) ≤ 262
inside rs i t h =
    let n = tile_at 0 rs i t h in
    omega (arith, n.place, tiles_end 0 rs t, total_next rs i h, total_most rs (suc i))
