-- How the code carries a field's number: as a pattern of 64 bits, of a negative number its two's complement.
-- Of public calls only this crate's, `Entry::numbers` and `Entry::fault` of crate message and, by `numbers_after`, `navic_read` of crate navic_c cite it; `packed_body`, `pattern_fault_lem` (Held) and
-- `seen` (crate navic_c) tie it to the numbers, of which every other contract speaks. Assumes nothing.
use Rattle.std.specs.Prelude.{Bool, true, false, Option, None, Some, List, [], ◌∷◌, ◌++◌, map, ℕ, ◌-◌, ◌^◌, eqb, ltb, leb, ℤ, pos, length, get_or, drop, replicate}
use Rattle.std.specs.Int.{w64}
use Rattle.std.proofs.Common.{of_z}
use Rattle.bits.specs.Lists.{pick}
use Rattle.bits.specs.Numbers.{bits_of}
use Rattle.fields.specs.declared.Row.{Row}
use Rattle.fields.specs.Table.{row, first, width, signed}

-- ---- rows
-- a row of no bits
abbrev pub no_row : Row
no_row = row 0 0 false (pos 0)

-- ---- numbers
abbrev pub pattern : ℤ → ℕ
pattern z = of_z w64 z

-- the patterns of a layout's numbers, and 0 up to 42
unfoldable pub patterns : List ℤ → List ℕ
patterns zs = map pattern zs ++ replicate (42 - length zs) 0

-- the patterns' lowest bits, one field behind the other
unfoldable pub packed : List Row → List ℕ → List ℕ
packed [] ns = []
packed (r ∷ rs) ns = bits_of (width r) (get_or ns 0 0) ++ packed rs (drop 1 ns)

-- whether the field holds the number of the pattern n
abbrev pub in_signed : ℕ → ℕ → Bool
in_signed w n = pick (ltb n (2 ^ (w - 1))) true (leb (2 ^ 64 - 2 ^ (w - 1)) n)

unfoldable pub fits : Row → ℕ → Bool
fits r n = pick (signed r) (in_signed (width r) n) (ltb n (2 ^ width r))

-- the first bit of the first row that does not hold its pattern's number, and 0 where all do
unfoldable pub pattern_fault : List Row → List ℕ → ℕ
pattern_fault [] ns = 0
pattern_fault (r ∷ rs) ns = pick (fits r (get_or ns 0 0)) (pattern_fault rs (drop 1 ns)) (first r)

-- no fault, or its first bit
abbrev pub unless_0 : ℕ → Option ℕ
unless_0 n = pick (eqb n 0) None (Some n)
