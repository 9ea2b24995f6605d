-- The interleaver's grid, eight rows of seventy-three symbols: filled in the order of its rows or of its columns, and emptied in the other.
-- Nobody has to believe anything of this file: the interleaver is Interleaver.antt's. Assumes nothing.
use Rattle.std.specs.Prelude.{◌≡◌, List, [], ℕ, ◌+◌, ◌*◌, ◌/◌, ◌%◌, ◌<◌, length, get_or}
use Rattle.bits.specs.Lists.{at, build}

-- the symbol in row r and column c
abbrev pub cell : List (List ℕ) → ℕ → ℕ → ℕ
cell g r c = at (get_or g r []) c

-- the number of the cell in row r and column c, counted row by row, and column by column
abbrev pub rowwise : ℕ → ℕ → ℕ
rowwise r c = r * 73 + c

abbrev pub columnwise : ℕ → ℕ → ℕ
columnwise r c = c * 8 + r

-- the cells with a number below n hold what stands at their number in l
pub record Filled (order : ℕ → ℕ → ℕ) (l : List ℕ) (g : List (List ℕ)) (n : ℕ) : Type 0 where
  pub rows : length g ≡ 8
  pub columns : (r : ℕ) → r < 8 → length (get_or g r []) ≡ 73
  pub holds : (r c : ℕ) → r < 8 → c < 73 → order r c < n → cell g r c ≡ at l (order r c)

-- what the grid holds, row by row, and column by column
unfoldable pub by_rows : List (List ℕ) → List ℕ
by_rows g = build 584 (λ k. cell g (k / 73) (k % 73))

unfoldable pub by_columns : List (List ℕ) → List ℕ
by_columns g = build 584 (λ i. cell g (i % 8) (i / 8))
