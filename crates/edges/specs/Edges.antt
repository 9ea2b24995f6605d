-- The values at the edges (01, "Values at the edges", marked P), as one list: what the definitions give, and what the document prints. Each row is
-- a list of integers. Assumes nothing.
use Rattle.std.specs.Prelude.{List, [], ◌∷◌, ◌++◌, map, ℕ, zero, suc, true, false, Float, ℤ, pos, negsuc, get_or, replicate}
use Rattle.std.specs.Float.{nan, inf, fin}
use Rattle.convolution.specs.Code.{coded_form}
use Rattle.crc24q.specs.Check.{check_of}
use Rattle.ephemeris.specs.Exactly.{exactly}
use Rattle.fields.specs.declared.Layout.TheVariants.{Subframe1}
use Rattle.fields.specs.declared.Row.{Row}
use Rattle.fields.specs.Table.{row, width, signed, scale, rows_of}
use Rattle.fields.specs.Fields.{value_of}
use Rattle.framing.specs.Interleaver.{place}
use Rattle.weektime.specs.Time.{began_of, began_number, began_second}

-- n zeros, and then the tail
abbrev pub lone : ℕ → List ℕ → List ℕ
lone n tail = replicate n 0 ++ tail

-- a number as its significand with its sign, and its exponent; nothing for -0, which no such pair tells from +0, and for what is no number
abbrev pub parts : Float → List ℤ
parts nan = []
parts (inf s) = []
parts (fin false m e) = pos m ∷ e ∷ []
parts (fin true zero e) = []
parts (fin true (suc m) e) = negsuc m ∷ e ∷ []

-- the table's row of af0
abbrev pub af0 : Row
af0 = get_or (rows_of Subframe1) 7 (row 0 0 false (pos 0))

-- the number that a pattern of af0's bits is
abbrev pub in_af0 : ℕ → ℤ
in_af0 pattern = value_of (signed af0) (width af0) pattern

-- the second at which a subframe began, and the refusal
abbrev pub second : ℕ → ℤ
second towc = pos (began_second (began_of (record { 0 = towc })))

abbrev pub refusal : ℕ → ℤ
refusal towc = pos (began_number (began_of (record { 0 = towc })))

unfoldable pub given : List (List ℤ)
given =
    map pos (coded_form (1 ∷ [])) ∷
    map (λ body. pos (check_of body)) (replicate 262 0 ∷ lone 261 (1 ∷ []) ∷ lone 260 (1 ∷ 0 ∷ []) ∷ []) ∷
    map (λ i. pos (place i)) (0 ∷ 1 ∷ 7 ∷ 8 ∷ 583 ∷ []) ∷
    map second (1 ∷ 24843 ∷ 50400 ∷ 0 ∷ 50401 ∷ []) ∷
    map refusal (1 ∷ 24843 ∷ 50400 ∷ 0 ∷ 50401 ∷ []) ∷
    map in_af0 (0x200000 ∷ 0x1FFFFF ∷ 0x3FFFFF ∷ []) ∷
    parts (exactly (in_af0 0x3FFFFF) (scale af0)) ∷
    []

unfoldable pub printed : List (List ℤ)
printed =
    map pos (1 ∷ 1 ∷ 1 ∷ 0 ∷ 1 ∷ 1 ∷ 1 ∷ 1 ∷ 0 ∷ 0 ∷ 0 ∷ 1 ∷ 1 ∷ 1 ∷ []) ∷
    map pos (0 ∷ 0x864CFB ∷ 0x8AD50D ∷ []) ∷
    map pos (0 ∷ 73 ∷ 511 ∷ 1 ∷ 583 ∷ []) ∷
    map pos (0 ∷ 298104 ∷ 604788 ∷ 0 ∷ 0 ∷ []) ∷
    map pos (0 ∷ 0 ∷ 0 ∷ 7 ∷ 7 ∷ []) ∷
    (negsuc 2097151 ∷ pos 2097151 ∷ negsuc 0 ∷ []) ∷
    (negsuc 0 ∷ negsuc 30 ∷ []) ∷
    []
