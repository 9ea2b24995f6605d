-- Reading and writing the fields of a body by the table's rows. Assumes nothing.
use Rattle.std.specs.Prelude.{Bool, false, List, [], ◌∷◌, ◌++◌, map, ℕ, ◌-◌, ◌^◌, ltb, ℤ, pos, negsuc, get_or, drop}
use Rattle.std.specs.Int.Signed.{mag}
use Rattle.bits.specs.Lists.{pick, part}
use Rattle.bits.specs.Numbers.{number, bits_of}
use Rattle.fields.specs.declared.Row.{Row}
use Rattle.fields.specs.Table.{first, width, signed}

-- ---- reading
-- n, the number that w bits spell, by two's complement: negative where the field's own first bit is 1
unfoldable pub twos : ℕ → ℕ → ℤ
twos w n = pick (ltb n (2 ^ (w - 1))) (pos n) (negsuc (2 ^ w - 1 - n))

abbrev pub value_of : Bool → ℕ → ℕ → ℤ
value_of signed w n = pick signed (twos w n) (pos n)

-- the number of a field
unfoldable pub value_at : List ℕ → Row → ℤ
value_at body r = value_of (signed r) (width r) (number (part body (first r - 1) (width r)))

-- the numbers of all fields, in the table's order
abbrev pub values : List Row → List ℕ → List ℤ
values rs body = map (value_at body) rs

-- ---- writing
-- z modulo 2 ^ w in w bits: of a negative number, its two's complement
unfoldable pub field_bits : ℕ → ℤ → List ℕ
field_bits w (pos n) = bits_of w n
field_bits w (negsuc n) = map (λ b. 1 - b) (bits_of w n)

-- the fields one behind the other
unfoldable pub body_of : List Row → List ℤ → List ℕ
body_of [] zs = []
body_of (r ∷ rs) zs = field_bits (width r) (get_or zs 0 (pos 0)) ++ body_of rs (drop 1 zs)

-- ---- the range check
abbrev pub in_unsigned : ℕ → ℤ → Bool
in_unsigned w (pos n) = ltb n (2 ^ w)
in_unsigned w (negsuc n) = false

-- whether the field holds z: a signed one of w bits from -2 ^ (w - 1) to 2 ^ (w - 1) - 1 (`mag` of n and of -(n + 1) is n), another from 0 to 2 ^ w - 1
unfoldable pub holds : Row → ℤ → Bool
holds r z = pick (signed r) (ltb (mag z) (2 ^ (width r - 1))) (in_unsigned (width r) z)

-- the first bit of the first row that does not hold its number, and 0 where all do; rows lie in order, so it is the lowest such field
-- (`fault_first` of proofs/Faults)
unfoldable pub fault_in : List Row → List ℤ → ℕ
fault_in [] zs = 0
fault_in (r ∷ rs) zs = pick (holds r (get_or zs 0 (pos 0))) (fault_in rs (drop 1 zs)) (first r)
