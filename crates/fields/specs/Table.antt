-- The one table of fields (01, "The fields"; Tables 11, 12, 15 to 18, 21 and 22 of 003): a row a field, with its first bit, width, sign and
-- the exponent of its scale, a power of two. Each layout's rows lie one behind the other and cover bits 1 to 262. Assumes nothing.
use Rattle.std.specs.Prelude.{Bool, true, false, List, [], ◌∷◌, ◌++◌, ℕ, zero, suc, ℤ, pos, negsuc}
use Rattle.fields.specs.declared.Row.{Row}
use Rattle.fields.specs.declared.Layout.{Layout}
use Rattle.fields.specs.declared.Layout.TheVariants.{Subframe1, Subframe2, IonoGrid, Almanac, TimeOffsets, EarthIono, Data}

-- the exponent -n
abbrev pub minus : ℕ → ℤ
minus zero = pos 0
minus (suc n) = negsuc n

abbrev pub row : ℕ → ℕ → Bool → ℤ → Row
row first width signed scale = (first, width, signed, scale)

abbrev pub first : Row → ℕ
first r = r.0

abbrev pub width : Row → ℕ
width r = r.1

abbrev pub signed : Row → Bool
signed r = r.2

abbrev pub scale : Row → ℤ
scale r = r.3

-- bits 1 to 30 of every subframe
unfoldable pub head : List Row
head =
    row 1 8 false (pos 0) ∷  -- TLM
    row 9 17 false (pos 0) ∷  -- TOWC
    row 26 1 false (pos 0) ∷  -- alert
    row 27 1 false (pos 0) ∷  -- AutoNav
    row 28 2 false (pos 0) ∷  -- subframe ID
    row 30 1 false (pos 0) ∷  -- spare
    []

-- bits 31 to 36 and 257 to 262 of a message: its ID and the PRN
unfoldable pub message_id : Row
message_id = row 31 6 false (pos 0)

unfoldable pub prn : Row
prn = row 257 6 false (pos 0)

-- Table 11
unfoldable pub subframe1 : List Row
subframe1 =
    row 31 10 false (pos 0) ∷  -- WN
    row 41 22 true (minus 31) ∷  -- af0
    row 63 16 true (minus 43) ∷  -- af1
    row 79 8 true (minus 55) ∷  -- af2
    row 87 4 false (pos 0) ∷  -- URA
    row 91 16 false (pos 4) ∷  -- toc
    row 107 8 true (minus 31) ∷  -- TGD
    row 115 22 true (minus 41) ∷  -- delta n
    row 137 8 false (pos 0) ∷  -- IODEC
    row 145 10 false (pos 0) ∷  -- reserved
    row 155 1 false (pos 0) ∷  -- L5 flag
    row 156 1 false (pos 0) ∷  -- S flag
    row 157 15 true (minus 28) ∷  -- Cuc
    row 172 15 true (minus 28) ∷  -- Cus
    row 187 15 true (minus 28) ∷  -- Cic
    row 202 15 true (minus 28) ∷  -- Cis
    row 217 15 true (minus 4) ∷  -- Crc
    row 232 15 true (minus 4) ∷  -- Crs
    row 247 14 true (minus 43) ∷  -- IDOT
    row 261 2 false (pos 0) ∷  -- spare
    []

-- Table 12
unfoldable pub subframe2 : List Row
subframe2 =
    row 31 32 true (minus 31) ∷  -- M0
    row 63 16 false (pos 4) ∷  -- toe
    row 79 32 false (minus 33) ∷  -- e
    row 111 32 false (minus 19) ∷  -- root of A
    row 143 32 true (minus 31) ∷  -- OMEGA0
    row 175 32 true (minus 31) ∷  -- omega
    row 207 22 true (minus 41) ∷  -- OMEGA dot
    row 229 32 true (minus 31) ∷  -- i0
    row 261 2 false (pos 0) ∷  -- spare
    []

-- message type 5, Table 15: IODI in 246 to 248, spare from 249
unfoldable pub iono_grid : List Row
iono_grid =
    row 37 10 false (pos 0) ∷  -- regions masked
    row 47 4 false (pos 0) ∷  -- region ID
    row 51 4 false (pos 0) ∷  -- GIVEI 1
    row 55 9 false (minus 3) ∷  -- GIVD 1
    row 64 4 false (pos 0) ∷  -- GIVEI 2
    row 68 9 false (minus 3) ∷  -- GIVD 2
    row 77 4 false (pos 0) ∷  -- GIVEI 3
    row 81 9 false (minus 3) ∷  -- GIVD 3
    row 90 4 false (pos 0) ∷  -- GIVEI 4
    row 94 9 false (minus 3) ∷  -- GIVD 4
    row 103 4 false (pos 0) ∷  -- GIVEI 5
    row 107 9 false (minus 3) ∷  -- GIVD 5
    row 116 4 false (pos 0) ∷  -- GIVEI 6
    row 120 9 false (minus 3) ∷  -- GIVD 6
    row 129 4 false (pos 0) ∷  -- GIVEI 7
    row 133 9 false (minus 3) ∷  -- GIVD 7
    row 142 4 false (pos 0) ∷  -- GIVEI 8
    row 146 9 false (minus 3) ∷  -- GIVD 8
    row 155 4 false (pos 0) ∷  -- GIVEI 9
    row 159 9 false (minus 3) ∷  -- GIVD 9
    row 168 4 false (pos 0) ∷  -- GIVEI 10
    row 172 9 false (minus 3) ∷  -- GIVD 10
    row 181 4 false (pos 0) ∷  -- GIVEI 11
    row 185 9 false (minus 3) ∷  -- GIVD 11
    row 194 4 false (pos 0) ∷  -- GIVEI 12
    row 198 9 false (minus 3) ∷  -- GIVD 12
    row 207 4 false (pos 0) ∷  -- GIVEI 13
    row 211 9 false (minus 3) ∷  -- GIVD 13
    row 220 4 false (pos 0) ∷  -- GIVEI 14
    row 224 9 false (minus 3) ∷  -- GIVD 14
    row 233 4 false (pos 0) ∷  -- GIVEI 15
    row 237 9 false (minus 3) ∷  -- GIVD 15
    row 246 3 false (pos 0) ∷  -- IODI
    row 249 8 false (pos 0) ∷  -- spare
    []

-- message type 7, Table 16
unfoldable pub almanac : List Row
almanac =
    row 37 10 false (pos 0) ∷  -- WNa
    row 47 16 false (minus 21) ∷  -- e
    row 63 16 false (pos 4) ∷  -- toa
    row 79 24 true (minus 23) ∷  -- i0
    row 103 16 true (minus 38) ∷  -- OMEGA dot
    row 119 24 false (minus 11) ∷  -- root of A
    row 143 24 true (minus 23) ∷  -- OMEGA0
    row 167 24 true (minus 23) ∷  -- omega
    row 191 24 true (minus 23) ∷  -- M0
    row 215 11 true (minus 20) ∷  -- af0
    row 226 11 true (minus 38) ∷  -- af1
    row 237 6 false (pos 0) ∷  -- PRN of the almanac
    row 243 8 true (minus 31) ∷  -- inter-signal correction
    row 251 6 false (pos 0) ∷  -- spare
    []

-- message types 9 and 26, Tables 17 and 21, whose fields are the same
unfoldable pub time_offsets : List Row
time_offsets =
    row 37 16 true (minus 35) ∷  -- A0utc
    row 53 13 true (minus 51) ∷  -- A1utc
    row 66 7 true (minus 68) ∷  -- A2utc
    row 73 8 true (pos 0) ∷  -- delta tLS
    row 81 16 false (pos 4) ∷  -- toutc
    row 97 10 false (pos 0) ∷  -- WNoutc
    row 107 10 false (pos 0) ∷  -- WNLSF
    row 117 4 false (pos 0) ∷  -- DN
    row 121 8 true (pos 0) ∷  -- delta tLSF
    row 129 16 true (minus 35) ∷  -- A0
    row 145 13 true (minus 51) ∷  -- A1
    row 158 7 true (minus 68) ∷  -- A2
    row 165 16 false (pos 4) ∷  -- tot
    row 181 10 false (pos 0) ∷  -- WNot
    row 191 3 false (pos 0) ∷  -- GNSS ID
    row 194 63 false (pos 0) ∷  -- spare
    []

-- message type 11, Table 18
unfoldable pub earth_iono : List Row
earth_iono =
    row 37 16 false (pos 4) ∷  -- tEOP
    row 53 21 true (minus 20) ∷  -- PM X
    row 74 15 true (minus 21) ∷  -- PM X dot
    row 89 21 true (minus 20) ∷  -- PM Y
    row 110 15 true (minus 21) ∷  -- PM Y dot
    row 125 31 true (minus 24) ∷  -- delta UT1
    row 156 19 true (minus 25) ∷  -- delta UT1 dot
    row 175 8 true (minus 30) ∷  -- alpha0
    row 183 8 true (minus 27) ∷  -- alpha1
    row 191 8 true (minus 24) ∷  -- alpha2
    row 199 8 true (minus 24) ∷  -- alpha3
    row 207 8 true (pos 11) ∷  -- beta0
    row 215 8 true (pos 14) ∷  -- beta1
    row 223 8 true (pos 16) ∷  -- beta2
    row 231 8 true (pos 16) ∷  -- beta3
    row 239 18 false (pos 0) ∷  -- spare
    []

-- the 220 bits of a message, by the byte: 27 of 8 bits and one of 4
unfoldable pub data_bytes : List Row
data_bytes =
    row 37 8 false (pos 0) ∷
    row 45 8 false (pos 0) ∷
    row 53 8 false (pos 0) ∷
    row 61 8 false (pos 0) ∷
    row 69 8 false (pos 0) ∷
    row 77 8 false (pos 0) ∷
    row 85 8 false (pos 0) ∷
    row 93 8 false (pos 0) ∷
    row 101 8 false (pos 0) ∷
    row 109 8 false (pos 0) ∷
    row 117 8 false (pos 0) ∷
    row 125 8 false (pos 0) ∷
    row 133 8 false (pos 0) ∷
    row 141 8 false (pos 0) ∷
    row 149 8 false (pos 0) ∷
    row 157 8 false (pos 0) ∷
    row 165 8 false (pos 0) ∷
    row 173 8 false (pos 0) ∷
    row 181 8 false (pos 0) ∷
    row 189 8 false (pos 0) ∷
    row 197 8 false (pos 0) ∷
    row 205 8 false (pos 0) ∷
    row 213 8 false (pos 0) ∷
    row 221 8 false (pos 0) ∷
    row 229 8 false (pos 0) ∷
    row 237 8 false (pos 0) ∷
    row 245 8 false (pos 0) ∷
    row 253 4 false (pos 0) ∷
    []

abbrev pub message : List Row → List Row
message rows = head ++ (message_id ∷ (rows ++ (prn ∷ [])))

abbrev pub rows_of : Layout → List Row
rows_of Subframe1 = head ++ subframe1
rows_of Subframe2 = head ++ subframe2
rows_of IonoGrid = message iono_grid
rows_of Almanac = message almanac
rows_of TimeOffsets = message time_offsets
rows_of EarthIono = message earth_iono
rows_of Data = message data_bytes
