-- The pair of subframes 1 and 2 (01, "The pair and the recording"), and which of them hold 003's idle pattern. Assumes nothing.
use Rattle.std.specs.Prelude.{Bool, false, ℕ, eqb, ltb, ℤ, pos, get_or, Float, Option, Some, None}
use Rattle.std.specs.Float.{fin}
use Rattle.bits.specs.Lists.{pick, both}
use Rattle.weektime.specs.Time.{towc_refused}
use Rattle.fields.specs.declared.Layout.{Layout}
use Rattle.fields.specs.declared.Layout.TheVariants as layout
use Rattle.fields.specs.Table.{row, scale, rows_of}
use Rattle.idle.specs.Idle.{pattern_of}
use Rattle.message.specs.declared.Subframe1.{Subframe1}
use Rattle.message.specs.declared.Subframe2.{Subframe2}
use Rattle.message.specs.declared.Record.{Record}
use Rattle.message.specs.declared.Record.TheVariants as case
use Rattle.message.specs.Numbers.{nothing}
use Rattle.message.specs.Records.{towc_in, subframe_of, record_fault, fault_of, to_body}
use Rattle.ephemeris.specs.declared.Ephemeris.{Ephemeris}
use Rattle.ephemeris.specs.Exactly.{exactly}

-- ---- the numbers
-- the exponent of the scale in the row k of a layout, from 0; the rows 0 to 5 are the head's
unfoldable pub scale_at : Layout → ℕ → ℤ
scale_at l k = scale (get_or (rows_of l) k (row 0 0 false (pos 0)))

-- a raw number of subframe 1 or 2 times the scale of its row
abbrev pub in_first : ℤ → ℕ → Float
in_first raw k = exactly raw (scale_at layout.Subframe1 k)

abbrev pub in_second : ℤ → ℕ → Float
in_second raw k = exactly raw (scale_at layout.Subframe2 k)

-- `every_field` of proofs/Laws: these are the fields from bit 31 to bit 260 of both subframes except the ten reserved bits, row 15
unfoldable pub ephemeris_of : Subframe1 → Subframe2 → Ephemeris
ephemeris_of a b =
    record {
      wn = in_first (pos a.wn.0) 6;
      af0 = in_first a.af0 7;
      af1 = in_first a.af1 8;
      af2 = in_first a.af2 9;
      ura = in_first (pos a.ura) 10;
      toc = in_first (pos a.toc) 11;
      tgd = in_first a.tgd 12;
      delta_n = in_first a.delta_n 13;
      iodec = in_first (pos a.iodec) 14;
      l5_flag = in_first (pos (pick a.l5_flag 1 0)) 16;
      s_flag = in_first (pos (pick a.s_flag 1 0)) 17;
      cuc = in_first a.cuc 18;
      cus = in_first a.cus 19;
      cic = in_first a.cic 20;
      cis = in_first a.cis 21;
      crc = in_first a.crc 22;
      crs = in_first a.crs 23;
      idot = in_first a.idot 24;
      m0 = in_second b.m0 6;
      toe = in_second (pos b.toe) 7;
      e = in_second (pos b.e) 8;
      root_a = in_second (pos b.root_a) 9;
      omega0 = in_second b.omega0 10;
      omega = in_second b.omega 11;
      omega_dot = in_second b.omega_dot 12;
      i0 = in_second b.i0 13;
    }

abbrev pub plus_zero : Float
plus_zero = fin false 0 (pos 0)

-- +0 throughout
unfoldable pub no_ephemeris : Ephemeris
no_ephemeris =
    record {
      wn = plus_zero;
      af0 = plus_zero;
      af1 = plus_zero;
      af2 = plus_zero;
      ura = plus_zero;
      toc = plus_zero;
      tgd = plus_zero;
      delta_n = plus_zero;
      iodec = plus_zero;
      l5_flag = plus_zero;
      s_flag = plus_zero;
      cuc = plus_zero;
      cus = plus_zero;
      cic = plus_zero;
      cis = plus_zero;
      crc = plus_zero;
      crs = plus_zero;
      idot = plus_zero;
      m0 = plus_zero;
      toe = plus_zero;
      e = plus_zero;
      root_a = plus_zero;
      omega0 = plus_zero;
      omega = plus_zero;
      omega_dot = plus_zero;
      i0 = plus_zero;
    }

-- ---- when two records are paired
-- a record alone, nothing beside it counted, has no fault of 7 or 8
unfoldable pub sound : Record → Bool
sound r = pick (towc_refused (towc_in r)) false (eqb (record_fault r nothing) 0)

-- two halves that are paired, or none
pub data Halves : Type 0 where
  halves : Subframe1 → Subframe2 → Halves
  none : Halves

-- toc equals toe, as raw numbers, and both records are sound
unfoldable pub fit : Subframe1 → Subframe2 → Bool
fit a b = both (eqb a.toc b.toe) (both (sound (case.Subframe1 a)) (sound (case.Subframe2 b)))

-- the condition: subframe 1, then subframe 2, that fit
abbrev pub with_second : Subframe1 → Record → Halves
with_second a (case.Subframe1 c) = none
with_second a (case.Subframe2 b) = pick (fit a b) (halves a b) none
with_second a (case.IonoGrid c) = none
with_second a (case.Almanac c) = none
with_second a (case.GpsTime c) = none
with_second a (case.EarthIono c) = none
with_second a (case.GnssTime c) = none
with_second a (case.Null c) = none
with_second a (case.Unread c) = none

abbrev pub paired? : Record → Record → Halves
paired? (case.Subframe1 a) second = with_second a second
paired? (case.Subframe2 c) second = none
paired? (case.IonoGrid c) second = none
paired? (case.Almanac c) second = none
paired? (case.GpsTime c) second = none
paired? (case.EarthIono c) second = none
paired? (case.GnssTime c) second = none
paired? (case.Null c) second = none
paired? (case.Unread c) second = none

abbrev pub answer : Halves → Option Ephemeris
answer (halves a b) = Some (ephemeris_of a b)
answer none = None

unfoldable pub pair_of : Record → Record → Option Ephemeris
pair_of first second = answer (paired? first second)

-- the paper's number, and the ephemeris beside it
abbrev pub paired_number : Option Ephemeris → ℕ
paired_number (Some n) = 0
paired_number None = 11

abbrev pub paired_ephemeris : Option Ephemeris → Ephemeris
paired_ephemeris (Some n) = n
paired_ephemeris None = no_ephemeris

-- ---- the idle pattern
-- whether a record of subframe 1 or 2, each field within its width, has the pattern of its row of 5.10.3 (crate idle) in its body.
-- `Idle` of Meaning says it plainly
unfoldable pub idle_in : Record → Bool
idle_in r = both (ltb (subframe_of r) 3) (both (eqb (fault_of r nothing) 0) (pattern_of (to_body r nothing)))
