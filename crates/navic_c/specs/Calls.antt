-- What the calls for C answer. Assumes nothing.
use Rattle.std.specs.Prelude.{Bool, List, ◌++◌, map, ℕ, ◌+◌, ◌^◌, ◌<◌, ◌≡◌, eqb, leb, ltb, ℤ, length, drop, Option, Some, None, Result, Ok, Err}
use Rattle.std.specs.Int.{w64}
use Rattle.std.proofs.Common.{to_z}
use Rattle.bits.specs.Lists.{at, pick, both, at_most}
use Rattle.convolution.specs.Code.{cost}
use Rattle.convolution.specs.Trellis.{decode}
use Rattle.ephemeris.specs.declared.Ephemeris.{Ephemeris}
use Rattle.ephemeris.specs.Pairing.{pair_of, paired_number, paired_ephemeris, idle_in}
use Rattle.fields.specs.Fields.{fault_in}
use Rattle.fields.specs.Patterns.{pattern, patterns}
use Rattle.link.specs.Link.{receive_of, word_in}
use Rattle.message.specs.declared.Record.{Record}
use Rattle.message.specs.Numbers.{unsigned}
use Rattle.message.specs.Records.{from_body, numbers_of}
use Rattle.navic.specs.declared.Numbers.{Numbers}
use Rattle.navic.specs.declared.Reading as navic
use Rattle.navic.specs.declared.ReadRefusal.{ReadRefusal}
use Rattle.navic.specs.declared.WriteRefusal.{WriteRefusal}
use Rattle.demands.specs.Family.{Reading, done, refused, number_of, reading_of, writing_of, after_reading}
use Rattle.navic.specs.Navic.{quality, line_from, written_number, written_beside}
use Rattle.weektime.specs.Time.{began_of, count_of, began_number, began_second, counted_number, counted_count}
use Rattle.recording.specs.Walk as Walk
use Rattle.recording.specs.Walk.{number_in, start_in, after_in}
use Rattle.weektime.specs.declared.SecondOfWeek.{SecondOfWeek}
use Rattle.weektime.specs.declared.Towc.{Towc}
use Rattle.navic_c.specs.declared.Written.{Written}
use Rattle.navic_c.specs.declared.Paired.{Paired}
use Rattle.navic_c.specs.declared.Found.{Found}
use Rattle.navic_c.specs.declared.Refusal.{Refusal}
use Rattle.navic_c.specs.declared.Refusal.TheVariants as why
use Rattle.navic_c.specs.declared.Began.{Began}
use Rattle.navic_c.specs.declared.Counted.{Counted}
use Rattle.navic_c.specs.declared.Decoded.{Decoded}
use Rattle.navic_c.specs.declared.DecodeRefusal.{DecodeRefusal}
use Rattle.navic_c.specs.declared.DecodeRefusal.TheVariants as decoding
use Rattle.navic_c.specs.Numbers.{numbered, rows_in, fault_from, body_from, refusal, beside}

-- what C's int64_t says where the code has the same 64 bits as an unsigned number
abbrev pub int64 : List ℕ → List ℤ
int64 ns = map (to_z w64) ns

-- the first n are numbers of 64 bits; 42 such numbers. (For the ghost field of the private struct `Given`; every u64 is one.)
abbrev pub Few : List ℕ → ℕ → Type 0
Few ns n = (i : ℕ) → i < n → at ns i < 2 ^ 64

pub record Words (ns : List ℕ) : Type 0 where
  pub long : length ns ≡ 42
  pub few : Few ns 42

-- ---- reading
-- fewer than 42 numbers lent are little room, as fewer than 36 bytes
unfoldable pub read_from : List ℕ → ℕ → ℕ → Reading numbered
read_from s bytes count = reading_of numbered s (pick (leb 42 count) bytes 0)

-- the six numbers: refusal, corrected count, polarity, subframe, TOWC, message ID; the last three 0 unless it is done
abbrev pub line_of_numbers : Reading numbered → Numbers
line_of_numbers (done zs n t) =
    line_from 0 (quality n t) (unsigned zs 4 + 1) (unsigned zs 1) (pick (ltb 1 (unsigned zs 4)) (unsigned zs 6) 0)
line_of_numbers (refused y n t) = line_from (number_of y) (quality n t) 0 0 0

-- the lent bytes and the lent numbers afterwards
unfoldable pub word_after : List ℕ → List ℕ → ℕ → List ℕ
word_after s lent count = after_reading numbered (read_from s (length lent) count) (word_in (receive_of 1 s)) lent

abbrev pub numbers_after : Reading numbered → List ℕ → List ℕ
numbers_after (done zs n t) lent = map pattern zs ++ drop 42 lent
numbers_after (refused y n t) lent = lent

-- the lent numbers, by the answer of crate navic's reader. (For the contract of the private function `lend`.)
abbrev pub numbers_by : Result navic.Reading ReadRefusal → List ℕ → List ℕ
numbers_by (Ok r) lent = patterns (numbers_of r.entry.«record» r.entry.beside) ++ drop 42 lent
numbers_by (Err y) lent = lent

-- ---- writing
-- as C reads what the writer answers: the number of include/navic.h, and the number beside it
abbrev pub judged_as : Result (Unit {0}) WriteRefusal → Written
judged_as y = record { refusal = written_number y; first_bit = written_beside y }

abbrev pub written_as : Result (Unit {0}) Refusal → Written
written_as (Ok u) = judged_as (Ok u)
written_as (Err why.Count) = record { refusal = 1; first_bit = 0 }
written_as (Err (why.Record y)) = judged_as (Err y)

-- what is answered where there is room for the symbols
unfoldable pub judged_of : List ℤ → Written
judged_of zs = record { refusal = refusal zs; first_bit = beside zs }

unfoldable pub written_of : List ℤ → ℕ → Written
written_of zs room =
    record { refusal = writing_of numbered zs room; first_bit = pick (eqb (writing_of numbered zs room) 8) (fault_from zs) 0 }

-- ---- pairing
-- 42 numbers, those of the layout each within its field; what stands behind them is not counted (01, 11: "nothing beside it counted")
unfoldable pub fitting : List ℤ → Bool
fitting zs = both (eqb (length zs) 42) (eqb (fault_in (rows_in zs) zs) 0)

-- the record of such numbers
unfoldable pub record_of : List ℤ → Record
record_of zs = (from_body (body_from zs)).«record»

-- the record of 42 numbers, each within its field; else none
unfoldable pub record_in : List ℤ → Option Record
record_in zs = pick (fitting zs) (Some (record_of zs)) None

unfoldable pub pair_in : List ℤ → List ℤ → Option Ephemeris
pair_in first second = pick (both (fitting first) (fitting second)) (pair_of (record_of first) (record_of second)) None

-- as C reads it: 0 and the ephemeris, or 11 and +0 throughout
abbrev pub paired_as : Option Ephemeris → Paired
paired_as n = record { refusal = paired_number n; ephemeris = paired_ephemeris n }

unfoldable pub paired_of : List ℤ → List ℤ → Paired
paired_of first second = paired_as (pair_in first second)

unfoldable pub idle_of_numbers : List ℤ → Bool
idle_of_numbers zs = both (fitting zs) (idle_in (record_of zs))

-- ---- the walk
-- as C reads it: the number of what is given, where the window starts, and where the walk then stands
abbrev pub found_as : Walk.Found → Found
found_as f = record { number = number_in f; start = start_in f; after = after_in f }

-- ---- time
-- as C reads it: 0 and the second or the count, or 7 and 0
abbrev pub began_as : Option SecondOfWeek → Began
began_as s = record { refusal = began_number s; second = began_second s }

unfoldable pub began_from : ℕ → Began
began_from n = began_as (began_of (record { 0 = n }))

abbrev pub counted_as : Option Towc → Counted
counted_as t = record { refusal = counted_number t; towc = counted_count t }

unfoldable pub counted_from : ℕ → Counted
counted_from n = counted_as (count_of (record { 0 = n }))

-- ---- the decoder alone
-- 1 unless 584 coded symbols came, 2 for room below 286 bytes, 3 for a symbol above 1
abbrev pub nearest_refusal : List ℕ → ℕ → ℕ
nearest_refusal coded room = pick (eqb (length coded) 584) (pick (leb 286 room) (pick (at_most 1 coded) 0 3) 2) 1

-- as C reads it: 0 and the corrected count, or the refusal's number and 0
abbrev pub decoded_as : Result ℕ DecodeRefusal → Decoded
decoded_as (Ok n) = record { refusal = 0; corrected = n }
decoded_as (Err decoding.Length) = record { refusal = 1; corrected = 0 }
decoded_as (Err decoding.Room) = record { refusal = 2; corrected = 0 }
decoded_as (Err decoding.BadSymbol) = record { refusal = 3; corrected = 0 }

unfoldable pub nearest_answer : List ℕ → ℕ → Decoded
nearest_answer coded room =
    record {
      refusal = nearest_refusal coded room;
      corrected = pick (eqb (nearest_refusal coded room) 0) (cost 1 coded (decode 1 286 coded)) 0;
    }

unfoldable pub nearest_into : List ℕ → List ℕ → List ℕ
nearest_into coded lent = pick (eqb (nearest_refusal coded (length lent)) 0) (decode 1 286 coded ++ drop 286 lent) lent
