-- Between a record and a body of 262 bits, and what the writer refuses (01, "The fields", "Numbers that the calls give"). Assumes nothing.
use Rattle.std.specs.Prelude.{Bool, true, false, List, [], ◌∷◌, ◌++◌, map, ℕ, ◌+◌, ◌%◌, eqb, ltb, ℤ, length}
use Rattle.bits.specs.Lists.{pick, both, at, part, at_most}
use Rattle.bits.specs.Numbers.{number}
use Rattle.fields.specs.declared.Layout.{Layout}
use Rattle.fields.specs.declared.Layout.TheVariants as layout
use Rattle.fields.specs.Table.{rows_of}
use Rattle.fields.specs.Fields.{values, body_of, fault_in}
use Rattle.message.specs.declared.Head.{Head}
use Rattle.message.specs.declared.Record.{Record}
use Rattle.message.specs.declared.Record.TheVariants as case
use Rattle.message.specs.declared.Beside.{Beside}
use Rattle.message.specs.declared.Entry.{Entry}
use Rattle.message.specs.declared.Field.{Field}
use Rattle.message.specs.Numbers.{number_of, giveis, givds, slot_id, head_fields, message_fields, subframe1_fields, subframe2_fields, iono_grid_fields, almanac_fields}
use Rattle.message.specs.Numbers.{time_offsets_fields, earth_iono_fields, data_fields, View, view_of, subframe1_of, subframe2_of, iono_grid_of}
use Rattle.message.specs.Numbers.{almanac_of, time_offsets_of, earth_iono_of, null_of, unread_of, pairs_of, data_of, nothing}

-- ---- from a body to its record
-- the layout of a message, by its ID; and of any body, by its subframe ID and its message ID
abbrev pub message_layout : ℕ → Layout
message_layout id =
    pick (eqb id 5) layout.IonoGrid
    (pick (eqb id 7) layout.Almanac
    (pick (eqb id 9) layout.TimeOffsets
    (pick (eqb id 11) layout.EarthIono
    (pick (eqb id 26) layout.TimeOffsets layout.Data))))

unfoldable pub layout_by : ℕ → ℕ → Layout
layout_by subframe id = pick (eqb subframe 0) layout.Subframe1 (pick (eqb subframe 1) layout.Subframe2 (message_layout id))

abbrev pub alone : Record → Entry
alone r = record { «record» = r; beside = nothing }

-- every message with ID 0 is the null message; other IDs than 5, 7, 9, 11, 26 and 0 give the unread case
abbrev pub data_by : ℕ → View → Entry
data_by id t =
    pick (eqb id 0) (record { «record» = case.Null (null_of t); beside = data_of t })
    (record { «record» = case.Unread (unread_of t); beside = data_of t })

abbrev pub message_by : ℕ → View → Entry
message_by id t =
    pick (eqb id 5) (record { «record» = case.IonoGrid (iono_grid_of t); beside = pairs_of t })
    (pick (eqb id 7) (alone (case.Almanac (almanac_of t)))
    (pick (eqb id 9) (alone (case.GpsTime (time_offsets_of t)))
    (pick (eqb id 11) (alone (case.EarthIono (earth_iono_of t)))
    (pick (eqb id 26) (alone (case.GnssTime (time_offsets_of t))) (data_by id t)))))

unfoldable pub entry_by : ℕ → ℕ → View → Entry
entry_by subframe id t =
    pick (eqb subframe 0) (alone (case.Subframe1 (subframe1_of t)))
    (pick (eqb subframe 1) (alone (case.Subframe2 (subframe2_of t))) (message_by id t))

-- bits 28-29 are the subframe ID, bits 31-36 a message's ID
abbrev pub subframe_id : List ℕ → ℕ
subframe_id body = number (part body 27 2)

abbrev pub message_id : List ℕ → ℕ
message_id body = number (part body 30 6)

unfoldable pub from_body : List ℕ → Entry
from_body body =
    entry_by (subframe_id body) (message_id body) (view_of (values (rows_of (layout_by (subframe_id body) (message_id body))) body))

-- ---- from a record to its body
abbrev pub layout_of : Record → Layout
layout_of (case.Subframe1 c) = layout.Subframe1
layout_of (case.Subframe2 c) = layout.Subframe2
layout_of (case.IonoGrid c) = layout.IonoGrid
layout_of (case.Almanac c) = layout.Almanac
layout_of (case.GpsTime c) = layout.TimeOffsets
layout_of (case.EarthIono c) = layout.EarthIono
layout_of (case.GnssTime c) = layout.TimeOffsets
layout_of (case.Null c) = layout.Data
layout_of (case.Unread c) = layout.Data

abbrev pub head_in : Record → Head
head_in (case.Subframe1 c) = c.head
head_in (case.Subframe2 c) = c.head
head_in (case.IonoGrid c) = c.head
head_in (case.Almanac c) = c.head
head_in (case.GpsTime c) = c.head
head_in (case.EarthIono c) = c.head
head_in (case.GnssTime c) = c.head
head_in (case.Null c) = c.head
head_in (case.Unread c) = c.head

-- the subframe ID
abbrev pub id_of : Record → ℕ
id_of (case.Subframe1 c) = 0
id_of (case.Subframe2 c) = 1
id_of (case.IonoGrid c) = slot_id c.slot
id_of (case.Almanac c) = slot_id c.slot
id_of (case.GpsTime c) = slot_id c.slot
id_of (case.EarthIono c) = slot_id c.slot
id_of (case.GnssTime c) = slot_id c.slot
id_of (case.Null c) = slot_id c.slot
id_of (case.Unread c) = slot_id c.slot

-- the fields behind bit 30
abbrev pub own_fields : Record → List Field
own_fields (case.Subframe1 c) = subframe1_fields c
own_fields (case.Subframe2 c) = subframe2_fields c
own_fields (case.IonoGrid c) = message_fields 5 (iono_grid_fields c) c.prn
own_fields (case.Almanac c) = message_fields 7 (almanac_fields c) c.prn
own_fields (case.GpsTime c) = message_fields 9 (time_offsets_fields c) c.prn
own_fields (case.EarthIono c) = message_fields 11 (earth_iono_fields c) c.prn
own_fields (case.GnssTime c) = message_fields 26 (time_offsets_fields c) c.prn
own_fields (case.Null c) = message_fields 0 data_fields c.prn
own_fields (case.Unread c) = message_fields c.id data_fields c.prn

abbrev pub fields_of : Record → List Field
fields_of r = head_fields (head_in r) (id_of r) ++ own_fields r

abbrev pub numbers_of : Record → Beside → List ℤ
numbers_of r b = map (number_of b) (fields_of r)

unfoldable pub to_body : Record → Beside → List ℕ
to_body r b = body_of (rows_of (layout_of r)) (numbers_of r b)

-- ---- what the writer refuses
-- 9: the unread case with ID 0, 5, 7, 9, 11, 26 or above 63
abbrev pub among : ℕ → List ℕ → Bool
among n [] = false
among n (m ∷ ms) = pick (eqb n m) true (among n ms)

abbrev pub id_taken : ℕ → Bool
id_taken id = pick (among id (0 ∷ 5 ∷ 7 ∷ 9 ∷ 11 ∷ 26 ∷ [])) true (ltb 63 id)

abbrev pub id_refused : Record → Bool
id_refused (case.Subframe1 c) = false
id_refused (case.Subframe2 c) = false
id_refused (case.IonoGrid c) = false
id_refused (case.Almanac c) = false
id_refused (case.GpsTime c) = false
id_refused (case.EarthIono c) = false
id_refused (case.GnssTime c) = false
id_refused (case.Null c) = false
id_refused (case.Unread c) = id_taken c.id

-- its TOWC; 7 where `towc_refused` of crate weektime holds of it
abbrev pub towc_in : Record → ℕ
towc_in r = (head_in r).towc.0

-- the subframe, 1 to 4, and the message ID, 0 for subframes 1 and 2
abbrev pub subframe_of : Record → ℕ
subframe_of r = id_of r + 1

abbrev pub message_id_of : Record → ℕ
message_id_of (case.Subframe1 c) = 0
message_id_of (case.Subframe2 c) = 0
message_id_of (case.IonoGrid c) = 5
message_id_of (case.Almanac c) = 7
message_id_of (case.GpsTime c) = 9
message_id_of (case.EarthIono c) = 11
message_id_of (case.GnssTime c) = 26
message_id_of (case.Null c) = 0
message_id_of (case.Unread c) = c.id

-- 8: the first bit of the lowest field outside its width, 0 if there is none
unfoldable pub record_fault : Record → Beside → ℕ
record_fault r b = fault_in (rows_of (layout_of r)) (numbers_of r b)

-- a list of n zeros
abbrev pub zeros? : ℕ → List ℕ → Bool
zeros? n l = both (eqb (length l) n) (at_most 0 l)

-- what a case uses beside its record
pub data Use : Type 0 where
  none : Use
  pairs : Use
  bits : Use

abbrev pub used_by : Layout → Use
used_by layout.Subframe1 = none
used_by layout.Subframe2 = none
used_by layout.IonoGrid = pairs
used_by layout.Almanac = none
used_by layout.TimeOffsets = none
used_by layout.EarthIono = none
used_by layout.Data = bits

-- the bits and numbers beside a record that its case doesn't use are 0. (The tests of lengths hold of every Beside that code can make; with them
-- `record_back` holds of any lists.)
abbrev pub unused_zero : Use → Beside → Bool
unused_zero none b = both (zeros? 28 b.bits) (both (zeros? 15 (giveis b)) (zeros? 15 (givds b)))
unused_zero pairs b = both (zeros? 28 b.bits) (both (eqb (length (giveis b)) 15) (eqb (length (givds b)) 15))
unused_zero bits b =
    both (both (eqb (length b.bits) 28) (eqb (at b.bits 27 % 16) 0)) (both (zeros? 15 (giveis b)) (zeros? 15 (givds b)))

-- the same, but 293 if only an unused bit or number beside the record is not 0
unfoldable pub fault_of : Record → Beside → ℕ
fault_of r b = pick (eqb (record_fault r b) 0) (pick (unused_zero (used_by (layout_of r)) b) 0 293) (record_fault r b)
