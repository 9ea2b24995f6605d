-- A record written is read back, a body read is written back, and of what was read the writer refuses a TOWC at most. Assumes nothing.
use mathlib.Core.Path.{◌≡◌, refl, ap, ap₂, ◌∙◌}
use mathlib.Core.Bool.{Bool, true, false}
use mathlib.Core.List.{List}
use Prim.Native.Nat.{ℕ, ◌+◌, ◌≤◌, ◌<◌}
use native.Mathlib.Omega.{arith}
use borrow.Author.Tests.{eqb-true, eqb-false}
use lib.Dec.{eqb}
use lib.IntN.{ℤ}
use lib.ListN.{length}
use Rattle.bits.specs.Lists.{pick, part, Bits}
use Rattle.bits.specs.Numbers.{number}
use Rattle.fields.specs.declared.Layout.{Layout}
use Rattle.fields.specs.Table.{head, message_id, prn, subframe1, subframe2, iono_grid, almanac, time_offsets, earth_iono, data_bytes, rows_of}
use Rattle.fields.specs.Fields.{value_at, values, body_of, fault_in}
use Rattle.fields.proofs.Bodies as bodies
use Rattle.fields.proofs.Bodies.{values_body, body_values, values_fit}
use Rattle.message.specs.declared.Slot.{Slot}
use Rattle.message.specs.declared.Slot.TheVariants as slot
use Rattle.message.specs.declared.Record.{Record}
use Rattle.message.specs.declared.Record.TheVariants as case
use Rattle.message.specs.declared.Beside.{Beside}
use Rattle.message.specs.Numbers.{unsigned, view_of, slot_id}
use Rattle.message.specs.Records as records
use Rattle.message.specs.Records.{layout_of, layout_by, numbers_of, entry_by, to_body, from_body, id_refused, fault_of, record_fault, used_by, unused_zero, subframe_id, towc_in, id_of, subframe_of, message_id_of}
use Rattle.message.proofs.Reading.{reads}
use Rattle.message.proofs.Return.{Named, layout_back, entry_back}

-- ---- a record written
pub body_long : (r : Record) (b : Beside) → length (to_body r b) ≡ 262
unfolding to_body
body_long r b = bodies.body_long (layout_of r) (numbers_of r b)

pub body_bits : (r : Record) (b : Beside) → Bits (to_body r b)
unfolding to_body
body_bits r b = bodies.body_bits (rows_of (layout_of r)) (numbers_of r b)

-- a number for each row
pub numbers_long : (r : Record) (b : Beside) → length (numbers_of r b) ≡ length (rows_of (layout_of r))
unfolding head message_id prn subframe1 subframe2 iono_grid almanac time_offsets earth_iono data_bytes
numbers_long (case.Subframe1 c) b = refl
numbers_long (case.Subframe2 c) b = refl
numbers_long (case.IonoGrid c) b = refl
numbers_long (case.Almanac c) b = refl
numbers_long (case.GpsTime c) b = refl
numbers_long (case.EarthIono c) b = refl
numbers_long (case.GnssTime c) b = refl
numbers_long (case.Null c) b = refl
numbers_long (case.Unread c) b = refl

-- the two IDs that its body has
frame_named : (r : Record) (b : Beside) (body : List ℕ) → values (rows_of (layout_of r)) body ≡ numbers_of r b → subframe_id body ≡ unsigned (numbers_of r b) 4
unfolding value_at head
frame_named (case.Subframe1 c) b body v = ap (λ (zs : List ℤ). unsigned zs 4) v
frame_named (case.Subframe2 c) b body v = ap (λ (zs : List ℤ). unsigned zs 4) v
frame_named (case.IonoGrid c) b body v = ap (λ (zs : List ℤ). unsigned zs 4) v
frame_named (case.Almanac c) b body v = ap (λ (zs : List ℤ). unsigned zs 4) v
frame_named (case.GpsTime c) b body v = ap (λ (zs : List ℤ). unsigned zs 4) v
frame_named (case.EarthIono c) b body v = ap (λ (zs : List ℤ). unsigned zs 4) v
frame_named (case.GnssTime c) b body v = ap (λ (zs : List ℤ). unsigned zs 4) v
frame_named (case.Null c) b body v = ap (λ (zs : List ℤ). unsigned zs 4) v
frame_named (case.Unread c) b body v = ap (λ (zs : List ℤ). unsigned zs 4) v

message_named : (r : Record) (b : Beside) (body : List ℕ) → values (rows_of (layout_of r)) body ≡ numbers_of r b → Named r (records.message_id body)
unfolding value_at head message_id
message_named (case.Subframe1 c) b body v = tt
message_named (case.Subframe2 c) b body v = tt
message_named (case.IonoGrid c) b body v = ap (λ (zs : List ℤ). unsigned zs 6) v
message_named (case.Almanac c) b body v = ap (λ (zs : List ℤ). unsigned zs 6) v
message_named (case.GpsTime c) b body v = ap (λ (zs : List ℤ). unsigned zs 6) v
message_named (case.EarthIono c) b body v = ap (λ (zs : List ℤ). unsigned zs 6) v
message_named (case.GnssTime c) b body v = ap (λ (zs : List ℤ). unsigned zs 6) v
message_named (case.Null c) b body v = ap (λ (zs : List ℤ). unsigned zs 6) v
message_named (case.Unread c) b body v = ap (λ (zs : List ℤ). unsigned zs 6) v

-- no fault: each number is within its field, and what is not used is 0
pub no_fault : (n : ℕ) (u : Bool) → pick (eqb n 0) (pick u 0 293) n ≡ 0 → (n ≡ 0) × (u ≡ true)
no_fault n u e = go (eqb n 0) u refl e
  where
    go : (t u : Bool) → eqb n 0 ≡ t → pick t (pick u 0 293) n ≡ 0 → (n ≡ 0) × (u ≡ true)
    go true true q f = (eqb-true n 0 q, refl)
    go true false q f = absurd (omega arith)
    go false u q f = absurd (eqb-false n 0 q f)

pub record_back : (r : Record) (b : Beside) → id_refused r ≡ false → fault_of r b ≡ 0 → from_body (to_body r b) ≡ (record { «record» = r; beside = b })
unfolding from_body to_body fault_of record_fault
record_back r b d f =
    let zs = numbers_of r b in
    let body = body_of (rows_of (layout_of r)) zs in
    let k = no_fault (fault_in (rows_of (layout_of r)) zs) (unused_zero (used_by (layout_of r)) b) f in
    let v = values_body (layout_of r) zs (numbers_long r b) k.0 in
    let m = message_named r b body v in
    ap (λ (s : ℕ). entry_by s (records.message_id body) (view_of (values (rows_of (layout_by s (records.message_id body))) body))) (frame_named r b body v)
    ∙ ap (λ (zs' : List ℤ). entry_by (unsigned zs 4) (records.message_id body) (view_of zs'))
    (ap (λ (l : Layout). values (rows_of l) body) (layout_back r b (records.message_id body) m d) ∙ v)
    ∙ entry_back r b (records.message_id body) m d k.1

-- ---- a body read
pub body_back : (body : List ℕ) → length body ≡ 262 → Bits body → to_body (from_body body).«record» (from_body body).beside ≡ body
unfolding to_body
body_back body e b =
    let l = layout_by (subframe_id body) (records.message_id body) in
    ap₂ (λ (l : Layout) (zs : List ℤ). body_of (rows_of l) zs) (reads body).lays (reads body).same ∙ body_values l body e b

-- the writer refuses it neither for its ID nor for its numbers: for its TOWC at most
pub read_accepted : (body : List ℕ) → (id_refused (from_body body).«record» ≡ false) × (fault_of (from_body body).«record» (from_body body).beside ≡ 0)
unfolding fault_of record_fault
read_accepted body =
    let l = layout_by (subframe_id body) (records.message_id body) in
    let r = reads body in
    (r.free, rw (r.lays, r.same, values_fit l body, r.clear))

-- TOWC is bits 9 to 25, the subframe's number one more than bits 28 and 29, and a message's ID bits 31 to 36
pub towc_bits : (body : List ℕ) → towc_in (from_body body).«record» ≡ number (part body 8 17)
towc_bits body = (reads body).time

pub subframe_bits : (body : List ℕ) → subframe_of (from_body body).«record» ≡ subframe_id body + 1
subframe_bits body = (reads body).frame

pub message_none : (body : List ℕ) → subframe_id body < 2 → message_id_of (from_body body).«record» ≡ 0
message_none body = (reads body).none

pub message_bits : (body : List ℕ) → 2 ≤ subframe_id body → message_id_of (from_body body).«record» ≡ records.message_id body
message_bits body = (reads body).message

slot_small : (s : Slot) → slot_id s < 4
slot_small slot.Subframe3 = omega arith
slot_small slot.Subframe4 = omega arith

pub id_small : (r : Record) → id_of r < 4
id_small (case.Subframe1 c) = omega arith
id_small (case.Subframe2 c) = omega arith
id_small (case.IonoGrid c) = slot_small c.slot
id_small (case.Almanac c) = slot_small c.slot
id_small (case.GpsTime c) = slot_small c.slot
id_small (case.EarthIono c) = slot_small c.slot
id_small (case.GnssTime c) = slot_small c.slot
id_small (case.Null c) = slot_small c.slot
id_small (case.Unread c) = slot_small c.slot
