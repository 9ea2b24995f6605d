-- What is read as numbers is what is read as a record: its numbers, with zeros behind them. Assumes nothing.
use mathlib.Core.Path.{◌≡◌, refl, sym, ap, ◌∙◌}
use Rattle.std.specs.Prelude.{Result, Ok, Err}
use mathlib.Core.Bool.{Bool, true, false}
use mathlib.Core.List.{List}
use Prim.Native.Nat.{ℕ, ◌+◌, ◌-◌}
use lib.Dec.{eqb, leb, ltb}
use lib.IntN.{pos}
use lib.ListN.{length, take, replicate}
use Rattle.bits.specs.Lists.{pick}
use Rattle.fields.specs.Table.{rows_of}
use Rattle.fields.specs.Fields.{values}
use Rattle.link.specs.declared.LinkRefusal.{LinkRefusal}
use Rattle.link.specs.declared.LinkRefusal.TheVariants as link
use Rattle.link.specs.declared.Received.{Received}
use Rattle.link.specs.Link.{receive_of}
use Rattle.message.specs.declared.Slot.{Slot}
use Rattle.message.specs.declared.Slot.TheVariants as slot
use Rattle.message.specs.declared.Record.{Record}
use Rattle.message.specs.declared.Record.TheVariants as case
use Rattle.message.specs.declared.Beside.{Beside}
use Rattle.message.specs.Numbers.{unsigned, slot_id}
use Rattle.message.specs.Records.{from_body, numbers_of, layout_by, subframe_id, message_id, towc_in, id_of, message_id_of}
use Rattle.message.proofs.Reading.{reads}
use Rattle.demands.specs.Family.{Reading, Why, done, refused, not_of_600, little_room, bad_symbol, no_sync, no_word, is_idle, bad_check, bad_time, by_time, by_check, by_link, reading_of}
use Rattle.navic.specs.Navic as navic
use Rattle.navic.specs.Navic.{family, quality, line_from, read_of, answer}
use Rattle.weektime.specs.Time.{towc_refused}
use Rattle.navic_c.specs.Numbers.{padded, numbers_of_body, untimely, numbered}
use Rattle.navic_c.specs.Calls.{line_of_numbers}
use Rattle.navic_c.proofs.Layouts.{time_number}

-- ---- a body
pub record_numbers : (body : List ℕ) → padded (numbers_of (from_body body).«record» (from_body body).beside) ≡ numbers_of_body body
unfolding numbers_of_body
record_numbers body = ap padded (reads body).same

-- its time is refused alike
pub time_same : (body : List ℕ) → untimely (numbers_of_body body) ≡ towc_refused (towc_in (from_body body).«record»)
unfolding untimely numbers_of_body
time_same body =
    let l = layout_by (subframe_id body) (message_id body) in
    ap towc_refused (time_number body (replicate (42 - length (values (rows_of l) body)) (pos 0)) l ∙ sym (reads body).time)

-- ---- reading
abbrev pub as_numbers : Reading family → Reading numbered
as_numbers (done e n t) = done (padded (numbers_of e.«record» e.beside)) n t
as_numbers (refused y n t) = refused y n t

time_by : (body : List ℕ) (n : ℕ) (t : Bool) → by_time numbered (numbers_of_body body) n t ≡ as_numbers (by_time family (from_body body) n t)
time_by body n t = rw (time_same body) (go (towc_refused (towc_in (from_body body).«record»)))
  where
    go : (l : Bool) → pick {A = Reading numbered} l (refused bad_time n t) (done (numbers_of_body body) n t) ≡ as_numbers (pick l (refused bad_time n t) (done (from_body body) n t))
    go true = refl
    go false = λ i. done (sym (record_numbers body) i) n t

check_by : (y : Bool) (w : List ℕ) (n : ℕ) (t : Bool) → by_check numbered y w n t ≡ as_numbers (by_check family y w n t)
check_by true w n t = time_by (take 262 w) n t
check_by false w n t = refl

link_by : (y : Result Received LinkRefusal) → by_link numbered y ≡ as_numbers (by_link family y)
link_by (Err link.BadSymbol) = refl
link_by (Err link.NoSync) = refl
link_by (Err link.NoWord) = refl
link_by (Ok r) = check_by r.agrees r.word r.corrected r.turned_over

pub reading_same : (s : List ℕ) (room : ℕ) → reading_of numbered s room ≡ as_numbers (reading_of family s room)
unfolding reading_of
reading_same s room = go (eqb (length s) 600) (leb 36 room)
  where
    go : (a b : Bool)
        → pick a (pick b (by_link numbered (receive_of 1 s)) (refused little_room 0 false)) (refused not_of_600 0 false)
        ≡ as_numbers (pick a (pick b (by_link family (receive_of 1 s)) (refused little_room 0 false)) (refused not_of_600 0 false))
    go true true = link_by (receive_of 1 s)
    go true false = refl
    go false b = refl

-- ---- the line of six numbers
-- a message stands in subframe 3 or 4
slot_late : (s : Slot) (id : ℕ) → pick (ltb 1 (slot_id s)) id 0 ≡ id
slot_late slot.Subframe3 id = refl
slot_late slot.Subframe4 id = refl

id_told : (r : Record) (b : Beside)
    → pick (ltb 1 (unsigned (padded (numbers_of r b)) 4)) (unsigned (padded (numbers_of r b)) 6) 0 ≡ message_id_of r
id_told (case.Subframe1 c) b = refl
id_told (case.Subframe2 c) b = refl
id_told (case.IonoGrid c) b = slot_late c.slot 5
id_told (case.Almanac c) b = slot_late c.slot 7
id_told (case.GpsTime c) b = slot_late c.slot 9
id_told (case.EarthIono c) b = slot_late c.slot 11
id_told (case.GnssTime c) b = slot_late c.slot 26
id_told (case.Null c) b = slot_late c.slot 0
id_told (case.Unread c) b = slot_late c.slot c.id

-- beside 1, 2, 3, 4 and 10 stand no count and no polarity
abbrev pub Zeros : Why → ℕ → Bool → Type 0
Zeros not_of_600 n t = (n ≡ 0) × (t ≡ false)
Zeros little_room n t = (n ≡ 0) × (t ≡ false)
Zeros bad_symbol n t = (n ≡ 0) × (t ≡ false)
Zeros no_sync n t = (n ≡ 0) × (t ≡ false)
Zeros no_word n t = (n ≡ 0) × (t ≡ false)
Zeros is_idle n t = Unit {0}
Zeros bad_check n t = Unit {0}
Zeros bad_time n t = Unit {0}

abbrev pub Bare : Reading family → Type 0
Bare (done e n t) = Unit {0}
Bare (refused y n t) = Zeros y n t

-- so the reader answers
check_bare : (y : Bool) (n : ℕ) (t : Bool) → Bare (refused (pick y is_idle bad_check) n t)
check_bare true n t = tt
check_bare false n t = tt

time_bare : (l : Bool) (body : List ℕ) (n : ℕ) (t : Bool) → Bare (pick l (refused bad_time n t) (done (from_body body) n t))
time_bare true body n t = tt
time_bare false body n t = tt

word_bare : (y : Bool) (w : List ℕ) (n : ℕ) (t : Bool) → Bare (by_check family y w n t)
word_bare true w n t = time_bare (family.untimely (from_body (take 262 w))) (take 262 w) n t
word_bare false w n t = check_bare (family.idle w) n t

link_bare : (y : Result Received LinkRefusal) → Bare (by_link family y)
link_bare (Err link.BadSymbol) = (refl, refl)
link_bare (Err link.NoSync) = (refl, refl)
link_bare (Err link.NoWord) = (refl, refl)
link_bare (Ok r) = word_bare r.agrees r.word r.corrected r.turned_over

pub reading_bare : (s : List ℕ) (room : ℕ) → Bare (reading_of family s room)
unfolding reading_of
reading_bare s room = go (eqb (length s) 600) (leb 36 room)
  where
    go : (a b : Bool)
        → Bare (pick a (pick b (by_link family (receive_of 1 s)) (refused little_room 0 false)) (refused not_of_600 0 false))
    go true true = link_bare (receive_of 1 s)
    go true false = (refl, refl)
    go false b = (refl, refl)

pub line_same : (y : Reading family) → Bare y → line_of_numbers (as_numbers y) ≡ navic.line_of (read_of y)
line_same (done e n t) z =
    ap (λ (id : ℕ). line_from 0 (quality n t) (id_of e.«record» + 1) (towc_in e.«record») id) (id_told e.«record» e.beside)
line_same (refused not_of_600 n t) z = λ i. line_from 1 (quality (z.0 i) (z.1 i)) 0 0 0
line_same (refused little_room n t) z = λ i. line_from 2 (quality (z.0 i) (z.1 i)) 0 0 0
line_same (refused bad_symbol n t) z = λ i. line_from 3 (quality (z.0 i) (z.1 i)) 0 0 0
line_same (refused no_sync n t) z = λ i. line_from 4 (quality (z.0 i) (z.1 i)) 0 0 0
line_same (refused no_word n t) z = λ i. line_from 10 (quality (z.0 i) (z.1 i)) 0 0 0
line_same (refused is_idle n t) z = refl
line_same (refused bad_check n t) z = refl
line_same (refused bad_time n t) z = refl

-- the line of what is read as numbers is the line of what crate navic's reader answers
pub line_read : (s : List ℕ) (room : ℕ) → line_of_numbers (reading_of numbered s room) ≡ navic.line_of (answer s room)
unfolding answer
line_read s room = ap line_of_numbers (reading_same s room) ∙ line_same (reading_of family s room) (reading_bare s room)
