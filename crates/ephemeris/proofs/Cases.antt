-- What the case of a record decides, where the code knows of it only that it is another. Assumes nothing.
use mathlib.Core.Path.{◌≡◌, refl, sym, ◌∙◌}
use mathlib.Core.Bool.{Bool, false}
use Prim.Native.Nat.{◌+◌}
use lib.Dec.{ltb}
use Rattle.bits.specs.Lists.{pick}
use Rattle.message.specs.declared.Slot.{Slot}
use Rattle.message.specs.declared.Slot.TheVariants as slot
use Rattle.message.specs.declared.Subframe1.{Subframe1}
use Rattle.message.specs.declared.Subframe2.{Subframe2}
use Rattle.message.specs.declared.Record.{Record}
use Rattle.message.specs.declared.Record.TheVariants as case
use Rattle.message.specs.Numbers.{slot_id}
use Rattle.message.specs.Records.{subframe_of}
use Rattle.ephemeris.specs.Pairing.{halves, none, fit, with_second, paired?}

pub not_first : (r s : Record) → ((x : Subframe1) → r ≡ case.Subframe1 x → ⊥) → none ≡ paired? r s
not_first (case.Subframe1 a) s h = absurd (h a refl)
not_first (case.Subframe2 c) s h = refl
not_first (case.IonoGrid c) s h = refl
not_first (case.Almanac c) s h = refl
not_first (case.GpsTime c) s h = refl
not_first (case.EarthIono c) s h = refl
not_first (case.GnssTime c) s h = refl
not_first (case.Null c) s h = refl
not_first (case.Unread c) s h = refl

pub not_second : (a : Subframe1) (s : Record) → ((x : Subframe2) → s ≡ case.Subframe2 x → ⊥) → none ≡ with_second a s
not_second a (case.Subframe1 c) h = refl
not_second a (case.Subframe2 b) h = absurd (h b refl)
not_second a (case.IonoGrid c) h = refl
not_second a (case.Almanac c) h = refl
not_second a (case.GpsTime c) h = refl
not_second a (case.EarthIono c) h = refl
not_second a (case.GnssTime c) h = refl
not_second a (case.Null c) h = refl
not_second a (case.Unread c) h = refl

pub both_halves : {first second : Record} {a : Subframe1} {b : Subframe2} {t : Bool} → first ≡ case.Subframe1 a → second ≡ case.Subframe2 b → fit a b ≡ t
    → pick t (halves a b) none ≡ paired? first second
both_halves {a = a} {b = b} e f q = sym ((λ i. paired? (e i) (f i)) ∙ λ i. pick (q i) (halves a b) none)

-- a message is of subframe 3 or 4
pub late : (s : Slot) → ltb (slot_id s + 1) 3 ≡ false
late slot.Subframe3 = refl
late slot.Subframe4 = refl

pub message_late : (r : Record) → ((x : Subframe1) → r ≡ case.Subframe1 x → ⊥) → ((x : Subframe2) → r ≡ case.Subframe2 x → ⊥) → ltb (subframe_of r) 3 ≡ false
message_late (case.Subframe1 a) h k = absurd (h a refl)
message_late (case.Subframe2 b) h k = absurd (k b refl)
message_late (case.IonoGrid c) h k = late c.slot
message_late (case.Almanac c) h k = late c.slot
message_late (case.GpsTime c) h k = late c.slot
message_late (case.EarthIono c) h k = late c.slot
message_late (case.GnssTime c) h k = late c.slot
message_late (case.Null c) h k = late c.slot
message_late (case.Unread c) h k = late c.slot
