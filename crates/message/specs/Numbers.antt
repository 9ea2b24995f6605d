-- A record and what stands beside it as the numbers of its fields, in the table's order, and back (01, "The fields"). Assumes nothing.
use Rattle.std.specs.Prelude.{Bool, List, [], ◌∷◌, ◌++◌, map, ℕ, zero, suc, ◌+◌, ◌*◌, ◌/◌, ◌%◌, eqb, ℤ, pos, negsuc, get_or, replicate}
use Rattle.bits.specs.Lists.{pick, at, build}
use Rattle.weektime.specs.declared.Week.{Week}
use Rattle.message.specs.declared.Head.{Head}
use Rattle.message.specs.declared.Slot.{Slot}
use Rattle.message.specs.declared.Slot.TheVariants as slot
use Rattle.message.specs.declared.Subframe1.{Subframe1}
use Rattle.message.specs.declared.Subframe2.{Subframe2}
use Rattle.message.specs.declared.IonoGrid.{IonoGrid}
use Rattle.message.specs.declared.Almanac.{Almanac}
use Rattle.message.specs.declared.TimeOffsets.{TimeOffsets}
use Rattle.message.specs.declared.EarthIono.{EarthIono}
use Rattle.message.specs.declared.Null.{Null}
use Rattle.message.specs.declared.Unread.{Unread}
use Rattle.message.specs.declared.Pair.{Pair}
use Rattle.message.specs.declared.Beside.{Beside}
use Rattle.message.specs.declared.Field.{Field}
use Rattle.message.specs.declared.Field.TheVariants.{Plain, Signed, Flag, WeekNumber, Wide, Givei, Givd, Byte}

-- ---- single fields
-- a field's number. The 220 bits stand beside the record by the byte, first bit highest; the low four bits of the last byte, 27, are unused
abbrev pub byte_at : Beside → ℕ → ℕ
byte_at b k = pick (eqb k 27) (at b.bits 27 / 16) (at b.bits k)

-- the GIVEIs and the GIVDs of type 5's pairs
abbrev pub giveis : Beside → List ℕ
giveis b = map (λ p. p.givei) b.pairs

abbrev pub givds : Beside → List ℕ
givds b = map (λ p. p.givd) b.pairs

abbrev pub number_of : Beside → Field → ℤ
number_of b (Plain n) = pos n
number_of b (Signed z) = z
number_of b (Flag f) = pos (pick f 1 0)
number_of b (WeekNumber w) = pos w.0
number_of b (Wide n) = pos n
number_of b (Givei k) = pos (at (giveis b) k)
number_of b (Givd k) = pos (at (givds b) k)
number_of b (Byte k) = pos (byte_at b k)

abbrev pub nth : List ℤ → ℕ → ℤ
nth zs i = get_or zs i (pos 0)

-- the number of an unsigned field; 0 for a number below 0, which no such field holds
abbrev pub nat : ℤ → ℕ
nat (pos n) = n
nat (negsuc n) = 0

abbrev pub unsigned : List ℤ → ℕ → ℕ
unsigned zs i = nat (nth zs i)

-- subframe ID 0, 1, 2, 3 means subframe 1, 2, 3, 4
abbrev pub slot_id : Slot → ℕ
slot_id slot.Subframe3 = 2
slot_id slot.Subframe4 = 3

abbrev pub slot_of : ℕ → Slot
slot_of id = pick (eqb id 3) slot.Subframe4 slot.Subframe3

-- ---- bits 1 to 30, and what every message has
abbrev pub head_fields : Head → ℕ → List Field
head_fields h id =
    Plain h.tlm ∷ Plain h.towc.0 ∷ Flag h.alert ∷ Flag h.auto_nav ∷ Plain id ∷ Plain h.spare ∷ []

abbrev pub message_fields : ℕ → List Field → ℕ → List Field
message_fields id fields prn = Plain id ∷ (fields ++ (Plain prn ∷ []))

-- the numbers of a body by place, as each sort of field that may stand there. `nibble`, `byte`, `short`, `plain` and `wide` are the same number; the
-- code carries it in 4, 8, 16, 32 or 64 bits
pub record View : Type 0 where
  pub head : Head
  pub slot : Slot
  pub nibble : ℕ → ℕ
  pub byte : ℕ → ℕ
  pub short : ℕ → ℕ
  pub plain : ℕ → ℕ
  pub wide : ℕ → ℕ
  pub signed : ℕ → ℤ
  pub flag : ℕ → Bool
  pub week : ℕ → Week

abbrev pub head_of : List ℤ → Head
head_of zs =
    record {
      tlm = unsigned zs 0;
      towc = record { 0 = unsigned zs 1 };
      alert = eqb (unsigned zs 2) 1;
      auto_nav = eqb (unsigned zs 3) 1;
      spare = unsigned zs 5;
    }

abbrev pub view_of : List ℤ → View
view_of zs =
    record {
      head = head_of zs;
      slot = slot_of (unsigned zs 4);
      nibble = unsigned zs;
      byte = unsigned zs;
      short = unsigned zs;
      plain = unsigned zs;
      wide = unsigned zs;
      signed = nth zs;
      flag = λ i. eqb (unsigned zs i) 1;
      week = λ i. record { 0 = unsigned zs i };
    }

-- ---- each kind's own fields, and its record
abbrev pub subframe1_fields : Subframe1 → List Field
subframe1_fields c =
    WeekNumber c.wn ∷
    Signed c.af0 ∷
    Signed c.af1 ∷
    Signed c.af2 ∷
    Plain c.ura ∷
    Plain c.toc ∷
    Signed c.tgd ∷
    Signed c.delta_n ∷
    Plain c.iodec ∷
    Plain c.reserved ∷
    Flag c.l5_flag ∷
    Flag c.s_flag ∷
    Signed c.cuc ∷
    Signed c.cus ∷
    Signed c.cic ∷
    Signed c.cis ∷
    Signed c.crc ∷
    Signed c.crs ∷
    Signed c.idot ∷
    Plain c.spare ∷
    []

abbrev pub subframe1_of : View → Subframe1
subframe1_of t =
    record {
      head = t.head;
      wn = t.week 6;
      af0 = t.signed 7;
      af1 = t.signed 8;
      af2 = t.signed 9;
      ura = t.plain 10;
      toc = t.plain 11;
      tgd = t.signed 12;
      delta_n = t.signed 13;
      iodec = t.plain 14;
      reserved = t.plain 15;
      l5_flag = t.flag 16;
      s_flag = t.flag 17;
      cuc = t.signed 18;
      cus = t.signed 19;
      cic = t.signed 20;
      cis = t.signed 21;
      crc = t.signed 22;
      crs = t.signed 23;
      idot = t.signed 24;
      spare = t.plain 25;
    }

abbrev pub subframe2_fields : Subframe2 → List Field
subframe2_fields c =
    Signed c.m0 ∷
    Plain c.toe ∷
    Plain c.e ∷
    Plain c.root_a ∷
    Signed c.omega0 ∷
    Signed c.omega ∷
    Signed c.omega_dot ∷
    Signed c.i0 ∷
    Plain c.spare ∷
    []

abbrev pub subframe2_of : View → Subframe2
subframe2_of t =
    record {
      head = t.head;
      m0 = t.signed 6;
      toe = t.plain 7;
      e = t.plain 8;
      root_a = t.plain 9;
      omega0 = t.signed 10;
      omega = t.signed 11;
      omega_dot = t.signed 12;
      i0 = t.signed 13;
      spare = t.plain 14;
    }

abbrev pub almanac_fields : Almanac → List Field
almanac_fields c =
    WeekNumber c.wna ∷
    Plain c.e ∷
    Plain c.toa ∷
    Signed c.i0 ∷
    Signed c.omega_dot ∷
    Plain c.root_a ∷
    Signed c.omega0 ∷
    Signed c.omega ∷
    Signed c.m0 ∷
    Signed c.af0 ∷
    Signed c.af1 ∷
    Plain c.prn_almanac ∷
    Signed c.isc ∷
    Plain c.spare ∷
    []

abbrev pub almanac_of : View → Almanac
almanac_of t =
    record {
      head = t.head;
      slot = t.slot;
      wna = t.week 7;
      e = t.plain 8;
      toa = t.plain 9;
      i0 = t.signed 10;
      omega_dot = t.signed 11;
      root_a = t.plain 12;
      omega0 = t.signed 13;
      omega = t.signed 14;
      m0 = t.signed 15;
      af0 = t.signed 16;
      af1 = t.signed 17;
      prn_almanac = t.plain 18;
      isc = t.signed 19;
      spare = t.plain 20;
      prn = t.plain 21;
    }

abbrev pub time_offsets_fields : TimeOffsets → List Field
time_offsets_fields c =
    Signed c.a0_utc ∷
    Signed c.a1_utc ∷
    Signed c.a2_utc ∷
    Signed c.leap_seconds ∷
    Plain c.t_utc ∷
    WeekNumber c.wn_utc ∷
    WeekNumber c.wn_leap ∷
    Plain c.day_leap ∷
    Signed c.leap_seconds_next ∷
    Signed c.a0 ∷
    Signed c.a1 ∷
    Signed c.a2 ∷
    Plain c.t_gnss ∷
    WeekNumber c.wn_gnss ∷
    Plain c.gnss_id ∷
    Wide c.spare ∷
    []

abbrev pub time_offsets_of : View → TimeOffsets
time_offsets_of t =
    record {
      head = t.head;
      slot = t.slot;
      a0_utc = t.signed 7;
      a1_utc = t.signed 8;
      a2_utc = t.signed 9;
      leap_seconds = t.signed 10;
      t_utc = t.plain 11;
      wn_utc = t.week 12;
      wn_leap = t.week 13;
      day_leap = t.plain 14;
      leap_seconds_next = t.signed 15;
      a0 = t.signed 16;
      a1 = t.signed 17;
      a2 = t.signed 18;
      t_gnss = t.plain 19;
      wn_gnss = t.week 20;
      gnss_id = t.plain 21;
      spare = t.wide 22;
      prn = t.plain 23;
    }

abbrev pub earth_iono_fields : EarthIono → List Field
earth_iono_fields c =
    Plain c.t_eop ∷
    Signed c.pm_x ∷
    Signed c.pm_x_dot ∷
    Signed c.pm_y ∷
    Signed c.pm_y_dot ∷
    Signed c.d_ut1 ∷
    Signed c.d_ut1_dot ∷
    Signed c.alpha0 ∷
    Signed c.alpha1 ∷
    Signed c.alpha2 ∷
    Signed c.alpha3 ∷
    Signed c.beta0 ∷
    Signed c.beta1 ∷
    Signed c.beta2 ∷
    Signed c.beta3 ∷
    Plain c.spare ∷
    []

abbrev pub earth_iono_of : View → EarthIono
earth_iono_of t =
    record {
      head = t.head;
      slot = t.slot;
      t_eop = t.plain 7;
      pm_x = t.signed 8;
      pm_x_dot = t.signed 9;
      pm_y = t.signed 10;
      pm_y_dot = t.signed 11;
      d_ut1 = t.signed 12;
      d_ut1_dot = t.signed 13;
      alpha0 = t.signed 14;
      alpha1 = t.signed 15;
      alpha2 = t.signed 16;
      alpha3 = t.signed 17;
      beta0 = t.signed 18;
      beta1 = t.signed 19;
      beta2 = t.signed 20;
      beta3 = t.signed 21;
      spare = t.plain 22;
      prn = t.plain 23;
    }

-- ---- what stands beside
-- f 0, f 1, .., f (n - 1)
abbrev pub list_of : {A : Type 0} → ℕ → (ℕ → A) → List A
list_of zero f = []
list_of (suc n) f = f 0 ∷ list_of n (λ i. f (suc i))

-- type 5's pairs: GIVEI and GIVD in turn
abbrev pub pair_fields : List Field
pair_fields = list_of 30 (λ i. pick (eqb (i % 2) 0) (Givei (i / 2)) (Givd (i / 2)))

abbrev pub no_pair : Pair
no_pair = record { givei = 0; givd = 0 }

abbrev pub pairs_of : View → Beside
pairs_of t =
    record {
      bits = replicate 28 0;
      pairs = list_of 15 (λ i. record { givei = t.nibble (9 + 2 * i); givd = t.short (10 + 2 * i) });
    }

-- the 220 bits of a message
abbrev pub data_fields : List Field
data_fields = list_of 28 (λ k. Byte k)

abbrev pub data_of : View → Beside
data_of t =
    record {
      bits = build 28 (λ i. pick (eqb i 27) (t.nibble 34 * 16) (t.byte (7 + i)));
      pairs = replicate 15 no_pair;
    }

abbrev pub nothing : Beside
nothing = record { bits = replicate 28 0; pairs = replicate 15 no_pair }

abbrev pub iono_grid_fields : IonoGrid → List Field
iono_grid_fields c = Plain c.mask ∷ Plain c.region ∷ (pair_fields ++ (Plain c.iodi ∷ Plain c.spare ∷ []))

abbrev pub iono_grid_of : View → IonoGrid
iono_grid_of t =
    record {
      head = t.head;
      slot = t.slot;
      mask = t.plain 7;
      region = t.plain 8;
      iodi = t.plain 39;
      spare = t.plain 40;
      prn = t.plain 41;
    }

abbrev pub null_of : View → Null
null_of t = record { head = t.head; slot = t.slot; prn = t.plain 35 }

abbrev pub unread_of : View → Unread
unread_of t = record { head = t.head; slot = t.slot; id = t.plain 6; prn = t.plain 35 }
