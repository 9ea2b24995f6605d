-- From a record and what stands beside it to the numbers and back. Assumes nothing.
use mathlib.Core.Path.{◌≡◌, refl, sym, ap, ◌∙◌}
use mathlib.Core.Bool.{Bool, true, false}
use mathlib.Core.List.{List, [], ◌∷◌, ◌++◌, map}
use Prim.Native.Nat.{ℕ, ◌*◌, ◌/◌, ◌%◌}
use native.Mathlib.Omega.{arith}
use borrow.Author.Tests.{eqb-true}
use lib.Dec.{eqb, ltb}
use lib.IntN.{ℤ}
use lib.ListN.{length, replicate, length-map}
use Rattle.bits.specs.Lists.{pick, both, at, build, AtMost, at_most}
use Rattle.bits.proofs.Build.{built}
use Rattle.bits.proofs.Lists.{at_most_holds}
use Rattle.message.specs.declared.Head.{Head}
use Rattle.message.specs.declared.Slot.{Slot}
use Rattle.message.specs.declared.Slot.TheVariants as slot
use Rattle.message.specs.declared.Subframe1.{Subframe1}
use Rattle.message.specs.declared.Subframe2.{Subframe2}
use Rattle.message.specs.declared.IonoGrid.{IonoGrid}
use Rattle.message.specs.declared.Record.{Record}
use Rattle.message.specs.declared.Record.TheVariants as case
use Rattle.message.specs.declared.Pair.{Pair}
use Rattle.message.specs.declared.Beside.{Beside}
use Rattle.message.specs.declared.Field.{Field}
use Rattle.message.specs.Numbers.{number_of, list_of, no_pair, giveis, givds, message_fields, subframe1_fields, subframe2_fields, iono_grid_fields, almanac_fields, time_offsets_fields, earth_iono_fields, data_fields, head_fields}
use Rattle.message.specs.Numbers.{head_of, slot_id, slot_of, unsigned, nth, View, view_of, nothing, pairs_of, data_of, subframe1_of, subframe2_of, iono_grid_of, almanac_of, time_offsets_of, earth_iono_of, null_of, unread_of}
use Rattle.message.specs.Records.{among, id_refused, layout_of, layout_by, message_layout, entry_by, message_by, numbers_of, used_by, unused_zero, zeros?, pairs, bits}
use Rattle.bits.proofs.Both.{both_holds}
use Rattle.message.proofs.Choice.{neither}
use Rattle.message.proofs.Filling.{filled_list}
use Rattle.message.proofs.Laying.{map_at}

-- ---- IDs
-- an ID that no other case has
record Other (id : ℕ) : Type 0 where
  not0 : eqb id 0 ≡ false
  not5 : eqb id 5 ≡ false
  not7 : eqb id 7 ≡ false
  not9 : eqb id 9 ≡ false
  not11 : eqb id 11 ≡ false
  not26 : eqb id 26 ≡ false

other : (id : ℕ) → pick (among id (0 ∷ 5 ∷ 7 ∷ 9 ∷ 11 ∷ 26 ∷ [])) true (ltb 63 id) ≡ false → Other id
other id e =
    let e0 = neither (eqb id 0) (among id (5 ∷ 7 ∷ 9 ∷ 11 ∷ 26 ∷ [])) (neither (among id (0 ∷ 5 ∷ 7 ∷ 9 ∷ 11 ∷ 26 ∷ [])) (ltb 63 id) e).0 in
    let e5 = neither (eqb id 5) (among id (7 ∷ 9 ∷ 11 ∷ 26 ∷ [])) e0.1 in
    let e7 = neither (eqb id 7) (among id (9 ∷ 11 ∷ 26 ∷ [])) e5.1 in
    let e9 = neither (eqb id 9) (among id (11 ∷ 26 ∷ [])) e7.1 in
    let e11 = neither (eqb id 11) (among id (26 ∷ [])) e9.1 in
    let e26 = neither (eqb id 26) false e11.1 in
    record { not0 = e0.0; not5 = e5.0; not7 = e7.0; not9 = e9.0; not11 = e11.0; not26 = e26.0 }

-- ---- single fields
flag_back : (f : Bool) → eqb (pick f 1 0) 1 ≡ f
flag_back true = refl
flag_back false = refl

slot_back : (s : Slot) → slot_of (slot_id s) ≡ s
slot_back slot.Subframe3 = refl
slot_back slot.Subframe4 = refl

head_back : (h : Head) (id : ℕ) (b : Beside) (fs : List Field) → head_of (map (number_of b) (head_fields h id ++ fs)) ≡ h
head_back h id b fs =
    λ i. record { tlm = h.tlm; towc = h.towc; alert = flag_back h.alert i; auto_nav = flag_back h.auto_nav i; spare = h.spare }

-- the numbers, with a head, a slot and flags that are known
abbrev known : Head → Slot → (ℕ → Bool) → List ℤ → View
known h s f zs =
    record {
      head = h;
      slot = s;
      nibble = unsigned zs;
      byte = unsigned zs;
      short = unsigned zs;
      plain = unsigned zs;
      wide = unsigned zs;
      signed = nth zs;
      flag = f;
      week = λ k. record { 0 = unsigned zs k };
    }

-- ---- what stands beside
zeros_all : (l : List ℕ) → AtMost 0 l → replicate (length l) 0 ≡ l
zeros_all [] h = refl
zeros_all (a ∷ l) h = let z : 0 ≡ a = omega arith in λ i. z i ∷ zeros_all l h.1 i

zeros_are : (n : ℕ) (l : List ℕ) → zeros? n l ≡ true → replicate n 0 ≡ l
zeros_are n l e =
    let p = both_holds (eqb (length l) n) (at_most 0 l) e in
    ap (λ (k : ℕ). replicate k 0) (sym (eqb-true (length l) n p.0)) ∙ zeros_all l (at_most_holds 0 l p.1)

none_all : (ps : List Pair) → AtMost 0 (map (λ p. p.givei) ps) → AtMost 0 (map (λ p. p.givd) ps) → replicate (length ps) no_pair ≡ ps
none_all [] h k = refl
none_all (p ∷ ps) h k =
    let e : 0 ≡ p.givei = omega arith in
    let d : 0 ≡ p.givd = omega arith in
    λ i. record { givei = e i; givd = d i } ∷ none_all ps h.1 k.1 i

pairs_are : (b : Beside) → both (zeros? 15 (giveis b)) (zeros? 15 (givds b)) ≡ true → replicate 15 no_pair ≡ b.pairs
pairs_are b u =
    let p = both_holds (zeros? 15 (giveis b)) (zeros? 15 (givds b)) u in
    let e = both_holds (eqb (length (giveis b)) 15) (at_most 0 (giveis b)) p.0 in
    let d = both_holds (eqb (length (givds b)) 15) (at_most 0 (givds b)) p.1 in
    let long : 15 ≡ length b.pairs = sym (eqb-true (length (giveis b)) 15 e.0) ∙ length-map b.pairs (λ p. p.givei) in
    ap (λ (k : ℕ). replicate k no_pair) long ∙ none_all b.pairs (at_most_holds 0 (giveis b) e.1) (at_most_holds 0 (givds b) d.1)

-- as many pairs as there are, told by their numbers
pairs_whole : (b : Beside) → length (giveis b) ≡ 15 → list_of 15 (λ i. record { givei = at (giveis b) i; givd = at (givds b) i }) ≡ b.pairs
pairs_whole b e =
    let pair : ℕ → Pair = λ i. record { givei = at (giveis b) i; givd = at (givds b) i } in
    sym (
    filled_list no_pair pair 15 15 b.pairs (omega arith) (
    record {
      long = sym (length-map b.pairs (λ p. p.givei)) ∙ e;
      here = λ k h j. record { givei = sym (map_at (λ p. p.givei) b.pairs no_pair k) j; givd = sym (map_at (λ p. p.givd) b.pairs no_pair k) j };
    }
    )
    )

whole : (n : ℕ) (l : List ℕ) → length l ≡ n → build n (at l) ≡ l
whole n l e = sym (built n (at l) l e (λ i h. refl))

nothing_back : (b : Beside) → both (zeros? 28 b.bits) (both (zeros? 15 (giveis b)) (zeros? 15 (givds b))) ≡ true → nothing ≡ b
nothing_back b u =
    let p = both_holds (zeros? 28 b.bits) (both (zeros? 15 (giveis b)) (zeros? 15 (givds b))) u in
    λ i. record { bits = zeros_are 28 b.bits p.0 i; pairs = pairs_are b p.1 i }

pairs_back : (c : IonoGrid) (b : Beside) → unused_zero pairs b ≡ true → pairs_of (view_of (numbers_of (case.IonoGrid c) b)) ≡ b
unfolding build
pairs_back c b u =
    let p = both_holds (zeros? 28 b.bits) (both (eqb (length (giveis b)) 15) (eqb (length (givds b)) 15)) u in
    let q = both_holds (eqb (length (giveis b)) 15) (eqb (length (givds b)) 15) p.1 in
    λ i. record { bits = zeros_are 28 b.bits p.0 i; pairs = pairs_whole b (eqb-true (length (giveis b)) 15 q.0) i }

-- the data of a null or unread message, whatever its ID
data_back : (h : Head) (s : Slot) (id prn : ℕ) (b : Beside) → unused_zero bits b ≡ true
    → data_of (view_of (map (number_of b) (head_fields h (slot_id s) ++ message_fields id data_fields prn))) ≡ b
unfolding build
data_back h s id prn b u =
    let p = both_holds (both (eqb (length b.bits) 28) (eqb (at b.bits 27 % 16) 0)) (both (zeros? 15 (giveis b)) (zeros? 15 (givds b))) u in
    let q = both_holds (eqb (length b.bits) 28) (eqb (at b.bits 27 % 16) 0) p.0 in
    let low : at b.bits 27 % 16 ≡ 0 = eqb-true (at b.bits 27 % 16) 0 q.1 in
    let last : at b.bits 27 / 16 * 16 ≡ at b.bits 27 = omega arith in
    let all : build 28 (λ i. pick (eqb i 27) (at b.bits 27 / 16 * 16) (at b.bits i)) ≡ b.bits =
    ap (λ (n : ℕ). build 28 (λ i. pick (eqb i 27) n (at b.bits i))) last
    ∙ whole 28 b.bits (eqb-true (length b.bits) 28 q.0) in
    λ i. record { bits = all i; pairs = pairs_are b p.1 i }

-- ---- the records
-- the numbers of the fields, with the head and the slot that the record has
taken_back : (h : Head) (s : Slot) (b : Beside) (fs : List Field)
    → let zs = map (number_of b) (head_fields h (slot_id s) ++ fs) in view_of zs ≡ known h s (λ k. eqb (unsigned zs k) 1) zs
taken_back h s b fs =
    let zs = map (number_of b) (head_fields h (slot_id s) ++ fs) in
    λ i. known (head_back h (slot_id s) b fs i) (slot_back s i) (λ k. eqb (unsigned zs k) 1) zs

-- the flags of subframe 1 are numbers 16 and 17
subframe1_back : (c : Subframe1) (b : Beside) → subframe1_of (view_of (numbers_of (case.Subframe1 c) b)) ≡ c
subframe1_back c b =
    let flags : ℕ → Bool = λ k. pick (eqb k 16) c.l5_flag c.s_flag in
    λ i. subframe1_of (known (head_back c.head 0 b (subframe1_fields c) i) (slot_of 0) (λ k. flag_back (flags k) i) (numbers_of (case.Subframe1 c) b))

subframe2_back : (c : Subframe2) (b : Beside) → subframe2_of (view_of (numbers_of (case.Subframe2 c) b)) ≡ c
subframe2_back c b =
    let zs = numbers_of (case.Subframe2 c) b in
    λ i. subframe2_of (known (head_back c.head 1 b (subframe2_fields c) i) (slot_of 1) (λ k. eqb (unsigned zs k) 1) zs)

message_entry : (s : Slot) (id : ℕ) (t : View) → entry_by (slot_id s) id t ≡ message_by id t
unfolding entry_by
message_entry slot.Subframe3 id t = refl
message_entry slot.Subframe4 id t = refl

-- ---- by the two IDs
-- m is the message ID, where the record is a message
abbrev pub Named : Record → ℕ → Type 0
Named (case.Subframe1 c) m = Unit {0}
Named (case.Subframe2 c) m = Unit {0}
Named (case.IonoGrid c) m = m ≡ 5
Named (case.Almanac c) m = m ≡ 7
Named (case.GpsTime c) m = m ≡ 9
Named (case.EarthIono c) m = m ≡ 11
Named (case.GnssTime c) m = m ≡ 26
Named (case.Null c) m = m ≡ 0
Named (case.Unread c) m = m ≡ c.id

message_layout_lem : (s : Slot) (id : ℕ) → layout_by (slot_id s) id ≡ message_layout id
unfolding layout_by
message_layout_lem slot.Subframe3 id = refl
message_layout_lem slot.Subframe4 id = refl

pub layout_back : (r : Record) (b : Beside) (m : ℕ) → Named r m → id_refused r ≡ false → layout_by (unsigned (numbers_of r b) 4) m ≡ layout_of r
unfolding layout_by
layout_back (case.Subframe1 c) b m n d = refl
layout_back (case.Subframe2 c) b m n d = refl
layout_back (case.IonoGrid c) b m n d = rw n (message_layout_lem c.slot 5)
layout_back (case.Almanac c) b m n d = rw n (message_layout_lem c.slot 7)
layout_back (case.GpsTime c) b m n d = rw n (message_layout_lem c.slot 9)
layout_back (case.EarthIono c) b m n d = rw n (message_layout_lem c.slot 11)
layout_back (case.GnssTime c) b m n d = rw n (message_layout_lem c.slot 26)
layout_back (case.Null c) b m n d = rw n (message_layout_lem c.slot 0)
layout_back (case.Unread c) b m n d =
    let o = other c.id d in
    rw n (message_layout_lem c.slot c.id ∙ rw (o.not5, o.not7, o.not9, o.not11, o.not26))

-- a message: what makes its record of the numbers, and what makes what stands beside
message_back : (make : View → Record) (h : Head) (s : Slot) (fs : List Field) (b x : Beside) (m id : ℕ) → m ≡ id
    → let zs = map (number_of b) (head_fields h (slot_id s) ++ fs) in message_by id (view_of zs) ≡ (record { «record» = make (view_of zs); beside = x }) → x ≡ b
    → entry_by (slot_id s) m (view_of zs) ≡ (record { «record» = make (known h s (λ k. eqb (unsigned zs k) 1) zs); beside = b })
message_back make h s fs b x m id n e y =
    let zs = map (number_of b) (head_fields h (slot_id s) ++ fs) in
    ap (λ (k : ℕ). entry_by (slot_id s) k (view_of zs)) n ∙ message_entry s id (view_of zs) ∙ e ∙ (λ i. record { «record» = make (taken_back h s b fs i); beside = y i })

pub entry_back : (r : Record) (b : Beside) (m : ℕ) → Named r m → id_refused r ≡ false → unused_zero (used_by (layout_of r)) b ≡ true
    → entry_by (unsigned (numbers_of r b) 4) m (view_of (numbers_of r b)) ≡ (record { «record» = r; beside = b })
unfolding entry_by
entry_back (case.Subframe1 c) b m n d u = λ i. record { «record» = case.Subframe1 (subframe1_back c b i); beside = nothing_back b u i }
entry_back (case.Subframe2 c) b m n d u = λ i. record { «record» = case.Subframe2 (subframe2_back c b i); beside = nothing_back b u i }
entry_back (case.IonoGrid c) b m n d u =
    message_back (λ t. case.IonoGrid (iono_grid_of t)) c.head c.slot (message_fields 5 (iono_grid_fields c) c.prn) b _ m 5 n refl (pairs_back c b u)
entry_back (case.Almanac c) b m n d u =
    message_back (λ t. case.Almanac (almanac_of t)) c.head c.slot (message_fields 7 (almanac_fields c) c.prn) b _ m 7 n refl (nothing_back b u)
entry_back (case.GpsTime c) b m n d u =
    message_back (λ t. case.GpsTime (time_offsets_of t)) c.head c.slot (message_fields 9 (time_offsets_fields c) c.prn) b _ m 9 n refl (nothing_back b u)
entry_back (case.EarthIono c) b m n d u =
    message_back (λ t. case.EarthIono (earth_iono_of t)) c.head c.slot (message_fields 11 (earth_iono_fields c) c.prn) b _ m 11 n refl (nothing_back b u)
entry_back (case.GnssTime c) b m n d u =
    message_back (λ t. case.GnssTime (time_offsets_of t)) c.head c.slot (message_fields 26 (time_offsets_fields c) c.prn) b _ m 26 n refl (nothing_back b u)
entry_back (case.Null c) b m n d u =
    message_back (λ t. case.Null (null_of t)) c.head c.slot (message_fields 0 data_fields c.prn) b _ m 0 n refl (data_back c.head c.slot 0 c.prn b u)
entry_back (case.Unread c) b m n d u =
    let o = other c.id d in
    message_back (λ t. case.Unread (unread_of t)) c.head c.slot (message_fields c.id data_fields c.prn) b _ m c.id n
    (rw (o.not5, o.not7, o.not9, o.not11, o.not26, o.not0)) (data_back c.head c.slot c.id c.prn b u)
