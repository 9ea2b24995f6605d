-- What is read from a body: its numbers, written again, are the body's, and the writer refuses none of it. Assumes nothing.
use mathlib.Core.Path.{◌≡◌, refl, sym, ap, subst, ◌∙◌}
use mathlib.Core.Bool.{true, false}
use mathlib.Core.List.{List, [], ◌∷◌, ◌++◌, map}
use Prim.Native.Nat.{ℕ, zero, suc, ◌+◌, ◌*◌, ◌/◌, ◌%◌, ◌≤◌, ◌<◌}
use native.Mathlib.Omega.{arith}
use borrow.Author.Tests.{eqb-false, le-ltb}
use lib.Dec.{eqb}
use lib.IntN.{ℤ, pos}
use lib.ListN as lists
use lib.ListN.{drop}
use Rattle.bits.specs.Lists.{pick, part, build, at_most}
use Rattle.bits.specs.Numbers.{number}
use Rattle.bits.proofs.Numbers.{number_few}
use Rattle.fields.specs.declared.Layout.{Layout}
use Rattle.fields.specs.declared.Layout.TheVariants as layout
use Rattle.fields.specs.Table as table
use Rattle.fields.specs.Table.{head, prn, subframe1, subframe2, iono_grid, almanac, time_offsets, earth_iono, data_bytes, rows_of}
use Rattle.fields.specs.Fields.{value_at, values}
use Rattle.message.specs.declared.Record.TheVariants as case
use Rattle.message.specs.declared.Beside.{Beside}
use Rattle.message.specs.declared.Entry.{Entry}
use Rattle.message.specs.Numbers.{number_of, head_fields, head_of, slot_id, slot_of, unsigned, message_fields, data_fields, view_of, nothing}
use Rattle.message.specs.Numbers.{subframe1_of, subframe2_of, iono_grid_of, almanac_of, time_offsets_of, earth_iono_of, null_of, unread_of, pairs_of, data_of}
use Rattle.message.specs.Records.{subframe_id, message_id, among, id_refused, layout_of, layout_by, message_layout, entry_by, from_body, message_by, alone, numbers_of, used_by, bits, unused_zero, towc_in, subframe_of, message_id_of}
use Rattle.message.proofs.Choice.{test}

-- the record e of a body of the layout l
pub record Read (body : List ℕ) (l : Layout) (e : Entry) : Type 0 where
  pub same : numbers_of e.«record» e.beside ≡ values (rows_of l) body
  pub lays : layout_of e.«record» ≡ l
  pub free : id_refused e.«record» ≡ false
  pub clear : unused_zero (used_by l) e.beside ≡ true
  pub time : towc_in e.«record» ≡ number (part body 8 17)
  pub frame : subframe_of e.«record» ≡ subframe_id body + 1
  pub none : subframe_id body < 2 → message_id_of e.«record» ≡ 0
  pub message : 2 ≤ subframe_id body → message_id_of e.«record» ≡ message_id body

-- ---- single numbers
flag_again : (n : ℕ) → n < 2 → pick (eqb n 1) 1 0 ≡ n
flag_again zero h = refl
flag_again (suc zero) h = refl
flag_again (suc (suc n)) h = absurd (omega arith)

slot_number : (n : ℕ) → 2 ≤ n → n < 4 → slot_id (slot_of n) ≡ n
slot_number zero h l = absurd (omega arith)
slot_number (suc zero) h l = absurd (omega arith)
slot_number (suc (suc zero)) h l = refl
slot_number (suc (suc (suc zero))) h l = refl
slot_number (suc (suc (suc (suc n)))) h l = absurd (omega arith)

flag_number : (body : List ℕ) (i : ℕ) → pick (eqb (number (part body i 1)) 1) 1 0 ≡ number (part body i 1)
flag_number body i = flag_again (number (part body i 1)) (number_few (drop i body) 1 1 (omega arith))

module _ (body : List ℕ) where
  -- the six numbers of the head
  head_again : (id : ℕ) (b : Beside) (zs : List ℤ) → id ≡ subframe_id body
      → map (number_of b) (head_fields (head_of (map (value_at body) head ++ zs)) id) ≡ map (value_at body) head
  unfolding value_at head
  head_again id b zs e =
      λ i.
      pos (number (part body 0 8)) ∷
      pos (number (part body 8 17)) ∷
      pos (flag_number body 25 i) ∷
      pos (flag_number body 26 i) ∷
      pos (e i) ∷
      pos (number (part body 29 1)) ∷
      []

  subframe1_read : subframe_id body ≡ 0 → Read body layout.Subframe1 (alone (case.Subframe1 (subframe1_of (view_of (values (rows_of layout.Subframe1) body)))))
  unfolding value_at head subframe1 at_most
  subframe1_read e =
      let own = map (value_at body) subframe1 in
      record {
        same =
            λ i.
            head_again 0 nothing own (sym e) i
            ++ (lists.take 10 own ++ (pos (flag_number body 154 i) ∷ pos (flag_number body 155 i) ∷ drop 12 own));
        lays = refl;
        free = refl;
        clear = refl;
        time = refl;
        frame = omega arith;
        none = λ h. refl;
        message = λ h. absurd (omega arith);
      }

  subframe2_read : subframe_id body ≡ 1 → Read body layout.Subframe2 (alone (case.Subframe2 (subframe2_of (view_of (values (rows_of layout.Subframe2) body)))))
  unfolding value_at head subframe2 at_most
  subframe2_read e =
      let own = map (value_at body) subframe2 in
      record {
        same = λ i. head_again 1 nothing own (sym e) i ++ own;
        lays = refl;
        free = refl;
        clear = refl;
        time = refl;
        frame = omega arith;
        none = λ h. refl;
        message = λ h. absurd (omega arith);
      }

  -- ---- subframes 3 and 4
  module _ (late : 2 ≤ subframe_id body) where
    slot_again : slot_id (slot_of (subframe_id body)) ≡ subframe_id body
    slot_again = slot_number (subframe_id body) late (number_few (drop 27 body) 2 2 (omega arith))

    message_read : {l : Layout} {e : Entry} → numbers_of e.«record» e.beside ≡ values (rows_of l) body → layout_of e.«record» ≡ l
        → id_refused e.«record» ≡ false → unused_zero (used_by l) e.beside ≡ true → towc_in e.«record» ≡ number (part body 8 17)
        → subframe_of e.«record» ≡ slot_id (slot_of (subframe_id body)) + 1 → message_id_of e.«record» ≡ message_id body → Read body l e
    message_read same lays free clear time frame message =
        record {
          same = same;
          lays = lays;
          free = free;
          clear = clear;
          time = time;
          frame = frame ∙ ap (λ (n : ℕ). n + 1) slot_again;
          none = λ h. absurd (omega arith);
          message = λ h. message;
        }

    message_again : (id : ℕ) (b : Beside) (zs own : List ℤ) → id ≡ message_id body
        → map (number_of b) (head_fields (head_of (map (value_at body) head ++ zs)) (slot_id (slot_of (subframe_id body)))) ++ (pos id ∷ own)
        ≡ map (value_at body) head ++ (value_at body table.message_id ∷ own)
    unfolding value_at table.message_id
    message_again id b zs own e = λ i. head_again (slot_id (slot_of (subframe_id body))) b zs slot_again i ++ (pos (e i) ∷ own)

    almanac_read : 7 ≡ message_id body → Read body layout.Almanac (alone (case.Almanac (almanac_of (view_of (values (rows_of layout.Almanac) body)))))
    unfolding value_at head table.message_id almanac prn at_most
    almanac_read e =
        let own = map (value_at body) (almanac ++ (prn ∷ [])) in
        message_read (message_again 7 nothing (value_at body table.message_id ∷ own) own e) refl refl refl refl refl e

    gps_time_read : 9 ≡ message_id body → Read body layout.TimeOffsets (alone (case.GpsTime (time_offsets_of (view_of (values (rows_of layout.TimeOffsets) body)))))
    unfolding value_at head table.message_id time_offsets prn at_most
    gps_time_read e =
        let own = map (value_at body) (time_offsets ++ (prn ∷ [])) in
        message_read (message_again 9 nothing (value_at body table.message_id ∷ own) own e) refl refl refl refl refl e

    earth_iono_read : 11 ≡ message_id body → Read body layout.EarthIono (alone (case.EarthIono (earth_iono_of (view_of (values (rows_of layout.EarthIono) body)))))
    unfolding value_at head table.message_id earth_iono prn at_most
    earth_iono_read e =
        let own = map (value_at body) (earth_iono ++ (prn ∷ [])) in
        message_read (message_again 11 nothing (value_at body table.message_id ∷ own) own e) refl refl refl refl refl e

    gnss_time_read : 26 ≡ message_id body → Read body layout.TimeOffsets (alone (case.GnssTime (time_offsets_of (view_of (values (rows_of layout.TimeOffsets) body)))))
    unfolding value_at head table.message_id time_offsets prn at_most
    gnss_time_read e =
        let own = map (value_at body) (time_offsets ++ (prn ∷ [])) in
        message_read (message_again 26 nothing (value_at body table.message_id ∷ own) own e) refl refl refl refl refl e

    iono_grid_read : 5 ≡ message_id body
        → let zs = values (rows_of layout.IonoGrid) body in Read body layout.IonoGrid (record { «record» = case.IonoGrid (iono_grid_of (view_of zs)); beside = pairs_of (view_of zs) })
    unfolding value_at head table.message_id iono_grid prn build at_most
    iono_grid_read e =
        let own = map (value_at body) (iono_grid ++ (prn ∷ [])) in
        message_read (message_again 5 (pairs_of (view_of (values (rows_of layout.IonoGrid) body))) (value_at body table.message_id ∷ own) own e) refl refl refl refl refl e

    -- a message that keeps its 220 bits
    abbrev data_bits : Beside
    data_bits = data_of (view_of (values (rows_of layout.Data) body))

    data_again : (id : ℕ) → id ≡ message_id body
        → let zs = values (rows_of layout.Data) body in map (number_of data_bits) (head_fields (head_of zs) (slot_id (slot_of (subframe_id body))) ++ message_fields id data_fields (unsigned zs 35)) ≡ zs
    unfolding value_at head table.message_id data_bytes prn build
    data_again id e =
        let own = map (value_at body) (data_bytes ++ (prn ∷ [])) in
        let n = number (part body 252 4) in
        let last : n * 16 / 16 ≡ n = omega arith in
        message_again id data_bits (value_at body table.message_id ∷ own) (lists.take 27 own ++ (pos (n * 16 / 16) ∷ drop 28 own)) e
        ∙ (λ i. map (value_at body) head ++ (value_at body table.message_id ∷ (lists.take 27 own ++ (pos (last i) ∷ drop 28 own))))

    data_clear : unused_zero bits data_bits ≡ true
    unfolding value_at head table.message_id data_bytes prn build at_most
    data_clear = let n = number (part body 252 4) in let z : n * 16 % 16 ≡ 0 = omega arith in rw z

    null_read : 0 ≡ message_id body → Read body layout.Data (record { «record» = case.Null (null_of (view_of (values (rows_of layout.Data) body))); beside = data_bits })
    unfolding value_at head
    null_read e = message_read (data_again 0 e) refl refl data_clear refl refl e

    unread_read : among (message_id body) (0 ∷ 5 ∷ 7 ∷ 9 ∷ 11 ∷ 26 ∷ []) ≡ false
        → Read body layout.Data (record { «record» = case.Unread (unread_of (view_of (values (rows_of layout.Data) body))); beside = data_bits })
    unfolding value_at head table.message_id
    unread_read e =
        let small : message_id body < 64 = number_few (drop 30 body) 6 6 (omega arith) in
        message_read (data_again (message_id body) refl) refl (rw e (le-ltb 63 (message_id body) (omega arith))) data_clear refl refl refl

-- ---- by the two IDs
not_early : (n : ℕ) → eqb n 0 ≡ false → eqb n 1 ≡ false → 2 ≤ n
not_early zero a b = absurd (eqb-false 0 0 a refl)
not_early (suc zero) a b = absurd (eqb-false 1 1 b refl)
not_early (suc (suc n)) a b = omega arith

module _ (body : List ℕ) where
  -- the body read as a message with the ID m; and as a subframe with the ID s
  abbrev ReadMessage : ℕ → Type 0
  ReadMessage m = Read body (message_layout m) (message_by m (view_of (values (rows_of (message_layout m)) body)))

  message_reads : 2 ≤ subframe_id body → ReadMessage (message_id body)
  message_reads s =
      let like : (n : ℕ) → n ≡ message_id body → ReadMessage n → ReadMessage (message_id body) = λ n e r. subst ReadMessage e r in
      test (message_id body) 5 (λ e. like 5 e (iono_grid_read body s e))
      (λ n5. test (message_id body) 7 (λ e. like 7 e (almanac_read body s e))
      (λ n7. test (message_id body) 9 (λ e. like 9 e (gps_time_read body s e))
      (λ n9. test (message_id body) 11 (λ e. like 11 e (earth_iono_read body s e))
      (λ n11. test (message_id body) 26 (λ e. like 26 e (gnss_time_read body s e))
      (λ n26. test (message_id body) 0 (λ e. like 0 e (null_read body s e))
      (λ n0. rw (n5, n7, n9, n11, n26, n0) (unread_read body s (rw (n0, n5, n7, n9, n11, n26)))))))))

  pub reads : Read body (layout_by (subframe_id body) (message_id body)) (from_body body)
  unfolding from_body entry_by layout_by
  reads =
      let s = subframe_id body in
      test s 0 (λ e. rw (← e) (subframe1_read body (sym e)))
      (λ n0. test s 1 (λ e. rw (← e) (subframe2_read body (sym e)))
      (λ n1. rw (n0, n1) (message_reads (not_early s n0 n1))))
