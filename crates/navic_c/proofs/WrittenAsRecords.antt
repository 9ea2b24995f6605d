-- A record written by its numbers is refused and laid as the writer of records does it. Assumes nothing.
use mathlib.Core.Path.{◌≡◌, refl, sym}
use mathlib.Core.Bool.{Bool, true, false}
use mathlib.Core.List.{List, [], ◌∷◌}
use Prim.Native.Nat.{ℕ}
use borrow.Author.Tests.{eq-eqb}
use lib.Dec.{eqb, leb, ltb}
use lib.IntN.{ℤ}
use lib.ListN.{length}
use Rattle.ephemeris.proofs.Alone.{same}
use Rattle.bits.proofs.Both.{both_false}
use Rattle.message.specs.declared.Record.{Record}
use Rattle.message.specs.declared.Record.TheVariants as case
use Rattle.message.specs.declared.Beside.{Beside}
use Rattle.message.specs.declared.Entry.{Entry}
use Rattle.message.specs.Numbers.{unsigned, slot_id}
use Rattle.message.specs.Records.{among, layout_of, numbers_of, to_body, id_refused, record_fault, fault_of, used_by, unused_zero, towc_in}
use Rattle.message.proofs.Choice.{neither}
use Rattle.message.proofs.Laws.{numbers_long}
use Rattle.message.proofs.Return.{Named, layout_back}
use Rattle.bits.specs.Lists.{pick}
use Rattle.demands.specs.Family.{writing_of, write_into, symbols_of}
use Rattle.navic.specs.Navic.{entry_refusal, entry_beside, written_by, write_answer, lent_after_write}
use Rattle.navic_c.specs.declared.Written.{Written}
use Rattle.weektime.specs.Time.{towc_refused}
use Rattle.navic_c.specs.Numbers.{padded, layout_in, body_from, id_above, untimely, fault_from, refusal, numbered}
use Rattle.navic_c.specs.Calls.{written_of, judged_as}
use Rattle.navic_c.proofs.Padding.{padded_42, padded_body, padded_fault}

abbrev pub entry_of : Record → Beside → Entry
entry_of r b = record { «record» = r; beside = b }

-- the numbers zs say of the record r, with b beside it, all that the writer asks
pub record Says (zs : List ℤ) (r : Record) (b : Beside) : Type 0 where
  pub layout : layout_in zs ≡ layout_of r
  pub body : body_from zs ≡ to_body r b
  pub fault : fault_from zs ≡ fault_of r b
  pub time : untimely zs ≡ towc_refused (towc_in r)
  pub own_id : id_above zs ≡ false
  pub long : length zs ≡ 42
  pub refused : refusal zs ≡ entry_refusal (entry_of r b)

-- number 6 is the message ID
named : (r : Record) (b : Beside) → Named r (unsigned (padded (numbers_of r b)) 6)
named (case.Subframe1 c) b = tt
named (case.Subframe2 c) b = tt
named (case.IonoGrid c) b = refl
named (case.Almanac c) b = refl
named (case.GpsTime c) b = refl
named (case.EarthIono c) b = refl
named (case.GnssTime c) b = refl
named (case.Null c) b = refl
named (case.Unread c) b = refl

module _ (r : Record) (b : Beside) (d : id_refused r ≡ false) where
  layout_written : layout_in (padded (numbers_of r b)) ≡ layout_of r
  unfolding layout_in
  layout_written = layout_back r b (unsigned (padded (numbers_of r b)) 6) (named r b) d

-- an unread message's ID is refused above 63, and the others' are below
id_written : (r : Record) (b : Beside) → id_refused r ≡ false → id_above (padded (numbers_of r b)) ≡ false
unfolding id_above
id_written (case.Subframe1 c) b d = refl
id_written (case.Subframe2 c) b d = refl
id_written (case.IonoGrid c) b d = both_false (ltb 1 (slot_id c.slot))
id_written (case.Almanac c) b d = both_false (ltb 1 (slot_id c.slot))
id_written (case.GpsTime c) b d = both_false (ltb 1 (slot_id c.slot))
id_written (case.EarthIono c) b d = both_false (ltb 1 (slot_id c.slot))
id_written (case.GnssTime c) b d = both_false (ltb 1 (slot_id c.slot))
id_written (case.Null c) b d = both_false (ltb 1 (slot_id c.slot))
id_written (case.Unread c) b d =
    rw (neither (among c.id (0 ∷ 5 ∷ 7 ∷ 9 ∷ 11 ∷ 26 ∷ [])) (ltb 63 c.id) d).1 (both_false (ltb 1 (slot_id c.slot)))

module _ (r : Record) (b : Beside) (d : id_refused r ≡ false) (u : unused_zero (used_by (layout_of r)) b ≡ true) where
  abbrev zs : List ℤ
  zs = padded (numbers_of r b)

  body_written : body_from zs ≡ to_body r b
  unfolding to_body
  body_written = padded_body (layout_of r) (numbers_of r b) (layout_written r b d) (numbers_long r b)

  fault_written : fault_from zs ≡ fault_of r b
  unfolding fault_of record_fault
  fault_written = rw (u, padded_fault (layout_of r) (numbers_of r b) (layout_written r b d) (numbers_long r b)) (sym (same _))

  time_written : untimely zs ≡ towc_refused (towc_in r)
  unfolding untimely
  time_written = refl

  long_written : length zs ≡ 42
  long_written = padded_42 (layout_of r) (numbers_of r b) (layout_written r b d) (numbers_long r b)

  refused_alike : refusal zs ≡ entry_refusal (entry_of r b)
  unfolding refusal entry_refusal
  refused_alike = rw (eq-eqb (length zs) 42 long_written, id_written r b d, time_written, fault_written, d) refl

  pub written_as_record : Says (padded (numbers_of r b)) r b
  written_as_record =
      record {
        layout = layout_written r b d;
        body = body_written;
        fault = fault_written;
        time = time_written;
        own_id = id_written r b d;
        long = long_written;
        refused = refused_alike;
      }

  -- so the answer is that of crate navic's writer, and so are the lent symbols afterwards
  by_tests : (room i l f : Bool) (k : ℕ)
      → let n = pick room (pick i 9 (pick l 7 (pick {A = ℕ} f 0 8))) 2 in
      let w = written_by n (pick (eqb (pick i 9 (pick l 7 (pick {A = ℕ} f 0 8))) 8) k 0) in
      ◌≡◌ {A = Written} (record { refusal = n; first_bit = pick (eqb n 8) k 0 }) (judged_as w)
  by_tests false i l f k = refl
  by_tests true true l f k = refl
  by_tests true false true f k = refl
  by_tests true false false true k = refl
  by_tests true false false false k = refl

  pub answered_alike : (room : ℕ) → written_of zs room ≡ judged_as (write_answer (entry_of r b) room)
  unfolding written_of writing_of write_answer entry_beside entry_refusal
  answered_alike room =
      rw (refused_alike, fault_written) (by_tests (leb 600 room) (id_refused r) (towc_refused (towc_in r)) (eqb (fault_of r b) 0) (fault_of r b))

  pub lent_alike : (lent : List ℕ) → write_into numbered zs lent ≡ lent_after_write (entry_of r b) lent
  unfolding write_into writing_of symbols_of lent_after_write
  lent_alike lent = rw (refused_alike, body_written) refl
