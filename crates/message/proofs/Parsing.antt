-- The record of the patterns of a body's numbers is the record of the numbers: kind by kind, since each takes a number only where its row has
-- the width and the sign. Assumes nothing.
use mathlib.Core.Path.{◌≡◌, refl, ap, subst}
use mathlib.Core.Bool.{Bool, true, false}
use mathlib.Core.List.{List}
use Prim.Native.Nat.{ℕ}
use lib.Dec.{T}
use Rattle.bits.specs.Lists.{build}
use Rattle.bits.proofs.Test.{every, every_at}
use Rattle.fields.specs.declared.Layout.{Layout}
use Rattle.fields.specs.declared.Layout.TheVariants as layout
use Rattle.fields.specs.Table.{head, message_id, prn, subframe1, subframe2, iono_grid, almanac, time_offsets, earth_iono, data_bytes, rows_of}
use Rattle.fields.specs.Fields.{values}
use Rattle.fields.specs.Patterns.{patterns}
use Rattle.message.specs.declared.Entry.{Entry}
use Rattle.message.specs.declared.Record.TheVariants as case
use Rattle.message.specs.Numbers.{View, view_of, unread_of, data_of}
use Rattle.message.specs.Raw.{look}
use Rattle.message.specs.Records.{layout_by, message_layout, entry_by, message_by}
use Rattle.message.proofs.Choice.{test}
use Rattle.message.proofs.Sorting.{up_to, there, there_same}

is_true : (t : Bool) → T t → t ≡ true
is_true true h = refl
is_true false h = absurd h

-- the fields of the head have at most 32 bits
leads : (l : Layout) → T (every (λ i. up_to 32 (rows_of l) i) 6)
unfolding head
leads layout.Subframe1 = tt
leads layout.Subframe2 = tt
leads layout.IonoGrid = tt
leads layout.Almanac = tt
leads layout.TimeOffsets = tt
leads layout.EarthIono = tt
leads layout.Data = tt

module _ (body a : List ℕ) where
  same : (l : Layout) → a ≡ patterns (values (rows_of l) body) → there (rows_of l) (look a) ≡ there (rows_of l) (view_of (values (rows_of l) body))
  same l e =
      there_same body (rows_of l) a e (λ i h. is_true (up_to 32 (rows_of l) i) (every_at (λ i. up_to 32 (rows_of l) i) 6 (leads l) i h))

  -- what `make` takes of the patterns is what it takes of the numbers of a body of the layout l
  abbrev Takes : Layout → (View → Entry) → Type 0
  Takes l make = a ≡ patterns (values (rows_of l) body) → make (look a) ≡ make (view_of (values (rows_of l) body))

  message : (m : ℕ) → Takes (message_layout m) (message_by m)
  unfolding head message_id prn iono_grid almanac time_offsets earth_iono data_bytes build
  message m =
      let like : (n : ℕ) → n ≡ m → Takes (message_layout n) (message_by n) → Takes (message_layout m) (message_by m) =
      λ n e f. subst (λ (k : ℕ). Takes (message_layout k) (message_by k)) e f in
      test m 5 (λ q. like 5 q (λ e. ap (message_by 5) (same layout.IonoGrid e)))
      (λ n5. test m 7 (λ q. like 7 q (λ e. ap (message_by 7) (same layout.Almanac e)))
      (λ n7. test m 9 (λ q. like 9 q (λ e. ap (message_by 9) (same layout.TimeOffsets e)))
      (λ n9. test m 11 (λ q. like 11 q (λ e. ap (message_by 11) (same layout.EarthIono e)))
      (λ n11. test m 26 (λ q. like 26 q (λ e. ap (message_by 26) (same layout.TimeOffsets e)))
      (λ n26. test m 0 (λ q. like 0 q (λ e. ap (message_by 0) (same layout.Data e)))
      (λ n0. rw (n5, n7, n9, n11, n26, n0) (λ e. ap (λ (u : View). record { «record» = case.Unread (unread_of u); beside = data_of u }) (same layout.Data e))))))))

  pub entry : (s m : ℕ) → Takes (layout_by s m) (entry_by s m)
  unfolding layout_by entry_by head subframe1 subframe2
  entry s m =
      test s 0 (λ q. rw (← q) (λ e. ap (entry_by 0 m) (same layout.Subframe1 e)))
      (λ n0. test s 1 (λ q. rw (← q) (λ e. ap (entry_by 1 m) (same layout.Subframe2 e)))
      (λ n1. rw (n0, n1) (message m)))
