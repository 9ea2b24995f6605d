-- A record as 42 numbers: one for each row of its layout, in the table's order, what stands beside the record among them, and 0 behind them.
-- Such lists are a family of messages of their own, so that the demands hold of them too. Assumes nothing.
use Rattle.std.specs.Prelude.{◌≡◌, Bool, true, false, List, [], ◌∷◌, ◌++◌, ℕ, ◌-◌, eqb, ltb, ℤ, pos, negsuc, length, drop, replicate}
use Rattle.bits.specs.Lists.{pick, both}
use Rattle.fields.specs.declared.Layout.{Layout}
use Rattle.fields.specs.declared.Row.{Row}
use Rattle.fields.specs.Table.{rows_of}
use Rattle.fields.specs.Fields.{values, body_of, fault_in}
use Rattle.idle.specs.Idle.{idle_of}
use Rattle.message.specs.Numbers.{unsigned}
use Rattle.message.specs.Records.{layout_by, subframe_id, message_id}
use Rattle.demands.specs.Family.{Family}
use Rattle.demands.specs.Refusals.{Refusal}
use Rattle.weektime.specs.Time.{towc_refused}

-- ---- numbers and bodies
-- zeros up to 42
abbrev pub padded : List ℤ → List ℤ
padded zs = zs ++ replicate (42 - length zs) (pos 0)

unfoldable pub numbers_of_body : List ℕ → List ℤ
numbers_of_body body = padded (values (rows_of (layout_by (subframe_id body) (message_id body))) body)

-- the layout, by the subframe ID and the message ID, numbers 4 and 6 from 0. A number below 0 counts as 0 here; its field refuses it
unfoldable pub layout_in : List ℤ → Layout
layout_in zs = layout_by (unsigned zs 4) (unsigned zs 6)

abbrev pub rows_in : List ℤ → List Row
rows_in zs = rows_of (layout_in zs)

unfoldable pub body_from : List ℤ → List ℕ
body_from zs = body_of (rows_in zs) zs

-- ---- what the writer refuses
-- 9: a message's ID above 63. (Every other ID has its own layout.)
unfoldable pub id_above : List ℤ → Bool
id_above zs = both (ltb 1 (unsigned zs 4)) (ltb 63 (unsigned zs 6))

-- 7: TOWC, number 1
unfoldable pub untimely : List ℤ → Bool
untimely zs = towc_refused (unsigned zs 1)

abbrev pub is_zero : ℤ → Bool
is_zero (pos n) = eqb n 0
is_zero (negsuc n) = false

unfoldable pub all_zero : List ℤ → Bool
all_zero [] = true
all_zero (z ∷ zs) = both (is_zero z) (all_zero zs)

-- 8: the first bit of the lowest field that does not hold its number; 293 if only a number behind the layout's is not 0
unfoldable pub fault_from : List ℤ → ℕ
fault_from zs = pick (eqb (fault_in (rows_in zs) zs) 0) (pick (all_zero (drop (length (rows_in zs)) zs)) 0 293) (fault_in (rows_in zs) zs)

-- in their order, behind 2; 1 is for a list that is not of 42 numbers
abbrev pub conditions : List ℤ → List Refusal
conditions zs =
    record { number = 1; condition = length zs ≡ 42 → ⊥ } ∷
    record { number = 9; condition = id_above zs ≡ true } ∷
    record { number = 7; condition = untimely zs ≡ true } ∷
    record { number = 8; condition = fault_from zs ≡ 0 → ⊥ } ∷
    []

unfoldable pub refusal : List ℤ → ℕ
refusal zs = pick (eqb (length zs) 42) (pick (id_above zs) 9 (pick (untimely zs) 7 (pick (eqb (fault_from zs) 0) 0 8))) 1

-- beside 8 stands the fault's first bit, beside all else 0
unfoldable pub beside : List ℤ → ℕ
beside zs = pick (eqb (refusal zs) 8) (fault_from zs) 0

-- ---- the family of numbered records
abbrev pub numbered : Family
numbered =
    record {
      Entry = List ℤ;
      from_body = numbers_of_body;
      to_body = body_from;
      idle = idle_of;
      untimely = untimely;
      conditions = conditions;
      refusal = refusal;
      beside = beside;
    }
