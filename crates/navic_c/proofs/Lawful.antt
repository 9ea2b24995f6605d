-- The family of numbered records keeps what is asked of a family, so the demands hold of it. Assumes nothing.
use mathlib.Core.Path.{◌≡◌, refl, sym, ap, ◌∙◌}
use mathlib.Core.Bool.{Bool, true, false}
use mathlib.Core.List.{List, ◌++◌}
use Prim.Native.Nat.{ℕ, ◌-◌, ◌<◌}
use native.Mathlib.Omega.{arith}
use borrow.Author.Tests.{eq-eqb, eqb-true, eqb-false, ne_eqb, ltb-true, le-ltb}
use lib.Dec.{eqb, ltb}
use lib.IntN.{ℤ, pos}
use lib.ListN.{length, take, drop, replicate, take-append-drop, length-map}
use lib.Seq.{length-take-le}
use Rattle.bits.specs.Lists.{pick, both}
use Rattle.bits.proofs.Numbers.{number_few}
use Rattle.fields.specs.declared.Layout.{Layout}
use Rattle.fields.specs.declared.Row.{Row}
use Rattle.fields.specs.Table.{rows_of}
use Rattle.fields.specs.Fields.{value_at, values, body_of, fault_in}
use Rattle.fields.proofs.Bodies.{body_long, body_bits, values_body, body_values, values_fit}
use Rattle.fields.proofs.Rules.{few}
use Rattle.message.specs.Numbers.{unsigned}
use Rattle.message.proofs.Laws.{no_fault}
use Rattle.message.specs.Records.{layout_by, subframe_id, message_id}
use Rattle.demands.specs.Refusals.{Given, none, here, later}
use Rattle.demands.specs.Family.{IsBody, Lawful}
use Rattle.navic.proofs.Instance.{clash}
use Rattle.navic_c.specs.Numbers.{padded, numbers_of_body, layout_in, rows_in, body_from, id_above, untimely, all_zero, fault_from, conditions, refusal, numbered}
use Rattle.navic_c.proofs.Padding.{padded_again, body_ahead, fault_ahead, padded_42, padded_body, padded_fault}
use Rattle.navic_c.proofs.Layouts.{frame_number, message_number, laid}

-- ---- the writer's refusals
module _ (zs : List ℤ) where
  by_fault : (t : Bool) → eqb (fault_from zs) 0 ≡ t → Given (drop 3 (conditions zs)) (pick t 0 8)
  by_fault true p = later (λ (f : fault_from zs ≡ 0 → ⊥). f (eqb-true (fault_from zs) 0 p)) none
  by_fault false p = here (eqb-false (fault_from zs) 0 p)

  by_number : (i l : Bool) → id_above zs ≡ i → untimely zs ≡ l → Given (drop 1 (conditions zs)) (pick i 9 (pick l 7 (pick (eqb (fault_from zs) 0) 0 8)))
  by_number true l p q = here p
  by_number false true p q = later (clash p) (here q)
  by_number false false p q = later (clash p) (later (clash q) (by_fault (eqb (fault_from zs) 0) refl))

  by_length : (n : Bool) → eqb (length zs) 42 ≡ n
      → Given (conditions zs) (pick n (pick (id_above zs) 9 (pick (untimely zs) 7 (pick (eqb (fault_from zs) 0) 0 8))) 1)
  by_length true o = later (λ (f : length zs ≡ 42 → ⊥). f (eqb-true (length zs) 42 o)) (by_number (id_above zs) (untimely zs) refl refl)
  by_length false o = here (eqb-false (length zs) 42 o)

  ordered : Given (conditions zs) (refusal zs)
  unfolding refusal
  ordered = by_length (eqb (length zs) 42) refl

  -- what the writer takes has no fault, and what has none it takes
  pub record Sound : Type 0 where
    pub long : length zs ≡ 42
    pub own_id : id_above zs ≡ false
    pub in_time : untimely zs ≡ false
    pub fits : fault_from zs ≡ 0

  sound_by : (n i l t : Bool) → eqb (length zs) 42 ≡ n → id_above zs ≡ i → untimely zs ≡ l → eqb (fault_from zs) 0 ≡ t
      → pick n (pick i 9 (pick l 7 (pick {A = ℕ} t 0 8))) 1 ≡ 0 → Sound
  sound_by false i l t o p q r z = absurd (omega arith)
  sound_by true true l t o p q r z = absurd (omega arith)
  sound_by true false true t o p q r z = absurd (omega arith)
  sound_by true false false false o p q r z = absurd (omega arith)
  sound_by true false false true o p q r z =
      record { long = eqb-true (length zs) 42 o; own_id = p; in_time = q; fits = eqb-true (fault_from zs) 0 r }

  pub sound : refusal zs ≡ 0 → Sound
  unfolding refusal
  sound z = sound_by (eqb (length zs) 42) (id_above zs) (untimely zs) (eqb (fault_from zs) 0) refl refl refl refl z

  accepted : Sound → refusal zs ≡ 0
  unfolding refusal
  accepted s = rw (eq-eqb (length zs) 42 s.long, s.own_id, s.in_time, eq-eqb (fault_from zs) 0 s.fits) refl

-- ---- a body's numbers
abbrev own : List ℕ → Layout
own body = layout_by (subframe_id body) (message_id body)

-- its own numbers, one to a row, and the zeros behind them
abbrev front : List ℕ → List ℤ
front body = values (rows_of (own body)) body

abbrev behind : List ℤ → List ℤ
behind zs = replicate (42 - length zs) (pos 0)

module _ (body : List ℕ) where
  front_long : length (front body) ≡ length (rows_of (own body))
  front_long = length-map (rows_of (own body)) (value_at body)

  pub own_layout : layout_in (numbers_of_body body) ≡ layout_by (subframe_id body) (message_id body)
  unfolding layout_in numbers_of_body
  own_layout = laid body (behind (front body)) (subframe_id body) (message_id body) refl

  pub numbers_42 : length (numbers_of_body body) ≡ 42
  unfolding numbers_of_body
  numbers_42 = padded_42 (own body) (front body) own_layout front_long

  -- written again
  body_again : IsBody body → body_from (numbers_of_body body) ≡ body
  unfolding numbers_of_body
  body_again is = padded_body (own body) (front body) own_layout front_long ∙ body_values (own body) body is.long is.bits

  -- an ID of six bits is below 64
  pub id_below : id_above (numbers_of_body body) ≡ false
  unfolding id_above numbers_of_body
  id_below =
      rw (frame_number body (behind (front body)) (own body))
      (go (ltb 1 (subframe_id body)) refl)
    where
      go : (t : Bool) → ltb 1 (subframe_id body) ≡ t → both t (ltb 63 (unsigned (front body ++ behind (front body)) 6)) ≡ false
      go true e =
          let h = ltb-true 1 (subframe_id body) e in
          let small : message_id body < 64 = number_few (drop 30 body) 6 6 (omega arith) in
          let is = message_number body (behind (front body)) (subframe_id body) (message_id body) (ne_eqb (subframe_id body) 0 (λ z. omega arith)) (ne_eqb (subframe_id body) 1 (λ z. omega arith)) in
          rw is (le-ltb 63 (message_id body) (omega arith))
      go false e = refl

  -- each number is within its field
  pub none_at_fault : fault_from (numbers_of_body body) ≡ 0
  unfolding numbers_of_body
  none_at_fault = padded_fault (own body) (front body) own_layout front_long ∙ values_fit (own body) body

-- ---- numbers that the writer takes
module _ (zs : List ℤ) (s : Sound zs) where
  abbrev rows : List Row
  rows = rows_in zs

  -- those of the layout, one to a row
  abbrev firsts : List ℤ
  firsts = take (length rows) zs

  firsts_long : length firsts ≡ length rows
  firsts_long = length-take-le (length rows) zs (omega (arith, s.long, few (layout_in zs)))

  faultless : (fault_in rows zs ≡ 0) × (all_zero (drop (length rows) zs) ≡ true)
  unfolding fault_from
  faultless = no_fault (fault_in rows zs) (all_zero (drop (length rows) zs)) s.fits

  firsts_fit : fault_in rows firsts ≡ 0
  firsts_fit =
      sym (fault_ahead rows firsts (drop (length rows) zs) firsts_long) ∙ ap (fault_in rows) (take-append-drop (length rows) zs) ∙ faultless.0

  firsts_body : body_from zs ≡ body_of rows firsts
  unfolding body_from
  firsts_body = ap (body_of rows) (sym (take-append-drop (length rows) zs)) ∙ body_ahead rows firsts (drop (length rows) zs) firsts_long

  -- the body's numbers by that layout are these
  again_by : padded (values rows (body_from zs)) ≡ zs
  again_by =
      ap (λ (b : List ℕ). padded (values rows b)) firsts_body
      ∙ ap padded (values_body (layout_in zs) firsts firsts_long firsts_fit)
      ∙ padded_again 42 (length rows) zs s.long (few (layout_in zs)) faultless.1

  -- and that layout is the body's own
  layout_kept : layout_in zs ≡ own (body_from zs)
  unfolding layout_in
  layout_kept =
      let body = body_from zs in
      let rest = behind (values rows body) in
      let frame : unsigned zs 4 ≡ subframe_id body = ap (λ (l : List ℤ). unsigned l 4) (sym again_by) ∙ frame_number body rest (layout_in zs) in
      ap layout_in (sym again_by) ∙ laid body rest (unsigned zs 4) (unsigned zs 6) frame

  numbers_back : numbers_of_body (body_from zs) ≡ zs
  unfolding numbers_of_body
  numbers_back = ap (λ (l : Layout). padded (values (rows_of l) (body_from zs))) (sym layout_kept) ∙ again_by

  body_is : IsBody (body_from zs)
  unfolding body_from
  body_is = record { bits = body_bits rows zs; long = body_long (layout_in zs) zs }

pub lawful : Lawful numbered
lawful =
    record {
      ordered = ordered;
      body = λ zs z. body_is zs (sound zs z);
      back = λ zs z. numbers_back zs (sound zs z);
      again = body_again;
      timely = λ zs z. (sound zs z).in_time;
      taken = λ b is timely. accepted (numbers_of_body b) (record { long = numbers_42 b; own_id = id_below b; in_time = timely; fits = none_at_fault b });
    }
