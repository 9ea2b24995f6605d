-- What the code's tests say of numbers handed in. Assumes nothing.
use mathlib.Core.Path.{◌≡◌, refl, sym, ap, ◌∙◌}
use mathlib.Core.Bool.{Bool, true, false}
use mathlib.Core.List.{List}
use Rattle.std.specs.Prelude.{Ok, Err, Option, Some, None}
use Prim.Native.Nat.{ℕ, ◌-◌, ◌^◌, ◌<◌}
use native.Mathlib.Omega.{arith}
use borrow.Author.Tests.{eq-eqb, ne_eqb}
use lib.Dec.{eqb}
use lib.IntN.{ℤ}
use lib.ListN.{length, take, drop, length-map, length-drop}
use lib.Seq.{take_all}
use Rattle.std.specs.List.{list_all}
use mir.Syntax.{w64}
use mir.Val.{to_z}
use Rattle.fields.specs.declared.Layout.{Layout}
use Rattle.fields.specs.Fields.{fault_in}
use Rattle.fields.specs.Patterns.{pattern_fault, unless_0}
use Rattle.fields.specs.Table.{rows_of}
use Rattle.fields.proofs.Faults.{fault_first, unless_none, unless_some, unless_some_above}
use Rattle.fields.proofs.Rules.{tiled, inside}
use Rattle.navic_c.specs.Numbers.{layout_in, rows_in, id_above, untimely, all_zero, fault_from, refusal, beside}
use Rattle.navic.specs.declared.WriteRefusal.TheVariants as why
use Rattle.navic_c.specs.Calls.{int64, Words, fitting, record_of, record_in, judged_as, judged_of}
use Rattle.navic_c.proofs.Words.{fault_words, rest_words, zero?}

forty_two : (ns : List ℕ) → Words ns → eqb (length (int64 ns)) 42 ≡ true
forty_two ns w = eq-eqb (length (int64 ns)) 42 (length-map ns (to_z w64) ∙ w.long)

-- ---- 8
module _ (ns : List ℕ) (w : Words ns) {l : Layout} (laid : l ≡ layout_in (int64 ns)) {y : Option ℕ} (told : y ≡ unless_0 (pattern_fault (rows_of l) ns)) where
  abbrev zs : List ℤ
  zs = int64 ns

  -- the range check of the layout's rows
  fields_told : y ≡ unless_0 (fault_in (rows_in zs) zs)
  fields_told = told ∙ ap unless_0 (ap (λ (l : Layout). pattern_fault (rows_of l) ns) laid ∙ fault_words (layout_in zs) ns w)

  module _ (b : ℕ) (is : y ≡ Some b) where
    first_bit : fault_in (rows_in zs) zs ≡ b
    first_bit = unless_some _ b (sym fields_told ∙ is)

    not_0 : fault_in (rows_in zs) zs ≡ 0 → ⊥
    not_0 z = omega (arith, first_bit, unless_some_above (fault_in (rows_in zs) zs) b (sym fields_told ∙ is))

    pub field_small : b < 2 ^ 16
    field_small =
        let f = (fault_first (layout_in zs) zs).some not_0 in
        omega (arith, first_bit, f.starts, inside (rows_in zs) f.place (tiled (layout_in zs)) f.inside)

    pub field_fault : Some b ≡ unless_0 (fault_from zs)
    unfolding fault_from
    field_fault = rw (ne_eqb (fault_in (rows_in zs) zs) 0 not_0) (sym is ∙ fields_told)

    -- numbers with a field at fault don't fit
    pub unfit : false ≡ fitting zs
    unfolding fitting
    unfit = rw (forty_two ns w, ne_eqb (fault_in (rows_in zs) zs) 0 not_0) refl

  module _ (is : y ≡ None) where
    none : fault_in (rows_in zs) zs ≡ 0
    none = unless_none _ (sym fields_told ∙ is)

    pub fit : true ≡ fitting zs
    unfolding fitting
    fit = rw (forty_two ns w, eq-eqb (fault_in (rows_in zs) zs) 0 none) refl

    -- and the numbers behind them
    module _ {k : ℕ} {t : Bool} (many : k ≡ length (rows_of l)) (rest : t ≡ list_all zero? (take (42 - k) (drop k ns))) where
      rest_told : t ≡ all_zero (drop (length (rows_in zs)) zs)
      rest_told =
          rest
          ∙ ap (list_all zero?) (take_all (42 - k) (drop k ns) (omega (arith, length-drop k ns, w.long)))
          ∙ rest_words k ns
          ∙ ap (λ (k : ℕ). all_zero (drop k zs)) (many ∙ ap (λ (l : Layout). length (rows_of l)) laid)

      pub no_fault : t ≡ true → None ≡ unless_0 (fault_from zs)
      unfolding fault_from
      no_fault e = rw (eq-eqb (fault_in (rows_in zs) zs) 0 none, sym rest_told ∙ e) refl

      pub fault_behind : t ≡ false → Some 293 ≡ unless_0 (fault_from zs)
      unfolding fault_from
      fault_behind e = rw (eq-eqb (fault_in (rows_in zs) zs) 0 none, sym rest_told ∙ e) refl

-- ---- in order
module _ (ns : List ℕ) (w : Words ns) where
  pub refuses_9 : id_above (int64 ns) ≡ true → judged_as (Err why.Id) ≡ judged_of (int64 ns)
  unfolding judged_of refusal beside
  refuses_9 i = rw (forty_two ns w, i) refl

  module _ (i : id_above (int64 ns) ≡ false) where
    pub refuses_7 : untimely (int64 ns) ≡ true → judged_as (Err why.Time) ≡ judged_of (int64 ns)
    unfolding judged_of refusal beside
    refuses_7 l = rw (forty_two ns w, i, l) refl

    module _ (l : untimely (int64 ns) ≡ false) where
      pub refuses_8 : (n : ℕ) → Some n ≡ unless_0 (fault_from (int64 ns)) → judged_as (Err (why.Field n)) ≡ judged_of (int64 ns)
      unfolding judged_of refusal beside
      refuses_8 n e =
          let is : fault_from (int64 ns) ≡ n = unless_some _ n (sym e) in
          rw (forty_two ns w, i, l, ne_eqb (fault_from (int64 ns)) 0 (λ z. omega (arith, unless_some_above _ n (sym e)))) (λ i. record { refusal = 8; first_bit = sym is i })

      pub refuses_none : None ≡ unless_0 (fault_from (int64 ns)) → judged_as (Ok tt) ≡ judged_of (int64 ns)
      unfolding judged_of refusal beside
      refuses_none e = rw (forty_two ns w, i, l, eq-eqb (fault_from (int64 ns)) 0 (unless_none _ (sym e))) refl

-- ---- the record of numbers
pub unfitted : (zs : List ℤ) → fitting zs ≡ false → None ≡ record_in zs
unfolding record_in
unfitted zs e = rw e refl

pub fitted : (zs : List ℤ) → fitting zs ≡ true → Some (record_of zs) ≡ record_in zs
unfolding record_in
fitted zs e = rw e refl

pub not_42 : (ns : List ℕ) → (length ns ≡ 42 → ⊥) → None ≡ record_in (int64 ns)
unfolding record_in fitting
not_42 ns h = rw (ne_eqb (length (int64 ns)) 42 (λ e. h (sym (length-map ns (to_z w64)) ∙ e))) refl
