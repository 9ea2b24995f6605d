-- The grid's law: cells are filled in the order of their numbers, row by row for the reader and column by column for the writer,
-- and emptied in the other order the grid gives what the interleaver's definition says.
-- Assumes nothing.
use mathlib.Core.Path.{◌≡◌, ◌∙◌, sym, ap, ap₂}
use mathlib.Core.List.{List, []}
use Prim.Native.Nat.{ℕ, ◌+◌, ◌/◌, ◌%◌, ◌≤◌, ◌<◌}
use native.Mathlib.Omega.{arith}
use native.Mathlib.Decide.{ℕ_discrete}
use lib.ListN.{length, get_or, set, length-set, replicate, get_or-replicate, length-replicate}
use lib.Seq.{get_or-set_same, get_or-set_other}
use Rattle.bits.specs.Lists.{at}
use Rattle.bits.proofs.Build.{build_long, build_at, built}
use Rattle.framing.specs.Grid.{cell, rowwise, columnwise, Filled, by_rows, by_columns}
use Rattle.framing.specs.Interleaver.{place, home, interleaved, deinterleaved}

-- one cell stored
abbrev pub stored : List (List ℕ) → ℕ → ℕ → ℕ → List (List ℕ)
stored g r c x = set g r (set (get_or g r []) c x)

-- no two cells have one number
abbrev Numbered : (ℕ → ℕ → ℕ) → Type 0
Numbered order = (r c a b : ℕ) → r < 8 → c < 73 → a < 8 → b < 73 → order a b ≡ order r c → (a ≡ r) × (b ≡ c)

pub rows_numbered : Numbered rowwise
rows_numbered r c a b hr hc ha hb e = (omega arith, omega arith)

pub columns_numbered : Numbered columnwise
columns_numbered r c a b hr hc ha hb e = (omega arith, omega arith)

module _ (order : ℕ → ℕ → ℕ) (l : List ℕ) where
  pub filled_none : Filled order l (replicate 8 (replicate 73 0)) 0
  filled_none =
      record {
        rows = length-replicate {A = List ℕ} 8 (replicate 73 0);
        columns = λ r h. ap length (get_or-replicate 8 r (replicate 73 0) [] h) ∙ length-replicate {A = ℕ} 73 0;
        holds = λ r c hr hc h. absurd (omega arith);
      }

  pub filled_more : Numbered order → (g : List (List ℕ)) (r c n x : ℕ) → r < 8 → c < 73 → order r c ≡ n → x ≡ at l n
      → Filled order l g n → Filled order l (stored g r c x) (n + 1)
  filled_more numbered g r c n x hr hc e q w =
      record {
        rows = length-set g r _ ∙ w.rows;
        columns =
            λ a ha. elim (ℕ_discrete a r) [
              | yes z ↦ ap (λ (j : ℕ). length (get_or (stored g r c x) j [])) z ∙ ap length row ∙ length-set (get_or g r []) c x ∙ w.columns r hr
              | no z ↦ ap length (get_or-set_other g r a _ [] z) ∙ w.columns a ha
            ];
        holds =
            λ a b ha hb h. elim (ℕ_discrete (order a b) n) [
              | yes z ↦ let same : (a ≡ r) × (b ≡ c) = numbered r c a b hr hc ha hb (z ∙ sym e) in
                  ap₂ (cell (stored g r c x)) same.0 same.1 ∙ here ∙ q ∙ ap (at l) (sym z)
              | no z ↦ other a b (λ p s. z (ap₂ order p s ∙ e)) ∙ w.holds a b ha hb (omega arith)
            ];
      }
    where
      row : get_or (stored g r c x) r [] ≡ set (get_or g r []) c x
      row = get_or-set_same g r _ [] (omega (arith, w.rows))

      here : cell (stored g r c x) r c ≡ x
      here = ap (λ (s : List ℕ). at s c) row ∙ get_or-set_same (get_or g r []) c x 0 (omega (arith, w.columns r hr))

      other : (a b : ℕ) → (a ≡ r → b ≡ c → ⊥) → cell (stored g r c x) a b ≡ cell g a b
      other a b ne = elim (ℕ_discrete a r) [
        | yes z ↦ ap (λ (j : ℕ). cell (stored g r c x) j b) z ∙ ap (λ (s : List ℕ). at s b) row
            ∙ get_or-set_other (get_or g r []) c b x 0 (λ s. ne z s) ∙ ap (λ (j : ℕ). cell g j b) (sym z)
        | no z ↦ ap (λ (s : List ℕ). at s b) (get_or-set_other g r a _ [] z)
      ]

  pub filled_all : (g : List (List ℕ)) (i n : ℕ) → n ≤ i → Filled order l g i → Filled order l g n
  filled_all g i n h w =
      record { rows = w.rows; columns = w.columns; holds = λ r c hr hc k. w.holds r c hr hc (omega arith) }

-- filled by rows and emptied by columns, and the other way round
pub emptied_by_columns : (l : List ℕ) (g : List (List ℕ)) → Filled rowwise l g 584 → by_columns g ≡ deinterleaved l
unfolding by_columns deinterleaved
emptied_by_columns l g w =
    built 584 (λ i. at l (place i)) (by_columns g) (build_long 584 _)
    (λ i h. build_at 584 (λ i. cell g (i % 8) (i / 8)) i h ∙ w.holds (i % 8) (i / 8) (omega arith) (omega arith) (omega arith))

pub emptied_by_rows : (l : List ℕ) (g : List (List ℕ)) → Filled columnwise l g 584 → by_rows g ≡ interleaved l
unfolding by_rows interleaved
emptied_by_rows l g w =
    built 584 (λ k. at l (home k)) (by_rows g) (build_long 584 _)
    (λ k h. build_at 584 (λ k. cell g (k / 73) (k % 73)) k h ∙ w.holds (k / 73) (k % 73) (omega arith) (omega arith) (omega arith))
