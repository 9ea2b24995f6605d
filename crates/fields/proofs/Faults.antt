-- What the number of the range check says: the first bit of the lowest field that does not hold its number. Assumes nothing.
use mathlib.Core.Bool.{Bool, true, false}
use mathlib.Core.Path.{◌≡◌, refl, sym, ◌∙◌}
use mathlib.Core.List.{List, [], ◌∷◌}
use Prim.Native.Nat.{ℕ, zero, suc, ◌+◌, ◌<◌}
use native.Mathlib.Omega.{arith}
use borrow.Author.Tests.{eqb-true, eqb-false, ne_eqb}
use lib.Dec.{eqb}
use lib.IntN.{ℤ, pos}
use lib.ListN.{length, get_or, drop}
use Rattle.std.specs.Prelude.{None, Some}
use Rattle.bits.specs.Lists.{pick}
use Rattle.fields.specs.declared.Row.{Row}
use Rattle.fields.specs.declared.Layout.{Layout}
use Rattle.fields.specs.Fields.{holds, fault_in}
use Rattle.fields.specs.Patterns.{no_row, unless_0}
use Rattle.fields.specs.Table.{first, width, rows_of}
use Rattle.fields.proofs.Rules.{Tiles, tiled, tile_at}

-- whether row i holds its number
abbrev pub HoldsAt : List Row → List ℤ → ℕ → Bool
HoldsAt rs zs i = holds (get_or rs i no_row) (get_or zs i (pos 0))

-- a row that starts at bit b does not hold its number, and every row of a lower first bit does
pub record Broken (rs : List Row) (zs : List ℤ) (b : ℕ) : Type 0 where
  pub place : ℕ
  pub inside : place < length rs
  pub starts : first (get_or rs place no_row) ≡ b
  pub broken : HoldsAt rs zs place ≡ false
  pub lower : (j : ℕ) → j < length rs → first (get_or rs j no_row) < b → HoldsAt rs zs j ≡ true

pub record Fault (rs : List Row) (zs : List ℤ) (b : ℕ) : Type 0 where
  pub none : b ≡ 0 → (i : ℕ) → i < length rs → HoldsAt rs zs i ≡ true
  pub some : (b ≡ 0 → ⊥) → Broken rs zs b

pub rest : (rs : List Row) (r : Row) (zs : List ℤ) (i : ℕ) → HoldsAt rs (drop 1 zs) i ≡ HoldsAt (r ∷ rs) zs (suc i)
rest rs r [] i = refl
rest rs r (z ∷ zs) i = refl

-- the first row holds its number: the fault is one of the rest
held_first : (r : Row) (rs : List Row) (zs : List ℤ) (b : ℕ) → HoldsAt (r ∷ rs) zs 0 ≡ true → Fault rs (drop 1 zs) b → Fault (r ∷ rs) zs b
held_first r rs zs b h f =
    record {
      none = λ e i l. each i l (λ j k. f.none e j k);
      some = λ n.
          let g = f.some n in
          record {
            place = suc g.place;
            inside = omega (arith, g.inside);
            starts = g.starts;
            broken = sym (rest rs r zs g.place) ∙ g.broken;
            lower = λ j l. below j l g.lower;
          };
    }
  where
    each : (i : ℕ) → i < length (r ∷ rs) → ((j : ℕ) → j < length rs → HoldsAt rs (drop 1 zs) j ≡ true) → HoldsAt (r ∷ rs) zs i ≡ true
    each zero l g = h
    each (suc i) l g = sym (rest rs r zs i) ∙ g i (omega arith)

    below : (j : ℕ) → j < length (r ∷ rs) → ((k : ℕ) → k < length rs → first (get_or rs k no_row) < b → HoldsAt rs (drop 1 zs) k ≡ true)
        → first (get_or (r ∷ rs) j no_row) < b → HoldsAt (r ∷ rs) zs j ≡ true
    below zero l g e = h
    below (suc j) l g e = sym (rest rs r zs j) ∙ g j (omega arith) e

-- the first row does not: every other starts behind it
broken_first : (at : ℕ) (r : Row) (rs : List Row) (zs : List ℤ) → Tiles at (r ∷ rs) → HoldsAt (r ∷ rs) zs 0 ≡ false → Fault (r ∷ rs) zs (first r)
broken_first at r rs zs t h =
    record {
      none = λ e. absurd (omega (arith, t.0.place));
      some = λ n. record { place = 0; inside = omega arith; starts = refl; broken = h; lower = later };
    }
  where
    later : (j : ℕ) → j < length (r ∷ rs) → first (get_or (r ∷ rs) j no_row) < first r → HoldsAt (r ∷ rs) zs j ≡ true
    later zero l e = absurd (omega arith)
    later (suc j) l e = absurd (omega (arith, t.0.place, (tile_at (at + width r) rs j t.1 (omega arith)).place))

pub faults : (at : ℕ) (rs : List Row) (zs : List ℤ) → Tiles at rs → Fault rs zs (fault_in rs zs)
unfolding fault_in
faults at [] zs t = record { none = λ e i l. absurd (omega arith); some = λ n. absurd (n refl) }
faults at (r ∷ rs) zs t = go (HoldsAt (r ∷ rs) zs 0) refl (faults (at + width r) rs (drop 1 zs) t.1)
  where
    go : (b : Bool) → HoldsAt (r ∷ rs) zs 0 ≡ b → Fault rs (drop 1 zs) (fault_in rs (drop 1 zs)) → Fault (r ∷ rs) zs (pick b (fault_in rs (drop 1 zs)) (first r))
    go true h f = held_first r rs zs (fault_in rs (drop 1 zs)) h f
    go false h f = broken_first at r rs zs t h

pub fault_first : (l : Layout) (zs : List ℤ) → Fault (rows_of l) zs (fault_in (rows_of l) zs)
fault_first l zs = faults 0 (rows_of l) zs (tiled l)

-- ---- what the check gives: no fault, or its first bit
pub unless_none : (n : ℕ) → unless_0 n ≡ None → n ≡ 0
unless_none n e = go (eqb n 0) refl e
  where
    go : (b : Bool) → eqb n 0 ≡ b → pick b None (Some n) ≡ None → n ≡ 0
    go true t e = eqb-true n 0 t
    go false t e = (cc)

pub unless_some : (n b : ℕ) → unless_0 n ≡ Some b → n ≡ b
unless_some n b e = go (eqb n 0) e
  where
    go : (t : Bool) → pick t None (Some n) ≡ Some b → n ≡ b
    go true e = (cc)
    go false e = (cc)

pub unless_some_above : (n b : ℕ) → unless_0 n ≡ Some b → 0 < b
unless_some_above n b e = go (eqb n 0) refl e
  where
    go : (t : Bool) → eqb n 0 ≡ t → pick t None (Some n) ≡ Some b → 0 < b
    go true t e = (cc)
    go false t e = let k : n ≡ b = (cc) in omega (arith, eqb-false n 0 t)

-- the other way
pub unless_all : (n : ℕ) → n ≡ 0 → unless_0 n ≡ None
unless_all n e = rw e

pub unless_above : (n : ℕ) → 0 < n → unless_0 n ≡ Some n
unless_above n h = rw (ne_eqb n 0 (omega arith))
