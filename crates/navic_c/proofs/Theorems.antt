-- The demands, for the calls for C. Assumes nothing.
use mathlib.Core.Path.{◌≡◌, refl, sym, ap, ap₂, subst, ◌∙◌}
use mathlib.Core.Bool.{Bool, true, false}
use mathlib.Core.List.{List, [], ◌∷◌, map}
use Prim.Native.Nat.{ℕ, zero, suc, ◌+◌, ◌-◌, ◌^◌, ◌≤◌, ◌<◌}
use native.Mathlib.Omega.{arith}
use borrow.Author.Tests.{ltb-true, le-leb}
use lib.Dec.{leb, ltb}
use lib.IntN.{ℤ, pos, negsuc}
use lib.ListN.{length, drop, replicate}
use lib.Signed.{mag}
use mir.Facts.{to_z-of_z}
use mir.Syntax.{w64}
use mir.Val.{to_z}
use Rattle.bits.specs.Lists.{pick}
use Rattle.fields.specs.declared.Row.{Row}
use Rattle.fields.specs.Fields.{in_unsigned, holds, fault_in}
use Rattle.fields.specs.Patterns.{pattern}
use Rattle.fields.specs.Table.{width, signed}
use Rattle.fields.proofs.Bodies as bodies
use Rattle.fields.proofs.Bodies.{AllHold}
use Rattle.fields.proofs.Halves.{half_small, whole_small}
use Rattle.fields.proofs.Rules.{Tiles, tiled}
use Rattle.framing.specs.Frame.{turned_if}
use Rattle.link.specs.Promise.{altered_coded, Altered, Taken}
use Rattle.link.specs.Link.{sent_of, receive_of, word_in}
use Rattle.message.proofs.Laws.{no_fault}
use Rattle.demands.specs.Refusals.{Given}
use Rattle.demands.specs.Family.{Reading, done, refused, reader_conditions, writer_conditions, reading_number, reading_of, writing_of, symbols_of}
use Rattle.demands.proofs.Demands as demands
use Rattle.navic.proofs.Instance.{clash}
use Rattle.demands.proofs.Ordered.{reader_ordered, writer_ordered}
use Rattle.navic_c.specs.Numbers.{layout_in, rows_in, all_zero, fault_from, refusal, numbered}
use Rattle.navic_c.specs.Calls.{int64, read_from, line_of_numbers, written_of}
use Rattle.navic_c.proofs.Lawful.{lawful, sound}
use Rattle.navic_c.proofs.Padding.{zeros_only}

-- ---- demand 1: each refusal is given exactly when its condition holds and no earlier one's does
number_told : (y : Reading numbered) → (line_of_numbers y).refusal ≡ reading_number y
number_told (done zs n t) = refl
number_told (refused y n t) = refl

pub read_refuses : (s : List ℕ) (bytes count : ℕ) → Given (reader_conditions numbered s (pick (leb 42 count) bytes 0)) (line_of_numbers (read_from s bytes count)).refusal
unfolding read_from
read_refuses s bytes count =
    let room = pick (leb 42 count) bytes 0 in
    subst (Given (reader_conditions numbered s room)) (sym (number_told (reading_of numbered s room))) (reader_ordered numbered s room)

pub write_refuses : (zs : List ℤ) (room : ℕ) → Given (writer_conditions numbered zs room) (written_of zs room).refusal
unfolding written_of
write_refuses zs room = writer_ordered numbered lawful zs room

-- ---- what the writer takes, with whatever room
module _ (zs : List ℤ) (room : ℕ) (taken : (written_of zs room).refusal ≡ 0) where
  accepted : refusal zs ≡ 0
  unfolding written_of writing_of
  accepted = go (leb 600 room) taken
    where
      go : (t : Bool) → pick t (refusal zs) 2 ≡ 0 → refusal zs ≡ 0
      go true e = e
      go false e = absurd (omega arith)

  -- DEMAND 2: it is read back equal, upright and with nothing corrected
  pub read_back : (bytes count : ℕ) → 36 ≤ bytes → 42 ≤ count → read_from (symbols_of numbered zs) bytes count ≡ done zs 0 false
  unfolding read_from
  read_back bytes count enough numbers = rw (le-leb 42 count numbers) (demands.read_back numbered lawful zs accepted bytes enough)

  -- DEMAND 3: with up to four altered coded symbols and up to two altered sync symbols, turned over or not
  pub read_altered : (s : List ℕ) → Altered (symbols_of numbered zs) s → (t : Bool) (bytes count : ℕ) → 36 ≤ bytes → 42 ≤ count
      → read_from (turned_if t 1 s) bytes count ≡ done zs (altered_coded (symbols_of numbered zs) s) t
  unfolding read_from
  read_altered s a t bytes count enough numbers = rw (le-leb 42 count numbers) (demands.read_altered numbered lawful zs accepted s a t bytes enough)

takes : (zs : List ℤ) → refusal zs ≡ 0 → (room : ℕ) → 600 ≤ room → (written_of zs room).refusal ≡ 0
unfolding written_of writing_of
takes zs z room enough = rw (le-leb 600 room enough) z

-- DEMAND 2, the other way: what is read the writer takes, and gives the upright symbols of the word that was read, the nearest to what came
pub record WrittenAgain (s : List ℕ) (zs : List ℤ) (n : ℕ) (t : Bool) : Type 0 where
  pub accepted : refusal zs ≡ 0
  pub taken : (room : ℕ) → 600 ≤ room → (written_of zs room).refusal ≡ 0
  pub symbols : symbols_of numbered zs ≡ sent_of (word_in (receive_of 1 s))
  pub nearest : Taken s t (word_in (receive_of 1 s)) n true

pub write_again : (s : List ℕ) (bytes count n : ℕ) (t : Bool) (zs : List ℤ) → read_from s bytes count ≡ done zs n t → WrittenAgain s zs n t
unfolding read_from
write_again s bytes count n t zs e =
    let a = demands.write_again numbered lawful s (pick (leb 42 count) bytes 0) zs n t e in
    record { accepted = a.accepted; taken = takes zs a.accepted; symbols = a.symbols; nearest = a.nearest }

zeros_seen : (n : ℕ) → int64 (map pattern (replicate n (pos 0))) ≡ replicate n (pos 0)
zeros_seen zero = refl
zeros_seen (suc n) = ap (λ (l : List ℤ). pos 0 ∷ l) (zeros_seen n)

-- ---- as C's int64_t: a number within its field has fewer than 64 bits
held_small : (r : Row) (z : ℤ) → width r ≤ 63 → holds r z ≡ true → mag z < 2 ^ 63
unfolding holds
held_small r z m h = go (signed r) z h
  where
    go : (s : Bool) (z : ℤ) → pick s (ltb (mag z) (2 ^ (width r - 1))) (in_unsigned (width r) z) ≡ true → mag z < 2 ^ 63
    go true z e = omega (arith, ltb-true (mag z) (2 ^ (width r - 1)) e, half_small (width r) m)
    go false (pos n) e = omega (arith, ltb-true n (2 ^ width r) e, whole_small (width r) m)
    go false (negsuc n) e = absurd (clash refl e)

int64_of : (z : ℤ) → mag z < 2 ^ 63 → to_z w64 (pattern z) ≡ z
int64_of z h = to_z-of_z {w = w64} {z = z} (record { sfits = h })

seen_by : (at : ℕ) (rs : List Row) (zs : List ℤ) → Tiles at rs → AllHold rs zs → all_zero (drop (length rs) zs) ≡ true → int64 (map pattern zs) ≡ zs
unfolding all_zero
seen_by at [] zs t h z = ap (λ (l : List ℤ). int64 (map pattern l)) (zeros_only zs z) ∙ zeros_seen (length zs) ∙ sym (zeros_only zs z)
seen_by at (r ∷ rs) [] t h z = refl
seen_by at (r ∷ rs) (x ∷ zs) t h z = ap₂ ◌∷◌ (int64_of x (held_small r x t.0.most h.0)) (seen_by (at + width r) rs zs t.1 h.1 z)

-- what the reader lends, and what the writer takes, says the numbers themselves
pub seen : (zs : List ℤ) → refusal zs ≡ 0 → int64 (map pattern zs) ≡ zs
unfolding fault_from
seen zs ok =
    let k = no_fault (fault_in (rows_in zs) zs) (all_zero (drop (length (rows_in zs)) zs)) (sound zs ok).fits in
    seen_by 0 (rows_in zs) zs (tiled (layout_in zs)) (bodies.no_fault 0 (rows_in zs) zs (tiled (layout_in zs)) k.0) k.1
