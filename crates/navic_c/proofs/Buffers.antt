-- What the calls put into lent buffers: done, what they are to put, and what was lent beyond it stays; refused, nothing. Assumes nothing.
use mathlib.Core.Path.{◌≡◌, refl, sym, ap, subst, ◌∙◌}
use mathlib.Core.Bool.{Bool, true, false}
use mathlib.Core.List.{List, ◌++◌, map}
use Prim.Native.Nat.{ℕ}
use native.Mathlib.Omega.{arith}
use borrow.Author.Tests.{eq-eqb, eqb-true, ne_eqb}
use lib.Dec.{eqb, leb}
use lib.IntN.{ℤ}
use lib.ListN.{length, take, drop, length-map}
use lib.Seq.{take_at, drop_at}
use Rattle.bits.specs.Lists.{pick, at_most, differences}
use Rattle.bits.proofs.Lists.{at_most_holds}
use Rattle.convolution.specs.Code.{coded_form, cost, Nearest}
use Rattle.convolution.specs.Trellis.{decode}
use Rattle.convolution.proofs.Corrected.{hard_cost}
use Rattle.convolution.proofs.Decoded.{nearest_decode}
use Rattle.fields.specs.Patterns.{pattern}
use Rattle.link.specs.Link.{receive_of, word_in}
use Rattle.demands.specs.Family.{Why, done, refused, packed, writing_of, write_into, symbols_of}
use Rattle.navic_c.specs.Numbers.{numbered}
use Rattle.navic_c.specs.Calls.{int64, read_from, word_after, numbers_after, written_of, nearest_refusal, nearest_answer, nearest_into}
use Rattle.navic_c.proofs.Lawful.{sound}
use Rattle.navic_c.proofs.Theorems.{write_again, seen}

-- ---- the reader
module _ (s word numbers : List ℕ) where
  abbrev later : List ℕ
  later = numbers_after (read_from s (length word) (length numbers)) numbers

  pub record Put (zs : List ℤ) : Type 0 where
    pub says : int64 (take 42 later) ≡ zs
    pub beyond : drop 42 later ≡ drop 42 numbers
    pub bytes : word_after s word (length numbers) ≡ packed (word_in (receive_of 1 s)) ++ drop 36 word

  pub lent_read : (zs : List ℤ) (n : ℕ) (t : Bool) → read_from s (length word) (length numbers) ≡ done zs n t → Put zs
  unfolding word_after
  lent_read zs n t e =
      let ok = (write_again s (length word) (length numbers) n t zs e).accepted in
      let long : length (map pattern zs) ≡ 42 = length-map zs pattern ∙ (sound zs ok).long in
      record {
        says = rw e (ap int64 (take_at (map pattern zs) (drop 42 numbers) 42 long) ∙ seen zs ok);
        beyond = rw e (drop_at (map pattern zs) (drop 42 numbers) 42 long);
        bytes = rw e refl;
      }

  pub lent_unread : (y : Why) (n : ℕ) (t : Bool) → read_from s (length word) (length numbers) ≡ refused y n t
      → (later ≡ numbers) × (word_after s word (length numbers) ≡ word)
  unfolding word_after
  lent_unread y n t e = (rw e refl, rw e refl)

-- ---- the writer
module _ (zs : List ℤ) (lent : List ℕ) where
  pub lent_written : (written_of zs (length lent)).refusal ≡ 0 → write_into numbered zs lent ≡ symbols_of numbered zs ++ drop 600 lent
  unfolding written_of write_into
  lent_written e = rw (eq-eqb (writing_of numbered zs (length lent)) 0 e) refl

  pub lent_kept : ((written_of zs (length lent)).refusal ≡ 0 → ⊥) → write_into numbered zs lent ≡ lent
  unfolding written_of write_into
  lent_kept h = rw (ne_eqb (writing_of numbered zs (length lent)) 0 h) refl

-- ---- the decoder alone: its word is the nearest, and its count is the number of places at which the code of that word differs from what came
pub record Found (coded lent : List ℕ) : Type 0 where
  pub nearest : Nearest 1 286 coded (take 286 (nearest_into coded lent))
  pub beyond : drop 286 (nearest_into coded lent) ≡ drop 286 lent
  pub count : (nearest_answer coded (length lent)).corrected ≡ differences (coded_form (take 286 (nearest_into coded lent))) coded

pub nearest_lent : (coded lent : List ℕ) → (nearest_answer coded (length lent)).refusal ≡ 0 → Found coded lent
unfolding nearest_answer nearest_into
nearest_lent coded lent z =
    let e = tests (eqb (length coded) 584) (leb 286 (length lent)) (at_most 1 coded) z in
    let d = nearest_decode 1 286 coded (eqb-true (length coded) 584 e.0) in
    let w = decode 1 286 coded in
    let done = eq-eqb (nearest_refusal coded (length lent)) 0 z in
    let put : nearest_into coded lent ≡ w ++ drop 286 lent = rw done refl in
    let told : (nearest_answer coded (length lent)).corrected ≡ cost 1 coded w = rw done refl in
    let word : take 286 (nearest_into coded lent) ≡ w = ap (take 286) put ∙ take_at w (drop 286 lent) 286 d.long in
    record {
      nearest = subst (Nearest 1 286 coded) (sym word) d;
      beyond = ap (drop 286) put ∙ drop_at w (drop 286 lent) 286 d.long;
      count = told ∙ hard_cost coded w (at_most_holds 1 coded e.1) ∙ ap (λ (v : List ℕ). differences (coded_form v) coded) (sym word);
    }
  where
    tests : (a b c : Bool) → pick a (pick b (pick {A = ℕ} c 0 3) 2) 1 ≡ 0 → (a ≡ true) × (c ≡ true)
    tests true true true z = (refl, refl)
    tests true true false z = absurd (omega arith)
    tests true false c z = absurd (omega arith)
    tests false b c z = absurd (omega arith)
