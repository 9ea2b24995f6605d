-- What the definitions of the link come to, case by case, for symbols.
-- Assumes nothing.
use mathlib.Core.Path.{◌≡◌, refl, sym, ap, subst, ◌∙◌}
use mathlib.Core.Bool.{Bool, true, false}
use mathlib.Core.List.{List}
use Prim.Native.Nat.{ℕ, ◌+◌, ◌*◌, ◌<◌, ◌≤◌}
use native.Mathlib.Omega.{arith}
use borrow.Author.Tests.{le-leb, lt-leb}
use lib.ListN.{length, take}
use Rattle.std.specs.Prelude.{Option, Some, None, Ok, Err}
use Rattle.bits.specs.Lists.{Bits, at_most, part, differences}
use Rattle.bits.proofs.Lists.{at_most_holds}
use Rattle.convolution.specs.Code.{coded_form, cost}
use Rattle.convolution.proofs.Coded.{cost_at_most}
use Rattle.convolution.proofs.Corrected.{hard_cost}
use Rattle.convolution.proofs.Decoded.{nearest_decode}
use Rattle.crc24q.specs.Check.{agrees_of}
use Rattle.framing.specs.Frame.{coded_of}
use Rattle.framing.specs.Sync.{sync_of}
use Rattle.framing.specs.declared.Polarity.{Polarity}
use Rattle.framing.specs.declared.Polarity.TheVariants.{Upright, TurnedOver}
use Rattle.framing.proofs.Agreement.{bits_read}
use Rattle.framing.proofs.Subframe.{coded_long, coded_at_most}
use Rattle.link.specs.declared.LinkRefusal.TheVariants.{BadSymbol, NoSync, NoWord}
use Rattle.link.specs.Link.{word_of, corrected_of, ends, found, nearest_of, by_sync, receive_of}

pub symbol_refused : (p : ℕ) (s : List ℕ) → at_most p s ≡ false → receive_of p s ≡ Err BadSymbol
unfolding receive_of
symbol_refused p s e = rw e refl

pub clean_bits : (t : Bool) (s : List ℕ) → at_most 1 s ≡ true → Bits (coded_of 1 t s)
clean_bits t s e = coded_at_most 1 t s (at_most_holds 1 s e)

pub synced : (p : ℕ) (s : List ℕ) (q : Option Polarity) → at_most p s ≡ true → sync_of p (take 16 s) ≡ q → receive_of p s ≡ by_sync p s q
unfolding receive_of
synced p s q e f = rw (e, f) refl

-- by the sync's answers, of symbols
module _ (s : List ℕ) (clean : at_most 1 s ≡ true) where
  pub upright : sync_of 1 (part s 0 16) ≡ Some Upright → receive_of 1 s ≡ nearest_of 1 false s
  upright e = synced 1 s (Some Upright) clean e

  pub turned_over : sync_of 1 (part s 0 16) ≡ Some TurnedOver → receive_of 1 s ≡ nearest_of 1 true s
  turned_over e = synced 1 s (Some TurnedOver) clean e

  pub unsynced : sync_of 1 (part s 0 16) ≡ None → receive_of 1 s ≡ Err NoSync
  unsynced e = synced 1 s None clean e

module _ (p : ℕ) (t : Bool) (s : List ℕ) where
  word_long : length (word_of p (coded_of p t s)) ≡ 286
  word_long = (nearest_decode p 286 (coded_of p t s) (coded_long p t s)).long

  -- some word ends in six zeros, whatever came: its price is a real one
  pub always_ends : ends p (coded_of p t s) ≡ true
  unfolding ends
  always_ends =
      let l = coded_of p t s in
      le-leb (cost p l (word_of p l)) (584 * p) (subst (λ (n : ℕ). cost p l (word_of p l) ≤ n) all (cost_at_most p l (word_of p l)))
    where
      all : p * (2 * (length (word_of p (coded_of p t s)) + 6)) ≡ 584 * p
      all = rw word_long (omega arith)

  pub nearest_found : nearest_of p t s ≡ Ok (found p t (coded_of p t s))
  unfolding nearest_of
  nearest_found = rw always_ends refl

-- of symbols, the price of the nearest word is the corrected count
pub count_price : (l w : List ℕ) → Bits l → cost 1 l w ≡ corrected_of 1 l w
unfolding corrected_of
count_price l w h = hard_cost l w h ∙ sym (ap (differences (coded_form w)) (bits_read l h))

pub count_places : (l w : List ℕ) → Bits l → corrected_of 1 l w ≡ differences (coded_form w) l
unfolding corrected_of
count_places l w h = ap (differences (coded_form w)) (bits_read l h)

-- ---- what the code finds
module _ (t : Bool) (s l : List ℕ) (same : l ≡ coded_of 1 t s) where
  pub nearest_told : (n : ℕ) (w : List ℕ) (a : Bool) → Bits (coded_of 1 t s) → n ≡ cost 1 l (word_of 1 l) → w ≡ word_of 1 l → a ≡ agrees_of w
      → Ok (record { word = w; corrected = n; turned_over = t; agrees = a }) ≡ nearest_of 1 t s
  nearest_told n w a bits price near agrees =
      (λ i. Ok (record { word = word i; corrected = count i; turned_over = t; agrees = check i })) ∙ sym (nearest_found 1 t s)
    where
      word : w ≡ word_of 1 (coded_of 1 t s)
      word = near ∙ ap (word_of 1) same

      count : n ≡ corrected_of 1 (coded_of 1 t s) (word_of 1 (coded_of 1 t s))
      count = price ∙ ap (λ (k : List ℕ). cost 1 k (word_of 1 k)) same ∙ count_price (coded_of 1 t s) (word_of 1 (coded_of 1 t s)) bits

      check : a ≡ agrees_of (word_of 1 (coded_of 1 t s))
      check = agrees ∙ ap agrees_of word

  pub none_told : (n : ℕ) → n ≡ cost 1 l (word_of 1 l) → 584 < n → Err NoWord ≡ nearest_of 1 t s
  unfolding nearest_of ends
  none_told n price h =
      let e : n ≡ cost 1 (coded_of 1 t s) (word_of 1 (coded_of 1 t s)) = price ∙ ap (λ (k : List ℕ). cost 1 k (word_of 1 k)) same in
      rw (lt-leb (cost 1 (coded_of 1 t s) (word_of 1 (coded_of 1 t s))) (584 * 1) (omega arith)) refl
