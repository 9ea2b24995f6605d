-- Whatever is read is the nearest word, and its count is the number of places at which its code differs from what came; some word always ends
-- in six zeros. Assumes nothing.
use mathlib.Core.Path.{◌≡◌, refl, sym, ap, subst, ◌∙◌}
use mathlib.Core.Bool.{Bool, true, false}
use mathlib.Core.List.{List, ◌++◌}
use Prim.Native.Nat.{ℕ}
use native.Mathlib.Omega.{arith}
use lib.ListN.{take, replicate, length-replicate, take-append-drop}
use lib.Seq.{length-take-le}
use Rattle.std.specs.Prelude.{Option, Some, None, Ok, Err}
use Rattle.bits.specs.Lists.{Bits, at_most}
use Rattle.bits.proofs.Lists.{at_most_holds, at_most_take, at_most_zeros}
use Rattle.convolution.specs.Code.{six_zeros}
use Rattle.convolution.proofs.Decoded.{nearest_decode}
use Rattle.crc24q.specs.Check.{agrees_of}
use Rattle.framing.specs.Frame.{coded_of}
use Rattle.framing.specs.Sync.{sync_of}
use Rattle.framing.specs.declared.Polarity.{Polarity}
use Rattle.framing.specs.declared.Polarity.TheVariants.{Upright, TurnedOver}
use Rattle.framing.proofs.Subframe.{coded_long, coded_at_most}
use Rattle.link.specs.declared.LinkRefusal.TheVariants.{BadSymbol, NoSync}
use Rattle.link.specs.declared.Received.{Received}
use Rattle.link.specs.Link.{word_of, corrected_of, ends, found, receive_of}
use Rattle.link.specs.Promise.{polarity_of, IsWord, Taken, EndsInSixZeros, NoWordEnds}
use Rattle.link.proofs.Outcomes.{symbol_refused, synced, always_ends, nearest_found, count_places}
use Rattle.std.proofs.lemmas.Bool.{true≢false}

pub some_word_ends : NoWordEnds → ⊥
some_word_ends none = none (replicate 292 0) (record { bits = at_most_zeros 1 292; long = length-replicate {A = ℕ} 292 0; tail = refl })

-- a word of 292 bits that ends in six zeros is a word of 286 bits and six zeros
pub word_and_zeros : (v : List ℕ) → EndsInSixZeros v → IsWord (take 286 v) × (take 286 v ++ six_zeros ≡ v)
word_and_zeros v e = (
  record { bits = at_most_take 1 286 v e.bits; long = length-take-le 286 v (omega (arith, e.long)) },
  ap (◌++◌ (take 286 v)) (sym e.tail) ∙ take-append-drop 286 v,
)

-- number 10 is given just where no word ends in six zeros
pub no_word : (p : ℕ) (t : Bool) (s : List ℕ) → (ends p (coded_of p t s) ≡ false → NoWordEnds) × (NoWordEnds → ends p (coded_of p t s) ≡ false)
no_word p t s =
    (λ e. absurd (let f = always_ends p t s in true≢false (cc)), λ none. absurd (some_word_ends none))

-- the three outcomes; number 10 is none of them
pub data Outcome (s : List ℕ) : Type 0 where
  symbol : at_most 1 s ≡ false → receive_of 1 s ≡ Err BadSymbol → Outcome s
  no_sync : at_most 1 s ≡ true → sync_of 1 (take 16 s) ≡ None → receive_of 1 s ≡ Err NoSync → Outcome s
  word : (t : Bool) → Bits s → sync_of 1 (take 16 s) ≡ Some (polarity_of t) → receive_of 1 s ≡ Ok (found 1 t (coded_of 1 t s)) → Outcome s

pub outcome : (s : List ℕ) → Outcome s
outcome s = by_clean (at_most 1 s) refl
  where
    by_sync_lem : at_most 1 s ≡ true → (q : Option Polarity) → sync_of 1 (take 16 s) ≡ q → Outcome s
    by_sync_lem e (Some Upright) f = word false (at_most_holds 1 s e) f (synced 1 s (Some Upright) e f ∙ nearest_found 1 false s)
    by_sync_lem e (Some TurnedOver) f = word true (at_most_holds 1 s e) f (synced 1 s (Some TurnedOver) e f ∙ nearest_found 1 true s)
    by_sync_lem e None f = no_sync e f (synced 1 s None e f)

    by_clean : (b : Bool) → at_most 1 s ≡ b → Outcome s
    by_clean true e = by_sync_lem e (sync_of 1 (take 16 s)) refl
    by_clean false e = symbol e (symbol_refused 1 s e)

module _ (s : List ℕ) (t : Bool) (bits : Bits s) (tells : sync_of 1 (take 16 s) ≡ Some (polarity_of t)) where
  coded : List ℕ
  coded = coded_of 1 t s

  found_taken : Taken s t (word_of 1 coded) (corrected_of 1 coded (word_of 1 coded)) (agrees_of (word_of 1 coded))
  unfolding coded
  found_taken =
      record {
        sync = tells;
        nearest = nearest_decode 1 286 coded (coded_long 1 t s);
        count = count_places coded (word_of 1 coded) (coded_at_most 1 t s bits);
        check = refl;
      }

-- THE MEANING: where the link receives a word, it is the nearest to what came, and count, polarity and check are its own
pub nearest_taken : (s : List ℕ) (r : Received) → receive_of 1 s ≡ Ok r → Taken s r.turned_over r.word r.corrected r.agrees
unfolding coded
nearest_taken s r e = by (outcome s)
  where
    by : Outcome s → Taken s r.turned_over r.word r.corrected r.agrees
    by (symbol c f) = absurd (true≢false (cc))
    by (no_sync c m f) = absurd (true≢false (cc))
    by (word u bits y f) =
        let same : found 1 u (coded_of 1 u s) ≡ r = (cc) in
        subst (λ (x : Received). Taken s x.turned_over x.word x.corrected x.agrees) same (found_taken s u bits y)
