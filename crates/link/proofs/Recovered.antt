-- Demand 3 on words: what was sent comes back, with up to four altered coded symbols and up to two altered sync symbols, upright or turned over.
-- Assumes nothing.
use mathlib.Core.Path.{◌≡◌, refl, sym, ap, ap₂, subst, ◌∙◌}
use mathlib.Core.Bool.{Bool, true, false}
use mathlib.Core.List.{List}
use Prim.Native.Nat.{ℕ, ◌≤◌}
use native.Mathlib.Omega.{arith}
use lib.ListN.{length, take, drop, length-drop}
use lib.Seq.{length-take-le}
use Rattle.std.specs.Prelude.{Some, Ok}
use Rattle.bits.specs.Lists.{Bits, differences}
use Rattle.bits.proofs.Lists.{at_most_take, at_most_true, map_take}
use Rattle.bits.proofs.Sum.{differences_none}
use Rattle.convolution.specs.Code.{coded_form}
use Rattle.convolution.proofs.Coded.{coded_bits, coded_long}
use Rattle.convolution.proofs.Corrected.{four_altered}
use Rattle.crc24q.specs.Check.{agrees_of}
use Rattle.framing.specs.Frame.{turned_levels, turned_if, coded_of}
use Rattle.framing.specs.Interleaver.{interleaved, deinterleaved}
use Rattle.framing.specs.Sync.{eb90, sync_of}
use Rattle.framing.proofs.Agreement.{sync_upright, sync_turned}
use Rattle.framing.proofs.Interleaver.{deinterleaved_long, redone, differences_interleaved}
use Rattle.framing.proofs.Subframe as subframe
use Rattle.link.specs.declared.Received.{Received}
use Rattle.link.specs.Link.{sent_of, word_of, corrected_of, nearest_of, by_sync, receive_of}
use Rattle.link.specs.Promise.{IsWord, altered_coded, Altered, polarity_of}
use Rattle.link.proofs.Outcomes.{synced, nearest_found, count_places}

-- a word w that was received, with its own check
abbrev pub received : List ℕ → ℕ → Bool → Received
received w n t = record { word = w; corrected = n; turned_over = t; agrees = agrees_of w }

-- ---- what is sent
pub sent_long : (w : List ℕ) → length (sent_of w) ≡ 600
unfolding sent_of
sent_long w = subframe.framed_long (coded_form w)

pub sent_bits : (w : List ℕ) → Bits (sent_of w)
unfolding sent_of
sent_bits w = subframe.framed_bits (coded_form w) (coded_bits w)

sent_sync : (w : List ℕ) → take 16 (sent_of w) ≡ eb90
unfolding sent_of
sent_sync w = subframe.framed_head (coded_form w)

sent_coded : (w : List ℕ) → drop 16 (sent_of w) ≡ interleaved (coded_form w)
unfolding sent_of
sent_coded w = subframe.framed_tail (coded_form w)

-- ---- what came, where w was sent and s is what was left of it upright
module _ (w s : List ℕ) (is : IsWord w) (a : Altered (sent_of w) s) where
  turned_bits : (t : Bool) → Bits (turned_if t 1 s)
  turned_bits true = subframe.turned_at_most 1 s
  turned_bits false = a.bits

  sync_near : differences eb90 (take 16 s) ≤ 2
  sync_near = subst (λ (l : List ℕ). differences l (take 16 s) ≤ 2) (sent_sync w) a.sync

  sync_bits : Bits (take 16 s)
  sync_bits = at_most_take 1 16 s a.bits

  sync_long : length (take 16 s) ≡ 16
  sync_long = length-take-le 16 s (omega (arith, a.long))

  -- the sync tells the polarity
  sync_tells : (t : Bool) → sync_of 1 (take 16 (turned_if t 1 s)) ≡ Some (polarity_of t)
  unfolding turned_levels
  sync_tells true = rw map_take (unfold turned_levels in sync_turned (take 16 s) sync_bits sync_long sync_near)
  sync_tells false = sync_upright (take 16 s) sync_bits sync_long sync_near

  -- turned back, the coded symbols are those that came upright
  coded_is : (t : Bool) → coded_of 1 t (turned_if t 1 s) ≡ coded_of 1 false s
  coded_is true = subframe.coded_turned 1 s a.bits
  coded_is false = refl

  coded_apart : differences (coded_form w) (coded_of 1 false s) ≡ altered_coded (sent_of w) s
  unfolding coded_of
  coded_apart =
      sym (differences_interleaved (coded_form w) (deinterleaved (drop 16 s)) (coded_long w ∙ omega (arith, is.long)) (deinterleaved_long (drop 16 s)))
      ∙ ap₂ differences (sym (sent_coded w)) (redone (drop 16 s) (length-drop 16 s ∙ omega (arith, a.long)))

  module _ (t : Bool) where
    coded : List ℕ
    coded = coded_of 1 t (turned_if t 1 s)

    apart : differences (coded_form w) coded ≡ altered_coded (sent_of w) s
    unfolding coded
    apart = ap (differences (coded_form w)) (coded_is t) ∙ coded_apart

    bits : Bits coded
    unfolding coded
    bits = subframe.coded_at_most 1 t (turned_if t 1 s) (turned_bits t)

    word : word_of 1 coded ≡ w
    unfolding coded
    word = four_altered 286 coded w (subframe.coded_long 1 t (turned_if t 1 s)) bits is.bits is.long (omega (arith, apart, a.coded))

    count : corrected_of 1 coded w ≡ altered_coded (sent_of w) s
    count = count_places coded w bits ∙ apart

    nearest : nearest_of 1 t (turned_if t 1 s) ≡ Ok (received w (altered_coded (sent_of w) s) t)
    unfolding coded
    nearest =
        nearest_found 1 t (turned_if t 1 s)
        ∙ ap (λ (v : List ℕ). Ok (received v (corrected_of 1 coded v) t)) word
        ∙ ap (λ (n : ℕ). Ok (received w n t)) count

  by_polarity : (t : Bool) → by_sync 1 (turned_if t 1 s) (Some (polarity_of t)) ≡ nearest_of 1 t (turned_if t 1 s)
  by_polarity true = refl
  by_polarity false = refl

  -- THE THEOREM: the word comes back, with the exact number of altered coded symbols, the polarity, and its own check
  pub recovered : (t : Bool) → receive_of 1 (turned_if t 1 s) ≡ Ok (received w (altered_coded (sent_of w) s) t)
  recovered t =
      synced 1 (turned_if t 1 s) (Some (polarity_of t)) (at_most_true 1 (turned_if t 1 s) (turned_bits t)) (sync_tells t) ∙ by_polarity t ∙ nearest t

-- nothing altered
pub unaltered : (w : List ℕ) → Altered (sent_of w) (sent_of w)
unaltered w =
    record {
      bits = sent_bits w;
      long = sent_long w;
      coded = omega (arith, differences_none (drop 16 (sent_of w)));
      sync = omega (arith, differences_none (take 16 (sent_of w)));
    }

pub sent_back : (w : List ℕ) → IsWord w → (t : Bool) → receive_of 1 (turned_if t 1 (sent_of w)) ≡ Ok (received w 0 t)
sent_back w is t =
    recovered w (sent_of w) is (unaltered w) t
    ∙ ap (λ (n : ℕ). Ok (received w n t)) (differences_none (drop 16 (sent_of w)))
