-- A subframe's 600 symbols: the sync in front, the interleaved symbols behind it, and all of them turned over and back.
-- Assumes nothing.
use mathlib.Core.Path.{◌≡◌, refl, sym, ap, ap₂, ◌∙◌}
use mathlib.Core.Bool.{Bool, true, false}
use mathlib.Core.List.{List, [], ◌∷◌}
use Prim.Native.Nat.{ℕ, ◌+◌, ◌-◌, ◌*◌, ◌<◌}
use native.Mathlib.Omega.{arith}
use lib.ListN.{length, take, drop, length-append}
use lib.Seq.{take_at, drop_at, get_or-drop}
use Rattle.bits.specs.Lists.{pick, at, AtMost, at_most, Bits}
use Rattle.bits.specs.Numbers.{number}
use Rattle.bits.proofs.Lists.{at_most_append, at_most_drop, at_most_holds, map_at, map_long}
use Rattle.framing.specs.Sync.{eb90}
use Rattle.framing.specs.Interleaver.{interleaved, deinterleaved}
use Rattle.framing.specs.Frame.{framed, turned_levels, turned_if, coded_of}
use Rattle.framing.proofs.Interleaver.{interleaved_long, interleaved_at_most, deinterleaved_long, deinterleaved_at_most, undone}

-- ---- framed
pub eb90_long : length eb90 ≡ 16
unfolding eb90
eb90_long = refl

pub eb90_bits : Bits eb90
unfolding eb90 at_most
eb90_bits = at_most_holds 1 eb90 refl

-- the hexadecimal digits E, B, 9 and 0
pub eb90_hex : number eb90 ≡ ((14 * 16 + 11) * 16 + 9) * 16 + 0
unfolding eb90 number
eb90_hex = refl

pub framed_long : (c : List ℕ) → length (framed c) ≡ 600
unfolding framed
framed_long c = length-append eb90 (interleaved c) ∙ ap₂ ◌+◌ eb90_long (interleaved_long c)

pub framed_head : (c : List ℕ) → take 16 (framed c) ≡ eb90
unfolding framed
framed_head c = take_at eb90 (interleaved c) 16 eb90_long

pub framed_tail : (c : List ℕ) → drop 16 (framed c) ≡ interleaved c
unfolding framed
framed_tail c = drop_at eb90 (interleaved c) 16 eb90_long

pub framed_bits : (c : List ℕ) → Bits c → Bits (framed c)
unfolding framed
framed_bits c h = at_most_append 1 eb90 (interleaved c) eb90_bits (interleaved_at_most 1 c h)

-- ---- turned over
module _ (p : ℕ) where
  pub turned_long : (s : List ℕ) → length (turned_levels p s) ≡ length s
  unfolding turned_levels
  turned_long s = map_long (λ l. p - l) s

  pub turned_twice : (s : List ℕ) → AtMost p s → turned_levels p (turned_levels p s) ≡ s
  unfolding turned_levels
  turned_twice [] h = refl
  turned_twice (l ∷ s) h = ap₂ ◌∷◌ (omega arith) (turned_twice s h.1)

  pub turned_at_most : (s : List ℕ) → AtMost p (turned_levels p s)
  unfolding turned_levels
  turned_at_most [] = tt
  turned_at_most (l ∷ s) = (omega arith, turned_at_most s)

  -- the symbol k after the first n, turned over where asked
  pub turned_at : (t : Bool) (n : ℕ) (s : List ℕ) (k : ℕ) → n + k < length s → pick t (p - at s (n + k)) (at s (n + k)) ≡ at (drop n (turned_if t p s)) k
  unfolding turned_levels
  turned_at t n s k h = rw get_or-drop (sym (each t))
    where
      each : (t : Bool) → at (turned_if t p s) (n + k) ≡ pick t (p - at s (n + k)) (at s (n + k))
      each true = map_at (λ l. p - l) s (n + k) h
      each false = refl

  -- ---- the coded symbols
  pub coded_long : (t : Bool) (s : List ℕ) → length (coded_of p t s) ≡ 584
  unfolding coded_of
  coded_long t s = deinterleaved_long _

  pub coded_at_most : (t : Bool) (s : List ℕ) → AtMost p s → AtMost p (coded_of p t s)
  unfolding coded_of
  coded_at_most true s h = deinterleaved_at_most p _ (at_most_drop p 16 (turned_levels p s) (turned_at_most s))
  coded_at_most false s h = deinterleaved_at_most p _ (at_most_drop p 16 s h)

  pub coded_framed : (c : List ℕ) → length c ≡ 584 → coded_of p false (framed c) ≡ c
  unfolding coded_of
  coded_framed c e = ap deinterleaved (framed_tail c) ∙ undone c e

  pub coded_turned : (s : List ℕ) → AtMost p s → coded_of p true (turned_levels p s) ≡ coded_of p false s
  unfolding coded_of
  coded_turned s h = ap (λ (x : List ℕ). deinterleaved (drop 16 x)) (turned_twice s h)
