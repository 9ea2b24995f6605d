-- What is promised of the link (demand 3, on words): "Two different words of 286 bits, each followed by six zeros, differ in at least ten of their
-- 584 coded symbols" (`distance` of crate convolution). "The reader always takes a word nearest to what came; among equally near ones, going back
-- from the last bit, it has the zero at the first place where they part" (`nearest_taken`, proofs/Taken.antt). "So if a written subframe suffers
-- up to four altered coded symbols, any four, and up to two altered sync symbols (each 0 for 1 or 1 for 0), with or without all 600 then turned
-- over", the word comes back with the exact number of altered coded symbols (`recovered`, proofs/Recovered.antt). Assumes nothing.
use Rattle.std.specs.Prelude.{◌≡◌, Bool, true, false, List, ℕ, ◌≤◌, length, take, drop, Some}
use Rattle.bits.specs.Lists.{Bits, differences}
use Rattle.convolution.specs.Code.{six_zeros, coded_form, Nearest}
use Rattle.crc24q.specs.Check.{agrees_of}
use Rattle.framing.specs.Frame.{coded_of}
use Rattle.framing.specs.Sync.{sync_of}
use Rattle.framing.specs.declared.Polarity.{Polarity}
use Rattle.framing.specs.declared.Polarity.TheVariants.{Upright, TurnedOver}

-- a word: 286 bits
pub record IsWord (w : List ℕ) : Type 0 where
  pub bits : Bits w
  pub long : length w ≡ 286

-- the number of altered coded symbols, and of altered sync symbols, where `sent` was sent and s came
abbrev pub altered_coded : List ℕ → List ℕ → ℕ
altered_coded sent s = differences (drop 16 sent) (drop 16 s)

abbrev pub altered_sync : List ℕ → List ℕ → ℕ
altered_sync sent s = differences (take 16 sent) (take 16 s)

-- s is `sent` with up to four altered coded symbols, any four, and up to two altered sync symbols, each 0 for 1 or 1 for 0
pub record Altered (sent s : List ℕ) : Type 0 where
  pub bits : Bits s
  pub long : length s ≡ 600
  pub coded : altered_coded sent s ≤ 4
  pub sync : altered_sync sent s ≤ 2

-- what the sync tells where a subframe is upright, and where it is turned over
abbrev pub polarity_of : Bool → Polarity
polarity_of true = TurnedOver
polarity_of false = Upright

-- w is the word nearest to the coded symbols of s, turned over where t says so; n of them differ from its coded form; a tells whether its check agrees
pub record Taken (s : List ℕ) (t : Bool) (w : List ℕ) (n : ℕ) (a : Bool) : Type 0 where
  pub sync : sync_of 1 (take 16 s) ≡ Some (polarity_of t)
  pub nearest : Nearest 1 286 (coded_of 1 t s) w
  pub count : n ≡ differences (coded_form w) (coded_of 1 t s)
  pub check : a ≡ agrees_of w

-- a word of 292 bits that ends in six zeros
pub record EndsInSixZeros (w : List ℕ) : Type 0 where
  pub bits : Bits w
  pub long : length w ≡ 292
  pub tail : drop 286 w ≡ six_zeros

-- no word ends in six zeros; `some_word_ends` of proofs/ says that this never holds
abbrev pub NoWordEnds : Type 0
NoWordEnds = (w : List ℕ) → EndsInSixZeros w → ⊥
