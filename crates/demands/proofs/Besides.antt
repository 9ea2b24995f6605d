-- The numbers beside the reader's answer: beside 1, 2, 3, 4 and 10 zeros; beside 0, 5, 6 and 7 the corrected count and the polarity of the word
-- nearest to what came. Assumes nothing.
use mathlib.Core.Path.{◌≡◌, refl, sym, subst}
use mathlib.Core.Bool.{Bool, true, false}
use mathlib.Core.List.{List}
use Prim.Native.Nat.{ℕ, ◌≤◌, ◌<◌}
use native.Mathlib.Decide.{ℕ_discrete, dec_le}
use native.Mathlib.Omega.{arith}
use lib.ListN.{length, take}
use Rattle.bits.specs.Lists.{pick}
use Rattle.crc24q.specs.Check.{agrees_of}
use Rattle.link.specs.Link.{receive_of, word_in}
use Rattle.link.specs.Promise.{Taken}
use Rattle.link.proofs.Taken as taken
use Rattle.link.proofs.Taken.{Outcome, outcome}
use Rattle.demands.specs.Family.{Family, Reading, done, refused, not_of_600, little_room, bad_symbol, no_sync, no_word, is_idle, bad_check, bad_time, reading_of, by_check}
use Rattle.demands.proofs.Ordered.{word_taken, not_600, little_room_lem, by_link_lem, by_word}

module _ (f : Family) (s : List ℕ) where
  -- the word that was taken
  abbrev word : List ℕ
  word = word_in (receive_of 1 s)

  abbrev pub Beside : Reading f → Type 0
  Beside (done e n t) = Taken s t (word_in (receive_of 1 s)) n (agrees_of (word_in (receive_of 1 s)))
  Beside (refused not_of_600 n t) = (n ≡ 0) × (t ≡ false)
  Beside (refused little_room n t) = (n ≡ 0) × (t ≡ false)
  Beside (refused bad_symbol n t) = (n ≡ 0) × (t ≡ false)
  Beside (refused no_sync n t) = (n ≡ 0) × (t ≡ false)
  Beside (refused no_word n t) = (n ≡ 0) × (t ≡ false)
  Beside (refused is_idle n t) = Taken s t (word_in (receive_of 1 s)) n (agrees_of (word_in (receive_of 1 s)))
  Beside (refused bad_check n t) = Taken s t (word_in (receive_of 1 s)) n (agrees_of (word_in (receive_of 1 s)))
  Beside (refused bad_time n t) = Taken s t (word_in (receive_of 1 s)) n (agrees_of (word_in (receive_of 1 s)))

  -- by the check, the idle pattern and the time
  by_all : (a : Bool) (n : ℕ) (t : Bool) → Taken s t word n (agrees_of word) → Beside (by_check f a word n t)
  by_all true n t near = go (f.untimely (f.from_body (take 262 word))) _
    where
      go : (l : Bool) (e : f.Entry) → Beside (pick l (refused bad_time n t) (done e n t))
      go true e = near
      go false e = near
  by_all false n t near = go (f.idle word)
    where
      go : (i : Bool) → Beside (refused (pick i is_idle bad_check) n t)
      go true = near
      go false = near

  module _ (room : ℕ) where
    told : {y : Reading f} → reading_of f s room ≡ y → Beside y → Beside (reading_of f s room)
    told e b = subst Beside (sym e) b

    after_room : length s ≡ 600 → 36 ≤ room → Outcome s → Beside (reading_of f s room)
    after_room long enough (taken.symbol c r) = told (by_link_lem f s room long enough _ r) (refl, refl)
    after_room long enough (taken.no_sync c m r) = told (by_link_lem f s room long enough _ r) (refl, refl)
    after_room long enough (taken.word t bits sync r) =
        told (by_word f s room long enough _ t _ r) (by_all (agrees_of word) _ t (word_taken s _ _ t r))

    pub read_beside : Beside (reading_of f s room)
    read_beside = elim (ℕ_discrete (length s) 600) [
      | no other ↦ told (not_600 f s room other) (refl, refl)
      | yes long ↦ elim (dec_le 36 room) [
        | no little ↦ let less : room < 36 = omega arith in told (little_room_lem f s room long less) (refl, refl)
        | yes enough ↦ after_room long enough (outcome s)
      ]
    ]
