-- The sync rule (01, "Sync"), for levels from 0 to p; at p = 1 levels are symbols. Assumes nothing.
use Rattle.std.specs.Prelude.{List, [], ◌∷◌, map, ℕ, ◌*◌, eqb, leb, ltb, length, Option, Some, None}
use Rattle.bits.specs.Lists.{pick, both, at_most, differences}
use Rattle.framing.specs.declared.Polarity.{Polarity}
use Rattle.framing.specs.declared.Polarity.TheVariants.{Upright, TurnedOver}

-- EB90 hex, most significant bit first
unfoldable pub eb90 : List ℕ
eb90 = 1 ∷ 1 ∷ 1 ∷ 0 ∷ 1 ∷ 0 ∷ 1 ∷ 1 ∷ 1 ∷ 0 ∷ 0 ∷ 1 ∷ 0 ∷ 0 ∷ 0 ∷ 0 ∷ []

-- a level read as a bit: 1 where it is above half of p
unfoldable pub bit_at : ℕ → ℕ → ℕ
bit_at p l = pick (ltb p (2 * l)) 1 0

-- the number d of symbols that disagree with EB90
unfoldable pub disagreeing : ℕ → List ℕ → ℕ
disagreeing p s = differences eb90 (map (bit_at p) s)

-- with d at most 2 upright, with d at least 14 turned over, from 3 to 13 no sync
unfoldable pub judged : ℕ → Option Polarity
judged d = pick (leb d 2) (Some Upright) (pick (leb 14 d) (Some TurnedOver) None)

-- what sixteen symbols say; the rule doesn't hold where one is above p
unfoldable pub sync_of : ℕ → List ℕ → Option Polarity
sync_of p s = pick (both (eqb (length s) 16) (at_most p s)) (judged (disagreeing p s)) None
