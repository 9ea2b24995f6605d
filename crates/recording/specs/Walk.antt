-- The walk over a recording (01, "The pair and the recording"). Places count from 0. Assumes nothing.
use Rattle.std.specs.Prelude.{◌≡◌, ◌⊎◌, Bool, true, false, List, [], ◌∷◌, ℕ, zero, suc, ◌+◌, ◌-◌, ◌≤◌, ◌<◌, leb, ltb, length, Option, is_some, Result, Ok, Err}
use Rattle.std.specs.Borrow.{Bor}
use Rattle.bits.specs.Lists.{pick, both, part}
use Rattle.framing.specs.Sync.{sync_of}
use Rattle.framing.specs.declared.Polarity.{Polarity}
use Rattle.recording.specs.declared.FoundWindow.{FoundWindow}
use Rattle.recording.specs.declared.WalkRefusal.{WalkRefusal}
use Rattle.recording.specs.declared.WalkRefusal.TheVariants.{TooLong, NoWindow}
use Rattle.recording.specs.declared.Walker.{Walker}
use Rattle.recording.specs.declared.Handed.{Handed}

-- the sync rule holds: upright or turned over
abbrev pub held : Option Polarity → Bool
held sync = is_some sync

-- 600 symbols remain at the place p, and the sync rule holds there
unfoldable pub window_at : List ℕ → ℕ → Bool
window_at l p = both (leb (p + 600) (length l)) (held (sync_of 1 (part l p 16)))

-- p is the first place at or after `from` at which a window stands, or the recording's end where none does
pub record First (l : List ℕ) (from p : ℕ) : Type 0 where
  pub earlier : (k : ℕ) → from ≤ k → k < p → window_at l k ≡ false
  pub stands : ((from ≤ p) × (window_at l p ≡ true)) ⊎ ((p ≡ length l) × ((k : ℕ) → from ≤ k → window_at l k ≡ false))

-- the same by a search of n places from p on; `first_found` and `first_one` of proofs/ say that first_from is First, and the only one
unfoldable pub search : List ℕ → ℕ → ℕ → ℕ
search l zero p = length l
search l (suc n) p = pick (window_at l p) p (search l n (p + 1))

unfoldable pub first_from : List ℕ → ℕ → ℕ
first_from l from = search l (length l - from) from

-- what the walk gives: a window, or why there is none
abbrev pub Found : Type 0
Found = Result FoundWindow WalkRefusal

-- a window at the place p, and the walk then stands at its end; or none at the recording's end
unfoldable pub found_at : List ℕ → ℕ → Found
found_at l p = pick (ltb p (length l)) (Ok (record { start = p; after = p + 600 })) (Err (NoWindow (length l)))

-- what the walk gives from a place; it is refused where the recording is above 65,536 symbols
unfoldable pub found_from : List ℕ → ℕ → Found
found_from l from = pick (leb (length l) 65536) (found_at l (first_from l from)) (Err TooLong)

-- the number of what is given: done, above 65,536 symbols, and none left
abbrev pub number_in : Found → ℕ
number_in (Ok w) = 0
number_in (Err TooLong) = 1
number_in (Err (NoWindow end)) = 4

-- where the window starts, and where the walk then stands
abbrev pub start_in : Found → ℕ
start_in (Ok w) = w.start
start_in (Err TooLong) = 0
start_in (Err (NoWindow end)) = end

abbrev pub after_in : Found → ℕ
after_in (Ok w) = w.after
after_in (Err TooLong) = 0
after_in (Err (NoWindow end)) = end

-- r is the part of the whole from the start to where the walk then stands: it lies there (a pointer is a block of memory and a place in it), and
-- holds those symbols
pub record PartOf (whole : Bor (List ℕ)) (f : Found) (r : Bor (List ℕ)) : Type 0 where
  pub lies : r.ref_ptr ≡ (whole.ref_ptr.0, start_in f + whole.ref_ptr.1)
  pub holds : r.now ≡ part whole.now (start_in f) (after_in f - start_in f)

-- ---- the walker
-- the walker w hands r on, and is v afterwards
pub record HandedOn (w v : Walker) (r : Handed) : Type 0 where
  pub found : r.found ≡ found_from w.recording.now w.place
  pub symbols : PartOf w.recording (found_from w.recording.now w.place) r.symbols
  pub kept : v.recording ≡ w.recording
  pub moved : v.place ≡ after_in (found_from w.recording.now w.place)

-- ---- all windows
-- the places of the windows from a place on, each searched from the end of the one before; n is a bound on their number
unfoldable pub windows_within : ℕ → List ℕ → ℕ → List ℕ
windows_within zero l from = []
windows_within (suc n) l from =
    pick (ltb (first_from l from) (length l)) (first_from l from ∷ windows_within n l (first_from l from + 600)) []

-- the windows of a recording
unfoldable pub windows : List ℕ → List ℕ
windows l = windows_within (length l) l 0
