-- A step of the walk: what a window has beside it, where the walk then stands, and where it closes. Assumes nothing.
use mathlib.Core.Path.{◌≡◌, refl}
use mathlib.Core.List.{List}
use Prim.Native.Nat.{ℕ, ◌-◌, ◌≤◌, ◌<◌}
use native.Mathlib.Decide.{ℕ_discrete}
use native.Mathlib.Omega.{arith}
use borrow.Author.Tests.{le-leb, lt-leb}
use lib.ListN.{length}
use Rattle.std.specs.Prelude.{Ok, Err}
use Rattle.bits.specs.Lists.{part}
use Rattle.navic.specs.Navic.{answer, line_of}
use Rattle.navic.specs.declared.Numbers.{Numbers}
use Rattle.recording.specs.declared.FoundWindow.{FoundWindow}
use Rattle.recording.specs.declared.WalkRefusal.{WalkRefusal}
use Rattle.recording.specs.declared.WalkRefusal.TheVariants.{TooLong, NoWindow}
use Rattle.recording.specs.Walk.{Found, found_from, number_in, start_in, after_in}
use Rattle.recording.proofs.Parts.{inside_of}
use Rattle.recording.proofs.Search.{Outcome, too_many, window, no_more, found, forward}
use Rattle.navic_walk.specs.declared.Step.{Step}
use Rattle.navic_walk.specs.Steps.{step_at, step_of, closing_of}

module _ (l : List ℕ) (from : ℕ) where
  -- a window that is found has 600 symbols, and its line is that of the part there
  module _ (w : FoundWindow) (is : found_from l from ≡ Ok w) where
    pub step_told : (s : List ℕ) (x : Numbers) → x ≡ line_of (answer s 36)
        → s ≡ part l (start_in (found_from l from)) (after_in (found_from l from) - start_in (found_from l from))
        → Ok (record { window = w; line = x }) ≡ step_of l from
    unfolding step_of
    step_told s x read e = let n : w.after - w.start ≡ 600 = omega (arith, (rw is at (forward l from)) refl) in
        let here : s ≡ part l w.start 600 = rw (is, n) at e in
        rw (read, is, here) refl

  pub step_refused : (e : WalkRefusal) → found_from l from ≡ Err e → Err e ≡ step_of l from
  unfolding step_of
  step_refused e is = rw is refl

  -- a step is one of a window, and the walk then stands further on and within the recording
  pub onward : (s : Step) → step_of l from ≡ Ok s → number_in (found_from l from) ≡ 0
  unfolding step_of
  onward s = go (found_from l from)
    where
      go : (f : Found) → step_at l f ≡ Ok s → number_in f ≡ 0
      go (Ok w) is = refl
      go (Err e) is = absurd (let z : ◌≡◌ {A = ℕ} 0 1 = (cc) in omega arith)

  pub stands : number_in (found_from l from) ≡ 0 → (from < after_in (found_from l from)) × (after_in (found_from l from) ≤ length l)
  stands n = let f = forward l from n in
      (omega (arith, f.0, f.1), (inside_of l from {f = found_from l from} refl).1)

  pub closing : (e : WalkRefusal) → step_of l from ≡ Err e → number_in (Err e) ≡ closing_of (length l)
  unfolding step_of closing_of
  closing e = go (found_from l from) (found l from)
    where
      go : (f : Found) → Outcome l from f → step_at l f ≡ Err e → number_in (Err e) ≡ closing_of (length l)
      go f (too_many h) is = let z : TooLong ≡ e = (cc) in
          rw (← z, lt-leb _ _ h) refl
      go f (window h a b w) is = absurd (let z : ◌≡◌ {A = ℕ} 0 1 = (cc) in omega arith)
      go f (no_more h w) is = let z : NoWindow (length l) ≡ e = (cc) in
          rw (← z, le-leb _ _ h) refl

-- a window here or before is one from the start
pub from_start : (l : List ℕ) (from : ℕ) → number_in (found_from l from) ≡ 0 → (0 < from → number_in (found_from l 0) ≡ 0) → number_in (found_from l 0) ≡ 0
from_start l from n before = elim (ℕ_discrete from 0) [
  | yes z ↦ rw z at n
  | no k ↦ before (omega arith)
]
