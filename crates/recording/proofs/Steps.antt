-- A walk step by step: it gives the windows of the recording in order, and 4 ever after.
-- Assumes nothing.
use mathlib.Core.Path.{◌≡◌, refl, sym, ap, ap₂, subst, ◌∙◌}
use mathlib.Core.Logic.{⊎_elim}
use mathlib.Core.Bool.{Bool, true, false}
use mathlib.Core.List.{List, [], ◌∷◌}
use Prim.Native.Nat.{ℕ, zero, suc, ◌+◌, ◌≤◌, ◌<◌}
use native.Mathlib.Omega.{arith}
use lib.ListN.{length}
use lib.Dec.{ltb}
use denote.Ref.{Bor}
use borrow.Author.Tests.{ltb-true, ltb-false, le-ltb}
use Rattle.bits.specs.Lists.{at, pick}
use Rattle.recording.specs.declared.Walker.{Walker}
use Rattle.recording.specs.declared.Handed.{Handed}
use Rattle.recording.specs.Walk.{first_from, Found, found_from, after_in, PartOf, HandedOn, windows_within, windows}
use Rattle.recording.proofs.Search.{done, none, window_fits, first_found, first_none, found_done, found_none}

-- where a walk from a place stands after k steps, each from where the one before left it; and what the next step gives
unfoldable pub stood : List ℕ → ℕ → ℕ → ℕ
stood l from zero = from
stood l from (suc k) = stood l (after_in (found_from l from)) k

abbrev pub step : List ℕ → ℕ → ℕ → Found
step l from k = found_from l (stood l from k)

-- steps over a recording of n symbols that give the windows ws: each of them in order, and then none for ever
pub record Gives (n : ℕ) (ws : List ℕ) (steps : ℕ → Found) : Type 0 where
  pub each : (k : ℕ) → k < length ws → steps k ≡ done (at ws k)
  pub ever_after : (k : ℕ) → length ws ≤ k → steps k ≡ none n

gives_more : (n p : ℕ) (ws : List ℕ) (steps : ℕ → Found) → steps 0 ≡ done p → Gives n ws (λ k. steps (suc k)) → Gives n (p ∷ ws) steps
gives_more n p ws steps e g = record { each = each; ever_after = ever_after }
  where
    each : (k : ℕ) → k < suc (length ws) → steps k ≡ done (at (p ∷ ws) k)
    each zero i = e
    each (suc k) i = g.each k (omega arith)

    ever_after : (k : ℕ) → suc (length ws) ≤ k → steps k ≡ none n
    ever_after zero i = absurd (omega arith)
    ever_after (suc k) i = g.ever_after k (omega arith)

module _ (l : List ℕ) where
  -- the first place, within the recording or at its end
  first_within : (from : ℕ) → first_from l from < length l → from ≤ first_from l from
  first_within from h = ⊎_elim (λ w. w.0) (λ w. absurd (omega arith)) (first_found l from).stands

  first_end : (from : ℕ) → length l ≤ first_from l from → first_from l from ≡ length l
  first_end from h =
      ⊎_elim
      (λ w. let b : first_from l from + 600 ≤ length l = window_fits l (first_from l from) w.1 in absurd (omega arith))
      (λ w. w.0)
      (first_found l from).stands

  -- ---- the bound on the number of windows: any two that reach the end give the same list
  within_none : (n from : ℕ) → first_from l from ≡ length l → windows_within n l from ≡ []
  unfolding windows_within
  within_none zero from e = refl
  within_none (suc n) from e = rw (e, le-ltb (length l) (length l) (omega arith)) refl

  within_same : (n m from : ℕ) → length l ≤ from + n → length l ≤ from + m → windows_within n l from ≡ windows_within m l from
  unfolding windows_within
  within_same zero m from h k = sym (within_none m from (first_none l from (omega arith)))
  within_same (suc n) zero from h k = within_none (suc n) from (first_none l from (omega arith))
  within_same (suc n) (suc m) from h k = go (ltb p (length l)) refl (within_same n m (p + 600))
    where
      p : ℕ
      p = first_from l from

      go : (b : Bool) → ltb p (length l) ≡ b
          → (length l ≤ p + 600 + n → length l ≤ p + 600 + m → windows_within n l (p + 600) ≡ windows_within m l (p + 600))
          → pick b (p ∷ windows_within n l (p + 600)) [] ≡ pick b (p ∷ windows_within m l (p + 600)) []
      go true e same =
          let w : from ≤ p = first_within from (ltb-true p (length l) e) in
          ap (λ (ws : List ℕ). p ∷ ws) (same (omega arith) (omega arith))
      go false e same = refl

  -- a bigger bound than the recording's length gives no other windows
  pub enough : (n : ℕ) → length l ≤ n → windows_within n l 0 ≡ windows l
  unfolding windows
  enough n h = within_same n (length l) 0 (omega arith) (omega arith)

  -- ---- the steps
  module _ (short : length l ≤ 65536) where
    steps_none : (from k : ℕ) → first_from l from ≡ length l → step l from k ≡ none (length l)
    unfolding stood
    steps_none from zero e = found_none l from short e
    steps_none from (suc k) e = rw (found_none l from short e) (steps_none (length l) k (first_none l (length l) (omega arith)))

    steps_within : (n from : ℕ) → length l ≤ from + n → Gives (length l) (windows_within n l from) (step l from)
    unfolding windows_within stood
    steps_within zero from h =
        record { each = λ k i. absurd (omega arith); ever_after = λ k i. steps_none from k (first_none l from (omega arith)) }
    steps_within (suc n) from h = go (ltb p (length l)) refl (steps_within n (p + 600))
      where
        p : ℕ
        p = first_from l from

        go : (b : Bool) → ltb p (length l) ≡ b → (length l ≤ p + 600 + n → Gives (length l) (windows_within n l (p + 600)) (step l (p + 600)))
            → Gives (length l) (pick b (p ∷ windows_within n l (p + 600)) []) (step l from)
        go true e rest =
            let i : p < length l = ltb-true p (length l) e in
            let w : from ≤ p = first_within from i in
            let f : found_from l from ≡ done p = found_done l from p short refl i in
            gives_more (length l) p (windows_within n l (p + 600)) (step l from) f (rw f (rest (omega arith)))
        go false e rest =
            record {
              each = λ k i. absurd (omega arith);
              ever_after = λ k i. steps_none from k (first_end from (ltb-false p (length l) e));
            }

    -- a walk from the start gives the windows of the recording, and 4 at its end ever after
    pub walked : Gives (length l) (windows l) (step l 0)
    unfolding windows
    walked = steps_within (length l) 0 (omega arith)

-- ---- the walker
stood_next : (l : List ℕ) (from k : ℕ) → stood l from (suc k) ≡ after_in (step l from k)
unfolding stood
stood_next l from zero = refl
stood_next l from (suc k) = stood_next l (after_in (found_from l from)) k

-- what is handed on as found
abbrev pub told : Handed → Found
told r = r.found

-- n calls one after another, from a new walker on, each over the walker that the one before left
module _ (n : ℕ) (w : ℕ → Walker) (r : ℕ → Handed) (new : (w 0).place ≡ 0) (calls : (k : ℕ) → k < n → HandedOn (w k) (w (suc k)) (r k)) where
  walker_stands : (k : ℕ) → k ≤ n → ((w k).recording ≡ (w 0).recording) × ((w k).place ≡ stood (w 0).recording.now 0 k)
  unfolding stood
  walker_stands zero i = (refl, new)
  walker_stands (suc k) i =
      let at_k = walker_stands k (omega arith) in
      let call = calls k i in (
        call.kept ∙ at_k.0,
        call.moved
            ∙ ap₂ (λ (whole : Bor (List ℕ)) (from : ℕ). after_in (found_from whole.now from)) at_k.0 at_k.1
            ∙ sym (stood_next (w 0).recording.now 0 k),
      )

  -- call k hands on what step k gives, and its part
  pub walker_walked : (k : ℕ) → k < n
      → (told (r k) ≡ step (w 0).recording.now 0 k) × PartOf (w 0).recording (step (w 0).recording.now 0 k) (r k).symbols
  walker_walked k i =
      let at_k = walker_stands k (omega arith) in
      let call = calls k i in
      rw (← at_k.1, ← at_k.0)
      (call.found, call.symbols)

  -- so calling it again and again hands back the windows of its recording with their places, in order, and then 4 with the empty part at the end
  -- for ever
  abbrev whole : List ℕ
  whole = (w 0).recording.now

  pub walker_windows : length whole ≤ 65536 → (k : ℕ) → k < n
      → (k < length (windows whole) → (told (r k) ≡ done (at (windows whole) k)) × PartOf (w 0).recording (done (at (windows whole) k)) (r k).symbols)
      × (length (windows whole) ≤ k → (told (r k) ≡ none (length whole)) × PartOf (w 0).recording (none (length whole)) (r k).symbols)
  walker_windows short k i =
      let g = walked whole short in
      let c = walker_walked k i in (
        λ h. (c.0 ∙ g.each k h, subst (λ (f : Found). PartOf (w 0).recording f (r k).symbols) (g.each k h) c.1),
        λ h. (c.0 ∙ g.ever_after k h, subst (λ (f : Found). PartOf (w 0).recording f (r k).symbols) (g.ever_after k h) c.1),
      )
