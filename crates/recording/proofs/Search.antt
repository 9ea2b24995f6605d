-- The search for a window: what it gives from a place is the first window there, and the only one.
-- Assumes nothing.
use mathlib.Core.Path.{◌≡◌, refl, sym, ap, ◌∙◌}
use mathlib.Core.Logic.{inl, inr, ⊎_elim}
use mathlib.Core.Bool.{Bool, true, false}
use mathlib.Core.List.{List, [], ◌∷◌}
use Prim.Native.Nat.{ℕ, zero, suc, ◌+◌, ◌-◌, ◌≤◌, ◌<◌}
use native.Mathlib.Decide.{ℕ_discrete, dec_le}
use native.Mathlib.Nat.{add-zero}
use native.Mathlib.Omega.{arith}
use lib.ListN.{length}
use borrow.Author.Tests.{le-leb, lt-leb, lt-ltb, le-ltb}
use Rattle.std.specs.Prelude.{Option, Some, None, Ok, Err}
use Rattle.std.specs.Option.{MatchOption, ok_or}
use Rattle.bits.specs.Lists.{at, pick, part, at_most}
use Rattle.bits.proofs.Lists.{at_most_false}
use Rattle.bits.proofs.Parts.{part_at}
use Rattle.framing.specs.Sync.{sync_of}
use Rattle.framing.proofs.Agreement.{sync_unclean}
use Rattle.recording.specs.declared.WalkRefusal.{WalkRefusal}
use Rattle.recording.specs.declared.WalkRefusal.TheVariants.{TooLong, NoWindow}
use Rattle.recording.specs.Walk.{held, window_at, First, search, first_from, Found, found_at, found_from, number_in, start_in, after_in}

-- the three things that the walk gives
abbrev pub refused : Found
refused = Err TooLong

abbrev pub done : ℕ → Found
done p = Ok (record { start = p; after = p + 600 })

abbrev pub none : ℕ → Found
none n = Err (NoWindow n)

-- each with when it is given from a place
pub data Outcome (l : List ℕ) (from : ℕ) : Found → Type 0 where
  too_many : 65536 < length l → Outcome l from refused
  window : {p : ℕ} → length l ≤ 65536 → from ≤ p → p + 600 ≤ length l → First l from p → Outcome l from (done p)
  no_more : length l ≤ 65536 → ((k : ℕ) → from ≤ k → window_at l k ≡ false) → Outcome l from (none (length l))

-- a test is not both
never : {A : Type 0} (b : Bool) → b ≡ true → b ≡ false → A
never b p q = absurd (let z : ◌≡◌ {A = ℕ} 0 1 = (cc) in omega arith)

module _ (l : List ℕ) where
  -- ---- a window
  pub window_short : (p : ℕ) → length l < p + 600 → window_at l p ≡ false
  unfolding window_at
  window_short p h = rw (lt-leb _ _ h) refl

  pub window_long : (p : ℕ) → p + 600 ≤ length l → window_at l p ≡ held (sync_of 1 (part l p 16))
  unfolding window_at
  window_long p h = rw (le-leb _ _ h) refl

  pub window_fits : (p : ℕ) → window_at l p ≡ true → p + 600 ≤ length l
  window_fits p e = elim (dec_le (p + 600) (length l)) [
    | yes h ↦ h
    | no n ↦ never (window_at l p) e (window_short p (omega arith))
  ]

  -- ---- the search gives the first place, and there is no other
  search_first : (n p : ℕ) → length l ≤ p + n → First l p (search l n p)
  unfolding search
  search_first zero p h =
      record { earlier = λ k a b. absurd (omega arith); stands = inr (refl, λ k a. window_short k (omega arith)) }
  search_first (suc n) p h = go (window_at l p) refl (search_first n (p + 1) (omega arith))
    where
      go : (b : Bool) → window_at l p ≡ b → First l (p + 1) (search l n (p + 1)) → First l p (pick b p (search l n (p + 1)))
      go true e f = record { earlier = λ k a b. absurd (omega arith); stands = inl (omega arith, e) }
      go false e f =
          let at_p : (k : ℕ) → p ≤ k → (p + 1 ≤ k → window_at l k ≡ false) → window_at l k ≡ false =
          λ k a g. elim (ℕ_discrete k p) [
            | yes s ↦ ap (window_at l) s ∙ e
            | no ne ↦ g (omega arith)
          ] in
          record {
            earlier = λ k a b. at_p k a (λ a'. f.earlier k a' b);
            stands = ⊎_elim (λ w. inl (omega arith, w.1)) (λ w. inr (w.0, λ k a. at_p k a (w.1 k))) f.stands;
          }

  pub first_found : (from : ℕ) → First l from (first_from l from)
  unfolding first_from
  first_found from = search_first (length l - from) from (omega arith)

  pub first_one : (from p q : ℕ) → First l from p → First l from q → p ≡ q
  first_one from p q f g =
      ⊎_elim
      (λ v.
      ⊎_elim
      (λ w.
      let a : p < q → ⊥ = λ h. never (window_at l p) v.1 (g.earlier p v.0 h) in
      let b : q < p → ⊥ = λ h. never (window_at l q) w.1 (f.earlier q w.0 h) in
      omega arith)
      (λ w. never (window_at l p) v.1 (w.1 p v.0))
      g.stands)
      (λ v. ⊎_elim (λ w. never (window_at l q) w.1 (v.1 q w.0)) (λ w. v.0 ∙ sym w.0) g.stands)
      f.stands

  -- ---- the search from p: nothing left, p itself, or what the next place gives
  search_none : (n p : ℕ) → length l < p + 600 → search l n p ≡ length l
  unfolding search
  search_none zero p h = refl
  search_none (suc n) p h = rw (window_short p h) (search_none n (p + 1) (omega arith))

  pub first_none : (p : ℕ) → length l < p + 600 → first_from l p ≡ length l
  unfolding first_from
  first_none p h = search_none (length l - p) p h

  left : (p : ℕ) → p < length l → length l - p ≡ suc (length l - (p + 1))
  left p h = omega arith

  pub first_here : (p : ℕ) → p < length l → window_at l p ≡ true → first_from l p ≡ p
  unfolding first_from search
  first_here p h e = rw (left p h, e) refl

  pub first_next : (p : ℕ) → p < length l → window_at l p ≡ false → first_from l p ≡ first_from l (p + 1)
  unfolding first_from search
  first_next p h e = rw (left p h, e) refl

  -- ---- the three things that the walk gives
  pub found_refused : (from : ℕ) → 65536 < length l → found_from l from ≡ refused
  unfolding found_from
  found_refused from h = rw (lt-leb _ _ h) refl

  pub found_done : (from p : ℕ) → length l ≤ 65536 → first_from l from ≡ p → p < length l → found_from l from ≡ done p
  unfolding found_from found_at
  found_done from p h e k = rw (le-leb _ _ h, e, lt-ltb _ _ k) refl

  pub found_none : (from : ℕ) → length l ≤ 65536 → first_from l from ≡ length l → found_from l from ≡ none (length l)
  unfolding found_from found_at
  found_none from h e = rw (le-leb _ _ h, e, le-ltb (length l) (length l) (omega arith)) refl

  -- the walk gives one of them exactly where it is to be given
  pub found : (from : ℕ) → Outcome l from (found_from l from)
  found from = elim (dec_le (length l) 65536) [
    | yes h ↦ ⊎_elim
        (λ w.
        let k : first_from l from + 600 ≤ length l = window_fits (first_from l from) w.1 in
        rw (found_done from (first_from l from) h refl (omega arith)) (window h w.0 k (first_found from)))
        (λ w. rw (found_none from h w.0) (no_more h w.1))
        (first_found from).stands
    | no n ↦ rw (found_refused from (omega arith)) (too_many (omega arith))
  ]

  pub found_one : (from : ℕ) (f : Found) → Outcome l from f → f ≡ found_from l from
  found_one from f (too_many h) = sym (found_refused from h)
  found_one from f (window {p} h a b w) = sym (found_done from p h (first_one from (first_from l from) p (first_found from) w) (omega arith))
  found_one from f (no_more h w) =
      let end : First l from (length l) = record { earlier = λ k a b. w k a; stands = inr (refl, w) } in
      sym (found_none from h (first_one from (first_from l from) (length l) (first_found from) end))

  -- ---- the first of the places up to 599 symbols before the end at which the sync rule holds is where the walk finds its window
  abbrev pub Holds : ℕ → Type 0
  Holds k = held (sync_of 1 (part l k 16)) ≡ true

  abbrev pub Free : ℕ → Type 0
  Free k = held (sync_of 1 (part l k 16)) ≡ false

  -- it holds at none whose first symbol is above 1
  pub first_above : (k : ℕ) → 1 < at l k → Free k
  first_above k h = ap held (sync_unclean 1 (part l k 16) (go (part l k 16) (rw (part_at l k 16 0 (omega arith), add-zero k) h)))
    where
      go : (s : List ℕ) → 1 < at s 0 → at_most 1 s ≡ false
      go [] z = absurd (omega arith)
      go (b ∷ s) z = at_most_false 1 (b ∷ s) 0 (omega arith) z

  free_behind : (from end : ℕ) → end ≡ length l - 599 → ((k : ℕ) → from ≤ k → k < end → Free k) → (k : ℕ) → from ≤ k → window_at l k ≡ false
  free_behind from end last h k a = elim (dec_le (k + 600) (length l)) [
    | yes i ↦ window_long k i ∙ h k a (omega arith)
    | no n ↦ window_short k (omega arith)
  ]

  -- that first place, or that the rule holds at none
  abbrev pub FirstHeld : ℕ → ℕ → Option ℕ → Type 0
  FirstHeld from end r =
      MatchOption r ((k : ℕ) → from ≤ k → k < end → Free k) (λ i. (from ≤ i) × (i < end) × Holds i × ((k : ℕ) → from ≤ k → k < i → Free k))

  module _ (from end : ℕ) (short : length l ≤ 65536) (last : end ≡ length l - 599) where
    pub none_held : (r : Option ℕ) (e : WalkRefusal) → FirstHeld from end r → ok_or r (NoWindow (length l)) ≡ Err e → Err e ≡ found_from l from
    none_held None e h is =
        let z : NoWindow (length l) ≡ e = (cc) in
        rw (← z) (found_one from (none (length l)) (no_more short (free_behind from end last h)))
    none_held (Some p) e h is = absurd (let z : ◌≡◌ {A = ℕ} 0 1 = (cc) in omega arith)

    pub fits_held : (r : Option ℕ) (p : ℕ) → FirstHeld from end r → ok_or r (NoWindow (length l)) ≡ Ok p → p + 600 ≤ length l
    fits_held None p h is = absurd (let z : ◌≡◌ {A = ℕ} 0 1 = (cc) in omega arith)
    fits_held (Some i) p h is = let z : i ≡ p = (cc) in omega (arith, z, last, h.1)

    pub done_held : (r : Option ℕ) (p : ℕ) → FirstHeld from end r → ok_or r (NoWindow (length l)) ≡ Ok p → done p ≡ found_from l from
    done_held None p h is = absurd (let z : ◌≡◌ {A = ℕ} 0 1 = (cc) in omega arith)
    done_held (Some i) p h is =
        let z : i ≡ p = (cc) in
        let fits : i + 600 ≤ length l = omega (arith, last, h.1) in
        let first : First l from i = record {
          earlier = λ k a b. window_long k (omega arith) ∙ h.3 k a b;
          stands = inl (h.0, window_long i fits ∙ h.2);
        } in
        rw (← z) (found_one from (done i) (window short h.0 fits first))

  -- a start beyond the end is the same as a start at the end
  pub beyond : (from : ℕ) → length l ≤ from → found_from l from ≡ found_from l (length l)
  unfolding found_from
  beyond from h = rw (first_none from (omega arith), first_none (length l) (omega arith)) refl

  -- a step that is done goes forward, and ends 600 symbols after the window's start
  pub forward : (from : ℕ) → number_in (found_from l from) ≡ 0
      → (from ≤ start_in (found_from l from)) × (after_in (found_from l from) ≡ start_in (found_from l from) + 600)
  forward from = go (found_from l from) (found from)
    where
      go : (f : Found) → Outcome l from f → number_in f ≡ 0 → (from ≤ start_in f) × (after_in f ≡ start_in f + 600)
      go f (too_many h) e = absurd (omega arith)
      go f (window h a b w) e = (a, refl)
      go f (no_more h w) e = absurd (omega arith)

  -- between a place, such as a window's end, and the next window's start, or the recording's end, no window stands
  pub between : (from k : ℕ) → from ≤ k → k < start_in (found_from l from) → window_at l k ≡ false
  between from k = go (found_from l from) (found from)
    where
      go : (f : Found) → Outcome l from f → from ≤ k → k < start_in f → window_at l k ≡ false
      go f (too_many h) a b = absurd (omega arith)
      go f (window h a' b' w) a b = w.earlier k a b
      go f (no_more h w) a b = w k a
