-- The part of the recording that the walk hands back: it lies within, the contracts allow no other, and what it is beside each number.
-- Assumes nothing.
use mathlib.Core.Path.{◌≡◌, refl, sym, ap, subst, ◌∙◌}
use mathlib.Core.List.{List, []}
use Prim.Native.Nat.{ℕ, ◌+◌, ◌-◌, ◌≤◌, ◌<◌}
use native.Mathlib.Nat.{zero-add}
use native.Mathlib.Omega.{arith}
use lib.ListN.{length}
use denote.Ref.{Bor}
use Rattle.bits.proofs.Parts.{part_long}
use Rattle.recording.specs.declared.Walker.{Walker}
use Rattle.recording.specs.declared.Handed.{Handed}
use Rattle.recording.specs.Walk.{Found, found_from, number_in, start_in, after_in, PartOf, HandedOn}
use Rattle.recording.proofs.Search.{refused, none, Outcome, too_many, window, no_more, found_refused, found, forward}

-- what is found lies within the recording
abbrev pub Inside : List ℕ → Found → Type 0
Inside l f = (start_in f ≤ after_in f) × (after_in f ≤ length l)

inside : (l : List ℕ) (from : ℕ) (f : Found) → Outcome l from f → Inside l f
inside l from f (too_many h) = (omega arith, omega arith)
inside l from f (window h a b w) = (omega arith, b)
inside l from f (no_more h w) = (omega arith, omega arith)

pub inside_of : (l : List ℕ) (from : ℕ) {f : Found} → f ≡ found_from l from → Inside l f
inside_of l from e = subst (Inside l) (sym e) (inside l from (found_from l from) (found l from))

pub part_of : {whole r : Bor (List ℕ)} {f g : Found} → f ≡ g → PartOf whole f r → PartOf whole g r
part_of {whole} {r} e p = subst (λ (f : Found). PartOf whole f r) e p

none_of : (l : List ℕ) (from : ℕ) (f : Found) → Outcome l from f → number_in f ≡ 4 → f ≡ none (length l)
none_of l from f (too_many h) e = absurd (omega arith)
none_of l from f (window h a b w) e = absurd (omega arith)
none_of l from f (no_more h w) e = refl

-- ---- the contracts decide: two outcomes that one allows are the same
pub part_one : (whole r s : Bor (List ℕ)) (f : Found) → PartOf whole f r → PartOf whole f s → (r.ref_ptr ≡ s.ref_ptr) × (r.now ≡ s.now)
part_one whole r s f p q = (p.lies ∙ sym q.lies, p.holds ∙ sym q.holds)

-- the walker's step: what is found, the part, and the walker afterwards
pub handed_one : (w v v' : Walker) (r r' : Handed) → HandedOn w v r → HandedOn w v' r'
    → (r.found ≡ r'.found) × (r.symbols.ref_ptr ≡ r'.symbols.ref_ptr) × (r.symbols.now ≡ r'.symbols.now) × (v ≡ v')
handed_one w v v' r r' p q =
    let part = part_one w.recording r.symbols r'.symbols (found_from w.recording.now w.place) p.symbols q.symbols in
    let whole : v.recording ≡ v'.recording = p.kept ∙ sym q.kept in
    let place : v.place ≡ v'.place = p.moved ∙ sym q.moved in (
      p.found ∙ sym q.found,
      part.0,
      part.1,
      λ i. record { recording = whole i; place = place i },
    )

-- ---- the part beside each number
module _ (whole r : Bor (List ℕ)) (from : ℕ) (p : PartOf whole (found_from whole.now from) r) where
  abbrev given : Found
  given = found_from whole.now from

  -- done, 600 symbols
  pub done_long : number_in given ≡ 0 → length r.now ≡ 600
  done_long e =
      let g = forward whole.now from e in
      let i = inside_of whole.now from {f = given} refl in
      let n : after_in given - start_in given ≡ 600 = omega arith in
      ap length p.holds ∙ part_long whole.now (start_in given) (after_in given - start_in given) (omega arith) ∙ n

  -- with none left, 4, and the empty part at the end
  pub none_left : number_in given ≡ 4
      → (given ≡ none (length whole.now)) × (r.ref_ptr ≡ (whole.ref_ptr.0, length whole.now + whole.ref_ptr.1)) × (r.now ≡ [])
  none_left n =
      let e : given ≡ none (length whole.now) = none_of whole.now from given (found whole.now from) n in
      let z : length whole.now - length whole.now ≡ 0 = omega arith in
      (e, rw e at p.lies, rw (e, z) at p.holds)

  -- above 65,536 symbols, 1, and the empty part at the start
  pub too_long : 65536 < length whole.now → (given ≡ refused) × (r.ref_ptr ≡ whole.ref_ptr) × (r.now ≡ [])
  too_long h =
      let e : given ≡ refused = found_refused whole.now from h in
      (e, (rw e at p.lies) ∙ ap (λ (o : ℕ). (whole.ref_ptr.0, o)) (zero-add whole.ref_ptr.1), rw e at p.holds)
