-- Each refusal is given exactly when its condition holds and no earlier one's does: the reader's number and the writer's are the first of
-- their lists. Assumes nothing.
use mathlib.Core.Path.{◌≡◌, refl, sym, ap, subst, ◌∙◌}
use mathlib.Core.Bool.{Bool, true, false}
use mathlib.Core.List.{List, [], ◌∷◌}
use Prim.Native.Nat.{ℕ, suc, ◌≤◌, ◌<◌}
use native.Mathlib.Decide.{ℕ_discrete, dec_le}
use native.Mathlib.Omega.{arith}
use borrow.Author.Tests.{eq-eqb, ne_eqb, le-leb, lt-leb, leb-false}
use lib.Dec.{leb}
use lib.ListN.{length, take, drop}
use Rattle.std.specs.Prelude.{Result, Ok}
use Rattle.bits.specs.Lists.{pick, both, at_most}
use Rattle.bits.proofs.Lists.{at_most_at, at_most_holds, at_most_true}
use Rattle.crc24q.specs.Check.{agrees_of}
use Rattle.link.specs.declared.LinkRefusal.{LinkRefusal}
use Rattle.link.specs.declared.Received.{Received}
use Rattle.link.specs.Link.{receive_of, word_in}
use Rattle.link.specs.Promise.{polarity_of, Taken}
use Rattle.link.proofs.Recovered.{received}
use Rattle.link.proofs.Taken as taken
use Rattle.link.proofs.Taken.{Outcome, outcome, some_word_ends, nearest_taken}
use Rattle.demands.specs.Refusals.{Refusal, Given, none, here, later}
use Rattle.demands.specs.Family.{Family, Lawful, Reading, refused, not_of_600, little_room, is_idle, bad_check, SymbolAbove, reader_conditions, writer_conditions, reading_number, by_link, by_check, by_time, reading_of, writing_of}
use Rattle.std.proofs.lemmas.Bool.{true≢false}
use Rattle.std.proofs.lemmas.Option.{none-some}

-- one number only
pub given_one : {rs : List Refusal} {n m : ℕ} → Given rs n → Given rs m → n ≡ m
given_one none none = refl
given_one (here c) (here d) = refl
given_one (here c) (later d g) = absurd (d c)
given_one (later c g) (here d) = absurd (c d)
given_one (later c g) (later d h) = given_one g h

-- ---- the reader
some_above : (p : ℕ) (s : List ℕ) → at_most p s ≡ false → SymbolAbove p s
unfolding at_most
some_above p [] e = absurd (true≢false (cc))
some_above p (b ∷ s) e = go (leb b p) refl e (some_above p s)
  where
    go : (t : Bool) → leb b p ≡ t → both t (at_most p s) ≡ false → (at_most p s ≡ false → SymbolAbove p s) → SymbolAbove p (b ∷ s)
    go true q f rest =
        let r = rest f in
        record { place = suc r.place; inside = omega (arith, r.inside); above = r.above }
    go false q f rest = record { place = 0; inside = omega arith; above = leb-false b p q }

none_above : (p : ℕ) (s : List ℕ) → at_most p s ≡ true → SymbolAbove p s → ⊥
none_above p s e r = omega (arith, r.above, at_most_at p s (at_most_holds p s e) r.place)

-- true or false
by_cases : {A : Type 1} (b : Bool) → (b ≡ true → A) → (b ≡ false → A) → A
by_cases true then other = then refl
by_cases false then other = other refl

-- the word that was received is the nearest
pub word_taken : (s w : List ℕ) (n : ℕ) (t : Bool) → receive_of 1 s ≡ Ok (received w n t)
    → Taken s t (word_in (receive_of 1 s)) n (agrees_of (word_in (receive_of 1 s)))
word_taken s w n t e = subst (λ (v : List ℕ). Taken s t v n (agrees_of v)) (sym (ap word_in e)) (nearest_taken s (received w n t) e)

module _ (f : Family) (s : List ℕ) (room : ℕ) where
  pub not_600 : (length s ≡ 600 → ⊥) → reading_of f s room ≡ refused not_of_600 0 false
  unfolding reading_of
  not_600 h = rw (ne_eqb (length s) 600 h) refl

  module _ (long : length s ≡ 600) where
    pub little_room_lem : room < 36 → reading_of f s room ≡ refused little_room 0 false
    unfolding reading_of
    little_room_lem h = rw (eq-eqb (length s) 600 long, lt-leb 36 room h) refl

    module _ (enough : 36 ≤ room) where
      pub by_link_lem : (r : Result Received LinkRefusal) → receive_of 1 s ≡ r → reading_of f s room ≡ by_link f r
      unfolding reading_of
      by_link_lem r e = rw (eq-eqb (length s) 600 long, le-leb 36 room enough, e) refl

      -- where there is a nearest word w, its check decides, and then its time
      pub by_word : (n : ℕ) (t : Bool) (w : List ℕ) → receive_of 1 s ≡ Ok (received w n t)
          → reading_of f s room ≡ by_check f (agrees_of (word_in (receive_of 1 s))) (word_in (receive_of 1 s)) n t
      by_word n t w r = by_link_lem _ r ∙ ap (λ (v : List ℕ). by_check f (agrees_of v) v n t) (sym (ap word_in r))

  given_as : {rs : List Refusal} {y : Reading f} → reading_of f s room ≡ y → Given rs (reading_number y) → Given rs (reading_number (reading_of f s room))
  given_as {rs} e g = subst (λ (y : Reading f). Given rs (reading_number y)) (sym e) g

  rest : ℕ → List Refusal
  rest k = drop k (reader_conditions f s room)

  Follows : ℕ → Type 1
  Follows k = Given (rest k) (reading_number (reading_of f s room))

  w : List ℕ
  w = word_in (receive_of 1 s)

  -- 7, and done: the time's test alone decides the number
  late_seven : (e : f.Entry) (n : ℕ) (t : Bool) → f.untimely e ≡ true → reading_number (by_time f e n t) ≡ 7
  late_seven e n t late = grind arith

  timely_zero : (e : f.Entry) (n : ℕ) (t : Bool) → f.untimely e ≡ false → reading_number (by_time f e n t) ≡ 0
  timely_zero e n t timely = grind arith

  numbered : {rs : List Refusal} {k : ℕ} → reading_number (reading_of f s room) ≡ k → Given rs k → Given rs (reading_number (reading_of f s room))
  numbered {rs} e g = subst (λ (k : ℕ). Given rs k) (sym e) g

  after_check : (n : ℕ) (t : Bool) → reading_of f s room ≡ by_time f (f.from_body (take 262 w)) n t → Follows 7
  unfolding reader_conditions rest Follows w
  after_check n t e =
      by_cases (f.untimely (f.from_body (take 262 w)))
      (λ late. numbered (ap reading_number e ∙ late_seven _ n t late) (here late))
      (λ timely.
      numbered (ap reading_number e ∙ timely_zero _ n t timely)
      (later (λ late. true≢false (cc)) none))

  -- 5 or 6
  after_word : (n : ℕ) (t : Bool) → reading_of f s room ≡ by_check f (agrees_of w) w n t → Follows 5
  unfolding reader_conditions rest Follows w
  after_word n t e =
      by_cases (agrees_of w)
      (λ good.
      let never : agrees_of w ≡ false → ⊥ = λ bad. true≢false (cc) in
      later (λ c. never c.0) (later (λ c. never c.0) (after_check n t (e ∙ ap (λ (a : Bool). by_check f a w n t) good))))
      (λ bad.
      let spoilt = e ∙ ap (λ (a : Bool). by_check f a w n t) bad in
      by_cases (f.idle w)
      (λ is. given_as (spoilt ∙ ap (λ (b : Bool). refused (pick b is_idle bad_check) n t) is) (here (bad, is)))
      (λ not.
      later (λ c. true≢false (cc))
      (given_as (spoilt ∙ ap (λ (b : Bool). refused (pick b is_idle bad_check) n t) not) (here (bad, not)))))

  -- 3, 4 and 10
  after_room : length s ≡ 600 → 36 ≤ room → Outcome s → Follows 2
  unfolding reader_conditions rest Follows w
  after_room long enough (taken.symbol c r) = given_as (by_link_lem long enough _ r) (here (some_above 1 s c))
  after_room long enough (taken.no_sync c m r) = later (none_above 1 s c) (given_as (by_link_lem long enough _ r) (here m))
  after_room long enough (taken.word t bits sync r) =
      later (none_above 1 s (at_most_true 1 s bits)) (later (λ m. none-some (polarity_of t) (sym m ∙ sync)) (later some_word_ends (after_word _ t (by_word long enough _ t _ r))))

  -- 2
  after_length : length s ≡ 600 → Follows 1
  unfolding reader_conditions rest Follows
  after_length long = elim (dec_le 36 room) [
    | no other ↦ let less : room < 36 = omega arith in given_as (little_room_lem long less) (here less)
    | yes enough ↦ later (λ (less : room < 36). omega arith) (after_room long enough (outcome s))
  ]

  -- DEMAND 1, the reader: its number is the first of its list whose condition holds
  pub reader_ordered : Given (reader_conditions f s room) (reading_number (reading_of f s room))
  unfolding reader_conditions rest Follows
  reader_ordered = elim (ℕ_discrete (length s) 600) [
    | no other ↦ given_as (not_600 other) (here other)
    | yes long ↦ later (λ (other : length s ≡ 600 → ⊥). other long) (after_length long)
  ]

-- DEMAND 1, the writer
module _ (f : Family) (l : Lawful f) (e : f.Entry) (room : ℕ) where
  pub writer_ordered : Given (writer_conditions f e room) (writing_of f e room)
  unfolding writer_conditions writing_of
  writer_ordered = elim (dec_le 600 room) [
    | no other ↦ let less : room < 600 = omega arith in rw (lt-leb 600 room less) (here less)
    | yes enough ↦ rw (le-leb 600 room enough) (later (λ (less : room < 600). omega arith) (l.ordered e))
  ]
