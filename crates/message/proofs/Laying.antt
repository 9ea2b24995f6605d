-- Fields laid in a row, and zeros behind them: their patterns are those of the record's numbers, and each number is one that its row carries.
-- Assumes nothing.
use mathlib.Core.Path.{◌≡◌, refl, sym, ap, ap₂, subst, ◌∙◌}
use mathlib.Core.Bool.{Bool, true, false}
use mathlib.Core.List.{List, [], ◌∷◌, ◌++◌, map, append_assoc}
use Prim.Native.Nat.{ℕ, zero, suc, ◌+◌, ◌-◌, ◌≤◌, ◌<◌}
use native.Mathlib.Omega.{arith}
use lib.Dec.{leb→le, lit<}
use lib.IntN.{ℤ, pos}
use lib.ListN.{length, get_or, replicate, length-append, length-map, length-replicate}
use lib.Seq.{ext_get_or}
use Rattle.bits.specs.Lists.{at}
use Rattle.fields.specs.declared.Row.{Row}
use Rattle.fields.specs.declared.Layout.{Layout}
use Rattle.fields.specs.Table.{signed, head, message_id, prn, subframe1, subframe2, iono_grid, almanac, time_offsets, earth_iono, data_bytes, rows_of}
use Rattle.fields.specs.Patterns.{pattern, patterns, packed, pattern_fault}
use Rattle.fields.proofs.Faults.{fault_first}
use Rattle.fields.proofs.Held.{Carried, AllHeld, packed_body, pattern_fault_lem}
use Rattle.fields.proofs.Rules.{tiled, inside}
use Rattle.message.specs.declared.Beside.{Beside}
use Rattle.message.specs.declared.Record.{Record}
use Rattle.message.specs.declared.Record.TheVariants as case
use Rattle.message.specs.declared.Field.{Field}
use Rattle.message.specs.declared.Field.TheVariants.{Plain, Signed, Flag, WeekNumber, Wide, Givei, Givd, Byte}
use Rattle.message.specs.Numbers.{number_of, nth, head_fields}
use Rattle.message.specs.Raw.{own, Good, Laid}
use Rattle.message.specs.Records.{head_in, id_of, own_fields, fields_of, layout_of, numbers_of, to_body, record_fault}

-- what stands at a place, with what stands past the end put behind
padded : {A : Type 0} (l : List A) (k : ℕ) (d : A) (i : ℕ) → get_or (l ++ replicate k d) i d ≡ get_or l i d
padded [] zero d i = refl
padded [] (suc k) d zero = refl
padded [] (suc k) d (suc i) = padded [] k d i
padded (x ∷ l) k d zero = refl
padded (x ∷ l) k d (suc i) = padded l k d i

laid_same : (fs gs : List Field) {b : Beside} {a : List ℕ} → ((i : ℕ) → get_or fs i (Plain 0) ≡ get_or gs i (Plain 0)) → Laid fs b a → Laid gs b a
laid_same fs gs {b} e w =
    record {
      long = w.long;
      here = λ i h. w.here i h ∙ ap (λ (f : Field). pattern (number_of b f)) (e i);
      good = λ i h. subst (λ (f : Field). Good b f) (e i) (w.good i h);
    }

-- of a record
pub laid_record : (r : Record) {lead own' : List Field} {b : Beside} {a : List ℕ} → lead ≡ head_fields (head_in r) (id_of r) → own' ≡ own (own_fields r)
    → Laid (lead ++ own') b a → Laid (fields_of r) b a
laid_record r {lead} {own'} {b} {a} p q w =
    let h = head_fields (head_in r) (id_of r) in
    let zeros = replicate (36 - length (own_fields r)) (Plain 0) in
    laid_same ((h ++ own_fields r) ++ zeros) (fields_of r) (padded (fields_of r) (36 - length (own_fields r)) (Plain 0))
    (subst (λ (fs : List Field). Laid fs b a) (ap₂ ◌++◌ p q ∙ sym (append_assoc h (own_fields r) zeros)) w)

-- ---- as the numbers of the record
pub map_at : {A B : Type 0} (f : A → B) (l : List A) (d : A) (i : ℕ) → get_or (map f l) i (f d) ≡ f (get_or l i d)
map_at f [] d i = refl
map_at f (x ∷ l) d zero = refl
map_at f (x ∷ l) d (suc i) = map_at f l d i

pub patterns_at : (zs : List ℤ) (i : ℕ) → at (patterns zs) i ≡ pattern (nth zs i)
unfolding patterns
patterns_at zs i = padded (map pattern zs) (42 - length zs) 0 i ∙ map_at pattern zs (pos 0) i

patterns_long : (zs : List ℤ) → length zs ≤ 42 → length (patterns zs) ≡ 42
unfolding patterns
patterns_long zs h =
    length-append (map pattern zs) (replicate (42 - length zs) 0)
    ∙ ap₂ ◌+◌ (length-map zs pattern) (length-replicate {A = ℕ} (42 - length zs) 0)
    ∙ omega arith

fields_few : (r : Record) → length (fields_of r) ≤ 42
fields_few (case.Subframe1 c) = leb→le 26 42 tt
fields_few (case.Subframe2 c) = leb→le 15 42 tt
fields_few (case.IonoGrid c) = leb→le 42 42 tt
fields_few (case.Almanac c) = leb→le 22 42 tt
fields_few (case.GpsTime c) = leb→le 24 42 tt
fields_few (case.EarthIono c) = leb→le 24 42 tt
fields_few (case.GnssTime c) = leb→le 24 42 tt
fields_few (case.Null c) = leb→le 36 42 tt
fields_few (case.Unread c) = leb→le 36 42 tt

pub laid_patterns : (r : Record) (b : Beside) (a : List ℕ) → Laid (fields_of r) b a → a ≡ patterns (numbers_of r b)
laid_patterns r b a w =
    let zs = numbers_of r b in
    let few : length zs ≤ 42 = omega (arith, fields_few r, length-map (fields_of r) (number_of b)) in
    ext_get_or 0 a (patterns zs) (w.long ∙ sym (patterns_long zs few))
    (λ i h. w.here i (omega (arith, w.long)) ∙ ap pattern (sym (map_at (number_of b) (fields_of r) (Plain 0) i)) ∙ sym (patterns_at zs i))

-- ---- each row carries its number
abbrev is_signed : Field → Bool
is_signed (Plain n) = false
is_signed (Signed z) = true
is_signed (Flag f) = false
is_signed (WeekNumber w) = false
is_signed (Wide n) = false
is_signed (Givei k) = false
is_signed (Givd k) = false
is_signed (Byte k) = false

carried : (b : Beside) (f : Field) → Good b f → Carried (is_signed f) (number_of b f)
carried b (Plain n) g = g
carried b (Signed z) g = g
carried b (Flag true) g = lit< tt
carried b (Flag false) g = lit< tt
carried b (WeekNumber w) g = g
carried b (Wide n) g = g
carried b (Givei k) g = g
carried b (Givd k) g = g
carried b (Byte k) g = g

signs : (r : Record) → map signed (rows_of (layout_of r)) ≡ map is_signed (fields_of r)
unfolding head message_id prn subframe1 subframe2 iono_grid almanac time_offsets earth_iono data_bytes
signs (case.Subframe1 c) = refl
signs (case.Subframe2 c) = refl
signs (case.IonoGrid c) = refl
signs (case.Almanac c) = refl
signs (case.GpsTime c) = refl
signs (case.EarthIono c) = refl
signs (case.GnssTime c) = refl
signs (case.Null c) = refl
signs (case.Unread c) = refl

held : (rs : List Row) (fs : List Field) (b : Beside) → map signed rs ≡ map is_signed fs → ((i : ℕ) → i < length fs → Good b (get_or fs i (Plain 0)))
    → AllHeld rs (map (number_of b) fs)
held [] fs b e g = tt
held (r ∷ rs) [] b e g = absurd (let z : ◌≡◌ {A = ℕ} 0 1 = (cc) in omega arith)
held (r ∷ rs) (f ∷ fs) b e g =
    let s : is_signed f ≡ signed r = (cc) in
    let t : map signed rs ≡ map is_signed fs = (cc) in
    (subst (λ (x : Bool). Carried x (number_of b f)) s (carried b f (g 0 (omega arith))), held rs fs b t (λ i h. g (suc i) (omega arith)))

pub laid_held : (r : Record) (b : Beside) (a : List ℕ) → Laid (fields_of r) b a → AllHeld (rows_of (layout_of r)) (numbers_of r b)
laid_held r b a w = held (rows_of (layout_of r)) (fields_of r) b (signs r) (λ i h. w.good i (omega (arith, fields_few r)))

-- ---- what the code does with the patterns
pub laid_body : (r : Record) (b : Beside) (a : List ℕ) (l : Layout) → l ≡ layout_of r → Laid (fields_of r) b a → packed (rows_of l) a ≡ to_body r b
unfolding to_body
laid_body r b a l e w =
    ap₂ (λ (l : Layout) (ns : List ℕ). packed (rows_of l) ns) e (laid_patterns r b a w)
    ∙ packed_body (layout_of r) (numbers_of r b) (laid_held r b a w)

pub laid_fault : (r : Record) (b : Beside) (a : List ℕ) (l : Layout) → l ≡ layout_of r → Laid (fields_of r) b a → pattern_fault (rows_of l) a ≡ record_fault r b
unfolding record_fault
laid_fault r b a l e w =
    ap₂ (λ (l : Layout) (ns : List ℕ). pattern_fault (rows_of l) ns) e (laid_patterns r b a w)
    ∙ pattern_fault_lem (layout_of r) (numbers_of r b) (laid_held r b a w)

-- a fault is the first bit of a field
pub fault_low : (r : Record) (b : Beside) → (record_fault r b ≡ 0 → ⊥) → record_fault r b ≤ 263
unfolding record_fault
fault_low r b n =
    let l = layout_of r in
    let f = (fault_first l (numbers_of r b)).some n in
    omega (arith, f.starts, inside (rows_of l) f.place (tiled l) f.inside)
