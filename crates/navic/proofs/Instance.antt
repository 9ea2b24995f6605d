-- This family of messages keeps what is asked of a family.
-- Assumes nothing.
use mathlib.Core.Path.{◌≡◌, refl}
use mathlib.Core.Bool.{Bool, true, false}
use Prim.Native.Nat.{ℕ}
use native.Mathlib.Omega.{arith}
use borrow.Author.Tests.{eq-eqb, eqb-true, eqb-false}
use lib.Dec.{eqb}
use lib.ListN.{drop}
use Rattle.bits.specs.Lists.{pick}
use Rattle.weektime.specs.Time.{towc_refused}
use Rattle.message.specs.declared.Entry.{Entry}
use Rattle.message.specs.Records.{from_body, fault_of, id_refused, towc_in}
use Rattle.message.proofs.Laws.{body_long, body_bits, record_back, body_back, read_accepted}
use Rattle.demands.specs.Refusals.{Given, none, here, later}
use Rattle.demands.specs.Family.{Lawful}
use Rattle.navic.specs.Navic.{entry_conditions, entry_refusal, family}
use Rattle.std.proofs.lemmas.Bool.{true≢false}

pub clash : {b : Bool} → b ≡ false → b ≡ true → ⊥
clash p q = true≢false (cc)

module _ (e : Entry) where
  id : Bool
  id = id_refused e.«record»

  late : Bool
  late = towc_refused (towc_in e.«record»)

  fault : ℕ
  fault = fault_of e.«record» e.beside

  by_fault : (t : Bool) → eqb fault 0 ≡ t → Given (drop 2 (entry_conditions e)) (pick t 0 8)
  unfolding fault
  by_fault true p = later (λ (f : fault ≡ 0 → ⊥). f (eqb-true fault 0 p)) none
  by_fault false p = here (eqb-false fault 0 p)

  by_tests : (i l : Bool) → id ≡ i → late ≡ l → Given (entry_conditions e) (pick i 9 (pick l 7 (pick (eqb fault 0) 0 8)))
  unfolding id late
  by_tests true l p q = here p
  by_tests false true p q = later (clash p) (here q)
  by_tests false false p q = later (clash p) (later (clash q) (by_fault (eqb fault 0) refl))

  ordered : Given (entry_conditions e) (entry_refusal e)
  unfolding entry_refusal id late fault
  ordered = by_tests id late refl refl

  -- what the writer takes has no fault
  record Sound : Type 0 where
    pub own_id : id_refused e.«record» ≡ false
    pub in_time : towc_refused (towc_in e.«record») ≡ false
    pub fits : fault_of e.«record» e.beside ≡ 0

  sound_by : (i l t : Bool) → id ≡ i → late ≡ l → eqb fault 0 ≡ t → pick i 9 (pick l 7 (pick {A = ℕ} t 0 8)) ≡ 0 → Sound
  unfolding id late fault
  sound_by true l t p q r z = absurd (omega arith)
  sound_by false true t p q r z = absurd (omega arith)
  sound_by false false false p q r z = absurd (omega arith)
  sound_by false false true p q r z = record { own_id = p; in_time = q; fits = eqb-true fault 0 r }

  sound : entry_refusal e ≡ 0 → Sound
  unfolding entry_refusal id late fault
  sound z = sound_by id late (eqb fault 0) refl refl refl z

  accepted : id_refused e.«record» ≡ false → towc_refused (towc_in e.«record») ≡ false → fault_of e.«record» e.beside ≡ 0 → entry_refusal e ≡ 0
  unfolding entry_refusal
  accepted p q r = rw (p, q, eq-eqb (fault_of e.«record» e.beside) 0 r) refl

pub lawful : Lawful family
lawful =
    record {
      ordered = ordered;
      body = λ e z. record { bits = body_bits e.«record» e.beside; long = body_long e.«record» e.beside };
      back = λ e z. let s = sound e z in record_back e.«record» e.beside s.own_id s.fits;
      again = λ b is. body_back b is.long is.bits;
      timely = λ e z. (sound e z).in_time;
      taken = λ b is timely. let a = read_accepted b in accepted (from_body b) a.0 timely a.1;
    }
