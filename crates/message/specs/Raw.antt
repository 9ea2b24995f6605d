-- How the code carries the numbers of a body: as patterns in an array, from which each is taken as the sort of field that it is. Nobody has to believe anything of this
-- file: the contracts of the public calls speak of the numbers. Assumes nothing.
use Rattle.std.specs.Prelude.{◌≡◌, List, ◌++◌, ℕ, ◌-◌, ◌%◌, ◌^◌, ◌<◌, eqb, ℤ, length, get_or, replicate}
use Rattle.std.specs.Int.Signed.{mag}
use Rattle.std.specs.Int.{w32}
use Rattle.std.proofs.Common.{to_z, of_z}
use Rattle.bits.specs.Lists.{at}
use Rattle.fields.specs.Patterns.{pattern}
use Rattle.message.specs.declared.Head.{Head}
use Rattle.message.specs.declared.Beside.{Beside}
use Rattle.message.specs.declared.Field.{Field}
use Rattle.message.specs.declared.Field.TheVariants as field
use Rattle.message.specs.declared.Field.TheVariants.{Plain, Flag, WeekNumber, Wide, Givei, Givd, Byte}
use Rattle.message.specs.Numbers.{View, slot_of, number_of, giveis, givds, byte_at}

-- a number as each sort of field: by its 32 lowest bits, and as a signed one
abbrev pub plain_at : List ℕ → ℕ → ℕ
plain_at t i = at t i % 2 ^ 32

abbrev pub signed_at : List ℕ → ℕ → ℤ
signed_at t i = to_z w32 (plain_at t i)

abbrev pub head_from : List ℕ → Head
head_from t =
    record {
      tlm = plain_at t 0;
      towc = record { 0 = plain_at t 1 };
      alert = eqb (plain_at t 2) 1;
      auto_nav = eqb (plain_at t 3) 1;
      spare = plain_at t 5;
    }

-- a signed number by way of its bits
abbrev pub by_bits : ℤ → ℤ
by_bits z = to_z w32 (of_z w32 z)

abbrev pub look : List ℕ → View
look t =
    record {
      head = head_from t;
      slot = slot_of (plain_at t 4);
      nibble = λ i. at t i % 2 ^ 4;
      byte = λ i. at t i % 2 ^ 8;
      short = λ i. at t i % 2 ^ 16;
      plain = plain_at t;
      wide = at t;
      signed = λ i. by_bits (signed_at t i);
      flag = λ i. eqb (plain_at t i) 1;
      week = λ i. record { 0 = plain_at t i };
    }

-- the 36 fields behind the head's: a kind's own, and zeros
abbrev pub own : List Field → List Field
own fs = fs ++ replicate (36 - length fs) (Plain 0)

-- what the type of a field's number says of it
abbrev pub Good : Beside → Field → Type 0
Good b (Plain n) = n < 2 ^ 64
Good b (field.Signed z) = mag z < 2 ^ 63
Good b (Flag f) = Unit {0}
Good b (WeekNumber w) = w.0 < 2 ^ 64
Good b (Wide n) = n < 2 ^ 64
Good b (Givei k) = at (giveis b) k < 2 ^ 64
Good b (Givd k) = at (givds b) k < 2 ^ 64
Good b (Byte k) = byte_at b k < 2 ^ 64

-- the patterns of the fields' numbers, and 0 behind them
pub record Laid (fs : List Field) (b : Beside) (patterns : List ℕ) : Type 0 where
  pub long : length patterns ≡ 42
  pub here : (i : ℕ) → i < 42 → at patterns i ≡ pattern (number_of b (get_or fs i (Plain 0)))
  pub good : (i : ℕ) → i < 42 → Good b (get_or fs i (Plain 0))
