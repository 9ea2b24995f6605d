-- Time (01, "Time"): the count of twelve-second steps, TOWC, names the next subframe's start. Assumes nothing.
use Rattle.std.specs.Prelude.{Bool, true, false, ℕ, ◌+◌, ◌-◌, ◌*◌, ◌/◌, leb, Option, Some, None}
use Rattle.bits.specs.Lists.{pick, both}
use Rattle.weektime.specs.declared.Towc.{Towc}
use Rattle.weektime.specs.declared.SecondOfWeek.{SecondOfWeek}

-- 7: TOWC outside 1 to 50,400
unfoldable pub towc_refused : ℕ → Bool
towc_refused n = pick (both (leb 1 n) (leb n 50400)) false true

-- the subframe began at second (TOWC - 1) · 12 of the week
unfoldable pub began_of : Towc → Option SecondOfWeek
began_of t = pick (towc_refused t.0) None (Some (record { 0 = (t.0 - 1) * 12 }))

-- the count of the subframe in which a second of the week lies
unfoldable pub count_of : SecondOfWeek → Option Towc
count_of s = pick (towc_refused (s.0 / 12 + 1)) None (Some (record { 0 = s.0 / 12 + 1 }))

-- the paper's number, and the number beside it
abbrev pub began_number : Option SecondOfWeek → ℕ
began_number (Some s) = 0
began_number None = 7

abbrev pub began_second : Option SecondOfWeek → ℕ
began_second (Some s) = s.0
began_second None = 0

abbrev pub counted_number : Option Towc → ℕ
counted_number (Some t) = 0
counted_number None = 7

abbrev pub counted_count : Option Towc → ℕ
counted_count (Some t) = t.0
counted_count None = 0
