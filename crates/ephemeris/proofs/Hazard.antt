-- An idle subframe 1 and an idle subframe 2 pass for a pair, since toc and toe are both 5555 hex. Assumes nothing.
use mathlib.Core.Path.{◌≡◌, refl, sym, ap, ◌∙◌}
use mathlib.Core.Bool.{true, false}
use Prim.Native.Nat.{ℕ, ◌≤◌}
use lib.IntN.{pos, negsuc}
use Rattle.bits.specs.Lists.{at_most}
use Rattle.bits.specs.Numbers.{number, bits_of}
use Rattle.weektime.specs.Time.{towc_refused}
use Rattle.fields.specs.Table.{head, subframe1, subframe2}
use Rattle.fields.specs.Fields.{field_bits, body_of, holds, fault_in}
use Rattle.idle.specs.Idle.{rows, alternates, fits, pattern_of}
use Rattle.message.specs.declared.Head.{Head}
use Rattle.message.specs.declared.Subframe1.{Subframe1}
use Rattle.message.specs.declared.Subframe2.{Subframe2}
use Rattle.message.specs.declared.Record.TheVariants as case
use Rattle.message.specs.Records.{record_fault, fault_of, to_body}
use Rattle.ephemeris.specs.Pairing.{sound, fit, pair_of, paired_number, idle_in}
use Rattle.ephemeris.proofs.Idling.{idle_exactly, idle_toc, idle_toe}
use Rattle.ephemeris.proofs.Laws.{paired_exactly}

-- every idle subframe 1 and idle subframe 2 whose TOWC is in range pass for a pair
pub idle_halves_pair : (a : Subframe1) (b : Subframe2) → idle_in (case.Subframe1 a) ≡ true → idle_in (case.Subframe2 b) ≡ true
    → 1 ≤ a.head.towc.0 → a.head.towc.0 ≤ 50400 → 1 ≤ b.head.towc.0 → b.head.towc.0 ≤ 50400
    → paired_number (pair_of (case.Subframe1 a) (case.Subframe2 b)) ≡ 0
idle_halves_pair a b d c p q u v =
    let i = (idle_exactly (case.Subframe1 a)).0 d in
    let j = (idle_exactly (case.Subframe2 b)).0 c in
    ap paired_number
    ((paired_exactly (case.Subframe1 a) (case.Subframe2 b)).1 a b
    (record {
      first = refl;
      second = refl;
      together = idle_toc a i ∙ sym (idle_toe b j);
      sound_first = record { early = p; late = q; held = i.held };
      sound_second = record { early = u; late = v; held = j.held };
    }))

-- there are such halves: `idle_pairs` names one of each
head_of : ℕ → Head
head_of count = record { tlm = 139; towc = record { 0 = count }; alert = true; auto_nav = false; spare = 0 }

pub idle_first : Subframe1
unfolding head_of
idle_first =
    record {
      head = head_of 1;
      wn = record { 0 = 7 };
      af0 = pos 1398101;
      af1 = pos 21845;
      af2 = pos 85;
      ura = 5;
      toc = 21845;
      tgd = pos 85;
      delta_n = pos 1398101;
      iodec = 85;
      reserved = 341;
      l5_flag = false;
      s_flag = true;
      cuc = pos 10922;
      cus = negsuc 10922;
      cic = pos 10922;
      cis = negsuc 10922;
      crc = pos 10922;
      crs = negsuc 10922;
      idot = pos 5461;
      spare = 1;
    }

pub idle_second : Subframe2
unfolding head_of
idle_second =
    record {
      head = head_of 2;
      m0 = pos 1431655765;
      toe = 21845;
      e = 1431655765;
      root_a = 1431655765;
      omega0 = pos 1431655765;
      omega = pos 1431655765;
      omega_dot = pos 1398101;
      i0 = pos 1431655765;
      spare = 1;
    }

pub idle_pairs :
    (idle_in (case.Subframe1 idle_first) ≡ true)
    × (idle_in (case.Subframe2 idle_second) ≡ true)
    × (paired_number (pair_of (case.Subframe1 idle_first) (case.Subframe2 idle_second)) ≡ 0)
unfolding head_of idle_first idle_second idle_in pair_of fit sound towc_refused record_fault fault_of fault_in holds to_body body_of field_bits bits_of pattern_of fits alternates rows number at_most head subframe1 subframe2
idle_pairs = (refl, refl, refl)
