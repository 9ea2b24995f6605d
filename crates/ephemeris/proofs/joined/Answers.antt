-- Field by field: what each call ensures, by the field's row. Assumes nothing.
use mathlib.Core.Path.{◌∙◌, ap}
use Prim.Native.Nat.{ℕ}
use borrow.Author.Rules.{rules}
use lib.IntN.{pos}
use Rattle.fields.specs.declared.Layout.TheVariants.{Subframe1, Subframe2}
use Rattle.ephemeris.specs.Exactly.{exactly}
use Rattle.ephemeris.specs.Pairing.{scale_at, ephemeris_of}
use Rattle.ephemeris.proofs.Joining.{whole_in, signed_in, flag_in}
use Rattle.ephemeris.proofs.joined.Goals as goal

pub returns : goal.returns
unfolding ephemeris_of
returns c =
    let a = c.args.a in
    let b = c.args.b in
    let first = c.of-one.ensures in
    let second = c.of-two.ensures in
    λ i.
    record {
      wn = (whole_in Subframe1 first 6 c.number.result (search rules) c.scaled.ensures ∙ ap (λ (n : ℕ). exactly (pos n) (scale_at Subframe1 6)) c.number.ensures) i;
      af0 = signed_in Subframe1 first 7 a.af0 (search rules) c.scaled-2.ensures i;
      af1 = signed_in Subframe1 first 8 a.af1 (search rules) c.scaled-3.ensures i;
      af2 = signed_in Subframe1 first 9 a.af2 (search rules) c.scaled-4.ensures i;
      ura = whole_in Subframe1 first 10 a.ura (search rules) c.scaled-5.ensures i;
      toc = whole_in Subframe1 first 11 a.toc (search rules) c.scaled-6.ensures i;
      tgd = signed_in Subframe1 first 12 a.tgd (search rules) c.scaled-7.ensures i;
      delta_n = signed_in Subframe1 first 13 a.delta_n (search rules) c.scaled-8.ensures i;
      iodec = whole_in Subframe1 first 14 a.iodec (search rules) c.scaled-9.ensures i;
      l5_flag = flag_in Subframe1 first 16 a.l5_flag c.scaled-10.ensures i;
      s_flag = flag_in Subframe1 first 17 a.s_flag c.scaled-11.ensures i;
      cuc = signed_in Subframe1 first 18 a.cuc (search rules) c.scaled-12.ensures i;
      cus = signed_in Subframe1 first 19 a.cus (search rules) c.scaled-13.ensures i;
      cic = signed_in Subframe1 first 20 a.cic (search rules) c.scaled-14.ensures i;
      cis = signed_in Subframe1 first 21 a.cis (search rules) c.scaled-15.ensures i;
      crc = signed_in Subframe1 first 22 a.crc (search rules) c.scaled-16.ensures i;
      crs = signed_in Subframe1 first 23 a.crs (search rules) c.scaled-17.ensures i;
      idot = signed_in Subframe1 first 24 a.idot (search rules) c.scaled-18.ensures i;
      m0 = signed_in Subframe2 second 6 b.m0 (search rules) c.scaled-19.ensures i;
      toe = whole_in Subframe2 second 7 b.toe (search rules) c.scaled-20.ensures i;
      e = whole_in Subframe2 second 8 b.e (search rules) c.scaled-21.ensures i;
      root_a = whole_in Subframe2 second 9 b.root_a (search rules) c.scaled-22.ensures i;
      omega0 = signed_in Subframe2 second 10 b.omega0 (search rules) c.scaled-23.ensures i;
      omega = signed_in Subframe2 second 11 b.omega (search rules) c.scaled-24.ensures i;
      omega_dot = signed_in Subframe2 second 12 b.omega_dot (search rules) c.scaled-25.ensures i;
      i0 = signed_in Subframe2 second 13 b.i0 (search rules) c.scaled-26.ensures i;
    }
