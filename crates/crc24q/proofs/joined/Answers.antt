-- The body is copied to the front, and behind it the bits of the check. Assumes nothing.
use Rattle.std.proofs.Common.{◌≡◌, ◌++◌, ℕ, ◌+◌, ◌-◌, ◌/◌, ◌%◌, ◌^◌, length, refl, sym, ap, ap₂, ◌∙◌, rules, arith}
use Rattle.bits.specs.Numbers.{bits_of}
use Rattle.bits.proofs.Build.{built}
use Rattle.bits.proofs.Made.{made, joined}
use Rattle.bits.proofs.Numbers.{bits_at, bits_long}
use Rattle.crc24q.proofs.joined.Goals as goal

pub returns : goal.returns
returns c =
    let n = c.args.c in
    let e = made _ _ (λ k. n / 2 ^ (23 - k) % 2) 24 (λ i y q l k. search rules) c.from_fn-bits.result c.from_fn-bits.ensures.items in
    let b = built 24 (λ k. n / 2 ^ (23 - k) % 2) (bits_of 24 n) (bits_long 24 n) (λ k h. let there : 24 - (k + 1) ≡ 23 - k = omega arith in bits_at 24 n k h ∙ ap (λ (j : ℕ). n / 2 ^ j % 2) there) in
    let s : c.copy_from_slice.new.self ≡ c.args.body.now = search rules in
    joined 262 c.copy_from_slice.new.self c.copy_from_slice-2.new.self _ 24 (omega (arith, ap length s)) refl ∙ ap₂ ◌++◌ s (c.copy_from_slice-2.ensures.after ∙ e ∙ sym b)
