-- `Beside::nothing` meets its contract: the derive's default is 0 at each place. Assumes nothing.
use mathlib.Core.Path.{◌≡◌, refl}
use Rattle.message.specs.Numbers.{no_pair, nothing}
use Rattle.message.proofs.Zeros.{all_one}
use Rattle.message.proofs.Beside.nothing.Goals as goal

pub returns : goal.returns
returns c = let zeros = c.default.ensures in
    let bits = all_one _ 0 (λ x e. e) 28 _ zeros.0 in
    let pairs = all_one _ no_pair (λ x e i. record { givei = e.0 i; givd = e.1 i }) 15 _ zeros.1 in
    let is : c.default.result ≡ nothing = λ i. record { bits = bits i; pairs = pairs i } in
    rw is refl
