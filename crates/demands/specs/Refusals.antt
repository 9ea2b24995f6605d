-- Refusals in a fixed order (demand 1): a list of numbers with their conditions, of which the first that holds is given. Assumes nothing.
use Rattle.std.specs.Prelude.{List, [], ◌∷◌, ℕ}

-- a number and the condition under which it is given
pub record Refusal : Type 1 where
  pub number : ℕ
  pub condition : Type 0

-- n is given: the condition of its line holds, and no earlier one does; or none holds, and n is 0, done.
-- `given_one` of proofs/ says that this gives one number only
pub data Given : List Refusal → ℕ → Type 1 where
  none : Given [] 0
  here : {r : Refusal} {rs : List Refusal} → r.condition → Given (r ∷ rs) r.number
  later : {r : Refusal} {rs : List Refusal} {n : ℕ} → (r.condition → ⊥) → Given rs n → Given (r ∷ rs) n
