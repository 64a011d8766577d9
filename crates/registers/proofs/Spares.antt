-- What is required of spare rows. Assumes nothing.
use Rattle.std.proofs.Common.{List, refl, ◌∙◌}
use Rattle.registers.specs.Meaning.{SpareRowsLeftOpen, CarriesOver}

-- it carries over from call to call, over whatever has rows
pub left_open_carries : {S X : Type 0} (rows : S → List X) → CarriesOver (λ s t. SpareRowsLeftOpen (rows s) (rows t))
left_open_carries rows = record {
  itself = λ s. record { as_many = refl; past_the_room = refl };
  on = λ s t u p q. record { as_many = q.as_many ∙ p.as_many; past_the_room = q.past_the_room ∙ p.past_the_room };
}
