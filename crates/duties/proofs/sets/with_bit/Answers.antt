use Rattle.std.proofs.Common.{arith, w64}
use Rattle.std.proofs.lemmas.Nat.Bits.{bit_at_set_same, bit_at_set_other}
use Rattle.duties.proofs.sets.with_bit.Goals as goal

pub returns-clause-each : goal.returns-clause-each
returns-clause-each c = λ n.
    let word = c.args.word in
    let at = c.args.at in
    grind (arith, bit_at_set_same w64 word at c.requires, bit_at_set_other w64 word at c.requires n)
