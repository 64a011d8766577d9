use Rattle.std.proofs.Common.{inl, inr, arith}
use Rattle.std.proofs.lemmas.Grind.{common_steps}
use Rattle.text.specs.Spelling.{inner}
use Rattle.text.proofs.Alls.{all_tells}
use Rattle.text.proofs.token.all_inner.Goals as goal

pub returns : goal.returns
returns c =
    elim (all_tells inner c.args.bytes.now) [ inl h ↦ grind (arith, common_steps) | inr h ↦ grind (arith, common_steps) ]
