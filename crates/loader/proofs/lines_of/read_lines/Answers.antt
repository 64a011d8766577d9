use Rattle.std.proofs.Common.{◌≡◌, ◌++◌, ◌∷◌, [], ◌+◌, take, drop, add-one, arith, rules}
use Rattle.std.proofs.lemmas.Grind.{common_steps}
use Rattle.text.specs.Split.{split}
use Rattle.text.proofs.Splits.{split_last}
use Rattle.loader.proofs.lines_of.read_lines.Goals as goal

pub loop-i-init : goal.loop-i-init
loop-i-init c =
    let parts : split 10 c.args.text.now ≡ split 10 (take c.in-Some.end c.args.text.now) ++ drop (c.in-Some.end + 1) c.args.text.now ∷ [] =
    rw add-one (split_last 10 c.args.text.now c.in-Some.end (search rules) (search rules) (λ k a l e. search rules)) in
    grind (arith, common_steps)
