use Rattle.std.proofs.Common.{◌==◌, length, sym, refl, ap, ◌∙◌, subst, inl}
use Rattle.std.proofs.lemmas.Bool.{both_ways}
use Rattle.ordered.specs.Ascending.{◌∈◌}
use Rattle.makes.proofs.Single.{took, alone}
use Rattle.makes.proofs.works.takes.Goals.{then-enter, else-enter}
use Rattle.makes.proofs.works.takes.Goals as goal

pub returns-then-count-eq1 : goal.returns-then-count-eq1
returns-then-count-eq1 g c = λ e h.
    let one = alone c.args.d c.enter.result _ _ _ e h c.enter.ensures.does (g.met.R.Register.lawful _).ascending in
    (c.held.ensures.1 (subst (λ l. c.args.d ∈ l) (sym one) (inl refl)), one)

pub returns-else-count-eq1 : goal.returns-else-count-eq1
returns-else-count-eq1 g c = λ e h.
    let one = alone c.args.d c.enter.result _ _ _ e h c.enter.ensures.does (g.met.R.Register.lawful _).ascending in
    elim c.if-enter.branch [
      | then-enter w ↦ (w.value-is ∙ ap (λ n. n == 1) (w.count.ensures ∙ ap length one), one)
      | else-enter w ↦ absurd (both_ways _ w.if-enter.false (took c.args.d c.enter.result _ _ _ e h c.enter.ensures.does))
    ]
