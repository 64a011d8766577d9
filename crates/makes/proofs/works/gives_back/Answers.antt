use Rattle.std.proofs.Common.{not, sym, ap, ◌∙◌, subst, inl, inr}
use Rattle.std.proofs.lemmas.Bool.{both_ways, cases_Bool, not-false}
use Rattle.ordered.specs.Ascending.{◌∈◌}
use Rattle.makes.proofs.Single.{gave, none_after}
use Rattle.makes.proofs.works.gives_back.Goals.{then-strike, else-strike}
use Rattle.makes.proofs.works.gives_back.Goals as goal

pub returns-then-not-held : goal.returns-then-not-held
returns-then-not-held g c = λ e.
    let left = (gave c.args.d c.strike.result _ _ e c.strike.ensures.does).1 in
    (not-false _ (sym c.is_none.ensures ∙ none_after _ c.after.result left c.after.ensures), left)

pub returns-else-not-held : goal.returns-else-not-held
returns-else-not-held g c = λ e.
    let done = gave c.args.d c.strike.result _ _ e c.strike.ensures.does in
    elim c.if-strike.branch [
      | then-strike w ↦ (elim (cases_Bool w.held.result) [ inl t ↦ absurd (subst (λ l. c.args.d ∈ l) done.1 (w.held.ensures.0 t)) | inr f ↦ w.value-is ∙ ap not f ], done.1)
      | else-strike w ↦ absurd (both_ways _ w.if-strike.false done.0)
    ]
