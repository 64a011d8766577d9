-- Every text has one answer. Assumes nothing.
use Rattle.std.proofs.Common.{◌≡◌, ℕ, ◌⊎◌, List, Ok, Err, Result, refl, inl, inr}
use Rattle.sheets.specs.Sheets.{Content}
use Rattle.verdicts.specs.declared.fault.LoadFault.{LoadFault}
use Rattle.verdicts.specs.Declares.{Declares}
use Rattle.verdicts.specs.Refused.{Refused}
use Rattle.verdicts.specs.Texts.{meaning}
use Rattle.verdicts.specs.Verdicts.{EveryTextHasOneAnswer}
use Rattle.verdicts.proofs.RefusedFirst.{texts_refused}
use Rattle.verdicts.proofs.TextDeclared.{texts_declared}

some_answer : (text : List ℕ) (r : Result Content LoadFault) → meaning text ≡ r → ((t : Content) × Declares text t) ⊎ ((f : LoadFault) × Refused text f)
some_answer text (Ok t) e = inl (t, (texts_declared text t).0 e)
some_answer text (Err f) e = inr (f, (texts_refused text f).0 e)

same_sheet : (t u : Content) (r : Result Content LoadFault) → r ≡ Ok t → r ≡ Ok u → t ≡ u
same_sheet t u r p q = cc

same_fault : (f g : LoadFault) (r : Result Content LoadFault) → r ≡ Err f → r ≡ Err g → f ≡ g
same_fault f g r p q = cc

not_both : (t : Content) (f : LoadFault) (r : Result Content LoadFault) → r ≡ Ok t → r ≡ Err f → ⊥
not_both t f r p q = cc

pub one_answer : EveryTextHasOneAnswer
one_answer = (
  (λ text. some_answer text (meaning text) refl),
  (λ text t u p q. same_sheet t u (meaning text) ((texts_declared text t).1 p) ((texts_declared text u).1 q)),
  (λ text f g p q. same_fault f g (meaning text) ((texts_refused text f).1 p) ((texts_refused text g).1 q)),
  (λ text t f p q. not_both t f (meaning text) ((texts_declared text t).1 p) ((texts_refused text f).1 q)),
)
