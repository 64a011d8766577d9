use Rattle.std.proofs.Common.{◌≡◌, ℕ, List, Ok, Err, Result, MatchResult}
use Rattle.sheets.specs.Sheets.{Content}
use Rattle.verdicts.specs.declared.fault.LoadFault.{LoadFault}
use Rattle.verdicts.specs.Declares.{Declares}
use Rattle.verdicts.specs.Refused.{Refused}
use Rattle.verdicts.specs.Texts.{meaning}
use Rattle.verdicts.proofs.RefusedFirst.{texts_refused}
use Rattle.verdicts.proofs.TextDeclared.{texts_declared}
use Rattle.loader.proofs.loader.Loader.load.Goals as goal

-- from what the text means to the grammar's words
judged : (A : Type 0) (r : Result (Unit {0}) LoadFault) (text : List ℕ) (t : Content) → MatchResult r (λ _. meaning text ≡ Ok t) (λ e. (meaning text ≡ Err e) × A) → MatchResult r (λ _. Declares text t) (λ e. Refused text e × A)
judged A (Ok u) text t h = (texts_declared text t).0 h
judged A (Err e) text t h = ((texts_refused text e).0 h.0, h.1)

pub returns : goal.returns
returns c = judged (c.fill.new.sheet ≡ c.args.sheet.now) c.fill.result _ _ c.fill.ensures
