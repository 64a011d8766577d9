-- What loading promises. Assumes nothing.
use Rattle.std.specs.Prelude.{◌≡◌, ℕ, ◌⊎◌, ◌↔◌, List, Ok, Err}
use Rattle.sheets.specs.Sheets.{Content}
use Rattle.verdicts.specs.declared.fault.LoadFault.{LoadFault}
use Rattle.verdicts.specs.Texts.{meaning}
use Rattle.verdicts.specs.Declares.{Declares}
use Rattle.verdicts.specs.Refused.{Refused}

abbrev pub ATextIsTakenAsWhatItsLinesDeclare : Type 0
ATextIsTakenAsWhatItsLinesDeclare = (text : List ℕ) (t : Content) → (meaning text ≡ Ok t) ↔ Declares text t

abbrev pub ARefusalIsTheFirstCause : Type 0
ARefusalIsTheFirstCause = (text : List ℕ) (f : LoadFault) → (meaning text ≡ Err f) ↔ Refused text f

-- every text declares a table or is refused, by one fault alone, and none does both
abbrev pub EveryTextHasOneAnswer : Type 0
EveryTextHasOneAnswer =
    ((text : List ℕ) → ((t : Content) × Declares text t) ⊎ ((f : LoadFault) × Refused text f))
    × ((text : List ℕ) (t u : Content) → Declares text t → Declares text u → t ≡ u)
    × ((text : List ℕ) (f g : LoadFault) → Refused text f → Refused text g → f ≡ g)
    × ((text : List ℕ) (t : Content) (f : LoadFault) → Declares text t → Refused text f → ⊥)
