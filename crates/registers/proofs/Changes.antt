-- Including a duty in a lawful set enters it, and excluding it strikes it; the set stays lawful. Assumes nothing.
use Rattle.std.proofs.Common.{◌≡◌, ℕ, Bool, true, false, cond, ◌||◌, ltb, List, length, Decides, ap, ◌∙◌, arith}
use Rattle.ordered.specs.Ascending.{◌∈◌, rising, holding, including, excluding}
use Rattle.ordered.specs.Changes.{Entered, Struck}
use Rattle.ordered.proofs.Changes as sets
use Rattle.ordered.proofs.Sets.{rising_including, rising_excluding, length_excluding_le}
use Rattle.duties.specs.Duties.{before}
use Rattle.duties.specs.declared.duty.Duty.{Duty}
use Rattle.duties.specs.DutyLaws.{before_irreflexive, before_transitive, before_total}
use Rattle.registers.specs.Meaning.{Lawful}

module _ (d : Duty) (ds : List Duty) (room : ℕ) (k : Lawful ds room) where
  pub held : Decides (holding before d ds) (d ∈ ds)
  held = sets.held before before_irreflexive before_transitive before_total d ds k.ascending

  module _ (r : Bool) (ds' : List Duty) (answer : r ≡ (holding before d ds || ltb (length ds) room)) (rows : ds' ≡ cond r (including before d ds) ds) where
    pub entered : Entered d r ds ds' room
    entered = sets.entered before before_irreflexive before_transitive before_total d ds k.ascending room k.fits r ds' answer rows

    rises : (b : Bool) → rising before (cond b (including before d ds) ds) ≡ true
    rises true = rising_including before before_irreflexive before_transitive before_total d ds k.ascending
    rises false = k.ascending

    pub entered_lawful : Lawful ds' room
    entered_lawful = record {
      ascending = ap (rising before) rows ∙ rises r;
      fits = sets.entered_fits before d ds room k.fits r ds' answer rows;
      small = k.small;
    }

  module _ (r : Bool) (ds' : List Duty) (answer : r ≡ holding before d ds) (rows : ds' ≡ excluding before d ds) where
    pub struck : Struck d r ds ds'
    struck = sets.struck before before_irreflexive before_transitive before_total d ds k.ascending r ds' answer rows

    pub struck_lawful : Lawful ds' room
    struck_lawful = record {
      ascending = ap (rising before) rows ∙ rising_excluding before before_irreflexive before_transitive before_total d ds k.ascending;
      fits = omega (arith, ap length rows, length_excluding_le before d ds, k.fits);
      small = k.small;
    }
