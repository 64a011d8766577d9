use Rattle.std.proofs.Common.{◌≡◌, ap, ◌∙◌, rules}
use Rattle.std.proofs.lemmas.Bool.{both_ways}
use Rattle.ordered.specs.Ascending.{same}
use Rattle.ordered.specs.Finding.{last_place}
use Rattle.ordered.proofs.Last.{last_place_is, last_with}
use Rattle.ordered.proofs.Sets.{same_is, same_refl}
use Rattle.ordered.proofs.find.find_last.Goals as goal

pub returns : goal.returns
returns g c =
    let o = g.met.K.TotalOrder in
    let less = g.K.TotalOrder.less in
    let keyed = g.T.Keyed.keyed in
    let key = c.args.key in
    let rows = c.args.rows.now in
    let test = λ (row : g.row.T.Denot). same less (keyed row) key in
    let is : c.rposition.result ≡ last_place test rows =
    last_place_is test rows c.rposition.result (λ i e. search rules) (λ j x e l. search rules) (λ i x e. search rules) (λ i j x e m l. search rules) in
    record {
      place = is;
      last = rw is (last_with test keyed key
          (λ row h. same_is less o.irreflexive o.transitive o.total (keyed row) key h)
          (λ row h e. both_ways _ h (ap (λ v. same less v key) e ∙ same_refl less o.irreflexive o.transitive o.total key)) rows);
    }
