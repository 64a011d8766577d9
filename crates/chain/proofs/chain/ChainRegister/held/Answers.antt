use Rattle.std.proofs.Common.{◌∙◌}
use Rattle.std.proofs.lemmas.Bool.Decides.{Decides-at}
use Rattle.registers.proofs.Changes as changes
use Rattle.chain.specs.Walk.{room_of, chained}
use Rattle.chain.proofs.Cuts.{cut_at}
use Rattle.chain.proofs.chain.ChainRegister.held.Goals as goal

pub returns : goal.returns
returns c =
    let k = c.args.self.now.linked in
    let rows = c.args.self.now.rows.now in
    let e = c.args.self.now.ends in
    let d = c.args.d in
    Decides-at _ _ (c.is_ok.ensures.value ∙ (cut_at rows e d c.find.result k c.find.ensures.spot).answer) (changes.held d (chained rows e) (room_of rows) k.lawful)
