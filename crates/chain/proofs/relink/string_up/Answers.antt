use Rattle.std.proofs.Common.{arith}
use Rattle.std.proofs.lemmas.List.{length-append, length-take, length-drop}
use Rattle.std.proofs.lemmas.Slice.{drop-append-drop}
use Rattle.chain.specs.declared.link.Link.{Link}
use Rattle.chain.proofs.relink.string_up.Goals as goal

pub returns-clause-spares : goal.returns-clause-spares
returns-clause-spares c = record {
  as_many = omega (arith, length-append {A = Link}, length-take {A = Link}, length-drop {A = Link});
  past_the_room = drop-append-drop _ c.args.rows.now c.loop-p.row-items 64 (omega arith) (omega (arith, length-take {A = Link}));
}
