use Rattle.std.proofs.Common.{◌≡◌, Ok, sym, refl, ap, ◌∙◌, subst}
use Rattle.lines.specs.Drafts.{drafted}
use Rattle.lines.specs.Lines.{line_of}
use Rattle.lines.specs.Reads.{Indexes}
use Rattle.sheets.specs.Sheets.{content}
use Rattle.lines.proofs.Knows.{knows_order, knows_point, knows_tag}
use Rattle.lines.proofs.Readings.{line_fails, name_room, read_lawful, says_order, says_point, says_tag}
use Rattle.lines.proofs.line.Draft.read_record.Goals as goal

pub returns-in_err-name-clause-read : goal.returns-in_err-name-clause-read
returns-in_err-name-clause-read c =
    let d = c.args.self.now in
    let says = says_tag d.known.now (drafted d) d.indexed c.args.line.now c.in-Some.rest.now c.tags.result.now _ c.in-Some.ensures c.tags.ensures c.in_err-name.ensures in
    line_fails _ _ _ _ _ c.from_residual.ensures.1 says refl

pub invariant_of-self-in-Some : goal.invariant_of-self-in-Some
invariant_of-self-in-Some c =
    let d = c.args.self.now in
    let t = drafted d in
    let says = says_tag d.known.now t d.indexed c.args.line.now c.in-Some.rest.now c.tags.result.now _ c.in-Some.ensures c.tags.ensures c.in_ok-name.ensures in
    let reads : line_of t c.args.line.now ≡ Ok (content c.add_tag.new.self) = says ∙ ap Ok (sym c.add_tag.ensures) in
    let few = name_room d.known.now t d.indexed c.args.line.now c.in-Some.rest.now c.tags.result.now t.tags c.in_ok-name.name c.tags.ensures c.in_ok-name.ensures in
    let knows = knows_tag d.known.now c.insert.new.self t c.in_ok-name.name c.insert.result d.indexed c.insert.ensures.answer c.insert.ensures.room c.insert.ensures.ascending c.insert.ensures.members d.lawful few in
    record {
      lawful = read_lawful t (content c.add_tag.new.self) c.args.line.now d.lawful reads;
      indexed = subst (Indexes c.insert.new.self) (sym c.add_tag.ensures) knows;
    }

pub returns-in-Some-clause-read : goal.returns-in-Some-clause-read
returns-in-Some-clause-read c =
    let d = c.args.self.now in
    says_tag d.known.now (drafted d) d.indexed c.args.line.now c.in-Some.rest.now c.tags.result.now _ c.in-Some.ensures c.tags.ensures c.in_ok-name.ensures ∙ ap Ok (sym c.add_tag.ensures)

pub returns-in_err-name-2-clause-read : goal.returns-in_err-name-2-clause-read
returns-in_err-name-2-clause-read c =
    let d = c.args.self.now in
    let says = says_point d.known.now (drafted d) d.indexed c.args.line.now c.in-Some-after.rest.now c.points.result.now _ c.in_default.ensures c.in-Some-after.ensures c.points.ensures c.in_err-name-2.ensures in
    line_fails _ _ _ _ _ c.from_residual-in_err-name-2.ensures.1 says refl

pub invariant_of-self-in-Some-after : goal.invariant_of-self-in-Some-after
invariant_of-self-in-Some-after c =
    let d = c.args.self.now in
    let t = drafted d in
    let says = says_point d.known.now t d.indexed c.args.line.now c.in-Some-after.rest.now c.points.result.now _ c.in_default.ensures c.in-Some-after.ensures c.points.ensures c.in_ok-name-2.ensures in
    let reads : line_of t c.args.line.now ≡ Ok (content c.add_point.new.self) = says ∙ ap Ok (sym c.add_point.ensures) in
    let few = name_room d.known.now t d.indexed c.args.line.now c.in-Some-after.rest.now c.points.result.now t.points c.in_ok-name-2.name c.points.ensures c.in_ok-name-2.ensures in
    let insert = c.insert-in-Some-after in
    let knows = knows_point d.known.now insert.new.self t c.in_ok-name-2.name insert.result d.indexed insert.ensures.answer insert.ensures.room insert.ensures.ascending insert.ensures.members d.lawful few in
    record {
      lawful = read_lawful t (content c.add_point.new.self) c.args.line.now d.lawful reads;
      indexed = subst (Indexes insert.new.self) (sym c.add_point.ensures) knows;
    }

pub returns-in-Some-after-clause-read : goal.returns-in-Some-after-clause-read
returns-in-Some-after-clause-read c =
    let d = c.args.self.now in
    says_point d.known.now (drafted d) d.indexed c.args.line.now c.in-Some-after.rest.now c.points.result.now _ c.in_default.ensures c.in-Some-after.ensures c.points.ensures c.in_ok-name-2.ensures ∙ ap Ok (sym c.add_point.ensures)

pub invariant_of-self-in-Some-after-2 : goal.invariant_of-self-in-Some-after-2
invariant_of-self-in-Some-after-2 c =
    let d = c.args.self.now in
    let t = drafted d in
    let says = says_order d.known.now t d.indexed c.args.line.now c.in-Some-after-2.rest.now _ c.in_default.ensures c.in_default-after.ensures c.in-Some-after-2.ensures c.in_ok-order.ensures in
    record {
      lawful = read_lawful t _ c.args.line.now d.lawful (says ∙ ap Ok (sym c.add_order.ensures));
      indexed = subst (Indexes d.known.now) (sym c.add_order.ensures) (knows_order d.known.now t _ d.indexed);
    }
