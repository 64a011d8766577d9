use Rattle.std.proofs.Common.{min, true, refl, ap}
use Rattle.std.proofs.lemmas.Bool.{both_ways}
use Rattle.chain.proofs.Staying.{at_rest}
use Rattle.chain.proofs.Striking.{strikes_as, strikes_not}
use Rattle.chain.proofs.chain.ChainRegister.strike.Goals as goal

pub returns-in_default-clause-does : goal.returns-in_default-clause-does
returns-in_default-clause-does c = let s = c.args.self.now in strikes_not s.rows.now s.ends c.args.d c.in_default.field-0 s.linked c.in_default.ensures.spot

pub returns-in_default-clause-still : goal.returns-in_default-clause-still
returns-in_default-clause-still c = let s = c.args.self.now in at_rest s.rows.now s.ends s.linked

pub invariant_of-self : goal.invariant_of-self
invariant_of-self c =
    let s = c.args.self.now in
    let done = strikes_as s.rows.now s.ends c.args.d c.in-Ok.spot s.linked c.in-Ok.ensures.spot c.take_out-self.ensures.rows c.take_out-self.ensures.ends in
    record { linked = done.stays }

pub returns : goal.returns
returns c =
    let s = c.args.self.now in
    let done = strikes_as s.rows.now s.ends c.args.d c.in-Ok.spot s.linked c.in-Ok.ensures.spot c.take_out-self.ensures.rows c.take_out-self.ensures.ends in
    record {
      does = done.does;
      unchanged = λ h. absurd (both_ways true h refl);
      room = ap (λ n. min n 64) done.spares.as_many;
      spares = done.spares;
      still = done.still;
    }
