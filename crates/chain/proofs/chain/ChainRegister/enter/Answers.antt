use Rattle.std.proofs.Common.{min, true, refl, ap, inl, inr, arith}
use Rattle.std.proofs.lemmas.Bool.{both_ways}
use Rattle.chain.proofs.Cuts.{cut_at}
use Rattle.chain.proofs.Entering.{enters_as, enters_held, enters_not, not_there}
use Rattle.chain.proofs.Relinked.{free_inside}
use Rattle.chain.proofs.Staying.{at_rest}
use Rattle.chain.proofs.chain.ChainRegister.enter.Goals as goal

pub returns-in_default-clause-does : goal.returns-in_default-clause-does
returns-in_default-clause-does c = let s = c.args.self.now in enters_held s.rows.now s.ends c.args.d c.in_default.field-0 s.linked c.in_default.ensures.spot

pub returns-in_default-clause-still : goal.returns-in_default-clause-still
returns-in_default-clause-still c = let s = c.args.self.now in at_rest s.rows.now s.ends s.linked

pub returns-then-is_full-clause-does : goal.returns-then-is_full-clause-does
returns-then-is_full-clause-does c = let s = c.args.self.now in enters_not s.rows.now s.ends c.args.d c.in-Err.spot s.linked c.in-Err.ensures.spot c.if-is_full.ensures

pub returns-then-is_full-clause-still : goal.returns-then-is_full-clause-still
returns-then-is_full-clause-still c = let s = c.args.self.now in at_rest s.rows.now s.ends s.linked

pub link_in-self-requires-clause-free : goal.link_in-self-requires-clause-free
link_in-self-requires-clause-free c =
    let s = c.args.self.now in
    omega (arith, free_inside s.rows.now s.ends s.linked c.if-is_full.ensures)

pub invariant_of-self : goal.invariant_of-self
invariant_of-self c =
    let s = c.args.self.now in
    let done = enters_as s.rows.now s.ends c.args.d c.in-Err.spot s.linked c.in-Err.ensures.spot c.if-is_full.ensures c.link_in-self.ensures.rows c.link_in-self.ensures.ends in
    record { linked = done.stays }

pub returns : goal.returns
returns c =
    let s = c.args.self.now in
    let done = enters_as s.rows.now s.ends c.args.d c.in-Err.spot s.linked c.in-Err.ensures.spot c.if-is_full.ensures c.link_in-self.ensures.rows c.link_in-self.ensures.ends in
    record {
      does = done.does;
      unchanged = λ h. elim h [
        | inl i ↦ absurd (both_ways true i refl)
        | inr m ↦ absurd (not_there s.rows.now s.ends c.args.d c.in-Err.spot s.linked (cut_at s.rows.now s.ends c.args.d _ s.linked c.in-Err.ensures.spot) m)
      ];
      room = ap (λ n. min n 64) done.spares.as_many;
      spares = done.spares;
      still = done.still;
    }
