use Rattle.std.proofs.Common.{min, sym, ap}
use Rattle.pair.proofs.Pairs.{same_pair, first_struck, second_struck, strikes_first, strikes_second}
use Rattle.pair.proofs.pair.PairRegister.strike.Goals as goal

pub invariant_of-self : goal.invariant_of-self
invariant_of-self g c =
    let p = c.args.self.now in
    record { parted = first_struck p.parted c.args.d c.strike.result (sym c.if-is_scan.ensures) _ (ap (λ n. min n (g.B.Register.places p.second)) c.strike.ensures.room) (g.met.B.Register.lawful p.second).ascending c.strike.ensures.does }

pub invariant_of-self-else-is_scan : goal.invariant_of-self-else-is_scan
invariant_of-self-else-is_scan g c =
    let p = c.args.self.now in
    let strike = c.strike-else-is_scan in
    record { parted = second_struck p.parted c.args.d strike.result (sym c.if-is_scan.ensures) _ (ap (λ n. min (g.A.Register.places p.first) n) strike.ensures.room) (g.met.B.Register.lawful strike.new.self).ascending strike.ensures.does }

pub returns-then-is_scan-clause-does : goal.returns-then-is_scan-clause-does
returns-then-is_scan-clause-does g c = strikes_first c.args.self.now.parted c.args.d c.strike.result (sym c.if-is_scan.ensures) _ c.strike.ensures.does

pub returns-else-is_scan-clause-does : goal.returns-else-is_scan-clause-does
returns-else-is_scan-clause-does g c = strikes_second c.args.self.now.parted c.args.d c.strike-else-is_scan.result (sym c.if-is_scan.ensures) _ c.strike-else-is_scan.ensures.does

pub returns-then-is_scan-clause-unchanged : goal.returns-then-is_scan-clause-unchanged
returns-then-is_scan-clause-unchanged g c = λ f.
    let p = c.args.self.now in
    same_pair (λ a. g.A.Register.duties a) (λ a. g.B.Register.duties p.second) (λ a. min (g.A.Register.places a) (g.B.Register.places p.second)) (λ a t. record { first = a; second = p.second; parted = t }) (c.strike.ensures.unchanged f) _ p.parted

pub returns-else-is_scan-clause-unchanged : goal.returns-else-is_scan-clause-unchanged
returns-else-is_scan-clause-unchanged g c = λ f.
    let p = c.args.self.now in
    same_pair (λ b. g.A.Register.duties p.first) (λ b. g.B.Register.duties b) (λ b. min (g.A.Register.places p.first) (g.B.Register.places b)) (λ b t. record { first = p.first; second = b; parted = t }) (c.strike-else-is_scan.ensures.unchanged f) _ p.parted
