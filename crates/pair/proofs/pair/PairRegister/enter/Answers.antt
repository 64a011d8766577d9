use Rattle.std.proofs.Common.{min, sym, ap, inl, inr, arith}
use Rattle.std.proofs.lemmas.Bool.{leb-false}
use Rattle.pair.proofs.Pairs.{same_pair, in_first, in_second, enters_first, enters_second, first_entered, second_entered}
use Rattle.pair.proofs.pair.PairRegister.enter.Goals as goal

pub invariant_of-self : goal.invariant_of-self
invariant_of-self g c =
    let p = c.args.self.now in
    record { parted = first_entered p.parted c.args.d c.enter.result (sym c.if-is_scan.ensures) _ (ap (λ n. min n (g.B.Register.places p.second)) c.enter.ensures.room) (g.met.B.Register.lawful p.second).ascending (omega arith) (g.met.A.Register.lawful p.first).ascending (leb-false _ _ (sym c.if-is_full.ensures)) c.enter.ensures.does }

pub invariant_of-self-else-is_scan : goal.invariant_of-self-else-is_scan
invariant_of-self-else-is_scan g c =
    let p = c.args.self.now in
    let enter = c.enter-else-is_scan in
    record { parted = second_entered p.parted c.args.d enter.result (sym c.if-is_scan.ensures) _ (ap (λ n. min (g.A.Register.places p.first) n) enter.ensures.room) (g.met.B.Register.lawful enter.new.self).ascending (omega arith) (g.met.B.Register.lawful p.second).ascending (leb-false _ _ (sym c.if-is_full.ensures)) enter.ensures.does }

pub returns-then-is_scan-clause-does : goal.returns-then-is_scan-clause-does
returns-then-is_scan-clause-does g c =
    let p = c.args.self.now in
    enters_first p.parted c.args.d c.enter.result (sym c.if-is_scan.ensures) _ (omega arith) (g.met.A.Register.lawful p.first).ascending (leb-false _ _ (sym c.if-is_full.ensures)) c.enter.ensures.does

pub returns-else-is_scan-clause-does : goal.returns-else-is_scan-clause-does
returns-else-is_scan-clause-does g c =
    let p = c.args.self.now in
    enters_second p.parted c.args.d c.enter-else-is_scan.result (sym c.if-is_scan.ensures) _ (omega arith) (g.met.B.Register.lawful p.second).ascending (leb-false _ _ (sym c.if-is_full.ensures)) c.enter-else-is_scan.ensures.does

pub returns-then-is_scan-clause-unchanged : goal.returns-then-is_scan-clause-unchanged
returns-then-is_scan-clause-unchanged g c = λ u.
    let p = c.args.self.now in
    let same = c.enter.ensures.unchanged (elim u [ inl f ↦ inl f | inr m ↦ inr (in_first p.parted c.args.d (sym c.if-is_scan.ensures) m) ]) in
    same_pair (λ a. g.A.Register.duties a) (λ a. g.B.Register.duties p.second) (λ a. min (g.A.Register.places a) (g.B.Register.places p.second)) (λ a t. record { first = a; second = p.second; parted = t }) same _ p.parted

pub returns-else-is_scan-clause-unchanged : goal.returns-else-is_scan-clause-unchanged
returns-else-is_scan-clause-unchanged g c = λ u.
    let p = c.args.self.now in
    let same = c.enter-else-is_scan.ensures.unchanged (elim u [ inl f ↦ inl f | inr m ↦ inr (in_second p.parted c.args.d (sym c.if-is_scan.ensures) m) ]) in
    same_pair (λ b. g.A.Register.duties p.first) (λ b. g.B.Register.duties b) (λ b. min (g.A.Register.places p.first) (g.B.Register.places b)) (λ b t. record { first = p.first; second = b; parted = t }) same _ p.parted
