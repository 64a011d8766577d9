use Rattle.std.proofs.Common.{◌≡◌, ℕ, List, length, codes, sym, ap, arith, rules}
use Rattle.std.proofs.lemmas.Slice.Eq.{HasBytesAt, text_from_reads}
use Rattle.text.specs.Tokens.{key_of}
use Rattle.text.proofs.token.find_keyword.Goals as goal

-- the key of a piece whose bytes are those of w
spelled : (w s : List ℕ) → length s ≡ length w → HasBytesAt s 0 w → key_of w ≡ key_of s
spelled w s long reads = ap key_of (sym (text_from_reads s w long reads))

pub returns-in-failed : goal.returns-in-failed
returns-in-failed c = spelled (codes "failed") c.args.piece.now (omega arith) (search rules)

pub returns-in-scan : goal.returns-in-scan
returns-in-scan c = spelled (codes "scan") c.args.piece.now (omega arith) (search rules)

pub returns-in-reach : goal.returns-in-reach
returns-in-reach c = spelled (codes "reach") c.args.piece.now (omega arith) (search rules)

pub returns-in-hold : goal.returns-in-hold
returns-in-hold c = spelled (codes "hold") c.args.piece.now (omega arith) (search rules)

pub returns-in-point : goal.returns-in-point
returns-in-point c = spelled (codes "point") c.args.piece.now (omega arith) (search rules)

pub returns-in-order : goal.returns-in-order
returns-in-order c = spelled (codes "order") c.args.piece.now (omega arith) (search rules)
