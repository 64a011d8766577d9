use Rattle.std.proofs.Common.{◌≡◌, ◌+◌, ◌++◌, ◌∷◌, [], drop}
use Rattle.std.specs.Iterator.Adapters.{enumerate_source, enumerate_count}
use Rattle.lines.specs.Drafts.{drafted}
use Rattle.text.specs.Pieces.{pieces_left}
use Rattle.text.specs.Split.{split}
use Rattle.verdicts.specs.Texts.{lines_of}
use Rattle.loader.proofs.lines_of.read_lines.Given as goal

abbrev pub invariant-loop-i : goal.invariant-loop-i
invariant-loop-i l =
    (goal.iterator-loop-i).can_next l.i-iterator
    × (goal.iterator-loop-i).is_finite l.i-iterator
    × (lines_of (split 10 l.text) 1 (drafted l.initial.draft) ≡ lines_of (pieces_left (enumerate_source l.i-iterator) ++ drop (l.end + 1) l.text ∷ []) (enumerate_count l.i-iterator + 1) (drafted l.draft))
    × (l.draft.table.ghost_name ≡ l.initial.draft.table.ghost_name)
