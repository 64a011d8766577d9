use Rattle.std.proofs.Common.{rules, map, sym, ap, ◌∙◌}
use Rattle.std.proofs.lemmas.Iterator.{YieldsList-from_map}
use Rattle.std.proofs.lemmas.Iterator.Consumers.{YieldsList-from_first}
use Rattle.std.proofs.lemmas.Iterator.Search.{find_from_yields_List}
use Rattle.std.proofs.lemmas.Iterator.Adapters.{option_map_id}
use borrow.Author.Tests.{tests}
use Rattle.chain.specs.Spots.{comes_above}
use Rattle.chain.specs.Walk.{to_come, trail}
use Rattle.chain.specs.declared.link.Link.{Link}
use Rattle.chain.proofs.Seeking.{find_above}
use Rattle.chain.proofs.find.first_above.Goals as goal

pub returns : goal.returns
returns c =
    let from = c.args.from in
    sym (option_map_id c.find.result)
    ∙ find_from_yields_List (comes_above from) c.find.new.self _ c.find.result c.find.ensures.ran
    (YieldsList-from_map _ (λ (row : Link). row.duty) (YieldsList-from_first (λ row. row.now) to_come _ (ap to_come c.map.ensures.source ∙ c.new.ensures)) c.map.ensures.closure (λ x r q k. search rules)) (λ x b q k. search (rules, tests))
    ∙ find_above from (map (λ (row : Link). row.duty) (trail c.args.rows.now c.args.ends.head c.args.ends.count))
