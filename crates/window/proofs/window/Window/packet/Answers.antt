use Rattle.std.proofs.Common.{◌≡◌, ◌/◌, length, take, drop, ap, ◌∙◌, rules}
use Rattle.std.proofs.lemmas.Iterator.{YieldsList-from_slice, YieldsList-from_map_by, YieldsList-from_take}
use Rattle.std.proofs.lemmas.Iterator.Consumers.{YieldsList-from_chain, YieldsList-at}
use Rattle.std.proofs.lemmas.Iterator.Search.{find_from_yields_List}
use borrow.Author.Tests.{tests}
use Rattle.std.specs.Simd.{first_chunks}
use Rattle.std.specs.Slice.Iter.{iter_rest}
use Rattle.replay.specs.Stores.{carries}
use Rattle.window.specs.Windows.{cells, front, packets_in}
use Rattle.window.proofs.window.Window.packet.Goals as goal

pub returns : goal.returns
unfolding packets_in cells
returns c =
    let w = c.args.self.now in
    let all = first_chunks 8192 (length w.area.now / 8192) w.area.now in
    let earliest : c.split_at.result.1.now ≡ drop w.first all = c.split_at.ensures.back ∙ ap (drop w.first) c.as_chunks.ensures.front in
    let wrapped : c.split_at.result.0.now ≡ take w.first all = c.split_at.ensures.front ∙ ap (take w.first) c.as_chunks.ensures.front in
    let chained = YieldsList-from_chain (YieldsList-from_slice (drop w.first all) (ap iter_rest c.chain.ensures.first ∙ c.iter.ensures.rest ∙ earliest)) (YieldsList-from_slice (take w.first all) (c.chain.ensures.second.0 ∙ wrapped)) c.chain.ensures.first_done c.chain.ensures.second_done in
    let taken = YieldsList-from_take w.count (YieldsList-at c.take.ensures.source chained) c.take.ensures.count in
    find_from_yields_List (carries w.subscription c.args.number) _ _ c.find.result c.find.ensures.ran
    (YieldsList-from_map_by _ (λ r. r.now) front (YieldsList-at c.map.ensures.source taken) c.map.ensures.closure (λ x r q k. search rules))
    (λ x b q k. search (rules, tests))
