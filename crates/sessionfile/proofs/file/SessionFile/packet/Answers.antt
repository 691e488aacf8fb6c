use Rattle.std.proofs.Common.{rules}
use borrow.Author.Tests.{tests}
use Rattle.std.proofs.lemmas.Iterator.Consumers.{YieldsList-from_first}
use Rattle.std.proofs.lemmas.Iterator.Search.{find_from_yields_List}
use Rattle.replay.specs.Stores.{carries}
use Rattle.sessionfile.specs.Entries.{entries, pending}
use Rattle.sessionfile.proofs.file.SessionFile.packet.Goals as goal

pub returns-clause-finds : goal.returns-clause-finds
returns-clause-finds c =
    let f = c.args.self in
    find_from_yields_List (carries f.header.subscription c.args.number) c.find.new.self _ c.find.result c.find.ensures.ran (YieldsList-from_first (λ x. x.now) pending (entries f.bytes.now) c.entries.ensures) (λ x b q k. search (rules, tests))
