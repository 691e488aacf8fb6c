use Rattle.std.proofs.Common.{sym, ap, ◌∙◌}
use Rattle.feed.specs.Items.{nth}
use Rattle.feed.proofs.Steps.{nth_is}
use Rattle.feed.proofs.packet.Packet.message.Goals as goal

pub returns-clause-item : goal.returns-clause-item
returns-clause-item c = (nth_is c.messages.result _ c.args.index c.nth.result c.nth.ensures.ran).0 ∙ ap (nth c.args.index) c.messages.ensures.all

pub returns-clause-own : goal.returns-clause-own
returns-clause-own c = rw (sym c.messages.ensures.packet) (nth_is c.messages.result _ c.args.index c.nth.result c.nth.ensures.ran).1
