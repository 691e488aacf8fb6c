use Rattle.std.proofs.Common.{◌≡◌, ◌+◌, ◌-◌, ◌≤◌, length, drop}
use Rattle.feed.specs.Items.{items}
use Rattle.encode.specs.Packing.{first_refused}
use Rattle.encode.proofs.packet.check_messages.Given as goal

abbrev pub invariant-loop-at : goal.invariant-loop-at
invariant-loop-at l = (l.at ≤ length l.messages) × (first_refused (items l.subscription (8 + l.at) (drop l.at l.messages)) ≡ first_refused (items l.subscription 8 l.messages))

abbrev pub decreases-loop-at : goal.decreases-loop-at
decreases-loop-at l = length l.messages - l.at
