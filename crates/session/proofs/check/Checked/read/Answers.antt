use Rattle.runs.proofs.Checks.{first_there}
use Rattle.session.proofs.check.Checked.read.Goals as goal

pub invariant_of-result-clause-first : goal.invariant_of-result-clause-first
invariant_of-result-clause-first g c =
    let packet = c.in_ok-packet.packet in
    first_there g.K.Kind.meaning c.args.subscription c.args.waiting c.args.bytes.now packet.header packet.bytes.now c.in_ok-packet.ensures.verdict c.in_ok-packet.ensures.bytes c.in_ok-check.ensures
