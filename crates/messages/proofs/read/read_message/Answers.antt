use Rattle.messages.proofs.Judgements.{verdict_is, own_is, laid_is}
use Rattle.messages.proofs.read.read_message.Goals as goal

pub returns : goal.returns
returns c =
    let sub = c.args.subscription in
    let bytes = c.args.bytes.now in
    let read = c.first_message.result in
    let value = c.ok_or.ensures.value in
    let v = verdict_is sub c.args.offset bytes read c.ok_or.result value c.first_message.ensures.content in
    record { verdict = v; own = own_is c.args.offset bytes read c.ok_or.result value c.first_message.ensures.own; laid = laid_is sub c.args.offset bytes c.ok_or.result v }
