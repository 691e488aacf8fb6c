use Rattle.std.proofs.Common.{length, sym, ◌∙◌, arith}
use Rattle.std.proofs.lemmas.List.{take_rest}
use Rattle.std.proofs.lemmas.Result.{err_from_is_err_and}
use Rattle.std.proofs.lemmas.Bool.{eqb-false}
use Rattle.codes.specs.Refusals.{returned}
use Rattle.messages.specs.Messages.{content}
use Rattle.encode.proofs.Packings.{fault_some, check_good, check_refused, check_end}
use Rattle.encode.proofs.packet.check_messages.Goals as goal

pub loop-at-preserved : goal.loop-at-preserved
loop-at-preserved c =
    let read = rw take_rest at c.in_ok-message.ensures.verdict in
    let n = check_good c.args.subscription c.args.messages.now c.loop-at.at c.loop-at-test.true (content c.in_ok-message.message) c.size-at.result read c.size-at.ensures.value in
    (n.0, sym n.1 ∙ c.loop-at.invariant.1)

pub returns-in_err-message : goal.returns-in_err-message
returns-in_err-message c =
    let p = err_from_is_err_and c.from_residual.result c.from_residual.ensures.1 in
    let sub = c.args.subscription in
    let messages = c.args.messages.now in
    let read = rw take_rest at c.in_err-message.ensures.verdict in
    rw (p.1, p.2) (sym (fault_some sub messages (omega arith) ∙ sym c.loop-at.invariant.1 ∙ check_refused sub messages c.loop-at.at c.loop-at-test.true (returned c.in_err-message.field-0.0) read))

pub returns : goal.returns
returns c =
    let sub = c.args.subscription in
    let messages = c.args.messages.now in
    let some = eqb-false (length messages) 0 (sym c.if-is_empty.ensures) in
    sym (fault_some sub messages (omega arith) ∙ sym c.loop-at.invariant.1 ∙ check_end sub messages c.loop-at.at c.loop-at-test.false)
