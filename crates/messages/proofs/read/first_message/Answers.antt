use Rattle.std.proofs.Common.{◌<◌, length, ap, ◌∙◌, arith}
use Rattle.std.proofs.lemmas.Bool.Decides.{nat_tests}
use Rattle.std.specs.Option.{option_map}
use Rattle.codes.specs.declared.message.MessageType.TheVariants as type
use Rattle.messages.specs.Messages.{content}
use Rattle.messages.specs.Verdict.{when, quote_fields, imbalance_fields, event_fields, quote_in, imbalance_in, event_in}
use Rattle.messages.specs.Content.{quote, imbalance, event}
use Rattle.messages.specs.declared.message.Message.TheVariants.{Quote, Imbalance, Event}
use Rattle.messages.proofs.Verdicts.{message_short, header_is, cut_some, handed_own, typed_code, of_other, of_no_type, none_of_type, some_of_type, message_quote, message_imbalance, message_event}
use Rattle.messages.proofs.read.first_message.Goals as goal

pub returns-in_err-header-clause-content : goal.returns-in_err-header-clause-content
returns-in_err-header-clause-content c =
    let short : length c.args.bytes.now < 8 = grind (arith, nat_tests) in
    ap (option_map content) c.from_residual.ensures ∙ message_short c.args.subscription c.args.bytes.now short

pub returns-then-header-subscription-clause-content : goal.returns-then-header-subscription-clause-content
returns-then-header-subscription-clause-content c = of_other _ _ c.in_ok-header.header c.in_ok-header.ensures c.if-header-subscription.true

pub returns-in_err-ok-clause-content : goal.returns-in_err-ok-clause-content
returns-in_err-ok-clause-content c = of_no_type _ _ c.in_ok-header.header c.in_ok-header.ensures c.if-header-subscription.false _ c.try_from.ensures c.in_err-ok.ensures.value _ c.from_residual-in_err-ok.ensures

pub returns-in_err-quote-in-Quote-clause-content : goal.returns-in_err-quote-in-Quote-clause-content
returns-in_err-quote-in-Quote-clause-content c =
    let code = typed_code _ _ _ type.Quote c.try_from.ensures c.in_ok-ok.ensures.value c.in-Quote.is in
    none_of_type _ _ c.in_ok-header.header c.in_ok-header.ensures c.if-header-subscription.false 52 113 quote_in (message_quote _ _) code _ c.from_residual-in_err-quote-in-Quote.ensures c.in_err-quote-in-Quote.ensures

pub returns-in_ok-quote-in-Quote-clause-content : goal.returns-in_ok-quote-in-Quote-clause-content
returns-in_ok-quote-in-Quote-clause-content c =
    let own = c.in_ok-quote-in-Quote.quote in
    let code = typed_code _ _ _ type.Quote c.try_from.ensures c.in_ok-ok.ensures.value c.in-Quote.is in
    some_of_type _ _ c.in_ok-header.header c.in_ok-header.ensures c.if-header-subscription.false 52 113 quote_in (message_quote _ _) code own.bytes.now _ (Quote own) _ c.in_ok-quote-in-Quote.ensures c.then_some.ensures (ap (λ b. when b (quote (quote_fields own.bytes.now))) c.is_good_quote.ensures)

pub returns-in_err-imbalance-in-Imbalance-clause-content : goal.returns-in_err-imbalance-in-Imbalance-clause-content
returns-in_err-imbalance-in-Imbalance-clause-content c =
    let code = typed_code _ _ _ type.Imbalance c.try_from.ensures c.in_ok-ok.ensures.value c.in-Imbalance.is in
    none_of_type _ _ c.in_ok-header.header c.in_ok-header.ensures c.if-header-subscription.false 60 105 imbalance_in (message_imbalance _ _) code _ c.from_residual-in_err-imbalance-in-Imbalance.ensures c.in_err-imbalance-in-Imbalance.ensures

pub returns-in_ok-imbalance-in-Imbalance-clause-content : goal.returns-in_ok-imbalance-in-Imbalance-clause-content
returns-in_ok-imbalance-in-Imbalance-clause-content c =
    let own = c.in_ok-imbalance-in-Imbalance.imbalance in
    let code = typed_code _ _ _ type.Imbalance c.try_from.ensures c.in_ok-ok.ensures.value c.in-Imbalance.is in
    some_of_type _ _ c.in_ok-header.header c.in_ok-header.ensures c.if-header-subscription.false 60 105 imbalance_in (message_imbalance _ _) code own.bytes.now _ (Imbalance own) _ c.in_ok-imbalance-in-Imbalance.ensures c.then_some-in-Imbalance.ensures (ap (λ b. when b (imbalance (imbalance_fields own.bytes.now))) c.is_good_imbalance.ensures)

pub returns-in_err-event-in-Event-clause-content : goal.returns-in_err-event-in-Event-clause-content
returns-in_err-event-in-Event-clause-content c =
    let code = typed_code _ _ _ type.Event c.try_from.ensures c.in_ok-ok.ensures.value c.in-Event.is in
    none_of_type _ _ c.in_ok-header.header c.in_ok-header.ensures c.if-header-subscription.false 44 118 event_in (message_event _ _) code _ c.from_residual-in_err-event-in-Event.ensures c.in_err-event-in-Event.ensures

pub returns-in_ok-event-in-Event-clause-content : goal.returns-in_ok-event-in-Event-clause-content
returns-in_ok-event-in-Event-clause-content c =
    let own = c.in_ok-event-in-Event.event in
    let code = typed_code _ _ _ type.Event c.try_from.ensures c.in_ok-ok.ensures.value c.in-Event.is in
    some_of_type _ _ c.in_ok-header.header c.in_ok-header.ensures c.if-header-subscription.false 44 118 event_in (message_event _ _) code own.bytes.now _ (Event own) _ c.in_ok-event-in-Event.ensures c.then_some-in-Event.ensures (ap (λ b. when b (event (event_fields own.bytes.now))) c.is_good_event.ensures)

pub returns-in_ok-quote-in-Quote-clause-own : goal.returns-in_ok-quote-in-Quote-clause-own
returns-in_ok-quote-in-Quote-clause-own c =
    let h = header_is c.args.bytes.now c.in_ok-header.header c.in_ok-header.ensures in
    let own = (cut_some c.args.bytes.now 52 _ (ap (λ x. x.length) h) quote_in _ c.in_ok-quote-in-Quote.ensures).1 in
    handed_own c.args.bytes.now _ (Quote c.in_ok-quote-in-Quote.quote) _ c.then_some.ensures own
