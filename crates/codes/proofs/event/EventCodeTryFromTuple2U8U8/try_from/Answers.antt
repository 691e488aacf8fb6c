use Rattle.std.proofs.Common.{rules, sym, ap, ◌∙◌, arith}
use Rattle.std.proofs.lemmas.Bool.Decides.{nat_tests}
use Rattle.codes.specs.Codes.{event_code}
use Rattle.codes.proofs.Cases.{event_series, event_underlying, event_none, event_other}
use Rattle.codes.proofs.event.EventCodeTryFromTuple2U8U8.try_from.Goals as goal

pub returns-then-reset-eq82 : goal.returns-then-reset-eq82
returns-then-reset-eq82 c = let e = event_other c.args.codes.0 c.args.codes.1 (λ h. omega arith) in grind (arith, nat_tests)

pub returns-then-reset-ne67 : goal.returns-then-reset-ne67
returns-then-reset-ne67 c = let e = event_other c.args.codes.0 c.args.codes.1 c.if-reset-ne67.true in grind (arith, nat_tests)

pub returns-in-Ok : goal.returns-in-Ok
returns-in-Ok c = sym (ap (event_code c.args.codes.0) c.if-reset-ne67.false ∙ event_series c.args.codes.0 c.in-Ok.code (sym c.in-Ok.ensures))

pub returns-in_ok-try_from-in-Err : goal.returns-in_ok-try_from-in-Err
returns-in_ok-try_from-in-Err c = sym (ap (event_code c.args.codes.0) c.if-reset-ne67.false ∙ event_underlying c.args.codes.0 c.in_ok-try_from-in-Err.field-0 (sym c.in-Err.ensures) (sym c.in_ok-try_from-in-Err.ensures))

pub returns-in_err-try_from-in-Err : goal.returns-in_err-try_from-in-Err
returns-in_err-try_from-in-Err c = let e = event_none c.args.codes.0 (sym c.in-Err.ensures) in grind rules
