use Rattle.std.proofs.Common.{sym, ◌∙◌, arith, rules}
use Rattle.std.proofs.lemmas.Bool.Decides.{nat_tests}
use Rattle.messages.proofs.Verdicts.{header_is}
use Rattle.feed.specs.Packets.{header_verdict}
use Rattle.feed.proofs.packet.Header.read.Goals as goal

pub returns-then-not-is_good_length : goal.returns-then-not-is_good_length
unfolding header_verdict
returns-then-not-is_good_length c = search rules

pub returns-then-raw-subscription : goal.returns-then-raw-subscription
unfolding header_verdict
returns-then-raw-subscription c = let h = header_is c.args.bytes.now c.in_ok-raw.raw (sym c.in_ok-raw.ensures.ok_part ∙ c.read.ensures) in search rules

pub returns-then-not-is_good_number : goal.returns-then-not-is_good_number
unfolding header_verdict
returns-then-not-is_good_number c = search rules

pub returns : goal.returns
unfolding header_verdict
returns c = search rules

pub returns-in_err-raw : goal.returns-in_err-raw
unfolding header_verdict
returns-in_err-raw c = grind (arith, nat_tests)

pub returns-in_err-kind-clause-verdict : goal.returns-in_err-kind-clause-verdict
unfolding header_verdict
returns-in_err-kind-clause-verdict c = let h = header_is c.args.bytes.now c.in_ok-raw.raw (sym c.in_ok-raw.ensures.ok_part ∙ c.read.ensures) in search rules
