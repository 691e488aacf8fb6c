use Rattle.std.proofs.Common.{◌∙◌}
use Rattle.slots.proofs.Places.{moves_at}
use Rattle.slots.proofs.taking.offer.Goals as goal

pub returns-in-Some-clause-answer : goal.returns-in-Some-clause-answer
returns-in-Some-clause-answer g c =
    c.take.ensures.answer ∙ moves_at g.K.Kind.shows g.K.Kind.meaning _ c.args.slots.now c.in-Some.i c.index-slots-i.result c.in-Some.ensures
