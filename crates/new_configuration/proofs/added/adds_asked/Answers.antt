use Rattle.new_configuration.proofs.AddedLemmas.{asked_otherwise}
use Rattle.new_configuration.proofs.added.adds_asked.Goals as goal

pub returns-in_ok-added-in-Some-clause-otherwise : goal.returns-in_ok-added-in-Some-clause-otherwise
returns-in_ok-added-in-Some-clause-otherwise c =
    asked_otherwise c.args.platforms.now c.args.house.now.config c.requires c.args.house.now.events c.args.event.now c.args.asked c.in-Some.command c.in-Some.ensures.some _
    c.in_ok-added-in-Some.ensures.added
