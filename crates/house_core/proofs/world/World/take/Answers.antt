use Rattle.std.proofs.Common.{subst}
use Rattle.std.specs.Prelude.{OnOk}
use Rattle.house_core.specs.Inner.Ready.{shown}
use Rattle.house_core.specs.Inner.Steps.{EventsGo}
use Rattle.house_core.specs.World.{PlainWorld}
use Rattle.house_core.proofs.SoundLemmas.{events_go, sound_after}
use Rattle.house_core.proofs.world.World.take.Goals as goal

pub invariant_of-self : goal.invariant_of-self
invariant_of-self c = sound_after c.self.inside.parts c.take.new.self c.self.invariant c.take.ensures.ready c.steps_keep.ensures c.args.step c.take.result c.take.ensures.ok c.take.ensures.err

pub returns-clause-events : goal.returns-clause-events
returns-clause-events c =
    subst (λ (w : PlainWorld). OnOk c.take.result (EventsGo w (shown c.take.new.self) c.args.step.call)) c.self.view_is
    (events_go c.self.inside.parts c.take.new.self c.self.invariant c.steps_keep.ensures c.args.step c.take.result c.take.ensures.ok)
