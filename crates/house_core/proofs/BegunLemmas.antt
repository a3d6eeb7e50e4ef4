-- A call that begins.
use Rattle.std.proofs.Common.{◌≡◌, ℕ, sym, ◌∙◌, length, Option, None, Some, option_map, slice_get}
use Rattle.cdr_checks.specs.declared.request.Command.{Command}
use Rattle.house_core.specs.declared.running_call.RunningCall.{RunningCall}
use Rattle.house_core.specs.declared.stage.Stage.TheVariants as stage
use Rattle.house_core.specs.declared.step.Action.TheVariants as action
use Rattle.house_core.specs.Calls.{waiting}
use Rattle.house_core.specs.Inner.Moves.{begun_call, begun_when}
use Rattle.house_core.specs.Steps.{changed, of_call, step}
use Rattle.house_core.specs.World.{PlainWorld}
use Rattle.house_core.proofs.StepLemmas.{call_changed, same_call, stepped, with_call}

pub begun_world : (world : PlainWorld) (number : ℕ) (call : RunningCall) → slice_get world.calls number ≡ Some call
    → with_call world number (begun_call (length world.order) call) ≡ step world (record { call = number; action = action.Begin })
begun_world world number call is = by (waiting call.stage) ∙ sym (stepped world number call action.Begin is)
  where
    by : (o : Option Command) → with_call world number (begun_when (length world.order) call o)
        ≡ changed world number (option_map (λ (command : Command). of_call (record call { begin = length world.order; stage = stage.Begun command })) o)
    by None = sym (same_call world number call is)
    by (Some command) = sym (call_changed world number (record call { begin = length world.order; stage = stage.Begun command }))
