use Rattle.std.proofs.Common.{◌≡◌, sym, subst, Bool, true, false}
use Rattle.ocpi_types.specs.declared.config.Config.{Config}
use Rattle.period_order.specs.Judging.{ConfigurationsJudgeForThemselves, MayJudge}
use Rattle.new_configuration.specs.Loosened.{LoosenedJudgesWider}
use Rattle.line_streams.specs.Inner.Base.{base_if}
use Rattle.line_streams.proofs.in_force.judges_commands.Goals as goal

judges : ConfigurationsJudgeForThemselves → LoosenedJudgesWider → (is_lowered : Bool) (config : Config) → MayJudge config (base_if is_lowered config)
judges itself wider true config = wider config
judges itself wider false config = itself config

pub returns : goal.returns
returns c =
    subst (MayJudge c.args.in_force.now.config) (sym c.requires)
    (judges c.configurations_judge_for_themselves.ensures c.loosened_judges_wider.ensures c.args.in_force.now.is_lowered c.args.in_force.now.config)
