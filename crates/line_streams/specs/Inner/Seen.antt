-- The state of a house and the lines that are remembered beside it.
use Rattle.ocpi_types.specs.declared.config.Config.{Config}
use Rattle.plain_house.specs.State.{State}
use Rattle.line_streams.specs.State.{StreamState, shown_house, shown_lines}
use Rattle.line_streams.specs.declared.answered.AnsweredLines.{AnsweredLines}

abbrev pub seen : Config → State → AnsweredLines → StreamState
seen config house answered = record { house = shown_house config house; remembered = shown_lines answered }
