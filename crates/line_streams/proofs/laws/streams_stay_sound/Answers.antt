use Rattle.line_streams.proofs.StreamLemmas.{stays_sound}
use Rattle.line_streams.proofs.laws.streams_stay_sound.Goals as goal

pub returns : goal.returns
returns c = stays_sound c.commands_keep_lists_legal.ensures c.configurations_judge_for_themselves.ensures c.loosened_judges_wider.ensures
