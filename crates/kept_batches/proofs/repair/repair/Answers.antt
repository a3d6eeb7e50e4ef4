use Rattle.kept_batches.proofs.Repairs.{on_ok, torn_repaired, torn_alike, unmarked_repaired, unmarked_alike, unbegun_repaired, unbegun_alike}
use Rattle.kept_batches.proofs.repair.repair.Goals as goal

pub returns-in-Torn-clause-file : goal.returns-in-Torn-clause-file
returns-in-Torn-clause-file g c = on_ok c.cut_torn.result (torn_repaired _ c.args.place c.args.end c.in-Torn.is _) c.cut_torn.ensures.file

pub returns-in-Torn-clause-any_moment : goal.returns-in-Torn-clause-any_moment
returns-in-Torn-clause-any_moment g c = torn_alike _ c.args.place c.args.end c.in-Torn.is _ c.cut_torn.ensures.any_moment

pub returns-in-Unmarked-clause-file : goal.returns-in-Unmarked-clause-file
returns-in-Unmarked-clause-file g c = on_ok c.open_again.result (unmarked_repaired _ c.args.place c.args.end c.in-Unmarked.mark c.in-Unmarked.first_is_shut c.in-Unmarked.is _) c.open_again.ensures.file

pub returns-in-Unmarked-clause-any_moment : goal.returns-in-Unmarked-clause-any_moment
returns-in-Unmarked-clause-any_moment g c = unmarked_alike _ c.args.place c.args.end c.in-Unmarked.mark c.in-Unmarked.first_is_shut c.in-Unmarked.is _ c.open_again.ensures.any_moment

pub returns-in-Unbegun-clause-file : goal.returns-in-Unbegun-clause-file
returns-in-Unbegun-clause-file g c = on_ok c.write_first_mark.result (unbegun_repaired _ c.args.place c.args.end c.in-Unbegun.is _) c.write_first_mark.ensures.file

pub returns-in-Unbegun-clause-any_moment : goal.returns-in-Unbegun-clause-any_moment
returns-in-Unbegun-clause-any_moment g c = unbegun_alike _ c.args.place c.args.end c.in-Unbegun.is _ c.write_first_mark.ensures.any_moment
