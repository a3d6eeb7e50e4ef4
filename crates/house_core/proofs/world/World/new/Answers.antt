use Rattle.std.proofs.Common.{ap}
use Rattle.house_core.proofs.SoundLemmas.{sound_first}
use Rattle.house_core.proofs.world.World.new.Goals as goal

pub invariant_of-result : goal.invariant_of-result
invariant_of-result c =
    sound_first c.steps_keep.ensures c.args.config.now c.args.commands.items (record {
      distinct = c.is_configuration.ensures.distinct;
      currencies = c.is_configuration.ensures.currencies;
      operators = c.is_configuration.ensures.operators;
      cdrs = c.is_configuration.ensures.cdrs;
    }) c.requires.admitted _
    (λ i. record {
      config = c.in_ok-config.ensures i;
      books = c.in_ok-books.ensures i;
      accounts = c.in_ok-accounts.ensures i;
      order = ap (λ o. o.entries) c.new.ensures i;
      calls = c.in_ok-calls.ensures i;
    })
