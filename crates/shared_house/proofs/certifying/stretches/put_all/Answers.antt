use Rattle.std.proofs.Common.{◌∙◌, ◌++◌, [], ◌∷◌, sym, subst, take}
use Rattle.ocpi_types.specs.declared.config.Config.{Config}
use Rattle.plain_house.specs.declared.event.Event.{Event}
use Rattle.plain_house.specs.Legal.{IsLegal}
use Rattle.period_order.specs.EntryBooks.{Keep}
use Rattle.shared_house.proofs.StretchLemmas.{put_more, still_legal}
use Rattle.shared_house.proofs.certifying.stretches.put_all.Goals as goal

pub loop-event-preserved : goal.loop-event-preserved
loop-event-preserved c =
    let config = c.args.entry_books.now.config in
    let events = c.args.events.now in
    let i = c.loop-event.event-index in
    let event : Event = c.event-item.result in
    record {
      config = c.put.ensures.config ∙ c.loop-event.invariant.config;
      put = λ before kept legal.
          let given = still_legal c.legal_lists_begin_legally.ensures config before events i event c.loop-event-test.true c.event-item.is legal in
          subst (Keep c.put.new.self) (put_more before events i event c.loop-event-test.true c.event-item.is)
          (c.in_ok-put.ensures.put c.if-not-branch.false (before ++ take i events) (c.loop-event.invariant.put before kept legal)
          (subst (λ (own : Config). IsLegal own ((before ++ take i events) ++ event ∷ [])) (sym c.loop-event.invariant.config) given));
    }
