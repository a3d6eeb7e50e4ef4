use Rattle.std.proofs.Common.{◌≡◌, rules, arith, map, sym, ◌∙◌, subst, vec_len, Vec, Global}
use Rattle.std.proofs.lemmas.List.Elements.{All-map}
use Rattle.ocpi_types.specs.declared.config.Config.{Config}
use Rattle.period_order.specs.Resolved.{entries_of_accounts, entries_of_books}
use Rattle.shared_house.specs.Certified.{IsCertified}
use Rattle.shared_house.specs.Finished.{IsFinished}
use Rattle.shared_house.specs.PassView.{PassView}
use Rattle.shared_house.specs.Points.{AreAdmitted, AreAllAdmitted}
use Rattle.shared_house.specs.declared.ended.Ended.{Ended}
use Rattle.shared_house.specs.declared.call.Call.{Call}
use Rattle.shared_house.proofs.FinishLemmas.{are_held, certified_alike, torn_alike}
use Rattle.shared_house.proofs.StandLemmas.{if_ok}
use Rattle.shared_house.proofs.house.locks.House.certified.Goals as goal

pub certified-requires : goal.certified-requires
certified-requires g c = (
  search rules,
  subst (λ (config : Config). AreAllAdmitted config (map (λ (pass : Vec Call Global). pass.items) c.in_ok-gathered.gathered.calls.items)) (sym c.into_parts-config.ensures.config)
      (All-map (AreAdmitted g.N.BookEntries.Configured.config) (λ (pass : Vec Call Global). pass.items) c.in_ok-gathered.gathered.calls.items c.in_ok-gathered.ensures.admitted),
)

pub returns-clause-ok : goal.returns-clause-ok
returns-clause-ok g c =
    let left = c.in_ok-gathered.gathered in
    let all = c.in_ok-gathered.ensures in
    let config = g.N.BookEntries.Configured.config in
    let every : vec_len c.args.passes ≡ g.N.Events.Part.all = omega (arith, all.no_others, c.requires.all) in
    if_ok c.certified.result
    (λ (ended : Ended). IsCertified c.into_parts-config.result.0 (entries_of_books left.books.items) (entries_of_accounts left.accounts.items) left.entries.items (map (λ (pass : Vec Call Global). pass.items) left.calls.items) ended.events.items)
    (λ (ended : Ended). IsFinished config _ ended.events.items)
    (λ ended is. record {
      books = entries_of_books left.books.items;
      accounts = entries_of_accounts left.accounts.items;
      order = left.entries.items;
      held = are_held config (map (λ (pass : PassView). pass.calls) c.args.passes.items) left.books.items left.accounts.items left.entries.items left.calls.items (sym left.books.ok.0 ∙ all.each.0)
          (sym left.accounts.ok.0 ∙ all.each.1) all.legal_books all.legal_accounts all.books all.accounts all.amounts (omega (arith, all.bounded, left.entries.ok.0))
          (sym left.entries.ok.0 ∙ all.events every) all.calls all.admitted;
      certified = certified_alike c.into_parts-config.result.0 config left.books.items left.accounts.items left.entries.items _ _ c.into_parts-config.ensures.config all.calls ended.events.items is;
    })
    c.certified.ensures.ok

pub returns-clause-torn : goal.returns-clause-torn
returns-clause-torn g c = λ entry is.
    let left = c.in_ok-gathered.gathered in
    let all = c.in_ok-gathered.ensures in
    let config = g.N.BookEntries.Configured.config in
    let every : vec_len c.args.passes ≡ g.N.Events.Part.all = omega (arith, all.no_others, c.requires.all) in
    record {
      books = entries_of_books left.books.items;
      accounts = entries_of_accounts left.accounts.items;
      order = left.entries.items;
      held = are_held config (map (λ (pass : PassView). pass.calls) c.args.passes.items) left.books.items left.accounts.items left.entries.items left.calls.items (sym left.books.ok.0 ∙ all.each.0)
          (sym left.accounts.ok.0 ∙ all.each.1) all.legal_books all.legal_accounts all.books all.accounts all.amounts (omega (arith, all.bounded, left.entries.ok.0))
          (sym left.entries.ok.0 ∙ all.events every) all.calls all.admitted;
      torn = torn_alike c.into_parts-config.result.0 config left.books.items left.accounts.items left.entries.items _ _ c.into_parts-config.ensures.config all.calls entry (c.certified.ensures.torn entry is);
    }
