-- No verdict is want of memory; a reply tells whether an event is added; it has few rows.
use Rattle.std.proofs.Common.{◌≡◌, ◌≤◌, ◌*◌, ℕ, suc, List, [], ◌∷◌, is_some, length, map, refl, ap, arith}
use Rattle.std.proofs.lemmas.List.{length-append}
use Rattle.ocpi_types.specs.declared.config.Config.{Config}
use Rattle.ocpi_types.specs.declared.party.Party.{Party}
use Rattle.netting_positions.specs.declared.obligation.Obligation.{Obligation}
use Rattle.netting_positions.specs.Laws.{StatementsAreShort}
use Rattle.netting_positions.specs.Netting.{net_positions, parties, position}
use Rattle.plain_house.specs.Known.{Known}
use Rattle.plain_house.specs.Laws.{RepliesAreShort, RepliesTellEvents, VerdictsAreTold, rows_of, tells_event}
use Rattle.plain_house.specs.LegalLists.{CanBeNetted}
use Rattle.plain_house.specs.Obligations.{obligations}
use Rattle.plain_house.specs.Replies.{IsTold}
use Rattle.plain_house.specs.Verdict.{Verdict}
use Rattle.plain_house.proofs.ReplyLemmas.{IsOfEach, is_so}

each_is_told : (config : Config) (known : Known) → IsOfEach config known (λ (verdict : Verdict). IsTold verdict.reply)
each_is_told config known = record {
  refused = λ why h at. h;
  unchanged = λ at. refl;
  blocked = λ at. refl;
  no_credit = λ over at. refl;
  repeated = λ amount period at. refl;
  tariff = λ tariff at. refl;
  token = λ token at. refl;
  allowed = λ hold at. refl;
  released = λ amount release at. refl;
  cdr = λ amount cdr cost at. refl;
  credit = λ amount cdr at. refl;
  closed = λ period at. refl;
  settled = λ amount settlement at. refl;
  exposure = λ holds debts limit at. refl;
  found = λ amount period credited at. refl;
  statement = λ ask at. refl;
}

pub verdicts_are_told : VerdictsAreTold
verdicts_are_told config known told = is_so config known (λ (verdict : Verdict). IsTold verdict.reply) (each_is_told config known) told

abbrev Tells : Verdict → Type 0
Tells verdict = is_some verdict.event ≡ tells_event verdict.reply

each_tells : (config : Config) (known : Known) → IsOfEach config known Tells
each_tells config known = record {
  refused = λ why h. refl;
  unchanged = refl;
  blocked = refl;
  no_credit = λ over. refl;
  repeated = λ amount period. refl;
  tariff = λ tariff. refl;
  token = λ token. refl;
  allowed = λ hold. refl;
  released = λ amount release. refl;
  cdr = λ amount cdr cost. refl;
  credit = λ amount cdr. refl;
  closed = λ period. refl;
  settled = λ amount settlement. refl;
  exposure = λ holds debts limit. refl;
  found = λ amount period credited. refl;
  statement = λ ask. refl;
}

pub tell_events : RepliesTellEvents
tell_events config known told = is_so config known Tells (each_tells config known) told

-- ---- rows

length_mapped : {X Y : Type 0} (f : X → Y) (xs : List X) → length (map f xs) ≡ length xs
length_mapped f [] = refl
length_mapped f (x ∷ xs) = ap suc (length_mapped f xs)

length_of_positions : (among : List Party) (currencies : List (List ℕ)) (owed : List Obligation) → length (net_positions among currencies owed) ≡ length currencies * length among
length_of_positions among [] owed = omega arith
length_of_positions among (currency ∷ currencies) owed =
    let first = map (position owed currency) among in
    let rest = net_positions among currencies owed in
    omega (arith, length-append first rest, length_mapped (position owed currency) among, length_of_positions among currencies owed)

module _ (law : StatementsAreShort) (config : Config) (known : Known) (netted : CanBeNetted config known.book) where
  abbrev most : ℕ
  most = length config.currencies * length (parties config)

  abbrev IsShort : Verdict → Type 0
  IsShort verdict = rows_of verdict.reply ≤ most

  no_rows : 0 ≤ most
  no_rows = omega arith

  each_is_short : IsOfEach config known IsShort
  each_is_short = record {
    refused = λ why h. no_rows;
    unchanged = no_rows;
    blocked = no_rows;
    no_credit = λ over. no_rows;
    repeated = λ amount period. no_rows;
    tariff = λ tariff. no_rows;
    token = λ token. no_rows;
    allowed = λ hold. no_rows;
    released = λ amount release. no_rows;
    cdr = λ amount cdr cost. no_rows;
    credit = λ amount cdr. no_rows;
    closed = λ period. omega (arith, length_of_positions (parties config) config.currencies (obligations period known.book));
    settled = λ amount settlement. no_rows;
    exposure = λ holds debts limit. no_rows;
    found = λ amount period credited. no_rows;
    statement = λ ask. law (parties config) config.currencies (obligations ask.period known.book) ask.party (netted.configured ask.period);
  }

pub are_short : StatementsAreShort → RepliesAreShort
are_short law config known told netted = is_so config known (IsShort law config known netted) (each_is_short law config known netted) told
