-- What a held book and a held account keep, and what a call returns.
use Rattle.std.proofs.Common.{◌≡◌, ℕ, ◌+◌, ◌≤◌, List, Bool, true, false, refl, sym, ap, ◌∙◌, subst, arith, length, Option, None, Some, is_some, Result, Ok, Err, if◌then◌else◌}
use Rattle.ocpi_types.specs.declared.config.Config.{Config}
use Rattle.ocpi_types.specs.declared.refusal.Refusal.{Refusal}
use Rattle.cdr_checks.specs.Admission.{IsAdmitted}
use Rattle.cdr_checks.specs.declared.request.Command.{Command}
use Rattle.operator_book.specs.State.{PlainBook}
use Rattle.provider_account.specs.State.{PlainAccount}
use Rattle.plain_house.specs.declared.answer.Answer.{Answer}
use Rattle.plain_house.specs.declared.entry.AccountEntry.{AccountEntry}
use Rattle.plain_house.specs.declared.entry.BookEntry.{BookEntry}
use Rattle.plain_house.specs.declared.event.Event.{Event}
use Rattle.plain_house.specs.House.{verdict}
use Rattle.plain_house.specs.Known.{Known}
use Rattle.plain_house.specs.Laws.{adds_event, tells_event}
use Rattle.plain_house.specs.LegalEntries.{IsLegalAccount, IsLegalBook}
use Rattle.plain_house.specs.Replies.{Reply, is_no_memory, stamped}
use Rattle.plain_house.specs.Verdict.{Verdict}
use Rattle.period_order.specs.declared.decided.Decided.{Decided}
use Rattle.period_order.specs.declared.decided.Outcome.{Outcome}
use Rattle.period_order.specs.declared.decided.Outcome.TheVariants as outcome
use Rattle.period_order.specs.Decided.{Decides, event_of, seen}
use Rattle.period_order.specs.Order.{PlainOrder, current_of, point_of}
use Rattle.shared_house.specs.Calls.{AreRead, IsAtLeast, event_count, is_collecting}
use Rattle.shared_house.specs.Counts.{total_of_account, total_of_book}
use Rattle.shared_house.specs.Locked.{IsCountedAccount, IsCountedBook, PlainShares, raised}
use Rattle.shared_house.specs.Inner.HouseLaws.{HouseLaws}
use Rattle.shared_house.specs.Inner.Outcomes.{account_with, book_with, reply_in, with_room}
use Rattle.shared_house.specs.Inner.Tallies.{tally_of, tally_of_event}
use Rattle.shared_house.specs.Inner.Told.{IsPlaced, IsRight}
use Rattle.shared_house.proofs.CountLemmas.{account_with_counted, account_with_summed, book_with_counted, book_with_summed, events_entry}
use Rattle.shared_house.proofs.DecidedLemmas.{entries_of, event_is, is_replied, others_of, verdict_is}

-- ---- legal entries

module _ (laws : HouseLaws) (config : Config) (told : Command) (admitted : IsAdmitted config told) (known : Known) where
  book_after : (e : Option Event) → (verdict config known told).event ≡ e → IsLegalBook config known.book → IsLegalBook config (book_with known.book known.period e)
  book_after None h legal = legal
  book_after (Some e) h legal = laws.books config known e legal (told, admitted, h)

  account_after : (e : Option Event) → (verdict config known told).event ≡ e → IsLegalAccount config known.account → IsLegalAccount config (account_with known.account known.period e)
  account_after None h legal = legal
  account_after (Some e) h legal = laws.accounts config known e legal (told, admitted, h)

-- ---- what is held

module _ (laws : HouseLaws) (config : Config) (told : Command) (admitted : IsAdmitted config told) (decided : Decided) where
  pub book_kept : (book : PlainBook) (account : Option PlainAccount) → IsPlaced config (Some book) account told decided → (old new : List BookEntry) (shares more : PlainShares)
      → book.entries ≡ old → new ≡ book_with book.entries decided.period (event_of decided.outcome) → IsCountedBook config old shares
      → Some more ≡ raised (Some shares) (tally_of decided.outcome).books (tally_of decided.outcome).amount → IsCountedBook config new more
  book_kept book account placed old new shares more same is keeps h =
      let event = event_of decided.outcome in
      let period = current_of placed.order in
      let known = seen book.entries (others_of account) (with_room placed.order) in
      let counts : more ≡ record { entries = shares.entries + (tally_of decided.outcome).books; amounts = shares.amounts + (tally_of decided.outcome).amount } = cc in
      let grown : new ≡ book_with old period event = is ∙ ap (λ n. book_with book.entries n event) placed.period_is ∙ ap (λ l. book_with l period event) same in
      let legal = book_after laws config told admitted known event (event_is laws config (with_room placed.order) told decided.outcome (Some book) account placed.decides) (subst (IsLegalBook config) (sym same) keeps.legal) in
      let long = ap length grown ∙ book_with_counted old period event in
      let sum = ap total_of_book grown ∙ book_with_summed old period event in
      record {
        legal = subst (IsLegalBook config) (ap (λ l. book_with l period event) same ∙ sym grown) legal;
        counted = omega (arith, keeps.counted, ap (λ (x : PlainShares). x.entries) counts, long);
        summed = omega (arith, keeps.summed, ap (λ (x : PlainShares). x.amounts) counts, sum);
      }

  pub account_kept : (book : Option PlainBook) (account : PlainAccount) → IsPlaced config book (Some account) told decided → (old new : List AccountEntry) (shares more : PlainShares)
      → account.entries ≡ old → new ≡ account_with account.entries decided.period (event_of decided.outcome) → IsCountedAccount config old shares
      → Some more ≡ raised (Some shares) (tally_of decided.outcome).accounts (tally_of decided.outcome).amount → IsCountedAccount config new more
  account_kept book account placed old new shares more same is keeps h =
      let event = event_of decided.outcome in
      let period = current_of placed.order in
      let known = seen (entries_of book) account.entries (with_room placed.order) in
      let counts : more ≡ record { entries = shares.entries + (tally_of decided.outcome).accounts; amounts = shares.amounts + (tally_of decided.outcome).amount } = cc in
      let grown : new ≡ account_with old period event = is ∙ ap (λ n. account_with account.entries n event) placed.period_is ∙ ap (λ l. account_with l period event) same in
      let legal = account_after laws config told admitted known event (event_is laws config (with_room placed.order) told decided.outcome book (Some account) placed.decides) (subst (IsLegalAccount config) (sym same) keeps.legal) in
      let long = ap length grown ∙ account_with_counted old period event in
      let sum = ap total_of_account grown ∙ account_with_summed old period event in
      record {
        legal = subst (IsLegalAccount config) (ap (λ l. account_with l period event) same ∙ sym grown) legal;
        counted = omega (arith, keeps.counted, ap (λ (x : PlainShares). x.entries) counts, long);
        summed = omega (arith, keeps.summed, ap (λ (x : PlainShares). x.amounts) counts, sum);
      }

-- ---- what is returned

at_stamped : (least point : ℕ) (reply : Result Answer Refusal) → least ≤ point → IsAtLeast least (stamped point reply)
at_stamped least point (Ok answer) h = h
at_stamped least point (Err refusal) h = h

adds_stamped : (point : ℕ) (reply : Result Answer Refusal) → adds_event (stamped point reply) ≡ tells_event reply
adds_stamped point (Ok answer) = refl
adds_stamped point (Err refusal) = refl

event_counted : (b : Bool) (e : Option Event) → b ≡ is_some e → (if b then 1 else 0) ≡ (tally_of_event e).events
event_counted true None h = absurd (cc)
event_counted false None h = refl
event_counted true (Some e) h = events_entry e
event_counted false (Some e) h = absurd (cc)

-- by what is known, a reply that is the verdict's
pub right : HouseLaws → (config : Config) (told : Command) (known : Known) (least : ℕ) (result : Reply) → least ≤ known.point
    → (is_collecting told ≡ false → IsLegalBook config known.book) → (is_collecting told ≡ true → AreRead config known.book) → IsLegalAccount config known.account
    → result ≡ stamped known.point (verdict config known told).reply
    → IsRight config told least (tally_of_event (verdict config known told).event).events result
right laws config told known least result le legal read others is = record {
  returns = record {
    told = λ h. record { known = known; book = legal; books = read; account = others; reply_is = is };
    refused = λ h. absurd (let x : true ≡ false = sym h ∙ ap is_no_memory is ∙ laws.told config known told known.point in cc);
    at = subst (IsAtLeast least) (sym is) (at_stamped least known.point (verdict config known told).reply le);
  };
  counted =
      ap event_count is
      ∙ event_counted (adds_event (stamped known.point (verdict config known told).reply)) (verdict config known told).event
      (adds_stamped known.point (verdict config known told).reply ∙ sym (laws.tell config known told));
}

module _ (laws : HouseLaws) (config : Config) (told : Command) (book : Option PlainBook) (account : Option PlainAccount) (order : PlainOrder) (point least : ℕ)
    (p : point ≡ point_of order) (le : least ≤ point) (legal : is_collecting told ≡ false → IsLegalBook config (entries_of book)) (read : is_collecting told ≡ true → AreRead config (entries_of book))
    (others : IsLegalAccount config (others_of account)) where
  -- a decision that leaves nothing to be collected
  pub returned : (outcome : Outcome) (result : Reply) → Decides config book account (with_room order) told outcome → (reply : Result Answer Refusal) → reply_in outcome ≡ Some reply
      → result ≡ stamped point reply → IsRight config told least (tally_of outcome).events result
  returned (outcome.Closed period) result decides reply replied is = absurd (cc)
  returned (outcome.Stated ask) result decides reply replied is = absurd (cc)
  returned (outcome.Replied found event) result decides reply replied is =
      let v = verdict_is laws config (with_room order) told (outcome.Replied found event) book account decides in
      let found_is : found ≡ reply = cc in
      let reply_is : reply ≡ (verdict config (seen (entries_of book) (others_of account) (with_room order)) told).reply = sym (ap (λ (x : Verdict). x.reply) v ∙ found_is) in
      let result_is = is ∙ ap (λ n. stamped n reply) p ∙ ap (stamped (point_of order)) reply_is in
      let is_right = right laws config told (seen (entries_of book) (others_of account) (with_room order)) least result (subst (λ n. least ≤ n) p le) legal read others result_is in
      record {
        returns = is_right.returns;
        counted = is_right.counted ∙ ap (λ (e : Option Event). (tally_of_event e).events) (ap (λ (x : Verdict). x.event) v);
      }

-- a command that collects nothing
pub replied : HouseLaws → (config : Config) (told : Command) (book : Option PlainBook) (account : Option PlainAccount) (decided : Decided) (least : ℕ) → IsPlaced config book account told decided
    → least ≤ decided.point → IsLegalBook config (entries_of book) → IsLegalAccount config (others_of account) → is_collecting told ≡ false → (result : Reply)
    → ((reply : Result Answer Refusal) → reply_in decided.outcome ≡ Some reply → result ≡ stamped decided.point reply)
    → IsRight config told least (tally_of decided.outcome).events result
replied laws config told book account decided least placed le legal others alone result is =
    by (reply_in decided.outcome) refl (is_replied told decided.outcome placed.decides.collects alone)
  where
    by : (o : Option (Result Answer Refusal)) → reply_in decided.outcome ≡ o → is_some o ≡ true → IsRight config told least (tally_of decided.outcome).events result
    by None e h = absurd (cc)
    by (Some reply) e h =
        returned laws config told book account placed.order decided.point least placed.point_is le (λ h. legal) (λ h. absurd (let x : true ≡ false = sym h ∙ alone in cc)) others
        decided.outcome result placed.decides reply e (is reply e)
