-- What holds between steps is kept where a call collects a book.
use Rattle.std.proofs.Common.{◌≡◌, ℕ, Bool, true, false, if◌then◌else◌, List, [], ◌++◌, refl, sym, ap, subst, ◌∙◌, Option, None, Some, is_none, option_map, slice_get, slice_set, append-nil}
use Rattle.std.specs.Option.{option_and_then, option_map_or}
use Rattle.std.proofs.lemmas.Option.{same_Some, slice_get-map}
use Rattle.ocpi_types.specs.declared.config.Config.{Config}
use Rattle.ocpi_types.specs.declared.config.Operator.{Operator}
use Rattle.cdr_checks.specs.declared.request.Command.{Command}
use Rattle.netting_positions.specs.declared.obligation.Obligation.{Obligation}
use Rattle.plain_house.specs.declared.entry.BookEntry.{BookEntry}
use Rattle.plain_house.specs.declared.event.Event.{Event}
use Rattle.plain_house.specs.Entries.{book_entries}
use Rattle.plain_house.specs.Own.{own_book}
use Rattle.operator_book.specs.Laws.{SumsAreNoLarger}
use Rattle.period_order.specs.Dues.{DuesAreOfOwnBooks}
use Rattle.house_core.specs.declared.running_call.RunningCall.{RunningCall}
use Rattle.house_core.specs.declared.stage.Netting.{Netting}
use Rattle.house_core.specs.declared.stage.Stage.{Stage}
use Rattle.house_core.specs.declared.stage.Stage.TheVariants as stage
use Rattle.house_core.specs.declared.stage.Stating.{Stating}
use Rattle.house_core.specs.Calls.{due_in_account, due_in_book}
use Rattle.house_core.specs.Collections.{is_open, nets_with, rows_with, sums}
use Rattle.house_core.specs.Events.{whole_book}
use Rattle.house_core.specs.Inner.Collecting.{Fits, IsNetting, IsStating, IsWhole, owed_in, owed_to}
use Rattle.house_core.specs.Inner.Sound.{Holds, IsAt}
use Rattle.period_order.specs.Kept.{IsConfiguration}
use Rattle.house_core.specs.Locks.{Lock}
use Rattle.house_core.specs.Steps.{changed, collect_at, collected, of_call}
use Rattle.house_core.specs.World.{PlainWorld}
use Rattle.house_core.proofs.CollectingLemmas.{fits_more, own_sums, whole_more}
use Rattle.house_core.proofs.Keeping.{goes_on}
use Rattle.house_core.proofs.StepLemmas.{call_changed}

module _ (own_dues : DuesAreOfOwnBooks) (no_larger : SumsAreNoLarger) (config : Config) (is_config : IsConfiguration config) (commands : List Command) (events : List Event) (world : PlainWorld) (holds : Holds config commands events world)
    (number : ℕ) (book account : Option ℕ) (has_book has_account : Bool) (start : ℕ) where
  abbrev pub call_at : Stage → RunningCall
  call_at s = record { book = book; account = account; has_book = has_book; has_account = has_account; begin = start; stage = s }

  abbrev HoldsNow : PlainWorld → Type 0
  HoldsNow now = Holds config commands events now

  -- a call goes on to another stage in which it has nothing to put
  further : (s t : Stage) → slice_get world.calls number ≡ Some (call_at s)
      → due_in_book (call_at t) ≡ due_in_book (call_at s) → due_in_account (call_at t) ≡ due_in_account (call_at s)
      → ((own : Command) → IsAt config events own start s → IsAt config events own start t)
      → HoldsNow (changed world number (Some (of_call (call_at t))))
  further s t is for_book for_account on =
      subst HoldsNow (sym (call_changed world number (call_at t)))
      (goes_on config commands events world holds number (call_at s) (call_at t) is refl for_book refl for_account
      (λ own is_named known. record {
        admitted = known.admitted;
        book = known.book;
        account = known.account;
        bookless = known.bookless;
        accountless = known.accountless;
        at = on own known.at;
      }))

  module _ (at : ℕ) (operator : Operator) (lock : Lock BookEntry) (named : slice_get config.operators at ≡ Some operator) (here : slice_get world.books at ≡ Some lock) where
    -- a book that no call holds has all entries of its operator
    pub own_entries : lock.holder ≡ None → lock.entries ≡ own_book operator.party (book_entries events)
    own_entries free =
        same_Some lock.entries (own_book operator.party (book_entries events))
        (ap (λ l. Some l) (sym (ap (λ (h : Option ℕ). lock.entries ++ option_map_or due_in_book (option_and_then (slice_get world.calls) h) []) free ∙ append-nil lock.entries))
        ∙ sym (slice_get-map (whole_book world.calls) world.books at ∙ ap (option_map (whole_book world.calls)) here)
        ∙ ap (λ l. slice_get l at) holds.kept.books_are
        ∙ slice_get-map (λ (o : Operator). own_book o.party (book_entries events)) config.operators at
        ∙ ap (option_map (λ (o : Operator). own_book o.party (book_entries events))) named)

    its_sums : lock.holder ≡ None → (period : ℕ) → sums config operator period lock.entries ≡ owed_to config (owed_in period events) operator.party
    its_sums free period = ap (sums config operator period) (own_entries free) ∙ own_sums own_dues config period events operator

    with_sums : lock.holder ≡ None → (period : ℕ) (marks : List Bool) (obligations : List Obligation) → is_open marks at ≡ true
        → IsWhole config (owed_in period events) marks obligations
        → IsWhole config (owed_in period events) (slice_set marks at true) (obligations ++ sums config operator period lock.entries)
    with_sums free period marks obligations unread whole =
        subst (λ (l : List Obligation). IsWhole config (owed_in period events) (slice_set marks at true) (obligations ++ l)) (sym (its_sums free period))
        (whole_more config (owed_in period events) marks obligations at operator whole named unread)

    with_fits : lock.holder ≡ None → (period : ℕ) (marks : List Bool) (obligations : List Obligation) → is_open marks at ≡ true
        → Fits config (owed_in period events) marks obligations
        → Fits config (owed_in period events) (slice_set marks at true) (obligations ++ sums config operator period lock.entries)
    with_fits free period marks obligations unread fits =
        subst (λ (l : List Obligation). Fits config (owed_in period events) (slice_set marks at true) (obligations ++ l)) (sym (its_sums free period))
        (fits_more no_larger own_dues config is_config period events marks obligations at operator fits named unread)

    netting_more : lock.holder ≡ None → (netting : Netting) → is_open netting.collection.collected at ≡ true → (own : Command) → IsNetting config events own start netting
        → IsNetting config events own start (record netting { collection = nets_with at (sums config operator netting.period lock.entries) netting.collection })
    netting_more free netting unread own is = record {
      answered = is.answered;
      closed = is.closed;
      parties_are = is.parties_are;
      currencies_are = is.currencies_are;
      collected = with_sums free netting.period netting.collection.collected netting.collection.table.obligations unread is.collected;
      fits = with_fits free netting.period netting.collection.collected netting.collection.table.obligations unread is.fits;
    }

    stating_more : lock.holder ≡ None → (stating : Stating) → is_open stating.collection.collected at ≡ true → (own : Command) → IsStating config events own start stating
        → IsStating config events own start (record stating { collection = rows_with at (sums config operator stating.period lock.entries) stating.collection })
    stating_more free stating unread own is = record {
      answered = is.answered;
      closed = is.closed;
      parties_are = is.parties_are;
      currencies_are = is.currencies_are;
      collected = with_sums free stating.period stating.collection.collected stating.collection.table.obligations unread is.collected;
      fits = with_fits free stating.period stating.collection.collected stating.collection.table.obligations unread is.fits;
    }

    abbrev Goes : Stage → Option Stage → Type 0
    Goes s o = HoldsNow (changed world number (option_map (λ (t : Stage). of_call (record (call_at s) { stage = t })) o))

    of_netting : lock.holder ≡ None → (netting : Netting) → slice_get world.calls number ≡ Some (call_at (stage.Netting netting)) → (unread : Bool) → is_open netting.collection.collected at ≡ unread
        → Goes (stage.Netting netting) (if unread then Some (stage.Netting (record netting { collection = nets_with at (sums config operator netting.period lock.entries) netting.collection })) else None)
    of_netting free netting is false e = holds
    of_netting free netting is true e = further (stage.Netting netting) _ is refl refl (netting_more free netting e)

    of_stating : lock.holder ≡ None → (stating : Stating) → slice_get world.calls number ≡ Some (call_at (stage.Stating stating)) → (unread : Bool) → is_open stating.collection.collected at ≡ unread
        → Goes (stage.Stating stating) (if unread then Some (stage.Stating (record stating { collection = rows_with at (sums config operator stating.period lock.entries) stating.collection })) else None)
    of_stating free stating is false e = holds
    of_stating free stating is true e = further (stage.Stating stating) _ is refl refl (stating_more free stating e)

    by_stage : lock.holder ≡ None → (s : Stage) → slice_get world.calls number ≡ Some (call_at s) → Goes s (collected config at operator lock.entries s)
    by_stage free (stage.Waiting own) is = holds
    by_stage free (stage.Begun own) is = holds
    by_stage free (stage.Ordered carried) is = holds
    by_stage free (stage.Netting netting) is = of_netting free netting is (is_open netting.collection.collected at) refl
    by_stage free (stage.Stating stating) is = of_stating free stating is (is_open stating.collection.collected at) refl
    by_stage free stage.Ended is = holds

    by_lock : (s : Stage) → slice_get world.calls number ≡ Some (call_at s) → (h : Option ℕ) → lock.holder ≡ h
        → HoldsNow (changed world number (if is_none h then option_map (λ (t : Stage). of_call (record (call_at s) { stage = t })) (collected config at operator lock.entries s) else None))
    by_lock s is (Some h) e = holds
    by_lock s is None e = by_stage e s is

  pub collects_book : (at : ℕ) (s : Stage) → slice_get world.calls number ≡ Some (call_at s) → (operator : Option Operator) → slice_get config.operators at ≡ operator
      → (lock : Option (Lock BookEntry)) → slice_get world.books at ≡ lock → HoldsNow (changed world number (collect_at config at (call_at s) operator lock))
  collects_book at s is None named lock here = holds
  collects_book at s is (Some operator) named None here = holds
  collects_book at s is (Some operator) named (Some lock) here = by_lock at operator lock named here s is lock.holder refl
