-- Legal books and accounts, one entry after another.
use Rattle.std.proofs.Common.{◌≡◌, ◌≤◌, ℕ, List, [], ◌∷◌, ◌++◌, false, refl, sym, subst, arith, append-nil, count_by, Option, None, Some}
use Rattle.ocpi_types.specs.declared.cdr.Cdr.{Cdr}
use Rattle.ocpi_types.specs.declared.config.Config.{Config}
use Rattle.ocpi_types.specs.declared.party.Party.{Party}
use Rattle.ocpi_types.specs.Party.{same_party}
use Rattle.cdr_checks.specs.Law.{PostsAreChecked}
use Rattle.cdr_checks.specs.declared.request.Command.{Command}
use Rattle.cdr_checks.specs.declared.request.Command.TheVariants as command
use Rattle.plain_house.specs.declared.entry.AccountEntry.{AccountEntry}
use Rattle.plain_house.specs.declared.entry.AccountEntry.TheVariants as account
use Rattle.plain_house.specs.declared.entry.BookEntry.{BookEntry}
use Rattle.plain_house.specs.declared.entry.BookEntry.TheVariants as book
use Rattle.plain_house.specs.declared.event.Event.{Event}
use Rattle.plain_house.specs.declared.event.Event.TheVariants as event
use Rattle.plain_house.specs.Entries.{account_entry, book_entry, charge_of, credit_of}
use Rattle.plain_house.specs.House.{hold_for}
use Rattle.plain_house.specs.Known.{Known}
use Rattle.plain_house.specs.Legal.{IsGivenBy}
use Rattle.plain_house.specs.LegalEntries.{EmptyEntriesAreLegal, EventsKeepAccountsLegal, EventsKeepBooksLegal, IsGivenToAccount, IsGivenToBook, IsLegalAccount, IsLegalBook, LegalAccountsBeginLegally, LegalAccountsHaveRoom, LegalAccountsKeepLimits, LegalBooksAreCharged, LegalBooksAreTakenBack, LegalBooksBeginLegally, LegalBooksCanBeNetted, LegalBooksHaveRoom}
use Rattle.plain_house.specs.LegalLists.{IsCharged, IsTakenBack, KeepsLimits}
use Rattle.plain_house.specs.Full.{is_account_full, is_entry_of}
use Rattle.plain_house.proofs.ChargeLemmas.{IsRight, is_right}
use Rattle.plain_house.proofs.EventLemmas.{Gives, GivesPost, event_has}
use Rattle.plain_house.proofs.GrownLemmas.{given_before, given_empty, given_push, grown}
use Rattle.plain_house.proofs.LimitsLemmas.{keeps_empty, keeps_given}
use Rattle.plain_house.proofs.NettingLemmas.{can_be_netted}
use Rattle.plain_house.proofs.OwnEntries.{entry_along}
use Rattle.plain_house.proofs.SoundLemmas.{AreSound, counted_one, sound_after, sound_empty}

-- ---- empty, and beginnings

pub empty_legal : EmptyEntriesAreLegal
unfolding IsLegalBook IsLegalAccount
empty_legal config = record { in_book = given_empty (IsGivenToBook config); in_account = given_empty (IsGivenToAccount config) }

pub books_begin_legally : LegalBooksBeginLegally
unfolding IsLegalBook
books_begin_legally config before later legal = given_before (IsGivenToBook config) before later legal

pub accounts_begin_legally : LegalAccountsBeginLegally
unfolding IsLegalAccount
accounts_begin_legally config before later legal = given_before (IsGivenToAccount config) before later legal

-- ---- one entry more

pub book_push : (config : Config) (entries : List BookEntry) (x : BookEntry) → IsLegalBook config entries → IsGivenToBook config entries x → IsLegalBook config (entries ++ x ∷ [])
unfolding IsLegalBook
book_push config entries x legal given = given_push (IsGivenToBook config) entries x legal given

pub account_push : (config : Config) (entries : List AccountEntry) (x : AccountEntry) → IsLegalAccount config entries → IsGivenToAccount config entries x → IsLegalAccount config (entries ++ x ∷ [])
unfolding IsLegalAccount
account_push config entries x legal given = given_push (IsGivenToAccount config) entries x legal given

-- an event that is this entry of the book
book_with : (config : Config) (known : Known) (e : Event) (x : BookEntry) → book_entry e known.period ≡ x ∷ [] → IsLegalBook config known.book → IsGivenBy config known e
    → IsLegalBook config (known.book ++ book_entry e known.period)
book_with config known e x kept legal given =
    subst (λ (new : List BookEntry). IsLegalBook config (known.book ++ new)) (sym kept)
    (book_push config known.book x legal (record { known = known; event = e; book_is = refl; given = given; kept = kept }))

pub book_as_is : (config : Config) (entries : List BookEntry) → IsLegalBook config entries → IsLegalBook config (entries ++ [])
book_as_is config entries legal = subst (IsLegalBook config) (sym (append-nil entries)) legal

pub book_after : EventsKeepBooksLegal
book_after config known (event.Tariff tariff) legal given = book_with config known (event.Tariff tariff) (book.Tariff tariff) refl legal given
book_after config known (event.Token token) legal given = book_as_is config known.book legal
book_after config known (event.Authorised hold) legal given = book_as_is config known.book legal
book_after config known (event.Released release) legal given = book_as_is config known.book legal
book_after config known (event.Cdr cdr cost) legal given = book_with config known (event.Cdr cdr cost) (book.Cdr cdr cost known.period) refl legal given
book_after config known (event.Credit cdr amount) legal given = book_with config known (event.Credit cdr amount) (book.Credit cdr amount known.period) refl legal given
book_after config known (event.Settled settlement) legal given = book_as_is config known.book legal
book_after config known (event.Closed period) legal given = book_as_is config known.book legal

account_with : (config : Config) (known : Known) (e : Event) (x : AccountEntry) → account_entry e known.period ≡ x ∷ [] → IsLegalAccount config known.account → IsGivenBy config known e
    → IsLegalAccount config (known.account ++ account_entry e known.period)
account_with config known e x kept legal given =
    subst (λ (new : List AccountEntry). IsLegalAccount config (known.account ++ new)) (sym kept)
    (account_push config known.account x legal (record { known = known; event = e; account_is = refl; given = given; kept = kept }))

pub account_as_is : (config : Config) (entries : List AccountEntry) → IsLegalAccount config entries → IsLegalAccount config (entries ++ [])
account_as_is config entries legal = subst (IsLegalAccount config) (sym (append-nil entries)) legal

pub account_after : EventsKeepAccountsLegal
account_after config known (event.Tariff tariff) legal given = account_as_is config known.account legal
account_after config known (event.Token token) legal given = account_with config known (event.Token token) (account.Token token) refl legal given
account_after config known (event.Authorised hold) legal given = account_with config known (event.Authorised hold) (account.Hold hold) refl legal given
account_after config known (event.Released release) legal given = account_with config known (event.Released release) (account.Release release) refl legal given
account_after config known (event.Cdr cdr cost) legal given =
    account_with config known (event.Cdr cdr cost) (account.Charge (charge_of cdr cost known.period)) refl legal given
account_after config known (event.Credit cdr amount) legal given =
    account_with config known (event.Credit cdr amount) (account.Credit (credit_of cdr amount known.period)) refl legal given
account_after config known (event.Settled settlement) legal given = account_with config known (event.Settled settlement) (account.Settlement settlement) refl legal given
account_after config known (event.Closed period) legal given = account_as_is config known.account legal

-- ---- what is true of legal entries

keeps_entry : (config : Config) (before : List AccountEntry) (x : AccountEntry) → IsGivenToAccount config before x → KeepsLimits config before → KeepsLimits config (before ++ x ∷ [])
keeps_entry config before x given keeps =
    let now = keeps_given config given.known (subst (KeepsLimits config) (sym given.account_is) keeps) given.given.0 given.event given.given.2 in
    subst (λ (entries : List AccountEntry). KeepsLimits config (entries ++ x ∷ [])) given.account_is
    (subst (λ (new : List AccountEntry). KeepsLimits config (given.known.account ++ new)) given.kept now)

pub account_keeps : (config : Config) (entries : List AccountEntry) → IsLegalAccount config entries → KeepsLimits config entries
unfolding IsLegalAccount
account_keeps config entries legal = grown (IsGivenToAccount config) (KeepsLimits config) (keeps_entry config) (keeps_empty config) entries legal

pub accounts_keep : LegalAccountsKeepLimits
accounts_keep config before later legal = account_keeps config before (accounts_begin_legally config before later legal)

module _ (config : Config) (known : Known) (room : (provider : Party) → count_by (is_entry_of provider) known.account ≤ config.limits.entries) where
  abbrev HasRoomAfter : Event → Type 0
  HasRoomAfter e = (provider : Party) → count_by (is_entry_of provider) (known.account ++ account_entry e known.period) ≤ config.limits.entries

  room_as_is : (provider : Party) → count_by (is_entry_of provider) (known.account ++ []) ≤ config.limits.entries
  room_as_is provider = subst (λ (entries : List AccountEntry). count_by (is_entry_of provider) entries ≤ config.limits.entries) (sym (append-nil known.account)) (room provider)

  room_with : (x : AccountEntry) (its : Party) → ((provider : Party) → is_entry_of provider x ≡ same_party its provider) → is_account_full config its known.account ≡ false
      → (provider : Party) → count_by (is_entry_of provider) (known.account ++ x ∷ []) ≤ config.limits.entries
  room_with x its is fits = counted_one is_entry_of config.limits.entries known.account x its is (λ a b same y. entry_along a b y same) fits room

  room_post : (cdr : Cdr) (cost : Option ℕ) → GivesPost config known HasRoomAfter cdr cost
  room_post cdr None = λ amount unknown taken cdrs fits. room_with (account.Credit (credit_of cdr amount known.period)) cdr.cdr_token.provider (λ provider. refl) fits
  room_post cdr (Some cost) = λ unknown registered cdrs fits within. room_with (account.Charge (charge_of cdr cost known.period)) cdr.cdr_token.provider (λ provider. refl) fits

  room_given : (told : Command) → Gives config known HasRoomAfter told
  room_given (command.PutTariff tariff) = λ fits. room_as_is
  room_given (command.PutToken token) = λ fits. room_with (account.Token token) token.provider (λ provider. refl) fits
  room_given (command.Authorize ask) = λ fits covered. room_with (account.Hold (hold_for config ask known.account)) ask.provider (λ provider. refl) fits
  room_given (command.Release release) = λ fits. room_with (account.Release release) release.provider (λ provider. refl) fits
  room_given (command.Post checked) = room_post checked.cdr checked.cost
  room_given (command.Close close) = λ current. room_as_is
  room_given (command.Settle settlement) = λ fits. room_with (account.Settlement settlement) settlement.provider (λ provider. refl) fits
  room_given (command.Exposure ask) = tt
  room_given (command.Find find) = tt
  room_given (command.Statement ask) = tt

  room_after : (e : Event) → IsGivenBy config known e → HasRoomAfter e
  room_after e added = event_has config known HasRoomAfter e added.0 (room_given added.0) added.2

abbrev HasAccountRoom : Config → List AccountEntry → Type 0
HasAccountRoom config entries = (provider : Party) → count_by (is_entry_of provider) entries ≤ config.limits.entries

room_entry : (config : Config) (before : List AccountEntry) (x : AccountEntry) → IsGivenToAccount config before x → HasAccountRoom config before → HasAccountRoom config (before ++ x ∷ [])
room_entry config before x given room =
    let now = room_after config given.known (subst (HasAccountRoom config) (sym given.account_is) room) given.event given.given in
    subst (λ (entries : List AccountEntry). HasAccountRoom config (entries ++ x ∷ [])) given.account_is
    (subst (λ (new : List AccountEntry). HasAccountRoom config (given.known.account ++ new)) given.kept now)

room_empty : (config : Config) → HasAccountRoom config []
room_empty config = λ provider. omega arith

pub accounts_have_room : LegalAccountsHaveRoom
unfolding IsLegalAccount
accounts_have_room config entries provider legal = grown (IsGivenToAccount config) (HasAccountRoom config) (room_entry config) (room_empty config) entries legal provider

sound_entry : PostsAreChecked → (config : Config) (before : List BookEntry) (x : BookEntry) → IsGivenToBook config before x → AreSound config before → AreSound config (before ++ x ∷ [])
sound_entry law config before x given sound =
    let now = sound_after law config given.known (subst (AreSound config) (sym given.book_is) sound) given.event given.given in
    subst (λ (entries : List BookEntry). AreSound config (entries ++ x ∷ [])) given.book_is
    (subst (λ (new : List BookEntry). AreSound config (given.known.book ++ new)) given.kept now)

pub book_sound : PostsAreChecked → (config : Config) (entries : List BookEntry) → IsLegalBook config entries → AreSound config entries
unfolding IsLegalBook
book_sound law config entries legal = grown (IsGivenToBook config) (AreSound config) (sound_entry law config) (sound_empty config) entries legal

pub books_have_room : PostsAreChecked → LegalBooksHaveRoom
books_have_room law config entries operator legal =
    let sound = book_sound law config entries legal in
    record { cdrs = sound.room operator; versions = sound.versions operator }

pub books_can_be_netted : PostsAreChecked → LegalBooksCanBeNetted
books_can_be_netted law config entries operators cdrs legal = can_be_netted config entries operators cdrs (book_sound law config entries legal)

-- what is so of what a book keeps of an event is so of the entry
module _ (config : Config) (before : List BookEntry) where
  -- what is so of an entry that books
  abbrev IsRightEntry : BookEntry → Type 0
  IsRightEntry (book.Tariff tariff) = Unit {0}
  IsRightEntry (book.Cdr cdr cost period) = IsCharged config before cdr cost
  IsRightEntry (book.Credit cdr amount period) = IsTakenBack config before period cdr amount

  one_is : (x y : BookEntry) → x ∷ [] ≡ y ∷ [] → IsRightEntry x → IsRightEntry y
  one_is x y same right = let is : x ≡ y = cc in subst IsRightEntry is right

  right_entry : (known : Known) (e : Event) (x : BookEntry) → known.book ≡ before → book_entry e known.period ≡ x ∷ [] → IsRight config known e → IsRightEntry x
  right_entry known (event.Tariff tariff) x is kept right = one_is (book.Tariff tariff) x kept tt
  right_entry known (event.Token token) x is kept right = absurd (cc)
  right_entry known (event.Authorised hold) x is kept right = absurd (cc)
  right_entry known (event.Released release) x is kept right = absurd (cc)
  right_entry known (event.Cdr cdr cost) x is kept right =
      one_is (book.Cdr cdr cost known.period) x kept (subst (λ (entries : List BookEntry). IsCharged config entries cdr cost) is right)
  right_entry known (event.Credit cdr amount) x is kept right =
      one_is (book.Credit cdr amount known.period) x kept (subst (λ (entries : List BookEntry). IsTakenBack config entries known.period cdr amount) is right)
  right_entry known (event.Settled settlement) x is kept right = absurd (cc)
  right_entry known (event.Closed period) x is kept right = absurd (cc)

  given_right : PostsAreChecked → (x : BookEntry) → IsGivenToBook config before x → IsRightEntry x
  given_right law x given = right_entry given.known given.event x given.book_is given.kept (is_right config given.known law given.event given.given)

pub books_are_charged : PostsAreChecked → LegalBooksAreCharged
unfolding IsLegalBook
books_are_charged law config before later cdr cost period legal =
    given_right config before law (book.Cdr cdr cost period) (legal before (book.Cdr cdr cost period) later refl)

pub books_are_taken_back : PostsAreChecked → LegalBooksAreTakenBack
unfolding IsLegalBook
books_are_taken_back law config before later credit amount period legal =
    given_right config before law (book.Credit credit amount period) (legal before (book.Credit credit amount period) later refl)
