-- The event of the cause of a CDR with a tariff that is stored with other content gives it.
use Rattle.std.proofs.Common.{◌≡◌, ◌∙◌, ◌<◌, ◌⊎◌, inl, inr, ◌==◌, ℕ, ◌+◌, suc, List, [], ◌∷◌, ◌++◌, Bool, true, false, not, ◌&&◌, ◌||◌, cond, if◌then◌else◌, Option, Some, None, Ok, Err, refl, sym, ap, subst, arith, append_assoc, drop, find, is_none, is_some, length, slice_get, take}
use Rattle.std.specs.Cmp.Lexicographic.{pointwise}
use Rattle.std.specs.List.{list_any, position, position_from}
use Rattle.std.specs.Ordering.{int_eq}
use Rattle.std.proofs.lemmas.Bool.{not-false, not-true}
use Rattle.std.proofs.lemmas.Iterator.Adapters.{position_from-zero}
use Rattle.std.proofs.lemmas.List.Folds.{list_any-append}
use Rattle.ocpi_json.specs.Folded.{folded, same_folded}
use Rattle.ocpi_json.specs.declared.name.Name.TheVariants as name
use Rattle.ocpi_json.specs.declared.name.Name.{Name}
use Rattle.ocpi_types.specs.ContentDifference.{TariffsWithoutDifferenceAreSame, difference_of_tariffs}
use Rattle.ocpi_types.specs.Party.{same_party}
use Rattle.ocpi_types.specs.SameTariff.{SameTariffsAreEqualFolded, folded_tariff, same_tariff}
use Rattle.ocpi_types.specs.declared.config.Config.{Config}
use Rattle.ocpi_types.specs.declared.party.Party.{Party}
use Rattle.ocpi_types.specs.declared.refusal.Refusal.TheVariants as refusal
use Rattle.ocpi_types.specs.declared.refusal.Store.TheVariants as store
use Rattle.ocpi_types.specs.declared.tariff.Tariff.{Tariff}
use Rattle.cdr_checks.specs.Place.{in_item, inside}
use Rattle.cdr_checks.specs.Checked.{Checked}
use Rattle.cdr_checks.specs.declared.request.Command.{Command}
use Rattle.cdr_checks.specs.declared.request.Command.TheVariants as command
use Rattle.plain_house.specs.Entries.{book_entries, book_entry}
use Rattle.plain_house.specs.Full.{are_versions_full, first_full, is_order_full}
use Rattle.plain_house.specs.Happened.{registers, stores}
use Rattle.plain_house.specs.House.{stored_already, verdict}
use Rattle.plain_house.specs.Inner.Scanned.{version_of_event}
use Rattle.plain_house.specs.Known.{Known, known}
use Rattle.plain_house.specs.Legal.{IsGivenBy, IsLegal}
use Rattle.plain_house.specs.Tariffs.{lacks_registered, same_version, stored_version, tariff_versions}
use Rattle.plain_house.specs.Verdict.{accepts, refused_at, unless}
use Rattle.plain_house.specs.declared.answer.Answer.TheVariants as answer
use Rattle.plain_house.specs.declared.event.Event.{Event}
use Rattle.plain_house.specs.declared.event.Event.TheVariants as event
use Rattle.plain_house.proofs.EntriesLemmas.{registered_in_events, versions_in_events}
use Rattle.plain_house.proofs.EventLemmas.{Gives, GivesPost, event_has}
use Rattle.plain_house.proofs.SameScope.{both_are}
use Rattle.plain_house.proofs.VerdictLemmas.{unless_event}
use Rattle.operator_book.proofs.FoundLemmas.{found}
use Rattle.operator_book.proofs.KeyLemmas.{or_false}
use Rattle.house_causes.specs.Causes.{cause_of}
use Rattle.house_causes.specs.First.{◌>>=◌, Numbered}
use Rattle.house_causes.specs.HouseCause.{cause_at}
use Rattle.house_causes.specs.Laws.{IsGivenByVersion, LacksEarlier, cause_after, said_by_house}
use Rattle.house_causes.specs.Versions.{not_registered, not_stored, stored_difference, tariff_at, version_conflict, why_unregistered}
use Rattle.house_causes.specs.declared.house_cause.HouseCause.{HouseCause}
use Rattle.house_causes.specs.declared.house_cause.HouseReason.TheVariants as reason
use Rattle.house_causes.proofs.BeginningLemmas.{neither, none_booked, other_any}
use Rattle.house_causes.proofs.DifferenceLemmas.{difference_by, difference_from, find_passes, only_version, version_test}
use Rattle.house_causes.proofs.FirstLemmas.{first_at, has_place, passes_at, slice_get-suc}
use Rattle.house_causes.proofs.NamedLemmas.{given_there, no_event, tariff_named}
use Rattle.house_causes.proofs.PostLemmas.{Lacks, lacks_reply}
use Rattle.house_causes.proofs.PrefixLemmas.{Parts, any_first, first_parts, no_first, none_first, same_first}
use Rattle.house_causes.proofs.ReplyLemmas.{refused_so}
use Rattle.house_causes.proofs.SaidLemmas.{causes_say}

-- ---- the first item that passes a weaker test

-- an item before the first that passes a test
record Earlier {E : Type 0} (p q : E → Bool) (n : ℕ) (xs : List E) (k : ℕ) : Type 0 where
  at : ℕ
  less : at < k
  item : E
  stands : slice_get xs at ≡ Some item
  fails : p item ≡ false
  first : position_from q n xs ≡ Some (n + at)

module _ {E : Type 0} (p q : E → Bool) (weaker : (x : E) → p x ≡ true → q x ≡ true) where
  weaker_from : (n : ℕ) (xs : List E) (m : ℕ) → position_from p n xs ≡ Some m
      → (k : ℕ) × (m ≡ n + k) × ((position_from q n xs ≡ Some m) ⊎ Earlier p q n xs k)
  weaker_from n [] m h = absurd (cc)
  weaker_from n (x ∷ xs) m h = by (p x) refl (q x) refl h (weaker_from (n + 1) xs m)
    where
      later : (k : ℕ) → q x ≡ false → m ≡ n + 1 + k → (position_from q (n + 1) xs ≡ Some m) ⊎ Earlier p q (n + 1) xs k
          → (position_from q n (x ∷ xs) ≡ Some m) ⊎ Earlier p q n (x ∷ xs) (suc k)
      later k bad is (inl same) = inl (ap (λ b. cond b (Some n) (position_from q (n + 1) xs)) bad ∙ same)
      later k bad is (inr it) =
          let counted : n + 1 + it.at ≡ n + suc it.at = omega arith in
          let fewer : suc it.at < suc k = (let less = it.less in omega (arith, less)) in
          inr (record {
            at = suc it.at;
            less = fewer;
            item = it.item;
            stands = slice_get-suc x xs it.at ∙ it.stands;
            fails = it.fails;
            first = ap (λ b. cond b (Some n) (position_from q (n + 1) xs)) bad ∙ it.first ∙ ap (λ (i : ℕ). Some i) counted;
          })

      by : (b : Bool) → p x ≡ b → (c : Bool) → q x ≡ c → cond b (Some n) (position_from p (n + 1) xs) ≡ Some m
          → (position_from p (n + 1) xs ≡ Some m → (k : ℕ) × (m ≡ n + 1 + k) × ((position_from q (n + 1) xs ≡ Some m) ⊎ Earlier p q (n + 1) xs k))
          → (k : ℕ) × (m ≡ n + k) × ((position_from q n (x ∷ xs) ≡ Some m) ⊎ Earlier p q n (x ∷ xs) k)
      by true good c also is rest =
          let same : n ≡ m = cc in (
            0,
            omega arith,
            inl (ap (λ b. cond b (Some n) (position_from q (n + 1) xs)) (weaker x good) ∙ ap (λ (i : ℕ). Some i) same),
          )
      by false bad true also is rest =
          let (k, counted, it) = rest is in
          let here : n ≡ n + 0 = omega arith in (
            suc k,
            omega arith,
            inr (record {
              at = 0;
              less = omega arith;
              item = x;
              stands = refl;
              fails = bad;
              first = ap (λ b. cond b (Some n) (position_from q (n + 1) xs)) also ∙ ap (λ (i : ℕ). Some i) here;
            }),
          )
      by false bad false also is rest =
          let (k, counted, it) = rest is in
          (suc k, omega arith, later k also counted it)

  weaker_first : (xs : List E) (m : ℕ) → position p xs ≡ Some m → (position q xs ≡ Some m) ⊎ Earlier p q 0 xs m
  weaker_first xs m h =
      let (k, is, it) = weaker_from 0 xs m (sym (position_from-zero p xs) ∙ h) in
      let same : k ≡ m = omega arith in
      by (subst (λ (i : ℕ). (position_from q 0 xs ≡ Some m) ⊎ Earlier p q 0 xs i) same it)
    where
      by : (position_from q 0 xs ≡ Some m) ⊎ Earlier p q 0 xs m → (position q xs ≡ Some m) ⊎ Earlier p q 0 xs m
      by (inl it) = inl (position_from-zero q xs ∙ it)
      by (inr it) = inr it

-- ---- a version is stored once

abbrev IsPutOf : Command → Event → Type 0
IsPutOf done (event.Tariff tariff) = done ≡ command.PutTariff tariff
IsPutOf done (event.Token token) = Unit {0}
IsPutOf done (event.Authorised hold) = Unit {0}
IsPutOf done (event.Released release) = Unit {0}
IsPutOf done (event.Cdr cdr cost) = Unit {0}
IsPutOf done (event.Credit cdr amount) = Unit {0}
IsPutOf done (event.Settled settlement) = Unit {0}
IsPutOf done (event.Closed period) = Unit {0}

put_of : (config : Config) (known : Known) (done : Command) → Gives config known (IsPutOf done) done
put_of config known (command.PutTariff tariff) = λ room. refl
put_of config known (command.PutToken token) = λ room. tt
put_of config known (command.Authorize ask) = λ room covered. tt
put_of config known (command.Release release) = λ room. tt
put_of config known (command.Post checked) = by checked.cost
  where
    by : (cost : Option ℕ) → GivesPost config known (IsPutOf (command.Post checked)) checked.cdr cost
    by None = λ amount unknown taken room account. tt
    by (Some cost) = λ unknown registered room account within. tt
put_of config known (command.Close close) = λ current. tt
put_of config known (command.Settle settlement) = λ room. tt
put_of config known (command.Exposure ask) = tt
put_of config known (command.Find find) = tt
put_of config known (command.Statement ask) = tt

not_stored_yet : (tariff : Tariff) (stored : Option Tariff) → stored_already tariff stored ≡ None → stored ≡ None
not_stored_yet tariff None h = refl
not_stored_yet tariff (Some stored) h = absurd (cc)

new_version : (config : Config) (known : Known) (tariff : Tariff) → IsGivenBy config known (event.Tariff tariff) → stored_version tariff known.book ≡ None
new_version config known tariff (done, admitted, adds) =
    let is : done ≡ command.PutTariff tariff = event_has config known (IsPutOf done) (event.Tariff tariff) done (put_of config known done) adds in
    let added = ap (λ (it : Command). (verdict config known it).event) (sym is) ∙ adds in
    not_stored_yet tariff (stored_version tariff known.book) (unless_event
    (stored_already tariff (stored_version tariff known.book)
    ∷ refused_at (first_full ((store.Tariffs, are_versions_full config tariff.operator known.book) ∷ (store.Order, is_order_full config known.point) ∷ []))
    ∷ []) (accepts answer.Stored (event.Tariff tariff)) (event.Tariff tariff) added).0.0

-- no event stores a version that is not stored
none_stores : (tariff : Tariff) (events : List Event) → stored_version tariff (book_entries events) ≡ None → list_any (stores tariff) events ≡ false
none_stores tariff events none = by (list_any (stores tariff) events) refl
  where
    is_version : Tariff → Bool
    is_version version = same_version version tariff

    at_place : (place : Option ℕ) → position (stores tariff) events ≡ place → is_some place ≡ true → list_any (stores tariff) events ≡ false
    at_place None is some = absurd (cc)
    at_place (Some at) is some =
        let it = found version_of_event is_version (stores tariff) (version_test tariff) events at (sym (position_from-zero (stores tariff) events) ∙ is) in
        let e : None ≡ Some it.one = sym none ∙ ap (find is_version) (versions_in_events events) ∙ it.first in
        absurd (cc)

    by : (b : Bool) → list_any (stores tariff) events ≡ b → list_any (stores tariff) events ≡ false
    by false is = is
    by true is = at_place (position (stores tariff) events) refl (has_place (stores tariff) events is)

-- what stores a version depends on the folded texts alone
abbrev is_version_by : Tariff → Tariff → Bool
is_version_by folded_one version =
    (pointwise ◌==◌ (folded version.operator.country_code) folded_one.operator.country_code && pointwise ◌==◌ (folded version.operator.party_id) folded_one.operator.party_id)
    && pointwise ◌==◌ (folded version.id) folded_one.id && int_eq version.last_updated.nanosecond folded_one.last_updated.nanosecond

stores_along : SameTariffsAreEqualFolded → (a b : Tariff) (events : List Event) → same_tariff a b ≡ true → list_any (stores a) events ≡ list_any (stores b) events
stores_along equal a b events h =
    ap (λ (one : Tariff). list_any (λ e. list_any (is_version_by one) (tariff_versions (book_entry e 0))) events) ((equal a b).0 h)

operator_along : SameTariffsAreEqualFolded → (version tariff : Tariff) (operator : Party) → same_tariff version tariff ≡ true → same_party version.operator operator ≡ true
    → same_party tariff.operator operator ≡ true
operator_along equal version tariff operator same its =
    let one : folded_tariff version ≡ folded_tariff tariff = (equal version tariff).0 same in
    sym (ap (λ (one : Tariff). pointwise ◌==◌ one.operator.country_code (folded operator.country_code) && pointwise ◌==◌ one.operator.party_id (folded operator.party_id)) one) ∙ its

-- the event stores a version of the operator with the content of the tariff
record Registered (operator : Party) (tariff : Tariff) (e : Event) : Type 0 where
  version : Tariff
  is : e ≡ event.Tariff version
  its : same_party version.operator operator ≡ true
  same : same_tariff version tariff ≡ true

registered : (operator : Party) (tariff : Tariff) (e : Event) → registers operator tariff e ≡ true → Registered operator tariff e
registered operator tariff (event.Tariff version) h =
    let parts = both_are (same_party version.operator operator) (same_tariff version tariff) (sym (or_false (same_party version.operator operator && same_tariff version tariff)) ∙ h) in
    record { version = version; is = refl; its = parts.0; same = parts.1 }
registered operator tariff (event.Token token) h = absurd (cc)
registered operator tariff (event.Authorised hold) h = absurd (cc)
registered operator tariff (event.Released release) h = absurd (cc)
registered operator tariff (event.Cdr cdr cost) h = absurd (cc)
registered operator tariff (event.Credit cdr amount) h = absurd (cc)
registered operator tariff (event.Settled settlement) h = absurd (cc)
registered operator tariff (event.Closed period) h = absurd (cc)

module _ (equal : SameTariffsAreEqualFolded) (base : Config) (events before later : List Event) (legal : IsLegal base events) (whole : events ≡ before ++ later)
    (operator : Party) (tariff : Tariff) (any : list_any (registers operator tariff) later ≡ true) where
  registered_later : (place : ℕ) → position (registers operator tariff) later ≡ Some place
      → (list_any (stores tariff) before ≡ false) × (same_party tariff.operator operator ≡ true)
  registered_later place first =
      let it = first_parts (registers operator tariff) later place first in
      let one = registered operator tariff it.parts.item it.passes in
      let upto = before ++ take place later in
      let split : events ≡ upto ++ event.Tariff one.version ∷ drop (place + 1) later =
      whole ∙ ap (λ (l : List Event). before ++ l) (it.parts.whole ∙ ap (λ (e : Event). take place later ++ e ∷ drop (place + 1) later) one.is)
      ∙ sym (append_assoc before (take place later) (event.Tariff one.version ∷ drop (place + 1) later)) in
      let given = given_there base upto (drop (place + 1) later) (event.Tariff one.version) events legal split in
      let none : list_any (stores one.version) upto ≡ false = none_stores one.version upto (new_version base (known upto) one.version given) in
      let none_before = (neither (list_any (stores one.version) before) (list_any (stores one.version) (take place later))
      (sym (list_any-append (stores one.version) before (take place later)) ∙ none)).0 in
      (sym (stores_along equal one.version tariff before one.same) ∙ none_before, operator_along equal one.version tariff operator one.same one.its)

  -- a tariff that a later event registers is of the operator, and no version of it is stored before
  stored_later : (list_any (stores tariff) before ≡ false) × (same_party tariff.operator operator ≡ true)
  stored_later = by (position (registers operator tariff) later) refl (has_place (registers operator tariff) later any)
    where
      by : (place : Option ℕ) → position (registers operator tariff) later ≡ place → is_some place ≡ true
          → (list_any (stores tariff) before ≡ false) × (same_party tariff.operator operator ≡ true)
      by None is some = absurd (cc)
      by (Some place) is some = registered_later place is

-- ---- a version with other content

abbrev named_by : ℕ → Name → Option (Name × ℕ)
named_by place differing = Some (differing, place)

-- the event at this place is the first that stores a version of the tariff, and its content differs
record StoredThere (events : List Event) (tariff : Tariff) (differing : Name) (place : ℕ) : Type 0 where
  first : position (stores tariff) events ≡ Some place
  stored : Tariff
  stands : stored_version tariff (book_entries events) ≡ Some stored
  differs : difference_of_tariffs stored tariff ≡ Some differing

module _ (events : List Event) (tariff : Tariff) (differing : Name) (place : ℕ) where
  stored_at : (number : ℕ) → position (stores tariff) events ≡ Some number → stored_difference events tariff ≡ Some (differing, place)
      → StoredThere events tariff differing place
  stored_at number first h =
      let it = found version_of_event is_version (stores tariff) (version_test tariff) events number (sym (position_from-zero (stores tariff) events) ∙ first) in
      let one : Numbered = record { at = number; event = it.item } in
      let told : (difference_of_tariffs it.one tariff >>= named_by number) ≡ Some (differing, place) =
      sym (ap (λ (o : Option Numbered). o >>= difference_by tariff) (first_at (stores tariff) events number it.item first it.stands)
      ∙ ap (λ (o : Option Tariff). o >>= difference_from tariff number) (only_version it.item it.one it.only)) ∙ h in
      by it.one (ap (find is_version) (versions_in_events events) ∙ it.first) (difference_of_tariffs it.one tariff) refl told
    where
      is_version : Tariff → Bool
      is_version version = same_version version tariff

      by : (stored : Tariff) → stored_version tariff (book_entries events) ≡ Some stored → (difference : Option Name) → difference_of_tariffs stored tariff ≡ difference
          → (difference >>= named_by number) ≡ Some (differing, place) → StoredThere events tariff differing place
      by stored stands None is e = absurd (cc)
      by stored stands (Some name) is e =
          let both : (name, number) ≡ (differing, place) = cc in
          let names : name ≡ differing = ap (λ (it : Name × ℕ). it.0) both in
          let places : number ≡ place = ap (λ (it : Name × ℕ). it.1) both in
          record {
            first = first ∙ ap (λ (i : ℕ). Some i) places;
            stored = stored;
            stands = stands;
            differs = is ∙ ap (λ (it : Name). Some it) names;
          }

  stored_there : stored_difference events tariff ≡ Some (differing, place) → StoredThere events tariff differing place
  stored_there h = by (position (stores tariff) events) refl
    where
      by : (found : Option ℕ) → position (stores tariff) events ≡ found → StoredThere events tariff differing place
      by None is =
          let e : None ≡ Some (differing, place) = sym (ap (λ (o : Option Numbered). o >>= difference_by tariff) (no_first (stores tariff) events is)) ∙ h in
          absurd (cc)
      by (Some number) is = stored_at number is h

-- so the tariff is refused if it is put
put_refused : TariffsWithoutDifferenceAreSame → (config : Config) (events : List Event) (tariff : Tariff) (differing : Name) (place : ℕ)
    → stored_difference events tariff ≡ Some (differing, place)
    → cause_after config events (command.PutTariff tariff) ≡ Some (record { place = Some (inside name.Tariff differing); reason = reason.StoredOtherwise; event = Some place })
unfolding version_conflict
put_refused law config events tariff differing place h =
    let it = stored_there events tariff differing place h in
    let key = find_passes (λ (version : Tariff). same_version version tariff) (tariff_versions (book_entries events)) it.stored it.stands in
    let parts = both_are (same_party it.stored.operator tariff.operator && same_folded it.stored.id tariff.id) (int_eq it.stored.last_updated.nanosecond tariff.last_updated.nanosecond) key in
    let keys = both_are (same_party it.stored.operator tariff.operator) (same_folded it.stored.id tariff.id) parts.0 in
    let other : same_tariff it.stored tariff ≡ false = sym (law it.stored tariff keys.0 keys.1 parts.1) ∙ ap is_none it.differs in
    let room = refused_at (first_full ((store.Tariffs, are_versions_full config tariff.operator (book_entries events)) ∷ (store.Order, is_order_full config (length events)) ∷ [])) in
    ap (λ (o : Option Tariff). cause_of config events (command.PutTariff tariff) (unless (stored_already tariff o ∷ room ∷ []) (accepts answer.Stored (event.Tariff tariff))).reply) it.stands
    ∙ ap (λ b. cause_of config events (command.PutTariff tariff) (if b then Ok answer.Unchanged else Err refusal.Conflict)) other
    ∙ ap (λ (o : Option (Name × ℕ)). o >>= λ which. Some (record { place = Some (inside name.Tariff which.0); reason = reason.StoredOtherwise; event = Some which.1 })) h

-- ---- a tariff of the CDR

module _ (config : Config) (events : List Event) (checked : Checked) where
  abbrev lacking : List Event → Tariff → Bool
  lacking l tariff = not (list_any (registers checked.cdr.operator tariff) l)

  abbrev why_by : Tariff → ℕ → Bool → Option (Name × ℕ) → HouseCause
  why_by tariff number same difference =
      if same then not_stored number tariff difference else cause_at (tariff_at number) (reason.OfAnotherOperator tariff.operator checked.cdr.operator)

  abbrev told_of : List Event → ℕ → Option Tariff → Option HouseCause
  told_of l number tariff = do
    it ← tariff
    Some (why_unregistered l checked.cdr number it)

  abbrev told_at : List Event → Option ℕ → Option HouseCause
  told_at l place = do
    number ← place
    told_of l number (slice_get checked.cdr.tariffs number)

  abbrev otherwise_at : ℕ → Name → ℕ → HouseCause
  otherwise_at number differing place = record { place = Some (in_item name.Tariffs number differing); reason = reason.RegisteredOtherwise; event = Some place }

  abbrev unregistered_at : ℕ → Tariff → HouseCause
  unregistered_at number tariff = cause_at (in_item name.Tariffs number name.LastUpdated) (reason.NotRegistered tariff.last_updated)

  -- the first tariff that no event registers is stored with other content
  record StoredOtherwise (cause : HouseCause) (place : ℕ) : Type 0 where
    number : ℕ
    tariff : Tariff
    differing : Name
    lacks : position (lacking events) checked.cdr.tariffs ≡ Some number
    numbered : slice_get checked.cdr.tariffs number ≡ Some tariff
    its : same_party tariff.operator checked.cdr.operator ≡ true
    difference : stored_difference events tariff ≡ Some (differing, place)
    is : otherwise_at number differing place ≡ cause

  stored_otherwise : (cause : HouseCause) (place : ℕ) → not_registered events checked.cdr ≡ Some cause → cause.event ≡ Some place → StoredOtherwise cause place
  unfolding not_registered
  stored_otherwise cause place h named = by_number (position (lacking events) checked.cdr.tariffs) refl h
    where
      by_reason : (number : ℕ) (tariff : Tariff) → position (lacking events) checked.cdr.tariffs ≡ Some number → slice_get checked.cdr.tariffs number ≡ Some tariff
          → (same : Bool) → same_party tariff.operator checked.cdr.operator ≡ same → (difference : Option (Name × ℕ)) → stored_difference events tariff ≡ difference
          → Some (why_by tariff number same difference) ≡ Some cause → StoredOtherwise cause place
      by_reason number tariff lacks numbered false its difference is e =
          let one = why_by tariff number false difference in
          let same : one ≡ cause = cc in absurd (no_event one cause place same refl named)
      by_reason number tariff lacks numbered true its None is e =
          let same : unregistered_at number tariff ≡ cause = cc in absurd (no_event (unregistered_at number tariff) cause place same refl named)
      by_reason number tariff lacks numbered true its (Some (differing, at)) is e =
          let same : otherwise_at number differing at ≡ cause = cc in
          let places : Some at ≡ Some place = ap (λ (c : HouseCause). c.event) same ∙ named in
          let here : at ≡ place = cc in
          record {
            number = number;
            tariff = tariff;
            differing = differing;
            lacks = lacks;
            numbered = numbered;
            its = its;
            difference = is ∙ ap (λ (i : ℕ). Some (differing, i)) here;
            is = ap (λ (i : ℕ). otherwise_at number differing i) (sym here) ∙ same;
          }

      by_tariff : (number : ℕ) → position (lacking events) checked.cdr.tariffs ≡ Some number → (tariff : Option Tariff) → slice_get checked.cdr.tariffs number ≡ tariff
          → told_of events number tariff ≡ Some cause → StoredOtherwise cause place
      by_tariff number lacks None numbered e = absurd (cc)
      by_tariff number lacks (Some tariff) numbered e =
          by_reason number tariff lacks numbered (same_party tariff.operator checked.cdr.operator) refl (stored_difference events tariff) refl e

      by_number : (number : Option ℕ) → position (lacking events) checked.cdr.tariffs ≡ number → told_at events number ≡ Some cause → StoredOtherwise cause place
      by_number None lacks e = absurd (cc)
      by_number (Some number) lacks e = by_tariff number lacks (slice_get checked.cdr.tariffs number) refl e

  lacks_any : (l : List Event) (number : ℕ) → position (lacking l) checked.cdr.tariffs ≡ Some number → lacks_registered checked.cdr (book_entries l) ≡ true
  lacks_any l number first =
      (λ i. list_any (λ tariff. not (registered_in_events checked.cdr.operator l tariff i)) checked.cdr.tariffs)
      ∙ any_first (lacking l) checked.cdr.tariffs number first

  -- ---- on the first of the events

  -- an earlier tariff of the CDR, which a later event registers, is the first that is not registered
  record LackedEarlier (before later : List Event) (number : ℕ) : Type 0 where
    earlier : ℕ
    tariff : Tariff
    less : earlier < number
    numbered : slice_get checked.cdr.tariffs earlier ≡ Some tariff
    first : position (lacking before) checked.cdr.tariffs ≡ Some earlier
    registered : list_any (registers checked.cdr.operator tariff) later ≡ true
    told : told_at before (position (lacking before) checked.cdr.tariffs) ≡ Some (unregistered_at earlier tariff)

  told_first : (l : List Event) (number : ℕ) (tariff : Tariff) → position (lacking l) checked.cdr.tariffs ≡ Some number → slice_get checked.cdr.tariffs number ≡ Some tariff
      → same_party tariff.operator checked.cdr.operator ≡ true
      → told_at l (position (lacking l) checked.cdr.tariffs) ≡ Some (not_stored number tariff (stored_difference l tariff))
  told_first l number tariff first numbered same =
      ap (told_at l) first ∙ ap (told_of l number) numbered ∙ ap (λ b. Some (why_by tariff number b (stored_difference l tariff))) same

  none_differs : (l : List Event) (tariff : Tariff) → list_any (stores tariff) l ≡ false → stored_difference l tariff ≡ None
  none_differs l tariff none =
      ap (λ (o : Option Numbered). o >>= difference_by tariff) (no_first (stores tariff) l (none_first (stores tariff) l none))

  module _ (equal : SameTariffsAreEqualFolded) (base : Config) (legal : IsLegal base events) (before later : List Event) (whole : events ≡ before ++ later) where
    split_any : (tariff : Tariff) → list_any (registers checked.cdr.operator tariff) events
        ≡ (list_any (registers checked.cdr.operator tariff) before || list_any (registers checked.cdr.operator tariff) later)
    split_any tariff = ap (list_any (registers checked.cdr.operator tariff)) whole ∙ list_any-append (registers checked.cdr.operator tariff) before later

    lacks_before : (tariff : Tariff) → lacking events tariff ≡ true → lacking before tariff ≡ true
    lacks_before tariff h =
        ap not (neither (list_any (registers checked.cdr.operator tariff) before) (list_any (registers checked.cdr.operator tariff) later)
        (sym (split_any tariff) ∙ not-true (list_any (registers checked.cdr.operator tariff) events) h)).0

    lacked_earlier : (number : ℕ) → Earlier (lacking events) (lacking before) 0 checked.cdr.tariffs number → LackedEarlier before later number
    lacked_earlier number it =
        let operator = checked.cdr.operator in
        let counted : 0 + it.at ≡ it.at = omega arith in
        let first : position (lacking before) checked.cdr.tariffs ≡ Some it.at = position_from-zero (lacking before) checked.cdr.tariffs ∙ it.first ∙ ap (λ (i : ℕ). Some i) counted in
        let there = passes_at (lacking before) checked.cdr.tariffs it.at first in
        let items : Some there.item ≡ Some it.item = sym there.stands ∙ it.stands in
        let same : there.item ≡ it.item = cc in
        let not_yet : list_any (registers operator it.item) before ≡ false =
        not-true (list_any (registers operator it.item) before) (ap (lacking before) (sym same) ∙ there.passes) in
        let registered : list_any (registers operator it.item) later ≡ true =
        other_any (list_any (registers operator it.item) before) (list_any (registers operator it.item) later) not_yet
        (sym (split_any it.item) ∙ not-false (list_any (registers operator it.item) events) it.fails) in
        let its = stored_later equal base events before later legal whole operator it.item registered in
        record {
          earlier = it.at;
          tariff = it.item;
          less = it.less;
          numbered = it.stands;
          first = first;
          registered = registered;
          told = told_first before it.at it.item first it.stands its.1
              ∙ ap (λ (o : Option (Name × ℕ)). Some (not_stored it.at it.item o)) (none_differs before it.item its.0);
        }

    within : (number : ℕ) → position (lacking events) checked.cdr.tariffs ≡ Some number
        → (position (lacking before) checked.cdr.tariffs ≡ Some number) ⊎ LackedEarlier before later number
    within number h = by (weaker_first (lacking events) (lacking before) lacks_before checked.cdr.tariffs number h)
      where
        by : (position (lacking before) checked.cdr.tariffs ≡ Some number) ⊎ Earlier (lacking events) (lacking before) 0 checked.cdr.tariffs number
            → (position (lacking before) checked.cdr.tariffs ≡ Some number) ⊎ LackedEarlier before later number
        by (inl same) = inl same
        by (inr it) = inr (lacked_earlier number it)

  module _ (tariffs : TariffsWithoutDifferenceAreSame) (equal : SameTariffsAreEqualFolded) (base : Config) (legal : IsLegal base events)
      (lacks : Lacks events checked) (cause : HouseCause) (place : ℕ) (it : StoredOtherwise cause place) where
    abbrev its_first : position (stores it.tariff) events ≡ Some place
    its_first = (stored_there events it.tariff it.differing place it.difference).first

    abbrev parts : Parts events place
    parts = (first_parts (stores it.tariff) events place its_first).parts

    abbrev reason_is : cause.reason ≡ reason.RegisteredOtherwise
    reason_is = ap (λ (c : HouseCause). c.reason) (sym it.is)

    -- no cause on the events before it has the reason
    other_before : (found other : HouseCause) → found ≡ other → other.reason ≡ cause.reason → (found.reason ≡ reason.RegisteredOtherwise → ⊥) → ⊥
    other_before found other same alike unlike = unlike (ap (λ (c : HouseCause). c.reason) same ∙ alike ∙ reason_is)

    not_before : (other : HouseCause) → not_registered (take place events) checked.cdr ≡ Some other → other.reason ≡ cause.reason → ⊥
    unfolding not_registered
    not_before other h alike = by (within equal base legal before (parts.item ∷ drop (place + 1) events) parts.whole it.number it.lacks)
      where
        before : List Event
        before = take place events

        clash : (number : ℕ) (tariff : Tariff) → Some (unregistered_at number tariff) ≡ Some other → ⊥
        clash number tariff e =
            let same : unregistered_at number tariff ≡ other = cc in
            other_before (unregistered_at number tariff) other same alike (λ bad. absurd (cc))

        by : (position (lacking before) checked.cdr.tariffs ≡ Some it.number) ⊎ LackedEarlier before (parts.item ∷ drop (place + 1) events) it.number → ⊥
        by (inr earlier) = clash earlier.earlier earlier.tariff (sym earlier.told ∙ h)
        by (inl same) =
            let none = (first_parts (stores it.tariff) events place its_first).none in
            clash it.number it.tariff
            (sym (told_first before it.number it.tariff same it.numbered it.its
            ∙ ap (λ (o : Option (Name × ℕ)). Some (not_stored it.number it.tariff o)) (none_differs before it.tariff none)) ∙ h)

    refused_with : (number : ℕ) → position (lacking (take (place + 1) events)) checked.cdr.tariffs ≡ Some number
        → said_by_house config (take (place + 1) events) (command.Post checked) ≡ Err refusal.TariffNotRegistered
    refused_with number first =
        let upto = take (place + 1) events in
        lacks_reply config upto checked (record {
          cost = lacks.cost;
          priced = lacks.priced;
          new = none_booked events upto (drop (place + 1) events) parts.split checked.cdr.operator checked.cdr.id lacks.new;
          lacks = lacks_any upto number first;
        })

    with_event : (cause_after config (take (place + 1) events) (command.Post checked) ≡ Some cause) ⊎ LacksEarlier config events checked it.number place
    unfolding not_registered
    with_event = by (within equal base legal upto (drop (place + 1) events) parts.split it.number it.lacks)
      where
        upto : List Event
        upto = take (place + 1) events

        by : (position (lacking upto) checked.cdr.tariffs ≡ Some it.number) ⊎ LackedEarlier upto (drop (place + 1) events) it.number
            → (cause_after config upto (command.Post checked) ≡ Some cause) ⊎ LacksEarlier config events checked it.number place
        by (inl same) =
            inl (ap (cause_of config upto (command.Post checked)) (refused_with it.number same)
            ∙ told_first upto it.number it.tariff same it.numbered it.its
            ∙ ap (λ (o : Option Numbered). Some (not_stored it.number it.tariff (o >>= difference_by it.tariff))) (same_first (stores it.tariff) events place its_first)
            ∙ ap (λ (o : Option (Name × ℕ)). Some (not_stored it.number it.tariff o)) it.difference
            ∙ ap (λ (c : HouseCause). Some c) it.is)
        by (inr earlier) =
            inr (record {
              earlier = earlier.earlier;
              tariff = earlier.tariff;
              less = earlier.less;
              numbered = earlier.numbered;
              later = earlier.registered;
              refused = ap (cause_of config upto (command.Post checked)) (refused_with earlier.earlier earlier.first) ∙ earlier.told;
            })

    version_given : not_registered events checked.cdr ≡ Some cause → IsGivenByVersion config events checked cause place
    version_given h = record {
      number = it.number;
      tariff = it.tariff;
      differing = it.differing;
      numbered = it.numbered;
      own = it.its;
      in_cdr = ap (λ (c : HouseCause). c.place) (sym it.is);
      stored = tariff_named config events it.tariff (stored_cause it.differing) place (put_refused tariffs config events it.tariff it.differing place it.difference) refl;
      before = λ other after alike. not_before other
          (refused_so config (take place events) (command.Post checked) cause other refusal.TariffNotRegistered
          (causes_say config events (command.Post checked) refusal.TariffNotRegistered cause h) after alike) alike;
      with_it = with_event;
    }
      where
        stored_cause : Name → HouseCause
        stored_cause differing = record { place = Some (inside name.Tariff differing); reason = reason.StoredOtherwise; event = Some place }

  pub version_named : TariffsWithoutDifferenceAreSame → SameTariffsAreEqualFolded → (base : Config) → IsLegal base events → Lacks events checked → (cause : HouseCause) (place : ℕ)
      → not_registered events checked.cdr ≡ Some cause → cause.event ≡ Some place → (cause.reason ≡ reason.RegisteredOtherwise) × IsGivenByVersion config events checked cause place
  version_named tariffs equal base legal lacks cause place h named =
      let it = stored_otherwise cause place h named in
      (ap (λ (c : HouseCause). c.reason) (sym it.is), version_given tariffs equal base legal lacks cause place it h)
