-- The event of the cause of a Credit CDR whose original is credited gives it: the first that credits the original.
use Rattle.std.proofs.Common.{◌≡◌, ◌∙◌, ℕ, ◌+◌, ℤ, List, [], ◌∷◌, ◌++◌, Bool, true, false, ◌&&◌, Option, Some, None, Err, refl, sym, ap, subst, is_some, take, drop, option_and_then}
use Rattle.std.specs.List.{list_any, position}
use Rattle.ocpi_types.specs.Cdr.{is_credit}
use Rattle.ocpi_types.specs.Party.{same_party}
use Rattle.ocpi_types.specs.declared.cdr.Cdr.{Cdr}
use Rattle.ocpi_types.specs.declared.config.Config.{Config}
use Rattle.ocpi_types.specs.declared.party.Party.{Party}
use Rattle.ocpi_types.specs.declared.refusal.Refusal.TheVariants as refusal
use Rattle.cdr_checks.specs.Checked.{Checked}
use Rattle.cdr_checks.specs.declared.request.Command.TheVariants as command
use Rattle.plain_house.specs.Booked.{Booked, booked_as}
use Rattle.plain_house.specs.Entries.{book_entries}
use Rattle.plain_house.specs.Exposure.{names}
use Rattle.plain_house.specs.Happened.{takes_back}
use Rattle.plain_house.specs.Legal.{IsLegal}
use Rattle.plain_house.specs.LegalLists.{LegalCdrsAreCharged, LegalCreditsAreTakenBack}
use Rattle.plain_house.specs.declared.event.Event.{Event}
use Rattle.plain_house.specs.declared.event.Event.TheVariants as event
use Rattle.plain_house.proofs.EntriesLemmas.{credited_in_events}
use Rattle.plain_house.proofs.SameScope.{both_are}
use Rattle.operator_book.proofs.KeyLemmas.{or_false}
use Rattle.house_causes.specs.Causes.{cause_of}
use Rattle.house_causes.specs.Credits.{cdr_of, credited_already, reference_place}
use Rattle.house_causes.specs.First.{◌>>=◌, Numbered, first_that}
use Rattle.house_causes.specs.Laws.{IsGivenByEvent}
use Rattle.house_causes.specs.declared.house_cause.HouseCause.{HouseCause}
use Rattle.house_causes.specs.declared.house_cause.HouseReason.TheVariants as reason
use Rattle.house_causes.proofs.BeginningLemmas.{kept_booked, same_booked}
use Rattle.house_causes.proofs.CreditLemmas.{booked_along, credited_along, is_taken_back}
use Rattle.house_causes.proofs.DifferenceLemmas.{booked_has_id}
use Rattle.house_causes.proofs.FirstLemmas.{first_at}
use Rattle.house_causes.proofs.PostLemmas.{HasOriginal, IsCreditedAgain, again_reply, credited_in, is_for}
use Rattle.house_causes.proofs.PostNamedLemmas.{original_within}
use Rattle.house_causes.proofs.PrefixLemmas.{FirstParts, any_first, first_parts, first_upto, no_first, same_first}
use Rattle.house_causes.proofs.ReplyLemmas.{not_for_this}
use Rattle.house_causes.proofs.SaidLemmas.{causes_say}

-- ---- a CDR is booked before an event credits it

module _ (cdrs : LegalCdrsAreCharged) (credits : LegalCreditsAreTakenBack) (base : Config) (before later : List Event) (operator : Party) (id : List ℕ) where
  no_charge : (cdr : Cdr) → is_credit cdr ≡ false → names id cdr.credit ≡ true → ⊥
  no_charge cdr none named = by cdr.credit none named
    where
      by : (reference : Option (List ℕ)) → is_some reference ≡ false → names id reference ≡ true → ⊥
      by None h named = absurd (cc)
      by (Some other) h named = absurd (cc)

  its_original : (cdr : Cdr) (amount : ℤ) → IsLegal base (before ++ event.Credit cdr amount ∷ later) → same_party cdr.operator operator ≡ true → names id cdr.credit ≡ true
      → is_some (booked_as operator id (book_entries before)) ≡ true
  its_original cdr amount legal same named =
      let it = credits base before later cdr amount legal in
      by cdr.credit named it.original it.named
    where
      by : (reference : Option (List ℕ)) → names id reference ≡ true → (original : Booked)
          → option_and_then (λ other. booked_as cdr.operator other (book_entries before)) reference ≡ Some original
          → is_some (booked_as operator id (book_entries before)) ≡ true
      by None named original is = absurd (cc)
      by (Some other) named original is =
          ap is_some (sym (booked_along cdr.operator operator other id (book_entries before) same named) ∙ is)

  pub booked_first : (e : Event) → IsLegal base (before ++ e ∷ later) → takes_back operator id e ≡ true → is_some (booked_as operator id (book_entries before)) ≡ true
  booked_first (event.Tariff tariff) legal h = absurd (cc)
  booked_first (event.Token token) legal h = absurd (cc)
  booked_first (event.Authorised hold) legal h = absurd (cc)
  booked_first (event.Released release) legal h = absurd (cc)
  booked_first (event.Cdr cdr cost) legal h =
      let its = both_are (same_party cdr.operator operator) (names id cdr.credit) (sym (or_false (same_party cdr.operator operator && names id cdr.credit)) ∙ h) in
      absurd (no_charge cdr (cdrs base before later cdr cost legal).priced.0 its.1)
  booked_first (event.Credit cdr amount) legal h =
      let its = both_are (same_party cdr.operator operator) (names id cdr.credit) (sym (or_false (same_party cdr.operator operator && names id cdr.credit)) ∙ h) in
      its_original cdr amount legal its.0 its.1
  booked_first (event.Settled settlement) legal h = absurd (cc)
  booked_first (event.Closed period) legal h = absurd (cc)

-- ---- the first event that credits it

module _ (cdrs : LegalCdrsAreCharged) (credits : LegalCreditsAreTakenBack) (base config : Config) (events : List Event) (checked : Checked) (legal : IsLegal base events) where
  abbrev again_by : List ℕ → Option Numbered → Option HouseCause
  again_by id first = do
    found ← first
    earlier ← cdr_of found.event
    Some (record { place = Some reference_place; reason = reason.CreditedAlready id earlier.id; event = Some found.at })

  abbrev again_told : List Event → Option (List ℕ) → Option HouseCause
  again_told l reference = do
    id ← reference
    again_by id (first_that (takes_back checked.cdr.operator id) l)

  again_place : (id : List ℕ) (found : Numbered) (cause : HouseCause) → again_by id (Some found) ≡ Some cause → Some found.at ≡ cause.event
  again_place id found cause h = by (cdr_of found.event) h
    where
      told : Cdr → HouseCause
      told earlier = record { place = Some reference_place; reason = reason.CreditedAlready id earlier.id; event = Some found.at }

      by : (earlier : Option Cdr) → (earlier >>= λ it. Some (told it)) ≡ Some cause → Some found.at ≡ cause.event
      by None e = absurd (cc)
      by (Some earlier) e = let same : told earlier ≡ cause = cc in ap (λ (c : HouseCause). c.event) same

  module _ (it : IsCreditedAgain events checked) (cause : HouseCause) (place : ℕ)
      (first : position (takes_back checked.cdr.operator it.its.id) events ≡ Some place) (told : again_told events (Some it.its.id) ≡ Some cause)
      (says : cause_of config events (command.Post checked) (Err refusal.AlreadyCredited) ≡ Some cause) where
    abbrev its : HasOriginal events checked
    its = it.its

    abbrev operator : Party
    operator = checked.cdr.operator

    abbrev upto : List Event
    upto = take (place + 1) events

    abbrev its_part : FirstParts (takes_back operator its.id) 0 events place
    its_part = first_parts (takes_back operator its.id) events place first

    -- the original is booked before this event
    booked_there : booked_as operator its.id (book_entries upto) ≡ Some its.original
    booked_there =
        let item = its_part.parts.item in
        let before = take place events in
        let later = drop (place + 1) events in
        let whole = its_part.parts.whole in
        let some = booked_first cdrs credits base before later operator its.id item (subst (IsLegal base) whole legal) its_part.passes in
        kept_booked upto before (item ∷ []) its_part.parts.upto operator its.id its.original
        (same_booked events before (item ∷ later) whole operator its.id its.original some its.stands)

    credited_there : credited_in upto its.original ≡ true
    credited_there =
        let keys = booked_has_id checked.cdr its.id events its.original its.stands in
        credited_along its.original.cdr.operator operator its.original.cdr.id its.id (book_entries upto) keys.0 keys.1
        ∙ credited_in_events operator its.id upto
        ∙ any_first (takes_back operator its.id) upto place (first_upto (takes_back operator its.id) events place first)

    not_before : IsCreditedAgain (take place events) checked → ⊥
    not_before was =
        let before = take place events in
        let ids : Some was.its.id ≡ Some its.id = sym was.its.named ∙ its.named in
        let same : was.its.id ≡ its.id = cc in
        let any : list_any (takes_back operator was.its.id) before ≡ true =
        is_taken_back config before checked.cdr was.its.id was.its.named was.its.original was.its.stands was.again in
        let e : true ≡ false = sym any ∙ ap (λ (id : List ℕ). list_any (takes_back operator id) before) same ∙ its_part.none in
        absurd (cc)

    again_at : IsGivenByEvent config events (command.Post checked) cause place
    unfolding credited_already
    again_at =
        record {
          before = λ other. not_for_this config (take place events) (command.Post checked) cause other refusal.AlreadyCredited
              (causes_say config events (command.Post checked) refusal.AlreadyCredited cause says)
              (λ said. not_before (is_for config (take place events) checked refusal.AlreadyCredited said));
          with_it = ap (cause_of config upto (command.Post checked))
              (again_reply config upto checked (original_within config events checked its upto (drop (place + 1) events) its_part.parts.split booked_there) it.of_cdr credited_there)
              ∙ ap (again_told upto) its.named
              ∙ ap (again_by its.id) (same_first (takes_back operator its.id) events place first) ∙ told;
        }

  pub again_named : IsCreditedAgain events checked → (cause : HouseCause) (place : ℕ) → credited_already events checked.cdr ≡ Some cause
      → cause.event ≡ Some place → IsGivenByEvent config events (command.Post checked) cause place
  unfolding credited_already
  again_named it cause place h named = by (position test events) refl
    where
      test : Event → Bool
      test = takes_back checked.cdr.operator it.its.id

      told : again_told events (Some it.its.id) ≡ Some cause
      told = sym (ap (again_told events) it.its.named) ∙ h

      by : (found : Option ℕ) → position test events ≡ found → IsGivenByEvent config events (command.Post checked) cause place
      by None is =
          let e : None ≡ Some cause = sym (ap (again_by it.its.id) (no_first test events is)) ∙ told in
          absurd (cc)
      by (Some number) is =
          let parts = (first_parts test events number is).parts in
          let found : Numbered = record { at = number; event = parts.item } in
          let places : Some number ≡ Some place = again_place it.its.id found cause (sym (ap (again_by it.its.id) (first_at test events number parts.item is parts.stands)) ∙ told) ∙ named in
          again_at it cause place (is ∙ places) told h
