-- The event of the cause of a refused CDR or Credit CDR gives it: the event that books another under the id, or the original.
use Rattle.std.proofs.Common.{◌≡◌, ◌∙◌, ℕ, ◌+◌, List, ◌++◌, Option, Some, None, sym, ap, ap₂, take, drop}
use Rattle.std.specs.List.{position}
use Rattle.ocpi_json.specs.declared.name.Name.TheVariants as name
use Rattle.ocpi_json.specs.declared.name.Name.{Name}
use Rattle.ocpi_types.specs.ContentDifference.{difference_of_cdrs}
use Rattle.ocpi_types.specs.declared.config.Config.{Config}
use Rattle.ocpi_types.specs.declared.refusal.Refusal.TheVariants as refusal
use Rattle.cdr_checks.specs.Checked.{Checked}
use Rattle.cdr_checks.specs.Place.{inside}
use Rattle.cdr_checks.specs.declared.request.Command.TheVariants as command
use Rattle.plain_house.specs.Booked.{Booked, booked_as}
use Rattle.plain_house.specs.Entries.{book_entries, period_of}
use Rattle.plain_house.specs.Happened.{books}
use Rattle.plain_house.specs.Posting.{credit_difference}
use Rattle.plain_house.specs.declared.event.Event.{Event}
use Rattle.plain_house.specs.declared.posting.CreditDifference.{CreditDifference}
use Rattle.house_causes.specs.Bookings.{booking_conflict}
use Rattle.house_causes.specs.Causes.{cause_of}
use Rattle.house_causes.specs.Credits.{credit_differs, difference_cause, of_credit, reference_place}
use Rattle.house_causes.specs.First.{◌>>=◌}
use Rattle.house_causes.specs.Laws.{IsGivenByEvent}
use Rattle.house_causes.specs.declared.house_cause.HouseCause.{HouseCause}
use Rattle.house_causes.specs.declared.house_cause.HouseReason.TheVariants as reason
use Rattle.house_causes.proofs.BeginningLemmas.{booked_upto, earlier_period, in_window_before, none_booked, none_booked_before, none_credited}
use Rattle.house_causes.proofs.PostLemmas.{Differs, HasOriginal, IsBookedOtherwise, NamesCredit, conflict_reply, differs_reply, is_for, of_credit_reply}
use Rattle.house_causes.proofs.PrefixLemmas.{first_parts, first_upto}
use Rattle.house_causes.proofs.ReplyLemmas.{not_for_this}
use Rattle.house_causes.proofs.SaidLemmas.{causes_say}

module _ (config : Config) (events : List Event) (checked : Checked) where
  -- ---- another CDR under the id

  abbrev conflict_by : Option Booked → Option ℕ → Option HouseCause
  conflict_by booked at = do
    found ← booked
    differing ← difference_of_cdrs found.cdr checked.cdr
    Some (record { place = Some (inside name.Cdr differing); reason = reason.BookedOtherwise found.amount; event = at })

  conflict_place : (found : Booked) (at : Option ℕ) (cause : HouseCause) → conflict_by (Some found) at ≡ Some cause → at ≡ cause.event
  conflict_place found at cause h = by (difference_of_cdrs found.cdr checked.cdr) h
    where
      told : Name → HouseCause
      told differing = record { place = Some (inside name.Cdr differing); reason = reason.BookedOtherwise found.amount; event = at }

      by : (differing : Option Name) → (differing >>= λ it. Some (told it)) ≡ Some cause → at ≡ cause.event
      by None e = absurd (cc)
      by (Some differing) e = let same : told differing ≡ cause = cc in ap (λ (c : HouseCause). c.event) same

  pub conflict_named : IsBookedOtherwise events checked → (cause : HouseCause) (place : ℕ) → booking_conflict events checked.cdr ≡ Some cause
      → cause.event ≡ Some place → IsGivenByEvent config events (command.Post checked) cause place
  unfolding booking_conflict
  conflict_named its cause place h named =
      let operator = checked.cdr.operator in
      let id = checked.cdr.id in
      let at = position (books operator id) events in
      let told : conflict_by (Some its.found) at ≡ Some cause = sym (ap (λ (o : Option Booked). conflict_by o at) its.stands) ∙ h in
      let first : at ≡ Some place = conflict_place its.found at cause told ∙ named in
      let upto = take (place + 1) events in
      let there = booked_upto operator id events place first its.found its.stands in
      record {
        before = λ other. not_for_this config (take place events) (command.Post checked) cause other refusal.Conflict
            (causes_say config events (command.Post checked) refusal.Conflict cause h) (λ said.
            let was : IsBookedOtherwise (take place events) checked = is_for config (take place events) checked refusal.Conflict said in
            let e : None ≡ Some was.found = sym (none_booked_before operator id events place first) ∙ was.stands in
            absurd (cc));
        with_it = ap (cause_of config upto (command.Post checked))
            (conflict_reply config upto checked checked.cost (record { found = its.found; stands = there; other = its.other }))
            ∙ ap₂ conflict_by there (first_upto (books operator id) events place first ∙ sym first) ∙ told;
      }

  -- ---- the original

  -- the original on the first of the events, where it is booked among them
  abbrev pub original_within : (its : HasOriginal events checked) (before later : List Event) → events ≡ before ++ later
      → booked_as checked.cdr.operator its.id (book_entries before) ≡ Some its.original → HasOriginal before checked
  original_within its before later whole stands = record {
    costless = its.costless;
    new = none_booked events before later whole checked.cdr.operator checked.cdr.id its.new;
    id = its.id;
    named = its.named;
    original = its.original;
    stands = stands;
  }

  -- so as far as the event that books it
  module _ (its : HasOriginal events checked) (place : ℕ) (first : position (books checked.cdr.operator its.id) events ≡ Some place) where
    abbrev upto : List Event
    upto = take (place + 1) events

    abbrev split : events ≡ upto ++ drop (place + 1) events
    split = (first_parts (books checked.cdr.operator its.id) events place first).parts.split

    abbrev original_upto : HasOriginal upto checked
    original_upto =
        original_within its upto (drop (place + 1) events) split (booked_upto checked.cdr.operator its.id events place first its.original its.stands)

    no_original_before : HasOriginal (take place events) checked → ⊥
    no_original_before was =
        let ids : Some was.id ≡ Some its.id = sym was.named ∙ its.named in
        let same : was.id ≡ its.id = cc in
        let e : None ≡ Some was.original =
        sym (none_booked_before checked.cdr.operator its.id events place first)
        ∙ ap (λ (id : List ℕ). booked_as checked.cdr.operator id (book_entries (take place events))) (sym same) ∙ was.stands in
        absurd (cc)

  -- ---- a Credit CDR of a Credit CDR

  abbrev of_credit_by : List ℕ → Option ℕ → HouseCause
  of_credit_by id at = record { place = Some reference_place; reason = reason.OfCredit id; event = at }

  pub of_credit_named : NamesCredit events checked → (cause : HouseCause) (place : ℕ) → of_credit events checked.cdr ≡ Some cause
      → cause.event ≡ Some place → IsGivenByEvent config events (command.Post checked) cause place
  of_credit_named it cause place h named =
      let its = it.its in
      let operator = checked.cdr.operator in
      let at = position (books operator its.id) events in
      let told : Some (of_credit_by its.id at) ≡ Some cause =
      sym (ap (λ (o : Option (List ℕ)). o >>= λ id. Some (of_credit_by id (position (books operator id) events))) its.named) ∙ h in
      let same : of_credit_by its.id at ≡ cause = cc in
      let first : at ≡ Some place = ap (λ (c : HouseCause). c.event) same ∙ named in
      let upto = take (place + 1) events in
      record {
        before = λ other. not_for_this config (take place events) (command.Post checked) cause other refusal.CreditOfCredit
            (causes_say config events (command.Post checked) refusal.CreditOfCredit cause h) (λ said.
            let was : NamesCredit (take place events) checked = is_for config (take place events) checked refusal.CreditOfCredit said in
            no_original_before its place first was.its);
        with_it = ap (cause_of config upto (command.Post checked)) (of_credit_reply config upto checked (original_upto its place first) it.of_credit)
            ∙ ap (λ (o : Option (List ℕ)). o >>= λ id. Some (of_credit_by id (position (books operator id) upto))) its.named
            ∙ ap (λ (o : Option ℕ). Some (of_credit_by its.id o)) (first_upto (books operator its.id) events place first ∙ sym first) ∙ told;
      }

  -- ---- a Credit CDR that differs from what its original asks for

  abbrev differs_by : Option Booked → Option ℕ → Option HouseCause
  differs_by booked at = do
    original ← booked
    difference ← credit_difference config checked.cdr original
    Some (record (difference_cause checked.cdr original difference) { event = at })

  abbrev differs_told : List Event → Option (List ℕ) → Option HouseCause
  differs_told l reference = do
    id ← reference
    differs_by (booked_as checked.cdr.operator id (book_entries l)) (position (books checked.cdr.operator id) l)

  differs_place : (original : Booked) (at : Option ℕ) (cause : HouseCause) → differs_by (Some original) at ≡ Some cause → at ≡ cause.event
  differs_place original at cause h = by (credit_difference config checked.cdr original) h
    where
      told : CreditDifference → HouseCause
      told difference = record (difference_cause checked.cdr original difference) { event = at }

      by : (difference : Option CreditDifference) → (difference >>= λ it. Some (told it)) ≡ Some cause → at ≡ cause.event
      by None e = absurd (cc)
      by (Some difference) e = let same : told difference ≡ cause = cc in ap (λ (c : HouseCause). c.event) same

  pub differs_named : Differs config events checked → (cause : HouseCause) (place : ℕ) → credit_differs config events checked.cdr ≡ Some cause
      → cause.event ≡ Some place → IsGivenByEvent config events (command.Post checked) cause place
  unfolding credit_differs
  differs_named it cause place h named =
      let its = it.its in
      let operator = checked.cdr.operator in
      let at = position (books operator its.id) events in
      let told : differs_by (Some its.original) at ≡ Some cause =
      sym (ap (differs_told events) its.named ∙ ap (λ (o : Option Booked). differs_by o at) its.stands) ∙ h in
      let first : at ≡ Some place = differs_place its.original at cause told ∙ named in
      let upto = take (place + 1) events in
      let now = original_upto its place first in
      let whole = split its place first in
      let once = none_credited events upto (drop (place + 1) events) whole its.original.cdr.operator its.original.cdr.id it.once in
      let within = in_window_before config.credit_window its.original.period (period_of events) (period_of upto)
      (earlier_period events upto (drop (place + 1) events) whole) it.within in
      record {
        before = λ other. not_for_this config (take place events) (command.Post checked) cause other refusal.CreditDiffers
            (causes_say config events (command.Post checked) refusal.CreditDiffers cause h) (λ said.
            let was : Differs config (take place events) checked = is_for config (take place events) checked refusal.CreditDiffers said in
            no_original_before its place first was.its);
        with_it = ap (cause_of config upto (command.Post checked)) (differs_reply config upto checked now it.of_cdr once within it.differs)
            ∙ ap (differs_told upto) its.named
            ∙ ap₂ differs_by now.stands (first_upto (books operator its.id) events place first ∙ sym first) ∙ told;
      }
