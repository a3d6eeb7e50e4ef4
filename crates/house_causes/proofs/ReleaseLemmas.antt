-- The event of the cause of a refused release gives it.
use Rattle.std.proofs.Common.{◌≡◌, ◌∙◌, ◌≤◌, ◌<◌, ◌^◌, ℕ, ◌+◌, zero, suc, pos, List, [], ◌∷◌, ◌++◌, Bool, true, false, ◌&&◌, ◌||◌, cond, if◌then◌else◌, Option, Some, None, Ok, Err, refl, sym, ap, subst, arith, find, is_some, option_map, take, drop, slice_get, length, append-nil, append_assoc}
use Rattle.std.specs.List.{list_any, position}
use Rattle.std.specs.Option.{option_or}
use Rattle.std.proofs.lemmas.List.{length-append}
use Rattle.std.proofs.lemmas.List.Folds.{find-append, list_any-append}
use Rattle.ocpi_json.specs.Folded.{same_folded}
use Rattle.ocpi_types.specs.Party.{same_party}
use Rattle.ocpi_types.specs.declared.config.Config.{Config}
use Rattle.ocpi_types.specs.declared.party.Party.{Party}
use Rattle.ocpi_types.specs.declared.refusal.Refusal.TheVariants as refusal
use Rattle.ocpi_types.specs.declared.refusal.Store.{Store}
use Rattle.cdr_checks.specs.declared.request.Command.TheVariants as command
use Rattle.cdr_checks.specs.declared.request.Release.{Release}
use Rattle.plain_house.specs.Entries.{account_entries}
use Rattle.plain_house.specs.Exposure.{ends_hold, released_hold}
use Rattle.plain_house.specs.Happened.{ends, gives}
use Rattle.plain_house.specs.House.{release_of}
use Rattle.plain_house.specs.Inner.Scanned.{event_open_hold, event_open_holds}
use Rattle.plain_house.specs.Known.{known}
use Rattle.plain_house.specs.Legal.{IsLegal}
use Rattle.plain_house.specs.Verdict.{accepts, refused_at, unless}
use Rattle.plain_house.specs.declared.answer.Answer.TheVariants as answer
use Rattle.plain_house.specs.declared.entry.AccountEntry.TheVariants as account
use Rattle.plain_house.specs.declared.event.Event.{Event}
use Rattle.plain_house.specs.declared.event.Event.TheVariants as event
use Rattle.plain_house.specs.declared.event.Hold.{Hold}
use Rattle.plain_house.proofs.EntriesLemmas.{open_in_events}
use Rattle.plain_house.proofs.SettlementLemmas.{party_symm}
use Rattle.plain_house.proofs.OwnEntries.{party_along}
use Rattle.plain_house.proofs.SameScope.{both_are}
use Rattle.known_events.proofs.GivenLemmas.{folded_along}
use Rattle.known_events.specs.After.{position_after}
use Rattle.house_causes.specs.Causes.{cause_of}
use Rattle.house_causes.specs.First.{◌>>=◌, Numbered}
use Rattle.house_causes.specs.Holds.{by_event, ended, hold_of, never_given, unknown_hold, why_ended, why_no_hold, why_not_open}
use Rattle.house_causes.specs.HouseCause.{refusal_by}
use Rattle.house_causes.specs.Laws.{IsGivenByEvent, NamesItsEvent, said_by_house}
use Rattle.house_causes.specs.Stores.{full}
use Rattle.house_causes.specs.declared.house_cause.HouseReason.{HouseReason}
use Rattle.house_causes.specs.declared.house_cause.HouseCause.{HouseCause}
use Rattle.house_causes.specs.declared.house_cause.HouseReason.TheVariants as reason
use Rattle.house_causes.proofs.FirstLemmas.{first_at, has_place, slice_get-drop}
use Rattle.house_causes.proofs.NamedLemmas.{given_there, no_event}
use Rattle.std.proofs.lemmas.Bool.{and_from}
use Rattle.house_causes.proofs.PrefixLemmas.{any_first, at_end, drop_taken, first_before, first_parts, first_upto, first_within, no_first, parts_at, take_past, taken_length}
use Rattle.house_causes.proofs.ReferenceLemmas.{other_reference}
use Rattle.house_causes.proofs.ReplyLemmas.{not_for_this, refused_so}
use Rattle.house_causes.proofs.UnknownLemmas.{folded_turned, given, party_turned}

module _ (release : Release) where
  abbrev pub frees : Hold → Bool
  frees hold = ends_hold hold (account.Release release)

  -- the event opens a hold that the release would end
  abbrev pub opens : Event → Bool
  opens (event.Tariff tariff) = false
  opens (event.Token token) = false
  opens (event.Authorised hold) = frees hold
  opens (event.Released other) = false
  opens (event.Cdr cdr cost) = false
  opens (event.Credit cdr amount) = false
  opens (event.Settled settlement) = false
  opens (event.Closed period) = false

  none_in : (hold : Hold) (ended : Bool) → frees hold ≡ false → find frees (if ended then [] else hold ∷ []) ≡ None
  none_in hold true h = refl
  none_in hold false h = ap (λ b. cond b (Some hold) None) h

  none_of_event : (e : Event) (later : List Event) → opens e ≡ false → find frees (event_open_hold e later) ≡ None
  none_of_event (event.Tariff tariff) later h = refl
  none_of_event (event.Token token) later h = refl
  none_of_event (event.Authorised hold) later h = none_in hold (list_any (ends hold) later) h
  none_of_event (event.Released other) later h = refl
  none_of_event (event.Cdr cdr cost) later h = refl
  none_of_event (event.Credit cdr amount) later h = refl
  none_of_event (event.Settled settlement) later h = refl
  none_of_event (event.Closed period) later h = refl

  both_false : (a b : Bool) → (a || b) ≡ false → (a ≡ false) × (b ≡ false)
  both_false true b h = absurd (cc)
  both_false false b h = (refl, h)

  -- events that open none are passed over
  passed_over : (before later : List Event) → list_any opens before ≡ false → find frees (event_open_holds (before ++ later)) ≡ find frees (event_open_holds later)
  passed_over [] later h = refl
  passed_over (e ∷ before) later h =
      let parts = both_false (opens e) (list_any opens before) h in
      find-append frees (event_open_hold e (before ++ later)) (event_open_holds (before ++ later))
      ∙ ap (λ (o : Option Hold). option_or o (find frees (event_open_holds (before ++ later)))) (none_of_event e (before ++ later) parts.0)
      ∙ passed_over before later parts.1

  none_open : (events : List Event) → list_any opens events ≡ false → find frees (event_open_holds events) ≡ None
  none_open events h = ap (λ (l : List Event). find frees (event_open_holds l)) (sym (append-nil events)) ∙ passed_over events [] h

  -- what it would end was given
  opens_given : (e : Event) → gives release e ≡ false → opens e ≡ false
  opens_given (event.Tariff tariff) h = refl
  opens_given (event.Token token) h = refl
  opens_given (event.Authorised hold) h =
      by (same_party release.operator hold.operator) (same_party release.provider hold.provider) (same_folded release.reference hold.reference)
      (same_party hold.provider release.provider) (same_folded hold.reference release.reference)
      (λ e. party_turned release.provider hold.provider e) (λ e. folded_turned release.reference hold.reference e) h
    where
      by : (a b c p q : Bool) → (b ≡ true → p ≡ true) → (c ≡ true → q ≡ true) → ((p && q) || false) ≡ false → (a && b && c) ≡ false
      by false b c p q e f g = refl
      by true false c p q e f g = refl
      by true true false p q e f g = refl
      by true true true p q e f g =
          let one = e refl in let other = f refl in
          absurd (let clash : true ≡ false = sym (ap (λ x. (x && q) || false) one ∙ ap (λ x. (true && x) || false) other) ∙ g in cc)
  opens_given (event.Released other) h = refl
  opens_given (event.Cdr cdr cost) h = refl
  opens_given (event.Credit cdr amount) h = refl
  opens_given (event.Settled settlement) h = refl
  opens_given (event.Closed period) h = refl

  opens_none : (events : List Event) → list_any (gives release) events ≡ false → list_any opens events ≡ false
  opens_none [] h = refl
  opens_none (e ∷ events) h =
      let parts = both_false (gives release e) (list_any (gives release) events) h in
      ap (λ b. b || list_any opens events) (opens_given e parts.0) ∙ opens_none events parts.1

  -- ---- one hold and what comes after it

  module _ (base : Config) (events before : List Event) (hold : Hold) (after : List Event) (legal : IsLegal base events) (small : length events < 2 ^ 63)
      (whole : events ≡ before ++ event.Authorised hold ∷ after) (freed : frees hold ≡ true) where
    parts_of : (other : Hold) → frees other ≡ true → (same_party release.provider other.provider ≡ true) × (same_folded release.reference other.reference ≡ true)
    parts_of other h =
        let keys = both_are (same_party release.operator other.operator && same_party release.provider other.provider) (same_folded release.reference other.reference) h in
        ((both_are (same_party release.operator other.operator) (same_party release.provider other.provider) keys.0).1, keys.1)

    another_hold : (e : Event) → opens e ≡ true → (other : Hold) × (e ≡ event.Authorised other) × (frees other ≡ true)
    another_hold (event.Tariff tariff) h = absurd (cc)
    another_hold (event.Token token) h = absurd (cc)
    another_hold (event.Authorised other) h = (other, refl, h)
    another_hold (event.Released other) h = absurd (cc)
    another_hold (event.Cdr cdr cost) h = absurd (cc)
    another_hold (event.Credit cdr amount) h = absurd (cc)
    another_hold (event.Settled settlement) h = absurd (cc)
    another_hold (event.Closed period) h = absurd (cc)

    -- no later event opens a hold that the release would end
    opened_once : (l rest : List Event) → after ≡ l ++ rest → list_any opens l ≡ false
    opened_once l rest is = by (list_any opens l) refl
      where
        second : (place : ℕ) → position opens l ≡ Some place → ⊥
        second place first =
            let it = first_parts opens l place first in
            let (other, is_other, freed_other) = another_hold it.parts.item it.passes in
            let between = take place l in
            let more = drop (place + 1) l ++ rest in
            let later = before ++ event.Authorised hold ∷ between in
            let tail : after ≡ between ++ event.Authorised other ∷ more =
            is ∙ ap (λ (xs : List Event). xs ++ rest) (it.parts.whole ∙ ap (λ (e : Event). between ++ e ∷ drop (place + 1) l) is_other)
            ∙ append_assoc between (event.Authorised other ∷ drop (place + 1) l) rest in
            let all : events ≡ later ++ event.Authorised other ∷ more =
            whole ∙ ap (λ (xs : List Event). before ++ event.Authorised hold ∷ xs) tail
            ∙ sym (append_assoc before (event.Authorised hold ∷ between) (event.Authorised other ∷ more)) in
            let size : length events ≡ length later + length (event.Authorised other ∷ more) = ap length all ∙ length-append later (event.Authorised other ∷ more) in
            let mine = parts_of hold freed in
            let its = parts_of other freed_other in
            let provider : same_party hold.provider other.provider ≡ true =
            sym (party_along hold.provider release.provider other.provider its.0) ∙ party_turned release.provider hold.provider mine.0 in
            let reference : same_folded hold.reference other.reference ≡ true =
            sym (folded_along hold.reference release.reference other.reference its.1) ∙ folded_turned release.reference hold.reference mine.1 in
            other_reference base before hold between other (omega (arith, size, small))
            (given_there base before after (event.Authorised hold) events legal whole) (given_there base later more (event.Authorised other) events legal all) provider reference

        at_place : (place : Option ℕ) → position opens l ≡ place → is_some place ≡ true → true ≡ false
        at_place None e h = absurd (cc)
        at_place (Some place) e h = absurd (second place e)

        by : (b : Bool) → list_any opens l ≡ b → b ≡ false
        by false none = refl
        by true any = at_place (position opens l) refl (has_place opens l any)

-- ---- releases

abbrev numbered : ℕ → Event → Numbered
numbered number e = record { at = number; event = e }

ends_say : (reference : List ℕ) (e : Event) (why : HouseReason) → why_ended reference e ≡ Some why → refusal_by why ≡ Some refusal.UnknownHold
ends_say reference (event.Tariff tariff) why h = absurd (cc)
ends_say reference (event.Token token) why h = absurd (cc)
ends_say reference (event.Authorised hold) why h = absurd (cc)
ends_say reference (event.Released release) why h = let same : reason.ReleasedAlready reference ≡ why = cc in ap refusal_by (sym same)
ends_say reference (event.Cdr cdr cost) why h = let same : reason.UsedUp reference cdr.id ≡ why = cc in ap refusal_by (sym same)
ends_say reference (event.Credit cdr amount) why h = absurd (cc)
ends_say reference (event.Settled settlement) why h = absurd (cc)
ends_say reference (event.Closed period) why h = absurd (cc)

module _ (config : Config) (events : List Event) (release : Release) where
  open_is : (l : List Event) → released_hold (account_entries l) release ≡ find (frees release) (event_open_holds l)
  open_is l = ap (find (frees release)) (open_in_events 0 l)

  unknown_after : (l : List Event) → find (frees release) (event_open_holds l) ≡ None → said_by_house config l (command.Release release) ≡ Err refusal.UnknownHold
  unknown_after l h = ap (λ (o : Option Hold). (release_of config (known l) release o).reply) (open_is l ∙ h)

  -- the cause of the release by the event at a place
  abbrev told_at : ℕ → Option Event → Option HouseCause
  told_at place found =
      (found >>= λ e. Some (numbered place e)) >>= λ it. why_ended release.reference it.event >>= λ why. Some (by_event why it.at)

  abbrev told_of : List Event → Option ℕ → Option HouseCause
  told_of l place =
      (place >>= λ number. slice_get l number >>= λ e. Some (numbered number e)) >>= λ it. why_ended release.reference it.event >>= λ why. Some (by_event why it.at)

  when_room : (hold : Hold) (room : Option Store) → (unless (refused_at room ∷ []) (accepts (answer.Released (pos hold.amount)) (event.Released release))).reply ≡ Err refusal.UnknownHold → ⊥
  when_room hold None e = absurd (cc)
  when_room hold (Some what) e = absurd (cc)

  known_after : (l : List Event) → is_some (find (frees release) (event_open_holds l)) ≡ true → said_by_house config l (command.Release release) ≡ Err refusal.UnknownHold → ⊥
  known_after l h said = by (released_hold (account_entries l) release) (ap is_some (open_is l) ∙ h) said
    where
      by : (o : Option Hold) → is_some o ≡ true → (release_of config (known l) release o).reply ≡ Err refusal.UnknownHold → ⊥
      by None i e = absurd (cc)
      by (Some hold) i e = when_room hold _ e

  module _ (number : ℕ) (first : position (gives release) events ≡ Some number) (hold : Hold)
      (stands : slice_get events number ≡ Some (event.Authorised hold)) where
    abbrev before : List Event
    before = take number events

    abbrev after : List Event
    after = drop (number + 1) events

    none_before : list_any (gives release) before ≡ false
    none_before = (first_parts (gives release) events number first).none

    -- the cause of the release by the events up to a later one
    told_within : (m : ℕ) → number < m → slice_get (take m events) number ≡ Some (event.Authorised hold) → unknown_hold (take m events) release ≡ why_not_open (take m events) release number hold
    unfolding unknown_hold
    told_within m less there =
        ap (why_no_hold (take m events) release)
        (first_at (gives release) (take m events) number (event.Authorised hold) (first_within (gives release) events number m first less) there)

    not_given : (cause found : HouseCause) → by_event (reason.GivenToAnother release.reference hold.operator) number ≡ cause → found.reason ≡ cause.reason
        → unknown_hold before release ≡ Some found → ⊥
    unfolding unknown_hold
    not_given cause found same alike h =
        let never : Some (never_given release) ≡ Some found = sym (ap (why_no_hold before release) (first_before (gives release) events number first)) ∙ h in
        let it : never_given release ≡ found = cc in
        let clash : reason.NeverGiven release.reference ≡ reason.GivenToAnother release.reference hold.operator =
        ap (λ (c : HouseCause). c.reason) it ∙ alike ∙ ap (λ (c : HouseCause). c.reason) (sym same) in
        absurd (cc)

    another_named : same_party hold.operator release.operator ≡ false → (cause : HouseCause) → by_event (reason.GivenToAnother release.reference hold.operator) number ≡ cause
        → IsGivenByEvent config events (command.Release release) cause number
    another_named other cause same =
        let says : refusal_by cause.reason ≡ Some refusal.UnknownHold = ap (λ (c : HouseCause). refusal_by c.reason) (sym same) in
        let upto = take (number + 1) events in
        let it = parts_at events number (event.Authorised hold) stands in
        let ends_here : upto ≡ before ++ event.Authorised hold ∷ [] = it.0.upto ∙ ap (λ (e : Event). before ++ e ∷ []) it.1 in
        let there : slice_get upto number ≡ Some (event.Authorised hold) = it.0.stands_upto ∙ ap (λ (e : Event). Some e) it.1 in
        let not_freed : frees release hold ≡ false =
        ap (λ b. b && same_party release.provider hold.provider && same_folded release.reference hold.reference) (party_symm release.operator hold.operator ∙ other) in
        let none : list_any (opens release) upto ≡ false =
        ap (list_any (opens release)) ends_here ∙ list_any-append (opens release) before (event.Authorised hold ∷ [])
        ∙ ap (λ b. b || (frees release hold || false)) (opens_none release before none_before) ∙ ap (λ b. b || false) not_freed in
        record {
          before = λ found h alike. not_given cause found same alike (refused_so config before (command.Release release) cause found refusal.UnknownHold says h alike);
          with_it = ap (cause_of config upto (command.Release release)) (unknown_after upto (none_open release upto none))
              ∙ told_within (number + 1) (omega arith) there
              ∙ ap (λ b. if b then ended upto release number hold else Some (by_event (reason.GivenToAnother release.reference hold.operator) number)) other
              ∙ ap (λ (c : HouseCause). Some c) same;
        }

    module _ (base : Config) (legal : IsLegal base events) (small : length events < 2 ^ 63) (freed : frees release hold ≡ true) where
      whole : events ≡ before ++ event.Authorised hold ∷ after
      whole =
          let it = parts_at events number (event.Authorised hold) stands in
          it.0.whole ∙ ap (λ (e : Event). before ++ e ∷ after) it.1

      -- the first event after the hold's that ends it
      module _ (k : ℕ) (end_at : position (ends hold) after ≡ Some k) where
        abbrev place : ℕ
        place = number + 1 + k

        upto_end : take (place + 1) events ≡ before ++ event.Authorised hold ∷ take (k + 1) after
        upto_end =
            let counted : number + 1 + k + 1 ≡ number + 1 + (k + 1) = omega arith in
            ap (λ m. take m events) counted ∙ take_past events number (k + 1) (event.Authorised hold) stands

        -- before it the hold is open
        open_before : is_some (find (frees release) (event_open_holds (take place events))) ≡ true
        open_before =
            let rest = event_open_holds (take k after) in
            ap (λ (l : List Event). is_some (find (frees release) (event_open_holds l))) (take_past events number k (event.Authorised hold) stands)
            ∙ ap is_some (passed_over release before (event.Authorised hold ∷ take k after) (opens_none release before none_before))
            ∙ ap (λ b. is_some (find (frees release) ((if b then [] else hold ∷ []) ++ rest))) (first_parts (ends hold) after k end_at).none
            ∙ ap (λ b. is_some (cond b (Some hold) (find (frees release) rest))) freed

        -- with it no such hold is open
        none_open_with : find (frees release) (event_open_holds (take (place + 1) events)) ≡ None
        none_open_with =
            let later = take (k + 1) after in
            ap (λ (l : List Event). find (frees release) (event_open_holds l)) upto_end
            ∙ passed_over release before (event.Authorised hold ∷ later) (opens_none release before none_before)
            ∙ ap (λ b. find (frees release) ((if b then [] else hold ∷ []) ++ event_open_holds later))
            (any_first (ends hold) later k (first_upto (ends hold) after k end_at))
            ∙ none_open release later (opened_once release base events before hold after legal small whole freed later (drop (k + 1) after) (first_parts (ends hold) after k end_at).parts.split)

        same_end : (cause : HouseCause) → ended events release number hold ≡ Some cause → ended (take (place + 1) events) release number hold ≡ Some cause
        same_end cause h =
            let it = (first_parts (ends hold) after k end_at).parts in
            let upto = take (place + 1) events in
            let counted : number + 1 + k + 1 ≡ number + 1 + (k + 1) = omega arith in
            let dropped : drop (number + 1) upto ≡ take (k + 1) after = ap (λ m. drop (number + 1) (take m events)) counted ∙ drop_taken events (number + 1) (k + 1) in
            let position_is : position_after (ends hold) number upto ≡ position_after (ends hold) number events =
            ap (λ (l : List Event). option_map (λ further. number + 1 + further) (position (ends hold) l)) dropped
            ∙ ap (option_map (λ further. number + 1 + further)) (first_upto (ends hold) after k end_at ∙ sym end_at) in
            let place_is : position_after (ends hold) number events ≡ Some place = ap (option_map (λ further. number + 1 + further)) end_at in
            let there : slice_get events place ≡ Some it.item = sym (slice_get-drop (number + 1) events k) ∙ it.stands in
            let there_too : slice_get upto place ≡ Some it.item =
            sym (slice_get-drop (number + 1) upto k) ∙ ap (λ (l : List Event). slice_get l k) dropped ∙ it.stands_upto in
            ap (told_of upto) (position_is ∙ place_is) ∙ ap (told_at place) (there_too ∙ sym there) ∙ ap (told_of events) (sym place_is) ∙ h

        ended_named : same_party hold.operator release.operator ≡ true → (cause : HouseCause) → refusal_by cause.reason ≡ Some refusal.UnknownHold
            → ended events release number hold ≡ Some cause → IsGivenByEvent config events (command.Release release) cause place
        ended_named operator cause says is =
            let upto = take (place + 1) events in
            let there : slice_get upto number ≡ Some (event.Authorised hold) =
            ap (λ (l : List Event). slice_get l number) upto_end ∙ at_end before (event.Authorised hold) (take (k + 1) after) number (taken_length events number (event.Authorised hold) stands) in
            record {
              before = λ found. not_for_this config (take place events) (command.Release release) cause found refusal.UnknownHold says (known_after (take place events) open_before);
              with_it = ap (cause_of config upto (command.Release release)) (unknown_after upto none_open_with)
                  ∙ told_within (place + 1) (omega arith) there
                  ∙ ap (λ b. if b then ended upto release number hold else Some (by_event (reason.GivenToAnother release.reference hold.operator) number)) operator
                  ∙ same_end cause is;
            }

  unknown_named : (base : Config) → IsLegal base events → length events < 2 ^ 63 → (cause : HouseCause) (place : ℕ)
      → unknown_hold events release ≡ Some cause → cause.event ≡ Some place → IsGivenByEvent config events (command.Release release) cause place
  unfolding unknown_hold
  unknown_named base legal small cause place h named = by (position (gives release) events) refl
    where
      of_why : (e : Event) (n : ℕ) (why : Option HouseReason) → why_ended release.reference e ≡ why → (why >>= λ it. Some (by_event it n)) ≡ Some cause
          → (cause.event ≡ Some n) × (refusal_by cause.reason ≡ Some refusal.UnknownHold)
      of_why e n None is found = absurd (cc)
      of_why e n (Some why) is found =
          let same : by_event why n ≡ cause = cc in
          (ap (λ (c : HouseCause). c.event) (sym same), ap (λ (c : HouseCause). refusal_by c.reason) (sym same) ∙ ends_say release.reference e why is)

      when_ended : (number : ℕ) → position (gives release) events ≡ Some number → (hold : Hold) → slice_get events number ≡ Some (event.Authorised hold)
          → frees release hold ≡ true → same_party hold.operator release.operator ≡ true → ended events release number hold ≡ Some cause
          → (k : Option ℕ) → position (ends hold) (drop (number + 1) events) ≡ k → IsGivenByEvent config events (command.Release release) cause place
      when_ended number first hold stands freed operator e None is =
          absurd (let none : None ≡ Some cause = sym (ap (λ (o : Option ℕ). told_of events (option_map (λ further. number + 1 + further) o)) is) ∙ e in cc)
      when_ended number first hold stands freed operator e (Some k) is =
          let it = (first_parts (ends hold) (drop (number + 1) events) k is).parts in
          let there : slice_get events (number + 1 + k) ≡ Some it.item = sym (slice_get-drop (number + 1) events k) ∙ it.stands in
          let found : told_at (number + 1 + k) (Some it.item) ≡ Some cause =
          sym (ap (λ (o : Option ℕ). told_of events (option_map (λ further. number + 1 + further) o)) is ∙ ap (told_at (number + 1 + k)) there) ∙ e in
          let its = of_why it.item (number + 1 + k) (why_ended release.reference it.item) refl found in
          let places : Some (number + 1 + k) ≡ Some place = sym its.0 ∙ named in
          let same : number + 1 + k ≡ place = cc in
          subst (IsGivenByEvent config events (command.Release release) cause) same
          (ended_named number first hold stands base legal small freed k is operator cause its.1 e)

      when_given : (number : ℕ) → position (gives release) events ≡ Some number → (hold : Hold) → slice_get events number ≡ Some (event.Authorised hold)
          → same_party hold.provider release.provider ≡ true → same_folded hold.reference release.reference ≡ true
          → (operator : Bool) → same_party hold.operator release.operator ≡ operator
          → (if operator then ended events release number hold else Some (by_event (reason.GivenToAnother release.reference hold.operator) number)) ≡ Some cause
          → IsGivenByEvent config events (command.Release release) cause place
      when_given number first hold stands provider reference true is e =
          let freed : frees release hold ≡ true =
          and_from (same_party release.operator hold.operator && same_party release.provider hold.provider) (same_folded release.reference hold.reference)
          (and_from (same_party release.operator hold.operator) (same_party release.provider hold.provider) (party_turned hold.operator release.operator is) (party_turned hold.provider release.provider provider))
          (folded_turned hold.reference release.reference reference) in
          when_ended number first hold stands freed is e (position (ends hold) (drop (number + 1) events)) refl
      when_given number first hold stands provider reference false is e =
          let same : by_event (reason.GivenToAnother release.reference hold.operator) number ≡ cause = cc in
          let places : Some number ≡ Some place = ap (λ (c : HouseCause). c.event) same ∙ named in
          let here : number ≡ place = cc in
          subst (IsGivenByEvent config events (command.Release release) cause) here (another_named number first hold stands is cause same)

      by : (found : Option ℕ) → position (gives release) events ≡ found → IsGivenByEvent config events (command.Release release) cause place
      by None is =
          let none : Some (never_given release) ≡ Some cause = sym (ap (why_no_hold events release) (no_first (gives release) events is)) ∙ h in
          let same : never_given release ≡ cause = cc in
          absurd (no_event (never_given release) cause place same refl named)
      by (Some number) is =
          let it = first_parts (gives release) events number is in
          let one = given release it.parts.item it.passes in
          let stands : slice_get events number ≡ Some (event.Authorised one.hold) = it.parts.stands ∙ ap (λ (e : Event). Some e) one.is in
          let told : (hold_of (event.Authorised one.hold) >>= λ hold. why_not_open events release number hold) ≡ Some cause =
          sym (ap (why_no_hold events release) (first_at (gives release) events number (event.Authorised one.hold) is stands)) ∙ h in
          when_given number is one.hold stands one.provider one.reference (same_party one.hold.operator release.operator) refl told

  pub release_named : (base : Config) → IsLegal base events → length events < 2 ^ 63 → NamesItsEvent config events (command.Release release)
  release_named base legal small cause place h named = by (released_hold (account_entries events) release) h
    where
      when_open : (hold : Hold) (room : Option Store)
          → cause_of config events (command.Release release) (unless (refused_at room ∷ []) (accepts (answer.Released (pos hold.amount)) (event.Released release))).reply ≡ Some cause
          → IsGivenByEvent config events (command.Release release) cause place
      when_open hold None e = absurd (cc)
      when_open hold (Some what) e =
          let same : full config (command.Release release) what ≡ cause = cc in absurd (no_event (full config (command.Release release) what) cause place same refl named)

      by : (o : Option Hold) → cause_of config events (command.Release release) (release_of config (known events) release o).reply ≡ Some cause
          → IsGivenByEvent config events (command.Release release) cause place
      by None e = unknown_named base legal small cause place e named
      by (Some hold) e = when_open hold _ e
