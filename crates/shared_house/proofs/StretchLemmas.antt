-- A call that entry books find to stand.
use Rattle.std.proofs.Common.{All, ◌≡◌, ℕ, zero, suc, map, ◌+◌, ◌-◌, ◌<◌, ◌≤◌, List, [], ◌∷◌, ◌++◌, true, false, refl, sym, ap, ap₂, ◌∙◌, subst, arith, append_assoc, get_or, length, take, drop, slice_get, Option, Some, None, IfSome, Result, Ok, IfOk, is_some}
use Rattle.std.proofs.lemmas.List.{take-append-drop, take_more}
use Rattle.ocpi_types.specs.declared.config.Config.{Config}
use Rattle.ocpi_types.specs.declared.refusal.Refusal.{Refusal}
use Rattle.cdr_checks.specs.declared.request.Command.TheVariants as command
use Rattle.cdr_checks.specs.declared.request.StatementOf.{StatementOf}
use Rattle.cdr_checks.specs.Admission.{IsAdmitted}
use Rattle.netting_positions.specs.declared.obligation.Obligation.{Obligation}
use Rattle.netting_positions.specs.declared.positions.NetPosition.{NetPosition}
use Rattle.netting_positions.specs.declared.row.StatementRow.{StatementRow}
use Rattle.netting_positions.specs.Netting.{net_positions, parties}
use Rattle.netting_positions.specs.Statement.{statement_rows}
use Rattle.plain_house.specs.declared.answer.Answer.{Answer}
use Rattle.plain_house.specs.declared.answer.Answer.TheVariants as answer
use Rattle.plain_house.specs.declared.event.Event.{Event}
use Rattle.plain_house.specs.declared.event.Event.TheVariants as event
use Rattle.plain_house.specs.Entries.{book_entries, period_of}
use Rattle.plain_house.specs.House.{events_after, positions_in, reply_of, verdict}
use Rattle.plain_house.specs.Known.{known}
use Rattle.plain_house.specs.Laws.{RepliesTellEvents, adds_event, tells_event}
use Rattle.plain_house.specs.Legal.{EventsAreOfConfigured, IsLegal, LegalListsBeginLegally}
use Rattle.plain_house.specs.Obligations.{ClosedPeriodsStay, obligations}
use Rattle.plain_house.specs.Replies.{stamped, with_event}
use Rattle.plain_house.specs.Verdict.{Verdict}
use Rattle.plain_house.proofs.DatedLemmas.{period_of-push}
use Rattle.period_order.specs.declared.decided.Decided.{Decided}
use Rattle.period_order.specs.declared.decided.Outcome.{Outcome}
use Rattle.period_order.specs.declared.decided.Outcome.TheVariants as outcome
use Rattle.period_order.specs.Decided.{verdict_with}
use Rattle.period_order.specs.EntryBooks.{IsDecided}
use Rattle.shared_house.specs.declared.certifying.turn.Turn.{Turn}
use Rattle.shared_house.specs.declared.call.Call.{Call}
use Rattle.shared_house.specs.Points.{AreAllAdmitted, point_of_reply}
use Rattle.shared_house.specs.History.{Stands, events_before}
use Rattle.shared_house.specs.Inner.Stretches.{Agrees, AgreesAt}
use Rattle.shared_house.specs.Inner.Tables.{HasRightTable}
use Rattle.shared_house.specs.Inner.Turns.{AreTurns, plain_turn}
use Rattle.shared_house.proofs.ReplayLemmas.{plain_at, turn_admitted, within_plain}
use Rattle.shared_house.proofs.StandLemmas.{if_ok, if_some, last_pushed, same_option, stands_silent, take_next}

-- ---- periods

closed_behind : (before : List Event) (period : ℕ) → period ≡ period_of before → period < period_of (before ++ event.Closed period ∷ [])
closed_behind before period same = omega (arith, period_of-push before (event.Closed period), same)

-- what stands behind a closed period leaves what is owed in it
owed_stays : ClosedPeriodsStay → (events before later : List Event) (period : ℕ) → events ≡ before ++ later → period < period_of before
    → obligations period (book_entries events) ≡ obligations period (book_entries before)
owed_stays stay events before later period split closed = ap (λ (l : List Event). obligations period (book_entries l)) split ∙ stay before later period closed

none_added : (before : List Event) (added : Option Event) → is_some added ≡ false → with_event before added ≡ before
none_added before None h = refl
none_added before (Some e) h = absurd (cc)

-- ---- events put one after another

pub put_more : (before events : List Event) (i : ℕ) (e : Event) → i < length events → e ≡ get_or events i e → (before ++ take i events) ++ e ∷ [] ≡ before ++ take (i + 1) events
put_more before events i e within is =
    append_assoc before (take i events) (e ∷ [])
    ∙ ap (λ (x : Event). before ++ (take i events ++ x ∷ [])) is ∙ ap (λ (l : List Event). before ++ l) (sym (take_more events i e within))

pub still_legal : LegalListsBeginLegally → (config : Config) (before events : List Event) (i : ℕ) (e : Event) → i < length events → e ≡ get_or events i e → IsLegal config (before ++ events)
    → IsLegal config ((before ++ take i events) ++ e ∷ [])
still_legal begin config before events i e within is legal =
    subst (IsLegal config) (sym (put_more before events i e within is))
    (begin config (before ++ take (i + 1) events) (drop (i + 1) events)
    (subst (IsLegal config) (ap (λ (l : List Event). before ++ l) (sym (take-append-drop (i + 1) events)) ∙ sym (append_assoc before (take (i + 1) events) (drop (i + 1) events))) legal))

-- ---- one call

module _ (tells : RepliesTellEvents) (stay : ClosedPeriodsStay) (configured : EventsAreOfConfigured) (config : Config) (events : List Event) (call : Call) (decided : Decided)
    (admitted : IsAdmitted config call.command) (within : point_of_reply call.reply ≤ length events)
    (is : IsDecided config (events_before events call) call.command decided) (agrees : Agrees decided call.reply) (right : HasRightTable config events call) where
  abbrev point : ℕ
  point = point_of_reply call.reply

  abbrev before : List Event
  before = events_before events call

  abbrev spoken : Verdict
  spoken = verdict config (known before) call.command

  abbrev after : List Event
  after = events_after config before call.command

  abbrev IsAnswered : Type 0
  IsAnswered = call.reply ≡ reply_of config before call.command

  replied : (told : Result Answer Refusal) → call.reply ≡ stamped decided.point told → spoken.reply ≡ told → IsAnswered
  replied told reply same = reply ∙ ap₂ stamped is.point_is (sym same)

  netted : (period : ℕ) (told : List NetPosition) → call.reply ≡ Ok (record { at = decided.point; answer = answer.Closed period told })
      → spoken.reply ≡ Ok (answer.Closed period (positions_in config (book_entries after) period))
      → (later : List Event) → events ≡ after ++ later → period < period_of after → IsAnswered
  netted period told reply same later split closed =
      let now : told ≡ positions_in config (book_entries after) period =
      right.positions decided.point period told reply
      ∙ ap (λ (l : List Obligation). net_positions (parties config) config.currencies l) (owed_stays stay events after later period split closed) in
      replied (Ok (answer.Closed period told)) reply (same ∙ ap (λ (l : List NetPosition). Ok (answer.Closed period l)) (sym now))

  stated : (ask : StatementOf) (told : List StatementRow) → call.command ≡ command.Statement ask → call.reply ≡ Ok (record { at = decided.point; answer = answer.Statement told })
      → spoken.reply ≡ Ok (answer.Statement (statement_rows ask.party (obligations ask.period (book_entries after))))
      → (later : List Event) → events ≡ after ++ later → ask.period < period_of after → IsAnswered
  stated ask told asked reply same later split closed =
      let now : told ≡ statement_rows ask.party (obligations ask.period (book_entries after)) =
      right.rows decided.point ask told asked reply
      ∙ ap (statement_rows ask.party) (owed_stays stay events after later ask.period split closed) in
      replied (Ok (answer.Statement told)) reply (same ∙ ap (λ (l : List StatementRow). Ok (answer.Statement l)) (sym now))

  -- ---- a call that adds no event

  module _ (none : adds_event call.reply ≡ false) where
    answered_silent : IsAnswered
    answered_silent = by decided.outcome refl agrees is.reply_is
      where
        by : (o : Outcome) → decided.outcome ≡ o → AgreesAt decided.point o call.reply → spoken.reply ≡ (verdict_with config (book_entries after) o).reply → IsAnswered
        by (outcome.Replied told event) e agreed same = replied told agreed same
        by (outcome.Closed period) e agreed same = let wrong : false ≡ true = sym none ∙ ap adds_event agreed.1 in absurd (cc)
        by (outcome.Stated ask) e agreed same =
            let own = is.states ask e in
            let still : after ≡ before = none_added before spoken.event (tells config (known before) call.command ∙ ap tells_event same) in
            stated ask agreed.0 own.0 agreed.1 same (drop point events)
            (sym (take-append-drop point events) ∙ ap (λ (l : List Event). l ++ drop point events) (sym still))
            (subst (λ (l : List Event). ask.period < period_of l) (sym still) own.1)

    pub stands_without : Stands config events call
    stands_without = stands_silent tells config events call within answered_silent (ap adds_event (sym answered_silent) ∙ none)

  -- ---- a call that adds the next event

  module _ (some : adds_event call.reply ≡ true) (next : Event) (is_next : slice_get events point ≡ Some next) (is_last : slice_get after (length after - 1) ≡ Some next) where
    -- the event that is added is the next
    added_is : (added : Event) → spoken.event ≡ Some added → added ≡ next
    added_is added own =
        same_option added next
        (sym (last_pushed before added) ∙ ap (λ (o : Option Event). slice_get (with_event before o) (length (with_event before o) - 1)) (sym own) ∙ is_last)

    answered_adding : IsAnswered
    answered_adding = by decided.outcome refl agrees is.reply_is
      where
        by : (o : Outcome) → decided.outcome ≡ o → AgreesAt decided.point o call.reply → spoken.reply ≡ (verdict_with config (book_entries after) o).reply → IsAnswered
        by (outcome.Replied told event) e agreed same = replied told agreed same
        by (outcome.Closed period) e agreed same =
            let own : spoken.event ≡ Some (event.Closed period) = is.closes period e in
            let pushed : after ≡ before ++ event.Closed period ∷ [] = ap (with_event before) own in
            let here : slice_get events point ≡ Some (event.Closed period) = is_next ∙ ap Some (sym (added_is (event.Closed period) own)) in
            let current : period ≡ period_of before = configured config (known before) (event.Closed period) (call.command, admitted, own) in
            netted period agreed.0 agreed.1 same (drop (point + 1) events)
            (sym (take-append-drop (point + 1) events) ∙ ap (λ (l : List Event). l ++ drop (point + 1) events) (sym (pushed ∙ take_next point events (event.Closed period) here)))
            (subst (λ (l : List Event). period < period_of l) (sym pushed) (closed_behind before period current))
        by (outcome.Stated ask) e agreed same = let wrong : true ≡ false = sym some ∙ ap adds_event agreed.1 in absurd (cc)

    pub stands_with_next : Stands config events call
    stands_with_next = record {
      within = within;
      reply_is = answered_adding;
      event_is = by spoken.event refl;
    }
      where
        by : (o : Option Event) → spoken.event ≡ o → IfSome o (λ added. slice_get events point ≡ Some added)
        by None e = tt
        by (Some added) e = is_next ∙ ap Some (sym (added_is added e))

-- ---- the commands of turns

same_at : {X : Type 0} (xs : List X) (k : ℕ) (d e : X) → k < length xs → get_or xs k d ≡ get_or xs k e
same_at [] k d e within = absurd (omega (arith, within))
same_at (x ∷ xs) zero d e within = refl
same_at (x ∷ xs) (suc k) d e within = same_at xs k d e (omega (arith, within))

pub all_admitted : (config : Config) (events : List Event) (passes : List (List Call)) (xs : List Turn) → AreTurns passes (map plain_turn xs) → AreAllAdmitted config passes
    → All (λ turn. IsAdmitted config turn.call.now.command) xs
all_admitted config events passes xs are admitted = λ k d within.
    let turn : Turn = get_or xs k d in
    turn_admitted config events passes (map plain_turn xs) are k (plain_turn turn) (within_plain xs k within) (plain_at xs k turn within (same_at xs k d turn within)) admitted

-- ---- what is found of stretches

pub all_more : {X E : Type 0} (P Q : X → Type 0) → ((x : X) → P x → Q x) → (found : List (Result (Option X) E))
    → All (λ r. IfOk r (λ o. IfSome o P)) found → All (λ r. IfOk r (λ o. IfSome o Q)) found
all_more P Q more found all = λ k d within. if_ok (get_or found k d) (λ o. IfSome o P) (λ o. IfSome o Q) (λ o. if_some o P Q more) (all k d within)
