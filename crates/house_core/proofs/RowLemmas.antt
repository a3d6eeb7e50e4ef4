-- The steps of a command's row end its call.
use Rattle.std.proofs.Common.{◌≡◌, ◌≢◌, ◌⊎◌, ◌||◌, ◌&&◌, inl, inr, ℕ, zero, suc, List, [], ◌∷◌, ◌++◌, Bool, true, false, true≢false, if◌then◌else◌, refl, sym, ap, ap₂, subst, ◌∙◌, length, map, replicate, append-nil, Option, None, Some, Ok, is_none, option_map, option_to_list, slice_get, slice_set, arith, ⊎_elim}
use Rattle.std.specs.Option.{option_and_then}
use Rattle.std.proofs.lemmas.Option.{none-some, same_Some}
use Rattle.ocpi_types.specs.declared.config.Config.{Config}
use Rattle.ocpi_types.specs.declared.config.Operator.{Operator}
use Rattle.cdr_checks.specs.declared.request.Command.{Command}
use Rattle.netting_positions.specs.Netting.{net_positions}
use Rattle.netting_positions.specs.State.{PlainPositions, PlainStatement}
use Rattle.netting_positions.specs.Statement.{statement_rows}
use Rattle.plain_house.specs.declared.answer.Answer.TheVariants as answer
use Rattle.plain_house.specs.declared.entry.AccountEntry.{AccountEntry}
use Rattle.plain_house.specs.declared.entry.BookEntry.{BookEntry}
use Rattle.plain_house.specs.House.{verdict}
use Rattle.plain_house.specs.Known.{Known}
use Rattle.plain_house.specs.Replies.{Reply, stamped}
use Rattle.plain_house.specs.Verdict.{Verdict}
use Rattle.period_order.specs.declared.decided.Outcome.{Outcome}
use Rattle.period_order.specs.declared.decided.Outcome.TheVariants as outcome
use Rattle.period_order.specs.Decided.{event_of, outcome_of, replied_by}
use Rattle.period_order.specs.Places.{order_entry}
use Rattle.house_core.specs.declared.running_call.RunningCall.{RunningCall}
use Rattle.house_core.specs.declared.running_call.ReplyDue.{ReplyDue}
use Rattle.house_core.specs.declared.finished.Done.TheVariants as done
use Rattle.house_core.specs.declared.finished.Finished.{Finished}
use Rattle.house_core.specs.declared.stage.Carried.{Carried}
use Rattle.house_core.specs.declared.stage.Stage.{Stage}
use Rattle.house_core.specs.declared.stage.Stage.TheVariants as stage
use Rattle.house_core.specs.declared.step.Action.{Action}
use Rattle.house_core.specs.declared.step.Action.TheVariants as action
use Rattle.house_core.specs.Calls.{collects, ready, reply_due, reply_due_at}
use Rattle.house_core.specs.Collections.{is_complete, is_open, no_positions, no_statement, positions_with, statement_with, sums}
use Rattle.house_core.specs.Locks.{Lock, held, lock_at}
use Rattle.house_core.specs.OneHouse.{after, finished}
use Rattle.house_core.specs.Rows.{by_account, by_all_books, by_book, by_both, steps_of}
use Rattle.house_core.specs.Steps.{Change, change_by, changed, collect_at, collected, end, ended, ended_by, finishes, known_to, of_account, of_book, of_call, order, put_account, put_book, stage_after, step, take_account, take_book}
use Rattle.house_core.specs.World.{PlainWorld}
use Rattle.house_core.proofs.Placing.{outcome_is}
use Rattle.house_core.proofs.StepLemmas.{no_lock, stepped}
use Rattle.house_core.proofs.Wholes.{get-set_same}

-- the steps end the call that began at such a number of events, with a reply of such a point
pub record Ends (world : PlainWorld) (number begin point : ℕ) (actions : List Action) : Type 0 where
  pub reply : Reply
  pub ended : finished world (steps_of number actions) ≡ record { call = number; begin = begin; end = length (after world (steps_of number actions)).order; done = done.Answered point reply } ∷ []

abbrev pub call_at : Option ℕ → Option ℕ → Bool → Bool → ℕ → Stage → RunningCall
call_at book account has_book has_account begin s = record { book = book; account = account; has_book = has_book; has_account = has_account; begin = begin; stage = s }

module _ (world : PlainWorld) (number : ℕ) (call : RunningCall) (is : slice_get world.calls number ≡ Some call) (begin point : ℕ) where
  tells : (a : Action) → finishes world (record { call = number; action = a }) ≡ ended_by world number call a
  tells a = ap (option_and_then (λ (c : RunningCall). ended_by world number c a)) is

  -- one action, and the rest
  goes : (a : Action) (now : PlainWorld) (rest : List Action) → changed world number (change_by world number call a) ≡ now → ended_by world number call a ≡ None
      → Ends now number begin point rest → Ends world number begin point (a ∷ rest)
  goes a now rest e quiet onward =
      let it : Ends (step world (record { call = number; action = a })) number begin point rest = subst (λ (w : PlainWorld). Ends w number begin point rest) (sym (stepped world number call a is ∙ e)) onward in
      record {
        reply = it.reply;
        ended = ap (λ (o : Option Finished). option_to_list o ++ finished (step world (record { call = number; action = a })) (steps_of number rest)) (tells a ∙ quiet) ∙ it.ended;
      }

  pub moves : (a : Action) (change : Change) (rest : List Action) → change_by world number call a ≡ Some change → ended_by world number call a ≡ None
      → Ends (changed world number (Some change)) number begin point rest → Ends world number begin point (a ∷ rest)
  moves a change rest e quiet onward = goes a (changed world number (Some change)) rest (ap (changed world number) e) quiet onward

  pub stays : (a : Action) (rest : List Action) → change_by world number call a ≡ None → ended_by world number call a ≡ None
      → Ends world number begin point rest → Ends world number begin point (a ∷ rest)
  stays a rest e quiet onward = goes a world rest (ap (changed world number) e) quiet onward

  -- the last
  pub ends : (due : ReplyDue) → reply_due call ≡ Some due → call.begin ≡ begin → due.point ≡ point → Ends world number begin point (action.End ∷ [])
  ends due is_due began at =
      let now : PlainWorld = step world (record { call = number; action = action.End }) in
      let same : length now.order ≡ length world.order =
      ap (λ (w : PlainWorld). length w.order) (stepped world number call action.End is ∙ ap (λ (o : Option ReplyDue). changed world number (option_map (λ (t : ReplyDue). end call) o)) is_due)
      ∙ ap length (append-nil world.order) in
      record {
        reply = stamped due.point due.reply;
        ended =
            ap (λ (o : Option Finished). option_to_list o ++ [])
            (tells action.End ∙ ap (option_map (λ (t : ReplyDue). ended world number call (done.Answered t.point (stamped t.point t.reply)))) is_due)
            ∙ (λ i. record { call = number; begin = began i; end = sym same i; done = done.Answered (at i) (stamped due.point due.reply) } ∷ []);
      }

-- ---- putting

module _ (number begin point : ℕ) where
  -- behind the order, with nothing to put any more
  ends_put : (world : PlainWorld) (book account : Option ℕ) (carried : Carried) → slice_get world.calls number ≡ Some (call_at book account false false begin (stage.Ordered carried))
      → carried.point ≡ point → Ends world number begin point (action.End ∷ [])
  ends_put world book account carried is at =
      ends world number (call_at book account false false begin (stage.Ordered carried)) is begin point (record { point = carried.point; reply = carried.reply }) refl refl at

  ends_by_book : (world : PlainWorld) (at : ℕ) (account : Option ℕ) (lock : Lock BookEntry) (carried : Carried)
      → slice_get world.calls number ≡ Some (call_at (Some at) account true false begin (stage.Ordered carried)) → slice_get world.books at ≡ Some lock
      → carried.point ≡ point → Ends world number begin point (action.PutBook ∷ action.End ∷ [])
  ends_by_book world at account lock carried is here same =
      let call : RunningCall = call_at (Some at) account true false begin (stage.Ordered carried) in
      let change : Change = put_book call carried lock in
      moves world number call is begin point action.PutBook change (action.End ∷ []) (ap (option_map (put_book call carried)) here) refl
      (ends_put (changed world number (Some change)) (Some at) account (record { point = carried.point; period = carried.period; reply = carried.reply; event = None })
      (get-set_same world.calls number change.call call is) same)

  ends_by_account : (world : PlainWorld) (book : Option ℕ) (at : ℕ) (has_book : Bool) (lock : Lock AccountEntry) (carried : Carried) (rest : List Action)
      → slice_get world.calls number ≡ Some (call_at book (Some at) has_book true begin (stage.Ordered carried)) → slice_get world.accounts at ≡ Some lock
      → ((now : PlainWorld) → slice_get now.calls number ≡ Some (call_at book (Some at) has_book false begin (stage.Ordered carried)) → now.books ≡ world.books → Ends now number begin point rest)
      → Ends world number begin point (action.PutAccount ∷ rest)
  ends_by_account world book at has_book lock carried rest is here onward =
      let call : RunningCall = call_at book (Some at) has_book true begin (stage.Ordered carried) in
      let change : Change = put_account call carried lock in
      moves world number call is begin point action.PutAccount change rest (ap (option_map (put_account call carried)) here) refl
      (onward (changed world number (Some change)) (get-set_same world.calls number change.call call is) (no_lock world.books book))

  -- ---- the order, of a command that collects no books

  module _ (own : Command) (entry : collects own ≡ false) (book account : Option ℕ) (has_book has_account : Bool)
      (its_book : (is_none book || has_book) ≡ true) (its_account : (is_none account || has_account) ≡ true) where
    abbrev begun_call : RunningCall
    begun_call = call_at book account has_book has_account begin (stage.Begun own)

    orders_entry : (world : PlainWorld) (rest : List Action) → slice_get world.calls number ≡ Some begun_call → length world.order ≡ point
        → ((now : PlainWorld) (carried : Carried) → slice_get now.calls number ≡ Some (call_at book account has_book has_account begin (stage.Ordered carried)) → carried.point ≡ point
        → now.books ≡ world.books → now.accounts ≡ world.accounts → Ends now number begin point rest)
        → Ends world number begin point (action.Order ∷ rest)
    orders_entry world rest is at onward =
        let known : Known = known_to world begun_call in
        let judged : Verdict = verdict world.config known own in
        let carried : Carried = record { point = known.point; period = known.period; reply = judged.reply; event = judged.event } in
        let by_outcome : Outcome → Change = λ o. record {
          call = record begun_call { stage = stage_after world.config known o };
          book = None;
          account = None;
          entry = option_map (order_entry world.config (length known.book) (length known.account)) (event_of o);
        } in
        let change : Change = by_outcome (replied_by judged) in
        let is_ready : ready begun_call ≡ Some own = ap₂ (λ (b c : Bool). if b && c then Some own else None) its_book its_account in
        moves world number begun_call is begin point action.Order change rest
        (ap (option_map (order world.config known begun_call)) is_ready ∙ ap (λ (o : Outcome). Some (by_outcome o)) (outcome_is world.config known own entry)) refl
        (onward (changed world number (Some change)) carried (get-set_same world.calls number change.call begun_call is) at (no_lock world.books book) (no_lock world.accounts account))

  -- ---- taking locks

  takes_the_book : (world : PlainWorld) (own : Command) (at : ℕ) (account : Option ℕ) (lock : Lock BookEntry) (rest : List Action)
      → slice_get world.calls number ≡ Some (call_at (Some at) account false false begin (stage.Begun own)) → slice_get world.books at ≡ Some lock → lock.holder ≡ None
      → ((now : PlainWorld) → slice_get now.calls number ≡ Some (call_at (Some at) account true false begin (stage.Begun own)) → slice_get now.books at ≡ Some (held number lock)
      → now.accounts ≡ world.accounts → length now.order ≡ length world.order → Ends now number begin point rest)
      → Ends world number begin point (action.TakeBook ∷ rest)
  takes_the_book world own at account lock rest is here free onward =
      let call : RunningCall = call_at (Some at) account false false begin (stage.Begun own) in
      let change : Change = of_book (call_at (Some at) account true false begin (stage.Begun own)) (held number lock) in
      moves world number call is begin point action.TakeBook change rest
      (ap (option_and_then (take_book number call)) here ∙ ap (λ (h : Option ℕ). if is_none h then Some change else None) free) refl
      (onward (changed world number (Some change)) (get-set_same world.calls number change.call call is) (get-set_same world.books at (held number lock) lock here)
      (no_lock world.accounts account) (ap length (append-nil world.order)))

  takes_the_account : (world : PlainWorld) (own : Command) (book : Option ℕ) (at : ℕ) (has_book : Bool) → (is_none book || has_book) ≡ true → (lock : Lock AccountEntry) (rest : List Action)
      → slice_get world.calls number ≡ Some (call_at book (Some at) has_book false begin (stage.Begun own)) → slice_get world.accounts at ≡ Some lock → lock.holder ≡ None
      → ((now : PlainWorld) → slice_get now.calls number ≡ Some (call_at book (Some at) has_book true begin (stage.Begun own)) → slice_get now.accounts at ≡ Some (held number lock)
      → now.books ≡ world.books → length now.order ≡ length world.order → Ends now number begin point rest)
      → Ends world number begin point (action.TakeAccount ∷ rest)
  takes_the_account world own book at has_book its_book lock rest is here free onward =
      let call : RunningCall = call_at book (Some at) has_book false begin (stage.Begun own) in
      let change : Change = of_account (call_at book (Some at) has_book true begin (stage.Begun own)) (held number lock) in
      moves world number call is begin point action.TakeAccount change rest
      (ap (λ (b : Bool). option_and_then (take_account number call) (lock_at world.accounts (if b && true then Some at else None))) its_book
      ∙ ap (option_and_then (take_account number call)) here ∙ ap (λ (h : Option ℕ). if is_none h then Some change else None) free) refl
      (onward (changed world number (Some change)) (get-set_same world.calls number change.call call is) (get-set_same world.accounts at (held number lock) lock here)
      (no_lock world.books book) (ap length (append-nil world.order)))

-- ---- collecting

-- one of these numbers
abbrev pub IsOneOf : List ℕ → ℕ → Type 0
IsOneOf [] n = ⊥
IsOneOf (x ∷ xs) n = (n ≡ x) ⊎ IsOneOf xs n

pub is_one_of : (xs : List ℕ) (i n : ℕ) → slice_get xs i ≡ Some n → IsOneOf xs n
is_one_of [] i n h = none-some n h
is_one_of (x ∷ xs) zero n h = inl (sym (same_Some x n h))
is_one_of (x ∷ xs) (suc i) n h = inr (is_one_of xs i n h)

abbrev nothing : Option Change
nothing = None

nothing_either : (b : Bool) → (if b then nothing else nothing) ≡ nothing
nothing_either true = refl
nothing_either false = refl

zero_suc : (m : ℕ) → zero ≡ suc m → ⊥
zero_suc m e = omega (arith, e)

suc_same : (a b : ℕ) → suc a ≡ suc b → a ≡ b
suc_same a b e = omega (arith, e)

-- where all are collected
all_collected : (marks : List Bool) → ((n : ℕ) → is_open marks n ≡ true → ⊥) → is_complete marks ≡ true
all_collected [] none = refl
all_collected (true ∷ marks) none = all_collected marks (λ n. none (suc n))
all_collected (false ∷ marks) none = absurd (none zero refl)

-- a mark that is set is not open, and others stay
open_before : (marks : List Bool) (n m : ℕ) → is_open (slice_set marks n true) m ≡ true → (m ≢ n) × (is_open marks m ≡ true)
open_before [] n m h = absurd (true≢false (sym h))
open_before (x ∷ marks) zero zero h = absurd (true≢false (sym h))
open_before (x ∷ marks) zero (suc m) h = ((λ e. zero_suc m (sym e)), h)
open_before (x ∷ marks) (suc n) zero h = ((λ e. zero_suc n e), h)
open_before (x ∷ marks) (suc n) (suc m) h = let both = open_before marks n m h in ((λ e. both.0 (suc_same m n e)), both.1)

module _ (number begin point : ℕ) where
  abbrev free_call : Stage → RunningCall
  free_call s = call_at None None false false begin s

  -- a table with its marks, as a stage: a book that is open and free is collected, and the reply is due once all are
  module _ (T : Type 0) (at : List Bool → T → Stage) (due : List Bool → T → ReplyDue) (next : Config → Operator → List BookEntry → T → T)
      (collects_it : (config : Config) (n : ℕ) (operator : Operator) (entries : List BookEntry) (marks : List Bool) (table : T)
      → collected config n operator entries (at marks table) ≡ (if is_open marks n then Some (at (slice_set marks n true) (next config operator entries table)) else None))
      (due_is : (marks : List Bool) (table : T) → reply_due_at false (at marks table) ≡ (if is_complete marks then Some (due marks table) else None))
      (at_point : (marks : List Bool) (table : T) → (due marks table).point ≡ point) where
    -- the open books are those of operators, and free
    abbrev AreThere : PlainWorld → List Bool → Type 0
    AreThere world marks =
        (n : ℕ) → is_open marks n ≡ true
        → (operator : Operator) × (lock : Lock BookEntry) × (slice_get world.config.operators n ≡ Some operator) × (slice_get world.books n ≡ Some lock) × (lock.holder ≡ None)

    abbrev Gathers : List ℕ → Type 0
    Gathers operators =
        (world : PlainWorld) (marks : List Bool) (table : T) → slice_get world.calls number ≡ Some (free_call (at marks table))
        → AreThere world marks → ((n : ℕ) → is_open marks n ≡ true → IsOneOf operators n)
        → Ends world number begin point (map (λ (n : ℕ). action.Collect n) operators ++ action.End ∷ [])

    -- where the book is not open, nothing is collected
    unread : (config : Config) (n : ℕ) (marks : List Bool) (table : T) → is_open marks n ≡ false → (party : Option Operator) (lock : Option (Lock BookEntry))
        → collect_at config n (free_call (at marks table)) party lock ≡ None
    unread config n marks table e None lock = refl
    unread config n marks table e (Some party) None = refl
    unread config n marks table e (Some party) (Some lock) =
        ap (λ (o : Option Stage). if is_none lock.holder then option_map (λ (s : Stage). of_call (free_call s)) o else None)
        (collects_it config n party lock.entries marks table
        ∙ ap (λ (b : Bool). if b then Some (at (slice_set marks n true) (next config party lock.entries table)) else None) e)
        ∙ nothing_either (is_none lock.holder)

    gathers_one : (n : ℕ) (operators : List ℕ) → Gathers operators → Gathers (n ∷ operators)
    gathers_one n operators later world marks table is there among = by (is_open marks n) refl
      where
        by : (b : Bool) → is_open marks n ≡ b → Ends world number begin point (action.Collect n ∷ (map (λ (n : ℕ). action.Collect n) operators ++ action.End ∷ []))
        by false e =
            stays world number (free_call (at marks table)) is begin point (action.Collect n) (map (λ (n : ℕ). action.Collect n) operators ++ action.End ∷ [])
            (unread world.config n marks table e (slice_get world.config.operators n) (slice_get world.books n)) refl
            (later world marks table is there
            (λ m h. ⊎_elim (λ (same : m ≡ n). absurd (true≢false (sym h ∙ ap (is_open marks) same ∙ e))) (λ (other : IsOneOf operators m). other) (among m h)))
        by true e =
            let found = there n e in
            let party : Operator = found.0 in
            let lock : Lock BookEntry = found.1 in
            let onward : T = next world.config party lock.entries table in
            let now : List Bool = slice_set marks n true in
            let change : Change = of_call (free_call (at now onward)) in
            moves world number (free_call (at marks table)) is begin point (action.Collect n) change (map (λ (n : ℕ). action.Collect n) operators ++ action.End ∷ [])
            (ap₂ (collect_at world.config n (free_call (at marks table))) found.2 found.3
            ∙ ap (λ (h : Option ℕ). if is_none h then option_map (λ (s : Stage). of_call (free_call s)) (collected world.config n party lock.entries (at marks table)) else None) found.4
            ∙ ap (option_map (λ (s : Stage). of_call (free_call s))) (collects_it world.config n party lock.entries marks table)
            ∙ ap (λ (b : Bool). option_map (λ (s : Stage). of_call (free_call s)) (if b then Some (at now onward) else None)) e) refl
            (later (changed world number (Some change)) now onward (get-set_same world.calls number change.call (free_call (at marks table)) is)
            (λ m h. there m (open_before marks n m h).1)
            (λ m h. ⊎_elim (λ (same : m ≡ n). absurd ((open_before marks n m h).0 same)) (λ (other : IsOneOf operators m). other) (among m (open_before marks n m h).1)))

    pub ends_collecting : (operators : List ℕ) → Gathers operators
    ends_collecting [] world marks table is there among =
        ends world number (free_call (at marks table)) is begin point (due marks table)
        (due_is marks table ∙ ap (λ (b : Bool). if b then Some (due marks table) else None) (all_collected marks among)) refl (at_point marks table)
    ends_collecting (n ∷ operators) world marks table is there among = gathers_one n operators (ends_collecting operators) world marks table is there among

  -- a call that was given its reply collects nothing
  ends_replied : (operators : List ℕ) (world : PlainWorld) (carried : Carried) → slice_get world.calls number ≡ Some (free_call (stage.Ordered carried)) → carried.point ≡ point
      → Ends world number begin point (map (λ (n : ℕ). action.Collect n) operators ++ action.End ∷ [])
  ends_replied [] world carried is same = ends world number (free_call (stage.Ordered carried)) is begin point (record { point = carried.point; reply = carried.reply }) refl refl same
  ends_replied (n ∷ operators) world carried is same =
      stays world number (free_call (stage.Ordered carried)) is begin point (action.Collect n) (map (λ (n : ℕ). action.Collect n) operators ++ action.End ∷ [])
      (by (slice_get world.config.operators n) (slice_get world.books n)) refl (ends_replied operators world carried is same)
    where
      by : (party : Option Operator) (lock : Option (Lock BookEntry)) → collect_at world.config n (free_call (stage.Ordered carried)) party lock ≡ None
      by None lock = refl
      by (Some party) None = refl
      by (Some party) (Some lock) = nothing_either (is_none lock.holder)

  ends_after : (operators : List ℕ) (world : PlainWorld) (config : Config) (known : Known) (o : Outcome) → known.point ≡ point
      → slice_get world.calls number ≡ Some (free_call (stage_after config known o))
      → ((n : ℕ) → is_open (replicate (length config.operators) false) n ≡ true
      → (operator : Operator) × (lock : Lock BookEntry) × (slice_get world.config.operators n ≡ Some operator) × (slice_get world.books n ≡ Some lock) × (lock.holder ≡ None))
      → ((n : ℕ) → is_open (replicate (length config.operators) false) n ≡ true → IsOneOf operators n)
      → Ends world number begin point (map (λ (n : ℕ). action.Collect n) operators ++ action.End ∷ [])
  ends_after operators world config known (outcome.Replied reply event) same is there among = ends_replied operators world _ is same
  ends_after operators world config known (outcome.Closed period) same is there among =
      ends_collecting PlainPositions
      (λ marks table. stage.Netting (record { point = known.point; period = period; collection = record { collected = marks; table = table } }))
      (λ marks table. record { point = known.point; reply = Ok (answer.Closed period (net_positions table.parties table.currencies table.obligations)) })
      (λ config operator entries table. positions_with table (sums config operator period entries))
      (λ config n operator entries marks table. refl) (λ marks table. refl) (λ marks table. same)
      operators world (replicate (length config.operators) false) (no_positions config) is there among
  ends_after operators world config known (outcome.Stated ask) same is there among =
      ends_collecting PlainStatement
      (λ marks table. stage.Stating (record { point = known.point; period = ask.period; collection = record { collected = marks; table = table } }))
      (λ marks table. record { point = known.point; reply = Ok (answer.Statement (statement_rows table.party table.obligations)) })
      (λ config operator entries table. statement_with table (sums config operator ask.period entries))
      (λ config n operator entries marks table. refl) (λ marks table. refl) (λ marks table. same)
      operators world (replicate (length config.operators) false) (no_statement config ask.party) is there among

-- ---- whole rows

module _ (world : PlainWorld) (number : ℕ) (own : Command) (before : ℕ) where
  abbrev begin : ℕ
  begin = length world.order

  begins_it : (book account : Option ℕ) (rest : List Action) → slice_get world.calls number ≡ Some (call_at book account false false before (stage.Waiting own))
      → ((now : PlainWorld) → slice_get now.calls number ≡ Some (call_at book account false false begin (stage.Begun own)) → now.config ≡ world.config
      → now.books ≡ world.books → now.accounts ≡ world.accounts → length now.order ≡ begin → Ends now number begin begin rest)
      → Ends world number begin begin (action.Begin ∷ rest)
  begins_it book account rest is onward =
      let call : RunningCall = call_at book account false false before (stage.Waiting own) in
      let change : Change = of_call (call_at book account false false begin (stage.Begun own)) in
      moves world number call is begin begin action.Begin change rest refl refl
      (onward (changed world number (Some change)) (get-set_same world.calls number change.call call is) refl (no_lock world.books book) (no_lock world.accounts account) (ap length (append-nil world.order)))

  pub ends_book_row : collects own ≡ false → (at : ℕ) (lock : Lock BookEntry) → slice_get world.calls number ≡ Some (call_at (Some at) None false false before (stage.Waiting own))
      → slice_get world.books at ≡ Some lock → lock.holder ≡ None → Ends world number begin begin by_book
  ends_book_row entry at lock is here free =
      begins_it (Some at) None (action.TakeBook ∷ action.Order ∷ action.PutBook ∷ action.End ∷ []) is (λ w1 is1 config1 books1 accounts1 long1.
      takes_the_book number begin begin w1 own at None lock (action.Order ∷ action.PutBook ∷ action.End ∷ []) is1 (ap (λ (l : List (Lock BookEntry)). slice_get l at) books1 ∙ here) free (λ w2 is2 here2 accounts2 long2.
      orders_entry number begin begin own entry (Some at) None true false refl refl w2 (action.PutBook ∷ action.End ∷ []) is2 (long2 ∙ long1) (λ w3 carried is3 point3 books3 accounts3.
      ends_by_book number begin begin w3 at None (held number lock) carried is3 (ap (λ (l : List (Lock BookEntry)). slice_get l at) books3 ∙ here2) point3)))

  pub ends_account_row : collects own ≡ false → (at : ℕ) (lock : Lock AccountEntry) → slice_get world.calls number ≡ Some (call_at None (Some at) false false before (stage.Waiting own))
      → slice_get world.accounts at ≡ Some lock → lock.holder ≡ None → Ends world number begin begin by_account
  ends_account_row entry at lock is here free =
      begins_it None (Some at) (action.TakeAccount ∷ action.Order ∷ action.PutAccount ∷ action.End ∷ []) is (λ w1 is1 config1 books1 accounts1 long1.
      takes_the_account number begin begin w1 own None at false refl lock (action.Order ∷ action.PutAccount ∷ action.End ∷ []) is1 (ap (λ (l : List (Lock AccountEntry)). slice_get l at) accounts1 ∙ here) free (λ w2 is2 here2 books2 long2.
      orders_entry number begin begin own entry None (Some at) false true refl refl w2 (action.PutAccount ∷ action.End ∷ []) is2 (long2 ∙ long1) (λ w3 carried is3 point3 books3 accounts3.
      ends_by_account number begin begin w3 None at false (held number lock) carried (action.End ∷ []) is3 (ap (λ (l : List (Lock AccountEntry)). slice_get l at) accounts3 ∙ here2) (λ w4 is4 books4.
      ends_put number begin begin w4 None (Some at) carried is4 point3))))

  pub ends_row_of_both : collects own ≡ false → (at there : ℕ) (lock : Lock BookEntry) (other : Lock AccountEntry)
      → slice_get world.calls number ≡ Some (call_at (Some at) (Some there) false false before (stage.Waiting own))
      → slice_get world.books at ≡ Some lock → lock.holder ≡ None → slice_get world.accounts there ≡ Some other → other.holder ≡ None → Ends world number begin begin by_both
  ends_row_of_both entry at there lock other is here free stands free_too =
      begins_it (Some at) (Some there) (action.TakeBook ∷ action.TakeAccount ∷ action.Order ∷ action.PutAccount ∷ action.PutBook ∷ action.End ∷ []) is (λ w1 is1 config1 books1 accounts1 long1.
      takes_the_book number begin begin w1 own at (Some there) lock (action.TakeAccount ∷ action.Order ∷ action.PutAccount ∷ action.PutBook ∷ action.End ∷ []) is1
      (ap (λ (l : List (Lock BookEntry)). slice_get l at) books1 ∙ here) free (λ w2 is2 here2 accounts2 long2.
      takes_the_account number begin begin w2 own (Some at) there true refl other (action.Order ∷ action.PutAccount ∷ action.PutBook ∷ action.End ∷ []) is2
      (ap (λ (l : List (Lock AccountEntry)). slice_get l there) (accounts2 ∙ accounts1) ∙ stands) free_too (λ w3 is3 stands3 books3 long3.
      orders_entry number begin begin own entry (Some at) (Some there) true true refl refl w3 (action.PutAccount ∷ action.PutBook ∷ action.End ∷ []) is3 (long3 ∙ long2 ∙ long1) (λ w4 carried is4 point4 books4 accounts4.
      ends_by_account number begin begin w4 (Some at) there true (held number other) carried (action.PutBook ∷ action.End ∷ []) is4 (ap (λ (l : List (Lock AccountEntry)). slice_get l there) accounts4 ∙ stands3) (λ w5 is5 books5.
      ends_by_book number begin begin w5 at (Some there) (held number lock) carried is5 (ap (λ (l : List (Lock BookEntry)). slice_get l at) (books5 ∙ books4 ∙ books3) ∙ here2) point4)))))

  pub ends_collecting_row : (operators : List ℕ) → slice_get world.calls number ≡ Some (call_at None None false false before (stage.Waiting own))
      → ((n : ℕ) → is_open (replicate (length world.config.operators) false) n ≡ true
      → (operator : Operator) × (lock : Lock BookEntry) × (slice_get world.config.operators n ≡ Some operator) × (slice_get world.books n ≡ Some lock) × (lock.holder ≡ None))
      → ((n : ℕ) → is_open (replicate (length world.config.operators) false) n ≡ true → IsOneOf operators n)
      → Ends world number begin begin (by_all_books operators)
  ends_collecting_row operators is there among =
      let was : RunningCall = call_at None None false false before (stage.Waiting own) in
      let call : RunningCall = call_at None None false false begin (stage.Begun own) in
      let first : Change = of_call call in
      let w1 : PlainWorld = changed world number (Some first) in
      let is1 : slice_get w1.calls number ≡ Some call = get-set_same world.calls number call was is in
      let known : Known = known_to w1 call in
      let o : Outcome = outcome_of own (verdict world.config known own) in
      let change : Change = order world.config known call own in
      let rest : List Action = map (λ (n : ℕ). action.Collect n) operators ++ action.End ∷ [] in
      moves world number was is begin begin action.Begin first (action.Order ∷ rest) refl refl
      (moves w1 number call is1 begin begin action.Order change rest refl refl
      (ends_after number begin begin operators (changed w1 number (Some change)) world.config known o (ap length (append-nil world.order))
      (get-set_same w1.calls number change.call call is1) there among))
