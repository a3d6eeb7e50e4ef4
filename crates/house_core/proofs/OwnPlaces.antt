-- Each call has its place by its own Order step, and each call that ends does so once.
use Rattle.std.proofs.Common.{◌≡◌, ◌≢◌, ◌≤◌, ℕ, zero, suc, List, [], ◌∷◌, ◌++◌, Bool, true, false, if◌then◌else◌, refl, sym, ap, subst, ◌∙◌, length, map, append_assoc, Option, None, Some, is_none, option_map, option_to_list, slice_get, slice_set, arith, ⊎_elim}
use Rattle.std.specs.List.{AllByRecursion}
use Rattle.std.specs.Option.{option_and_then}
use Rattle.std.proofs.lemmas.Bool.{cases_eq}
use Rattle.std.proofs.lemmas.Option.{none-some, same_Some}
use Rattle.ocpi_types.specs.declared.config.Config.{Config}
use Rattle.ocpi_types.specs.declared.config.Operator.{Operator}
use Rattle.cdr_checks.specs.declared.request.Command.{Command}
use Rattle.plain_house.specs.declared.entry.BookEntry.{BookEntry}
use Rattle.plain_house.specs.House.{verdict}
use Rattle.plain_house.specs.Known.{Known}
use Rattle.plain_house.specs.Replies.{stamped}
use Rattle.period_order.specs.declared.decided.Outcome.{Outcome}
use Rattle.period_order.specs.declared.decided.Outcome.TheVariants as outcome
use Rattle.period_order.specs.Decided.{outcome_of}
use Rattle.house_core.specs.declared.running_call.RunningCall.{RunningCall}
use Rattle.house_core.specs.declared.running_call.ReplyDue.{ReplyDue}
use Rattle.house_core.specs.declared.finished.Done.{Done}
use Rattle.house_core.specs.declared.finished.Done.TheVariants as done
use Rattle.house_core.specs.declared.finished.Finished.{Finished}
use Rattle.house_core.specs.declared.stage.Carried.{Carried}
use Rattle.house_core.specs.declared.stage.Stage.{Stage}
use Rattle.house_core.specs.declared.stage.Stage.TheVariants as stage
use Rattle.house_core.specs.declared.step.Action.{Action}
use Rattle.house_core.specs.declared.step.Action.TheVariants as action
use Rattle.house_core.specs.declared.step.Step.{Step}
use Rattle.house_core.specs.Calls.{begun, for_account, for_book, held_account, held_book, ordered, ready, reply_due, reply_due_at, waiting, wanted_account, wanted_book}
use Rattle.house_core.specs.Locks.{Lock, held, lock_at}
use Rattle.house_core.specs.OneHouse.{NoneTwice, Ordered, after, finished, in_order, ordered_at}
use Rattle.house_core.specs.Steps.{Change, abandon, change_by, changed, collect_at, collected, end, ended, ended_by, finishes, known_to, of_account, of_book, of_call, order, ordered_by, orders, put_account, put_book, stage_after, step, take_account, take_book}
use Rattle.house_core.specs.World.{PlainWorld}
use Rattle.house_core.proofs.Folds.{each-append}
use Rattle.house_core.proofs.RankLemmas.{end_rank, ended_later, only_when, order_rank, ordered_later, rank_at}
use Rattle.house_core.proofs.TimeLemmas.{made, made_then, only_if, where_free}
use Rattle.house_core.proofs.Wholes.{get-set_other, get-set_same}

-- ---- numbers of which none stands twice

not_there : (n : ℕ) (numbers : List ℕ) → AllByRecursion (λ other. other ≢ n) numbers → (i : ℕ) → slice_get numbers i ≡ Some n → ⊥
not_there n [] all i h = none-some n h
not_there n (x ∷ xs) all zero h = all.0 (same_Some x n h)
not_there n (x ∷ xs) all (suc i) h = not_there n xs all.1 i h

none_twice : (n : ℕ) (numbers : List ℕ) → AllByRecursion (λ other. other ≢ n) numbers → NoneTwice numbers → NoneTwice (n ∷ numbers)
none_twice n numbers all once zero zero number h g = refl
none_twice n numbers all once zero (suc j) number h g = absurd (not_there n numbers all j (g ∙ sym h))
none_twice n numbers all once (suc i) zero number h g = absurd (not_there n numbers all i (h ∙ sym g))
none_twice n numbers all once (suc i) (suc j) number h g = ap suc (once i j number h g)

each_map : {X Y : Type 0} (f : X → Y) (P : Y → Type 0) (xs : List X) → AllByRecursion (λ x. P (f x)) xs → AllByRecursion P (map f xs)
each_map f P [] h = tt
each_map f P (x ∷ xs) h = (h.0, each_map f P xs h.1)

pub ended_once : (world : PlainWorld) (steps : List Step) → NoneTwice (map (λ (f : Finished). f.call) (finished world steps))
ended_once world [] = λ i j number h g. absurd (none-some number h)
ended_once world (one ∷ later) = by (finishes world one) refl (ended_once (step world one) later)
  where
    by : (o : Option Finished) → finishes world one ≡ o → NoneTwice (map (λ (f : Finished). f.call) (finished (step world one) later))
        → NoneTwice (map (λ (f : Finished). f.call) (option_to_list o ++ finished (step world one) later))
    by None e rest = rest
    by (Some f) e rest =
        none_twice f.call (map (λ (f : Finished). f.call) (finished (step world one) later))
        (each_map (λ (f : Finished). f.call) (λ (other : ℕ). other ≢ f.call) (finished (step world one) later) (ended_later f.call (step world one) later (end_rank world one f e).2)) rest

pub placed_once : (world : PlainWorld) (steps : List Step) → NoneTwice (map (λ (o : Ordered). o.call) (in_order world steps))
placed_once world [] = λ i j number h g. absurd (none-some number h)
placed_once world (one ∷ later) = by (orders world one) refl (placed_once (step world one) later)
  where
    by : (o : Option Command) → orders world one ≡ o → NoneTwice (map (λ (o : Ordered). o.call) (in_order (step world one) later))
        → NoneTwice (map (λ (o : Ordered). o.call) (option_to_list (option_map {U = Ordered} (λ (own : Command). record { call = one.call; command = own }) o) ++ in_order (step world one) later))
    by None e rest = rest
    by (Some own) e rest =
        none_twice one.call (map (λ (o : Ordered). o.call) (in_order (step world one) later))
        (each_map (λ (o : Ordered). o.call) (λ (other : ℕ). other ≢ one.call) (in_order (step world one) later) (ordered_later one.call (step world one) later (order_rank world one own e).1)) rest

-- ---- lists of steps

pub after-append : (world : PlainWorld) (some more : List Step) → after world (some ++ more) ≡ after (after world some) more
after-append world [] more = refl
after-append world (one ∷ some) more = after-append (step world one) some more

in_order-append : (world : PlainWorld) (some more : List Step) → in_order world (some ++ more) ≡ in_order world some ++ in_order (after world some) more
in_order-append world [] more = refl
in_order-append world (one ∷ some) more =
    ap (λ (l : List Ordered). option_to_list (ordered_at world one) ++ l) (in_order-append (step world one) some more)
    ∙ sym (append_assoc (option_to_list (ordered_at world one)) (in_order (step world one) some) (in_order (after (step world one) some) more))

-- ---- the place of each call, by the steps that were taken

module _ (first : PlainWorld) where
  -- as in `IsPlaced`, by the length of the order
  pub record OrderedAt (past : List Step) (call point : ℕ) : Type 0 where
    pub earlier : List Step
    pub later : List Step
    pub command : Command
    pub split : past ≡ earlier ++ record { call = call; action = action.Order } ∷ later
    pub placed : orders (after first earlier) (record { call = call; action = action.Order }) ≡ Some command
    pub at : point ≡ length (after first earlier).order

  abbrev pub NotOrdered : List Step → ℕ → Type 0
  NotOrdered past call = AllByRecursion (λ (o : Ordered). o.call ≢ call) (in_order first past)

  abbrev pub StandsAt : List Step → ℕ → Stage → Type 0
  StandsAt past call (stage.Waiting command) = NotOrdered past call
  StandsAt past call (stage.Begun command) = NotOrdered past call
  StandsAt past call (stage.Ordered carried) = OrderedAt past call carried.point
  StandsAt past call (stage.Netting netting) = OrderedAt past call netting.point
  StandsAt past call (stage.Stating stating) = OrderedAt past call stating.point
  StandsAt past call stage.Ended = Unit {0}

  -- an answered call by its point, and one that is given up nowhere
  abbrev pub StandsDone : List Step → ℕ → Done → Type 0
  StandsDone steps call (done.Answered point reply) = OrderedAt steps call point
  StandsDone steps call done.Abandoned = NotOrdered steps call

  abbrev pub AllStand : List Step → Type 0
  AllStand past = (n : ℕ) (call : RunningCall) → slice_get (after first past).calls n ≡ Some call → StandsAt past n call.stage

  placed_longer : (past more : List Step) (call point : ℕ) → OrderedAt past call point → OrderedAt (past ++ more) call point
  placed_longer past more call point is = record {
    earlier = is.earlier;
    later = is.later ++ more;
    command = is.command;
    split = ap (λ (l : List Step). l ++ more) is.split ∙ append_assoc is.earlier (record { call = call; action = action.Order } ∷ is.later) more;
    placed = is.placed;
    at = is.at;
  }

  not_longer : (past more : List Step) (call : ℕ) → NotOrdered past call → AllByRecursion (λ (o : Ordered). o.call ≢ call) (in_order (after first past) more) → NotOrdered (past ++ more) call
  not_longer past more call not later =
      subst (AllByRecursion (λ (o : Ordered). o.call ≢ call)) (sym (in_order-append first past more))
      (each-append (λ (o : Ordered). o.call ≢ call) (in_order first past) (in_order (after first past) more) not later)

  stands_longer : (past more : List Step) (call : ℕ) (s : Stage) → AllByRecursion (λ (o : Ordered). o.call ≢ call) (in_order (after first past) more) → StandsAt past call s → StandsAt (past ++ more) call s
  stands_longer past more call (stage.Waiting command) later h = not_longer past more call h later
  stands_longer past more call (stage.Begun command) later h = not_longer past more call h later
  stands_longer past more call (stage.Ordered carried) later h = placed_longer past more call carried.point h
  stands_longer past more call (stage.Netting netting) later h = placed_longer past more call netting.point h
  stands_longer past more call (stage.Stating stating) later h = placed_longer past more call stating.point h
  stands_longer past more call stage.Ended later h = tt

  waiting_stands : (past : List Step) (n : ℕ) (s : Stage) (own : Command) → waiting s ≡ Some own → StandsAt past n s → NotOrdered past n
  waiting_stands past n (stage.Waiting c) own h is = is
  waiting_stands past n (stage.Begun c) own h is = absurd (none-some own h)
  waiting_stands past n (stage.Ordered c) own h is = absurd (none-some own h)
  waiting_stands past n (stage.Netting c) own h is = absurd (none-some own h)
  waiting_stands past n (stage.Stating c) own h is = absurd (none-some own h)
  waiting_stands past n stage.Ended own h is = absurd (none-some own h)

  begun_stands : (past : List Step) (n : ℕ) (s : Stage) (own : Command) → begun s ≡ Some own → StandsAt past n s → NotOrdered past n
  begun_stands past n (stage.Waiting c) own h is = absurd (none-some own h)
  begun_stands past n (stage.Begun c) own h is = is
  begun_stands past n (stage.Ordered c) own h is = absurd (none-some own h)
  begun_stands past n (stage.Netting c) own h is = absurd (none-some own h)
  begun_stands past n (stage.Stating c) own h is = absurd (none-some own h)
  begun_stands past n stage.Ended own h is = absurd (none-some own h)

  carried_stands : (past : List Step) (n : ℕ) (s : Stage) (own : Carried) → ordered s ≡ Some own → StandsAt past n s → OrderedAt past n own.point
  carried_stands past n (stage.Waiting c) own h is = absurd (none-some own h)
  carried_stands past n (stage.Begun c) own h is = absurd (none-some own h)
  carried_stands past n (stage.Ordered c) own h is = subst (λ (x : Carried). OrderedAt past n x.point) (same_Some c own h) is
  carried_stands past n (stage.Netting c) own h is = absurd (none-some own h)
  carried_stands past n (stage.Stating c) own h is = absurd (none-some own h)
  carried_stands past n stage.Ended own h is = absurd (none-some own h)

  due_stands : (past : List Step) (n : ℕ) (has_lock : Bool) (s : Stage) (due : ReplyDue) → reply_due_at has_lock s ≡ Some due → StandsAt past n s → OrderedAt past n due.point
  due_stands past n b (stage.Waiting c) due h is = absurd (none-some due h)
  due_stands past n b (stage.Begun c) due h is = absurd (none-some due h)
  due_stands past n true (stage.Ordered c) due h is = absurd (none-some due h)
  due_stands past n false (stage.Ordered c) due h is = subst (λ (x : ReplyDue). OrderedAt past n x.point) (same_Some _ due h) is
  due_stands past n b (stage.Netting c) due h is = subst (λ (x : ReplyDue). OrderedAt past n x.point) (only_when _ _ due h) is
  due_stands past n b (stage.Stating c) due h is = subst (λ (x : ReplyDue). OrderedAt past n x.point) (only_when _ _ due h) is
  due_stands past n b stage.Ended due h is = absurd (none-some due h)

  collected_stands : (past : List Step) (n : ℕ) (config : Config) (at : ℕ) (operator : Operator) (entries : List BookEntry) (s next : Stage)
      → collected config at operator entries s ≡ Some next → StandsAt past n s → StandsAt past n next
  collected_stands past n config at operator entries (stage.Waiting c) next h is = absurd (none-some next h)
  collected_stands past n config at operator entries (stage.Begun c) next h is = absurd (none-some next h)
  collected_stands past n config at operator entries (stage.Ordered c) next h is = absurd (none-some next h)
  collected_stands past n config at operator entries (stage.Netting c) next h is = subst (StandsAt past n) (only_when _ _ next h) is
  collected_stands past n config at operator entries (stage.Stating c) next h is = subst (StandsAt past n) (only_when _ _ next h) is
  collected_stands past n config at operator entries stage.Ended next h is = absurd (none-some next h)

  after_stands : (past : List Step) (n : ℕ) (config : Config) (known : Known) (o : Outcome) → OrderedAt past n known.point → StandsAt past n (stage_after config known o)
  after_stands past n config known (outcome.Replied reply event) h = h
  after_stands past n config known (outcome.Closed period) h = h
  after_stands past n config known (outcome.Stated ask) h = h

  -- ---- one step more

  module _ (past : List Step) where
    abbrev now : PlainWorld
    now = after first past

    abbrev OthersOnly : List Step → ℕ → Type 0
    OthersOnly more call = AllByRecursion (λ (o : Ordered). o.call ≢ call) (in_order now more)

    abbrev OtherAt : Step → ℕ → Type 0
    OtherAt one call = AllByRecursion (λ (o : Ordered). o.call ≢ call) (option_to_list (ordered_at now one))

    alone : (one : Step) (n : ℕ) → OtherAt one n → OthersOnly (one ∷ []) n
    alone one n h = each-append (λ (o : Ordered). o.call ≢ n) (option_to_list (ordered_at now one)) [] h tt

    none_ordered : (one : Step) (n : ℕ) → orders now one ≡ None → OtherAt one n
    none_ordered one n h =
        subst (λ (o : Option Command). AllByRecursion (λ (o : Ordered). o.call ≢ n) (option_to_list (option_map {U = Ordered} (λ (own : Command). record { call = one.call; command = own }) o))) (sym h) tt

    other_ordered : (one : Step) (n : ℕ) → n ≢ one.call → OthersOnly (one ∷ []) n
    other_ordered one n apart = alone one n (by (orders now one))
      where
        by : (o : Option Command) → AllByRecursion (λ (o : Ordered). o.call ≢ n) (option_to_list (option_map {U = Ordered} (λ (own : Command). record { call = one.call; command = own }) o))
        by None = tt
        by (Some own) = ((λ (same : one.call ≡ n). apart (sym same)), tt)

    -- an action other than Order orders nothing
    is_quiet : (n : ℕ) (a : Action) → ((call : RunningCall) → ordered_by call a ≡ None) → OtherAt (record { call = n; action = a }) n
    is_quiet n a quiet = none_ordered (record { call = n; action = a }) n (by (slice_get now.calls n))
      where
        by : (o : Option RunningCall) → option_and_then (λ (call : RunningCall). ordered_by call a) o ≡ None
        by None = refl
        by (Some call) = quiet call

    module _ (number : ℕ) (call : RunningCall) (is : slice_get now.calls number ≡ Some call) (stands : StandsAt past number call.stage) where
      abbrev with_step : Action → List Step
      with_step a = past ++ record { call = number; action = a } ∷ []

      abbrev StandsBy : Action → Change → Type 0
      StandsBy a change = StandsAt (with_step a) number change.call.stage

      stays : (a : Action) → ((call : RunningCall) → ordered_by call a ≡ None) → StandsAt (with_step a) number call.stage
      stays a quiet = stands_longer past (record { call = number; action = a } ∷ []) number call.stage (alone (record { call = number; action = a }) number (is_quiet number a quiet)) stands

      change_stands : (a : Action) (change : Change) → change_by now number call a ≡ Some change → StandsBy a change
      change_stands action.Begin change h =
          made (λ (own : Command). of_call (record call { begin = length now.order; stage = stage.Begun own })) (waiting call.stage) change (StandsBy action.Begin)
          (λ own e. waiting_stands (with_step action.Begin) number call.stage own e (stays action.Begin (λ c. refl))) h
      change_stands action.TakeBook change h =
          made_then (take_book number call) (lock_at now.books (wanted_book call)) change (StandsBy action.TakeBook)
          (λ lock e g. where_free (is_none lock.holder) (of_book (record call { has_book = true }) (held number lock)) change (StandsBy action.TakeBook) (stays action.TakeBook (λ c. refl)) g) h
      change_stands action.TakeAccount change h =
          made_then (take_account number call) (lock_at now.accounts (wanted_account call)) change (StandsBy action.TakeAccount)
          (λ lock e g. where_free (is_none lock.holder) (of_account (record call { has_account = true }) (held number lock)) change (StandsBy action.TakeAccount) (stays action.TakeAccount (λ c. refl)) g) h
      change_stands action.Order change h =
          made (order now.config (known_to now call) call) (ready call) change (StandsBy action.Order)
          (λ own e. after_stands (with_step action.Order) number now.config (known_to now call) (outcome_of own (verdict now.config (known_to now call) own)) (record {
            earlier = past;
            later = [];
            command = own;
            split = refl;
            placed = ap (option_and_then (λ (c : RunningCall). ready c)) is ∙ e;
            at = refl;
          })) h
      change_stands action.PutAccount change h =
          made_then (λ (c : Carried). option_map (put_account call c) (lock_at now.accounts call.account)) (for_account call) change (StandsBy action.PutAccount)
          (λ c e g. made (put_account call c) (lock_at now.accounts call.account) change (StandsBy action.PutAccount) (λ lock f. stays action.PutAccount (λ c. refl)) g) h
      change_stands action.PutBook change h =
          made_then (λ (c : Carried). option_map (put_book call c) (lock_at now.books call.book)) (for_book call) change (StandsBy action.PutBook)
          (λ c e g. made (put_book call c) (lock_at now.books call.book) change (StandsBy action.PutBook)
          (λ lock f. carried_stands (with_step action.PutBook) number call.stage c (only_if _ (ordered call.stage) c e) (stays action.PutBook (λ c. refl))) g) h
      change_stands (action.Collect operator) change h = by (slice_get now.config.operators operator) (slice_get now.books operator) h
        where
          free : (b : Bool) (party : Operator) (entries : List BookEntry)
              → (if b then option_map (λ (s : Stage). of_call (record call { stage = s })) (collected now.config operator party entries call.stage) else None) ≡ Some change → StandsBy (action.Collect operator) change
          free true party entries g =
              made (λ (s : Stage). of_call (record call { stage = s })) (collected now.config operator party entries call.stage) change (StandsBy (action.Collect operator))
              (λ s e. collected_stands (with_step (action.Collect operator)) number now.config operator party entries call.stage s e (stays (action.Collect operator) (λ c. refl))) g
          free false party entries g = absurd (none-some change g)

          by : (party : Option Operator) (lock : Option (Lock BookEntry)) → collect_at now.config operator call party lock ≡ Some change → StandsBy (action.Collect operator) change
          by None lock g = absurd (none-some change g)
          by (Some party) None g = absurd (none-some change g)
          by (Some party) (Some lock) g = free (is_none lock.holder) party lock.entries g
      change_stands action.Abandon change h =
          made (λ (own : Command). abandon call (lock_at now.books (held_book call)) (lock_at now.accounts (held_account call))) (begun call.stage) change (StandsBy action.Abandon) (λ own e. tt) h
      change_stands action.End change h = made (λ (t : ReplyDue). end call) (reply_due call) change (StandsBy action.End) (λ t e. tt) h

      -- where the step changes nothing
      unchanged_stands : (a : Action) → change_by now number call a ≡ None → StandsAt (with_step a) number call.stage
      unchanged_stands action.Begin h = stays action.Begin (λ c. refl)
      unchanged_stands action.TakeBook h = stays action.TakeBook (λ c. refl)
      unchanged_stands action.TakeAccount h = stays action.TakeAccount (λ c. refl)
      unchanged_stands action.Order h =
          stands_longer past (record { call = number; action = action.Order } ∷ []) number call.stage
          (alone (record { call = number; action = action.Order }) number
          (none_ordered (record { call = number; action = action.Order }) number (ap (option_and_then (λ (c : RunningCall). ready c)) is ∙ by (ready call) h))) stands
        where
          by : (o : Option Command) → option_map (order now.config (known_to now call) call) o ≡ None → o ≡ None
          by None g = refl
          by (Some own) g = absurd (none-some (order now.config (known_to now call) call own) (sym g))
      unchanged_stands action.PutAccount h = stays action.PutAccount (λ c. refl)
      unchanged_stands action.PutBook h = stays action.PutBook (λ c. refl)
      unchanged_stands (action.Collect operator) h = stays (action.Collect operator) (λ c. refl)
      unchanged_stands action.Abandon h = stays action.Abandon (λ c. refl)
      unchanged_stands action.End h = stays action.End (λ c. refl)

      -- what the step ends
      done_stands : (later : List Step) (a : Action) (f : Finished) → ended_by now number call a ≡ Some f → 2 ≤ rank_at (step now (record { call = number; action = a })) number
          → StandsDone (past ++ record { call = number; action = a } ∷ later) f.call f.done
      done_stands later action.Begin f h far = absurd (none-some f h)
      done_stands later action.TakeBook f h far = absurd (none-some f h)
      done_stands later action.TakeAccount f h far = absurd (none-some f h)
      done_stands later action.Order f h far = absurd (none-some f h)
      done_stands later action.PutAccount f h far = absurd (none-some f h)
      done_stands later action.PutBook f h far = absurd (none-some f h)
      done_stands later (action.Collect operator) f h far = absurd (none-some f h)
      done_stands later action.Abandon f h far = by (begun call.stage) refl h
        where
          by : (o : Option Command) → begun call.stage ≡ o → option_map (λ (own : Command). ended now number call done.Abandoned) o ≡ Some f
              → StandsDone (past ++ record { call = number; action = action.Abandon } ∷ later) f.call f.done
          by None e g = absurd (none-some f g)
          by (Some own) e g =
              subst (λ (x : Finished). StandsDone (past ++ record { call = number; action = action.Abandon } ∷ later) x.call x.done) (same_Some (ended now number call done.Abandoned) f g)
              (not_longer past (record { call = number; action = action.Abandon } ∷ later) number (begun_stands past number call.stage own e stands)
              (each-append (λ (o : Ordered). o.call ≢ number) (option_to_list (ordered_at now (record { call = number; action = action.Abandon })))
              (in_order (step now (record { call = number; action = action.Abandon })) later) (is_quiet number action.Abandon (λ c. refl))
              (ordered_later number (step now (record { call = number; action = action.Abandon })) later far)))
      done_stands later action.End f h far = by (reply_due call) refl h
        where
          by : (o : Option ReplyDue) → reply_due call ≡ o → option_map (λ (t : ReplyDue). ended now number call (done.Answered t.point (stamped t.point t.reply))) o ≡ Some f
              → StandsDone (past ++ record { call = number; action = action.End } ∷ later) f.call f.done
          by None e g = absurd (none-some f g)
          by (Some due) e g =
              subst (λ (x : Finished). StandsDone (past ++ record { call = number; action = action.End } ∷ later) x.call x.done)
              (same_Some (ended now number call (done.Answered due.point (stamped due.point due.reply))) f g)
              (placed_longer past (record { call = number; action = action.End } ∷ later) number due.point (due_stands past number _ call.stage due e stands))

    module _ (one : Step) (all : AllStand past) where
      step_stands : (n : ℕ) (other : RunningCall) → slice_get (step now one).calls n ≡ Some other → StandsAt (past ++ one ∷ []) n other.stage
      step_stands = by (slice_get now.calls one.call) refl
        where
          beside : (n : ℕ) (other : RunningCall) → n ≢ one.call → slice_get now.calls n ≡ Some other → StandsAt (past ++ one ∷ []) n other.stage
          beside n other apart there = stands_longer past (one ∷ []) n other.stage (other_ordered one n apart) (all n other there)

          put : (call : RunningCall) → slice_get now.calls one.call ≡ Some call → (o : Option Change) → change_by now one.call call one.action ≡ o
              → (n : ℕ) (other : RunningCall) → slice_get (changed now one.call o).calls n ≡ Some other → StandsAt (past ++ one ∷ []) n other.stage
          put call is None e n other there = ⊎_elim
              (λ (same : n ≡ one.call).
              let it : call ≡ other = same_Some call other (sym is ∙ ap (slice_get now.calls) (sym same) ∙ there) in
              subst (λ (m : ℕ). StandsAt (past ++ one ∷ []) m other.stage) (sym same)
              (subst (λ (c : RunningCall). StandsAt (past ++ one ∷ []) one.call c.stage) it (unchanged_stands one.call call is (all one.call call is) one.action e)))
              (λ (apart : n ≢ one.call). beside n other apart there)
              (cases_eq n one.call)
          put call is (Some change) e n other there = ⊎_elim
              (λ (same : n ≡ one.call).
              let it : change.call ≡ other =
              same_Some change.call other (sym (get-set_same now.calls one.call change.call call is) ∙ ap (slice_get (slice_set now.calls one.call change.call)) (sym same) ∙ there) in
              subst (λ (m : ℕ). StandsAt (past ++ one ∷ []) m other.stage) (sym same)
              (subst (λ (c : RunningCall). StandsAt (past ++ one ∷ []) one.call c.stage) it (change_stands one.call call is (all one.call call is) one.action change e)))
              (λ (apart : n ≢ one.call). beside n other apart (sym (get-set_other now.calls one.call n change.call apart) ∙ there))
              (cases_eq n one.call)

          by : (o : Option RunningCall) → slice_get now.calls one.call ≡ o → (n : ℕ) (other : RunningCall)
              → slice_get (changed now one.call (option_and_then (λ (call : RunningCall). change_by now one.call call one.action) o)).calls n ≡ Some other → StandsAt (past ++ one ∷ []) n other.stage
          by None e n other there = ⊎_elim
              (λ (same : n ≡ one.call). absurd (none-some other (sym e ∙ ap (slice_get now.calls) (sym same) ∙ there)))
              (λ (apart : n ≢ one.call). beside n other apart there)
              (cases_eq n one.call)
          by (Some call) e n other there = put call e (change_by now one.call call one.action) refl n other there

      pub all_stand : AllStand (past ++ one ∷ [])
      all_stand n other there = step_stands n other (ap (λ (w : PlainWorld). slice_get w.calls n) (sym (after-append first past (one ∷ []))) ∙ there)

  -- ---- whole lists of steps

  one_done : (past : List Step) → AllStand past → (one : Step) (rest : List Step) (f : Finished) → finishes (after first past) one ≡ Some f → StandsDone (past ++ one ∷ rest) f.call f.done
  one_done past all one rest f e = by (slice_get (after first past).calls one.call) refl e
    where
      by : (o : Option RunningCall) → slice_get (after first past).calls one.call ≡ o → option_and_then (λ (call : RunningCall). ended_by (after first past) one.call call one.action) o ≡ Some f
          → StandsDone (past ++ one ∷ rest) f.call f.done
      by None is g = absurd (none-some f g)
      by (Some call) is g =
          let ends = end_rank (after first past) one f e in
          let far = ends.2 in
          let same : rank_at (step (after first past) one) f.call ≡ rank_at (step (after first past) one) one.call = ap (rank_at (step (after first past) one)) ends.0 in
          done_stands past one.call call is (all one.call call is) rest one.action f g (omega (arith, far, same))

  all_done : (past rest : List Step) → AllStand past → AllByRecursion (λ (f : Finished). StandsDone (past ++ rest) f.call f.done) (finished (after first past) rest)
  all_done past [] all = tt
  all_done past (one ∷ rest) all =
      each-append (λ (f : Finished). StandsDone (past ++ one ∷ rest) f.call f.done) (option_to_list (finishes (after first past) one)) (finished (step (after first past) one) rest)
      (here (finishes (after first past) one) refl)
      (subst (λ (w : PlainWorld). AllByRecursion (λ (f : Finished). StandsDone (past ++ one ∷ rest) f.call f.done) (finished w rest)) (after-append first past (one ∷ []))
      (subst (λ (l : List Step). AllByRecursion (λ (f : Finished). StandsDone l f.call f.done) (finished (after first (past ++ one ∷ [])) rest)) (append_assoc past (one ∷ []) rest)
      (all_done (past ++ one ∷ []) rest (all_stand past one all))))
    where
      here : (o : Option Finished) → finishes (after first past) one ≡ o → AllByRecursion (λ (f : Finished). StandsDone (past ++ one ∷ rest) f.call f.done) (option_to_list o)
      here None e = tt
      here (Some f) e = (one_done past all one rest f e, tt)

  pub each_stands : (steps : List Step) → AllStand [] → AllByRecursion (λ (f : Finished). StandsDone steps f.call f.done) (finished first steps)
  each_stands steps all = all_done [] steps all
