-- A call that collects a book, as code does it.
use Rattle.std.proofs.Common.{◌≡◌, ◌&&◌, ℕ, Bool, true, false, if◌then◌else◌, cond, List, [], ◌∷◌, refl, sym, ap, ap₂, ◌∙◌, filter, is_none, Option, None, Some, option_map, slice_get, unwrap_or, arith}
use Rattle.std.specs.List.{list_all}
use Rattle.std.specs.Option.{option_map_or}
use Rattle.std.proofs.lemmas.Bool.{and_parts}
use Rattle.std.proofs.lemmas.Option.{same_Some}
use Rattle.ocpi_types.specs.declared.config.Config.{Config}
use Rattle.ocpi_types.specs.declared.config.Operator.{Operator}
use Rattle.ocpi_types.specs.declared.party.Party.{Party}
use Rattle.ocpi_types.specs.Party.{same_party}
use Rattle.cdr_checks.specs.declared.request.Command.{Command}
use Rattle.netting_positions.specs.declared.obligation.Obligation.{Obligation}
use Rattle.netting_positions.specs.Netting.{is_configured, parties, total_size}
use Rattle.netting_positions.specs.State.{PlainPositions, PlainStatement, scope_of_positions, scope_of_statement}
use Rattle.operator_book.specs.Due.{due}
use Rattle.operator_book.specs.Laws.{SumsAreNoLarger}
use Rattle.plain_house.specs.declared.entry.BookEntry.{BookEntry}
use Rattle.plain_house.specs.declared.event.Event.{Event}
use Rattle.plain_house.specs.Entries.{book_entries}
use Rattle.plain_house.specs.LegalLists.{LegalListsCanBeNetted}
use Rattle.period_order.specs.Dues.{DuesAreOfOwnBooks}
use Rattle.house_core.specs.declared.running_call.RunningCall.{RunningCall}
use Rattle.house_core.specs.declared.stage.Netting.{Netting}
use Rattle.house_core.specs.declared.stage.Stage.{Stage}
use Rattle.house_core.specs.declared.stage.Stage.TheVariants as stage
use Rattle.house_core.specs.declared.stage.Stating.{Stating}
use Rattle.house_core.specs.declared.step.Action.TheVariants as action
use Rattle.house_core.specs.Calls.{held_account, held_book, ordered}
use Rattle.house_core.specs.Collections.{is_open, nets_with, rows_with, sums}
use Rattle.house_core.specs.Inner.Collecting.{Fits, owed_in}
use Rattle.house_core.specs.Inner.Moves.{collected_call, netting_with, stating_with}
use Rattle.house_core.specs.Inner.Ready.{CanCollectOf, IsCollectable}
use Rattle.house_core.specs.Inner.Sound.{Holds, IsAt}
use Rattle.period_order.specs.Kept.{IsConfiguration}
use Rattle.house_core.specs.Locks.{Lock}
use Rattle.house_core.specs.Steps.{Change, changed, collect_at, collected, of_call, step}
use Rattle.house_core.specs.World.{PlainWorld}
use Rattle.house_core.proofs.CollectSteps.{own_entries}
use Rattle.house_core.proofs.CollectingLemmas.{smaller_less}
use Rattle.house_core.proofs.StepLemmas.{call_changed, same_call, stepped, with_call}

-- ---- tables

pub positions_are : (now old : PlainPositions) (obligations : List Obligation) → scope_of_positions now ≡ scope_of_positions old → now.obligations ≡ obligations
    → now ≡ record { parties = old.parties; currencies = old.currencies; obligations = obligations }
positions_are now old obligations scope is = λ i. record { parties = (scope i).parties; currencies = (scope i).currencies; obligations = is i }

pub statement_is : (now old : PlainStatement) (obligations : List Obligation) → scope_of_statement now ≡ scope_of_statement old → now.obligations ≡ obligations
    → now ≡ record { party = old.party; parties = old.parties; currencies = old.currencies; obligations = obligations }
statement_is now old obligations scope is =
    let party : now.party ≡ old.party = same_Some now.party old.party (λ i. (scope i).party) in
    λ i. record { party = party i; parties = (scope i).parties; currencies = (scope i).currencies; obligations = is i }

-- ---- stages

pub netting_goes : (config : Config) (number : ℕ) (operator : Operator) (entries : List BookEntry) (netting : Netting) (b : Bool)
    → stage.Netting (netting_with config number operator entries b netting)
    ≡ unwrap_or (if b then Some (stage.Netting (record netting { collection = nets_with number (sums config operator netting.period entries) netting.collection })) else None) (stage.Netting netting)
netting_goes config number operator entries netting true = refl
netting_goes config number operator entries netting false = refl

pub stating_goes : (config : Config) (number : ℕ) (operator : Operator) (entries : List BookEntry) (stating : Stating) (b : Bool)
    → stage.Stating (stating_with config number operator entries b stating)
    ≡ unwrap_or (if b then Some (stage.Stating (record stating { collection = rows_with number (sums config operator stating.period entries) stating.collection })) else None) (stage.Stating stating)
stating_goes config number operator entries stating true = refl
stating_goes config number operator entries stating false = refl

-- ---- calls

goes_on_at : (call : RunningCall) (o : Option Stage) → record call { stage = unwrap_or o call.stage } ≡ option_map_or (λ (change : Change). change.call) (option_map (λ (s : Stage). of_call (record call { stage = s })) o) call
goes_on_at call None = refl
goes_on_at call (Some s) = refl

pub call_collects : (config : Config) (number : ℕ) (operator : Operator) (lock : Lock BookEntry) (call : RunningCall) → lock.holder ≡ None
    → record call { stage = unwrap_or (collected config number operator lock.entries call.stage) call.stage } ≡ collected_call config number (Some operator) (Some lock) call
call_collects config number operator lock call free =
    goes_on_at call (collected config number operator lock.entries call.stage)
    ∙ sym (ap (λ (h : Option ℕ). option_map_or (λ (change : Change). change.call) (if is_none h then option_map (λ (s : Stage). of_call (record call { stage = s })) (collected config number operator lock.entries call.stage) else None) call) free)

-- it holds what it did, and carries what it did
pub record IsAlike (now call : RunningCall) : Type 0 where
  pub book : held_book now ≡ held_book call
  pub account : held_account now ≡ held_account call
  pub carries : ordered now.stage ≡ ordered call.stage

module _ (config : Config) (number : ℕ) (book account : Option ℕ) (has_book has_account : Bool) (begin : ℕ) where
  abbrev call_at : Stage → RunningCall
  call_at s = record { book = book; account = account; has_book = has_book; has_account = has_account; begin = begin; stage = s }

  alike : (operator : Operator) (entries : List BookEntry) (s : Stage) (free : Bool)
      → IsAlike (option_map_or (λ (change : Change). change.call) (if free then option_map (λ (t : Stage). of_call (record (call_at s) { stage = t })) (collected config number operator entries s) else None) (call_at s)) (call_at s)
  alike operator entries s false = record { book = refl; account = refl; carries = refl }
  alike operator entries (stage.Waiting command) true = record { book = refl; account = refl; carries = refl }
  alike operator entries (stage.Begun command) true = record { book = refl; account = refl; carries = refl }
  alike operator entries (stage.Ordered carried) true = record { book = refl; account = refl; carries = refl }
  alike operator entries (stage.Netting netting) true = by (is_open netting.collection.collected number)
    where
      by : (b : Bool) → IsAlike (option_map_or (λ (change : Change). change.call) (option_map (λ (t : Stage). of_call (record (call_at (stage.Netting netting)) { stage = t })) (if b then Some (stage.Netting (record netting { collection = nets_with number (sums config operator netting.period entries) netting.collection })) else None)) (call_at (stage.Netting netting))) (call_at (stage.Netting netting))
      by true = record { book = refl; account = refl; carries = refl }
      by false = record { book = refl; account = refl; carries = refl }
  alike operator entries (stage.Stating stating) true = by (is_open stating.collection.collected number)
    where
      by : (b : Bool) → IsAlike (option_map_or (λ (change : Change). change.call) (option_map (λ (t : Stage). of_call (record (call_at (stage.Stating stating)) { stage = t })) (if b then Some (stage.Stating (record stating { collection = rows_with number (sums config operator stating.period entries) stating.collection })) else None)) (call_at (stage.Stating stating))) (call_at (stage.Stating stating))
      by true = record { book = refl; account = refl; carries = refl }
      by false = record { book = refl; account = refl; carries = refl }
  alike operator entries stage.Ended true = record { book = refl; account = refl; carries = refl }

pub collects_alike : (config : Config) (number : ℕ) (operator : Option Operator) (lock : Option (Lock BookEntry)) (call : RunningCall) → IsAlike (collected_call config number operator lock call) call
collects_alike config number None lock call = record { book = refl; account = refl; carries = refl }
collects_alike config number (Some operator) None call = record { book = refl; account = refl; carries = refl }
collects_alike config number (Some operator) (Some lock) call =
    alike config number call.book call.account call.has_book call.has_account call.begin operator lock.entries call.stage (is_none lock.holder)

-- ---- the world

made_call : (config : Config) (number : ℕ) (call : RunningCall) (operator : Option Operator) (lock : Option (Lock BookEntry)) (change : Change) → collect_at config number call operator lock ≡ Some change
    → change ≡ of_call change.call
made_call config number call None lock change h = absurd (cc)
made_call config number call (Some operator) None change h = absurd (cc)
made_call config number call (Some operator) (Some lock) change h = by (is_none lock.holder) (collected config number operator lock.entries call.stage) h
  where
    by : (b : Bool) (o : Option Stage) → (if b then option_map (λ (s : Stage). of_call (record call { stage = s })) o else None) ≡ Some change → change ≡ of_call change.call
    by true None g = absurd (cc)
    by true (Some s) g =
        let same : of_call (record call { stage = s }) ≡ change = same_Some (of_call (record call { stage = s })) change g in
        sym same ∙ ap (λ (c : Change). of_call c.call) same
    by false o g = absurd (cc)

pub did_collect : (world : PlainWorld) (number : ℕ) (call : RunningCall) → slice_get world.calls number ≡ Some call → (at : ℕ)
    → with_call world number (collected_call world.config at (slice_get world.config.operators at) (slice_get world.books at) call) ≡ step world (record { call = number; action = action.Collect at })
did_collect world number call is at = by (collect_at world.config at call (slice_get world.config.operators at) (slice_get world.books at)) refl ∙ sym (stepped world number call (action.Collect at) is)
  where
    by : (o : Option Change) → collect_at world.config at call (slice_get world.config.operators at) (slice_get world.books at) ≡ o
        → with_call world number (option_map_or (λ (change : Change). change.call) o call) ≡ changed world number o
    by None e = sym (same_call world number call is)
    by (Some change) e =
        sym (call_changed world number change.call)
        ∙ ap (λ (c : Change). changed world number (Some c)) (sym (made_call world.config at call (slice_get world.config.operators at) (slice_get world.books at) change e))

-- ---- what is owed can be collected

filter_passes : (p q : Obligation → Bool) (os : List Obligation) → list_all p os ≡ true → list_all p (filter q os) ≡ true
filter_passes p q [] h = refl
filter_passes p q (o ∷ os) h = let parts = and_parts (p o) (list_all p os) h in by (q o) parts.0 (filter_passes p q os parts.1)
  where
    by : (b : Bool) → p o ≡ true → list_all p (filter q os) ≡ true → list_all p (cond b (o ∷ filter q os) (filter q os)) ≡ true
    by true one rest = ap₂ ◌&&◌ one rest
    by false one rest = rest

module _ (own_dues : DuesAreOfOwnBooks) (no_larger : SumsAreNoLarger) (netted : LegalListsCanBeNetted) (config : Config) (is_config : IsConfiguration config) (commands : List Command) (events : List Event) (world : PlainWorld)
    (holds : Holds config commands events world) (number : ℕ) (call : RunningCall) (is : slice_get world.calls number ≡ Some call)
    (at : ℕ) (operator : Operator) (lock : Lock BookEntry) (named : slice_get config.operators at ≡ Some operator) (here : slice_get world.books at ≡ Some lock) (free : lock.holder ≡ None) where
  -- what is due by the free book is what the operator is owed of all
  due_is : (period : ℕ) → due operator.party period lock.entries ≡ filter (λ (o : Obligation). same_party o.operator operator.party) (owed_in period events)
  due_is period =
      ap (due operator.party period)
      (own_entries own_dues no_larger config is_config commands events world holds number call.book call.account call.has_book call.has_account call.begin at operator lock named here free)
      ∙ own_dues operator.party period (book_entries events)

  its_dues : (period : ℕ) (marks : List Bool) (obligations : List Obligation) (ps : List Party) (cs : List (List ℕ)) → ps ≡ parties config → cs ≡ config.currencies
      → Fits config (owed_in period events) marks obligations → IsCollectable marks at ps cs obligations (due operator.party period lock.entries)
  its_dues period marks obligations ps cs parties_are currencies_are fits is_unread =
      let less = smaller_less (owed_in period events) config.operators marks at operator named is_unread in
      let same = ap total_size (due_is period) in
      record {
        configured =
            ap₂ (λ (p : List Party) (c : List (List ℕ)). list_all (is_configured p c) (due operator.party period lock.entries)) parties_are currencies_are
            ∙ ap (list_all (is_configured (parties config) config.currencies)) (due_is period)
            ∙ filter_passes (is_configured (parties config) config.currencies) (λ (o : Obligation). same_party o.operator operator.party) (owed_in period events)
            ((netted config events is_config.operators is_config.cdrs holds.kept.legal).configured period);
        fits = omega (arith, fits, less, same);
      }

  by_stage : (own : Command) (s : Stage) → IsAt config events own call.begin s → CanCollectOf at operator lock.entries s
  by_stage own (stage.Waiting c) h = tt
  by_stage own (stage.Begun c) h = tt
  by_stage own (stage.Ordered carried) h = tt
  by_stage own (stage.Netting netting) h =
      its_dues netting.period netting.collection.collected netting.collection.table.obligations netting.collection.table.parties netting.collection.table.currencies h.parties_are h.currencies_are h.fits
  by_stage own (stage.Stating stating) h =
      its_dues stating.period stating.collection.collected stating.collection.table.obligations stating.collection.table.parties stating.collection.table.currencies h.parties_are h.currencies_are h.fits
  by_stage own stage.Ended h = tt

  pub can_collect : CanCollectOf at operator lock.entries call.stage
  can_collect = let one = holds.calls number call is in by_stage one.0 call.stage one.2.at
