-- Calls that are one history without an event are torn nowhere.
use Rattle.std.proofs.Common.{◌≡◌, ◌⊎◌, inl, inr, ℕ, ◌+◌, ◌<◌, List, [], ◌∷◌, ◌++◌, Bool, true, false, refl, sym, ap, subst, arith, length, cond, count_by, sum_by, Contains, Ok, Err, append_assoc, length-append}
use Rattle.std.proofs.lemmas.List.{length-take}
use Rattle.std.proofs.lemmas.List.Sums.{sum_by-cons}
use Rattle.ocpi_types.specs.declared.config.Config.{Config}
use Rattle.plain_house.specs.declared.event.Event.{Event}
use Rattle.plain_house.specs.Laws.{RepliesTellEvents, adds_event}
use Rattle.plain_house.specs.Replies.{Reply, is_no_memory}
use Rattle.period_order.specs.Resolves.{FailsAt}
use Rattle.shared_house.specs.declared.call.Call.{Call}
use Rattle.shared_house.specs.Calls.{call_adds_event}
use Rattle.shared_house.specs.Certified.{HistoryBreaks}
use Rattle.shared_house.specs.Finished.{IsTornInEnd, NothingIsTornWithoutEvents}
use Rattle.shared_house.specs.History.{Breaks, CallBreaks, IsOneHistory, Stands}
use Rattle.shared_house.specs.Points.{front_behind, point_of_reply}
use Rattle.shared_house.proofs.StandLemmas.{follows}
use Rattle.shared_house.proofs.TurnLemmas.{contains_first, contains_later}

found_memory : (reply : Reply) → adds_event reply ≡ true → is_no_memory reply ≡ false
found_memory (Ok replied) adds = refl
found_memory (Err refused) adds = absurd (cc)

nothing : {X : Type 0} (xs : List X) → length xs ≡ 0 → xs ≡ []
nothing [] none = refl
nothing (x ∷ xs) none = absurd (omega (arith, none))

module _ (tells : RepliesTellEvents) (config : Config) (passes : List (List Call)) (history : IsOneHistory config [] passes) where
  silent : (earlier : List Call) (call : Call) (later : List Call) → Contains passes (earlier ++ call ∷ later) → call_adds_event call ≡ false
  silent earlier call later in_pass = by (adds_event call.reply) refl
    where
      by : (b : Bool) → adds_event call.reply ≡ b → adds_event call.reply ≡ false
      by false adds = adds
      by true adds =
          let stands : Stands config [] call = history.stands earlier call (record { later = later; in_pass = in_pass; found_memory = found_memory call.reply adds }) in
          let one = ap (λ (b : Bool). cond {A = ℕ} b 1 0) adds in
          absurd (omega (arith, (follows tells config [] call stands).within, one))

  none_added : (calls earlier : List Call) → Contains passes (earlier ++ calls) → count_by call_adds_event calls ≡ 0
  none_added [] earlier in_pass = refl
  none_added (call ∷ later) earlier in_pass =
      let zero = ap (λ (b : Bool). cond {A = ℕ} b 1 0) (silent earlier call later in_pass) in
      let rest = none_added later (earlier ++ call ∷ []) (subst (Contains passes) (sym (append_assoc earlier (call ∷ []) later)) in_pass) in
      omega (arith, sum_by-cons (λ (x : Call). cond {A = ℕ} (call_adds_event x) 1 0) call later, zero, rest)

  none_in_all : (some : List (List Call)) → ((pass : List Call) → Contains some pass → Contains passes pass) → sum_by (λ calls. count_by call_adds_event calls) some ≡ 0
  none_in_all [] inside = refl
  none_in_all (pass ∷ rest) inside =
      let first = none_added pass [] (inside pass (contains_first pass rest)) in
      let others = none_in_all rest (λ other c. inside other (contains_later pass rest other c)) in
      omega (arith, sum_by-cons (λ (calls : List Call). count_by call_adds_event calls) pass rest, first, others)

  module _ (number : ℕ) (torn : IsTornInEnd config passes number) where
    empty : length torn.order ≡ 0
    empty = omega (arith, torn.held.events_counted, none_in_all passes (λ pass c. c))

    fails_nowhere : FailsAt torn.books torn.accounts torn.order number → ⊥
    fails_nowhere fails = omega (arith, ap length fails.order_is, length-append fails.before (fails.failing ∷ fails.later), empty)

    call_stands : CallBreaks config [] passes number → ⊥
    call_stands broken = by broken.breaks
      where
        by : ((Stands config [] broken.call → ⊥) ⊎ (point_of_reply broken.call.reply < front_behind broken.earlier)) → ⊥
        by (inl breaks) = breaks (history.stands broken.earlier broken.call broken.is_call)
        by (inr before) = omega (arith, before, history.in_turn broken.earlier broken.call broken.is_call)

    breaks_nowhere : Breaks config [] passes number → ⊥
    breaks_nowhere (inl broken) = call_stands broken
    breaks_nowhere (inr event) = omega (arith, event.is_there)

    whole : HistoryBreaks config torn.books torn.accounts torn.order passes number → ⊥
    whole broken =
        let none : broken.events ≡ [] = nothing broken.events (omega (arith, broken.named.each, length-take (number + 1) torn.order, empty)) in
        breaks_nowhere (subst (λ (events : List Event). Breaks config events passes number) none broken.breaks)

    not_torn : ⊥
    not_torn = by torn.torn.torn
      where
        by : FailsAt torn.books torn.accounts torn.order number ⊎ HistoryBreaks config torn.books torn.accounts torn.order passes number → ⊥
        by (inl fails) = fails_nowhere fails
        by (inr broken) = whole broken

pub nothing_is_torn : RepliesTellEvents → NothingIsTornWithoutEvents
nothing_is_torn tells config passes number history torn = not_torn tells config passes history number torn
