-- Where an order with books, accounts and calls is torn.
use Rattle.std.proofs.Common.{◌≡◌, ◌⊎◌, inl, inr, ℕ, ◌+◌, ◌<◌, ◌≤◌, min, suc, zero, List, [], ◌∷◌, ◌++◌, Bool, true, false, refl, sym, ap, ◌∙◌, subst, arith, cond, count_by, fold, Contains, take, drop, slice_get, Option, Some, None, IfNone, IfSome, append_assoc, length-append}
use Rattle.std.proofs.lemmas.List.{length-take, take-append-drop, take-take, take_at}
use Rattle.std.proofs.lemmas.List.Sums.{sum_by-cons}
use Rattle.ocpi_types.specs.declared.config.Config.{Config}
use Rattle.plain_house.specs.Laws.{adds_event}
use Rattle.plain_house.specs.declared.entry.AccountEntry.{AccountEntry}
use Rattle.plain_house.specs.declared.entry.BookEntry.{BookEntry}
use Rattle.plain_house.specs.declared.event.Event.{Event}
use Rattle.plain_house.specs.House.{reply_of, verdict}
use Rattle.plain_house.specs.Known.{known}
use Rattle.plain_house.specs.Replies.{is_no_memory}
use Rattle.period_order.specs.declared.order_entry.OrderEntry.{OrderEntry}
use Rattle.period_order.specs.Resolves.{FailsAt, Resolves, ResolvingIsUnique, ResolvingIsWhole}
use Rattle.shared_house.specs.declared.call.Call.{Call}
use Rattle.shared_house.specs.Points.{front_behind, point_of_reply, seen_behind}
use Rattle.shared_house.specs.Certified.{CertifiedIsUnique, CertifiedIsWhole, IsTorn, IsTornFirst}
use Rattle.shared_house.specs.History.{Breaks, BreaksFirst, IsOneHistory, PassesSeeTheirEvents, Stands}
use Rattle.shared_house.proofs.PointLemmas.{quiet}

-- ---- the first events

at_end : {X : Type 0} (n : ℕ) (xs : List X) → slice_get (take (suc n) xs) n ≡ slice_get xs n
at_end zero [] = refl
at_end zero (x ∷ xs) = refl
at_end (suc n) [] = refl
at_end (suc n) (x ∷ xs) = at_end n xs

slice_get_take : {X : Type 0} (n : ℕ) (xs : List X) → slice_get (take (n + 1) xs) n ≡ slice_get xs n
slice_get_take n xs = let e : n + 1 ≡ suc n = omega arith in rw e (at_end n xs)

-- what stands by the events up to its own stands by all, and the other way round
module _ (config : Config) (events : List Event) (call : Call) (number : ℕ) (at : point_of_reply call.reply ≡ number) where
  abbrev StandsBy : List Event → Option Event → Type 0
  StandsBy before next =
      (call.reply ≡ reply_of config before call.command)
      × IfSome (verdict config (known before) call.command).event (λ added. next ≡ Some added)

  same_before : take (point_of_reply call.reply) (take (number + 1) events) ≡ take (point_of_reply call.reply) events
  same_before = take-take (point_of_reply call.reply) (number + 1) events (omega (arith, at))

  same_next : slice_get (take (number + 1) events) (point_of_reply call.reply) ≡ slice_get events (point_of_reply call.reply)
  same_next =
      ap (slice_get (take (number + 1) events)) at ∙ slice_get_take number events ∙ ap (slice_get events) (sym at)

  stands_in_all : Stands config (take (number + 1) events) call → Stands config events call
  stands_in_all stands =
      let both = subst (λ (l : List Event). StandsBy l (slice_get events (point_of_reply call.reply))) same_before
      (subst (λ (next : Option Event). StandsBy (take (point_of_reply call.reply) (take (number + 1) events)) next) same_next (stands.reply_is, stands.event_is)) in
      record {
        within = omega (arith, stands.within, length-take (number + 1) events);
        reply_is = both.0;
        event_is = both.1;
      }

  stands_in_first : Stands config events call → Stands config (take (number + 1) events) call
  stands_in_first stands =
      let both = subst (λ (l : List Event). StandsBy l (slice_get (take (number + 1) events) (point_of_reply call.reply))) (sym same_before)
      (subst (λ (next : Option Event). StandsBy (take (point_of_reply call.reply) events) next) (sym same_next) (stands.reply_is, stands.event_is)) in
      record {
        within = omega (arith, at, stands.within, length-take (number + 1) events);
        reply_is = both.0;
        event_is = both.1;
      }

module _ (config : Config) (events : List Event) (passes : List (List Call)) (number : ℕ) where
  breaks_in_all : Breaks config (take (number + 1) events) passes number → Breaks config events passes number
  breaks_in_all (inl broken) = inl (record {
    earlier = broken.earlier;
    call = broken.call;
    is_call = broken.is_call;
    point_is = broken.point_is;
    breaks = by broken.breaks;
  })
    where
      by : (Stands config (take (number + 1) events) broken.call → ⊥) ⊎ (point_of_reply broken.call.reply < front_behind broken.earlier)
          → (Stands config events broken.call → ⊥) ⊎ (point_of_reply broken.call.reply < front_behind broken.earlier)
      by (inl not) = inl (λ stands. not (stands_in_first config events broken.call number broken.point_is stands))
      by (inr early) = inr early
  breaks_in_all (inr event) = inr (record {
    is_there = omega (arith, event.is_there, length-take (number + 1) events);
    breaks = event.breaks;
  })

  breaks_in_first : Breaks config events passes number → Breaks config (take (number + 1) events) passes number
  breaks_in_first (inl broken) = inl (record {
    earlier = broken.earlier;
    call = broken.call;
    is_call = broken.is_call;
    point_is = broken.point_is;
    breaks = by broken.breaks;
  })
    where
      by : (Stands config events broken.call → ⊥) ⊎ (point_of_reply broken.call.reply < front_behind broken.earlier)
          → (Stands config (take (number + 1) events) broken.call → ⊥) ⊎ (point_of_reply broken.call.reply < front_behind broken.earlier)
      by (inl not) = inl (λ stands. not (stands_in_all config events broken.call number broken.point_is stands))
      by (inr early) = inr early
  breaks_in_first (inr event) = inr (record {
    is_there = omega (arith, event.is_there, length-take (number + 1) events);
    breaks = event.breaks;
  })

-- ---- an order and its beginning

module _ (books : List (List BookEntry)) (accounts : List (List AccountEntry)) where
  -- an order that resolves does so as far as any of its entries
  resolves_first : (n : ℕ) (order : List OrderEntry) (events : List Event) → Resolves books accounts order events → Resolves books accounts (take n order) (take n events)
  resolves_first n order events resolves = record {
    each = length-take n order ∙ ap (λ k. min n k) resolves.each ∙ sym (length-take n events);
    names = λ earlier entry later before named behind same other at.
        resolves.names earlier entry (later ++ drop n order) before named (behind ++ drop n events)
        (sym (take-append-drop n order) ∙ ap (λ (l : List OrderEntry). l ++ drop n order) same ∙ append_assoc earlier (entry ∷ later) (drop n order))
        (sym (take-append-drop n events) ∙ ap (λ (l : List Event). l ++ drop n events) other ∙ append_assoc before (named ∷ behind) (drop n events)) at;
  }

  module _ (order part : List OrderEntry) (events : List Event) (resolves : Resolves books accounts part events) (number : ℕ) (same : take (number + 1) part ≡ take (number + 1) order) where
    named_first : Resolves books accounts (take (number + 1) order) (take (number + 1) events)
    named_first = subst (λ (l : List OrderEntry). Resolves books accounts l (take (number + 1) events)) same (resolves_first (number + 1) part events resolves)

    no_failure : FailsAt books accounts order number → ⊥
    no_failure fails =
        let split : take (number + 1) order ≡ fails.before ++ fails.failing ∷ [] =
        ap (take (number + 1)) (fails.order_is ∙ sym (append_assoc fails.before (fails.failing ∷ []) fails.later))
        ∙ take_at (fails.before ++ fails.failing ∷ []) fails.later (number + 1)
        (length-append fails.before (fails.failing ∷ []) ∙ ap (λ n. n + 1) (sym fails.number_is)) in
        fails.fails (take (number + 1) events) (subst (λ (l : List OrderEntry). Resolves books accounts l (take (number + 1) events)) split named_first)

    module _ (config : Config) (passes : List (List Call)) where
      -- where the history breaks the order is torn
      torn_where : Breaks config events passes number → IsTorn config books accounts order passes number
      torn_where breaks = inr (record {
        events = take (number + 1) events;
        named = named_first;
        breaks = breaks_in_first config events passes number breaks;
      })

      -- and the other way round
      breaks_where : ResolvingIsUnique → IsTorn config books accounts order passes number → Breaks config events passes number
      breaks_where unique (inl fails) = absurd (no_failure fails)
      breaks_where unique (inr history) =
          let are : history.events ≡ take (number + 1) events =
          sym (unique books accounts (take (number + 1) order) history.events history.named)
          ∙ unique books accounts (take (number + 1) order) (take (number + 1) events) named_first in
          breaks_in_all config events passes number (subst (λ (l : List Event). Breaks config l passes number) are history.breaks)

module _ (unique : ResolvingIsUnique) (config : Config) (books : List (List BookEntry)) (accounts : List (List AccountEntry)) (order : List OrderEntry) (passes : List (List Call)) (events : List Event) where
  -- where the whole order resolves
  pub torn_in_all : Resolves books accounts order events → (number : ℕ) → BreaksFirst config events passes number → IsTornFirst config books accounts order passes number
  torn_in_all resolves number first = record {
    torn = torn_where books accounts order order events resolves number refl config passes first.breaks;
    none_before = λ smaller less torn.
        first.none_before smaller less (breaks_where books accounts order order events resolves smaller refl config passes unique torn);
  }

  -- where it fails at an entry, and the history breaks before it
  module _ (limit : ℕ) (resolves : Resolves books accounts (take limit order) events) where
    pub torn_in_part : (number : ℕ) → number < limit → BreaksFirst config events passes number → IsTornFirst config books accounts order passes number
    torn_in_part number less first = record {
      torn = torn_where books accounts order (take limit order) events resolves number (take-take (number + 1) limit order (omega (arith, less))) config passes first.breaks;
      none_before = λ smaller under torn.
          first.none_before smaller under
          (breaks_where books accounts order (take limit order) events resolves smaller (take-take (smaller + 1) limit order (omega (arith, less, under))) config passes unique torn);
    }

    -- where it fails, and no history breaks before it
    pub torn_at_failure : FailsAt books accounts order limit → ((smaller : ℕ) → smaller < limit → Breaks config events passes smaller → ⊥) → IsTornFirst config books accounts order passes limit
    torn_at_failure fails none = record {
      torn = inl fails;
      none_before = λ smaller under torn.
          none smaller under
          (breaks_where books accounts order (take limit order) events resolves smaller (take-take (smaller + 1) limit order (omega (arith, under))) config passes unique torn);
    }

-- ---- certified and torn

history_is_whole : (config : Config) (events : List Event) (passes : List (List Call)) (number : ℕ) → IsOneHistory config events passes → Breaks config events passes number → ⊥
history_is_whole config events passes number history (inl broken) = by broken.breaks
  where
    by : (Stands config events broken.call → ⊥) ⊎ (point_of_reply broken.call.reply < front_behind broken.earlier) → ⊥
    by (inl not) = not (history.stands broken.earlier broken.call broken.is_call)
    by (inr early) = absurd (omega (arith, early, history.in_turn broken.earlier broken.call broken.is_call))
history_is_whole config events passes number history (inr event) = event.breaks (history.owned number event.is_there)

pub certified_is_whole : ResolvingIsUnique → CertifiedIsWhole
certified_is_whole unique config books accounts order passes events number certified torn =
    history_is_whole config events passes number certified.history
    (breaks_where books accounts order order events certified.named number refl config passes unique torn)

pub certified_is_unique : ResolvingIsUnique → CertifiedIsUnique
certified_is_unique unique config books accounts order passes events others certified other =
    sym (unique books accounts order events certified.named) ∙ unique books accounts order others other.named

-- ---- what a pass sees

seen_most : (front count : ℕ) (calls : List Call) → count ≤ front
    → ((earlier : List Call) (call : Call) (later : List Call) → calls ≡ earlier ++ call ∷ later → is_no_memory call.reply ≡ false → fold seen_behind front earlier ≤ point_of_reply call.reply)
    → count + count_by (λ call. adds_event call.reply) calls ≤ fold seen_behind front calls
seen_most front count [] most in_turn = omega (arith, most)
seen_most front count (first ∷ calls) most in_turn =
    let next : count + cond {A = ℕ} (adds_event first.reply) 1 0 ≤ seen_behind front first =
    by (is_no_memory first.reply) refl (adds_event first.reply) refl in
    let rest = seen_most (seen_behind front first) (count + cond {A = ℕ} (adds_event first.reply) 1 0) calls next
    (λ earlier call later same found. in_turn (first ∷ earlier) call later (ap (λ (l : List Call). first ∷ l) same) found) in
    omega (arith, rest, sum_by-cons (λ (call : Call). cond {A = ℕ} (adds_event call.reply) 1 0) first calls)
  where
    by : (a : Bool) → is_no_memory first.reply ≡ a → (b : Bool) → adds_event first.reply ≡ b
        → count + cond {A = ℕ} b 1 0 ≤ cond a front (cond b (point_of_reply first.reply + 1) (point_of_reply first.reply))
    by true e true f = absurd (let h : true ≡ false = sym f ∙ quiet first.reply e in cc)
    by true e false f = omega (arith, most)
    by false e true f = omega (arith, most, in_turn [] first calls refl e)
    by false e false f = omega (arith, most, in_turn [] first calls refl e)

pub passes_see_their_events : PassesSeeTheirEvents
passes_see_their_events config events passes earlier call history is =
    let most = seen_most 0 0 earlier (omega arith)
    (λ before first behind same found. history.in_turn before first (record {
      later = behind ++ call ∷ is.later;
      in_pass = subst (Contains passes) (ap (λ (l : List Call). l ++ call ∷ is.later) same ∙ append_assoc before (first ∷ behind) (call ∷ is.later)) is.in_pass;
      found_memory = found;
    })) in
    omega (arith, most, history.in_turn earlier call is)

-- ---- an order that fails

-- its entries before that resolve
pub part_is_whole : ResolvingIsWhole → (books : List (List BookEntry)) (accounts : List (List AccountEntry)) (order : List OrderEntry) (entry : ℕ) → FailsAt books accounts order entry
    → (number : ℕ) → FailsAt books accounts (take entry order) number → ⊥
part_is_whole whole books accounts order entry fails number other =
    let begins : take entry order ≡ fails.before =
    ap (take entry) fails.order_is ∙ take_at fails.before (fails.failing ∷ fails.later) entry (sym fails.number_is) in
    whole books accounts (take entry order) fails.events number
    (subst (λ (l : List OrderEntry). Resolves books accounts l fails.events) (sym begins) fails.resolves) other

-- it is torn there first, where the history breaks at no smaller number
pub torn_at_entry : ResolvingIsUnique → (config : Config) (books : List (List BookEntry)) (accounts : List (List AccountEntry)) (order : List OrderEntry) (passes : List (List Call)) (events : List Event) (entry : ℕ) (found : Option ℕ)
    → Resolves books accounts (take entry order) events → FailsAt books accounts order entry
    → IfNone found (IsOneHistory config events passes) → IfSome found (BreaksFirst config events passes) → ((number : ℕ) → found ≡ Some number → entry ≤ number)
    → IsTornFirst config books accounts order passes entry
torn_at_entry unique config books accounts order passes events entry None resolves fails none some least =
    torn_at_failure unique config books accounts order passes events entry resolves fails
    (λ smaller under breaks. history_is_whole config events passes smaller none breaks)
torn_at_entry unique config books accounts order passes events entry (Some number) resolves fails none some least =
    torn_at_failure unique config books accounts order passes events entry resolves fails
    (λ smaller under breaks. some.none_before smaller (omega (arith, under, least number refl)) breaks)
