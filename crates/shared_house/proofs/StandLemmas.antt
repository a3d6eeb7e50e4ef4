-- Whether a call stands, and the events behind it.
use Rattle.std.proofs.Common.{◌≡◌, ◌↔◌, ℕ, ◌+◌, ◌-◌, ◌<◌, ◌≤◌, suc, zero, List, [], ◌∷◌, ◌++◌, Bool, true, false, refl, sym, ap, ◌∙◌, subst, arith, length, cond, take, slice_get, Option, Some, None, IfNone, IfOk, IfSome, Result, Ok, Err, is_some, length-append}
use Rattle.ocpi_types.specs.declared.config.Config.{Config}
use Rattle.cdr_checks.specs.declared.request.Command.{Command}
use Rattle.plain_house.specs.declared.event.Event.{Event}
use Rattle.plain_house.specs.House.{Does, events_after, reply_of, verdict}
use Rattle.plain_house.specs.Known.{known}
use Rattle.plain_house.specs.Laws.{RepliesTellEvents, adds_event}
use Rattle.plain_house.specs.Replies.{Reply, is_no_memory, with_event}
use Rattle.shared_house.specs.declared.call.Call.{Call}
use Rattle.shared_house.specs.Points.{point_of_reply}
use Rattle.shared_house.specs.History.{Stands, events_before}
use Rattle.shared_house.proofs.PointLemmas.{adds_stamped}

-- ---- lists

-- the last of a list with one more is that one
pub last_pushed : {X : Type 0} (xs : List X) (x : X) → slice_get (xs ++ x ∷ []) (length (xs ++ x ∷ []) - 1) ≡ Some x
last_pushed xs x =
    ap (slice_get (xs ++ x ∷ [])) (let n : length (xs ++ x ∷ []) - 1 ≡ length xs = omega (arith, length-append xs (x ∷ [])) in n) ∙ seam xs
  where
    seam : (xs : List _) → slice_get (xs ++ x ∷ []) (length xs) ≡ Some x
    seam [] = refl
    seam (y ∷ ys) = seam ys

-- the first elements and the next are one more of the first
pub take_next : {X : Type 0} (n : ℕ) (xs : List X) (x : X) → slice_get xs n ≡ Some x → take n xs ++ x ∷ [] ≡ take (n + 1) xs
take_next {X} n xs x h = next n xs h ∙ ap (λ k. take k xs) (let e : suc n ≡ n + 1 = omega arith in e)
  where
    next : (n : ℕ) (xs : List X) → slice_get xs n ≡ Some x → take n xs ++ x ∷ [] ≡ take (suc n) xs
    next zero [] h = absurd (cc)
    next zero (y ∷ ys) h = ap (λ (z : X). z ∷ []) (let same : x ≡ y = cc in same)
    next (suc n) [] h = absurd (cc)
    next (suc n) (y ∷ ys) h = ap (λ (l : List X). y ∷ l) (next n ys h)

got_within : {X : Type 0} (n : ℕ) (xs : List X) (x : X) → slice_get xs n ≡ Some x → n < length xs
got_within n [] x h = absurd (cc)
got_within zero (y ∷ ys) x h = omega arith
got_within (suc n) (y ∷ ys) x h = omega (arith, got_within n ys x h)

pub same_option : {X : Type 0} (x y : X) → Some x ≡ Some y → x ≡ y
same_option x y h = cc

-- ---- one call

module _ (tells : RepliesTellEvents) (config : Config) (events : List Event) (call : Call) where
  abbrev before : List Event
  before = events_before events call

  abbrev added : Option Event
  added = (verdict config (known before) call.command).event

  told : is_some added ≡ adds_event (reply_of config before call.command)
  told = tells config (known before) call.command ∙ sym (adds_stamped (length before) (verdict config (known before) call.command).reply)

  module _ (within : point_of_reply call.reply ≤ length events) (reply_is : call.reply ≡ reply_of config before call.command) where
    -- where no event is added there is nothing to stand but the reply
    pub stands_silent : adds_event (reply_of config before call.command) ≡ false → Stands config events call
    stands_silent none = record { within = within; reply_is = reply_is; event_is = by added (told ∙ none) }
      where
        by : (e : Option Event) → is_some e ≡ false → IfSome e (λ x. slice_get events (point_of_reply call.reply) ≡ Some x)
        by None h = tt
        by (Some e) h = absurd (cc)

    -- where one is added it is the last one of the list then
    pub stands_adding : adds_event (reply_of config before call.command) ≡ true → (now : List Event) → now ≡ events_after config before call.command
        → (is : Bool) → ((last : Event) → slice_get now (length now - 1) ≡ Some last → (is ≡ true) ↔ (slice_get events (point_of_reply call.reply) ≡ Some last))
        → (is ≡ true) ↔ Stands config events call
    stands_adding some now now_is is last_is = by added (told ∙ some) refl now_is
      where
        by : (e : Option Event) → is_some e ≡ true → added ≡ e → now ≡ with_event before e → (is ≡ true) ↔ Stands config events call
        by None h same pushed = absurd (cc)
        by (Some e) h same pushed =
            let this = last_is e (ap (λ (l : List Event). slice_get l (length l - 1)) pushed ∙ last_pushed before e) in (
              (λ yes. record {
                within = within;
                reply_is = reply_is;
                event_is = subst (λ (o : Option Event). IfSome o (λ x. slice_get events (point_of_reply call.reply) ≡ Some x)) (sym same) (this.0 yes);
              }),
              (λ stands. this.1 (subst (λ (o : Option Event). IfSome o (λ x. slice_get events (point_of_reply call.reply) ≡ Some x)) same stands.event_is)),
            )

  -- behind a call that stands come the events before it and, where it adds one, the next
  pub record Follows : Type 0 where
    pub after_is : events_after config before call.command ≡ take (point_of_reply call.reply + cond (adds_event call.reply) 1 0) events
    pub within : point_of_reply call.reply + cond (adds_event call.reply) 1 0 ≤ length events

  pub follows : Stands config events call → Follows
  follows stands = by added (told ∙ ap adds_event (sym stands.reply_is)) refl stands.event_is
    where
      amount : (b : Bool) → adds_event call.reply ≡ b → point_of_reply call.reply + cond {A = ℕ} (adds_event call.reply) 1 0 ≡ point_of_reply call.reply + cond {A = ℕ} b 1 0
      amount b e = ap (λ (b : Bool). point_of_reply call.reply + cond {A = ℕ} b 1 0) e

      by : (e : Option Event) → is_some e ≡ adds_event call.reply → added ≡ e → IfSome e (λ x. slice_get events (point_of_reply call.reply) ≡ Some x) → Follows
      by None h same next =
          let n : point_of_reply call.reply + cond {A = ℕ} (adds_event call.reply) 1 0 ≡ point_of_reply call.reply = amount false (sym h) ∙ omega arith in
          record {
            after_is = ap (with_event before) same ∙ ap (λ k. take k events) (sym n);
            within = omega (arith, n, stands.within);
          }
      by (Some e) h same next =
          let n : point_of_reply call.reply + cond {A = ℕ} (adds_event call.reply) 1 0 ≡ point_of_reply call.reply + 1 = amount true (sym h) in
          record {
            after_is = ap (with_event before) same ∙ take_next (point_of_reply call.reply) events e next ∙ ap (λ k. take k events) (sym n);
            within = omega (arith, n, got_within (point_of_reply call.reply) events e next);
          }

-- ---- what a house answers

-- a house of the events before the call replies to its command as the house of one list does
pub answered : (config : Config) (events old now : List Event) (call : Call) (command : Command) (reply : Reply) → old ≡ events_before events call → command ≡ call.command
    → Does config old command reply now → is_no_memory reply ≡ false
    → (reply ≡ reply_of config (events_before events call) call.command) × (now ≡ events_after config (events_before events call) call.command)
answered config events old now call command reply old_is command_is does memory =
    subst (λ (l : List Event). (reply ≡ reply_of config l call.command) × (now ≡ events_after config l call.command)) old_is
    (subst (λ (x : Command). (reply ≡ reply_of config old x) × (now ≡ events_after config old x)) command_is (does.told memory))

pub if_ok : {X E : Type 0} (result : Result X E) (P Q : X → Type 0) → ((x : X) → P x → Q x) → IfOk result P → IfOk result Q
if_ok (Ok x) P Q step is = step x is
if_ok (Err e) P Q step is = tt

pub if_some : {X : Type 0} (found : Option X) (P Q : X → Type 0) → ((x : X) → P x → Q x) → IfSome found P → IfSome found Q
if_some (Some x) P Q step is = step x is
if_some None P Q step is = tt

pub if_none : {X : Type 0} (found : Option X) (P Q : Type 0) → (P → Q) → IfNone found P → IfNone found Q
if_none (Some x) P Q step is = tt
if_none None P Q step is = step is
