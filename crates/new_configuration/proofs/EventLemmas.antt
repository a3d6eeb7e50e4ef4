-- Events, one after another.
use Rattle.std.proofs.Common.{◌≡◌, ◌+◌, ◌⊎◌, inl, inr, ◌<◌, ℕ, suc, List, [], ◌∷◌, ◌++◌, ap, sym, subst, ◌∙◌, arith, length, take, drop, get_or}
use Rattle.std.proofs.Math.Seq.{drop-cons}
use Rattle.std.proofs.lemmas.List.{length-take-le, take-append-drop, take_more}
use Rattle.ocpi_types.specs.declared.config.Config.{Config}
use Rattle.plain_house.specs.declared.event.Event.{Event}
use Rattle.plain_house.specs.Legal.{CommandsKeepListsLegal, IsGiven, IsLegal}
use Rattle.plain_house.specs.Replies.{with_event}
use Rattle.new_configuration.specs.TakenOver.{FirstOtherwiseIsUnique, IsFirstOtherwise, TakenOverIsWhole}

pub take_item : {X : Type 0} (xs : List X) (i : ℕ) (x : X) → i < length xs → x ≡ get_or xs i x → take i xs ++ x ∷ [] ≡ take (i + 1) xs
take_item {X} xs i x within is = ap (λ (y : X). take i xs ++ y ∷ []) is ∙ sym (take_more xs i x within)

-- a legal list with one more event is legal
pub legal_more : CommandsKeepListsLegal → (config : Config) (events : List Event) (e : Event) → IsLegal config events → IsGiven config events e → IsLegal config (events ++ e ∷ [])
legal_more law config events e legal given = subst (IsLegal config) (ap (with_event events) given.2) (law config events given.0 legal given.1)

pub first_at : (config : Config) (events : List Event) (number next : ℕ) (e : Event) → number ≡ next → number < length events → e ≡ get_or events number e → IsLegal config (take number events)
    → (IsGiven config (take number events) e → ⊥) → IsFirstOtherwise config events next
first_at config events number next e is within at legal otherwise =
    let later : List Event = drop (suc number) events in
    let from_here : drop number events ≡ e ∷ later = drop-cons events number e within ∙ ap (λ (x : Event). x ∷ later) (sym at) in
    subst (IsFirstOtherwise config events) is
    (record {
      before = take number events;
      event = e;
      later = later;
      split = sym (take-append-drop number events) ∙ ap (λ (l : List Event). take number events ++ l) from_here;
      number_is = sym (length-take-le number events (omega arith));
      legal = legal;
      otherwise = otherwise;
    })

-- ---- the laws of takeovers

pub whole : TakenOverIsWhole
unfolding IsLegal
whole config events number legal first = first.otherwise (legal first.before first.event first.later first.split)

-- the items before a later place include the item at an earlier place
cut : {X : Type 0} (before : List X) (x : X) (later other : List X) (y : X) (rest : List X) → before ++ x ∷ later ≡ other ++ y ∷ rest → length before < length other
    → (middle : List X) × (other ≡ before ++ x ∷ middle)
cut [] x later [] y rest h less = absurd (omega arith)
cut {X} [] x later (z ∷ other) y rest h less = (other, ap (λ (w : X). w ∷ other) (let same : z ≡ x = cc in same))
cut (w ∷ before) x later [] y rest h less = absurd (omega arith)
cut {X} (w ∷ before) x later (z ∷ other) y rest h less =
    let tail : before ++ x ∷ later ≡ other ++ y ∷ rest = cc in
    let head : z ≡ w = cc in
    let found = cut before x later other y rest tail (omega arith) in
    (found.0, let more : other ≡ before ++ x ∷ found.0 = found.1 in cc)

smaller_is_not : (config : Config) (events : List Event) (one other : ℕ) → IsFirstOtherwise config events one → IsFirstOtherwise config events other → one < other → ⊥
unfolding IsLegal
smaller_is_not config events one other first second less =
    let shorter : length first.before < length second.before = omega (arith, first.number_is, second.number_is) in
    let found = cut first.before first.event first.later second.before second.event second.later (sym first.split ∙ second.split) shorter in
    first.otherwise (second.legal first.before first.event found.0 found.1)

pub unique : FirstOtherwiseIsUnique
unique config events one other first second = by (compared one other)
  where
    compared : (a b : ℕ) → (a < b) ⊎ ((b < a) ⊎ (a ≡ b))
    compared a b = grind arith

    by : (one < other) ⊎ ((other < one) ⊎ (one ≡ other)) → one ≡ other
    by (inl less) = absurd (smaller_is_not config events one other first second less)
    by (inr (inl more)) = absurd (smaller_is_not config events other one second first more)
    by (inr (inr same)) = same
