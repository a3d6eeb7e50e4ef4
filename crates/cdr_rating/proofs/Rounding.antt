-- Rounding up to a step, rounding an amount, and splitting a volume.
use Rattle.std.proofs.Common.{◌≡◌, ◌∙◌, ℕ, ◌+◌, ◌-◌, ◌*◌, ◌/◌, ◌%◌, ◌<◌, ◌≤◌, ◌⊎◌, inl, inr, List, ◌∷◌, ◌++◌, Bool, true, false, ◌||◌, Option, Some, None, refl, ap, sym, arith}
use Rattle.std.proofs.Math.Nat.{mod-lt, mod-eq_of_lt, mod_self, mul-add-mod_self_right, eq-zero-or-pos, mul-add, mod-add-div'}
use Rattle.std.specs.Prelude.{nat_lt, sum_by, reverse, if◌then◌else◌}
use Rattle.std.specs.Option.{option_or, option_map_or}
use Rattle.std.proofs.lemmas.Bool.Decides.{nat_tests}
use Rattle.std.proofs.lemmas.List.{reverse-append}
use Rattle.std.proofs.lemmas.List.Folds.{find-append}
use Rattle.std.proofs.lemmas.List.Sums.{sum_by-append, sum_by-cons}
use Rattle.cdr_rating.specs.declared.tally.Priced.{Priced}
use Rattle.cdr_rating.specs.Price.{up_to_step, total_volume, cost_of, last_above_zero}
use Rattle.cdr_rating.specs.Law.{UpToStepIsLeast, RoundedIsHalfUp, EnergySplitsAtNoCost, one_priced}

-- ---- steps

step_above : (step volume : ℕ) → 0 < step → up_to_step step volume ≡ (step - volume % step) % step
step_above step volume above = grind (arith, nat_tests)

-- whole steps do not count
without_whole : (step volume x : ℕ) → (volume + x) % step ≡ (volume % step + x) % step
without_whole step volume x =
    let parts : volume + x ≡ volume / step * step + (volume % step + x) = omega (arith, mod-add-div' volume step) in
    ap (λ n. n % step) parts ∙ mul-add-mod_self_right (volume / step) step (volume % step + x)

none_left : (step : ℕ) → 0 < step → (step - 0) % step ≡ 0
none_left step above = let whole : step - 0 ≡ step = omega arith in ap (λ n. n % step) whole ∙ mod_self step

some_left : (step part : ℕ) → 0 < part → part < step → (step - part) % step ≡ step - part
some_left step part more inside = mod-eq_of_lt (omega arith)

fills : (step part : ℕ) → part < step → (part ≡ 0) ⊎ (0 < part) → (part + (step - part) % step) % step ≡ 0
fills step part inside (inl none) = rw (none, none_left step (omega arith)) (mod-eq_of_lt (omega arith))
fills step part inside (inr more) =
    let whole : part + (step - part) ≡ step = omega arith in
    rw (some_left step part more inside, whole) (mod_self step)

fills_least : (step part other : ℕ) → part < step → (part ≡ 0) ⊎ (0 < part) → (step - part ≤ other) ⊎ (other < step - part) → (part + other) % step ≡ 0 → (step - part) % step ≤ other
fills_least step part other inside (inl none) either full = rw (none, none_left step (omega arith)) (omega arith)
fills_least step part other inside (inr more) (inl enough) full = rw (some_left step part more inside) enough
fills_least step part other inside (inr more) (inr few) full =
    let rest : (part + other) % step ≡ part + other = mod-eq_of_lt (omega arith) in
    absurd (omega (arith, rest, full, more))

enough_or_few : (need other : ℕ) → (need - other ≡ 0) ⊎ (0 < need - other) → (need ≤ other) ⊎ (other < need)
enough_or_few need other (inl none) = inl (omega arith)
enough_or_few need other (inr more) = inr (omega arith)

pub up_to_step_least : UpToStepIsLeast
up_to_step_least step volume above =
    let inside = mod-lt volume above in
    let part = eq-zero-or-pos (volume % step) in
    rw (step_above step volume above) (record {
      multiple = without_whole step volume ((step - volume % step) % step) ∙ fills step (volume % step) inside part;
      least = λ other full. fills_least step (volume % step) other inside part
          (enough_or_few (step - volume % step) other (eq-zero-or-pos (step - volume % step - other)))
          (sym (without_whole step volume other) ∙ full);
    })

-- ---- amounts

pub rounded_half_up : RoundedIsHalfUp
rounded_half_up units amount = (λ is. record { not_above = omega arith; below_next = omega arith }, λ half. omega arith)

-- ---- a volume that is split

sum_by-split : (f : Priced → ℕ) (before after : List Priced) (a b c : Priced) → f a + f b ≡ f c → sum_by f (before ++ a ∷ b ∷ after) ≡ sum_by f (before ++ c ∷ after)
sum_by-split f before after a b c same =
    rw (sum_by-append f before (a ∷ b ∷ after), sum_by-append f before (c ∷ after), sum_by-cons f a (b ∷ after), sum_by-cons f b after, sum_by-cons f c after) (omega (arith, same))

last-append : (xs ys : List Priced) → last_above_zero (xs ++ ys) ≡ option_or (last_above_zero ys) (last_above_zero xs)
last-append xs ys = rw (reverse-append xs ys) (find-append (λ p. nat_lt 0 p.volume) (reverse ys) (reverse xs))

above_zero : (first second : ℕ) → nat_lt 0 (first + second) ≡ (nat_lt 0 second || nat_lt 0 first)
above_zero first second = grind (arith, nat_tests)

-- the step's cost by the last volume above 0
abbrev cost_by : ℕ → Option Priced → ℕ
cost_by volume last = option_map_or (λ p. 9 * p.price * up_to_step (1000 * p.step_size) volume) last 0

by_tests : (volume price step_size first second : ℕ) (later earlier : Option Priced) (is_second is_first : Bool) →
    cost_by volume (option_or (option_or later (if is_second then Some (record { price = price; step_size = step_size; volume = second }) else (if is_first then Some (record { price = price; step_size = step_size; volume = first }) else None))) earlier)
    ≡ cost_by volume (option_or (option_or later (if (is_second || is_first) then Some (record { price = price; step_size = step_size; volume = first + second }) else None)) earlier)
by_tests volume price step_size first second (Some last) earlier is_second is_first = refl
by_tests volume price step_size first second None earlier true is_first = refl
by_tests volume price step_size first second None earlier false true = refl
by_tests volume price step_size first second None earlier false false = refl

last-between : (before between after : List Priced) → last_above_zero (before ++ (between ++ after)) ≡ option_or (option_or (last_above_zero after) (last_above_zero between)) (last_above_zero before)
last-between before between after =
    last-append before (between ++ after) ∙ ap (λ last. option_or last (last_above_zero before)) (last-append between after)

step_cost-split : (before after : List Priced) (price step_size first second volume : ℕ) →
    cost_by volume (last_above_zero (before ++ (one_priced price step_size first ++ (one_priced price step_size second ++ after))))
    ≡ cost_by volume (last_above_zero (before ++ (one_priced price step_size (first + second) ++ after)))
step_cost-split before after price step_size first second volume =
    ap (cost_by volume) (last-between before (one_priced price step_size first ++ one_priced price step_size second) after)
    ∙ by_tests volume price step_size first second (last_above_zero after) (last_above_zero before) (nat_lt 0 second) (nat_lt 0 first)
    ∙ ap (λ above. cost_by volume (option_or (option_or (last_above_zero after) (if above then Some (record { price = price; step_size = step_size; volume = first + second }) else None)) (last_above_zero before))) (sym (above_zero first second))
    ∙ ap (cost_by volume) (sym (last-between before (one_priced price step_size (first + second)) after))

pub energy_splits : EnergySplitsAtNoCost
energy_splits before after price step_size first second =
    let a : Priced = record { price = price; step_size = step_size; volume = first } in
    let b : Priced = record { price = price; step_size = step_size; volume = second } in
    let c : Priced = record { price = price; step_size = step_size; volume = first + second } in
    let split = before ++ a ∷ b ∷ after in
    let whole = before ++ c ∷ after in
    let volume = sum_by-split (λ p. p.volume) before after a b c refl in
    let cost = sum_by-split (λ p. 9 * p.price * p.volume) before after a b c (sym (mul-add (9 * price) first second)) in
    ap (λ n. n + cost_by (total_volume split) (last_above_zero split)) cost
    ∙ ap (λ n. cost_of 9 whole + cost_by n (last_above_zero split)) volume
    ∙ ap (λ n. cost_of 9 whole + n) (step_cost-split before after price step_size first second (total_volume whole))

-- ---- seconds

-- millionths of an hour in seconds, with 400 taken out of the fraction
pub seconds_reduced : (millionths : ℕ) → (millionths * 9 + 1_250) / 2_500 ≡ (millionths * 3600 + 500_000) / 1_000_000
seconds_reduced millionths = omega arith
