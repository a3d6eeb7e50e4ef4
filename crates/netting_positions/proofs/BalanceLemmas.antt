-- In each currency the net positions of all parties add up to 0.
use Rattle.std.proofs.Common.{◌≡◌, ℕ, ℤ, pos, Bool, true, false, cond, not, ◌&&◌, ◌||◌, List, [], ◌∷◌, map, refl, sym, ap, ◌∙◌, arith}
use Rattle.std.specs.Prelude.{◌+ℤ◌, ◌-ℤ◌}
use Rattle.std.specs.List.{list_any}
use Rattle.std.proofs.lemmas.Int.{ints}
use Rattle.std.proofs.Math.IntN.{+ℤ_idl, +ℤ_idr}
use Rattle.ocpi_types.specs.declared.party.Party.{Party}
use Rattle.ocpi_types.specs.Currency.{same_currency}
use Rattle.ocpi_types.specs.Different.{all_different}
use Rattle.ocpi_types.specs.Party.{same_party}
use Rattle.netting_positions.specs.declared.obligation.Obligation.{Obligation}
use Rattle.netting_positions.specs.Laws.{PositionsBalance}
use Rattle.netting_positions.specs.Netting.{are_among, is_among, is_payable, is_receivable, net_position, payable, receivable, total}
use Rattle.netting_positions.specs.Inner.Rows.{counted}
use Rattle.netting_positions.proofs.SameParties.{both_are, same_party_equiv}
use Rattle.netting_positions.proofs.Sums.{sum_of, sum_of-cons}

-- ---- totals over parties

total_agree : (f g : Party → ℤ) → ((p : Party) → f p ≡ g p) → (ps : List Party) → total (map f ps) ≡ total (map g ps)
total_agree f g same [] = refl
total_agree f g same (p ∷ ps) = ap (λ z. z +ℤ total (map f ps)) (same p) ∙ ap (λ z. g p +ℤ z) (total_agree f g same ps)

regroup : (a b s t : ℤ) → (a +ℤ b) +ℤ (s +ℤ t) ≡ (a +ℤ s) +ℤ (b +ℤ t)
regroup a b s t = omega (arith, ints)

total_sum : (f g : Party → ℤ) (ps : List Party) → total (map (λ p. f p +ℤ g p) ps) ≡ total (map f ps) +ℤ total (map g ps)
total_sum f g [] = refl
total_sum f g (p ∷ ps) = ap (λ z. (f p +ℤ g p) +ℤ z) (total_sum f g ps) ∙ regroup (f p) (g p) (total (map f ps)) (total (map g ps))

regroup_difference : (a b s t : ℤ) → (a -ℤ b) +ℤ (s -ℤ t) ≡ (a +ℤ s) -ℤ (b +ℤ t)
regroup_difference a b s t = omega (arith, ints)

total_difference : (f g : Party → ℤ) (ps : List Party) → total (map (λ p. f p -ℤ g p) ps) ≡ total (map f ps) -ℤ total (map g ps)
total_difference f g [] = refl
total_difference f g (p ∷ ps) =
    ap (λ z. (f p -ℤ g p) +ℤ z) (total_difference f g ps) ∙ regroup_difference (f p) (g p) (total (map f ps)) (total (map g ps))

-- ---- a party stands once among parties of which no two are the same

pub not_is : (b : Bool) → not b ≡ true → b ≡ false
not_is true h = absurd (Prim.cc)
not_is false h = refl

pub either_false : (a b : Bool) → (a || b) ≡ false → (a ≡ false) × (b ≡ false)
either_false true b h = absurd (Prim.cc)
either_false false b h = (refl, h)

none_same : (x p : Party) (z : ℤ) (ps : List Party) → same_party p x ≡ true → list_any (same_party p) ps ≡ false
    → total (map (λ q. cond (same_party x q) z (pos 0)) ps) ≡ pos 0
none_same x p z [] h none = refl
none_same x p z (q ∷ ps) h none =
    let parts = either_false (same_party p q) (list_any (same_party p) ps) none in
    ap (λ b. cond b z (pos 0) +ℤ total (map (λ q. cond (same_party x q) z (pos 0)) ps)) (sym (same_party_equiv.congr p x q h) ∙ parts.0)
    ∙ +ℤ_idl _ ∙ none_same x p z ps h parts.1

once : (x : Party) (z : ℤ) (ps : List Party) → all_different same_party ps ≡ true → is_among ps x ≡ true
    → total (map (λ p. cond (same_party x p) z (pos 0)) ps) ≡ z
once x z [] different among = absurd (Prim.cc)
once x z (p ∷ ps) different among =
    let parts = both_are (not (list_any (same_party p) ps)) (all_different same_party ps) different in
    elim (same_party p x) as (λ b. same_party p x ≡ b → (b || is_among ps x) ≡ true → total (map (λ p. cond (same_party x p) z (pos 0)) (p ∷ ps)) ≡ z) [
      | true ↦ λ is _.
          ap (λ b. cond b z (pos 0) +ℤ total (map (λ q. cond (same_party x q) z (pos 0)) ps)) (same_party_equiv.symm x p ∙ is)
          ∙ ap (λ r. z +ℤ r) (none_same x p z ps is (not_is (list_any (same_party p) ps) parts.0)) ∙ +ℤ_idr z
      | false ↦ λ is later.
          ap (λ b. cond b z (pos 0) +ℤ total (map (λ q. cond (same_party x q) z (pos 0)) ps)) (same_party_equiv.symm x p ∙ is)
          ∙ +ℤ_idl _ ∙ once x z ps parts.1 later
    ] refl among

gate : (s b : Bool) (z : ℤ) → cond (s && b) z (pos 0) ≡ cond b (cond s z (pos 0)) (pos 0)
gate true b z = refl
gate false true z = refl
gate false false z = refl

-- what is received of one obligation, and what is paid, by all together
all_receive : (c : List ℕ) (o : Obligation) (ps : List Party) → all_different same_party ps ≡ true → is_among ps o.operator ≡ true
    → total (map (λ p. counted (is_receivable p c) o) ps) ≡ cond (same_currency o.currency c) o.amount (pos 0)
all_receive c o ps different among =
    total_agree (λ p. counted (is_receivable p c) o) (λ p. cond (same_party o.operator p) (cond (same_currency o.currency c) o.amount (pos 0)) (pos 0))
    (λ p. gate (same_currency o.currency c) (same_party o.operator p) o.amount) ps
    ∙ once o.operator (cond (same_currency o.currency c) o.amount (pos 0)) ps different among

all_pay : (c : List ℕ) (o : Obligation) (ps : List Party) → all_different same_party ps ≡ true → is_among ps o.provider ≡ true
    → total (map (λ p. counted (is_payable p c) o) ps) ≡ cond (same_currency o.currency c) o.amount (pos 0)
all_pay c o ps different among =
    total_agree (λ p. counted (is_payable p c) o) (λ p. cond (same_party o.provider p) (cond (same_currency o.currency c) o.amount (pos 0)) (pos 0))
    (λ p. gate (same_currency o.currency c) (same_party o.provider p) o.amount) ps
    ∙ once o.provider (cond (same_currency o.currency c) o.amount (pos 0)) ps different among

-- ---- all obligations

split : (r p a b : ℤ) → (a +ℤ r) -ℤ (b +ℤ p) ≡ (a -ℤ b) +ℤ (r -ℤ p)
split r p a b = omega (arith, ints)

net-cons : (o : Obligation) (p : Party) (c : List ℕ) (os : List Obligation)
    → net_position p c (o ∷ os) ≡ (counted (is_receivable p c) o -ℤ counted (is_payable p c) o) +ℤ net_position p c os
unfolding net_position receivable payable
net-cons o p c os =
    ap (λ z. z -ℤ sum_of (is_payable p c) (o ∷ os)) (sum_of-cons (is_receivable p c) o os)
    ∙ ap (λ z. (counted (is_receivable p c) o +ℤ sum_of (is_receivable p c) os) -ℤ z) (sum_of-cons (is_payable p c) o os)
    ∙ split (sum_of (is_receivable p c) os) (sum_of (is_payable p c) os) (counted (is_receivable p c) o) (counted (is_payable p c) o)

nothing : (c : List ℕ) (ps : List Party) → total (map (λ p. net_position p c []) ps) ≡ pos 0
unfolding net_position receivable payable
nothing c [] = refl
nothing c (p ∷ ps) = +ℤ_idl _ ∙ nothing c ps

cancels : (t r p s z : ℤ) → t ≡ (r -ℤ p) +ℤ s → r ≡ z → p ≡ z → s ≡ pos 0 → t ≡ pos 0
cancels t r p s z e f g h = omega (arith, ints)

pub balance : PositionsBalance
balance ps [] c different among = nothing c ps
balance ps (o ∷ os) c different among =
    let parts = both_are (is_among ps o.operator && is_among ps o.provider) (are_among ps os) among in
    let ends = both_are (is_among ps o.operator) (is_among ps o.provider) parts.0 in
    let received = λ (p : Party). counted (is_receivable p c) o in
    let paid = λ (p : Party). counted (is_payable p c) o in
    cancels (total (map (λ p. net_position p c (o ∷ os)) ps)) (total (map received ps)) (total (map paid ps)) (total (map (λ p. net_position p c os) ps))
    (cond (same_currency o.currency c) o.amount (pos 0))
    (total_agree (λ p. net_position p c (o ∷ os)) (λ p. (received p -ℤ paid p) +ℤ net_position p c os) (λ p. net-cons o p c os) ps
    ∙ total_sum (λ p. received p -ℤ paid p) (λ p. net_position p c os) ps
    ∙ ap (λ z. z +ℤ total (map (λ p. net_position p c os) ps)) (total_difference received paid ps))
    (all_receive c o ps different ends.0) (all_pay c o ps different ends.1) (balance ps os c different parts.1)
