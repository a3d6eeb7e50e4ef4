-- Net positions with one more obligation.
use Rattle.std.proofs.Common.{◌≡◌, ℕ, ◌+◌, ◌^◌, ◌<◌, ◌≤◌, ℤ, Bool, true, false, ◌&&◌, List, [], ◌∷◌, ◌++◌, map, refl, sym, ap, ◌∙◌, arith}
use Rattle.std.specs.Prelude.{◌+ℤ◌, ◌-ℤ◌, unsigned_abs}
use Rattle.std.specs.List.{All, list_all}
use Rattle.std.proofs.lemmas.Int.{ints}
use Rattle.std.proofs.lemmas.List.{map-append}
use Rattle.std.proofs.lemmas.List.Elements.{All-append, All-cons, All-nil, All-same}
use Rattle.std.proofs.lemmas.List.Folds.{list_all-append}
use Rattle.std.proofs.lemmas.List.Sums.{sum_by-append}
use Rattle.ocpi_types.specs.declared.party.Party.{Party}
use Rattle.netting_positions.specs.declared.obligation.Obligation.{Obligation}
use Rattle.netting_positions.specs.declared.positions.NetPosition.{NetPosition}
use Rattle.netting_positions.specs.Netting.{is_configured, is_payable, is_receivable, net_position, net_positions, payable, position, receivable, size, total_size}
use Rattle.netting_positions.specs.Inner.Rows.{HasRoom, IsNetted, counted, net_with, with_net}
use Rattle.netting_positions.proofs.Sums.{difference_small, sum_of, sum_of-push}

regroup : (r p a b : ℤ) → (r +ℤ a) -ℤ (p +ℤ b) ≡ ((r -ℤ p) +ℤ a) -ℤ b
regroup r p a b = omega (arith, ints)

pub net_position-push : (o : Obligation) (party : Party) (currency : List ℕ) (os : List Obligation)
    → net_position party currency (os ++ o ∷ []) ≡ net_with o (position os currency party)
unfolding net_position receivable payable
net_position-push o party currency os =
    ap (λ z. z -ℤ sum_of (is_payable party currency) (os ++ o ∷ [])) (sum_of-push (is_receivable party currency) os o)
    ∙ ap (λ z. (sum_of (is_receivable party currency) os +ℤ counted (is_receivable party currency) o) -ℤ z) (sum_of-push (is_payable party currency) os o)
    ∙ regroup (sum_of (is_receivable party currency) os) (sum_of (is_payable party currency) os) (counted (is_receivable party currency) o) (counted (is_payable party currency) o)

positions_with : (o : Obligation) (currency : List ℕ) (os : List Obligation) (ps : List Party)
    → map (with_net o) (map (position os currency) ps) ≡ map (position (os ++ o ∷ []) currency) ps
positions_with o currency os [] = refl
positions_with o currency os (p ∷ ps) =
    let at : ℤ → List NetPosition → List NetPosition = λ n rows. record { currency = currency; party = p; net = n } ∷ rows in
    ap (λ n. at n (map (with_net o) (map (position os currency) ps))) (sym (net_position-push o p currency os))
    ∙ ap (λ rows. at (net_position p currency (os ++ o ∷ [])) rows) (positions_with o currency os ps)

pub net_positions-push : (o : Obligation) (ps : List Party) (cs : List (List ℕ)) (os : List Obligation)
    → map (with_net o) (net_positions ps cs os) ≡ net_positions ps cs (os ++ o ∷ [])
net_positions-push o ps [] os = refl
net_positions-push o ps (c ∷ cs) os =
    map-append (with_net o) (map (position os c) ps) (net_positions ps cs os)
    ∙ ap (λ rows. rows ++ map (with_net o) (net_positions ps cs os)) (positions_with o c os ps)
    ∙ ap (λ rows. map (position (os ++ o ∷ []) c) ps ++ rows) (net_positions-push o ps cs os)

-- ---- how large

pub net_position_small : (party : Party) (currency : List ℕ) (os : List Obligation) → unsigned_abs (net_position party currency os) ≤ total_size os
unfolding net_position receivable payable
net_position_small party currency os = difference_small (is_receivable party currency) (is_payable party currency) os

rooms : (o : Obligation) (currency : List ℕ) (os : List Obligation) → total_size os + size o < 2 ^ 63 → (ps : List Party) → All (HasRoom o) (map (position os currency) ps)
rooms o currency os fits [] = All-nil (HasRoom o)
rooms o currency os fits (p ∷ ps) =
    All-cons (HasRoom o) (position os currency p) (map (position os currency) ps) (omega (arith, net_position_small p currency os)) (rooms o currency os fits ps)

pub have_room : (o : Obligation) (ps : List Party) (cs : List (List ℕ)) (os : List Obligation) → total_size os + size o < 2 ^ 63 → All (HasRoom o) (net_positions ps cs os)
have_room o ps [] os fits = All-nil (HasRoom o)
have_room o ps (c ∷ cs) os fits =
    All-append (HasRoom o) (map (position os c) ps) (net_positions ps cs os) (rooms o c os fits ps) (have_room o ps cs os fits)

pub have_room_in : (rows : List NetPosition) (ps : List Party) (cs : List (List ℕ)) (os : List Obligation) (o : Obligation)
    → IsNetted rows ps cs os → total_size os + size o < 2 ^ 63 → All (HasRoom o) rows
have_room_in rows ps cs os o was fits = All-same (HasRoom o) rows (net_positions ps cs os) was.rows_are (have_room o ps cs os fits)

total_size-push : (os : List Obligation) (o : Obligation) → total_size (os ++ o ∷ []) ≡ total_size os + size o
total_size-push os o = omega (arith, sum_by-append size os (o ∷ []))

both : (a b c : Bool) → c ≡ (a && b) → a ≡ true → b ≡ true → c ≡ true
both true true c e p q = e
both true false c e p q = absurd (Prim.cc)
both false b c e p q = absurd (Prim.cc)

alone : (b : Bool) → b ≡ true → (b && true) ≡ true
alone true h = refl
alone false h = h

pub configured-push : (ps : List Party) (cs : List (List ℕ)) (os : List Obligation) (o : Obligation)
    → list_all (is_configured ps cs) os ≡ true → is_configured ps cs o ≡ true → list_all (is_configured ps cs) (os ++ o ∷ []) ≡ true
configured-push ps cs os o all one = both _ _ _ (list_all-append (is_configured ps cs) os (o ∷ [])) all (alone _ one)

-- what the table keeps, with one more obligation
pub netted-push : (rows rows' : List NetPosition) (ps : List Party) (cs : List (List ℕ)) (os : List Obligation) (o : Obligation)
    → IsNetted rows ps cs os → rows' ≡ map (with_net o) rows → is_configured ps cs o ≡ true → total_size os + size o < 2 ^ 63
    → IsNetted rows' ps cs (os ++ o ∷ [])
netted-push rows rows' ps cs os o was e configured fits = record {
  rows_are = e ∙ ap (map (with_net o)) was.rows_are ∙ net_positions-push o ps cs os;
  configured = configured-push ps cs os o was.configured configured;
  fits = omega (arith, total_size-push os o);
}
