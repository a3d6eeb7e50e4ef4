-- Each test of the same content decides equality, but for the case of letters.
use Rattle.std.proofs.Common.{◌≡◌, ℕ, Bool, List, [], ◌∷◌, Option, Some, None, refl, ap}
use Rattle.std.specs.Prelude.{map, option_map}
use Rattle.std.specs.Bool.{Decides}
use Rattle.std.specs.Option.{option_eq}
use Rattle.std.specs.Str.{bytes_eq}
use Rattle.std.specs.Cmp.Lexicographic.{pointwise, pointwise_decides, bytes_decides}
use Rattle.std.proofs.lemmas.Bool.Decides.{Decides-int_eq}
use Rattle.std.proofs.lemmas.Slice.Eq.{bytes_eq-Decides}
use Rattle.ocpi_json.specs.Folded.{folded, same_folded}
use Rattle.ocpi_types.specs.CdrToken.{same_method}
use Rattle.ocpi_types.specs.Dimension.{same_dimension_kind}
use Rattle.ocpi_types.specs.Inner.SameCdr.{same_cdr_token, same_dimension, same_period, same_cdr}
use Rattle.ocpi_types.specs.SameCdr.{AreEqualFolded, folded_cdr_token, folded_period}
use Rattle.ocpi_types.specs.SameTariff.{same_tariff, folded_tariff}
use Rattle.ocpi_types.specs.TokenKind.{same_token_kind}
use Rattle.ocpi_types.specs.declared.cdr.Cdr.{Cdr}
use Rattle.ocpi_types.specs.declared.cdr_token.AuthMethod.{AuthMethod}
use Rattle.ocpi_types.specs.declared.cdr_token.AuthMethod.TheVariants.{AuthRequest, Command, Whitelist}
use Rattle.ocpi_types.specs.declared.cdr_token.CdrToken.{CdrToken}
use Rattle.ocpi_types.specs.declared.charging_period.ChargingPeriod.{ChargingPeriod}
use Rattle.ocpi_types.specs.declared.dimension.Dimension.{Dimension}
use Rattle.ocpi_types.specs.declared.dimension.DimensionKind.{DimensionKind}
use Rattle.ocpi_types.specs.declared.dimension.DimensionKind.TheVariants.{Energy, ParkingTime, ReservationTime, Time, Other as Named}
use Rattle.ocpi_types.specs.declared.token.TokenKind.{TokenKind}
use Rattle.ocpi_types.specs.declared.token.TokenKind.TheVariants.{AdHocUser, AppUser, Other, Rfid}
use Rattle.ocpi_types.proofs.SameTariffs.{both, decides, instants, parties, tariffs}

-- ---- tests of parts

lists : {K L : Type 0} (E : K → K → Bool) (fold : K → L) → ((x y : K) → Decides (E x y) (fold x ≡ fold y)) → (xs ys : List K) → Decides (pointwise E xs ys) (map fold xs ≡ map fold ys)
lists E fold d [] [] = (λ _. refl, λ _. refl)
lists E fold d [] (y ∷ ys) = (λ h. cc, λ e. cc)
lists E fold d (x ∷ xs) [] = (λ h. cc, λ e. cc)
lists E fold d (x ∷ xs) (y ∷ ys) =
    decides _ (both _ _ (d x y) (lists E fold d xs ys)) (λ p i. p.0 i ∷ p.1 i) (λ e. (cc, cc))

members : {K L : Type 0} (E : K → K → Bool) (fold : K → L) → ((x y : K) → Decides (E x y) (fold x ≡ fold y)) → (p q : Option K) → Decides (option_eq E p q) (option_map fold p ≡ option_map fold q)
members E fold d None None = (λ _. refl, λ _. refl)
members E fold d None (Some y) = (λ h. cc, λ e. cc)
members E fold d (Some x) None = (λ h. cc, λ e. cc)
members E fold d (Some x) (Some y) = (λ h. ap Some ((d x y).0 h), λ e. (d x y).1 cc)

texts : (a b : List ℕ) → Decides (same_folded a b) (folded a ≡ folded b)
texts a b = bytes_decides (folded a) (folded b)

texts_if_any : (p q : Option (List ℕ)) → Decides (option_eq same_folded p q) (option_map folded p ≡ option_map folded q)
texts_if_any = members same_folded folded texts

-- ---- parts of a CDR

methods : (a b : AuthMethod) → Decides (same_method a b) (a ≡ b)
methods AuthRequest AuthRequest = (λ _. refl, λ _. refl)
methods Command Command = (λ _. refl, λ _. refl)
methods Whitelist Whitelist = (λ _. refl, λ _. refl)
methods a b = (λ h. cc, λ e. cc)

token_kinds : (a b : TokenKind) → Decides (same_token_kind a b) (a ≡ b)
token_kinds AdHocUser AdHocUser = (λ _. refl, λ _. refl)
token_kinds AppUser AppUser = (λ _. refl, λ _. refl)
token_kinds Other Other = (λ _. refl, λ _. refl)
token_kinds Rfid Rfid = (λ _. refl, λ _. refl)
token_kinds a b = (λ h. cc, λ e. cc)

tokens : (a b : CdrToken) → Decides (same_cdr_token a b) (folded_cdr_token a ≡ folded_cdr_token b)
tokens a b =
    decides (same_cdr_token a b)
    (both _ _ (both _ _ (both _ _ (parties a.provider b.provider) (texts a.uid b.uid)) (token_kinds a.kind b.kind)) (texts a.contract_id b.contract_id))
    (λ p i. record { provider = p.0.0.0 i; uid = p.0.0.1 i; kind = p.0.1 i; contract_id = p.1 i })
    (λ e. (((λ i. (e i).provider, λ i. (e i).uid), λ i. (e i).kind), λ i. (e i).contract_id))

dimension_kinds : (a b : DimensionKind) → Decides (same_dimension_kind a b) (a ≡ b)
dimension_kinds Energy Energy = (λ _. refl, λ _. refl)
dimension_kinds ParkingTime ParkingTime = (λ _. refl, λ _. refl)
dimension_kinds ReservationTime ReservationTime = (λ _. refl, λ _. refl)
dimension_kinds Time Time = (λ _. refl, λ _. refl)
dimension_kinds (Named x) (Named y) = decides (bytes_eq x y) (bytes_eq-Decides x y) (λ e. ap Named e) (λ e. cc)
dimension_kinds a b = (λ h. cc, λ e. cc)

dimensions : (a b : Dimension) → Decides (same_dimension a b) (a ≡ b)
dimensions a b =
    decides (same_dimension a b) (both _ _ (dimension_kinds a.kind b.kind) (Decides-int_eq a.volume b.volume))
    (λ p i. record { kind = p.0 i; volume = p.1 i })
    (λ e. (λ i. (e i).kind, λ i. (e i).volume))

periods : (a b : ChargingPeriod) → Decides (same_period a b) (folded_period a ≡ folded_period b)
unfolding same_period
periods a b =
    decides (same_period a b)
    (both _ _ (both _ _ (instants a.start_date_time b.start_date_time) (pointwise_decides dimensions a.dimensions b.dimensions)) (texts_if_any a.tariff_id b.tariff_id))
    (λ p i. record { start_date_time = p.0.0 i; dimensions = p.0.1 i; tariff_id = p.1 i })
    (λ e. ((λ i. (e i).start_date_time, λ i. (e i).dimensions), λ i. (e i).tariff_id))

pub cdrs : (a b : Cdr) → Decides (same_cdr a b) (AreEqualFolded a b)
unfolding same_cdr
cdrs a b =
    let named = both _ _ (parties a.operator b.operator) (texts a.id b.id) in
    let when = both _ _ (both _ _ named (instants a.start_date_time b.start_date_time)) (instants a.end_date_time b.end_date_time) in
    let by_token = both _ _ (both _ _ when (tokens a.cdr_token b.cdr_token)) (methods a.auth_method b.auth_method) in
    let referred = both _ _ by_token (texts_if_any a.authorization_reference b.authorization_reference) in
    let priced = both _ _ (both _ _ referred (bytes_eq-Decides a.currency b.currency)) (lists same_tariff folded_tariff tariffs a.tariffs b.tariffs) in
    let counted = both _ _ priced (lists same_period folded_period periods a.charging_periods b.charging_periods) in
    let cost = both _ _ counted (Decides-int_eq a.total_cost b.total_cost) in
    let energy = both _ _ cost (Decides-int_eq a.total_energy b.total_energy) in
    let time = both _ _ energy (Decides-int_eq a.total_time b.total_time) in
    let credited = both _ _ time (texts_if_any a.credit b.credit) in
    decides (same_cdr a b) (both _ _ credited (instants a.last_updated b.last_updated))
    (λ p. record {
      operator = p.0.0.0.0.0.0.0.0.0.0.0.0.0.0;
      id = p.0.0.0.0.0.0.0.0.0.0.0.0.0.1;
      start_date_time = p.0.0.0.0.0.0.0.0.0.0.0.0.1;
      end_date_time = p.0.0.0.0.0.0.0.0.0.0.0.1;
      cdr_token = p.0.0.0.0.0.0.0.0.0.0.1;
      auth_method = p.0.0.0.0.0.0.0.0.0.1;
      authorization_reference = p.0.0.0.0.0.0.0.0.1;
      currency = p.0.0.0.0.0.0.0.1;
      tariffs = p.0.0.0.0.0.0.1;
      charging_periods = p.0.0.0.0.0.1;
      total_cost = p.0.0.0.0.1;
      total_energy = p.0.0.0.1;
      total_time = p.0.0.1;
      credit = p.0.1;
      last_updated = p.1;
    })
    (λ e. ((((((((((((((e.operator, e.id), e.start_date_time), e.end_date_time), e.cdr_token), e.auth_method), e.authorization_reference), e.currency), e.tariffs), e.charging_periods), e.total_cost), e.total_energy), e.total_time), e.credit), e.last_updated))
