-- The same party, in another spelling.
use Rattle.std.proofs.Common.{◌≡◌, Bool, true, false, ◌&&◌, refl, ap₂, ◌∙◌}
use Rattle.std.proofs.lemmas.Cmp.{nat_list_eq_equiv}
use Rattle.ocpi_json.specs.Folded.{folded, same_folded}
use Rattle.ocpi_types.specs.declared.party.Party.{Party}
use Rattle.ocpi_types.specs.Party.{same_party}

pub both_are : (a b : Bool) → (a && b) ≡ true → (a ≡ true) × (b ≡ true)
both_are true b h = (refl, h)
both_are false b h = absurd (cc)

pub party_itself : (a : Party) → same_party a a ≡ true
party_itself a = ap₂ ◌&&◌ (nat_list_eq_equiv.refl (folded a.country_code)) (nat_list_eq_equiv.refl (folded a.party_id))

pub party_symmetric : (a b : Party) → same_party a b ≡ same_party b a
party_symmetric a b =
    ap₂ ◌&&◌ (nat_list_eq_equiv.symm (folded a.country_code) (folded b.country_code))
    (nat_list_eq_equiv.symm (folded a.party_id) (folded b.party_id))

-- what is the same as the one is the same as the other
pub party_along : (p a b : Party) → same_party a b ≡ true → same_party p a ≡ same_party p b
party_along p a b h =
    let parts = both_are (same_folded a.country_code b.country_code) (same_folded a.party_id b.party_id) h in
    party_symmetric p a
    ∙ ap₂ ◌&&◌ (nat_list_eq_equiv.congr (folded a.country_code) (folded b.country_code) (folded p.country_code) parts.0)
    (nat_list_eq_equiv.congr (folded a.party_id) (folded b.party_id) (folded p.party_id) parts.1)
    ∙ party_symmetric b p
