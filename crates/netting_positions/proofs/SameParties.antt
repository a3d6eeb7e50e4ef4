-- The same party and the same currency: what holds of one holds of the other.
use Rattle.std.proofs.Common.{◌≡◌, ℕ, List, Bool, true, false, ◌&&◌, refl, sym, ◌∙◌}
use Rattle.std.specs.Cmp.{IsEquivalence}
use Rattle.std.specs.Cmp.Lexicographic.{same_text}
use Rattle.std.proofs.lemmas.Cmp.{on_equiv, and_equiv, nat_list_eq_equiv}
use Rattle.ocpi_json.specs.Folded.{folded}
use Rattle.ocpi_types.specs.declared.party.Party.{Party}
use Rattle.ocpi_types.specs.Currency.{same_currency}
use Rattle.ocpi_types.specs.Party.{same_party}

pub same_party_equiv : IsEquivalence same_party
same_party_equiv =
    and_equiv (on_equiv (λ (party : Party). party.country_code) (on_equiv folded nat_list_eq_equiv)) (on_equiv (λ (party : Party). party.party_id) (on_equiv folded nat_list_eq_equiv))

pub both_are : (a b : Bool) → (a && b) ≡ true → (a ≡ true) × (b ≡ true)
both_are true b h = (refl, h)
both_are false b h = absurd (Prim.cc)

-- compared with the same party, a third is the same or is not
pub same_as : (x a b : Party) → same_party a b ≡ true → same_party x a ≡ same_party x b
same_as x a b h = same_party_equiv.symm x a ∙ same_party_equiv.congr a b x h ∙ same_party_equiv.symm b x

pub currency_is : (a b : List ℕ) → same_currency a b ≡ true → a ≡ b
currency_is a b h = same_text a b (sym h)
