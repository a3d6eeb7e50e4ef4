-- By what open holds are found.
use Rattle.std.specs.Prelude.{◌≡◌, Bool, true, ◌&&◌, [], ◌∷◌}
use Rattle.ocpi_json.specs.Folded.{folded, same_folded}
use Rattle.ocpi_json.specs.Inner.Cells.{padded}
use Rattle.ocpi_types.specs.Party.{same_party}
use Rattle.provider_account.specs.declared.holds.HoldKey.{HoldKey}
use Rattle.provider_account.specs.Inner.HashInput.{both_same, folded_same}

-- the same hold
abbrev pub same_hold : HoldKey → HoldKey → Bool
same_hold a b = same_party a.operator b.operator && (same_party a.provider b.provider && same_folded a.reference b.reference)

pub hashed_alike : (a b : HoldKey) → same_hold a b ≡ true → (padded 36 (folded a.reference) ∷ []) ≡ (padded 36 (folded b.reference) ∷ [])
hashed_alike a b h =
    let parts = both_same (same_party a.operator b.operator) (same_party a.provider b.provider && same_folded a.reference b.reference) h in
    let reference = both_same (same_party a.provider b.provider) (same_folded a.reference b.reference) parts.1 in
    λ i. padded 36 (folded_same a.reference b.reference reference.1 i) ∷ []
