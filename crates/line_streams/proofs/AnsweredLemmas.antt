-- The lines that were done under request ids, as a list.
use Rattle.std.proofs.Common.{◌≡◌, ◌&&◌, ℕ, List, [], ◌∷◌, ◌++◌, Bool, true, false, cond, refl, ap, ap₂, sym, ◌∙◌, Option, None, Some, map}
use Rattle.std.specs.Prelude.{option_map}
use Rattle.std.specs.Map.{lookup}
use Rattle.std.specs.Str.{bytes_eq}
use Rattle.std.specs.Cmp.Lexicographic.{bytes_decides}
use Rattle.ocpi_json.specs.Folded.{folded, same_folded}
use Rattle.indexmap.specs.IndexMap.{insert_entry}
use Rattle.line_streams.specs.State.{Remembered, RememberedLines, RequestKey, same_key, same_request, shown_answered, shown_entry, shown_key}
use Rattle.line_streams.specs.declared.answered.Answered.{Answered}
use Rattle.line_streams.specs.declared.request_id.IdKey.{IdKey}

abbrev Entries : Type 0
Entries = List (IdKey × Answered)

-- what is found is shown
found_if : (b : Bool) (first : Answered) (rest : Option Answered) (shown : Option Remembered) → option_map shown_answered rest ≡ shown
    → option_map shown_answered (cond b (Some first) rest) ≡ cond b (Some (shown_answered first)) shown
found_if true first rest shown h = refl
found_if false first rest shown h = h

pub found_shown : (key : IdKey) (entries : Entries)
    → option_map shown_answered (lookup (same_key key) entries) ≡ lookup (same_request (shown_key key)) (map shown_entry entries)
found_shown key [] = refl
found_shown key (entry ∷ entries) =
    found_if (same_key key entry.0) entry.1 (lookup (same_key key) entries) (lookup (same_request (shown_key key)) (map shown_entry entries)) (found_shown key entries)

pub some_is_none : (x : Remembered) → Some x ≡ None → ⊥
some_is_none x h = absurd (cc)

-- what is inserted under a new key comes last
inserted_if : (b : Bool) (key : IdKey) (answered : Answered) (entry : IdKey × Answered) (entries inserted : Entries)
    → cond b (Some (shown_answered entry.1)) (lookup (same_request (shown_key key)) (map shown_entry entries)) ≡ None
    → (lookup (same_request (shown_key key)) (map shown_entry entries) ≡ None → map shown_entry inserted ≡ map shown_entry entries ++ (shown_key key, shown_answered answered) ∷ [])
    → map shown_entry (cond b ((entry.0, answered) ∷ entries) (entry ∷ inserted)) ≡ shown_entry entry ∷ (map shown_entry entries ++ (shown_key key, shown_answered answered) ∷ [])
inserted_if true key answered entry entries inserted none later = absurd (some_is_none (shown_answered entry.1) none)
inserted_if false key answered entry entries inserted none later = ap (λ (l : RememberedLines). shown_entry entry ∷ l) (later none)

pub inserted_last : (key : IdKey) (answered : Answered) (entries : Entries) → lookup (same_request (shown_key key)) (map shown_entry entries) ≡ None
    → map shown_entry (insert_entry same_key entries key answered) ≡ map shown_entry entries ++ (shown_key key, shown_answered answered) ∷ []
inserted_last key answered [] none = refl
inserted_last key answered (entry ∷ entries) none =
    inserted_if (same_key key entry.0) key answered entry entries (insert_entry same_key entries key answered) none (inserted_last key answered entries)

-- what is inserted is found under its key
pub same_text : (text : List ℕ) → bytes_eq text text ≡ true
same_text text = (bytes_decides text text).1 refl

pub both_true : (one other : Bool) → one ≡ true → other ≡ true → (one && other) ≡ true
both_true one other a b = ap₂ (λ (x y : Bool). x && y) a b

same_itself : (key : IdKey) → same_key key key ≡ true
same_itself key = both_true (same_folded key.platform key.platform) (bytes_eq key.id.bytes key.id.bytes) (same_text (folded key.platform)) (same_text key.id.bytes)

found_if_inserted : (b : Bool) (key : IdKey) (answered : Answered) (entry : IdKey × Answered) (entries inserted : Entries) → same_key key entry.0 ≡ b
    → lookup (same_key key) inserted ≡ Some answered
    → lookup (same_key key) (cond b ((entry.0, answered) ∷ entries) (entry ∷ inserted)) ≡ Some answered
found_if_inserted true key answered entry entries inserted is later = ap (λ (c : Bool). cond c (Some answered) (lookup (same_key key) entries)) is
found_if_inserted false key answered entry entries inserted is later = ap (λ (c : Bool). cond c (Some entry.1) (lookup (same_key key) inserted)) is ∙ later

pub found_inserted : (key : IdKey) (answered : Answered) (entries : Entries) → lookup (same_key key) (insert_entry same_key entries key answered) ≡ Some answered
found_inserted key answered [] = ap (λ (b : Bool). cond b (Some answered) None) (same_itself key)
found_inserted key answered (entry ∷ entries) =
    found_if_inserted (same_key key entry.0) key answered entry entries (insert_entry same_key entries key answered) refl (found_inserted key answered entries)
