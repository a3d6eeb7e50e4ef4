-- Books and accounts of which one has changed.
use Rattle.std.proofs.Common.{◌≡◌, ◌<◌, ℕ, List, [], ◌++◌, sym, ap, ◌∙◌, length, map, slice_get, slice_set, get_or, Some, option_map, subst, unwrap_or}
use Rattle.std.proofs.Math.Seq.{map-set_same}
use Rattle.std.proofs.lemmas.List.{get_or-set_same, length-set, map-set}
use Rattle.std.proofs.lemmas.Option.{get_or_from_slice_get, slice_get-get_or, slice_get-map, slice_get_within}

-- what an index borrows
pub borrowed : {X : Type 0} (items : List X) (number : ℕ) (old : X) → number < length items → old ≡ get_or items number old → slice_get items number ≡ Some old
borrowed items number old within value = slice_get-get_or items number old within ∙ ap (λ x. Some x) (sym value)

module _ {X Y : Type 0} (f : X → List Y) (items : List X) (number : ℕ) (old now : X) (found : slice_get items number ≡ Some old) where
  -- one that is seen as before changes nothing
  pub seen_as_before : f now ≡ f old → map f (slice_set items number now) ≡ map f items
  seen_as_before same = map-set_same f items number now old (same ∙ ap f (sym (get_or_from_slice_get items number old old found)))

  -- what stands at the number then
  pub stands_there : (x : X) → slice_get (slice_set items number now) number ≡ Some x → now ≡ x
  stands_there x h =
      let within : number < length items = slice_get_within items number old found in
      let still : number < length (slice_set items number now) = subst (λ n. number < n) (sym (length-set items number now)) within in
      let there : slice_get (slice_set items number now) number ≡ Some (get_or (slice_set items number now) number now) =
      slice_get-get_or (slice_set items number now) number now still in
      let is_now : get_or (slice_set items number now) number now ≡ now = get_or-set_same items number now now within in
      cc (h, there, is_now)

  -- one more behind the list of one of them
  pub longer : (added : List Y) → f now ≡ f old ++ added
      → map f (slice_set items number now) ≡ slice_set (map f items) number (unwrap_or (slice_get (map f items) number) [] ++ added)
  longer added more =
      map-set f items number now
      ∙ ap (slice_set (map f items) number) (more ∙ ap (λ found. unwrap_or found [] ++ added) (sym at_number))
    where
      at_number : slice_get (map f items) number ≡ Some (f old)
      at_number = slice_get-map f items number ∙ ap (option_map f) found
