use Rattle.std.proofs.Common.{◌≡◌, ◌∙◌, sym, ap, ap₂, List, length, Option, None, Some, option_map, slice_get}
use Rattle.std.proofs.lemmas.Option.{slice_get-map}
use Rattle.ocpi_types.specs.declared.config.Operator.{Operator}
use Rattle.plain_house.specs.declared.entry.BookEntry.{BookEntry}
use Rattle.house_core.specs.declared.running_call.RunningCall.{RunningCall}
use Rattle.house_core.specs.declared.locks.BookLock.{BookLock}
use Rattle.house_core.specs.Inner.Moves.{collected_call}
use Rattle.house_core.specs.Inner.Shown.{shown_book}
use Rattle.house_core.specs.Locks.{Lock}
use Rattle.house_core.proofs.CollectedLemmas.{call_collects}
use Rattle.house_core.proofs.Placing.{is_less}
use Rattle.house_core.proofs.StepLemmas.{borrowed, none_there}
use Rattle.house_core.proofs.parts.collecting.collect_book.Goals as goal

pub collect_stage-requires : goal.collect_stage-requires
collect_stage-requires c =
    let operator : Operator = c.in-Some.operator.now in
    let lock : BookLock = c.in-Some-get.lock.now in
    let among : List Operator = c.as_slice.result.now in
    let named : slice_get c.args.config.now.operators c.args.number ≡ Some operator =
    ap (λ (l : List Operator). slice_get l c.args.number) (sym c.as_slice.ensures.value)
    ∙ borrowed among c.args.number operator (is_less c.args.number (length among) (sym c.in-Some.ensures.lookup.0)) c.in-Some.ensures.lookup.1 in
    let here : slice_get c.args.locks.now c.args.number ≡ Some lock =
    borrowed c.args.locks.now c.args.number lock (is_less c.args.number (length c.args.locks.now) (sym c.in-Some-get.ensures.lookup.0)) c.in-Some-get.ensures.lookup.1 in
    let free : lock.holder ≡ None = none_there lock.holder (sym c.is_some.ensures ∙ c.if-is_some.false) in
    record {
      fits = c.requires.fits operator (shown_book lock) named (slice_get-map shown_book c.args.locks.now c.args.number ∙ ap (option_map shown_book) here) free;
    }

pub returns : goal.returns
returns c =
    let call : RunningCall = c.args.call.now in
    let operator : Operator = c.in-Some.operator.now in
    let lock : BookLock = c.in-Some-get.lock.now in
    let among : List Operator = c.as_slice.result.now in
    let named : slice_get c.args.config.now.operators c.args.number ≡ Some operator =
    ap (λ (l : List Operator). slice_get l c.args.number) (sym c.as_slice.ensures.value)
    ∙ borrowed among c.args.number operator (is_less c.args.number (length among) (sym c.in-Some.ensures.lookup.0)) c.in-Some.ensures.lookup.1 in
    let here : slice_get c.args.locks.now c.args.number ≡ Some lock =
    borrowed c.args.locks.now c.args.number lock (is_less c.args.number (length c.args.locks.now) (sym c.in-Some-get.ensures.lookup.0)) c.in-Some-get.ensures.lookup.1 in
    let free : lock.holder ≡ None = none_there lock.holder (sym c.is_some.ensures ∙ c.if-is_some.false) in
    ap (λ s. record call { stage = s }) c.collect_stage.ensures
    ∙ call_collects c.args.config.now c.args.number operator (shown_book lock) call free
    ∙ ap₂ (λ (o : Option Operator) (l : Option (Lock BookEntry)). collected_call c.args.config.now c.args.number o l call) (sym named)
    (sym (slice_get-map shown_book c.args.locks.now c.args.number ∙ ap (option_map shown_book) here))
