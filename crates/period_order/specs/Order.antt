-- The order of events: where each event's entries stand, which are closes, and how a period is closed.
use Rattle.std.specs.Prelude.{ℕ, ◌==◌, Bool, true, false, List, [], ◌∷◌, ◌++◌, length, count_by, Option, Some, None, Result, Ok, Err, if◌then◌else◌}
use Rattle.ocpi_types.specs.declared.config.Config.{Config}
use Rattle.ocpi_types.specs.declared.refusal.Refusal.{Refusal}
use Rattle.ocpi_types.specs.declared.refusal.Refusal.TheVariants as refusal
use Rattle.ocpi_types.specs.declared.refusal.Store.{Store}
use Rattle.ocpi_types.specs.declared.refusal.Store.TheVariants as store
use Rattle.plain_house.specs.Full.{are_periods_full, first_full, is_order_full}
use Rattle.period_order.specs.declared.order_entry.OrderEntry.{OrderEntry}
use Rattle.period_order.specs.declared.order_entry.OrderEntry.TheVariants as entry

abbrev pub is_close_entry : OrderEntry → Bool
is_close_entry (entry.InBook book) = false
is_close_entry (entry.InAccount account) = false
is_close_entry (entry.InBoth book account) = false
is_close_entry entry.Close = true

-- the event has an entry in a book
abbrev pub names_book : OrderEntry → Bool
names_book (entry.InBook book) = true
names_book (entry.InAccount account) = false
names_book (entry.InBoth book account) = true
names_book entry.Close = false

-- the event has an entry in an account
abbrev pub names_account : OrderEntry → Bool
names_account (entry.InBook book) = false
names_account (entry.InAccount account) = true
names_account (entry.InBoth book account) = true
names_account entry.Close = false

-- the entries, and whether one more finds room without memory
pub record PlainOrder : Type 0 where
  pub entries : List OrderEntry
  pub has_room : Bool

-- the number of events so far
abbrev pub point_of : PlainOrder → ℕ
point_of order = length order.entries

-- the current period: the number of closes so far
abbrev pub current_of : PlainOrder → ℕ
current_of order = count_by is_close_entry order.entries

-- ---- closing a period

-- the point, where no store is full
abbrev pub unless_full : Option Store → ℕ → Result ℕ Refusal
unless_full None point = Ok point
unless_full (Some what) point = Err (refusal.Full what)

-- the point at which a period is closed, or why it cannot be: only the current one can, while there is room in the order, and
-- for one more closed period
abbrev pub cut : Config → ℕ → PlainOrder → Result ℕ Refusal
cut config period order =
    if period == current_of order
    then unless_full (first_full ((store.Order, is_order_full config (point_of order)) ∷ (store.Periods, are_periods_full config (current_of order)) ∷ [])) (point_of order)
    else Err (refusal.NotCurrent (current_of order))

-- the order once a period was to be closed
abbrev pub order_cut : PlainOrder → Result ℕ Refusal → PlainOrder
order_cut order (Ok point) = record { entries = order.entries ++ entry.Close ∷ []; has_room = false }
order_cut order (Err refusal) = order
